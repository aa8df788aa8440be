-- What a device does that acts in pieces is a history of pieces that explains its log.
use Rattle.std.proofs.Common.{◌≡◌, ◌∙◌, ℕ, zero, suc, ◌+◌, ◌<◌, ◌≤◌, ◌++◌, ◌∷◌, [], List, Some, Bool, true, false, length, take, map, replicate, refl, sym, ap, subst, inl, inr, arith, ⊎_elim, length-append}
use Rattle.std.specs.Prelude.{slice_get, ◌⊎◌}
use Rattle.std.specs.List.{list_any}
use Rattle.std.proofs.lemmas.Bool.{cases_lt, eq-eqb, eqb-true}
use Rattle.std.proofs.lemmas.Bool.Decides.{nat_tests}
use Rattle.std.proofs.lemmas.List.{append_assoc, append-nil, length_push}
use Rattle.std.proofs.lemmas.Option.{same_Some}
use Rattle.tlp_core.specs.Ops.{Op}
use Rattle.tlp_core.specs.Operation.{is_posted}
use Rattle.seq_memory.specs.Entries.{Entry}
use Rattle.seq_memory.specs.Entries.{Reply}
use Rattle.seq_memory.specs.Limits.{Extent}
use Rattle.seq_memory.specs.Step.{after, answer}
use Rattle.seq_memory.specs.History.{contents, contents_at}
use Rattle.history_words.specs.Records.{Record}
use Rattle.history_words.specs.declared.record.RecordOf.TheVariants as records
use Rattle.history_words.specs.Claim.{Claim}
use Rattle.history_words.specs.Trace.{submissions, is_request, answers_to, stands, IsNumbered, IsLawful, IsExplained}
use Rattle.log_runs.specs.Explainable.{AreSeenAs, IsExplainable}
use Rattle.op_pieces.specs.Pieces.{parts}
use Rattle.log_pieces.specs.InPieces.{width, numbered, subs, answers, answers_by, next_number, split, split_all}
use Rattle.log_piece_laws.specs.Device.{Acted, Device, Step, new_device, is_piece, has_acted, MayAct, MayAnswer, together, next, Leads}
use Rattle.log_piece_laws.proofs.Lists.{concat, stands_or_past}
use Rattle.log_piece_laws.proofs.Places.{get_before, get_within, get_push, get_seam, take_before, take_all, take_push, in_list, found, none_push, any_append, any_push, test}
use Rattle.log_piece_laws.proofs.Growing.{Kept, submitted, entered, answered, made_push, reply_there, there_before}
use Rattle.log_piece_laws.proofs.Numbers.{first, placed, located, past, one_piece, first_stays, all_subs, seen_subs, seen_append, subs_seen, answers_seen}
use Rattle.log_piece_laws.proofs.Twice.{split_append, numbered_at, own}
use Rattle.log_piece_laws.proofs.Replies.{AreReplies}

abbrev pub claim : Extent → List Record → List Entry → Claim
claim x rs h = record { memory = record { base = x.base; size = x.size; block = x.block; entries = h }; records = rs }

-- ---- laws of others

abbrev pub Named : Type 0
Named = (rs : List Record) (i k : ℕ) (op : Op) → IsNumbered rs → slice_get (submissions rs i) k ≡ Some op → (b : ℕ) × (n : ℕ) × (slice_get rs b ≡ Some (records.Sub i k op n))

pub record Grows : Type 0 where
  pub none : (x : Extent) → contents x [] ≡ replicate x.size 0
  pub next : (x : Extent) (es : List Entry) (e : Entry) → contents x (es ++ e ∷ []) ≡ after x.base x.block (contents x es) e.op
  pub size : (x : Extent) (es : List Entry) → length (contents x es) ≡ x.size

-- what is asked of the pieces of requests
pub record Parts (x : Extent) (p : Op → List Op) : Type 0 where
  pub posted : (op piece : Op) (j : ℕ) → slice_get (p op) j ≡ Some piece → is_posted piece ≡ is_posted op
  pub replied : (op : Op) (rs : List Reply) → is_posted op ≡ false → length rs ≡ length (p op) → AreReplies x (p op) rs → parts (p op) (together rs) ≡ rs

-- ---- tests

some_of : {X : Type 0} → (xs : List X) (j : ℕ) → j < length xs → (y : X) × (slice_get xs j ≡ Some y)
some_of [] j l = absurd (omega (arith, l))
some_of (y ∷ xs) zero l = (y, refl)
some_of (y ∷ xs) (suc j) l = some_of xs j (omega (arith, l))

same_piece : (i k j : ℕ) (a : Acted) → is_piece i k j a ≡ true → (i ≡ a.requester) × (k ≡ a.number) × (j ≡ a.index)
same_piece i k j a h = (grind (arith, nat_tests), grind (arith, nat_tests), grind (arith, nat_tests))

piece_same : (i k j : ℕ) (a : Acted) → i ≡ a.requester → k ≡ a.number → j ≡ a.index → is_piece i k j a ≡ true
piece_same i k j a p q r = rw (p, q, r, eq-eqb a.requester a.requester refl, eq-eqb a.number a.number refl, eq-eqb a.index a.index refl) refl

is_same : (i k : ℕ) (e : Entry) → i ≡ e.requester → k ≡ e.number → is_request i k e ≡ true
is_same i k e a b = rw (a, b, eq-eqb e.requester e.requester refl, eq-eqb e.number e.number refl) refl

same_request : (i k : ℕ) (e : Entry) → is_request i k e ≡ true → (i ≡ e.requester) × (k ≡ e.number)
same_request i k e h = grind (arith, eqb-true)

answers_same : (i k a m n : ℕ) (r : Reply) → answers_to i k (records.Ans a m r n) ≡ true → (i ≡ a) × (k ≡ m)
answers_same i k a m n r h = grind (arith, eqb-true)

is_answer : (i k n : ℕ) (r : Reply) → answers_to i k (records.Ans i k r n) ≡ true
is_answer i k n r = rw (eq-eqb i i refl, eq-eqb k k refl) refl

none_of : {X : Type 0} → (t : X → Bool) (xs : List X) → ((a : ℕ) (x : X) → slice_get xs a ≡ Some x → t x ≡ true → ⊥) → list_any t xs ≡ false
none_of t xs refuted = ⊎_elim
    (λ (sure : list_any t xs ≡ true). let r = found t xs sure in absurd (refuted r.0 r.1 r.2 r.3))
    (λ (none : list_any t xs ≡ false). none)
    (test (list_any t xs))

-- ---- a device, and the history and the log in pieces that it has made

module _ (x : Extent) (p : Op → List Op) (named : Named) (grows : Grows) (law : Parts x p) where
  -- a piece that acted is an entry, under its number
  record IsEntry (rs : List Record) (h : List Entry) (q : ℕ) (a : Acted) : Type 0 where
    whole : Op
    asked : slice_get (submissions rs a.requester) a.number ≡ Some whole
    piece : slice_get (p whole) a.index ≡ Some a.op
    at : slice_get h q ≡ Some (record { requester = a.requester; number = first p (submissions rs a.requester) a.number + a.index; op = a.op })
    replied : answer x.base x.block (contents_at x h q) a.op ≡ a.reply

  -- an answer in pieces is one of a request that was answered
  record IsOfAnswer (rs : List Record) (i m : ℕ) : Type 0 where
    number : ℕ
    index : ℕ
    op : Op
    asked : slice_get (submissions rs i) number ≡ Some op
    short : index < length (p op)
    is : m ≡ first p (submissions rs i) number + index
    there : list_any (answers_to i number) rs ≡ true

  record Fits (d : Device) (u : List Record) (h : List Entry) : Type 0 where
    kept : Kept (claim x u h)
    counted : IsNumbered d.log
    seen : AreSeenAs (split_all p [] d.log) u
    bytes : contents x h ≡ d.bytes
    many : length h ≡ length d.acts
    acts : (q : ℕ) (a : Acted) → slice_get d.acts q ≡ Some a → IsEntry d.log h q a
    answers_are : (b i m n : ℕ) (r : Reply) → slice_get u b ≡ Some (records.Ans i m r n) → IsOfAnswer d.log i m

  record Made (d : Device) : Type 0 where
    u : List Record
    h : List Entry
    fits : Fits d u h

  submissions_are : (d : Device) (u : List Record) (h : List Entry) → Fits d u h → (i : ℕ) → submissions u i ≡ concat (map p (submissions d.log i))
  submissions_are d u h f i = sym (seen_subs (split_all p [] d.log) u i f.seen) ∙ all_subs p [] d.log i

  width_is : (ops : List Op) → length (concat (map p ops)) ≡ width p ops
  width_is [] = refl
  width_is (op ∷ ops) = length-append (p op) (concat (map p ops)) ∙ ap (λ n. length (p op) + n) (width_is ops)

  -- ---- a new device

  made_none : Made (new_device x)
  made_none = record {
    u = [];
    h = [];
    fits = record {
      kept = record {
        explains = record { numbered = λ a i k n op at. absurd (cc at); legal = λ q e at. absurd (cc at); linear = λ a i k n reply at. absurd (cc at) };
        clocked = record { rises = λ a b r s less at to. absurd (cc at); bounded = λ a r at. absurd (cc at); after_submission = λ q b n e op at to. absurd (cc at) };
      };
      counted = λ a i k n op at. absurd (cc at);
      seen = tt;
      bytes = grows.none x;
      many = refl;
      acts = λ q a at. absurd (cc at);
      answers_are = λ b i m n r at. absurd (cc at);
    };
  }

  -- ---- a request is submitted

  -- no entry has a number that wasn't given
  none_beyond : (u : List Record) (h : List Entry) → Kept (claim x u h) → (i k : ℕ) → length (submissions u i) ≤ k → stands h i k ≡ false
  none_beyond u h kept i k beyond = none_of (is_request i k) h (λ q e at is.
      let same = same_request i k e is in
      let law = kept.explains.legal q e at in
      let inside = get_within (submissions u e.requester) e.number e.op law.submitted in
      let here : length (submissions u i) ≡ length (submissions u e.requester) = ap (λ v. length (submissions u v)) same.0 in
      let number = same.1 in
      absurd (omega (arith, inside, here, number, beyond)))

  many_submitted : (i k : ℕ) (ops : List Op) (u : List Record) (h : List Entry) → Kept (claim x u h) → k ≡ length (submissions u i) → Kept (claim x (u ++ subs i k (length h) ops) h)
  many_submitted i k [] u h kept is = subst (λ (v : List Record). Kept (claim x v h)) (sym (append-nil u)) kept
  many_submitted i k (op ∷ ops) u h kept is =
      let r = records.Sub i k op (length h) in
      let one : Kept (claim x (u ++ r ∷ []) h) = submitted (claim x u h) i k (length h) op kept is refl (none_beyond u h kept i k (omega (arith, is))) in
      let grown : length (submissions (u ++ r ∷ []) i) ≡ length (submissions u i) + 1 =
      ap length (made_push u r i ∙ ap (λ (os : List Op). submissions u i ++ os) (own i k (length h) op)) ∙ length_push (submissions u i) op in
      let more : suc k ≡ length (submissions (u ++ r ∷ []) i) = omega (arith, is, grown) in
      subst (λ (v : List Record). Kept (claim x v h)) (append_assoc u (r ∷ []) (subs i (suc k) (length h) ops)) (many_submitted i (suc k) ops (u ++ r ∷ []) h one more)

  -- more submissions leave the numbers as they are
  more_asked : (rs : List Record) (r : Record) (i k : ℕ) (op : Op) → slice_get (submissions rs i) k ≡ Some op → slice_get (submissions (rs ++ r ∷ []) i) k ≡ Some op
  more_asked rs r i k op at = ap (λ (xs : List Op). slice_get xs k) (made_push rs r i) ∙ get_before (submissions rs i) (submissions (r ∷ []) i) k op at

  more_first : (rs : List Record) (r : Record) (i k : ℕ) (op : Op) → slice_get (submissions rs i) k ≡ Some op → first p (submissions (rs ++ r ∷ []) i) k ≡ first p (submissions rs i) k
  more_first rs r i k op at =
      let inside = get_within (submissions rs i) k op at in
      ap (λ (xs : List Op). first p xs k) (made_push rs r i) ∙ first_stays p (submissions rs i) (submissions (r ∷ []) i) k (omega (arith, inside))

  more_entry : (rs : List Record) (r : Record) (h : List Entry) (q : ℕ) (a : Acted) → IsEntry rs h q a → IsEntry (rs ++ r ∷ []) h q a
  more_entry rs r h q a e = record {
    whole = e.whole;
    asked = more_asked rs r a.requester a.number e.whole e.asked;
    piece = e.piece;
    at = e.at ∙ ap (λ n. Some (record { requester = a.requester; number = n + a.index; op = a.op })) (sym (more_first rs r a.requester a.number e.whole e.asked));
    replied = e.replied;
  }

  more_answer : (rs : List Record) (r : Record) (i m : ℕ) → IsOfAnswer rs i m → IsOfAnswer (rs ++ r ∷ []) i m
  more_answer rs r i m e = record {
    number = e.number;
    index = e.index;
    op = e.op;
    asked = more_asked rs r i e.number e.op e.asked;
    short = e.short;
    is = e.is ∙ ap (λ n. n + e.index) (sym (more_first rs r i e.number e.op e.asked));
    there = any_append (answers_to i e.number) rs (r ∷ []) e.there;
  }

  no_answer : (i k n b j m o : ℕ) (ops : List Op) (r : Reply) → slice_get (subs i k n ops) b ≡ Some (records.Ans j m r o) → ⊥
  no_answer i k n b j m o [] r e = cc e
  no_answer i k n zero j m o (op ∷ ops) r e = cc e
  no_answer i k n (suc b) j m o (op ∷ ops) r e = no_answer i (suc k) n b j m o ops r e

  -- an element of two lists is one of either
  apart : {X : Type 0} → (xs ys : List X) (b : ℕ) (y : X) → slice_get (xs ++ ys) b ≡ Some y → (slice_get xs b ≡ Some y) ⊎ ((c : ℕ) × (slice_get ys c ≡ Some y))
  apart [] ys b y e = inr (b, e)
  apart (z ∷ xs) ys zero y e = inl e
  apart (z ∷ xs) ys (suc b) y e = apart xs ys b y e

  numbered_more : (rs : List Record) (i : ℕ) (op : Op) → IsNumbered rs → IsNumbered (rs ++ records.Sub i (length (submissions rs i)) op 0 ∷ [])
  numbered_more rs i op num a j m q z e =
      let r : Record = records.Sub i (length (submissions rs i)) op 0 in
      ⊎_elim
      (λ (g : (a < length rs) × (slice_get rs a ≡ Some (records.Sub j m z q))).
      let l : a < length rs = g.0 in
      num a j m q z g.1 ∙ ap (λ (y : List Record). length (submissions y j)) (sym (take_before rs (r ∷ []) a (omega (arith, l)))))
      (λ (g : (a ≡ length rs) × (r ≡ records.Sub j m z q)).
      let l : a ≡ length rs = g.0 in
      let same : ◌≡◌ {A = Record} (records.Sub i (length (submissions rs i)) op 0) (records.Sub j m z q) = g.1 in
      let who : i ≡ j = cc in
      let number : length (submissions rs i) ≡ m = cc in
      sym number ∙ ap (λ v. length (submissions rs v)) who ∙ ap (λ (y : List Record). length (submissions y j)) (sym (take_push rs r a l)))
      (get_push rs r a (records.Sub j m z q) e)

  made_submit : (d : Device) (i : ℕ) (op : Op) → Made d → Made (next x d (Step.Submit i op))
  made_submit d i op m =
      let f = m.fits in
      let ops = submissions d.log i in
      let r = records.Sub i (length ops) op 0 in
      let k = width p ops in
      let number : k ≡ length (submissions m.u i) = sym (ap length (submissions_are d m.u m.h f i) ∙ width_is ops) in
      let cut : split p d.log r ≡ subs i k 0 (p op) = ap (λ c. subs i (next_number c k) 0 (p op)) (eq-eqb (length ops) (length ops) refl) in
      record {
        u = m.u ++ subs i k (length m.h) (p op);
        h = m.h;
        fits = record {
          kept = many_submitted i k (p op) m.u m.h f.kept number;
          counted = numbered_more d.log i op f.counted;
          seen = subst (λ (rs : List Record). AreSeenAs rs (m.u ++ subs i k (length m.h) (p op))) (sym (split_append p [] d.log (r ∷ []) ∙ ap (λ rs. split_all p [] d.log ++ rs) (append-nil (split p d.log r) ∙ cut)))
              (seen_append (split_all p [] d.log) m.u (subs i k 0 (p op)) (subs i k (length m.h) (p op)) f.seen (subs_seen i k 0 (length m.h) (p op)));
          bytes = f.bytes;
          many = f.many;
          acts = λ q a at. more_entry d.log r m.h q a (f.acts q a at);
          answers_are = λ b j n o reply at. ⊎_elim
              (λ (e : slice_get m.u b ≡ Some (records.Ans j n reply o)). more_answer d.log r j n (f.answers_are b j n o reply e))
              (λ (e : (c : ℕ) × (slice_get (subs i k (length m.h) (p op)) c ≡ Some (records.Ans j n reply o))). absurd (no_answer i k (length m.h) e.0 j n o (p op) reply e.1))
              (apart m.u (subs i k (length m.h) (p op)) b (records.Ans j n reply o) at);
        };
      }

  -- ---- a piece acts

  -- what has acted stands in the history
  acted_stands : (d : Device) (u : List Record) (h : List Entry) → Fits d u h → (i k j : ℕ) → has_acted d i k j ≡ true → stands h i (first p (submissions d.log i) k + j) ≡ true
  acted_stands d u h f i k j sure =
      let (q, a, at, is) = found (is_piece i k j) d.acts sure in
      let same = same_piece i k j a is in
      let e = f.acts q a at in
      let number : first p (submissions d.log i) k + j ≡ first p (submissions d.log a.requester) a.number + a.index =
      ap (λ v. first p (submissions d.log v) k + j) same.0 ∙ ap (λ v. first p (submissions d.log a.requester) v + j) same.1 ∙ ap (λ v. first p (submissions d.log a.requester) a.number + v) same.2 in
      let y : Entry = record { requester = a.requester; number = first p (submissions d.log a.requester) a.number + a.index; op = a.op } in
      in_list (is_request i (first p (submissions d.log i) k + j)) h q y e.at (is_same i (first p (submissions d.log i) k + j) y same.0 number)

  -- what stands in the history has acted
  stands_acted : (d : Device) (u : List Record) (h : List Entry) → Fits d u h → (i k j : ℕ) (op : Op) → slice_get (submissions d.log i) k ≡ Some op → j < length (p op)
      → stands h i (first p (submissions d.log i) k + j) ≡ true → has_acted d i k j ≡ true
  stands_acted d u h f i k j op has short sure =
      let (q, e, at, is) = found (is_request i (first p (submissions d.log i) k + j)) h sure in
      let inside = get_within h q e at in
      let (a, there) = some_of d.acts q (omega (arith, inside, f.many)) in
      let entry = f.acts q a there in
      let same = same_request i (first p (submissions d.log i) k + j) e is in
      let eq : e ≡ record { requester = a.requester; number = first p (submissions d.log a.requester) a.number + a.index; op = a.op } =
      same_Some e (record { requester = a.requester; number = first p (submissions d.log a.requester) a.number + a.index; op = a.op }) (sym at ∙ entry.at) in
      let who : i ≡ a.requester = same.0 ∙ ap (λ (v : Entry). v.requester) eq in
      let number : first p (submissions d.log i) k + j ≡ first p (submissions d.log i) a.number + a.index =
      same.1 ∙ ap (λ (v : Entry). v.number) eq ∙ ap (λ v. first p (submissions d.log v) a.number + a.index) (sym who) in
      let asked : slice_get (submissions d.log i) a.number ≡ Some entry.whole = ap (λ v. slice_get (submissions d.log v) a.number) who ∙ entry.asked in
      let one = one_piece p (submissions d.log i) k a.number j a.index op entry.whole has asked short (get_within (p entry.whole) a.index a.op entry.piece) number in
      in_list (is_piece i k j) d.acts q a there (piece_same i k j a who one.0 one.1)

  lawful : (d : Device) (u : List Record) (h : List Entry) → Fits d u h → (i k j : ℕ) (piece : Op) → MayAct p d i k j piece
      → IsLawful (submissions u) h (record { requester = i; number = first p (submissions d.log i) k + j; op = piece })
  lawful d u h f i k j piece may =
      let ops = submissions d.log i in
      let same = submissions_are d u h f i in
      let short = get_within (p may.op) j piece may.is in
      record {
        submitted = ap (λ (xs : List Op). slice_get xs (first p ops k + j)) same ∙ placed p ops k j may.op piece may.submitted may.is;
        once = ⊎_elim
            (λ (sure : stands h i (first p ops k + j) ≡ true). absurd (let clash : true ≡ false = sym (stands_acted d u h f i k j may.op may.submitted short sure) ∙ may.once in cc))
            (λ (none : stands h i (first p ops k + j) ≡ false). none)
            (test (stands h i (first p ops k + j)));
        ordered = λ l w low has posted.
            let g = located p ops l w (ap (λ (xs : List Op). slice_get xs l) (sym same) ∙ has) in
            let is = g.is in
            let is_write : is_posted g.op ≡ true = sym (law.posted g.op w g.index g.at) ∙ posted in
            let inner : g.index < length (p g.op) = get_within (p g.op) g.index w g.at in
            let stood : has_acted d i g.number g.index ≡ true = before d i k j piece may g.number g.index g.op g.has is_write inner (omega (arith, is, low)) in
            ap (stands h i) is ∙ acted_stands d u h f i g.number g.index stood;
      }
    where
      before : (d : Device) (i k j : ℕ) (piece : Op) (may : MayAct p d i k j piece) (l m : ℕ) (w : Op) → slice_get (submissions d.log i) l ≡ Some w → is_posted w ≡ true → m < length (p w)
          → first p (submissions d.log i) l + m < first p (submissions d.log i) k + j → has_acted d i l m ≡ true
      before d i k j piece may l m w has posted inner low = elim (cases_lt l k) [
        | inl less ↦ may.ordered l m w less has posted inner
        | inr more ↦ elim (cases_lt k l) [
          | inl far ↦
              let up = past p (submissions d.log i) k l may.op may.submitted far in
              let short = get_within (p may.op) j piece may.is in
              absurd (omega (arith, up, short, low))
          | inr same ↦
              let eq : l ≡ k = omega (arith, more, same) in
              let at : first p (submissions d.log i) l ≡ first p (submissions d.log i) k = ap (first p (submissions d.log i)) eq in
              let op_is : w ≡ may.op = same_Some w may.op (sym has ∙ ap (slice_get (submissions d.log i)) eq ∙ may.submitted) in
              ap (λ v. has_acted d i v m) eq ∙ may.rising m (sym (ap is_posted op_is) ∙ posted) (omega (arith, at, low))
        ]
      ]

  made_act : (d : Device) (i k j : ℕ) (piece : Op) → Made d → MayAct p d i k j piece → Made (next x d (Step.Act i k j piece))
  made_act d i k j piece m may =
      let f = m.fits in
      let h = m.h in
      let e : Entry = record { requester = i; number = first p (submissions d.log i) k + j; op = piece } in
      let a : Acted = record { requester = i; number = k; index = j; op = piece; reply = answer x.base x.block d.bytes piece } in
      record {
        u = m.u;
        h = h ++ e ∷ [];
        fits = record {
          kept = entered (claim x m.u h) e f.kept (lawful d m.u h f i k j piece may);
          counted = f.counted;
          seen = f.seen;
          bytes = grows.next x h e ∙ ap (λ b. after x.base x.block b piece) f.bytes;
          many = length_push h e ∙ ap (λ n. n + 1) f.many ∙ sym (length_push d.acts a);
          acts = λ q b at. ⊎_elim
              (λ (g : (q < length d.acts) × (slice_get d.acts q ≡ Some b)).
              let old = f.acts q b g.1 in
              let few : q < length d.acts = g.0 in
              let inside : q < length h = omega (arith, few, f.many) in
              let same : take q (h ++ e ∷ []) ≡ take q h = take_before h (e ∷ []) q (omega (arith, inside)) in
              record {
                whole = old.whole;
                asked = old.asked;
                piece = old.piece;
                at = get_before h (e ∷ []) q (record { requester = b.requester; number = first p (submissions d.log b.requester) b.number + b.index; op = b.op }) old.at;
                replied = ap (λ (g : List Entry). answer x.base x.block (contents x g) b.op) same ∙ old.replied;
              })
              (λ (g : (q ≡ length d.acts) × (a ≡ b)).
              subst (λ (v : Acted). IsEntry d.log (h ++ e ∷ []) q v) g.1
              (let here : q ≡ length h = g.0 ∙ sym f.many in
              record {
                whole = may.op;
                asked = may.submitted;
                piece = may.is;
                at = ap (slice_get (h ++ e ∷ [])) here ∙ get_seam h [] e;
                replied = ap (λ (g : List Entry). answer x.base x.block (contents x g) piece) (take_push h e q here)
                    ∙ ap (λ b. answer x.base x.block b piece) f.bytes;
              }))
              (get_push d.acts a q b at);
          answers_are = f.answers_are;
        };
      }

  -- ---- a request is answered

  -- an answer behind some others of its request
  module _ (d : Device) (u : List Record) (h : List Entry) (f : Fits d u h) (i k : ℕ) (reply : Reply) (may : MayAnswer p d i k reply) where
    abbrev number : ℕ
    number = first p (submissions d.log i) k

    explained : (before : List Record) (j : ℕ) (piece : Op) (r : Reply) → slice_get (p may.op) j ≡ Some piece → slice_get may.replies j ≡ Some r
        → list_any (answers_to i (number + j)) (u ++ before) ≡ false → IsExplained (claim x (u ++ before) h).memory (u ++ before) i (number + j) r (length h)
    explained before j piece r at told none =
        let (q, w, there) = may.acted j r told in
        let a : Acted = record { requester = i; number = k; index = j; op = w; reply = r } in
        let e = f.acts q a there in
        let op_is : e.whole ≡ may.op = same_Some e.whole may.op (sym e.asked ∙ may.submitted) in
        let piece_is : w ≡ piece = same_Some w piece (sym e.piece ∙ ap (λ (o : Op). slice_get (p o) j) op_is ∙ at) in
        let own_is : slice_get h q ≡ Some (record { requester = i; number = number + j; op = piece }) = e.at ∙ ap (λ (o : Op). Some (record { requester = i; number = number + j; op = o })) piece_is in
        let listed : slice_get (submissions u i) (number + j) ≡ Some piece =
        ap (λ (xs : List Op). slice_get xs (number + j)) (submissions_are d u h f i) ∙ placed p (submissions d.log i) k j may.op piece may.submitted at in
        let (b, since, sub) = named u i (number + j) piece f.kept.explains.numbered listed in
        let own : Entry = record { requester = i; number = number + j; op = piece } in
        record {
          place = b;
          op = piece;
          since = since;
          point = q;
          asked = get_before u before b (records.Sub i (number + j) piece since) sub;
          not_posted = law.posted may.op piece j at ∙ may.not_posted;
          unanswered = none;
          acted = own_is;
          after_submission = f.kept.clocked.after_submission q b since own piece own_is sub;
          before_answer = get_within h q own own_is;
          replied = reply_there (claim x u h).memory q own own_is ∙ ap Some (ap (λ (o : Op). answer x.base x.block (contents_at x h q) o) (sym piece_is) ∙ e.replied);
          above = λ c m n s less got.
              let inside = get_within u b (records.Sub i (number + j) piece since) sub in
              let old : slice_get u c ≡ Some (records.Ans i m s n) = ⊎_elim
              (λ (g : slice_get u c ≡ Some (records.Ans i m s n)). g)
              (λ (g : (v : ℕ) × (c ≡ length u + v) × (slice_get before v ≡ Some (records.Ans i m s n))). absurd (let far = g.1 in omega (arith, far, less, inside)))
              (apart_at u before c (records.Ans i m s n) got) in
              let ex = f.kept.explains.linear c i m n s old in
              let rise : n ≤ since = f.kept.clocked.rises c b (records.Ans i m s n) (records.Sub i (number + j) piece since) less old sub in
              let later : since ≤ q = f.kept.clocked.after_submission q b since own piece own_is sub in
              let point = ex.before_answer in
              there_before h q ex.point (record { requester = i; number = m; op = ex.op }) (omega (arith, rise, later, point)) ex.acted;
        }
      where
        apart_at : {X : Type 0} → (xs ys : List X) (b : ℕ) (y : X) → slice_get (xs ++ ys) b ≡ Some y → (slice_get xs b ≡ Some y) ⊎ ((v : ℕ) × (b ≡ length xs + v) × (slice_get ys v ≡ Some y))
        apart_at [] ys b y e = inr (b, omega arith, e)
        apart_at (z ∷ xs) ys zero y e = inl e
        apart_at (z ∷ xs) ys (suc b) y e = ⊎_elim
            (λ (g : slice_get xs b ≡ Some y). inl g)
            (λ (g : (v : ℕ) × (b ≡ length xs + v) × (slice_get ys v ≡ Some y)). let at = g.1 in inr (g.0, omega (arith, at), g.2))
            (apart_at xs ys b y e)

    -- no piece of it was answered
    not_before : (j : ℕ) → j < length (p may.op) → list_any (answers_to i (number + j)) u ≡ false
    not_before j short = none_of (answers_to i (number + j)) u (never j short)
      where
        never : (j : ℕ) → j < length (p may.op) → (b : ℕ) (r : Record) → slice_get u b ≡ Some r → answers_to i (number + j) r ≡ true → ⊥
        never j short b (records.Sub a m o n) at is = cc is
        never j short b (records.Ans a m s n) at is =
            let same = answers_same i (number + j) a m n s is in
            let of = f.answers_are b a m n s at in
            let who = same.0 in
            let asked : slice_get (submissions d.log i) of.number ≡ Some of.op = ap (λ v. slice_get (submissions d.log v) of.number) who ∙ of.asked in
            let numbers : first p (submissions d.log i) k + j ≡ first p (submissions d.log i) of.number + of.index =
            same.1 ∙ of.is ∙ ap (λ v. first p (submissions d.log v) of.number + of.index) (sym who) in
            let one = one_piece p (submissions d.log i) k of.number j of.index may.op of.op may.submitted asked short of.short numbers in
            let there : list_any (answers_to i k) d.log ≡ true = ap (λ v. list_any (answers_to v k) d.log) who ∙ ap (λ v. list_any (answers_to a v) d.log) one.0 ∙ of.there in
            let clash : true ≡ false = sym there ∙ may.once in
            cc clash

    other_answer : (j m n : ℕ) (r : Reply) → j < m → answers_to i (number + m) (records.Ans i (number + j) r n) ≡ false
    other_answer j m n r less = ⊎_elim
        (λ (sure : answers_to i (number + m) (records.Ans i (number + j) r n) ≡ true).
        absurd (let same = answers_same i (number + m) i (number + j) n r sure in let at = same.1 in omega (arith, at, less)))
        (λ (none : answers_to i (number + m) (records.Ans i (number + j) r n) ≡ false). none)
        (test (answers_to i (number + m) (records.Ans i (number + j) r n)))

    -- the others, one after another
    many_answered : (before : List Record) (done rs : List Reply) → may.replies ≡ done ++ rs
        → ((m : ℕ) → length done ≤ m → m < length (p may.op) → list_any (answers_to i (number + m)) (u ++ before) ≡ false)
        → Kept (claim x (u ++ before) h) → Kept (claim x ((u ++ before) ++ answers i (number + length done) (length h) rs) h)
    many_answered before done [] is none kept = subst (λ (v : List Record). Kept (claim x v h)) (sym (append-nil (u ++ before))) kept
    many_answered before done (r ∷ rs) is none kept =
        let j = length done in
        let told : slice_get may.replies j ≡ Some r = ap (λ (xs : List Reply). slice_get xs j) is ∙ get_seam done rs r in
        let short = get_within may.replies j r told in
        let few : j < length (p may.op) = omega (arith, short, may.many) in
        let (piece, at) = some_of (p may.op) j few in
        let a = records.Ans i (number + j) r (length h) in
        let one : Kept (claim x ((u ++ before) ++ a ∷ []) h) =
        answered (claim x (u ++ before) h) i (number + j) (length h) r kept refl (explained before j piece r at told (none j (omega arith) few)) in
        let long : length (done ++ r ∷ []) ≡ suc j = length_push done r ∙ omega arith in
        let assoc : (u ++ before) ++ a ∷ [] ≡ u ++ (before ++ a ∷ []) = append_assoc u before (a ∷ []) in
        let next_none : (m : ℕ) → length (done ++ r ∷ []) ≤ m → m < length (p may.op) → list_any (answers_to i (number + m)) (u ++ (before ++ a ∷ [])) ≡ false = λ m low high.
        ap (list_any (answers_to i (number + m))) (sym assoc)
        ∙ none_push (answers_to i (number + m)) (u ++ before) a (none m (omega (arith, low, long)) high) (other_answer j m (length h) r (omega (arith, low, long))) in
        let rest = many_answered (before ++ a ∷ []) (done ++ r ∷ []) rs (is ∙ sym (append_assoc done (r ∷ []) rs)) next_none (subst (λ (v : List Record). Kept (claim x v h)) assoc one) in
        let number_is : number + length (done ++ r ∷ []) ≡ suc (number + j) = omega (arith, long) in
        let all : (u ++ (before ++ a ∷ [])) ++ answers i (number + length (done ++ r ∷ [])) (length h) rs ≡ (u ++ before) ++ answers i (number + j) (length h) (r ∷ rs) =
        ap (λ n. (u ++ (before ++ a ∷ [])) ++ answers i n (length h) rs) number_is ∙ ap (λ v. v ++ answers i (suc (number + j)) (length h) rs) (sym assoc)
        ∙ append_assoc (u ++ before) (a ∷ []) (answers i (suc (number + j)) (length h) rs) in
        subst (λ (v : List Record). Kept (claim x v h)) all rest

    all_answered : Kept (claim x (u ++ answers i number (length h) may.replies) h)
    all_answered =
        let same_start : number + 0 ≡ number = omega arith in
        let kept = many_answered [] [] may.replies refl (λ m low high. ap (list_any (answers_to i (number + m))) (append-nil u) ∙ not_before m high) (subst (λ (v : List Record). Kept (claim x v h)) (sym (append-nil u)) f.kept) in
        subst (λ (v : List Record). Kept (claim x v h)) (ap (λ v. v ++ answers i (number + 0) (length h) may.replies) (append-nil u) ∙ ap (λ n. u ++ answers i n (length h) may.replies) same_start) kept

    replies_are : parts (p may.op) reply ≡ may.replies
    replies_are = ap (parts (p may.op)) may.is ∙ law.replied may.op may.replies may.not_posted may.many (λ j piece r at told.
        let (q, w, there) = may.acted j r told in
        let a : Acted = record { requester = i; number = k; index = j; op = w; reply = r } in
        let e = f.acts q a there in
        let op_is : e.whole ≡ may.op = same_Some e.whole may.op (sym e.asked ∙ may.submitted) in
        let piece_is : w ≡ piece = same_Some w piece (sym e.piece ∙ ap (λ (o : Op). slice_get (p o) j) op_is ∙ at) in
        (contents_at x h q, grows.size x (take q h), ap (λ (o : Op). answer x.base x.block (contents_at x h q) o) (sym piece_is) ∙ e.replied))

    -- the answers in pieces
    cut_answer : split p d.log (records.Ans i k reply 0) ≡ answers i number 0 may.replies
    cut_answer = elim (stands_or_past (submissions d.log i) k) [
      | inl s ↦
          let ops = submissions d.log i in
          let op_is : s.x ≡ may.op = same_Some s.x may.op (sym (ap (λ (xs : List Op). slice_get xs k) s.is ∙ ap (slice_get (s.before ++ s.x ∷ s.behind)) (sym s.place) ∙ get_seam s.before s.behind s.x) ∙ may.submitted) in
          let here : slice_get (numbered p 0 ops) k ≡ Some (width p s.before, s.x) =
          ap (λ (xs : List Op). slice_get (numbered p 0 xs) k) s.is ∙ ap (slice_get (numbered p 0 (s.before ++ s.x ∷ s.behind))) (sym s.place) ∙ numbered_at p s.before s.x s.behind in
          let start : number ≡ width p s.before =
          ap (λ (xs : List Op). width p (take k xs)) s.is ∙ ap (λ n. width p (take n (s.before ++ s.x ∷ s.behind))) (sym s.place)
          ∙ ap (width p) (take_before s.before (s.x ∷ s.behind) (length s.before) (omega arith) ∙ take_all s.before) in
          ap (λ o. answers_by p o i (width p ops) 0 reply) here ∙ ap (λ (o : Op). answers i (width p s.before) 0 (parts (p o) reply)) op_is
          ∙ ap (λ n. answers i n 0 (parts (p may.op) reply)) (sym start) ∙ ap (answers i number 0) replies_are
      | inr beyond ↦ let inside = get_within (submissions d.log i) k may.op may.submitted in absurd (omega (arith, beyond, inside))
    ]

  answer_in : (i k n b j m o : ℕ) (rs : List Reply) (r : Reply) → slice_get (answers i k n rs) b ≡ Some (records.Ans j m r o) → (i ≡ j) × (m ≡ k + b) × (b < length rs)
  answer_in i k n b j m o [] r e = absurd (cc e)
  answer_in i k n zero j m o (s ∷ rs) r e =
      let same : ◌≡◌ {A = Record} (records.Ans i k s n) (records.Ans j m r o) = same_Some (records.Ans i k s n) (records.Ans j m r o) e in
      let who : i ≡ j = cc in
      let number : k ≡ m = cc in
      (who, omega (arith, number), omega arith)
  answer_in i k n (suc b) j m o (s ∷ rs) r e =
      let t = answer_in i (suc k) n b j m o rs r e in
      let at = t.1 in
      let short = t.2 in
      (t.0, omega (arith, at), omega (arith, short))

  answer_numbered : (rs : List Record) (i k : ℕ) (s : Reply) → IsNumbered rs → IsNumbered (rs ++ records.Ans i k s 0 ∷ [])
  answer_numbered rs i k s num a j m q z e =
      let r : Record = records.Ans i k s 0 in
      ⊎_elim
      (λ (g : (a < length rs) × (slice_get rs a ≡ Some (records.Sub j m z q))).
      let l : a < length rs = g.0 in
      num a j m q z g.1 ∙ ap (λ (y : List Record). length (submissions y j)) (sym (take_before rs (r ∷ []) a (omega (arith, l)))))
      (λ (g : (a ≡ length rs) × (r ≡ records.Sub j m z q)). absurd (let h : ◌≡◌ {A = Record} (records.Ans i k s 0) (records.Sub j m z q) = g.1 in cc))
      (get_push rs r a (records.Sub j m z q) e)

  made_answer : (d : Device) (i k : ℕ) (reply : Reply) → Made d → MayAnswer p d i k reply → Made (next x d (Step.Answer i k reply))
  made_answer d i k reply m may =
      let f = m.fits in
      let n = length m.h in
      let r = records.Ans i k reply 0 in
      let start = first p (submissions d.log i) k in
      record {
        u = m.u ++ answers i start n may.replies;
        h = m.h;
        fits = record {
          kept = all_answered d m.u m.h f i k reply may;
          counted = answer_numbered d.log i k reply f.counted;
          seen = subst (λ (rs : List Record). AreSeenAs rs (m.u ++ answers i start n may.replies))
              (sym (split_append p [] d.log (r ∷ []) ∙ ap (λ rs. split_all p [] d.log ++ rs) (append-nil (split p d.log r) ∙ cut_answer d m.u m.h f i k reply may)))
              (seen_append (split_all p [] d.log) m.u (answers i start 0 may.replies) (answers i start n may.replies) f.seen (answers_seen i start 0 n may.replies));
          bytes = f.bytes;
          many = f.many;
          acts = λ q a at. more_entry d.log r m.h q a (f.acts q a at);
          answers_are = λ b j l o s at. ⊎_elim
              (λ (e : slice_get m.u b ≡ Some (records.Ans j l s o)). more_answer d.log r j l (f.answers_are b j l o s e))
              (λ (e : (c : ℕ) × (slice_get (answers i start n may.replies) c ≡ Some (records.Ans j l s o))).
              let t = answer_in i start n e.0 j l o may.replies s e.1 in
              let short = t.2 in
              subst (λ (v : ℕ). IsOfAnswer (d.log ++ r ∷ []) v l) t.0 (record {
                number = k;
                index = e.0;
                op = may.op;
                asked = more_asked d.log r i k may.op may.submitted;
                short = omega (arith, short, may.many);
                is = t.1 ∙ ap (λ v. v + e.0) (sym (more_first d.log r i k may.op may.submitted));
                there = any_push (answers_to i k) d.log r (is_answer i k 0 reply);
              }))
              (apart m.u (answers i start n may.replies) b (records.Ans j l s o) at);
        };
      }

  -- ---- all steps

  run : (d : Device) (steps : List Step) (e : Device) → Made d → Leads p x d steps e → Made e
  run d [] e m is = subst Made is m
  run d (Step.Submit i op ∷ steps) e m leads = run (next x d (Step.Submit i op)) steps e (made_submit d i op m) leads.1
  run d (Step.Act i k j piece ∷ steps) e m leads = run (next x d (Step.Act i k j piece)) steps e (made_act d i k j piece m leads.0) leads.1
  run d (Step.Answer i k reply ∷ steps) e m leads = run (next x d (Step.Answer i k reply)) steps e (made_answer d i k reply m leads.0) leads.1

  pub explained_run : (steps : List Step) (d : Device) → Leads p x (new_device x) steps d
      → IsExplainable (record { base = x.base; size = x.size; block = x.block; records = split_all p [] d.log })
  explained_run steps d leads =
      let m = run (new_device x) steps d made_none leads in (
        record { base = x.base; size = x.size; block = x.block; records = m.u },
        m.h,
        record { base = refl; size = refl; block = refl; records = m.fits.seen },
        m.fits.kept.explains,
        m.fits.kept.clocked,
      )
