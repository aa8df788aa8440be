-- The front of a line of records, up to its operation or its reply, is written as it is read.
use Rattle.std.proofs.Common.{◌≡◌, ℕ, ◌-◌, ◌<◌, ◌≤◌, Bool, true, false, List, [], ◌∷◌, ◌++◌, length, take, drop, refl, sym, ap, subst, ◌∙◌, append_assoc, length-append, arith, Option, Some, None}
use Rattle.std.specs.Prelude.{◌^◌, ◌+◌, Decides, cond, codes, bytes_eq}
use Rattle.std.specs.List.{join_with_byte}
use Rattle.std.specs.Fmt.{decimal}
use Rattle.std.proofs.lemmas.List.{take-append-le, take_all}
use Rattle.std.proofs.lemmas.List.Splits.{join_with_byte-slice_split, length-slice_split}
use Rattle.std.proofs.lemmas.Slice.Eq.{bytes_eq-Decides}
use Rattle.tlp_core.specs.Ops.{Op}
use Rattle.seq_memory.specs.Entries.{Reply}
use Rattle.history_words.specs.declared.record.RecordOf.TheVariants as records
use Rattle.operation_text.specs.Words.{words, is_space, first_field, field, then_with, ended}
use Rattle.operation_text.specs.Numbers.{numeral}
use Rattle.operation_text.specs.Operations.{op_spelled, reply_spelled}
use Rattle.operation_text.specs.Texts.{op_text, reply_text}
use Rattle.record_text.specs.Forms as fields
use Rattle.trace_text.specs.declared.line.Version.{Version}
use Rattle.trace_text.specs.declared.line.Line.{Line}
use Rattle.trace_text.specs.declared.line.Line.TheVariants as lines
use Rattle.trace_text.specs.Forms as forms
use Rattle.trace_text.specs.Forms.{line_of, behind_numbers}
use Rattle.trace_text.specs.TraceRewriterView.{RewriteFormView, added, behind_of, version_after, written}
use Rattle.trace_text.proofs.FormLemmas.{RecordWords, record-words, entry-words, sub, ans, requester-is, field-first, then-first, ended-is, either, some-is}

-- ---- words with a space behind each

abbrev with_spaces_behind : List (List ℕ) → List ℕ
with_spaces_behind [] = []
with_spaces_behind (w ∷ ws) = w ++ 32 ∷ with_spaces_behind ws

join-behind : (ws vs : List (List ℕ)) → 0 < length vs → join_with_byte 32 (ws ++ vs) ≡ with_spaces_behind ws ++ join_with_byte 32 vs
join-behind ws [] some = absurd (omega arith)
join-behind [] (v ∷ vs) some = refl
join-behind (w ∷ []) (v ∷ vs) some = sym (append_assoc w (32 ∷ []) (join_with_byte 32 (v ∷ vs)))
join-behind (w ∷ u ∷ ws) (v ∷ vs) some =
    ap (λ (t : List ℕ). w ++ 32 ∷ t) (join-behind (u ∷ ws) (v ∷ vs) some) ∙ sym (append_assoc w (32 ∷ with_spaces_behind (u ∷ ws)) (join_with_byte 32 (v ∷ vs)))

joined : (line : List ℕ) → join_with_byte 32 (words line) ≡ line
joined line = join_with_byte-slice_split 32 line

some-words : (line : List ℕ) → 0 < length (words line)
some-words line = omega (arith, length-slice_split is_space line)

-- what is in front of the last words
text-by : (text behind : List ℕ) (ws : List (List ℕ)) → words text ≡ ws ++ words behind → text ≡ with_spaces_behind ws ++ behind
text-by text behind ws is =
    sym (joined text) ∙ ap (join_with_byte 32) is ∙ join-behind ws (words behind) (some-words behind) ∙ ap (λ (t : List ℕ). with_spaces_behind ws ++ t) (joined behind)

line-by : (ws : List (List ℕ)) (said : List ℕ) → join_with_byte 32 (ws ++ said ∷ []) ++ 10 ∷ [] ≡ with_spaces_behind ws ++ (said ++ 10 ∷ [])
line-by ws said = ap (λ (t : List ℕ). t ++ 10 ∷ []) (join-behind ws (said ∷ []) (omega arith)) ∙ append_assoc (with_spaces_behind ws) said (10 ∷ [])

-- ---- the words behind fields

record Cut (ws rest : List (List ℕ)) : Type 0 where
  word : List ℕ
  is : ws ≡ word ∷ rest

cut : {X : Type 0} (spells : List ℕ → Option X) (ws rest : List (List ℕ)) (x : X) → first_field spells ws ≡ Some (x, rest) → Cut ws rest
cut spells [] rest x h = absurd (cc h)
cut {X} spells (w ∷ ws) rest x h = by (spells w) h
  where
    by : (o : Option X) → then_with {Y = X × List (List ℕ)} o (λ x. Some (x, ws)) ≡ Some (x, rest) → Cut (w ∷ ws) rest
    by None k = absurd (cc k)
    by (Some y) k = record { word = w; is = ap (λ (t : X × List (List ℕ)). w ∷ t.1) (some-is (y, ws) (x, rest) k) }

pub behind_two : {X Y : Type 0} (f : List ℕ → Option X) (g : List ℕ → Option Y) (ws a b : List (List ℕ)) (x : X) (y : Y)
    → first_field f ws ≡ Some (x, a) → first_field g a ≡ Some (y, b) → b ≡ drop 2 ws
behind_two f g ws a b x y p q =
    let one = cut f ws a x p in
    let two = cut g a b y q in
    sym (ap (drop 2) (one.is ∙ ap (λ (t : List (List ℕ)). one.word ∷ t) two.is))

pub behind_three : {X Y Z : Type 0} (f : List ℕ → Option X) (g : List ℕ → Option Y) (h : List ℕ → Option Z) (ws a b c : List (List ℕ)) (x : X) (y : Y) (z : Z)
    → first_field f ws ≡ Some (x, a) → first_field g a ≡ Some (y, b) → first_field h b ≡ Some (z, c) → c ≡ drop 3 ws
behind_three f g h ws a b c x y z p q r =
    let one = cut f ws a x p in
    let two = cut g a b y q in
    let three = cut h b c z r in
    sym (ap (drop 3) (one.is ∙ ap (λ (t : List (List ℕ)). one.word ∷ t) (two.is ∙ ap (λ (t : List (List ℕ)). two.word ∷ t) three.is)))

-- ---- the words of a line, by what it says

abbrev pub OneWord : Type 0
OneWord = (most n : ℕ) (word : List ℕ) → most < 2 ^ 64 → numeral 10 most word ≡ Some n → word ≡ decimal n

-- words with others behind them
record Begins (front ws : List (List ℕ)) : Type 0 where
  rest : List (List ℕ)
  is : ws ≡ front ++ rest
  some : 0 < length rest

abbrev FrontIs : List (List ℕ) → Line → Type 0
FrontIs ws (lines.Record (records.Sub i k op n)) = Begins (codes "sub" ∷ decimal i ∷ decimal k ∷ decimal n ∷ []) ws
FrontIs ws (lines.Record (records.Ans i k reply n)) = Begins (codes "ans" ∷ decimal i ∷ decimal k ∷ decimal n ∷ []) ws
FrontIs ws (lines.Entry e) = Begins (codes "ent" ∷ decimal e.requester ∷ decimal e.number ∷ []) ws
FrontIs ws _ = Unit {0}

requester-digits : OneWord → (w : List ℕ) (i : ℕ) → fields.requester w ≡ Some i → w ≡ decimal i
requester-digits own w i h = own 7 i w (omega arith) (requester-is w i h).0

op-some : (ws : List (List ℕ)) (op : Op) → op_spelled ws ≡ Some op → 0 < length ws
op-some [] op h = absurd (cc h)
op-some (w ∷ ws) op h = omega arith

reply-some : (ws : List (List ℕ)) (reply : Reply) → reply_spelled ws ≡ Some reply → 0 < length ws
reply-some [] reply h = absurd (cc h)
reply-some (w ∷ ws) reply h = omega arith

-- the numbers of a record are spelled in decimal
record-front : {X : Type 0} → OneWord → (kind : List ℕ) (spells : List (List ℕ) → Option X) (made : ℕ → ℕ → ℕ → X → Line) (ws : List (List ℕ)) (l : Line)
    → (s : RecordWords spells made ws l) → 0 < length s.rest
    → Begins (kind ∷ decimal s.requester.value ∷ decimal s.number.value ∷ decimal s.count.value ∷ []) (kind ∷ ws)
record-front own kind spells made ws l s some =
    let a = requester-digits own s.requester.word s.requester.value s.requester.is in
    let b = own 4294967294 s.number.value s.number.word (omega arith) s.number.is in
    let c = own 18446744073709551615 s.count.value s.count.word (omega arith) s.count.is in
    record {
      rest = s.rest;
      is = ap (λ (t : List (List ℕ)). kind ∷ t) s.front
          ∙ ap (λ (w : List ℕ). kind ∷ w ∷ s.number.word ∷ s.count.word ∷ s.rest) a
          ∙ ap (λ (w : List ℕ). kind ∷ decimal s.requester.value ∷ w ∷ s.count.word ∷ s.rest) b
          ∙ ap (λ (w : List ℕ). kind ∷ decimal s.requester.value ∷ decimal s.number.value ∷ w ∷ s.rest) c;
      some = some;
    }

sub-front : OneWord → (ws : List (List ℕ)) (l : Line) → forms.sub_of ws ≡ Some l → FrontIs (codes "sub" ∷ ws) l
sub-front own ws l h =
    let s = record-words op_spelled sub ws l h in
    subst (FrontIs (codes "sub" ∷ ws)) s.line (record-front own (codes "sub") op_spelled sub ws l s (op-some s.rest s.said s.is))

ans-front : OneWord → (ws : List (List ℕ)) (l : Line) → forms.ans_of ws ≡ Some l → FrontIs (codes "ans" ∷ ws) l
ans-front own ws l h =
    let s = record-words reply_spelled ans ws l h in
    subst (FrontIs (codes "ans" ∷ ws)) s.line (record-front own (codes "ans") reply_spelled ans ws l s (reply-some s.rest s.said s.is))

ent-front : OneWord → (ws : List (List ℕ)) (l : Line) → forms.ent_of ws ≡ Some l → FrontIs (codes "ent" ∷ ws) l
ent-front own ws l h =
    let s = entry-words ws l h in
    let a = requester-digits own s.requester.word s.requester.value s.requester.is in
    let b = own 4294967294 s.number.value s.number.word (omega arith) s.number.is in
    subst (FrontIs (codes "ent" ∷ ws)) s.line (record {
      rest = s.rest;
      is = ap (λ (t : List (List ℕ)). codes "ent" ∷ t) s.front
          ∙ ap (λ (w : List ℕ). codes "ent" ∷ w ∷ s.number.word ∷ s.rest) a
          ∙ ap (λ (w : List ℕ). codes "ent" ∷ decimal s.requester.value ∷ w ∷ s.rest) b;
      some = op-some s.rest s.op s.is;
    })

-- of a line of that kind, or of another
by-kind : (P : Line → List (List ℕ) → Type 0) (name kind : List ℕ) (ws : List (List ℕ)) (l : Line) (a b : Option Line)
    → (a ≡ Some l → P l (name ∷ ws)) → (b ≡ Some l → P l (kind ∷ ws)) → cond (bytes_eq kind name) a b ≡ Some l → P l (kind ∷ ws)
by-kind P name kind ws l a b f g h = by (bytes_eq kind name) (bytes_eq-Decides kind name) h
  where
    by : (t : Bool) → Decides t (kind ≡ name) → cond t a b ≡ Some l → P l (kind ∷ ws)
    by true d k = subst (λ (w : List ℕ). P l (w ∷ ws)) (sym (d.0 refl)) (f k)
    by false d k = g k

-- lines of other kinds
memory-front : (ws us : List (List ℕ)) (v : Version) (l : Line) → forms.memory_line_of v us ≡ Some l → FrontIs ws l
memory-front ws us v l h =
    let x = then-first (fields.memory_of (forms.has_block v) us) (λ x. Some (lines.Memory x)) l h in
    subst (FrontIs ws) (some-is (lines.Memory x.value) l x.follows) tt

first-front : (ws us : List (List ℕ)) (l : Line) → forms.first_line_of us ≡ Some l → FrontIs ws l
first-front ws us l h =
    let v = field-first forms.version (λ v. ended (lines.FirstLine v)) us l h in
    subst (FrontIs ws) (ended-is (lines.FirstLine v.value) l v.rest v.follows) tt

line-front : OneWord → (v : Version) (ws : List (List ℕ)) (l : Line) → line_of v ws ≡ Some l → FrontIs ws l
line-front own v [] l h = absurd (cc h)
line-front own v (kind ∷ ws) l h =
    let front : Line → List (List ℕ) → Type 0 = λ l ws. FrontIs ws l in
    let goal = FrontIs (kind ∷ ws) l in
    by-kind front (codes "sub") kind ws l _ _ (sub-front own ws l)
    (by-kind front (codes "ans") kind ws l _ _ (ans-front own ws l)
    (by-kind front (codes "ent") kind ws l _ _ (ent-front own ws l)
    (either goal (bytes_eq kind (codes "memory")) _ _ l (memory-front (kind ∷ ws) ws v l)
    (either goal (bytes_eq kind (codes "history")) _ _ l (λ e. subst (FrontIs (kind ∷ ws)) (ended-is lines.History l ws e) tt)
    (either goal (bytes_eq kind (codes "end")) _ _ l (λ e. subst (FrontIs (kind ∷ ws)) (ended-is lines.End l ws e) tt)
    (either goal (bytes_eq kind (codes "pciex-trace")) _ _ l (first-front (kind ∷ ws) ws l) (λ n. absurd (cc n)))))))) h

-- ---- what is kept of a line's text, with what is written behind it

abbrev Keeps : List ℕ → List ℕ → Line → Type 0
Keeps text behind l = (length behind ≤ length text) × (added l ≡ take (length text - length behind) text ++ behind_of l)

keeps-by : (text behind : List ℕ) (front rest : List (List ℕ)) (l : Line) → words text ≡ front ++ rest → words behind ≡ rest → added l ≡ with_spaces_behind front ++ behind_of l → Keeps text behind l
keeps-by text behind front rest l is same e =
    let whole = text-by text behind front (is ∙ ap (λ (ws : List (List ℕ)). front ++ ws) (sym same)) in
    let len : length text ≡ length (with_spaces_behind front) + length behind = ap length whole ∙ length-append (with_spaces_behind front) behind in
    let most : length text - length behind ≡ length (with_spaces_behind front) = omega (arith, len) in
    let kept : take (length text - length behind) text ≡ with_spaces_behind front =
    ap (λ (n : ℕ). take n text) most
    ∙ ap (take (length (with_spaces_behind front))) whole
    ∙ take-append-le (length (with_spaces_behind front)) (with_spaces_behind front) behind (omega arith)
    ∙ take_all (length (with_spaces_behind front)) (with_spaces_behind front) (omega arith) in
    (omega (arith, len), e ∙ ap (λ (t : List ℕ). t ++ behind_of l) (sym kept))

no-words : {P : Type 0} (line : List ℕ) → words line ≡ [] → P
no-words line e = absurd (omega (arith, some-words line, ap length e))

keeps : (text behind : List ℕ) (l : Line) → FrontIs (words text) l → words behind ≡ behind_numbers l (words text) → Keeps text behind l
keeps text behind (lines.FirstLine v) f b = no-words behind b
keeps text behind (lines.Memory x) f b = no-words behind b
keeps text behind (lines.Record (records.Sub i k op n)) f b =
    let front = codes "sub" ∷ decimal i ∷ decimal k ∷ decimal n ∷ [] in
    keeps-by text behind front f.rest (lines.Record (records.Sub i k op n)) f.is (b ∙ ap (drop 4) f.is) (line-by front (op_text op))
keeps text behind (lines.Record (records.Ans i k reply n)) f b =
    let front = codes "ans" ∷ decimal i ∷ decimal k ∷ decimal n ∷ [] in
    keeps-by text behind front f.rest (lines.Record (records.Ans i k reply n)) f.is (b ∙ ap (drop 4) f.is) (line-by front (reply_text reply))
keeps text behind lines.History f b = no-words behind b
keeps text behind (lines.Entry e) f b =
    let front = codes "ent" ∷ decimal e.requester ∷ decimal e.number ∷ [] in
    keeps-by text behind front f.rest (lines.Entry e) f.is (b ∙ ap (drop 3) f.is) (line-by front (op_text e.op))
keeps text behind lines.End f b = no-words behind b

pub keeps-front : OneWord → (v : Version) (text behind : List ℕ) (l : Line) → line_of v (words text) ≡ Some l → words behind ≡ behind_numbers l (words text) → Keeps text behind l
keeps-front own v text behind l h b = keeps text behind l (line-front own v (words text) l h) b

nothing-behind : {P : Type 0} (front ws : List (List ℕ)) (f : Begins front ws) → [] ≡ f.rest → P
nothing-behind front ws f e = absurd (omega (arith, f.some, ap length e))

nothing : (ws : List (List ℕ)) (l : Line) → FrontIs ws l → [] ≡ behind_numbers l ws → added l ≡ behind_of l
nothing ws (lines.FirstLine v) f b = refl
nothing ws (lines.Memory x) f b = refl
nothing ws (lines.Record (records.Sub i k op n)) f b = nothing-behind _ ws f (b ∙ ap (drop 4) f.is)
nothing ws (lines.Record (records.Ans i k reply n)) f b = nothing-behind _ ws f (b ∙ ap (drop 4) f.is)
nothing ws lines.History f b = refl
nothing ws (lines.Entry e) f b = nothing-behind _ ws f (b ∙ ap (drop 3) f.is)
nothing ws lines.End f b = refl

pub keeps-nothing : OneWord → (v : Version) (text : List ℕ) (l : Line) → line_of v (words text) ≡ Some l → [] ≡ behind_numbers l (words text) → added l ≡ behind_of l
keeps-nothing own v text l h b = nothing (words text) l (line-front own v (words text) l h) b

-- what is kept after a line, by its parts
pub line-written : (w : RewriteFormView) (version : Version) (text front rest : List ℕ) (l : Line) → version ≡ version_after w.version l → text ≡ w.text ++ (front ++ rest)
    → rest ≡ behind_of l → added l ≡ front ++ behind_of l → record { version = version; text = text } ≡ written w l
line-written w version text front rest l v t r a =
    let all : text ≡ w.text ++ added l = t ∙ ap (λ (e : List ℕ). w.text ++ (front ++ e)) r ∙ ap (λ (e : List ℕ). w.text ++ e) (sym a) in
    rw (v, all) refl
