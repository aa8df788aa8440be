-- Records that are the same but for their n's.
use Rattle.std.proofs.Common.{◌≡◌, ◌∙◌, ℕ, zero, suc, Bool, List, [], ◌∷◌, map, length, take, filter_map, Option, Some, refl, sym, ap}
use Rattle.std.specs.Prelude.{slice_get, ◌||◌}
use Rattle.std.specs.List.{list_any, cons_option}
use Rattle.std.proofs.lemmas.List.{length-map, take-map}
use Rattle.std.proofs.lemmas.Option.{same_Some}
use Rattle.tlp_core.specs.Ops.{Op}
use Rattle.seq_memory.specs.Entries.{Reply}
use Rattle.history_words.specs.Records.{Record}
use Rattle.history_words.specs.declared.record.RecordOf.TheVariants as records
use Rattle.history_words.specs.Trace.{submission, submissions, answers_to}

-- the record but for its n
abbrev pub without_n : Record → Record
without_n (records.Sub i k op n) = records.Sub i k op 0
without_n (records.Ans i k reply n) = records.Ans i k reply 0

pub same_length : (rs us : List Record) → map without_n rs ≡ map without_n us → length rs ≡ length us
same_length rs us e = sym (length-map rs without_n) ∙ ap length e ∙ length-map us without_n

same_submission : (i : ℕ) (r : Record) → submission i (without_n r) ≡ submission i r
same_submission i (records.Sub j k op n) = refl
same_submission i (records.Ans j k reply n) = refl

all_submissions : (i : ℕ) (rs : List Record) → filter_map (submission i) (map without_n rs) ≡ filter_map (submission i) rs
all_submissions i [] = refl
all_submissions i (r ∷ rs) =
    ap (λ (o : Option Op). cons_option o (filter_map (submission i) (map without_n rs))) (same_submission i r)
    ∙ ap (λ (xs : List Op). cons_option (submission i r) xs) (all_submissions i rs)

pub same_submissions : (i : ℕ) (rs us : List Record) → map without_n rs ≡ map without_n us → submissions rs i ≡ submissions us i
same_submissions i rs us e = sym (all_submissions i rs) ∙ ap (filter_map (submission i)) e ∙ all_submissions i us

same_answer : (i k : ℕ) (r : Record) → answers_to i k (without_n r) ≡ answers_to i k r
same_answer i k (records.Sub j l op n) = refl
same_answer i k (records.Ans j l reply n) = refl

all_answers : (i k : ℕ) (rs : List Record) → list_any (answers_to i k) (map without_n rs) ≡ list_any (answers_to i k) rs
all_answers i k [] = refl
all_answers i k (r ∷ rs) =
    ap (λ (b : Bool). b || list_any (answers_to i k) (map without_n rs)) (same_answer i k r)
    ∙ ap (λ (b : Bool). answers_to i k r || b) (all_answers i k rs)

pub same_answers : (i k : ℕ) (rs us : List Record) → map without_n rs ≡ map without_n us → list_any (answers_to i k) rs ≡ list_any (answers_to i k) us
same_answers i k rs us e = sym (all_answers i k rs) ∙ ap (list_any (answers_to i k)) e ∙ all_answers i k us

pub same_prefix : (n : ℕ) (rs us : List Record) → map without_n rs ≡ map without_n us → map without_n (take n rs) ≡ map without_n (take n us)
same_prefix n rs us e = sym (take-map without_n n rs) ∙ ap (take n) e ∙ take-map without_n n us

-- ---- record by record

pub alike_at : (rs us : List Record) → map without_n rs ≡ map without_n us → (a : ℕ) (r : Record) → slice_get rs a ≡ Some r → (s : Record) × (slice_get us a ≡ Some s) × (without_n r ≡ without_n s)
alike_at [] us e a r at = cc
alike_at (x ∷ xs) [] e a r at = cc
alike_at (x ∷ xs) (u ∷ us) e zero r at =
    let head : without_n x ≡ without_n u = cc in
    (u, refl, ap without_n (sym (same_Some x r at)) ∙ head)
alike_at (x ∷ xs) (u ∷ us) e (suc a) r at =
    let tail : map without_n xs ≡ map without_n us = cc in
    alike_at xs us tail a r at

like_sub : (i k n : ℕ) (op : Op) (s : Record) → records.Sub i k op 0 ≡ without_n s → (m : ℕ) × (s ≡ records.Sub i k op m)
like_sub i k n op (records.Sub j l w m) e =
    let one : i ≡ j = cc in
    let two : k ≡ l = cc in
    let three : op ≡ w = cc in
    (m, rw (one, two, three) refl)
like_sub i k n op (records.Ans j l reply m) e = cc

like_ans : (i k n : ℕ) (reply : Reply) (s : Record) → records.Ans i k reply 0 ≡ without_n s → (m : ℕ) × (s ≡ records.Ans i k reply m)
like_ans i k n reply (records.Sub j l w m) e = cc
like_ans i k n reply (records.Ans j l answer m) e =
    let one : i ≡ j = cc in
    let two : k ≡ l = cc in
    let three : reply ≡ answer = cc in
    (m, rw (one, two, three) refl)

pub sub_alike : (rs us : List Record) → map without_n rs ≡ map without_n us → (a i k n : ℕ) (op : Op) → slice_get rs a ≡ Some (records.Sub i k op n) → (m : ℕ) × (slice_get us a ≡ Some (records.Sub i k op m))
sub_alike rs us e a i k n op at =
    let (s, there, same) = alike_at rs us e a (records.Sub i k op n) at in
    let (m, is) = like_sub i k n op s same in
    (m, there ∙ ap Some is)

pub ans_alike : (rs us : List Record) → map without_n rs ≡ map without_n us → (a i k n : ℕ) (reply : Reply) → slice_get rs a ≡ Some (records.Ans i k reply n) → (m : ℕ) × (slice_get us a ≡ Some (records.Ans i k reply m))
ans_alike rs us e a i k n reply at =
    let (s, there, same) = alike_at rs us e a (records.Ans i k reply n) at in
    let (m, is) = like_ans i k n reply s same in
    (m, there ∙ ap Some is)
