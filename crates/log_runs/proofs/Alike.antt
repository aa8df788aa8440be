-- Records that are the same but for their n's and for replies that a log doesn't have.
use Rattle.std.proofs.Common.{◌≡◌, ◌∙◌, ℕ, zero, suc, Bool, List, [], ◌∷◌, length, take, remove, Option, Some, refl, ap, subst, inr}
use Rattle.std.specs.Prelude.{slice_get, ◌||◌}
use Rattle.std.specs.List.{list_any, cons_option}
use Rattle.std.proofs.lemmas.Option.{same_Some}
use Rattle.tlp_core.specs.Ops.{Op}
use Rattle.seq_memory.specs.Entries.{Reply}
use Rattle.history_words.specs.Records.{Record}
use Rattle.history_words.specs.declared.record.RecordOf.TheVariants as records
use Rattle.history_words.specs.Trace.{submission, submissions, answers_to}
use Rattle.log_runs.specs.Explainable.{MayBe, IsSeenAs, AreSeenAs}

same_record : (r : Record) → IsSeenAs r r
same_record (records.Sub i k op n) = (refl, refl, refl)
same_record (records.Ans i k told n) = (refl, refl, inr refl)

pub same_records : (rs : List Record) → AreSeenAs rs rs
same_records [] = tt
same_records (r ∷ rs) = (same_record r, same_records rs)

pub same_length : (rs us : List Record) → AreSeenAs rs us → length rs ≡ length us
same_length [] [] e = refl
same_length [] (u ∷ us) e = absurd e
same_length (r ∷ rs) [] e = absurd e
same_length (r ∷ rs) (u ∷ us) e = ap suc (same_length rs us e.1)

same_submission : (i : ℕ) (r u : Record) → IsSeenAs r u → submission i r ≡ submission i u
same_submission i (records.Sub j k op n) (records.Sub l m w q) e = rw (e.0, e.2) refl
same_submission i (records.Sub j k op n) (records.Ans l m w q) e = absurd e
same_submission i (records.Ans j k told n) (records.Ans l m made q) e = refl
same_submission i (records.Ans j k told n) (records.Sub l m made q) e = absurd e

pub same_submissions : (i : ℕ) (rs us : List Record) → AreSeenAs rs us → submissions rs i ≡ submissions us i
same_submissions i [] [] e = refl
same_submissions i [] (u ∷ us) e = absurd e
same_submissions i (r ∷ rs) [] e = absurd e
same_submissions i (r ∷ rs) (u ∷ us) e =
    ap (λ (o : Option Op). cons_option o (submissions rs i)) (same_submission i r u e.0)
    ∙ ap (λ (xs : List Op). cons_option (submission i u) xs) (same_submissions i rs us e.1)

same_answer : (i k : ℕ) (r u : Record) → IsSeenAs r u → answers_to i k r ≡ answers_to i k u
same_answer i k (records.Sub j l op n) (records.Sub o m w q) e = refl
same_answer i k (records.Sub j l op n) (records.Ans o m w q) e = absurd e
same_answer i k (records.Ans j l told n) (records.Ans o m made q) e = rw (e.0, e.1) refl
same_answer i k (records.Ans j l told n) (records.Sub o m made q) e = absurd e

pub same_answers : (i k : ℕ) (rs us : List Record) → AreSeenAs rs us → list_any (answers_to i k) rs ≡ list_any (answers_to i k) us
same_answers i k [] [] e = refl
same_answers i k [] (u ∷ us) e = absurd e
same_answers i k (r ∷ rs) [] e = absurd e
same_answers i k (r ∷ rs) (u ∷ us) e =
    ap (λ (b : Bool). b || list_any (answers_to i k) rs) (same_answer i k r u e.0)
    ∙ ap (λ (b : Bool). answers_to i k u || b) (same_answers i k rs us e.1)

pub same_prefix : (n : ℕ) (rs us : List Record) → AreSeenAs rs us → AreSeenAs (take n rs) (take n us)
same_prefix zero [] [] e = tt
same_prefix zero [] (u ∷ us) e = tt
same_prefix zero (r ∷ rs) [] e = tt
same_prefix zero (r ∷ rs) (u ∷ us) e = tt
same_prefix (suc n) [] [] e = tt
same_prefix (suc n) [] (u ∷ us) e = absurd e
same_prefix (suc n) (r ∷ rs) [] e = absurd e
same_prefix (suc n) (r ∷ rs) (u ∷ us) e = (e.0, same_prefix n rs us e.1)

pub same_without : (a : ℕ) (rs us : List Record) → AreSeenAs rs us → AreSeenAs (remove rs a) (remove us a)
same_without zero [] [] e = tt
same_without (suc a) [] [] e = tt
same_without a [] (u ∷ us) e = absurd e
same_without a (r ∷ rs) [] e = absurd e
same_without zero (r ∷ rs) (u ∷ us) e = e.1
same_without (suc a) (r ∷ rs) (u ∷ us) e = (e.0, same_without a rs us e.1)

-- ---- record by record

pub alike_at : (rs us : List Record) → AreSeenAs rs us → (a : ℕ) (r : Record) → slice_get rs a ≡ Some r → (u : Record) × (slice_get us a ≡ Some u) × IsSeenAs r u
alike_at [] us e a r at = cc
alike_at (x ∷ xs) [] e a r at = absurd e
alike_at (x ∷ xs) (u ∷ us) e zero r at = (u, refl, subst (λ y. IsSeenAs y u) (same_Some x r at) e.0)
alike_at (x ∷ xs) (u ∷ us) e (suc a) r at = alike_at xs us e.1 a r at

pub alike_back : (rs us : List Record) → AreSeenAs rs us → (a : ℕ) (u : Record) → slice_get us a ≡ Some u → (r : Record) × (slice_get rs a ≡ Some r) × IsSeenAs r u
alike_back rs [] e a u at = cc
alike_back [] (x ∷ us) e a u at = absurd e
alike_back (r ∷ rs) (x ∷ us) e zero u at = (r, refl, subst (IsSeenAs r) (same_Some x u at) e.0)
alike_back (r ∷ rs) (x ∷ us) e (suc a) u at = alike_back rs us e.1 a u at

like_sub : (i k n : ℕ) (op : Op) (u : Record) → IsSeenAs (records.Sub i k op n) u → (m : ℕ) × (u ≡ records.Sub i k op m)
like_sub i k n op (records.Sub j l w m) e = (m, rw (e.0, e.1, e.2) refl)
like_sub i k n op (records.Ans j l made m) e = absurd e

sub_like : (i k n : ℕ) (op : Op) (r : Record) → IsSeenAs r (records.Sub i k op n) → (m : ℕ) × (r ≡ records.Sub i k op m)
sub_like i k n op (records.Sub j l w m) e = (m, rw (e.0, e.1, e.2) refl)
sub_like i k n op (records.Ans j l told m) e = absurd e

like_ans : (i k n : ℕ) (told : Reply) (u : Record) → IsSeenAs (records.Ans i k told n) u → (made : Reply) × (m : ℕ) × (u ≡ records.Ans i k made m) × MayBe told made
like_ans i k n told (records.Sub j l w m) e = absurd e
like_ans i k n told (records.Ans j l made m) e = (made, m, rw (e.0, e.1) refl, e.2)

ans_like : (i k n : ℕ) (made : Reply) (r : Record) → IsSeenAs r (records.Ans i k made n) → (told : Reply) × (m : ℕ) × (r ≡ records.Ans i k told m) × MayBe told made
ans_like i k n made (records.Sub j l w m) e = absurd e
ans_like i k n made (records.Ans j l told m) e = (told, m, rw (e.0, e.1) refl, e.2)

module _ (rs us : List Record) (e : AreSeenAs rs us) (a i k n : ℕ) where
  pub sub_alike : (op : Op) → slice_get rs a ≡ Some (records.Sub i k op n) → (m : ℕ) × (slice_get us a ≡ Some (records.Sub i k op m))
  sub_alike op at =
      let (u, there, same) = alike_at rs us e a (records.Sub i k op n) at in
      let (m, is) = like_sub i k n op u same in
      (m, there ∙ ap Some is)

  pub sub_back : (op : Op) → slice_get us a ≡ Some (records.Sub i k op n) → (m : ℕ) × (slice_get rs a ≡ Some (records.Sub i k op m))
  sub_back op at =
      let (r, there, same) = alike_back rs us e a (records.Sub i k op n) at in
      let (m, is) = sub_like i k n op r same in
      (m, there ∙ ap Some is)

  pub ans_alike : (told : Reply) → slice_get rs a ≡ Some (records.Ans i k told n) → (made : Reply) × (m : ℕ) × (slice_get us a ≡ Some (records.Ans i k made m)) × MayBe told made
  ans_alike told at =
      let (u, there, same) = alike_at rs us e a (records.Ans i k told n) at in
      let (made, m, is, may) = like_ans i k n told u same in
      (made, m, there ∙ ap Some is, may)

  pub ans_back : (made : Reply) → slice_get us a ≡ Some (records.Ans i k made n) → (told : Reply) × (m : ℕ) × (slice_get rs a ≡ Some (records.Ans i k told m)) × MayBe told made
  ans_back made at =
      let (r, there, same) = alike_back rs us e a (records.Ans i k made n) at in
      let (told, m, is, may) = ans_like i k n made r same in
      (told, m, there ∙ ap Some is, may)
