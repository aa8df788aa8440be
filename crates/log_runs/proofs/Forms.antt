-- An explainable log has no record of a wrong form.
use Rattle.std.proofs.Common.{◌≡◌, ◌∙◌, ℕ, List, Some, take, length, refl, sym, ap, inl, inr}
use Rattle.std.specs.Prelude.{slice_get}
use Rattle.std.specs.List.{list_any}
use Rattle.seq_memory.specs.Entries.{Entry}
use Rattle.history_words.specs.Records.{Record}
use Rattle.history_words.specs.declared.record.RecordOf.TheVariants as records
use Rattle.history_words.specs.TraceView.{TraceView}
use Rattle.history_words.specs.Claim.{claim_of}
use Rattle.history_words.specs.Trace.{submissions, answers_to, Explains}
use Rattle.log_runs.specs.Explainable.{AreSeenAs, IsExplainable}
use Rattle.log_runs.specs.Tasks.{IsMisformed}
use Rattle.log_runs.proofs.Lists.{clash}
use Rattle.log_runs.proofs.Alike.{same_submissions, same_answers, same_prefix, sub_alike, sub_back, ans_alike}

well_formed : (rs us : List Record) → AreSeenAs rs us → (b : TraceView) (h : List Entry) → b.records ≡ us → Explains (claim_of b h) → (a : ℕ) (r : Record) → slice_get rs a ≡ Some r → IsMisformed (take a rs) r → ⊥
well_formed rs us same b h is x a (records.Sub i k op n) at wrong =
    let (m, there) = sub_alike rs us same a i k n op at in
    let here : slice_get b.records a ≡ Some (records.Sub i k op m) = ap (λ (ys : List Record). slice_get ys a) is ∙ there in
    wrong (x.numbered a i k m op here ∙ ap (λ (ys : List Record). length (submissions (take a ys) i)) is ∙ ap length (sym (same_submissions i (take a rs) (take a us) (same_prefix a rs us same))))
well_formed rs us same b h is x a (records.Ans i k r n) at (inl never) =
    let (made, m, there, may) = ans_alike rs us same a i k n r at in
    let f = x.linear a i k m made (ap (λ (ys : List Record). slice_get ys a) is ∙ there) in
    let asked = ap (λ (ys : List Record). slice_get (take a ys) f.place) (sym is) ∙ f.asked in
    let (l, back) = sub_back (take a rs) (take a us) (same_prefix a rs us same) f.place i k f.since f.op asked in
    clash (never f.place f.op l back) f.not_posted
well_formed rs us same b h is x a (records.Ans i k r n) at (inr twice) =
    let (made, m, there, may) = ans_alike rs us same a i k n r at in
    let f = x.linear a i k m made (ap (λ (ys : List Record). slice_get ys a) is ∙ there) in
    clash (ap (λ (ys : List Record). list_any (answers_to i k) (take a ys)) is ∙ sym (same_answers i k (take a rs) (take a us) (same_prefix a rs us same)) ∙ twice) f.unanswered

pub explainable_form : (t : TraceView) (a : ℕ) (r : Record) → IsExplainable t → slice_get t.records a ≡ Some r → IsMisformed (take a t.records) r → ⊥
explainable_form t a r (u, h, alike, explains, clocked) at wrong = well_formed t.records u.records alike.records u h refl explains a r at wrong
