-- The order in which requests of a clocked history act.
use Rattle.std.proofs.Common.{◌≡◌, ◌+◌, ℕ, zero, suc, ◌<◌, ◌≤◌, Bool, true, false, cond, List, [], ◌∷◌, take, Option, Some, None, refl, sym, ap, ◌∙◌, inl, inr, arith}
use Rattle.std.specs.Prelude.{slice_get, option_map, ◌==◌, ◌||◌}
use Rattle.std.specs.List.{list_any}
use Rattle.std.proofs.lemmas.Bool.{cases_Bool, eq-eqb}
use Rattle.std.proofs.lemmas.Option.{same_Some}
use Rattle.tlp_core.specs.Ops.{Op}
use Rattle.seq_memory.specs.Entries.{Entry}
use Rattle.history_words.specs.Records.{Record}
use Rattle.history_words.specs.declared.record.RecordOf.TheVariants as records
use Rattle.history_words.specs.Claim.{Claim}
use Rattle.history_words.specs.Clocks.{IsClocked, KeepsRealTimeOrder}
use Rattle.history_words.specs.Trace.{submissions, is_request, IsLegal, Explains}
use Rattle.history_words.specs.Flaws.{first_place, place_of}

hit : (b c : Bool) → b ≡ true → (b || c) ≡ false → ⊥
hit b c e f = cc

-- the first that passes is there, if none before it passes
first_is : {X : Type 0} → (t : X → Bool) (xs : List X) (p : ℕ) (x : X) → slice_get xs p ≡ Some x → t x ≡ true → list_any t (take p xs) ≡ false → first_place t xs ≡ Some p
first_is t [] p x at e none = cc
first_is t (y ∷ ys) zero x at e none = ap (λ v. cond v (Some 0) (option_map (λ n. n + 1) (first_place t ys))) (ap t (same_Some y x at) ∙ e)
first_is t (y ∷ ys) (suc p) x at e none =
    elim (cases_Bool (t y)) [
      | inl passes ↦ absurd (hit (t y) (list_any t (take p ys)) passes none)
      | inr miss ↦
          let rest = first_is t ys p x at e (sym (ap (λ v. v || list_any t (take p ys)) miss) ∙ none) in
          let step : p + 1 ≡ suc p = omega arith in
          ap (λ v. cond v (Some 0) (option_map (λ n. n + 1) (first_place t ys))) miss ∙ ap (option_map (λ n. n + 1)) rest ∙ ap Some step
    ]

-- in a legal history a request stands first where it stands
placed : (s : ℕ → List Op) (h : List Entry) (p : ℕ) (e : Entry) → IsLegal s h → slice_get h p ≡ Some e → place_of h e.requester e.number ≡ Some p
placed s h p e legal at =
    first_is (is_request e.requester e.number) h p e at (rw (eq-eqb e.requester e.requester refl, eq-eqb e.number e.number refl) refl) (legal p e at).once

pub in_order : (x : Claim) → Explains x → IsClocked x → KeepsRealTimeOrder x
in_order x good clocked = λ i k j m p q first one two.
    let rs = x.records in
    let h = x.memory.entries in
    let e = good.linear first.answer i k first.until first.reply first.answered in
    let there = placed (submissions rs) h e.point (record { requester = i; number = k; op = e.op }) good.legal e.acted in
    let here = placed (submissions rs) h p (record { requester = i; number = k; op = one.0 }) good.legal one.1 in
    let same : e.point ≡ p = same_Some e.point p (sym there ∙ here) in
    let answered : e.point < first.until = e.before_answer in
    let rises : first.until ≤ first.since = clocked.rises first.answer first.submission (records.Ans i k first.reply first.until) (records.Sub j m first.op first.since) first.before first.answered first.submitted in
    let later : first.since ≤ q = clocked.after_submission q first.submission first.since (record { requester = j; number = m; op = two.0 }) first.op two.1 first.submitted in
    omega (arith, same, answered, rises, later)
