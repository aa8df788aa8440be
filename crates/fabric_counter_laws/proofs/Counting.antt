-- What the history of a run has of a counter.
use Rattle.std.proofs.Common.{ℕ, ◌≡◌, ◌+◌, zero, suc, Bool, true, false, List, [], ◌∷◌, length, Some, refl, sym, ap, subst, ◌∙◌, inl, inr, arith}
use Rattle.std.specs.Prelude.{slice_get, filter, cond, ◌⊎◌}
use Rattle.std.proofs.lemmas.Bool.{cases_eq, ne_eqb, eq-eqb}
use Rattle.tlp_core.specs.Ops.{Op}
use Rattle.tlp_core.specs.declared.operation.Width.{Width}
use Rattle.seq_memory.specs.Entries.{Entry}
use Rattle.seq_memory.specs.Limits.{Extent}
use Rattle.seq_memory.specs.History.{is_addition, additions, AddsOrLeaves, AreAddsOrLeave}
use Rattle.history_words.specs.Records.{Record}
use Rattle.history_words.specs.declared.record.RecordOf.TheVariants.{Sub, Ans}
use Rattle.history_words.specs.Trace.{submissions, IsLegal}
use Rattle.fabric_steps.specs.Lists.{Each, one_if}
use Rattle.fabric_steps.specs.ListFacts.{each_at}
use Rattle.fabric_counter_laws.specs.Counters.{AllFit}
use Rattle.fabric_counter_laws.proofs.Totals.{adding, of_entry}

pub counted : (a : ℕ) (w : Width) (es : List Entry) → additions a w es ≡ adding of_entry a w es
counted a w [] = refl
counted a w (e ∷ es) = let later = counted a w es in by (is_addition a w e.op) later
  where
    by : (b : Bool) → length (filter (λ (x : Entry). is_addition a w x.op) es) ≡ adding of_entry a w es
        → length (cond b (e ∷ filter (λ (x : Entry). is_addition a w x.op) es) (filter (λ (x : Entry). is_addition a w x.op) es)) ≡ one_if b + adding of_entry a w es
    by true later = omega (arith, later)
    by false later = omega (arith, later)

fit_submissions : (x : Extent) (a : ℕ) (w : Width) (rs : List Record) (i : ℕ) → AllFit x a w rs → Each (AddsOrLeaves x a w) (submissions rs i)
fit_submissions x a w [] i h = tt
fit_submissions x a w (Sub j k op n ∷ rs) i h = by (cases_eq i j) (fit_submissions x a w rs i h.1)
  where
    by : (i ≡ j) ⊎ (i ≡ j → ⊥) → Each (AddsOrLeaves x a w) (submissions rs i) → Each (AddsOrLeaves x a w) (submissions (Sub j k op n ∷ rs) i)
    by (inl own) later = rw (eq-eqb i j own) (h.0, later)
    by (inr other) later = rw (ne_eqb i j other) later
fit_submissions x a w (Ans j k reply n ∷ rs) i h = fit_submissions x a w rs i h.1

-- what acted was submitted
pub fit_entries : (x : Extent) (a : ℕ) (w : Width) (rs : List Record) (es : List Entry) → AllFit x a w rs → IsLegal (submissions rs) es → AreAddsOrLeave x a w es
fit_entries x a w rs es h legal p e at = each_at (AddsOrLeaves x a w) (submissions rs e.requester) e.number e.op (legal p e at).submitted (fit_submissions x a w rs e.requester h)
