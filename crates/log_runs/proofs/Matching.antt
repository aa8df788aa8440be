-- The state after a history.
use Rattle.std.proofs.Common.{◌≡◌, Option, ◌∙◌, ℕ, ◌<◌, true, false, List, [], ◌∷◌, ◌++◌, Some, length, refl, sym, ap, subst, inl, inr}
use Rattle.std.specs.Prelude.{slice_get}
use Rattle.std.proofs.lemmas.Bool.{cases_eq}
use Rattle.std.proofs.lemmas.Option.{slice_get_within}
use Rattle.tlp_core.specs.Ops.{Op}
use Rattle.seq_memory.specs.Entries.{Entry}
use Rattle.seq_memory.specs.History.{contents}
use Rattle.history_words.specs.Records.{Record}
use Rattle.history_words.specs.declared.record.RecordOf.TheVariants as records
use Rattle.history_words.specs.Trace.{stands, IsNumbered}
use Rattle.log_runs.specs.EventView as events
use Rattle.log_runs.specs.declared.Step.TheVariants as steps
use Rattle.log_runs.specs.LogView.{LogView}
use Rattle.log_runs.specs.Runs.{State, acted_on, bytes_after, start, next}
use Rattle.log_runs.proofs.Lists.{set_here, set_there, get_replicate}
use Rattle.log_runs.proofs.Numbers.{unique}
use Rattle.log_runs.proofs.Standing.{stands_same, stands_other, contents_push}

-- the state's marks and bytes are those of the history
pub record Matches (rs : List Record) (log : LogView) (s : State) (h : List Entry) : Type 0 where
  pub table : (b i k n : ℕ) (op : Op) → slice_get rs b ≡ Some (records.Sub i k op n) → slice_get s.acted b ≡ Some (stands h i k)
  pub bytes : s.bytes ≡ contents log.extent h

pub matches_start : (rs : List Record) (log : LogView) → length log.events ≡ length rs → Matches rs log (start log) []
unfolding contents
matches_start rs log len = record {
  table = λ b i k n op at. get_replicate (length log.events) b false (subst (λ l. b < l) (sym len) (slice_get_within rs b (records.Sub i k op n) at));
  bytes = refl;
}

acted_is : (log : LogView) (m : List ℕ) (b i : ℕ) (op : Op) (o : _) → slice_get log.events b ≡ Some (events.Sub i op o) → acted_on log.extent m (slice_get log.events b) ≡ bytes_after log.extent m op
unfolding acted_on
acted_is log m b i op o at = ap (acted_on log.extent m) at

pub matches_act : (rs : List Record) (log : LogView) (s : State) (h : List Entry) (b n j : ℕ) (e : Entry) (o : _) → IsNumbered rs → slice_get rs b ≡ Some (records.Sub e.requester e.number e.op n)
    → slice_get log.events b ≡ Some (events.Sub j e.op o) → Matches rs log s h → Matches rs log (next log s (steps.Act b)) (h ++ e ∷ [])
unfolding bytes_after
matches_act rs log s h b n j e o numbered at event m = record {
  table = λ c i k l op there. elim (cases_eq b c) [
    | inl same ↦
        let eq : Some (records.Sub e.requester e.number e.op n) ≡ Some (records.Sub i k op l) = sym at ∙ ap (slice_get rs) same ∙ there in
        let one : e.requester ≡ i = cc in
        let two : e.number ≡ k = cc in
        rw (← same, ← one, ← two) (set_here s.acted b true (stands h e.requester e.number) (m.table b e.requester e.number n e.op at) ∙ ap Some (sym (stands_same h e)))
    | inr other ↦
        set_there s.acted b c true other ∙ m.table c i k l op there
        ∙ ap Some (sym (stands_other h e i k (λ same. other (unique rs numbered b c i k n l e.op op (at ∙ named e i k n same.0 same.1) there))))
  ];
  bytes = acted_is log s.bytes b j e.op o event ∙ ap (λ x. bytes_after log.extent x e.op) m.bytes ∙ sym (contents_push log.extent h e);
}
  where
    named : (e : Entry) (i k n : ℕ) → i ≡ e.requester → k ≡ e.number → ◌≡◌ {A = Option Record} (Some (records.Sub e.requester e.number e.op n)) (Some (records.Sub i k e.op n))
    named e i k n one two = rw (one, two) refl
