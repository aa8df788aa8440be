-- Logs that no history explains.
use Rattle.std.proofs.Common.{◌≡◌, ℕ, zero, suc, List, [], ◌∷◌, Option, Some, refl, subst, ap}
use Rattle.std.specs.Prelude.{slice_get}
use Rattle.std.proofs.lemmas.Option.{same_Some}
use Rattle.tlp_core.specs.Enables.{enables, ends_in_gap, is_one_run}
use Rattle.seq_memory.specs.Entries.{Reply}
use Rattle.history_words.specs.Records.{Record}
use Rattle.history_words.specs.declared.record.RecordOf.TheVariants as records
use Rattle.history_words.specs.TraceView.{TraceView, observed}
use Rattle.log_runs.specs.EventView.{EventView}
use Rattle.log_runs.specs.EventView as events
use Rattle.log_runs.specs.Runs.{Live, start, reply_of, bytes_after, acted_on}
use Rattle.log_runs.specs.Tasks.{known, Says, AreEvents}
use Rattle.log_runs.specs.Explainable.{IsExplainable}
use Rattle.log_rows.specs.Logs.{read, swap, add, value, stale_read, lost_update}
use Rattle.log_rows.proofs.Endings.{is_dead, all_below, no_run}

abbrev pub Law : Type 0
Law = (t : TraceView) (es : List EventView) → AreEvents t.records es → IsExplainable t → Live (record { extent = observed t; events = es }) (start (record { extent = observed t; events = es }))

says : (rs : List Record) (x r : Record) (y e : EventView) → Some x ≡ Some r → Some y ≡ Some e → Says rs x y → Says rs r e
says rs x r y e at there s = subst (λ z. Says rs r z) (same_Some y e there) (subst (λ z. Says rs z y) (same_Some x r at) s)

abbrev answer_with : ℕ → Reply → Option Record
answer_with i r = Some (records.Ans i 0 r 0)

answered : (i : ℕ) (x r : Reply) → Some x ≡ Some r → answer_with i x ≡ answer_with i r
answered i x r e = ap (answer_with i) (same_Some x r e)

-- a value is known
is_known : (v : ℕ) (r : Reply) → Some (value v) ≡ Some r → known r ≡ Some r
is_known v r e = subst (λ z. known z ≡ Some z) (same_Some (value v) r e) refl

stale_events : List EventView
stale_events = events.Sub 1 (swap 5) (Some (value 0)) ∷ events.Due 0 ∷ events.Sub 2 read (Some (value 0)) ∷ events.Due 2 ∷ []

stale_are : AreEvents stale_read.records stale_events
unfolding stale_events
stale_are = record { len = refl; at = at }
  where
    at : (a : ℕ) (r : Record) (e : EventView) → slice_get stale_read.records a ≡ Some r → slice_get stale_events a ≡ Some e → Says stale_read.records r e
    at zero r e x y = says stale_read.records _ r _ e x y (refl, refl, λ d is. (1, 0, answered 1 (value 0) d is, is_known 0 d is))
    at (suc zero) r e x y = says stale_read.records _ r _ e x y (swap 5, 0, refl)
    at (suc (suc zero)) r e x y = says stale_read.records _ r _ e x y (refl, refl, λ d is. (3, 0, answered 2 (value 0) d is, is_known 0 d is))
    at (suc (suc (suc zero))) r e x y = says stale_read.records _ r _ e x y (read, 0, refl)
    at (suc (suc (suc (suc a)))) r e x y = cc

pub stale : Law → IsExplainable stale_read → ⊥
unfolding stale_events is_dead all_below reply_of bytes_after acted_on enables ends_in_gap is_one_run
stale law x = no_run 7 (record { extent = observed stale_read; events = stale_events }) refl (law stale_read stale_events stale_are x)

lost_events : List EventView
lost_events = events.Sub 1 (add 1) (Some (value 0)) ∷ events.Sub 2 (add 1) (Some (value 0)) ∷ events.Due 0 ∷ events.Due 1 ∷ []

lost_are : AreEvents lost_update.records lost_events
unfolding lost_events
lost_are = record { len = refl; at = at }
  where
    at : (a : ℕ) (r : Record) (e : EventView) → slice_get lost_update.records a ≡ Some r → slice_get lost_events a ≡ Some e → Says lost_update.records r e
    at zero r e x y = says lost_update.records _ r _ e x y (refl, refl, λ d is. (2, 0, answered 1 (value 0) d is, is_known 0 d is))
    at (suc zero) r e x y = says lost_update.records _ r _ e x y (refl, refl, λ d is. (3, 0, answered 2 (value 0) d is, is_known 0 d is))
    at (suc (suc zero)) r e x y = says lost_update.records _ r _ e x y (add 1, 0, refl)
    at (suc (suc (suc zero))) r e x y = says lost_update.records _ r _ e x y (add 1, 0, refl)
    at (suc (suc (suc (suc a)))) r e x y = cc

pub lost : Law → IsExplainable lost_update → ⊥
unfolding lost_events is_dead all_below reply_of bytes_after acted_on enables ends_in_gap is_one_run
lost law x = no_run 7 (record { extent = observed lost_update; events = lost_events }) refl (law lost_update lost_events lost_are x)
