-- Logs that a history explains.
use Rattle.std.proofs.Common.{◌≡◌, ℕ, List, [], ◌∷◌, length, true, None, refl, inr}
use Rattle.tlp_core.specs.Ops.{Op}
use Rattle.tlp_core.specs.Enables.{enables, ends_in_gap, is_one_run}
use Rattle.seq_memory.specs.Entries.{Entry}
use Rattle.seq_memory.specs.History.{contents}
use Rattle.history_words.specs.declared.record.RecordOf.TheVariants as records
use Rattle.history_words.specs.TraceView.{TraceView}
use Rattle.history_words.specs.Claim.{Claim, claim_of}
use Rattle.history_words.specs.Flaws.{first_flaw, first_at, any_below, misses, numbering_at, entry_at, answer_at}
use Rattle.history_words.specs.Trace.{Explains}
use Rattle.log_runs.specs.Explainable.{IsExplainable, SeenAlike}
use Rattle.log_rows.specs.Logs.{log_of, read, write, swap, value, write_passes_read, unanswered_swap}
use Rattle.log_rows.proofs.Clocks.{climbs, all_late, clocked}

entry : ℕ → ℕ → Op → Entry
entry i k op = record { requester = i; number = k; op = op }

abbrev pub Law : Type 0
Law = (x : Claim) → first_flaw x ≡ None → Explains x

by : Law → (t u : TraceView) (h : List Entry) → SeenAlike t u → first_flaw (claim_of u h) ≡ None → climbs 0 (length h) u.records ≡ true → all_late u.records 0 h ≡ true → IsExplainable t
by law t u h alike flaw c l = (u, h, alike, law (claim_of u h) flaw, clocked (claim_of u h) c l)

pub write_passes : Law → IsExplainable write_passes_read
unfolding entry contents first_at any_below misses numbering_at entry_at answer_at enables ends_in_gap is_one_run
write_passes law =
    by law write_passes_read (log_of (records.Sub 1 0 read 0 ∷ records.Sub 1 1 (write 7) 0 ∷ records.Ans 1 0 (value 7) 2 ∷ []))
    (entry 1 1 (write 7) ∷ entry 1 0 read ∷ []) (record { base = refl; size = refl; block = refl; records = ((refl, refl, refl), ((refl, refl, refl), ((refl, refl, inr refl), tt))) }) refl refl refl

pub swap_acts : Law → IsExplainable unanswered_swap
unfolding entry contents first_at any_below misses numbering_at entry_at answer_at enables ends_in_gap is_one_run
swap_acts law =
    by law unanswered_swap (log_of (records.Sub 1 0 (swap 7) 0 ∷ records.Sub 2 0 read 0 ∷ records.Ans 2 0 (value 7) 2 ∷ []))
    (entry 1 0 (swap 7) ∷ entry 2 0 read ∷ []) (record { base = refl; size = refl; block = refl; records = ((refl, refl, refl), ((refl, refl, refl), ((refl, refl, inr refl), tt))) }) refl refl refl
