-- What comes of a log, and of the same log in pieces.
use Rattle.std.proofs.Common.{◌≡◌, ℕ, ◌≤◌, List, length, Option, refl, sym, subst}
use Rattle.seq_memory.specs.Entries.{Entry}
use Rattle.history_words.specs.TraceView.{TraceView}
use Rattle.history_words.specs.Claim.{claim_of}
use Rattle.trace_store.specs.Changes.{seen_by}
use Rattle.log_runs.specs.Explainable.{SeenAlike, IsExplainable, prefix as first}
use Rattle.log_pieces.specs.declared.Granularity.{Granularity}
use Rattle.log_pieces.specs.declared.Granularity.TheVariants.{Whole}
use Rattle.log_pieces.specs.InPieces.{in_pieces}
use Rattle.search_run.specs.declared.exploring.Bounds.{Bounds}
use Rattle.search_engine.specs.declared.answering.Finding.{Finding}
use Rattle.search_engine.specs.declared.answering.Finding.TheVariants as findings
use Rattle.search_engine.specs.declared.granularity.Pieces.{Pieces}
use Rattle.search_engine.specs.Bounded.{WasSearched}
use Rattle.search_engine.specs.Findings.{AreUnexplained, IsFindingOf}

-- what is seen in a store that was made of it
pub seen_again : (t : TraceView) (h : List Entry) → seen_by (claim_of t h) ≡ t
seen_again t h = refl

-- whole requests are their own pieces
pub whole_is : (t : TraceView) → in_pieces Whole t ≡ t
unfolding in_pieces
whole_is t = refl

pub alike_in_whole : (t u : TraceView) → SeenAlike t u → SeenAlike (in_pieces Whole t) u
alike_in_whole t u alike = subst (λ (v : TraceView). SeenAlike v u) (sym (whole_is t)) alike

pub unexplained_in_whole : (t : TraceView) (count : ℕ) → count ≤ length t.records → (IsExplainable (first count t) → ⊥) → AreUnexplained Whole t count
unexplained_in_whole t count l dead = record { within = l; unexplained = λ e. dead (subst IsExplainable (whole_is (first count t)) e) }

pub unexplained : (t : TraceView) (count : ℕ) → AreUnexplained Whole t count → IsExplainable (first count t) → ⊥
unexplained t count dead e = dead.unexplained (subst IsExplainable (sym (whole_is (first count t))) e)

pub searched_in_whole : (t : TraceView) (n : ℕ) → WasSearched (in_pieces Whole t) n → WasSearched t n
searched_in_whole t n h = subst (λ (u : TraceView). WasSearched u n) (whole_is t) h

-- what is found of the log in pieces is found of the log, but for where it has none
pub of_log : (size : Granularity) (bounds : Bounds) (t : TraceView) (f : Finding) → IsFindingOf Whole bounds (in_pieces size t) f
    → ((u : TraceView) (count : ℕ) (pieces : Option Pieces) → f ≡ findings.None u count pieces → ⊥) → IsFindingOf size bounds t f
of_log size bounds t (findings.Found store) h none = (subst (λ (v : TraceView). SeenAlike v (seen_by store)) (whole_is (in_pieces size t)) h.0, h.1, h.2, h.3)
of_log size bounds t (findings.None seen count pieces) h none = absurd (none seen count pieces refl)
of_log size bounds t (findings.Limit seen ending far pieces) h none = (h.0, searched_in_whole (in_pieces size t) ending.choices h.1)
of_log size bounds t (findings.Flaw seen flaw) h none = h
of_log size bounds t (findings.Fault f) h none = h
