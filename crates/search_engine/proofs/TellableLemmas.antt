-- Lines can tell what is found, if they can tell the log.
use Rattle.std.proofs.Common.{◌≡◌, ℕ, ◌<◌, ◌^◌, List, [], ◌∷◌, length, All, refl, subst}
use Rattle.std.proofs.lemmas.List.Elements.{All-nil, All-cons, All-head, All-tail}
use Rattle.seq_memory.specs.Limits.{IsWithinLimits}
use Rattle.history_words.specs.Records.{Record}
use Rattle.history_words.specs.declared.record.RecordOf.TheVariants as records
use Rattle.history_words.specs.TraceView.{TraceView, observed}
use Rattle.history_words.specs.Claim.{Claim, claim_of}
use Rattle.history_words.specs.Clocks.{IsClocked}
use Rattle.history_words.specs.Trace.{Explains}
use Rattle.seq_memory.specs.History.{extent_of}
use Rattle.operation_text.specs.Operations.{IsSpelledOp}
use Rattle.trace_text.specs.Tellable.{IsRequest, IsTellable}
use Rattle.log_text.specs.ToldSubmissions.{IsToldSub}
use Rattle.log_runs.specs.Explainable.{IsSeenAs, AreSeenAs}
use Rattle.log_text.specs.Told.{IsToldLog}
use Rattle.search_engine.specs.Search.{IsFoundIn}

told_alike : (r u : Record) → IsSeenAs r u → IsToldSub r → IsToldSub u
told_alike (records.Sub i k op n) (records.Sub j l w m) e h =
    (subst (λ v. IsRequest v l) e.0 (subst (λ v. IsRequest i v) e.1 h.0), subst IsSpelledOp e.2 h.1)
told_alike (records.Sub i k op n) (records.Ans j l made m) e h = tt
told_alike (records.Ans i k told n) (records.Sub j l w m) e h = absurd e
told_alike (records.Ans i k told n) (records.Ans j l made m) e h = tt

all_told : (rs us : List Record) → AreSeenAs rs us → All IsToldSub rs → All IsToldSub us
all_told [] [] e all = All-nil IsToldSub
all_told [] (u ∷ us) e all = absurd e
all_told (r ∷ rs) [] e all = absurd e
all_told (r ∷ rs) (u ∷ us) e all = All-cons IsToldSub u us (told_alike r u e.0 (All-head IsToldSub r rs all)) (all_told rs us e.1 (All-tail IsToldSub r rs all))

-- lines can tell what is explained, if they can tell the submissions
abbrev pub Law : Type 0
Law = (c : Claim) → Explains c → IsClocked c → length c.memory.entries < 2 ^ 64 → IsWithinLimits (extent_of c.memory) → All IsToldSub c.records → IsTellable c

pub found_told : Law → (t : TraceView) (text : List ℕ) (status : ℕ) (f : IsFoundIn t text status) → IsToldLog t → IsTellable (claim_of f.trace f.history)
found_told law t text status f x =
    let extent : observed t ≡ observed f.trace = rw (f.alike.base, f.alike.size, f.alike.block) refl in
    law (claim_of f.trace f.history) f.explained f.clocked f.few (subst IsWithinLimits extent x.limits) (all_told t.records f.trace.records f.alike.records x.submissions)
