-- A refusal for another cause than memory is the answer.
use Rattle.std.proofs.Common.{◌≡◌, ap, sym, subst, Result, Ok, Err}
use Rattle.lane_core.specs.declared.packet.LaneRefusal.TheVariants.{NoCredits, WindowFull, Memory}
use Rattle.lane_core.specs.declared.packet.Arrival.TheVariants.{Answered, Gone}
use Rattle.link_replay.specs.declared.receiver.Reception.TheVariants.{Accept, Duplicate, NakNow, Quiet}
use Rattle.lane_core.specs.Steps.{SenderEndView}
use Rattle.fabric_steps.specs.Fabric.{Fabric}
use Rattle.fabric_steps.specs.Event.{Event, Seen}
use Rattle.fabric_steps.specs.declared.event.SeenOf.TheVariants as seen
use Rattle.fabric_steps.specs.declared.fault.Refusal.{Refusal}
use Rattle.fabric_steps.specs.declared.fault.Refusal.TheVariants as refusals
use Rattle.fabric_core.specs.Answers.{Refuses, Refused, answer, event_grows, serving_grows}
use Rattle.fabric_steps.specs.Faults.{IsTold}

lane_memory : (r : Refusal) → r ≡ refusals.Lane Memory → IsTold r → ⊥
lane_memory r h k = let no : IsTold (refusals.Lane Memory) = subst IsTold h k in cc

for_serving : (s s' : SenderEndView) (r : Refusal) → serving_grows s s' r → IsTold r → ⊥
for_serving s s' refusals.NoSuchPart h k = h
for_serving s s' refusals.Idle h k = h
for_serving s s' refusals.NotTakeable h k = h
for_serving s s' (refusals.Submit x) h k = h
for_serving s s' (refusals.Lane (NoCredits c)) h k = h
for_serving s s' (refusals.Lane WindowFull) h k = h
for_serving s s' (refusals.Lane Memory) h k = cc
for_serving s s' refusals.Memory h k = cc
for_serving s s' (refusals.Protocol x) h k = h
for_serving s s' (refusals.Strange x) h k = h
for_serving s s' (refusals.Route x) h k = h

never_told : (f f' : Fabric) (what : Seen) (r : Refusal) → event_grows f (what, f') r → IsTold r → ⊥
never_told f f' (seen.Submitted n) r h k = lane_memory r h k
never_told f f' (seen.Sent n) r h k = lane_memory r h k
never_told f f' (seen.Delivered (Answered Accept)) r h k = lane_memory r h k
never_told f f' (seen.Delivered (Answered Duplicate)) r h k = h
never_told f f' (seen.Delivered (Answered NakNow)) r h k = h
never_told f f' (seen.Delivered (Answered Quiet)) r h k = h
never_told f f' (seen.Delivered Gone) r h k = h
never_told f f' (seen.SentDllp d) r h k = lane_memory r h k
never_told f f' (seen.SeenDllp d) r h k = h
never_told f f' (seen.Back n) r h k = h
never_told f f' seen.Retrained r h k = h
never_told f f' (seen.To port) r h k = lane_memory r h k
never_told f f' (seen.At place) r h k = for_serving f.outward.sender f'.outward.sender r h k
never_told f f' (seen.Collected a) r h k = h

pub one_refusal : (f : Fabric) (event : Event) (r : Refusal) → Refused f event r → IsTold r → answer f event ≡ Err r
one_refusal f event r h k = by_answer (answer f event) h
  where
    by_answer : (a : Result (Seen × Fabric) Refusal) → Refuses (event_grows f) a r → a ≡ Err r
    by_answer (Ok x) j = absurd (never_told f x.1 x.0 r j k)
    by_answer (Err x) j = ap Err (sym j)
