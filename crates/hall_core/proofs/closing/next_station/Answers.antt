use Rattle.std.proofs.Common.{arith}
use Rattle.hall_laws.specs.declared.part.PartValue.TheVariants.{Requester}
use Rattle.hall_core.proofs.closing.next_station.Goals as goal

pub next-requires : goal.next-requires
next-requires c = let r = c.requires in (r.room.0, omega (arith, r.room.1), Requester r.there.0, r.there.3.requester)
