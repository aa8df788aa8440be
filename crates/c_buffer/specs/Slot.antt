-- What a slot owns: a boxed value, or nothing.
use base.Fml.{Fml, ftrue}
use denote.RattleType.{RattleType}
use denote.RawPtr.{Ptr}
use Rattle.std.specs.Prelude.{Option, None, Some}
use Rattle.std.specs.Box.Ownership.{box_owns}
use Rattle.std.specs.Global.{Global}
use Rattle.std_heap.specs.contracts.GlobalAllocator.TheImpl.{ghosts}

abbrev pub slot_owns : (R : RattleType) → Global → Ptr → Option R.Denot → Fml
slot_owns R alloc p None = ftrue
slot_owns R alloc p (Some x) = box_owns (ghosts.dealloc_token alloc) R p x
