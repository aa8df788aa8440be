-- A receive queue: packets with their marks in order of arrival, the oldest at place 0.
use Rattle.std.specs.Prelude.{ℕ, Bool, false, List, [], ◌∷◌, take, drop, Option}
use Rattle.std.specs.List.{list_all, position}
use Rattle.dllp_core.specs.declared.packet.Class.{Class}
use Rattle.tlp_core.specs.TlpView.{TlpView}
use Rattle.flow_control.specs.Needs.{class_of}
use Rattle.flow_control.specs.Credits.{same}
use Rattle.flow_control.specs.Ordering.{may_pass}

-- a packet and its mark
abbrev pub Item : Type 0
Item = TlpView × ℕ

-- the packet may pass each of the items
abbrev pub passes_each : TlpView → List Item → Bool
passes_each t earlier = list_all (λ e. may_pass t e.0) earlier

-- the first of the items from a place on may pass each item before that place; false where there is none
abbrev pub first_passes : List Item → List Item → Bool
first_passes earlier [] = false
first_passes earlier (item ∷ later) = passes_each item.0 earlier

-- the place is there, and its item may pass every earlier one
abbrev pub is_takeable : List Item → ℕ → Bool
is_takeable queue place = first_passes (take place queue) (drop place queue)

-- the first place of a class
abbrev pub first_of : List Item → Class → Option ℕ
first_of queue class = position (λ item. same (class_of item.0.kind) class) queue
