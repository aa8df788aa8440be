-- Each event on the parts of a fabric: what it finds, and what it leaves.
use Rattle.std.specs.Prelude.{ℕ, ◌≡◌, ◌/◌, suc, true, List, [], ◌∷◌, ◌++◌, remove, slice_get, slice_set, Option, Some, None, Ok}
use Rattle.tlp_core.specs.Ops.{Op}
use Rattle.tlp_core.specs.TlpView.{TlpView}
use Rattle.tlp_core.specs.Operation.{op_of}
use Rattle.completer_core.specs.Serving.{completion_to, after_serving}
use Rattle.requester_core.specs.Answers.{Answer}
use Rattle.requester_core.specs.RequesterView.{RequesterView, prepared, after_opened, finished, after_finish, IsSound}
use Rattle.flow_control.specs.Queue.{is_takeable}
use Rattle.lane_core.specs.Steps.{LaneEndsView}
use Rattle.lane_core.specs.Calls.{content}
use Rattle.fabric_steps.specs.Fabric.{Fabric}

-- ---- calls of a lane, by its content

-- a packet was entered
abbrev pub IsEntered : LaneEndsView → TlpView → ℕ → LaneEndsView → Type 0
IsEntered e t mark e' = content e' ≡ content e ++ (t, mark) ∷ []

-- the packet of a takeable place was taken
pub record IsTakenAt (e : LaneEndsView) (place : ℕ) (t : TlpView) (mark : ℕ) (e' : LaneEndsView) : Type 0 where
  pub takeable : is_takeable e.receiver.queue place ≡ true
  pub item : slice_get e.receiver.queue place ≡ Some (t, mark)
  pub content : content e' ≡ remove (content e) place

-- a completion was entered, if there is one
abbrev pub are_entered : Option TlpView → ℕ → List (TlpView × ℕ)
are_entered None mark = []
are_entered (Some c) mark = (c, mark) ∷ []

-- ---- events

-- the requester of port i + 1 submits an operation
pub record IsSubmitted (f : Fabric) (i : ℕ) (op : Op) (f' : Fabric) : Type 0 where
  pub requester : RequesterView
  pub lane : LaneEndsView
  pub lane_after : LaneEndsView
  pub number : ℕ
  pub request : TlpView
  pub has_requester : slice_get f.requesters i ≡ Some requester
  pub has_lane : slice_get f.up i ≡ Some lane
  pub own_port : requester.port ≡ suc i
  pub sound : IsSound requester
  pub is_prepared : prepared requester op ≡ Ok (number, request)
  pub asks : op_of request ≡ Some op
  pub entered : IsEntered lane request number lane_after
  pub now : f' ≡ record f { up = slice_set f.up i lane_after; requesters = slice_set f.requesters i (after_opened requester request) }

-- a packet goes from the lane of port i + 1 to the memory's
pub record IsForwarded (f : Fabric) (i place : ℕ) (f' : Fabric) : Type 0 where
  pub lane : LaneEndsView
  pub lane_after : LaneEndsView
  pub memory_lane : LaneEndsView
  pub packet : TlpView
  pub mark : ℕ
  pub has_lane : slice_get f.up i ≡ Some lane
  pub taken : IsTakenAt lane place packet mark lane_after
  pub entered : IsEntered f.inward packet mark memory_lane
  pub now : f' ≡ record f { up = slice_set f.up i lane_after; inward = memory_lane }

-- a request acts on the memory, and its completion is entered
pub record IsServed (f : Fabric) (place : ℕ) (f' : Fabric) : Type 0 where
  pub lane_after : LaneEndsView
  pub completion_lane : LaneEndsView
  pub packet : TlpView
  pub mark : ℕ
  pub op : Op
  pub asks : op_of packet ≡ Some op
  pub taken : IsTakenAt f.inward place packet mark lane_after
  pub entered : content completion_lane ≡ content f.outward ++ are_entered (completion_to f.memory packet) mark
  pub now : f' ≡ record f { memory = after_serving f.memory packet mark; inward = lane_after; outward = completion_lane }

-- a completion goes back to the lane of its port, i + 1
pub record IsReturned (f : Fabric) (i place : ℕ) (f' : Fabric) : Type 0 where
  pub lane_after : LaneEndsView
  pub lane : LaneEndsView
  pub port_lane : LaneEndsView
  pub packet : TlpView
  pub mark : ℕ
  pub port : packet.requester / 256 ≡ suc i
  pub has_lane : slice_get f.down i ≡ Some lane
  pub taken : IsTakenAt f.outward place packet mark lane_after
  pub entered : IsEntered lane packet mark port_lane
  pub now : f' ≡ record f { outward = lane_after; down = slice_set f.down i port_lane }

-- the requester of port i + 1 collects the first completion of its lane
pub record IsCollected (f : Fabric) (i : ℕ) (a : Answer) (f' : Fabric) : Type 0 where
  pub requester : RequesterView
  pub lane : LaneEndsView
  pub lane_after : LaneEndsView
  pub packet : TlpView
  pub mark : ℕ
  pub has_requester : slice_get f.requesters i ≡ Some requester
  pub has_lane : slice_get f.down i ≡ Some lane
  pub taken : IsTakenAt lane 0 packet mark lane_after
  pub finishes : finished requester packet ≡ Ok a
  pub now : f' ≡ record f { down = slice_set f.down i lane_after; requesters = slice_set f.requesters i (after_finish requester packet) }

-- a call of the link at place i of the lanes leaves what each holds
pub record IsLinked (lanes : List LaneEndsView) (i : ℕ) (lanes' : List LaneEndsView) : Type 0 where
  pub lane : LaneEndsView
  pub lane_after : LaneEndsView
  pub has_lane : slice_get lanes i ≡ Some lane
  pub kept : content lane_after ≡ content lane
  pub now : lanes' ≡ slice_set lanes i lane_after
