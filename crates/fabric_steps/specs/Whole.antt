-- The fabric as one value.
use Rattle.std.specs.Prelude.{ℕ, ◌≡◌, if◌then◌else◌, List, [], ◌∷◌, ◌++◌, map, length, Option, Some, None, option_map}
use Rattle.std.proofs.Common.{get_or}
pub use Rattle.tlp_core.specs.Ops.{Op}
pub use Rattle.tlp_core.specs.Operation.{is_posted}
pub use Rattle.tlp_core.specs.Operation.{count_of}
pub use Rattle.seq_memory.specs.Entries.{Entry}
pub use Rattle.seq_memory.specs.Entries.{Reply}
use Rattle.seq_memory.specs.declared.reply.ReplyOf.TheVariants as replies
use Rattle.tlp_core.specs.declared.operation.OpOf.TheVariants as ops
pub use Rattle.dllp_core.specs.declared.packet.Class.{Class}
use Rattle.dllp_core.specs.declared.packet.Class.TheVariants as classes
pub use Rattle.requester_core.specs.RequesterView.{RequesterView}
use Rattle.requester_core.specs.declared.requester.OpenRequest.{OpenRequest}
pub use Rattle.seq_memory.specs.Limits.{Extent}
use Rattle.seq_memory.specs.Step.{answer}
use Rattle.seq_memory.specs.History.{MemoryView, contents}

-- what the sequential memory replies to the operation after these entries
unfoldable pub reply_after : Extent → List Entry → Op → Reply
reply_after g h op = answer g.base g.block (contents g h) op

-- the reply has that many bytes, or none
abbrev pub FitsSize : ℕ → Reply → Type 0
FitsSize size (replies.Data bytes) = length bytes.items ≡ size
FitsSize size _ = Unit {0}

-- a packet with its mark
pub record MarkedPacket : Type 0 where
  pub requester : ℕ
  pub tag : ℕ
  pub class : Class
  pub op : Op
  pub reply : Reply
  pub mark : ℕ

-- stands where there is no operation
abbrev pub no_op : Op
no_op = ops.Read 0 0 0 0

abbrev pub class_of_op : Op → Class
class_of_op op = if is_posted op then classes.Posted else classes.NonPosted

abbrev pub entry_of : MarkedPacket → Entry
entry_of x = record { requester = x.requester; number = x.mark; op = x.op }

abbrev pub marked_request : ℕ → ℕ → ℕ → Op → MarkedPacket
marked_request i tag k op = record { requester = i; tag = tag; class = class_of_op op; op = op; reply = replies.Done; mark = k }

abbrev pub marked_completion : MarkedPacket → Reply → MarkedPacket
marked_completion x reply = record { requester = x.requester; tag = x.tag; class = classes.Completion; op = no_op; reply = reply; mark = x.mark }

-- a posted write has none
abbrev pub completions_for : MarkedPacket → Reply → List MarkedPacket
completions_for x reply = if is_posted x.op then [] else marked_completion x reply ∷ []

-- the contents of the lanes, and the other parts
pub record Whole : Type 0 where
  pub extent : Extent
  pub history : List Entry
  pub inward : List MarkedPacket
  pub outward : List MarkedPacket
  pub up : List (List MarkedPacket)
  pub down : List (List MarkedPacket)
  pub requesters : List RequesterView

abbrev pub memory : Extent → List Entry → MemoryView
memory g h = record { base = g.base; size = g.size; block = g.block; entries = h }

-- the memory, as contracts see it
abbrev pub memory_of : Whole → MemoryView
memory_of p = memory p.extent p.history

-- what concerns one requester
pub record View : Type 0 where
  pub extent : Extent
  pub history : List Entry
  pub inward : List MarkedPacket
  pub outward : List MarkedPacket
  pub up : List MarkedPacket
  pub down : List MarkedPacket
  pub requester : RequesterView

abbrev pub unused : RequesterView
unused = record { port = 0; next = 0; open_tags = [] }

abbrev pub up_of : Whole → ℕ → List MarkedPacket
up_of p i = get_or p.up i []

abbrev pub down_of : Whole → ℕ → List MarkedPacket
down_of p i = get_or p.down i []

abbrev pub requester_of : Whole → ℕ → RequesterView
requester_of p i = get_or p.requesters i unused

abbrev pub view : Whole → ℕ → View
view p i = record { extent = p.extent; history = p.history; inward = p.inward; outward = p.outward; up = up_of p i; down = down_of p i; requester = requester_of p i }

-- the number that is open under the tag
abbrev pub open_number : RequesterView → ℕ → Option ℕ
open_number q t = option_map (λ o. o.number) (get_or q.open_tags t None)

abbrev pub size_in : Option OpenRequest → ℕ
size_in None = 0
size_in (Some o) = o.size

-- the size that is kept under the tag
abbrev pub size_at : RequesterView → ℕ → ℕ
size_at q t = size_in (get_or q.open_tags t None)

abbrev pub path : View → List Entry
path v = v.history ++ (map entry_of v.inward ++ map entry_of v.up)
