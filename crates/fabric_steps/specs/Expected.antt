-- A completion that its requester expects.
use Rattle.std.specs.Prelude.{ℕ, ◌≡◌, Some}
use Rattle.fabric_steps.specs.Whole.{MarkedPacket, RequesterView, open_number, size_at, FitsSize}
use Rattle.fabric_steps.specs.Sound.{IsCompletion}

-- it has the requester's port and an open tag, and its data the size that is kept there
pub record IsExpected (i : ℕ) (q : RequesterView) (c : MarkedPacket) : Type 0 where
  pub own : c.requester ≡ i
  pub kind : IsCompletion c
  pub number : ℕ
  pub tag_open : open_number q c.tag ≡ Some number
  pub size : FitsSize (size_at q c.tag) c.reply
