-- What a device records of its memory, as contracts see it.
use Rattle.std.specs.Prelude.{ℕ, Option}
use Rattle.history_words.specs.Claim.{Claim}

pub record LogView : Type 0 where
  -- what requester 1 submitted and was answered, and the history
  pub claim : Claim
  -- how many block requests were submitted
  pub submitted : ℕ
  -- the number of the next block request of the oldest request that waits, if a block of that has acted
  pub begun : Option ℕ
