-- A trace as contracts see it.
use Rattle.std.specs.Prelude.{ℕ, List}
use Rattle.seq_memory.specs.Limits.{Extent}
use Rattle.history_words.specs.Records.{Record}

-- what requesters submitted and were answered, over a memory of that base, size and block
pub record TraceView : Type 0 where
  pub base : ℕ
  pub size : ℕ
  pub block : ℕ
  pub records : List Record

-- where that memory lies
abbrev pub observed : TraceView → Extent
observed t = record { base = t.base; size = t.size; block = t.block }
