-- An answer as contracts see it, whether its reply is its own or lent.
use Rattle.seq_memory.specs.Entries.{Reply}
use Rattle.requester_core.specs.declared.answer.AnswerOf.{AnswerOf}

-- what a completion tells its requester
abbrev pub Answer : Type 0
Answer = AnswerOf Reply
