-- Sequence numbers modulo 4096, and the true numbers that they stand for (section 3.6.2).
use Rattle.std.specs.Prelude.{ℕ, ◌+◌, ◌-◌, ◌%◌, ◌==◌, nat_le, nat_lt, if◌then◌else◌}
use Rattle.seq12.specs.declared.class.SequenceClass.{SequenceClass}
use Rattle.seq12.specs.declared.class.SequenceClass.TheVariants.{Expected, Duplicate, Ahead}

-- the number that is so many steps after n
abbrev pub plus_of : ℕ → ℕ → ℕ
plus_of n steps = (n + steps) % 4096

-- the number after n
abbrev pub next_of : ℕ → ℕ
next_of n = plus_of n 1

-- the number before n
abbrev pub previous_of : ℕ → ℕ
previous_of n = plus_of n 4095

-- how many steps lead from the second number to the first
abbrev pub distance_of : ℕ → ℕ → ℕ
distance_of to from = (to + 4096 - from) % 4096

-- what a receiver whose NEXT_RCV_SEQ is `next` takes a number for: at most 2048 behind it is a duplicate
abbrev pub class_of : ℕ → ℕ → SequenceClass
class_of next got =
    if got == next then Expected else (if nat_le (distance_of next got) 2048 then Duplicate else Ahead)

-- the same of true numbers, which don't wrap
abbrev pub true_class : ℕ → ℕ → SequenceClass
true_class next got = if got == next then Expected else (if nat_lt got next then Duplicate else Ahead)
