-- The line that asks for a monitor.
use Rattle.std.specs.Prelude.{ℕ, Bool, true, false, if◌then◌else◌, List, [], ◌∷◌, Option, Some, None, codes, bytes_eq}
use Rattle.operation_text.specs.Words.{then_with, field, ended}
use Rattle.operation_text.specs.Numbers.{numeral}
use Rattle.seq_memory.specs.History.{MemoryView}
use Rattle.monitor_ports.specs.declared.head.Head.{Head}

-- `block` and its bytes
abbrev pub block_of : List (List ℕ) → Option ℕ
block_of [] = None
block_of (w ∷ ws) = if bytes_eq w (codes "block") then field (numeral 10 65535) ended ws else None

abbrev pub head_with : Bool → ℕ → ℕ → List (List ℕ) → Option Head
head_with is_trace base size ws =
    then_with (block_of ws) (λ b. Some (record { is_trace = is_trace; base = base; size = size; block = b }))

-- the base in hexadecimal, and the size
abbrev pub head_behind : Bool → List (List ℕ) → Option Head
head_behind is_trace ws =
    field (numeral 16 18446744073709551615) (λ base. field (numeral 10 18446744073709551615) (λ size. head_with is_trace base size)) ws

-- `log` or `trace`
abbrev pub head_of : List (List ℕ) → Option Head
head_of [] = None
head_of (w ∷ ws) =
    if bytes_eq w (codes "log") then head_behind false ws
    else (if bytes_eq w (codes "trace") then head_behind true ws else None)

-- the memory before any request acts
abbrev pub memory_of : Head → MemoryView
memory_of h = record { base = h.base; size = h.size; block = h.block; entries = [] }
