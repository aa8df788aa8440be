-- The calls of a monitor: what it and the caller's buffer hold after them, and what they return.
use Rattle.std.specs.Prelude.{ℕ, ⊤, ◌≡◌, ◌≤◌, true, nat_lt, if◌then◌else◌, List, length, Option, Some, None, Result, Ok, Err, IsOk}
use Rattle.seq_memory.specs.Entries.{Entry}
use Rattle.history_words.specs.Records.{Record}
use Rattle.operation_text.specs.Words.{words}
use Rattle.trace_text.specs.Texts.{entry_line}
use Rattle.monitor_ports.specs.declared.head.Head.{Head}
use Rattle.monitor_ports.specs.declared.fault.MonitorFault.{MonitorFault}
use Rattle.monitor_ports.specs.Heads.{head_of, memory_of}
use Rattle.monitor_ports.specs.Texts.{head_lines, record_line}
use Rattle.monitor_ports.specs.Monitoring.{Monitor, request, completion, given_up, acted}
use Rattle.c_buffer.specs.declared.outcome.Failure.{Failure}
use Rattle.c_buffer.specs.declared.outcome.Failure.TheVariants.{SmallBuffer, NoLine}
use Rattle.c_buffer.specs.Buffer.{filled, Told, untold, told}
use Rattle.c_device.specs.Calls.{limits}
use Rattle.c_monitor.specs.Failures.{failure_of}

-- ---- making

-- the head's lines, unless there is no memory of these limits
abbrev pub made : List ℕ → Head → Result ⊤ Failure → Told ℕ
made buffer h (Ok _) = told buffer (head_lines h.is_trace (memory_of h))
made buffer h (Err f) = untold buffer (Err f)

abbrev pub made_by : List ℕ → Option Head → Told ℕ
made_by buffer None = untold buffer (Err NoLine)
made_by buffer (Some h) = made buffer h (limits h.base h.size h.block)

-- the buffer is tested first, then the line, then the limits of its memory
abbrev pub making : List ℕ → List ℕ → Told ℕ
making line buffer = if nat_lt (length buffer) 512 then untold buffer (Err SmallBuffer) else made_by buffer (head_of (words line))

-- the line asks for this
abbrev pub AsksFor : List ℕ → Head → Type 0
AsksFor line h = (head_of (words line) ≡ Some h) × (limits h.base h.size h.block ≡ Ok tt)

-- there is nothing to refuse but memory
abbrev pub IsMonitorCall : List ℕ → List ℕ → Type 0
IsMonitorCall line buffer = (512 ≤ length buffer) × (h : Head) × AsksFor line h

-- ---- packets, and requests that act

pub record MonitorCall : Type 0 where
  pub outcome : Result ℕ Failure
  pub monitor : Monitor
  pub buffer : List ℕ

abbrev pub unmoved : Monitor → List ℕ → Failure → MonitorCall
unmoved m buffer failure = record { outcome = Err failure; monitor = m; buffer = buffer }

-- the line stands in the buffer
abbrev pub said : Monitor → List ℕ → List ℕ → MonitorCall
said m buffer line = record { outcome = Ok (length line); monitor = m; buffer = filled buffer line }

abbrev pub recorded : Monitor → List ℕ → Result Record MonitorFault → Monitor → MonitorCall
recorded m buffer (Ok r) after = said after buffer (record_line m.is_trace r)
recorded m buffer (Err f) after = unmoved m buffer (failure_of f)

abbrev pub entered : Monitor → List ℕ → Result Entry MonitorFault → Monitor → MonitorCall
entered m buffer (Ok e) after = said after buffer (entry_line e)
entered m buffer (Err f) after = unmoved m buffer (failure_of f)

-- the buffer is tested first
abbrev pub request_call : Monitor → ℕ → List ℕ → List ℕ → MonitorCall
request_call m i packet buffer =
    if nat_lt (length buffer) 512 then unmoved m buffer SmallBuffer
    else recorded m buffer (request m i packet).answer (request m i packet).monitor

abbrev pub completion_call : Monitor → ℕ → List ℕ → List ℕ → MonitorCall
completion_call m i packet buffer =
    if nat_lt (length buffer) 512 then unmoved m buffer SmallBuffer
    else recorded m buffer (completion m i packet).answer (completion m i packet).monitor

abbrev pub acted_call : Monitor → ℕ → ℕ → List ℕ → MonitorCall
acted_call m i number buffer =
    if nat_lt (length buffer) 512 then unmoved m buffer SmallBuffer
    else entered m buffer (acted m i number).answer (acted m i number).monitor

abbrev pub gave_up : Result ⊤ MonitorFault → Result ⊤ Failure
gave_up (Ok _) = Ok tt
gave_up (Err f) = Err (failure_of f)

-- a tag that is given up has no line, and needs no buffer
abbrev pub give_up_outcome : Monitor → ℕ → ℕ → Result ⊤ Failure
give_up_outcome m i tag = gave_up (given_up m i tag).answer

-- there is nothing to refuse but memory: the buffer is large enough, and a trace takes the request
abbrev pub IsTraced : Monitor → ℕ → List ℕ → List ℕ → Type 0
IsTraced m i packet buffer = (512 ≤ length buffer) × (m.is_trace ≡ true) × IsOk (request m i packet).answer
