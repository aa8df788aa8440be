-- The numbers of 32 bits that stand for what calls return.
use Rattle.std.specs.Prelude.{ℕ, ⊤, ◌+◌, Result, Ok, Err}
use Rattle.c_buffer.specs.declared.outcome.Failure.{Failure}
use Rattle.c_buffer.specs.declared.outcome.Failure.TheVariants as failures
use Rattle.endpoint_core.specs.declared.endpoint.Handled.{Handled}
use Rattle.endpoint_core.specs.declared.endpoint.Handled.TheVariants as handles

-- from 1000 on a fault by its number, or by the length of its text; from 2000 on an argument, or out of memory
abbrev pub failure_code : Failure → ℕ
failure_code (failures.Fault number) = 1000 + number
failure_code (failures.Text length) = 1000 + length
failure_code failures.SmallBuffer = 2000
failure_code failures.WrongBlock = 2001
failure_code failures.NoRequest = 2002
failure_code failures.NoMemory = 2003
failure_code failures.WrongSize = 2004
failure_code failures.WrongBase = 2005
failure_code failures.NoEntry = 2006
failure_code failures.NoFault = 2007
failure_code failures.NoLine = 2008
failure_code failures.NoCompletion = 2010
failure_code failures.NoRequester = 2011
failure_code failures.WrongGranularity = 2012

-- below 1000 a length or an exit status
abbrev pub code_of : Result ℕ Failure → ℕ
code_of (Ok n) = n
code_of (Err f) = failure_code f

-- 0 for a call that returns no number
abbrev pub status_of : Result ⊤ Failure → ℕ
status_of (Ok _) = 0
status_of (Err f) = failure_code f

-- what became of a TLP at an endpoint
abbrev pub handled_code : Handled → ℕ
handled_code handles.Waits = 0
handled_code handles.Done = 0
handled_code handles.Ignored = 1
handled_code handles.Unsupported = 2
handled_code handles.Unexpected = 3
handled_code (handles.Malformed f) = 4

abbrev pub taken_of : Result Handled Failure → ℕ
taken_of (Ok h) = handled_code h
taken_of (Err f) = failure_code f
