-- What an error of the command line tells.
use Rattle.std.specs.Prelude.{◌≡◌, List, Option}
use Rattle.clap.specs.Words.{Row, Text, kind_of}
use Rattle.clap.specs.declared.error.Error.{Error}
use Rattle.clap.specs.declared.error.kind.ErrorKind.TheVariants as kinds
use Rattle.cli_options.specs.declared.refused.RefusedValue.{RefusedValue}
use Rattle.cli_words.specs.declared.words.Request.{Request}
use Rattle.cli_words.specs.declared.words.RequestFault.{RequestFault}
use Rattle.cli_words.specs.declared.words.RequestFault.TheVariants as faults
use Rattle.cli_words.specs.Options.{Asks}
use Rattle.cli_words.specs.Refusals.{Refuses}

-- P holds of the parser's error, if it is that
abbrev pub WordsFault : (Error → Type 0) → RequestFault → Type 0
WordsFault P (faults.Words e) = P e
WordsFault P (faults.Value v) = Unit {0}
WordsFault P faults.Nothing = Unit {0}

-- P holds, if the error is none of the parser's
abbrev pub RangeFault : Type 0 → RequestFault → Type 0
RangeFault P (faults.Words e) = Unit {0}
RangeFault P (faults.Value v) = P
RangeFault P faults.Nothing = P

-- P holds of the value that is refused, if one is
abbrev pub ValueFault : (RefusedValue → Type 0) → RequestFault → Type 0
ValueFault P (faults.Words e) = Unit {0}
ValueFault P (faults.Value v) = P v
ValueFault P faults.Nothing = Unit {0}

-- the subcommand with its values is refused for this
abbrev pub IsRefusal : Option (Text × List Row) → RequestFault → Type 0
IsRefusal o (faults.Words e) = ⊥
IsRefusal o (faults.Value v) = Refuses o v
IsRefusal o faults.Nothing = (r : Request) → Asks o r → ⊥

-- memory ran out while the words were read
abbrev pub IsMemoryFault : RequestFault → Type 0
IsMemoryFault (faults.Words e) = kind_of e ≡ kinds.OutOfMemory
IsMemoryFault (faults.Value v) = ⊥
IsMemoryFault faults.Nothing = ⊥
