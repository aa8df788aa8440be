-- What a packet takes of the credits (section 2.6.1).
use Rattle.std.specs.Prelude.{ℕ, ◌+◌, ◌/◌, length}
use Rattle.dllp_core.specs.declared.packet.Class.{Class}
use Rattle.dllp_core.specs.declared.packet.Class.TheVariants as classes
use Rattle.tlp_core.specs.declared.packet.Kind.{Kind}
use Rattle.tlp_core.specs.declared.packet.Kind.TheVariants as kinds
use Rattle.tlp_core.specs.TlpView.{TlpView}
use Rattle.flow_control.specs.declared.needs.Need.{Need}

-- the class of each kind of packet
abbrev pub class_of : Kind → Class
class_of kinds.MemoryRead = classes.NonPosted
class_of kinds.MemoryWrite = classes.Posted
class_of kinds.FetchAdd = classes.NonPosted
class_of kinds.Swap = classes.NonPosted
class_of kinds.Cas = classes.NonPosted
class_of kinds.Completion = classes.Completion
class_of kinds.CompletionData = classes.Completion

-- the data units, of 16 bytes, that hold so many bytes
abbrev pub units_of : ℕ → ℕ
units_of bytes = (bytes + 15) / 16

-- one header and so many data units of the class
abbrev pub takes : Class → ℕ → Need
takes class units = record { class = class; header = 1; units = units }

-- the table: what each kind takes, where its payload has so many data units
abbrev pub need_at : Kind → ℕ → Need
need_at kinds.MemoryRead units = takes classes.NonPosted 0
need_at kinds.MemoryWrite units = takes classes.Posted units
need_at kinds.FetchAdd units = takes classes.NonPosted units
need_at kinds.Swap units = takes classes.NonPosted units
need_at kinds.Cas units = takes classes.NonPosted units
need_at kinds.Completion units = takes classes.Completion 0
need_at kinds.CompletionData units = takes classes.Completion units

-- what a packet takes
abbrev pub need_of : TlpView → Need
need_of t = need_at t.kind (units_of (length t.payload))

-- what a completion with so many bytes of data takes
abbrev pub completion_need : ℕ → Need
completion_need bytes = takes classes.Completion (units_of bytes)
