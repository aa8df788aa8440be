-- Configuration registers of 32 bits (PCI Express Base 4.0, sections 7.5.1, 7.5.2 and 7.5.3).
use Rattle.std.specs.Prelude.{ℕ, ◌+◌, ◌-◌, ◌*◌, ◌/◌, ◌%◌, ◌^◌, ◌==◌, ◌&&◌, ◌||◌, Bool, nat_le, if◌then◌else◌, bit_and, bit_or, Option, Some, None}
use Rattle.config_core.specs.declared.register.Register.{Register}
use Rattle.config_core.specs.declared.registers.Noted.{Noted}
use Rattle.config_core.specs.declared.registers.Noted.TheVariants as noted
use Rattle.config_core.specs.SetupView.{SetupView}
use Rattle.config_core.specs.RegistersView.{RegistersView}

-- ---- one register

-- after a reset, the bits that a write sets, the bits that a 1 clears; all other bits are read-only
abbrev pub row : ℕ → ℕ → ℕ → Register
row reset written cleared = record { reset = reset; written = written; cleared = cleared }

-- the bits of the bytes that are enabled
abbrev pub lanes : ℕ → ℕ
lanes e = e % 2 * 0xFF + e / 2 % 2 * 0xFF00 + e / 4 % 2 * 0xFF0000 + e / 8 % 2 * 0xFF000000

-- the value after a write with these byte enables
abbrev pub after_write : Register → ℕ → ℕ → ℕ → ℕ
after_write r enables new old =
    let set = bit_and r.written (lanes enables) in
    let gone = bit_and new (bit_and r.cleared (lanes enables)) in
    bit_or (bit_and old (2 ^ 32 - 1 - bit_or set gone)) (bit_and new set)

-- ---- the table

-- the Device ID above the Vendor ID
abbrev pub identity : SetupView → ℕ
identity s = s.device * 65536 + s.vendor

-- the register at an offset; where the table has none, it reads 0 and a write changes nothing
abbrev pub register_at : SetupView → ℕ → Register
register_at s offset =
    if offset == 0x000 then row (identity s) 0 0  -- Vendor ID, Device ID
    else (if offset == 0x004 then row 0x00100000 0x00000142 0xF9000000  -- Command: Memory Space Enable, Parity Error Response, SERR# Enable; Status: Capabilities List
    else (if offset == 0x008 then row 0x05000001 0 0  -- Revision ID 1; Class Code 050000h, RAM
    else (if offset == 0x00C then row 0 0x000000FF 0  -- Cache Line Size; Header Type 0
    else (if offset == 0x010 then row 0x0000000C (2 ^ 32 - s.size) 0  -- BAR 0: 64 bits, prefetchable
    else (if offset == 0x014 then row 0 0xFFFFFFFF 0  -- its upper half
    else (if offset == 0x02C then row (identity s) 0 0  -- Subsystem Vendor ID, Subsystem ID
    else (if offset == 0x034 then row 0x00000040 0 0  -- Capabilities Pointer
    else (if offset == 0x03C then row 0 0x000000FF 0  -- Interrupt Line; no Interrupt Pin
    else (if offset == 0x040 then row 0x00035001 0 0  -- Power Management Capabilities: version 3, the next at 50h
    else (if offset == 0x044 then row 0x00000008 0x00000003 0  -- PMCSR: PowerState, No_Soft_Reset
    else (if offset == 0x050 then row 0x00020010 0 0  -- PCI Express Capabilities: version 2, Endpoint, the last
    else (if offset == 0x054 then row 0x00008000 0 0  -- Device Capabilities: payloads of 128 bytes, Role-Based Error Reporting
    else (if offset == 0x058 then row 0 0x0000000F 0x000F0000  -- Device Control: error reporting enables; Device Status: errors detected
    else (if offset == 0x05C then row 0x00400011 0 0  -- Link Capabilities: 2.5 GT/s, x1, ASPM Optionality Compliance
    else (if offset == 0x060 then row 0x00110000 0x000000C3 0  -- Link Control: ASPM, Common Clock, Extended Synch; Link Status: 2.5 GT/s, x1
    else (if offset == 0x074 then row 0x00000380 0 0  -- Device Capabilities 2: AtomicOp completer of 32, 64 and 128 bits
    else (if offset == 0x07C then row 0x00000002 0 0  -- Link Capabilities 2: 2.5 GT/s
    else row 0 0 0)))))))))))))))))

-- ---- the registers that change

abbrev pub after_reset : SetupView → RegistersView
after_reset s = record {
  setup = s;
  command = (register_at s 0x004).reset;
  cache_line = (register_at s 0x00C).reset;
  bar_low = (register_at s 0x010).reset;
  bar_high = (register_at s 0x014).reset;
  interrupt = (register_at s 0x03C).reset;
  power = (register_at s 0x044).reset;
  device = (register_at s 0x058).reset;
  link = (register_at s 0x060).reset;
}

-- what a read of the register at an offset returns
abbrev pub value : RegistersView → ℕ → ℕ
value r offset =
    if offset == 0x004 then r.command
    else (if offset == 0x00C then r.cache_line
    else (if offset == 0x010 then r.bar_low
    else (if offset == 0x014 then r.bar_high
    else (if offset == 0x03C then r.interrupt
    else (if offset == 0x044 then r.power
    else (if offset == 0x058 then r.device
    else (if offset == 0x060 then r.link
    else (register_at r.setup offset).reset)))))))

-- one register with another value
abbrev pub put : RegistersView → ℕ → ℕ → RegistersView
put r offset new =
    if offset == 0x004 then record r { command = new }
    else (if offset == 0x00C then record r { cache_line = new }
    else (if offset == 0x010 then record r { bar_low = new }
    else (if offset == 0x014 then record r { bar_high = new }
    else (if offset == 0x03C then record r { interrupt = new }
    else (if offset == 0x044 then record r { power = new }
    else (if offset == 0x058 then record r { device = new }
    else (if offset == 0x060 then record r { link = new }
    else r)))))))

-- a PowerState of D1 or D2 isn't taken
abbrev pub offered : ℕ → ℕ → ℕ → ℕ
offered offset new old =
    if (offset == 0x044) && ((new % 4 == 1) || (new % 4 == 2)) then old else new

-- the registers after a write with these byte enables
abbrev pub written : RegistersView → ℕ → ℕ → ℕ → RegistersView
written r offset enables new =
    put r offset (after_write (register_at r.setup offset) enables (offered offset new (value r offset)) (value r offset))

-- Device Status: bit 19 Unsupported Request, 18 Fatal, 17 Non-Fatal, 16 Correctable Error Detected, which stands for the
-- advisory ones, too
abbrev pub device_bits : Noted → ℕ
device_bits noted.Refused = 0x00090000
device_bits noted.Unclaimed = 0x000A0000
device_bits noted.Unexpected = 0x00010000
device_bits noted.Poisoned = 0x00010000
device_bits noted.Dropped = 0x00020000
device_bits noted.Fatal = 0x00040000

abbrev pub after_error : RegistersView → Noted → RegistersView
after_error r error = record r { device = bit_or r.device (device_bits error) }

-- Status: Detected Parity Error
abbrev pub after_poison : RegistersView → RegistersView
after_poison r = record r { command = bit_or r.command 0x80000000 }

-- ---- the memory's place

abbrev pub base_of : RegistersView → ℕ
base_of r = r.bar_high * 2 ^ 32 + r.bar_low / 16 * 16

-- Memory Space Enable is 1, and PowerState is D0
abbrev pub is_on : RegistersView → Bool
is_on r = (r.command / 2 % 2 == 1) && (r.power % 4 == 0)

-- where in the memory a place of so many bytes begins, if the BAR claims all of it
abbrev pub claimed : RegistersView → ℕ → ℕ → Option ℕ
claimed r address count =
    if is_on r && (nat_le (base_of r) address && nat_le (address + count) (base_of r + r.setup.size)) then Some (address - base_of r) else None
