-- The CRCs of a link in the caller's buffer, and checks.
use Rattle.std.specs.Prelude.{ℕ, ◌==◌, nat_lt, if◌then◌else◌, List, length, Err}
use Rattle.std.specs.Int.{w16, w32, to_be_bytes}
use Rattle.c_buffer.specs.declared.outcome.Failure.TheVariants.{SmallBuffer, Fault}
use Rattle.c_buffer.specs.Buffer.{Told, untold, told}
use Rattle.link_crc.specs.Crc.{lcrc_of, dllp_crc_of}
use Rattle.link_crc.specs.Checks.{lcrc_check_of, dllp_check_of}
use Rattle.link_crc.specs.declared.check.LcrcCheck.{LcrcCheck}
use Rattle.link_crc.specs.declared.check.LcrcCheck.TheVariants as packets
use Rattle.link_crc.specs.declared.check.Check.{Check}
use Rattle.link_crc.specs.declared.check.Check.TheVariants as dllps

-- the LCRC of a packet, its highest byte first
abbrev pub lcrc_told : List ℕ → List ℕ → Told ℕ
lcrc_told packet buffer =
    if nat_lt (length buffer) 4 then untold buffer (Err SmallBuffer) else told buffer (to_be_bytes w32 (lcrc_of packet))

-- the CRC of a DLLP of four bytes, its highest byte first
abbrev pub dllp_crc_told : List ℕ → List ℕ → Told ℕ
dllp_crc_told dllp buffer =
    if nat_lt (length buffer) 2 then untold buffer (Err SmallBuffer)
    else (if length dllp == 4 then told buffer (to_be_bytes w16 (dllp_crc_of dllp)) else untold buffer (Err (Fault 1)))

-- 0 is good, 1 failed, 2 nullified
abbrev pub packet_code : LcrcCheck → ℕ
packet_code packets.Good = 0
packet_code packets.Failed = 1
packet_code packets.Nullified = 2

abbrev pub packet_verdict : List ℕ → ℕ
packet_verdict packet = packet_code (lcrc_check_of packet)

abbrev pub dllp_code : Check → ℕ
dllp_code dllps.Good = 0
dllp_code dllps.Failed = 1

abbrev pub dllp_verdict : List ℕ → ℕ
dllp_verdict dllp = if length dllp == 6 then dllp_code (dllp_check_of dllp) else 1
