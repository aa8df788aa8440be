-- What a device is made with.
use Rattle.std.specs.Prelude.{ℕ, Bool, ◌||◌, ◌==◌}

-- a power of two from 4096 to 1,048,576
abbrev pub is_size : ℕ → Bool
is_size n =
    (n == 4096) || (n == 8192) || (n == 16384) || (n == 32768) || (n == 65536) || (n == 131072) || (n == 262144) || (n == 524288) || (n == 1048576)

-- the bytes of the memory, Vendor ID and Device ID
pub record SetupView : Type 0 where
  pub size : ℕ
  pub vendor : ℕ
  pub device : ℕ
