-- Transaction Descriptor (section 2.2.6).
use Rattle.std.specs.Prelude.{ℕ}

pub record DescriptorView : Type 0 where
  -- Traffic Class and attributes, 0 to 7 each
  pub tc : ℕ
  pub attr : ℕ
  -- Requester ID
  pub requester : ℕ
  pub tag : ℕ
