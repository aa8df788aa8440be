-- When memory is wanted.
use Rattle.std.proofs.Common.{◌≡◌, ℕ, true, List, refl, inl, inr, Err}
use Rattle.record_text.specs.declared.fault.ReadFault.{ReadFault}
use Rattle.record_text.specs.declared.fault.ReadFaultKind.{ReadFaultKind}
use Rattle.record_text.specs.declared.fault.ReadFaultKind.TheVariants as faults
use Rattle.log_text.specs.LogReaderView.{seen_of, SeenTells}
use Rattle.search_engine.specs.Findings.{is_memory}
use Rattle.search_engine.specs.Search.{WantsMemory}

memory-is : (kind : ReadFaultKind) → is_memory kind ≡ true → kind ≡ faults.Memory
memory-is faults.Head e = absurd (cc e)
memory-is faults.Line e = absurd (cc e)
memory-is faults.Section e = absurd (cc e)
memory-is faults.Memory e = refl

-- a reader that is out of memory was refused a record or an entry
pub wants : (text : List ℕ) (f : ReadFault) → ((t : List ℕ) (g : ReadFault) → seen_of t ≡ Err g → g.kind ≡ faults.Memory → ⊥) → is_memory f.kind ≡ true → SeenTells text f → WantsMemory text
wants text f known memory told = elim told [
  | inl is ↦ absurd (known text f is (memory-is f.kind memory))
  | inr refused ↦ inl (f, refused)
]
