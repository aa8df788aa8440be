-- Records, by their headers.
use Rattle.std.proofs.Common.{◌≡◌, ℕ, Bool, Option, Some, None, refl}
use Rattle.std.specs.Prelude.{option_map}
use Rattle.tlp_core.specs.Ops.{Op}
use Rattle.seq_memory.specs.Entries.{Reply}
use Rattle.history_words.specs.Headers.{header_of}
use Rattle.history_words.specs.Records.{Record}
use Rattle.history_words.specs.declared.record.RecordOf.TheVariants as records
use Rattle.history_words.specs.declared.claim.RecordHeader.TheVariants as headers

pub sub_there : (o : Option Record) (i k : ℕ) (posted : Bool) (n : ℕ) → option_map header_of o ≡ Some (headers.Sub i k posted n) → (op : Op) × (o ≡ Some (records.Sub i k op n))
sub_there (Some (records.Sub j l op m)) i k posted n e = (op, cc)
sub_there (Some (records.Ans j l reply m)) i k posted n e = absurd cc
sub_there None i k posted n e = absurd cc

pub ans_there : (o : Option Record) (i k n : ℕ) → option_map header_of o ≡ Some (headers.Ans i k n) → (reply : Reply) × (o ≡ Some (records.Ans i k reply n))
ans_there (Some (records.Ans j l reply m)) i k n e = (reply, cc)
ans_there (Some (records.Sub j l op m)) i k n e = absurd cc
ans_there None i k n e = absurd cc

pub none_there : (o : Option Record) → option_map header_of o ≡ None → o ≡ None
none_there None e = refl
none_there (Some r) e = absurd cc
