-- A configuration without a fault has its new fabric.
use Rattle.std.proofs.Common.{◌≡◌, ◌∙◌, ℕ, zero, suc, ◌+◌, Bool, true, false, if◌then◌else◌, length, replicate, Option, Some, None, refl, sym, ap, arith}
use Rattle.std.specs.Prelude.{not, ◌&&◌, slice_get}
use Rattle.std.proofs.lemmas.Bool.Decides.{nat_tests}
use Rattle.std.proofs.lemmas.List.{length-replicate}
use Rattle.std.proofs.lemmas.Option.{same_Some}
use Rattle.flow_control.specs.declared.limits.LaneCredits.{LaneCredits}
use Rattle.seq_memory.specs.Limits.{IsSize, IsBase, IsBlock, is_size, is_base, is_block}
use Rattle.requester_core.specs.RequesterView.{RequesterView, fresh}
use Rattle.lane_core.specs.Steps.{LaneEndsView, new_lane}
use Rattle.fabric_core.specs.declared.config.Config.{Config}
use Rattle.fabric_core.specs.declared.config.ConfigFault.{ConfigFault}
use Rattle.fabric_core.specs.declared.config.ConfigFault.TheVariants as faults
use Rattle.fabric_core.specs.Config.{IsBetween, AreCredits, IsConfig, IsNewWith, down_credits}
use Rattle.fabric_core.specs.New.{fresh_from, new_fabric, config_fault, is_between, are_header_credits, are_data_credits, are_credits}

-- ---- the tests

not_found : (b : Bool) (x : ConfigFault) (rest : Option ConfigFault) → (if not b then Some x else rest) ≡ None → (b ≡ true) × (rest ≡ None)
not_found true x rest e = (refl, e)
not_found false x rest e = absurd cc

both : (x y : Bool) → (x && y) ≡ true → (x ≡ true) × (y ≡ true)
both true y e = (refl, e)
both false y e = absurd cc

between : (least most n : ℕ) → is_between least most n ≡ true → IsBetween least most n
between least most n e = grind (arith, nat_tests)

size-is : (n : ℕ) → is_size n ≡ true → IsSize n
size-is n e = grind (arith, nat_tests)

base-is : (base size : ℕ) → is_base base size ≡ true → IsBase base size
base-is base size e = grind (arith, nat_tests)

block-is : (n : ℕ) → is_block n ≡ true → IsBlock n
block-is n e = grind (arith, nat_tests)

three : (x y z : Bool) → (x && y && z) ≡ true → (x ≡ true) × (y ≡ true) × (z ≡ true)
three true true true e = (refl, refl, refl)
three true true false e = absurd cc
three true false z e = absurd cc
three false y z e = absurd cc

credits-are : (c : LaneCredits) → are_credits c ≡ true → AreCredits c
credits-are c e =
    let parts = both (are_header_credits c) (are_data_credits c) e in
    let headers = three (is_between 1 127 c.ph) (is_between 1 127 c.nph) (is_between 1 127 c.cplh) parts.0 in
    let data_credits = three (is_between 8 2047 c.pd) (is_between 2 2047 c.npd) (is_between 8 2047 c.cpld) parts.1 in
    record {
      ph = between 1 127 c.ph headers.0;
      pd = between 8 2047 c.pd data_credits.0;
      nph = between 1 127 c.nph headers.1;
      npd = between 2 2047 c.npd data_credits.1;
      cplh = between 1 127 c.cplh headers.2;
      cpld = between 8 2047 c.cpld data_credits.2;
    }

config-is : (c : Config) → config_fault c ≡ None → IsConfig c
config-is c e =
    let s1 = not_found (is_between 1 7 c.requesters) faults.Requesters _ e in
    let s2 = not_found (is_size c.size) faults.Size _ s1.1 in
    let s3 = not_found (is_base c.base c.size) faults.Base _ s2.1 in
    let s4 = not_found (are_credits c.credits) faults.Credits _ s3.1 in
    let s5 = not_found (is_block c.block) faults.Block _ s4.1 in
    record {
      requesters = between 1 7 c.requesters s1.0;
      size = size-is c.size s2.0;
      base = base-is c.base c.size s3.0;
      credits = credits-are c.credits s4.0;
      block = block-is c.block s5.0;
    }

-- ---- the parts

same-lanes : (n : ℕ) (lane : LaneEndsView) (i : ℕ) (e : LaneEndsView) → slice_get (replicate n lane) i ≡ Some e → e ≡ lane
same-lanes zero lane i e at = absurd cc
same-lanes (suc n) lane zero e at = sym (same_Some lane e at)
same-lanes (suc n) lane (suc i) e at = same-lanes n lane i e at

fresh-length : (port n : ℕ) → length (fresh_from port n) ≡ n
fresh-length port zero = refl
fresh-length port (suc n) = ap suc (fresh-length (suc port) n)

fresh-at : (port n i : ℕ) (q : RequesterView) → slice_get (fresh_from port n) i ≡ Some q → q ≡ fresh (port + i)
fresh-at port zero i q at = absurd cc
fresh-at port (suc n) zero q at = sym (same_Some (fresh port) q at) ∙ ap fresh (omega arith)
fresh-at port (suc n) (suc i) q at = fresh-at (suc port) n i q at ∙ ap fresh (omega arith)

pub new-is : (c : Config) → config_fault c ≡ None → IsNewWith c (new_fabric c)
new-is c e = record {
  config = config-is c e;
  credits = refl;
  memory = refl;
  requesters = record { number = fresh-length 1 c.requesters; each = λ i q at. fresh-at 1 c.requesters i q at ∙ ap fresh (omega arith) };
  inward = refl;
  outward = refl;
  up = record { number = length-replicate c.requesters (new_lane c.credits); each = same-lanes c.requesters (new_lane c.credits) };
  down = record { number = length-replicate c.requesters (new_lane (down_credits c.credits)); each = same-lanes c.requesters (new_lane (down_credits c.credits)) };
}
