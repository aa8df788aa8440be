use Rattle.std.proofs.Common.{◌≡◌, ◌∙◌, ◌/◌, sym, ap, length, ℕ, List, replicate}
use Rattle.tlp_core.specs.Enables.{enables}
use Rattle.seq_memory.specs.Step.{merged}
use Rattle.seq_memory.proofs.Histories.{written_back}
use Rattle.seq_memory.proofs.Merges.{take_zeros, all_read}
use Rattle.seq_memory.proofs.step.enabled_bytes.Goals as goal

pub returns-clause-items : goal.returns-clause-items
returns-clause-items c =
    let n = length c.args.place.now in
    let zeros : c.as_mut_slice.result.now ≡ replicate n 0 = c.as_mut_slice.ensures.value ∙ c.payload_of-data.ensures.items ∙ take_zeros n 128 c.requires.few in
    written_back _ c.payload_of-data.result.items c.merge.new.old (c.payload_of-data.ensures.len ∙ sym (ap (length {A = ℕ}) c.payload_of-data.ensures.items)) (c.merge.auto.old ∙ ap (length {A = ℕ}) c.as_mut_slice.ensures.value)
    ∙ c.merge.ensures ∙ ap (λ (xs : List ℕ). merged (enables (n / 4) c.args.first c.args.last) c.args.place.now xs) zeros

pub returns-then-are_all_enabled-clause-items : goal.returns-then-are_all_enabled-clause-items
returns-then-are_all_enabled-clause-items c = c.payload_of.ensures.items ∙ sym (all_read (enables (length c.args.place.now / 4) c.args.first c.args.last) c.args.place.now (c.are_all_enabled.ensures c.if-are_all_enabled.true))
