use Rattle.std.proofs.Common.{◌≡◌, ◌∙◌, ◌/◌, sym, ap, length, ℕ, List, replicate}
use Rattle.std.proofs.lemmas.List.{length-replicate}
use Rattle.tlp_core.specs.Enables.{enables}
use Rattle.seq_memory.specs.Step.{merged}
use Rattle.seq_memory.proofs.Merges.{take_zeros, take_front, all_read}
use Rattle.seq_memory.proofs.data.ReplyData.set_enabled.Goals as goal

put : (c : goal.After-self-1) → (c.copy_from_slice.new.self ≡ replicate (length c.args.place.now) 0) × (length c.merge.new.old ≡ length c.args.place.now)
put c =
    let n = length c.args.place.now in
    let zeros : c.copy_from_slice.new.self ≡ replicate n 0 = c.copy_from_slice.ensures.after ∙ take_zeros n 128 c.requires.few in
    (zeros, c.merge.auto.old ∙ ap (length {A = ℕ}) zeros ∙ length-replicate n 0)

pub returns-clause-items : goal.returns-clause-items
returns-clause-items c =
    let n = length c.args.place.now in
    take_front n c.merge.new.old _ (put c).1
    ∙ c.merge.ensures ∙ ap (λ (xs : List ℕ). merged (enables (n / 4) c.args.first c.args.last) c.args.place.now xs) (put c).0

pub returns-clause-len : goal.returns-clause-len
returns-clause-len c = ap (length {A = ℕ}) (take_front (length c.args.place.now) c.merge.new.old _ (put c).1) ∙ (put c).1

pub returns-then-are_all_enabled-clause-items : goal.returns-then-are_all_enabled-clause-items
returns-then-are_all_enabled-clause-items c = c.set.ensures ∙ sym (all_read (enables (length c.args.place.now / 4) c.args.first c.args.last) c.args.place.now (c.are_all_enabled.ensures c.if-are_all_enabled.true))
