use Rattle.std.proofs.Common.{◌≡◌, [], refl, sym, ap, subst}
use Rattle.fabric_core.specs.Quiet.{IsQuiet}
use Rattle.fabric_settle.specs.Hops.{AreFlushed}
use Rattle.fabric_settle.specs.Rounds.{Settling, settlement}
use Rattle.fabric_settle.proofs.AnsweredLemmas.{none_waits}
use Rattle.fabric_settle.proofs.rounds.settle.Goals as goal

pub returns-clause-fabric : goal.returns-clause-fabric
returns-clause-fabric g c = ap (λ (t : Settling). t.fabric) (c.in_ok-all_rounds.ensures.state (g.W.Witness.kept c.args.witness.now) [] refl).same

pub returns-clause-settled : goal.returns-clause-settled
returns-clause-settled g c =
    let f = c.args.fabric.now in
    let now : c.all_rounds.new.fabric ≡ (settlement f).fabric = ap (λ (t : Settling). t.fabric) (c.in_ok-all_rounds.ensures.state (g.W.Witness.kept c.args.witness.now) [] refl).same in
    subst IsQuiet (sym now) (c.every_fabric_comes_to_rest.ensures.quiet f c.sound.ensures c.short.ensures c.tags.ensures)

pub returns-clause-flushed : goal.returns-clause-flushed
returns-clause-flushed g c =
    let f = c.args.fabric.now in
    let now : c.all_rounds.new.fabric ≡ (settlement f).fabric = ap (λ (t : Settling). t.fabric) (c.in_ok-all_rounds.ensures.state (g.W.Witness.kept c.args.witness.now) [] refl).same in
    subst AreFlushed (sym now) (c.every_fabric_comes_to_rest.ensures.flushed f c.sound.ensures c.short.ensures c.tags.ensures)

pub returns-clause-answered : goal.returns-clause-answered
returns-clause-answered g c =
    let f = c.args.fabric.now in
    let now : c.all_rounds.new.fabric ≡ (settlement f).fabric = ap (λ (t : Settling). t.fabric) (c.in_ok-all_rounds.ensures.state (g.W.Witness.kept c.args.witness.now) [] refl).same in
    let quiet : IsQuiet c.all_rounds.new.fabric = subst IsQuiet (sym now) (c.every_fabric_comes_to_rest.ensures.quiet f c.sound.ensures c.short.ensures c.tags.ensures) in
    none_waits c.quiet_is_all_acted.ensures.answered c.all_rounds.new.fabric c.sound-2.ensures quiet

pub returns-clause-soon : goal.returns-clause-soon
returns-clause-soon g c = c.every_fabric_comes_to_rest.ensures.soon c.args.fabric.now c.sound.ensures c.short.ensures c.tags.ensures
