use Rattle.std.proofs.Common.{[], sym, subst}
use Rattle.generate_engine.specs.Arrivals.{IsAfter}
use Rattle.generate_engine.specs.Choice.{ChooserView}
use Rattle.generate_engine.proofs.Scripts.{script-new}
use Rattle.generate_engine.proofs.generator.Generator.new.Goals as goal

pub returns : goal.returns
returns c =
    let storm = c.args.storm.now in
    let counted = subst (λ (x : ChooserView). IsAfter storm.lose storm.corrupt [] x.arrived) (sym c.new-chooser.ensures) (c.counted_events_are_fated.ensures.none storm.lose storm.corrupt) in
    script-new storm c.config_of-config.result c.put_fabric.new.out.items c.new-pending.result.items c.in_ok-fabric.fabric c.new-chooser.result
    c.config_of-config.ensures c.in_ok-fabric.ensures counted c.new-pending.ensures.items c.in_ok-put_fabric.ensures.ok
