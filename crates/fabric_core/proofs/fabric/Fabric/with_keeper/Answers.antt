use Rattle.fabric_core.proofs.fabric.Fabric.with_keeper.Goals as goal

pub returns-in-Ok-clause-quiet : goal.returns-in-Ok-clause-quiet
returns-in-Ok-clause-quiet g c = c.a_new_fabric_is_sound.ensures.quiet c.args.config c.in-Ok.parts c.in-Ok.ensures
