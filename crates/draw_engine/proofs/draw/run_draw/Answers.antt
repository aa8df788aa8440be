use Rattle.draw_engine.proofs.Drawn.{document-written}
use Rattle.draw_engine.proofs.draw.run_draw.Goals as goal

pub returns-clause-document : goal.returns-clause-document
returns-clause-document g c =
    document-written c.args.window c.new-drawer.result c.in_ok-status.ensures.ok.read _ _ c.new-drawer.ensures c.pictures_are_well_formed.ensures c.in_ok-status.ensures.ok.written
