use Rattle.std.proofs.Common.{◌∙◌, ap, [], ◌∷◌}
use Rattle.linked_endpoint.specs.Runs.{Receive}
use Rattle.linked_engine.specs.Lines.{LinkLines, received}
use Rattle.linked_engine.proofs.Recorded.{did_lines}
use Rattle.linked_engine.proofs.lines.Lines.receive.Goals as goal

pub returns-clause-state : goal.returns-clause-state
returns-clause-state c =
    let s = c.self.inside in
    did_lines s.linked c.receive.new.self s.recording c.receive.new.recording s.has_crc (Receive c.args.packet.now c.args.check ∷ []) c.in_ok-arrived.ensures.ok c.in_ok-arrived.ensures.recorded c.in_ok-check.ensures
    ∙ ap (λ (u : LinkLines). received u c.args.packet.now c.args.check) c.self.view_is
