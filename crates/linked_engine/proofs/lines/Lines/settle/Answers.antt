use Rattle.std.proofs.Common.{◌∙◌, ap}
use Rattle.linked_endpoint.specs.Settling.{settling}
use Rattle.linked_engine.specs.Lines.{LinkLines, settled}
use Rattle.linked_engine.proofs.Recorded.{did_lines}
use Rattle.linked_engine.proofs.lines.Lines.settle.Goals as goal

pub returns : goal.returns
returns c =
    let s = c.self.inside in
    did_lines s.linked c.settle.new.self s.recording c.settle.new.recording s.has_crc (settling s.linked) c.in_ok-settle.ensures.linked c.in_ok-settle.ensures.recorded c.in_ok-check.ensures
    ∙ ap (λ (u : LinkLines). settled u) c.self.view_is
