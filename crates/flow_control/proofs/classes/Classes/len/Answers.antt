use Rattle.std.proofs.Common.{arith}
use Rattle.flow_control.proofs.Merged.{held, few}
use Rattle.flow_control.proofs.classes.Classes.len.Goals as goal

pub overflow_add-result-2 : goal.overflow_add-result-2
overflow_add-result-2 c =
    let q = c.args.self.now in
    let all = held q c.requires in
    let bound = few q c.requires in
    omega (arith, c.len.ensures, c.len-2.ensures, c.len-3.ensures, q.posted.ok.0, q.non_posted.ok.0, q.completion.ok.0, c.requires.fits)

pub returns : goal.returns
returns c =
    let q = c.args.self.now in
    let all = held q c.requires in
    omega (arith, c.len.ensures, c.len-2.ensures, c.len-3.ensures, q.posted.ok.0, q.non_posted.ok.0, q.completion.ok.0)
