use Rattle.std.proofs.Common.{Some, sym, ◌∙◌, ap}
use Rattle.flow_control.specs.Needs.{completion_need}
use Rattle.completer_core.proofs.Shapes.{served_need}
use Rattle.completer_core.proofs.serving.need_for.Goals as goal

pub returns-in-None : goal.returns-in-None
returns-in-None g c =
    ap Some (c.completion.ensures ∙ ap completion_need c.size.ensures.value)
    ∙ sym (served_need c.args.memory.now c.args.request.now c.args.op.now c.requires.asks c.requires.sound (sym c.is_posted.ensures ∙ c.if-is_posted.false) (sym c.refusal.ensures.value ∙ c.in-None.is) c.refusal.ensures.size)
