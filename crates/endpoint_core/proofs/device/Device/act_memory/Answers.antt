use Rattle.std.proofs.Common.{◌≡◌, ℕ, List, Some, sym, subst}
use Rattle.std.specs.Prelude.{option_map}
use Rattle.tlp_core.specs.Operation.{op_of}
use Rattle.seq_memory.specs.Step.{answer}
use Rattle.completer_core.specs.Completion.{completion_of}
use Rattle.endpoint_core.specs.EndpointView.{DeviceView}
use Rattle.endpoint_core.specs.Steps.{from, base_of_op, dw_in_front, first_block}
use Rattle.endpoint_core.proofs.Replies.{answered}
use Rattle.endpoint_core.proofs.device.Device.act_memory.Goals as goal

pub returns-clause-completion : goal.returns-clause-completion
returns-clause-completion c =
    let op = c.in-Some.op in
    let e : op_of c.args.request.now ≡ Some op = sym c.in-Some.ensures.value in
    let b : base_of_op c.args.self.now op ≡ Some c.in-Some-base_for.base = rw (← c.address.ensures, ← c.size.ensures.value) (sym c.in-Some-base_for.ensures.value) in
    let n : dw_in_front op ≡ c.dw_in_front-done.result = sym c.dw_in_front-done.ensures.value in
    answered c.args.self.now c.args.request.now op c.in-Some-base_for.base c.dw_in_front-done.result c.answer_first.result e b n
    (λ h. subst (λ (d : DeviceView). c.answer_first.result ≡ option_map (from d.completer) (completion_of c.args.request.now (answer c.in-Some-base_for.base 128 d.bytes (first_block op)))) c.self.view_is
    (subst (λ (m : List ℕ). c.answer_first.result ≡ option_map (from c.self.inside.completer) (completion_of c.args.request.now (answer c.in-Some-base_for.base 128 m (first_block op)))) c.deref_mut.ensures.value
    (c.answer_first.ensures.completion op e h)))
