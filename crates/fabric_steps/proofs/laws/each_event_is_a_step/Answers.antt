use Rattle.fabric_steps.proofs.laws.each_event_is_a_step.Goals as goal
use Rattle.fabric_steps.proofs.Events.{submit_is, forward_is, serve_is, return_is, collect_is}
use Rattle.seq_memory.specs.History.{extent_of}
use Rattle.fabric_steps.proofs.Sized.{sized}

pub returns : goal.returns
returns c = record {
  submitted = λ f f' i op e. submit_is f i op f' e;
  forwarded = λ f f' i place e. forward_is f i place f' e;
  served = λ f f' place e. serve_is f place f' e (sized c.a_served_completion_has_its_length.ensures f.memory e.packet e.op e.asks (c.history_grows_by_steps.ensures.size (extent_of f.memory) f.memory.entries));
  returned = λ f f' i place e. return_is f i place f' e;
  collected = λ f f' i a e. collect_is f i a f' e;
}
