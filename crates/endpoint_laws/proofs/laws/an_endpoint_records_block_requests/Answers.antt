use Rattle.endpoint_laws.proofs.Running.{Rules, same_memory, submitted, answered, entered}
use Rattle.endpoint_laws.proofs.laws.an_endpoint_records_block_requests.Goals as goal

rules : (c : goal.After-whatever_comes) → Rules
rules c =
    let memory = c.history_grows_by_steps.ensures in
    let blocks = c.blocks_are_the_request.ensures in
    record {
      laws = record { none = memory.none; next = memory.next; size = memory.size; adjacent = blocks.adjacent; inside = blocks.inside; faultless = blocks.faultless; posted = c.pieces_act_as_their_request.ensures.posted };
      carries = blocks.bytes;
      stays = c.what_is_read_only_stays.ensures.any;
      spelled = c.reading_is_spelling.ensures.spelled;
      leaves = c.whatever_comes.ensures.requests;
    }

pub returns : goal.returns
returns c = record { memory = same_memory (rules c); submitted = submitted (rules c); answered = answered (rules c); acted = entered (rules c) }
