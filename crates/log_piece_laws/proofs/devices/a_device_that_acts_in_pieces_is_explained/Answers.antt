use Rattle.log_piece_laws.proofs.BySize.{device_explained}
use Rattle.log_piece_laws.proofs.devices.a_device_that_acts_in_pieces_is_explained.Goals as goal

pub returns : goal.returns
returns c =
    let grows = c.history_grows_by_steps.ensures in
    λ size bytes x steps d is leads. device_explained c.numbers_name_submissions.ensures.named (record { none = grows.none; next = grows.next; size = grows.size }) c.pieces_act_as_their_request.ensures.posted size bytes x steps d is leads
