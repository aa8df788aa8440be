use Rattle.log_piece_laws.proofs.Finer.{finer_explained}
use Rattle.log_piece_laws.proofs.sizes.finer_pieces_explain_more.Goals as goal

pub returns : goal.returns
returns c = λ small large t finer explained. finer_explained c.whole_requests_are_right_in_pieces.ensures small large t finer explained
