use Rattle.op_pieces.specs.Pieces.{dw_of}
use Rattle.op_pieces.proofs.PieceLemmas.{posted_cut, cut_acts, cut_still, cut_replied}
use Rattle.op_pieces.proofs.laws.pieces_act_as_their_request.Goals as goal

pub returns : goal.returns
returns c = record {
  posted = λ b op piece j at. posted_cut b (dw_of op) op piece j at;
  acts = λ x b m op long own all. cut_acts x c.only_the_place_changes.ensures.size c.refused_and_read_change_nothing.ensures.reads b m op long own all;
  still = λ x b m op piece j refuted at. cut_still x c.refused_and_read_change_nothing.ensures.reads b m op piece j refuted at;
  replied = λ x b m op piece j part long own all refuted at there. cut_replied x b m op piece j part long own all refuted at there;
}
