use Rattle.log_text.proofs.Tellings.{tellable}
use Rattle.log_text.proofs.told.what_is_explained_can_be_told.Goals as goal

pub returns : goal.returns
returns c = tellable c.own_digits_spell_number.ensures.range c.numbers_name_submissions.ensures.named
