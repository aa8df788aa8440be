use Rattle.log_text.proofs.ToldLemmas.{can-be-told}
use Rattle.log_text.proofs.laws.what_is_seen_can_be_told.Goals as goal

pub returns : goal.returns
returns c =
    let fields = c.fields_can_be_told.ensures in
    can-be-told (record { request = fields.request; memory = fields.memory }) c.what_is_read_can_be_told.ensures
