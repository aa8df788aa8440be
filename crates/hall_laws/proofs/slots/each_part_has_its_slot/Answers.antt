use Rattle.hall_laws.proofs.Parts.{get_requester, get_end}
use Rattle.hall_laws.proofs.slots.each_part_has_its_slot.Goals as goal

pub returns-clause-requester : goal.returns-clause-requester
returns-clause-requester c = get_requester

pub returns-clause-end : goal.returns-clause-end
returns-clause-end c = get_end
