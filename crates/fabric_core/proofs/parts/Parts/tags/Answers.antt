use Rattle.fabric_core.proofs.parts.Parts.tags.Goals as goal

pub returns : goal.returns
returns g c = rw (← c.self.view_is) (rw c.deref.ensures.value at c.have_tags.ensures)
