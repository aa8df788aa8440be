use Rattle.fabric_core.proofs.parts.Parts.short.Goals as goal

pub returns : goal.returns
returns g c =
    rw (← c.self.view_is) (record {
      inward = c.short.ensures;
      outward = c.short-2.ensures;
      up = rw c.deref.ensures.value at c.are_short.ensures;
      down = rw c.deref-2.ensures.value at c.are_short-2.ensures;
    })
