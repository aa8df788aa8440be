use Rattle.search_engine.proofs.KeepingLemmas.{keeps-nothing}
use Rattle.search_engine.proofs.keeping.KeptText.new.Goals as goal

pub returns : goal.returns
returns c = rw (c.new.ensures.items, c.new-2.ensures) keeps-nothing
