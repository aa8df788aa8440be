use Rattle.std.proofs.Common.{◌∙◌, sym, ap, Some}
use Rattle.search_words.specs.declared.lists.Spot.{Spot}
use Rattle.search_words.proofs.ListLemmas.{adds_one, adds_next}
use Rattle.search_words.proofs.lists.Lists.add.Goals as goal

pub push_to-requires : goal.push_to-requires
push_to-requires c = c.requires.known c.args.number c.in-Some-Several.at (sym c.spot.ensures ∙ c.in-Some-Several.is ∙ ap (λ (s : Spot). Some s) c.in-Some-Several.field-0-is)

pub returns-in_ok-put-in-None : goal.returns-in_ok-put-in-None
returns-in_ok-put-in-None c = adds_one c.args.self.now c.put.new.self c.args.number c.args.place c.in_ok-put-in-None.ensures.several c.in_ok-put-in-None.ensures.spots
    (sym c.spot.ensures ∙ c.in-None.is) c.requires

pub returns-in_ok-push_to-in-Some-Several : goal.returns-in_ok-push_to-in-Some-Several
returns-in_ok-push_to-in-Some-Several c = adds_next c.args.self.now c.push_to.new.self c.args.number c.in-Some-Several.at c.args.place
    c.in_ok-push_to-in-Some-Several.ensures.spots c.in_ok-push_to-in-Some-Several.ensures.several
    (sym c.spot.ensures ∙ c.in-Some-Several.is ∙ ap (λ (s : Spot). Some s) c.in-Some-Several.field-0-is) c.requires
