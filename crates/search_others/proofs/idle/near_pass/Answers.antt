use Rattle.search_others.specs.Passing.{Passes}
use Rattle.search_others.proofs.PassLemmas.{near_all}
use Rattle.search_others.proofs.idle.near_pass.Goals as goal

pub returns : goal.returns
returns c = λ yes.
    near_all (Passes c.args.log.now c.args.place.now.state c.args.idler) c.args.near (c.list_passes-3.ensures c.if-not-list_passes-3.false)
    (c.list_passes-2.ensures c.if-not-list_passes-2.false) (c.list_passes.ensures c.if-not-list_passes.false) (c.list_passes-4.ensures yes)
