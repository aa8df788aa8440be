use Rattle.search_places.proofs.Readiness.{may_act_is}
use Rattle.search_places.proofs.place.Place.may_act.Goals as goal

pub returns : goal.returns
returns c = may_act_is c.args.log.now c.args.self.now c.requires c.args.b c.is_ready.result c.is_ready.ensures
