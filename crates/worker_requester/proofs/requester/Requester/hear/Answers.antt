use Rattle.std.proofs.Common.{subst}
use Rattle.std.specs.Prelude.{MatchOption}
use Rattle.hall_laws.specs.Tells.{SeesTells, CollectTells}
use Rattle.worker_requester.proofs.Steps.{follows_heard}
use Rattle.worker_requester.proofs.requester.Requester.hear.Goals as goal

pub returns-in-Ok-Some-clause-follows : goal.returns-in-Ok-Some-clause-follows
returns-in-Ok-Some-clause-follows g c =
    let a = c.in-Ok-Some.answered in
    let v = c.args.self.now.seat.knows in
    let w = c.collect.new.seat in
    let heard : CollectTells v a.number a.reply a.n w.knows = subst (λ o. MatchOption o (SeesTells v w.knows) (λ x. CollectTells v x.number x.reply x.n w.knows)) c.in-Ok-Some.field-0-is c.in-Ok-Some.ensures.collected in
    follows_heard c.args.self.now w a.number a.reply a.n c.requires.follows c.requires.none heard c.collect.ensures.seat
