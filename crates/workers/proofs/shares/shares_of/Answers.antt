use Rattle.std.proofs.Common.{map, rules}
use Rattle.std.proofs.lemmas.Result.{IfOk-weaker}
use Rattle.workers.proofs.Dealing.{singles}
use Rattle.workers.proofs.shares.shares_of.Goals as goal

pub returns : goal.returns
returns c = IfOk-weaker c.single_shares.result _ _
    (λ v h. singles c.args.requesters c.args.threads c.as_slice.result.now (map (λ s. s.items) v.items) (search rules) h (search rules))
    c.single_shares.ensures
