use Rattle.std.proofs.Common.{subst, sym}
use Rattle.std.specs.List.{All}
use Rattle.search_places.specs.Known.{IsDeadEntry}
use Rattle.search_places.proofs.Knowing.{pushed}
use Rattle.search_places.proofs.memo.push.Goals as goal

pub returns-in_err-push : goal.returns-in_err-push
returns-in_err-push c = λ log known dead. subst (All (IsDeadEntry log)) (sym c.in_err-push.ensures.items) known

pub returns : goal.returns
returns c = λ log known dead. pushed log c.args.entries.now.items c.push.new.self.items c.args.key c.args.next c.in_ok-push.ensures.items known dead
