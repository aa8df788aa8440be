use Rattle.std.proofs.Common.{subst}
use Rattle.std.specs.Prelude.{IfSome}
use Rattle.search_effects.specs.Effects.{told_of}
use Rattle.search_words.specs.Words.{NeedsWord, LeavesWord}
use Rattle.search_words.proofs.WordLemmas.{keeps_then, known_by}
use Rattle.search_words.proofs.words.Words.add_at.Goals as goal

pub returns-clause-keeps : goal.returns-clause-keeps
returns-clause-keeps c =
    keeps_then c.args.self.now c.add_name.new.self c.add_left.new.self c.in_ok-add_name.ensures.keeps (keeps_then c.add_name.new.self c.add_need.new.self c.add_left.new.self c.in_ok-add_need.ensures.keeps c.in_ok-add_left.ensures.keeps)

pub returns-clause-own : goal.returns-clause-own
returns-clause-own c =
    known_by c.args.log.now.extent c.add_name.new.self c.add_need.new.self c.add_left.new.self c.args.judged.request.b c.args.judged.request.op.now (told_of c.args.judged.request.told) c.args.word c.needed_at.result c.left_at.result c.args.judged.careless
    c.in_ok-add_need.ensures.keeps c.in_ok-add_left.ensures.keeps c.in_ok-add_name.ensures.own c.in_ok-add_need.ensures.own c.in_ok-add_left.ensures.own c.requires.careless
    (λ n is. subst (λ o. IfSome o (NeedsWord c.args.log.now.extent c.args.judged.request.op.now (told_of c.args.judged.request.told) c.args.word)) is c.needed_at.ensures.needs)
    (λ n is. subst (λ o. IfSome o (LeavesWord c.args.log.now.extent c.args.judged.request.op.now (told_of c.args.judged.request.told) c.args.word)) is c.left_at.ensures.leaves)
