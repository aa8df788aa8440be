use Rattle.search_words.proofs.WordLemmas.{adds_wide}
use Rattle.search_words.proofs.words.Words.add_wide.Goals as goal

pub returns-clause-keeps : goal.returns-clause-keeps
returns-clause-keeps c =
    let x = c.self.inside in
    (adds_wide c.args.self.now x.needed x.careless x.blind x.left x.loose x.named x.wide.items c.push.new.self.items c.args.b c.self.view_is c.in_ok-push.ensures.items c.requires).0

pub returns-clause-rise : goal.returns-clause-rise
returns-clause-rise c =
    let x = c.self.inside in
    (adds_wide c.args.self.now x.needed x.careless x.blind x.left x.loose x.named x.wide.items c.push.new.self.items c.args.b c.self.view_is c.in_ok-push.ensures.items c.requires).1

pub returns-clause-own : goal.returns-clause-own
returns-clause-own c =
    let x = c.self.inside in
    (adds_wide c.args.self.now x.needed x.careless x.blind x.left x.loose x.named x.wide.items c.push.new.self.items c.args.b c.self.view_is c.in_ok-push.ensures.items c.requires).2
