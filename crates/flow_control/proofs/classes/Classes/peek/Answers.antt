use Rattle.std.proofs.Common.{◌≡◌, true, arith}
use Rattle.std.specs.Prelude.{map}
use Rattle.flow_control.specs.Arrivals.{item_of}
use Rattle.flow_control.specs.Queue.{is_takeable}
use Rattle.flow_control.proofs.Walks.{past_the_end, may_be_taken, first_behind}
use Rattle.flow_control.proofs.Taken.{lent_at}
use Rattle.flow_control.proofs.classes.Classes.peek.Goals as goal

pub returns-in_default-oldest : goal.returns-in_default-oldest
returns-in_default-oldest c all s =
    let k = c.in-Some.ensures all s in
    past_the_end c.args.place c.args.place all c.args.self.now c.in-Some.cut c.oldest.result (omega arith) s k.0 c.oldest.ensures.first c.in_default-oldest.is

pub returns-then-not-passes_its_own : goal.returns-then-not-passes_its_own
returns-then-not-passes_its_own c all s =
    let k = c.in-Some.ensures all s in
    let first = first_behind c.args.place all c.args.self.now c.in-Some.cut c.oldest.result c.in-Some-oldest.class s k.0 c.oldest.ensures.first c.in-Some-oldest.is in
    let is = c.passes_its_own.ensures all c.args.place s k.0 k.1 first in
    let no = c.if-not-passes_its_own.true in
    cc

pub returns : goal.returns
returns c all s =
    let k = c.in-Some.ensures all s in
    let first = first_behind c.args.place all c.args.self.now c.in-Some.cut c.oldest.result c.in-Some-oldest.class s k.0 c.oldest.ensures.first c.in-Some-oldest.is in
    let is = c.passes_its_own.ensures all c.args.place s k.0 k.1 first in
    let yes = c.if-not-passes_its_own.false in
    let may : is_takeable (map item_of all) c.args.place ≡ true = cc in
    may_be_taken all c.args.place c.get.result may
    (lent_at all c.args.place c.args.self.now c.in-Some.cut c.oldest.result c.in-Some-oldest.class c.get.result s k.0 c.oldest.ensures.first c.in-Some-oldest.is
    (rw (← c.of.ensures, ← c.count.ensures) c.get.ensures.item))
