use Rattle.std.proofs.Common.{◌≡◌, ◌∙◌, [], length, ap, sym, arith}
use Rattle.std.proofs.lemmas.Bool.{false≢true}
use Rattle.search_run.proofs.FrameLemmas.{none_left, reopened_back}
use Rattle.search_run.proofs.walk.back.Goals as goal

pub returns-then-is_empty-clause-none : goal.returns-then-is_empty-clause-none
returns-then-is_empty-clause-none c = λ so.
    let walk = c.loop-alloc.walk in
    none_left c.args.log.now walk.stack.frames walk.here.state c.loop-alloc.invariant.0.path (c.is_empty.ensures.0 c.if-is_empty.true)

pub try_here-requires-clause-at : goal.try_here-requires-clause-at
try_here-requires-clause-at c = record {
  ready = c.loop-alloc.invariant.0;
  some = λ none. false≢true (sym c.if-is_empty.false ∙ c.is_empty.ensures.1 none);
}

pub rewind-requires : goal.rewind-requires
rewind-requires c =
    let log = c.args.log.now in
    let walk = c.try_here.new.walk in
    let spent = c.in_ok-try_here.ensures.spent c.if-branch.false in
    let back = reopened_back log walk c.reopen.new.self c.reopen.result spent.at spent.dead c.reopen.ensures.some c.reopen.ensures.none in
    record {
      path = back.0;
      place = spent.at.ready.place;
      known = c.note.ensures log spent.at.ready.known spent.at.ready.place spent.dead;
    }

pub loop-alloc-smaller : goal.loop-alloc-smaller
loop-alloc-smaller c =
    let log = c.args.log.now in
    let walk = c.try_here.new.walk in
    let spent = c.in_ok-try_here.ensures.spent c.if-branch.false in
    let fewer = (reopened_back log walk c.reopen.new.self c.reopen.result spent.at spent.dead c.reopen.ensures.some c.reopen.ensures.none).1 in
    let same = ap length c.in_ok-rewind.ensures.frames in
    omega (arith, same, fewer, spent.same)
