use Rattle.std.proofs.Common.{◌≡◌, suc, arith, ap, sym, subst}
use Rattle.hall_laws.specs.Rule.{Begins}
use Rattle.hall_core.proofs.Counted.{begins_then, begins_long, stands_behind}
use Rattle.hall_core.proofs.laws.what_was_carried_acts_first.Goals as goal

pub returns : goal.returns
returns c = record {
  carried = λ a b w.
      let laden : w.laden.seen ≡ w.taken.at = ap (λ k. k.seen) w.taken.two.knows in
      let now : b.seen ≡ w.given.at = ap (λ k. k.seen) w.given.one.knows in
      let to_there : Begins a.seen w.there.seen = begins_then a.seen w.laden.seen w.there.seen (subst (Begins a.seen) (sym laden) w.taken.one.begins) w.kept in
      subst (Begins a.seen) (sym now) (begins_then a.seen w.there.seen w.given.at to_there w.given.two.begins);
  counts = λ a a' b b' k m until since reply op one on two.
      let first = begins_long a'.seen b.seen on in
      let second = begins_long b.seen b'.seen two.begins in
      omega (arith, first, second, one.is_length, two.is_length);
  first = λ a a' b b' k m until since q reply op h one on two begins acts.
      let first = begins_long a'.seen b.seen on in
      let second = begins_long b.seen b'.seen two.begins in
      let behind = stands_behind b'.seen h (suc b.number) m q begins two.new acts in
      omega (arith, first, second, behind, one.is_length, one.before_answer);
}
