use Rattle.std.proofs.Common.{rules, arith, ◌≡◌, true, refl, nat_lt, length}
use Rattle.std.proofs.lemmas.Bool.Decides.{nat_tests}
use Rattle.flow_control.specs.Credits.{gate_covers}
use Rattle.flow_control.specs.Needs.{need_of as need}
use Rattle.lane_core.proofs.sender_end.SenderEnd.enter.Goals as goal

pub returns-in-Ok-clause-may : goal.returns-in-Ok-clause-may
returns-in-Ok-clause-may c =
    let covered : gate_covers c.args.self.now.gate (need c.args.tlp.now) ≡ true = search rules in
    let short : nat_lt (length c.args.self.now.sending.kept) 2047 ≡ true = grind (arith, nat_tests, c.self.view_is, c.is_full.ensures, c.if-is_full.false) in
    rw (covered, short) refl

pub returns-in-Err-Memory-clause-refused : goal.returns-in-Err-Memory-clause-refused
returns-in-Err-Memory-clause-refused c =
    let covered : gate_covers c.args.self.now.gate (need c.args.tlp.now) ≡ true = search rules in
    let short : nat_lt (length c.args.self.now.sending.kept) 2047 ≡ true = grind (arith, nat_tests, c.self.view_is, c.is_full.ensures, c.if-is_full.false) in
    rw (covered, short) refl
