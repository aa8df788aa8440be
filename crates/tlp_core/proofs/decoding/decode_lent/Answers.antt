use Rattle.std.proofs.Common.{◌*◌, ◌+◌, ◌-◌, length, take, drop, Err, Ok, refl, sym, ap, ◌∙◌, arith}
use Rattle.std.specs.Prelude.{slice_index}
use Rattle.std.proofs.lemmas.Result.{err_from_is_err_and}
use Rattle.tlp_core.specs.Layout.{Spells}
use Rattle.tlp_core.specs.Faults.{holds, header_faults, kind_faults}
use Rattle.tlp_core.proofs.Grammar.{made, one_value, none_spelled, find_within, find_after, made_of, reading_fault, reading_spelled}
use Rattle.tlp_core.proofs.decoding.decode_lent.Goals as goal

pub returns-in_err-kind-clause-fault : goal.returns-in_err-kind-clause-fault
returns-in_err-kind-clause-fault c =
    let p = err_from_is_err_and c.from_residual.result c.from_residual.ensures.1 in
    rw (p.1, p.2) (find_within (λ f. holds f c.args.bytes.now) header_faults kind_faults c.in_err-kind.field-0.0 c.in_err-kind.ensures.fault)

pub returns-in_err-kind-clause-only : goal.returns-in_err-kind-clause-only
returns-in_err-kind-clause-only c = λ t s.
    absurd (none_spelled c.args.bytes.now c.in_err-kind.field-0.0 (find_within (λ f. holds f c.args.bytes.now) header_faults kind_faults c.in_err-kind.field-0.0 c.in_err-kind.ensures.fault) t s)

pub returns-in-Some-clause-only : goal.returns-in-Some-clause-only
returns-in-Some-clause-only c = λ t s. absurd (none_spelled c.args.bytes.now c.in-Some.fault (find_after (λ f. holds f c.args.bytes.now) header_faults kind_faults c.in_ok-kind.ensures.sound ∙ sym c.in-Some.ensures) t s)

spells : (c : goal.After-payload-1) → Spells c.args.bytes.now (record { kind = c.in_ok-kind.kind; tc = c.bits.result; attr = c.bits-2.result * 4 + c.bits-3.result; length = c.length_of.result; requester = c.read_u16.result; tag = slice_index c.args.bytes.now (c.requester_start-requester.result + 2); body = c.body_of.result; payload = take (length c.args.bytes.now - c.header_len.result) (drop c.header_len.result c.args.bytes.now) })
spells c = made_of c.args.bytes.now c.in_ok-kind.kind c.bits.result c.bits-2.result c.bits-3.result c.length_of.result c.read_u16.result c.requester_start-requester.result c.header_len.result c.body_of.result _
    c.bits.ensures c.bits-2.ensures c.bits-3.ensures c.length_of.ensures c.requester_start-requester.ensures.value c.read_u16.ensures c.body_of.ensures c.header_len.ensures refl
    (made c.args.bytes.now c.in_ok-kind.kind (λ i. omega (arith, c.type_inv.bytes i)) c.in_ok-kind.ensures.whole c.in_ok-kind.ensures.kind c.in_ok-kind.ensures.sound (sym c.in_default.ensures))

pub invariant_of-result : goal.invariant_of-result
invariant_of-result c = (spells c).grammar

pub returns-clause-spelled : goal.returns-clause-spelled
returns-clause-spelled c = spells c

pub returns-clause-only : goal.returns-clause-only
returns-clause-only c = λ t s. ap Ok (one_value c.args.bytes.now _ t (spells c) s)

pub returns-in_err-kind-clause-reading : goal.returns-in_err-kind-clause-reading
returns-in_err-kind-clause-reading c =
    let p = err_from_is_err_and c.from_residual.result c.from_residual.ensures.1 in
    let h = find_within (λ f. holds f c.args.bytes.now) header_faults kind_faults c.in_err-kind.field-0.0 c.in_err-kind.ensures.fault in
    p.1 ∙ ap Err p.2 ∙ sym (reading_fault c.args.bytes.now c.in_err-kind.field-0.0 h)

pub returns-in-Some-clause-reading : goal.returns-in-Some-clause-reading
returns-in-Some-clause-reading c = sym (reading_fault c.args.bytes.now c.in-Some.fault (find_after (λ f. holds f c.args.bytes.now) header_faults kind_faults c.in_ok-kind.ensures.sound ∙ sym c.in-Some.ensures))

pub returns-clause-reading : goal.returns-clause-reading
returns-clause-reading c = sym (reading_spelled c.args.bytes.now _ (spells c))
