use Rattle.std.proofs.Common.{◌≡◌, ◌∙◌, ◌-◌, ◌+◌, ◌≤◌, ◌++◌, ℕ, List, Option, None, sym, ap, subst, take, drop, length, arith, length-drop}
use Rattle.std.proofs.lemmas.List.{length-take-le}
use Rattle.tlp_core.specs.Operation.{address_of, count_of}
use Rattle.seq_memory.specs.Step.{refusal}
use Rattle.search_effects.proofs.Back.{if_none, none_of, put_there, old_is, refused_back}
use Rattle.search_effects.proofs.undoing.put_back.Goals as goal

pub returns-then-is_some : goal.returns-then-is_some
returns-then-is_some c = λ m is old.
    refused_back c.args.base c.args.block m c.args.bytes.now c.args.op.now c.refusal_lent.result c.only_the_place_changes.ensures.size c.refused_and_read_change_nothing.ensures.refused is c.refusal_lent.ensures.value (sym c.is_some.ensures ∙ c.if-is_some.true)

pub returns-then-place-old : goal.returns-then-place-old
returns-then-place-old c = λ m is old.
    let none = none_of c.refusal_lent.result (sym c.is_some.ensures ∙ c.if-is_some.false) in
    let served = sym c.refusal_lent.ensures.value ∙ none in
    let low = if_none c.refusal_lent.result (c.args.base ≤ address_of c.args.op.now) none c.refusal_lent.ensures.low in
    ap (λ (xs : List ℕ). take (c.address.result - c.args.base) c.args.bytes.now ++ (xs ++ drop (c.address.result - c.args.base + c.size.result - (c.address.result - c.args.base)) (drop (c.address.result - c.args.base) c.args.bytes.now))) c.copy_from_slice.ensures.after
    ∙ put_there c.only_the_place_changes.ensures.others c.only_the_place_changes.ensures.size c.args.base c.args.block m c.args.bytes.now c.args.old.now c.args.op.now is old served low
    (c.address.result - c.args.base) (c.address.result - c.args.base + c.size.result - (c.address.result - c.args.base))
    (ap (λ n. n - c.args.base) c.address.ensures) (omega (arith, c.size.ensures.value))

pub returns-else-place-old : goal.returns-else-place-old
returns-else-place-old c = λ m is old.
    let none = none_of c.refusal_lent.result (sym c.is_some.ensures ∙ c.if-is_some.false) in
    let served = sym c.refusal_lent.ensures.value ∙ none in
    let low = if_none c.refusal_lent.result (c.args.base ≤ address_of c.args.op.now) none c.refusal_lent.ensures.low in
    let high = if_none c.refusal_lent.result (address_of c.args.op.now + count_of c.args.op.now ≤ c.args.base + length c.args.bytes.now) none c.refusal_lent.ensures.high in
    let len : length c.args.bytes.now ≡ length m = ap length is ∙ c.only_the_place_changes.ensures.size c.args.base c.args.block m c.args.op.now in
    let there = old_is c.only_the_place_changes.ensures.others c.only_the_place_changes.ensures.size c.args.base c.args.block m c.args.bytes.now c.args.old.now c.args.op.now is old served low in
    let count : length c.args.old.now ≡ count_of c.args.op.now =
    ap length there ∙ length-take-le (count_of c.args.op.now) (drop (address_of c.args.op.now - c.args.base) m) (omega (arith, length-drop (address_of c.args.op.now - c.args.base) m)) in
    let i = c.address.result - c.args.base in
    let k = c.address.result - c.args.base + c.size.result - (c.address.result - c.args.base) in
    let taken : length (take k (drop i c.args.bytes.now)) ≡ k =
    length-take-le k (drop i c.args.bytes.now) (omega (arith, length-drop i c.args.bytes.now, high, low, c.size.ensures.value, c.address.ensures)) in
    let same : k ≡ length c.args.old.now = omega (arith, count, c.size.ensures.value) in
    absurd (c.if-place-old.false (taken ∙ same))
