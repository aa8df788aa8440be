use Rattle.std.proofs.Common.{◌+◌, ◌/◌, ◌%◌, ◌++◌, ◌∷◌, ◌∙◌, List, ℕ, [], ap, sym, append_assoc}
use Rattle.packet_engine.proofs.TextLemmas.{decimal-two}
use Rattle.packet_engine.proofs.text.put_number.Goals as goal

pub returns-clause-items : goal.returns-clause-items
returns-clause-items c =
    let text = c.args.text.now.items in
    let n = c.args.number in
    c.push-3.ensures.items ∙ ap (λ (t : List ℕ). t ++ (48 + n % 10) ∷ []) c.push-2.ensures.items
    ∙ append_assoc text ((48 + n / 10) ∷ []) ((48 + n % 10) ∷ [])
    ∙ ap (λ (t : List ℕ). text ++ t) (sym (decimal-two n c.if-number-lt10.false c.requires.small))
