use Rattle.std.proofs.Common.{rules, ◌≡◌, ℕ, List, [], ◌∷◌, ◌++◌, length, subst, ap, ◌∙◌}
use Rattle.seq_memory.specs.History.{MemoryView}
use Rattle.hall_laws.specs.declared.part.PartValue.{PartValue}
use Rattle.hall_laws.specs.declared.part.PartValue.TheVariants.{Memory}
use Rattle.hall_laws.specs.declared.token.Token.{Token}
use Rattle.hall_laws.specs.Standing.{Sat, token_of, holding, holding_first}
use Rattle.hall_laws.specs.Rule.{Known, history_in}
use Rattle.hall_events.proofs.meeting.meet_as.Goals as goal

pub returns-clause-met : goal.returns-clause-met
returns-clause-met c =
    let ta : Token = token_of c.args.first.me.0 in let tb : Token = token_of c.args.second.me.0 in
    let kind = c.in-Ok.ensures.taken.0 in let m : MemoryView = kind.0 in
    let one : c.args.first.me.0 ≡ ta ∷ [] = ap (λ (s : Sat). s.0) c.requires.idle.0.0 in
    let two : c.args.second.me.0 ≡ tb ∷ [] = ap (λ (s : Sat). s.0) c.requires.idle.1.0 in
    let joined : c.join.new.place.me.0 ≡ ta ∷ (tb ∷ []) = ap (λ (s : Sat). s.0) c.join.ensures.2 ∙ (ap (λ (l : List Token). l ++ c.args.second.me.0) one ∙ ap (λ (l : List Token). ta ∷ l) two) in
    let known : Known (holding 0 (Memory m) ta ∷ (tb ∷ [])) = subst (λ (l : List Token). Known (holding_first 0 (Memory m) l)) joined (subst (λ (v : PartValue). Known (holding_first 0 v c.join.new.place.me.0)) kind.1 c.in-Ok.ensures.taken.1.1) in
    let held : (holding 0 (Memory m) ta).held ≡ (0, Memory m) ∷ [] = ap (λ (l : List (ℕ × _)). (0, Memory m) ∷ l) c.requires.idle.0.1 in
    let met = c.meeting.ensures (holding 0 (Memory m) ta) tb m known held in
    let seen : history_in c.in-Ok.memory ≡ m.entries = ap history_in kind.1 in
    (m.entries, record ta.knows { seen = m.entries }, record tb.knows { seen = m.entries }, c.see-n.ensures.number ∙ ap length seen, search rules, search rules, met.0, met.1)
