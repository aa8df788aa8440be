use Rattle.std.proofs.Common.{◌≡◌, List, [], ◌∷◌, sym, subst, ap, ◌∙◌}
use Rattle.hall_laws.specs.declared.token.Token.{Token}
use Rattle.hall_laws.specs.Parts.{part_slot}
use Rattle.hall_laws.specs.Rule.{Goes}
use Rattle.hall_laws.specs.Standing.{Sat, token_of}
use Rattle.hall_events.specs.Desks.{entry, knows}
use Rattle.hall_events.proofs.desk.Desk.happen.Goals as goal

pub event-requires-clause-event : goal.event-requires-clause-event
event-requires-clause-event g c =
    let h = c.requires.event in
    let one = c.args.one in let two = c.args.two in
    let t : Token = record { knows = knows c.args.self.now; held = (part_slot two.part, h.1) ∷ ((part_slot one.part, h.0) ∷ []) } in
    let ts : c.turn.new.self.me.0 ≡ t ∷ [] = ap (λ (s : Sat). s.0) c.turn.ensures.2 ∙ ap (λ (s : Sat). s.0) h.2 in
    (h.4, h.5, subst (λ (l : List Token). Goes h.4 h.5 (token_of l) (part_slot one.part) one.value (record { knows = g.C.Learns.knows; held = entry two ∷ [] })) (sym ts) h.6)
