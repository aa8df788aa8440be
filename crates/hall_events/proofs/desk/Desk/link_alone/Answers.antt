use Rattle.std.proofs.Common.{◌≡◌, ℕ, List, [], ◌∷◌, inl, refl, sym, subst, ap, ◌∙◌}
use Rattle.hall_laws.specs.declared.part.Part.{Part}
use Rattle.hall_laws.specs.declared.part.PartValue.{PartValue}
use Rattle.hall_laws.specs.declared.token.Token.{Token}
use Rattle.hall_laws.specs.declared.token.Knowledge.{Knowledge}
use Rattle.hall_laws.specs.Parts.{lane_slot, part_slot, IsLaneName}
use Rattle.hall_laws.specs.Standing.{Sat, Values, token_of}
use Rattle.hall_laws.specs.Rule.{Known, Goes, after_silent}
use Rattle.hall_events.specs.Holds.{having}
use Rattle.hall_events.specs.Refusals.{IsRefused}
use Rattle.hall_events.specs.Works.{link_event}
use Rattle.hall_events.proofs.Holding.{idle_single}
use Rattle.hall_events.proofs.desk.Desk.link_alone.Goals as goal

pub take-requires-clause-token : goal.take-requires-clause-token
take-requires-clause-token c = idle_single c.args.self.now.place.now.me c.requires.idle

pub event-requires-clause-event : goal.event-requires-clause-event
event-requires-clause-event c =
    let w : Knowledge = (token_of c.args.self.now.place.now.me.0).knows in
    let name = c.args.name in let event = c.args.event in let what = c.in-Ok.what in
    let one : PartValue = c.in_ok-sender.sender.value in let one' : PartValue = c.act_alone.new.one in
    let took = c.in_ok-sender.ensures.taken in
    let t : Token = record { knows = w; held = (lane_slot name, one) ∷ [] } in
    let me : c.take.new.self.place.now.me ≡ having w ((lane_slot name, one) ∷ []) = took.2.0 ∙ ap (λ (h : Values). having w ((lane_slot name, one) ∷ h)) c.requires.idle.1 in
    let named : IsLaneName t.knows.config.requesters name = subst (λ (n : ℕ). IsLaneName n name) (sym c.requires.desk.0.1.3) c.requires.desk.1 in
    let F : Sat → ℕ → Type 0 = λ s k. Goes (link_event name event) what (token_of s.0) k one' (after_silent (link_event name event) what [] (token_of s.0)) in
    let goes : F (having w ((lane_slot name, one) ∷ [])) (lane_slot name) = c.linking.ensures.owes_alone t name event one one' what named took.1 c.requires.ends refl c.in-Ok.ensures.ok in
    (link_event name event, what, subst (λ (s : Sat). F s (part_slot c.in_ok-sender.sender.part)) (sym me) (subst (λ (p : Part). F (having w ((lane_slot name, one) ∷ [])) (part_slot p)) (sym took.0) goes))

pub returns-in-Ok-clause-shows : goal.returns-in-Ok-clause-shows
returns-in-Ok-clause-shows c =
    let w : Knowledge = (token_of c.args.self.now.place.now.me.0).knows in
    let name = c.args.name in let event = c.args.event in let what = c.in-Ok.what in
    let one : PartValue = c.in_ok-sender.sender.value in let one' : PartValue = c.act_alone.new.one in
    let took = c.in_ok-sender.ensures.taken in
    let t : Token = record { knows = w; held = (lane_slot name, one) ∷ [] } in
    let me : c.take.new.self.place.now.me ≡ having w ((lane_slot name, one) ∷ []) = took.2.0 ∙ ap (λ (h : Values). having w ((lane_slot name, one) ∷ h)) c.requires.idle.1 in
    let known : Known (t ∷ []) = subst (λ (s : Sat). Known s.0) me took.2.1 in
    let named : IsLaneName t.knows.config.requesters name = subst (λ (n : ℕ). IsLaneName n name) (sym c.requires.desk.0.1.3) c.requires.desk.1 in
    c.linking.ensures.shown (link_event name event) what t (after_silent (link_event name event) what [] t) [] (lane_slot name) one' known (c.linking.ensures.owes_alone t name event one one' what named took.1 c.requires.ends refl c.in-Ok.ensures.ok)

pub returns-in-Err-clause-why : goal.returns-in-Err-clause-why
returns-in-Err-clause-why c =
    let w : Knowledge = (token_of c.args.self.now.place.now.me.0).knows in
    let name = c.args.name in let event = c.args.event in
    let one : PartValue = c.in_ok-sender.sender.value in
    let took = c.in_ok-sender.ensures.taken in
    let t : Token = record { knows = w; held = (lane_slot name, one) ∷ [] } in
    let me : c.take.new.self.place.now.me ≡ having w ((lane_slot name, one) ∷ []) = took.2.0 ∙ ap (λ (h : Values). having w ((lane_slot name, one) ∷ h)) c.requires.idle.1 in
    let known : Known (t ∷ []) = subst (λ (s : Sat). Known s.0) me took.2.1 in
    let named : IsLaneName t.knows.config.requesters name = subst (λ (n : ℕ). IsLaneName n name) (sym c.requires.desk.0.1.3) c.requires.desk.1 in
    subst (IsRefused w (link_event name event)) (sym c.refuse.ensures.refused) (inl (c.linking.ensures.refused_alone t [] name event one c.in-Err.refusal named took.1 c.requires.ends (known, refl) c.in-Err.ensures.refused))
