use Rattle.std.proofs.Common.{rules, ◌≡◌, ◌≢◌, ◌+◌, ℕ, List, [], ◌∷◌, inl, refl, sym, subst, ap, ◌∙◌}
use Rattle.lane_core.specs.Steps.{ReceiverEndView, SenderEndView}
use Rattle.fabric_steps.specs.declared.event.EventOf.TheVariants.{Forward}
use Rattle.fabric_steps.specs.declared.event.LaneName.{LaneName}
use Rattle.fabric_steps.specs.declared.event.SeenOf.TheVariants.{To}
use Rattle.hall_laws.specs.declared.part.Part.{Part}
use Rattle.hall_laws.specs.declared.part.Part.TheVariants as parts
use Rattle.hall_laws.specs.declared.part.PartValue.{PartValue}
use Rattle.hall_laws.specs.declared.part.PartValue.TheVariants.{Sender, Receiver}
use Rattle.hall_laws.specs.declared.token.Token.{Token}
use Rattle.hall_laws.specs.declared.token.Knowledge.{Knowledge}
use Rattle.hall_laws.specs.Parts.{lane_slot, part_slot, IsPartName}
use Rattle.hall_laws.specs.Standing.{Sat, Values, token_of}
use Rattle.hall_laws.specs.Rule.{Known, Goes, after_silent}
use Rattle.hall_events.specs.declared.desk.Held.{Held}
use Rattle.hall_events.specs.Desks.{entry, knows}
use Rattle.hall_events.specs.Holds.{having}
use Rattle.hall_events.specs.Refusals.{IsRefused}
use Rattle.hall_events.specs.Ways.{LeadsIn, Leads, HasNoWay}
use Rattle.hall_events.proofs.Forwarding.{next_lane, named_lane}
use Rattle.hall_events.proofs.Holding.{idle_single, happened}
use Rattle.hall_events.proofs.Mapped.{over}
use Rattle.hall_events.proofs.desk.Desk.forward.Goals as goal

pub returns-in-Err-clause-why : goal.returns-in-Err-clause-why
returns-in-Err-clause-why c =
    let w : Knowledge = (token_of c.args.self.now.place.now.me.0).knows in
    let name = c.args.name in let place : ℕ = c.args.place in
    let o = c.in_ok-one.one in let took = c.in_ok-one.ensures.taken in let r : ReceiverEndView = c.receiver.result.now in
    let many : w.config.requesters ≡ c.args.self.now.requesters = c.requires.desk.1.3 in
    let inward : LeadsIn c.args.self.now.requesters name = c.leads_in.ensures.0 (search rules) in
    let named : LeadsIn w.config.requesters name = subst (λ (n : ℕ). LeadsIn n name) (sym many) inward in
    let t : Token = record { knows = w; held = (lane_slot name + 3, Receiver r) ∷ [] } in
    let me : c.take.new.self.place.now.me ≡ having w ((lane_slot name + 3, Receiver r) ∷ []) = took.2.0 ∙ (ap (λ (h : Values). having w ((lane_slot name + 3, o.value) ∷ h)) c.requires.idle.1 ∙ ap (λ (v : PartValue). having w ((lane_slot name + 3, v) ∷ [])) (sym c.receiver.ensures.value)) in
    let known : Known (t ∷ []) = subst (λ (m : Sat). Known m.0) me took.2.1 in
    let why : HasNoWay w.config.requesters name r place c.in-Err.refusal = subst (λ (n : ℕ). HasNoWay n name r place c.in-Err.refusal) (sym many) (search rules) in
    subst (IsRefused w (Forward name place)) (sym c.refuse.ensures.refused) (inl (c.forwarding.ensures.no_way t [] name place r c.in-Err.refusal named (known, refl) why))

pub happen-requires-clause-table : goal.happen-requires-clause-table
happen-requires-clause-table c =
    let w : Knowledge = (token_of c.args.self.now.place.now.me.0).knows in
    let name = c.args.name in let place : ℕ = c.args.place in
    let o = c.in_ok-one.one in let took = c.in_ok-one.ensures.taken in let r : ReceiverEndView = c.receiver.result.now in
    let many : w.config.requesters ≡ c.args.self.now.requesters = c.requires.desk.1.3 in
    let inward : LeadsIn c.args.self.now.requesters name = c.leads_in.ensures.0 (search rules) in
    let named : LeadsIn w.config.requesters name = subst (λ (n : ℕ). LeadsIn n name) (sym many) inward in
    let one = c.in_ok-one-2.one in let two = c.in_ok-one-2.two in let took2 = c.in_ok-one-2.ensures.taken in
    let to : ℕ = c.in-Ok.way.0 in let next : LaneName = c.in-Ok.way.1 in
    let leads : Leads c.args.self.now.requesters name r place to next = search rules in
    let same : c.take_second.new.self.requesters ≡ c.args.self.now.requesters = search rules in
    let at_one : one.part ≡ parts.ReceiverEnd name = search rules in
    let at_two : two.part ≡ parts.SenderEnd next = search rules in
    let lanes = next_lane c.args.self.now.requesters name next r place to inward leads in
    let desk = c.take_second.ensures.desk.0 in
    ((desk.0, desk.1.0), (over IsPartName _ _ _ _ same at_one lanes.0, over IsPartName _ _ _ _ same at_two lanes.1, over (λ (p q : Part). part_slot p ≢ part_slot q) _ _ _ _ at_one at_two lanes.2))

pub happen-requires-clause-event : goal.happen-requires-clause-event
happen-requires-clause-event c =
    let w : Knowledge = (token_of c.args.self.now.place.now.me.0).knows in
    let name = c.args.name in let place : ℕ = c.args.place in
    let o = c.in_ok-one.one in let took = c.in_ok-one.ensures.taken in let r : ReceiverEndView = c.receiver.result.now in
    let many : w.config.requesters ≡ c.args.self.now.requesters = c.requires.desk.1.3 in
    let inward : LeadsIn c.args.self.now.requesters name = c.leads_in.ensures.0 (search rules) in
    let named : LeadsIn w.config.requesters name = subst (λ (n : ℕ). LeadsIn n name) (sym many) inward in
    let one = c.in_ok-one-2.one in let two = c.in_ok-one-2.two in let took2 = c.in_ok-one-2.ensures.taken in
    let to : ℕ = c.in-Ok.way.0 in let next : LaneName = c.in-Ok.way.1 in
    let s : SenderEndView = c.sender.result.now in let r2 : ReceiverEndView = c.receiver-2.result.now in
    let same_value : Receiver r2 ≡ Receiver r = c.receiver-2.ensures.value ∙ search rules in
    let same : r2 ≡ r = cc in
    let leads : Leads c.args.self.now.requesters name r place to next = search rules in
    let leads2 : Leads w.config.requesters name r2 place to next = over (λ (n : ℕ) (v : ReceiverEndView). Leads n name v place to next) _ _ _ _ many same leads in
    let t : Token = record { knows = w; held = (lane_slot next, Sender s) ∷ ((lane_slot name + 3, Receiver r2) ∷ []) } in
    let me : c.take_second.new.self.place.now.me ≡ having w ((lane_slot next, Sender s) ∷ ((lane_slot name + 3, Receiver r2) ∷ [])) = search rules in
    let known : Known (t ∷ []) = subst (λ (m : Sat). Known m.0) me took2.3.1 in
    let r' = c.forward.new.receiver in let s' = c.forward.new.sender in
    let goes : Goes (Forward name place) (To to) t (lane_slot name + 3) (Receiver r') (after_silent (Forward name place) (To to) ((lane_slot next, Sender s') ∷ []) t) =
    c.forwarding.ensures.owes t name next place to r2 r' s s' named leads2 refl c.in-Ok-forward.ensures.answers c.in-Ok-forward.ensures.fits in
    let first : one.part ≡ parts.ReceiverEnd name = search rules in
    let second : two.part ≡ parts.SenderEnd next = search rules in
    let at_one : part_slot one.part ≡ lane_slot name + 3 = ap part_slot first in
    let at_two : part_slot two.part ≡ lane_slot next = ap part_slot second in
    happened c.take_second.new.self (record { part = one.part; value = Receiver r' }) (record { part = two.part; value = Sender s' }) w (lane_slot name + 3) (lane_slot next) (Receiver r2) (Sender s) (Forward name place) (To to) at_one at_two me goes

pub returns-in-Ok-forward-clause-shows : goal.returns-in-Ok-forward-clause-shows
returns-in-Ok-forward-clause-shows c =
    let w : Knowledge = (token_of c.args.self.now.place.now.me.0).knows in
    let name = c.args.name in let place : ℕ = c.args.place in
    let o = c.in_ok-one.one in let took = c.in_ok-one.ensures.taken in let r : ReceiverEndView = c.receiver.result.now in
    let many : w.config.requesters ≡ c.args.self.now.requesters = c.requires.desk.1.3 in
    let inward : LeadsIn c.args.self.now.requesters name = c.leads_in.ensures.0 (search rules) in
    let named : LeadsIn w.config.requesters name = subst (λ (n : ℕ). LeadsIn n name) (sym many) inward in
    let one = c.in_ok-one-2.one in let two = c.in_ok-one-2.two in let took2 = c.in_ok-one-2.ensures.taken in
    let to : ℕ = c.in-Ok.way.0 in let next : LaneName = c.in-Ok.way.1 in
    let s : SenderEndView = c.sender.result.now in let r2 : ReceiverEndView = c.receiver-2.result.now in
    let same_value : Receiver r2 ≡ Receiver r = c.receiver-2.ensures.value ∙ search rules in
    let same : r2 ≡ r = cc in
    let leads : Leads c.args.self.now.requesters name r place to next = search rules in
    let leads2 : Leads w.config.requesters name r2 place to next = over (λ (n : ℕ) (v : ReceiverEndView). Leads n name v place to next) _ _ _ _ many same leads in
    let t : Token = record { knows = w; held = (lane_slot next, Sender s) ∷ ((lane_slot name + 3, Receiver r2) ∷ []) } in
    let me : c.take_second.new.self.place.now.me ≡ having w ((lane_slot next, Sender s) ∷ ((lane_slot name + 3, Receiver r2) ∷ [])) = search rules in
    let known : Known (t ∷ []) = subst (λ (m : Sat). Known m.0) me took2.3.1 in
    let r' = c.forward.new.receiver in let s' = c.forward.new.sender in
    let goes : Goes (Forward name place) (To to) t (lane_slot name + 3) (Receiver r') (after_silent (Forward name place) (To to) ((lane_slot next, Sender s') ∷ []) t) =
    c.forwarding.ensures.owes t name next place to r2 r' s s' named leads2 refl c.in-Ok-forward.ensures.answers c.in-Ok-forward.ensures.fits in
    c.forwarding.ensures.shown (Forward name place) (To to) t (after_silent (Forward name place) (To to) ((lane_slot next, Sender s') ∷ []) t) [] (lane_slot name + 3) (Receiver r') known goes

pub returns-in-Err-forward-clause-why : goal.returns-in-Err-forward-clause-why
returns-in-Err-forward-clause-why c =
    let w : Knowledge = (token_of c.args.self.now.place.now.me.0).knows in
    let name = c.args.name in let place : ℕ = c.args.place in
    let o = c.in_ok-one.one in let took = c.in_ok-one.ensures.taken in let r : ReceiverEndView = c.receiver.result.now in
    let many : w.config.requesters ≡ c.args.self.now.requesters = c.requires.desk.1.3 in
    let inward : LeadsIn c.args.self.now.requesters name = c.leads_in.ensures.0 (search rules) in
    let named : LeadsIn w.config.requesters name = subst (λ (n : ℕ). LeadsIn n name) (sym many) inward in
    let one = c.in_ok-one-2.one in let two = c.in_ok-one-2.two in let took2 = c.in_ok-one-2.ensures.taken in
    let to : ℕ = c.in-Ok.way.0 in let next : LaneName = c.in-Ok.way.1 in
    let s : SenderEndView = c.sender.result.now in let r2 : ReceiverEndView = c.receiver-2.result.now in
    let same_value : Receiver r2 ≡ Receiver r = c.receiver-2.ensures.value ∙ search rules in
    let same : r2 ≡ r = cc in
    let leads : Leads c.args.self.now.requesters name r place to next = search rules in
    let leads2 : Leads w.config.requesters name r2 place to next = over (λ (n : ℕ) (v : ReceiverEndView). Leads n name v place to next) _ _ _ _ many same leads in
    let t : Token = record { knows = w; held = (lane_slot next, Sender s) ∷ ((lane_slot name + 3, Receiver r2) ∷ []) } in
    let me : c.take_second.new.self.place.now.me ≡ having w ((lane_slot next, Sender s) ∷ ((lane_slot name + 3, Receiver r2) ∷ [])) = search rules in
    let known : Known (t ∷ []) = subst (λ (m : Sat). Known m.0) me took2.3.1 in
    subst (IsRefused w (Forward name place)) (sym c.refuse_both.ensures.refused) (inl (c.forwarding.ensures.refused t [] name next place to r2 s c.in-Err-forward.refusal named leads2 (known, refl) c.in-Err-forward.ensures.refuses))
