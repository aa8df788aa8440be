use Rattle.std.proofs.Common.{rules, ◌≡◌, ℕ, List, [], ◌∷◌, inl, refl, sym, subst, ap, ◌∙◌}
use Rattle.lane_core.specs.Steps.{ReceiverEndView, SenderEndView}
use Rattle.seq_memory.specs.History.{MemoryView}
use Rattle.fabric_steps.specs.declared.event.EventOf.TheVariants.{Serve}
use Rattle.fabric_steps.specs.declared.event.LaneName.TheVariants.{Inward, Outward}
use Rattle.fabric_steps.specs.declared.event.SeenOf.TheVariants.{At}
use Rattle.hall_laws.specs.declared.part.Part.{Part}
use Rattle.hall_laws.specs.declared.part.Part.TheVariants as parts
use Rattle.hall_laws.specs.declared.part.PartValue.TheVariants.{Memory, Sender, Receiver}
use Rattle.hall_laws.specs.declared.token.Token.{Token}
use Rattle.hall_laws.specs.declared.token.Knowledge.{Knowledge}
use Rattle.hall_laws.specs.Calls.{serving_also}
use Rattle.hall_laws.specs.Parts.{part_slot}
use Rattle.hall_laws.specs.Standing.{Sat, token_of}
use Rattle.hall_laws.specs.Rule.{Known, Goes, after_event, with_done}
use Rattle.hall_events.specs.Holds.{having}
use Rattle.hall_events.specs.Refusals.{IsRefused}
use Rattle.hall_events.proofs.Mapped.{over}
use Rattle.hall_events.proofs.desk.Desk.serve.Goals as goal

pub event-requires-clause-event : goal.event-requires-clause-event
event-requires-clause-event c =
    let w : Knowledge = (token_of c.args.self.now.place.now.me.0).knows in let place : ℕ = c.args.place in
    let r : ReceiverEndView = c.receiver-2.result.now in let m : MemoryView = c.memory.result.now in let s : SenderEndView = c.sender.result.now in
    let t : Token = record { knows = w; held = (5, Sender s) ∷ ((0, Memory m) ∷ ((4, Receiver r) ∷ [])) } in
    let me : c.take_third.new.self.place.now.me ≡ having w ((5, Sender s) ∷ ((0, Memory m) ∷ ((4, Receiver r) ∷ []))) = search rules in
    let n : ℕ = c.in-Ok.n in let r' = c.serve.new.receiver in let m' = c.serve.new.memory in let s' = c.serve.new.sender in
    let after : Token = record { knows = with_done (Serve place) (At n) (serving_also n w); held = (0, Memory m') ∷ ((5, Sender s') ∷ []) } in
    let goes : Goes (Serve place) (At n) t 4 (Receiver r') after = c.serving.ensures.owes t place n r r' m m' s s' refl c.in-Ok.ensures.answers c.in-Ok.ensures.fits in
    let ts : c.turn-in-Ok.new.self.me.0 ≡ t ∷ [] = ap (λ (z : Sat). z.0) c.turn-in-Ok.ensures.2 ∙ (ap (λ (z : Sat). z.0) c.turn.ensures.2 ∙ ap (λ (z : Sat). z.0) me) in
    let F : List Token → Part → Part → Part → Type 0 = λ l p q z. Goes (Serve place) (At n) (token_of l) (part_slot p) (Receiver r') (record { knows = with_done (Serve place) (At n) (serving_also n (token_of l).knows); held = (part_slot q, Memory m') ∷ ((part_slot z, Sender s') ∷ []) }) in
    let h = c.in_ok-receiver-3 in
    let at_r : h.receiver.part ≡ parts.ReceiverEnd Inward = search rules in
    let at_m : h.memory.part ≡ parts.Memory = search rules in
    let at_s : h.sender.part ≡ parts.SenderEnd Outward = search rules in
    (Serve place, At n, over (λ (l : List Token) (p : Part). F l p h.memory.part h.sender.part) _ _ _ _ ts at_r (over (λ (q z : Part). F (t ∷ []) (parts.ReceiverEnd Inward) q z) _ _ _ _ at_m at_s goes))

pub returns-in-Ok-clause-shows : goal.returns-in-Ok-clause-shows
returns-in-Ok-clause-shows c =
    let w : Knowledge = (token_of c.args.self.now.place.now.me.0).knows in let place : ℕ = c.args.place in
    let r : ReceiverEndView = c.receiver-2.result.now in let m : MemoryView = c.memory.result.now in let s : SenderEndView = c.sender.result.now in
    let t : Token = record { knows = w; held = (5, Sender s) ∷ ((0, Memory m) ∷ ((4, Receiver r) ∷ [])) } in
    let me : c.take_third.new.self.place.now.me ≡ having w ((5, Sender s) ∷ ((0, Memory m) ∷ ((4, Receiver r) ∷ []))) = search rules in
    let known : Known (t ∷ []) = subst (λ (z : Sat). Known z.0) me c.in_ok-receiver-3.ensures.taken.4.1 in
    let n : ℕ = c.in-Ok.n in let r' = c.serve.new.receiver in let m' = c.serve.new.memory in let s' = c.serve.new.sender in
    let after : Token = record { knows = with_done (Serve place) (At n) (serving_also n w); held = (0, Memory m') ∷ ((5, Sender s') ∷ []) } in
    let goes : Goes (Serve place) (At n) t 4 (Receiver r') after = c.serving.ensures.owes t place n r r' m m' s s' refl c.in-Ok.ensures.answers c.in-Ok.ensures.fits in
    c.serving.ensures.shown (Serve place) (At n) t after [] 4 (Receiver r') known goes

pub returns-in-Err-clause-why : goal.returns-in-Err-clause-why
returns-in-Err-clause-why c =
    let w : Knowledge = (token_of c.args.self.now.place.now.me.0).knows in let place : ℕ = c.args.place in
    let r : ReceiverEndView = c.receiver-2.result.now in let m : MemoryView = c.memory.result.now in let s : SenderEndView = c.sender.result.now in
    let t : Token = record { knows = w; held = (5, Sender s) ∷ ((0, Memory m) ∷ ((4, Receiver r) ∷ [])) } in
    let me : c.take_third.new.self.place.now.me ≡ having w ((5, Sender s) ∷ ((0, Memory m) ∷ ((4, Receiver r) ∷ []))) = search rules in
    let known : Known (t ∷ []) = subst (λ (z : Sat). Known z.0) me c.in_ok-receiver-3.ensures.taken.4.1 in
    subst (IsRefused w (Serve place)) (sym c.refuse_both.ensures.refused) (inl (c.serving.ensures.refused t [] place r m s c.in-Err.refusal (known, refl) c.in-Err.ensures.refuses))
