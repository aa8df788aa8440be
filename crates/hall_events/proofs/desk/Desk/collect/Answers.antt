use Rattle.std.proofs.Common.{rules, ◌≡◌, ◌+◌, ℕ, suc, List, [], ◌∷◌, length, refl, sym, subst, ap, ◌∙◌, arith, drop}
use Rattle.seq_memory.specs.Entries.{Entry}
use Rattle.seq_memory.specs.History.{MemoryView}
use Rattle.requester_core.specs.RequesterView.{RequesterView}
use Rattle.lane_core.specs.Steps.{ReceiverEndView}
use Rattle.fabric_steps.specs.declared.event.EventOf.TheVariants.{Collect}
use Rattle.fabric_steps.specs.declared.event.LaneName.TheVariants.{Down}
use Rattle.fabric_steps.specs.declared.event.SeenOf.TheVariants.{Collected}
use Rattle.hall_laws.specs.declared.part.Part.{Part}
use Rattle.hall_laws.specs.declared.part.Part.TheVariants as parts
use Rattle.hall_laws.specs.declared.part.PartValue.TheVariants.{Memory, Requester, Receiver}
use Rattle.hall_laws.specs.declared.token.Token.{Token}
use Rattle.hall_laws.specs.declared.token.Knowledge.{Knowledge}
use Rattle.hall_laws.specs.Calls.{knowing}
use Rattle.hall_laws.specs.Duties.{IsAtPort}
use Rattle.hall_laws.specs.Parts.{slot, part_slot}
use Rattle.hall_laws.specs.Standing.{Sat, token_of, others_of}
use Rattle.hall_laws.specs.Rule.{Known, Goes, after_event, learned_also}
use Rattle.hall_laws.specs.Tells.{CollectTells, SeesTells}
use Rattle.hall_events.specs.Desks.{knows}
use Rattle.hall_events.specs.Holds.{having}
use Rattle.hall_events.specs.Refusals.{IsWithAnother}
use Rattle.hall_events.proofs.Holding.{idle_has, last_back}
use Rattle.hall_events.proofs.Mapped.{over}
use Rattle.hall_events.proofs.Refused.{uncollected}
use Rattle.hall_events.proofs.desk.Desk.collect.Goals as goal

pub event-requires-clause-event : goal.event-requires-clause-event
event-requires-clause-event c =
    let w : Knowledge = (token_of c.args.self.now.place.now.me.0).knows in let port : ℕ = c.args.self.now.number + 1 in
    let m : MemoryView = c.memory.result.now in let q : RequesterView = c.requester.result.now in let e : ReceiverEndView = c.receiver.result.now in
    let t : Token = record { knows = w; held = (slot port 5 + 3, Receiver e) ∷ ((slot port 0, Requester q) ∷ ((0, Memory m) ∷ [])) } in
    let me : c.take_third.new.self.place.now.me ≡ having w ((slot port 5 + 3, Receiver e) ∷ ((slot port 0, Requester q) ∷ ((0, Memory m) ∷ []))) = search rules in
    let number : w.number ≡ c.args.self.now.number = c.requires.desk.0.1.2 in
    let many : w.config.requesters ≡ c.args.self.now.requesters = c.requires.desk.0.1.3 in
    let own : port ≡ suc w.number = omega (arith, number) in
    let at : IsAtPort t port = (own, omega (arith, many, c.requires.desk.1)) in
    let x = c.in-Ok.answer in let q' = c.collect.new.requester in let e' = c.collect.new.receiver in
    let after : Token = after_event (Collect port) (Collected x) m.entries ((slot port 5 + 3, Receiver e') ∷ ((0, Memory m) ∷ [])) t in
    let goes : Goes (Collect port) (Collected x) t (slot port 0) (Requester q') after = c.collecting.ensures.owes t port x m q q' e e' at refl c.in-Ok.ensures.answers in
    let ts : c.turn.new.self.me.0 ≡ t ∷ [] = ap (λ (z : Sat). z.0) c.turn.ensures.2 ∙ ap (λ (z : Sat). z.0) me in
    let F : List Token → Part → Part → Part → Type 0 = λ l p r z. Goes (Collect port) (Collected x) (token_of l) (part_slot p) (Requester q') (after_event (Collect port) (Collected x) m.entries ((part_slot r, Receiver e') ∷ ((part_slot z, Memory m) ∷ [])) (token_of l)) in
    let h = c.in_ok-memory-3 in
    let at_q : h.requester.part ≡ parts.Requester port = search rules in
    let at_e : h.receiver.part ≡ parts.ReceiverEnd (Down port) = search rules in
    let at_m : h.memory.part ≡ parts.Memory = search rules in
    (Collect port, Collected x, over (λ (l : List Token) (p : Part). F l p h.receiver.part h.memory.part) _ _ _ _ ts at_q (over (λ (r z : Part). F (t ∷ []) (parts.Requester port) r z) _ _ _ _ at_e at_m goes))

pub returns-in-Ok-clause-collected : goal.returns-in-Ok-clause-collected
returns-in-Ok-clause-collected c =
    let w : Knowledge = (token_of c.args.self.now.place.now.me.0).knows in let port : ℕ = c.args.self.now.number + 1 in
    let m : MemoryView = c.memory.result.now in let q : RequesterView = c.requester.result.now in let e : ReceiverEndView = c.receiver.result.now in
    let t : Token = record { knows = w; held = (slot port 5 + 3, Receiver e) ∷ ((slot port 0, Requester q) ∷ ((0, Memory m) ∷ [])) } in
    let me : c.take_third.new.self.place.now.me ≡ having w ((slot port 5 + 3, Receiver e) ∷ ((slot port 0, Requester q) ∷ ((0, Memory m) ∷ []))) = search rules in
    let number : w.number ≡ c.args.self.now.number = c.requires.desk.0.1.2 in
    let many : w.config.requesters ≡ c.args.self.now.requesters = c.requires.desk.0.1.3 in
    let own : port ≡ suc w.number = omega (arith, number) in
    let at : IsAtPort t port = (own, omega (arith, many, c.requires.desk.1)) in
    let known : Known (t ∷ []) = subst (λ (z : Sat). Known z.0) me c.in_ok-memory-3.ensures.taken.4.1 in
    let x = c.in-Ok.answer in let q' = c.collect.new.requester in let e' = c.collect.new.receiver in
    let after : Token = after_event (Collect port) (Collected x) m.entries ((slot port 5 + 3, Receiver e') ∷ ((0, Memory m) ∷ [])) t in
    let goes : Goes (Collect port) (Collected x) t (slot port 0) (Requester q') after = c.collecting.ensures.owes t port x m q q' e e' at refl c.in-Ok.ensures.answers in
    let G : ℕ → Type 0 = λ p. Goes (Collect p) (Collected x) t (slot port 0) (Requester q') after in
    let tells : CollectTells w x.number x.reply (length m.entries) (learned_also (Collect port) (Collected x) m.entries w) = subst (λ (p : ℕ). CollectTells w x.number x.reply (length m.entries) (learned_also (Collect p) (Collected x) m.entries w)) (sym own) (c.collecting.ensures.tells t after [] (slot port 5 + 3) (slot port 0) (Receiver e) (Requester q) (Requester q') m x known refl (subst G own goes)) in
    let N : List Entry → Type 0 = λ l. CollectTells w x.number x.reply (length l) (learned_also (Collect port) (Collected x) m.entries w) in
    let h = c.in_ok-memory-3 in let learns : Knowledge = learned_also (Collect port) (Collected x) m.entries w in
    let ts : c.turn.new.self.me.0 ≡ t ∷ [] = ap (λ (z : Sat). z.0) c.turn.ensures.2 ∙ ap (λ (z : Sat). z.0) me in
    let T : List Token → List Token = λ l. after_event (Collect port) (Collected x) m.entries ((part_slot h.receiver.part, Receiver e') ∷ ((part_slot h.memory.part, Memory m) ∷ [])) (token_of l) ∷ others_of l in
    let event : c.event.new.self.place.now.me.0 ≡ T c.turn.new.self.me.0 = ap (λ (z : Sat). z.0) c.event.ensures.happened in
    let turned : c.turn-in-Ok.new.self.me.0 ≡ T (t ∷ []) = ap (λ (z : Sat). z.0) c.turn-in-Ok.ensures.2 ∙ (event ∙ ap T ts) in
    let back : c.put_back.new.self.place.now.me ≡ having learns ((part_slot h.memory.part, Memory m) ∷ []) = c.put_back.ensures.back ∙ ap (λ (l : List Token). having (token_of l).knows (drop 1 (token_of l).held)) turned in
    let idle : c.put_back-in-Ok.new.self.place.now.me ≡ knowing learns = last_back _ _ learns _ [] back c.put_back-in-Ok.ensures.back in
    (learned_also (Collect port) (Collected x) m.entries w, idle, subst N (sym c.entries.ensures) tells)

pub returns-in-Idle-clause-collected : goal.returns-in-Idle-clause-collected
returns-in-Idle-clause-collected c =
    let w : Knowledge = (token_of c.args.self.now.place.now.me.0).knows in let port : ℕ = c.args.self.now.number + 1 in
    let m : MemoryView = c.memory.result.now in let q : RequesterView = c.requester.result.now in let e : ReceiverEndView = c.receiver.result.now in
    let t : Token = record { knows = w; held = (slot port 5 + 3, Receiver e) ∷ ((slot port 0, Requester q) ∷ ((0, Memory m) ∷ [])) } in
    let me : c.take_third.new.self.place.now.me ≡ having w ((slot port 5 + 3, Receiver e) ∷ ((slot port 0, Requester q) ∷ ((0, Memory m) ∷ []))) = search rules in
    let idle : c.put_back_seen.new.self.place.now.me ≡ knowing (record w { seen = m.entries }) = search rules in
    let all : Known (t ∷ []) = subst (λ (z : Sat). Known z.0) me c.in_ok-memory-3.ensures.taken.4.1 in
    let last : Known (record { knows = w; held = (0, Memory m) ∷ [] } ∷ []) = (all.0, all.1, ((all.2.0.0.1.1, all.2.0.1), tt)) in
    let looked : SeesTells w (record w { seen = m.entries }) = c.collecting.ensures.looked (record { knows = w; held = (0, Memory m) ∷ [] }) [] m last refl in
    (record w { seen = m.entries }, idle, looked)

pub returns-in_default : goal.returns-in_default
returns-in_default c =
    let w : Knowledge = (token_of c.args.self.now.place.now.me.0).knows in let port : ℕ = c.args.self.now.number + 1 in
    let m : MemoryView = c.memory.result.now in let q : RequesterView = c.requester.result.now in let e : ReceiverEndView = c.receiver.result.now in
    let t : Token = record { knows = w; held = (slot port 5 + 3, Receiver e) ∷ ((slot port 0, Requester q) ∷ ((0, Memory m) ∷ [])) } in
    let me : c.take_third.new.self.place.now.me ≡ having w ((slot port 5 + 3, Receiver e) ∷ ((slot port 0, Requester q) ∷ ((0, Memory m) ∷ []))) = search rules in
    let number : w.number ≡ c.args.self.now.number = c.requires.desk.0.1.2 in
    let many : w.config.requesters ≡ c.args.self.now.requesters = c.requires.desk.0.1.3 in
    let own : port ≡ suc w.number = omega (arith, number) in
    let at : IsAtPort t port = (own, omega (arith, many, c.requires.desk.1)) in
    let known : Known (t ∷ []) = subst (λ (z : Sat). Known z.0) me c.in_ok-memory-3.ensures.taken.4.1 in
    let same : knows c.put_back-in_default.new.self ≡ w = ap (λ (z : Sat). (token_of z.0).knows) c.put_back-in_default.ensures.back ∙ ap (λ (z : Sat). (token_of z.0).knows) me in
    let idle : c.refuse_both.new.self.place.now.me ≡ c.args.self.now.place.now.me = c.refuse_both.ensures.idle ∙ (ap knowing same ∙ sym (idle_has _ c.requires.idle)) in
    record { seat = search rules; hall = (ap (λ (z : Sat). (token_of z.0).knows.config) idle, ap (λ (z : Sat). (token_of z.0).knows.opened) idle, ap (λ (z : Sat). (token_of z.0).knows.seats) idle); collected = tt; refused = idle; why = (subst (IsWithAnother w (Collect port)) (sym c.refuse_both.ensures.refused) (uncollected c.each_refusal_is_possible.ensures w port e q c.in-Err.refusal c.in-Err.ensures.refuses c.in_default.not-Idle (c.collecting.ensures.refused t [] port m q e c.in-Err.refusal at (known, refl) c.in-Err.ensures.refuses))) }
