use Rattle.std.proofs.Common.{rules, ◌≡◌, ◌+◌, ℕ, suc, List, [], ◌∷◌, length, inl, refl, sym, subst, ap, ◌∙◌, arith, drop, Ok}
use Rattle.tlp_core.specs.Ops.{Op}
use Rattle.seq_memory.specs.Entries.{Entry}
use Rattle.seq_memory.specs.History.{MemoryView}
use Rattle.requester_core.specs.RequesterView.{RequesterView}
use Rattle.lane_core.specs.Steps.{SenderEndView}
use Rattle.fabric_core.specs.Answers.{submit_on, SubmitFits, Refuses, lane_grows}
use Rattle.fabric_steps.specs.declared.event.EventOf.TheVariants.{Submit}
use Rattle.fabric_steps.specs.declared.event.LaneName.TheVariants.{Up}
use Rattle.fabric_steps.specs.declared.event.SeenOf.TheVariants.{Submitted}
use Rattle.hall_laws.specs.declared.part.Part.{Part}
use Rattle.hall_laws.specs.declared.part.Part.TheVariants as parts
use Rattle.hall_laws.specs.declared.part.PartValue.TheVariants.{Memory, Requester, Sender}
use Rattle.hall_laws.specs.declared.token.Token.{Token}
use Rattle.hall_laws.specs.declared.token.Knowledge.{Knowledge}
use Rattle.hall_laws.specs.Calls.{knowing}
use Rattle.hall_laws.specs.Duties.{IsAtPort}
use Rattle.hall_laws.specs.Parts.{slot, part_slot}
use Rattle.hall_laws.specs.Standing.{Sat, token_of, others_of}
use Rattle.hall_laws.specs.Rule.{Known, Goes, after_event, learned_also}
use Rattle.hall_laws.specs.Tells.{SubmitTells}
use Rattle.hall_events.specs.Desks.{knows}
use Rattle.hall_events.specs.Holds.{having}
use Rattle.hall_events.specs.Refusals.{IsRefused}
use Rattle.hall_events.proofs.Holding.{idle_has, last_back}
use Rattle.hall_events.proofs.Mapped.{over}
use Rattle.hall_events.proofs.desk.Desk.submit.Goals as goal

pub event-requires-clause-event : goal.event-requires-clause-event
event-requires-clause-event c =
    let w : Knowledge = (token_of c.args.self.now.place.now.me.0).knows in let port : ℕ = c.args.self.now.number + 1 in
    let m : MemoryView = c.memory.result.now in let q : RequesterView = c.requester.result.now in let e : SenderEndView = c.sender.result.now in
    let t : Token = record { knows = w; held = (slot port 1, Sender e) ∷ ((slot port 0, Requester q) ∷ ((0, Memory m) ∷ [])) } in
    let me : c.take_third.new.self.place.now.me ≡ having w ((slot port 1, Sender e) ∷ ((slot port 0, Requester q) ∷ ((0, Memory m) ∷ []))) = search rules in
    let number : w.number ≡ c.args.self.now.number = c.requires.desk.0.1.2 in
    let many : w.config.requesters ≡ c.args.self.now.requesters = c.requires.desk.0.1.3 in
    let own : port ≡ suc w.number = omega (arith, number) in
    let at : IsAtPort t port = (own, omega (arith, many, c.requires.desk.1)) in
    let op = c.args.op.now in
    let k : ℕ = c.in-Ok.number in let q' = c.submit.new.requester in let e' = c.submit.new.sender in
    let after : Token = after_event (Submit port op) (Submitted k) m.entries ((slot port 1, Sender e') ∷ ((0, Memory m) ∷ [])) t in
    let goes : Goes (Submit port op) (Submitted k) t (slot port 0) (Requester q') after = c.submitting.ensures.owes t port k op m q q' e e' at refl (subst (λ (o : Op). submit_on q e o ≡ Ok (k, q', e')) c.lend.ensures c.in-Ok.ensures.answers) (subst (λ (o : Op). SubmitFits q o) c.lend.ensures c.in-Ok.ensures.fits) in
    let ts : c.turn.new.self.me.0 ≡ t ∷ [] = ap (λ (z : Sat). z.0) c.turn.ensures.2 ∙ ap (λ (z : Sat). z.0) me in
    let F : List Token → Part → Part → Part → Type 0 = λ l p r z. Goes (Submit port op) (Submitted k) (token_of l) (part_slot p) (Requester q') (after_event (Submit port op) (Submitted k) m.entries ((part_slot r, Sender e') ∷ ((part_slot z, Memory m) ∷ [])) (token_of l)) in
    let h = c.in_ok-memory-3 in
    let at_q : h.requester.part ≡ parts.Requester port = search rules in
    let at_e : h.sender.part ≡ parts.SenderEnd (Up port) = search rules in
    let at_m : h.memory.part ≡ parts.Memory = search rules in
    (Submit port op, Submitted k, over (λ (l : List Token) (p : Part). F l p h.sender.part h.memory.part) _ _ _ _ ts at_q (over (λ (r z : Part). F (t ∷ []) (parts.Requester port) r z) _ _ _ _ at_e at_m goes))

pub returns-in-Ok-clause-submitted : goal.returns-in-Ok-clause-submitted
returns-in-Ok-clause-submitted c =
    let w : Knowledge = (token_of c.args.self.now.place.now.me.0).knows in let port : ℕ = c.args.self.now.number + 1 in
    let m : MemoryView = c.memory.result.now in let q : RequesterView = c.requester.result.now in let e : SenderEndView = c.sender.result.now in
    let t : Token = record { knows = w; held = (slot port 1, Sender e) ∷ ((slot port 0, Requester q) ∷ ((0, Memory m) ∷ [])) } in
    let me : c.take_third.new.self.place.now.me ≡ having w ((slot port 1, Sender e) ∷ ((slot port 0, Requester q) ∷ ((0, Memory m) ∷ []))) = search rules in
    let number : w.number ≡ c.args.self.now.number = c.requires.desk.0.1.2 in
    let many : w.config.requesters ≡ c.args.self.now.requesters = c.requires.desk.0.1.3 in
    let own : port ≡ suc w.number = omega (arith, number) in
    let at : IsAtPort t port = (own, omega (arith, many, c.requires.desk.1)) in
    let op = c.args.op.now in
    let known : Known (t ∷ []) = subst (λ (z : Sat). Known z.0) me c.in_ok-memory-3.ensures.taken.4.1 in
    let k : ℕ = c.in-Ok.number in let q' = c.submit.new.requester in let e' = c.submit.new.sender in
    let after : Token = after_event (Submit port op) (Submitted k) m.entries ((slot port 1, Sender e') ∷ ((0, Memory m) ∷ [])) t in
    let goes : Goes (Submit port op) (Submitted k) t (slot port 0) (Requester q') after = c.submitting.ensures.owes t port k op m q q' e e' at refl (subst (λ (o : Op). submit_on q e o ≡ Ok (k, q', e')) c.lend.ensures c.in-Ok.ensures.answers) (subst (λ (o : Op). SubmitFits q o) c.lend.ensures c.in-Ok.ensures.fits) in
    let G : ℕ → Type 0 = λ p. Goes (Submit p op) (Submitted k) t (slot port 0) (Requester q') after in
    let tells : SubmitTells w k op (length m.entries) (learned_also (Submit port op) (Submitted k) m.entries w) = subst (λ (p : ℕ). SubmitTells w k op (length m.entries) (learned_also (Submit p op) (Submitted k) m.entries w)) (sym own) (c.submitting.ensures.tells t after [] (slot port 1) (slot port 0) k (Sender e) (Requester q) (Requester q') m op known refl (subst G own goes)) in
    let N : List Entry → Type 0 = λ l. SubmitTells w k op (length l) (learned_also (Submit port op) (Submitted k) m.entries w) in
    let h = c.in_ok-memory-3 in let learns : Knowledge = learned_also (Submit port op) (Submitted k) m.entries w in
    let ts : c.turn.new.self.me.0 ≡ t ∷ [] = ap (λ (z : Sat). z.0) c.turn.ensures.2 ∙ ap (λ (z : Sat). z.0) me in
    let T : List Token → List Token = λ l. after_event (Submit port op) (Submitted k) m.entries ((part_slot h.sender.part, Sender e') ∷ ((part_slot h.memory.part, Memory m) ∷ [])) (token_of l) ∷ others_of l in
    let event : c.event.new.self.place.now.me.0 ≡ T c.turn.new.self.me.0 = ap (λ (z : Sat). z.0) c.event.ensures.happened in
    let turned : c.turn-in-Ok.new.self.me.0 ≡ T (t ∷ []) = ap (λ (z : Sat). z.0) c.turn-in-Ok.ensures.2 ∙ (event ∙ ap T ts) in
    let back : c.put_back.new.self.place.now.me ≡ having learns ((part_slot h.memory.part, Memory m) ∷ []) = c.put_back.ensures.back ∙ ap (λ (l : List Token). having (token_of l).knows (drop 1 (token_of l).held)) turned in
    let idle : c.put_back-in-Ok.new.self.place.now.me ≡ knowing learns = last_back _ _ learns _ [] back c.put_back-in-Ok.ensures.back in
    (learned_also (Submit port op) (Submitted k) m.entries w, idle, subst N (sym c.entries.ensures) tells)

pub returns-in-Err-clause-why : goal.returns-in-Err-clause-why
returns-in-Err-clause-why c =
    let w : Knowledge = (token_of c.args.self.now.place.now.me.0).knows in let port : ℕ = c.args.self.now.number + 1 in
    let m : MemoryView = c.memory.result.now in let q : RequesterView = c.requester.result.now in let e : SenderEndView = c.sender.result.now in
    let t : Token = record { knows = w; held = (slot port 1, Sender e) ∷ ((slot port 0, Requester q) ∷ ((0, Memory m) ∷ [])) } in
    let me : c.take_third.new.self.place.now.me ≡ having w ((slot port 1, Sender e) ∷ ((slot port 0, Requester q) ∷ ((0, Memory m) ∷ []))) = search rules in
    let number : w.number ≡ c.args.self.now.number = c.requires.desk.0.1.2 in
    let many : w.config.requesters ≡ c.args.self.now.requesters = c.requires.desk.0.1.3 in
    let own : port ≡ suc w.number = omega (arith, number) in
    let at : IsAtPort t port = (own, omega (arith, many, c.requires.desk.1)) in
    let op = c.args.op.now in
    let known : Known (t ∷ []) = subst (λ (z : Sat). Known z.0) me c.in_ok-memory-3.ensures.taken.4.1 in
    subst (IsRefused w (Submit port op)) (sym c.refuse_both.ensures.refused) (inl (c.submitting.ensures.refused t [] port op m q e c.in-Err.refusal at (known, refl) (subst (λ (o : Op). Refuses lane_grows (submit_on q e o) c.in-Err.refusal) c.lend.ensures c.in-Err.ensures.refuses)))
