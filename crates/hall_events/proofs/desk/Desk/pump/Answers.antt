use Rattle.std.proofs.Common.{rules, ◌≡◌, refl, sym, ap, ◌∙◌, subst, Result, Ok, Err, IfOk, IfErr, OnErr}
use Rattle.fabric_steps.specs.Event.{Event, Seen}
use Rattle.fabric_steps.specs.declared.event.EventOf.TheVariants.{Forward}
use Rattle.fabric_steps.specs.declared.event.LaneName.{LaneName}
use Rattle.fabric_steps.specs.declared.event.LinkEvent.{LinkEvent}
use Rattle.hall_laws.specs.declared.token.Knowledge.{Knowledge}
use Rattle.hall_events.specs.declared.work.WorkEvent.{WorkEvent}
use Rattle.hall_laws.specs.Calls.{knowing}
use Rattle.hall_laws.specs.Rule.{with_done}
use Rattle.hall_laws.specs.Standing.{Sat, token_of}
use Rattle.hall_events.specs.declared.refusal.HallRefusal.{HallRefusal}
use Rattle.hall_events.specs.Desks.{IsOfHall}
use Rattle.hall_events.specs.Refusals.{IsRefused}
use Rattle.hall_events.specs.Works.{Pumped, event_of, link_event}
use Rattle.hall_events.proofs.desk.Desk.pump.Goals as goal
use Rattle.hall_events.proofs.desk.Desk.pump.Goals.{in-Transmit, in-Deliver, in-SendDllp, in-DeliverDllp, in-Timer, in-Retrained}

each_ok : {A E : Type 0} (r : Result A E) (P Q : A → Type 0) → ((a : A) → P a → Q a) → IfOk r P → IfOk r Q
each_ok (Ok a) P Q law h = law a h
each_ok (Err e) P Q law h = tt

hall_stays : (r : Result Seen HallRefusal) (m m' : Sat) (event : Event) → IfOk r (λ what. m' ≡ knowing (with_done event what (token_of m.0).knows)) → OnErr r (m' ≡ m) → IsOfHall (token_of m.0).knows (token_of m'.0).knows
hall_stays (Ok what) m m' event did same = (ap (λ (s : Sat). (token_of s.0).knows.config) did, ap (λ (s : Sat). (token_of s.0).knows.opened) did, ap (λ (s : Sat). (token_of s.0).knows.seats) did)
hall_stays (Err x) m m' event did same = (ap (λ (s : Sat). (token_of s.0).knows.config) same, ap (λ (s : Sat). (token_of s.0).knows.opened) same, ap (λ (s : Sat). (token_of s.0).knows.seats) same)

pub returns-clause-hall : goal.returns-clause-hall
returns-clause-hall c = hall_stays c.link.result c.args.self.now.place.now.me c.link.new.self.place.now.me _ c.link.ensures.happened c.link.ensures.refused

pub returns-clause-pumped : goal.returns-clause-pumped
returns-clause-pumped c =
    let w : Knowledge = (token_of c.args.self.now.place.now.me.0).knows in
    let me : Sat = c.link.new.self.place.now.me in
    let same : event_of c.args.event ≡ link_event c.match-event.name.0 c.match-event.name.1 = elim c.match-event.branch [ in-Transmit b ↦ ap event_of b.in-Transmit.is ∙ sym (ap (λ (p : LaneName × LinkEvent). link_event p.0 p.1) b.name-is) | in-Deliver b ↦ ap event_of b.in-Deliver.is ∙ sym (ap (λ (p : LaneName × LinkEvent). link_event p.0 p.1) b.name-is) | in-SendDllp b ↦ ap event_of b.in-SendDllp.is ∙ sym (ap (λ (p : LaneName × LinkEvent). link_event p.0 p.1) b.name-is) | in-DeliverDllp b ↦ ap event_of b.in-DeliverDllp.is ∙ sym (ap (λ (p : LaneName × LinkEvent). link_event p.0 p.1) b.name-is) | in-Timer b ↦ ap event_of b.in-Timer.is ∙ sym (ap (λ (p : LaneName × LinkEvent). link_event p.0 p.1) b.name-is) | in-Retrained b ↦ ap event_of b.in-Retrained.is ∙ sym (ap (λ (p : LaneName × LinkEvent). link_event p.0 p.1) b.name-is) ] in
    let told : (what : Seen) → Pumped c.args.event what w (with_done (event_of c.args.event) what w) = λ what. elim c.match-event.branch [ in-Transmit b ↦ subst (λ (e : WorkEvent). Pumped e what w (with_done (event_of e) what w)) (sym b.in-Transmit.is) refl | in-Deliver b ↦ subst (λ (e : WorkEvent). Pumped e what w (with_done (event_of e) what w)) (sym b.in-Deliver.is) refl | in-SendDllp b ↦ subst (λ (e : WorkEvent). Pumped e what w (with_done (event_of e) what w)) (sym b.in-SendDllp.is) refl | in-DeliverDllp b ↦ subst (λ (e : WorkEvent). Pumped e what w (with_done (event_of e) what w)) (sym b.in-DeliverDllp.is) refl | in-Timer b ↦ subst (λ (e : WorkEvent). Pumped e what w (with_done (event_of e) what w)) (sym b.in-Timer.is) refl | in-Retrained b ↦ subst (λ (e : WorkEvent). Pumped e what w (with_done (event_of e) what w)) (sym b.in-Retrained.is) refl ] in
    each_ok c.link.result (λ what. me ≡ knowing (with_done (link_event c.match-event.name.0 c.match-event.name.1) what w)) (λ what. (x : Knowledge) × (me ≡ knowing x) × Pumped c.args.event what w x)
    (λ what did. (with_done (event_of c.args.event) what w, did ∙ ap (λ (e : Event). knowing (with_done e what w)) (sym same), told what)) c.link.ensures.happened

pub returns-clause-why : goal.returns-clause-why
returns-clause-why c =
    let w : Knowledge = (token_of c.args.self.now.place.now.me.0).knows in
    let same : event_of c.args.event ≡ link_event c.match-event.name.0 c.match-event.name.1 = elim c.match-event.branch [ in-Transmit b ↦ ap event_of b.in-Transmit.is ∙ sym (ap (λ (p : LaneName × LinkEvent). link_event p.0 p.1) b.name-is) | in-Deliver b ↦ ap event_of b.in-Deliver.is ∙ sym (ap (λ (p : LaneName × LinkEvent). link_event p.0 p.1) b.name-is) | in-SendDllp b ↦ ap event_of b.in-SendDllp.is ∙ sym (ap (λ (p : LaneName × LinkEvent). link_event p.0 p.1) b.name-is) | in-DeliverDllp b ↦ ap event_of b.in-DeliverDllp.is ∙ sym (ap (λ (p : LaneName × LinkEvent). link_event p.0 p.1) b.name-is) | in-Timer b ↦ ap event_of b.in-Timer.is ∙ sym (ap (λ (p : LaneName × LinkEvent). link_event p.0 p.1) b.name-is) | in-Retrained b ↦ ap event_of b.in-Retrained.is ∙ sym (ap (λ (p : LaneName × LinkEvent). link_event p.0 p.1) b.name-is) ] in
    subst (λ (e : Event). IfErr c.link.result (λ r. IsRefused w e r)) (sym same) c.link.ensures.why

pub returns-in-Forward-clause-hall : goal.returns-in-Forward-clause-hall
returns-in-Forward-clause-hall c = hall_stays c.forward.result c.args.self.now.place.now.me c.forward.new.self.place.now.me _ c.forward.ensures.happened c.forward.ensures.refused

pub returns-in-Forward-clause-pumped : goal.returns-in-Forward-clause-pumped
returns-in-Forward-clause-pumped c =
    let w : Knowledge = (token_of c.args.self.now.place.now.me.0).knows in
    let me : Sat = c.forward.new.self.place.now.me in
    let done : Seen → Knowledge = λ what. with_done (Forward c.in-Forward.name c.in-Forward.place) what w in
    each_ok c.forward.result (λ what. me ≡ knowing (done what)) (λ what. (x : Knowledge) × (me ≡ knowing x) × Pumped c.args.event what w x)
    (λ what did. (done what, did, subst (λ (e : WorkEvent). Pumped e what w (done what)) (sym c.in-Forward.is) refl)) c.forward.ensures.happened
