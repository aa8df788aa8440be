use Rattle.std.proofs.Common.{rules, ◌≡◌, ◌≢◌, ◌+◌, ℕ, List, [], ◌∷◌, inl, refl, sym, subst, ap, ◌∙◌}
use Rattle.fabric_steps.specs.declared.fault.Refusal.TheVariants.{Idle}
use Rattle.hall_laws.specs.declared.part.Part.{Part}
use Rattle.hall_laws.specs.declared.part.PartValue.{PartValue}
use Rattle.hall_laws.specs.declared.token.Token.{Token}
use Rattle.hall_laws.specs.declared.token.Knowledge.{Knowledge}
use Rattle.hall_laws.specs.Parts.{part_slot, IsLaneName, IsPartName, IsPartValue}
use Rattle.hall_laws.specs.Standing.{Sat, Values, token_of}
use Rattle.hall_laws.specs.Rule.{Known, Goes, after_silent}
use Rattle.hall_events.specs.declared.desk.Held.{Held}
use Rattle.hall_events.specs.Acts.{AreEnds}
use Rattle.hall_events.specs.Desks.{entry, knows}
use Rattle.hall_events.specs.Holds.{having}
use Rattle.hall_events.specs.Refusals.{IsRefused}
use Rattle.hall_events.specs.Works.{link_event}
use Rattle.hall_events.proofs.Holding.{idle_single, happened}
use Rattle.hall_events.proofs.Linking.{ends_apart, ends_named, ends_are}
use Rattle.hall_events.proofs.Mapped.{over}
use Rattle.hall_events.proofs.desk.Desk.link_both.Goals as goal

pub take-requires-clause-token : goal.take-requires-clause-token
take-requires-clause-token c = idle_single c.args.self.now.place.now.me c.requires.idle

pub returns-then-has_nothing-clause-why : goal.returns-then-has_nothing-clause-why
returns-then-has_nothing-clause-why c =
    let w : Knowledge = (token_of c.args.self.now.place.now.me.0).knows in
    let name = c.args.name in let event = c.args.event in
    let first = c.args.first in let second = c.args.second in
    let o = c.in_ok-one.one in let took = c.in_ok-one.ensures.taken in
    let named : IsLaneName w.config.requesters name = subst (λ (n : ℕ). IsLaneName n name) (sym c.requires.desk.0.1.3) c.requires.desk.1 in
    let t : Token = record { knows = w; held = (part_slot first, o.value) ∷ [] } in
    let me : c.take.new.self.place.now.me ≡ having w ((part_slot first, o.value) ∷ []) = took.2.0 ∙ ap (λ (h : Values). having w ((part_slot first, o.value) ∷ h)) c.requires.idle.1 in
    let known : Known (t ∷ []) = subst (λ (s : Sat). Known s.0) me took.2.1 in
    subst (IsRefused w (link_event name event)) (sym c.refuse.ensures.refused) (inl (c.linking.ensures.nothing t [] name event first second o.value named c.requires.ends took.1 (known, refl) (c.has_nothing.ensures.0 c.if-has_nothing.true)))

pub act-requires : goal.act-requires
act-requires c =
    let w : Knowledge = (token_of c.args.self.now.place.now.me.0).knows in
    let name = c.args.name in let event = c.args.event in
    let first = c.args.first in let second = c.args.second in
    let o = c.in_ok-one.one in let took = c.in_ok-one.ensures.taken in
    let one = c.in_ok-one-2.one in let two = c.in_ok-one-2.two in let took2 = c.in_ok-one-2.ensures.taken in
    ends_are name event first second c.requires.ends one.value two.value (subst (λ (h : Held). IsPartValue first h.value) (sym took2.0) took.1) took2.2

pub happen-requires-clause-table : goal.happen-requires-clause-table
happen-requires-clause-table c =
    let w : Knowledge = (token_of c.args.self.now.place.now.me.0).knows in
    let name = c.args.name in let event = c.args.event in
    let first = c.args.first in let second = c.args.second in
    let o = c.in_ok-one.one in let took = c.in_ok-one.ensures.taken in
    let one = c.in_ok-one-2.one in let two = c.in_ok-one-2.two in let took2 = c.in_ok-one-2.ensures.taken in
    let many : c.take_second.new.self.requesters ≡ c.args.self.now.requesters = search rules in
    let at_first : one.part ≡ first = ap (λ (h : Held). h.part) took2.0 ∙ took.0 in
    let names = ends_named c.args.self.now.requesters name c.requires.desk.1 event first second c.requires.ends in
    let desk = c.take_second.ensures.desk.0 in
    ((desk.0, desk.1.0), (over IsPartName _ _ _ _ many at_first names.0, over IsPartName _ _ _ _ many took2.1 names.1, over (λ (p q : Part). part_slot p ≢ part_slot q) _ _ _ _ at_first took2.1 (ends_apart name event first second c.requires.ends)))

pub happen-requires-clause-event : goal.happen-requires-clause-event
happen-requires-clause-event c =
    let w : Knowledge = (token_of c.args.self.now.place.now.me.0).knows in
    let name = c.args.name in let event = c.args.event in
    let first = c.args.first in let second = c.args.second in
    let o = c.in_ok-one.one in let took = c.in_ok-one.ensures.taken in
    let named : IsLaneName w.config.requesters name = subst (λ (n : ℕ). IsLaneName n name) (sym c.requires.desk.0.1.3) c.requires.desk.1 in
    let one = c.in_ok-one-2.one in let two = c.in_ok-one-2.two in let took2 = c.in_ok-one-2.ensures.taken in
    let ends : AreEnds event one.value two.value = ends_are name event first second c.requires.ends one.value two.value (subst (λ (h : Held). IsPartValue first h.value) (sym took2.0) took.1) took2.2 in
    let t : Token = record { knows = w; held = (part_slot second, two.value) ∷ ((part_slot first, one.value) ∷ []) } in
    let me : c.take_second.new.self.place.now.me ≡ having w ((part_slot second, two.value) ∷ ((part_slot first, one.value) ∷ [])) =
    took2.3.0 ∙ (ap (λ (k : Knowledge). having k ((part_slot second, two.value) ∷ (entry o ∷ []))) (ap (λ (s : Sat). (token_of s.0).knows) took.2.0)
    ∙ ap (λ (x : ℕ × PartValue). having w ((part_slot second, two.value) ∷ (x ∷ []))) (ap (λ (p : Part). (part_slot p, o.value)) took.0 ∙ ap (λ (h : Held). (part_slot first, h.value)) (sym took2.0))) in
    let what = c.in-Ok.what in let one' : PartValue = c.act.new.one in let two' : PartValue = c.act.new.two in
    let goes : Goes (link_event name event) what t (part_slot first) one' (after_silent (link_event name event) what ((part_slot second, two') ∷ []) t) =
    c.linking.ensures.owes t name event first second one.value two.value one' two' what named c.requires.ends ends refl c.in-Ok.ensures.ok in
    let at_first : part_slot one.part ≡ part_slot first = ap part_slot (ap (λ (h : Held). h.part) took2.0 ∙ took.0) in
    happened c.take_second.new.self (record one { value = one' }) (record two { value = two' }) w (part_slot first) (part_slot second) one.value two.value (link_event name event) what at_first (ap part_slot took2.1) me goes

pub refuse_both-requires-clause-table : goal.refuse_both-requires-clause-table
refuse_both-requires-clause-table c =
    let w : Knowledge = (token_of c.args.self.now.place.now.me.0).knows in
    let name = c.args.name in let event = c.args.event in
    let first = c.args.first in let second = c.args.second in
    let o = c.in_ok-one.one in let took = c.in_ok-one.ensures.taken in
    let one = c.in_ok-one-2.one in let two = c.in_ok-one-2.two in let took2 = c.in_ok-one-2.ensures.taken in
    let many : c.take_second.new.self.requesters ≡ c.args.self.now.requesters = search rules in
    let at_first : one.part ≡ first = ap (λ (h : Held). h.part) took2.0 ∙ took.0 in
    let names = ends_named c.args.self.now.requesters name c.requires.desk.1 event first second c.requires.ends in
    let desk = c.take_second.ensures.desk.0 in
    ((desk.0, desk.1.0), (over IsPartName _ _ _ _ many at_first names.0, over IsPartName _ _ _ _ many took2.1 names.1, over (λ (p q : Part). part_slot p ≢ part_slot q) _ _ _ _ at_first took2.1 (ends_apart name event first second c.requires.ends)))

pub returns-in-Ok-clause-shows : goal.returns-in-Ok-clause-shows
returns-in-Ok-clause-shows c =
    let w : Knowledge = (token_of c.args.self.now.place.now.me.0).knows in
    let name = c.args.name in let event = c.args.event in
    let first = c.args.first in let second = c.args.second in
    let o = c.in_ok-one.one in let took = c.in_ok-one.ensures.taken in
    let named : IsLaneName w.config.requesters name = subst (λ (n : ℕ). IsLaneName n name) (sym c.requires.desk.0.1.3) c.requires.desk.1 in
    let one = c.in_ok-one-2.one in let two = c.in_ok-one-2.two in let took2 = c.in_ok-one-2.ensures.taken in
    let ends : AreEnds event one.value two.value = ends_are name event first second c.requires.ends one.value two.value (subst (λ (h : Held). IsPartValue first h.value) (sym took2.0) took.1) took2.2 in
    let t : Token = record { knows = w; held = (part_slot second, two.value) ∷ ((part_slot first, one.value) ∷ []) } in
    let me : c.take_second.new.self.place.now.me ≡ having w ((part_slot second, two.value) ∷ ((part_slot first, one.value) ∷ [])) =
    took2.3.0 ∙ (ap (λ (k : Knowledge). having k ((part_slot second, two.value) ∷ (entry o ∷ []))) (ap (λ (s : Sat). (token_of s.0).knows) took.2.0)
    ∙ ap (λ (x : ℕ × PartValue). having w ((part_slot second, two.value) ∷ (x ∷ []))) (ap (λ (p : Part). (part_slot p, o.value)) took.0 ∙ ap (λ (h : Held). (part_slot first, h.value)) (sym took2.0))) in
    let known : Known (t ∷ []) = subst (λ (s : Sat). Known s.0) me took2.3.1 in
    let what = c.in-Ok.what in let one' : PartValue = c.act.new.one in let two' : PartValue = c.act.new.two in
    let goes : Goes (link_event name event) what t (part_slot first) one' (after_silent (link_event name event) what ((part_slot second, two') ∷ []) t) =
    c.linking.ensures.owes t name event first second one.value two.value one' two' what named c.requires.ends ends refl c.in-Ok.ensures.ok in
    c.linking.ensures.shown (link_event name event) what t (after_silent (link_event name event) what ((part_slot second, two') ∷ []) t) [] (part_slot first) one' known goes

pub returns-in-Err-clause-why : goal.returns-in-Err-clause-why
returns-in-Err-clause-why c =
    let w : Knowledge = (token_of c.args.self.now.place.now.me.0).knows in
    let name = c.args.name in let event = c.args.event in
    let first = c.args.first in let second = c.args.second in
    let o = c.in_ok-one.one in let took = c.in_ok-one.ensures.taken in
    let named : IsLaneName w.config.requesters name = subst (λ (n : ℕ). IsLaneName n name) (sym c.requires.desk.0.1.3) c.requires.desk.1 in
    let one = c.in_ok-one-2.one in let two = c.in_ok-one-2.two in let took2 = c.in_ok-one-2.ensures.taken in
    let ends : AreEnds event one.value two.value = ends_are name event first second c.requires.ends one.value two.value (subst (λ (h : Held). IsPartValue first h.value) (sym took2.0) took.1) took2.2 in
    let t : Token = record { knows = w; held = (part_slot second, two.value) ∷ ((part_slot first, one.value) ∷ []) } in
    let me : c.take_second.new.self.place.now.me ≡ having w ((part_slot second, two.value) ∷ ((part_slot first, one.value) ∷ [])) =
    took2.3.0 ∙ (ap (λ (k : Knowledge). having k ((part_slot second, two.value) ∷ (entry o ∷ []))) (ap (λ (s : Sat). (token_of s.0).knows) took.2.0)
    ∙ ap (λ (x : ℕ × PartValue). having w ((part_slot second, two.value) ∷ (x ∷ []))) (ap (λ (p : Part). (part_slot p, o.value)) took.0 ∙ ap (λ (h : Held). (part_slot first, h.value)) (sym took2.0))) in
    let known : Known (t ∷ []) = subst (λ (s : Sat). Known s.0) me took2.3.1 in
    subst (IsRefused w (link_event name event)) (sym c.refuse_both.ensures.refused) (inl (c.linking.ensures.refused t [] name event first second one.value two.value c.in-Err.refusal named c.requires.ends ends (known, refl) c.in-Err.ensures.refused))
