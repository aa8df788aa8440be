-- Seats that take one part after the other, and give them back.
use Rattle.std.proofs.Common.{◌≡◌, ℕ, List, [], ◌∷◌, ap, sym, refl, subst, ◌∙◌, drop, Option, None}
use Rattle.hall_laws.specs.declared.part.PartValue.{PartValue}
use Rattle.hall_laws.specs.declared.token.Token.{Token}
use Rattle.hall_laws.specs.declared.token.Knowledge.{Knowledge}
use Rattle.hall_laws.specs.Calls.{IsIdle, Took}
use Rattle.hall_laws.specs.Rule.{Known}
use Rattle.hall_laws.specs.Standing.{Sat, Values, Outside, token_of, holding_first}
use Rattle.fabric_steps.specs.Event.{Event, Seen}
use Rattle.hall_laws.specs.Parts.{part_slot}
use Rattle.hall_laws.specs.Rule.{Goes, with_done}
use Rattle.hall_events.specs.declared.desk.Desk.{Desk}
use Rattle.hall_events.specs.declared.desk.Held.{Held}
use Rattle.hall_events.specs.Desks.{Happened, entry, knows}
use Rattle.hall_events.specs.Holds.{emptied, having}
use Rattle.hall_events.proofs.Mapped.{over}

pub idle_has : (m : Sat) → IsIdle m → m ≡ having (token_of m.0).knows []
idle_has m i = i.0 ∙ ap (λ (h : Values). (record { knows = (token_of m.0).knows; held = h } ∷ [], [])) i.1

pub idle_single : (m : Sat) → IsIdle m → m ≡ having (token_of m.0).knows (token_of m.0).held
idle_single m i = i.0 ∙ ap (λ (e : List (ℕ × Option PartValue)). (token_of m.0 ∷ [], e)) (sym (ap emptied i.1))

pub took_also : (m m' : Sat) (w : Knowledge) (h : Values) (k : ℕ) (v : PartValue) → m ≡ having w h → Took m k v m' → m' ≡ having w ((k, v) ∷ h)
took_also m m' w h k v has took = took.0 ∙ ap (λ (s : Sat). (holding_first k v s.0, (k, None) ∷ s.1)) has

pub known_now : (m : Sat) (ts : List Token) (es : List (ℕ × Option PartValue)) → m ≡ (ts, es) → Known ts → Known m.0
known_now m ts es is known = subst (λ (s : Sat). Known s.0) (sym is) known

-- an event over two parts, by their slots
pub happened : (d : Desk) (one two : Held) (w : Knowledge) (j k : ℕ) (v u : PartValue) (event : Event) (what : Seen) → part_slot one.part ≡ j → part_slot two.part ≡ k
    → d.place.now.me ≡ having w ((k, u) ∷ ((j, v) ∷ []))
    → Goes event what (record { knows = w; held = (k, u) ∷ ((j, v) ∷ []) }) j one.value (record { knows = with_done event what w; held = (k, two.value) ∷ [] }) → Happened d one two (with_done event what (knows d))
happened d one two w j k v u event what at_one at_two me goes =
    let G : Knowledge → ℕ → ℕ → Type 0 = λ z a b. (d.place.now.me ≡ having z ((b, u) ∷ ((a, v) ∷ []))) × Goes event what (record { knows = z; held = (b, u) ∷ ((a, v) ∷ []) }) a one.value (record { knows = with_done event what z; held = (b, two.value) ∷ [] }) in
    let same : knows d ≡ w = ap (λ (s : Sat). (token_of s.0).knows) me in
    let r : G (knows d) (part_slot one.part) (part_slot two.part) = subst (λ (z : Knowledge). G z (part_slot one.part) (part_slot two.part)) (sym same) (over (G w) _ _ _ _ at_one at_two (me, goes)) in
    (v, u, r.0, refl, event, what, r.1)

-- the part that was taken last is back
pub last_back : (m m' : Sat) (w : Knowledge) (x : ℕ × PartValue) (h : Values) → m ≡ having w (x ∷ h) → m' ≡ having (token_of m.0).knows (drop 1 (token_of m.0).held) → m' ≡ having w h
last_back m m' w x h is now = now ∙ ap (λ (s : Sat). having (token_of s.0).knows (drop 1 (token_of s.0).held)) is
