use Rattle.std.proofs.Common.{rules, ◌≡◌, ◌+◌, ◌-◌, ◌<◌, ◌≤◌, ◌++◌, ℕ, suc, List, [], ◌∷◌, arith, refl, sym, ap, ◌∙◌, subst}
use Rattle.fabric_steps.specs.Fabric.{Fabric}
use Rattle.hall_laws.specs.declared.token.Token.{Token}
use Rattle.hall_laws.specs.Standing.{Sat, token_of, others_of}
use Rattle.hall_laws.specs.Rule.{newcomer, newcomers}
use Rattle.hall_core.specs.Views.{SeatView, HallView, AreNewSeats}
use Rattle.hall_core.proofs.Newcomers.{first_token, one_more}
use Rattle.hall_core.proofs.seats.req_seats.Goals as goal

pub invariant_of-push_reserved : goal.invariant_of-push_reserved
invariant_of-push_reserved c =
    let config = c.args.config.now in let g : Fabric = c.args.steps.now.key.opened.value in let m : ℕ = c.args.steps.now.key.seats in
    let n : ℕ = c.loop-number.number in
    let more : n < config.requesters = c.loop-number-test.true in
    let left : ℕ = config.requesters + c.args.work - n in
    let f = first_token config g m n left (omega (arith, more)) in
    let tokens : c.loop-number.place.me.0 ≡ newcomers config g m n left = ap (λ (s : Sat). s.0) c.loop-number.invariant.2 in
    let is : token_of c.loop-number.place.me.0 ≡ newcomer config g m n = ap token_of tokens ∙ f.0 in
    let me : c.split-given.result.me ≡ (newcomer config g m n ∷ [], []) = c.split-given.ensures.given.1 ∙ ap (λ (t : Token). (t ∷ [], [])) is in
    let G : Sat → Type 0 = λ m. ((m ≡ (token_of m.0 ∷ [], [])) × ((token_of m.0).held ≡ [])) × ((token_of m.0).knows.number ≡ n) × (n < (token_of m.0).knows.config.requesters) × ((token_of m.0).knows.config.requesters ≤ 7) in
    subst G (sym me) ((refl, refl), refl, more, c.requires.table.2)

pub loop-number-preserved : goal.loop-number-preserved
loop-number-preserved c =
    let config = c.args.config.now in let g : Fabric = c.args.steps.now.key.opened.value in let m : ℕ = c.args.steps.now.key.seats in
    let n : ℕ = c.loop-number.number in
    let i = c.loop-number.invariant in
    let more : n < config.requesters = c.loop-number-test.true in
    let left : ℕ = config.requesters + c.args.work - n in
    let f = first_token config g m n left (omega (arith, more)) in
    let tokens : c.loop-number.place.me.0 ≡ newcomers config g m n left = ap (λ (s : Sat). s.0) i.2 in
    let nothing : c.loop-number.place.me.1 ≡ [] = ap (λ (s : Sat). s.1) i.2 in
    let is : token_of c.loop-number.place.me.0 ≡ newcomer config g m n = ap token_of tokens ∙ f.0 in
    let me : c.split-given.result.me ≡ (newcomer config g m n ∷ [], []) = c.split-given.ensures.given.1 ∙ ap (λ (t : Token). (t ∷ [], [])) is in
    let hall : HallView = record { table_id = c.args.steps.now.table_id; config = config; opened = g; seats = m } in
    let s : SeatView = record { table_id = c.split-given.result.table_id; knows = (token_of c.split-given.result.me.0).knows } in
    let knows : s.knows ≡ (newcomer config g m n).knows = ap (λ (m : Sat). (token_of m.0).knows) me in
    let fewer : left - 1 ≡ config.requesters + c.args.work - (n + 1) = omega (arith, more) in
    let rest : others_of c.loop-number.place.me.0 ≡ newcomers config g m (n + 1) (config.requesters + c.args.work - (n + 1)) = ap others_of tokens ∙ (f.1 ∙ (ap (λ (x : ℕ). newcomers config g m x (left - 1)) (let z : suc n ≡ n + 1 = omega arith in z) ∙ ap (newcomers config g m (n + 1)) fewer)) in
    let pushed : c.push_reserved.new.self.items ≡ c.loop-number.seats.items ++ s ∷ [] = search rules in (
      subst (AreNewSeats hall 0 (n + 1)) (sym pushed) (one_more hall 0 n c.loop-number.seats.items s i.0 (c.split-given.ensures.given.0 ∙ i.1, knows ∙ ap (λ (x : ℕ). (newcomer config g m x).knows) (let z : n ≡ 0 + n = omega arith in z))),
      c.split-given.ensures.seat.0 ∙ i.1,
      c.split-given.ensures.seat.2 ∙ (ap (λ (l : List Token). (l, c.loop-number.place.me.1)) rest ∙ ap (λ (l : List (ℕ × _)). (newcomers config g m (n + 1) (config.requesters + c.args.work - (n + 1)), l)) nothing),
      omega (arith, i.3, c.push_reserved.ensures.len),
      omega (arith, i.4, c.push_reserved.ensures.capacity),
    )
