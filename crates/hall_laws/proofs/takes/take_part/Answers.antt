use Rattle.std.proofs.Common.{◌≡◌, ◌≢◌, ℕ, suc, ◌∷◌, refl, sym, subst, None, Result, Ok, Err, MatchResult}
use Rattle.hall_laws.specs.declared.part.PartValue.{PartValue}
use Rattle.hall_laws.specs.Parts.{part_slot, IsPartName, IsPartValue}
use Rattle.hall_laws.specs.Standing.{Sat, Outside, token_of, holding_first}
use Rattle.hall_laws.specs.Rule.{Known}
use Rattle.hall_laws.proofs.Held.{part_there}
use Rattle.hall_laws.proofs.takes.take_part.Goals as goal

pub take-requires-clause-table : goal.take-requires-clause-table
take-requires-clause-table c = (c.requires.1.0, c.slot.ensures.within c.args.steps.now.table_id c.args.requesters c.requires.0 c.requires.2)

each_value : {A E : Type 0} (r : Result A E) (P Q : A → Type 0) (F : E → Type 0) → ((a : A) → P a → Q a) → MatchResult r P F → MatchResult r Q F
each_value (Ok a) P Q F law h = law a h
each_value (Err e) P Q F law h = h

pub returns-clause-taken : goal.returns-clause-taken
returns-clause-taken c =
    let m : Sat = c.args.place.now.me in let m' : Sat = c.take.new.place.me in
    let k : ℕ = part_slot c.args.part in
    let P : ℕ → PartValue → Type 0 = λ n v. (m' ≡ (holding_first n v m.0, (n, None) ∷ m.1)) × Known (holding_first n v m.0) in
    let E : ℕ → ℕ → Type 0 = λ n w. (w ≢ 0) × (m' ≡ m) × (Outside n (token_of m.0).held → w ≢ suc (token_of m.0).knows.number) in
    let there : MatchResult c.take.result (P k) (E k) = subst (λ (n : ℕ). MatchResult c.take.result (P n) (E n)) c.slot.ensures.slot c.take.ensures.taken in
    let named = subst (λ (n : ℕ). IsPartName n c.args.part) (sym c.requires.1.3) c.requires.2 in
    each_value c.take.result (P k) (λ v. IsPartValue c.args.part v × P k v) (E k) (λ v p. (part_there m.0 k v p.1 c.args.part named refl, p)) there
