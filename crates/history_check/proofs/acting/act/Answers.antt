use Rattle.std.proofs.Common.{ℕ, ◌≡◌, ◌<◌, ◌≤◌, length, take, get_or, ap, sym, ◌∙◌, arith, List, Option, Some, false, refl}
use Rattle.std.specs.Prelude.{is_some, slice_get, option_and_then}
use Rattle.std.proofs.lemmas.Option.{slice_get_within}
use Rattle.std.proofs.lemmas.List.{length-replicate, get_or-replicate, length-set}
use Rattle.tlp_core.specs.Ops.{Op}
use Rattle.seq_memory.specs.Entries.{Entry}
use Rattle.history_words.specs.Records.{Record}
use Rattle.history_words.specs.Flaws.{entry_at, misses, is_stranger, sub_place, place_of}
use Rattle.history_words.specs.Headers.{found_in}
use Rattle.history_words.specs.Lookup.{IsIndex, ArePoints}
use Rattle.history_check.proofs.Firsts.{first_at-none, first_at-more, first_at-found, any_below-one, tells}
use Rattle.history_check.proofs.Parts.{there, was_submitted, not_submitted}
use Rattle.history_check.proofs.Entries.{stranger, no_stranger, entry-stranger, entry-twice, entry-order, entry-good, read_point, read_settled, missed, settled_all, settled_next, points_next, points_none, nothing_there}
use Rattle.history_check.proofs.acting.act.Goals as goal

pub loop-p-init : goal.loop-p-init
loop-p-init g c =
    let x = g.C.AsClaim.claim c.args.claim.now in
    record {
      points = rw (c.in-Ok.ensures) (points_none x.records c.records.result c.records.ensures);
      rows = ap (length {A = ℕ}) c.in-Ok-zeros.ensures ∙ length-replicate {A = ℕ} 256 0;
      settled = λ i j l m. absurd (let e : get_or c.in-Ok-zeros.settled.items i 0 ≡ 0 = ap (λ (xs : List ℕ). get_or xs i 0) c.in-Ok-zeros.ensures ∙ get_or-replicate 256 i 0 0 l in omega arith);
      clean = first_at-none (entry_at x.records x.memory.entries);
    }

pub returns-in_default-submitted-clause-err : goal.returns-in_default-submitted-clause-err
returns-in_default-submitted-clause-err g c =
    let x = g.C.AsClaim.claim c.args.claim.now in
    let rs = x.records in
    let h = x.memory.entries in
    let within : c.loop-p.p < length h = omega (arith, c.entries-p-end.ensures, c.loop-p-test.true) in
    let (e, at) = there h c.loop-p.p within in
    tells _ _ (first_at-found (entry_at rs h) c.loop-p.p (length h) _ c.loop-p.invariant.clean
    (entry-stranger rs h c.loop-p.p e at (stranger c.args.index.now rs e c.requires (c.submitted.ensures.row e at)
    (not_submitted c.args.index.now rs (slice_get h c.loop-p.p) e at (sym c.submitted.ensures.found ∙ c.in_default-submitted.is))))
    within) (λ e. cc)

-- the entry at the index, and what is known of its request
record Stands (rows : List (List ℕ)) (rs : List Record) (h : List Entry) (p i k b : ℕ) : Type 0 where
  op : Op
  at : slice_get h p ≡ Some (record { requester = i; number = k; op = op })
  small : i < 256
  known : is_stranger rs (record { requester = i; number = k; op = op }) ≡ false
  here : sub_place rs i k ≡ Some b
  within : p < length h

stands : (rows : List (List ℕ)) (rs : List Record) (h : List Entry) (p i k b : ℕ) → IsIndex rows rs → ((e : Entry) → slice_get h p ≡ Some e → e.requester < 256) → option_and_then (found_in rows rs) (slice_get h p) ≡ Some (i, k, b) → Stands rows rs h p i k b
stands rows rs h p i k b index row found =
    let (op, at, there) = was_submitted rows rs (slice_get h p) i k b found in
    let e : Entry = record { requester = i; number = k; op = op } in
    let small : i < 256 = row e at in
    let (s1, s2) = no_stranger rows rs e b index small there in
    record { op = op; at = at; small = small; known = s1; here = s2; within = slice_get_within h p e at }

-- the table has the place
inside : (points : List (Option ℕ)) (rs : List Record) (h : List Entry) (i k b : ℕ) → ArePoints points rs h → sub_place rs i k ≡ Some b → b < length points
inside points rs h i k b a here = slice_get_within points b (place_of h i k) (a.at i k b here)

pub set-requires-clause-place : goal.set-requires-clause-place
set-requires-clause-place g c =
    let x = g.C.AsClaim.claim c.args.claim.now in
    let rs = x.records in
    let h = x.memory.entries in
    let s = stands c.args.index.now rs h c.loop-p.p c.in-Some.requester c.in-Some.number c.in-Some.place c.requires c.submitted.ensures.row (sym c.submitted.ensures.found ∙ c.in-Some.is) in
    inside c.loop-p.points rs (take c.loop-p.p h) c.in-Some.requester c.in-Some.number c.in-Some.place c.loop-p.invariant.points s.here

pub returns-then-is_some-clause-err : goal.returns-then-is_some-clause-err
returns-then-is_some-clause-err g c =
    let x = g.C.AsClaim.claim c.args.claim.now in
    let rs = x.records in
    let h = x.memory.entries in
    let s = stands c.args.index.now rs h c.loop-p.p c.in-Some.requester c.in-Some.number c.in-Some.place c.requires c.submitted.ensures.row (sym c.submitted.ensures.found ∙ c.in-Some.is) in
    let e : Entry = record { requester = c.in-Some.requester; number = c.in-Some.number; op = s.op } in
    let before = take c.loop-p.p h in
    let within = inside c.loop-p.points rs before c.in-Some.requester c.in-Some.number c.in-Some.place c.loop-p.invariant.points s.here in
    let point = read_point c.loop-p.points rs before c.in-Some.requester c.in-Some.number c.in-Some.place c.get.result c.loop-p.invariant.points s.here (c.get.ensures.read within) in
    tells _ _ (first_at-found (entry_at rs h) c.loop-p.p (length h) _ c.loop-p.invariant.clean
    (entry-twice rs h c.loop-p.p e s.at s.known (sym (ap is_some point) ∙ sym c.is_some.ensures ∙ c.if-is_some.true))
    s.within) (λ e. cc)

pub returns-then-to-number-clause-err : goal.returns-then-to-number-clause-err
returns-then-to-number-clause-err g c =
    let x = g.C.AsClaim.claim c.args.claim.now in
    let rs = x.records in
    let h = x.memory.entries in
    let s = stands c.args.index.now rs h c.loop-p.p c.in-Some.requester c.in-Some.number c.in-Some.place c.requires c.submitted.ensures.row (sym c.submitted.ensures.found ∙ c.in-Some.is) in
    let e : Entry = record { requester = c.in-Some.requester; number = c.in-Some.number; op = s.op } in
    let before = take c.loop-p.p h in
    let within = inside c.loop-p.points rs before c.in-Some.requester c.in-Some.number c.in-Some.place c.loop-p.invariant.points s.here in
    let point = read_point c.loop-p.points rs before c.in-Some.requester c.in-Some.number c.in-Some.place c.get.result c.loop-p.invariant.points s.here (c.get.ensures.read within) in
    let miss = missed c.args.index.now rs before c.loop-p.points c.loop-p.points c.in-Some.requester c.first_missing-to.result _ c.requires s.small c.loop-p.invariant.points refl (c.first_missing-to.ensures.stops c.if-to-number.true) in
    tells _ _ (first_at-found (entry_at rs h) c.loop-p.p (length h) _ c.loop-p.invariant.clean
    (entry-order rs h c.loop-p.p e s.at s.known (sym (ap is_some point) ∙ sym c.is_some.ensures ∙ c.if-is_some.false)
    (any_below-one (misses rs before c.in-Some.requester) c.in-Some.number c.first_missing-to.result c.if-to-number.true miss))
    s.within) (λ e. cc)

pub loop-p-preserved : goal.loop-p-preserved
loop-p-preserved g c =
    let x = g.C.AsClaim.claim c.args.claim.now in
    let rs = x.records in
    let h = x.memory.entries in
    let s = stands c.args.index.now rs h c.loop-p.p c.in-Some.requester c.in-Some.number c.in-Some.place c.requires c.submitted.ensures.row (sym c.submitted.ensures.found ∙ c.in-Some.is) in
    let e : Entry = record { requester = c.in-Some.requester; number = c.in-Some.number; op = s.op } in
    let before = take c.loop-p.p h in
    let within = inside c.loop-p.points rs before c.in-Some.requester c.in-Some.number c.in-Some.place c.loop-p.invariant.points s.here in
    let point = read_point c.loop-p.points rs before c.in-Some.requester c.in-Some.number c.in-Some.place c.get.result c.loop-p.invariant.points s.here (c.get.ensures.read within) in
    let new = sym (ap is_some point) ∙ sym c.is_some.ensures ∙ c.if-is_some.false in
    let from = c.index.result.now in
    let to = c.first_missing-to.result in
    let row : c.row_of-i.result ≡ c.in-Some.requester = c.row_of-i.ensures.value in
    let read : from ≡ get_or c.loop-p.settled.items c.in-Some.requester 0 = read_settled c.loop-p.settled.items c.in-Some.requester c.row_of-i.result from row (omega (arith, c.loop-p.invariant.rows, s.small)) c.index.ensures in
    let none : (j : ℕ) → from ≤ j → j < to → misses rs before c.in-Some.requester j ≡ false =
    λ j l m. missed c.args.index.now rs before c.loop-p.points c.loop-p.points c.in-Some.requester j false c.requires s.small c.loop-p.invariant.points refl (c.first_missing-to.ensures.none j l m) in
    record {
      points = rw c.set.ensures (points_next c.loop-p.points rs h c.loop-p.p e c.in-Some.place c.loop-p.invariant.points s.at s.here (nothing_there _ new));
      rows = length-set c.loop-p.settled.items c.row_of-i.result to ∙ c.loop-p.invariant.rows;
      settled = rw row (λ i j l m. settled_next rs h c.loop-p.settled.items c.loop-p.settled.items c.loop-p.p e from to i c.loop-p.invariant.rows c.loop-p.invariant.settled s.at s.small read none l j m);
      clean = first_at-more (entry_at rs h) c.loop-p.p c.loop-p.invariant.clean
          (entry-good rs h c.loop-p.p e s.at s.known new
          (settled_all (misses rs before c.in-Some.requester) from to c.in-Some.number (λ j l. c.loop-p.invariant.settled c.in-Some.requester j s.small (omega arith)) none (omega (arith, c.if-to-number.false))));
    }
