-- How many requests a fabric has had: each stands in the history, or is on its way there.
use Rattle.std.proofs.Common.{◌≡◌, ◌∙◌, ℕ, ◌+◌, ◌*◌, ◌<◌, ◌≤◌, List, [], ◌∷◌, ◌++◌, length, get_or, refl, sym, ap, subst, arith, length-append}
use Rattle.std.specs.Prelude.{map, slice_set, slice_get, Some, suc, zero}
use Rattle.std.specs.List.{sum_by}
use Rattle.std.proofs.lemmas.List.Sums.{sum_by-cons, sum_by-set}
use Rattle.history_words.specs.Records.{Record}
use Rattle.lane_core.specs.Steps.{LaneEndsView}
use Rattle.tlp_core.specs.TlpView.{TlpView}
use Rattle.fabric_steps.specs.Fabric.{Fabric, items, whole_of}
use Rattle.fabric_steps.specs.Packets.{marked_packet}
use Rattle.fabric_steps.specs.Whole.{MarkedPacket, RequesterView, Whole, up_of, requester_of, unused, entry_of, marked_request}
use Rattle.fabric_steps.specs.Steps.{IsTaken, Step, submits, forwards, serves, returns, collects, links}
use Rattle.fabric_steps.specs.Trace.{submitted_by, submission_count}
use Rattle.fabric_core.specs.Quiet.{IsQuiet}

abbrev on_the_way : Whole → ℕ
on_the_way p = length p.inward + sum_by length p.up

-- each request that was submitted acted, or is on its way to the memory
abbrev pub IsBalanced : Whole → Type 0
IsBalanced p = length p.history + on_the_way p ≡ submitted_by p.requesters

-- ---- sums

submitted-sum : (qs : List RequesterView) → submitted_by qs ≡ sum_by (λ (q : RequesterView). q.next) qs
submitted-sum [] = refl
submitted-sum (q ∷ qs) = ap (λ (n : ℕ). q.next + n) (submitted-sum qs) ∙ sym (sum_by-cons (λ (q : RequesterView). q.next) q qs)

submitted-set : (qs : List RequesterView) (i : ℕ) (q : RequesterView) → i < length qs → submitted_by (slice_set qs i q) + (get_or qs i unused).next ≡ submitted_by qs + q.next
submitted-set qs i q lt = rw (submitted-sum (slice_set qs i q), submitted-sum qs) (sum_by-set (λ (q : RequesterView). q.next) qs i q unused lt)

taken-length : (old : List MarkedPacket) (x : MarkedPacket) (new : List MarkedPacket) → IsTaken old x new → length old ≡ length new + 1
taken-length old x new t = omega (arith, ap length t.was, ap length t.now, length-append t.before (x ∷ t.behind), length-append t.before t.behind)

-- ---- each step

pub balanced-step : (p p' : Whole) (rs : List Record) → Step p p' rs → IsBalanced p → IsBalanced p'
balanced-step p p' rs (submits i op s e) b =
    let more = s.opened.next in
    let up = sum_by-set length p.up i (up_of p i ++ marked_request i s.tag (requester_of p i).next op ∷ []) [] s.has_up in
    let long = length-append (up_of p i) (marked_request i s.tag (requester_of p i).next op ∷ []) in
    let all = submitted-set p.requesters i s.requester s.known in
    subst IsBalanced (sym s.now) (omega (arith, more, up, long, all, b))
balanced-step p p' rs (forwards i s e) b =
    let up = sum_by-set length p.up i s.rest [] s.has_up in
    let fewer = taken-length (up_of p i) s.item s.rest s.taken in
    let long = length-append p.inward (s.item ∷ []) in
    subst IsBalanced (sym s.now) (omega (arith, up, fewer, long, b))
balanced-step p p' rs (serves s e) b =
    let fewer = taken-length p.inward s.item s.rest s.taken in
    let long = length-append p.history (entry_of s.item ∷ []) in
    subst IsBalanced (sym s.now) (omega (arith, fewer, long, b))
balanced-step p p' rs (returns s e) b = subst IsBalanced (sym s.now) b
balanced-step p p' rs (collects i number reply s e) b =
    let same = s.closed.next in
    let all = submitted-set p.requesters i s.requester s.known in
    subst IsBalanced (sym s.now) (omega (arith, same, all, b))
balanced-step p p' rs (links same e) b = subst IsBalanced (sym same) b

-- ---- a new fabric

abbrev held : List (TlpView × ℕ) → List MarkedPacket
held xs = map (λ x. marked_packet x.0 x.1) xs

no-items : (lanes : List LaneEndsView) → ((i : ℕ) (e : LaneEndsView) → slice_get lanes i ≡ Some e → items e ≡ []) → sum_by length (map items lanes) ≡ 0
no-items [] h = refl
no-items (e ∷ lanes) h =
    sum_by-cons length (items e) (map items lanes) ∙ omega (arith, ap length (h zero e refl), no-items lanes (λ i e at. h (suc i) e at))

pub balanced-new : (f : Fabric) → IsQuiet f → f.memory.entries ≡ [] → submission_count [] ≡ submitted_by (whole_of f).requesters → IsBalanced (whole_of f)
balanced-new f quiet empty counted =
    let up = no-items f.up (λ i e at. ap held (quiet.up i e at)) in
    let head = sum_by-cons length [] (map items f.up) in
    omega (arith, ap length empty, ap length (ap held quiet.inward), up, head, counted)

-- ---- few requests

submitted-few : (most : ℕ) (qs : List RequesterView) → ((i : ℕ) (q : RequesterView) → slice_get qs i ≡ Some q → q.next ≤ most) → submitted_by qs ≤ length qs * most
submitted-few most [] h = omega arith
submitted-few most (q ∷ qs) h =
    let first = h zero q refl in
    let rest = submitted-few most qs (λ i q at. h (suc i) q at) in
    grind (arith, first, rest)

pub few-entries : (f : Fabric) → IsBalanced (whole_of f) → length f.requesters ≤ 7 → ((i : ℕ) (q : RequesterView) → slice_get f.requesters i ≡ Some q → q.next ≤ 4294967295) → length f.memory.entries ≤ 30064771065
few-entries f b few each =
    let all = submitted-few 4294967295 f.requesters each in
    omega (arith, b, few, all)
