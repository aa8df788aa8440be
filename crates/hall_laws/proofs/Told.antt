-- What a seat is told of the history, by the trace that belongs to the fabric.
use Rattle.std.proofs.Common.{◌≡◌, ℕ, suc, true, false, List, [], ◌∷◌, ◌++◌, length, take, refl, sym, ap, ◌∙◌, subst, arith, ⊎_elim, Some, eq-eqb}
use Rattle.std.specs.Prelude.{slice_get}
use Rattle.std.specs.List.{list_any}
use Rattle.tlp_core.specs.Ops.{Op}
use Rattle.seq_memory.specs.Entries.{Entry}
use Rattle.seq_memory.specs.Entries.{Reply}
use Rattle.history_words.specs.Records.{Record}
use Rattle.history_words.specs.declared.record.RecordOf.TheVariants.{Sub, Ans}
use Rattle.history_words.specs.Trace.{submissions, answers_to, stands, is_request, IsLawful, IsExplained, Explains}
use Rattle.fabric_steps.specs.Whole.{Whole, memory_of}
use Rattle.fabric_steps.specs.Sound.{Sound}
use Rattle.fabric_steps.specs.Trace.{Belongs}
use Rattle.fabric_steps.specs.Fabric.{whole_of}
use Rattle.hall_laws.proofs.Lists.{get_seam, take_before, take_all}
use Rattle.hall_laws.proofs.Lists.{answer_is}
use Rattle.hall_laws.specs.declared.token.Knowledge.{Knowledge}
use Rattle.hall_laws.specs.Rule.{Traced, IsSoundTraced, Fits}
use Rattle.hall_laws.specs.Tells.{Has, IsLegalFor, AnsweredStand}
use Rattle.hall_laws.proofs.Waits.{test, waits, made_by, any_found, any_at}

abbrev pub ExplainsLaw : Type 0
ExplainsLaw = (p : Whole) (rs : List Record) → Sound p → Belongs p rs → Explains (record { memory = memory_of p; records = rs })

pub own_request : (i k : ℕ) (op : Op) → is_request i k (record { requester = i; number = k; op = op }) ≡ true
own_request i k op = rw (eq-eqb i i refl, eq-eqb k k refl) refl

take_whole : {X : Type 0} (xs ys : List X) → take (length xs) (xs ++ ys) ≡ xs
take_whole xs ys = take_before xs ys (length xs) (omega arith) ∙ take_all xs

-- a request with the next number
pub new_request : (p : Whole) (rs : List Record) (i k : ℕ) (op : Op) → Belongs p (rs ++ Sub i k op (length p.history) ∷ []) → (k ≡ length (submissions rs i)) × (stands p.history i k ≡ false)
new_request p rs i k op b =
    let at : slice_get (rs ++ Sub i k op (length p.history) ∷ []) (length rs) ≡ Some (Sub i k op (length p.history)) = get_seam rs [] (Sub i k op (length p.history)) in (
      b.numbered (length rs) i k (length p.history) op at ∙ ap (λ (l : List Record). length (submissions l i)) (take_whole rs (Sub i k op (length p.history) ∷ [])),
      ap (λ (l : List Entry). stands l i k) (sym (take_all p.history)) ∙ b.later (length rs) i k (length p.history) op at,
    )

-- an answer is explained by the records before it
pub explained : (p : Whole) (rs : List Record) (i k : ℕ) (reply : Reply) → Belongs p (rs ++ Ans i k reply (length p.history) ∷ []) → IsExplained (memory_of p) rs i k reply (length p.history)
explained p rs i k reply b = subst (λ (l : List Record). IsExplained (memory_of p) l i k reply (length p.history)) (take_whole rs (Ans i k reply (length p.history) ∷ []))
    (b.linear (length rs) i k (length p.history) reply (get_seam rs [] (Ans i k reply (length p.history))))

-- the history is legal for one requester
pub legal_for : (explains : ExplainsLaw) (s : Traced) (i : ℕ) → IsSoundTraced s → IsLegalFor i (submissions s.records i) s.fabric.memory.entries
legal_for explains s i sound p e at own =
    let law : IsLawful (submissions s.records) (take p s.fabric.memory.entries) e = (explains (whole_of s.fabric) s.records sound.sound.sound sound.belongs).legal p e at in
    record {
      submitted = ap (λ (j : ℕ). slice_get (submissions s.records j) e.number) (sym own) ∙ law.submitted;
      once = law.once;
      ordered = λ j op less made posted. law.ordered j op less (ap (λ (z : ℕ). slice_get (submissions s.records z) j) own ∙ made) posted;
    }

-- what was submitted and has an answer stands in the history
pub answered_stand : (s : Traced) (w : Knowledge) → IsSoundTraced s → Fits s w → AnsweredStand w s.fabric.memory.entries
answered_stand s w sound f k op made np no_wait =
    let i : ℕ = suc w.number in
    let h : List Entry = s.fabric.memory.entries in
    let m = made_by i k op s.records (subst (λ (l : List Op). slice_get l k ≡ Some op) f.made made) in
    let same : m.1 ≡ k = sound.belongs.numbered m.0 i m.1 m.2 op m.3 ∙ m.4 in
    let asked : slice_get s.records m.0 ≡ Some (Sub i k op m.2) = m.3 ∙ ap (λ (z : ℕ). Some (Sub i z op m.2)) same in
    ⊎_elim
    (λ (t : list_any (answers_to i k) s.records ≡ true).
    let a = any_found (answers_to i k) s.records t in
    let is = answer_is i k a.1 a.3 in
    let x = sound.belongs.linear a.0 i k is.1 is.0 (a.2 ∙ ap Some is.2) in
    any_at (is_request i k) h x.point (record { requester = i; number = k; op = x.op }) x.acted (own_request i k x.op))
    (λ (t : list_any (answers_to i k) s.records ≡ false). absurd (no_wait m.2 (subst (Has (k, m.2)) (sym f.pending) (waits i k m.2 m.0 op s.records asked np t))))
    (test (list_any (answers_to i k) s.records))
