-- The memory's bytes and the comparisons, entry by entry.
use Rattle.std.proofs.Common.{◌≡◌, ℕ, ◌+◌, ◌<◌, ◌≤◌, Bool, cond, List, [], ◌∷◌, ◌++◌, length, take, Option, Some, None, refl, sym, ap, ◌∙◌, inl, inr, arith}
use Rattle.std.specs.Prelude.{slice_get, option_map, ◌==◌, replicate}
use Rattle.std.specs.Option.{option_or}
use Rattle.std.proofs.lemmas.Bool.{cases_eq, cases_lt, eq-eqb, ne_eqb}
use Rattle.std.proofs.lemmas.List.Sums.{fold-append}
use Rattle.std.proofs.lemmas.Option.{slice_get_past}
use Rattle.seq_memory.specs.Entries.{Entry}
use Rattle.seq_memory.specs.Limits.{Extent}
use Rattle.seq_memory.specs.Step.{after, answer}
use Rattle.seq_memory.specs.History.{extent_of, contents}
use Rattle.history_words.specs.Claim.{Claim}
use Rattle.history_words.specs.Lookup.{is_told_in, right_in}
use Rattle.history_check.proofs.Firsts.{slice_get-push, or_none}
use Rattle.history_check.proofs.Entries.{next}

pub contents_none : (x : Extent) → contents x [] ≡ replicate x.size 0
unfolding contents
contents_none x = refl

contents_push : (x : Extent) (h : List Entry) (e : Entry) → contents x (h ++ e ∷ []) ≡ after x.base x.block (contents x h) e.op
unfolding contents
contents_push x h e = fold-append (λ m e. after x.base x.block m e.op) (replicate x.size 0) h (e ∷ [])

pub contents_next : (x : Extent) (h : List Entry) (p : ℕ) (e : Entry) (old new : List ℕ) → slice_get h p ≡ Some e → old ≡ contents x (take p h) → new ≡ after x.base x.block old e.op → new ≡ contents x (take (p + 1) h)
contents_next x h p e old new at is step =
    step ∙ ap (λ (m : List ℕ). after x.base x.block m e.op) is ∙ sym (contents_push x (take p h) e) ∙ ap (contents x) (sym (next h p e at))

-- the entry's comparison is pushed behind those before
pub right_next : (rows : List (List ℕ)) (firsts : List (Option ℕ)) (x : Claim) (right new : List Bool) (p : ℕ) (e : Entry) (v : Bool) (old : List ℕ) → slice_get x.memory.entries p ≡ Some e → length right ≡ p → ((q : ℕ) → q < p → slice_get right q ≡ right_in rows firsts x q) → old ≡ contents (extent_of x.memory) (take p x.memory.entries) → v ≡ is_told_in rows firsts x.records e (answer x.memory.base x.memory.block old e.op) → new ≡ right ++ v ∷ [] → (q : ℕ) → q < p + 1 → slice_get new q ≡ right_in rows firsts x q
right_next rows firsts x right new p e v old at len before is made grown q l =
    let m = x.memory in
    ap (λ (xs : List Bool). slice_get xs q) grown ∙ slice_get-push right v q ∙ elim (cases_eq q p) [
      | inl s ↦
          ap (λ (o : Option Bool). option_or o (cond (q == length right) (Some v) None)) (slice_get_past right q (omega arith))
          ∙ ap (λ t. cond t (Some v) None) (eq-eqb q (length right) (omega arith))
          ∙ ap Some (made ∙ ap (λ (bytes : List ℕ). is_told_in rows firsts x.records e (answer m.base m.block bytes e.op)) is)
          ∙ sym (ap (option_map (λ (e : Entry). is_told_in rows firsts x.records e (answer m.base m.block (contents (extent_of m) (take p m.entries)) e.op))) at)
          ∙ ap (right_in rows firsts x) (sym s)
      | inr d ↦
          ap (λ t. option_or (slice_get right q) (cond t (Some v) None)) (ne_eqb q (length right) (λ s. d (omega arith)))
          ∙ or_none (slice_get right q) ∙ before q (omega arith)
    ]

pub right_all : (rows : List (List ℕ)) (firsts : List (Option ℕ)) (x : Claim) (right : List Bool) (p : ℕ) → length right ≡ p → length x.memory.entries ≤ p → ((q : ℕ) → q < p → slice_get right q ≡ right_in rows firsts x q) → (q : ℕ) → slice_get right q ≡ right_in rows firsts x q
right_all rows firsts x right p len all before q = elim (cases_lt q p) [
  | inl l ↦ before q l
  | inr m ↦ slice_get_past right q (omega arith) ∙ sym (ap (option_map (λ (e : Entry). is_told_in rows firsts x.records e (answer x.memory.base x.memory.block (contents (extent_of x.memory) (take q x.memory.entries)) e.op))) (slice_get_past x.memory.entries q (omega arith)))
]
