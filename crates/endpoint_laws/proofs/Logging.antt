-- What is recorded of one request.
use Rattle.std.proofs.Common.{◌≡◌, ◌∙◌, ℕ, ◌+◌, ◌%◌, Bool, true, false, List, [], ◌∷◌, ◌++◌, length, map, Some, None, refl, sym, ap, subst, arith}
use Rattle.std.specs.Prelude.{fold, slice_get, replicate}
use Rattle.std.specs.List.{list_all}
use Rattle.tlp_core.specs.Ops.{Op}
use Rattle.tlp_core.specs.Operation.{address_of, count_of, is_posted, op_fault}
use Rattle.seq_memory.specs.Entries.{Entry}
use Rattle.seq_memory.specs.Entries.{Reply}
use Rattle.seq_memory.specs.Limits.{Extent}
use Rattle.seq_memory.specs.Step.{after, answer}
use Rattle.seq_memory.specs.History.{MemoryView, extent_of, contents}
use Rattle.op_pieces.specs.Pieces.{AreAdjacent, cut, dw_of, is_faultless, is_in_one_block}
use Rattle.history_words.specs.declared.record.RecordOf.TheVariants.{Sub, Ans}
use Rattle.endpoint_core.specs.Steps.{after_all, blocks_of}
use Rattle.endpoint_log.specs.LogView.{LogView}
use Rattle.endpoint_log.specs.Steps.{moved, submits, posts, acted_count}
use Rattle.endpoint_laws.proofs.Growing.{said, acted}
use Rattle.endpoint_laws.proofs.State.{State, IsOpen, AreOpen, entry, said_open, submit_open, submit_state, post_state, post_open, act_state, act_open}
use Rattle.endpoint_laws.proofs.Served.{IsBlock, IsPlace, AllGood, AreBlocks, all_good, all_blocks, posted_moved, after_moved, answer_moved}

-- the laws of the memory and of pieces
pub record Laws : Type 0 where
  pub none : (x : Extent) → contents x [] ≡ replicate x.size 0
  pub next : (x : Extent) (es : List Entry) (e : Entry) → contents x (es ++ e ∷ []) ≡ after x.base x.block (contents x es) e.op
  pub size : (x : Extent) (es : List Entry) → length (contents x es) ≡ x.size
  pub adjacent : (op : Op) → op_fault op ≡ None → AreAdjacent (address_of op) (address_of op + count_of op) (cut 128 (dw_of op) op)
  pub inside : (op : Op) → op_fault op ≡ None → list_all is_in_one_block (cut 128 (dw_of op) op) ≡ true
  pub faultless : (op : Op) → op_fault op ≡ None → list_all is_faultless (cut 128 (dw_of op) op) ≡ true
  pub posted : (b : ℕ) (op piece : Op) (j : ℕ) → slice_get (cut b (dw_of op) op) j ≡ Some piece → is_posted piece ≡ is_posted op

abbrev pub memory : ℕ → Extent
memory size = record { base = 0; size = size; block = 128 }

-- what the log has of a memory that holds these bytes
pub record Has (size : ℕ) (m : List ℕ) (l : LogView) : Type 0 where
  pub extent : extent_of l.claim.memory ≡ memory size
  pub bytes : contents (memory size) l.claim.memory.entries ≡ m
  pub state : State l.claim l.submitted

-- ---- the blocks of a request

pub good_blocks : Laws → (p : Bool) (base size : ℕ) (op : Op) → op_fault op ≡ None → is_posted op ≡ p → IsPlace base size op → AllGood p base size (blocks_of op)
good_blocks w p base size op none is at =
    all_good p base size (address_of op) (address_of op + count_of op) (blocks_of op) (w.faultless op none) (w.inside op none) (λ b j e. w.posted 128 op b j e ∙ is) (w.adjacent op none) at.low at.high

pub waiting_blocks : Laws → (op : Op) → op_fault op ≡ None → is_posted op ≡ false → AreBlocks (blocks_of op)
waiting_blocks w op none is = all_blocks (blocks_of op) (w.faultless op none) (w.inside op none) (λ b j e. w.posted 128 op b j e ∙ is)

-- ---- one block request acts

pub has_length : Laws → (size : ℕ) (m : List ℕ) (l : LogView) → Has size m l → length m ≡ size
has_length w size m l h = ap length (sym h.bytes) ∙ w.size (memory size) l.claim.memory.entries

grown : Laws → (size base k : ℕ) (m : List ℕ) (l : LogView) (b : Op) → base % 128 ≡ 0 → Has size m l → IsBlock b → IsPlace base size b
    → contents (memory size) (l.claim.memory.entries ++ entry k (moved base b) ∷ []) ≡ after base 128 m b
grown w size base k m l b whole h block place =
    let at : IsPlace base (length m) b = subst (λ (x : ℕ). IsPlace base x b) (sym (has_length w size m l h)) place in
    w.next (memory size) l.claim.memory.entries (entry k (moved base b))
    ∙ (ap (λ (x : List ℕ). after 0 128 x (moved base b)) h.bytes ∙ after_moved base m b whole block at)

-- ---- posted requests

post_one : Laws → (size base : ℕ) (m : List ℕ) (l : LogView) (b : Op) → base % 128 ≡ 0 → Has size m l → IsBlock b → IsPlace base size b → is_posted b ≡ true → Has size (after base 128 m b) (posts base l b)
post_one w size base m l b whole h block place is = record {
  extent = h.extent;
  bytes = grown w size base l.submitted m l b whole h block place;
  state = post_state l.claim l.submitted (acted_count l) (moved base b) h.state refl;
}

pub post_all : Laws → (size base : ℕ) (m : List ℕ) (l : LogView) (bs : List Op) → base % 128 ≡ 0 → Has size m l → AllGood true base size bs → Has size (after_all base m bs) (fold (posts base) l bs)
post_all w size base m l [] whole h g = h
post_all w size base m l (b ∷ bs) whole h g = post_all w size base (after base 128 m b) (posts base l b) bs whole (post_one w size base m l b whole h g.0 g.1 g.2) g.3

-- what is open stays so
pub post_all_open : Laws → (size base k : ℕ) (m : List ℕ) (l : LogView) (bs ops : List Op) → base % 128 ≡ 0 → Has size m l → AllGood true base size bs → AreOpen l.claim k ops → AreOpen (fold (posts base) l bs).claim k ops
post_all_open w size base k m l [] ops whole h g o = o
post_all_open w size base k m l (b ∷ bs) ops whole h g o =
    post_all_open w size base k (after base 128 m b) (posts base l b) bs ops whole (post_one w size base m l b whole h g.0 g.1 g.2) g.3
    (post_open l.claim l.submitted (acted_count l) (moved base b) h.state refl k ops o)

pub post_all_begun : (base : ℕ) (l : LogView) (bs : List Op) → (fold (posts base) l bs).begun ≡ l.begun
post_all_begun base l [] = refl
post_all_begun base l (b ∷ bs) = post_all_begun base (posts base l b) bs

-- ---- non-posted requests are submitted

abbrev pub submitted_all : ℕ → LogView → List Op → LogView
submitted_all base l bs = fold (submits base) l bs

pub same_memory : (base : ℕ) (l : LogView) (bs : List Op) → (submitted_all base l bs).claim.memory ≡ l.claim.memory
same_memory base l [] = refl
same_memory base l (b ∷ bs) = same_memory base (submits base l b) bs

submit_all_state : (base : ℕ) (l : LogView) (bs : List Op) → State l.claim l.submitted → AreBlocks bs → State (submitted_all base l bs).claim (submitted_all base l bs).submitted
submit_all_state base l [] s a = s
submit_all_state base l (b ∷ bs) s a =
    submit_all_state base (submits base l b) bs (submit_state l.claim l.submitted (acted_count l) (moved base b) s (posted_moved base b ∙ a.1) refl) a.2

stays_open : (base k : ℕ) (l : LogView) (bs : List Op) (op : Op) → IsOpen l.claim k op → IsOpen (submitted_all base l bs).claim k op
stays_open base k l [] op o = o
stays_open base k l (b ∷ bs) op o = stays_open base k (submits base l b) bs op (said_open l.claim (Sub 1 l.submitted (moved base b) (acted_count l)) k op refl o)

pub submit_all_open : (base : ℕ) (l : LogView) (bs : List Op) → State l.claim l.submitted → AreBlocks bs → AreOpen (submitted_all base l bs).claim l.submitted (map (moved base) bs)
submit_all_open base l [] s a = tt
submit_all_open base l (b ∷ bs) s a =
    let next : State (submits base l b).claim (l.submitted + 1) = submit_state l.claim l.submitted (acted_count l) (moved base b) s (posted_moved base b ∙ a.1) refl in
    (stays_open base l.submitted (submits base l b) bs (moved base b) (submit_open l.claim l.submitted (acted_count l) (moved base b) s), submit_all_open base (submits base l b) bs next a.2)

pub submit_all : (size base : ℕ) (m : List ℕ) (l : LogView) (bs : List Op) → Has size m l → AreBlocks bs → Has size m (submitted_all base l bs)
submit_all size base m l bs h a = record {
  extent = ap extent_of (same_memory base l bs) ∙ h.extent;
  bytes = ap (λ (es : List Entry). contents (memory size) es) (ap (λ (v : MemoryView). v.entries) (same_memory base l bs)) ∙ h.bytes;
  state = submit_all_state base l bs h.state a;
}

-- ---- the next of them acts, and is answered

-- its number is k
abbrev pub entering : ℕ → ℕ → LogView → Op → LogView
entering base k l b = record l { claim = acted l.claim (entry k (moved base b)) }

abbrev pub answering : ℕ → LogView → Reply → LogView
answering k l r = record l { claim = said l.claim (Ans 1 k r (acted_count l)) }

module _ (w : Laws) (size base k : ℕ) (m : List ℕ) (l : LogView) (b : Op) (reply : Reply) (whole : base % 128 ≡ 0) (h : Has size m l) (block : IsBlock b) (place : IsPlace base size b) (not : is_posted b ≡ false)
    (o : IsOpen l.claim k (moved base b)) (is : reply ≡ answer base 128 m b) where
  same_reply : reply ≡ answer l.claim.memory.base l.claim.memory.block (contents (extent_of l.claim.memory) l.claim.memory.entries) (moved base b)
  same_reply =
      let at : IsPlace base (length m) b = subst (λ (x : ℕ). IsPlace base x b) (sym (has_length w size m l h)) place in
      is
      ∙ (sym (answer_moved base m b whole block at)
      ∙ (ap (λ (x : List ℕ). answer 0 128 x (moved base b)) (sym h.bytes)
      ∙ ap (λ (x : Extent). answer x.base x.block (contents x l.claim.memory.entries) (moved base b)) (sym h.extent)))

  pub act_one : Has size (after base 128 m b) (answering k (entering base k l b) reply)
  act_one = record {
    extent = h.extent;
    bytes = grown w size base k m l b whole h block place;
    state = act_state l.claim l.submitted k (moved base b) reply h.state o (posted_moved base b ∙ not) same_reply;
  }

  pub act_one_open : (ops : List Op) → AreOpen l.claim (k + 1) ops → AreOpen (answering k (entering base k l b) reply).claim (k + 1) ops
  act_one_open ops a = act_open l.claim l.submitted k (moved base b) reply h.state o (posted_moved base b ∙ not) same_reply (k + 1) ops (omega arith) a
