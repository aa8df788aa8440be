-- A request is cut, or stays whole: either way its pieces do together what it does.
use Rattle.std.proofs.Common.{◌≡◌, ◌∙◌, ℕ, zero, suc, ◌-◌, ◌≤◌, ◌∷◌, [], List, Some, Bool, true, false, length, take, drop, fold, refl, sym, ap, inl, inr, arith}
use Rattle.std.specs.Prelude.{slice_get, ◌&&◌, if◌then◌else◌}
use Rattle.std.specs.List.{list_all}
use Rattle.std.proofs.lemmas.Bool.{cases_Bool}
use Rattle.std.proofs.lemmas.Option.{same_Some}
use Rattle.tlp_core.specs.Ops.{Op}
use Rattle.tlp_core.specs.Operation.{is_posted, count_of}
use Rattle.seq_memory.specs.Entries.{Reply}
use Rattle.seq_memory.specs.Limits.{Extent}
use Rattle.seq_memory.specs.Step.{answer}
use Rattle.op_pieces.specs.Pieces.{dw_of, cut, is_served, left_by, back_of, parts}
use Rattle.log_pieces.specs.Pieces.{pieces}
use Rattle.log_pieces.proofs.Explained.{Cuts, step}

-- ---- parts

pub last_part : (xs : List Op) (reply : Reply) → 1 ≤ length xs → parts (drop (length xs - 1) xs) reply ≡ reply ∷ []
last_part [] reply l = absurd (omega arith)
last_part (x ∷ []) reply l = refl
last_part (x ∷ y ∷ xs) reply l =
    let e : suc (suc (length xs)) - 1 ≡ suc (suc (length xs) - 1) = omega arith in
    ap (λ n. parts (drop n (x ∷ y ∷ xs)) reply) e ∙ last_part (y ∷ xs) reply (omega arith)

pub many_parts : (ops : List Op) (reply : Reply) → length (parts ops reply) ≡ length ops
many_parts [] reply = refl
many_parts (op ∷ []) reply = refl
many_parts (op ∷ other ∷ ops) reply = ap suc (many_parts (other ∷ ops) (back_of (count_of op) reply))

-- ---- one piece

alone : (op piece : Op) (j : ℕ) → slice_get (op ∷ []) j ≡ Some piece → (j ≡ 0) × (op ≡ piece)
alone op piece zero h = (refl, same_Some op piece h)
alone op piece (suc j) h = absurd (cc h)

one_still : (x : Extent) (m : List ℕ) (op piece : Op) (j : ℕ) (xs : List Op) → xs ≡ op ∷ [] → slice_get xs j ≡ Some piece → fold (step x) m (take j xs) ≡ m
one_still x m op piece j xs is at =
    let first = (alone op piece j (ap (λ (ys : List Op). slice_get ys j) (sym is) ∙ at)).0 in
    ap (λ k. fold (step x) m (take k xs)) first

one_replied : (x : Extent) (m : List ℕ) (op piece : Op) (j : ℕ) (part : Reply) (xs : List Op) → xs ≡ op ∷ [] → slice_get xs j ≡ Some piece → slice_get (parts xs (answer x.base x.block m op)) j ≡ Some part → answer x.base x.block m piece ≡ part
one_replied x m op piece j part xs is at there =
    let mine = alone op piece j (ap (λ (ys : List Op). slice_get ys j) (sym is) ∙ at) in
    ap (answer x.base x.block m) (sym mine.1)
    ∙ same_Some (answer x.base x.block m op) part
    (sym (ap (λ (ys : List Op). slice_get (parts ys (answer x.base x.block m op)) j) is ∙ ap (slice_get (answer x.base x.block m op ∷ [])) mine.0) ∙ there)

-- ---- the law of pieces that are served

pub record ActTogether : Type 0 where
  pub posted : (b : ℕ) (op piece : Op) (j : ℕ) → slice_get (cut b (dw_of op) op) j ≡ Some piece → is_posted piece ≡ is_posted op
  pub acts : (x : Extent) (b : ℕ) (m : List ℕ) (op : Op) → length m ≡ x.size → is_served x op ≡ true → list_all (is_served x) (cut b (dw_of op) op) ≡ true
      → fold (left_by x) m (cut b (dw_of op) op) ≡ left_by x m op
  pub still : (x : Extent) (b : ℕ) (m : List ℕ) (op piece : Op) (j : ℕ) → is_posted op ≡ false → slice_get (cut b (dw_of op) op) j ≡ Some piece
      → fold (left_by x) m (take j (cut b (dw_of op) op)) ≡ m
  pub replied : (x : Extent) (b : ℕ) (m : List ℕ) (op piece : Op) (j : ℕ) (part : Reply) → length m ≡ x.size → is_served x op ≡ true → list_all (is_served x) (cut b (dw_of op) op) ≡ true → is_posted op ≡ false
      → slice_get (cut b (dw_of op) op) j ≡ Some piece → slice_get (parts (cut b (dw_of op) op) (answer x.base x.block m op)) j ≡ Some part → answer x.base x.block m piece ≡ part

both_true : (a b : Bool) → (a && b) ≡ true → (a ≡ true) × (b ≡ true)
both_true true b h = (refl, h)
both_true false b h = absurd (cc)

-- a request is cut, or whole
pieces_by : {P : Type 0} → (b : ℕ) (x : Extent) (op : Op) → (pieces b x op ≡ op ∷ [] → P)
    → (is_served x op ≡ true → list_all (is_served x) (cut b (dw_of op) op) ≡ true → pieces b x op ≡ cut b (dw_of op) op → P) → P
pieces_by b x op one many = elim (cases_Bool (is_served x op && list_all (is_served x) (cut b (dw_of op) op))) [
  | inl sure ↦
      let both = both_true (is_served x op) (list_all (is_served x) (cut b (dw_of op) op)) sure in
      many both.0 both.1 (ap (λ (v : Bool). if v then cut b (dw_of op) op else op ∷ []) sure)
  | inr refuted ↦ one (ap (λ (v : Bool). if v then cut b (dw_of op) op else op ∷ []) refuted)
]

pub cuts : (x : Extent) → ActTogether → (b : ℕ) → Cuts x (pieces b x)
cuts x law b = record {
  posted = λ op piece j at. pieces_by {P = is_posted piece ≡ is_posted op} b x op
      (λ is. ap is_posted (sym (alone op piece j (ap (λ (ys : List Op). slice_get ys j) (sym is) ∙ at)).1))
      (λ own all is. law.posted b op piece j (ap (λ (ys : List Op). slice_get ys j) (sym is) ∙ at));
  acts = λ m op long. pieces_by {P = fold (step x) m (pieces b x op) ≡ step x m op} b x op
      (λ is. ap (fold (step x) m) is)
      (λ own all is. ap (fold (step x) m) is ∙ law.acts x b m op long own all);
  still = λ m op piece j long refuted at. pieces_by {P = fold (step x) m (take j (pieces b x op)) ≡ m} b x op
      (λ is. one_still x m op piece j (pieces b x op) is at)
      (λ own all is. ap (λ (ys : List Op). fold (step x) m (take j ys)) is ∙ law.still x b m op piece j refuted (ap (λ (ys : List Op). slice_get ys j) (sym is) ∙ at));
  replied = λ m op piece j part long refuted at there. pieces_by {P = answer x.base x.block m piece ≡ part} b x op
      (λ is. one_replied x m op piece j part (pieces b x op) is at there)
      (λ own all is. law.replied x b m op piece j part long own all refuted (ap (λ (ys : List Op). slice_get ys j) (sym is) ∙ at)
      (ap (λ (ys : List Op). slice_get (parts ys (answer x.base x.block m op)) j) (sym is) ∙ there));
  many = λ op reply. many_parts (pieces b x op) reply;
}
