-- A memory after one more entry.
use Rattle.std.proofs.Common.{◌≡◌, ℕ, zero, suc, ◌+◌, ◌<◌, ◌≤◌, List, [], ◌∷◌, ◌++◌, length, take, drop, Some, None, refl, sym, ap, ◌∙◌, arith}
use Rattle.std.specs.Prelude.{fold, replicate, option_map, slice_get}
use Rattle.std.proofs.lemmas.List.{append-nil, drop_all, take_all, take_at, take_more, take-append-le, length-replicate}
use Rattle.std.proofs.lemmas.Option.{slice_get_within, slice_get_past, get_or_from_slice_get}
use Rattle.std.proofs.lemmas.List.Sums.{fold-append}
use Rattle.tlp_core.specs.Ops.{Op}
use Rattle.seq_memory.specs.Entries.{Entry}
use Rattle.seq_memory.specs.Step.{after, answer}
use Rattle.seq_memory.specs.Limits.{Extent}
use Rattle.seq_memory.specs.History.{contents, contents_at, reply_at}
use Rattle.seq_memory.proofs.Steps.{size_kept}

pub contents-none : (x : Extent) → contents x [] ≡ replicate x.size 0
unfolding contents
contents-none x = refl

pub contents-push : (x : Extent) (es : List Entry) (e : Entry) → contents x (es ++ e ∷ []) ≡ after x.base x.block (contents x es) e.op
unfolding contents
contents-push x es e = fold-append (λ m e. after x.base x.block m e.op) (replicate x.size 0) es (e ∷ [])

pub written_back : (n : ℕ) (old new : List ℕ) → n ≡ length old → length new ≡ length old → take n (new ++ drop (length new) old) ≡ new
written_back n old new e1 e2 =
    rw (drop_all (length new) old (omega arith), append-nil new) (take_all n new (omega arith))

-- the bytes after they and the history took the step
pub stepped : (x : Extent) (n : ℕ) (old new : List ℕ) (es es' : List Entry) (e : Entry) (op : Op) → n ≡ length old → length new ≡ length old
    → old ≡ contents x es → new ≡ after x.base x.block old op → op ≡ e.op → es' ≡ es ++ e ∷ []
    → take n (new ++ drop (length new) old) ≡ contents x es'
stepped x n old new es es' e op en el made step same pushed =
    written_back n old new en el ∙ step ∙ ap (λ op. after x.base x.block old op) same ∙ ap (λ m. after x.base x.block m e.op) made ∙ sym (contents-push x es e) ∙ ap (contents x) (sym pushed)

-- ---- laws of histories

size_folded : (base block : ℕ) (m : List ℕ) (es : List Entry) → length (fold (λ m e. after base block m e.op) m es) ≡ length m
size_folded base block m [] = refl
size_folded base block m (e ∷ es) = size_folded base block (after base block m e.op) es ∙ size_kept base block m e.op

pub contents-size : (x : Extent) (es : List Entry) → length (contents x es) ≡ x.size
unfolding contents
contents-size x es = size_folded x.base x.block (replicate x.size 0) es ∙ length-replicate x.size 0

get_left : (xs ys : List Entry) (k : ℕ) → k < length xs → slice_get (xs ++ ys) k ≡ slice_get xs k
get_left [] ys k h = absurd (omega arith)
get_left (x ∷ xs) ys zero h = refl
get_left (x ∷ xs) ys (suc k) h = get_left xs ys k (omega (arith, h))

get_seam : (xs : List Entry) (y : Entry) (ys : List Entry) → slice_get (xs ++ y ∷ ys) (length xs) ≡ Some y
get_seam [] y ys = refl
get_seam (x ∷ xs) y ys = get_seam xs y ys

pub contents-at : (x : Extent) (es : List Entry) (p : ℕ) (e : Entry) → slice_get es p ≡ Some e → contents_at x es (p + 1) ≡ after x.base x.block (contents_at x es p) e.op
contents-at x es p e at =
    let one_more : take (p + 1) es ≡ take p es ++ e ∷ [] = take_more es p e (slice_get_within es p e at) ∙ ap (λ y. take p es ++ y ∷ []) (get_or_from_slice_get es p e e at) in
    ap (contents x) one_more ∙ contents-push x (take p es) e

pub reply-before : (x : Extent) (es fs : List Entry) (p : ℕ) → p < length es → reply_at x (es ++ fs) p ≡ reply_at x es p
reply-before x es fs p h =
    ap (option_map (λ (e : Entry). answer x.base x.block (contents_at x (es ++ fs) p) e.op)) (get_left es fs p h)
    ∙ ap (λ (hs : List Entry). option_map (λ (e : Entry). answer x.base x.block (contents x hs) e.op) (slice_get es p)) (take-append-le p es fs (omega (arith, h)))

pub reply-seam : (x : Extent) (es : List Entry) (e : Entry) (fs : List Entry) → reply_at x (es ++ e ∷ fs) (length es) ≡ Some (answer x.base x.block (contents x es) e.op)
reply-seam x es e fs =
    ap (option_map (λ (y : Entry). answer x.base x.block (contents_at x (es ++ e ∷ fs) (length es)) y.op)) (get_seam es e fs)
    ∙ ap (λ (hs : List Entry). Some (answer x.base x.block (contents x hs) e.op)) (take_at es (e ∷ fs) (length es) refl)

pub reply-past : (x : Extent) (es : List Entry) (p : ℕ) → length es ≤ p → reply_at x es p ≡ None
reply-past x es p h = ap (option_map (λ (e : Entry). answer x.base x.block (contents_at x es p) e.op)) (slice_get_past es p h)
