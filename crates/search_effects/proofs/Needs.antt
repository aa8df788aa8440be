-- The bytes that a reply needs.
use Rattle.std.proofs.Common.{◌≡◌, ◌∙◌, ℕ, ◌+◌, ◌-◌, ◌*◌, ◌<◌, true, List, length, get_or, replicate, sym, ap, subst, arith}
use Rattle.std.specs.Prelude.{slice_index}
use Rattle.tlp_core.specs.Ops.{Op}
use Rattle.tlp_core.specs.declared.operation.OpOf.TheVariants as ops
use Rattle.tlp_core.specs.Enables.{enables}
use Rattle.tlp_core.specs.Operation.{address_of, count_of}
use Rattle.arrayvec.specs.ArrayVec.{ArrayVec}
use Rattle.seq_memory.specs.declared.reply.ReplyOf.TheVariants as replies
use Rattle.seq_memory.specs.Step.{merged, bytes_at, read_back, answer, refusal, data_of}
use Rattle.search_effects.specs.Effects.{is_needed}
use Rattle.search_effects.proofs.Places.{data_served, byte_there, length_most, merged_enabled, merged_shorter}

pub same_items : (xs : List ℕ) (d : ArrayVec ℕ) → data_of xs ≡ replies.Data d → xs ≡ d.items
same_items xs d e =
    let same : (record { items = xs }) ≡ d = cc in
    ap (λ (v : ArrayVec ℕ). v.items) same

-- the bytes are the reply's
plain : (m : List ℕ) (i c at : ℕ) (d : ArrayVec ℕ) → data_of (bytes_at m i c) ≡ replies.Data d → at < length d.items → slice_index m (i + at) ≡ slice_index d.items at
plain m i c at d e l =
    let same = same_items (bytes_at m i c) d e in
    let short : at < length (bytes_at m i c) = subst (λ xs. at < length xs) (sym same) l in
    sym (byte_there m i c at (omega (arith, short, length_most m i c))) ∙ ap (λ xs. get_or xs at 0) same

pub read_there : (op : Op) (m : List ℕ) (i at : ℕ) (d : ArrayVec ℕ) → is_needed op at ≡ true → read_back op (bytes_at m i (count_of op)) ≡ replies.Data d → at < length d.items → slice_index m (i + at) ≡ slice_index d.items at
read_there (ops.Read a dw f l) m i at d need e h =
    let place = bytes_at m i (4 * dw) in
    let same = same_items (merged (enables dw f l) place (replicate (4 * dw) 0)) d e in
    let (one, two) = merged_shorter (enables dw f l) place (replicate (4 * dw) 0) at (subst (λ xs. at < length xs) (sym same) h) in
    sym (byte_there m i (4 * dw) at (omega (arith, one, length_most m i (4 * dw))))
    ∙ sym (merged_enabled (enables dw f l) place (replicate (4 * dw) 0) at need one two) ∙ ap (λ xs. get_or xs at 0) same
read_there (ops.Write a f l bytes) m i at d need e h = cc
read_there (ops.FetchAdd a w x) m i at d need e h = plain m i (count_of (ops.FetchAdd a w x)) at d e h
read_there (ops.Swap a w x) m i at d need e h = plain m i (count_of (ops.Swap a w x)) at d e h
read_there (ops.Cas a w x y) m i at d need e h = plain m i (count_of (ops.Cas a w x y)) at d e h

pub answered : (base block at : ℕ) (m : List ℕ) (op : Op) (d : ArrayVec ℕ) → is_needed op at ≡ true → answer base block m op ≡ replies.Data d → at < length d.items → slice_index m (address_of op - base + at) ≡ slice_index d.items at
answered base block at m op d need e l =
    let (served, there) = data_served (refusal base (length m) block op) (read_back op (bytes_at m (address_of op - base) (count_of op))) d e in
    read_there op m (address_of op - base) at d need there l
