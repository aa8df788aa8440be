-- A served operation answers the same where its place stands apart.
use Rattle.std.proofs.Common.{◌≡◌, ◌∙◌, ℕ, ◌+◌, ◌-◌, ◌≤◌, Bool, true, false, List, length, take, drop, Option, Some, None, refl, sym, ap, arith, length-drop}
use Rattle.std.specs.Prelude.{not, ◌||◌, ◌&&◌, nat_le, if◌then◌else◌, is_some}
use Rattle.std.proofs.lemmas.Bool.{le-leb}
use Rattle.std.proofs.lemmas.List.{length-take-le}
use Rattle.std.proofs.Math.Seq.{take-length}
use Rattle.tlp_core.specs.Ops.{Op}
use Rattle.tlp_core.specs.Operation.{address_of, count_of, op_fault}
use Rattle.seq_memory.specs.declared.Refusal.{Refusal}
use Rattle.seq_memory.specs.declared.Refusal.TheVariants as refusals
use Rattle.seq_memory.specs.Step.{is_in_block, is_inside, refusal, bytes_at, read_back, answer, answer_by}

no_fault : (a b : Bool) → (if a then Some refusals.Aborted else (if b then None else Some refusals.Unsupported)) ≡ None → a ≡ false
no_fault true b e = cc
no_fault false b e = refl

served : (base block size : ℕ) (op : Op) → refusal base size block op ≡ None → refusal (address_of op) (count_of op) block op ≡ None
served base block size op e =
    let first = no_fault (is_some (op_fault op) || not (is_in_block block (address_of op) (count_of op))) (is_inside base size (address_of op) (count_of op)) e in
    rw (first, le-leb (address_of op) (address_of op) (omega arith), le-leb (address_of op + count_of op) (address_of op + count_of op) (omega arith)) refl

place_size : (m : List ℕ) (i c : ℕ) → i + c ≤ length m → length (bytes_at m i c) ≡ c
place_size m i c l = length-take-le c (drop i m) (omega (arith, length-drop i m))

whole : (xs : List ℕ) (c : ℕ) → length xs ≡ c → bytes_at xs 0 c ≡ xs
whole xs c e = ap (λ n. take n xs) (sym e) ∙ take-length xs

pub apart : (base block : ℕ) (m : List ℕ) (op : Op) → refusal base (length m) block op ≡ None → base ≤ address_of op → address_of op + count_of op ≤ base + length m
    → answer (address_of op) block (bytes_at m (address_of op - base) (count_of op)) op ≡ answer base block m op
apart base block m op e low high =
    let place = bytes_at m (address_of op - base) (count_of op) in
    let size : length place ≡ count_of op = place_size m (address_of op - base) (count_of op) (omega arith) in
    let zero_offset : address_of op - address_of op ≡ 0 = omega arith in
    ap (λ n. answer_by (refusal (address_of op) n block op) (read_back op (bytes_at place (address_of op - address_of op) (count_of op)))) size
    ∙ ap (λ o. answer_by o (read_back op (bytes_at place (address_of op - address_of op) (count_of op)))) (served base block (length m) op e)
    ∙ ap (λ k. read_back op (bytes_at place k (count_of op))) zero_offset
    ∙ ap (read_back op) (whole place (count_of op) size)
    ∙ sym (ap (λ o. answer_by o (read_back op place)) e)
