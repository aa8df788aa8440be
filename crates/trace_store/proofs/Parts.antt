-- Parts of a list of bytes that grows.
use Rattle.std.proofs.Common.{◌≡◌, ◌<◌, ◌≤◌, ◌∙◌, ap, sym, refl, ℕ, ◌+◌, ◌^◌, Bool, true, false, List, [], ◌++◌, length, take, drop, arith}
use Rattle.std.specs.Prelude.{nat_le, if◌then◌else◌}
use Rattle.std.proofs.lemmas.Bool.{leb-false, leb-true}
use Rattle.std.proofs.lemmas.List.{take-append-le, take-append-drop, drop-take, length-take, length-take-le, length-drop, append-nil, drop_all}
use Rattle.std.proofs.Math.Seq.{drop-append_seam, take-length}
use Rattle.seq_memory.specs.Step.{bytes_at}
use Rattle.byteorder.specs.Endian.{little_number, little_bytes}
use Rattle.byteorder.specs.Numbers.{length-bytes_low_first, little_number-reads_back}
use Rattle.tlp_core.specs.Operands.{number_of}
use Rattle.trace_store.specs.Kept.{held, Holds, Grows}

part_before : (xs ys : List ℕ) (i n : ℕ) → i + n ≤ length xs → bytes_at (xs ++ ys) i n ≡ bytes_at xs i n
part_before xs ys i n l =
    sym (drop-take i n (xs ++ ys)) ∙ ap (λ (v : List ℕ). drop i v) (take-append-le (i + n) xs ys l) ∙ drop-take i n xs

-- what is put behind xs
pub part_behind : (xs ys : List ℕ) → bytes_at (xs ++ ys) (length xs) (length ys) ≡ ys
part_behind xs ys =
    ap (λ (v : List ℕ). take (length ys) v) (drop-append_seam xs ys) ∙ take-length ys

split : (old new : List ℕ) → Grows old new → new ≡ old ++ drop (length old) new
split old new g = sym (take-append-drop (length old) new) ∙ ap (λ (v : List ℕ). v ++ drop (length old) new) g

-- bytes that stand behind a list leave a part of it as it is
pub part_stays : (old new : List ℕ) (i n : ℕ) → Grows old new → i + n ≤ length old → bytes_at new i n ≡ bytes_at old i n
part_stays old new i n g l =
    ap (λ (v : List ℕ). bytes_at v i n) (split old new g) ∙ part_before old (drop (length old) new) i n l

pub longer : (old new : List ℕ) → Grows old new → length old ≤ length new
longer old new g = omega (arith, ap (length {A = ℕ}) g, length-take (length old) new)

-- what is held stays as it is
pub held_stays : (old new room : List ℕ) (size : ℕ) → Grows old new → Holds old room size → held new room size ≡ held old room size
held_stays old new room size g h = chosen (nat_le size 8) refl
  where
    chosen : (b : Bool) → nat_le size 8 ≡ b → (if b then take size room else bytes_at new (little_number 8 room) size) ≡ (if b then take size room else bytes_at old (little_number 8 room) size)
    chosen true e = refl
    chosen false e = part_stays old new (little_number 8 room) size g (h (leb-false size 8 e))

pub holds_still : (old new room : List ℕ) (size : ℕ) → Grows old new → Holds old room size → Holds new room size
holds_still old new room size g h big = omega (arith, h big, longer old new g)

-- a number that fits is what its bytes spell
pub spelled : (old new : List ℕ) (k n : ℕ) → length old ≡ k → n < 256 ^ k → new ≡ little_bytes k n ++ drop k old → number_of new ≡ n
spelled old new k n size fits e =
    let whole : new ≡ little_bytes k n ++ [] = e ∙ ap (λ (v : List ℕ). little_bytes k n ++ v) (drop_all k old (omega arith)) in
    let long : length new ≡ k = ap (length {A = ℕ}) (whole ∙ append-nil (little_bytes k n)) ∙ length-bytes_low_first 0 k n in
    ap (λ (m : ℕ). little_number m new) long ∙ ap (λ (v : List ℕ). little_number k v) whole ∙ little_number-reads_back k n [] fits

-- bytes that fill the room are held there
pub in_room : (bytes room : List ℕ) → length room ≡ 8 → held bytes room 8 ≡ room
in_room bytes room e = ap (λ (n : ℕ). take n room) (sym e) ∙ take-length room

-- as many bytes as are held
pub held_length : (bytes room : List ℕ) (size : ℕ) → length room ≡ 8 → Holds bytes room size → length (held bytes room size) ≡ size
held_length bytes room size long h = chosen (nat_le size 8) refl
  where
    chosen : (b : Bool) → nat_le size 8 ≡ b → length (if b then take size room else bytes_at bytes (little_number 8 room) size) ≡ size
    chosen true e = length-take-le size room (omega (arith, leb-true size 8 e, long))
    chosen false e = length-take-le size (drop (little_number 8 room) bytes) (omega (arith, h (leb-false size 8 e), length-drop (little_number 8 room) bytes))
