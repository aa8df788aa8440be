-- The bytes of a number that bytes were read as are those bytes.
use Rattle.std.proofs.Common.{◌≡◌, ℕ, zero, suc, ◌+◌, ◌*◌, ◌/◌, ◌%◌, ◌^◌, ◌<◌, ◌≤◌, List, [], ◌∷◌, length, take, drop, slice_index, refl, sym, ap, ◌∙◌, arith, drop-cons}
use Rattle.std.proofs.Math.Nat.{div-div-eq-div-mul, div-one, pow-suc}
use Rattle.std.proofs.lemmas.List.{get_or-drop}
use Rattle.std.specs.Int.{byte_at, bytes_low_first}
use Rattle.byteorder.specs.Endian.{little_from, little_number, little_bytes}
use Rattle.tlp_core.specs.Bits.{IsBytes}

-- so many bytes from place i on
segment : ℕ → ℕ → List ℕ → List ℕ
segment i zero xs = []
segment i (suc n) xs = slice_index xs i ∷ segment (suc i) n xs

byte_at-is : (j x : ℕ) → byte_at j x ≡ x / 256 ^ j % 256
byte_at-is zero x = sym (ap (λ (y : ℕ). y % 256) (div-one x))
byte_at-is (suc j) x = refl

bytes-back : (n i j x : ℕ) (xs : List ℕ) → IsBytes xs → x / 256 ^ j ≡ little_from i n xs → bytes_low_first j n x ≡ segment i n xs
unfolding segment
bytes-back zero i j x xs h e = refl
bytes-back (suc n) i j x xs h e =
    let b : slice_index xs i < 256 = h i in
    let low : byte_at j x ≡ slice_index xs i = byte_at-is j x ∙ ap (λ (y : ℕ). y % 256) e ∙ lowest (slice_index xs i) (little_from (suc i) n xs) b in
    let shift : x / 256 ^ suc j ≡ x / 256 ^ j / 256 = ap (λ (p : ℕ). x / p) (pow-suc 256 j) ∙ sym (div-div-eq-div-mul x (256 ^ j) 256) in
    let high : x / 256 ^ suc j ≡ little_from (suc i) n xs = shift ∙ ap (λ (y : ℕ). y / 256) e ∙ others (slice_index xs i) (little_from (suc i) n xs) b in
    rw (low, bytes-back n (suc i) (suc j) x xs h high) refl
  where
    lowest : (b rest : ℕ) → b < 256 → (b + 256 * rest) % 256 ≡ b
    lowest b rest h = omega arith

    others : (b rest : ℕ) → b < 256 → (b + 256 * rest) / 256 ≡ rest
    others b rest h = omega arith

segment-is : (n i : ℕ) (xs : List ℕ) → i + n ≤ length xs → segment i n xs ≡ take n (drop i xs)
unfolding segment
segment-is zero i xs h = refl
segment-is (suc n) i xs h =
    let lt : i < length xs = omega arith in
    rw (drop-cons xs i 0 lt, segment-is n (suc i) xs (omega arith)) refl

pub number-bytes : (n : ℕ) (xs : List ℕ) → n ≤ length xs → IsBytes xs → little_bytes n (little_number n xs) ≡ take n xs
number-bytes n xs le h = bytes-back n 0 0 (little_number n xs) xs h (div-one (little_number n xs)) ∙ segment-is n 0 xs (omega arith)

pub bytes-take : (n : ℕ) (xs : List ℕ) → IsBytes xs → IsBytes (take n xs)
bytes-take zero xs h i = omega arith
bytes-take (suc n) [] h i = h i
bytes-take (suc n) (x ∷ xs) h zero = h zero
bytes-take (suc n) (x ∷ xs) h (suc i) = bytes-take n xs (λ k. h (suc k)) i

pub bytes-drop : (n : ℕ) (xs : List ℕ) → IsBytes xs → IsBytes (drop n xs)
bytes-drop n xs h i = rw (get_or-drop n xs i 0) (h (n + i))
