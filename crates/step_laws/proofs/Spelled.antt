-- What the words of an operation say of its fields.
use Rattle.std.proofs.Common.{◌≡◌, ℕ, ◌^◌, ◌<◌, ◌≤◌, Bool, true, false, if◌then◌else◌, List, [], ◌∷◌, length, Option, Some, None, refl, subst, arith}
use Rattle.std.specs.Prelude.{IfSome, ◌==◌, ◌||◌, nat_lt, bytes_eq, codes, Result, Ok, Err}
use Rattle.std.proofs.lemmas.Option.{same_Some}
use Rattle.std.proofs.lemmas.Bool.Decides.{nat_tests}
use Rattle.hex.specs.Hex.{IsBytes, decode_of}
use Rattle.hex.specs.declared.error.FromHexError.{FromHexError}
use Rattle.hex.proofs.HexLemmas.{decode_of-ok}
use Rattle.tlp_core.specs.Ops.{Op}
use Rattle.tlp_core.specs.declared.operation.OpOf.TheVariants as ops
use Rattle.tlp_core.specs.Operation.{size_of, address_of}
use Rattle.operation_text.specs.Words.{then_with, field, ended}
use Rattle.operation_text.specs.Numbers.{numeral, byte_string, decoded}
use Rattle.operation_text.specs.Operations.{address, count, enables, operand, read_of, write_of, add_of, swap_of, cas_of, op_spelled, IsSpelledOp}

-- a number is at most what its digits may say
abbrev pub Range : Type 0
Range = (radix most n : ℕ) (word : List ℕ) → numeral radix most word ≡ Some n → n ≤ most

-- ---- fields

pub if_both : {X : Type 0} (Q : X → Type 0) (b : Bool) (x y : Option X) → IfSome x Q → IfSome y Q → IfSome (if b then x else y) Q
if_both Q true x y h k = h
if_both Q false x y h k = k

pub if_ended : {X : Type 0} (Q : X → Type 0) (x : X) → Q x → (ws : List (List ℕ)) → IfSome (ended x ws) Q
if_ended Q x h [] = h
if_ended Q x h (w ∷ ws) = tt

pub if_field : {X Y : Type 0} (P : X → Type 0) (Q : Y → Type 0) (spelled : List ℕ → Option X) (f : X → List (List ℕ) → Option Y)
    → ((w : List ℕ) (x : X) → spelled w ≡ Some x → P x) → ((x : X) → P x → (ws : List (List ℕ)) → IfSome (f x ws) Q)
    → (ws : List (List ℕ)) → IfSome (field spelled f ws) Q
if_field P Q spelled f say keep [] = tt
if_field {X} {Y} P Q spelled f say keep (w ∷ ws) = by (spelled w) refl
  where
    by : (o : Option X) → spelled w ≡ o → IfSome (then_with {X = X × List (List ℕ)} (then_with o (λ (x : X). Some (x, ws))) (λ s. f s.0 s.1)) Q
    by None e = tt
    by (Some x) e = keep x (say w x e) ws

abbrev pub Any : {X : Type 0} → X → Type 0
Any x = Unit {0}

pub any : {X : Type 0} (spelled : List ℕ → Option X) (w : List ℕ) (x : X) → spelled w ≡ Some x → Any x
any spelled w x e = tt

-- ---- bytes

-- at most 128 bytes
pub record IsShortData (bytes : List ℕ) : Type 0 where
  pub few : length bytes ≤ 128
  pub are_bytes : IsBytes bytes

data-is : (w bytes : List ℕ) → byte_string w ≡ Some bytes → IsShortData bytes
data-is w bytes e = by_test ((length w == 0) || nat_lt 256 (length w)) refl e
  where
    by_result : (r : Result (List ℕ) FromHexError) → decode_of w ≡ r → nat_lt 256 (length w) ≡ false → decoded r ≡ Some bytes → IsShortData bytes
    by_result (Ok x) d few e =
        let same : x ≡ bytes = same_Some x bytes e in
        let ok = decode_of-ok w x d in
        let len = ok.2 in
        let short : length x ≤ 128 = grind (arith, nat_tests) in
        subst IsShortData same (record { few = short; are_bytes = ok.3 })
    by_result (Err x) d few e = absurd cc

    not_long : (a b : Bool) → (a || b) ≡ false → b ≡ false
    not_long true b e = absurd cc
    not_long false b e = e

    by_test : (b : Bool) → ((length w == 0) || nat_lt 256 (length w)) ≡ b → (if b then None else decoded (decode_of w)) ≡ Some bytes → IsShortData bytes
    by_test true t e = absurd cc
    by_test false t e = by_result (decode_of w) refl (not_long (length w == 0) (nat_lt 256 (length w)) t) e

-- ---- operations

abbrev pub HasShortData : Op → Type 0
HasShortData (ops.Write a f l bytes) = IsShortData bytes.items
HasShortData (ops.Read a dw f l) = Unit {0}
HasShortData (ops.FetchAdd a w x) = Unit {0}
HasShortData (ops.Swap a w x) = Unit {0}
HasShortData (ops.Cas a w x y) = Unit {0}

-- an address of 64 bits, and at most 128 bytes
pub record IsShortOp (op : Op) : Type 0 where
  pub place : address_of op < 2 ^ 64
  pub short : HasShortData op

abbrev Fits64 : ℕ → Type 0
Fits64 a = a < 2 ^ 64

address-is : Range → (w : List ℕ) (a : ℕ) → address w ≡ Some a → Fits64 a
address-is range w a e = let most = range 16 18446744073709551615 a w e in omega (arith, most)

read-is : Range → (ws : List (List ℕ)) → IfSome (read_of ws) IsShortOp
read-is range ws =
    if_field Fits64 IsShortOp address _ (address-is range) (λ a p. if_field Any IsShortOp count _ (any count) (λ dw q.
    if_field Any IsShortOp enables _ (any enables) (λ f r. if_field Any IsShortOp enables _ (any enables) (λ l s.
    if_ended IsShortOp (ops.Read a dw f l) (record { place = p; short = tt }))))) ws

write-is : Range → (ws : List (List ℕ)) → IfSome (write_of ws) IsShortOp
write-is range ws =
    if_field Fits64 IsShortOp address _ (address-is range) (λ a p. if_field Any IsShortOp enables _ (any enables) (λ f q.
    if_field Any IsShortOp enables _ (any enables) (λ l r. if_field IsShortData IsShortOp byte_string _ data-is (λ bytes s.
    if_ended IsShortOp (ops.Write a f l (record { items = bytes })) (record { place = p; short = s }))))) ws

add-is : Range → (ws : List (List ℕ)) → IfSome (add_of ws) IsShortOp
add-is range ws =
    if_field Fits64 IsShortOp address _ (address-is range) (λ a p. if_field Any IsShortOp operand _ (any operand) (λ x q.
    if_ended IsShortOp (ops.FetchAdd a x.0 x.1) (record { place = p; short = tt }))) ws

swap-is : Range → (ws : List (List ℕ)) → IfSome (swap_of ws) IsShortOp
swap-is range ws =
    if_field Fits64 IsShortOp address _ (address-is range) (λ a p. if_field Any IsShortOp operand _ (any operand) (λ x q.
    if_ended IsShortOp (ops.Swap a x.0 x.1) (record { place = p; short = tt }))) ws

cas-is : Range → (ws : List (List ℕ)) → IfSome (cas_of ws) IsShortOp
cas-is range ws =
    if_field Fits64 IsShortOp address _ (address-is range) (λ a p. if_field Any IsShortOp operand _ (any operand) (λ x q.
    if_field Any IsShortOp operand _ (any operand) (λ y r rest.
    if_both IsShortOp (size_of x.0 == size_of y.0) (ended (ops.Cas a x.0 x.1 y.1) rest) None
    (if_ended IsShortOp (ops.Cas a x.0 x.1 y.1) (record { place = p; short = tt }) rest) tt))) ws

op-is : Range → (ws : List (List ℕ)) → IfSome (op_spelled ws) IsShortOp
op-is range [] = tt
op-is range (kind ∷ ws) =
    if_both IsShortOp (bytes_eq kind (codes "read")) (read_of ws) _ (read-is range ws)
    (if_both IsShortOp (bytes_eq kind (codes "write")) (write_of ws) _ (write-is range ws)
    (if_both IsShortOp (bytes_eq kind (codes "add")) (add_of ws) _ (add-is range ws)
    (if_both IsShortOp (bytes_eq kind (codes "swap")) (swap_of ws) _ (swap-is range ws)
    (if_both IsShortOp (bytes_eq kind (codes "cas")) (cas_of ws) None (cas-is range ws) tt))))

-- an operation that words spell
pub short-op : Range → (op : Op) → IsSpelledOp op → IsShortOp op
short-op range op s = subst (λ (o : Option Op). IfSome o IsShortOp) s.1 (op-is range s.0)
