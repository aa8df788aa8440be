-- How many requests wait after a TLP came, and after one acted.
use Rattle.std.proofs.Common.{◌≡◌, ℕ, suc, ◌+◌, ◌-◌, Bool, true, false, List, [], ◌∷◌, length, drop, inl, inr, refl, ap, ◌∙◌, arith, length-append}
use Rattle.std.specs.Prelude.{◌==◌, ◌⊎◌, nat_lt, if◌then◌else◌}
use Rattle.std.proofs.lemmas.Bool.Decides.{nat_tests}
use Rattle.endpoint_core.specs.declared.received.Received.{Received}
use Rattle.endpoint_core.specs.declared.received.Received.TheVariants as received
use Rattle.endpoint_core.specs.Classes.{becomes}
use Rattle.endpoint_core.specs.declared.waiting.Waiting.{Waiting}
use Rattle.endpoint_core.specs.declared.waiting.Waiting.TheVariants as waits
use Rattle.endpoint_core.specs.declared.endpoint.Handled.TheVariants as handles
use Rattle.endpoint_core.specs.EndpointView.{EndpointView}
use Rattle.endpoint_core.specs.Steps.{head_behind, done_by, acted, acted_on, taken, taken_as, handled, handled_as, is_claimed}
use Rattle.tlp_core.specs.Operation.{op_of}
use Rattle.linked_endpoint.specs.Linked.{is_waiting, is_last}

-- ---- a request acts

head-length : (n : ℕ) (ws : List Waiting) → length (head_behind n ws) ≡ length ws
head-length n [] = refl
head-length n (waits.Memory t ∷ ws) = refl
head-length n (waits.Configuration r ∷ ws) = refl
head-length n (waits.Poisoned t ∷ ws) = refl
head-length n (waits.Refused d e ∷ ws) = refl

abbrev Shrinks : ℕ → ℕ → Type 0
Shrinks new old = (new ≡ old) ⊎ (new + 1 ≡ old)

one-less : (n : ℕ) → n + 1 ≡ suc n
one-less n = omega arith

advanced-length : (b : Bool) (n : ℕ) (w : Waiting) (ws : List Waiting) → Shrinks (length (if b then drop 1 (w ∷ ws) else head_behind n (w ∷ ws))) (length (w ∷ ws))
advanced-length true n w ws = inr (one-less (length ws))
advanced-length false n w ws = inl (head-length n (w ∷ ws))

shrinks : (e : EndpointView) (ws : List Waiting) → e.waiting ≡ ws → Shrinks (length (acted_on e ws).waiting) (length ws)
shrinks e [] h = inl (ap length h)
shrinks e (w ∷ ws) h = advanced-length (done_by e.device w == 0) (done_by e.device w) w ws

same-many : (new old : ℕ) → nat_lt new old ≡ false → Shrinks new old → new ≡ old
same-many new old h s = grind (arith, nat_tests)

one-fewer : (new old : ℕ) → nat_lt new old ≡ true → Shrinks new old → old - 1 ≡ new
one-fewer new old h s = grind (arith, nat_tests)

pub as-many : (e : EndpointView) → is_last e ≡ false → length (acted e).waiting ≡ length e.waiting
as-many e h = same-many _ _ h (shrinks e e.waiting refl)

pub fewer : (e : EndpointView) → is_last e ≡ true → length e.waiting - 1 ≡ length (acted e).waiting
fewer e h = one-fewer _ _ h (shrinks e e.waiting refl)

-- ---- a TLP comes

abbrev Grows : Bool → ℕ → ℕ → Type 0
Grows waits new old = new ≡ (if waits then old + 1 else old)

done-or-not : (b : Bool) (n : ℕ) → Grows (is_waiting (if b then handles.Done else handles.Unsupported)) n n
done-or-not true n = refl
done-or-not false n = refl

came : (e : EndpointView) (r : Received) → Grows (is_waiting (handled_as e.device r)) (length (taken_as e r).waiting) (length e.waiting)
came e (received.Posted t) = done-or-not (is_claimed e.device (op_of t)) (length e.waiting)
came e (received.NonPosted t) = length-append e.waiting (waits.Memory t ∷ [])
came e (received.Configuration r) = length-append e.waiting (waits.Configuration r ∷ [])
came e (received.PoisonedPosted t) = refl
came e (received.PoisonedNonPosted t) = length-append e.waiting (waits.Poisoned t ∷ [])
came e (received.Refused d n) = length-append e.waiting (waits.Refused d n ∷ [])
came e (received.Unsupported n) = refl
came e received.Ignored = refl
came e received.Unexpected = refl
came e (received.Malformed f) = refl

pub more-wait : (e : EndpointView) (tlp : List ℕ) → is_waiting (handled e tlp) ≡ true → length (taken e tlp).waiting ≡ length e.waiting + 1
more-wait e tlp h = came e (becomes tlp) ∙ ap (λ (b : Bool). if b then length e.waiting + 1 else length e.waiting) h

pub no-more-wait : (e : EndpointView) (tlp : List ℕ) → is_waiting (handled e tlp) ≡ false → length (taken e tlp).waiting ≡ length e.waiting
no-more-wait e tlp h = came e (becomes tlp) ∙ ap (λ (b : Bool). if b then length e.waiting + 1 else length e.waiting) h
