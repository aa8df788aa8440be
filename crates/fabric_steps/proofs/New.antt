-- A new fabric is sound, and the empty trace belongs to it.
use Rattle.std.proofs.Common.{◌≡◌, ℕ, [], length, refl, sym, ap, ◌∙◌, subst, arith, Option, Some, None}
use Rattle.std.specs.Prelude.{slice_get}
use Rattle.fabric_steps.specs.Lists.{Each}
use Rattle.fabric_steps.specs.Whole.{Entry, RequesterView, Whole, View, view, path, requester_of, open_number, Extent}
use Rattle.history_words.specs.Trace.{is_request}
use Rattle.fabric_steps.specs.Sound.{Sound, SoundAt, answers, served, is_answer}
use Rattle.fabric_steps.specs.Trace.{Belongs}
use Rattle.fabric_steps.proofs.Records.{made}
use Rattle.fabric_steps.specs.New.{IsNew}
use Rattle.fabric_steps.proofs.Lists.{count_nil}
use Rattle.fabric_steps.proofs.Numbers.{not_counted}

bare : Extent → RequesterView → View
bare g q = record { extent = g; history = []; inward = []; outward = []; up = []; down = []; requester = q }

bare_view : (p : Whole) (i : ℕ) → IsNew p → view p i ≡ bare p.extent (requester_of p i)
unfolding bare
bare_view p i n = λ k. record { extent = p.extent; history = n.history k; inward = n.inward k; outward = n.outward k; up = n.up i k; down = n.down i k; requester = requester_of p i }

bare_sound : (g : Extent) (i : ℕ) (q : RequesterView) → q.next ≡ 0 → ((t : ℕ) → open_number q t ≡ None) → SoundAt i (bare g q)
unfolding bare
bare_sound g i q z none = record {
  whole = λ k. count_nil (is_request i k) ∙ sym (not_counted q.next k (omega arith));
  ordered = tt;
  requests = tt;
  own_requests = tt;
  completions = tt;
  own_completions = tt;
  tagged = tt;
  open_below = λ t k e. absurd (let n : open_number q t ≡ None = none t in cc);
  open_asked = λ t k e. tt;
  open_sized = λ t k e. tt;
  open_once = λ t u k e f. absurd (let n : open_number q t ≡ None = none t in cc);
  under_way = λ t. let a : answers i t [] ≡ 0 = count_nil (is_answer i t) in let s : served i (open_number q t) [] ≡ 0 = ap (λ (o : Option ℕ). served i o []) (none t) in omega arith;
  replies = tt;
}

pub new_sound : (p : Whole) → IsNew p → Sound p
new_sound p n i = subst (SoundAt i) (sym (bare_view p i n)) (bare_sound p.extent i (requester_of p i) (n.next i) (n.tags i))

pub new_belongs : (p : Whole) → IsNew p → Belongs p []
new_belongs p n = record {
  linear = λ a i k m r e. absurd (cc);
  numbered = λ a i k m o e. absurd (cc);
  rising = λ a b r s l e f. absurd (cc);
  within = λ a r e. absurd (cc);
  made = λ i. record { spent = nothing i ∙ sym (n.next i); each = subst (λ (v : View). Each (λ (e : Entry). e.requester ≡ i → slice_get (made i []) e.number ≡ Some e.op) (path v)) (sym (bare_view p i n)) (bare_path p.extent i (requester_of p i)) };
  pending = λ i t k e. absurd (let z : open_number (requester_of p i) t ≡ None = n.tags i t in cc);
  opened = λ a i k m o e np un. absurd (cc);
  later = λ a i k m o e. absurd (cc);
}
  where
    nothing : (i : ℕ) → length (made i []) ≡ 0
    nothing i = refl

    bare_path : (g : Extent) (i : ℕ) (q : RequesterView) → Each (λ (e : Entry). e.requester ≡ i → slice_get (made i []) e.number ≡ Some e.op) (path (bare g q))
    bare_path g i q = unfold bare in tt
