-- The flaw that is told, with the n's asked for or without.
use Rattle.std.proofs.Common.{◌≡◌, ◌∙◌, ℕ, Bool, true, false, ap, Option, Some, None}
use Rattle.std.specs.Option.{option_or}
use Rattle.history_words.specs.declared.flaws.FlawKind.{FlawKind}
use Rattle.history_words.specs.Claim.{Claim}
use Rattle.history_words.specs.Flaws.{first_flaw, first_clock_flaw, first_flaw_clocked}
use Rattle.trace_engine.specs.Check.{if_clocked, flaw_with}

pub by_first : (x : Claim) (o : Option (FlawKind × ℕ)) → first_flaw x ≡ o → first_flaw_clocked x ≡ option_or o (first_clock_flaw x)
by_first x o e = ap (λ (p : Option (FlawKind × ℕ)). option_or p (first_clock_flaw x)) e

pub flaw_none : (b : Bool) (x : Claim) → first_flaw x ≡ None → first_clock_flaw x ≡ None → flaw_with b x ≡ None
flaw_none true x e c = by_first x None e ∙ c
flaw_none false x e c = e

pub flaw_clock : (b : Bool) (x : Claim) (f : FlawKind × ℕ) → first_flaw x ≡ None → first_clock_flaw x ≡ Some f → flaw_with b x ≡ if_clocked b (Some f)
flaw_clock true x f e c = by_first x None e ∙ c
flaw_clock false x f e c = e

pub flaw_first : (b : Bool) (x : Claim) (f : FlawKind × ℕ) → first_flaw x ≡ Some f → flaw_with b x ≡ Some f
flaw_first true x f e = by_first x (Some f) e
flaw_first false x f e = e
