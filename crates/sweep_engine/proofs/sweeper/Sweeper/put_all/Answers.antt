use Rattle.std.proofs.Common.{◌≡◌, ◌∙◌, ◌⊎◌, ◌<◌, ◌-◌, ◌++◌, ℕ, true, false, sym, ap, arith, inl, inr, Result, Ok, Err, OnOk, OnErr}
use Rattle.sweep_engine.specs.Sweep.{Swept, seeds_in}
use Rattle.sweep_engine.proofs.Sweeps.{Appends-then, differ, stands_same, stands_ended, begins_few}
use Rattle.sweep_engine.proofs.sweeper.Sweeper.put_all.Goals as goal

weaker_ok : {T E P Q : Type 0} (r : Result T E) → (P → Q) → OnOk r P → OnOk r Q
weaker_ok (Ok x) f p = f p
weaker_ok (Err e) f p = tt

weaker_err : {T E P Q : Type 0} (r : Result T E) → (P → Q) → OnErr r P → OnErr r Q
weaker_err (Ok x) f p = tt
weaker_err (Err e) f p = f p

-- a sweep that goes on has less than a batch left
left : (ended : _) (n size : ℕ) → (ended ≡ true) ⊎ (n < size) → ended ≡ false → n < size
left ended n size (inl e) going = absurd (differ (sym going ∙ e))
left ended n size (inr e) going = e

pub returns-then-self-clause-ok : goal.returns-then-self-clause-ok
returns-then-self-clause-ok g c =
    let o = c.args.batches.sweep.now in
    let b = c.in_ok-next.ensures.ok in
    let most = c.in_ok-next.ensures.next in
    (b.0, b.1, λ s. stands_ended o (c.in_ok-next.next - o.storm.seed) (seeds_in o) b.0 _ (b.2 s) (sym (ap (λ (w : Swept). w.has_ended) c.self.view_is) ∙ c.if-self.true) (omega (arith, most.0, most.1)))

pub returns-clause-ok : goal.returns-clause-ok
returns-clause-ok g c =
    let o = c.args.batches.sweep.now in
    let b = c.in_ok-next.ensures.ok in
    let most = c.in_ok-next.ensures.next in
    let next = c.in_ok-next.next in
    let few = left _ (o.last - next) c.args.batches.size most.2 (sym (ap (λ (w : Swept). w.has_ended) c.self.view_is) ∙ c.if-self.false) in
    weaker_ok c.advance.result (λ a. (
      b.0 ++ a.0,
      Appends-then _ _ _ b.0 a.0 b.1 a.1,
      λ s. stands_same o _ (seeds_in o) _ _ (omega (arith, most.0, most.1, few, c.min.ensures, c.requires.last)) (a.2 (next - o.storm.seed) b.0 (omega (arith, most.0)) (b.2 s)),
    )) c.advance.ensures.ok

pub returns-clause-err : goal.returns-clause-err
returns-clause-err g c =
    let o = c.args.batches.sweep.now in
    let b = c.in_ok-next.ensures.ok in
    let most = c.in_ok-next.ensures.next in
    let next = c.in_ok-next.next in
    let few = left _ (o.last - next) c.args.batches.size most.2 (sym (ap (λ (w : Swept). w.has_ended) c.self.view_is) ∙ c.if-self.false) in
    weaker_err c.advance.result (λ a. (
      b.0 ++ a.0,
      Appends-then _ _ _ b.0 a.0 b.1 a.1,
      λ s. begins_few o _ (seeds_in o) _ (omega (arith, most.0, most.1, few, c.min.ensures, c.requires.last)) (a.2 (next - o.storm.seed) b.0 (omega (arith, most.0)) (b.2 s)),
    )) c.advance.ensures.err

pub advance-requires-clause-fits : goal.advance-requires-clause-fits
advance-requires-clause-fits g c =
    let most = c.in_ok-next.ensures.next in
    let least = c.min.ensures in λ κs lives. omega (arith, most.1, least, c.requires.last)
