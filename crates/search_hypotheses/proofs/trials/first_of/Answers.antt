use Rattle.std.proofs.Common.{◌≡◌, ◌∙◌, ◌<◌, ℕ, ◌++◌, ◌∷◌, [], List, Some, None, length, sym, ap, inl, inr, arith}
use Rattle.std.specs.Prelude.{slice_get}
use Rattle.std.proofs.lemmas.Option.{slice_get_cases}
use Rattle.log_runs.proofs.Lists.{take_more_at}
use Rattle.history_words.specs.Records.{Record}
use Rattle.history_words.specs.TraceView.{TraceView}
use Rattle.search_hypotheses.proofs.trials.first_of.Goals as goal
use Rattle.search_hypotheses.proofs.trials.first_of.Goals.{in-Some+in_ok-push, in_default}

none_inside : (rs : List Record) (i n : ℕ) → i < n → n ≡ length rs → slice_get rs i ≡ None → ⊥
none_inside rs i n l e none = elim (slice_get_cases rs i).1 [
  | inl w ↦ let none_is : Some w.0 ≡ None = sym w.2 ∙ none in cc
  | inr w ↦ omega (arith, l, e, w.0)
]

pub loop-place-preserved : goal.loop-place-preserved
loop-place-preserved c =
    let t = c.args.prefix.seen.now in
    let rs = c.first-records.result in
    let i = c.loop-place.place in
    elim c.match-get.branch [
      | in-Some+in_ok-push w ↦
          w.copies-is ∙ w.in_ok-push.ensures.ok ∙ ap (λ (v : TraceView). record v { records = v.records ++ w.in-Some.item ∷ [] }) c.loop-place.invariant
          ∙ ap (λ (xs : List Record). record { base = t.base; size = t.size; block = t.block; records = xs }) (sym (take_more_at rs i w.in-Some.item (sym c.get.ensures ∙ w.in-Some.is)))
      | in_default w ↦ absurd (none_inside rs i c.len-place-end.result c.loop-place-test.true c.len-place-end.ensures (sym c.get.ensures ∙ w.in_default.is))
    ]
