-- What an answer to a verdict says.
use Rattle.std.proofs.Common.{◌≡◌, ◌∙◌, ℕ, ap, refl, subst}
use Rattle.history_words.specs.TraceView.{TraceView}
use Rattle.log_runs.specs.Explainable.{IsExplainable, prefix}
use Rattle.search_history.specs.Answers.{IsNone}
use Rattle.search_history.specs.Prefixes.{IsUnexplained}
use Rattle.search_history.specs.Runs.{IsAnswered}
use Rattle.search_run.specs.declared.exploring.Bound.{Bound}
use Rattle.search_history.specs.declared.searching.Sought.{Sought}
use Rattle.search_history.specs.declared.searching.Sought.TheVariants as answers
use Rattle.search_history.specs.declared.searching.Verdict.{Verdict}
use Rattle.search_history.specs.declared.searching.Verdict.TheVariants as verdicts

pub none_answered : ((t : TraceView) (n : ℕ) → IsExplainable t → IsExplainable (prefix n t)) → (t : TraceView) (v : Verdict) (s : Sought) → IsAnswered v s
    → ((n : ℕ) → v ≡ verdicts.None n → IsUnexplained t n) → IsNone t s
none_answered law t (verdicts.Run xs) answers.Found a none = tt
none_answered law t (verdicts.None n) (answers.None m) a none =
    let u = subst (IsUnexplained t) a (none n refl) in
    (λ e. u.unexplained (law t m e), u)
none_answered law t (verdicts.Limit b) (answers.Limit c) a none = tt
none_answered law t (verdicts.Run xs) (answers.None m) a none = absurd a
none_answered law t (verdicts.Run xs) (answers.Limit c) a none = absurd a
none_answered law t (verdicts.None n) answers.Found a none = absurd a
none_answered law t (verdicts.None n) (answers.Limit c) a none = absurd a
none_answered law t (verdicts.Limit b) answers.Found a none = absurd a
none_answered law t (verdicts.Limit b) (answers.None m) a none = absurd a

-- the bound that ended a search is the one that is answered
pub limit_answered : (v : Verdict) (s : Sought) (b : Bound) → IsAnswered v s → s ≡ answers.Limit b → v ≡ verdicts.Limit b
limit_answered (verdicts.Limit b) (answers.Limit c) d a e = ap verdicts.Limit (a ∙ same c d e)
  where
    same : (x y : Bound) → answers.Limit x ≡ answers.Limit y → x ≡ y
    same x y e = cc
limit_answered (verdicts.Limit b) answers.Found d a e = absurd a
limit_answered (verdicts.Limit b) (answers.None m) d a e = absurd a
limit_answered (verdicts.Run xs) answers.Found d a e = cc
limit_answered (verdicts.Run xs) (answers.None m) d a e = absurd a
limit_answered (verdicts.Run xs) (answers.Limit c) d a e = absurd a
limit_answered (verdicts.None n) (answers.None m) d a e = cc
limit_answered (verdicts.None n) answers.Found d a e = absurd a
limit_answered (verdicts.None n) (answers.Limit c) d a e = absurd a
