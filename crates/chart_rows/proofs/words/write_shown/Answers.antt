use Rattle.std.proofs.Common.{◌∙◌, ◌++◌, ap, List, ℕ}
use Rattle.std.specs.Prelude.{codes}
use Rattle.std.specs.Fmt.{decimal}
use Rattle.chart_rows.specs.Words.{rows_words}
use Rattle.chart_rows.proofs.Chains.{four}
use Rattle.chart_rows.proofs.words.write_shown.Goals as goal

pub returns : goal.returns
returns c =
    let rest = codes "; --from and --to choose others" in
    let all = decimal c.args.shown.all in
    c.push_str-2.ensures.bytes
    ∙ ap (λ (t : List ℕ). t ++ rest)
    (c.write_decimal.ensures.text ∙ ap (λ (t : List ℕ). t ++ all) (c.push_str.ensures.bytes ∙ ap (λ (t : List ℕ). t ++ codes " of ") c.write_rows.ensures.text))
    ∙ four (rows_words c.args.shown) (codes " of ") all rest
