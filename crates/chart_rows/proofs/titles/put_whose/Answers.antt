use Rattle.std.specs.Prelude.{codes}
use Rattle.std.specs.Fmt.{decimal}
use Rattle.chart_rows.proofs.Chains.{two_pairs}
use Rattle.chart_rows.proofs.titles.put_whose.Goals as goal

pub returns-clause-text : goal.returns-clause-text
returns-clause-text c =
    let carried = c.args.carried in
    rw (c.put_counted-2.ensures.text, c.put_counted.ensures.text, c.from-2.ensures, c.from.ensures)
    (two_pairs c.args.text.now.bytes (codes " of requester ") (decimal carried.requester) (codes ", request ") (decimal carried.number))
