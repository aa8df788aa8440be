use Rattle.std.proofs.Common.{◌∙◌, ◌++◌, ap, List}
use Rattle.std.specs.Prelude.{Option}
use Rattle.seq_memory.specs.Entries.{Entry}
use Rattle.history_words.specs.declared.flaws.Flaw.{Flaw}
use Rattle.history_words.specs.Claim.{Claim}
use Rattle.history_words.specs.Records.{Record}
use Rattle.history_words.specs.TraceView.{TraceView}
use Rattle.history_bars.specs.declared.marks.View.{View}
use Rattle.history_picture.specs.Picture.{flaw_of, view_of, view_text, picture_text}
use Rattle.history_picture.proofs.picture.put_picture.Goals as goal

pub returns-clause-ok : goal.returns-clause-ok
unfolding picture_text
returns-clause-ok c =
    let o = c.args.out.now.items in
    let x = c.args.claim.now in
    let h = c.claim.inside.history.now in
    let f = c.args.finding in
    c.in_ok-put_whole.ensures.ok
    ∙ ap (λ (v : View). o ++ view_text v c.as_slice.result.now h f) c.in_ok-view.ensures.view
    ∙ ap (λ (w : Option Flaw). o ++ view_text (view_of c.args.window x w) c.as_slice.result.now h f) c.flaw_of.ensures
    ∙ ap (λ (rs : List Record). o ++ view_text (view_of c.args.window x (flaw_of f)) rs h f)
    (c.as_slice.ensures.value ∙ ap (λ (t : TraceView). t.records) c.trace.view_is ∙ ap (λ (y : Claim). y.records) c.claim.view_is)
    ∙ ap (λ (es : List Entry). o ++ view_text (view_of c.args.window x (flaw_of f)) x.records es f) (ap (λ (y : Claim). y.memory.entries) c.claim.view_is)
