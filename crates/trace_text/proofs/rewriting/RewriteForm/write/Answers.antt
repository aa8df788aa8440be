use Rattle.std.proofs.Common.{sym, ap, ◌∙◌, ◌++◌, List, ℕ}
use Rattle.std.specs.Borrow.{Bor}
use Rattle.operation_text.specs.Words.{words_behind}
use Rattle.trace_text.specs.TraceRewriterView.{RewriteFormView, behind_of, version_after}
use Rattle.trace_text.proofs.FrontLemmas.{keeps-front, keeps-nothing, line-written}
use Rattle.trace_text.proofs.rewriting.RewriteForm.write.Goals.{in-Some, in-None}
use Rattle.trace_text.proofs.rewriting.RewriteForm.write.Goals as goal

pub slice_bounds-front-count : goal.slice_bounds-front-count
slice_bounds-front-count c =
    (keeps-front c.own_digits_spell_number.ensures.one_word c.args.self.now.version c.args.text.now c.in-Some.behind.now c.args.line c.requires.spelled
    (sym (ap words_behind c.in-Some.is) ∙ c.requires.behind)).0

pub returns-clause-ok : goal.returns-clause-ok
returns-clause-ok c =
    let own = c.own_digits_spell_number.ensures.one_word in
    let front = c.match-behind.front.now in
    let rest = c.as_bytes.result.now in
    let line = c.args.line in
    line-written c.args.self.now c.version_after-version.result c.put_both.new.text.items front rest line
    (c.version_after-version.ensures ∙ ap (λ (s : RewriteFormView). version_after s.version line) c.self.view_is)
    (c.in_ok-put_both.ensures.ok ∙ ap (λ (s : RewriteFormView). s.text ++ (front ++ rest)) c.self.view_is)
    (c.as_bytes.ensures.value ∙ c.deref.ensures.0 ∙ c.write_behind.ensures)
    (elim c.match-behind.branch [
      | in-Some w ↦
          (keeps-front own c.args.self.now.version c.args.text.now w.in-Some.behind.now line c.requires.spelled (sym (ap words_behind w.in-Some.is) ∙ c.requires.behind)).1
          ∙ ap (λ (b : Bor (List ℕ)). b.now ++ behind_of line) (sym w.front-is)
      | in-None w ↦
          keeps-nothing own c.args.self.now.version c.args.text.now line c.requires.spelled (sym (ap words_behind w.in-None.is) ∙ c.requires.behind)
          ∙ ap (λ (b : Bor (List ℕ)). b.now ++ behind_of line) (sym w.front-is)
    ])
