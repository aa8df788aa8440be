use Rattle.std.proofs.Common.{◌≡◌, ◌∙◌, ap, length, subst, OnOk, OnErr, ℕ}
use Rattle.diagnostics.specs.Told.{IsPartTold, IsPartBegun}
use Rattle.diagnostics.specs.declared.telling.Part.{Part}
use Rattle.trace_diagnostics.specs.Told.{TraceReasonsView, line_of_flaw, part_of_flaw}
use Rattle.trace_diagnostics.proofs.traces.TraceReasons.tell_flaw.Goals as goal

pub returns-clause-errors : goal.returns-clause-errors
returns-clause-errors g c =
    subst (λ (s : TraceReasonsView). OnOk c.tell_of.result (IsPartTold (part_of_flaw c.args.flaw.kind c.args.flaw.place) (line_of_flaw c.args.lines.now (length (g.C.AsClaim.claim c.args.claim.now).records) c.args.flaw.kind c.args.flaw.place) s.errors (g.E.Write.contents c.tell_of.new.errors)))
    c.self.view_is
    (subst (λ (p : Part). OnOk c.tell_of.result (IsPartTold p (line_of_flaw c.args.lines.now (length (g.C.AsClaim.claim c.args.claim.now).records) c.args.flaw.kind c.args.flaw.place) (g.E.Write.contents c.self.inside.errors) (g.E.Write.contents c.tell_of.new.errors))) c.part_of.ensures
    (subst (λ (n : ℕ). OnOk c.tell_of.result (IsPartTold c.part_of.result n (g.E.Write.contents c.self.inside.errors) (g.E.Write.contents c.tell_of.new.errors))) (c.of_flaw-line.ensures ∙ ap (λ (n : ℕ). line_of_flaw c.args.lines.now n c.args.flaw.kind c.args.flaw.place) c.records.ensures) c.tell_of.ensures.ok))

pub returns-clause-part : goal.returns-clause-part
returns-clause-part g c =
    subst (λ (s : TraceReasonsView). OnErr c.tell_of.result (IsPartBegun (part_of_flaw c.args.flaw.kind c.args.flaw.place) (line_of_flaw c.args.lines.now (length (g.C.AsClaim.claim c.args.claim.now).records) c.args.flaw.kind c.args.flaw.place) s.errors (g.E.Write.contents c.tell_of.new.errors)))
    c.self.view_is
    (subst (λ (p : Part). OnErr c.tell_of.result (IsPartBegun p (line_of_flaw c.args.lines.now (length (g.C.AsClaim.claim c.args.claim.now).records) c.args.flaw.kind c.args.flaw.place) (g.E.Write.contents c.self.inside.errors) (g.E.Write.contents c.tell_of.new.errors))) c.part_of.ensures
    (subst (λ (n : ℕ). OnErr c.tell_of.result (IsPartBegun c.part_of.result n (g.E.Write.contents c.self.inside.errors) (g.E.Write.contents c.tell_of.new.errors))) (c.of_flaw-line.ensures ∙ ap (λ (n : ℕ). line_of_flaw c.args.lines.now n c.args.flaw.kind c.args.flaw.place) c.records.ensures) c.tell_of.ensures.part))
