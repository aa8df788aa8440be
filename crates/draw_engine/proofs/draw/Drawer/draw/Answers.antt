use Rattle.std.proofs.Common.{◌≡◌, ◌∙◌, ◌++◌, OnOk, ap, subst}
use Rattle.std.specs.Prelude.{Option}
use Rattle.history_words.specs.declared.flaws.Flaw.{Flaw}
use Rattle.history_words.specs.Flaws.{first_flaw}
use Rattle.history_picture.specs.declared.flaws.Finding.{Finding}
use Rattle.history_picture.specs.Picture.{picture_text}
use Rattle.draw_engine.specs.Draw.{DrawerView, finding_at, flaw_of}
use Rattle.draw_engine.proofs.draw.Drawer.draw.Goals as goal

pub returns-clause-text : goal.returns-clause-text
returns-clause-text g c =
    let x = c.args.claim.now in
    let o = c.args.out.now.items in
    let new = c.show.new.out.items in
    subst (λ (d : DrawerView). OnOk c.show.result (new ≡ o ++ picture_text d.window x (finding_at d.lines x (flaw_of (first_flaw x))))) c.self.view_is
    (subst (λ (f : Option Finding). OnOk c.show.result (new ≡ o ++ picture_text c.self.inside.window x f))
    (c.finding_of-finding.ensures ∙ ap (λ (f : Option Flaw). finding_at c.self.inside.lines x f) c.in_ok-flaw.ensures) c.show.ensures.text)
