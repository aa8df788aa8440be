use Rattle.std.proofs.Common.{◌∙◌, ap, sym, length}
use Rattle.seq_memory.specs.Limits.{Extent}
use Rattle.search_forced.proofs.scene.Scene.is_quiet.Goals as goal

pub returns : goal.returns
returns c = λ yes.
    c.what_changes_nothing_acts_at_once.ensures c.args.self.log.now c.args.self.place.now.state c.args.request
    (ap length (sym c.bytes.ensures) ∙ c.if-bytes-size.false ∙ c.size.ensures.value ∙ ap (λ (e : Extent). e.size) c.extent.ensures)
    (c.changes_nothing.ensures yes) c.requires
