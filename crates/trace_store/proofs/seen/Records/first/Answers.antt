use Rattle.std.proofs.Common.{◌∙◌, ap, sym, take, map}
use Rattle.std.proofs.lemmas.List.{take-map}
use Rattle.trace_store.specs.Stored.{record_in}
use Rattle.trace_store.proofs.seen.Records.first.Goals as goal

pub returns : goal.returns
returns c =
    let i = c.self.inside in
    ap (map (record_in i.bytes.now)) c.first_of.ensures ∙ sym (take-map (record_in i.bytes.now) c.args.count i.all.now) ∙ ap (take c.args.count) c.self.view_is
