use Rattle.std.proofs.Common.{◌≡◌, List, fold, sym, ap, subst}
use Rattle.history_words.specs.Records.{Record}
use Rattle.c_fabric.specs.SessionView.{SettledView, IsKept, settled_of}
use Rattle.c_fabric.specs.Calls.{settled_view}
use Rattle.c_fabric.proofs.SettleLemmas.{keeps}
use Rattle.c_fabric.proofs.settling.settle_parts.Goals as goal

pub returns-clause-session : goal.returns-clause-session
returns-clause-session c before =
    let k = settled_view c.args.kept.now in
    let reached = c.settle.ensures.reached in
    let now : settled_view c.settle.new.witness ≡ fold settled_of k reached.happened = reached.now (λ event lost. lost) in
    subst (λ (rs : List Record). IsKept c.settle.new.fabric k.is_traced rs) (sym (ap (λ (x : SettledView). x.records) now))
    (keeps
    (record { laws = record { run = c.the_trace_belongs.ensures.run; step = c.each_event_keeps_it_sound.ensures.step }; sound = c.each_event_keeps_it_sound.ensures.sound })
    reached.happened c.args.fabric.now c.settle.new.fabric k c.sound.ensures reached.led before)
