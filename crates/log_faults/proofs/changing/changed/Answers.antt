use Rattle.std.proofs.Common.{◌∙◌, ◌++◌, List, sym, ap, arith}
use Rattle.std.proofs.lemmas.List.{take_all}
use Rattle.tlp_core.specs.Ops.{Op}
use Rattle.history_words.specs.Records.{Record}
use Rattle.history_words.specs.TraceView.{TraceView}
use Rattle.log_faults.specs.WithFault.{told, told_from, parts_of}
use Rattle.log_faults.proofs.Telling.{over, told_more, none_inside}
use Rattle.log_faults.proofs.changing.changed.Goals as goal
use Rattle.log_faults.proofs.changing.changed.Goals.{in-Some+in_ok-put, in_default}

pub loop-place-preserved : goal.loop-place-preserved
loop-place-preserved c =
    let rs = c.args.records.now in
    let f = c.args.fault in
    let i = c.loop-place.place in
    elim c.match-get.branch [
      | in-Some+in_ok-put w ↦
          w.log-is ∙ w.in_ok-put.ensures ∙ ap (λ (v : TraceView). record v { records = v.records ++ told f.kind f.place c.get-what.result c.in_ok-parts.parts.items i w.in-Some.what }) c.loop-place.invariant
          ∙ ap (over c.args.extent) (sym (told_more f.kind f.place c.get-what.result c.in_ok-parts.parts.items rs i w.in-Some.what (sym c.get.ensures ∙ w.in-Some.is)))
      | in_default w ↦ absurd (none_inside rs i c.len-place-end.result c.loop-place-test.true c.len-place-end.ensures (sym c.get.ensures ∙ w.in_default.is))
    ]

pub returns : goal.returns
returns c =
    let rs = c.args.records.now in
    let f = c.args.fault in
    c.loop-place.invariant
    ∙ ap (λ (xs : List Record). over c.args.extent (told_from f.kind f.place c.get-what.result c.in_ok-parts.parts.items 0 xs)) (take_all c.loop-place.place rs (omega (arith, c.loop-place-test.false, c.len-place-end.ensures)))
    ∙ ap (λ (parts : List Op). over c.args.extent (told_from f.kind f.place c.get-what.result parts 0 rs)) c.in_ok-parts.ensures
    ∙ ap (λ asked. over c.args.extent (told_from f.kind f.place asked (parts_of f.kind c.args.extent asked) 0 rs)) c.get-what.ensures
