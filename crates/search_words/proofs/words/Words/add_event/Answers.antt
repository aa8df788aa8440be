use Rattle.std.proofs.Common.{Option, subst}
use Rattle.std.specs.Prelude.{slice_get}
use Rattle.tlp_core.specs.Ops.{Op}
use Rattle.seq_memory.specs.Entries.{Reply}
use Rattle.search_effects.specs.Effects.{told_of}
use Rattle.search_words.specs.Words.{IsTaken}
use Rattle.search_words.proofs.EventLemmas.{one_op, one_reply}
use Rattle.search_words.proofs.EventLemmas.{sub_told}
use Rattle.search_words.proofs.words.Words.add_event.Goals as goal

pub returns-in_ok-add_request-in-Some-Sub-clause-own : goal.returns-in_ok-add_request-in-Some-Sub-clause-own
returns-in_ok-add_request-in-Some-Sub-clause-own c = λ i op told at.
    let log = c.args.log.now in
    let x = c.in-Some-Sub in
    let o = slice_get log.events c.args.at in
    let here = sub_told log.events c.args.at x.field-0 x.field-0-0 x.op x.reply c.as_ref.result x.field-0-is x.ensures c.as_ref.ensures.value in
    let t = c.add_request.new.self in
    subst (λ (z : Option Reply). IsTaken log.extent t c.args.at op z) (one_reply o x.field-0-0 i x.op op (told_of c.as_ref.result) told here at)
    (subst (λ (z : Op). IsTaken log.extent t c.args.at z (told_of c.as_ref.result)) (one_op o x.field-0-0 i x.op op (told_of c.as_ref.result) told here at) c.in_ok-add_request-in-Some-Sub.ensures.own)
