use Rattle.search_others.proofs.lost.lacks_byte.Goals as goal

pub returns-in-Some : goal.returns-in-Some
returns-in-Some c = λ so.
    let need = c.in-Some.need in
    c.what_lacks_a_byte_is_dead.ensures c.args.log.now c.args.place.now.state c.args.awaited.request c.args.awaited.due need.place need.value (record {
      due = c.requires.due;
      since = c.requires.since;
      left = c.requires.left;
      needs = c.in-Some.ensures.needs;
      gone = c.lacks.ensures.gone so;
      nobody = c.lacks.ensures.nobody so;
    })
