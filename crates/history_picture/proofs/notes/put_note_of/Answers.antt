use Rattle.std.proofs.Common.{◌∙◌, ◌++◌, List, ℕ, ap}
use Rattle.svg_text.specs.Shapes.{shapes_text}
use Rattle.history_picture.specs.Notes.{note_line, note_words}
use Rattle.history_picture.proofs.notes.put_note_of.Goals as goal

pub returns : goal.returns
returns c =
    let words = note_words c.args.view.now c.args.records.now c.args.flaw in
    c.in_ok-put_line.ensures
    ∙ ap (λ (w : List ℕ). c.args.out.now.items ++ shapes_text (note_line w))
    (c.as_slice.ensures.value ∙ c.in_ok-put_words.ensures ∙ ap (λ (t : List ℕ). t ++ words) c.new-words.ensures.items)
