use Rattle.std.proofs.Common.{append_assoc}
use Rattle.std.proofs.lemmas.List.{append-nil}
use Rattle.svg_text.proofs.writing.put_painted.Goals as goal

pub returns-clause-text : goal.returns-clause-text
returns-clause-text c =
    rw (c.put_number.ensures.text, c.put_words-2.ensures.text, c.put_words.ensures.text, c.code-2.ensures.code, c.code.ensures.code) (simp (append_assoc, append-nil))
