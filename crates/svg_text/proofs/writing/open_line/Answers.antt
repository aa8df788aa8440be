use Rattle.std.proofs.Common.{append_assoc}
use Rattle.std.proofs.lemmas.List.{append-nil}
use Rattle.svg_text.proofs.writing.open_line.Goals as goal

pub returns : goal.returns
returns c =
    rw (
      c.push_str-2.ensures.bytes,
      c.put_number-6.ensures.text,
      c.put_number-5.ensures.text,
      c.put_words.ensures.text,
      c.code.ensures.code,
      c.put_number-4.ensures.text,
      c.put_number-3.ensures.text,
      c.put_number-2.ensures.text,
      c.put_number.ensures.text,
      c.push_str.ensures.bytes,
      c.requires,
    ) (simp (append_assoc, append-nil))
