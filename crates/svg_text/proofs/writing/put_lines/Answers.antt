use Rattle.std.proofs.Common.{◌∙◌, ◌++◌, List, ℕ, ap}
use Rattle.std.specs.Prelude.{codes}
use Rattle.svg_text.specs.Shapes.{lines, titled}
use Rattle.svg_text.specs.Xml.{Content, text_of}
use Rattle.svg_text.proofs.ShapeLemmas.{group}
use Rattle.svg_text.proofs.writing.put_lines.Goals as goal

pub returns : goal.returns
returns c =
    let text = c.args.text.now in
    let rules = c.args.rules.now in
    let opened = c.in_ok-extend_from_slice.ensures.items in
    let entitled = c.in_ok-put_title.ensures ∙ ap (λ (t : List ℕ). t ++ text_of (titled text Content.Nothing)) opened in
    let ruled = c.in_ok-put_each_line.ensures ∙ ap (λ (t : List ℕ). t ++ text_of (lines rules)) entitled in
    c.in_ok-extend_from_slice-2.ensures.items ∙ ap (λ (t : List ℕ). t ++ codes "</g>") ruled ∙ group c.args.out.now.items text rules
