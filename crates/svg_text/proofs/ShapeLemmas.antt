-- The text of shapes, one after the other, and of the page around them.
use Rattle.std.proofs.Common.{◌≡◌, ◌∙◌, ◌++◌, ◌∷◌, List, ℕ, [], Bool, true, false, ap, sym, refl, append_assoc}
use Rattle.std.proofs.lemmas.List.{append-nil}
use Rattle.std.specs.Prelude.{codes}
use Rattle.svg_text.specs.declared.shapes.Block.{Block}
use Rattle.svg_text.specs.declared.shapes.Rule.{Rule}
use Rattle.svg_text.specs.Shapes.{Shape, IsReadOut, words_of, three_edges, rectangle, circle, line, lines, placed, titled, block_before, before, contents, shape_text, shapes_text, page_attributes, page_background, page_text}
use Rattle.svg_text.specs.Xml.{Content, text_of, opening, closing, IsWellFormed, IsDocument}

-- an element, and what stands after it
followed : (o i c r : List ℕ) → o ++ (i ++ (c ++ r)) ≡ (o ++ (i ++ (c ++ []))) ++ r
followed o i c r = simp (append_assoc, append-nil)

followed_block : (t : Bool) (b : Block) (text : List ℕ) (rest : Content) → text_of (block_before t b text rest) ≡ text_of (block_before t b text Content.Nothing) ++ text_of rest
followed_block true b text rest = followed (opening (codes "polyline") (three_edges b)) (text_of (titled text Content.Nothing)) (closing (codes "polyline")) (text_of rest)
followed_block false b text rest = followed (opening (codes "rect") (rectangle b)) (text_of (titled text Content.Nothing)) (closing (codes "rect")) (text_of rest)

before-text : (s : Shape) (rest : Content) → text_of (before s rest) ≡ shape_text s ++ text_of rest
unfolding shape_text
before-text (Shape.Filled b text) rest = followed_block b.is_open b text rest
before-text (Shape.Dotted d text) rest = followed (opening (codes "circle") (circle d)) (text_of (titled text Content.Nothing)) (closing (codes "circle")) (text_of rest)
before-text (Shape.Lined rs text) rest = followed (codes "<g>") (text_of (titled text (lines rs))) (closing (codes "g")) (text_of rest)
before-text (Shape.Written l text) rest = followed (opening (codes "text") (placed l)) (text_of (Content.Characters text Content.Nothing)) (closing (codes "text")) (text_of rest)

contents-text : (ss : List Shape) → text_of (contents ss) ≡ shapes_text ss
unfolding shapes_text
contents-text [] = refl
contents-text (s ∷ ss) = before-text s (contents ss) ∙ ap (λ (t : List ℕ). shape_text s ++ t) (contents-text ss)

-- ---- lines

pub line-next : (r : Rule) (rs : List Rule) → text_of (lines (r ∷ rs)) ≡ text_of (lines (r ∷ [])) ++ text_of (lines rs)
line-next r rs = followed (opening (codes "line") (line r)) [] (closing (codes "line")) (text_of (lines rs))

grouped : (o t ls : List ℕ) → (((o ++ codes "<g>") ++ t) ++ ls) ++ codes "</g>" ≡ o ++ (codes "<g>" ++ ((t ++ ls) ++ (codes "</g>" ++ [])))
grouped o t ls = simp (append_assoc, append-nil)

-- the title, and then the lines
title-next : (text : List ℕ) (rest : Content) → text_of (titled text rest) ≡ text_of (titled text Content.Nothing) ++ text_of rest
title-next text rest = followed (opening (codes "title") []) (text_of (Content.Characters text Content.Nothing)) (closing (codes "title")) (text_of rest)

pub group : (o text : List ℕ) (rs : List Rule)
    → (((o ++ codes "<g>") ++ text_of (titled text Content.Nothing)) ++ text_of (lines rs)) ++ codes "</g>" ≡ o ++ shape_text (Shape.Lined rs text)
unfolding shape_text
group o text rs =
    grouped o (text_of (titled text Content.Nothing)) (text_of (lines rs))
    ∙ ap (λ (t : List ℕ). o ++ (codes "<g>" ++ (t ++ (codes "</g>" ++ [])))) (sym (title-next text (lines rs)))

-- ---- what is well formed

well_block : (t : Bool) (b : Block) (text : List ℕ) (rest : Content) → IsWellFormed rest → IsWellFormed (block_before t b text rest)
well_block true b text rest well = (refl, refl, (refl, refl, tt, tt), well)
well_block false b text rest well = (refl, refl, (refl, refl, tt, tt), well)

well_lines : (rs : List Rule) → IsWellFormed (lines rs)
well_lines [] = tt
well_lines (r ∷ rs) = (refl, refl, tt, well_lines rs)

well_before : (s : Shape) (rest : Content) → IsWellFormed rest → IsWellFormed (before s rest)
well_before (Shape.Filled b text) rest well = well_block b.is_open b text rest well
well_before (Shape.Dotted d text) rest well = (refl, refl, (refl, refl, tt, tt), well)
well_before (Shape.Lined rs text) rest well = (refl, refl, (refl, refl, tt, well_lines rs), well)
well_before (Shape.Written l text) rest well = (refl, refl, tt, well)

well_contents : (ss : List Shape) → IsWellFormed (contents ss)
well_contents [] = tt
well_contents (s ∷ ss) = well_before s (contents ss) (well_contents ss)

pub well_page : (width height : ℕ) (ss : List Shape) → IsDocument (page_text width height ss)
unfolding page_text
well_page width height ss = record {
  name = codes "svg";
  attributes = page_attributes width height;
  inner = contents (Shape.Filled (page_background width height) [] ∷ ss);
  well_formed = (refl, refl, well_contents (Shape.Filled (page_background width height) [] ∷ ss), tt);
  is = refl;
}

-- ---- the page

around : (o b s : List ℕ) → (((o ++ b) ++ s) ++ codes "</svg>\n") ≡ (o ++ ((b ++ s) ++ (codes "</svg>" ++ []))) ++ 10 ∷ []
around o b s = simp append_assoc

page-by : (width height : ℕ) (ss : List Shape) (head background shapes : List ℕ)
    → head ≡ opening (codes "svg") (page_attributes width height) → background ≡ shape_text (Shape.Filled (page_background width height) []) → shapes ≡ shapes_text ss
    → ((head ++ background) ++ shapes) ++ codes "</svg>\n" ≡ page_text width height ss
unfolding page_text
page-by width height ss head background shapes a b c =
    let s = Shape.Filled (page_background width height) [] in
    let inner : background ++ shapes ≡ text_of (contents (s ∷ ss)) = rw (b, c, ← contents-text ss) (sym (before-text s (contents ss))) in
    around head background shapes ∙ ap (λ (t : List ℕ). (head ++ (t ++ codes "</svg>")) ++ 10 ∷ []) inner ∙ ap (λ (h : List ℕ). (h ++ (text_of (contents (s ∷ ss)) ++ codes "</svg>")) ++ 10 ∷ []) a

regroup : (o h s e : List ℕ) → (o ++ h) ++ (s ++ e) ≡ o ++ ((h ++ s) ++ e)
regroup o h s e = simp append_assoc

pub page-after : (width height : ℕ) (ss : List Shape) (o head background shapes : List ℕ)
    → head ≡ opening (codes "svg") (page_attributes width height) → background ≡ shape_text (Shape.Filled (page_background width height) []) → shapes ≡ shapes_text ss
    → (o ++ (head ++ background)) ++ (shapes ++ codes "</svg>\n") ≡ o ++ page_text width height ss
page-after width height ss o head background shapes a b c =
    regroup o (head ++ background) shapes (codes "</svg>\n") ∙ ap (λ (t : List ℕ). o ++ t) (page-by width height ss head background shapes a b c)

-- ---- what is read out

read_block : (t : Bool) (b : Block) (text : List ℕ) (rest : Content) → IsReadOut text (block_before t b text rest)
read_block true b text rest = IsReadOut.titled_so
read_block false b text rest = IsReadOut.titled_so

pub read : (s : Shape) (rest : Content) → IsReadOut (words_of s) (before s rest)
read (Shape.Filled b text) rest = read_block b.is_open b text rest
read (Shape.Dotted d text) rest = IsReadOut.titled_so
read (Shape.Lined rs text) rest = IsReadOut.titled_so
read (Shape.Written l text) rest = IsReadOut.written_so
