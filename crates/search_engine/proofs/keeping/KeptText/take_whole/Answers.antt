use Rattle.std.proofs.Common.{◌≡◌, ◌∙◌, ◌++◌, ◌+◌, List, ℕ, [], ◌∷◌, ap, sym, subst, take, drop, append_assoc}
use Rattle.hex_text.specs.LineFacts.{none-at-all, cut-at}
use Rattle.search_engine.specs.Kept.{KeepsUpTo}
use Rattle.search_engine.proofs.KeepingLemmas.{keeps-more, keeps-whole, left, none-after, up-to}
use Rattle.search_engine.proofs.keeping.KeptText.take_whole.Goals as goal

pub returns-in_default : goal.returns-in_default
returns-in_default c = λ read none s.
    let new = c.keep.new.self in
    let bytes = c.args.bytes.now in
    let kept = keeps-more read c.args.self.now.text.items c.args.self.now.line.items new.line.items bytes s (none-at-all bytes c.in_default.ensures) c.keep.ensures.line in
    subst (λ (t : List ℕ). KeepsUpTo (read ++ bytes) t new.line.items) (sym c.keep.ensures.text) kept

pub returns : goal.returns
returns c = λ read none s.
    let bytes = c.args.bytes.now in
    let k = c.in-Some.end in
    let found = c.in-Some.ensures in
    let old = c.args.self.now in
    let text = c.extend_from_slice.new.self.items in
    let new = c.keep-2.new.self in
    let front = take k bytes ++ 10 ∷ [] in
    let back = drop (k + 1) bytes in
    let whole = keeps-whole read old.text.items text old.line.items (take k bytes) s none
    (c.in_ok-extend_from_slice.ensures.items ∙ ap (λ (t : List ℕ). old.text.items ++ t) (up-to bytes k found.0.high found.1)) in
    let begun = subst (λ (l : List ℕ). KeepsUpTo (read ++ front) text l) (sym none) whole in
    let kept = keeps-more (read ++ front) text old.line.items new.line.items back begun (none-after bytes k found.0.high found.0.after)
    (c.keep-2.ensures.line ∙ ap (λ (t : List ℕ). take 513 (old.line.items ++ t)) (left bytes (k + 1))) in
    let all : (read ++ front) ++ back ≡ read ++ bytes = append_assoc read front back ∙ ap (λ (t : List ℕ). read ++ t) (sym (cut-at bytes k found.0.high found.1)) in
    subst (λ (t : List ℕ). KeepsUpTo (read ++ bytes) t new.line.items) (sym c.keep-2.ensures.text)
    (subst (λ (t : List ℕ). KeepsUpTo t text new.line.items) all kept)
