use Rattle.std.proofs.Common.{◌≡◌, ◌∙◌, ◌++◌, ◌+◌, ◌-◌, List, ℕ, [], ◌∷◌, ap, sym, subst, take, drop, length, append_assoc, arith, Result, Ok, Err, OnOk}
use Rattle.hex_text.specs.LineFacts.{none-before, none-at-all, cut-at}
use Rattle.search_engine.specs.Kept.{KeepsUpTo}
use Rattle.search_engine.proofs.KeepingLemmas.{keeps-feed, keeps-more, left}
use Rattle.search_engine.proofs.keeping.KeptText.take.Goals as goal

on_ok_weaker : {T E P Q : Type 0} (r : Result T E) → (P → Q) → OnOk r P → OnOk r Q
on_ok_weaker (Ok x) f p = f p
on_ok_weaker (Err e) f p = tt

pub returns-in_default : goal.returns-in_default
returns-in_default c = λ read s.
    let new = c.keep.new.self in
    let bytes = c.args.bytes.now in
    let kept = keeps-more read c.args.self.now.text.items c.args.self.now.line.items new.line.items bytes s (none-at-all bytes c.in_default.ensures) c.keep.ensures.line in
    subst (λ (t : List ℕ). KeepsUpTo (read ++ bytes) t new.line.items) (sym c.keep.ensures.text) kept

pub returns : goal.returns
returns c = on_ok_weaker c.take_whole.result (λ whole. λ read s.
    let bytes = c.args.bytes.now in
    let k = c.in-Some.end in
    let found = c.in-Some.ensures in
    let old = c.args.self.now in
    let e = c.in_ok-end_line.ensures in
    let text = c.end_line.new.self.text.items in
    let new = c.take_whole.new.self in
    let front = take k bytes ++ 10 ∷ [] in
    let back = take (length bytes - (k + 1)) (drop (k + 1) bytes) in
    let fed = keeps-feed read old.text.items text old.line.items (take k bytes) s (none-before bytes k (omega (arith, found.0.high)) found.0.before) e.text in
    let begun = subst (λ (l : List ℕ). KeepsUpTo (read ++ front) text l) (sym e.line) fed in
    let all : (read ++ front) ++ back ≡ read ++ bytes =
    append_assoc read front back ∙ ap (λ (t : List ℕ). read ++ t) (ap (λ (t : List ℕ). front ++ t) (left bytes (k + 1)) ∙ sym (cut-at bytes k found.0.high found.1)) in
    subst (λ (t : List ℕ). KeepsUpTo t new.text.items new.line.items) all (whole (read ++ front) e.line begun)) c.take_whole.ensures
