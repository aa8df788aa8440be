use Rattle.std.proofs.Common.{◌≡◌, ◌≤◌, ◌+◌, ◌-◌, ◌++◌, ◌∙◌, List, ℕ, min, take, length, sym, ap, arith, inl, inr, length-append, Result, Ok, Err, OnOk}
use Rattle.std.specs.Result.{IsOk}
use Rattle.std.proofs.Math.Seq.{take-append-add}
use Rattle.std.proofs.lemmas.Bool.{cases_lt}
use Rattle.std.proofs.lemmas.List.{take_all, length-take-le}
use Rattle.line_loop.proofs.engine.Engine.keep.Goals as goal

-- as many bytes as there is room for fill the line
filled : (line bytes : List ℕ) (n : ℕ) → length line ≤ 513 → n ≡ min (length bytes) (513 - length line) → line ++ take n bytes ≡ take 513 (line ++ bytes)
filled line bytes n h e = elim (cases_lt (513 - length line) (length bytes)) [
  | inl more ↦
      let room : n ≡ 513 - length line = omega arith in
      let whole : 513 ≡ length line + n = omega arith in
      sym (take-append-add line bytes n) ∙ ap (λ (k : ℕ). take k (line ++ bytes)) (sym whole)
  | inr few ↦
      let all : n ≡ length bytes = omega arith in
      ap (λ (t : List ℕ). line ++ t) (take_all n bytes (omega arith))
      ∙ sym (take_all 513 (line ++ bytes) (omega (arith, length-append line bytes)))
]

on_ok : {T E P : Type 0} (r : Result T E) → IsOk r → OnOk r P → P
on_ok (Ok x) is p = p
on_ok (Err e) is p = absurd (cc)

fits : (line bytes : List ℕ) (n : ℕ) → length line ≤ 513 → n ≡ min (length bytes) (513 - length line) → length line + length (take n bytes) ≤ 513
fits line bytes n h e = let few : n ≤ length bytes = omega arith in omega (arith, length-take-le n bytes few)

pub returns-clause-line : goal.returns-clause-line
returns-clause-line g c =
    let line = c.args.self.now.line.items in
    let bytes = c.args.bytes.now in
    let n = c.min.result in
    let len : length line ≤ 513 = omega (arith, c.len-room.ensures.value, c.len-room.ensures.fits) in
    let is : n ≡ min (length bytes) (513 - length line) = c.min.ensures ∙ ap (λ (k : ℕ). min (length bytes) (513 - k)) c.len-room.ensures.value in
    on_ok c.try_extend_from_slice.result (c.try_extend_from_slice.ensures.variant.1 (fits line bytes n len is)) c.try_extend_from_slice.ensures.ok
    ∙ filled line bytes n len is
