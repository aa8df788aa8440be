use Rattle.std.proofs.Common.{◌≡◌, ◌≤◌, ◌-◌, ◌∙◌, ℕ, min, length, ap, arith, Result, Ok, Err, OnOk}
use Rattle.std.specs.Result.{IsOk}
use Rattle.search_engine.proofs.KeepingLemmas.{filled, fits}
use Rattle.search_engine.proofs.keeping.KeptText.keep.Goals as goal

on_ok : {T E P : Type 0} (r : Result T E) → IsOk r → OnOk r P → P
on_ok (Ok x) is p = p
on_ok (Err e) is p = absurd (cc)

pub returns-clause-line : goal.returns-clause-line
returns-clause-line c =
    let line = c.args.self.now.line.items in
    let bytes = c.args.bytes.now in
    let n = c.min.result in
    let len : length line ≤ 513 = omega (arith, c.len-room.ensures.value, c.len-room.ensures.fits) in
    let is : n ≡ min (length bytes) (513 - length line) = c.min.ensures ∙ ap (λ (k : ℕ). min (length bytes) (513 - k)) c.len-room.ensures.value in
    on_ok c.try_extend_from_slice.result (c.try_extend_from_slice.ensures.variant.1 (fits line bytes n len is)) c.try_extend_from_slice.ensures.ok
    ∙ filled line bytes n len is
