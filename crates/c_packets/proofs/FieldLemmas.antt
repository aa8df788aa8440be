-- The payload is what is behind the header.
use Rattle.std.proofs.Common.{◌≡◌, ◌∙◌, ℕ, ◌-◌, ◌≤◌, List, length, take, drop, ap, sym, arith}
use Rattle.std.proofs.lemmas.List.{length-drop, take_all}

pub payload-is : (packet payload : List ℕ) (header start count : ℕ) → header ≤ length packet → payload ≡ drop header packet → start ≡ length packet - length payload → count ≡ length payload
    → payload ≡ take count (drop start packet)
payload-is packet payload header start count whole is at many =
    let size : length payload ≡ length packet - header = ap length is ∙ length-drop header packet in
    let same : header ≡ start = omega (arith, whole, at, size) in
    let all : take count (drop header packet) ≡ drop header packet = take_all count (drop header packet) (let e = length-drop header packet in omega (arith, e, many, size)) in
    is ∙ sym all ∙ ap (λ (n : ℕ). take count (drop n packet)) same
