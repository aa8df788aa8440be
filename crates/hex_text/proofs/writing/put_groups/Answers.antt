use Rattle.std.proofs.Common.{◌≡◌, ◌+◌, ◌-◌, ◌*◌, ◌++◌, ◌∷◌, ◌<◌, ◌≤◌, ◌∙◌, List, ℕ, [], take, drop, length, append_assoc, arith, length-drop, ap, sym}
use Rattle.std.proofs.lemmas.Grind.{common_steps}
use Rattle.hex.specs.Hex.{encode_upper}
use Rattle.hex_text.specs.Line.{spaced}
use Rattle.hex_text.proofs.TextLemmas.{spaced-encode_more, spaced-encode_last}
use Rattle.hex_text.proofs.writing.put_groups.Goals as goal

-- all that is left behind a place
left : (xs : List ℕ) (n : ℕ) → take (length xs - n) (drop n xs) ≡ drop n xs
left xs n = grind (arith, common_steps)

-- one group and a space, and then the groups of the rest
more : (text text' rest : List ℕ) → 4 < length rest → text' ≡ text ++ (encode_upper (take 4 rest) ++ 32 ∷ [])
    → text' ++ (spaced (encode_upper (take (length rest - 4) (drop 4 rest))) ++ 10 ∷ []) ≡ text ++ (spaced (encode_upper rest) ++ 10 ∷ [])
more text text' rest lt e =
    let group = encode_upper (take 4 rest) in
    let behind = spaced (encode_upper (drop 4 rest)) in
    rw (left rest 4, e, spaced-encode_more rest lt)
    (append_assoc text (group ++ 32 ∷ []) (behind ++ 10 ∷ [])
    ∙ ap (λ (t : List ℕ). text ++ t) (append_assoc group (32 ∷ []) (behind ++ 10 ∷ []) ∙ sym (append_assoc group (32 ∷ behind) (10 ∷ []))))

-- and as much room for the rest as before
room_left : (n n' : ℕ) (rest : List ℕ) → 4 < length rest → 8 * n + 18 * length rest ≤ 2592 → n' ≡ n + 9
    → 8 * n' + 18 * length (take (length rest - 4) (drop 4 rest)) ≤ 2592
room_left n n' rest lt h e =
    let len : length (drop 4 rest) ≡ length rest - 4 = length-drop 4 rest in
    rw (left rest 4) (omega arith)

pub loop-rest-preserved : goal.loop-rest-preserved
loop-rest-preserved c =
    let h = c.loop-rest.invariant in
    let rest = c.loop-rest.rest.now in
    record {
      same = more c.loop-rest.text c.put_group.new.text rest c.loop-rest-test.true c.put_group.ensures.text ∙ h.same;
      room = room_left (length c.loop-rest.text) (length c.put_group.new.text) rest c.loop-rest-test.true h.room c.put_group.ensures.len;
    }

pub returns : goal.returns
returns c =
    let rest = c.loop-rest.rest.now in
    c.put_last.ensures ∙ ap (λ (t : List ℕ). c.loop-rest.text ++ (t ++ 10 ∷ [])) (sym (spaced-encode_last rest c.loop-rest-test.false)) ∙ c.loop-rest.invariant.same
