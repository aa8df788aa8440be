use Rattle.std.proofs.Common.{◌∙◌, ◌≤◌, ◌+◌, ◌*◌, length, arith}
use Rattle.linked_engine.proofs.Groups.{length_of_line}
use Rattle.linked_engine.proofs.texts.end_in_groups.Goals as goal

pub put-requires : goal.put-requires
put-requires c =
    let few : length c.as_slice.result.now ≤ 3 * length c.args.bytes.now + 1 = length_of_line c.args.bytes.now c.as_slice.result.now (c.as_slice.ensures ∙ c.write_bytes.ensures) in
    omega (arith, few, c.requires.room)
