use Rattle.search_places.proofs.Knowing.{zeros_more, block_more}
use Rattle.search_places.specs.Known.{laid}
use Rattle.search_places.proofs.memo.add_block.Goals as goal

pub returns-then-is_zero_block-clause-bytes : goal.returns-then-is_zero_block-clause-bytes
returns-then-is_zero_block-clause-bytes c = λ even.
    let key = c.args.key.now in
    zeros_more (laid key.gaps.items key.bytes.items) c.args.block.now key.after c.in_ok-key.field-0 c.in_ok-key.ensures (c.is_zero_block.ensures c.if-is_zero_block.true)

pub returns-clause-bytes : goal.returns-clause-bytes
returns-clause-bytes c = λ even.
    let key = c.args.key.now in
    block_more key.gaps.items key.bytes.items c.add_narrow.new.numbers.items c.add_bytes.new.bytes.items key.after c.args.block.now even c.requires
    c.in_ok-add_narrow.ensures c.in_ok-add_bytes.ensures
