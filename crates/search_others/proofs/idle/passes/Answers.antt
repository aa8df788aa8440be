use Rattle.std.proofs.Common.{inl}
use Rattle.search_others.proofs.idle.passes.Goals as goal

pub returns : goal.returns
returns c = λ yes distinct left. inl (c.is_junk_behind.ensures yes)
