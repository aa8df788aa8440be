use Rattle.std.proofs.Common.{◌≡◌, ◌∙◌, arith, refl, sym, ap, codes, inl, inr, is_some}
use Rattle.clap.specs.Words.{found_of}
use Rattle.clap.proofs.WalkLemmas.{first_value-rows}
use Rattle.seq_memory.specs.Limits.{IsBase}
use Rattle.cli_words.proofs.RequestsAsked.{block_among, same_base, same_number}
use Rattle.cli_words.proofs.words.tlp_of.Goals as goal

pub returns-in-None-clause-err : goal.returns-in-None-clause-err
returns-in-None-clause-err c =
    let base = c.in_ok-base.base in
    let size = c.in_ok-size.size in
    let given = c.get_str.ensures ∙ first_value-rows (found_of c.args.tlp.now) (codes "base") in
    let s = c.in_ok-size.ensures.ok.1 in
    let in_block = block_among _ c.in_ok-block.ensures.ok.1 in
    let never : IsBase base size → ⊥ = λ m. cc (sym (c.new.ensures.limits.1 (record { in_size = (s.least, s.most, s.multiple); in_base = m; in_block = in_block })) ∙ ap is_some c.in-None.is) in (
      given,
      inl (
        refl,
        inr (inr (
          refl,
          (base, c.in_ok-base.ensures.ok),
          ((size, c.in_ok-size.ensures.ok), ((_, c.in_ok-block.ensures.ok), tt)),
          λ b s gives_b gives_s ends.
              let same_b : b ≡ base = same_base _ b base gives_b.0 c.in_ok-base.ensures.ok.0 in
              let same_s : s ≡ size = same_number 4096 _ s size gives_s.0 c.in_ok-size.ensures.ok.0 in
              never (c.in_ok-base.ensures.ok.1.multiple, omega (arith, same_b, same_s, ends)),
        )),
      ),
    )
