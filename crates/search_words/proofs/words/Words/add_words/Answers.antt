use Rattle.std.proofs.Common.{arith}
use Rattle.search_effects.specs.Effects.{told_of}
use Rattle.search_words.proofs.WordLemmas.{keeps_then, words_next}
use Rattle.search_words.proofs.words.Words.add_words.Goals as goal

pub loop-word-preserved : goal.loop-word-preserved
loop-word-preserved c = record {
  keeps = keeps_then c.args.self.now c.loop-word.self c.add_at.new.self c.loop-word.invariant.keeps c.in_ok-add_at.ensures.keeps;
  rise = c.in_ok-add_at.ensures.rise;
  own = words_next c.args.log.now.extent c.loop-word.self c.add_at.new.self c.args.judged.request.b c.args.judged.request.op.now (told_of c.args.judged.request.told) c.args.words.0 c.loop-word.word c.in_ok-add_at.ensures.keeps
      c.loop-word.invariant.own c.in_ok-add_at.ensures.own;
}

pub returns-clause-own : goal.returns-clause-own
returns-clause-own c = λ w low high. c.loop-word.invariant.own w low (omega (arith, high))
