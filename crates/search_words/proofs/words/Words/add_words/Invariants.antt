use Rattle.std.proofs.Common.{ℕ, ◌<◌, ◌≤◌}
use Rattle.search_effects.specs.Effects.{told_of}
use Rattle.search_words.specs.Words.{IsKnownAt, AllRise, Keeps}
use Rattle.search_words.proofs.words.Words.add_words.Given as goal

abbrev pub invariant-loop-word : goal.invariant-loop-word
invariant-loop-word l = record {
  keeps : Keeps l.fn.self l.self;
  rise : AllRise l.self l.judged.request.b;
  own : (w : ℕ) → l.fn.words.0 ≤ w → w < l.word → IsKnownAt l.log.extent l.self l.judged.request.b l.judged.request.op.now (told_of l.judged.request.told) w;
}
