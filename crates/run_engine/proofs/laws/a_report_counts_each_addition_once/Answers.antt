use Rattle.std.proofs.Common.{◌≡◌, ◌*◌, ◌%◌, ◌^◌, ◌++◌, length, ap, ◌∙◌}
use Rattle.std.specs.Prelude.{codes, None}
use Rattle.tlp_core.specs.declared.operation.OpOf.TheVariants as ops
use Rattle.tlp_core.specs.declared.operation.Width.TheVariants.{Four}
use Rattle.seq_memory.specs.Step.{refusal}
use Rattle.seq_memory.specs.History.{extent_of, bytes_of}
use Rattle.run_engine.specs.Text.{number_line, answers_in, first_word}
use Rattle.run_engine.proofs.Additions.{history_length, answer_count, counts, word_is}
use Rattle.run_engine.proofs.laws.a_report_counts_each_addition_once.Goals as goal

pub returns : goal.returns
returns c = λ x text r.
    let n = x.requesters in
    let m = x.each in
    let f = r.fabric in
    let h = f.memory.entries in
    let extent = extent_of f.memory in
    let answered : answers_in r.trace.records ≡ n * m = answer_count n m r.trace h r.explained r.done in
    let long : length h ≡ n * m = history_length n m r.trace h r.explained r.done in
    let served : refusal extent.base extent.size extent.block (ops.FetchAdd 0 Four 1) ≡ None = (λ j. refusal (r.config.base j) (r.config.size j) (r.config.block j) (ops.FetchAdd 0 Four 1)) in
    let number = c.a_counter_counts_each_once.ensures.number extent 0 Four h served (counts n m r.trace h r.explained r.done) in
    let word : first_word (bytes_of f.memory) ≡ (n * m) % 2 ^ 32 = word_is extent h (c.history_grows_by_steps.ensures.size extent h) r.config.base r.config.size number ∙ ap (λ k. k % 2 ^ 32) long in
    r.says ∙ (λ j. number_line (codes "answered ") (answered j) ++ (number_line (codes "history ") (long j) ++ (number_line (codes "word ") (word j) ++ codes "check ok\n")))
