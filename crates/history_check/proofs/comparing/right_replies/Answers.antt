use Rattle.std.proofs.Common.{rules, ℕ, ◌≡◌, ◌+◌, ◌++◌, Bool, Option, Some, length, take, drop, ap, sym, ◌∙◌, arith, List}
use Rattle.std.specs.Prelude.{replicate, slice_get, option_and_then}
use Rattle.std.proofs.lemmas.List.{length-replicate, drop_all, take_all, append-nil, length_push}
use Rattle.seq_memory.specs.Entries.{Entry}
use Rattle.seq_memory.specs.Limits.{Extent}
use Rattle.seq_memory.specs.Step.{after, answer}
use Rattle.seq_memory.specs.History.{extent_of}
use Rattle.history_words.specs.Flaws.{some_and}
use Rattle.history_words.specs.Headers.{bytes_after, replays_at, first_in}
use Rattle.history_words.specs.Lookup.{is_told_at, is_told_in}
use Rattle.history_words.specs.Claim.{Claim}
use Rattle.history_check.proofs.Parts.{there}
use Rattle.history_check.proofs.Replies.{contents_none, contents_next, right_next, right_all}
use Rattle.history_check.proofs.comparing.right_replies.Goals as goal

written_back : (n : ℕ) (old new : List ℕ) → n ≡ length old → length new ≡ length old → take n (new ++ drop (length new) old) ≡ new
written_back n old new e1 e2 =
    rw (drop_all (length new) old (omega arith), append-nil new) (take_all n new (omega arith))

-- the entry at the index is performed
performed : (x : Claim) (p : ℕ) (e : Entry) (old new : List ℕ) → slice_get x.memory.entries p ≡ Some e → new ≡ bytes_after x.memory (slice_get x.memory.entries p) old → new ≡ after x.memory.base x.memory.block old e.op
performed x p e old new at is = is ∙ ap (λ (o : Option Entry). bytes_after x.memory o old) at

-- its reply is compared with the first answer
compared : (x : Claim) (rows : List (List ℕ)) (firsts : List (Option ℕ)) (p : ℕ) (e : Entry) (place : Option ℕ) (old : List ℕ) (v : Bool) → slice_get x.memory.entries p ≡ Some e → place ≡ option_and_then (first_in rows firsts) (slice_get x.memory.entries p) → v ≡ replays_at x p place old → v ≡ is_told_in rows firsts x.records e (answer x.memory.base x.memory.block old e.op)
compared x rows firsts p e place old v at first told =
    let m = x.memory in
    told
    ∙ ap (λ (o : Option Entry). some_and o (λ e. is_told_at x.records place (answer m.base m.block old e.op))) at
    ∙ ap (λ (o : Option ℕ). is_told_at x.records o (answer m.base m.block old e.op)) (first ∙ ap (option_and_then (first_in rows firsts)) at)

pub loop-p-init : goal.loop-p-init
loop-p-init g c =
    let x = g.C.AsClaim.claim c.args.claim.now in
    let size : c.size.result ≡ x.memory.size = c.size.ensures.value ∙ ap (λ (x : Extent). x.size) c.extent.ensures in
    record {
      bytes = c.in_ok-bytes.ensures ∙ ap (λ n. replicate n 0) size ∙ sym (contents_none (extent_of x.memory));
      size = ap (length {A = ℕ}) c.in_ok-bytes.ensures ∙ length-replicate {A = ℕ} c.size.result 0 ∙ size;
      len = search rules;
      right = λ q l. absurd (omega arith);
    }

pub loop-p-preserved : goal.loop-p-preserved
loop-p-preserved g c =
    let x = g.C.AsClaim.claim c.args.claim.now in
    let h = x.memory.entries in
    let (e, at) = there h c.loop-p.p (omega (arith, c.entries-p-end.ensures, c.loop-p-test.true)) in
    let old = c.deref_mut.ensures.value in
    let new = c.replays.new.bytes in
    let same : length new ≡ length c.loop-p.bytes.items = c.replays.auto.bytes ∙ ap (length {A = ℕ}) old in
    let back = written_back c.loop-p.bytes.len c.loop-p.bytes.items new c.loop-p.bytes.ok.0 same in
    let is = old ∙ c.loop-p.invariant.bytes in
    record {
      bytes = back ∙ contents_next (extent_of x.memory) h c.loop-p.p e c.deref_mut.result.now new at is (performed x c.loop-p.p e c.deref_mut.result.now new at c.replays.ensures.bytes);
      size = ap (length {A = ℕ}) back ∙ same ∙ c.loop-p.invariant.size;
      len = ap length c.in_ok-push.ensures.items ∙ length_push c.loop-p.right.items c.replays.result ∙ ap (λ n. n + 1) c.loop-p.invariant.len;
      right = right_next c.args.index.now c.args.firsts.now x c.loop-p.right.items c.push.new.self.items c.loop-p.p e c.replays.result c.deref_mut.result.now at c.loop-p.invariant.len c.loop-p.invariant.right is
          (compared x c.args.index.now c.args.firsts.now c.loop-p.p e c.first_answer-place.result c.deref_mut.result.now c.replays.result at c.first_answer-place.ensures c.replays.ensures.told) c.in_ok-push.ensures.items;
    }

pub returns : goal.returns
returns g c =
    let x = g.C.AsClaim.claim c.args.claim.now in
    right_all c.args.index.now c.args.firsts.now x c.loop-p.right.items c.loop-p.p c.loop-p.invariant.len (omega (arith, c.entries-p-end.ensures, c.loop-p-test.false)) c.loop-p.invariant.right
