use Rattle.std.proofs.Common.{◌≡◌, None}
use Rattle.history_words.specs.Claim.{Claim}
use Rattle.history_words.specs.Clocks.{IsClocked}
use Rattle.history_words.specs.Flaws.{first_flaw_clocked}
use Rattle.history_words.specs.Trace.{Explains}
use Rattle.c_linked.proofs.Traced.{as_device}
use Rattle.c_linked.proofs.laws.the_trace_behind_a_link_is_explained.Goals as goal

pub returns-clause-explained : goal.returns-clause-explained
returns-clause-explained c = λ s ours calls h are.
    as_device (λ (x : Claim). Explains x) s ours calls (λ cs bytes. c.an_endpoints_trace_is_explained.ensures.explained s cs h bytes) are

pub returns-clause-clocked : goal.returns-clause-clocked
returns-clause-clocked c = λ s ours calls h are.
    as_device (λ (x : Claim). IsClocked x) s ours calls (λ cs bytes. c.an_endpoints_trace_is_explained.ensures.clocked s cs h bytes) are

pub returns-clause-flawless : goal.returns-clause-flawless
returns-clause-flawless c = λ s ours calls h are.
    as_device (λ (x : Claim). first_flaw_clocked x ≡ None) s ours calls (λ cs bytes. c.an_endpoints_trace_is_explained.ensures.flawless s cs h bytes) are
