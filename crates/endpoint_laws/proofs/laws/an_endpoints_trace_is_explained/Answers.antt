use Rattle.std.proofs.Common.{◌≡◌, ◌∙◌, ap, None}
use Rattle.std.specs.Option.{option_or}
use Rattle.history_words.specs.Claim.{Claim}
use Rattle.history_words.specs.Flaws.{first_flaw, first_clock_flaw, first_flaw_clocked}
use Rattle.endpoint_laws.specs.Runs.{claim_after}
use Rattle.endpoint_laws.proofs.Running.{Rules, explained, clocked}
use Rattle.endpoint_laws.proofs.laws.an_endpoints_trace_is_explained.Goals as goal

rules : (c : goal.After-whatever_comes) → Rules
rules c =
    let memory = c.history_grows_by_steps.ensures in
    let blocks = c.blocks_are_the_request.ensures in
    record {
      laws = record { none = memory.none; next = memory.next; size = memory.size; adjacent = blocks.adjacent; inside = blocks.inside; faultless = blocks.faultless; posted = c.pieces_act_as_their_request.ensures.posted };
      carries = blocks.bytes;
      stays = c.what_is_read_only_stays.ensures.any;
      spelled = c.reading_is_spelling.ensures.spelled;
      leaves = c.whatever_comes.ensures.requests;
    }

no_flaw : (x : Claim) → first_flaw x ≡ None → first_clock_flaw x ≡ None → first_flaw_clocked x ≡ None
no_flaw x e f = ap (λ o. option_or o (first_clock_flaw x)) e ∙ f

pub returns : goal.returns
returns c =
    let checks = c.explained_is_without_flaw.ensures in
    record {
      explained = explained (rules c);
      clocked = clocked (rules c);
      ordered = λ s cs h bytes. c.answered_first_acts_first.ensures (claim_after s cs) (explained (rules c) s cs h bytes) (clocked (rules c) s cs h bytes);
      flawless = λ s cs h bytes.
          let e = explained (rules c) s cs h bytes in
          no_flaw (claim_after s cs) (checks.no_flaw (claim_after s cs) e) (checks.no_clock_flaw (claim_after s cs) e (clocked (rules c) s cs h bytes));
    }
