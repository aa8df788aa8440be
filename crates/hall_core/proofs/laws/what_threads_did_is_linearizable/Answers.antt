use Rattle.std.proofs.Common.{◌++◌}
use Rattle.fabric_steps.specs.Fabric.{whole_of}
use Rattle.hall_core.proofs.Counted.{told_one}
use Rattle.hall_core.proofs.laws.what_threads_did_is_linearizable.Goals as goal

pub returns : goal.returns
returns c = record {
  explained = λ h seats f r. c.the_trace_belongs.ensures.explained (whole_of f) r.told r.sound.sound r.belongs;
  ordered = λ h seats f r. c.answered_first_acts_first.ensures f r.told r.sound r.belongs;
  counted = λ h seats f r a b one two.
      let law = c.counts_order_requests.ensures f r.told r.sound r.belongs in
      λ i k j m until since p q reply op answered submitted by_then first second.
      law i k j m until since p q reply op (told_one r.told seats a b _ r.records one two answered) (told_one r.told seats a b _ r.records one two submitted) by_then first second;
  answered = λ h seats f r quiet a i k n op at asks. c.each_request_is_answered_at_rest.ensures f r.told a i k n op r.sound quiet r.belongs at asks;
  later = λ h seats f f' r events rs ran.
      let law = c.a_run_keeps_its_trace.ensures in (
        record { explained = law.explained f f' events rs r.told r.sound ran r.belongs; ordered = law.ordered f f' events rs r.told r.sound ran r.belongs },
        λ quiet a i k n op at asks. c.each_request_is_answered_at_rest.ensures f' (r.told ++ rs) a i k n op (law.sound f f' events rs r.sound ran) quiet (law.belongs f f' events rs r.told r.sound ran r.belongs) at asks,
      );
}
