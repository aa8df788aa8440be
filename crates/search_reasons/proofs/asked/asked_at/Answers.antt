use Rattle.search_reasons.proofs.asked.asked_at.Goals as goal

pub returns : goal.returns
returns c = record {
  requester = c.in_ok-asked.asked.requester;
  number = c.in_ok-asked.asked.number;
  submission = c.args.submission;
  since = c.in_ok-asked.ensures.is.0;
  place = c.args.answer;
  until = c.in_ok-reply.ensures.0;
  asked = c.in_ok-asked.ensures.is.1;
  answered = c.in_ok-reply.ensures.1;
}
