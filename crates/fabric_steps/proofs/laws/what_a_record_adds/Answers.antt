use Rattle.fabric_steps.proofs.Records.{made_own, made_other, made_ans, answer_is}
use Rattle.fabric_steps.proofs.laws.what_a_record_adds.Goals as goal

pub returns : goal.returns
returns c =
    record {
      own = λ rs i k n op. made_own i k n op rs;
      other = λ rs i j k n op ne. made_other i j k n op rs ne;
      answered = λ rs i j k n reply. made_ans i j k reply n rs;
      answer = answer_is;
    }
