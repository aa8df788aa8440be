use Rattle.log_runs.proofs.Numbers.{grows_own, grows_other, grows_answer, numbered_submission, numbered_answer}
use Rattle.log_runs.proofs.laws.submissions_grow_by_records.Goals as goal

pub returns-clause-own : goal.returns-clause-own
returns-clause-own c = λ rs a i k n op at. grows_own rs a i k n op at

pub returns-clause-other : goal.returns-clause-other
returns-clause-other c = λ rs a i j k n op at d. grows_other rs a i j k n op at d

pub returns-clause-answer : goal.returns-clause-answer
returns-clause-answer c = λ rs a i j k n reply at. grows_answer rs a i j k n reply at

pub returns-clause-numbered : goal.returns-clause-numbered
returns-clause-numbered c = λ rs a i k n op before at count. numbered_submission rs a i k n op before at count

pub returns-clause-numbered_answer : goal.returns-clause-numbered_answer
returns-clause-numbered_answer c = λ rs a i k n reply before at. numbered_answer rs a i k n reply before at
