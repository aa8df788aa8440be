use Rattle.log_runs.proofs.Numbers.{number_below, unique_place, located}
use Rattle.log_runs.proofs.laws.numbers_name_submissions.Goals as goal

pub returns-clause-below : goal.returns-clause-below
returns-clause-below c = λ rs b i k n op numbered at. number_below rs b i k n op numbered at

pub returns-clause-unique : goal.returns-clause-unique
returns-clause-unique c = λ rs a b i k n m op w numbered at there. unique_place rs a b i k n m op w numbered at there

pub returns-clause-named : goal.returns-clause-named
returns-clause-named c = λ rs i k op numbered at. located rs numbered i k op at
