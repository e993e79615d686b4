use Rattle.description.proofs.Unique.{one_reading}
use Rattle.description.proofs.Total.{some_reading}
use Rattle.description.proofs.Example.{two_lines_encoded}
use Rattle.description.proofs.reading.read.Goals as goal

pub returns-clause-one : goal.returns-clause-one
returns-clause-one c = one_reading

pub returns-clause-some : goal.returns-clause-some
returns-clause-some c = some_reading

pub returns-clause-example : goal.returns-clause-example
returns-clause-example c = two_lines_encoded
