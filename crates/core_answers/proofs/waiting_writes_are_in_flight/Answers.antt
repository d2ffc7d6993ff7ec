use Rattle.core_answers.proofs.writes.WholeWrites.{writes-whole}
use Rattle.core_answers.proofs.waiting_writes_are_in_flight.Goals as goal

pub returns : goal.returns
returns c = writes-whole
