use Rattle.core_answers.proofs.writes.PiecesCarried.{pieces-carried}
use Rattle.core_answers.proofs.flying_bytes_are_carried.Goals as goal

pub returns : goal.returns
returns c = pieces-carried
