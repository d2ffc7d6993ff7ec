use Rattle.law_stable.proofs.Stays.{evidence_there}
use Rattle.law_stable.proofs.evidence_is_there.Goals as goal

pub returns : goal.returns
returns c = evidence_there
