use Rattle.law_stable.proofs.Stays.{evidence_stable}
use Rattle.law_stable.proofs.evidence_is_stable.Goals as goal

pub returns : goal.returns
returns c = evidence_stable
