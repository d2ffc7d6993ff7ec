use Rattle.law_stable.proofs.Deciding.{stable_decided}
use Rattle.law_stable.proofs.stable_is_decided.Goals as goal

pub returns : goal.returns
returns c = stable_decided
