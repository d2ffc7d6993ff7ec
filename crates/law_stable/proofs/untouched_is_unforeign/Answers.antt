use Rattle.law_stable.proofs.Stays.{untouched_unforeign}
use Rattle.law_stable.proofs.untouched_is_unforeign.Goals as goal

pub returns : goal.returns
returns c = untouched_unforeign
