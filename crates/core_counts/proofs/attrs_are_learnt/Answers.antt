use Rattle.core_counts.proofs.coarse.FedAttrs.{attrs-learnt}
use Rattle.core_counts.proofs.attrs_are_learnt.Goals as goal

pub returns : goal.returns
returns c = attrs-learnt
