use Rattle.law_names.proofs.KeptNames.{same_list}
use Rattle.law_names.proofs.list_under_stamp.Goals as goal

pub returns : goal.returns
returns c = same_list
