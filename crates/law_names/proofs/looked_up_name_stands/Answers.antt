use Rattle.law_names.proofs.KeptNames.{name_stands}
use Rattle.law_names.proofs.looked_up_name_stands.Goals as goal

pub returns : goal.returns
returns c = name_stands
