use Rattle.law_names.proofs.TrueNames.{true_name}
use Rattle.law_names.proofs.kept_name_is_true.Goals as goal

pub returns : goal.returns
returns c = true_name
