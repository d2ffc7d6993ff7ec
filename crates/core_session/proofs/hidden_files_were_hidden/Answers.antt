use Rattle.core_session.proofs.hidden.Whole.{files-hidden}
use Rattle.core_session.proofs.hidden_files_were_hidden.Goals as goal

pub returns : goal.returns
returns c = files-hidden
