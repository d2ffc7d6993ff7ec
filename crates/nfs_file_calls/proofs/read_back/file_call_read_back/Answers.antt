use Rattle.nfs_file_calls.proofs.CallLaws.{call_again}
use Rattle.nfs_file_calls.proofs.read_back.file_call_read_back.Goals as goal

pub returns-clause-again : goal.returns-clause-again
returns-clause-again c = call_again _ _ c.spells_call.ensures
