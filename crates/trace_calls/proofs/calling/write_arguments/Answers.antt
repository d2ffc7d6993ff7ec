-- What was written is what spells.
use Rattle.trace_calls.proofs.Calls.{on-ok}
use Rattle.trace_calls.proofs.calling.write_arguments.Goals as goal

pub returns-in-File-clause-spelled : goal.returns-in-File-clause-spelled
returns-in-File-clause-spelled c = rw c.in-File.is (on-ok c.write_file_call.result _ _ _ _ c.write_file_call.ensures.ok c.write_file_call.ensures.spelled)

pub returns-in-Dir-clause-spelled : goal.returns-in-Dir-clause-spelled
returns-in-Dir-clause-spelled c = rw c.in-Dir.is (on-ok c.write_dir_call.result _ _ _ _ c.write_dir_call.ensures.ok c.write_dir_call.ensures.spelled)
