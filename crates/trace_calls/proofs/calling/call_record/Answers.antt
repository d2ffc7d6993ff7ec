-- A head and arguments.
use Rattle.std.proofs.Common.{arith, rules}
use Rattle.std.proofs.lemmas.Grind.{common_steps}
use Rattle.trace_calls.proofs.Calls.{call-spelled}
use Rattle.trace_calls.proofs.calling.call_record.Goals as goal

pub returns-clause-exact : goal.returns-clause-exact
returns-clause-exact c = grind (arith, common_steps)

pub returns-clause-spelled : goal.returns-clause-spelled
returns-clause-spelled c =
    call-spelled c.args.xid c.args.call.now c.finish.result _ (grind (arith, common_steps)) (grind (arith, common_steps)) c.in_ok-write_call.ensures.spelled
    c.in_ok-write_arguments.ensures.spelled
