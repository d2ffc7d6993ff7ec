use Rattle.rpc_message.proofs.Written.{call_written}
use Rattle.rpc_message.proofs.call.write_call_by.Goals as goal

pub returns-clause-spelled : goal.returns-clause-spelled
returns-clause-spelled c =
    call_written c.args.head.now c.args.cred.now c.in_ok-write_opening.ensures.spelled c.in_ok-write_program.ensures.spelled c.in_ok-append.ensures.spelled
