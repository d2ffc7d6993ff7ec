use Rattle.rpc_message.proofs.Creds.{appended, sys_opaque, sys_written}
use Rattle.rpc_message.proofs.cred.write_sys.Goals as goal

pub returns-clause-ok : goal.returns-clause-ok
returns-clause-ok c =
    rw (← c.bytes-machine.ensures.same, sys_opaque c.bytes-machine.result.now c.args.uid c.args.gid)
    (appended _ _ _ _ _ _ _ c.in_ok-u32.ensures.ok (c.in_ok-u32-2.ensures.ok) c.in_ok-write_sys_body.ensures.ok)

pub returns-clause-spelled : goal.returns-clause-spelled
returns-clause-spelled c = sys_written c.args.machine.now c.args.uid c.args.gid c.bytes-machine.ensures.rule.bound
