use Rattle.rpc_message.proofs.Creds.{on_ok, cred_none}
use Rattle.rpc_message.proofs.cred.write_cred.Goals as goal

pub returns-in-None-clause-spelled : goal.returns-in-None-clause-spelled
returns-in-None-clause-spelled c = on_ok c.write_none.result (cred_none c.args.cred.now c.in-None.is)
