use Rattle.rpc_retry.proofs.Apart.{all_apart}
use Rattle.rpc_retry.proofs.calls.Calls.are_sent_apart.Goals as goal

pub returns : goal.returns
returns g c ds r xid = all_apart ds c.args.self.now r xid
