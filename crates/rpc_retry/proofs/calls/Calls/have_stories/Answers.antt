use Rattle.rpc_retry.proofs.Stories.{stories}
use Rattle.rpc_retry.proofs.calls.Calls.have_stories.Goals as goal

pub returns : goal.returns
returns g c ds r xid = stories ds c.args.self.now r xid
