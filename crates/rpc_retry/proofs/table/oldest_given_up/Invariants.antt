use Rattle.std.proofs.Common.{◌≡◌}
use Rattle.rpc_retry.specs.Waiting.{first_given_up}
use Rattle.rpc_retry.proofs.table.oldest_given_up.Given as goal

abbrev pub invariant-loop-xid : goal.invariant-loop-xid
invariant-loop-xid g l = first_given_up l.calls.entries ≡ first_given_up l.xid-iterator
