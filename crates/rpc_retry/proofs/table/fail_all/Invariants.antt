use Rattle.std.proofs.Common.{◌≡◌, ◌++◌, take, drop}
use Rattle.rpc_retry.specs.Waiting.{failed}
use Rattle.rpc_retry.proofs.table.fail_all.Given as goal

abbrev pub invariant-loop-at : goal.invariant-loop-at
invariant-loop-at g l = l.calls.entries ≡ failed l.again (take l.at l.fn.calls.entries) ++ drop l.at l.fn.calls.entries
