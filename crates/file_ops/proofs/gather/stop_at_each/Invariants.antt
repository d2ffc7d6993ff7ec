use Rattle.std.proofs.Common.{◌≡◌}
use Rattle.file_ops.specs.Gather.{planned}
use Rattle.file_ops.proofs.gather.stop_at_each.Given as goal

abbrev pub invariant-loop-next : goal.invariant-loop-next
invariant-loop-next l = record { end = l.end; pages = l.pages } ≡ planned l.file l.first l.next (record { end = l.fn.end; pages = l.fn.pages })
