use Rattle.std.proofs.Common.{◌≡◌}
use Rattle.name_ops.specs.Walking.{passed}
use Rattle.name_ops.proofs.walk.pass_kept.Given as goal

abbrev pub invariant-loop : goal.invariant-loop
invariant-loop l = record { spot = l.spot; names = l.names } ≡ passed l.counter l.path l.now l.attrs (record { spot = l.fn.spot; names = l.fn.names })
