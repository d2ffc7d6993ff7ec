use Rattle.std.proofs.Common.{◌≡◌}
use Rattle.write_back.specs.Cursor.{waits_upto}
use Rattle.write_back.specs.Walk.{first_that}
use Rattle.write_back.proofs.walks.first_waiting.Given as goal

abbrev pub invariant-loop-at : goal.invariant-loop-at
invariant-loop-at l = first_that (λ e. waits_upto l.upto e.1) 0 l.at-iterator ≡ first_that (λ e. waits_upto l.upto e.1) l.from l.map
