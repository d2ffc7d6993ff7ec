use Rattle.std.proofs.Common.{◌≡◌}
use Rattle.write_back.specs.States.{is_ready}
use Rattle.write_back.specs.Walk.{first_that}
use Rattle.write_back.proofs.walks.first_ready.Given as goal

abbrev pub invariant-loop-at : goal.invariant-loop-at
invariant-loop-at l = first_that (λ e. is_ready e.1.state) 0 l.at-iterator ≡ first_that (λ e. is_ready e.1.state) l.from l.map
