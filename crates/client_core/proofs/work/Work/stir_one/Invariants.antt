use Rattle.std.proofs.Common.{◌≡◌, ◌<◌, ℕ}
use Rattle.client_core.specs.Steps.{Rests}
use Rattle.client_core.proofs.work.Work.stir_one.Given as goal

abbrev pub invariant-loop-at : goal.invariant-loop-at
invariant-loop-at l = (l.self ≡ l.fn.self) × ((k : ℕ) → k < l.at → Rests l.fn.self k)
