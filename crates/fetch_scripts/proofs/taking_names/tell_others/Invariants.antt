use Rattle.std.proofs.Common.{◌≡◌}
use Rattle.fetch_scripts.proofs.taking_names.tell_others.Given as goal

abbrev pub invariant-loop-name : goal.invariant-loop-name
invariant-loop-name g l = l.blame.from ≡ l.fn.blame.from
