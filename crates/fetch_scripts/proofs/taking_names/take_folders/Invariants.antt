use Rattle.std.proofs.Common.{◌≡◌}
use Rattle.fetch_scripts.specs.Fetches.{AreOthers, Gave}
use Rattle.fetch_scripts.proofs.taking_names.take_folders.Given as goal

abbrev pub invariant-loop-path : goal.invariant-loop-path
invariant-loop-path g l = record {
  took : Gave (g.T.Target.took l.fn.target) (g.T.Target.took l.target) AreOthers;
  from : l.blame.from ≡ l.fn.blame.from;
}
