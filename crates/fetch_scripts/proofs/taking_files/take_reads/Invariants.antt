use Rattle.std.proofs.Common.{◌≡◌, true}
use Rattle.fetch_scripts.specs.Fetches.{Gave, ReadsTook}
use Rattle.fetch_scripts.proofs.taking_files.take_reads.Given as goal

abbrev pub invariant-loop-at : goal.invariant-loop-at
invariant-loop-at g l = record {
  took : Gave (g.T.Target.took l.fn.target) (g.T.Target.took l.target) (ReadsTook l.fn.answers.text.now l.fn.span l.at true);
  from : l.blame.from ≡ l.fn.blame.from;
}
