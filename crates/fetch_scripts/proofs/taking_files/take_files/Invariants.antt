use Rattle.std.proofs.Common.{◌≡◌, take}
use Rattle.fetch_scripts.specs.Fetches.{Gave, SpansTook}
use Rattle.fetch_scripts.proofs.taking_files.take_files.Given as goal

abbrev pub invariant-loop-span : goal.invariant-loop-span
invariant-loop-span g l = record {
  took : Gave (g.T.Target.took l.fn.target) (g.T.Target.took l.target) (SpansTook l.fn.answers.text.now (take l.span-index l.spans) l.fn.was_taken l.is_taken);
  from : l.blame.from ≡ l.fn.blame.from;
}
