use Rattle.std.proofs.Common.{◌≡◌}
use Rattle.fetch_scripts.proofs.name_reads.NameReads.read.Given as goal

abbrev pub invariant-loop : goal.invariant-loop
invariant-loop l = l.blame.from ≡ l.fn.blame.from
