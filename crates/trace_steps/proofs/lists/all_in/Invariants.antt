-- Each entry so far stands in the other list.
use Rattle.std.proofs.Common.{◌≡◌, drop}
use Rattle.trace_steps.specs.ListTests.{all_in}
use Rattle.trace_steps.proofs.lists.all_in.Given as goal

abbrev pub invariant-loop-entry : goal.invariant-loop-entry
invariant-loop-entry l = all_in l.entries l.others ≡ all_in (drop l.entry-index l.entries) l.others
