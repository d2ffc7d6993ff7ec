use Rattle.std.proofs.Common.{◌≡◌}
use Rattle.write_back.specs.Choice.{may_go}
use Rattle.write_back.specs.Segments.{AreApart}
use Rattle.write_back.specs.Walk.{first_that}
use Rattle.write_back.proofs.walks.first_to_go.Given as goal

abbrev pub invariant-loop-at : goal.invariant-loop-at
invariant-loop-at l = record {
  apart : AreApart 0 l.at-iterator;
  found : first_that (may_go l.sent l.upto) 0 l.at-iterator ≡ first_that (may_go l.sent l.upto) l.from l.map;
}
