use Rattle.std.proofs.Common.{◌≤◌, length}
use Rattle.script_batches.specs.Batches.{work_left}
use Rattle.script_batches.specs.Taking.{IsUsed}
use Rattle.script_batches.proofs.Lining.{OpenSo}
use Rattle.script_batches.proofs.held.Held.next_line.Given as goal

abbrev pub invariant-taking : goal.invariant-taking
invariant-taking g l = record {
  open_line : OpenSo (g.S.Source.left l.fn.source) (g.S.Source.left l.source) l.fn.self l.self l.line.items;
  used : IsUsed l.fn.self l.self l.line.items;
  kept : length l.line.items ≤ 1048577;
  later : g.S.Source.faults l.fn.source ≤ g.S.Source.faults l.source;
}

abbrev pub decreases-taking : goal.decreases-taking
decreases-taking g l = work_left l.self
