use Rattle.std.proofs.Common.{◌≤◌, length}
use Rattle.script_batches.specs.Batches.{work_left}
use Rattle.script_batches.specs.Taking.{IsUsed}
use Rattle.script_batches.proofs.Batching.{TakenSo}
use Rattle.script_batches.proofs.input.Batches.take_lines.Given as goal

abbrev pub invariant-reading : goal.invariant-reading
invariant-reading g l = record {
  taken : TakenSo (g.S.Source.left l.fn.source) (g.S.Source.left l.source) l.fn.self l.self l.text.items;
  used : IsUsed l.fn.self.held l.self.held l.text.items;
  kept : length l.text.items ≤ 1048577;
  counted : l.self.lines ≤ 268435456;
  later : g.S.Source.faults l.fn.source ≤ g.S.Source.faults l.source;
}

abbrev pub decreases-reading : goal.decreases-reading
decreases-reading g l = work_left l.self.held
