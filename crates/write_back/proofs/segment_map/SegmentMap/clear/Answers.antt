use Rattle.std.proofs.Common.{sym, ap, ◌∙◌, arith, length}
use Rattle.write_back.specs.Walk.{without_between}
use Rattle.write_back.proofs.Ranges.{without-step, without-none, taken-shorter}
use Rattle.write_back.proofs.segment_map.SegmentMap.clear.Goals as goal

pub loop-at-smaller : goal.loop-at-smaller
loop-at-smaller c =
    let shorter = taken-shorter c.args.low c.args.high c.loop-at.self (c.in-Some.at, c.in-Some.field-0-1.now) (sym c.in-Some.ensures) in
    omega (arith, shorter, ap length c.take_out.ensures)

pub loop-at-preserved : goal.loop-at-preserved
loop-at-preserved c =
    ap (without_between c.args.low c.args.high) c.take_out.ensures ∙ without-step c.args.low c.args.high c.loop-at.self (c.in-Some.at, c.in-Some.field-0-1.now) (sym c.in-Some.ensures) ∙ c.loop-at.invariant

pub returns : goal.returns
returns c = sym (without-none c.args.low c.args.high c.loop-at.self (sym c.in_default.ensures)) ∙ c.loop-at.invariant
