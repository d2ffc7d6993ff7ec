use Rattle.std.proofs.Common.{sym, arith}
use Rattle.write_back.proofs.Keys.{low-of, high-of}
use Rattle.write_back.proofs.Changing.{found-range}
use Rattle.write_back.proofs.Going.{gone-none, gone-step}
use Rattle.write_back.proofs.walks.lessen_gone.Goals as goal

pub overflow_add-next : goal.overflow_add-next
overflow_add-next c =
    let inside = found-range c.loop-at.next c.args.high c.args.map.now (c.in-Some.at, c.in-Some.segment.now) (sym c.in-Some.ensures) in
    omega (arith, high-of c.loop-at.next c.args.high c.in-Some.at inside, c.ranges.high.fits)

pub loop-at-smaller : goal.loop-at-smaller
loop-at-smaller c =
    let inside = found-range c.loop-at.next c.args.high c.args.map.now (c.in-Some.at, c.in-Some.segment.now) (sym c.in-Some.ensures) in
    omega (arith, low-of c.loop-at.next c.args.high c.in-Some.at inside, high-of c.loop-at.next c.args.high c.in-Some.at inside)

pub loop-at-preserved : goal.loop-at-preserved
loop-at-preserved c =
    let found = sym c.in-Some.ensures in
    let inside = found-range c.loop-at.next c.args.high c.args.map.now (c.in-Some.at, c.in-Some.segment.now) found in
    record {
      within = omega (arith, high-of c.loop-at.next c.args.high c.in-Some.at inside);
      left = λ file n. omega (arith, c.lessen_one.ensures file n, gone-step c.args.change c.loop-at.next c.args.high 0 n c.args.map.now (c.in-Some.at, c.in-Some.segment.now) c.requires.apart found, c.loop-at.invariant.left file n);
    }

pub returns : goal.returns
returns c = λ file n. omega (arith, gone-none c.args.change c.loop-at.next c.args.high n c.args.map.now (sym c.in_default.ensures), c.loop-at.invariant.left file n)
