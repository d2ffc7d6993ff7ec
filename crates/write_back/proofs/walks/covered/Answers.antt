use Rattle.std.proofs.Common.{sym, arith}
use Rattle.write_back.proofs.Keys.{low-of, high-of}
use Rattle.write_back.proofs.Sizes.{found-size}
use Rattle.write_back.proofs.Changing.{found-range}
use Rattle.write_back.proofs.Covering.{parts-begin, parts-step, parts-end, last-fits}
use Rattle.write_back.proofs.walks.covered.Goals as goal

pub push_covered-requires-clause-some : goal.push_covered-requires-clause-some
push_covered-requires-clause-some c = last-fits _ c.last_before.result c.args.low c.args.map.now c.requires.apart c.last_before.ensures

pub loop-at-init : goal.loop-at-init
loop-at-init c = record {
  within = omega arith;
  told = parts-begin c.args.low c.args.high c.args.map.now _ c.new-parts.result.items _ c.requires.apart c.in_ok-push_covered.ensures c.new-parts.ensures.items c.last_before.ensures;
}

pub push_covered-requires-in-Some-clause-some : goal.push_covered-requires-in-Some-clause-some
push_covered-requires-in-Some-clause-some c = (found-size c.loop-at.next c.args.high 0 c.args.map.now (c.in-Some.at, c.in-Some.segment.now) c.requires.apart (sym c.in-Some.ensures)).0

pub overflow_add-next : goal.overflow_add-next
overflow_add-next c =
    let inside = found-range c.loop-at.next c.args.high c.args.map.now (c.in-Some.at, c.in-Some.segment.now) (sym c.in-Some.ensures) in
    omega (arith, high-of c.loop-at.next c.args.high c.in-Some.at inside, c.ranges.high.fits)

pub loop-at-smaller : goal.loop-at-smaller
loop-at-smaller c =
    let inside = found-range c.loop-at.next c.args.high c.args.map.now (c.in-Some.at, c.in-Some.segment.now) (sym c.in-Some.ensures) in
    omega (arith, low-of c.loop-at.next c.args.high c.in-Some.at inside, high-of c.loop-at.next c.args.high c.in-Some.at inside)

pub loop-at-preserved : goal.loop-at-preserved
loop-at-preserved c =
    let found = sym c.in-Some.ensures in
    let inside = found-range c.loop-at.next c.args.high c.args.map.now (c.in-Some.at, c.in-Some.segment.now) found in
    record {
      within = omega (arith, high-of c.loop-at.next c.args.high c.in-Some.at inside);
      told = parts-step c.args.low c.loop-at.next c.args.high c.args.map.now (c.in-Some.at, c.in-Some.segment.now) c.loop-at.parts.items _ _ c.requires.apart found c.in_ok-push_covered-2.ensures c.loop-at.invariant.told;
    }

pub returns : goal.returns
returns c = parts-end c.args.low c.loop-at.next c.args.high c.args.map.now c.loop-at.parts.items _ (sym c.in_default.ensures) c.loop-at.invariant.told
