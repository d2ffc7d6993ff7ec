use Rattle.std.proofs.Common.{◌+◌, sym, ap, ◌∙◌, arith}
use Rattle.write_back.specs.Changes.{changed, count_changed}
use Rattle.write_back.proofs.Keys.{low-of, high-of}
use Rattle.write_back.proofs.Sums.{own-bound}
use Rattle.write_back.proofs.Changing.{apart-left, found-range, changed-step, changed-none, count-step, count-none}
use Rattle.write_back.proofs.segment_map.SegmentMap.change.Goals as goal

pub change_at-count-requires : goal.change_at-count-requires
change_at-count-requires c = omega (arith, own-bound 0 c.loop-at.self c.loop-at.invariant.apart (omega arith))

pub overflow_add-count : goal.overflow_add-count
overflow_add-count c =
    let inside = found-range c.loop-at.next c.args.high c.loop-at.self (c.in-Some.at, c.in-Some.segment.now) (sym c.in-Some.ensures) in
    omega (arith, low-of c.loop-at.next c.args.high c.in-Some.at inside, high-of c.loop-at.next c.args.high c.in-Some.at inside, c.ranges.high.fits, c.loop-at.invariant.small, c.change_at-count.ensures.small)

pub overflow_add-next : goal.overflow_add-next
overflow_add-next c =
    let inside = found-range c.loop-at.next c.args.high c.loop-at.self (c.in-Some.at, c.in-Some.segment.now) (sym c.in-Some.ensures) in
    omega (arith, high-of c.loop-at.next c.args.high c.in-Some.at inside, c.ranges.high.fits)

pub loop-at-smaller : goal.loop-at-smaller
loop-at-smaller c =
    let inside = found-range c.loop-at.next c.args.high c.loop-at.self (c.in-Some.at, c.in-Some.segment.now) (sym c.in-Some.ensures) in
    omega (arith, low-of c.loop-at.next c.args.high c.in-Some.at inside, high-of c.loop-at.next c.args.high c.in-Some.at inside)

pub loop-at-preserved : goal.loop-at-preserved
loop-at-preserved c =
    let found = sym c.in-Some.ensures in
    let inside = found-range c.loop-at.next c.args.high c.loop-at.self (c.in-Some.at, c.in-Some.segment.now) found in
    let low = low-of c.loop-at.next c.args.high c.in-Some.at inside in
    let high = high-of c.loop-at.next c.args.high c.in-Some.at inside in
    let after = rw (c.number-number.ensures, c.state-state.ensures) at c.change_at-count.ensures.after in
    let count = rw (c.number-number.ensures, c.state-state.ensures) at c.change_at-count.ensures.count in
    let step = count-step c.args.change c.loop-at.next c.args.high 0 c.loop-at.self (c.in-Some.at, c.in-Some.segment.now) c.loop-at.invariant.apart found in
    record {
      apart = rw (c.change_at-count.ensures.after) (apart-left c.in-Some.at _ c.loop-at.self c.loop-at.invariant.apart);
      from = omega (arith, low, c.loop-at.invariant.from);
      upto = omega (arith, high);
      after = ap (changed c.args.change (c.in-Some.at + 1) c.args.high) after
          ∙ sym (changed-step c.args.change c.loop-at.next c.args.high 0 c.loop-at.self (c.in-Some.at, c.in-Some.segment.now) c.loop-at.invariant.apart found) ∙ c.loop-at.invariant.after;
      count = omega (arith, count, step, ap (count_changed c.args.change (c.in-Some.at + 1) c.args.high) after, c.loop-at.invariant.count);
      small = omega (arith, low, c.loop-at.invariant.small, c.change_at-count.ensures.small);
    }

pub returns-clause-after : goal.returns-clause-after
returns-clause-after c = sym (changed-none c.args.change c.loop-at.next c.args.high c.loop-at.self (sym c.in_default.ensures)) ∙ c.loop-at.invariant.after

pub returns-clause-count : goal.returns-clause-count
returns-clause-count c = omega (arith, count-none c.args.change c.loop-at.next c.args.high c.loop-at.self (sym c.in_default.ensures), c.loop-at.invariant.count)
