use Rattle.std.proofs.Common.{◌≤◌, ◌+◌, ◌-◌, ◌^◌, min, length, sym, ap, ◌∙◌, arith}
use Rattle.write_back.specs.Segments.{shown}
use Rattle.write_back.specs.Walk.{starting, one_of}
use Rattle.write_back.proofs.Keys.{low-of, high-of}
use Rattle.write_back.proofs.Changing.{found-range}
use Rattle.write_back.proofs.Overlaying.{shown-none, shown-first, shown-step, starting-none}
use Rattle.write_back.proofs.walks.overlay.Goals as goal

pub loop-at-init : goal.loop-at-init
loop-at-init c =
    let fits : min (c.args.offset + length c.args.buf.now) (2 ^ 64 - 1) ≤ c.saturating_add-end.result = omega arith in
    record {
      within = omega arith;
      newest = ap (shown (starting c.args.offset c.saturating_add-end.result c.args.map.now) c.args.offset) (c.show_any.ensures ∙ ap (λ o. shown (one_of o) c.args.offset c.args.buf.now) c.last_before.ensures)
          ∙ sym (shown-first c.saturating_add-end.result 0 c.args.map.now c.args.offset c.args.buf.now c.requires fits);
    }

pub overflow_add-next : goal.overflow_add-next
overflow_add-next c =
    let inside = found-range c.loop-at.next c.saturating_add-end.result c.args.map.now (c.in-Some.at, c.in-Some.segment.now) (sym c.in-Some.ensures) in
    omega (arith, high-of c.loop-at.next c.saturating_add-end.result c.in-Some.at inside, c.saturating_add-end.ensures)

pub loop-at-smaller : goal.loop-at-smaller
loop-at-smaller c =
    let inside = found-range c.loop-at.next c.saturating_add-end.result c.args.map.now (c.in-Some.at, c.in-Some.segment.now) (sym c.in-Some.ensures) in
    omega (arith, low-of c.loop-at.next c.saturating_add-end.result c.in-Some.at inside, high-of c.loop-at.next c.saturating_add-end.result c.in-Some.at inside)

pub loop-at-preserved : goal.loop-at-preserved
loop-at-preserved c =
    let inside = found-range c.loop-at.next c.saturating_add-end.result c.args.map.now (c.in-Some.at, c.in-Some.segment.now) (sym c.in-Some.ensures) in
    record {
      within = omega (arith, high-of c.loop-at.next c.saturating_add-end.result c.in-Some.at inside);
      newest = ap (shown (starting (c.in-Some.at + 1) c.saturating_add-end.result c.args.map.now) c.args.offset) c.show.ensures
          ∙ shown-step c.loop-at.next c.saturating_add-end.result 0 c.args.map.now (c.in-Some.at, c.in-Some.segment.now) c.args.offset c.loop-at.buf c.requires (sym c.in-Some.ensures) ∙ c.loop-at.invariant.newest;
    }

pub returns : goal.returns
returns c =
    sym (ap (λ es. shown es c.args.offset c.loop-at.buf) (starting-none c.loop-at.next c.saturating_add-end.result c.args.map.now (sym c.in_default.ensures)) ∙ shown-none c.args.offset c.loop-at.buf) ∙ c.loop-at.invariant.newest
