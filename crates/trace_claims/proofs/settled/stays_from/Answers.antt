-- One moment more, at which it is held or not.
use Rattle.std.proofs.Common.{arith, sym, refl, true≢false}
use Rattle.std.proofs.Common.{◌∙◌}
use Rattle.trace_claims.proofs.Lasting.{stays-none, stays-more, stays-fails, stays-past}
use Rattle.trace_claims.proofs.Outdating.{stays-outdated}
use Rattle.trace_claims.proofs.settled.stays_from.Goals as goal

pub loop-place-init : goal.loop-place-init
loop-place-init c = record { low = omega arith; held = stays-none c.args.trace.now c.args.digest.now c.args.total c.args.written.now c.args.file.now c.args.settled }

pub loop-place-preserved : goal.loop-place-preserved
loop-place-preserved c = record {
  low = omega (arith, c.loop-place.invariant.low);
  held = stays-more c.args.trace.now c.args.digest.now c.args.total c.args.written.now c.args.file.now c.args.settled c.loop-place.place c.loop-place.invariant.low c.loop-place.invariant.held (sym c.holds_next.ensures ∙ c.if-not-holds_next.false);
}

pub returns-then-not-holds_next : goal.returns-then-not-holds_next
returns-then-not-holds_next c = (
  λ t. absurd (true≢false (sym t)),
  λ stays. absurd (stays-fails c.args.trace.now c.args.digest.now c.args.total c.args.written.now c.args.file.now c.args.settled c.loop-place.place c.args.total c.loop-place.invariant.low c.loop-place-test.true (sym c.holds_next.ensures ∙ c.if-not-holds_next.true) stays),
)

pub returns-then-is_past : goal.returns-then-is_past
returns-then-is_past c = (
  λ t. stays-outdated c.args.trace.now c.args.digest.now c.args.total c.args.written.now c.args.file.now c.args.settled c.loop-place.place c.args.total c.loop-place.invariant.held (c.is_past.ensures c.if-is_past.true),
  λ stays. refl,
)

pub returns : goal.returns
returns c = (λ t. stays-past c.args.trace.now c.args.digest.now c.args.total c.args.written.now c.args.file.now c.args.settled c.loop-place.place c.args.total (omega (arith, c.loop-place-test.false)) c.loop-place.invariant.held, λ stays. refl)
