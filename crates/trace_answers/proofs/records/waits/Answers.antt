-- The last record under the xid tells whether it waits.
use Rattle.std.proofs.Common.{refl, sym, true≢false, arith}
use Rattle.std.proofs.lemmas.Grind.{common_steps}
use Rattle.trace_answers.proofs.Sendings.{waits-found, waits-none, waits-not}
use Rattle.trace_answers.proofs.records.waits.Goals as goal

pub returns-then-sends_at : goal.returns-then-sends_at
returns-then-sends_at c = (
  λ t. waits-found c.args.entries.now c.args.xid c.loop-left.left c.args.place (grind (arith, common_steps)) c.loop-left.invariant.within c.loop-left.invariant.quiet (grind (arith, common_steps)),
  λ w. refl,
)

pub returns-then-delivers_at : goal.returns-then-delivers_at
returns-then-delivers_at c = (
  λ t. absurd (true≢false (sym t)),
  λ w. absurd (waits-not c.args.entries.now c.args.xid c.loop-left.left c.args.place (grind (arith, common_steps)) c.loop-left.invariant.within c.loop-left.invariant.quiet (grind (arith, common_steps)) w),
)

pub returns : goal.returns
returns c = (
  λ t. absurd (true≢false (sym t)),
  λ w. absurd (waits-none c.args.entries.now c.args.xid c.loop-left.left c.args.place (grind (arith, common_steps)) c.loop-left.invariant.quiet w),
)
