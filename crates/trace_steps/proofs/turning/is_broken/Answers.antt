-- A length that passes.
use Rattle.std.proofs.Common.{length, suc, sym, arith}
use Rattle.std.proofs.lemmas.Grind.{common_steps}
use Rattle.trace_rules.proofs.Below.{any_below-found}
use Rattle.trace_steps.specs.TurnTests.{is_begun, is_broken}
use Rattle.trace_steps.proofs.turning.is_broken.Goals as goal

pub returns-then-is_begun : goal.returns-then-is_begun
unfolding is_broken
returns-then-is_begun c = sym (any_below-found (λ k. is_begun c.args.offset c.args.bytes.now c.args.now.now c.args.stable.now c.args.later.now c.args.steady.now k) c.loop-count.count (suc (length c.args.bytes.now)) (omega arith) (grind (arith, common_steps)))
