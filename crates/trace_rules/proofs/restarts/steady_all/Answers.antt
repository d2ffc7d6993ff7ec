-- One that fails.
use Rattle.std.proofs.Common.{length, sym, arith}
use Rattle.std.proofs.lemmas.Grind.{common_steps}
use Rattle.trace_rules.specs.Restarting.{steady_at, steady_all}
use Rattle.trace_rules.proofs.Below.{all_below-fails}
use Rattle.trace_rules.proofs.restarts.steady_all.Goals as goal

pub returns-then-not-steady_at : goal.returns-then-not-steady_at
unfolding steady_all
returns-then-not-steady_at c = sym (all_below-fails (λ k. steady_at c.args.start.now c.args.updates.now c.args.moment c.args.objects.now k) c.loop-place.place (length c.args.objects.now) (omega arith) (grind (arith, common_steps)))
