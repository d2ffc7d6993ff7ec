-- One that fails.
use Rattle.std.proofs.Common.{sym, arith}
use Rattle.std.proofs.lemmas.Grind.{common_steps}
use Rattle.trace_data.specs.Histories.{objects_after}
use Rattle.trace_rules.specs.Restarting.{steady_all, steady_updates}
use Rattle.trace_rules.proofs.Below.{all_below-fails}
use Rattle.trace_rules.proofs.restarts.steady_updates.Goals as goal

pub returns-then-not-steady_all : goal.returns-then-not-steady_all
unfolding steady_updates
returns-then-not-steady_all c = sym (all_below-fails (λ j. steady_all c.args.start.now c.args.updates.now c.args.moment (objects_after c.args.updates.now j)) c.loop-entry.entry (c.args.moment) (omega arith) (grind (arith, common_steps)))
