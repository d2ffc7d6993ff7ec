-- One that fails.
use Rattle.std.proofs.Common.{sym, arith}
use Rattle.std.specs.Prelude.{not}
use Rattle.std.proofs.lemmas.Grind.{common_steps}
use Rattle.trace_data.specs.Histories.{verf_at}
use Rattle.trace_rules.specs.Restarting.{same_verf, new_verf}
use Rattle.trace_rules.proofs.Below.{all_below-fails}
use Rattle.trace_rules.proofs.restarts.new_verf.Goals as goal

pub returns-then-same_verf : goal.returns-then-same_verf
unfolding new_verf
returns-then-same_verf c = sym (all_below-fails (λ m. not (same_verf (verf_at c.args.first c.args.updates.now m) c.args.verf)) c.loop-moment.moment (c.args.count) (omega arith) (grind (arith, common_steps)))
