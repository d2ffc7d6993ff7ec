-- An entry that decides it.
use Rattle.std.proofs.Common.{length, sym, arith}
use Rattle.std.proofs.lemmas.Grind.{common_steps}
use Rattle.trace_rules.specs.Decided.{in_time, once}
use Rattle.trace_rules.proofs.Below.{all_below-fails}
use Rattle.trace_rules.proofs.late.once.Goals as goal

pub returns-then-not-in_time : goal.returns-then-not-in_time
unfolding once
returns-then-not-in_time c = sym (all_below-fails (λ n. in_time c.args.history.now n) c.loop-entry.entry (length c.args.history.now) (omega arith) (grind (arith, common_steps)))
