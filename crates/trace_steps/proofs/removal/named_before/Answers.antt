-- An update that names it.
use Rattle.std.proofs.Common.{sym, arith}
use Rattle.std.proofs.lemmas.Grind.{common_steps}
use Rattle.trace_rules.proofs.Below.{any_below-found}
use Rattle.trace_data.specs.Histories.{objects_after}
use Rattle.trace_steps.specs.MoveTests.{names_among}
use Rattle.trace_steps.proofs.removal.named_before.Goals as goal

pub returns-then-names_among : goal.returns-then-names_among
returns-then-names_among c = sym (any_below-found (λ k. names_among c.args.trace.now c.args.entry c.args.handle.now (objects_after c.args.trace.now.updates.items k)) c.loop-at.at (c.args.entry) (omega arith) (grind (arith, common_steps)))
