-- A place that passes.
use Rattle.std.proofs.Common.{length, sym, arith}
use Rattle.std.proofs.lemmas.Grind.{common_steps}
use Rattle.trace_rules.proofs.Below.{any_below-found}
use Rattle.trace_steps.specs.NameTests.{makes_at, makes_among}
use Rattle.trace_steps.proofs.name_service.makes_among.Goals as goal

pub returns-then-makes_at : goal.returns-then-makes_at
unfolding makes_among
returns-then-makes_at c = sym (any_below-found (λ k. makes_at c.args.trace.now c.args.entry c.args.call.now c.args.dir.now c.args.name.now c.args.old.now c.args.new.now k) c.loop-place.place (length c.args.new.now) (omega arith) (grind (arith, common_steps)))
