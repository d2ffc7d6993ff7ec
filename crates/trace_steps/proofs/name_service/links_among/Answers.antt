-- A place that passes.
use Rattle.std.proofs.Common.{length, sym, arith}
use Rattle.std.proofs.lemmas.Grind.{common_steps}
use Rattle.trace_rules.proofs.Below.{any_below-found}
use Rattle.trace_steps.specs.NameTests.{links_at, links_among}
use Rattle.trace_steps.proofs.name_service.links_among.Goals as goal

pub returns-then-links_at : goal.returns-then-links_at
unfolding links_among
returns-then-links_at c = sym (any_below-found (λ k. links_at c.args.file.now c.args.name.now c.args.old.now c.args.new.now k) c.loop-place.place (length c.args.new.now) (omega arith) (grind (arith, common_steps)))
