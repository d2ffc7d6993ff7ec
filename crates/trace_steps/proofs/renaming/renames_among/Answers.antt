-- A place that passes.
use Rattle.std.proofs.Common.{length, sym, arith}
use Rattle.std.proofs.lemmas.Grind.{common_steps}
use Rattle.trace_rules.proofs.Below.{any_below-found}
use Rattle.trace_steps.specs.MoveTests.{renames_at, renames_among}
use Rattle.trace_steps.proofs.renaming.renames_among.Goals as goal

pub returns-then-branch : goal.returns-then-branch
unfolding renames_among
returns-then-branch c = sym (any_below-found (λ k. renames_at c.args.trace.now c.args.entry c.args.from_dir.now c.args.from.now c.args.to_dir.now c.args.to.now c.args.target.now c.args.source.now k) c.loop-place.place (length c.args.source.now) (grind (arith, common_steps)) (grind (arith, common_steps)))
