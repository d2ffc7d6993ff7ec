-- An update that gave the stamp.
use Rattle.std.proofs.Common.{sym, Bool, true, false, refl, ◌≡◌, arith}
use Rattle.std.specs.Prelude.{◌||◌}
use Rattle.std.proofs.lemmas.Grind.{common_steps}
use Rattle.trace_data.specs.Histories.{objects_after}
use Rattle.trace_rules.specs.Decided.{any_below}
use Rattle.trace_rules.specs.Freshness.{gave_stamp, had_stamp}
use Rattle.trace_rules.proofs.Below.{any_below-found}
use Rattle.trace_rules.proofs.stamps.had_stamp.Goals as goal

later : (a b : Bool) → b ≡ true → true ≡ (a || b)
later true b e = refl
later false b e = sym e

pub returns-then-gave_stamp-2 : goal.returns-then-gave_stamp-2
unfolding had_stamp
returns-then-gave_stamp-2 c = later (gave_stamp c.args.start.now c.args.handle.now c.args.stamp.now) (any_below (λ j. gave_stamp (objects_after c.args.updates.now j) c.args.handle.now c.args.stamp.now) c.args.moment) (any_below-found (λ j. gave_stamp (objects_after c.args.updates.now j) c.args.handle.now c.args.stamp.now) c.loop-entry.entry c.args.moment (omega arith) (grind (arith, common_steps)))
