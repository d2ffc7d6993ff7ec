-- An object that isn't sound.
use Rattle.std.proofs.Common.{sym, arith}
use Rattle.std.proofs.lemmas.Grind.{common_steps}
use Rattle.trace_data.specs.Histories.{objects_after}
use Rattle.trace_rules.specs.Soundness.{sound_all, sound_updates}
use Rattle.trace_rules.proofs.Below.{all_below-fails}
use Rattle.trace_rules.proofs.servers.sound_updates.Goals as goal

pub returns-then-not-sound_all : goal.returns-then-not-sound_all
unfolding sound_updates
returns-then-not-sound_all c = sym (all_below-fails (λ n. sound_all (objects_after c.args.updates.now n)) c.loop-entry.entry c.args.count (omega arith) (grind (arith, common_steps)))
