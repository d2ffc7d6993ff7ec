use Rattle.std.proofs.Common.{[]}
use Rattle.world_link.specs.Readings.{read_of}
use Rattle.run_replay.proofs.Replaying.{was_read, made_says}
use Rattle.run_replay.proofs.made.replay_made.Goals as goal

pub returns-clause-schedule : goal.returns-clause-schedule
returns-clause-schedule g c = was_read (read_of []) c.in_ok-world.world c.in_ok-world.field-0-1 c.run_made-status.result c.run_made-status.new.link c.in_ok-world.ensures.begins

pub returns-clause-headline : goal.returns-clause-headline
returns-clause-headline g c =
    made_says (read_of []) c.in_ok-world.world c.run_made-status.new.link c.in_ok-world.field-0-1 _ _ _ _ _ c.args.n c.run_made-status.result c.in_ok-world.ensures.begins c.run_made-status.ensures.honest
    c.in_ok-world.ensures.honest c.run_made-status.ensures.headline
