use Rattle.std.proofs.Common.{refl}
use Rattle.world_link.specs.Readings.{read_of}
use Rattle.run_replay.proofs.BatchReplaying.{batches-say}
use Rattle.run_replay.proofs.Replaying.{starts, was_read}
use Rattle.run_replay.proofs.batches.replay_batches.Goals as goal

pub returns-clause-schedule : goal.returns-clause-schedule
returns-clause-schedule g c = was_read (read_of c.args.schedule.now) c.in_ok-world.world c.in_ok-world.tick c.run-status.result c.run-status.new.link c.in_ok-world.ensures.begins

pub returns-clause-headline : goal.returns-clause-headline
returns-clause-headline g c =
    batches-say (read_of c.args.schedule.now) c.in_ok-world.world c.run-status.new.link c.in_ok-world.tick _ _ _ _ _ _ c.run-status.result c.in_ok-world.ensures.begins c.run-status.ensures.honest
    c.in_ok-world.ensures.honest c.run-status.ensures.headline

pub returns-clause-start : goal.returns-clause-start
returns-clause-start g c =
    starts (read_of c.args.schedule.now) c.in_ok-world.world c.run-status.new.link c.in_ok-world.tick c.in_ok-world.ensures.begins (c.run-status.ensures.stays c.in_ok-world.world refl)
