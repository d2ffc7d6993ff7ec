use Rattle.std.proofs.Common.{arith}
use Rattle.script_runs.specs.Streams.{script_limit}
use Rattle.script_runs.proofs.StreamLaws.{taken_end, taken_limit, limit_is}
use Rattle.script_runs.proofs.input.read_script.Goals.{else-loop-room-test, then-loop-room-test+in-Ok+then-count-eq0}
use Rattle.script_runs.proofs.input.read_script.Goals as goal

pub returns-clause-text : goal.returns-clause-text
returns-clause-text g c =
    elim c.loop-room-test.branch [
      | else-loop-room-test w ↦ rw w.text-is (taken_limit script_limit _ _ c.loop-room.text.items (omega (arith, c.loop-room.invariant.long, w.loop-room-test.false, limit_is)) c.loop-room.invariant.taken)
      | then-loop-room-test+in-Ok+then-count-eq0 w ↦
          rw w.text-is (taken_end script_limit _ _ _ c.loop-room.text.items _ c.loop-room.room _ w.if-count-eq0.true (omega (arith, c.loop-room.invariant.long, limit_is)) c.loop-room.invariant.taken w.in-Ok.ensures.taken)
    ]
