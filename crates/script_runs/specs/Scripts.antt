-- A script of a session that has several: once its lines were run, and the step to the next one.
use Rattle.std.specs.Prelude.{List}
use Rattle.world_model.specs.declared.entry.Entry.{Entry}
use Rattle.nfs_script.specs.declared.script.ScriptLine.{ScriptLine}
use Rattle.lane_session.specs.declared.running.Session.{Session}
use Rattle.lane_session.specs.Bonds.{CoreGoes}
use Rattle.lane_session.specs.Going.{GoesNext}
use Rattle.lane_session.specs.Holding.{AreQuiet, IsHeld}
use Rattle.lane_session.specs.Places.{AreIdle}

-- each line of a script has its answer
pub record IsOver (script : List ScriptLine) (s : Session) : Type 0 where
  pub idle : AreIdle s.lanes
  pub quiet : AreQuiet script s
  pub held : IsHeld script s

-- The session goes on to the lines of the next script.
pub record StandsBefore (script next : List ScriptLine) (old new : Session) : Type 0 where
  pub goes : GoesNext script next old new
  pub core : (h : List Entry) → CoreGoes old new h h
