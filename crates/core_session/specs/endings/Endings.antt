-- How all operations end.
use Rattle.std.specs.Prelude.{ℕ, List}
use Rattle.world_model.specs.declared.answer.Answer.TheVariants.{Refused}
use Rattle.world_model.specs.declared.answer.Fault.{Fault}
use Rattle.world_model.specs.declared.entry.Entry.{Entry}
use Rattle.world_model.specs.declared.op.Op.{Op}
use Rattle.claims.specs.Complete.{Completes}
use Rattle.world_model.specs.History.{History}
use Rattle.world_model.specs.Operations.{Ended}
use Rattle.claims.specs.RefusalRows.{RefusalRow}
use Rattle.claims.specs.Terms.{Terms}
use Rattle.op_machines.specs.declared.begun.Mounted.{Mounted}
use Rattle.op_machines.specs.Begun.{machine_of}
use Rattle.client_core.specs.declared.setup.Setup.{Setup}
use Rattle.client_core.specs.View.{View}
use Rattle.core_session.specs.calls.Whole.{GoesFrom}
use Rattle.core_facts.specs.Notes.{Notes}

-- Each operation of a session that is refused has its row, whichever it is and whatever it is refused for; if no record is sent or received while an answer
-- is ready that wasn't noted.
abbrev pub RefusalsAllRowed : Type 0
RefusalsAllRowed = (m : Mounted) (terms : Terms) (setup : Setup) (before h : List Entry) (v : View) → GoesFrom m terms setup before h v
    → Notes (machine_of m) setup h v → (lane x y : ℕ) (op : Op) (fault : Fault) → Ended h lane x op y (Refused fault) → RefusalRow terms h lane x y op fault

-- A session that nothing disturbs completes (`Completes` of `claims`): the server is honest, the link isn't lost, and each call is executed with status 0,
-- or with one from which its operation goes on.
abbrev pub SessionsComplete : Type 0
SessionsComplete = (m : Mounted) (terms : Terms) (setup : Setup) (before : List Entry) (t : History) (v : View) → GoesFrom m terms setup before t.entries v
    → Notes (machine_of m) setup t.entries v → Completes terms t
