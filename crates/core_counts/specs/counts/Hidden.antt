-- How many LOOKUPs of hidden names a session asks for.
use Rattle.std.specs.Prelude.{List}
use Rattle.world_model.specs.declared.entry.Entry.{Entry}
use Rattle.claims.specs.CallCounts.{FewHidden}
use Rattle.world_model.specs.Follows.{Follows}
use Rattle.claims.specs.Terms.{Terms}
use Rattle.op_machines.specs.declared.begun.Mounted.{Mounted}
use Rattle.op_machines.specs.Begun.{machine_of}
use Rattle.client_core.specs.declared.setup.Setup.{Setup}
use Rattle.client_core.specs.View.{View}
use Rattle.core_facts.specs.Notes.{Notes}
use Rattle.core_session.specs.calls.Whole.{GoesFrom}

-- Of a session that was set up and follows a script. No record is sent or received in it while an answer is ready that wasn't noted.
abbrev pub FewHiddenMade : Type 0
FewHiddenMade = (m : Mounted) (terms : Terms) (setup : Setup) (before h : List Entry) (v : View) → GoesFrom m terms setup before h v
    → Notes (machine_of m) setup h v → (script : List Entry) → Follows script h → FewHidden script h
