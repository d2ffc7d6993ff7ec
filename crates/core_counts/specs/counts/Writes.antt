-- How many WRITEs a session makes that cover one place of a file (RFC 1813, section 3.3.7).
use Rattle.std.specs.Prelude.{ℕ, List}
use Rattle.world_model.specs.declared.entry.Entry.{Entry}
use Rattle.claims.specs.CallCounts.{FewWrites}
use Rattle.claims.specs.Terms.{Terms}
use Rattle.op_machines.specs.declared.begun.Mounted.{Mounted}
use Rattle.op_machines.specs.Begun.{machine_of}
use Rattle.client_core.specs.declared.setup.Setup.{Setup}
use Rattle.client_core.specs.View.{View}
use Rattle.core_facts.specs.Notes.{Notes}
use Rattle.core_session.specs.calls.Whole.{GoesFrom}

-- For each operation that writes the place, one; and one for each poor reply to such a WRITE, and for each COMMIT of the file.
abbrev pub FewWritesMade : Type 0
FewWritesMade = (m : Mounted) (terms : Terms) (setup : Setup) (before h : List Entry) (v : View) → GoesFrom m terms setup before h v
    → Notes (machine_of m) setup h v → (f : List ℕ) (i : ℕ) → FewWrites terms h f i
