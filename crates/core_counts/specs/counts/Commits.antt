-- How many COMMITs a session makes of a file (RFC 1813, section 3.3.21).
use Rattle.std.specs.Prelude.{ℕ, List}
use Rattle.world_model.specs.declared.entry.Entry.{Entry}
use Rattle.claims.specs.CallCounts.{FewCommits}
use Rattle.claims.specs.Terms.{Terms}
use Rattle.op_machines.specs.declared.begun.Mounted.{Mounted}
use Rattle.op_machines.specs.Begun.{machine_of}
use Rattle.client_core.specs.declared.setup.Setup.{Setup}
use Rattle.client_core.specs.View.{View}
use Rattle.core_facts.specs.Notes.{Notes}
use Rattle.core_session.specs.calls.Whole.{GoesFrom}

-- Two for each sync, close and put of the file; and if writes may have waited for room, 32 for each write, fill and put.
abbrev pub FewCommitsMade : Type 0
FewCommitsMade = (m : Mounted) (terms : Terms) (setup : Setup) (before h : List Entry) (v : View) → GoesFrom m terms setup before h v
    → Notes (machine_of m) setup h v → (f : List ℕ) → FewCommits terms h f
