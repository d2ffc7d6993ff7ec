-- How many READs a session makes of a file (RFC 1813, section 3.3.6).
use Rattle.std.specs.Prelude.{ℕ, List, length}
use Rattle.world_model.specs.declared.entry.Entry.{Entry}
use Rattle.claims.specs.CallCounts.{FewReads}
use Rattle.world_model.specs.Mounts.{Rooted}
use Rattle.world_model.specs.ReadSize.{ReadSized}
use Rattle.claims.specs.Terms.{Terms}
use Rattle.op_machines.specs.declared.begun.Mounted.{Mounted}
use Rattle.op_machines.specs.Begun.{machine_of}
use Rattle.client_core.specs.declared.setup.Setup.{Setup}
use Rattle.client_core.specs.View.{View}
use Rattle.core_facts.specs.Notes.{Notes}
use Rattle.core_session.specs.calls.Whole.{GoesFrom}

-- For each read of the file, so many as the pages that meet its range take; and one more for each short reply.
abbrev pub FewReadsMade : Type 0
FewReadsMade = (m : Mounted) (terms : Terms) (setup : Setup) (before h : List Entry) (v : View) → GoesFrom m terms setup before h v
    → Notes (machine_of m) setup h v → (f root : List ℕ) (rsize : ℕ) → Rooted terms.origin h (length h) root
    → ReadSized h (length h) root terms.rsize rsize → FewReads terms h f rsize
