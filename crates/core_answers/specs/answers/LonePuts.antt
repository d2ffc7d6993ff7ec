-- What a put shows that a record refused, if no other operation began before its answer.
use Rattle.std.specs.Prelude.{◌≢◌, ℕ, List}
use Rattle.world_model.specs.declared.answer.Answer.TheVariants.{Refused}
use Rattle.world_model.specs.declared.answer.Fault.{Fault}
use Rattle.world_model.specs.declared.answer.Fault.TheVariants as faults
use Rattle.world_model.specs.declared.entry.Entry.{Entry}
use Rattle.world_model.specs.declared.op.Op.TheVariants.{Put}
use Rattle.world_model.specs.Operations.{Ended}
use Rattle.claims.specs.RefusalRows.{RefusalRow}
use Rattle.claims.specs.Terms.{Terms, jukebox}
use Rattle.op_machines.specs.declared.begun.Mounted.{Mounted}
use Rattle.op_machines.specs.Begun.{IsNamed, machine_of}
use Rattle.client_core.specs.declared.setup.Setup.{Setup}
use Rattle.client_core.specs.View.{View}
use Rattle.core_answers.specs.asks.PutCalls.{IsAlone}
use Rattle.core_facts.specs.Naming.{KnowsRoot}
use Rattle.core_facts.specs.Reaches.{Reaches}

-- The whole row of such a put, whatever it is refused for, but for NFS3ERR_JUKEBOX, 10008 (from which it may go on; how often it did isn't said): a record
-- refused so a call that it asks for, by a status, by RPC (RFC 5531, section 9) or by breaking a rule; what it found is no file; or the session is lost.
abbrev pub LoneRefusals : Type 0
LoneRefusals = (m : Mounted) (setup : Setup) (h : List Entry) (v : View) → Reaches (machine_of m) setup h v → (terms : Terms) → KnowsRoot terms.origin h m.root
    → (lane x : ℕ) (path : List (List ℕ)) (offset : ℕ) (bytes : List ℕ) (y : ℕ) (fault : Fault) → IsNamed path → IsAlone h x y
    → Ended h lane x (Put path offset bytes) y (Refused fault) → fault ≢ faults.Nfs jukebox → RefusalRow terms h lane x y (Put path offset bytes) fault
