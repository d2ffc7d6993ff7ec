-- What any operation shows that is refused.
use Rattle.std.specs.Prelude.{◌≢◌, ℕ, List}
use Rattle.world_model.specs.declared.answer.Answer.TheVariants.{Refused}
use Rattle.world_model.specs.declared.answer.Fault.{Fault}
use Rattle.world_model.specs.declared.answer.Fault.TheVariants as faults
use Rattle.world_model.specs.declared.entry.Entry.{Entry}
use Rattle.world_model.specs.declared.op.Op.{Op}
use Rattle.world_model.specs.declared.op.Op.TheVariants as ops
use Rattle.world_model.specs.Operations.{Ended}
use Rattle.claims.specs.RefusalRows.{RefusalRow}
use Rattle.claims.specs.Terms.{Terms, jukebox}
use Rattle.op_machines.specs.declared.begun.Mounted.{Mounted}
use Rattle.op_machines.specs.Begun.{IsAsked}
use Rattle.client_core.specs.declared.setup.Setup.{Setup}
use Rattle.client_core.specs.View.{View}
use Rattle.core_answers.specs.refusals.Rowed.{GoesSo}

-- ---- kinds and names

-- an open or a put, which wants a file
abbrev pub WantsFile : Op → Type 0
WantsFile (ops.OpenFile slot mode path) = Unit {0}
WantsFile (ops.Put path offset bytes) = Unit {0}
WantsFile op = ⊥

abbrev pub IsList : Op → Type 0
IsList (ops.List path) = Unit {0}
IsList op = ⊥

-- An operation is refused for the kind of a file only if it wants one, and for too many names only if it lists them.
abbrev pub IsItsOwn : Op → Fault → Type 0
IsItsOwn op faults.Kind = WantsFile op
IsItsOwn op faults.Many = IsList op
IsItsOwn op fault = Unit {0}

abbrev pub FaultsTheirOwn : Type 0
FaultsTheirOwn = (m : Mounted) (terms : Terms) (setup : Setup) (h : List Entry) (v : View) → GoesSo m terms setup h v
    → (lane x y : ℕ) (op : Op) (fault : Fault) → Ended h lane x op y (Refused fault) → IsItsOwn op fault

-- ---- whole rows

-- an operation that makes no room for bytes: none that writes
abbrev pub MakesNoRoom : Op → Type 0
MakesNoRoom (ops.Write slot offset bytes) = ⊥
MakesNoRoom (ops.Fill slot offset count byte) = ⊥
MakesNoRoom (ops.Put path offset bytes) = ⊥
MakesNoRoom op = Unit {0}

-- All refusals but these: of one that makes room, for what a record refused; and by NFS3ERR_JUKEBOX (RFC 1813, section 2.6).
abbrev pub IsRowed : Op → Fault → Type 0
IsRowed op (faults.Nfs n) = MakesNoRoom op × (n ≢ jukebox)
IsRowed op (faults.Rpc n) = MakesNoRoom op
IsRowed op (faults.Bad n) = MakesNoRoom op
IsRowed op fault = Unit {0}

-- Each operation of a script that is refused so has its row.
abbrev pub RefusalRowsShown : Type 0
RefusalRowsShown = (m : Mounted) (terms : Terms) (setup : Setup) (h : List Entry) (v : View) → GoesSo m terms setup h v
    → (lane x y : ℕ) (op : Op) (fault : Fault) → IsAsked op → IsRowed op fault → Ended h lane x op y (Refused fault)
    → RefusalRow terms h lane x y op fault
