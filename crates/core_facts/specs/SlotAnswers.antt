-- What the answer of an operation on a slot shows: the open that its slot holds as it begins. An open goes by attributes that are kept, or asks,
-- as the session may.
use Rattle.std.specs.Prelude.{◌≡◌, ℕ, List}
use Rattle.world_model.specs.declared.answer.Answer.{Answer}
use Rattle.world_model.specs.declared.answer.Answer.TheVariants.{Done, Refused}
use Rattle.world_model.specs.declared.answer.Fault.TheVariants as faults
use Rattle.world_model.specs.declared.answer.Value.{Value}
use Rattle.world_model.specs.declared.entry.Entry.{Entry}
use Rattle.world_model.specs.declared.op.Op.{Op}
use Rattle.world_model.specs.declared.op.Op.TheVariants.{Read, Write, Fill, Sync, Close, Truncate}
use Rattle.claims.specs.Caused.{IsTried}
use Rattle.claims.specs.OkRows.{SyncOk, CloseOk}
use Rattle.world_model.specs.Operations.{Ended}
use Rattle.claims.specs.Rights.{HoldsToRead, HoldsToWrite, NoPlace, NoRight}
use Rattle.claims.specs.Terms.{Terms}
use Rattle.op_machines.specs.declared.begun.Mounted.{Mounted}
use Rattle.op_machines.specs.Begun.{machine_of}
use Rattle.client_core.specs.declared.setup.Setup.{Setup}
use Rattle.client_core.specs.View.{View}
use Rattle.core_facts.specs.Reaches.{Reaches}

-- the view goes with the history of a session with these terms
pub record GoesWith (m : Mounted) (terms : Terms) (setup : Setup) (h : List Entry) (v : View) : Type 0 where
  pub nocto : m.nocto ≡ terms.modes.nocto
  pub reaches : Reaches (machine_of m) setup h v

-- A sync is answered ok only if COMMIT of the file that its slot holds was answered 0 since it began.
abbrev pub SyncsOk : Type 0
SyncsOk = (m : Mounted) (terms : Terms) (setup : Setup) (h : List Entry) (v : View) → GoesWith m terms setup h v
    → (lane x slot y : ℕ) (value : Value) → Ended h lane x (Sync slot) y (Done value) → SyncOk terms h x y (Sync slot)

-- The other operations on a slot are answered ok only if it holds an open, which is for reading or for writing as they are.
pub record HoldOpens (terms : Terms) (h : List Entry) (lane x slot y : ℕ) (value : Value) : Type 0 where
  pub close : Ended h lane x (Close slot) y (Done value) → CloseOk terms h lane x slot
  pub read : (offset count : ℕ) → Ended h lane x (Read slot offset count) y (Done value) → HoldsToRead terms h lane x slot
  pub write : (offset : ℕ) (bytes : List ℕ) → Ended h lane x (Write slot offset bytes) y (Done value) → HoldsToWrite terms h lane x slot
  pub fill : (offset count byte : ℕ) → Ended h lane x (Fill slot offset count byte) y (Done value) → HoldsToWrite terms h lane x slot
  pub truncate : (size : ℕ) → Ended h lane x (Truncate slot size) y (Done value) → HoldsToWrite terms h lane x slot

abbrev pub SlotsHoldOpens : Type 0
SlotsHoldOpens = (m : Mounted) (terms : Terms) (setup : Setup) (h : List Entry) (v : View) → GoesWith m terms setup h v
    → (lane x slot y : ℕ) (value : Value) → HoldOpens terms h lane x slot y value

-- An operation that finds a slot taken that it is to open, or none in its slot, or no right, is refused so: unless the session is lost or memory
-- runs out, which come before all else.
pub record FindsPlace (terms : Terms) (h : List Entry) (lane x : ℕ) (op : Op) (answer : Answer) : Type 0 where
  pub slot : NoPlace terms h lane x op → answer ≡ Refused faults.Slot
  pub mode : NoRight terms h lane x op → answer ≡ Refused faults.Mode

abbrev pub PlacesExact : Type 0
PlacesExact = (m : Mounted) (terms : Terms) (setup : Setup) (h : List Entry) (v : View) → GoesWith m terms setup h v
    → (lane x y : ℕ) (op : Op) (answer : Answer) → Ended h lane x op y answer → IsTried answer → FindsPlace terms h lane x op answer

-- An operation is refused for its slot only if it finds an open there that it is to open, or none to work on. It is refused for its right only
-- if the open that its slot holds isn't for it.
pub record PlaceRows (terms : Terms) (h : List Entry) (lane x y : ℕ) (op : Op) : Type 0 where
  pub slot : Ended h lane x op y (Refused faults.Slot) → NoPlace terms h lane x op
  pub mode : Ended h lane x op y (Refused faults.Mode) → NoRight terms h lane x op

abbrev pub PlacesCaused : Type 0
PlacesCaused = (m : Mounted) (terms : Terms) (setup : Setup) (h : List Entry) (v : View) → GoesWith m terms setup h v
    → (lane x y : ℕ) (op : Op) → PlaceRows terms h lane x y op
