-- The bytes of a put that succeeded by itself stay on the server (RFC 1813, sections 3.3.7, 3.3.21 and 4.8).
use Rattle.std.specs.Prelude.{◌≡◌, ◌≢◌, ◌<◌, ◌≤◌, ◌⊎◌, ℕ, List, length, Some}
use Rattle.nfs_file_calls.specs.declared.call.FileCall.TheVariants as files
use Rattle.world_model.specs.declared.answer.Answer.TheVariants.{Done}
use Rattle.world_model.specs.declared.answer.Value.{Value}
use Rattle.world_model.specs.declared.entry.Entry.{Entry}
use Rattle.world_model.specs.declared.entry.Entry.TheVariants.{Began, Sent}
use Rattle.world_model.specs.declared.message.Call.TheVariants as calls
use Rattle.world_model.specs.declared.op.Op.{Op}
use Rattle.world_model.specs.declared.op.Op.TheVariants as ops
use Rattle.claims.specs.CallsAsked.{NoneBegan}
use Rattle.world_model.specs.Entries.{At}
use Rattle.world_model.specs.History.{History}
use Rattle.world_model.specs.Lawful.{Lawful}
use Rattle.world_model.specs.Leads.{Leads}
use Rattle.world_model.specs.Messages.{SpellsCall}
use Rattle.claims.specs.Modes.{Modes}
use Rattle.world_model.specs.Mounts.{Origin}
use Rattle.world_model.specs.Once.{Once}
use Rattle.world_model.specs.Operations.{Ended}
use Rattle.claims.specs.Settled.{HoldsStable}
use Rattle.claims.specs.Terms.{Terms}
use Rattle.claims.specs.Touched.{Covers, Cuts}
use Rattle.law_stable.specs.OwnCalls.{NoForeign}
use Rattle.op_machines.specs.declared.begun.Mounted.{Mounted}
use Rattle.op_machines.specs.Begun.{IsNamed}
use Rattle.client_core.specs.declared.setup.Setup.{Setup}
use Rattle.client_core.specs.View.{View}
use Rattle.core_facts.specs.Naming.{KnowsRoot}
use Rattle.core_facts.specs.SlotAnswers.{GoesWith}
use Rattle.core_session.specs.saves.PutsWritten.{IsAlone}
use Rattle.core_answers.specs.writes.Written.{byte_by, IsAtFile}
use Rattle.core_session.specs.settled.Settling.{OnlySetsUp}

-- ---- whose bytes WRITEs carry

-- An operation that began before the place s gave this byte to the place i of the file. (Of a put it isn't said which file its path leads to.)
pub record IsGiven (m : Modes) (h : List Entry) (s : ℕ) (f : List ℕ) (i b : ℕ) : Type 0 where
  pub lane : ℕ
  pub line : ℕ
  pub x : ℕ
  pub op : Op
  pub began : At h x (Began lane line op)
  pub before : x < s
  pub gives : byte_by op i ≡ Some b
  pub file : IsAtFile m h x op f

-- Each byte of a WRITE that is sent once operations began is one that an operation gave to its place.
abbrev pub WritesGiven : Type 0
WritesGiven = (m : Mounted) (terms : Terms) (setup : Setup) (h : List Entry) (v : View) → GoesWith m terms setup h v → (s xid : ℕ) (sent f : List ℕ) (offset how : ℕ)
    (bytes : List ℕ) → At h s (Sent sent) → SpellsCall xid (calls.File (files.Write f offset how bytes)) sent → (i b : ℕ) → Covers offset bytes i b
    → NoneBegan h s ⊎ IsGiven terms.modes h s f i b

-- ---- a put by itself

-- Before the place p nothing but the operation at the place w began that writes the place i of the file, or cuts it off.
pub record NoOther (m : Modes) (h : List Entry) (w p : ℕ) (f : List ℕ) (i : ℕ) : Type 0 where
  pub gives : (x lane line b : ℕ) (op : Op) → At h x (Began lane line op) → x ≢ w → x < p → byte_by op i ≡ Some b → IsAtFile m h x op f → ⊥
  pub cuts : (x : ℕ) → x ≢ w → x < p → Cuts m h x f i → ⊥

-- The put's path leads to a file by its answer, if it has a name and the put has bytes. At each moment after the answer the file holds each of them, and
-- stable. That lasts as long as no other operation of this client, and no other client, changes its place.
pub record PutStays (m : Modes) (origin : Origin) (t : History) (path : List (List ℕ)) (x y offset : ℕ) (bytes : List ℕ) : Type 0 where
  pub file : List ℕ
  pub led : IsNamed path → 1 ≤ length bytes → Leads origin t.entries y path file
  pub each : (i b p : ℕ) → Covers offset bytes i b → y < p → p ≤ length t.entries → NoOther m t.entries x p file i → NoForeign t x p file i
      → HoldsStable (t.at p) file i b

-- So it is of a put that succeeded, if no other operation began before its answer; also if the session is lost later.
abbrev pub LonePutsStay : Type 0
LonePutsStay = (m : Mounted) (terms : Terms) (setup : Setup) (t : History) (v : View) → GoesWith m terms setup t.entries v
    → KnowsRoot terms.origin t.entries m.root → OnlySetsUp t.entries → Lawful t → Once t.entries → (lane x y : ℕ) (path : List (List ℕ)) (offset : ℕ) (bytes : List ℕ) (value : Value)
    → Ended t.entries lane x (ops.Put path offset bytes) y (Done value) → IsAlone t.entries x y → PutStays terms.modes terms.origin t path x y offset bytes
