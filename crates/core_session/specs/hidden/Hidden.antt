-- Of each place that the core keeps of a hidden file the history shows that the file was hidden there; and closes remove files from such places alone.
use Rattle.std.specs.Prelude.{◌≡◌, ◌⊎◌, ℕ, List, Some, length}
use Rattle.std.specs.FinMap as map
use Rattle.nfs_dir_calls.specs.declared.call.DirCall.TheVariants as dirs
use Rattle.world_model.specs.declared.entry.Entry.{Entry}
use Rattle.world_model.specs.declared.entry.Entry.TheVariants.{Sent}
use Rattle.world_model.specs.declared.message.Call.{Call}
use Rattle.world_model.specs.declared.message.Call.TheVariants as calls
use Rattle.world_model.specs.declared.op.Op.{Op}
use Rattle.world_model.specs.declared.op.Op.TheVariants as ops
use Rattle.claims.specs.Asks.{Asks, IsWriter}
use Rattle.claims.specs.CallsAsked.{NoneBegan}
use Rattle.world_model.specs.Entries.{At}
use Rattle.claims.specs.Hidden.{HiddenAt}
use Rattle.world_model.specs.Messages.{SpellsCallBy}
use Rattle.world_model.specs.Operations.{UnderWay}
use Rattle.claims.specs.Slots.{IsOf}
use Rattle.claims.specs.Terms.{Terms}
use Rattle.op_machines.specs.declared.begun.Mounted.{Mounted}
use Rattle.client_core.specs.declared.setup.Setup.{Setup}
use Rattle.client_core.specs.View.{View}
use Rattle.core_answers.specs.asks.PutCalls.{IsForRoom}
use Rattle.core_session.specs.calls.Sessions.{IsSession}

-- ---- the places that are kept

-- If the core keeps a place of a file, a remove hid the file there.
abbrev pub HiddenFilesWereHidden : Type 0
HiddenFilesWereHidden = (m : Mounted) (terms : Terms) (setup : Setup) (h : List Entry) (v : View) → IsSession m terms setup h v
    → (f d name : List ℕ) → map.get v.shelf.silly f ≡ Some (d, name) → HiddenAt terms.origin h (length h) f d name

-- ---- the REMOVE of a close

-- The REMOVE of a close, of the place where the file of its slot was hidden (RFC 1813, section 3.3.12).
pub record RemovesPlace (terms : Terms) (h : List Entry) (x n : ℕ) (op : Op) (call : Call) : Type 0 where
  pub slot : ℕ
  pub f : List ℕ
  pub d : List ℕ
  pub name : List ℕ
  pub is : op ≡ ops.Close slot
  pub of : IsOf terms.modes h x op f
  pub hidden : HiddenAt terms.origin h n f d name
  pub removes : call ≡ calls.Dir (dirs.Remove d name)

-- The operation asks for the call; or this is WRITE or COMMIT of a file, with which a write, fill or put makes room; or such a REMOVE.
pub data IsMadeFor (terms : Terms) (h : List Entry) (x n : ℕ) (op : Op) (call : Call) : Type 0 where
  asked_for : Asks terms h x n op call → IsMadeFor terms h x n op call
  makes_room : IsWriter op → IsForRoom call → IsMadeFor terms h x n op call
  removes_place : RemovesPlace terms h x n op call → IsMadeFor terms h x n op call

-- The record at the place i is a call, with the session's credential, that is made so for an operation under way.
pub record IsMadeSo (terms : Terms) (h : List Entry) (i : ℕ) (bytes : List ℕ) : Type 0 where
  pub xid : ℕ
  pub call : Call
  pub made : SpellsCallBy terms.cred xid call bytes
  pub lane : ℕ
  pub x : ℕ
  pub op : Op
  pub under_way : UnderWay h lane x i op
  pub made_for : IsMadeFor terms h x i op call

-- Each record was sent before any operation began, or is such a call.
abbrev pub RemovalsAreOfHiddenFiles : Type 0
RemovalsAreOfHiddenFiles = (m : Mounted) (terms : Terms) (setup : Setup) (h : List Entry) (v : View) → IsSession m terms setup h v
    → (i : ℕ) (bytes : List ℕ) → At h i (Sent bytes) → NoneBegan h i ⊎ IsMadeSo terms h i bytes
