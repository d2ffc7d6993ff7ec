-- For which operation each call is made, and why.
use Rattle.std.specs.Prelude.{◌≡◌, ◌⊎◌, ℕ, List}
use Rattle.nfs_file_calls.specs.declared.call.FileCall.TheVariants as files
use Rattle.world_model.specs.declared.entry.Entry.{Entry}
use Rattle.world_model.specs.declared.entry.Entry.TheVariants.{Sent}
use Rattle.world_model.specs.declared.message.Call.{Call}
use Rattle.world_model.specs.declared.message.Call.TheVariants as calls
use Rattle.world_model.specs.declared.op.Op.{Op}
use Rattle.world_model.specs.declared.op.Op.TheVariants as ops
use Rattle.claims.specs.Asks.{Asks, IsWriter}
use Rattle.claims.specs.CallsAsked.{NoneBegan, IsRead}
use Rattle.world_model.specs.Entries.{At}
use Rattle.world_model.specs.Messages.{SpellsCallBy}
use Rattle.world_model.specs.Operations.{UnderWay}
use Rattle.claims.specs.Terms.{Terms}
use Rattle.op_machines.specs.declared.begun.Mounted.{Mounted}
use Rattle.client_core.specs.declared.setup.Setup.{Setup}
use Rattle.client_core.specs.View.{View}
use Rattle.core_answers.specs.asks.PutCalls.{IsForRoom}
use Rattle.core_answers.specs.asks.SlotCalls.{IsRemoval}
use Rattle.core_session.specs.calls.Sessions.{IsSession}

-- What isn't said to be asked for: WRITE or COMMIT of a file, with which a write, fill or put makes room; and the REMOVE of a close.
pub data IsBeside (terms : Terms) (h : List Entry) (x i : ℕ) (op : Op) (call : Call) : Type 0 where
  makes_room : IsWriter op → IsForRoom call → IsBeside terms h x i op call
  removes : (slot : ℕ) → op ≡ ops.Close slot → IsRemoval call → IsBeside terms h x i op call

-- READs keep to the session's size.
abbrev pub ReadsKeep : Terms → List Entry → ℕ → Call → Type 0
ReadsKeep terms h i call = (f : List ℕ) (offset count : ℕ) → call ≡ calls.File (files.Read f offset count) → IsRead terms h i count

-- The record at the place i is a call, with the session's credential, of an operation that is under way, and this asks for it; or it is one of those.
pub record IsMade (terms : Terms) (h : List Entry) (i : ℕ) (bytes : List ℕ) : Type 0 where
  pub xid : ℕ
  pub call : Call
  pub made : SpellsCallBy terms.cred xid call bytes
  pub lane : ℕ
  pub x : ℕ
  pub op : Op
  pub under_way : UnderWay h lane x i op
  pub asks : Asks terms h x i op call ⊎ IsBeside terms h x i op call
  pub reads : ReadsKeep terms h i call

-- Each record was sent before any operation began, or is such a call.
abbrev pub CallsMade : Type 0
CallsMade = (m : Mounted) (terms : Terms) (setup : Setup) (h : List Entry) (v : View) → IsSession m terms setup h v
    → (i : ℕ) (bytes : List ℕ) → At h i (Sent bytes) → NoneBegan h i ⊎ IsMade terms h i bytes
