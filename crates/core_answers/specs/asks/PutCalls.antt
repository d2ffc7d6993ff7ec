-- What the calls of a put show.
use Rattle.std.specs.Prelude.{◌≡◌, ◌<◌, ◌⊎◌, ℕ, List}
use Rattle.rpc_message.specs.declared.cred.Cred.{Cred}
use Rattle.nfs_file_calls.specs.declared.call.FileCall.TheVariants as files
use Rattle.world_model.specs.declared.entry.Entry.{Entry}
use Rattle.world_model.specs.declared.entry.Entry.TheVariants.{Began, Sent}
use Rattle.world_model.specs.declared.message.Call.{Call}
use Rattle.world_model.specs.declared.message.Call.TheVariants as calls
use Rattle.world_model.specs.declared.op.Op.{Op}
use Rattle.world_model.specs.declared.op.Op.TheVariants as ops
use Rattle.claims.specs.Asks.{Asks}
use Rattle.claims.specs.CallsAsked.{NoneBegan}
use Rattle.world_model.specs.Entries.{At}
use Rattle.world_model.specs.Messages.{SpellsCallBy}
use Rattle.world_model.specs.Operations.{UnderWay}
use Rattle.world_model.specs.Commits.{commit_call}
use Rattle.claims.specs.Terms.{Terms}
use Rattle.op_machines.specs.declared.begun.Mounted.{Mounted}
use Rattle.op_machines.specs.Begun.{IsNamed, machine_of}
use Rattle.client_core.specs.declared.setup.Setup.{Setup}
use Rattle.client_core.specs.View.{View}
use Rattle.core_facts.specs.Naming.{KnowsRoot}
use Rattle.core_facts.specs.Reaches.{Reaches}

-- It makes what is pending of some file stable: WRITE of the file, or COMMIT of the whole of it (RFC 1813, sections 3.3.7 and 3.3.21).
pub data IsForRoom (call : Call) : Type 0 where
  writes : (f bytes : List ℕ) (at how : ℕ) → call ≡ calls.File (files.Write f at how bytes) → IsForRoom call
  commits : (f : List ℕ) → call ≡ commit_call f → IsForRoom call

-- The record at the place i is a call, with the session's credential, of an operation that is under way. A put of a path with a name asks for it:
-- the LOOKUP of a name of its path, GETATTR of the file to which the path leads, WRITE and COMMIT of that file; or else it makes room for the put's
-- bytes. (Of which file it then may be, and when, isn't said.)
pub record IsMadeForPut (terms : Terms) (cred : Cred) (h : List Entry) (i : ℕ) (bytes : List ℕ) : Type 0 where
  pub xid : ℕ
  pub call : Call
  pub made : SpellsCallBy cred xid call bytes
  pub lane : ℕ
  pub x : ℕ
  pub op : Op
  pub under_way : UnderWay h lane x i op
  pub asks : (path : List (List ℕ)) (offset : ℕ) (text : List ℕ) → op ≡ ops.Put path offset text → IsNamed path
      → Asks terms h x i (ops.Put path offset text) call ⊎ IsForRoom call

-- Each record that was sent was sent before any operation began, or for one.
abbrev pub PutsAsk : Type 0
PutsAsk = (m : Mounted) (setup : Setup) (h : List Entry) (v : View) → Reaches (machine_of m) setup h v → (terms : Terms) → KnowsRoot terms.origin h m.root
    → (i : ℕ) (bytes : List ℕ) → At h i (Sent bytes) → NoneBegan h i ⊎ IsMadeForPut terms setup.cred h i bytes

-- ---- a put alone

-- no other operation than that at the place x began before the place n
abbrev pub IsAlone : List Entry → ℕ → ℕ → Type 0
IsAlone h x n = (j lane line : ℕ) (op : Op) → At h j (Began lane line op) → j < n → j ≡ x

-- The same of a put of a path with a name that is the only operation that began: it asks for the call, and makes no room.
pub record IsMadeAlone (terms : Terms) (cred : Cred) (h : List Entry) (i : ℕ) (bytes : List ℕ) : Type 0 where
  pub xid : ℕ
  pub call : Call
  pub made : SpellsCallBy cred xid call bytes
  pub lane : ℕ
  pub x : ℕ
  pub op : Op
  pub under_way : UnderWay h lane x i op
  pub asks : (path : List (List ℕ)) (offset : ℕ) (text : List ℕ) → op ≡ ops.Put path offset text → IsNamed path → IsAlone h x i
      → Asks terms h x i (ops.Put path offset text) call

abbrev pub LonePutsAsk : Type 0
LonePutsAsk = (m : Mounted) (setup : Setup) (h : List Entry) (v : View) → Reaches (machine_of m) setup h v → (terms : Terms) → KnowsRoot terms.origin h m.root
    → (i : ℕ) (bytes : List ℕ) → At h i (Sent bytes) → NoneBegan h i ⊎ IsMadeAlone terms setup.cred h i bytes
