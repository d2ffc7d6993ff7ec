-- What the calls of a remove show.
use Rattle.std.specs.Prelude.{◌≡◌, ◌⊎◌, ℕ, List, Option}
use Rattle.rpc_message.specs.declared.cred.Cred.{Cred}
use Rattle.nfs_types.specs.declared.attr.Attr.{Attr}
use Rattle.nfs_dir_calls.specs.declared.call.DirCall.TheVariants as dirs
use Rattle.world_model.specs.declared.entry.Entry.{Entry}
use Rattle.world_model.specs.declared.entry.Entry.TheVariants.{Sent}
use Rattle.world_model.specs.declared.message.Call.{Call}
use Rattle.world_model.specs.declared.message.Call.TheVariants as calls
use Rattle.world_model.specs.declared.message.Reply.{Reply}
use Rattle.world_model.specs.declared.op.Op.{Op}
use Rattle.world_model.specs.declared.op.Op.TheVariants as ops
use Rattle.claims.specs.Asks.{Asks, look_up, looked_up}
use Rattle.claims.specs.CallsAsked.{NoneBegan}
use Rattle.world_model.specs.Entries.{At}
use Rattle.world_model.specs.Heard.{Asked, status_of}
use Rattle.claims.specs.Hidden.{IsHidden}
use Rattle.world_model.specs.Messages.{SpellsCallBy}
use Rattle.world_model.specs.Operations.{UnderWay}
use Rattle.claims.specs.Paths.{PlaceOf}
use Rattle.claims.specs.Terms.{Terms}
use Rattle.op_machines.specs.declared.begun.Mounted.{Mounted}
use Rattle.op_machines.specs.Begun.{IsNamed, machine_of}
use Rattle.client_core.specs.declared.setup.Setup.{Setup}
use Rattle.client_core.specs.View.{View}
use Rattle.core_facts.specs.Naming.{KnowsRoot}
use Rattle.core_facts.specs.Reaches.{Reaches}

-- RENAME of the last name of the path to a hidden name in the same directory. A LOOKUP of the last name gave a file before. One of the hidden name
-- gave nothing: NFS3ERR_NOENT, 2.
pub record IsHiding (terms : Terms) (h : List Entry) (x i : ℕ) (path : List (List ℕ)) (call : Call) : Type 0 where
  pub d : List ℕ
  pub last : List ℕ
  pub name : List ℕ
  pub place : PlaceOf terms.origin h i path d last
  pub hidden : IsHidden name
  pub f : List ℕ
  pub attr : Option Attr
  pub dir : Option Attr
  pub reply : Reply
  pub gave : Asked h x i (look_up d last) (looked_up f attr dir)
  pub free : Asked h x i (look_up d name) reply
  pub none : status_of reply ≡ 2
  pub is : call ≡ calls.Dir (dirs.Rename d last d name)

-- The record at the place i is a call, with the session's credential, of an operation that is under way. A remove of a path with a name asks for it:
-- the LOOKUP of a name of its path, or of a hidden name in the directory of the path, or REMOVE of its place; or else it hides the file. (That a slot
-- then held the file isn't said.)
pub record IsMadeForRemove (terms : Terms) (cred : Cred) (h : List Entry) (i : ℕ) (bytes : List ℕ) : Type 0 where
  pub xid : ℕ
  pub call : Call
  pub made : SpellsCallBy cred xid call bytes
  pub lane : ℕ
  pub x : ℕ
  pub op : Op
  pub under_way : UnderWay h lane x i op
  pub asks : (path : List (List ℕ)) → op ≡ ops.Remove path → IsNamed path → Asks terms h x i (ops.Remove path) call ⊎ IsHiding terms h x i path call

-- Each record that was sent was sent before any operation began, or for one.
abbrev pub RemovesAsk : Type 0
RemovesAsk = (m : Mounted) (setup : Setup) (h : List Entry) (v : View) → Reaches (machine_of m) setup h v → (terms : Terms) → KnowsRoot terms.origin h m.root
    → (i : ℕ) (bytes : List ℕ) → At h i (Sent bytes) → NoneBegan h i ⊎ IsMadeForRemove terms setup.cred h i bytes
