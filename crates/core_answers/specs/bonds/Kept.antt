-- What the client keeps of attributes, and how old that may be (nfs(5), acregmin to acdirmax).
use Rattle.std.specs.Prelude.{◌≡◌, ◌<◌, ◌≤◌, ◌⊎◌, ℕ, List, length, Some}
use Rattle.attr_cache.specs.declared.kept.KeptAttr.{KeptAttr}
use Rattle.attr_cache.specs.declared.lives.Lives.{Lives}
use Rattle.attr_cache.specs.Attrs.{kept_of}
use Rattle.world_model.specs.declared.entry.Entry.{Entry}
use Rattle.world_model.specs.declared.entry.Entry.TheVariants.{Began, Clock}
use Rattle.world_model.specs.declared.message.Call.{Call}
use Rattle.world_model.specs.declared.message.Reply.{Reply}
use Rattle.world_model.specs.declared.op.Op.{Op}
use Rattle.world_model.specs.Entries.{At}
use Rattle.world_model.specs.Heard.{Heard}
use Rattle.world_model.specs.Messages.{SpellsReply}
use Rattle.claims.specs.Shown.{ShowsAttr}
use Rattle.op_machines.specs.Begun.{machine_of}
use Rattle.op_machines.specs.declared.begun.Mounted.{Mounted}
use Rattle.client_core.specs.declared.setup.Setup.{Setup}
use Rattle.client_core.specs.View.{View}
use Rattle.core_facts.specs.Reaches.{Reaches}

-- an operation had begun before the place n
pub record HadBegun (h : List Entry) (n : ℕ) : Type 0 where
  pub x : ℕ
  pub lane : ℕ
  pub line : ℕ
  pub op : Op
  pub began : At h x (Began lane line op)
  pub before : x < n

-- The clock showed this time before the place n; if it wasn't read before operations began, the time is 0.
abbrev pub HadShown : List Entry → ℕ → ℕ → Type 0
HadShown h n ms = ((ms ≡ 0) × HadBegun h n) ⊎ ((at : ℕ) × At h at (Clock ms) × (at < n))

-- The call was first sent between the places from and to. A record that came there while it waited spells this reply to it, and no
-- other.
pub record IsAnswered (h : List Entry) (from to : ℕ) (call : Call) (reply : Reply) : Type 0 where
  pub xid : ℕ
  pub bytes : List ℕ
  pub heard : Heard h from to call xid bytes
  pub spells : SpellsReply xid call reply bytes
  pub only : (other : Reply) → SpellsReply xid call other bytes → other ≡ reply

-- A reply that came showed these attributes of the file. Its call was first sent after the clock showed the time that is kept with them.
pub record WasShown (h : List Entry) (file : List ℕ) (kept : KeptAttr) : Type 0 where
  pub call : Call
  pub reply : Reply
  pub since : ℕ
  pub timed : HadShown h since kept.sent_at
  pub answered : IsAnswered h since (length h) call reply
  pub shows : ShowsAttr call reply file kept.attr

-- no lifetime is longer
pub record LastAtMost (lives : Lives) (most : ℕ) : Type 0 where
  pub reg_min : lives.reg_min ≤ most
  pub reg_max : lives.reg_max ≤ most
  pub dir_min : lives.dir_min ≤ most
  pub dir_max : lives.dir_max ≤ most

-- and they aren't believed for longer than that from then on
pub record IsKept (h : List Entry) (most : ℕ) (file : List ℕ) (kept : KeptAttr) : Type 0 where
  pub shown : WasShown h file kept
  pub short : kept.lifetime ≤ most

-- All attributes that the client keeps are so.
abbrev pub AttrsShown : Type 0
AttrsShown = (m : Mounted) (setup : Setup) (most : ℕ) (h : List Entry) (v : View) → LastAtMost setup.lives most → Reaches (machine_of m) setup h v
    → (file : List ℕ) (kept : KeptAttr) → kept_of file v.shelf.attrs ≡ Some kept → IsKept h most file kept
