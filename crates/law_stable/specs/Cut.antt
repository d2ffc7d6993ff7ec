-- Past a size that a SETATTR set a file has no bytes but zeros (RFC 1813, section 3.3.2).
use Rattle.std.specs.Prelude.{◌≡◌, ◌<◌, ◌≤◌, ◌+◌, ℕ, List, length, Option, Some, slice_get}
use Rattle.nfs_types.specs.declared.set_attr.SetAttr.{SetAttr}
use Rattle.nfs_types.specs.declared.time.Time.{Time}
use Rattle.nfs_types.specs.declared.wcc.Wcc.{Wcc}
use Rattle.nfs_file_calls.specs.declared.call.FileCall.TheVariants as files
use Rattle.nfs_file_calls.specs.declared.owned.FileKept.TheVariants as kept
use Rattle.world_model.specs.declared.entry.Entry.{Entry}
use Rattle.world_model.specs.declared.message.Call.TheVariants as calls
use Rattle.world_model.specs.declared.message.Reply.TheVariants as replies
use Rattle.world_model.specs.Heard.{Asked}
use Rattle.world_model.specs.History.{History}
use Rattle.world_model.specs.Lawful.{Lawful}
use Rattle.world_model.specs.Messages.{SpellsCall}
use Rattle.world_model.specs.Once.{Once}
use Rattle.world_model.specs.Server.{Server, HasBytes}
use Rattle.world_model.specs.Waiting.{FirstSent}
use Rattle.law_calls.specs.Calls.{Numbered}
use Rattle.law_stable.specs.OwnCalls.{HeardBefore, NoForeign}

-- Between two places a SETATTR of the file to this size was first sent and answered 0.
pub record CutBy (h : List Entry) (from to : ℕ) (f : List ℕ) (size : ℕ) : Type 0 where
  pub set : SetAttr
  pub guard : Option Time
  pub wcc : Wcc
  pub asked : Asked h from to (calls.File (files.SetAttr f set guard)) (replies.File (kept.SetAttr wcc))
  pub sets : set.size ≡ Some size

-- This client's WRITEs of the place i of the file: from the place `from` to the place `to` each has a zero there, and each earlier one was answered before.
pub record OwnZeros (h : List Entry) (from to : ℕ) (f : List ℕ) (i : ℕ) : Type 0 where
  pub later : (s xid : ℕ) (sent : List ℕ) (offset how k b : ℕ) (bytes : List ℕ) → FirstSent h s xid sent
      → SpellsCall xid (calls.File (files.Write f offset how bytes)) sent → from ≤ s → s < to → i ≡ offset + k → slice_get bytes k ≡ Some b → b ≡ 0
  pub earlier : (s xid : ℕ) (sent : List ℕ) (offset how : ℕ) (bytes : List ℕ) → FirstSent h s xid sent
      → SpellsCall xid (calls.File (files.Write f offset how bytes)) sent → offset ≤ i → i < offset + length bytes → s < from → HeardBefore h xid from

-- the list has no byte there but a zero
abbrev pub IsZeroAt : List ℕ → ℕ → Type 0
IsZeroAt bytes i = (v : ℕ) → slice_get bytes i ≡ Some v → v ≡ 0

-- the file has no byte at the place i but a zero, nor has it one after a restart
pub record IsBare (s : Server) (f : List ℕ) (i : ℕ) : Type 0 where
  pub now : List ℕ
  pub stable : List ℕ
  pub has : HasBytes s f now stable
  pub bare : IsZeroAt now i
  pub steady : IsZeroAt stable i

-- At each moment after its reply the file has no byte but a zero at a place past the size. That lasts as long as no WRITE puts another there.
abbrev pub CutStays : Type 0
CutStays = (t : History) → Lawful t → Once t.entries → Numbered t.entries → (from to : ℕ) (f : List ℕ) (size i : ℕ) → (c : CutBy t.entries from to f size) → size ≤ i
    → (p : ℕ) → to ≤ p → p ≤ length t.entries → OwnZeros t.entries c.asked.heard.sent_at p f i → NoForeign t c.asked.heard.sent_at p f i → IsBare (t.at p) f i
