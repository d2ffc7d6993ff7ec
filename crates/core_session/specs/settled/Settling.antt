-- Bytes that a sync, a close or a put made stable stay on the server, if what the history shows of them is given.
use Rattle.std.specs.Prelude.{◌≡◌, ◌<◌, ◌≤◌, ◌+◌, ℕ, suc, List, length, Some, slice_get}
use Rattle.nfs_file_calls.specs.declared.call.FileCall.TheVariants as files
use Rattle.world_model.specs.declared.entry.Entry.{Entry}
use Rattle.world_model.specs.declared.entry.Entry.TheVariants.{Sent}
use Rattle.world_model.specs.declared.message.Call.{Call}
use Rattle.world_model.specs.declared.message.Call.TheVariants as calls
use Rattle.claims.specs.CallsAsked.{NoneBegan}
use Rattle.world_model.specs.Entries.{At}
use Rattle.world_model.specs.History.{History}
use Rattle.world_model.specs.Lawful.{Lawful}
use Rattle.world_model.specs.Messages.{SpellsCall}
use Rattle.claims.specs.Modes.{Modes}
use Rattle.world_model.specs.Mounts.{Origin, mount_call, info_call}
use Rattle.world_model.specs.Once.{Once}
use Rattle.claims.specs.Settled.{SettledBy, Settled, Evidence}
use Rattle.claims.specs.Terms.{Terms}
use Rattle.claims.specs.Touched.{Wrote, Left, GivesUp, Touched}
use Rattle.op_machines.specs.declared.begun.Mounted.{Mounted}
use Rattle.client_core.specs.declared.setup.Setup.{Setup}
use Rattle.client_core.specs.View.{View}
use Rattle.core_facts.specs.Naming.{KnowsRoot}
use Rattle.core_facts.specs.SlotAnswers.{GoesWith}
use Rattle.core_session.specs.syncs.Synced.{PutsNamed}

-- ---- the set-up

-- MNT or FSINFO
pub data IsSetUpCall (call : Call) : Type 0 where
  mounts : (path : List ℕ) → call ≡ mount_call path → IsSetUpCall call
  informs : (root : List ℕ) → call ≡ info_call root → IsSetUpCall call

-- a record that is one of these
pub record IsSetUpRecord (sent : List ℕ) : Type 0 where
  pub xid : ℕ
  pub call : Call
  pub spells : SpellsCall xid call sent
  pub is : IsSetUpCall call

-- Before operations begin only these are sent.
abbrev pub OnlySetsUp : List Entry → Type 0
OnlySetsUp h = (s : ℕ) (sent : List ℕ) → At h s (Sent sent) → NoneBegan h s → IsSetUpRecord sent

-- ---- what the history shows

-- A byte of the write at the place w was made stable by the place `to`. The calls of that were first sent from a place after w on. From there to the place p
-- each WRITE of its place has it.
pub record IsSaved (h : List Entry) (w to p : ℕ) (f : List ℕ) (i v : ℕ) : Type 0 where
  pub from : ℕ
  pub after : w < from
  pub evidence : Evidence h from to f i v
  pub alike : (s xid : ℕ) (sent : List ℕ) (offset how k b : ℕ) (bytes : List ℕ) → At h s (Sent sent)
      → SpellsCall xid (calls.File (files.Write f offset how bytes)) sent → from ≤ s → s < p → i ≡ offset + k → slice_get bytes k ≡ Some b → b ≡ v

-- Each byte that was settled, and wasn't touched, can't but be saved so. That is so if no last close of its file gave anything up between the write and its
-- settling. (If one did, an earlier settling has the byte, or it was touched: `SavedStay` needs no more than this.)
abbrev pub AreSaved : Modes → Origin → History → Type 0
AreSaved m origin t = (w y : ℕ) (f : List ℕ) (i v j : ℕ) → Wrote m t.entries w y f i v → SettledBy m t.entries w y f j → (p : ℕ) → j < p → p ≤ length t.entries
    → (Touched m origin t w p f i → ⊥) → ((k : ℕ) → w < k → k < j → Left m t.entries k f → GivesUp m t.entries k f → ⊥)
    → (IsSaved t.entries w (suc j) p f i v → ⊥) → ⊥

-- ---- the law

-- If each is saved so, they stay;
abbrev pub SavedStay : Type 0
SavedStay = (m : Mounted) (terms : Terms) (setup : Setup) (t : History) (v : View) → GoesWith m terms setup t.entries v → OnlySetsUp t.entries
    → Lawful t → Once t.entries → AreSaved terms.modes terms.origin t → Settled terms.modes terms.origin t

-- and each is: so all that was settled stays, unless it was touched, as `claims` says.
abbrev pub SettledStay : Type 0
SettledStay = (m : Mounted) (terms : Terms) (setup : Setup) (t : History) (v : View) → GoesWith m terms setup t.entries v
    → KnowsRoot terms.origin t.entries m.root → PutsNamed t.entries → OnlySetsUp t.entries → Lawful t → Once t.entries → Settled terms.modes terms.origin t
