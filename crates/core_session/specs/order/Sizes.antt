-- Sizes that are set: by truncates alone (RFC 1813, sections 3.3.2 and 3.3.8).
use Rattle.std.specs.Prelude.{◌≡◌, ◌<◌, ◌⊎◌, ℕ, List, Option, Some}
use Rattle.nfs_types.specs.declared.set_attr.SetAttr.{SetAttr}
use Rattle.nfs_types.specs.declared.time.Time.{Time}
use Rattle.nfs_dir_calls.specs.declared.call.DirCall.TheVariants as dirs
use Rattle.nfs_dir_calls.specs.declared.create.Making.TheVariants as makings
use Rattle.nfs_file_calls.specs.declared.call.FileCall.TheVariants as files
use Rattle.world_model.specs.declared.entry.Entry.{Entry}
use Rattle.world_model.specs.declared.entry.Entry.TheVariants.{Sent}
use Rattle.world_model.specs.declared.message.Call.TheVariants as calls
use Rattle.world_model.specs.declared.op.Op.TheVariants as ops
use Rattle.claims.specs.CallsAsked.{NoneBegan}
use Rattle.world_model.specs.Entries.{At}
use Rattle.world_model.specs.Messages.{SpellsCall}
use Rattle.claims.specs.Modes.{Modes}
use Rattle.world_model.specs.Operations.{AnsweredBefore}
use Rattle.claims.specs.Slots.{IsOf}
use Rattle.claims.specs.Terms.{Terms}
use Rattle.op_machines.specs.declared.begun.Mounted.{Mounted}
use Rattle.op_machines.specs.Begun.{machine_of}
use Rattle.client_core.specs.declared.setup.Setup.{Setup}
use Rattle.client_core.specs.View.{View}
use Rattle.core_facts.specs.Reaches.{Reaches}
use Rattle.core_facts.specs.SlotAnswers.{GoesWith}

-- a truncate of the file to this size, under way before the place n
pub record IsTruncate (m : Modes) (h : List Entry) (n : ℕ) (f : List ℕ) (size : ℕ) : Type 0 where
  pub x : ℕ
  pub slot : ℕ
  pub of : IsOf m h x (ops.Truncate slot size) f
  pub before : x < n
  pub unanswered : AnsweredBefore h x n → ⊥

-- Each SETATTR that sets a file's size is sent for a truncate of the file to this size, which is under way then.
abbrev pub SizesAsked : Type 0
SizesAsked = (m : Mounted) (terms : Terms) (setup : Setup) (h : List Entry) (v : View) → GoesWith m terms setup h v → (n xid : ℕ) (sent f : List ℕ) (set : SetAttr)
    (guard : Option Time) (size : ℕ) → At h n (Sent sent) → SpellsCall xid (calls.File (files.SetAttr f set guard)) sent → set.size ≡ Some size
    → NoneBegan h n ⊎ IsTruncate terms.modes h n f size

-- No file is made with a size.
abbrev pub NoSizesMade : Type 0
NoSizesMade = (m : Mounted) (setup : Setup) (h : List Entry) (v : View) → Reaches (machine_of m) setup h v → (n xid : ℕ) (sent d name : List ℕ) (set : SetAttr) (size : ℕ)
    → At h n (Sent sent) → SpellsCall xid (calls.Dir (dirs.Create d name (makings.Unchecked set))) sent → set.size ≡ Some size → NoneBegan h n
