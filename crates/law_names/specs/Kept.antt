-- What a client may keep of a directory: names under the stamp that a reply gave (RFC 1813, sections 2.6 and 3.3.3).
use Rattle.std.specs.Prelude.{◌≡◌, ◌≤◌, ℕ, List, length, Option, Some}
use Rattle.nfs_types.specs.declared.attr.Attr.{Attr}
use Rattle.nfs_types.specs.declared.wcc.Stamp.{Stamp}
use Rattle.nfs_types.specs.Stamps.{stamp_of}
use Rattle.nfs_dir_calls.specs.declared.call.DirCall.TheVariants as dirs
use Rattle.nfs_dir_calls.specs.declared.keeping.DirKept.TheVariants as found
use Rattle.world_model.specs.declared.entry.Entry.TheVariants.{Executed}
use Rattle.world_model.specs.declared.message.Call.TheVariants as calls
use Rattle.world_model.specs.declared.message.Reply.TheVariants as answers
use Rattle.world_model.specs.Entries.{At}
use Rattle.world_model.specs.History.{History}
use Rattle.world_model.specs.Server.{Entries, Listed, Lists, Object}

-- at the moment n the directory has this stamp and these entries
pub record HasList (t : History) (n : ℕ) (d : List ℕ) (s : Stamp) (list : List Listed) : Type 0 where
  pub dir : Object
  pub moment : n ≤ length t.entries
  pub is : (t.at n).object d ≡ Some dir
  pub holds : dir.holds ≡ Entries list
  pub stamp : stamp_of dir.attr ≡ s

-- a LOOKUP was executed that found the object, and showed the directory's stamp
pub record IsLookedUp (t : History) (d : List ℕ) (s : Stamp) (name object : List ℕ) : Type 0 where
  pub place : ℕ
  pub xid : ℕ
  pub attr : Option Attr
  pub dir : Attr
  pub done : At t.entries place (Executed xid (calls.Dir (dirs.Lookup d name)) (answers.Dir (found.Lookup object attr (Some dir))))
  pub is : stamp_of dir ≡ s

-- the entries have this name for the object
abbrev pub StandsIn : List Listed → List ℕ → List ℕ → Type 0
StandsIn list name object = (cookie : ℕ) × Lists list (record { name = name; object = object; cookie = cookie })
