-- Which calls may change an object (RFC 1813, section 3.3), and where a step takes an export.
use Rattle.std.specs.Prelude.{◌≡◌, Bool, true, false}
use Rattle.nfs_file_calls.specs.declared.call.FileCall.{FileCall}
use Rattle.nfs_file_calls.specs.declared.call.FileCall.TheVariants as files
use Rattle.nfs_dir_calls.specs.declared.call.DirCall.{DirCall}
use Rattle.nfs_dir_calls.specs.declared.call.DirCall.TheVariants as dirs
use Rattle.world_model.specs.declared.message.Call.{Call}
use Rattle.world_model.specs.declared.message.Call.TheVariants as calls
use Rattle.export_fs.specs.View.{View}

abbrev pub may_change_file : FileCall → Bool
may_change_file (files.SetAttr file set guard) = true
may_change_file (files.Write file offset how bytes) = true
may_change_file (files.Commit file offset count) = true
may_change_file call = false

abbrev pub may_change_dir : DirCall → Bool
may_change_dir (dirs.Lookup dir name) = false
may_change_dir (dirs.ReadLink file) = false
may_change_dir (dirs.ReadDir dir cookie verf count) = false
may_change_dir (dirs.ReadDirPlus dir cookie verf dircount maxcount) = false
may_change_dir call = true

abbrev pub may_change : Call → Bool
may_change (calls.File call) = may_change_file call
may_change (calls.Dir call) = may_change_dir call
may_change (calls.Mount call) = false

-- The export is the wanted one. If it didn't move it is what it was.
pub record Moves (moved : Bool) (old new wanted : View) : Type 0 where
  pub is : new ≡ wanted
  pub rests : moved ≡ false → new ≡ old
