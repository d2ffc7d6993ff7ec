-- The attributes that a reply shows, and of which object (RFC 1813, section 2.6: post_op_attr and wcc_data).
use Rattle.std.specs.Prelude.{◌≡◌, ℕ, List, Bool, Option, Some, None, slice_get}
use Rattle.nfs_types.specs.declared.attr.Attr.{Attr}
use Rattle.nfs_types.specs.declared.verf.Verf.{Verf}
use Rattle.nfs_dir_calls.specs.declared.call.DirCall.TheVariants as dirs
use Rattle.nfs_dir_calls.specs.declared.keeping.DirKept.TheVariants as found
use Rattle.nfs_dir_calls.specs.declared.plus_page.PlusRow.{PlusRow}
use Rattle.nfs_file_calls.specs.declared.call.FileCall.TheVariants as files
use Rattle.nfs_file_calls.specs.declared.owned.FileKept.TheVariants as kept
use Rattle.world_model.specs.declared.entry.Entry.{Entry}
use Rattle.world_model.specs.declared.message.Call.{Call}
use Rattle.world_model.specs.declared.message.Call.TheVariants as calls
use Rattle.world_model.specs.declared.message.Reply.{Reply}
use Rattle.world_model.specs.declared.message.Reply.TheVariants as replies
use Rattle.world_model.specs.Heard.{Asked}

-- the object that a call is made on: its file, or the directory of its place
abbrev pub object_of : Call → Option (List ℕ)
object_of (calls.File (files.GetAttr file)) = Some file
object_of (calls.File (files.SetAttr file set guard)) = Some file
object_of (calls.File (files.Access file bits)) = Some file
object_of (calls.File (files.Read file offset count)) = Some file
object_of (calls.File (files.Write file offset how bytes)) = Some file
object_of (calls.File (files.FsStat file)) = Some file
object_of (calls.File (files.FsInfo file)) = Some file
object_of (calls.File (files.PathConf file)) = Some file
object_of (calls.File (files.Commit file offset count)) = Some file
object_of (calls.Dir (dirs.Lookup d name)) = Some d
object_of (calls.Dir (dirs.ReadLink file)) = Some file
object_of (calls.Dir (dirs.Create d name making)) = Some d
object_of (calls.Dir (dirs.MkDir d name set)) = Some d
object_of (calls.Dir (dirs.SymLink d name set target)) = Some d
object_of (calls.Dir (dirs.MkNod d name node)) = Some d
object_of (calls.Dir (dirs.Remove d name)) = Some d
object_of (calls.Dir (dirs.RmDir d name)) = Some d
object_of (calls.Dir (dirs.Rename d name to_dir to)) = Some d
object_of (calls.Dir (dirs.Link file d name)) = Some file
object_of (calls.Dir (dirs.ReadDir d cookie verf count)) = Some d
object_of (calls.Dir (dirs.ReadDirPlus d cookie verf dircount maxcount)) = Some d
object_of call = None

-- what a reply shows of that object
abbrev pub object_attr : Reply → Option Attr
object_attr (replies.File (kept.GetAttr attr)) = Some attr
object_attr (replies.File (kept.SetAttr wcc)) = wcc.after
object_attr (replies.File (kept.SetAttrFail status wcc)) = wcc.after
object_attr (replies.File (kept.Access attr bits)) = attr
object_attr (replies.File (kept.AccessFail status attr)) = attr
object_attr (replies.File (kept.Read attr count eof bytes)) = attr
object_attr (replies.File (kept.ReadFail status attr)) = attr
object_attr (replies.File (kept.Write wcc count committed verf)) = wcc.after
object_attr (replies.File (kept.WriteFail status wcc)) = wcc.after
object_attr (replies.File (kept.FsStat attr tbytes fbytes abytes tfiles ffiles afiles invarsec)) = attr
object_attr (replies.File (kept.FsStatFail status attr)) = attr
object_attr (replies.File (kept.FsInfo attr rtmax rtpref rtmult wtmax wtpref wtmult dtpref maxfilesize delta properties)) = attr
object_attr (replies.File (kept.FsInfoFail status attr)) = attr
object_attr (replies.File (kept.PathConf attr linkmax name_max no_trunc restricted insensitive preserving)) = attr
object_attr (replies.File (kept.PathConfFail status attr)) = attr
object_attr (replies.File (kept.Commit wcc verf)) = wcc.after
object_attr (replies.File (kept.CommitFail status wcc)) = wcc.after
object_attr (replies.Dir (found.Lookup object attr dir)) = dir
object_attr (replies.Dir (found.LookupFail status dir)) = dir
object_attr (replies.Dir (found.ReadLink attr text)) = attr
object_attr (replies.Dir (found.ReadLinkFail status attr)) = attr
object_attr (replies.Dir (found.Create object attr wcc)) = wcc.after
object_attr (replies.Dir (found.CreateFail status wcc)) = wcc.after
object_attr (replies.Dir (found.MkDir object attr wcc)) = wcc.after
object_attr (replies.Dir (found.MkDirFail status wcc)) = wcc.after
object_attr (replies.Dir (found.SymLink object attr wcc)) = wcc.after
object_attr (replies.Dir (found.SymLinkFail status wcc)) = wcc.after
object_attr (replies.Dir (found.MkNod object attr wcc)) = wcc.after
object_attr (replies.Dir (found.MkNodFail status wcc)) = wcc.after
object_attr (replies.Dir (found.Remove wcc)) = wcc.after
object_attr (replies.Dir (found.RemoveFail status wcc)) = wcc.after
object_attr (replies.Dir (found.RmDir wcc)) = wcc.after
object_attr (replies.Dir (found.RmDirFail status wcc)) = wcc.after
object_attr (replies.Dir (found.Rename source target)) = source.after
object_attr (replies.Dir (found.RenameFail status source target)) = source.after
object_attr (replies.Dir (found.Link attr wcc)) = attr
object_attr (replies.Dir (found.LinkFail status attr wcc)) = attr
object_attr (replies.Dir (found.ReadDir attr verf rows eof)) = attr
object_attr (replies.Dir (found.ReadDirFail status attr)) = attr
object_attr (replies.Dir (found.ReadDirPlus attr verf rows eof)) = attr
object_attr (replies.Dir (found.ReadDirPlusFail status attr)) = attr
object_attr reply = None

-- the directory of the second place of a call: that to which RENAME or LINK gives a name
abbrev pub target_of : Call → Option (List ℕ)
target_of (calls.Dir (dirs.Rename d name to_dir to)) = Some to_dir
target_of (calls.Dir (dirs.Link file d name)) = Some d
target_of call = None

-- what a reply shows of that directory
abbrev pub target_attr : Reply → Option Attr
target_attr (replies.Dir (found.Rename source target)) = target.after
target_attr (replies.Dir (found.RenameFail status source target)) = target.after
target_attr (replies.Dir (found.Link attr wcc)) = wcc.after
target_attr (replies.Dir (found.LinkFail status attr wcc)) = wcc.after
target_attr reply = None

-- the object that a reply gives: the one that was looked up or made
abbrev pub given_object : Reply → Option (List ℕ)
given_object (replies.Dir (found.Lookup object attr dir)) = Some object
given_object (replies.Dir (found.Create object attr wcc)) = object
given_object (replies.Dir (found.MkDir object attr wcc)) = object
given_object (replies.Dir (found.SymLink object attr wcc)) = object
given_object (replies.Dir (found.MkNod object attr wcc)) = object
given_object reply = None

-- what a reply shows of that object
abbrev pub given_attr : Reply → Option Attr
given_attr (replies.Dir (found.Lookup object attr dir)) = attr
given_attr (replies.Dir (found.Create object attr wcc)) = attr
given_attr (replies.Dir (found.MkDir object attr wcc)) = attr
given_attr (replies.Dir (found.SymLink object attr wcc)) = attr
given_attr (replies.Dir (found.MkNod object attr wcc)) = attr
given_attr reply = None

-- The reply to the call shows these attributes of the object. That is one of these:
-- - the object that the call is made on;
-- - the directory of its second place;
-- - the object that it gives;
-- - one that a page of READDIRPLUS lists.
pub data ShowsAttr (call : Call) (reply : Reply) (f : List ℕ) (attr : Attr) : Type 0 where
  of_object : object_of call ≡ Some f → object_attr reply ≡ Some attr → ShowsAttr call reply f attr
  of_target : target_of call ≡ Some f → target_attr reply ≡ Some attr → ShowsAttr call reply f attr
  of_given : given_object reply ≡ Some f → given_attr reply ≡ Some attr → ShowsAttr call reply f attr
  of_listed : (of : Option Attr) (verf : Verf) (rows : List PlusRow) (eof : Bool) (at : ℕ) (row : PlusRow)
      → reply ≡ replies.Dir (found.ReadDirPlus of verf rows eof) → slice_get rows at ≡ Some row → row.found ≡ Some f → row.attr ≡ Some attr
      → ShowsAttr call reply f attr

-- A reply that came between the places from and to, to a call that was first sent there, shows these attributes of the
-- object.
pub record ShownWithin (h : List Entry) (from to : ℕ) (f : List ℕ) (attr : Attr) : Type 0 where
  pub call : Call
  pub reply : Reply
  pub asked : Asked h from to call reply
  pub shows : ShowsAttr call reply f attr
