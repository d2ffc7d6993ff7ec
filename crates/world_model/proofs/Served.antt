-- A step of a server taken apart: one arm for each row of what a server may do (RFC 1813, section 3.3), with its call and
-- its reply as equations.
use Rattle.std.proofs.Common.{◌≡◌, ◌⊎◌, ℕ, Bool, List, Option, refl}
use Rattle.nfs_types.specs.declared.attr.Attr.{Attr}
use Rattle.nfs_types.specs.declared.set_attr.SetAttr.{SetAttr}
use Rattle.nfs_types.specs.declared.status.Status.{Status}
use Rattle.nfs_types.specs.declared.time.Time.{Time}
use Rattle.nfs_types.specs.declared.verf.Verf.{Verf}
use Rattle.nfs_types.specs.declared.wcc.Wcc.{Wcc}
use Rattle.nfs_file_calls.specs.declared.call.FileCall.{FileCall}
use Rattle.nfs_file_calls.specs.declared.call.FileCall.TheVariants as files
use Rattle.nfs_file_calls.specs.declared.owned.FileKept.{FileKept}
use Rattle.nfs_file_calls.specs.declared.owned.FileKept.TheVariants as kept
use Rattle.nfs_dir_calls.specs.declared.call.DirCall.{DirCall}
use Rattle.nfs_dir_calls.specs.declared.call.DirCall.TheVariants as dirs
use Rattle.nfs_dir_calls.specs.declared.keeping.DirKept.{DirKept}
use Rattle.nfs_dir_calls.specs.declared.keeping.DirKept.TheVariants as found
use Rattle.nfs_dir_calls.specs.declared.create.Making.{Making}
use Rattle.nfs_dir_calls.specs.declared.mknod.Node.{Node}
use Rattle.nfs_dir_calls.specs.declared.plus_page.PlusRow.{PlusRow}
use Rattle.nfs_dir_calls.specs.declared.dir_page.DirRow.{DirRow}
use Rattle.mount_calls.specs.declared.call.MountCall.{MountCall}
use Rattle.mount_calls.specs.declared.call.MountCall.TheVariants as mounts
use Rattle.mount_calls.specs.declared.reply.MountReply.{MountReply}
use Rattle.mount_calls.specs.declared.reply.MountReply.TheVariants as mounted
use Rattle.world_model.specs.declared.message.Call.{Call}
use Rattle.world_model.specs.declared.message.Call.TheVariants as calls
use Rattle.world_model.specs.declared.message.Reply.{Reply}
use Rattle.world_model.specs.declared.message.Reply.TheVariants as replies
use Rattle.world_model.specs.Server.{Server}
use Rattle.world_model.specs.Steps.{Same, TrueOf, TrueWcc}
use Rattle.world_model.specs.FileService.{GetsAttr, Asks, SetsAttr, ReadsBytes, Writes, WritesPrefix, Commits}
use Rattle.world_model.specs.NameService.{LooksUp, ReadsLink, Shown, Creates, MakesDir, MakesLink, MakesNode, Links, Removes, Renames, KeepsNames}
use Rattle.world_model.specs.ListService.{ListsNames, ListsObjects}
use Rattle.world_model.specs.Service.{Refuses, DoesFile, DoesDir, DoesMount, Serves, refused, broken_off, done}

pub data Served (s : Server) (call : Call) (reply : Reply) (t : Server) : Type 0 where
  by_refusal : Refuses s call reply → Same s t → Served s call reply t
  by_breaking_off : (f : List ℕ) (offset how : ℕ) (bytes : List ℕ) (status : Status) (wcc : Wcc) → call ≡ calls.File (files.Write f offset how bytes) → reply ≡ replies.File (kept.WriteFail status wcc)
      → WritesPrefix s t f offset bytes status wcc → Served s call reply t
  by_nothing : Same s t → Served s call reply t
  by_asking : (f : List ℕ) (attr : Option Attr) → Asks s t f attr → Served s call reply t
  by_getattr : (f : List ℕ) (attr : Attr) → call ≡ calls.File (files.GetAttr f) → reply ≡ replies.File (kept.GetAttr attr) → GetsAttr s t f attr → Served s call reply t
  by_setattr : (f : List ℕ) (set : SetAttr) (guard : Option Time) (wcc : Wcc) → call ≡ calls.File (files.SetAttr f set guard) → reply ≡ replies.File (kept.SetAttr wcc) → SetsAttr s t f set × TrueWcc s t f wcc → Served s call reply t
  by_read : (f : List ℕ) (offset count : ℕ) (attr : Option Attr) (counted : ℕ) (eof : Bool) (bytes : List ℕ) → call ≡ calls.File (files.Read f offset count) → reply ≡ replies.File (kept.Read attr counted eof bytes)
      → ReadsBytes s t f offset count attr counted eof bytes → Served s call reply t
  by_write : (f : List ℕ) (offset how : ℕ) (bytes : List ℕ) (wcc : Wcc) (counted committed : ℕ) (verf : Verf) → call ≡ calls.File (files.Write f offset how bytes) → reply ≡ replies.File (kept.Write wcc counted committed verf)
      → Writes s t f offset how bytes wcc counted committed verf → Served s call reply t
  by_commit : (f : List ℕ) (offset count : ℕ) (wcc : Wcc) (verf : Verf) → call ≡ calls.File (files.Commit f offset count) → reply ≡ replies.File (kept.Commit wcc verf) → Commits s t f offset count wcc verf → Served s call reply t
  by_lookup : (d name object : List ℕ) (attr dir : Option Attr) → call ≡ calls.Dir (dirs.Lookup d name) → reply ≡ replies.Dir (found.Lookup object attr dir) → LooksUp s t d name object attr dir → Served s call reply t
  by_readlink : (f : List ℕ) (attr : Option Attr) (text : List ℕ) → call ≡ calls.Dir (dirs.ReadLink f) → reply ≡ replies.Dir (found.ReadLink attr text) → ReadsLink s t f attr text → Served s call reply t
  by_create : (d name : List ℕ) (making : Making) (object : Option (List ℕ)) (attr : Option Attr) (wcc : Wcc) → call ≡ calls.Dir (dirs.Create d name making) → reply ≡ replies.Dir (found.Create object attr wcc)
      → Creates s t d name making × Shown t d name object attr × TrueWcc s t d wcc → Served s call reply t
  by_mkdir : (d name : List ℕ) (set : SetAttr) (object : Option (List ℕ)) (attr : Option Attr) (wcc : Wcc) → call ≡ calls.Dir (dirs.MkDir d name set) → reply ≡ replies.Dir (found.MkDir object attr wcc)
      → MakesDir s t d name × Shown t d name object attr × TrueWcc s t d wcc → Served s call reply t
  by_symlink : (d name : List ℕ) (set : SetAttr) (target : List ℕ) (object : Option (List ℕ)) (attr : Option Attr) (wcc : Wcc) → call ≡ calls.Dir (dirs.SymLink d name set target) → reply ≡ replies.Dir (found.SymLink object attr wcc)
      → MakesLink s t d name target × Shown t d name object attr × TrueWcc s t d wcc → Served s call reply t
  by_mknod : (d name : List ℕ) (node : Node) (object : Option (List ℕ)) (attr : Option Attr) (wcc : Wcc) → call ≡ calls.Dir (dirs.MkNod d name node) → reply ≡ replies.Dir (found.MkNod object attr wcc)
      → MakesNode s t d name node × Shown t d name object attr × TrueWcc s t d wcc → Served s call reply t
  by_remove : (d name : List ℕ) (wcc : Wcc) → call ≡ calls.Dir (dirs.Remove d name) → reply ≡ replies.Dir (found.Remove wcc) → Removes s t d name × TrueWcc s t d wcc → Served s call reply t
  by_rmdir : (d name : List ℕ) (wcc : Wcc) → call ≡ calls.Dir (dirs.RmDir d name) → reply ≡ replies.Dir (found.RmDir wcc) → Removes s t d name × TrueWcc s t d wcc → Served s call reply t
  by_rename : (d old e new : List ℕ) (source target : Wcc) → call ≡ calls.Dir (dirs.Rename d old e new) → reply ≡ replies.Dir (found.Rename source target)
      → (Renames s t d old e new ⊎ KeepsNames s t d old e new) × TrueWcc s t d source × TrueWcc s t e target → Served s call reply t
  by_link : (f d name : List ℕ) (attr : Option Attr) (wcc : Wcc) → call ≡ calls.Dir (dirs.Link f d name) → reply ≡ replies.Dir (found.Link attr wcc) → Links s t f d name × TrueOf t f attr × TrueWcc s t d wcc → Served s call reply t
  by_readdir : (d : List ℕ) (cookie : ℕ) (verf : Verf) (count : ℕ) (attr : Option Attr) (check : Verf) (rows : List DirRow) (eof : Bool) → call ≡ calls.Dir (dirs.ReadDir d cookie verf count)
      → reply ≡ replies.Dir (found.ReadDir attr check rows eof) → ListsNames s t d attr rows eof → Served s call reply t
  by_readdirplus : (d : List ℕ) (cookie : ℕ) (verf : Verf) (dircount maxcount : ℕ) (attr : Option Attr) (check : Verf) (rows : List PlusRow) (eof : Bool) → call ≡ calls.Dir (dirs.ReadDirPlus d cookie verf dircount maxcount)
      → reply ≡ replies.Dir (found.ReadDirPlus attr check rows eof) → ListsObjects s t d attr rows eof → Served s call reply t

-- ---- the rows, where a call meets a reply of its own procedure; no other pair is done

file_row : (s t : Server) (call : FileCall) (reply : FileKept) → DoesFile s call reply t → Served s (calls.File call) (replies.File reply) t
file_row s t files.Null kept.Null d = by_nothing d
file_row s t files.Null (kept.GetAttr r_attr) d = absurd d
file_row s t files.Null (kept.GetAttrFail r_status) d = absurd d
file_row s t files.Null (kept.SetAttr r_wcc) d = absurd d
file_row s t files.Null (kept.SetAttrFail r_status r_wcc) d = absurd d
file_row s t files.Null (kept.Access r_attr r_bits) d = absurd d
file_row s t files.Null (kept.AccessFail r_status r_attr) d = absurd d
file_row s t files.Null (kept.Read r_attr r_count r_eof r_bytes) d = absurd d
file_row s t files.Null (kept.ReadFail r_status r_attr) d = absurd d
file_row s t files.Null (kept.Write r_wcc r_count r_committed r_verf) d = absurd d
file_row s t files.Null (kept.WriteFail r_status r_wcc) d = absurd d
file_row s t files.Null (kept.FsStat r_attr r_tbytes r_fbytes r_abytes r_tfiles r_ffiles r_afiles r_invarsec) d = absurd d
file_row s t files.Null (kept.FsStatFail r_status r_attr) d = absurd d
file_row s t files.Null (kept.FsInfo r_attr r_rtmax r_rtpref r_rtmult r_wtmax r_wtpref r_wtmult r_dtpref r_maxfilesize r_time_delta r_properties) d = absurd d
file_row s t files.Null (kept.FsInfoFail r_status r_attr) d = absurd d
file_row s t files.Null (kept.PathConf r_attr r_linkmax r_name_max r_no_trunc r_chown_restricted r_case_insensitive r_case_preserving) d = absurd d
file_row s t files.Null (kept.PathConfFail r_status r_attr) d = absurd d
file_row s t files.Null (kept.Commit r_wcc r_verf) d = absurd d
file_row s t files.Null (kept.CommitFail r_status r_wcc) d = absurd d
file_row s t (files.GetAttr file) kept.Null d = absurd d
file_row s t (files.GetAttr file) (kept.GetAttr r_attr) d = by_getattr file r_attr refl refl d
file_row s t (files.GetAttr file) (kept.GetAttrFail r_status) d = absurd d
file_row s t (files.GetAttr file) (kept.SetAttr r_wcc) d = absurd d
file_row s t (files.GetAttr file) (kept.SetAttrFail r_status r_wcc) d = absurd d
file_row s t (files.GetAttr file) (kept.Access r_attr r_bits) d = absurd d
file_row s t (files.GetAttr file) (kept.AccessFail r_status r_attr) d = absurd d
file_row s t (files.GetAttr file) (kept.Read r_attr r_count r_eof r_bytes) d = absurd d
file_row s t (files.GetAttr file) (kept.ReadFail r_status r_attr) d = absurd d
file_row s t (files.GetAttr file) (kept.Write r_wcc r_count r_committed r_verf) d = absurd d
file_row s t (files.GetAttr file) (kept.WriteFail r_status r_wcc) d = absurd d
file_row s t (files.GetAttr file) (kept.FsStat r_attr r_tbytes r_fbytes r_abytes r_tfiles r_ffiles r_afiles r_invarsec) d = absurd d
file_row s t (files.GetAttr file) (kept.FsStatFail r_status r_attr) d = absurd d
file_row s t (files.GetAttr file) (kept.FsInfo r_attr r_rtmax r_rtpref r_rtmult r_wtmax r_wtpref r_wtmult r_dtpref r_maxfilesize r_time_delta r_properties) d = absurd d
file_row s t (files.GetAttr file) (kept.FsInfoFail r_status r_attr) d = absurd d
file_row s t (files.GetAttr file) (kept.PathConf r_attr r_linkmax r_name_max r_no_trunc r_chown_restricted r_case_insensitive r_case_preserving) d = absurd d
file_row s t (files.GetAttr file) (kept.PathConfFail r_status r_attr) d = absurd d
file_row s t (files.GetAttr file) (kept.Commit r_wcc r_verf) d = absurd d
file_row s t (files.GetAttr file) (kept.CommitFail r_status r_wcc) d = absurd d
file_row s t (files.SetAttr file set guard) kept.Null d = absurd d
file_row s t (files.SetAttr file set guard) (kept.GetAttr r_attr) d = absurd d
file_row s t (files.SetAttr file set guard) (kept.GetAttrFail r_status) d = absurd d
file_row s t (files.SetAttr file set guard) (kept.SetAttr r_wcc) d = by_setattr file set guard r_wcc refl refl d
file_row s t (files.SetAttr file set guard) (kept.SetAttrFail r_status r_wcc) d = absurd d
file_row s t (files.SetAttr file set guard) (kept.Access r_attr r_bits) d = absurd d
file_row s t (files.SetAttr file set guard) (kept.AccessFail r_status r_attr) d = absurd d
file_row s t (files.SetAttr file set guard) (kept.Read r_attr r_count r_eof r_bytes) d = absurd d
file_row s t (files.SetAttr file set guard) (kept.ReadFail r_status r_attr) d = absurd d
file_row s t (files.SetAttr file set guard) (kept.Write r_wcc r_count r_committed r_verf) d = absurd d
file_row s t (files.SetAttr file set guard) (kept.WriteFail r_status r_wcc) d = absurd d
file_row s t (files.SetAttr file set guard) (kept.FsStat r_attr r_tbytes r_fbytes r_abytes r_tfiles r_ffiles r_afiles r_invarsec) d = absurd d
file_row s t (files.SetAttr file set guard) (kept.FsStatFail r_status r_attr) d = absurd d
file_row s t (files.SetAttr file set guard) (kept.FsInfo r_attr r_rtmax r_rtpref r_rtmult r_wtmax r_wtpref r_wtmult r_dtpref r_maxfilesize r_time_delta r_properties) d = absurd d
file_row s t (files.SetAttr file set guard) (kept.FsInfoFail r_status r_attr) d = absurd d
file_row s t (files.SetAttr file set guard) (kept.PathConf r_attr r_linkmax r_name_max r_no_trunc r_chown_restricted r_case_insensitive r_case_preserving) d = absurd d
file_row s t (files.SetAttr file set guard) (kept.PathConfFail r_status r_attr) d = absurd d
file_row s t (files.SetAttr file set guard) (kept.Commit r_wcc r_verf) d = absurd d
file_row s t (files.SetAttr file set guard) (kept.CommitFail r_status r_wcc) d = absurd d
file_row s t (files.Access file bits) kept.Null d = absurd d
file_row s t (files.Access file bits) (kept.GetAttr r_attr) d = absurd d
file_row s t (files.Access file bits) (kept.GetAttrFail r_status) d = absurd d
file_row s t (files.Access file bits) (kept.SetAttr r_wcc) d = absurd d
file_row s t (files.Access file bits) (kept.SetAttrFail r_status r_wcc) d = absurd d
file_row s t (files.Access file bits) (kept.Access r_attr r_bits) d = by_asking file r_attr d
file_row s t (files.Access file bits) (kept.AccessFail r_status r_attr) d = absurd d
file_row s t (files.Access file bits) (kept.Read r_attr r_count r_eof r_bytes) d = absurd d
file_row s t (files.Access file bits) (kept.ReadFail r_status r_attr) d = absurd d
file_row s t (files.Access file bits) (kept.Write r_wcc r_count r_committed r_verf) d = absurd d
file_row s t (files.Access file bits) (kept.WriteFail r_status r_wcc) d = absurd d
file_row s t (files.Access file bits) (kept.FsStat r_attr r_tbytes r_fbytes r_abytes r_tfiles r_ffiles r_afiles r_invarsec) d = absurd d
file_row s t (files.Access file bits) (kept.FsStatFail r_status r_attr) d = absurd d
file_row s t (files.Access file bits) (kept.FsInfo r_attr r_rtmax r_rtpref r_rtmult r_wtmax r_wtpref r_wtmult r_dtpref r_maxfilesize r_time_delta r_properties) d = absurd d
file_row s t (files.Access file bits) (kept.FsInfoFail r_status r_attr) d = absurd d
file_row s t (files.Access file bits) (kept.PathConf r_attr r_linkmax r_name_max r_no_trunc r_chown_restricted r_case_insensitive r_case_preserving) d = absurd d
file_row s t (files.Access file bits) (kept.PathConfFail r_status r_attr) d = absurd d
file_row s t (files.Access file bits) (kept.Commit r_wcc r_verf) d = absurd d
file_row s t (files.Access file bits) (kept.CommitFail r_status r_wcc) d = absurd d
file_row s t (files.Read file offset count) kept.Null d = absurd d
file_row s t (files.Read file offset count) (kept.GetAttr r_attr) d = absurd d
file_row s t (files.Read file offset count) (kept.GetAttrFail r_status) d = absurd d
file_row s t (files.Read file offset count) (kept.SetAttr r_wcc) d = absurd d
file_row s t (files.Read file offset count) (kept.SetAttrFail r_status r_wcc) d = absurd d
file_row s t (files.Read file offset count) (kept.Access r_attr r_bits) d = absurd d
file_row s t (files.Read file offset count) (kept.AccessFail r_status r_attr) d = absurd d
file_row s t (files.Read file offset count) (kept.Read r_attr r_count r_eof r_bytes) d = by_read file offset count r_attr r_count r_eof r_bytes refl refl d
file_row s t (files.Read file offset count) (kept.ReadFail r_status r_attr) d = absurd d
file_row s t (files.Read file offset count) (kept.Write r_wcc r_count r_committed r_verf) d = absurd d
file_row s t (files.Read file offset count) (kept.WriteFail r_status r_wcc) d = absurd d
file_row s t (files.Read file offset count) (kept.FsStat r_attr r_tbytes r_fbytes r_abytes r_tfiles r_ffiles r_afiles r_invarsec) d = absurd d
file_row s t (files.Read file offset count) (kept.FsStatFail r_status r_attr) d = absurd d
file_row s t (files.Read file offset count) (kept.FsInfo r_attr r_rtmax r_rtpref r_rtmult r_wtmax r_wtpref r_wtmult r_dtpref r_maxfilesize r_time_delta r_properties) d = absurd d
file_row s t (files.Read file offset count) (kept.FsInfoFail r_status r_attr) d = absurd d
file_row s t (files.Read file offset count) (kept.PathConf r_attr r_linkmax r_name_max r_no_trunc r_chown_restricted r_case_insensitive r_case_preserving) d = absurd d
file_row s t (files.Read file offset count) (kept.PathConfFail r_status r_attr) d = absurd d
file_row s t (files.Read file offset count) (kept.Commit r_wcc r_verf) d = absurd d
file_row s t (files.Read file offset count) (kept.CommitFail r_status r_wcc) d = absurd d
file_row s t (files.Write file offset how bytes) kept.Null d = absurd d
file_row s t (files.Write file offset how bytes) (kept.GetAttr r_attr) d = absurd d
file_row s t (files.Write file offset how bytes) (kept.GetAttrFail r_status) d = absurd d
file_row s t (files.Write file offset how bytes) (kept.SetAttr r_wcc) d = absurd d
file_row s t (files.Write file offset how bytes) (kept.SetAttrFail r_status r_wcc) d = absurd d
file_row s t (files.Write file offset how bytes) (kept.Access r_attr r_bits) d = absurd d
file_row s t (files.Write file offset how bytes) (kept.AccessFail r_status r_attr) d = absurd d
file_row s t (files.Write file offset how bytes) (kept.Read r_attr r_count r_eof r_bytes) d = absurd d
file_row s t (files.Write file offset how bytes) (kept.ReadFail r_status r_attr) d = absurd d
file_row s t (files.Write file offset how bytes) (kept.Write r_wcc r_count r_committed r_verf) d = by_write file offset how bytes r_wcc r_count r_committed r_verf refl refl d
file_row s t (files.Write file offset how bytes) (kept.WriteFail r_status r_wcc) d = absurd d
file_row s t (files.Write file offset how bytes) (kept.FsStat r_attr r_tbytes r_fbytes r_abytes r_tfiles r_ffiles r_afiles r_invarsec) d = absurd d
file_row s t (files.Write file offset how bytes) (kept.FsStatFail r_status r_attr) d = absurd d
file_row s t (files.Write file offset how bytes) (kept.FsInfo r_attr r_rtmax r_rtpref r_rtmult r_wtmax r_wtpref r_wtmult r_dtpref r_maxfilesize r_time_delta r_properties) d = absurd d
file_row s t (files.Write file offset how bytes) (kept.FsInfoFail r_status r_attr) d = absurd d
file_row s t (files.Write file offset how bytes) (kept.PathConf r_attr r_linkmax r_name_max r_no_trunc r_chown_restricted r_case_insensitive r_case_preserving) d = absurd d
file_row s t (files.Write file offset how bytes) (kept.PathConfFail r_status r_attr) d = absurd d
file_row s t (files.Write file offset how bytes) (kept.Commit r_wcc r_verf) d = absurd d
file_row s t (files.Write file offset how bytes) (kept.CommitFail r_status r_wcc) d = absurd d
file_row s t (files.FsStat file) kept.Null d = absurd d
file_row s t (files.FsStat file) (kept.GetAttr r_attr) d = absurd d
file_row s t (files.FsStat file) (kept.GetAttrFail r_status) d = absurd d
file_row s t (files.FsStat file) (kept.SetAttr r_wcc) d = absurd d
file_row s t (files.FsStat file) (kept.SetAttrFail r_status r_wcc) d = absurd d
file_row s t (files.FsStat file) (kept.Access r_attr r_bits) d = absurd d
file_row s t (files.FsStat file) (kept.AccessFail r_status r_attr) d = absurd d
file_row s t (files.FsStat file) (kept.Read r_attr r_count r_eof r_bytes) d = absurd d
file_row s t (files.FsStat file) (kept.ReadFail r_status r_attr) d = absurd d
file_row s t (files.FsStat file) (kept.Write r_wcc r_count r_committed r_verf) d = absurd d
file_row s t (files.FsStat file) (kept.WriteFail r_status r_wcc) d = absurd d
file_row s t (files.FsStat file) (kept.FsStat r_attr r_tbytes r_fbytes r_abytes r_tfiles r_ffiles r_afiles r_invarsec) d = by_asking file r_attr d
file_row s t (files.FsStat file) (kept.FsStatFail r_status r_attr) d = absurd d
file_row s t (files.FsStat file) (kept.FsInfo r_attr r_rtmax r_rtpref r_rtmult r_wtmax r_wtpref r_wtmult r_dtpref r_maxfilesize r_time_delta r_properties) d = absurd d
file_row s t (files.FsStat file) (kept.FsInfoFail r_status r_attr) d = absurd d
file_row s t (files.FsStat file) (kept.PathConf r_attr r_linkmax r_name_max r_no_trunc r_chown_restricted r_case_insensitive r_case_preserving) d = absurd d
file_row s t (files.FsStat file) (kept.PathConfFail r_status r_attr) d = absurd d
file_row s t (files.FsStat file) (kept.Commit r_wcc r_verf) d = absurd d
file_row s t (files.FsStat file) (kept.CommitFail r_status r_wcc) d = absurd d
file_row s t (files.FsInfo file) kept.Null d = absurd d
file_row s t (files.FsInfo file) (kept.GetAttr r_attr) d = absurd d
file_row s t (files.FsInfo file) (kept.GetAttrFail r_status) d = absurd d
file_row s t (files.FsInfo file) (kept.SetAttr r_wcc) d = absurd d
file_row s t (files.FsInfo file) (kept.SetAttrFail r_status r_wcc) d = absurd d
file_row s t (files.FsInfo file) (kept.Access r_attr r_bits) d = absurd d
file_row s t (files.FsInfo file) (kept.AccessFail r_status r_attr) d = absurd d
file_row s t (files.FsInfo file) (kept.Read r_attr r_count r_eof r_bytes) d = absurd d
file_row s t (files.FsInfo file) (kept.ReadFail r_status r_attr) d = absurd d
file_row s t (files.FsInfo file) (kept.Write r_wcc r_count r_committed r_verf) d = absurd d
file_row s t (files.FsInfo file) (kept.WriteFail r_status r_wcc) d = absurd d
file_row s t (files.FsInfo file) (kept.FsStat r_attr r_tbytes r_fbytes r_abytes r_tfiles r_ffiles r_afiles r_invarsec) d = absurd d
file_row s t (files.FsInfo file) (kept.FsStatFail r_status r_attr) d = absurd d
file_row s t (files.FsInfo file) (kept.FsInfo r_attr r_rtmax r_rtpref r_rtmult r_wtmax r_wtpref r_wtmult r_dtpref r_maxfilesize r_time_delta r_properties) d = by_asking file r_attr d
file_row s t (files.FsInfo file) (kept.FsInfoFail r_status r_attr) d = absurd d
file_row s t (files.FsInfo file) (kept.PathConf r_attr r_linkmax r_name_max r_no_trunc r_chown_restricted r_case_insensitive r_case_preserving) d = absurd d
file_row s t (files.FsInfo file) (kept.PathConfFail r_status r_attr) d = absurd d
file_row s t (files.FsInfo file) (kept.Commit r_wcc r_verf) d = absurd d
file_row s t (files.FsInfo file) (kept.CommitFail r_status r_wcc) d = absurd d
file_row s t (files.PathConf file) kept.Null d = absurd d
file_row s t (files.PathConf file) (kept.GetAttr r_attr) d = absurd d
file_row s t (files.PathConf file) (kept.GetAttrFail r_status) d = absurd d
file_row s t (files.PathConf file) (kept.SetAttr r_wcc) d = absurd d
file_row s t (files.PathConf file) (kept.SetAttrFail r_status r_wcc) d = absurd d
file_row s t (files.PathConf file) (kept.Access r_attr r_bits) d = absurd d
file_row s t (files.PathConf file) (kept.AccessFail r_status r_attr) d = absurd d
file_row s t (files.PathConf file) (kept.Read r_attr r_count r_eof r_bytes) d = absurd d
file_row s t (files.PathConf file) (kept.ReadFail r_status r_attr) d = absurd d
file_row s t (files.PathConf file) (kept.Write r_wcc r_count r_committed r_verf) d = absurd d
file_row s t (files.PathConf file) (kept.WriteFail r_status r_wcc) d = absurd d
file_row s t (files.PathConf file) (kept.FsStat r_attr r_tbytes r_fbytes r_abytes r_tfiles r_ffiles r_afiles r_invarsec) d = absurd d
file_row s t (files.PathConf file) (kept.FsStatFail r_status r_attr) d = absurd d
file_row s t (files.PathConf file) (kept.FsInfo r_attr r_rtmax r_rtpref r_rtmult r_wtmax r_wtpref r_wtmult r_dtpref r_maxfilesize r_time_delta r_properties) d = absurd d
file_row s t (files.PathConf file) (kept.FsInfoFail r_status r_attr) d = absurd d
file_row s t (files.PathConf file) (kept.PathConf r_attr r_linkmax r_name_max r_no_trunc r_chown_restricted r_case_insensitive r_case_preserving) d = by_asking file r_attr d
file_row s t (files.PathConf file) (kept.PathConfFail r_status r_attr) d = absurd d
file_row s t (files.PathConf file) (kept.Commit r_wcc r_verf) d = absurd d
file_row s t (files.PathConf file) (kept.CommitFail r_status r_wcc) d = absurd d
file_row s t (files.Commit file offset count) kept.Null d = absurd d
file_row s t (files.Commit file offset count) (kept.GetAttr r_attr) d = absurd d
file_row s t (files.Commit file offset count) (kept.GetAttrFail r_status) d = absurd d
file_row s t (files.Commit file offset count) (kept.SetAttr r_wcc) d = absurd d
file_row s t (files.Commit file offset count) (kept.SetAttrFail r_status r_wcc) d = absurd d
file_row s t (files.Commit file offset count) (kept.Access r_attr r_bits) d = absurd d
file_row s t (files.Commit file offset count) (kept.AccessFail r_status r_attr) d = absurd d
file_row s t (files.Commit file offset count) (kept.Read r_attr r_count r_eof r_bytes) d = absurd d
file_row s t (files.Commit file offset count) (kept.ReadFail r_status r_attr) d = absurd d
file_row s t (files.Commit file offset count) (kept.Write r_wcc r_count r_committed r_verf) d = absurd d
file_row s t (files.Commit file offset count) (kept.WriteFail r_status r_wcc) d = absurd d
file_row s t (files.Commit file offset count) (kept.FsStat r_attr r_tbytes r_fbytes r_abytes r_tfiles r_ffiles r_afiles r_invarsec) d = absurd d
file_row s t (files.Commit file offset count) (kept.FsStatFail r_status r_attr) d = absurd d
file_row s t (files.Commit file offset count) (kept.FsInfo r_attr r_rtmax r_rtpref r_rtmult r_wtmax r_wtpref r_wtmult r_dtpref r_maxfilesize r_time_delta r_properties) d = absurd d
file_row s t (files.Commit file offset count) (kept.FsInfoFail r_status r_attr) d = absurd d
file_row s t (files.Commit file offset count) (kept.PathConf r_attr r_linkmax r_name_max r_no_trunc r_chown_restricted r_case_insensitive r_case_preserving) d = absurd d
file_row s t (files.Commit file offset count) (kept.PathConfFail r_status r_attr) d = absurd d
file_row s t (files.Commit file offset count) (kept.Commit r_wcc r_verf) d = by_commit file offset count r_wcc r_verf refl refl d
file_row s t (files.Commit file offset count) (kept.CommitFail r_status r_wcc) d = absurd d

dir_row : (s t : Server) (call : DirCall) (reply : DirKept) → DoesDir s call reply t → Served s (calls.Dir call) (replies.Dir reply) t
dir_row s t (dirs.Lookup dir name) (found.Lookup r_found r_attr r_dir) d = by_lookup dir name r_found r_attr r_dir refl refl d
dir_row s t (dirs.Lookup dir name) (found.LookupFail r_status r_dir) d = absurd d
dir_row s t (dirs.Lookup dir name) (found.ReadLink r_attr r_text) d = absurd d
dir_row s t (dirs.Lookup dir name) (found.ReadLinkFail r_status r_attr) d = absurd d
dir_row s t (dirs.Lookup dir name) (found.Create r_found r_attr r_wcc) d = absurd d
dir_row s t (dirs.Lookup dir name) (found.CreateFail r_status r_wcc) d = absurd d
dir_row s t (dirs.Lookup dir name) (found.MkDir r_found r_attr r_wcc) d = absurd d
dir_row s t (dirs.Lookup dir name) (found.MkDirFail r_status r_wcc) d = absurd d
dir_row s t (dirs.Lookup dir name) (found.SymLink r_found r_attr r_wcc) d = absurd d
dir_row s t (dirs.Lookup dir name) (found.SymLinkFail r_status r_wcc) d = absurd d
dir_row s t (dirs.Lookup dir name) (found.MkNod r_found r_attr r_wcc) d = absurd d
dir_row s t (dirs.Lookup dir name) (found.MkNodFail r_status r_wcc) d = absurd d
dir_row s t (dirs.Lookup dir name) (found.Remove r_wcc) d = absurd d
dir_row s t (dirs.Lookup dir name) (found.RemoveFail r_status r_wcc) d = absurd d
dir_row s t (dirs.Lookup dir name) (found.RmDir r_wcc) d = absurd d
dir_row s t (dirs.Lookup dir name) (found.RmDirFail r_status r_wcc) d = absurd d
dir_row s t (dirs.Lookup dir name) (found.Rename r_from r_to) d = absurd d
dir_row s t (dirs.Lookup dir name) (found.RenameFail r_status r_from r_to) d = absurd d
dir_row s t (dirs.Lookup dir name) (found.Link r_attr r_wcc) d = absurd d
dir_row s t (dirs.Lookup dir name) (found.LinkFail r_status r_attr r_wcc) d = absurd d
dir_row s t (dirs.Lookup dir name) (found.ReadDir r_attr r_verf r_page r_eof) d = absurd d
dir_row s t (dirs.Lookup dir name) (found.ReadDirFail r_status r_attr) d = absurd d
dir_row s t (dirs.Lookup dir name) (found.ReadDirPlus r_attr r_verf r_page r_eof) d = absurd d
dir_row s t (dirs.Lookup dir name) (found.ReadDirPlusFail r_status r_attr) d = absurd d
dir_row s t (dirs.ReadLink file) (found.Lookup r_found r_attr r_dir) d = absurd d
dir_row s t (dirs.ReadLink file) (found.LookupFail r_status r_dir) d = absurd d
dir_row s t (dirs.ReadLink file) (found.ReadLink r_attr r_text) d = by_readlink file r_attr r_text refl refl d
dir_row s t (dirs.ReadLink file) (found.ReadLinkFail r_status r_attr) d = absurd d
dir_row s t (dirs.ReadLink file) (found.Create r_found r_attr r_wcc) d = absurd d
dir_row s t (dirs.ReadLink file) (found.CreateFail r_status r_wcc) d = absurd d
dir_row s t (dirs.ReadLink file) (found.MkDir r_found r_attr r_wcc) d = absurd d
dir_row s t (dirs.ReadLink file) (found.MkDirFail r_status r_wcc) d = absurd d
dir_row s t (dirs.ReadLink file) (found.SymLink r_found r_attr r_wcc) d = absurd d
dir_row s t (dirs.ReadLink file) (found.SymLinkFail r_status r_wcc) d = absurd d
dir_row s t (dirs.ReadLink file) (found.MkNod r_found r_attr r_wcc) d = absurd d
dir_row s t (dirs.ReadLink file) (found.MkNodFail r_status r_wcc) d = absurd d
dir_row s t (dirs.ReadLink file) (found.Remove r_wcc) d = absurd d
dir_row s t (dirs.ReadLink file) (found.RemoveFail r_status r_wcc) d = absurd d
dir_row s t (dirs.ReadLink file) (found.RmDir r_wcc) d = absurd d
dir_row s t (dirs.ReadLink file) (found.RmDirFail r_status r_wcc) d = absurd d
dir_row s t (dirs.ReadLink file) (found.Rename r_from r_to) d = absurd d
dir_row s t (dirs.ReadLink file) (found.RenameFail r_status r_from r_to) d = absurd d
dir_row s t (dirs.ReadLink file) (found.Link r_attr r_wcc) d = absurd d
dir_row s t (dirs.ReadLink file) (found.LinkFail r_status r_attr r_wcc) d = absurd d
dir_row s t (dirs.ReadLink file) (found.ReadDir r_attr r_verf r_page r_eof) d = absurd d
dir_row s t (dirs.ReadLink file) (found.ReadDirFail r_status r_attr) d = absurd d
dir_row s t (dirs.ReadLink file) (found.ReadDirPlus r_attr r_verf r_page r_eof) d = absurd d
dir_row s t (dirs.ReadLink file) (found.ReadDirPlusFail r_status r_attr) d = absurd d
dir_row s t (dirs.Create dir name making) (found.Lookup r_found r_attr r_dir) d = absurd d
dir_row s t (dirs.Create dir name making) (found.LookupFail r_status r_dir) d = absurd d
dir_row s t (dirs.Create dir name making) (found.ReadLink r_attr r_text) d = absurd d
dir_row s t (dirs.Create dir name making) (found.ReadLinkFail r_status r_attr) d = absurd d
dir_row s t (dirs.Create dir name making) (found.Create r_found r_attr r_wcc) d = by_create dir name making r_found r_attr r_wcc refl refl d
dir_row s t (dirs.Create dir name making) (found.CreateFail r_status r_wcc) d = absurd d
dir_row s t (dirs.Create dir name making) (found.MkDir r_found r_attr r_wcc) d = absurd d
dir_row s t (dirs.Create dir name making) (found.MkDirFail r_status r_wcc) d = absurd d
dir_row s t (dirs.Create dir name making) (found.SymLink r_found r_attr r_wcc) d = absurd d
dir_row s t (dirs.Create dir name making) (found.SymLinkFail r_status r_wcc) d = absurd d
dir_row s t (dirs.Create dir name making) (found.MkNod r_found r_attr r_wcc) d = absurd d
dir_row s t (dirs.Create dir name making) (found.MkNodFail r_status r_wcc) d = absurd d
dir_row s t (dirs.Create dir name making) (found.Remove r_wcc) d = absurd d
dir_row s t (dirs.Create dir name making) (found.RemoveFail r_status r_wcc) d = absurd d
dir_row s t (dirs.Create dir name making) (found.RmDir r_wcc) d = absurd d
dir_row s t (dirs.Create dir name making) (found.RmDirFail r_status r_wcc) d = absurd d
dir_row s t (dirs.Create dir name making) (found.Rename r_from r_to) d = absurd d
dir_row s t (dirs.Create dir name making) (found.RenameFail r_status r_from r_to) d = absurd d
dir_row s t (dirs.Create dir name making) (found.Link r_attr r_wcc) d = absurd d
dir_row s t (dirs.Create dir name making) (found.LinkFail r_status r_attr r_wcc) d = absurd d
dir_row s t (dirs.Create dir name making) (found.ReadDir r_attr r_verf r_page r_eof) d = absurd d
dir_row s t (dirs.Create dir name making) (found.ReadDirFail r_status r_attr) d = absurd d
dir_row s t (dirs.Create dir name making) (found.ReadDirPlus r_attr r_verf r_page r_eof) d = absurd d
dir_row s t (dirs.Create dir name making) (found.ReadDirPlusFail r_status r_attr) d = absurd d
dir_row s t (dirs.MkDir dir name set) (found.Lookup r_found r_attr r_dir) d = absurd d
dir_row s t (dirs.MkDir dir name set) (found.LookupFail r_status r_dir) d = absurd d
dir_row s t (dirs.MkDir dir name set) (found.ReadLink r_attr r_text) d = absurd d
dir_row s t (dirs.MkDir dir name set) (found.ReadLinkFail r_status r_attr) d = absurd d
dir_row s t (dirs.MkDir dir name set) (found.Create r_found r_attr r_wcc) d = absurd d
dir_row s t (dirs.MkDir dir name set) (found.CreateFail r_status r_wcc) d = absurd d
dir_row s t (dirs.MkDir dir name set) (found.MkDir r_found r_attr r_wcc) d = by_mkdir dir name set r_found r_attr r_wcc refl refl d
dir_row s t (dirs.MkDir dir name set) (found.MkDirFail r_status r_wcc) d = absurd d
dir_row s t (dirs.MkDir dir name set) (found.SymLink r_found r_attr r_wcc) d = absurd d
dir_row s t (dirs.MkDir dir name set) (found.SymLinkFail r_status r_wcc) d = absurd d
dir_row s t (dirs.MkDir dir name set) (found.MkNod r_found r_attr r_wcc) d = absurd d
dir_row s t (dirs.MkDir dir name set) (found.MkNodFail r_status r_wcc) d = absurd d
dir_row s t (dirs.MkDir dir name set) (found.Remove r_wcc) d = absurd d
dir_row s t (dirs.MkDir dir name set) (found.RemoveFail r_status r_wcc) d = absurd d
dir_row s t (dirs.MkDir dir name set) (found.RmDir r_wcc) d = absurd d
dir_row s t (dirs.MkDir dir name set) (found.RmDirFail r_status r_wcc) d = absurd d
dir_row s t (dirs.MkDir dir name set) (found.Rename r_from r_to) d = absurd d
dir_row s t (dirs.MkDir dir name set) (found.RenameFail r_status r_from r_to) d = absurd d
dir_row s t (dirs.MkDir dir name set) (found.Link r_attr r_wcc) d = absurd d
dir_row s t (dirs.MkDir dir name set) (found.LinkFail r_status r_attr r_wcc) d = absurd d
dir_row s t (dirs.MkDir dir name set) (found.ReadDir r_attr r_verf r_page r_eof) d = absurd d
dir_row s t (dirs.MkDir dir name set) (found.ReadDirFail r_status r_attr) d = absurd d
dir_row s t (dirs.MkDir dir name set) (found.ReadDirPlus r_attr r_verf r_page r_eof) d = absurd d
dir_row s t (dirs.MkDir dir name set) (found.ReadDirPlusFail r_status r_attr) d = absurd d
dir_row s t (dirs.SymLink dir name set target) (found.Lookup r_found r_attr r_dir) d = absurd d
dir_row s t (dirs.SymLink dir name set target) (found.LookupFail r_status r_dir) d = absurd d
dir_row s t (dirs.SymLink dir name set target) (found.ReadLink r_attr r_text) d = absurd d
dir_row s t (dirs.SymLink dir name set target) (found.ReadLinkFail r_status r_attr) d = absurd d
dir_row s t (dirs.SymLink dir name set target) (found.Create r_found r_attr r_wcc) d = absurd d
dir_row s t (dirs.SymLink dir name set target) (found.CreateFail r_status r_wcc) d = absurd d
dir_row s t (dirs.SymLink dir name set target) (found.MkDir r_found r_attr r_wcc) d = absurd d
dir_row s t (dirs.SymLink dir name set target) (found.MkDirFail r_status r_wcc) d = absurd d
dir_row s t (dirs.SymLink dir name set target) (found.SymLink r_found r_attr r_wcc) d = by_symlink dir name set target r_found r_attr r_wcc refl refl d
dir_row s t (dirs.SymLink dir name set target) (found.SymLinkFail r_status r_wcc) d = absurd d
dir_row s t (dirs.SymLink dir name set target) (found.MkNod r_found r_attr r_wcc) d = absurd d
dir_row s t (dirs.SymLink dir name set target) (found.MkNodFail r_status r_wcc) d = absurd d
dir_row s t (dirs.SymLink dir name set target) (found.Remove r_wcc) d = absurd d
dir_row s t (dirs.SymLink dir name set target) (found.RemoveFail r_status r_wcc) d = absurd d
dir_row s t (dirs.SymLink dir name set target) (found.RmDir r_wcc) d = absurd d
dir_row s t (dirs.SymLink dir name set target) (found.RmDirFail r_status r_wcc) d = absurd d
dir_row s t (dirs.SymLink dir name set target) (found.Rename r_from r_to) d = absurd d
dir_row s t (dirs.SymLink dir name set target) (found.RenameFail r_status r_from r_to) d = absurd d
dir_row s t (dirs.SymLink dir name set target) (found.Link r_attr r_wcc) d = absurd d
dir_row s t (dirs.SymLink dir name set target) (found.LinkFail r_status r_attr r_wcc) d = absurd d
dir_row s t (dirs.SymLink dir name set target) (found.ReadDir r_attr r_verf r_page r_eof) d = absurd d
dir_row s t (dirs.SymLink dir name set target) (found.ReadDirFail r_status r_attr) d = absurd d
dir_row s t (dirs.SymLink dir name set target) (found.ReadDirPlus r_attr r_verf r_page r_eof) d = absurd d
dir_row s t (dirs.SymLink dir name set target) (found.ReadDirPlusFail r_status r_attr) d = absurd d
dir_row s t (dirs.MkNod dir name node) (found.Lookup r_found r_attr r_dir) d = absurd d
dir_row s t (dirs.MkNod dir name node) (found.LookupFail r_status r_dir) d = absurd d
dir_row s t (dirs.MkNod dir name node) (found.ReadLink r_attr r_text) d = absurd d
dir_row s t (dirs.MkNod dir name node) (found.ReadLinkFail r_status r_attr) d = absurd d
dir_row s t (dirs.MkNod dir name node) (found.Create r_found r_attr r_wcc) d = absurd d
dir_row s t (dirs.MkNod dir name node) (found.CreateFail r_status r_wcc) d = absurd d
dir_row s t (dirs.MkNod dir name node) (found.MkDir r_found r_attr r_wcc) d = absurd d
dir_row s t (dirs.MkNod dir name node) (found.MkDirFail r_status r_wcc) d = absurd d
dir_row s t (dirs.MkNod dir name node) (found.SymLink r_found r_attr r_wcc) d = absurd d
dir_row s t (dirs.MkNod dir name node) (found.SymLinkFail r_status r_wcc) d = absurd d
dir_row s t (dirs.MkNod dir name node) (found.MkNod r_found r_attr r_wcc) d = by_mknod dir name node r_found r_attr r_wcc refl refl d
dir_row s t (dirs.MkNod dir name node) (found.MkNodFail r_status r_wcc) d = absurd d
dir_row s t (dirs.MkNod dir name node) (found.Remove r_wcc) d = absurd d
dir_row s t (dirs.MkNod dir name node) (found.RemoveFail r_status r_wcc) d = absurd d
dir_row s t (dirs.MkNod dir name node) (found.RmDir r_wcc) d = absurd d
dir_row s t (dirs.MkNod dir name node) (found.RmDirFail r_status r_wcc) d = absurd d
dir_row s t (dirs.MkNod dir name node) (found.Rename r_from r_to) d = absurd d
dir_row s t (dirs.MkNod dir name node) (found.RenameFail r_status r_from r_to) d = absurd d
dir_row s t (dirs.MkNod dir name node) (found.Link r_attr r_wcc) d = absurd d
dir_row s t (dirs.MkNod dir name node) (found.LinkFail r_status r_attr r_wcc) d = absurd d
dir_row s t (dirs.MkNod dir name node) (found.ReadDir r_attr r_verf r_page r_eof) d = absurd d
dir_row s t (dirs.MkNod dir name node) (found.ReadDirFail r_status r_attr) d = absurd d
dir_row s t (dirs.MkNod dir name node) (found.ReadDirPlus r_attr r_verf r_page r_eof) d = absurd d
dir_row s t (dirs.MkNod dir name node) (found.ReadDirPlusFail r_status r_attr) d = absurd d
dir_row s t (dirs.Remove dir name) (found.Lookup r_found r_attr r_dir) d = absurd d
dir_row s t (dirs.Remove dir name) (found.LookupFail r_status r_dir) d = absurd d
dir_row s t (dirs.Remove dir name) (found.ReadLink r_attr r_text) d = absurd d
dir_row s t (dirs.Remove dir name) (found.ReadLinkFail r_status r_attr) d = absurd d
dir_row s t (dirs.Remove dir name) (found.Create r_found r_attr r_wcc) d = absurd d
dir_row s t (dirs.Remove dir name) (found.CreateFail r_status r_wcc) d = absurd d
dir_row s t (dirs.Remove dir name) (found.MkDir r_found r_attr r_wcc) d = absurd d
dir_row s t (dirs.Remove dir name) (found.MkDirFail r_status r_wcc) d = absurd d
dir_row s t (dirs.Remove dir name) (found.SymLink r_found r_attr r_wcc) d = absurd d
dir_row s t (dirs.Remove dir name) (found.SymLinkFail r_status r_wcc) d = absurd d
dir_row s t (dirs.Remove dir name) (found.MkNod r_found r_attr r_wcc) d = absurd d
dir_row s t (dirs.Remove dir name) (found.MkNodFail r_status r_wcc) d = absurd d
dir_row s t (dirs.Remove dir name) (found.Remove r_wcc) d = by_remove dir name r_wcc refl refl d
dir_row s t (dirs.Remove dir name) (found.RemoveFail r_status r_wcc) d = absurd d
dir_row s t (dirs.Remove dir name) (found.RmDir r_wcc) d = absurd d
dir_row s t (dirs.Remove dir name) (found.RmDirFail r_status r_wcc) d = absurd d
dir_row s t (dirs.Remove dir name) (found.Rename r_from r_to) d = absurd d
dir_row s t (dirs.Remove dir name) (found.RenameFail r_status r_from r_to) d = absurd d
dir_row s t (dirs.Remove dir name) (found.Link r_attr r_wcc) d = absurd d
dir_row s t (dirs.Remove dir name) (found.LinkFail r_status r_attr r_wcc) d = absurd d
dir_row s t (dirs.Remove dir name) (found.ReadDir r_attr r_verf r_page r_eof) d = absurd d
dir_row s t (dirs.Remove dir name) (found.ReadDirFail r_status r_attr) d = absurd d
dir_row s t (dirs.Remove dir name) (found.ReadDirPlus r_attr r_verf r_page r_eof) d = absurd d
dir_row s t (dirs.Remove dir name) (found.ReadDirPlusFail r_status r_attr) d = absurd d
dir_row s t (dirs.RmDir dir name) (found.Lookup r_found r_attr r_dir) d = absurd d
dir_row s t (dirs.RmDir dir name) (found.LookupFail r_status r_dir) d = absurd d
dir_row s t (dirs.RmDir dir name) (found.ReadLink r_attr r_text) d = absurd d
dir_row s t (dirs.RmDir dir name) (found.ReadLinkFail r_status r_attr) d = absurd d
dir_row s t (dirs.RmDir dir name) (found.Create r_found r_attr r_wcc) d = absurd d
dir_row s t (dirs.RmDir dir name) (found.CreateFail r_status r_wcc) d = absurd d
dir_row s t (dirs.RmDir dir name) (found.MkDir r_found r_attr r_wcc) d = absurd d
dir_row s t (dirs.RmDir dir name) (found.MkDirFail r_status r_wcc) d = absurd d
dir_row s t (dirs.RmDir dir name) (found.SymLink r_found r_attr r_wcc) d = absurd d
dir_row s t (dirs.RmDir dir name) (found.SymLinkFail r_status r_wcc) d = absurd d
dir_row s t (dirs.RmDir dir name) (found.MkNod r_found r_attr r_wcc) d = absurd d
dir_row s t (dirs.RmDir dir name) (found.MkNodFail r_status r_wcc) d = absurd d
dir_row s t (dirs.RmDir dir name) (found.Remove r_wcc) d = absurd d
dir_row s t (dirs.RmDir dir name) (found.RemoveFail r_status r_wcc) d = absurd d
dir_row s t (dirs.RmDir dir name) (found.RmDir r_wcc) d = by_rmdir dir name r_wcc refl refl d
dir_row s t (dirs.RmDir dir name) (found.RmDirFail r_status r_wcc) d = absurd d
dir_row s t (dirs.RmDir dir name) (found.Rename r_from r_to) d = absurd d
dir_row s t (dirs.RmDir dir name) (found.RenameFail r_status r_from r_to) d = absurd d
dir_row s t (dirs.RmDir dir name) (found.Link r_attr r_wcc) d = absurd d
dir_row s t (dirs.RmDir dir name) (found.LinkFail r_status r_attr r_wcc) d = absurd d
dir_row s t (dirs.RmDir dir name) (found.ReadDir r_attr r_verf r_page r_eof) d = absurd d
dir_row s t (dirs.RmDir dir name) (found.ReadDirFail r_status r_attr) d = absurd d
dir_row s t (dirs.RmDir dir name) (found.ReadDirPlus r_attr r_verf r_page r_eof) d = absurd d
dir_row s t (dirs.RmDir dir name) (found.ReadDirPlusFail r_status r_attr) d = absurd d
dir_row s t (dirs.Rename from_dir from to_dir to) (found.Lookup r_found r_attr r_dir) d = absurd d
dir_row s t (dirs.Rename from_dir from to_dir to) (found.LookupFail r_status r_dir) d = absurd d
dir_row s t (dirs.Rename from_dir from to_dir to) (found.ReadLink r_attr r_text) d = absurd d
dir_row s t (dirs.Rename from_dir from to_dir to) (found.ReadLinkFail r_status r_attr) d = absurd d
dir_row s t (dirs.Rename from_dir from to_dir to) (found.Create r_found r_attr r_wcc) d = absurd d
dir_row s t (dirs.Rename from_dir from to_dir to) (found.CreateFail r_status r_wcc) d = absurd d
dir_row s t (dirs.Rename from_dir from to_dir to) (found.MkDir r_found r_attr r_wcc) d = absurd d
dir_row s t (dirs.Rename from_dir from to_dir to) (found.MkDirFail r_status r_wcc) d = absurd d
dir_row s t (dirs.Rename from_dir from to_dir to) (found.SymLink r_found r_attr r_wcc) d = absurd d
dir_row s t (dirs.Rename from_dir from to_dir to) (found.SymLinkFail r_status r_wcc) d = absurd d
dir_row s t (dirs.Rename from_dir from to_dir to) (found.MkNod r_found r_attr r_wcc) d = absurd d
dir_row s t (dirs.Rename from_dir from to_dir to) (found.MkNodFail r_status r_wcc) d = absurd d
dir_row s t (dirs.Rename from_dir from to_dir to) (found.Remove r_wcc) d = absurd d
dir_row s t (dirs.Rename from_dir from to_dir to) (found.RemoveFail r_status r_wcc) d = absurd d
dir_row s t (dirs.Rename from_dir from to_dir to) (found.RmDir r_wcc) d = absurd d
dir_row s t (dirs.Rename from_dir from to_dir to) (found.RmDirFail r_status r_wcc) d = absurd d
dir_row s t (dirs.Rename from_dir from to_dir to) (found.Rename r_from r_to) d = by_rename from_dir from to_dir to r_from r_to refl refl d
dir_row s t (dirs.Rename from_dir from to_dir to) (found.RenameFail r_status r_from r_to) d = absurd d
dir_row s t (dirs.Rename from_dir from to_dir to) (found.Link r_attr r_wcc) d = absurd d
dir_row s t (dirs.Rename from_dir from to_dir to) (found.LinkFail r_status r_attr r_wcc) d = absurd d
dir_row s t (dirs.Rename from_dir from to_dir to) (found.ReadDir r_attr r_verf r_page r_eof) d = absurd d
dir_row s t (dirs.Rename from_dir from to_dir to) (found.ReadDirFail r_status r_attr) d = absurd d
dir_row s t (dirs.Rename from_dir from to_dir to) (found.ReadDirPlus r_attr r_verf r_page r_eof) d = absurd d
dir_row s t (dirs.Rename from_dir from to_dir to) (found.ReadDirPlusFail r_status r_attr) d = absurd d
dir_row s t (dirs.Link file dir name) (found.Lookup r_found r_attr r_dir) d = absurd d
dir_row s t (dirs.Link file dir name) (found.LookupFail r_status r_dir) d = absurd d
dir_row s t (dirs.Link file dir name) (found.ReadLink r_attr r_text) d = absurd d
dir_row s t (dirs.Link file dir name) (found.ReadLinkFail r_status r_attr) d = absurd d
dir_row s t (dirs.Link file dir name) (found.Create r_found r_attr r_wcc) d = absurd d
dir_row s t (dirs.Link file dir name) (found.CreateFail r_status r_wcc) d = absurd d
dir_row s t (dirs.Link file dir name) (found.MkDir r_found r_attr r_wcc) d = absurd d
dir_row s t (dirs.Link file dir name) (found.MkDirFail r_status r_wcc) d = absurd d
dir_row s t (dirs.Link file dir name) (found.SymLink r_found r_attr r_wcc) d = absurd d
dir_row s t (dirs.Link file dir name) (found.SymLinkFail r_status r_wcc) d = absurd d
dir_row s t (dirs.Link file dir name) (found.MkNod r_found r_attr r_wcc) d = absurd d
dir_row s t (dirs.Link file dir name) (found.MkNodFail r_status r_wcc) d = absurd d
dir_row s t (dirs.Link file dir name) (found.Remove r_wcc) d = absurd d
dir_row s t (dirs.Link file dir name) (found.RemoveFail r_status r_wcc) d = absurd d
dir_row s t (dirs.Link file dir name) (found.RmDir r_wcc) d = absurd d
dir_row s t (dirs.Link file dir name) (found.RmDirFail r_status r_wcc) d = absurd d
dir_row s t (dirs.Link file dir name) (found.Rename r_from r_to) d = absurd d
dir_row s t (dirs.Link file dir name) (found.RenameFail r_status r_from r_to) d = absurd d
dir_row s t (dirs.Link file dir name) (found.Link r_attr r_wcc) d = by_link file dir name r_attr r_wcc refl refl d
dir_row s t (dirs.Link file dir name) (found.LinkFail r_status r_attr r_wcc) d = absurd d
dir_row s t (dirs.Link file dir name) (found.ReadDir r_attr r_verf r_page r_eof) d = absurd d
dir_row s t (dirs.Link file dir name) (found.ReadDirFail r_status r_attr) d = absurd d
dir_row s t (dirs.Link file dir name) (found.ReadDirPlus r_attr r_verf r_page r_eof) d = absurd d
dir_row s t (dirs.Link file dir name) (found.ReadDirPlusFail r_status r_attr) d = absurd d
dir_row s t (dirs.ReadDir dir cookie verf count) (found.Lookup r_found r_attr r_dir) d = absurd d
dir_row s t (dirs.ReadDir dir cookie verf count) (found.LookupFail r_status r_dir) d = absurd d
dir_row s t (dirs.ReadDir dir cookie verf count) (found.ReadLink r_attr r_text) d = absurd d
dir_row s t (dirs.ReadDir dir cookie verf count) (found.ReadLinkFail r_status r_attr) d = absurd d
dir_row s t (dirs.ReadDir dir cookie verf count) (found.Create r_found r_attr r_wcc) d = absurd d
dir_row s t (dirs.ReadDir dir cookie verf count) (found.CreateFail r_status r_wcc) d = absurd d
dir_row s t (dirs.ReadDir dir cookie verf count) (found.MkDir r_found r_attr r_wcc) d = absurd d
dir_row s t (dirs.ReadDir dir cookie verf count) (found.MkDirFail r_status r_wcc) d = absurd d
dir_row s t (dirs.ReadDir dir cookie verf count) (found.SymLink r_found r_attr r_wcc) d = absurd d
dir_row s t (dirs.ReadDir dir cookie verf count) (found.SymLinkFail r_status r_wcc) d = absurd d
dir_row s t (dirs.ReadDir dir cookie verf count) (found.MkNod r_found r_attr r_wcc) d = absurd d
dir_row s t (dirs.ReadDir dir cookie verf count) (found.MkNodFail r_status r_wcc) d = absurd d
dir_row s t (dirs.ReadDir dir cookie verf count) (found.Remove r_wcc) d = absurd d
dir_row s t (dirs.ReadDir dir cookie verf count) (found.RemoveFail r_status r_wcc) d = absurd d
dir_row s t (dirs.ReadDir dir cookie verf count) (found.RmDir r_wcc) d = absurd d
dir_row s t (dirs.ReadDir dir cookie verf count) (found.RmDirFail r_status r_wcc) d = absurd d
dir_row s t (dirs.ReadDir dir cookie verf count) (found.Rename r_from r_to) d = absurd d
dir_row s t (dirs.ReadDir dir cookie verf count) (found.RenameFail r_status r_from r_to) d = absurd d
dir_row s t (dirs.ReadDir dir cookie verf count) (found.Link r_attr r_wcc) d = absurd d
dir_row s t (dirs.ReadDir dir cookie verf count) (found.LinkFail r_status r_attr r_wcc) d = absurd d
dir_row s t (dirs.ReadDir dir cookie verf count) (found.ReadDir r_attr r_verf r_page r_eof) d = by_readdir dir cookie verf count r_attr r_verf r_page r_eof refl refl d
dir_row s t (dirs.ReadDir dir cookie verf count) (found.ReadDirFail r_status r_attr) d = absurd d
dir_row s t (dirs.ReadDir dir cookie verf count) (found.ReadDirPlus r_attr r_verf r_page r_eof) d = absurd d
dir_row s t (dirs.ReadDir dir cookie verf count) (found.ReadDirPlusFail r_status r_attr) d = absurd d
dir_row s t (dirs.ReadDirPlus dir cookie verf dircount maxcount) (found.Lookup r_found r_attr r_dir) d = absurd d
dir_row s t (dirs.ReadDirPlus dir cookie verf dircount maxcount) (found.LookupFail r_status r_dir) d = absurd d
dir_row s t (dirs.ReadDirPlus dir cookie verf dircount maxcount) (found.ReadLink r_attr r_text) d = absurd d
dir_row s t (dirs.ReadDirPlus dir cookie verf dircount maxcount) (found.ReadLinkFail r_status r_attr) d = absurd d
dir_row s t (dirs.ReadDirPlus dir cookie verf dircount maxcount) (found.Create r_found r_attr r_wcc) d = absurd d
dir_row s t (dirs.ReadDirPlus dir cookie verf dircount maxcount) (found.CreateFail r_status r_wcc) d = absurd d
dir_row s t (dirs.ReadDirPlus dir cookie verf dircount maxcount) (found.MkDir r_found r_attr r_wcc) d = absurd d
dir_row s t (dirs.ReadDirPlus dir cookie verf dircount maxcount) (found.MkDirFail r_status r_wcc) d = absurd d
dir_row s t (dirs.ReadDirPlus dir cookie verf dircount maxcount) (found.SymLink r_found r_attr r_wcc) d = absurd d
dir_row s t (dirs.ReadDirPlus dir cookie verf dircount maxcount) (found.SymLinkFail r_status r_wcc) d = absurd d
dir_row s t (dirs.ReadDirPlus dir cookie verf dircount maxcount) (found.MkNod r_found r_attr r_wcc) d = absurd d
dir_row s t (dirs.ReadDirPlus dir cookie verf dircount maxcount) (found.MkNodFail r_status r_wcc) d = absurd d
dir_row s t (dirs.ReadDirPlus dir cookie verf dircount maxcount) (found.Remove r_wcc) d = absurd d
dir_row s t (dirs.ReadDirPlus dir cookie verf dircount maxcount) (found.RemoveFail r_status r_wcc) d = absurd d
dir_row s t (dirs.ReadDirPlus dir cookie verf dircount maxcount) (found.RmDir r_wcc) d = absurd d
dir_row s t (dirs.ReadDirPlus dir cookie verf dircount maxcount) (found.RmDirFail r_status r_wcc) d = absurd d
dir_row s t (dirs.ReadDirPlus dir cookie verf dircount maxcount) (found.Rename r_from r_to) d = absurd d
dir_row s t (dirs.ReadDirPlus dir cookie verf dircount maxcount) (found.RenameFail r_status r_from r_to) d = absurd d
dir_row s t (dirs.ReadDirPlus dir cookie verf dircount maxcount) (found.Link r_attr r_wcc) d = absurd d
dir_row s t (dirs.ReadDirPlus dir cookie verf dircount maxcount) (found.LinkFail r_status r_attr r_wcc) d = absurd d
dir_row s t (dirs.ReadDirPlus dir cookie verf dircount maxcount) (found.ReadDir r_attr r_verf r_page r_eof) d = absurd d
dir_row s t (dirs.ReadDirPlus dir cookie verf dircount maxcount) (found.ReadDirFail r_status r_attr) d = absurd d
dir_row s t (dirs.ReadDirPlus dir cookie verf dircount maxcount) (found.ReadDirPlus r_attr r_verf r_page r_eof) d = by_readdirplus dir cookie verf dircount maxcount r_attr r_verf r_page r_eof refl refl d
dir_row s t (dirs.ReadDirPlus dir cookie verf dircount maxcount) (found.ReadDirPlusFail r_status r_attr) d = absurd d

mount_row : (s t : Server) (call : MountCall) (reply : MountReply) → DoesMount s call reply t → Served s (calls.Mount call) (replies.Mount reply) t
mount_row s t mounts.Null mounted.Null d = by_nothing d
mount_row s t mounts.Null (mounted.MntOk r_root r_flavors) d = absurd d
mount_row s t mounts.Null (mounted.MntFail r_stat) d = absurd d
mount_row s t mounts.Null mounted.Umnt d = absurd d
mount_row s t mounts.Null (mounted.Export r_list) d = absurd d
mount_row s t (mounts.Mnt path) mounted.Null d = absurd d
mount_row s t (mounts.Mnt path) (mounted.MntOk r_root r_flavors) d = by_nothing d
mount_row s t (mounts.Mnt path) (mounted.MntFail r_stat) d = absurd d
mount_row s t (mounts.Mnt path) mounted.Umnt d = absurd d
mount_row s t (mounts.Mnt path) (mounted.Export r_list) d = absurd d
mount_row s t (mounts.Umnt path) mounted.Null d = absurd d
mount_row s t (mounts.Umnt path) (mounted.MntOk r_root r_flavors) d = absurd d
mount_row s t (mounts.Umnt path) (mounted.MntFail r_stat) d = absurd d
mount_row s t (mounts.Umnt path) mounted.Umnt d = by_nothing d
mount_row s t (mounts.Umnt path) (mounted.Export r_list) d = absurd d
mount_row s t mounts.Export mounted.Null d = absurd d
mount_row s t mounts.Export (mounted.MntOk r_root r_flavors) d = absurd d
mount_row s t mounts.Export (mounted.MntFail r_stat) d = absurd d
mount_row s t mounts.Export mounted.Umnt d = absurd d
mount_row s t mounts.Export (mounted.Export r_list) d = by_nothing d

pub served : (s t : Server) (call : Call) (reply : Reply) → Serves s call reply t → Served s call reply t
served s t call reply (refused r same) = by_refusal r same
served s t call reply (broken_off f offset how bytes status wcc is answer w) = by_breaking_off f offset how bytes status wcc is answer w
served s t (calls.File call) (replies.File reply) (done d) = file_row s t call reply d
served s t (calls.File call) (replies.Dir reply) (done d) = absurd d
served s t (calls.File call) (replies.Mount reply) (done d) = absurd d
served s t (calls.Dir call) (replies.File reply) (done d) = absurd d
served s t (calls.Dir call) (replies.Dir reply) (done d) = dir_row s t call reply d
served s t (calls.Dir call) (replies.Mount reply) (done d) = absurd d
served s t (calls.Mount call) (replies.File reply) (done d) = absurd d
served s t (calls.Mount call) (replies.Dir reply) (done d) = absurd d
served s t (calls.Mount call) (replies.Mount reply) (done d) = mount_row s t call reply d
