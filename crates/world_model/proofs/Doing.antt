-- What a server did, where the call and its reply of status 0 are known.
use Rattle.std.proofs.Common.{ℕ, Bool, List, Option}
use Rattle.nfs_types.specs.declared.attr.Attr.{Attr}
use Rattle.nfs_types.specs.declared.set_attr.SetAttr.{SetAttr}
use Rattle.nfs_types.specs.declared.time.Time.{Time}
use Rattle.nfs_types.specs.declared.verf.Verf.{Verf}
use Rattle.nfs_types.specs.declared.wcc.Wcc.{Wcc}
use Rattle.nfs_dir_calls.specs.declared.call.DirCall.TheVariants as dirs
use Rattle.nfs_dir_calls.specs.declared.create.Making.{Making}
use Rattle.nfs_dir_calls.specs.declared.keeping.DirKept.TheVariants as found
use Rattle.nfs_dir_calls.specs.declared.plus_page.PlusRow.{PlusRow}
use Rattle.nfs_file_calls.specs.declared.call.FileCall.TheVariants as files
use Rattle.nfs_file_calls.specs.declared.owned.FileKept.TheVariants as kept
use Rattle.world_model.specs.declared.message.Call.TheVariants as calls
use Rattle.world_model.specs.declared.message.Reply.TheVariants as replies
use Rattle.world_model.specs.Server.{Server}
use Rattle.world_model.specs.Steps.{TrueWcc}
use Rattle.world_model.specs.FileService.{GetsAttr, SetsAttr, ReadsBytes, Writes, Commits}
use Rattle.world_model.specs.NameService.{LooksUp, Shown, Creates}
use Rattle.world_model.specs.ListService.{ListsObjects}
use Rattle.world_model.specs.Service.{Serves, refused, broken_off, done}

pub getattr_done : (s t : Server) (f : List ℕ) (attr : Attr) → Serves s (calls.File (files.GetAttr f)) (replies.File (kept.GetAttr attr)) t → GetsAttr s t f attr
getattr_done s t f attr (refused r same) = absurd r
getattr_done s t f attr (broken_off g offset how bytes status wcc is answer w) = absurd (cc is)
getattr_done s t f attr (done d) = d

pub setattr_done : (s t : Server) (f : List ℕ) (set : SetAttr) (guard : Option Time) (wcc : Wcc) → Serves s (calls.File (files.SetAttr f set guard)) (replies.File (kept.SetAttr wcc)) t → SetsAttr s t f set × TrueWcc s t f wcc
setattr_done s t f set guard wcc (refused r same) = absurd r
setattr_done s t f set guard wcc (broken_off g offset how bytes status w is answer p) = absurd (cc is)
setattr_done s t f set guard wcc (done d) = d

pub read_done : (s t : Server) (f : List ℕ) (offset count : ℕ) (attr : Option Attr) (counted : ℕ) (eof : Bool) (bytes : List ℕ) → Serves s (calls.File (files.Read f offset count)) (replies.File (kept.Read attr counted eof bytes)) t
    → ReadsBytes s t f offset count attr counted eof bytes
read_done s t f offset count attr counted eof bytes (refused r same) = absurd r
read_done s t f offset count attr counted eof bytes (broken_off g start how b status wcc is answer w) = absurd (cc is)
read_done s t f offset count attr counted eof bytes (done d) = d

pub write_done : (s t : Server) (f : List ℕ) (offset how : ℕ) (bytes : List ℕ) (wcc : Wcc) (counted firm : ℕ) (verf : Verf) → Serves s (calls.File (files.Write f offset how bytes)) (replies.File (kept.Write wcc counted firm verf)) t
    → Writes s t f offset how bytes wcc counted firm verf
write_done s t f offset how bytes wcc counted firm verf (refused r same) = absurd r
write_done s t f offset how bytes wcc counted firm verf (broken_off g start h b status w is answer p) = absurd (cc answer)
write_done s t f offset how bytes wcc counted firm verf (done d) = d

pub commit_done : (s t : Server) (f : List ℕ) (offset count : ℕ) (wcc : Wcc) (verf : Verf) → Serves s (calls.File (files.Commit f offset count)) (replies.File (kept.Commit wcc verf)) t → Commits s t f offset count wcc verf
commit_done s t f offset count wcc verf (refused r same) = absurd r
commit_done s t f offset count wcc verf (broken_off g start how b status w is answer p) = absurd (cc is)
commit_done s t f offset count wcc verf (done d) = d

pub lookup_done : (s t : Server) (d name object : List ℕ) (attr dir : Option Attr) → Serves s (calls.Dir (dirs.Lookup d name)) (replies.Dir (found.Lookup object attr dir)) t → LooksUp s t d name object attr dir
lookup_done s t d name object attr dir (refused r same) = absurd r
lookup_done s t d name object attr dir (broken_off g start how b status w is answer p) = absurd (cc is)
lookup_done s t d name object attr dir (done l) = l

pub create_done : (s t : Server) (d name : List ℕ) (making : Making) (object : Option (List ℕ)) (attr : Option Attr) (wcc : Wcc) → Serves s (calls.Dir (dirs.Create d name making)) (replies.Dir (found.Create object attr wcc)) t
    → Creates s t d name making × Shown t d name object attr × TrueWcc s t d wcc
create_done s t d name making object attr wcc (refused r same) = absurd r
create_done s t d name making object attr wcc (broken_off g start how b status w is answer p) = absurd (cc is)
create_done s t d name making object attr wcc (done c) = c

pub list_done : (s t : Server) (d : List ℕ) (cookie : ℕ) (verf : Verf) (dircount maxcount : ℕ) (attr : Option Attr) (check : Verf) (rows : List PlusRow) (eof : Bool)
    → Serves s (calls.Dir (dirs.ReadDirPlus d cookie verf dircount maxcount)) (replies.Dir (found.ReadDirPlus attr check rows eof)) t → ListsObjects s t d attr rows eof
list_done s t d cookie verf dircount maxcount attr check rows eof (refused r same) = absurd r
list_done s t d cookie verf dircount maxcount attr check rows eof (broken_off g start how b status w is answer p) = absurd (cc is)
list_done s t d cookie verf dircount maxcount attr check rows eof (done l) = l
