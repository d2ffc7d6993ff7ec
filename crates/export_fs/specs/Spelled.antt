-- What a record can spell of a call (RFC 1813, sections 2.5 and 3.3.7): file handles are bytes, and a WRITE asks for one
-- of three ways to keep its bytes.
use Rattle.std.specs.Prelude.{◌≤◌, IfSome, ⊤}
use Rattle.xdr_codec.specs.Bytes.{IsBytes}
use Rattle.nfs_file_calls.specs.declared.call.FileCall.{FileCall}
use Rattle.nfs_file_calls.specs.declared.call.FileCall.TheVariants as files
use Rattle.nfs_dir_calls.specs.declared.call.DirCall.{DirCall}
use Rattle.world_model.specs.declared.message.Call.{Call}
use Rattle.world_model.specs.declared.message.Call.TheVariants as calls
use Rattle.export_fs.specs.Refusals.{file_of, dir_of, other_of}

abbrev pub IsFileSpelled : FileCall → Type 0
IsFileSpelled files.Null = ⊤
IsFileSpelled (files.GetAttr file) = IsBytes file
IsFileSpelled (files.SetAttr file set guard) = IsBytes file
IsFileSpelled (files.Access file bits) = IsBytes file
IsFileSpelled (files.Read file offset count) = IsBytes file
IsFileSpelled (files.Write file offset how bytes) = IsBytes file × (how ≤ 2)
IsFileSpelled (files.FsStat file) = IsBytes file
IsFileSpelled (files.FsInfo file) = IsBytes file
IsFileSpelled (files.PathConf file) = IsBytes file
IsFileSpelled (files.Commit file offset count) = IsBytes file

abbrev pub IsDirSpelled : DirCall → Type 0
IsDirSpelled call = IsBytes (dir_of call) × IsBytes (other_of call)

abbrev pub IsSpelled : Call → Type 0
IsSpelled (calls.File call) = IsFileSpelled call
IsSpelled (calls.Dir call) = IsDirSpelled call
IsSpelled (calls.Mount call) = ⊤

-- the file handles of a call are bytes
abbrev pub HandlesAreBytes : Call → Type 0
HandlesAreBytes (calls.File call) = IfSome (file_of call) IsBytes
HandlesAreBytes (calls.Dir call) = IsDirSpelled call
HandlesAreBytes (calls.Mount call) = ⊤
