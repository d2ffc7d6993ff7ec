-- Calls and states of the rows by hand: objects are given by their numbers, and states by the calls that lead to them.
use Rattle.std.proofs.Common.{ℕ, List, [], ◌∷◌, Option, Some, None, replicate, unwrap_or}
use Rattle.nfs_types.specs.declared.set_attr.SetAttr.{SetAttr}
use Rattle.nfs_dir_calls.specs.declared.call.DirCall.TheVariants as dirs
use Rattle.nfs_dir_calls.specs.declared.create.Making.TheVariants as makings
use Rattle.nfs_dir_calls.specs.declared.mknod.Node.TheVariants as devices
use Rattle.nfs_file_calls.specs.declared.call.FileCall.TheVariants as files
use Rattle.world_model.specs.declared.message.Call.{Call}
use Rattle.world_model.specs.declared.message.Call.TheVariants as calls
use Rattle.world_model.specs.NameService.{keeps_all}
use Rattle.export_fs.specs.View.{View}
use Rattle.export_fs.specs.Changes.{new_dir}
use Rattle.export_fs.specs.Executed.{executed}
use Rattle.export_fs.specs.Placing.{placed}

abbrev pub number : ℕ → List ℕ
number n = 0 ∷ 0 ∷ 0 ∷ 0 ∷ 0 ∷ 0 ∷ 0 ∷ n ∷ []

-- file handles of 4 and of 9 bytes
abbrev pub short : List ℕ
short = 0 ∷ 0 ∷ 0 ∷ 1 ∷ []

abbrev pub long : List ℕ
long = 0 ∷ 0 ∷ 0 ∷ 0 ∷ 0 ∷ 0 ∷ 0 ∷ 0 ∷ 1 ∷ []

-- the names `d`, `e`, `f`, `g`, `l`, `x`, `y`, `.` and `..`
abbrev pub d : List ℕ
d = 100 ∷ []

abbrev pub e : List ℕ
e = 101 ∷ []

abbrev pub f : List ℕ
f = 102 ∷ []

abbrev pub g : List ℕ
g = 103 ∷ []

abbrev pub l : List ℕ
l = 108 ∷ []

abbrev pub x : List ℕ
x = 120 ∷ []

abbrev pub y : List ℕ
y = 121 ∷ []

abbrev pub own : List ℕ
own = 46 ∷ []

abbrev pub parent : List ℕ
parent = 46 ∷ 46 ∷ []

-- a size is set
abbrev pub sized : ℕ → SetAttr
sized size = record keeps_all { size = Some size }

abbrev pub size : List ℕ → ℕ → Call
size h n = calls.File (files.SetAttr h (sized n) None)

abbrev pub keep : List ℕ → Call
keep h = calls.File (files.SetAttr h keeps_all None)

abbrev pub guard : List ℕ → ℕ → ℕ → Call
guard h seconds nanos = calls.File (files.SetAttr h keeps_all (Some (record { seconds = seconds; nanos = nanos })))

abbrev pub getattr : List ℕ → Call
getattr h = calls.File (files.GetAttr h)

abbrev pub access : List ℕ → ℕ → Call
access h bits = calls.File (files.Access h bits)

abbrev pub read : List ℕ → ℕ → ℕ → Call
read h offset count = calls.File (files.Read h offset count)

abbrev pub write : List ℕ → ℕ → ℕ → List ℕ → Call
write h offset how bytes = calls.File (files.Write h offset how bytes)

abbrev pub fsstat : List ℕ → Call
fsstat h = calls.File (files.FsStat h)

abbrev pub fsinfo : List ℕ → Call
fsinfo h = calls.File (files.FsInfo h)

abbrev pub pathconf : List ℕ → Call
pathconf h = calls.File (files.PathConf h)

abbrev pub commit : List ℕ → ℕ → ℕ → Call
commit h offset count = calls.File (files.Commit h offset count)

abbrev pub lookup : List ℕ → List ℕ → Call
lookup dir name = calls.Dir (dirs.Lookup dir name)

abbrev pub readlink : List ℕ → Call
readlink h = calls.Dir (dirs.ReadLink h)

abbrev pub unchecked : SetAttr → List ℕ → List ℕ → Call
unchecked set dir name = calls.Dir (dirs.Create dir name (makings.Unchecked set))

abbrev pub guarded : SetAttr → List ℕ → List ℕ → Call
guarded set dir name = calls.Dir (dirs.Create dir name (makings.Guarded set))

abbrev pub exclusive : List ℕ → List ℕ → Call
exclusive dir name = calls.Dir (dirs.Create dir name (makings.Exclusive (record { 0 = replicate 8 1 })))

abbrev pub mkdir : List ℕ → List ℕ → Call
mkdir dir name = calls.Dir (dirs.MkDir dir name keeps_all)

abbrev pub symlink : List ℕ → List ℕ → List ℕ → Call
symlink text dir name = calls.Dir (dirs.SymLink dir name keeps_all text)

-- MKNOD of a kind that nothing more is said of
abbrev pub mknod : List ℕ → List ℕ → Call
mknod dir name = calls.Dir (dirs.MkNod dir name (devices.Plain 1))

abbrev pub remove : List ℕ → List ℕ → Call
remove dir name = calls.Dir (dirs.Remove dir name)

abbrev pub rmdir : List ℕ → List ℕ → Call
rmdir dir name = calls.Dir (dirs.RmDir dir name)

abbrev pub rename : List ℕ → List ℕ → List ℕ → List ℕ → Call
rename dir name to_dir to = calls.Dir (dirs.Rename dir name to_dir to)

abbrev pub link : List ℕ → List ℕ → List ℕ → Call
link h dir name = calls.Dir (dirs.Link h dir name)

abbrev pub readdir : List ℕ → Call
readdir dir = calls.Dir (dirs.ReadDir dir 0 (record { 0 = replicate 8 0 }) 512)

abbrev pub readdirplus : List ℕ → ℕ → ℕ → Call
readdirplus dir cookie most = calls.Dir (dirs.ReadDirPlus dir cookie (record { 0 = replicate 8 0 }) most most)

-- the text `t`
abbrev pub t : List ℕ
t = 116 ∷ []

-- ---- states

abbrev pub does : View → List Call → View
does view [] = view
does view (call ∷ more) = does (executed view call).0 more

abbrev pub place : List ℕ → Option (List ℕ) → View → View
place name file view = unwrap_or (placed view (name ∷ []) file) view

-- the new export: its root was made as change 1
abbrev pub fresh : View
fresh = record { nodes = new_dir 0 1 keeps_all ∷ []; counter = 1; reboots = 0 }
