-- The calls on directories and names (RFC 1813, section 3.3), by their procedures.
use Rattle.std.specs.Prelude.{◌≡◌, ◌≤◌, ℕ, List, length, ◌++◌, Bool, IsTrue, ◌||◌, Result, Err, ◌==◌, if◌then◌else◌}
use Rattle.xdr_codec.specs.declared.reader.XdrFault.{XdrFault}
use Rattle.xdr_codec.specs.declared.reader.XdrFault.TheVariants.{BadValue}
use Rattle.xdr_codec.specs.Spelling.{u32_bytes, u64_bytes, opaque_bytes}
use Rattle.xdr_codec.specs.Spells.{◌⨾◌, SpellsU32, SpellsU64, SpellsOpaque}
use Rattle.nfs_types.specs.Fields.{handle_bytes, set_attr_bytes, verf_bytes}
use Rattle.nfs_types.specs.Spells.{SpellsHandle, SpellsVerf, SpellsSetAttr}
use Rattle.nfs_types.specs.declared.nfs_proc.TheConstants.{LOOKUP, READLINK, CREATE, MKDIR, SYMLINK, MKNOD, REMOVE, RMDIR, RENAME, LINK, READDIR, READDIRPLUS}
use Rattle.nfs_dir_calls.specs.declared.call.DirCall.{DirCall}
use Rattle.nfs_dir_calls.specs.declared.call.DirCall.TheVariants as calls
use Rattle.nfs_dir_calls.specs.Places.{place_bytes, SpellsPlace}
use Rattle.nfs_dir_calls.specs.Makings.{SpellsMaking, making_bytes}
use Rattle.nfs_dir_calls.specs.Nodes.{SpellsNode, node_bytes, IsNode}
use Rattle.nfs_dir_calls.specs.Lookup.{lookup_call_at}
use Rattle.nfs_dir_calls.specs.ReadLink.{readlink_call_at}
use Rattle.nfs_dir_calls.specs.Create.{create_call_at}
use Rattle.nfs_dir_calls.specs.MkDir.{mkdir_call_at}
use Rattle.nfs_dir_calls.specs.SymLink.{symlink_call_at}
use Rattle.nfs_dir_calls.specs.MkNod.{mknod_call_at}
use Rattle.nfs_dir_calls.specs.Remove.{remove_call_at, rmdir_call_at}
use Rattle.nfs_dir_calls.specs.Rename.{rename_call_at}
use Rattle.nfs_dir_calls.specs.Link.{link_call_at}
use Rattle.nfs_dir_calls.specs.ReadDir.{readdir_call_at}
use Rattle.nfs_dir_calls.specs.ReadDirPlus.{readdirplus_call_at}

-- the procedures of these calls
abbrev pub is_dir_proc : ℕ → Bool
is_dir_proc proc =
    proc == LOOKUP || proc == READLINK || proc == CREATE || proc == MKDIR || proc == SYMLINK || proc == MKNOD || proc == REMOVE || proc == RMDIR
    || proc == RENAME || proc == LINK || proc == READDIR || proc == READDIRPLUS

abbrev pub IsDirProc : ℕ → Type 0
IsDirProc proc = IsTrue (is_dir_proc proc)

-- the number of a call's procedure
abbrev pub dir_proc : DirCall → ℕ
dir_proc (calls.Lookup dir name) = LOOKUP
dir_proc (calls.ReadLink file) = READLINK
dir_proc (calls.Create dir name making) = CREATE
dir_proc (calls.MkDir dir name set) = MKDIR
dir_proc (calls.SymLink dir name set target) = SYMLINK
dir_proc (calls.MkNod dir name node) = MKNOD
dir_proc (calls.Remove dir name) = REMOVE
dir_proc (calls.RmDir dir name) = RMDIR
dir_proc (calls.Rename from_dir «from» to_dir to) = RENAME
dir_proc (calls.Link file dir name) = LINK
dir_proc (calls.ReadDir dir cookie verf count) = READDIR
dir_proc (calls.ReadDirPlus dir cookie verf dircount maxcount) = READDIRPLUS

-- the arguments that spell a call
abbrev pub SpellsDirCall : DirCall → List ℕ → Type 0
SpellsDirCall (calls.Lookup dir name) = SpellsPlace dir name
SpellsDirCall (calls.ReadLink file) = SpellsHandle file
SpellsDirCall (calls.Create dir name making) = SpellsPlace dir name ⨾ SpellsMaking making
SpellsDirCall (calls.MkDir dir name set) = SpellsPlace dir name ⨾ SpellsSetAttr set
SpellsDirCall (calls.SymLink dir name set target) = SpellsPlace dir name ⨾ SpellsSetAttr set ⨾ SpellsOpaque 1024 target
SpellsDirCall (calls.MkNod dir name node) = SpellsPlace dir name ⨾ SpellsNode node
SpellsDirCall (calls.Remove dir name) = SpellsPlace dir name
SpellsDirCall (calls.RmDir dir name) = SpellsPlace dir name
SpellsDirCall (calls.Rename from_dir «from» to_dir to) = SpellsPlace from_dir «from» ⨾ SpellsPlace to_dir to
SpellsDirCall (calls.Link file dir name) = SpellsHandle file ⨾ SpellsPlace dir name
SpellsDirCall (calls.ReadDir dir cookie verf count) = SpellsHandle dir ⨾ SpellsU64 cookie ⨾ SpellsVerf verf ⨾ SpellsU32 count
SpellsDirCall (calls.ReadDirPlus dir cookie verf dircount maxcount) =
    SpellsHandle dir ⨾ SpellsU64 cookie ⨾ SpellsVerf verf ⨾ SpellsU32 dircount ⨾ SpellsU32 maxcount

-- a call of that procedure, and arguments that spell it
pub record SpellsDirCallOf (proc : ℕ) (call : DirCall) (args : List ℕ) : Type 0 where
  pub of : dir_proc call ≡ proc
  pub is : SpellsDirCall call args

-- what the arguments of a procedure give
abbrev pub dir_call_at : ℕ → List ℕ → Result DirCall XdrFault
dir_call_at proc args =
    if proc == LOOKUP then lookup_call_at args else
    (if proc == READLINK then readlink_call_at args else
    (if proc == CREATE then create_call_at args else
    (if proc == MKDIR then mkdir_call_at args else
    (if proc == SYMLINK then symlink_call_at args else
    (if proc == MKNOD then mknod_call_at args else
    (if proc == REMOVE then remove_call_at args else
    (if proc == RMDIR then rmdir_call_at args else
    (if proc == RENAME then rename_call_at args else
    (if proc == LINK then link_call_at args else
    (if proc == READDIR then readdir_call_at args else
    (if proc == READDIRPLUS then readdirplus_call_at args else
    Err BadValue)))))))))))

-- a call that has a spelling
abbrev pub HasSpellingDirCall : DirCall → Type 0
HasSpellingDirCall (calls.Lookup dir name) = Unit {0}
HasSpellingDirCall (calls.ReadLink file) = Unit {0}
HasSpellingDirCall (calls.Create dir name making) = Unit {0}
HasSpellingDirCall (calls.MkDir dir name set) = Unit {0}
HasSpellingDirCall (calls.SymLink dir name set target) = length target ≤ 1024
HasSpellingDirCall (calls.MkNod dir name node) = IsNode node
HasSpellingDirCall (calls.Remove dir name) = Unit {0}
HasSpellingDirCall (calls.RmDir dir name) = Unit {0}
HasSpellingDirCall (calls.Rename from_dir «from» to_dir to) = Unit {0}
HasSpellingDirCall (calls.Link file dir name) = Unit {0}
HasSpellingDirCall (calls.ReadDir dir cookie verf count) = Unit {0}
HasSpellingDirCall (calls.ReadDirPlus dir cookie verf dircount maxcount) = Unit {0}

-- its written spelling
unfoldable pub dir_call_bytes : DirCall → List ℕ
dir_call_bytes (calls.Lookup dir name) = place_bytes dir name
dir_call_bytes (calls.ReadLink file) = handle_bytes file
dir_call_bytes (calls.Create dir name making) = place_bytes dir name ++ making_bytes making
dir_call_bytes (calls.MkDir dir name set) = place_bytes dir name ++ set_attr_bytes set
dir_call_bytes (calls.SymLink dir name set target) = place_bytes dir name ++ set_attr_bytes set ++ opaque_bytes target
dir_call_bytes (calls.MkNod dir name node) = place_bytes dir name ++ node_bytes node
dir_call_bytes (calls.Remove dir name) = place_bytes dir name
dir_call_bytes (calls.RmDir dir name) = place_bytes dir name
dir_call_bytes (calls.Rename from_dir «from» to_dir to) = place_bytes from_dir «from» ++ place_bytes to_dir to
dir_call_bytes (calls.Link file dir name) = handle_bytes file ++ place_bytes dir name
dir_call_bytes (calls.ReadDir dir cookie verf count) = handle_bytes dir ++ u64_bytes cookie ++ verf_bytes verf ++ u32_bytes count
dir_call_bytes (calls.ReadDirPlus dir cookie verf dircount maxcount) =
    handle_bytes dir ++ u64_bytes cookie ++ verf_bytes verf ++ u32_bytes dircount ++ u32_bytes maxcount
