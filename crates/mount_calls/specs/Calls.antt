-- The calls of MOUNT (RFC 1813, section 5.2): their numbers, how arguments are read, and their written spelling.
use Rattle.std.specs.Prelude.{◌≡◌, ◌≤◌, ℕ, List, [], length, Bool, ◌||◌, IsTrue, Result, Ok, Err, ◌==◌, if◌then◌else◌}
use Rattle.xdr_codec.specs.declared.reader.XdrFault.{XdrFault}
use Rattle.xdr_codec.specs.declared.reader.XdrFault.TheVariants.{BadValue}
use Rattle.xdr_codec.specs.Reading.{◌>>=◌, opaque_at}
use Rattle.xdr_codec.specs.Spelling.{opaque_bytes}
use Rattle.xdr_codec.specs.Spells.{SpellsOpaque}
use Rattle.xdr_codec.specs.Whole.{whole_at}
use Rattle.nfs_types.specs.declared.mount_proc.TheConstants.{NULL, MNT, UMNT, EXPORT}
use Rattle.mount_calls.specs.Lists.{nothing_at, SpellsNothing}
use Rattle.mount_calls.specs.declared.call.MountCall.{MountCall}
use Rattle.mount_calls.specs.declared.call.MountCall.TheVariants as calls

-- the procedure that a call names
abbrev pub mount_proc : MountCall → ℕ
mount_proc calls.Null = NULL
mount_proc (calls.Mnt path) = MNT
mount_proc (calls.Umnt path) = UMNT
mount_proc calls.Export = EXPORT

-- one of these procedures
abbrev pub is_mount_proc : ℕ → Bool
is_mount_proc proc = (proc == NULL) || (proc == MNT) || (proc == UMNT) || (proc == EXPORT)

abbrev pub IsMountProc : ℕ → Type 0
IsMountProc proc = IsTrue (is_mount_proc proc)

-- ---- reading

unfoldable pub null_call_at : List ℕ → Result MountCall XdrFault
null_call_at args = whole_at nothing_at args >>= λ v. Ok calls.Null

unfoldable pub mnt_call_at : List ℕ → Result MountCall XdrFault
mnt_call_at args = whole_at (opaque_at 1024) args >>= λ path. Ok (calls.Mnt path)

unfoldable pub umnt_call_at : List ℕ → Result MountCall XdrFault
umnt_call_at args = whole_at (opaque_at 1024) args >>= λ path. Ok (calls.Umnt path)

unfoldable pub export_call_at : List ℕ → Result MountCall XdrFault
export_call_at args = whole_at nothing_at args >>= λ v. Ok calls.Export

-- the call of a procedure, from all of the bytes
abbrev pub mount_call_at : ℕ → List ℕ → Result MountCall XdrFault
mount_call_at proc args =
    if proc == NULL then null_call_at args else
    (if proc == MNT then mnt_call_at args else
    (if proc == UMNT then umnt_call_at args else
    (if proc == EXPORT then export_call_at args else Err BadValue)))

-- ---- spelling

-- the arguments of a call: a path of at most 1,024 bytes, or nothing
abbrev pub SpellsMountArgs : MountCall → List ℕ → Type 0
SpellsMountArgs calls.Null = SpellsNothing tt
SpellsMountArgs (calls.Mnt path) = SpellsOpaque 1024 path
SpellsMountArgs (calls.Umnt path) = SpellsOpaque 1024 path
SpellsMountArgs calls.Export = SpellsNothing tt

-- a call of that procedure
pub record SpellsMountCall (proc : ℕ) (call : MountCall) (args : List ℕ) : Type 0 where
  pub names : mount_proc call ≡ proc
  pub is : SpellsMountArgs call args

-- a call that bytes can spell
abbrev pub HasSpellingCall : MountCall → Type 0
HasSpellingCall calls.Null = Unit {0}
HasSpellingCall (calls.Mnt path) = length path ≤ 1024
HasSpellingCall (calls.Umnt path) = length path ≤ 1024
HasSpellingCall calls.Export = Unit {0}

unfoldable pub mount_call_bytes : MountCall → List ℕ
mount_call_bytes calls.Null = []
mount_call_bytes (calls.Mnt path) = opaque_bytes path
mount_call_bytes (calls.Umnt path) = opaque_bytes path
mount_call_bytes calls.Export = []
