-- The arguments and results of NULL, GETATTR, SETATTR and ACCESS (RFC 1813, sections 3.3.0, 3.3.1, 3.3.2 and 3.3.4).
use Rattle.std.specs.Prelude.{◌≡◌, ℕ, List, [], ◌++◌, Option, Result, Ok}
use Rattle.xdr_codec.specs.declared.reader.XdrFault.{XdrFault}
use Rattle.xdr_codec.specs.Reading.{◌>>=◌, u32_at}
use Rattle.xdr_codec.specs.Spelling.{u32_bytes, opt_bytes}
use Rattle.xdr_codec.specs.Spells.{◌⨾◌, SpellsU32, SpellsOpt}
use Rattle.xdr_codec.specs.Lists.{opt_at}
use Rattle.nfs_types.specs.declared.attr.Attr.{Attr}
use Rattle.nfs_types.specs.declared.set_attr.SetAttr.{SetAttr}
use Rattle.nfs_types.specs.declared.time.Time.{Time}
use Rattle.nfs_types.specs.Fields.{handle_at, handle_bytes, set_attr_at, set_attr_bytes, time_at, time_bytes, opt_attr_at, opt_attr_bytes}
use Rattle.nfs_types.specs.Spells.{SpellsHandle, SpellsSetAttr, SpellsTime, SpellsOptAttr}

-- ---- no fields: the arguments and results of NULL, and what comes with a failure of GETATTR

abbrev pub nothing_at : List ℕ → Result (Unit {0} × List ℕ) XdrFault
nothing_at bytes = Ok (tt, bytes)

pub record SpellsNothing (v : Unit {0}) (bytes : List ℕ) : Type 0 where
  pub is : bytes ≡ []

-- ---- the arguments of SETATTR: a file, the attributes to set, and the ctime that it must have, or none

unfoldable pub guard_at : List ℕ → Result (Option Time × List ℕ) XdrFault
guard_at bytes = opt_at time_at bytes

unfoldable pub guard_bytes : Option Time → List ℕ
guard_bytes v = opt_bytes time_bytes v

pub record SetAttrArgs : Type 0 where
  pub file : List ℕ
  pub set : SetAttr
  pub guard : Option Time

unfoldable pub set_attr_args_at : List ℕ → Result (SetAttrArgs × List ℕ) XdrFault
set_attr_args_at bytes = do
  file ← handle_at bytes
  set ← set_attr_at file.1
  guard ← guard_at set.1
  Ok (record { file = file.0; set = set.0; guard = guard.0 }, guard.1)

abbrev pub SpellsSetAttrArgs : SetAttrArgs → List ℕ → Type 0
SpellsSetAttrArgs v = SpellsHandle v.file ⨾ SpellsSetAttr v.set ⨾ SpellsOpt SpellsTime v.guard

unfoldable pub set_attr_args_bytes : List ℕ → SetAttr → Option Time → List ℕ
set_attr_args_bytes file set guard = handle_bytes file ++ set_attr_bytes set ++ guard_bytes guard

-- ---- the arguments of ACCESS: a file and the rights that are asked for

pub record AccessArgs : Type 0 where
  pub file : List ℕ
  pub bits : ℕ

unfoldable pub access_args_at : List ℕ → Result (AccessArgs × List ℕ) XdrFault
access_args_at bytes = do
  file ← handle_at bytes
  bits ← u32_at file.1
  Ok (record { file = file.0; bits = bits.0 }, bits.1)

abbrev pub SpellsAccessArgs : AccessArgs → List ℕ → Type 0
SpellsAccessArgs v = SpellsHandle v.file ⨾ SpellsU32 v.bits

unfoldable pub access_args_bytes : List ℕ → ℕ → List ℕ
access_args_bytes file bits = handle_bytes file ++ u32_bytes bits

-- ---- the results of ACCESS: attributes or none, and the rights that are given

pub record AccessDone : Type 0 where
  pub attr : Option Attr
  pub bits : ℕ

unfoldable pub access_done_at : List ℕ → Result (AccessDone × List ℕ) XdrFault
access_done_at bytes = do
  attr ← opt_attr_at bytes
  bits ← u32_at attr.1
  Ok (record { attr = attr.0; bits = bits.0 }, bits.1)

abbrev pub SpellsAccessDone : AccessDone → List ℕ → Type 0
SpellsAccessDone v = SpellsOptAttr v.attr ⨾ SpellsU32 v.bits

unfoldable pub access_done_bytes : Option Attr → ℕ → List ℕ
access_done_bytes attr bits = opt_attr_bytes attr ++ u32_bytes bits
