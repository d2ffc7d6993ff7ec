-- What stands in the results after a status other than 0.
use Rattle.std.specs.Prelude.{◌<◌, ℕ, List, ◌++◌, Option}
use Rattle.xdr_codec.specs.Spelling.{u32_bytes}
use Rattle.nfs_types.specs.declared.attr.Attr.{Attr}
use Rattle.nfs_types.specs.declared.wcc.Wcc.{Wcc}
use Rattle.nfs_types.specs.declared.status.Status.{Status}
use Rattle.nfs_types.specs.Fields.{opt_attr_bytes, wcc_bytes}

-- the status of a call that wasn't done
abbrev pub IsFailure : Status → Type 0
IsFailure status = 0 < status.0

unfoldable pub attr_failure_bytes : Status → Option Attr → List ℕ
attr_failure_bytes status attr = u32_bytes status.0 ++ opt_attr_bytes attr

unfoldable pub wcc_failure_bytes : Status → Wcc → List ℕ
wcc_failure_bytes status wcc = u32_bytes status.0 ++ wcc_bytes wcc
