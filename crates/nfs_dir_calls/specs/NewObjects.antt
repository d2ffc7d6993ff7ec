-- What is answered to CREATE, MKDIR, SYMLINK and MKNOD (RFC 1813, sections 3.3.8 to 3.3.11): the file handle and the
-- attributes of what was made, and the directory before and after; in failure the directory alone.
use Rattle.std.specs.Prelude.{ℕ, List, ◌++◌, Option, Result}
use Rattle.xdr_codec.specs.declared.reader.XdrFault.{XdrFault}
use Rattle.xdr_codec.specs.Whole.{whole_at}
use Rattle.xdr_codec.specs.Spelling.{u32_bytes}
use Rattle.xdr_codec.specs.Arms.{Arms, Done, Failure, arms_at}
use Rattle.nfs_types.specs.declared.attr.Attr.{Attr}
use Rattle.nfs_types.specs.declared.wcc.Wcc.{Wcc}
use Rattle.nfs_types.specs.Fields.{opt_attr_at, opt_attr_bytes, wcc_at, wcc_bytes}
use Rattle.nfs_dir_calls.specs.declared.new_object.NewObject.{NewObject}
use Rattle.nfs_dir_calls.specs.declared.new_object.NewObject.TheVariants as objects
use Rattle.nfs_dir_calls.specs.Pairs.{◌▸◌}
use Rattle.nfs_dir_calls.specs.OptHandles.{opt_handle_at, opt_handle_bytes}

unfoldable pub new_object_at : List ℕ → Result (Arms (Option (List ℕ) × (Option Attr × Wcc)) Wcc) XdrFault
new_object_at results = whole_at (arms_at (opt_handle_at ▸ opt_attr_at ▸ wcc_at) wcc_at) results

abbrev pub arms_of_object : NewObject → Arms (Option (List ℕ) × (Option Attr × Wcc)) Wcc
arms_of_object (objects.Done found attr wcc) = Done (found, (attr, wcc))
arms_of_object (objects.Failed status wcc) = Failure status.0 wcc

unfoldable pub new_object_bytes : Option (List ℕ) → Option Attr → Wcc → List ℕ
new_object_bytes found attr wcc = u32_bytes 0 ++ opt_handle_bytes found ++ opt_attr_bytes attr ++ wcc_bytes wcc
