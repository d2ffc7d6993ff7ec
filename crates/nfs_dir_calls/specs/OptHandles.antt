-- A file handle or none (RFC 1813, section 2.5, post_op_fh3).
use Rattle.std.specs.Prelude.{ℕ, List, Option, Result}
use Rattle.xdr_codec.specs.declared.reader.XdrFault.{XdrFault}
use Rattle.xdr_codec.specs.Lists.{opt_at}
use Rattle.xdr_codec.specs.Spelling.{opt_bytes}
use Rattle.xdr_codec.specs.Spells.{SpellsOpt}
use Rattle.nfs_types.specs.Fields.{handle_at, handle_bytes}
use Rattle.nfs_types.specs.Spells.{SpellsHandle}

unfoldable pub opt_handle_at : List ℕ → Result (Option (List ℕ) × List ℕ) XdrFault
opt_handle_at bytes = opt_at handle_at bytes

unfoldable pub opt_handle_bytes : Option (List ℕ) → List ℕ
opt_handle_bytes v = opt_bytes handle_bytes v

abbrev pub SpellsOptHandle : Option (List ℕ) → List ℕ → Type 0
SpellsOptHandle v = SpellsOpt SpellsHandle v
