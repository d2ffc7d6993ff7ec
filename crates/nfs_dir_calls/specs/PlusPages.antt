-- The entries that READDIRPLUS lists (RFC 1813, section 3.3.17, entryplus3): a number, a name, a cookie, and attributes
-- and a file handle or none.
use Rattle.std.specs.Prelude.{ℕ, List, ◌++◌, Result, Ok}
use Rattle.xdr_codec.specs.declared.reader.XdrFault.{XdrFault}
use Rattle.xdr_codec.specs.Reading.{◌>>=◌, u64_at}
use Rattle.xdr_codec.specs.Spells.{◌⨾◌, SpellsU64}
use Rattle.nfs_types.specs.Fields.{name_at, opt_attr_at, opt_attr_bytes}
use Rattle.nfs_types.specs.Spells.{SpellsName, SpellsOptAttr}
use Rattle.nfs_dir_calls.specs.DirPages.{dir_row_bytes}
use Rattle.nfs_dir_calls.specs.OptHandles.{opt_handle_at, opt_handle_bytes, SpellsOptHandle}
use Rattle.nfs_dir_calls.specs.declared.plus_page.PlusEntry.{PlusEntry}
use Rattle.nfs_dir_calls.specs.declared.plus_page.PlusRow.{PlusRow}

-- what an entry says, wherever its name lies
abbrev pub plus_row_of : PlusEntry → PlusRow
plus_row_of entry = record { fileid = entry.fileid; name = entry.name.now; cookie = entry.cookie; attr = entry.attr; found = entry.found }

unfoldable pub plus_row_at : List ℕ → Result (PlusRow × List ℕ) XdrFault
plus_row_at bytes = do
  fileid ← u64_at bytes
  name ← name_at fileid.1
  cookie ← u64_at name.1
  attr ← opt_attr_at cookie.1
  found ← opt_handle_at attr.1
  Ok (record { fileid = fileid.0; name = name.0; cookie = cookie.0; attr = attr.0; found = found.0 }, found.1)

unfoldable pub plus_row_bytes : PlusRow → List ℕ
plus_row_bytes v = dir_row_bytes (record { fileid = v.fileid; name = v.name; cookie = v.cookie }) ++ opt_attr_bytes v.attr ++ opt_handle_bytes v.found

abbrev pub SpellsPlusRow : PlusRow → List ℕ → Type 0
SpellsPlusRow v = SpellsU64 v.fileid ⨾ SpellsName v.name ⨾ SpellsU64 v.cookie ⨾ SpellsOptAttr v.attr ⨾ SpellsOptHandle v.found
