-- The entries that READDIR lists (RFC 1813, section 3.3.16, entry3): a number, a name and a cookie.
use Rattle.std.specs.Prelude.{ℕ, List, ◌++◌, Result, Ok}
use Rattle.xdr_codec.specs.declared.reader.XdrFault.{XdrFault}
use Rattle.xdr_codec.specs.Reading.{◌>>=◌, u64_at}
use Rattle.xdr_codec.specs.Spelling.{u64_bytes}
use Rattle.xdr_codec.specs.Spells.{◌⨾◌, SpellsU64}
use Rattle.nfs_types.specs.Fields.{name_at, name_bytes}
use Rattle.nfs_types.specs.Spells.{SpellsName}
use Rattle.nfs_dir_calls.specs.declared.dir_page.DirEntry.{DirEntry}
use Rattle.nfs_dir_calls.specs.declared.dir_page.DirRow.{DirRow}

-- what an entry says, wherever its name lies
abbrev pub dir_row_of : DirEntry → DirRow
dir_row_of entry = record { fileid = entry.fileid; name = entry.name.now; cookie = entry.cookie }

unfoldable pub dir_row_at : List ℕ → Result (DirRow × List ℕ) XdrFault
dir_row_at bytes = do
  fileid ← u64_at bytes
  name ← name_at fileid.1
  cookie ← u64_at name.1
  Ok (record { fileid = fileid.0; name = name.0; cookie = cookie.0 }, cookie.1)

unfoldable pub dir_row_bytes : DirRow → List ℕ
dir_row_bytes v = u64_bytes v.fileid ++ name_bytes v.name ++ u64_bytes v.cookie

abbrev pub SpellsDirRow : DirRow → List ℕ → Type 0
SpellsDirRow v = SpellsU64 v.fileid ⨾ SpellsName v.name ⨾ SpellsU64 v.cookie
