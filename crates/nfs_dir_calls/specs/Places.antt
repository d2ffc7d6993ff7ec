-- A name in a directory (RFC 1813, section 2.5, diropargs3): the directory's file handle and the name.
use Rattle.std.specs.Prelude.{ℕ, List, ◌++◌, Result, Ok}
use Rattle.xdr_codec.specs.declared.reader.XdrFault.{XdrFault}
use Rattle.xdr_codec.specs.Reading.{◌>>=◌}
use Rattle.xdr_codec.specs.Spells.{◌⨾◌}
use Rattle.nfs_types.specs.Fields.{handle_at, handle_bytes, name_at, name_bytes}
use Rattle.nfs_types.specs.Spells.{SpellsHandle, SpellsName}
use Rattle.nfs_dir_calls.specs.declared.place.Place.{Place}

unfoldable pub place_at : List ℕ → Result (Place × List ℕ) XdrFault
place_at bytes = do
  dir ← handle_at bytes
  name ← name_at dir.1
  Ok (record { dir = dir.0; name = name.0 }, name.1)

unfoldable pub place_bytes : List ℕ → List ℕ → List ℕ
place_bytes dir name = handle_bytes dir ++ name_bytes name

abbrev pub SpellsPlace : List ℕ → List ℕ → List ℕ → Type 0
SpellsPlace dir name = SpellsHandle dir ⨾ SpellsName name
