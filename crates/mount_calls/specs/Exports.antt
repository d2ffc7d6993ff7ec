-- The exports of a server (RFC 1813, section 5.2.5: exports, exportnode and groups).
use Rattle.std.specs.Prelude.{◌≤◌, ℕ, List, ◌++◌, length, Bool, true, false, Result, Ok, Err}
use Rattle.std.specs.List.{All}
use Rattle.xdr_codec.specs.declared.reader.XdrFault.{XdrFault}
use Rattle.xdr_codec.specs.Reading.{◌>>=◌, opaque_at}
use Rattle.xdr_codec.specs.Spelling.{flag_bytes, opaque_bytes}
use Rattle.xdr_codec.specs.Lists.{list_at}
use Rattle.xdr_codec.specs.Spells.{◌⨾◌, SpellsOpaque, SpellsList}
use Rattle.mount_calls.specs.declared.exports.ExportRow.{ExportRow}
use Rattle.mount_calls.specs.Lists.{many_bytes}

-- ---- the names of groups

-- names of at most 255 bytes, ended by the word 0
unfoldable pub groups_at : List ℕ → Result (List (List ℕ) × List ℕ) XdrFault
groups_at bytes = list_at (opaque_at 255) bytes

abbrev pub SpellsGroups : List (List ℕ) → List ℕ → Type 0
SpellsGroups = SpellsList (SpellsOpaque 255)

-- names that can be spelled
abbrev pub AreGroups : List (List ℕ) → Type 0
AreGroups = All (λ name. length name ≤ 255)

-- the word 1 and a name
abbrev pub next_name_bytes : List ℕ → List ℕ
next_name_bytes name = flag_bytes true ++ opaque_bytes name

unfoldable pub groups_bytes : List (List ℕ) → List ℕ
groups_bytes names = many_bytes next_name_bytes names ++ flag_bytes false

-- ---- a row: a directory of at most 1,024 bytes, and the groups that may mount it

unfoldable pub row_at : List ℕ → Result (ExportRow × List ℕ) XdrFault
row_at bytes = do
  path ← opaque_at 1024 bytes
  groups ← groups_at path.1
  Ok (record { path = path.0; groups = groups.0 }, groups.1)

abbrev pub SpellsRow : ExportRow → List ℕ → Type 0
SpellsRow row = SpellsOpaque 1024 row.path ⨾ SpellsGroups row.groups

-- a row that can be spelled
pub record IsRow (row : ExportRow) : Type 0 where
  pub path : length row.path ≤ 1024
  pub groups : AreGroups row.groups

unfoldable pub row_bytes : ExportRow → List ℕ
row_bytes row = opaque_bytes row.path ++ groups_bytes row.groups

-- the word 1 and a row
abbrev pub next_row_bytes : ExportRow → List ℕ
next_row_bytes row = flag_bytes true ++ row_bytes row

-- ---- the list: rows, ended by the word 0

unfoldable pub exports_at : List ℕ → Result (List ExportRow × List ℕ) XdrFault
exports_at bytes = list_at row_at bytes

abbrev pub SpellsExports : List ExportRow → List ℕ → Type 0
SpellsExports = SpellsList SpellsRow

-- rows that can be spelled
abbrev pub AreExports : List ExportRow → Type 0
AreExports = All IsRow

unfoldable pub exports_bytes : List ExportRow → List ℕ
exports_bytes rows = many_bytes next_row_bytes rows ++ flag_bytes false
