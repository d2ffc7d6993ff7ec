-- What READDIRPLUS lists (RFC 1813, section 3.3.17).
use Rattle.std.specs.Prelude.{◌+◌, ℕ, true, min, List, [], ◌∷◌, ◌++◌, length, filter, Some, nat_lt, nat_le, if◌then◌else◌}
use Rattle.xdr_codec.specs.Spelling.{flag_bytes}
use Rattle.nfs_dir_calls.specs.declared.plus_page.PlusRow.{PlusRow}
use Rattle.nfs_dir_calls.specs.PlusPages.{plus_row_bytes}
use Rattle.export_fs.specs.declared.node.Node.{Node}
use Rattle.export_fs.specs.Held.{Row}
use Rattle.export_fs.specs.Parts.{handle_of, attr_at}

-- the entries after a cookie
abbrev pub rows_after : ℕ → List Row → List Row
rows_after cookie rows = filter (λ (row : Row). nat_lt cookie row.cookie) rows

-- an entry with the attributes and the file handle of its object
abbrev pub listed : List Node → Row → PlusRow
listed nodes row =
    record { fileid = row.place + 1; name = row.name; cookie = row.cookie; attr = attr_at nodes (Some row.place); found = Some (handle_of row.place) }

-- the bytes of an entry's spelling, with the word 1 before it
abbrev pub spelled_size : PlusRow → ℕ
spelled_size row = length (flag_bytes true ++ plus_row_bytes row)

-- the most bytes of the entries of a page
abbrev pub most_page : ℕ → ℕ
most_page maxcount = min maxcount 65536

-- the entries that fit so many bytes, of which some are used
abbrev pub fitting : List Node → ℕ → ℕ → List Row → List PlusRow
fitting nodes limit used [] = []
fitting nodes limit used (row ∷ rows) =
    if nat_le (used + spelled_size (listed nodes row)) limit then listed nodes row ∷ fitting nodes limit (used + spelled_size (listed nodes row)) rows else []

-- a page: the first entry, and those after it that fit
abbrev pub page_of : List Node → ℕ → List Row → List PlusRow
page_of nodes limit [] = []
page_of nodes limit (row ∷ rows) = listed nodes row ∷ fitting nodes limit (spelled_size (listed nodes row)) rows
