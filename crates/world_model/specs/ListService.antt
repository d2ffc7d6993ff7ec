-- What a server may answer with status 0 to READDIR and READDIRPLUS (RFC 1813, sections 3.3.16 and 3.3.17).
use Rattle.std.specs.Prelude.{◌≡◌, ◌⊎◌, ◌≤◌, ℕ, Bool, true, List, length, All, Option}
use Rattle.nfs_types.specs.declared.attr.Attr.{Attr}
use Rattle.nfs_dir_calls.specs.declared.plus_page.PlusRow.{PlusRow}
use Rattle.nfs_dir_calls.specs.declared.dir_page.DirRow.{DirRow}
use Rattle.world_model.specs.Server.{Listed, Entries, Server, Lists}
use Rattle.world_model.specs.Steps.{Looks, TrueOf}
use Rattle.world_model.specs.NameService.{ShowsHandle}

-- the directory is read, and holds these entries
pub record ReadsDir (s t : Server) (d : List ℕ) (attr : Option Attr) (entries : List Listed) : Type 0 where
  pub looks : Looks s t d
  pub holds : looks.reads.object.holds ≡ Entries entries
  pub shows : TrueOf t d attr

-- a row is of an entry: its name, its cookie and its object
pub record IsRowOf (entries : List Listed) (name : List ℕ) (cookie : ℕ) : Type 0 where
  pub object : List ℕ
  pub listed : Lists entries (record { name = name; object = object; cookie = cookie })

pub record IsPlusRowOf (t : Server) (entries : List Listed) (row : PlusRow) : Type 0 where
  pub entry : IsRowOf entries row.name row.cookie
  pub handle : ShowsHandle row.found entry.object
  pub attributes : TrueOf t entry.object row.attr

-- READDIR: at least one entry, or the end
pub record ListsNames (s t : Server) (d : List ℕ) (attr : Option Attr) (rows : List DirRow) (eof : Bool) : Type 0 where
  pub entries : List Listed
  pub reads : ReadsDir s t d attr entries
  pub each : All (λ (row : DirRow). IsRowOf entries row.name row.cookie) rows
  pub some : (1 ≤ length rows) ⊎ (eof ≡ true)

-- READDIRPLUS: with the object of each entry
pub record ListsObjects (s t : Server) (d : List ℕ) (attr : Option Attr) (rows : List PlusRow) (eof : Bool) : Type 0 where
  pub entries : List Listed
  pub reads : ReadsDir s t d attr entries
  pub each : All (IsPlusRowOf t entries) rows
  pub some : (1 ≤ length rows) ⊎ (eof ≡ true)
