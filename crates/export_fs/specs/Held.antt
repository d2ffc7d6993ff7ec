-- What an object of the export holds: the bytes of a file, or the names of a directory.
use Rattle.std.specs.Prelude.{ℕ, List}
pub use Rattle.export_fs.specs.declared.row.Row.{Row}

-- the bytes of a file as they are, and those that a restart leaves (RFC 1813, section 4.8)
pub record Content : Type 0 where
  pub bytes : List ℕ
  pub stable : List ℕ

-- the names of a directory in order of their cookies, the last cookie that it gave, and the place of the directory above
pub record Listing : Type 0 where
  pub parent : ℕ
  pub last : ℕ
  pub rows : List Row
