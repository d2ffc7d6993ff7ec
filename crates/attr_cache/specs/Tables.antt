-- The table of a cache, which is made with its first file.
use Rattle.std.specs.Prelude.{◌≡◌, ◌≤◌, ℕ, List, [], length, Option, Some, None}
use Rattle.lru.specs.LruCache.{LruCache}
use Rattle.attr_cache.specs.declared.kept.KeptAttr.{KeptAttr}

-- its entries
abbrev pub entries_in : Option (LruCache (List ℕ) KeptAttr) → List (List ℕ × KeptAttr)
entries_in None = []
entries_in (Some table) = table.entries

-- it has room for 1,024 files, and no more of them
abbrev pub HasRoom : Option (LruCache (List ℕ) KeptAttr) → Type 0
HasRoom None = Unit {0}
HasRoom (Some table) = (table.cap ≡ 1024) × (length table.entries ≤ 1024)
