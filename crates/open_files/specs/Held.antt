-- How the opens are kept: in a slab, each with its place.
use Rattle.std.specs.Prelude.{◌≡◌, ℕ, List, Some, map}
use Rattle.std.specs.FinMap as finite
use Rattle.slab.specs.Slab.{Slab, get, entries}
use Rattle.open_files.specs.declared.open_files.Held.{Held}
use Rattle.open_files.specs.declared.opened.Opened.{Opened}
use Rattle.open_files.specs.Slots.{Place, Opens, place_cmp}

abbrev pub place_of : Held → Place
place_of held = (held.lane, held.slot)

abbrev pub entry_of : ℕ × Held → Place × Opened
entry_of e = (place_of e.1, e.1.of)

abbrev pub opens_of : Slab Held → Opens
opens_of slab = finite.from_entries (map entry_of (entries slab))

abbrev pub IsAt : Place → Held → Type 0
IsAt place held = place_of held ≡ place

-- no two opens have one place
pub record IsDistinct (slab : Slab Held) : Type 0 where
  pub one : (k j : ℕ) (held other : Held) → get slab k ≡ Some held → get slab j ≡ Some other → place_of held ≡ place_of other → k ≡ j

abbrev pub HasNoneAt : Slab Held → Place → Type 0
HasNoneAt slab place = (key : ℕ) (held : Held) → get slab key ≡ Some held → ¬ IsAt place held

pub record HasFile (slab : Slab Held) (file : List ℕ) : Type 0 where
  pub key : ℕ
  pub held : Held
  pub there : get slab key ≡ Some held
  pub same : held.of.file ≡ file
