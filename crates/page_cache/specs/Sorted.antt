-- Slots in the order of the pages that they hold: by the bytes of the file, then by the page's number.
use Rattle.std.specs.Prelude.{◌≡◌, ◌≢◌, ◌<◌, ◌≤◌, ℕ, Bool, true, false, not, ◌&&◌, nat_eq, nat_lt, List, [], ◌∷◌, length, set, get_or, Option, Some, None, is_some, if◌then◌else◌}
use Rattle.std.specs.Option.{option_map_or}
use Rattle.std.specs.Ordering.{nat_cmp}
use Rattle.std.specs.declared.cmp.Ordering.{Ordering}
use Rattle.std.specs.declared.cmp.Ordering.TheVariants.{Less, Equal, Greater}
use Rattle.std.specs.Cmp.Lexicographic.{pointwise, slice_cmp}
use Rattle.page_cache.specs.declared.place.PagePlace.{PagePlace}
use Rattle.page_cache.specs.Slots.{index_in}

-- whether a page's number is below a bound; None is above all numbers
abbrev pub is_below : ℕ → Option ℕ → Bool
is_below index bound = option_map_or (λ b. nat_lt index b) bound true

-- by how the files compare, and by the numbers if they are one
abbrev pub before_by : Ordering → Bool → Bool
before_by Less below = true
before_by Equal below = below
before_by Greater below = false

-- whether a page stands before the place of this file and number; with no number, before the end of the file's pages
abbrev pub stands_before : List ℕ → Option ℕ → PagePlace → Bool
stands_before file bound place = before_by (slice_cmp nat_cmp place.file file) (is_below place.index bound)

-- the same of the page that a slot holds
abbrev pub is_before : List ℕ → Option ℕ → Option PagePlace → Bool
is_before file bound held = option_map_or (stands_before file bound) held false

-- the page that the slot at a place of the order holds
abbrev pub held_at : List (Option PagePlace) → List ℕ → ℕ → Option PagePlace
held_at held sorted i = get_or held (get_or sorted i 0) None

-- the same of the slot at a place of the order; false past the last one
abbrev pub is_before_at : List ℕ → Option ℕ → List (Option PagePlace) → List ℕ → ℕ → Bool
is_before_at file bound held sorted i = nat_lt i (length sorted) && is_before file bound (held_at held sorted i)

-- whether a slot holds a page of this file
abbrev pub is_of_file : List ℕ → Option PagePlace → Bool
is_of_file file held = option_map_or (λ place. pointwise nat_eq place.file file) held false

-- the same of the slot at a place of the order; false past the last one
abbrev pub is_of_file_at : List ℕ → List (Option PagePlace) → List ℕ → ℕ → Bool
is_of_file_at file held sorted i = nat_lt i (length sorted) && is_of_file file (held_at held sorted i)

-- The slots that hold pages, in the order of the pages, each once.
pub record IsSorted (count : ℕ) (held : List (Option PagePlace)) (sorted : List ℕ) : Type 0 where
  pub slots : length held ≡ count
  pub low : (i : ℕ) → i < length sorted → get_or sorted i 0 < count
  pub holds : (i : ℕ) → i < length sorted → is_some (held_at held sorted i) ≡ true
  pub rises : (i j : ℕ) (place : PagePlace) → i < j → j < length sorted → held_at held sorted j ≡ Some place
      → is_before place.file (Some place.index) (held_at held sorted i) ≡ true
  pub every : (slot : ℕ) → slot < count → is_some (get_or held slot None) ≡ true → (i : ℕ) × (i < length sorted) × (get_or sorted i 0 ≡ slot)

-- how many of the slots stand before a place
pub record IsGap (held : List (Option PagePlace)) (sorted : List ℕ) (file : List ℕ) (bound : Option ℕ) (at : ℕ) : Type 0 where
  pub inside : at ≤ length sorted
  pub before : (i : ℕ) → i < at → is_before file bound (held_at held sorted i) ≡ true
  pub after : (i : ℕ) → at ≤ i → i < length sorted → is_before file bound (held_at held sorted i) ≡ false

-- whether a slot holds a page of this file with a number from one on and below another
abbrev pub is_within : List ℕ → ℕ → Option ℕ → Option PagePlace → Bool
is_within file low high held = option_map_or (λ index. not (nat_lt index low) && is_below index high) (index_in file held) false

-- The slots that hold these pages of a file, each once.
pub record IsRun (count : ℕ) (file : List ℕ) (low : ℕ) (high : Option ℕ) (held : List (Option PagePlace)) (run : List ℕ) : Type 0 where
  pub low_slots : (i : ℕ) → i < length run → get_or run i 0 < count
  pub within : (i : ℕ) → i < length run → is_within file low high (get_or held (get_or run i 0) None) ≡ true
  pub apart : (i j : ℕ) → i < j → j < length run → get_or run i 0 ≢ get_or run j 0
  pub every : (slot : ℕ) → slot < count → is_within file low high (get_or held slot None) ≡ true → (i : ℕ) × (i < length run) × (get_or run i 0 ≡ slot)

-- the places of the order between which these pages of a file stand
pub record AreEnds (file : List ℕ) (low : ℕ) (high : Option ℕ) (held : List (Option PagePlace)) (sorted : List ℕ) (from to : ℕ) : Type 0 where
  pub start : IsGap held sorted file (Some low) from
  pub end : IsGap held sorted file high to

-- a slot that held a page of a file is free
abbrev pub freed : List ℕ → Option PagePlace → Option PagePlace
freed file held = if is_some (index_in file held) then None else held

-- what the slots hold once these are free
abbrev pub freeing : List ℕ → List (Option PagePlace) → List (Option PagePlace)
freeing [] held = held
freeing (slot ∷ run) held = freeing run (set held slot None)
