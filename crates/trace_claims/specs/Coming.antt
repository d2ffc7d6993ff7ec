-- The records that came.
use Rattle.std.specs.Prelude.{◌≡◌, ◌<◌, ◌&&◌, not, nat_lt, ℕ, Bool, true, false, List, [], ◌∷◌, Option, Some, None, slice_get}
use Rattle.std.specs.List.{list_any}
use Rattle.world_model.specs.declared.entry.Entry.{Entry}
use Rattle.world_model.specs.declared.entry.Entry.TheVariants.{Began, Answered, Dialed, Sent, Executed, Foreign, Flushed, Reboot, Delivered, Failed, Clock}
use Rattle.world_model.specs.Entries.{At}

-- it came between these places
abbrev pub came_between : (from to : ℕ) → ℕ → Bool
came_between from to place = nat_lt from place && nat_lt place to

abbrev pub some_came : List ℕ → (from to : ℕ) → Bool
some_came rs from to = list_any (came_between from to) rs

-- no record came between these places
abbrev pub none_came : List ℕ → (from to : ℕ) → Bool
none_came rs from to = not (some_came rs from to)

abbrev pub CameAt : List Entry → ℕ → Type 0
CameAt h x = (bytes : List ℕ) × At h x (Delivered bytes)

abbrev pub ListsCame : List ℕ → ℕ → Type 0
ListsCame rs x = (k : ℕ) × (slice_get rs k ≡ Some x)

-- the list has all records that came before the place n, and those alone
pub record HasCame (h : List Entry) (n : ℕ) (rs : List ℕ) : Type 0 where
  pub each : (k place : ℕ) → slice_get rs k ≡ Some place → CameAt h place
  pub every : (x : ℕ) (bytes : List ℕ) → At h x (Delivered bytes) → x < n → ListsCame rs x

-- ---- the list as it is made

abbrev pub place_if : Bool → ℕ → List ℕ
place_if true place = place ∷ []
place_if false place = []

abbrev pub comes : Entry → Bool
comes (Delivered bytes) = true
comes (Began lane line op) = false
comes (Answered lane line answer) = false
comes (Dialed port) = false
comes (Sent bytes) = false
comes (Executed xid call reply) = false
comes (Foreign call reply) = false
comes (Flushed file from len) = false
comes (Reboot verf) = false
comes Failed = false
comes (Clock ms) = false

abbrev pub comes_there : Option Entry → Bool
comes_there None = false
comes_there (Some e) = comes e

-- a record came at the place
unfoldable pub came_at : List Entry → ℕ → Bool
came_at h i = comes_there (slice_get h i)

abbrev pub bytes_that_came : Entry → List ℕ
bytes_that_came (Delivered bytes) = bytes
bytes_that_came (Began lane line op) = []
bytes_that_came (Answered lane line answer) = []
bytes_that_came (Dialed port) = []
bytes_that_came (Sent bytes) = []
bytes_that_came (Executed xid call reply) = []
bytes_that_came (Foreign call reply) = []
bytes_that_came (Flushed file from len) = []
bytes_that_came (Reboot verf) = []
bytes_that_came Failed = []
bytes_that_came (Clock ms) = []

abbrev pub bytes_there : Option Entry → List ℕ
bytes_there None = []
bytes_there (Some e) = bytes_that_came e

-- the bytes of the record that came at the place
unfoldable pub came_bytes : List Entry → ℕ → List ℕ
came_bytes h i = bytes_there (slice_get h i)
