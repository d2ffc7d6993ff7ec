-- Objects of a trace that show those of an export, by their places.
use Rattle.std.specs.Prelude.{◌≡◌, ◌≤◌, ◌<◌, ◌∷◌, [], ℕ, List, length, Option, Some, None, slice_get}
use Rattle.std.specs.Prelude.{nat_lt, ◌==◌, if◌then◌else◌}
use Rattle.std.specs.Option.{option_map}
use Rattle.std.specs.Str.{bytes_eq}
use Rattle.world_model.specs.Server as model
use Rattle.export_fs.specs.declared.node.Node.{Node}
use Rattle.export_fs.specs.Parts.{handle_of, place_of}
use Rattle.export_fs.specs.declared.row.Row.{Row}
use Rattle.export_fs.specs.Pages.{rows_after}
use Rattle.export_fs.specs.Seen.{entry_of, held_of, seen_at, seen_by}
use Rattle.trace_data.specs.declared.trace.DirEntry.{DirEntry}
use Rattle.trace_data.specs.declared.trace.Object.{Object}
use Rattle.trace_data.specs.declared.trace.Updated.{Updated}
use Rattle.trace_data.specs.Histories.{listed_of, named, object_of}

-- what an object holds; if there is none, an empty text
abbrev pub held_in : Option Node → model.Holds
held_in None = model.Text []
held_in (Some node) = held_of node.holds

-- The entry is the first one after a cookie.
pub record IsNext (e : DirEntry) (cookie : ℕ) (rows : List Row) : Type 0 where
  pub row : Row
  pub same : listed_of e ≡ entry_of row
  pub is : rows_after cookie rows ≡ row ∷ rows_after row.cookie rows

-- each place has the object of the export
abbrev pub Mirrors : List Node → List Object → Type 0
Mirrors nodes shown = (place : ℕ) → option_map object_of (slice_get shown place) ≡ seen_at nodes place

-- what is named now, or else what was
abbrev pub named_or : Option Object → Option model.Object → Option model.Object
named_or None was = was
named_or (Some o) was = Some (object_of o)

-- The objects that changed are named under their handles, and all are shown.
pub record Changes (old new : List Node) (shown : List Object) (objects : List Updated) : Type 0 where
  pub shows : Mirrors new shown
  pub tells : (h : List ℕ) → named_or (named objects h) (seen_by old h (place_of h)) ≡ seen_by new h (place_of h)

-- ---- up to a place

-- the objects below a place are those of the new export, the others those of the old one
abbrev pub seen_below : ℕ → List Node → List Node → ℕ → Option model.Object
seen_below bound old new place = if nat_lt place bound then seen_at new place else seen_at old place

abbrev pub below_by : ℕ → List Node → List Node → List ℕ → Option ℕ → Option model.Object
below_by bound old new h None = None
below_by bound old new h (Some place) = if bytes_eq h (handle_of place) then seen_below bound old new place else None

pub record IsBelow (bound : ℕ) (h : List ℕ) : Type 0 where
  pub place : ℕ
  pub is : place_of h ≡ Some place
  pub below : place < bound

pub record Renewed (bound : ℕ) (old new : List Node) (shown : List Object) (objects : List Updated) : Type 0 where
  pub many : bound ≤ length shown
  pub shows : (place : ℕ) → option_map object_of (slice_get shown place) ≡ seen_below bound old new place
  pub tells : (h : List ℕ) → named_or (named objects h) (seen_by old h (place_of h)) ≡ below_by bound old new h (place_of h)
  pub names : (h : List ℕ) (o : Object) → named objects h ≡ Some o → IsBelow bound h

-- the object stands at the place, and each other one where it was
pub record IsShown (place : ℕ) (object : Object) (before after : List Object) : Type 0 where
  pub many : place < length after
  pub is : (at : ℕ) → slice_get after at ≡ (if at == place then Some object else slice_get before at)
