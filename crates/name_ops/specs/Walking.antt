-- A path is walked from the root. A name is taken from the kept ones if its directory's attributes are believed and it was learnt
-- under their stamp; else LOOKUP is asked (RFC 1813, section 3.3.3).
use Rattle.std.specs.Prelude.{◌≡◌, ℕ, zero, suc, ◌-◌, Bool, true, false, if◌then◌else◌, List, length, Option, Some, None, slice_get, Result, Ok, Err}
use Rattle.nfs_types.specs.declared.attr.Attr.{Attr}
use Rattle.nfs_types.specs.Stamps.{stamp_of}
use Rattle.attr_cache.specs.Attrs as attrs
use Rattle.name_cache.specs.Names as names
use Rattle.world_model.specs.declared.answer.Fault.{Fault}
use Rattle.world_model.specs.declared.message.Reply.{Reply}
use Rattle.client_shelf.specs.declared.turn.Turn.{Turn}
use Rattle.client_shelf.specs.declared.shelf.Shelf.{Shelf}
use Rattle.name_ops.specs.declared.walk.Spot.{Spot}
use Rattle.name_ops.specs.declared.walk.Walk.{Walk}
use Rattle.name_ops.specs.declared.walk.WalkStep.{WalkStep}
use Rattle.name_ops.specs.declared.walk.WalkStep.TheVariants.{Send, Wait, At, Refused}
use Rattle.name_ops.specs.Looking.{look_up, found_by, look_again, Hears}

-- ---- kept names

-- the place that one more name leads to
abbrev pub reached : List ℕ → Spot → Spot
reached found spot = record { dir = found; left = spot.left - 1 }

-- the first one of so many names that are left
abbrev pub name_at : List (List ℕ) → ℕ → Option (List ℕ)
name_at path left = slice_get path (length path - left)

-- where a walk is, and the kept names then
pub record Passed : Type 0 where
  pub spot : Spot
  pub names : names.Entries

abbrev pub spot_after : Option (List ℕ) → Spot → Spot
spot_after None spot = spot
spot_after (Some found) spot = reached found spot

-- A name is gone through if it was learnt under the stamp of its directory's attributes.
abbrev pub passed_under : Option Attr → List ℕ → Passed → Passed
passed_under None name p = p
passed_under (Some attr) name p = record {
  spot = spot_after (names.looked p.spot.dir name (stamp_of attr) p.names) p.spot;
  names = names.after_look p.spot.dir name (stamp_of attr) p.names;
}

abbrev pub passed_name : List ℕ → ℕ → attrs.Attrs → Passed → Passed
passed_name name now known p = passed_under (attrs.looked p.spot.dir now known) name p

abbrev pub passed_next : Option (List ℕ) → ℕ → attrs.Attrs → Passed → Passed
passed_next None now known p = p
passed_next (Some name) now known p = passed_name name now known p

abbrev pub passed_one : List (List ℕ) → ℕ → attrs.Attrs → Passed → Passed
passed_one path now known p = passed_next (name_at path p.spot.left) now known p

-- so many names at most, one after the other
abbrev pub passed : ℕ → List (List ℕ) → ℕ → attrs.Attrs → Passed → Passed
passed zero path now known p = p
passed (suc n) path now known p = passed_one path now known (passed n path now known p)

-- as far as kept names lead
abbrev pub passed_all : Walk → ℕ → attrs.Attrs → names.Entries → Passed
passed_all w now known kept = passed w.spot.left w.path now known (record { spot = w.spot; names = kept })

abbrev pub walked : Walk → ℕ → attrs.Attrs → names.Entries → Walk
walked w now known kept = record w { spot = (passed_all w now known kept).spot }

-- ---- the next call

abbrev pub next_name : Walk → Option (List ℕ)
next_name w = name_at w.path w.spot.left

-- If a name is left, it is asked for as soon as there is room.
abbrev pub asks : Option (List ℕ) → Bool → Walk → WalkStep
asks None room w = At w.spot.dir
asks (Some name) room w = if room then Send (look_up w.spot.dir name) else Wait

abbrev pub asked_after : Option (List ℕ) → Bool → Walk → Walk
asked_after None room w = w
asked_after (Some name) room w = if room then record w { asked = true } else w

-- through kept names, and then the call
abbrev pub on_next : Walk → Turn → attrs.Attrs → names.Entries → WalkStep
on_next w turn known kept = asks (next_name (walked w turn.now known kept)) turn.room (walked w turn.now known kept)

abbrev pub on_after : Walk → Turn → attrs.Attrs → names.Entries → Walk
on_after w turn known kept = asked_after (next_name (walked w turn.now known kept)) turn.room (walked w turn.now known kept)

abbrev pub on_names : Walk → Turn → attrs.Attrs → names.Entries → names.Entries
on_names w turn known kept = (passed_all w turn.now known kept).names

-- ---- a step that no reply made possible

abbrev pub go_next : Walk → Turn → Shelf → WalkStep
go_next w turn shelf = if w.asked then Wait else on_next w turn shelf.attrs shelf.names

abbrev pub go_after : Walk → Turn → Shelf → Walk
go_after w turn shelf = if w.asked then w else on_after w turn shelf.attrs shelf.names

abbrev pub go_names : Walk → Turn → Shelf → names.Entries
go_names w turn shelf = if w.asked then shelf.names else on_names w turn shelf.attrs shelf.names

abbrev pub go_shelf : Walk → Turn → Shelf → Shelf
go_shelf w turn shelf = record shelf { names = go_names w turn shelf }

-- ---- the step at a reply

-- the name whose LOOKUP has no reply yet
abbrev pub waiting_name : Walk → Option (List ℕ)
waiting_name w = if w.asked then next_name w else None

-- what was found is the next place
abbrev pub arrived : Walk → List ℕ → Walk
arrived w found = record w { spot = reached found w.spot; asked = false }

-- Where the reply leads, once it was learnt of.
abbrev pub told_next : Walk → Result (List ℕ) Fault → Turn → Shelf → WalkStep
told_next w (Ok found) turn shelf = on_next (arrived w found) turn shelf.attrs shelf.names
told_next w (Err fault) turn shelf = Refused fault

abbrev pub told_walk : Walk → Result (List ℕ) Fault → Turn → Shelf → Walk
told_walk w (Ok found) turn shelf = on_after (arrived w found) turn shelf.attrs shelf.names
told_walk w (Err fault) turn shelf = w

abbrev pub told_shelf : Walk → Result (List ℕ) Fault → Turn → Shelf → Shelf
told_shelf w (Ok found) turn shelf = record shelf { names = on_names (arrived w found) turn shelf.attrs shelf.names }
told_shelf w (Err fault) turn shelf = shelf

-- The same LOOKUP is made again if the server is busy.
abbrev pub followed_next : Bool → Walk → List ℕ → Result (List ℕ) Fault → Turn → Shelf → WalkStep
followed_next busy w name told turn shelf = if busy then Send (look_up w.spot.dir name) else told_next w told turn shelf

abbrev pub followed_walk : Bool → Walk → Result (List ℕ) Fault → Turn → Shelf → Walk
followed_walk busy w told turn shelf = if busy then w else told_walk w told turn shelf

abbrev pub followed_shelf : Bool → Walk → Result (List ℕ) Fault → Turn → Shelf → Shelf
followed_shelf busy w told turn shelf = if busy then shelf else told_shelf w told turn shelf

-- The reply to the LOOKUP of a name is learnt of, and then followed.
pub record Looks (w : Walk) (name : List ℕ) (sent turn : Turn) (came : Result Reply Fault) (old : Shelf) (next : WalkStep) (new : Walk)
    (after : Shelf) : Type 0 where
  pub heard : Shelf
  pub hears : Hears w.spot.dir name sent turn came old heard
  pub next_is : next ≡ followed_next (look_again sent turn came old) w name (found_by came) turn heard
  pub walk_is : new ≡ followed_walk (look_again sent turn came old) w (found_by came) turn heard
  pub shelf_is : after ≡ followed_shelf (look_again sent turn came old) w (found_by came) turn heard

-- nothing happens
pub record Waits (w : Walk) (old : Shelf) (next : WalkStep) (new : Walk) (after : Shelf) : Type 0 where
  pub next_is : next ≡ Wait
  pub walk_is : new ≡ w
  pub shelf_is : after ≡ old

-- What comes to a walk that asked for nothing means nothing.
abbrev pub Takes : Option (List ℕ) → Walk → Turn → Turn → Result Reply Fault → Shelf → WalkStep → Walk → Shelf → Type 0
Takes (Some name) w sent turn came old next new after = Looks w name sent turn came old next new after
Takes None w sent turn came old next new after = Waits w old next new after
