-- RENAME, and what follows its reply (RFC 1813, section 3.3.14). A refusal too drops the names of both directories, since a call that
-- is repeated may be refused because its first copy was executed. If the call couldn't be made they stay.
use Rattle.std.specs.Prelude.{◌≡◌, ℕ, nat_eq, Bool, true, false, List, Option, Some, None, Result, Ok, Err}
use Rattle.std.specs.Cmp.Lexicographic.{pointwise}
use Rattle.nfs_types.specs.declared.attr.Attr.{Attr}
use Rattle.attr_cache.specs.Attrs.{Attrs}
use Rattle.nfs_dir_calls.specs.declared.call.DirCall.TheVariants as dirs
use Rattle.nfs_dir_calls.specs.declared.keeping.DirKept.TheVariants as kept
use Rattle.world_model.specs.declared.answer.Fault.{Fault}
use Rattle.world_model.specs.declared.answer.Fault.TheVariants.{Nfs, Bad}
use Rattle.world_model.specs.declared.message.Call.{Call}
use Rattle.world_model.specs.declared.message.Call.TheVariants as calls
use Rattle.world_model.specs.declared.message.Reply.{Reply}
use Rattle.world_model.specs.declared.message.Reply.TheVariants.{Dir}
use Rattle.client_shelf.specs.declared.turn.Turn.{Turn}
use Rattle.client_shelf.specs.declared.shelf.Shelf.{Shelf}
use Rattle.name_ops.specs.declared.moving.Moved.{Moved}
use Rattle.client_shelf.specs.Busy.{repeats_after}
use Rattle.name_ops.specs.Changing.{told_busy}
use Rattle.client_shelf.specs.Learning.{Renews}
use Rattle.client_shelf.specs.Unmade.{is_unmade, names_after}

abbrev pub move_call : List ℕ → List ℕ → List ℕ → List ℕ → Call
move_call from_dir from to_dir to = calls.Dir (dirs.Rename from_dir from to_dir to)

-- no reply of this call came, or it couldn't be made
abbrev pub unmoved : Fault → Moved
unmoved fault = record { from = None; to = None; refusal = Some fault; unmade = is_unmade fault }

-- what the reply tells; one that doesn't fit the call is answered badly
abbrev pub moved_told : Result Reply Fault → Moved
moved_told (Ok (Dir (kept.Rename from to))) = record { from = from.after; to = to.after; refusal = None; unmade = false }
moved_told (Ok (Dir (kept.RenameFail status from to))) = record { from = from.after; to = to.after; refusal = Some (Nfs status.0); unmade = false }
moved_told (Ok reply) = unmoved (Bad 2)
moved_told (Err fault) = unmoved fault

-- the attributes of one directory, and then those of the other
pub record RenewsBoth (from : List ℕ) (from_attr : Option Attr) (to : List ℕ) (to_attr : Option Attr) (now : ℕ) (old new : Attrs) : Type 0 where
  pub mid : Attrs
  pub first : Renews from from_attr now old mid
  pub second : Renews to to_attr now mid new

-- The attributes that the reply gives of the directory with the new name. Within one directory either side gives them.
abbrev pub given_to : Bool → Option Attr → Option Attr → Option Attr
given_to same from (Some attr) = Some attr
given_to true from None = from
given_to false from None = None

abbrev pub to_of : List ℕ → List ℕ → Moved → Option Attr
to_of from to told = given_to (pointwise nat_eq from to) told.from told.to

-- what is learnt of the reply, unless the call couldn't be made
abbrev pub RenewsMoved : Bool → List ℕ → List ℕ → Moved → ℕ → Attrs → Attrs → Type 0
RenewsMoved true from to told now old new = new ≡ old
RenewsMoved false from to told now old new = RenewsBoth from told.from to (to_of from to told) now old new

-- what the shelf becomes, but for what is learnt of attributes
abbrev pub moved_shelf : List ℕ → List ℕ → Moved → Turn → Turn → Attrs → Shelf → Shelf
moved_shelf from to told sent turn attrs shelf = record shelf {
  attrs = attrs;
  names = names_after told.unmade to (names_after told.unmade from shelf.names);
  repeats = repeats_after (told_busy told.refusal) sent turn shelf.repeats;
}
