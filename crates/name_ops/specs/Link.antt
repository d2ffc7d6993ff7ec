-- A file gets a further name (RFC 1813, section 3.3.15).
use Rattle.std.specs.Prelude.{◌≡◌, ℕ, Bool, true, false, List, Option, Some, None, Result, Ok, Err}
use Rattle.nfs_types.specs.declared.attr.Attr.{Attr}
use Rattle.nfs_types.specs.declared.wcc.Wcc.{Wcc}
use Rattle.nfs_dir_calls.specs.declared.call.DirCall.TheVariants as dirs
use Rattle.nfs_dir_calls.specs.declared.keeping.DirKept.TheVariants as kept
use Rattle.world_model.specs.declared.answer.Fault.{Fault}
use Rattle.world_model.specs.declared.answer.Fault.TheVariants.{Nfs, Bad}
use Rattle.world_model.specs.declared.message.Call.{Call}
use Rattle.world_model.specs.declared.message.Call.TheVariants as calls
use Rattle.world_model.specs.declared.message.Reply.{Reply}
use Rattle.world_model.specs.declared.message.Reply.TheVariants.{Dir}
use Rattle.client_shelf.specs.declared.turn.Turn.{Turn}
use Rattle.client_shelf.specs.declared.shelf.Shelf.{Shelf}
use Rattle.client_shelf.specs.declared.step.Step.{Step}
use Rattle.name_ops.specs.declared.told.Told.{Told}
use Rattle.name_ops.specs.declared.pair.Pair.{Pair}
use Rattle.name_ops.specs.declared.link.Link.{Link}
use Rattle.name_ops.specs.Changing.{refused_by, Changes}
use Rattle.name_ops.specs.Pairs.{Walks}

abbrev pub link_call : List ℕ → List ℕ → List ℕ → Call
link_call name file dir = calls.Dir (dirs.Link file dir name)

-- what the reply tells: the file's attributes too, also if it refuses
abbrev pub linked : List ℕ → Option Attr → Wcc → Option Fault → Told
linked file attr wcc refusal = record { object = Some file; attr = attr; dir = wcc.after; refusal = refusal; unmade = false }

abbrev pub linked_told : List ℕ → Result Reply Fault → Told
linked_told file (Ok (Dir (kept.Link attr wcc))) = linked file attr wcc None
linked_told file (Ok (Dir (kept.LinkFail status attr wcc))) = linked file attr wcc (Some (Nfs status.0))
linked_told file (Ok reply) = refused_by (Bad 2)
linked_told file (Err fault) = refused_by fault

-- The step at what came of a call, by whether the LINK was asked for.
abbrev pub TakesLink : Bool → Link → Turn → Turn → Result Reply Fault → Shelf → Step → Pair → Shelf → Type 0
TakesLink true m sent turn came old next new after =
    (new ≡ m.pair) × Changes m.pair.second.spot.dir (link_call m.name m.pair.first.spot.dir m.pair.second.spot.dir) (linked_told m.pair.first.spot.dir came)
    sent turn old next after
TakesLink false m sent turn came old next new after = Walks (link_call m.name) m.pair sent turn came old next new after
