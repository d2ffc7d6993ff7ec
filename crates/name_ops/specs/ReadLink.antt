-- What a symbolic link leads to is shown (RFC 1813, section 3.3.5).
use Rattle.std.specs.Prelude.{◌≡◌, ◌⊎◌, ℕ, Bool, true, false, List, Option, None, Result, Ok, Err}
use Rattle.nfs_types.specs.declared.attr.Attr.{Attr}
use Rattle.nfs_dir_calls.specs.declared.call.DirCall.TheVariants as dirs
use Rattle.nfs_dir_calls.specs.declared.keeping.DirKept.TheVariants as kept
use Rattle.world_model.specs.declared.answer.Fault.{Fault}
use Rattle.world_model.specs.declared.answer.Fault.TheVariants as faults
use Rattle.world_model.specs.declared.answer.Value.{Value}
use Rattle.world_model.specs.declared.answer.Value.TheVariants.{Text}
use Rattle.world_model.specs.declared.message.Call.{Call}
use Rattle.world_model.specs.declared.message.Call.TheVariants as calls
use Rattle.world_model.specs.declared.message.Reply.{Reply}
use Rattle.world_model.specs.declared.message.Reply.TheVariants.{Dir}
use Rattle.client_shelf.specs.declared.turn.Turn.{Turn}
use Rattle.client_shelf.specs.declared.shelf.Shelf.{Shelf}
use Rattle.client_shelf.specs.declared.step.Step.{Step}
use Rattle.name_ops.specs.declared.visit.Visit.{Visit}
use Rattle.name_ops.specs.Showing.{Shows}
use Rattle.name_ops.specs.Visiting.{Walks}

abbrev pub text_call : List ℕ → Call
text_call link = calls.Dir (dirs.ReadLink link)

-- the attributes in the reply
abbrev pub text_attr : Result Reply Fault → Option Attr
text_attr (Ok (Dir (kept.ReadLink attr text))) = attr
text_attr (Ok (Dir (kept.ReadLinkFail status attr))) = attr
text_attr (Ok reply) = None
text_attr (Err fault) = None

-- the text, for whose copy there may be no memory; a reply that doesn't fit the call is answered badly
abbrev pub Copies : List ℕ → Result Value Fault → Type 0
Copies text told = (told ≡ Ok (Text text)) ⊎ (told ≡ Err faults.Memory)

abbrev pub TellsText : Result Reply Fault → Result Value Fault → Type 0
TellsText (Ok (Dir (kept.ReadLink attr text))) told = Copies text told
TellsText (Ok (Dir (kept.ReadLinkFail status attr))) told = told ≡ Err (faults.Nfs status.0)
TellsText (Ok reply) told = told ≡ Err (faults.Bad 2)
TellsText (Err fault) told = told ≡ Err fault

-- the step at the reply
pub record ShowsText (link : List ℕ) (sent turn : Turn) (came : Result Reply Fault) (old : Shelf) (next : Step) (after : Shelf) : Type 0 where
  pub told : Result Value Fault
  pub tells : TellsText came told
  pub shows : Shows link (text_attr came) told (text_call link) sent turn old next after

-- The step at what came of a call, by whether the READLINK was asked for.
abbrev pub TakesText : Bool → Visit → Turn → Turn → Result Reply Fault → Shelf → Step → Visit → Shelf → Type 0
TakesText true v sent turn came old next new after = (new ≡ v) × ShowsText v.walk.spot.dir sent turn came old next after
TakesText false v sent turn came old next new after = Walks text_call v sent turn came old next new after
