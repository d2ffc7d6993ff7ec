-- A mark that is noted, among what a call of a link may add.
use Rattle.std.proofs.Common.{◌≡◌, List, [], ◌∷◌, Option, Some, None, Result, Ok, Err, refl}
use Rattle.world_model.specs.declared.entry.Entry.{Entry}
use Rattle.world_model.specs.declared.entry.Mark.{Mark}
use Rattle.world_model.specs.declared.entry.Mark.TheVariants as marks
use Rattle.world_model.specs.Entries.{ours}
use Rattle.world_model.specs.History.{History}
use Rattle.world_model.specs.Told.{Adds, Tells}
use Rattle.outside.specs.Link.{Appends, NotesOnly, entry_of, noted_as}
use Rattle.outside.specs.declared.wire.WireEntry.{WireEntry}
use Rattle.outside.specs.Wire.{WireTold, AddsCall, WireTells, WireNotes}

-- a mark is the client's
pub mark_ours : (mark : Mark) → ours (entry_of mark ∷ []) ≡ entry_of mark ∷ []
mark_ours (marks.Began lane line op) = refl
mark_ours (marks.Answered lane line answer) = refl
mark_ours (marks.Clock ms) = refl

pub noted_ours : {T E : Type 0} (mark : Mark) (result : Result T E) → ours (noted_as mark result) ≡ noted_as mark result
noted_ours mark (Ok x) = mark_ours mark
noted_ours mark (Err e) = refl

pub appends_add : (old new : History) (es : List Entry) → ours es ≡ es → Appends old new es → Adds old new es
appends_add old new es seen a = record { more = es; grown = a.grown; seen = seen; earlier = a.earlier }

-- What a note adds is what a call may add.
pub notes_tell : {T E : Type 0} (old new : Option History) (mark : Mark) (result : Result T E) → NotesOnly old new (noted_as mark result) → Tells old new (noted_as mark result)
notes_tell None new mark result n = tt
notes_tell (Some old) None mark result n = absurd n
notes_tell (Some old) (Some new) mark result n = appends_add old new (noted_as mark result) (noted_ours mark result) n

-- The same of a wire.
pub wire_notes_tell : (old new : Option WireTold) (did : Option WireEntry) → WireNotes old new did → WireTells old new did
wire_notes_tell None new did n = n
wire_notes_tell (Some old) None did n = absurd n
wire_notes_tell (Some old) (Some new) None n = n
wire_notes_tell (Some old) (Some new) (Some did) n = record { quiet = []; grown = n; unseen = refl }
