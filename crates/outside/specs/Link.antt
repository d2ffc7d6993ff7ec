-- Which entries of the client a call of a link adds.
use Rattle.std.specs.Prelude.{◌≡◌, ◌≤◌, ℕ, List, [], ◌∷◌, ◌++◌, length, Option, Some, None, Result, Ok, Err}
use Rattle.world_model.specs.declared.entry.Mark.{Mark}
use Rattle.world_model.specs.declared.entry.Mark.TheVariants as marks
use Rattle.world_model.specs.declared.entry.Entry.{Entry}
use Rattle.world_model.specs.declared.entry.Entry.TheVariants as entries
use Rattle.world_model.specs.History.{History}
use Rattle.outside.specs.declared.link.LinkFault.{LinkFault}
use Rattle.outside.specs.declared.link.LinkFault.TheVariants as faults
use Rattle.outside.specs.declared.link.Received.{Received}
use Rattle.outside.specs.declared.link.Received.TheVariants as received

-- an attempt that failed is followed by Failed; when out of memory nothing was tried
abbrev pub tried_as : {T : Type 0} → Entry → Result T LinkFault → List Entry
tried_as e (Ok x) = e ∷ []
tried_as e (Err faults.Failed) = e ∷ entries.Failed ∷ []
tried_as e (Err faults.Memory) = []

abbrev pub dialed_as : {T : Type 0} → ℕ → Result T LinkFault → List Entry
dialed_as port result = tried_as (entries.Dialed port) result

abbrev pub sent_as : {T : Type 0} → List ℕ → Result T LinkFault → List Entry
sent_as rec result = tried_as (entries.Sent rec) result

abbrev pub received_as : List ℕ → Received → List Entry
received_as rec received.Whole = entries.Delivered rec ∷ []
received_as rec received.Silent = entries.Failed ∷ []
received_as rec received.Failed = entries.Failed ∷ []
received_as rec received.Memory = []

abbrev pub entry_of : Mark → Entry
entry_of (marks.Began lane line op) = entries.Began lane line op
entry_of (marks.Answered lane line answer) = entries.Answered lane line answer
entry_of (marks.Clock ms) = entries.Clock ms

abbrev pub noted_as : {T E : Type 0} → Mark → Result T E → List Entry
noted_as mark (Ok x) = entry_of mark ∷ []
noted_as mark (Err e) = []

-- After old comes new: these entries were added right behind it, and nothing else. What was told of the server at
-- earlier moments stays.
pub record Appends (old new : History) (es : List Entry) : Type 0 where
  pub grown : new.entries ≡ old.entries ++ es
  pub earlier : (n : ℕ) → n ≤ length old.entries → new.at n ≡ old.at n

-- the same of what a link may tell: a link that tells goes on telling
abbrev pub NotesOnly : Option History → Option History → List Entry → Type 0
NotesOnly None new es = Unit {0}
NotesOnly (Some old) None es = ⊥
NotesOnly (Some old) (Some new) es = Appends old new es
