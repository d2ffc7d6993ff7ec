-- Places in a history, and which entries the client makes or sees.
use Rattle.std.specs.Prelude.{◌≡◌, ℕ, List, [], ◌∷◌, Some, slice_get}
use Rattle.world_model.specs.declared.entry.Entry.{Entry}
use Rattle.world_model.specs.declared.entry.Entry.TheVariants.{Began, Answered, Dialed, Sent, Executed, Foreign, Flushed, Reboot, Delivered, Failed, Clock}

-- entry i of the history is e; entries are counted from 0
abbrev pub At : List Entry → ℕ → Entry → Type 0
At h i e = slice_get h i ≡ Some e

-- the entries that the client makes or sees, in their order: the server's own are left out
abbrev pub ours : List Entry → List Entry
ours [] = []
ours (Executed xid call reply ∷ es) = ours es
ours (Foreign call reply ∷ es) = ours es
ours (Flushed file from len ∷ es) = ours es
ours (Reboot verf ∷ es) = ours es
ours (Began lane line op ∷ es) = Began lane line op ∷ ours es
ours (Answered lane line answer ∷ es) = Answered lane line answer ∷ ours es
ours (Dialed port ∷ es) = Dialed port ∷ ours es
ours (Sent bytes ∷ es) = Sent bytes ∷ ours es
ours (Delivered bytes ∷ es) = Delivered bytes ∷ ours es
ours (Failed ∷ es) = Failed ∷ ours es
ours (Clock ms ∷ es) = Clock ms ∷ ours es
