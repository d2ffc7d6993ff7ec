-- What a link tells: its history, and how a call of the link makes it longer.
use Rattle.std.specs.Prelude.{◌≡◌, ◌≤◌, ℕ, List, length, ◌++◌, Option, Some, None}
use Rattle.world_model.specs.declared.entry.Entry.{Entry}
use Rattle.world_model.specs.Entries.{ours}
use Rattle.world_model.specs.History.{History}
use Rattle.world_model.specs.Lawful.{Lawful}

-- After old comes new: entries were added, of which these are the client's. Before, between and after them the
-- server may have made any number of its own. What was told of the server at earlier moments stays.
pub record Adds (old new : History) (es : List Entry) : Type 0 where
  pub more : List Entry
  pub grown : new.entries ≡ old.entries ++ more
  pub seen : ours more ≡ es
  pub earlier : (n : ℕ) → n ≤ length old.entries → new.at n ≡ old.at n

-- the same of what a link may tell: a link that tells goes on telling
abbrev pub Tells : Option History → Option History → List Entry → Type 0
Tells None new es = Unit {0}
Tells (Some old) None es = ⊥
Tells (Some old) (Some new) es = Adds old new es

-- a link that told a history goes on telling, and the two are so related
abbrev pub Relates : Option History → Option History → (List Entry → List Entry → Type 0) → Type 0
Relates None new R = Unit {0}
Relates (Some old) None R = ⊥
Relates (Some old) (Some new) R = R old.entries new.entries

-- what is told, if a history is, is lawful
abbrev pub IsLawful : Option History → Type 0
IsLawful None = Unit {0}
IsLawful (Some t) = Lawful t
