-- A history of which the first part is another client's.
use Rattle.std.specs.Prelude.{◌≡◌, ◌-◌, ℕ, zero, suc, Bool, true, false, List, [], ◌∷◌, ◌++◌, length, Option, Some, None, if◌then◌else◌}
use Rattle.world_model.specs.declared.entry.Entry.{Entry}
use Rattle.world_model.specs.declared.entry.Entry.TheVariants.{Executed, Foreign, Flushed, Reboot}
use Rattle.world_model.specs.Entries.{ours}
use Rattle.world_model.specs.History.{History, history}

-- whether an entry is the client's
abbrev pub is_own : Entry → Bool
is_own (Executed xid call reply) = false
is_own (Foreign call reply) = false
is_own (Flushed file from len) = false
is_own (Reboot verf) = false
is_own e = true

-- what it is to another client
abbrev pub aside : Entry → List Entry
aside (Executed xid call reply) = Foreign call reply ∷ []
aside (Foreign call reply) = Foreign call reply ∷ []
aside (Flushed file from len) = Flushed file from len ∷ []
aside (Reboot verf) = Reboot verf ∷ []
aside e = []

-- up to the next entry of the client's they are set aside
abbrev pub rest_anew : List Entry → List Entry
rest_anew [] = []
rest_anew (e ∷ es) = if is_own e then e ∷ es else (aside e ++ rest_anew es)

-- so many of the client's entries are left out, and all others up to the next one are set aside
abbrev pub anew : ℕ → List Entry → List Entry
anew zero h = rest_anew h
anew (suc k) [] = []
anew (suc k) (e ∷ es) = if is_own e then anew k es else (aside e ++ anew (suc k) es)

-- so many of the client's entries were added since
abbrev pub told_anew : ℕ → Option History → Option History
told_anew own None = None
told_anew own (Some t) = Some (history (anew (length (ours t.entries) - own) t.entries))

-- as many of the client's entries stand before those that were added
abbrev pub KeepsCount : ℕ → ℕ → Option History → Option History → Type 0
KeepsCount first now None new = Unit {0}
KeepsCount first now (Some old) None = ⊥
KeepsCount first now (Some old) (Some new) = length (ours new.entries) - now ≡ length (ours old.entries) - first

-- a history as a client sees it that comes after the first one: what the client did there is left out, and what was executed is another client's
abbrev pub since : List Entry → List Entry → List Entry
since first h = anew (length (ours first)) h
