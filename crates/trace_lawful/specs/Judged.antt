-- What an honest server and network make, entry by entry.
use Rattle.std.specs.Prelude.{◌≡◌, ◌<◌, ◌≤◌, ℕ, suc, List, length, Option, Some}
use Rattle.world_model.specs.declared.entry.Entry.{Entry}
use Rattle.world_model.specs.Entries.{At}
use Rattle.world_model.specs.Fresh.{Fresh}
use Rattle.world_model.specs.History.{History}
use Rattle.world_model.specs.Lawful.{LawfulAt, Lawful}
use Rattle.world_model.specs.Server as model
use Rattle.trace_data.specs.declared.trace.Object.{Object}
use Rattle.trace_data.specs.declared.trace.Updated.{Updated}
use Rattle.trace_data.specs.declared.trace.Trace.{Trace}
use Rattle.trace_data.specs.Histories.{history_of, named, object_of, objects_after}
use Rattle.trace_rules.specs.Beginnings.{beginning, OnceOf}

-- each object that is named is sound
abbrev pub AreSound : List Updated → Type 0
AreSound objects = (f : List ℕ) (o : Object) → named objects f ≡ Some o → model.IsSound (object_of o)

-- entry n is lawful
abbrev pub IsLawfulEntry : Trace → ℕ → Type 0
IsLawfulEntry t n = (e : Entry) → At t.entries.items n e → LawfulAt (history_of t) n e ((history_of t).at n) ((history_of t).at (suc n))

-- entry n leaves a server and is lawful
pub record IsLawfulAt (t : Trace) (n : ℕ) : Type 0 where
  pub sound : AreSound (objects_after t.updates.items n)
  pub entry : IsLawfulEntry t n

-- ---- the first three rules

-- it is lawful, no copy of a call comes late, and stamps are fresh
pub record KeepsServer (h : History) : Type 0 where
  pub lawful : Lawful h
  pub once : OnceOf h
  pub fresh : Fresh h

-- the first of the three rules that a history breaks
pub data BreaksFirst (h : History) (rule : ℕ) : Type 0 where
  unlawful : rule ≡ 1 → (Lawful h → ⊥) → BreaksFirst h rule
  late : rule ≡ 2 → Lawful h → (OnceOf h → ⊥) → BreaksFirst h rule
  stale : rule ≡ 3 → Lawful h → OnceOf h → (Fresh h → ⊥) → BreaksFirst h rule

-- so many entries are the fewest that break one of the three, and this is the first that they break
pub record FirstBroken (h : History) (n rule : ℕ) : Type 0 where
  pub within : n ≤ length h.entries
  pub breaks : BreaksFirst (beginning h n) rule
  pub least : (m : ℕ) → m < n → KeepsServer (beginning h m)
