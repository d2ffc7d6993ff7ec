-- Along a history a client comes from its beginning to a state: by entries, and by moves of its own between them.
use Rattle.std.specs.Prelude.{◌≡◌, List, [], ◌∷◌, ◌++◌, length, Option, None}
use Rattle.world_model.specs.declared.entry.Entry.{Entry}
use Rattle.world_model.specs.History.{History}
use Rattle.claims.specs.Modes.{Modes}
use Rattle.world_model.specs.Mounts.{Origin}
use Rattle.model_walks.specs.Machine.{View, Move, Enters}

-- nothing is known
abbrev pub Empty : {K V : Type 0} → (K → Option V) → Type 0
Empty {K} {V} known = (z : K) → known z ≡ None

-- a client at its beginning
pub record New (c : View) : Type 0 where
  pub wait : Empty c.calls.wait
  pub taken : Empty c.calls.taken
  pub now : c.now ≡ None
  pub attrs : Empty c.attrs
  pub names : Empty c.names
  pub spots : Empty c.spots
  pub found : Empty c.found
  pub shown : Empty c.shown
  pub lists : Empty c.lists

pub data Reaches (m : Modes) (origin : Origin) (t : History) : List Entry → View → Type 0 where
  begins : (h : List Entry) (c : View) → h ≡ [] → New c → Reaches m origin t h c
  enters : (h : List Entry) (c : View) (before : List Entry) (b : View) (e : Entry) → Reaches m origin t before b → h ≡ before ++ e ∷ []
      → Enters m origin t (length before) b e c → Reaches m origin t h c
  moves : (h : List Entry) (c : View) (b : View) → Reaches m origin t h b → Move m (length h) b c → Reaches m origin t h c
