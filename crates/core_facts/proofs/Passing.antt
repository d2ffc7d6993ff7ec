-- The views that a core passed through on its way along a history, each with a fact of it.
use Rattle.core_facts.proofs.Prelude.{IsFresh, lost, View, Setup, IsSetUp, StepsTo, Reaches, begins, goes, loses, MaySetUp, Machine, ◌≡◌, ℕ, List, [], ◌∷◌, ◌++◌, length, Entry, Op}
use Rattle.world_model.specs.Lost.{Loses}

-- The view goes with the history, as by `Reaches`; and G holds of the history and the view before each entry.
pub data Passes (machine_of : ℕ → Op → Machine) (setup : Setup) (G : List Entry → View → Type 0) : List Entry → View → Type 0 where
  passes_fresh : (h : List Entry) (v : View) → MaySetUp setup → IsSetUp setup h → IsFresh setup v → Passes machine_of setup G h v
  passes_step : (h before : List Entry) (v b : View) (e : Entry) → Passes machine_of setup G before b → G before b → h ≡ before ++ e ∷ []
      → StepsTo machine_of before b e v → Passes machine_of setup G h v
  passes_lost : (h : List Entry) (v b : View) → Passes machine_of setup G h b → Loses h (length h) → v ≡ lost b → Passes machine_of setup G h v

-- of which nothing is said
abbrev pub Anything : List Entry → View → Type 0
Anything h v = Unit {0}

module _ (machine_of : ℕ → Op → Machine) (setup : Setup) where
  pub forget : (G : List Entry → View → Type 0) (h : List Entry) (v : View) → Passes machine_of setup G h v → Reaches machine_of setup h v
  forget G _ _ (passes_fresh h v may up fresh) = begins h v may up fresh
  forget G _ _ (passes_step h before v b e p given is t) = goes h before v b e (forget G before b p) is t
  forget G _ _ (passes_lost h v b p shown is) = loses h v b (forget G h b p) shown is

  pub passes-any : (h : List Entry) (v : View) → Reaches machine_of setup h v → Passes machine_of setup Anything h v
  passes-any _ _ (begins h v may up fresh) = passes_fresh h v may up fresh
  passes-any _ _ (goes h before v b e r is t) = passes_step h before v b e (passes-any before b r) tt is t
  passes-any _ _ (loses h v b r shown is) = passes_lost h v b (passes-any h b r) shown is
