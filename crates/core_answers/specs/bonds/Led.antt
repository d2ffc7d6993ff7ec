-- Where a stat's path leads, of an honest server, and what the object's attributes were there (nfs(5), acregmin to acdirmax).
use Rattle.std.specs.Prelude.{◌≡◌, ◌≤◌, ℕ, List, [], ◌∷◌, ◌++◌}
use Rattle.nfs_types.specs.declared.attr.Attr.{Attr}
use Rattle.world_model.specs.declared.answer.Answer.TheVariants.{Done}
use Rattle.world_model.specs.declared.answer.Value.TheVariants.{Attrs}
use Rattle.world_model.specs.declared.op.Op.TheVariants.{Stat}
use Rattle.world_model.specs.Fresh.{Fresh}
use Rattle.world_model.specs.History.{History}
use Rattle.world_model.specs.Lawful.{Lawful}
use Rattle.world_model.specs.Operations.{Ended}
use Rattle.world_model.specs.Server.{Names}
use Rattle.op_machines.specs.Begun.{machine_of}
use Rattle.op_machines.specs.declared.begun.Mounted.{Mounted}
use Rattle.client_core.specs.declared.setup.Setup.{Setup}
use Rattle.client_core.specs.View.{View}
use Rattle.core_facts.specs.Reaches.{Reaches}
use Rattle.core_answers.specs.bonds.Ages.{IsRecent}
use Rattle.core_answers.specs.bonds.Had.{HasAttr}
use Rattle.core_answers.specs.bonds.Kept.{LastAtMost}

-- The directory had the name for the object at a moment before the place y that is recent for the operation at the place x.
pub record StoodRecently (t : History) (most x y : ℕ) (dir name object : List ℕ) : Type 0 where
  pub n : ℕ
  pub recent : IsRecent t.entries most x n
  pub soon : n ≤ y
  pub names : Names (t.at n) dir name object

-- The path leads from the root to the object by names that stood at recent moments, each at its own.
pub data LedRecently (t : History) (most x y : ℕ) (top : List ℕ) : List (List ℕ) → List ℕ → Type 0 where
  root : (path : List (List ℕ)) (object : List ℕ) → path ≡ [] → object ≡ top → LedRecently t most x y top path object
  step : (path earlier : List (List ℕ)) (object name d : List ℕ) → path ≡ earlier ++ name ∷ [] → LedRecently t most x y top earlier d → StoodRecently t most x y d name object
      → LedRecently t most x y top path object

-- The object to which the path leads had these attributes at a recent moment.
pub record HadWhereLed (t : History) (most x y : ℕ) (top : List ℕ) (path : List (List ℕ)) (attr : Attr) : Type 0 where
  pub object : List ℕ
  pub led : LedRecently t most x y top path object
  pub n : ℕ
  pub recent : IsRecent t.entries most x n
  pub soon : n ≤ y
  pub has : HasAttr t n object attr

-- All attributes that a stat shows are so.
abbrev pub StatsLed : Type 0
StatsLed = (m : Mounted) (setup : Setup) (most : ℕ) (t : History) (v : View) → LastAtMost setup.lives most → Lawful t → Fresh t
    → Reaches (machine_of m) setup t.entries v
    → (lane x y : ℕ) (path : List (List ℕ)) (attr : Attr) → Ended t.entries lane x (Stat path) y (Done (Attrs attr)) → HadWhereLed t most x y m.root path attr
