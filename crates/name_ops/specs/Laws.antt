-- What holds of every step of an operation on names.
use Rattle.std.specs.Prelude.{◌≡◌, ℕ, List, true}
use Rattle.world_model.specs.declared.message.Call.{Call}
use Rattle.client_shelf.specs.declared.shelf.Shelf.{Shelf}
use Rattle.client_shelf.specs.declared.turn.Turn.{Turn}
use Rattle.client_shelf.specs.declared.step.Step.{Step}
use Rattle.client_shelf.specs.declared.step.Step.TheVariants.{Wait}
use Rattle.name_ops.specs.declared.pair.Pair.{Pair}
use Rattle.name_ops.specs.declared.remove_file.RemoveFile.{RemoveFile}
use Rattle.name_ops.specs.declared.stat.Stat.{Stat}
use Rattle.name_ops.specs.declared.visit.Visit.{Visit}
use Rattle.name_ops.specs.declared.walk.Walk.{Walk}
use Rattle.name_ops.specs.declared.walk.WalkStep.TheVariants as walks
use Rattle.name_ops.specs.Pairs as pairs
use Rattle.name_ops.specs.RemoveFile as removals
use Rattle.name_ops.specs.Stat.{stat_next, stat_after, stat_shelf}
use Rattle.name_ops.specs.SymLink.{CopiesBy}
use Rattle.name_ops.specs.Visiting.{next_by, visit_next, visit_after, visit_shelf}
use Rattle.name_ops.specs.Walking.{go_next, go_after, go_shelf}

-- A step that no reply made possible and that waits, though there is room for a call, changes neither the operation nor the shelf.
abbrev pub WalkWaitsStill : Type 0
WalkWaitsStill = (w : Walk) (turn : Turn) (shelf : Shelf) → turn.room ≡ true → go_next w turn shelf ≡ walks.Wait
    → (go_after w turn shelf ≡ w) × (go_shelf w turn shelf ≡ shelf)

abbrev pub VisitWaitsStill : Type 0
VisitWaitsStill = (call : List ℕ → Call) (v : Visit) (turn : Turn) (shelf : Shelf) → turn.room ≡ true
    → next_by call (visit_next v turn shelf) ≡ Wait → (visit_after v turn shelf ≡ v) × (visit_shelf v turn shelf ≡ shelf)

abbrev pub CopyWaitsStill : Type 0
CopyWaitsStill = (call : List ℕ → Call) (v : Visit) (turn : Turn) (shelf : Shelf) (next : Step) → turn.room ≡ true
    → CopiesBy call (visit_next v turn shelf) next → next ≡ Wait → (visit_after v turn shelf ≡ v) × (visit_shelf v turn shelf ≡ shelf)

abbrev pub PairWaitsStill : Type 0
PairWaitsStill = (call : List ℕ → List ℕ → Call) (p : Pair) (turn : Turn) (shelf : Shelf) → turn.room ≡ true
    → pairs.next_by call (pairs.pair_next p turn shelf) ≡ Wait → (pairs.pair_after p turn shelf ≡ p) × (pairs.pair_shelf p turn shelf ≡ shelf)

abbrev pub StatWaitsStill : Type 0
StatWaitsStill = (m : Stat) (turn : Turn) (shelf : Shelf) → turn.room ≡ true → stat_next m turn shelf ≡ Wait
    → (stat_after m turn shelf ≡ m) × (stat_shelf m turn shelf ≡ shelf)

abbrev pub RemoveWaitsStill : Type 0
RemoveWaitsStill = (m : RemoveFile) (turn : Turn) (old : Shelf) (next : Step) (new : RemoveFile) (after : Shelf) → turn.room ≡ true
    → removals.Resumes m.asked m turn old next new after → next ≡ Wait → (new ≡ m) × (after ≡ old)
