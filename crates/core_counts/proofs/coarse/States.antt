-- The states to which the machine comes beside the core.
use Rattle.core_counts.proofs.Prelude.{◌≡◌, List, [], Option, Some, None, refl, sym, subst, Held, waiting_at, Entry, Pending, Mounted, Shelf, Purpose, Setup, IsFresh, View, Shows, Moves, Shown, ShownCall}
use Rattle.step_pending.specs.Cells.{IsRest}
use Rattle.core_counts.specs.coarse.Moves.{IsBegun, IsReached}
use Rattle.core_counts.specs.coarse.Runs.{Runs, StatesReached}
use Rattle.model_writes.specs.Machine as coarse
use Rattle.core_counts.specs.coarse.Moves as machine
use Rattle.core_counts.specs.coarse.Runs as runs
use Rattle.core_counts.proofs.coarse.Along.{core-coarse}

none-kept : (o : Option coarse.Cell) → IsRest None o → o ≡ None
none-kept None is = refl
none-kept (Some cell) is = absurd is

moved-on : (c d : coarse.View) → Moves c d → IsReached c → IsReached d
moved-on _ _ (machine.stays c) r = r
moved-on _ _ (machine.moves c b d before move) r = machine.moved b d (moved-on c b before r) move

begun-so : (setup : Setup) (v : View) (c : coarse.View) → IsFresh setup v → Shown setup v c → IsBegun c
begun-so setup v c fresh shown = record {
  rest = λ i. none-kept (c.rest i) (nothing.rest i);
  fly = λ i. nothing.fly i;
  wait = λ x. subst (λ (k : Held Purpose). ShownCall setup x (waiting_at x k.calls) (c.wait x)) fresh.calls (shown.calls.calls x);
}
  where
    nothing : Shows [] c
    nothing = subst (λ (b : Pending). Shows b c) fresh.back shown.places

pub reached-beside : (m : Mounted) (setup : Setup) (h : List Entry) (v : View) (c : coarse.View) → Runs m setup h v c → IsReached c × Shows v.shelf.back c
reached-beside m setup _ _ _ (runs.fresh h v c may up fresh shown) = (machine.begun c (begun-so setup v c fresh shown), shown.places)
reached-beside m setup _ _ _ (runs.starts h old new lane line op c d run idle s led shown long) = (moved-on c d led (reached-beside m setup h old c run).0, shown.places)
reached-beside m setup _ _ _ (runs.stirs h old new at c d run s led shown long) = (moved-on c d led (reached-beside m setup h old c run).0, shown.places)
reached-beside m setup _ _ _ (runs.takes h old new rec xid call at c b d asked run may named waits place s is hears led shown long) =
    (moved-on b d led (machine.heard c b xid _ (reached-beside m setup h old c run).0 hears), shown.places)
reached-beside m setup _ _ _ (runs.rests h e old new c run s shelf rest shown) = ((reached-beside m setup h old c run).0, shown.places)
reached-beside m setup _ _ _ (runs.stops h e old new c run s lost shelf) =
    let before = reached-beside m setup h old c run in (before.0, subst (λ (k : Shelf). Shows k.back c) (sym shelf) before.1)
reached-beside m setup _ _ _ (runs.given_up h old new c run loses is) =
    let before = reached-beside m setup h old c run in (before.0, subst (λ (w : View). Shows w.shelf.back c) (sym is) before.1)

pub states-reached : StatesReached
states-reached m setup h v r =
    let run = core-coarse m setup h v r in
    let s = reached-beside m setup h v run.0 run.1 in
    (run.0, s.0, s.1)
