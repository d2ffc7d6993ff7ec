-- What each step of any operation makes of the kept pages, where it is known of which call a reply tells and when that was made.
use Rattle.core_session.proofs.Prelude.{◌≡◌, ◌-◌, ℕ, Bool, true, false, List, Result, Ok, refl, Pages, after_page, Fault, Call, Reply, Step, Shelf, Turn, WalkStep, Machine, Opener, PathMachine, file_of, slot_taken, begun_at, Starts, Resumes, Takes, IsSentAs, Both}
use Rattle.op_machines.specs.Openers.{placed}
use Rattle.core_answers.proofs.pages.PageCalls.{FileAwaits}
use Rattle.name_ops.specs.declared.walk.WalkStep.TheVariants as walks
use Rattle.name_ops.specs.Walking as walking
use Rattle.op_machines.specs.declared.machine.Machine.TheVariants as machines
use Rattle.op_machines.specs.declared.opener.Opener.TheVariants as openers
use Rattle.op_machines.specs.PathSteps as paths
use Rattle.core_answers.proofs.bonds.MachineCalls.{PathOn}
use Rattle.core_answers.proofs.pages.NamePages.{kept-as, walk-takes-kept, name-goes-kept, name-takes-kept}
use Rattle.core_session.proofs.current.FedPages.{FedLaws, as-shelf, file-starts, file-resumes, file-takes}

module _ (T : Pages → Type 0) (shows : (file : List ℕ) (index : ℕ) (c : Pages) → T c → T (after_page file index c)) where
  -- ---- opens and puts on their way

  follows-pages : (step : WalkStep) (wsize : ℕ) (m : PathMachine) (turn : Turn) (old : Shelf) (next : Step) (new : PathMachine) (after : Shelf)
      → paths.Follows step wsize m turn old next new after → T old.pages → T after.pages
  follows-pages (walks.Send call) wsize m turn old next new after f t = as-shelf T shows old after (kept-as old old after f.2 refl) t
  follows-pages walks.Wait wsize m turn old next new after f t = as-shelf T shows old after (kept-as old old after f.2 refl) t
  follows-pages (walks.At dir) wsize m turn old next new after f t = file-resumes T shows (file_of (placed dir m.opener)) wsize turn old next (file_of f.opener) after f.step t
  follows-pages (walks.Refused fault) wsize m turn old next new after f t = as-shelf T shows old after (kept-as old old after f.2 refl) t

  path-resumes : (b : Bool) (wsize : ℕ) (m : PathMachine) (turn : Turn) (old : Shelf) (next : Step) (new : PathMachine) (after : Shelf) → paths.PathResumes b wsize m turn old next new after
      → T old.pages → T after.pages
  path-resumes true wsize m turn old next new after r t = file-resumes T shows (file_of m.opener) wsize turn old next (file_of r.opener) after r.step t
  path-resumes false wsize m turn old next new after r t =
      follows-pages (walking.go_next m.walk turn old) wsize (record m { walk = walking.go_after m.walk turn old }) turn (walking.go_shelf m.walk turn old) next new after r t

  path-starts : (taken : Bool) (wsize : ℕ) (m : PathMachine) (turn : Turn) (old : Shelf) (next : Step) (new : PathMachine) (after : Shelf) → paths.StartsIf taken wsize m turn old next new after
      → T old.pages → T after.pages
  path-starts true wsize m turn old next new after s t = as-shelf T shows old after (kept-as old old after s.2 refl) t
  path-starts false wsize m turn old next new after s t = path-resumes m.arrived wsize (record m { opener = begun_at (turn.moment - 1) m.opener }) turn old next new after s t

  -- ---- any operation

  pub pages-starts : (m : Machine) (wsize : ℕ) (turn : Turn) (old : Shelf) (next : Step) (new : Machine) (after : Shelf) → Starts wsize m turn old next new after → T old.pages → T after.pages
  pages-starts (machines.File m) wsize turn old next new after s t = file-starts T shows m wsize turn old next s.machine after s.step t
  pages-starts (machines.Path m) wsize turn old next new after s t = path-starts (slot_taken m.opener old.opens) wsize m turn old next s.machine after s.step t
  pages-starts (machines.Name m) wsize turn old next new after s t = as-shelf T shows old after (name-goes-kept m turn old next s.machine after s.step) t

  pub pages-resumes : (m : Machine) (wsize : ℕ) (turn : Turn) (old : Shelf) (next : Step) (new : Machine) (after : Shelf) → Resumes wsize m turn old next new after → T old.pages → T after.pages
  pages-resumes (machines.File m) wsize turn old next new after s t = file-resumes T shows m wsize turn old next s.machine after s.step t
  pages-resumes (machines.Path m) wsize turn old next new after s t = path-resumes m.arrived wsize m turn old next s.machine after s.step t
  pages-resumes (machines.Name m) wsize turn old next new after s t = as-shelf T shows old after (name-goes-kept m turn old next s.machine after s.step) t

  module _ (call : Call) (came : Result Reply Fault) (sent turn : Turn) (fed : FedLaws T call came sent turn) (old : Shelf)
      (link : (reply : Reply) → came ≡ Ok reply → IsSentAs sent.xid call old.back) where
    opener-awaits : (o : Opener) → FileAwaits (file_of o) call
    opener-awaits (openers.Open m) = tt
    opener-awaits (openers.Put m) = tt

    path-takes : (b : Bool) (wsize : ℕ) (m : PathMachine) (next : Step) (new : PathMachine) (after : Shelf) → ((reply : Reply) → came ≡ Ok reply → PathOn b m call) → paths.PathTakes b wsize m sent turn came old next new after
        → T old.pages → T after.pages
    path-takes true wsize m next new after on p t =
        file-takes T shows call came sent turn fed old link (file_of m.opener) wsize next (file_of p.opener) after (λ reply is. opener-awaits m.opener) on p.step t
    path-takes false wsize m next new after on p t =
        follows-pages p.step wsize p.walked turn p.heard next new after p.follows
        (as-shelf T shows old p.heard (walk-takes-kept (walking.waiting_name m.walk) m.walk sent turn came old p.step p.walked.walk p.heard p.takes) t)

    pub pages-takes : (m : Machine) (wsize : ℕ) (next : Step) (new : Machine) (after : Shelf) → ((reply : Reply) → came ≡ Ok reply → Both m call) → Takes wsize m sent turn came old next new after
        → T old.pages → T after.pages
    pages-takes (machines.File m) wsize next new after asked s t = file-takes T shows call came sent turn fed old link m wsize next s.machine after (λ reply is. (asked reply is).1) (λ reply is. (asked reply is).0) s.step t
    pages-takes (machines.Path m) wsize next new after asked s t = path-takes m.arrived wsize m next s.machine after (λ reply is. (asked reply is).0) s.step t
    pages-takes (machines.Name m) wsize next new after asked s t = as-shelf T shows old after (name-takes-kept m sent turn came old next s.machine after s.step) t
