-- Which faults a walk gives: a status, a reply that doesn't fit, or what came in place of a reply.
use Rattle.core_answers.proofs.Prelude.{◌≡◌, ℕ, Bool, true, false, List, Option, Some, None, Result, Ok, Err, refl, sym, subst, if◌then◌else◌, DirKept, Fault, Reply, Shelf, Turn, Visit, VisitStep, Walk, WalkStep, found_by, look_again}
use Rattle.nfs_dir_calls.specs.declared.keeping.DirKept.TheVariants as kept
use Rattle.world_model.specs.declared.answer.Fault.TheVariants as faults
use Rattle.world_model.specs.declared.message.Reply.TheVariants as replies
use Rattle.name_ops.specs.declared.visit.VisitStep.TheVariants as visits
use Rattle.name_ops.specs.declared.walk.WalkStep.TheVariants as walks
use Rattle.name_ops.specs.Visiting as visiting
use Rattle.name_ops.specs.Walking as walking

-- P holds of the faults that a reply to LOOKUP makes.
pub record LookFaults (P : Fault → Type 0) : Type 0 where
  pub nfs : (status : ℕ) → P (faults.Nfs status)
  pub bad : P (faults.Bad 2)

module _ (P : Fault → Type 0) where
  abbrev pub FineWalk : WalkStep → Type 0
  FineWalk (walks.Send call) = Unit {0}
  FineWalk walks.Wait = Unit {0}
  FineWalk (walks.At dir) = Unit {0}
  FineWalk (walks.Refused fault) = P fault

  asks-fine : (name : Option (List ℕ)) (room : Bool) (w : Walk) → FineWalk (walking.asks name room w)
  asks-fine None room w = tt
  asks-fine (Some name) true w = tt
  asks-fine (Some name) false w = tt

  on-fine : (w : Walk) (turn : Turn) (shelf : Shelf) → FineWalk (walking.on_next w turn shelf.attrs shelf.names)
  on-fine w turn shelf = asks-fine (walking.next_name (walking.walked w turn.now shelf.attrs shelf.names)) turn.room (walking.walked w turn.now shelf.attrs shelf.names)

  pub go-walk-fine : (w : Walk) (turn : Turn) (shelf : Shelf) → FineWalk (walking.go_next w turn shelf)
  go-walk-fine w turn shelf = by w.asked
    where
      by : (b : Bool) → FineWalk (if b then walks.Wait else walking.on_next w turn shelf.attrs shelf.names)
      by true = tt
      by false = on-fine w turn shelf

  -- P holds of what came in place of a reply
  abbrev pub FineFault : Result Reply Fault → Type 0
  FineFault came = (fault : Fault) → came ≡ Err fault → P fault

  told-fine : (told : Result (List ℕ) Fault) (w : Walk) (turn : Turn) (shelf : Shelf) → ((fault : Fault) → told ≡ Err fault → P fault) → FineWalk (walking.told_next w told turn shelf)
  told-fine (Ok found) w turn shelf fine = on-fine (walking.arrived w found) turn shelf
  told-fine (Err fault) w turn shelf fine = fine fault refl

  -- and of the fault that it makes of LOOKUP, where a LOOKUP is waited for
  abbrev pub FineLook : Option (List ℕ) → Result Reply Fault → Type 0
  FineLook None came = Unit {0}
  FineLook (Some name) came = (fault : Fault) → found_by came ≡ Err fault → P fault

  pub took-walk-by : (name : Option (List ℕ)) (w : Walk) (sent turn : Turn) (came : Result Reply Fault) (old : Shelf) (step : WalkStep) (new : Walk) (after : Shelf)
      → FineLook name came → walking.Takes name w sent turn came old step new after → FineWalk step
  took-walk-by None w sent turn came old step new after fine k = subst FineWalk (sym k.next_is) tt
  took-walk-by (Some name) w sent turn came old step new after fine k = subst FineWalk (sym k.next_is) (by (look_again sent turn came old))
    where
      by : (b : Bool) → FineWalk (walking.followed_next b w name (found_by came) turn k.heard)
      by true = tt
      by false = told-fine (found_by came) w turn k.heard fine

  -- ---- a walk and a call

  abbrev pub FineVisit : VisitStep → Type 0
  FineVisit (visits.Look call) = Unit {0}
  FineVisit visits.Wait = Unit {0}
  FineVisit (visits.Ask object) = Unit {0}
  FineVisit (visits.Refused fault) = P fault

  follow-fine : (step : WalkStep) (room : Bool) → FineWalk step → FineVisit (visiting.follow_next step room)
  follow-fine (walks.Send call) room f = tt
  follow-fine walks.Wait room f = tt
  follow-fine (walks.At object) true f = tt
  follow-fine (walks.At object) false f = tt
  follow-fine (walks.Refused fault) room f = f

  pub go-visit-fine : (v : Visit) (turn : Turn) (shelf : Shelf) → FineVisit (visiting.visit_next v turn shelf)
  go-visit-fine v turn shelf = by v.asked
    where
      by : (b : Bool) → FineVisit (if b then visits.Wait else visiting.follow_next (walking.go_next v.walk turn shelf) turn.room)
      by true = tt
      by false = follow-fine (walking.go_next v.walk turn shelf) turn.room (go-walk-fine v.walk turn shelf)

module _ (P : Fault → Type 0) (own : LookFaults P) where
  found-fine : (reply : DirKept) (fault : Fault) → found_by (Ok (replies.Dir reply)) ≡ Err fault → P fault
  found-fine (kept.Lookup found attr dir) fault is = absurd (cc)
  found-fine (kept.LookupFail status dir) fault is = let nfs : faults.Nfs status.0 ≡ fault = cc in subst P nfs (own.nfs status.0)
  found-fine reply fault is = let bad : faults.Bad 2 ≡ fault = cc in subst P bad own.bad

  came-walk-fine : (came : Result Reply Fault) (fault : Fault) → FineFault P came → found_by came ≡ Err fault → P fault
  came-walk-fine (Ok (replies.Dir reply)) fault fine is = found-fine reply fault is
  came-walk-fine (Ok (replies.File reply)) fault fine is = let bad : faults.Bad 2 ≡ fault = cc in subst P bad own.bad
  came-walk-fine (Ok (replies.Mount reply)) fault fine is = let bad : faults.Bad 2 ≡ fault = cc in subst P bad own.bad
  came-walk-fine (Err f) fault fine is = let same : f ≡ fault = cc in subst P same (fine f refl)

  pub took-walk-fine : (name : Option (List ℕ)) (w : Walk) (sent turn : Turn) (came : Result Reply Fault) (old : Shelf) (step : WalkStep) (new : Walk) (after : Shelf)
      → FineFault P came → walking.Takes name w sent turn came old step new after → FineWalk P step
  took-walk-fine name w sent turn came old step new after fine k = took-walk-by P name w sent turn came old step new after (by name) k
    where
      by : (n : Option (List ℕ)) → FineLook P n came
      by None = tt
      by (Some named) = λ fault is. came-walk-fine came fault fine is

  pub took-visit-fine : (v : Visit) (sent turn : Turn) (came : Result Reply Fault) (old : Shelf) (step : VisitStep) (new : Visit) (after : Shelf) → FineFault P came
      → visiting.VisitTakes v sent turn came old step new after → FineVisit P step
  took-visit-fine v sent turn came old step new after fine k =
      subst (FineVisit P) (sym k.next_is)
      (follow-fine P k.step turn.room (took-walk-fine (walking.waiting_name v.walk) v.walk sent turn came old k.step k.walked.walk after fine k.takes))
