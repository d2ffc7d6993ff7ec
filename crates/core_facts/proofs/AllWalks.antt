-- What every step of a save carries over, each step of any operation does, also of one on names or on its way to a directory.
use Rattle.core_facts.proofs.Prelude.{◌≡◌, ◌-◌, ℕ, Bool, true, false, List, Result, refl, sym, ap, subst, ◌∙◌, Fault, Call, Reply, Pending, Step, Shelf, Turn, Saving, WalkStep, FileMachine, Machine, Opener, PathMachine, file_of, slot_taken, begun_at, placed, Starts, Resumes, Takes}
use Rattle.client_shelf.specs.declared.step.Step.TheVariants as nexts
use Rattle.file_ops.proofs.Walks.{LeftAs, Carries, CarriesReply}
use Rattle.name_ops.specs.declared.walk.WalkStep.TheVariants as walks
use Rattle.name_ops.specs.Walking as walking
use Rattle.name_ops.proofs.Keeps.{IsKept, walk-takes-kept}
use Rattle.op_machines.specs.declared.machine.Machine.TheVariants as machines
use Rattle.op_machines.specs.PathSteps as paths
use Rattle.op_machines.proofs.NameLaws.{name-goes-kept, name-takes-kept}
use Rattle.op_machines.proofs.Walk.{Has, starts-left, resumes-left, takes-left}

-- what is said of the save of an operation, or of what is pending where it has none under way
abbrev pub PathHas : (Pending → Type 0) → (Saving → Pending → Type 0) → Bool → Opener → Pending → Type 0
PathHas P M true opener back = Has P M (file_of opener) back
PathHas P M false opener back = P back

abbrev pub HasAll : (Pending → Type 0) → (Saving → Pending → Type 0) → Machine → Pending → Type 0
HasAll P M (machines.File m) back = Has P M m back
HasAll P M (machines.Path m) back = PathHas P M m.arrived m.opener back
HasAll P M (machines.Name m) back = P back

module _ (wsize : ℕ) (turn : Turn) (P : Pending → Type 0) (M : Saving → Pending → Type 0) (Q : Call → Type 0) (any : (call : Call) → Q call) (w : Carries wsize turn P M Q) where
  abbrev pub LeftAll : Step → Machine → Pending → Type 0
  LeftAll next machine back = LeftAs P (HasAll P M) Q next machine back

  abbrev pub LeftPath : Step → PathMachine → Pending → Type 0
  LeftPath next m back = LeftAs P (λ (n : PathMachine) (b : Pending). PathHas P M n.arrived n.opener b) Q next m back

  -- what holds of what is pending alone
  plain-all : {S : Type 0} → (H : S → Pending → Type 0) (next : Step) (state : S) (back : Pending) → P back → H state back → LeftAs P H Q next state back
  plain-all H (nexts.Send call) state back p h = (h, any call)
  plain-all H nexts.Wait state back p h = p
  plain-all H (nexts.Done answer) state back p h = p

  kept-back : (old new : Shelf) → IsKept old new → P old.back → P new.back
  kept-back old new k p = subst P (sym k.back) p

  file-all : (next : Step) (m : FileMachine) (new : Machine) (back : Pending) → new ≡ machines.File m → LeftAs P (Has P M) Q next m back → LeftAll next new back
  file-all next m new back is l = subst (λ (n : Machine). LeftAll next n back) (sym is) (by next l)
    where
      by : (next : Step) → LeftAs P (Has P M) Q next m back → LeftAll next (machines.File m) back
      by (nexts.Send call) l = l
      by nexts.Wait l = l
      by (nexts.Done answer) l = l

  path-all : (next : Step) (m : PathMachine) (new : Machine) (back : Pending) → new ≡ machines.Path m → LeftPath next m back → LeftAll next new back
  path-all next m new back is l = subst (λ (n : Machine). LeftAll next n back) (sym is) (by next l)
    where
      by : (next : Step) → LeftPath next m back → LeftAll next (machines.Path m) back
      by (nexts.Send call) l = l
      by nexts.Wait l = l
      by (nexts.Done answer) l = l

  -- ---- opens and puts on their way

  arrived-path : (next : Step) (m : PathMachine) (opener : Opener) (new : PathMachine) (back : Pending) → m.arrived ≡ true → new ≡ record m { opener = opener }
      → LeftAs P (Has P M) Q next (file_of opener) back → LeftPath next new back
  arrived-path next m opener new back there is l =
      subst (λ (n : PathMachine). LeftPath next n back) (sym is) (by next l)
    where
      by : (next : Step) → LeftAs P (Has P M) Q next (file_of opener) back → LeftPath next (record m { opener = opener }) back
      by (nexts.Send call) l = (subst (λ (b : Bool). PathHas P M b opener back) (sym there) l.0, l.1)
      by nexts.Wait l = l
      by (nexts.Done answer) l = l

  way-path : (next : Step) (m new : PathMachine) (back : Pending) → m.arrived ≡ false → new ≡ m → P back → LeftPath next new back
  way-path next m new back way is p =
      plain-all (λ (n : PathMachine) (b : Pending). PathHas P M n.arrived n.opener b) next new back p
      (subst (λ (n : PathMachine). PathHas P M n.arrived n.opener back) (sym is) (subst (λ (b : Bool). PathHas P M b m.opener back) (sym way) p))

  follows-path : (step : WalkStep) (m : PathMachine) (old : Shelf) (next : Step) (new : PathMachine) (after : Shelf) → m.arrived ≡ false → P old.back
      → paths.Follows step wsize m turn old next new after → LeftPath next new after.back
  follows-path (walks.Send call) m old next new after way p f = way-path next m new after.back way f.1 (subst P (sym (ap (λ (s : Shelf). s.back) f.2)) p)
  follows-path walks.Wait m old next new after way p f = way-path next m new after.back way f.1 (subst P (sym (ap (λ (s : Shelf). s.back) f.2)) p)
  follows-path (walks.At dir) m old next new after way p f =
      arrived-path next (record m { opener = placed dir m.opener; arrived = true }) f.opener new after.back refl f.machine_is
      (resumes-left wsize turn P M Q w (file_of (placed dir m.opener)) old next (file_of f.opener) after f.step p)
  follows-path (walks.Refused fault) m old next new after way p f = way-path next m new after.back way f.1 (subst P (sym (ap (λ (s : Shelf). s.back) f.2)) p)

  path-resumes : (b : Bool) (m : PathMachine) (old : Shelf) (next : Step) (new : PathMachine) (after : Shelf) → m.arrived ≡ b → P old.back
      → paths.PathResumes b wsize m turn old next new after → LeftPath next new after.back
  path-resumes true m old next new after is p r =
      arrived-path next m r.opener new after.back is r.machine_is (resumes-left wsize turn P M Q w (file_of m.opener) old next (file_of r.opener) after r.step p)
  path-resumes false m old next new after is p r =
      follows-path (walking.go_next m.walk turn old) (record m { walk = walking.go_after m.walk turn old }) (walking.go_shelf m.walk turn old) next new after is p r

  path-starts : (taken : Bool) (m : PathMachine) (old : Shelf) (next : Step) (new : PathMachine) (after : Shelf) → P old.back
      → paths.StartsIf taken wsize m turn old next new after → LeftPath next new after.back
  path-starts true m old next new after p s =
      subst (λ (n : Step). LeftPath n new after.back) (sym s.0) (subst P (sym (ap (λ (k : Shelf). k.back) s.2)) p)
  path-starts false m old next new after p s =
      path-resumes m.arrived (record m { opener = begun_at (turn.moment - 1) m.opener }) old next new after refl p s

  -- ---- any operation

  pub all-starts : (m : Machine) (old : Shelf) (next : Step) (new : Machine) (after : Shelf) → P old.back → Starts wsize m turn old next new after → LeftAll next new after.back
  all-starts (machines.File m) old next new after p s =
      file-all next s.machine new after.back s.machine_is (starts-left wsize turn P M Q w m old next s.machine after s.step p)
  all-starts (machines.Path m) old next new after p s =
      path-all next s.machine new after.back s.machine_is (path-starts (slot_taken m.opener old.opens) m old next s.machine after p s.step)
  all-starts (machines.Name m) old next new after p s =
      let back = kept-back old after (name-goes-kept m turn old next s.machine after s.step) p in
      subst (λ (n : Machine). LeftAll next n after.back) (sym s.machine_is) (plain-all (HasAll P M) next (machines.Name s.machine) after.back back back)

  pub all-resumes : (m : Machine) (old : Shelf) (next : Step) (new : Machine) (after : Shelf) → P old.back → Resumes wsize m turn old next new after
      → LeftAll next new after.back
  all-resumes (machines.File m) old next new after p s =
      file-all next s.machine new after.back s.machine_is (resumes-left wsize turn P M Q w m old next s.machine after s.step p)
  all-resumes (machines.Path m) old next new after p s =
      path-all next s.machine new after.back s.machine_is (path-resumes m.arrived m old next s.machine after refl p s.step)
  all-resumes (machines.Name m) old next new after p s =
      let back = kept-back old after (name-goes-kept m turn old next s.machine after s.step) p in
      subst (λ (n : Machine). LeftAll next n after.back) (sym s.machine_is) (plain-all (HasAll P M) next (machines.Name s.machine) after.back back back)

  module _ (sent : Turn) (came : Result Reply Fault) (N : Saving → Pending → Type 0) (v : CarriesReply wsize sent turn came P N M Q) where
    path-takes : (b : Bool) (m : PathMachine) (old : Shelf) (next : Step) (new : PathMachine) (after : Shelf) → m.arrived ≡ b → PathHas P N b m.opener old.back
        → paths.PathTakes b wsize m sent turn came old next new after → LeftPath next new after.back
    path-takes true m old next new after is h t =
        arrived-path next m t.opener new after.back is t.machine_is
        (takes-left wsize turn P M Q w sent came N v (file_of m.opener) old next (file_of t.opener) after t.step h)
    path-takes false m old next new after is h t =
        follows-path t.step t.walked t.heard next new after (ap (λ (n : PathMachine). n.arrived) t.walked_is ∙ is)
        (kept-back old t.heard (walk-takes-kept (walking.waiting_name m.walk) m.walk sent turn came old t.step t.walked.walk t.heard t.takes) h) t.follows

    pub all-takes : (m : Machine) (old : Shelf) (next : Step) (new : Machine) (after : Shelf) → HasAll P N m old.back → Takes wsize m sent turn came old next new after
        → LeftAll next new after.back
    all-takes (machines.File m) old next new after h s =
        file-all next s.machine new after.back s.machine_is (takes-left wsize turn P M Q w sent came N v m old next s.machine after s.step h)
    all-takes (machines.Path m) old next new after h s =
        path-all next s.machine new after.back s.machine_is (path-takes m.arrived m old next s.machine after refl h s.step)
    all-takes (machines.Name m) old next new after h s =
        let back = kept-back old after (name-takes-kept m sent turn came old next s.machine after s.step) h in
        subst (λ (n : Machine). LeftAll next n after.back) (sym s.machine_is) (plain-all (HasAll P M) next (machines.Name s.machine) after.back back back)
