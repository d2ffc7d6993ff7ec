-- What each step of any operation makes of what is pending, and of the call that it asks for.
use Rattle.core_answers.proofs.Prelude.{◌≡◌, ◌+◌, ◌-◌, ℕ, Bool, true, false, List, Result, refl, sym, ap, subst, ◌∙◌, Fault, Call, Reply, Pending, Opens, Step, Shelf, Turn, Saving, WalkStep, Machine, Opener, PathMachine, file_of, slot_taken, begun_at, placed, Starts, Resumes, Takes}
use Rattle.client_shelf.specs.declared.step.Step.TheVariants as nexts
use Rattle.file_ops.specs.WriteFile as writes
use Rattle.name_ops.specs.declared.walk.WalkStep.TheVariants as walks
use Rattle.name_ops.specs.Walking as walking
use Rattle.name_ops.proofs.Keeps.{IsKept, walk-takes-kept}
use Rattle.op_machines.specs.declared.machine.Machine.TheVariants as machines
use Rattle.op_machines.specs.declared.opener.Opener.TheVariants as openers
use Rattle.op_machines.specs.PathSteps as paths
use Rattle.op_machines.proofs.NameLaws.{name-goes-kept, name-takes-kept}
use Rattle.core_answers.proofs.writes.Plain.{IsOther}
use Rattle.core_answers.proofs.writes.Backs.{After, Carries, CarriesReply, FileSaves, FileBrings, FileStartsWith, waits-after, done-after, asks-after, back-of, file-starts, file-resumes, file-takes}

-- ---- what is known of an operation

-- F of the call of an operation on names, or of a walk
abbrev pub OnWay : (Call → Type 0) → Bool → Call → Type 0
OnWay F true call = Unit {0}
OnWay F false call = F call

abbrev pub OtherBy : (Call → Type 0) → Machine → Call → Type 0
OtherBy F (machines.File m) call = Unit {0}
OtherBy F (machines.Path m) call = OnWay F m.arrived call
OtherBy F (machines.Name m) call = F call

abbrev pub AsksOther : (Call → Type 0) → Step → Machine → Type 0
AsksOther F (nexts.Send call) new = OtherBy F new call
AsksOther F nexts.Wait new = Unit {0}
AsksOther F (nexts.Done answer) new = Unit {0}

abbrev pub PathSaves : (Saving → Type 0) → Bool → Opener → Type 0
PathSaves N true opener = FileSaves N (file_of opener)
PathSaves N false opener = Unit {0}

-- of the save of an operation
abbrev pub Saves : (Saving → Type 0) → Machine → Type 0
Saves N (machines.File m) = FileSaves N m
Saves N (machines.Path m) = PathSaves N m.arrived m.opener
Saves N (machines.Name m) = Unit {0}

abbrev pub PathBrings : (List ℕ → ℕ → List ℕ → Type 0) → Bool → Opener → Type 0
PathBrings A true opener = FileBrings A (file_of opener)
PathBrings A false (openers.Open m) = Unit {0}
PathBrings A false (openers.Put m) = (file : List ℕ) → A file m.write.offset (writes.made_bytes m.write.text)

-- of the bytes that it may still add
abbrev pub Brings : (List ℕ → ℕ → List ℕ → Type 0) → Machine → Type 0
Brings A (machines.File m) = FileBrings A m
Brings A (machines.Path m) = PathBrings A m.arrived m.opener
Brings A (machines.Name m) = Unit {0}

abbrev pub StartsWith : (List ℕ → ℕ → List ℕ → Type 0) → Machine → Opens → Type 0
StartsWith A (machines.File m) slots = FileStartsWith A m slots
StartsWith A (machines.Path m) slots = PathBrings A m.arrived m.opener
StartsWith A (machines.Name m) slots = Unit {0}

-- ---- one step

module _ (wsize : ℕ) (turn : Turn) (A : List ℕ → ℕ → List ℕ → ℕ → Type 0) (F : Call → Type 0) (fine : (call : Call) → IsOther call → F call) (P : Pending → Type 0)
    (Q : Call → Pending → Type 0) (w : Carries wsize turn A F P Q) where
  kept-back : (old new : Shelf) → IsKept old new → P old.back → P new.back
  kept-back old new k p = subst P (sym k.back) p

  -- an operation on names
  name-all : (next : Step) (new : Machine) (back : Pending) → ((call : Call) → OtherBy F new call → F call) → AsksOther F next new → P back → After P Q next back
  name-all (nexts.Send call) new back is other p = w.plain call back (is call other) p
  name-all nexts.Wait new back is other p = p
  name-all (nexts.Done answer) new back is other p = p

  on-way : (m : PathMachine) (call : Call) → m.arrived ≡ false → OtherBy F (machines.Path m) call → F call
  on-way m call way other = subst (λ (b : Bool). OnWay F b call) way other

  -- ---- opens and puts on their way

  follows-path : (step : WalkStep) (m : PathMachine) (old : Shelf) (next : Step) (new : PathMachine) (after : Shelf) → m.arrived ≡ false → AsksOther F next (machines.Path new)
      → P old.back → paths.Follows step wsize m turn old next new after → After P Q next after.back
  follows-path (walks.Send call) m old next new after way other p f =
      let asked : OtherBy F (machines.Path new) call = subst (λ (n : Step). AsksOther F n (machines.Path new)) f.0 other in
      let there : new.arrived ≡ false = ap (λ (n : PathMachine). n.arrived) f.1 ∙ way in
      asks-after P Q call next old.back after.back f.0 (back-of old after f.2) (w.plain call old.back (on-way new call there asked) p)
  follows-path walks.Wait m old next new after way other p f = waits-after P Q next old.back after.back f.0 (back-of old after f.2) p
  follows-path (walks.At dir) m old next new after way other p f =
      file-resumes wsize turn A F fine P Q w (file_of (placed dir m.opener)) old next (file_of f.opener) after f.step p
  follows-path (walks.Refused fault) m old next new after way other p f = done-after P Q _ next old.back after.back f.0 (back-of old after f.2) p

  path-resumes : (b : Bool) (m : PathMachine) (old : Shelf) (next : Step) (new : PathMachine) (after : Shelf) → m.arrived ≡ b → AsksOther F next (machines.Path new) → P old.back
      → paths.PathResumes b wsize m turn old next new after → After P Q next after.back
  path-resumes true m old next new after is other p r = file-resumes wsize turn A F fine P Q w (file_of m.opener) old next (file_of r.opener) after r.step p
  path-resumes false m old next new after is other p r =
      follows-path (walking.go_next m.walk turn old) (record m { walk = walking.go_after m.walk turn old }) (walking.go_shelf m.walk turn old) next new after is other p r

  path-starts : (taken : Bool) (m : PathMachine) (old : Shelf) (next : Step) (new : PathMachine) (after : Shelf) → AsksOther F next (machines.Path new) → P old.back
      → paths.StartsIf taken wsize m turn old next new after → After P Q next after.back
  path-starts true m old next new after other p s = done-after P Q _ next old.back after.back s.0 (back-of old after s.2) p
  path-starts false m old next new after other p s =
      path-resumes m.arrived (record m { opener = begun_at (turn.moment - 1) m.opener }) old next new after refl other p s

  -- ---- any operation

  pub all-starts : (m : Machine) (old : Shelf) (next : Step) (new : Machine) (after : Shelf) → AsksOther F next new → StartsWith (λ f o b. A f o b (old.seq + 1)) m old.opens
      → P old.back → Starts wsize m turn old next new after → After P Q next after.back
  all-starts (machines.File m) old next new after other a p s = file-starts wsize turn A F fine P Q w m old next s.machine after a s.step p
  all-starts (machines.Path m) old next new after other a p s =
      path-starts (slot_taken m.opener old.opens) m old next s.machine after (subst (AsksOther F next) s.machine_is other) p s.step
  all-starts (machines.Name m) old next new after other a p s =
      name-all next (machines.Name s.machine) after.back (λ call o. o) (subst (AsksOther F next) s.machine_is other) (kept-back old after (name-goes-kept m turn old next s.machine after s.step) p)

  pub all-resumes : (m : Machine) (old : Shelf) (next : Step) (new : Machine) (after : Shelf) → AsksOther F next new → P old.back → Resumes wsize m turn old next new after
      → After P Q next after.back
  all-resumes (machines.File m) old next new after other p s = file-resumes wsize turn A F fine P Q w m old next s.machine after s.step p
  all-resumes (machines.Path m) old next new after other p s =
      path-resumes m.arrived m old next s.machine after refl (subst (AsksOther F next) s.machine_is other) p s.step
  all-resumes (machines.Name m) old next new after other p s =
      name-all next (machines.Name s.machine) after.back (λ call o. o) (subst (AsksOther F next) s.machine_is other) (kept-back old after (name-goes-kept m turn old next s.machine after s.step) p)

  module _ (sent : Turn) (came : Result Reply Fault) (N : Saving → Pending → Type 0) (v : CarriesReply wsize sent turn came N P Q) where
    path-takes : (b : Bool) (m : PathMachine) (old : Shelf) (next : Step) (new : PathMachine) (after : Shelf) → m.arrived ≡ b → AsksOther F next (machines.Path new)
        → PathBrings (λ f o b. A f o b (old.seq + 1)) b m.opener → PathSaves (λ s. N s old.back) b m.opener → P old.back → paths.PathTakes b wsize m sent turn came old next new after
        → After P Q next after.back
    path-takes true m old next new after is other a n p t =
        file-takes wsize turn A F fine P Q w sent came N v (file_of m.opener) old next (file_of t.opener) after a t.step n p
    path-takes false m old next new after is other a n p t =
        follows-path t.step t.walked t.heard next new after (ap (λ (n : PathMachine). n.arrived) t.walked_is ∙ is) other
        (kept-back old t.heard (walk-takes-kept (walking.waiting_name m.walk) m.walk sent turn came old t.step t.walked.walk t.heard t.takes) p) t.follows

    pub all-takes : (m : Machine) (old : Shelf) (next : Step) (new : Machine) (after : Shelf) → AsksOther F next new → Brings (λ f o b. A f o b (old.seq + 1)) m → Saves (λ s. N s old.back) m
        → P old.back → Takes wsize m sent turn came old next new after → After P Q next after.back
    all-takes (machines.File m) old next new after other a n p s = file-takes wsize turn A F fine P Q w sent came N v m old next s.machine after a s.step n p
    all-takes (machines.Path m) old next new after other a n p s =
        path-takes m.arrived m old next s.machine after refl (subst (AsksOther F next) s.machine_is other) a n p s.step
    all-takes (machines.Name m) old next new after other a n p s =
        name-all next (machines.Name s.machine) after.back (λ call o. o) (subst (AsksOther F next) s.machine_is other)
        (kept-back old after (name-takes-kept m sent turn came old next s.machine after s.step) p)
