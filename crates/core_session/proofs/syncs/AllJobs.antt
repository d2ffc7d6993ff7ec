-- The same of any operation, also of one on names or on its way to a directory.
use Rattle.core_session.proofs.Prelude.{◌≡◌, ◌-◌, ℕ, Bool, true, false, Option, Some, None, List, Result, refl, sym, ap, subst, ◌∙◌, Fault, Reply, Pending, Opens, LaneFile, Shelf, Turn, Step, Saving, WalkStep, walk-takes-kept, name-goes-kept, name-takes-kept, Machine, Opener, PathMachine, file_of, slot_taken, begun_at, Starts, Resumes, Takes}
use Rattle.name_ops.proofs.Keeps.{IsKept}
use Rattle.op_machines.specs.Openers.{placed}
use Rattle.world_model.specs.declared.answer.Answer.TheVariants as answers
use Rattle.client_shelf.specs.declared.step.Step.TheVariants as nexts
use Rattle.name_ops.specs.declared.walk.WalkStep.TheVariants as walks
use Rattle.name_ops.specs.Walking as walking
use Rattle.op_machines.specs.declared.machine.Machine.TheVariants as machines
use Rattle.op_machines.specs.declared.opener.Opener.TheVariants as openers
use Rattle.op_machines.specs.PathSteps as paths
use Rattle.core_facts.proofs.NameRests as rests
use Rattle.core_session.proofs.syncs.Jobs.{Fact, At, at-as, Job, ended, JobLaws, JobReplies, FileHas, FileGood, FileBad, FileFin, FileBegins, FileEnters, WriteKnown, FileOpens, file_lane, file_save, file-starts, file-resumes, file-takes}

-- ---- what is said of it

abbrev pub PathHas : Job → Bool → Opener → Fact
PathHas j true opener q b o = FileHas j (file_of opener) q b o
PathHas j false opener q b o = j.P q b o

abbrev pub JobHas : Job → Machine → Fact
JobHas j (machines.File m) q b o = FileHas j m q b o
JobHas j (machines.Path m) q b o = PathHas j m.arrived m.opener q b o
JobHas j (machines.Name m) q b o = j.P q b o

abbrev pub PathGood : Job → Opener → Fact
PathGood j (openers.Open m) q b o = j.P q b o
PathGood j (openers.Put m) q b o = j.PA q b o × j.X

abbrev pub JobGood : Job → Machine → Fact
JobGood j (machines.File m) q b o = FileGood j m q b o
JobGood j (machines.Path m) q b o = PathGood j m.opener q b o
JobGood j (machines.Name m) q b o = j.P q b o

abbrev pub JobBad : Job → Machine → Fact
JobBad j (machines.File m) q b o = FileBad j m q b o
JobBad j (machines.Path m) q b o = j.R q b o
JobBad j (machines.Name m) q b o = j.R q b o

abbrev pub JobFin : Job → Step → Machine → Fact
JobFin j (nexts.Send call) m q b o = JobHas (ended j) m q b o
JobFin j nexts.Wait m q b o = JobHas (ended j) m q b o
JobFin j (nexts.Done (answers.Done value)) m q b o = JobGood j m q b o
JobFin j (nexts.Done (answers.Refused fault)) m q b o = JobBad j m q b o

abbrev pub JobBegins : Job → Machine → Opens → Type 0
JobBegins j (machines.File m) slots = FileBegins j m slots
JobBegins j (machines.Path m) slots = Unit {0}
JobBegins j (machines.Name m) slots = Unit {0}

abbrev pub JobEnters : Job → Machine → Fact
JobEnters j (machines.File m) = FileEnters j m
JobEnters j (machines.Path m) = j.P
JobEnters j (machines.Name m) = j.P

-- a path machine that begins is on its way
abbrev pub BeginsFirst : Machine → Type 0
BeginsFirst (machines.File m) = Unit {0}
BeginsFirst (machines.Path m) = m.arrived ≡ false
BeginsFirst (machines.Name m) = Unit {0}

abbrev pub job_lane : ℕ → Machine → ℕ
job_lane lane (machines.File m) = file_lane lane m
job_lane lane (machines.Path m) = file_lane lane (file_of m.opener)
job_lane lane (machines.Name m) = lane

abbrev pub JobKnown : Type 0 → (Bool → Shelf → Type 0) → Machine → Step → Shelf → Type 0
JobKnown W Z (machines.File m) next final = WriteKnown W Z m next final
JobKnown W Z (machines.Path m) next final = WriteKnown W Z (file_of m.opener) next final
JobKnown W Z (machines.Name m) next final = W

-- A of the bytes of a put and of the file that it has opened, where its opening ends at this step
abbrev pub PathOpens : (List ℕ → ℕ → List ℕ → Type 0) → (b : Bool) (wsize : ℕ) (m : PathMachine) (sent turn : Turn) (came : Result Reply Fault) (old : Shelf) (next : Step) (new : PathMachine) (after : Shelf)
    → paths.PathTakes b wsize m sent turn came old next new after → Type 0
PathOpens A true wsize m sent turn came old next new after t = FileOpens A wsize (file_of m.opener) sent turn came old next (file_of t.opener) after t.step
PathOpens A false wsize m sent turn came old next new after t = Unit {0}

abbrev pub JobOpens : (List ℕ → ℕ → List ℕ → Type 0) → (wsize : ℕ) (m : Machine) (sent turn : Turn) (came : Result Reply Fault) (old : Shelf) (next : Step) (new : Machine) (after : Shelf)
    → Takes wsize m sent turn came old next new after → Type 0
JobOpens A wsize (machines.File m) sent turn came old next new after t = FileOpens A wsize m sent turn came old next t.machine after t.step
JobOpens A wsize (machines.Path m) sent turn came old next new after t = PathOpens A m.arrived wsize m sent turn came old next t.machine after t.step
JobOpens A wsize (machines.Name m) sent turn came old next new after t = Unit {0}

abbrev pub path_save : Bool → Opener → Option Saving
path_save true opener = file_save (file_of opener)
path_save false opener = None

abbrev pub job_save : Machine → Option Saving
job_save (machines.File m) = file_save m
job_save (machines.Path m) = path_save m.arrived m.opener
job_save (machines.Name m) = None

placed-known : (W : Type 0) (Z : Bool → Shelf → Type 0) (dir : List ℕ) (o : Opener) (next : Step) (final : Shelf) → WriteKnown W Z (file_of o) next final → WriteKnown W Z (file_of (placed dir o)) next final
placed-known W Z dir (openers.Open m) next final w = w
placed-known W Z dir (openers.Put m) next final w = w

begun-known : (W : Type 0) (Z : Bool → Shelf → Type 0) (moment : ℕ) (o : Opener) (next : Step) (final : Shelf) → WriteKnown W Z (file_of o) next final → WriteKnown W Z (file_of (begun_at moment o)) next final
begun-known W Z moment (openers.Open m) next final w = w
begun-known W Z moment (openers.Put m) next final w = w

placed-has : (j : Job) (dir : List ℕ) (o : Opener) (q : ℕ) (b : Pending) (l : List LaneFile) → j.P q b l → FileHas j (file_of (placed dir o)) q b l
placed-has j dir (openers.Open m) q b l p = p
placed-has j dir (openers.Put m) q b l p = p

placed-lane : (lane : ℕ) (dir : List ℕ) (o : Opener) → file_lane lane (file_of (placed dir o)) ≡ file_lane lane (file_of o)
placed-lane lane dir (openers.Open m) = refl
placed-lane lane dir (openers.Put m) = refl

begun-lane : (lane moment : ℕ) (o : Opener) → file_lane lane (file_of (begun_at moment o)) ≡ file_lane lane (file_of o)
begun-lane lane moment (openers.Open m) = refl
begun-lane lane moment (openers.Put m) = refl

module _ (j : Job) (lane wsize : ℕ) (turn : Turn) (next : Step) (W : Type 0) (Z : Bool → Shelf → Type 0) where
  abbrev pub JobFinAt : Machine → Shelf → Type 0
  JobFinAt m s = JobFin j next m s.seq s.back s.order

  -- one that has none of it
  none-fin : (to new : Machine) (old after : Shelf) → new ≡ to → ((q : ℕ) (b : Pending) (o : List LaneFile) → j.P q b o → JobHas (ended j) to q b o) → ((q : ℕ) (b : Pending) (o : List LaneFile) → j.P q b o → JobGood j to q b o)
      → IsKept old after → after.order ≡ old.order → ((q : ℕ) (b : Pending) (o : List LaneFile) → j.P q b o → JobBad j to q b o) → At j.P old → JobFinAt new after
  none-fin to new old after is has good k order enough p = subst (λ (m : Machine). JobFinAt m after) (sym is) (by next)
    where
      here : At j.P after
      here = at-as j.P old.seq old.back old.order after k.seq k.back order p

      by : (n : Step) → JobFin j n to after.seq after.back after.order
      by (nexts.Send call) = has after.seq after.back after.order here
      by nexts.Wait = has after.seq after.back after.order here
      by (nexts.Done (answers.Done value)) = good after.seq after.back after.order here
      by (nexts.Done (answers.Refused fault)) = enough after.seq after.back after.order here

  -- ---- opens and puts on their way

  opener-fin : (n : Step) (m : PathMachine) (opener : Opener) (after : Shelf) → m.arrived ≡ true → FileFin j n (file_of opener) after.seq after.back after.order
      → JobFin j n (machines.Path (record m { opener = opener })) after.seq after.back after.order
  opener-fin (nexts.Send call) m opener after there l = subst (λ (b : Bool). PathHas (ended j) b opener after.seq after.back after.order) (sym there) l
  opener-fin nexts.Wait m opener after there l = subst (λ (b : Bool). PathHas (ended j) b opener after.seq after.back after.order) (sym there) l
  opener-fin (nexts.Done (answers.Done value)) m opener after there l = by opener l
    where
      by : (o : Opener) → FileGood j (file_of o) after.seq after.back after.order → PathGood j o after.seq after.back after.order
      by (openers.Open k) l = l
      by (openers.Put k) l = l
  opener-fin (nexts.Done (answers.Refused fault)) m opener after there l = by opener l
    where
      by : (o : Opener) → FileBad j (file_of o) after.seq after.back after.order → j.R after.seq after.back after.order
      by (openers.Open k) l = l
      by (openers.Put k) l = l

  then-resumes : (m : PathMachine) (old : Shelf) (new : PathMachine) (after : Shelf) → JobLaws j wsize (file_lane lane (file_of m.opener)) turn next W Z → WriteKnown W Z (file_of m.opener) next after → m.arrived ≡ true
      → paths.ThenResumes wsize m turn old next new after → At (FileHas j (file_of m.opener)) old → JobFinAt (machines.Path new) after
  then-resumes m old new after w known there t h =
      subst (λ (z : PathMachine). JobFinAt (machines.Path z) after) (sym t.machine_is)
      (opener-fin next m t.opener after there
      (file-resumes j lane wsize turn next W Z (file_of m.opener) old (file_of t.opener) after w known t.step h))

  way-has : (m new : PathMachine) (q : ℕ) (b : Pending) (o : List LaneFile) → new ≡ m → m.arrived ≡ false → j.P q b o → JobHas (ended j) (machines.Path new) q b o
  way-has m new q b o is way p =
      subst (λ (z : PathMachine). JobHas (ended j) (machines.Path z) q b o) (sym is) (subst (λ (c : Bool). PathHas (ended j) c m.opener q b o) (sym way) p)

  follows-path : (step : WalkStep) (m : PathMachine) (old : Shelf) (new : PathMachine) (after : Shelf) → JobLaws j wsize (file_lane lane (file_of m.opener)) turn next W Z → WriteKnown W Z (file_of m.opener) next after → m.arrived ≡ false
      → paths.Follows step wsize m turn old next new after → At j.P old → JobFinAt (machines.Path new) after
  follows-path (walks.Send call) m old new after w known way f p =
      subst (λ (n : Step). JobFin j n (machines.Path new) after.seq after.back after.order) (sym f.0)
      (way-has m new after.seq after.back after.order f.1 way (subst (At j.P) (sym f.2) p))
  follows-path walks.Wait m old new after w known way f p =
      subst (λ (n : Step). JobFin j n (machines.Path new) after.seq after.back after.order) (sym f.0)
      (way-has m new after.seq after.back after.order f.1 way (subst (At j.P) (sym f.2) p))
  follows-path (walks.At dir) m old new after w known way f p =
      then-resumes (record m { opener = placed dir m.opener; arrived = true }) old new after
      (subst (λ (n : ℕ). JobLaws j wsize n turn next W Z) (sym (placed-lane lane dir m.opener)) w) (placed-known W Z dir m.opener next after known) refl f (placed-has j dir m.opener old.seq old.back old.order p)
  follows-path (walks.Refused fault) m old new after w known way f p =
      subst (λ (n : Step). JobFin j n (machines.Path new) after.seq after.back after.order) (sym f.0) (w.enough after.seq after.back after.order (subst (At j.P) (sym f.2) p))

  path-resumes : (b : Bool) (m : PathMachine) (old : Shelf) (new : PathMachine) (after : Shelf) → JobLaws j wsize (file_lane lane (file_of m.opener)) turn next W Z → WriteKnown W Z (file_of m.opener) next after → m.arrived ≡ b
      → paths.PathResumes b wsize m turn old next new after → At (PathHas j b m.opener) old → JobFinAt (machines.Path new) after
  path-resumes true m old new after w known is r h = then-resumes m old new after w known is r h
  path-resumes false m old new after w known is r h =
      follows-path (walking.go_next m.walk turn old) (record m { walk = walking.go_after m.walk turn old }) (walking.go_shelf m.walk turn old) new after w known is r h

  path-starts : (taken : Bool) (m : PathMachine) (old : Shelf) (new : PathMachine) (after : Shelf) → JobLaws j wsize (file_lane lane (file_of m.opener)) turn next W Z → WriteKnown W Z (file_of m.opener) next after → m.arrived ≡ false
      → paths.StartsIf taken wsize m turn old next new after → At j.P old → JobFinAt (machines.Path new) after
  path-starts true m old new after w known way s p =
      subst (λ (n : Step). JobFin j n (machines.Path new) after.seq after.back after.order) (sym s.0) (w.enough after.seq after.back after.order (subst (At j.P) (sym s.2) p))
  path-starts false m old new after w known way s p =
      path-resumes false (record m { opener = begun_at (turn.moment - 1) m.opener }) old new after
      (subst (λ (n : ℕ). JobLaws j wsize n turn next W Z) (sym (begun-lane lane (turn.moment - 1) m.opener)) w) (begun-known W Z (turn.moment - 1) m.opener next after known) way
      (subst (λ (b : Bool). paths.PathResumes b wsize (record m { opener = begun_at (turn.moment - 1) m.opener }) turn old next new after) way s)
      p

  -- ---- any operation

  pub all-starts : (m : Machine) (old : Shelf) (new : Machine) (after : Shelf) → JobLaws j wsize (job_lane lane m) turn next W Z → JobKnown W Z m next after → BeginsFirst m → JobBegins j m old.opens
      → Starts wsize m turn old next new after → At (JobEnters j m) old → JobFinAt new after
  all-starts (machines.File m) old new after w known first begins s p =
      subst (λ (z : Machine). JobFinAt z after) (sym s.machine_is) (file-fin next (file-starts j lane wsize turn next W Z m old s.machine after w known begins s.step p))
    where
      file-fin : (n : Step) → FileFin j n s.machine after.seq after.back after.order → JobFin j n (machines.File s.machine) after.seq after.back after.order
      file-fin (nexts.Send call) l = l
      file-fin nexts.Wait l = l
      file-fin (nexts.Done (answers.Done value)) l = l
      file-fin (nexts.Done (answers.Refused fault)) l = l
  all-starts (machines.Path m) old new after w known first begins s p =
      subst (λ (z : Machine). JobFinAt z after) (sym s.machine_is) (path-starts (slot_taken m.opener old.opens) m old s.machine after w known first s.step p)
  all-starts (machines.Name m) old new after w known first begins s p =
      none-fin (machines.Name s.machine) new old after s.machine_is (λ q b o k. k) (λ q b o k. k) (name-goes-kept m turn old next s.machine after s.step)
      (ap (λ (r : rests.Rest). r.order) (rests.name-goes m turn old next s.machine after s.step)) w.enough p

  pub all-resumes : (m : Machine) (old : Shelf) (new : Machine) (after : Shelf) → JobLaws j wsize (job_lane lane m) turn next W Z → JobKnown W Z m next after → Resumes wsize m turn old next new after
      → At (JobHas j m) old → JobFinAt new after
  all-resumes (machines.File m) old new after w known s h =
      subst (λ (z : Machine). JobFinAt z after) (sym s.machine_is) (file-fin next (file-resumes j lane wsize turn next W Z m old s.machine after w known s.step h))
    where
      file-fin : (n : Step) → FileFin j n s.machine after.seq after.back after.order → JobFin j n (machines.File s.machine) after.seq after.back after.order
      file-fin (nexts.Send call) l = l
      file-fin nexts.Wait l = l
      file-fin (nexts.Done (answers.Done value)) l = l
      file-fin (nexts.Done (answers.Refused fault)) l = l
  all-resumes (machines.Path m) old new after w known s h =
      subst (λ (z : Machine). JobFinAt z after) (sym s.machine_is) (path-resumes m.arrived m old s.machine after w known refl s.step h)
  all-resumes (machines.Name m) old new after w known s p =
      none-fin (machines.Name s.machine) new old after s.machine_is (λ q b o k. k) (λ q b o k. k) (name-goes-kept m turn old next s.machine after s.step)
      (ap (λ (r : rests.Rest). r.order) (rests.name-goes m turn old next s.machine after s.step)) w.enough p

  module _ (sent : Turn) (came : Result Reply Fault) (N : Saving → Pending → Type 0) (v : JobReplies j wsize sent turn came N) where
    path-takes : (b : Bool) (m : PathMachine) (old : Shelf) (new : PathMachine) (after : Shelf) → JobLaws j wsize (file_lane lane (file_of m.opener)) turn next W Z → WriteKnown W Z (file_of m.opener) next after → m.arrived ≡ b
        → (t : paths.PathTakes b wsize m sent turn came old next new after) → PathOpens j.A b wsize m sent turn came old next new after t → ((s : Saving) → path_save b m.opener ≡ Some s → N s old.back) → At (PathHas j b m.opener) old → JobFinAt (machines.Path new) after
    path-takes true m old new after w known is t opened n h =
        subst (λ (z : PathMachine). JobFinAt (machines.Path z) after) (sym t.machine_is)
        (opener-fin next m t.opener after is
        (file-takes j lane wsize turn next W Z sent came N v (file_of m.opener) old (file_of t.opener) after w known t.step opened n h))
    path-takes false m old new after w known is t opened n h =
        let k = walk-takes-kept (walking.waiting_name m.walk) m.walk sent turn came old t.step t.walked.walk t.heard t.takes in
        follows-path t.step t.walked t.heard new after
        (subst (λ (z : PathMachine). JobLaws j wsize (file_lane lane (file_of z.opener)) turn next W Z) (sym t.walked_is) w) (subst (λ (z : PathMachine). WriteKnown W Z (file_of z.opener) next after) (sym t.walked_is) known) (ap (λ (z : PathMachine). z.arrived) t.walked_is ∙ is) t.follows
        (at-as j.P old.seq old.back old.order t.heard k.seq k.back
        (ap (λ (r : rests.Rest). r.order) (rests.walk-rest (walking.waiting_name m.walk) m.walk sent turn came old t.step t.walked.walk t.heard t.takes)) h)

    pub all-takes : (m : Machine) (old : Shelf) (new : Machine) (after : Shelf) → JobLaws j wsize (job_lane lane m) turn next W Z → JobKnown W Z m next after → (t : Takes wsize m sent turn came old next new after)
        → JobOpens j.A wsize m sent turn came old next new after t → ((s : Saving) → job_save m ≡ Some s → N s old.back) → At (JobHas j m) old → JobFinAt new after
    all-takes (machines.File m) old new after w known s opened n h =
        subst (λ (z : Machine). JobFinAt z after) (sym s.machine_is) (file-fin next (file-takes j lane wsize turn next W Z sent came N v m old s.machine after w known s.step opened n h))
      where
        file-fin : (k : Step) → FileFin j k s.machine after.seq after.back after.order → JobFin j k (machines.File s.machine) after.seq after.back after.order
        file-fin (nexts.Send call) l = l
        file-fin nexts.Wait l = l
        file-fin (nexts.Done (answers.Done value)) l = l
        file-fin (nexts.Done (answers.Refused fault)) l = l
    all-takes (machines.Path m) old new after w known s opened n h =
        subst (λ (z : Machine). JobFinAt z after) (sym s.machine_is) (path-takes m.arrived m old s.machine after w known refl s.step opened n h)
    all-takes (machines.Name m) old new after w known s opened n p =
        none-fin (machines.Name s.machine) new old after s.machine_is (λ q b o k. k) (λ q b o k. k) (name-takes-kept m sent turn came old next s.machine after s.step)
        (ap (λ (r : rests.Rest). r.order) (rests.name-takes m sent turn came old next s.machine after s.step)) w.enough p
