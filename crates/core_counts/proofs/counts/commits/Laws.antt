-- The laws of a count of COMMITs, of a session in which puts find room for their bytes.
use Rattle.core_counts.proofs.Prelude.{◌≡◌, ◌≤◌, ◌-◌, ℕ, Bool, true, false, List, Option, Some, None, Result, Ok, Err, refl, sym, ap, subst, ◌∙◌, arith, if◌then◌else◌, Fault, Call, Reply, Op, Step, Repeat, Shelf, Turn, file_at, Closing, PutFile, Putting, Syncing, look_again, found_by, Walk, WalkStep, Mounted, machine_of, put_of, front_of, last_of, file_of, begun_at, Starts, Resumes, Takes, FileMachine, Machine, Opener, PathMachine, of_name, of_walk, in_flight, Going}
use Rattle.op_machines.specs.Openers.{placed}
use Rattle.core_facts.specs.InFlight.{of_file, path_by}
use Rattle.world_model.specs.declared.op.Op.TheVariants as ops
use Rattle.client_shelf.specs.Repeats.{answered}
use Rattle.client_shelf.specs.declared.step.Step.TheVariants as nexts
use Rattle.file_ops.specs.declared.close_file.Closing.TheVariants as closing
use Rattle.file_ops.specs.declared.put_file.Putting.TheVariants as putting
use Rattle.file_ops.specs.declared.sync_file.Syncing.TheVariants as syncing
use Rattle.name_ops.specs.Walking as walking
use Rattle.name_ops.specs.declared.walk.WalkStep.TheVariants as walks
use Rattle.op_machines.specs.FileSteps as steps
use Rattle.name_ops.specs.Pairs.{walk_of}
use Rattle.op_machines.specs.PathSteps as paths
use Rattle.op_machines.specs.declared.file_machine.FileMachine.TheVariants as files
use Rattle.op_machines.specs.declared.machine.Machine.TheVariants as machines
use Rattle.op_machines.specs.declared.opener.Opener.TheVariants as openers
use Rattle.core_answers.proofs.writes.Plain.{IsOther, PlainAsks}
use Rattle.core_session.proofs.delays.Rests.{resumes-same}
use Rattle.core_counts.proofs.counts.commits.Machines.{StepIs, Taken, repeats, goes, done-step, wait-step, plain-step, SyncLeft, CloseLeft, CloseWaits, sync-starts, sync-resumes, sync-takes, close-starts, close-resumes, close-takes}
use Rattle.core_counts.proofs.counts.commits.Puts.{PutLeft, PutWaits, PutRoom, put-resumes, put-takes}

-- ---- walks ask for LOOKUPs

abbrev WalkOther : WalkStep → Type 0
WalkOther (walks.Send call) = IsOther call
WalkOther walks.Wait = Unit {0}
WalkOther (walks.At dir) = Unit {0}
WalkOther (walks.Refused fault) = Unit {0}

asks-other : (name : Option (List ℕ)) (room : Bool) (w : Walk) → WalkOther (walking.asks name room w)
asks-other None room w = tt
asks-other (Some name) true w = tt
asks-other (Some name) false w = tt

go-other : (w : Walk) (turn : Turn) (shelf : Shelf) → WalkOther (walking.go_next w turn shelf)
go-other w turn shelf = by w.asked
  where
    by : (b : Bool) → WalkOther (if b then walks.Wait else walking.on_next w turn shelf.attrs shelf.names)
    by true = tt
    by false = asks-other _ turn.room _

told-other : (told : Result (List ℕ) Fault) (w : Walk) (turn : Turn) (heard : Shelf) → WalkOther (walking.told_next w told turn heard)
told-other (Ok found) w turn heard = asks-other _ turn.room _
told-other (Err fault) w turn heard = tt

sends-plain : (sent : Call) (next : Step) → next ≡ nexts.Send sent → IsOther sent → PlainAsks next
sends-plain sent next is other call asks =
    let same : sent ≡ call = (let k : nexts.Send sent ≡ nexts.Send call = sym is ∙ asks in cc) in subst IsOther same other

module _ (f : List ℕ) where
  -- ---- what is left to a machine

  abbrev pub FileLeft : FileMachine → ℕ → Type 0
  FileLeft (files.Sync m) left = SyncLeft f m.state left
  FileLeft (files.Close m) left = CloseLeft f m.state left
  FileLeft (files.Put m) left = PutLeft f m.state left
  FileLeft m left = ⊥

  -- before its directory is found
  abbrev pub BeforeLeft : Opener → ℕ → Type 0
  BeforeLeft (openers.Put m) left = 2 ≤ left
  BeforeLeft (openers.Open m) left = ⊥

  abbrev pub PathLeft : Bool → Opener → ℕ → Type 0
  PathLeft true opener left = FileLeft (file_of opener) left
  PathLeft false opener left = BeforeLeft opener left

  abbrev pub MachineLeft : Machine → ℕ → Type 0
  MachineLeft (machines.File m) left = FileLeft m left
  MachineLeft (machines.Path m) left = PathLeft m.arrived m.opener left
  MachineLeft (machines.Name m) left = ⊥

  step-over : (had : ℕ) (next : Step) (P R : ℕ → Type 0) → ((n : ℕ) → P n → R n) → StepIs f had next P → StepIs f had next R
  step-over had next P R to s = record { left = s.left; keeps = by next s.keeps; less = s.less; asks = s.asks }
    where
      by : (n : Step) → Going n (P s.left) → Going n (R s.left)
      by (nexts.Send call) p = to s.left p
      by nexts.Wait p = to s.left p
      by (nexts.Done answer) p = tt

  taken-over : (had : ℕ) (sent turn : Turn) (old later : List Repeat) (next : Step) (P R : ℕ → Type 0) → ((n : ℕ) → P n → R n) → Taken f had sent turn old later next P → Taken f had sent turn old later next R
  taken-over had sent turn old later next P R to (repeats table p) = repeats table (to had p)
  taken-over had sent turn old later next P R to (goes table s) = goes table (step-over had next P R to s)

  file-to : (a b : FileMachine) → b ≡ a → (n : ℕ) → FileLeft a n → FileLeft b n
  file-to a b is n k = subst (λ (m : FileMachine). FileLeft m n) (sym is) k

  -- ---- files

  file-resumes : (m : FileMachine) (wsize : ℕ) (turn : Turn) (old : Shelf) (next : Step) (new : FileMachine) (after : Shelf) (had : ℕ) → FileLeft m had → steps.Resumes wsize m turn old next new after
      → StepIs f had next (FileLeft new)
  file-resumes (files.Sync m) wsize turn old next new after had left s =
      step-over had next (SyncLeft f s.state) (FileLeft new) (file-to (files.Sync (record m { state = s.state })) new s.machine_is) (sync-resumes f m.state wsize m turn old next s.state after had left s.step)
  file-resumes (files.Close m) wsize turn old next new after had left s =
      step-over had next (CloseLeft f s.state) (FileLeft new) (file-to (files.Close (record m { state = s.state })) new s.machine_is) (close-resumes f m.state wsize m turn old next s.state after had left s.step)
  file-resumes (files.Put m) wsize turn old next new after had left s =
      step-over had next (PutLeft f s.machine.state) (FileLeft new) (file-to (files.Put s.machine) new s.machine_is) (put-resumes f m.state wsize m turn old next s.machine after had refl left s.step)
  file-resumes (files.Open m) wsize turn old next new after had left s = absurd left
  file-resumes (files.Read m) wsize turn old next new after had left s = absurd left
  file-resumes (files.Write m) wsize turn old next new after had left s = absurd left
  file-resumes (files.Truncate m) wsize turn old next new after had left s = absurd left

  -- a put's call wasn't made, or it has room
  abbrev pub FileRoom : FileMachine → Result Reply Fault → Shelf → Type 0
  FileRoom (files.Put m) came old = PutRoom f m.state m came old
  FileRoom m came old = Unit {0}

  sync-waits : (at : Syncing) → 1 ≤ of_file (files.Sync (record { lane = 0; slot = 0; state = at })) → at ≡ syncing.Idle → ⊥
  sync-waits syncing.Idle some is = absurd (omega (arith, some))
  sync-waits (syncing.Saves s) some is = absurd (cc)

  close-waits : (at : Closing) → 1 ≤ of_file (files.Close (record { lane = 0; slot = 0; state = at })) → CloseWaits f at
  close-waits closing.Idle some = absurd (omega (arith, some))
  close-waits (closing.Queued s) some = absurd (omega (arith, some))
  close-waits (closing.Saves s) some = tt
  close-waits (closing.ToRemove removal) some = absurd (omega (arith, some))
  close-waits (closing.Removing removal) some = tt

  put-waits : (at : Putting) (m : PutFile) → m.state ≡ at → 1 ≤ of_file (files.Put m) → PutWaits f at
  put-waits putting.Idle m is some =
      absurd (let none : of_file (files.Put m) ≡ 0 = ap (λ (p : Putting). of_file (files.Put (record m { state = p }))) is in omega (arith, some, none))
  put-waits putting.Opens m is some = tt
  put-waits (putting.Adds file) m is some = tt
  put-waits (putting.Saves s) m is some = tt

  file-takes : (m : FileMachine) (wsize : ℕ) (sent turn : Turn) (came : Result Reply Fault) (old : Shelf) (next : Step) (new : FileMachine) (after : Shelf) (had : ℕ) → 1 ≤ of_file m → FileLeft m had
      → FileRoom m came old → steps.Takes wsize m sent turn came old next new after → Taken f had sent turn old.repeats after.repeats next (FileLeft new)
  file-takes (files.Sync m) wsize sent turn came old next new after had some left room s =
      taken-over had sent turn old.repeats after.repeats next (SyncLeft f s.state) (FileLeft new) (file-to (files.Sync (record m { state = s.state })) new s.machine_is)
      (sync-takes f m.state wsize m sent turn came old next s.state after had (sync-waits m.state some) left s.step)
  file-takes (files.Close m) wsize sent turn came old next new after had some left room s =
      taken-over had sent turn old.repeats after.repeats next (CloseLeft f s.state) (FileLeft new) (file-to (files.Close (record m { state = s.state })) new s.machine_is)
      (close-takes f m.state wsize m sent turn came old next s.state after had (close-waits m.state some) left s.step)
  file-takes (files.Put m) wsize sent turn came old next new after had some left room s =
      taken-over had sent turn old.repeats after.repeats next (PutLeft f s.machine.state) (FileLeft new) (file-to (files.Put s.machine) new s.machine_is)
      (put-takes f m.state wsize m sent turn came old next s.machine after had refl (put-waits m.state m refl some) left room s.step)
  file-takes (files.Open m) wsize sent turn came old next new after had some left room s = absurd left
  file-takes (files.Read m) wsize sent turn came old next new after had some left room s = absurd left
  file-takes (files.Write m) wsize sent turn came old next new after had some left room s = absurd left
  file-takes (files.Truncate m) wsize sent turn came old next new after had some left room s = absurd left

  -- ---- puts on their way

  path-to : (m : PathMachine) (opener : Opener) (new : PathMachine) → m.arrived ≡ true → new ≡ record m { opener = opener } → (n : ℕ) → FileLeft (file_of opener) n → MachineLeft (machines.Path new) n
  path-to m opener new there is n k = subst (λ (p : PathMachine). PathLeft p.arrived p.opener n) (sym is) (subst (λ (b : Bool). PathLeft b opener n) (sym there) k)

  before-to : (m new : PathMachine) → m.arrived ≡ false → new ≡ m → (n : ℕ) → BeforeLeft m.opener n → MachineLeft (machines.Path new) n
  before-to m new on_way is n k = subst (λ (p : PathMachine). PathLeft p.arrived p.opener n) (sym is) (subst (λ (b : Bool). PathLeft b m.opener n) (sym on_way) k)

  placed-left : (dir : List ℕ) (opener : Opener) (n : ℕ) → BeforeLeft opener n → FileLeft (file_of (placed dir opener)) n
  placed-left dir (openers.Put m) n k = k
  placed-left dir (openers.Open m) n k = absurd k

  follows-path : (step : WalkStep) (wsize : ℕ) (m : PathMachine) (turn : Turn) (old : Shelf) (next : Step) (new : PathMachine) (after : Shelf) (had : ℕ) → m.arrived ≡ false → WalkOther step
      → BeforeLeft m.opener had → paths.Follows step wsize m turn old next new after → StepIs f had next (MachineLeft (machines.Path new))
  follows-path (walks.Send call) wsize m turn old next new after had on_way other left k =
      plain-step f had next (MachineLeft (machines.Path new)) (sends-plain call next k.0 other) (before-to m new on_way k.1 had left)
  follows-path walks.Wait wsize m turn old next new after had on_way other left k = wait-step f had next (MachineLeft (machines.Path new)) k.0 (before-to m new on_way k.1 had left)
  follows-path (walks.At dir) wsize m turn old next new after had on_way other left k =
      step-over had next (FileLeft (file_of k.opener)) (MachineLeft (machines.Path new)) (path-to (record m { opener = placed dir m.opener; arrived = true }) k.opener new refl k.machine_is)
      (file-resumes (file_of (placed dir m.opener)) wsize turn old next (file_of k.opener) after had (placed-left dir m.opener had left) k.step)
  follows-path (walks.Refused fault) wsize m turn old next new after had on_way other left k = done-step f had next _ (MachineLeft (machines.Path new)) k.0

  path-resumes : (b : Bool) (wsize : ℕ) (m : PathMachine) (turn : Turn) (old : Shelf) (next : Step) (new : PathMachine) (after : Shelf) (had : ℕ) → m.arrived ≡ b → PathLeft b m.opener had
      → paths.PathResumes b wsize m turn old next new after → StepIs f had next (MachineLeft (machines.Path new))
  path-resumes true wsize m turn old next new after had is left r =
      step-over had next (FileLeft (file_of r.opener)) (MachineLeft (machines.Path new)) (path-to m r.opener new is r.machine_is)
      (file-resumes (file_of m.opener) wsize turn old next (file_of r.opener) after had left r.step)
  path-resumes false wsize m turn old next new after had is left r =
      follows-path (walking.go_next m.walk turn old) wsize (record m { walk = walking.go_after m.walk turn old }) turn (walking.go_shelf m.walk turn old) next new after had is (go-other m.walk turn old) left r

  abbrev pub PathRoom : Bool → Opener → Result Reply Fault → Shelf → Type 0
  PathRoom true opener came old = FileRoom (file_of opener) came old
  PathRoom false opener came old = Unit {0}

  -- ---- what came to a put

  follows-table : (step : WalkStep) (wsize : ℕ) (m : PathMachine) (turn : Turn) (old : Shelf) (next : Step) (new : PathMachine) (after : Shelf) → paths.Follows step wsize m turn old next new after
      → after.repeats ≡ old.repeats
  follows-table (walks.Send call) wsize m turn old next new after k = ap (λ (z : Shelf). z.repeats) k.2
  follows-table walks.Wait wsize m turn old next new after k = ap (λ (z : Shelf). z.repeats) k.2
  follows-table (walks.At dir) wsize m turn old next new after k =
      resumes-same (machines.Path (record m { opener = placed dir m.opener; arrived = true })) wsize turn old next (machines.Path new) after (record { machine = new; machine_is = refl; step = k })
  follows-table (walks.Refused fault) wsize m turn old next new after k = ap (λ (z : Shelf). z.repeats) k.2

  module _ (wsize : ℕ) (m : PathMachine) (sent turn : Turn) (came : Result Reply Fault) (old : Shelf) (next : Step) (new : PathMachine) (after : Shelf) (had : ℕ) (on_way : m.arrived ≡ false)
      (left : BeforeLeft m.opener had) (t : paths.WalkTakes wsize m sent turn came old next new after) where
    walked-way : t.walked.arrived ≡ false
    walked-way = ap (λ (p : PathMachine). p.arrived) t.walked_is ∙ on_way

    walked-left : BeforeLeft t.walked.opener had
    walked-left = subst (λ (p : PathMachine). BeforeLeft p.opener had) (sym t.walked_is) left

    told-table : (told : Result (List ℕ) Fault) (w : Walk) (heard : Shelf) → (walking.told_shelf w told turn heard).repeats ≡ heard.repeats
    told-table (Ok found) w heard = refl
    told-table (Err fault) w heard = refl

    followed-table : (b : Bool) (heard : Shelf) → (walking.followed_shelf b m.walk (found_by came) turn heard).repeats ≡ heard.repeats
    followed-table true heard = refl
    followed-table false heard = told-table (found_by came) m.walk heard

    looks : (name : List ℕ) → walking.Looks m.walk name sent turn came old t.step t.walked.walk t.heard → Taken f had sent turn old.repeats after.repeats next (MachineLeft (machines.Path new))
    looks name l = by (look_again sent turn came old) refl
      where
        table : (b : Bool) → look_again sent turn came old ≡ b → after.repeats ≡ answered b sent.xid turn.xid old.repeats
        table b is =
            follows-table t.step wsize t.walked turn t.heard next new after t.follows
            ∙ ap (λ (z : Shelf). z.repeats) l.shelf_is
            ∙ followed-table (look_again sent turn came old) l.heard
            ∙ ap (λ (z : Shelf). z.repeats) l.hears.others
            ∙ ap (λ (c : Bool). answered c sent.xid turn.xid old.repeats) is

        by : (b : Bool) → look_again sent turn came old ≡ b → Taken f had sent turn old.repeats after.repeats next (MachineLeft (machines.Path new))
        by true is =
            let step_is : t.step ≡ walks.Send _ = l.next_is ∙ ap (λ (b : Bool). walking.followed_next b m.walk name (found_by came) turn l.heard) is in
            let k = subst (λ (s : WalkStep). paths.Follows s wsize t.walked turn t.heard next new after) step_is t.follows in
            repeats (table true is) (before-to t.walked new walked-way k.1 had walked-left)
        by false is =
            let step_is : t.step ≡ walking.told_next m.walk (found_by came) turn l.heard =
            l.next_is ∙ ap (λ (b : Bool). walking.followed_next b m.walk name (found_by came) turn l.heard) is in
            goes (table false is)
            (follows-path t.step wsize t.walked turn t.heard next new after had walked-way (subst WalkOther (sym step_is) (told-other (found_by came) m.walk turn l.heard)) walked-left t.follows)

    pub walk-took : 1 ≤ of_walk m.walk → Taken f had sent turn old.repeats after.repeats next (MachineLeft (machines.Path new))
    walk-took some = by (walking.waiting_name m.walk) some t.takes
      where
        by : (o : Option (List ℕ)) → 1 ≤ of_name o → walking.Takes o m.walk sent turn came old t.step t.walked.walk t.heard
            → Taken f had sent turn old.repeats after.repeats next (MachineLeft (machines.Path new))
        by None none k = absurd (omega (arith, none))
        by (Some name) any k = looks name k

  path-takes : (b : Bool) (wsize : ℕ) (m : PathMachine) (sent turn : Turn) (came : Result Reply Fault) (old : Shelf) (next : Step) (new : PathMachine) (after : Shelf) (had : ℕ) → m.arrived ≡ b
      → 1 ≤ path_by b (of_walk m.walk) (of_file (file_of m.opener)) → PathLeft b m.opener had → PathRoom b m.opener came old → paths.PathTakes b wsize m sent turn came old next new after
      → Taken f had sent turn old.repeats after.repeats next (MachineLeft (machines.Path new))
  path-takes true wsize m sent turn came old next new after had is some left room t =
      taken-over had sent turn old.repeats after.repeats next (FileLeft (file_of t.opener)) (MachineLeft (machines.Path new)) (path-to m t.opener new is t.machine_is)
      (file-takes (file_of m.opener) wsize sent turn came old next (file_of t.opener) after had some left room t.step)
  path-takes false wsize m sent turn came old next new after had is some left room t = walk-took wsize m sent turn came old next new after had is left t some

  -- ---- any operation

  abbrev pub MachineRoom : Machine → Result Reply Fault → Shelf → Type 0
  MachineRoom (machines.File m) came old = FileRoom m came old
  MachineRoom (machines.Path m) came old = PathRoom m.arrived m.opener came old
  MachineRoom (machines.Name m) came old = Unit {0}

  pub machine-resumes : (machine : Machine) (wsize : ℕ) (turn : Turn) (old : Shelf) (next : Step) (new : Machine) (after : Shelf) (had : ℕ) → MachineLeft machine had → Resumes wsize machine turn old next new after
      → StepIs f had next (MachineLeft new)
  machine-resumes (machines.File m) wsize turn old next new after had left s =
      step-over had next (FileLeft s.machine) (MachineLeft new) (λ n k. subst (λ (z : Machine). MachineLeft z n) (sym s.machine_is) k) (file-resumes m wsize turn old next s.machine after had left s.step)
  machine-resumes (machines.Path m) wsize turn old next new after had left s =
      step-over had next (MachineLeft (machines.Path s.machine)) (MachineLeft new) (λ n k. subst (λ (z : Machine). MachineLeft z n) (sym s.machine_is) k)
      (path-resumes m.arrived wsize m turn old next s.machine after had refl left s.step)
  machine-resumes (machines.Name m) wsize turn old next new after had left s = absurd left

  pub machine-takes : (machine : Machine) (wsize : ℕ) (sent turn : Turn) (came : Result Reply Fault) (old : Shelf) (next : Step) (new : Machine) (after : Shelf) (had : ℕ) → 1 ≤ in_flight machine
      → MachineLeft machine had → MachineRoom machine came old → Takes wsize machine sent turn came old next new after → Taken f had sent turn old.repeats after.repeats next (MachineLeft new)
  machine-takes (machines.File m) wsize sent turn came old next new after had some left room s =
      taken-over had sent turn old.repeats after.repeats next (FileLeft s.machine) (MachineLeft new) (λ n k. subst (λ (z : Machine). MachineLeft z n) (sym s.machine_is) k)
      (file-takes m wsize sent turn came old next s.machine after had some left room s.step)
  machine-takes (machines.Path m) wsize sent turn came old next new after had some left room s =
      taken-over had sent turn old.repeats after.repeats next (MachineLeft (machines.Path s.machine)) (MachineLeft new) (λ n k. subst (λ (z : Machine). MachineLeft z n) (sym s.machine_is) k)
      (path-takes m.arrived wsize m sent turn came old next s.machine after had refl some left room s.step)
  machine-takes (machines.Name m) wsize sent turn came old next new after had some left room s = absurd left

  two : 2 ≤ 2
  two = omega arith

  -- a sync, a close or a put
  pub data IsSaver (op : Op) : Type 0 where
    sync : (slot : ℕ) → op ≡ ops.Sync slot → IsSaver op
    close : (slot : ℕ) → op ≡ ops.Close slot → IsSaver op
    put : (path : List (List ℕ)) (offset : ℕ) (bytes : List ℕ) → op ≡ ops.Put path offset bytes → IsSaver op

  pub machine-starts : (m : Mounted) (lane : ℕ) (op : Op) (wsize : ℕ) (turn : Turn) (old : Shelf) (next : Step) (new : Machine) (after : Shelf) → IsSaver op
      → Starts wsize (machine_of m lane op) turn old next new after → StepIs f 2 next (MachineLeft new)
  machine-starts m lane op wsize turn old next new after (sync slot is) s =
      let k = subst (λ (o : Op). Starts wsize (machine_of m lane o) turn old next new after) is s in
      step-over 2 next (SyncLeft f k.step.state) (MachineLeft new) (λ n l. subst (λ (z : Machine). MachineLeft z n) (sym (k.machine_is ∙ ap machines.File k.step.machine_is)) l)
      (sync-starts f (file_at lane slot old.opens) wsize _ turn old next k.step.state after k.step.step)
  machine-starts m lane op wsize turn old next new after (close slot is) s =
      let k = subst (λ (o : Op). Starts wsize (machine_of m lane o) turn old next new after) is s in
      step-over 2 next (CloseLeft f k.step.state) (MachineLeft new) (λ n l. subst (λ (z : Machine). MachineLeft z n) (sym (k.machine_is ∙ ap machines.File k.step.machine_is)) l)
      (close-starts f (file_at lane slot old.opens) wsize _ turn old next k.step.state after k.step.step)
  machine-starts m lane op wsize turn old next new after (put path offset bytes is) s =
      let k = subst (λ (o : Op). Starts wsize (machine_of m lane o) turn old next new after) is s in
      step-over 2 next (MachineLeft (machines.Path k.machine)) (MachineLeft new) (λ n l. subst (λ (z : Machine). MachineLeft z n) (sym k.machine_is) l)
      (path-resumes false wsize (record { walk = walk_of m.root (front_of path); opener = begun_at (turn.moment - 1) (put_of m lane (last_of path) offset bytes); arrived = false }) turn old next k.machine after
      2 refl two k.step)
