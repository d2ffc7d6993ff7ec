-- The same of any operation, as it begins, as it goes on, and as it takes what came of its call.
use Rattle.core_session.proofs.Prelude.{◌≡◌, ◌≤◌, ◌<◌, ◌+◌, ◌-◌, ◌⊎◌, inl, inr, ℕ, Bool, true, false, List, [], ◌∷◌, length, replicate, Option, Some, None, Result, Ok, Err, refl, sym, ap, subst, ◌∙◌, arith, Fault, Reply, Op, all_pending, Step, Shelf, Turn, TruncateFile, WriteFile, WalkStep, walk_of, walk-takes-kept, Mounted, FileMachine, Machine, NameMachine, Opener, PathMachine, machine_of, front_of, last_of, file_of, slot_taken, begun_at, Starts, Resumes, Takes, name-goes-kept, name-takes-kept}
use Rattle.op_machines.specs.Begun.{open_of, put_of, path_of, write_of}
use Rattle.op_machines.specs.Openers.{placed}
use Rattle.world_model.specs.declared.answer.Answer.TheVariants as answers
use Rattle.world_model.specs.declared.op.Op.TheVariants as ops
use Rattle.file_ops.specs.declared.close_file.Closing.TheVariants as closings
use Rattle.file_ops.specs.declared.sync_file.Syncing.TheVariants as syncings
use Rattle.file_ops.specs.declared.truncate_file.Truncating.TheVariants as truncatings
use Rattle.file_ops.specs.declared.write_file.Text.{Text}
use Rattle.file_ops.specs.declared.write_file.Text.TheVariants as texts
use Rattle.file_ops.specs.declared.write_file.Writing.TheVariants as writings
use Rattle.file_ops.specs.TruncateFile as truncates
use Rattle.file_ops.specs.WriteFile as writes
use Rattle.name_ops.specs.declared.walk.WalkStep.TheVariants as walks
use Rattle.name_ops.specs.Walking as walking
use Rattle.op_machines.specs.declared.file_machine.FileMachine.TheVariants as files
use Rattle.op_machines.specs.declared.machine.Machine.TheVariants as machines
use Rattle.op_machines.specs.declared.opener.Opener.TheVariants as openers
use Rattle.op_machines.specs.FileSteps as steps
use Rattle.op_machines.specs.PathSteps as paths
use Rattle.core_session.proofs.room.Stages.{Stage, neither, storing, is_room, file_stage, before_stage, path_stage, stage_of, outcome, Verdict, ends, same-verdict, worked-verdict}
use Rattle.core_session.proofs.room.Steps.{write-resumed, write-took, write-started, put-resumed, put-took}
use Rattle.core_session.proofs.room.Totals.{Less, same-less, sync-resumes, sync-takes, sync-starts, close-starts, close-resumes, close-takes}

-- a step from one stage, with what it leads to
abbrev pub Steps : Shelf → Stage → Step → Stage → Shelf → Type 0
Steps old stage next later after = Verdict (all_pending old.back) (all_pending after.back) stage (outcome next later)

-- no more are pending than were, and the stage is the same
kept : (old : Shelf) (stage : Stage) (next : Step) (later : Stage) (after : Shelf) → later ≡ stage → Less old.back after.back → Steps old stage next later after
kept old stage next later after same less = same-verdict (all_pending old.back) (all_pending after.back) stage later next same less

-- with the pending bytes as they are
still : (old : Shelf) (stage : Stage) (next : Step) (later : Stage) (after : Shelf) → later ≡ stage → after.back ≡ old.back → Steps old stage next later after
still old stage next later after same back = kept old stage next later after same (same-less old.back after.back back)

-- the stage is that of this machine
as-file : (old : Shelf) (stage : Stage) (next : Step) (new machine : FileMachine) (after : Shelf) → new ≡ machine → Steps old stage next (file_stage machine) after
    → Steps old stage next (file_stage new) after
as-file old stage next new machine after is v = subst (λ (m : FileMachine). Steps old stage next (file_stage m) after) (sym is) v

module _ (wsize : ℕ) (turn : Turn) where
  begun-back : (found : Result (List ℕ) Fault) (m : TruncateFile) (old : Shelf) → (truncates.begun_shelf found m old).back ≡ old.back
  begun-back (Ok file) m old = refl
  begun-back (Err fault) m old = refl

  -- ---- operations on files

  pub file-resumes : (machine : FileMachine) (old : Shelf) (next : Step) (new : FileMachine) (after : Shelf) → steps.Resumes wsize machine turn old next new after
      → Steps old (file_stage machine) next (file_stage new) after
  file-resumes (files.Open m) old next new after s = still old neither next (file_stage new) after (ap file_stage s.machine_is) (ap (λ (x : Shelf). x.back) s.shelf_is)
  file-resumes (files.Read m) old next new after s = still old neither next (file_stage new) after (ap file_stage s.machine_is) (ap (λ (x : Shelf). x.back) s.others)
  file-resumes (files.Write m) old next new after s =
      as-file old (file_stage (files.Write m)) next new (files.Write (record m { state = s.state })) after s.machine_is
      (worked-verdict (all_pending old.back) (all_pending after.back) (length (writes.text_bytes m.text)) (is_room m.state) next s.state
      (write-resumed m.state wsize m.lane (length (writes.text_bytes m.text)) turn old next s.state after s.step))
  file-resumes (files.Sync m) old next new after s =
      kept old neither next (file_stage new) after (ap file_stage s.machine_is) (sync-resumes wsize turn m.state m old next s.state after s.step)
  file-resumes (files.Close m) old next new after s =
      kept old neither next (file_stage new) after (ap file_stage s.machine_is) (close-resumes wsize turn m.state m old next s.state after s.step)
  file-resumes (files.Truncate m) old next new after s = still old neither next (file_stage new) after (ap file_stage s.machine_is) (ap (λ (x : Shelf). x.back) s.shelf_is)
  file-resumes (files.Put m) old next new after s =
      as-file old (file_stage (files.Put m)) next new (files.Put s.machine) after s.machine_is (put-resumed wsize turn m.state m old next s.machine after refl s.step)

  pub file-takes : (sent : Turn) (came : Result Reply Fault) (machine : FileMachine) (old : Shelf) (next : Step) (new : FileMachine) (after : Shelf)
      → steps.Takes wsize machine sent turn came old next new after → Steps old (file_stage machine) next (file_stage new) after
  file-takes sent came (files.Open m) old next new after s = still old neither next (file_stage new) after (ap file_stage s.machine_is) (ap (λ (x : Shelf). x.back) s.others)
  file-takes sent came (files.Read m) old next new after s = still old neither next (file_stage new) after (ap file_stage s.machine_is) (ap (λ (x : Shelf). x.back) s.others)
  file-takes sent came (files.Write m) old next new after s =
      as-file old (file_stage (files.Write m)) next new (files.Write (record m { state = s.state })) after s.machine_is
      (worked-verdict (all_pending old.back) (all_pending after.back) (length (writes.text_bytes m.text)) (is_room m.state) next s.state
      (write-took m.state wsize m sent turn came old next s.state after s.step))
  file-takes sent came (files.Sync m) old next new after s =
      kept old neither next (file_stage new) after (ap file_stage s.machine_is) (sync-takes wsize turn sent came m.state m old next s.state after s.step)
  file-takes sent came (files.Close m) old next new after s =
      kept old neither next (file_stage new) after (ap file_stage s.machine_is) (close-takes wsize turn sent came m.state m old next s.state after s.step)
  file-takes sent came (files.Truncate m) old next new after s = kept old neither next (file_stage new) after (ap file_stage s.machine_is) s.total
  file-takes sent came (files.Put m) old next new after s =
      as-file old (file_stage (files.Put m)) next new (files.Put s.machine) after s.machine_is (put-took wsize turn m.state m sent came old next s.machine after refl s.step)

  -- ---- an open or a put, before its directory is found

  placed-stage : (dir : List ℕ) (opener : Opener) → file_stage (file_of (placed dir opener)) ≡ before_stage opener
  placed-stage dir (openers.Open m) = refl
  placed-stage dir (openers.Put m) = refl

  path-of : (m : PathMachine) (opener : Opener) (old : Shelf) (stage : Stage) (next : Step) (new : PathMachine) (after : Shelf) → new ≡ record m { opener = opener }
      → Steps old stage next (path_stage m.arrived opener) after → Steps old stage next (path_stage new.arrived new.opener) after
  path-of m opener old stage next new after is v = subst (λ (n : PathMachine). Steps old stage next (path_stage n.arrived n.opener) after) (sym is) v

  follows-path : (step : WalkStep) (m : PathMachine) (old : Shelf) (next : Step) (new : PathMachine) (after : Shelf) → m.arrived ≡ false
      → paths.Follows step wsize m turn old next new after → Steps old (before_stage m.opener) next (path_stage new.arrived new.opener) after
  follows-path (walks.Send call) m old next new after is f =
      still old (before_stage m.opener) next (path_stage new.arrived new.opener) after
      (ap (λ (n : PathMachine). path_stage n.arrived n.opener) f.1 ∙ ap (λ (b : Bool). path_stage b m.opener) is) (ap (λ (x : Shelf). x.back) f.2)
  follows-path walks.Wait m old next new after is f =
      still old (before_stage m.opener) next (path_stage new.arrived new.opener) after
      (ap (λ (n : PathMachine). path_stage n.arrived n.opener) f.1 ∙ ap (λ (b : Bool). path_stage b m.opener) is) (ap (λ (x : Shelf). x.back) f.2)
  follows-path (walks.At dir) m old next new after is f =
      path-of (record m { opener = placed dir m.opener; arrived = true }) f.opener old (before_stage m.opener) next new after f.machine_is
      (subst (λ (s : Stage). Steps old s next (file_stage (file_of f.opener)) after) (placed-stage dir m.opener)
      (file-resumes (file_of (placed dir m.opener)) old next (file_of f.opener) after f.step))
  follows-path (walks.Refused fault) m old next new after is f =
      ends (answers.Refused fault) (same-less old.back after.back (ap (λ (x : Shelf). x.back) f.2))
      (ap (λ (n : Step). outcome n (path_stage new.arrived new.opener)) f.0)

  path-resumes : (b : Bool) (m : PathMachine) (old : Shelf) (next : Step) (new : PathMachine) (after : Shelf) → m.arrived ≡ b
      → paths.PathResumes b wsize m turn old next new after → Steps old (path_stage b m.opener) next (path_stage new.arrived new.opener) after
  path-resumes true m old next new after is r =
      path-of m r.opener old (file_stage (file_of m.opener)) next new after r.machine_is
      (subst (λ (b : Bool). Steps old (file_stage (file_of m.opener)) next (path_stage b r.opener) after) (sym is) (file-resumes (file_of m.opener) old next (file_of r.opener) after r.step))
  path-resumes false m old next new after is r =
      follows-path (walking.go_next m.walk turn old) (record m { walk = walking.go_after m.walk turn old }) (walking.go_shelf m.walk turn old) next new after is r

  path-takes : (b : Bool) (sent : Turn) (came : Result Reply Fault) (m : PathMachine) (old : Shelf) (next : Step) (new : PathMachine) (after : Shelf) → m.arrived ≡ b
      → paths.PathTakes b wsize m sent turn came old next new after → Steps old (path_stage b m.opener) next (path_stage new.arrived new.opener) after
  path-takes true sent came m old next new after is t =
      path-of m t.opener old (file_stage (file_of m.opener)) next new after t.machine_is
      (subst (λ (b : Bool). Steps old (file_stage (file_of m.opener)) next (path_stage b t.opener) after) (sym is)
      (file-takes sent came (file_of m.opener) old next (file_of t.opener) after t.step))
  path-takes false sent came m old next new after is t =
      let back = (walk-takes-kept (walking.waiting_name m.walk) m.walk sent turn came old t.step t.walked.walk t.heard t.takes).back in
      subst (λ (n : ℕ). Verdict n (all_pending after.back) (before_stage m.opener) (outcome next (path_stage new.arrived new.opener))) (ap all_pending back)
      (subst (λ (o : Opener). Steps t.heard (before_stage o) next (path_stage new.arrived new.opener) after) (ap (λ (n : PathMachine). n.opener) t.walked_is)
      (follows-path t.step t.walked t.heard next new after (ap (λ (n : PathMachine). n.arrived) t.walked_is ∙ is) t.follows))

  -- ---- any operation

  pub all-resumes : (machine : Machine) (old : Shelf) (next : Step) (new : Machine) (after : Shelf) → Resumes wsize machine turn old next new after
      → Steps old (stage_of machine) next (stage_of new) after
  all-resumes (machines.File m) old next new after s =
      subst (λ (n : Machine). Steps old (file_stage m) next (stage_of n) after) (sym s.machine_is) (file-resumes m old next s.machine after s.step)
  all-resumes (machines.Path m) old next new after s =
      subst (λ (n : Machine). Steps old (path_stage m.arrived m.opener) next (stage_of n) after) (sym s.machine_is) (path-resumes m.arrived m old next s.machine after refl s.step)
  all-resumes (machines.Name m) old next new after s =
      still old neither next (stage_of new) after (ap stage_of s.machine_is) (name-goes-kept m turn old next s.machine after s.step).back

  pub all-takes : (sent : Turn) (came : Result Reply Fault) (machine : Machine) (old : Shelf) (next : Step) (new : Machine) (after : Shelf)
      → Takes wsize machine sent turn came old next new after → Steps old (stage_of machine) next (stage_of new) after
  all-takes sent came (machines.File m) old next new after t =
      subst (λ (n : Machine). Steps old (file_stage m) next (stage_of n) after) (sym t.machine_is) (file-takes sent came m old next t.machine after t.step)
  all-takes sent came (machines.Path m) old next new after t =
      subst (λ (n : Machine). Steps old (path_stage m.arrived m.opener) next (stage_of n) after) (sym t.machine_is)
      (path-takes m.arrived sent came m old next t.machine after refl t.step)
  all-takes sent came (machines.Name m) old next new after t =
      still old neither next (stage_of new) after (ap stage_of t.machine_is) (name-takes-kept m sent turn came old next t.machine after t.step).back

  -- ---- as an operation begins

  name-starts : (m : NameMachine) (old : Shelf) (next : Step) (new : Machine) (after : Shelf) → Starts wsize (machines.Name m) turn old next new after
      → Steps old neither next (stage_of new) after
  name-starts m old next new after s = all-resumes (machines.Name m) old next new after s

  abbrev writing : ℕ → ℕ → ℕ → Text → WriteFile
  writing lane slot offset text = record { lane = lane; slot = slot; offset = offset; text = text; state = writings.Idle }

  write-begins : (lane slot offset : ℕ) (text : Text) (old : Shelf) (next : Step) (new : Machine) (after : Shelf)
      → Starts wsize (write_of lane slot offset text) turn old next new after → Steps old (storing (length (writes.text_bytes text)) false) next (stage_of new) after
  write-begins lane slot offset text old next new after s =
      subst (λ (n : Machine). Steps old (storing (length (writes.text_bytes text)) false) next (stage_of n) after) (sym s.machine_is)
      (as-file old (storing (length (writes.text_bytes text)) false) next s.machine (files.Write s.step.machine) after s.step.machine_is
      (write-started wsize (writing lane slot offset text) turn old next s.step.machine after s.step.step))

  abbrev on-path : Mounted → List (List ℕ) → Opener → PathMachine
  on-path m path opener = record { walk = walk_of m.root (front_of path); opener = opener; arrived = false }

  path-begins : (m : Mounted) (path : List (List ℕ)) (opener : Opener) (old : Shelf) (next : Step) (new : Machine) (after : Shelf)
      → Starts wsize (path_of m path opener) turn old next new after → before_stage (begun_at (turn.moment - 1) opener) ≡ before_stage opener
      → Steps old (before_stage opener) next (stage_of new) after
  path-begins m path opener old next new after s same =
      subst (λ (n : Machine). Steps old (before_stage opener) next (stage_of n) after) (sym s.machine_is) (by (slot_taken opener old.opens) s.step)
    where
      by : (b : Bool) → paths.StartsIf b wsize (on-path m path opener) turn old next s.machine after
          → Steps old (before_stage opener) next (path_stage s.machine.arrived s.machine.opener) after
      by true f =
          still old (before_stage opener) next (path_stage s.machine.arrived s.machine.opener) after (ap (λ (n : PathMachine). path_stage n.arrived n.opener) f.1)
          (ap (λ (x : Shelf). x.back) f.2)
      by false f =
          subst (λ (t : Stage). Steps old t next (path_stage s.machine.arrived s.machine.opener) after) same
          (path-resumes false (record (on-path m path opener) { opener = begun_at (turn.moment - 1) opener }) old next s.machine after refl f)

  pub all-starts : (m : Mounted) (lane : ℕ) (op : Op) (old : Shelf) (next : Step) (new : Machine) (after : Shelf) → Starts wsize (machine_of m lane op) turn old next new after
      → Steps old (stage_of (machine_of m lane op)) next (stage_of new) after
  all-starts m lane (ops.OpenFile slot mode path) old next new after s = path-begins m path (open_of m lane slot mode (last_of path)) old next new after s refl
  all-starts m lane (ops.Read slot offset count) old next new after s =
      still old neither next (stage_of new) after (ap stage_of s.machine_is ∙ ap file_stage s.step.machine_is) (ap (λ (x : Shelf). x.back) s.step.others)
  all-starts m lane (ops.Write slot offset bytes) old next new after s = write-begins lane slot offset (texts.Given bytes) old next new after s
  all-starts m lane (ops.Fill slot offset count byte) old next new after s = write-begins lane slot offset (texts.Fill count byte) old next new after s
  all-starts m lane (ops.Put path offset bytes) old next new after s = path-begins m path (put_of m lane (last_of path) offset bytes) old next new after s refl
  all-starts m lane (ops.Sync slot) old next new after s =
      kept old neither next (stage_of new) after (ap stage_of s.machine_is ∙ ap file_stage s.step.machine_is)
      (sync-starts wsize turn (record { lane = lane; slot = slot; state = syncings.Idle }) old next s.step.state after s.step.step)
  all-starts m lane (ops.Close slot) old next new after s =
      kept old neither next (stage_of new) after (ap stage_of s.machine_is ∙ ap file_stage s.step.machine_is)
      (close-starts wsize turn (record { lane = lane; slot = slot; state = closings.Idle }) old next s.step.state after s.step.step)
  all-starts m lane (ops.Truncate slot size) old next new after s =
      let machine : TruncateFile = record { lane = lane; slot = slot; size = size; state = truncatings.Idle } in
      still old neither next (stage_of new) after (ap stage_of s.machine_is ∙ ap file_stage s.step.machine_is)
      (ap (λ (x : Shelf). x.back) s.step.shelf_is ∙ begun-back (truncates.found_file machine old) machine old)
  all-starts m lane (ops.Stat path) old next new after s = name-starts _ old next new after s
  all-starts m lane (ops.Access path bits) old next new after s = name-starts _ old next new after s
  all-starts m lane (ops.MakeDir path) old next new after s = name-starts _ old next new after s
  all-starts m lane (ops.RemoveDir path) old next new after s = name-starts _ old next new after s
  all-starts m lane (ops.Remove path) old next new after s = name-starts _ old next new after s
  all-starts m lane (ops.Rename from to) old next new after s = name-starts _ old next new after s
  all-starts m lane (ops.Link from to) old next new after s = name-starts _ old next new after s
  all-starts m lane (ops.SymLink path target) old next new after s = name-starts _ old next new after s
  all-starts m lane (ops.ReadLink path) old next new after s = name-starts _ old next new after s
  all-starts m lane (ops.List path) old next new after s = name-starts _ old next new after s
