-- A put that has no save of its own yet goes on as a write does: its bytes aren't there.
use Rattle.core_session.proofs.Prelude.{◌≡◌, ℕ, Bool, true, false, List, Some, None, arith, Pending, LaneFile, PutFile, Putting, Writing, FileMachine, Machine, Opener, file_of}
use Rattle.file_ops.specs.declared.put_file.Putting.TheVariants as putting
use Rattle.file_ops.specs.declared.write_file.Writing.TheVariants as writing
use Rattle.file_ops.specs.WriteFile as writes
use Rattle.op_machines.specs.declared.file_machine.FileMachine.TheVariants as files
use Rattle.op_machines.specs.declared.machine.Machine.TheVariants as machines
use Rattle.core_session.proofs.syncs.AllJobs.{PathHas, JobHas}
use Rattle.core_session.proofs.syncs.Fates.{WritePart, file_kind, job_kind}
use Rattle.core_session.proofs.syncs.Fates as fates
use Rattle.core_session.proofs.syncs.Jobs.{Job, RoomHas, PutHas, FileHas}
use Rattle.core_session.proofs.syncs.PutGoes.{put_own, file_own, path_own, own_save}

module _ (j : Job) (q : ℕ) (b : Pending) (o : List LaneFile) where
  room-part : (A : List ℕ → ℕ → List ℕ → Type 0) (offset : ℕ) (bytes : List ℕ) (w : Writing) → RoomHas j.P j.K A offset bytes w q b o → WritePart j q b o
  room-part A offset bytes writing.Idle h = fates.before h
  room-part A offset bytes (writing.Room file s) h = fates.in_room s h.0

  at-part : (m : PutFile) (at : Putting) → put_own at ≡ None → PutHas j.P j.K j.KA j.A m at q b o → WritePart j q b o
  at-part m putting.Idle none h = fates.before h
  at-part m putting.Opens none h = fates.before h
  at-part m (putting.Adds file) none h = room-part (λ g n bs. j.A g n bs × (g ≡ file)) m.write.offset (writes.made_bytes m.write.text) m.write.state h
  at-part m (putting.Saves s) none h = absurd (let no_way : Some s ≡ None = none in cc)

  file-part : (m : FileMachine) → file_kind m ≡ 3 → file_own m ≡ None → FileHas j m q b o → WritePart j q b o
  file-part (files.Open m) is none h = absurd (omega (arith, is))
  file-part (files.Read m) is none h = absurd (omega (arith, is))
  file-part (files.Write m) is none h = absurd (omega (arith, is))
  file-part (files.Sync m) is none h = absurd (omega (arith, is))
  file-part (files.Close m) is none h = absurd (omega (arith, is))
  file-part (files.Truncate m) is none h = absurd (omega (arith, is))
  file-part (files.Put m) is none h = at-part m m.state none h

  path-part : (there : Bool) (m : Opener) → file_kind (file_of m) ≡ 3 → path_own there m ≡ None → PathHas j there m q b o → WritePart j q b o
  path-part true m is none h = file-part (file_of m) is none h
  path-part false m is none h = fates.before h

  pub put-part : (m : Machine) → job_kind m ≡ 3 → own_save m ≡ None → JobHas j m q b o → WritePart j q b o
  put-part (machines.File m) is none h = file-part m is none h
  put-part (machines.Path m) is none h = path-part m.arrived m.opener is none h
  put-part (machines.Name m) is none h = fates.before h
