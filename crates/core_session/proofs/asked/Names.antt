-- The call for which an operation waits that makes room is WRITE or COMMIT of the file that it saves.
use Rattle.core_session.proofs.Prelude.{◌≡◌, ◌≤◌, ℕ, true, List, subst, arith, Call, PutFile, Putting, WriteFile, Writing, Walk, Machine, of_writing, of_putting, in_flight, Names, WriteNames, StateNames, Saves}
use Rattle.file_ops.specs.declared.put_file.Putting.TheVariants as puttings
use Rattle.file_ops.specs.declared.write_file.Writing.TheVariants as writings
use Rattle.op_machines.specs.declared.file_machine.FileMachine.TheVariants as files
use Rattle.op_machines.specs.declared.machine.Machine.TheVariants as machines
use Rattle.op_machines.specs.declared.opener.Opener.TheVariants as openers
use Rattle.core_session.proofs.asked.Seeks.{WriteSeeks, PutSeeks, Seeks}

module _ (N : List ℕ → Type 0) (call : Call) where
  -- it is WRITE or COMMIT of a file of which N holds
  pub record Sought : Type 0 where
    pub f : List ℕ
    pub known : N f
    pub saves : Saves f call

  room-sought : (w : Writing) → WriteSeeks N w → WriteNames w call → 1 ≤ of_writing w → Sought
  room-sought writings.Idle k e some = absurd (omega (arith, some))
  room-sought (writings.Room file saving) k e some = record { f = saving.file; known = k; saves = e }

  pub write-sought : (machine : Machine) (m : WriteFile) → machine ≡ machines.File (files.Write m) → Seeks N machine → Names machine call → 1 ≤ in_flight machine → Sought
  write-sought machine m is k e some =
      room-sought m.state (subst (Seeks N) is k) (subst (λ (n : Machine). Names n call) is e) (subst (λ (n : Machine). 1 ≤ in_flight n) is some)

  adds-sought : (p : Putting) (o : _) (w : Writing) (file : List ℕ) → p ≡ puttings.Adds file → PutSeeks N p w → StateNames p w call → 1 ≤ of_putting p o w → Sought
  adds-sought p o w file is k e some =
      room-sought w (subst (λ (q : Putting). PutSeeks N q w) is k) (subst (λ (q : Putting). StateNames q w call) is e) (subst (λ (q : Putting). 1 ≤ of_putting q o w) is some)

  pub put-sought : (machine : Machine) (walk : Walk) (p : PutFile) (file : List ℕ) → machine ≡ machines.Path (record { walk = walk; opener = openers.Put p; arrived = true }) → p.state ≡ puttings.Adds file
      → Seeks N machine → Names machine call → 1 ≤ in_flight machine → Sought
  put-sought machine walk p file is adds k e some =
      adds-sought p.state p.opening p.write.state file adds (subst (Seeks N) is k) (subst (λ (n : Machine). Names n call) is e) (subst (λ (n : Machine). 1 ≤ in_flight n) is some)
