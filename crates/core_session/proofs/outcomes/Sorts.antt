-- A machine goes on as one that opens a file, one that lists, or neither.
use Rattle.core_session.proofs.Prelude.{◌≡◌, ℕ, Result, subst, Fault, Reply, Op, Step, Shelf, Turn, Mounted, FileMachine, Machine, NameMachine, machine_of, Starts, Resumes, Takes}
use Rattle.world_model.specs.declared.op.Op.TheVariants as ops
use Rattle.op_machines.specs.declared.file_machine.FileMachine.TheVariants as files
use Rattle.op_machines.specs.declared.machine.Machine.TheVariants as machines
use Rattle.op_machines.specs.declared.name_machine.NameMachine.TheVariants as names
use Rattle.op_machines.specs.FileSteps as file_steps
use Rattle.op_machines.specs.NameSteps as name_steps
use Rattle.core_answers.proofs.refusals.Fitting.{OpensFile, IsOpener, ListsNames, IsLister}
use Rattle.core_session.specs.outcomes.Refusals.{WantsFile, IsList}

-- the new one opens or lists only where the old one did
pub record StaysSo (old new : Machine) : Type 0 where
  pub opener : IsOpener new → IsOpener old
  pub lister : IsLister new → IsLister old

-- ---- operations on files

file-starts : (m : FileMachine) (wsize : ℕ) (turn : Turn) (old : Shelf) (next : Step) (new : FileMachine) (after : Shelf) → file_steps.Starts wsize m turn old next new after → OpensFile new
    → OpensFile m
file-starts (files.Open m) wsize turn old next new after s o = tt
file-starts (files.Put m) wsize turn old next new after s o = tt
file-starts (files.Read m) wsize turn old next new after s o = subst OpensFile s.machine_is o
file-starts (files.Write m) wsize turn old next new after s o = subst OpensFile s.machine_is o
file-starts (files.Sync m) wsize turn old next new after s o = subst OpensFile s.machine_is o
file-starts (files.Close m) wsize turn old next new after s o = subst OpensFile s.machine_is o
file-starts (files.Truncate m) wsize turn old next new after s o = subst OpensFile s.machine_is o

file-resumes : (m : FileMachine) (wsize : ℕ) (turn : Turn) (old : Shelf) (next : Step) (new : FileMachine) (after : Shelf) → file_steps.Resumes wsize m turn old next new after → OpensFile new
    → OpensFile m
file-resumes (files.Open m) wsize turn old next new after s o = tt
file-resumes (files.Put m) wsize turn old next new after s o = tt
file-resumes (files.Read m) wsize turn old next new after s o = subst OpensFile s.machine_is o
file-resumes (files.Write m) wsize turn old next new after s o = subst OpensFile s.machine_is o
file-resumes (files.Sync m) wsize turn old next new after s o = subst OpensFile s.machine_is o
file-resumes (files.Close m) wsize turn old next new after s o = subst OpensFile s.machine_is o
file-resumes (files.Truncate m) wsize turn old next new after s o = subst OpensFile s.machine_is o

file-takes : (m : FileMachine) (wsize : ℕ) (sent turn : Turn) (came : Result Reply Fault) (old : Shelf) (next : Step) (new : FileMachine) (after : Shelf)
    → file_steps.Takes wsize m sent turn came old next new after → OpensFile new → OpensFile m
file-takes (files.Open m) wsize sent turn came old next new after s o = tt
file-takes (files.Put m) wsize sent turn came old next new after s o = tt
file-takes (files.Read m) wsize sent turn came old next new after s o = subst OpensFile s.machine_is o
file-takes (files.Write m) wsize sent turn came old next new after s o = subst OpensFile s.machine_is o
file-takes (files.Sync m) wsize sent turn came old next new after s o = subst OpensFile s.machine_is o
file-takes (files.Close m) wsize sent turn came old next new after s o = subst OpensFile s.machine_is o
file-takes (files.Truncate m) wsize sent turn came old next new after s o = subst OpensFile s.machine_is o

-- ---- operations on names

name-goes : (m : NameMachine) (turn : Turn) (old : Shelf) (next : Step) (new : NameMachine) (after : Shelf) → name_steps.NameGoes m turn old next new after → ListsNames new → ListsNames m
name-goes (names.Change m) turn old next new after s l = subst ListsNames s.machine_is l
name-goes (names.Stat m) turn old next new after s l = subst ListsNames s.machine_is l
name-goes (names.Access m) turn old next new after s l = subst ListsNames s.machine_is l
name-goes (names.ReadLink m) turn old next new after s l = subst ListsNames s.machine_is l
name-goes (names.Remove m) turn old next new after s l = subst ListsNames s.machine_is l
name-goes (names.Rename m) turn old next new after s l = subst ListsNames s.machine_is l
name-goes (names.Link m) turn old next new after s l = subst ListsNames s.machine_is l
name-goes (names.SymLink m) turn old next new after s l = subst ListsNames s.machine_is l
name-goes (names.List m) turn old next new after s l = tt

name-takes : (m : NameMachine) (sent turn : Turn) (came : Result Reply Fault) (old : Shelf) (next : Step) (new : NameMachine) (after : Shelf)
    → name_steps.NameTakes m sent turn came old next new after → ListsNames new → ListsNames m
name-takes (names.Change m) sent turn came old next new after s l = subst ListsNames s.machine_is l
name-takes (names.Stat m) sent turn came old next new after s l = subst ListsNames s.machine_is l
name-takes (names.Access m) sent turn came old next new after s l = subst ListsNames s.machine_is l
name-takes (names.ReadLink m) sent turn came old next new after s l = subst ListsNames s.machine_is l
name-takes (names.Remove m) sent turn came old next new after s l = subst ListsNames s.machine_is l
name-takes (names.Rename m) sent turn came old next new after s l = subst ListsNames s.machine_is l
name-takes (names.Link m) sent turn came old next new after s l = subst ListsNames s.machine_is l
name-takes (names.SymLink m) sent turn came old next new after s l = subst ListsNames s.machine_is l
name-takes (names.List m) sent turn came old next new after s l = tt

-- ---- any operation

file-stays : (m to : FileMachine) (new : Machine) → new ≡ machines.File to → (OpensFile to → OpensFile m) → StaysSo (machines.File m) new
file-stays m to new is opens = record { opener = λ o. opens (subst IsOpener is o); lister = λ l. subst IsLister is l }

path-stays : (m to : _) (new : Machine) → new ≡ machines.Path to → StaysSo (machines.Path m) new
path-stays m to new is = record { opener = λ o. tt; lister = λ l. subst IsLister is l }

name-stays : (m to : NameMachine) (new : Machine) → new ≡ machines.Name to → (ListsNames to → ListsNames m) → StaysSo (machines.Name m) new
name-stays m to new is lists = record { opener = λ o. subst IsOpener is o; lister = λ l. lists (subst IsLister is l) }

pub starts-so : (m : Machine) (wsize : ℕ) (turn : Turn) (old : Shelf) (next : Step) (new : Machine) (after : Shelf) → Starts wsize m turn old next new after → StaysSo m new
starts-so (machines.File m) wsize turn old next new after s = file-stays m s.machine new s.machine_is (file-starts m wsize turn old next s.machine after s.step)
starts-so (machines.Path m) wsize turn old next new after s = path-stays m s.machine new s.machine_is
starts-so (machines.Name m) wsize turn old next new after s = name-stays m s.machine new s.machine_is (name-goes m turn old next s.machine after s.step)

pub resumes-so : (m : Machine) (wsize : ℕ) (turn : Turn) (old : Shelf) (next : Step) (new : Machine) (after : Shelf) → Resumes wsize m turn old next new after → StaysSo m new
resumes-so (machines.File m) wsize turn old next new after s = file-stays m s.machine new s.machine_is (file-resumes m wsize turn old next s.machine after s.step)
resumes-so (machines.Path m) wsize turn old next new after s = path-stays m s.machine new s.machine_is
resumes-so (machines.Name m) wsize turn old next new after s = name-stays m s.machine new s.machine_is (name-goes m turn old next s.machine after s.step)

pub takes-so : (m : Machine) (wsize : ℕ) (sent turn : Turn) (came : Result Reply Fault) (old : Shelf) (next : Step) (new : Machine) (after : Shelf)
    → Takes wsize m sent turn came old next new after → StaysSo m new
takes-so (machines.File m) wsize sent turn came old next new after s = file-stays m s.machine new s.machine_is (file-takes m wsize sent turn came old next s.machine after s.step)
takes-so (machines.Path m) wsize sent turn came old next new after s = path-stays m s.machine new s.machine_is
takes-so (machines.Name m) wsize sent turn came old next new after s = name-stays m s.machine new s.machine_is (name-takes m sent turn came old next s.machine after s.step)

-- a machine as its operation wants it
pub record IsSort (op : Op) (machine : Machine) : Type 0 where
  pub opener : IsOpener machine → WantsFile op
  pub lister : IsLister machine → IsList op

pub sort-on : (op : Op) (old new : Machine) → StaysSo old new → IsSort op old → IsSort op new
sort-on op old new s k = record { opener = λ o. k.opener (s.opener o); lister = λ l. k.lister (s.lister l) }

pub begins-sort : (m : Mounted) (lane : ℕ) (op : Op) → IsSort op (machine_of m lane op)
begins-sort m lane (ops.OpenFile slot mode path) = record { opener = λ o. tt; lister = λ l. l }
begins-sort m lane (ops.Read slot offset count) = record { opener = λ o. o; lister = λ l. l }
begins-sort m lane (ops.Write slot offset bytes) = record { opener = λ o. o; lister = λ l. l }
begins-sort m lane (ops.Fill slot offset count byte) = record { opener = λ o. o; lister = λ l. l }
begins-sort m lane (ops.Put path offset bytes) = record { opener = λ o. tt; lister = λ l. l }
begins-sort m lane (ops.Sync slot) = record { opener = λ o. o; lister = λ l. l }
begins-sort m lane (ops.Close slot) = record { opener = λ o. o; lister = λ l. l }
begins-sort m lane (ops.Truncate slot size) = record { opener = λ o. o; lister = λ l. l }
begins-sort m lane (ops.Stat path) = record { opener = λ o. o; lister = λ l. l }
begins-sort m lane (ops.Access path bits) = record { opener = λ o. o; lister = λ l. l }
begins-sort m lane (ops.MakeDir path) = record { opener = λ o. o; lister = λ l. l }
begins-sort m lane (ops.RemoveDir path) = record { opener = λ o. o; lister = λ l. l }
begins-sort m lane (ops.Remove path) = record { opener = λ o. o; lister = λ l. l }
begins-sort m lane (ops.Rename from to) = record { opener = λ o. o; lister = λ l. l }
begins-sort m lane (ops.Link from to) = record { opener = λ o. o; lister = λ l. l }
begins-sort m lane (ops.SymLink path target) = record { opener = λ o. o; lister = λ l. l }
begins-sort m lane (ops.ReadLink path) = record { opener = λ o. o; lister = λ l. l }
begins-sort m lane (ops.List path) = record { opener = λ o. o; lister = λ l. tt }
