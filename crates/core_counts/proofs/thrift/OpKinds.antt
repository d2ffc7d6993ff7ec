-- Operations by how they begin: those that change no file's bytes, those that store bytes or sizes, and puts.
use Rattle.core_counts.proofs.Prelude.{◌≡◌, ℕ, false, refl, Op, PutFile, Mounted, FileMachine, PathMachine, machine_of}
use Rattle.world_model.specs.declared.op.Op.TheVariants as ops
use Rattle.op_machines.specs.declared.machine.Machine.TheVariants as machines
use Rattle.op_machines.specs.declared.opener.Opener.TheVariants as openers
use Rattle.core_counts.proofs.thrift.Savers.{Stores}

-- an open, a read, or an operation on names
abbrev pub OnlyReads : Op → Type 0
OnlyReads (ops.Write slot offset bytes) = ⊥
OnlyReads (ops.Fill slot offset count byte) = ⊥
OnlyReads (ops.Put path offset bytes) = ⊥
OnlyReads (ops.Sync slot) = ⊥
OnlyReads (ops.Close slot) = ⊥
OnlyReads (ops.Truncate slot size) = ⊥
OnlyReads op = Unit {0}

pub data OpKind (m : Mounted) (lane : ℕ) (op : Op) : Type 0 where
  reads : OnlyReads op → OpKind m lane op
  stores : (file : FileMachine) → machine_of m lane op ≡ machines.File file → Stores file → OpKind m lane op
  puts : (path : PathMachine) (put : PutFile) → machine_of m lane op ≡ machines.Path path → path.opener ≡ openers.Put put → path.arrived ≡ false → OpKind m lane op

pub op-kind : (m : Mounted) (lane : ℕ) (op : Op) → OpKind m lane op
op-kind m lane (ops.OpenFile slot mode path) = reads tt
op-kind m lane (ops.Read slot offset count) = reads tt
op-kind m lane (ops.Write slot offset bytes) = stores _ refl tt
op-kind m lane (ops.Fill slot offset count byte) = stores _ refl tt
op-kind m lane (ops.Put path offset bytes) = puts _ _ refl refl refl
op-kind m lane (ops.Sync slot) = stores _ refl tt
op-kind m lane (ops.Close slot) = stores _ refl tt
op-kind m lane (ops.Truncate slot size) = stores _ refl tt
op-kind m lane (ops.Stat path) = reads tt
op-kind m lane (ops.Access path bits) = reads tt
op-kind m lane (ops.MakeDir path) = reads tt
op-kind m lane (ops.RemoveDir path) = reads tt
op-kind m lane (ops.Remove path) = reads tt
op-kind m lane (ops.Rename from to) = reads tt
op-kind m lane (ops.Link from to) = reads tt
op-kind m lane (ops.SymLink path target) = reads tt
op-kind m lane (ops.ReadLink path) = reads tt
op-kind m lane (ops.List path) = reads tt
