-- A step of a walk leaves what the next step of its operation needs.
use Rattle.std.proofs.Common.{◌≡◌, ◌<◌, ◌+◌, ℕ, sym, subst}
use Rattle.write_back.specs.Files.{Pending, IsNewest}
use Rattle.client_shelf.specs.declared.shelf.Shelf.{Shelf}
use Rattle.client_shelf.specs.declared.turn.Turn.{Turn}
use Rattle.file_ops.specs.SlotFiles.{IsUnused}
use Rattle.name_ops.proofs.Keeps.{IsKept}
use Rattle.op_machines.specs.MayStep.{MayStep}

pub may-kept : (wsize : ℕ) (turn : Turn) (old new : Shelf) → MayStep wsize turn old → IsKept old new → MayStep wsize turn new
may-kept wsize turn old new may k = record {
  size = may.size;
  newest = subst (λ (n : ℕ). IsNewest (n + 1) new.back) (sym k.seq) (subst (λ (p : Pending). IsNewest (old.seq + 1) p) (sym k.back) may.newest);
  free = subst (λ (p : Pending). IsUnused turn.xid p) (sym k.back) may.free;
  seq = subst (λ (n : ℕ). n < turn.moment) (sym k.seq) may.seq;
  moment = may.moment;
}
