use Rattle.std.proofs.Common.{refl, sym}
use Rattle.open_files.proofs.Kept.{none_at, remove-absent, told_last, found_there, closed_there}
use Rattle.open_files.proofs.open_files.OpenFiles.close.Goals as goal

pub returns-in_err-key-clause-none : goal.returns-in_err-key-clause-none
returns-in_err-key-clause-none c = rw c.from_residual.ensures (rw (← c.self.view_is) (none_at c.self.inside.opens _ c.in_err-key.ensures), refl)

pub returns-in_err-key-clause-after : goal.returns-in_err-key-clause-after
returns-in_err-key-clause-after c = remove-absent _ _ (rw (← c.self.view_is) (none_at c.self.inside.opens _ c.in_err-key.ensures))

pub returns-clause-last : goal.returns-clause-last
returns-clause-last c = record {
  of = c.in_ok-held.held.of;
  there = rw (← c.self.view_is) (found_there c.self.inside.opens c.self.invariant _ _ c.in_ok-held.held c.in_ok-key.ensures (sym c.in_ok-held.ensures.value));
  told = told_last _ _ c.is_open.ensures;
}

pub returns-clause-after : goal.returns-clause-after
returns-clause-after c = rw (← c.self.view_is) (closed_there c.self.inside.opens c.try_remove.new.self _ c.in_ok-held.held _ c.self.invariant c.in_ok-key.ensures (sym c.in_ok-held.ensures.value) c.in_ok-held.ensures.updates)
