use Rattle.std.proofs.Common.{◌≡◌}
use Rattle.open_files.proofs.Walks.{IsLeft}
use Rattle.open_files.proofs.open_files.holds_file.Given as goal

abbrev pub invariant-loop-held : goal.invariant-loop-held
invariant-loop-held l =
    (goal.iterator-loop-held).can_next l.held-iterator ×
    (goal.iterator-loop-held).is_finite l.held-iterator ×
    IsLeft (λ held. held.of.file ≡ l.file) l.opens l.held-iterator
