use Rattle.open_files.specs.Held.{IsAt}
use Rattle.open_files.proofs.Walks.{IsLeft}
use Rattle.open_files.proofs.open_files.key_at.Given as goal

abbrev pub invariant-loop-key : goal.invariant-loop-key
invariant-loop-key l =
    (goal.iterator-loop-key).can_next l.key-iterator ×
    (goal.iterator-loop-key).is_finite l.key-iterator ×
    IsLeft (IsAt (l.lane, l.slot)) l.opens l.key-iterator
