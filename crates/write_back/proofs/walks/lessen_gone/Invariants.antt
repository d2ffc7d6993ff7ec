use Rattle.std.proofs.Common.{◌≡◌, ◌-◌, ◌≤◌, ℕ, List}
use Rattle.write_back.specs.Ages.{kept_by, gone_by}
use Rattle.write_back.proofs.walks.lessen_gone.Given as goal

abbrev pub invariant-loop-at : goal.invariant-loop-at
invariant-loop-at l = record {
  within : l.next ≤ l.high;
  left : (file : List ℕ) (n : ℕ) → kept_by l.ages file n - gone_by l.change l.next l.high n l.map ≡ kept_by l.fn.ages file n - gone_by l.change l.low l.high n l.map;
}

abbrev pub decreases-loop-at : goal.decreases-loop-at
decreases-loop-at l = l.high - l.next
