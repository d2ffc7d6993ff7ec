-- A call of which an attempt runs or has failed was tried.
use Rattle.std.proofs.Common.{◌≡◌, ◌≤◌, ◌⊎◌, inl, inr, ℕ, suc, List, arith}
use Rattle.world_model.specs.declared.entry.Entry.{Entry}
use Rattle.core_facts.specs.Tries.{FailedTries, one, more, IsRunning}

pub failed-tried : (h : List Entry) (xid n from to : ℕ) → FailedTries h xid n from to → 1 ≤ n
failed-tried h xid _ _ _ (one n from to is a) = omega (arith, is)
failed-tried h xid _ _ _ (more n from to m at is t a) = omega (arith, is)

pub running-tried : (h : List Entry) (xid n from : ℕ) → IsRunning h xid n from → 1 ≤ n
running-tried h xid n from r = by r.failed
  where
    by : ((n ≡ 1) × (r.at ≡ from)) ⊎ ((m : ℕ) × (n ≡ suc m) × FailedTries h xid m from r.at) → 1 ≤ n
    by (inl first) = let is = first.0 in omega (arith, is)
    by (inr t) = let is = t.1 in omega (arith, is)
