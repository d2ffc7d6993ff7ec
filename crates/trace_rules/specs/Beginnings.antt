-- The beginnings of a history, and the first that breaks a rule.
use Rattle.std.specs.Prelude.{◌≡◌, ◌<◌, ◌≤◌, ℕ, Bool, true, false, length, take}
use Rattle.world_model.specs.History.{History}
use Rattle.world_model.specs.Once.{Once}
use Rattle.trace_rules.specs.Decided.{all_below}

-- the first n entries, and the server at each moment
abbrev pub beginning : History → ℕ → History
beginning h n = record { entries = take n h.entries; at = h.at }

-- the first n entries break the rule, and no fewer do
pub record BreaksAt (rule : History → Type 0) (h : History) (n : ℕ) : Type 0 where
  pub within : n ≤ length h.entries
  pub breaks : rule (beginning h n) → ⊥
  pub least : (m : ℕ) → m < n → rule (beginning h m)

-- a rule on the entries alone
abbrev pub OnceOf : History → Type 0
OnceOf h = Once h.entries

-- the test fails at k, which is below n, and at no number before
pub record FailsAt (test : ℕ → Bool) (n k : ℕ) : Type 0 where
  pub below : k < n
  pub fails : test k ≡ false
  pub passes : all_below test k ≡ true
