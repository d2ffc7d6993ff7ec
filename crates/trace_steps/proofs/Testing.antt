-- What decides facts that hold of all but some, and facts of options.
use Rattle.std.proofs.Common.{Bool, true, false, refl}
use Rattle.std.specs.Prelude.{Decides, ◌||◌, nat_le, ◌≤◌, ℕ}
use Rattle.std.proofs.lemmas.Bool.{leb-true, le-leb}
use Rattle.std.proofs.lemmas.Bool.Decides.{not_from_Decides}

-- a fact of all that some other fact doesn't hold of
pub without : {P Q : Type 0} → (a b : Bool) → Decides a P → Decides b Q → Decides (a || b) ((P → ⊥) → Q)
without true b p q = (λ t n. absurd (n (p.0 refl)), λ k. refl)
without false b p q = (λ t n. q.0 t, λ k. q.1 (k (λ x. not_from_Decides false p refl x)))

pub le-decides : (a b : ℕ) → Decides (nat_le a b) (a ≤ b)
le-decides a b = (leb-true a b, le-leb a b)
