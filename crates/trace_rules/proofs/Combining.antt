-- What decides facts that hold, that can't hold, and that follow from others.
use Rattle.std.proofs.Common.{Bool, true, false, true≢false, refl, sym}
use Rattle.std.specs.Prelude.{Decides, ◌||◌, not}
use Rattle.std.proofs.lemmas.Bool.Decides.{not_from_Decides}

-- a fact that holds
pub always : {P : Type 0} → P → Decides true P
always p = (λ _. p, λ _. refl)

-- a fact that can't hold
pub never : {P : Type 0} → (P → ⊥) → Decides false P
never n = (λ t. absurd (true≢false (sym t)), λ p. absurd (n p))

-- from a fact on, where both are decided
pub given : {P Q : Type 0} → (a b : Bool) → Decides a P → Decides b Q → Decides (not a || b) (P → Q)
given true b p q = (λ t _. q.0 t, λ k. q.1 (k (p.0 refl)))
given false b p q = (λ _ x. absurd (not_from_Decides false p refl x), λ _. refl)
