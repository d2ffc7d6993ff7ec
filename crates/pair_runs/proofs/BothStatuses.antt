-- The status of a run by those of its two clients.
use Rattle.std.proofs.Common.{◌≡◌, inl, inr, ℕ, arith}
use Rattle.std.specs.Prelude.{max}
use Rattle.lane_session.specs.Statuses.{IsSessionStatus}

pub both-status : (n a b : ℕ) → n ≡ max a b → IsSessionStatus a → IsSessionStatus b → IsSessionStatus n
both-status n a b is (inl x) (inl y) = inl (omega (arith, is, x, y))
both-status n a b is (inl x) (inr (inl y)) = inr (inl (omega (arith, is, x, y)))
both-status n a b is (inl x) (inr (inr y)) = inr (inr (omega (arith, is, x, y)))
both-status n a b is (inr (inl x)) (inl y) = inr (inl (omega (arith, is, x, y)))
both-status n a b is (inr (inl x)) (inr (inl y)) = inr (inl (omega (arith, is, x, y)))
both-status n a b is (inr (inl x)) (inr (inr y)) = inr (inr (omega (arith, is, x, y)))
both-status n a b is (inr (inr x)) (inl y) = inr (inr (omega (arith, is, x, y)))
both-status n a b is (inr (inr x)) (inr (inl y)) = inr (inr (omega (arith, is, x, y)))
both-status n a b is (inr (inr x)) (inr (inr y)) = inr (inr (omega (arith, is, x, y)))
