-- Places among entries that are joined.
use Rattle.std.proofs.Common.{inl, inr, ◌≡◌, ◌≤◌, ◌<◌, ◌+◌, ◌-◌, ◌⊎◌, ℕ, zero, suc, List, [], ◌∷◌, ◌++◌, length, Some, refl, sym, ap, subst, ◌∙◌, append_assoc, arith}
use Rattle.std.proofs.lemmas.List.{length-append}
use Rattle.std.proofs.lemmas.Bool.{cases_lt}
use Rattle.world_model.specs.declared.entry.Entry.{Entry}
use Rattle.world_model.specs.declared.entry.Entry.TheVariants.{Dialed, Sent, Delivered, Failed}
use Rattle.world_model.specs.Entries.{At}
use Rattle.world_model.specs.Messages.{HasXid}
use Rattle.world_model.proofs.Places.{At-grow, At-back, At-below}
use Rattle.port_finder.specs.Found.{IsSentElse, NoneSent, CameElse, NoneCame}

-- the entry right behind others
pub at_end : (xs ys : List Entry) (e : Entry) → At (xs ++ e ∷ ys) (length xs) e
at_end [] ys e = refl
at_end (x ∷ xs) ys e = at_end xs ys e

-- an entry behind others, at that place among the later ones
pub at_behind : (xs ys : List Entry) (i : ℕ) (e : Entry) → At ys i e → At (xs ++ ys) (length xs + i) e
at_behind [] ys i e at = let same : i ≡ 0 + i = omega arith in subst (λ (n : ℕ). At ys n e) same at
at_behind (x ∷ xs) ys i e at =
    let same : suc (length xs + i) ≡ suc (length xs) + i = omega arith in
    subst (λ (n : ℕ). At (x ∷ (xs ++ ys)) n e) same (at_behind xs ys i e at)

-- an entry stands among the former ones or the later ones
pub at_either : (xs ys : List Entry) (i : ℕ) (e : Entry) → At (xs ++ ys) i e → At xs i e ⊎ ((j : ℕ) × (i ≡ length xs + j) × At ys j e)
at_either [] ys i e at = inr (i, omega arith, at)
at_either (x ∷ xs) ys zero e at = inl at
at_either (x ∷ xs) ys (suc i) e at = elim (at_either xs ys i e at) [
  | inl here ↦ inl here
  | inr o ↦ let is = o.1 in inr (o.0, omega (arith, is), o.2)
]

-- an entry that no xid was sent with, where none was
pub no_sent_at : (xid : ℕ) (es : List Entry) (i : ℕ) (b : List ℕ) → NoneSent xid es → At es i (Sent b) → HasXid b xid → ⊥
no_sent_at xid [] i b p at has = absurd cc
no_sent_at xid (e ∷ es) zero b p at has = first e p.0 at
  where
    first : (d : Entry) → IsSentElse xid d → At (d ∷ es) zero (Sent b) → ⊥
    first d q here = let is : d ≡ Sent b = cc in let r : IsSentElse xid (Sent b) = subst (IsSentElse xid) is q in r has
no_sent_at xid (e ∷ es) (suc i) b p at has = no_sent_at xid es i b p.1 at has

pub no_came_at : (xid : ℕ) (es : List Entry) (i : ℕ) (b : List ℕ) → NoneCame xid es → At es i (Delivered b) → HasXid b xid → ⊥
no_came_at xid [] i b p at has = absurd cc
no_came_at xid (e ∷ es) zero b p at has = first e p.0 at
  where
    first : (d : Entry) → CameElse xid d → At (d ∷ es) zero (Delivered b) → ⊥
    first d q here = let is : d ≡ Delivered b = cc in let r : CameElse xid (Delivered b) = subst (CameElse xid) is q in r has
no_came_at xid (e ∷ es) (suc i) b p at has = no_came_at xid es i b p.1 at has
