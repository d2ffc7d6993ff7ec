-- Zeros that are written one piece after the other.
use Rattle.std.proofs.Common.{◌≡◌, inl, inr, ℕ, ◌+◌, ◌-◌, List, length, replicate, ◌∙◌, ap, subst, sym, arith}
use Rattle.std.proofs.lemmas.Bool.{cases_lt}
use Rattle.std.proofs.lemmas.List.{get_or-replicate, length-replicate}
use Rattle.page_store.specs.Disk.{Holds, Only, Every, byte_at}
use Rattle.page_store.specs.Store.{HasZeros}

pub zeros_replicate : (n : ℕ) → HasZeros n (replicate n 0)
zeros_replicate n = record { long = let long = length-replicate {A = ℕ} n 0 in omega (arith, long); zeros = λ i low. get_or-replicate n i 0 0 low }

pub no-zeros : (image : List ℕ) → HasZeros 0 image
no-zeros image = record { long = omega arith; zeros = λ i low. absurd (omega (arith, low)) }

-- one piece more
pub zeros-more : (at n : ℕ) (image new bytes : List ℕ) → HasZeros at image → HasZeros n bytes → length bytes ≡ n → Holds at bytes image new → HasZeros (at + n) new
zeros-more at n image new bytes was piece long h = record {
  long = let so = h.long in omega (arith, so, long);
  zeros = λ i low. elim (cases_lt i at) [
    | inl before ↦ h.below i before ∙ was.zeros i before
    | inr behind ↦
        ap (λ (k : ℕ). byte_at new k) (omega (arith, behind)) ∙ h.written (i - at) (omega (arith, low, behind, long)) ∙ piece.zeros (i - at) (omega (arith, low, behind))
  ];
}

pub zeros-only : (n : ℕ) (image : List ℕ) (now : List ℕ → Type 0) → HasZeros n image → Only image now → Every now (HasZeros n)
zeros-only n image now zeros only c left = subst (λ (i : List ℕ). HasZeros n i) (sym (only c left)) zeros
