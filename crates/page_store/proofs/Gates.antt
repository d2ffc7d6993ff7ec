-- What is read of a gate, and what is known of a slot once it was read or written.
use Rattle.std.proofs.Common.{◌≡◌, ◌<◌, ◌⊎◌, inl, inr, ℕ, suc, zero, ◌+◌, List, [], ◌∷◌, length, refl, sym, ◌∙◌, subst, arith}
use Rattle.std.proofs.lemmas.List.{get_or_past, get_or-replicate, length-replicate}
use Rattle.std.specs.Prelude.{replicate}
use Rattle.std.proofs.lemmas.Bool.{cases_lt}
use Rattle.page_store.specs.Disk.{Gives, Every, byte_at}
use Rattle.page_store.specs.Slots.{IsOpen, SameBody, HasBody, IsSound, Stood, IsFrom, IsFromOr, HasWhole, IsAlike, IsBut, HasGate}

abbrev pub open_gate : List ℕ
open_gate = 0 ∷ 0 ∷ 0 ∷ 1 ∷ []

abbrev pub shut_gate : List ℕ
shut_gate = 0 ∷ 0 ∷ 0 ∷ 0 ∷ []

-- the bytes of a closed gate
pub zero-gate : (i : ℕ) → i < 4 → byte_at shut_gate i ≡ 0
zero-gate zero low = refl
zero-gate (suc zero) low = refl
zero-gate (suc (suc zero)) low = refl
zero-gate (suc (suc (suc zero))) low = refl
zero-gate (suc (suc (suc (suc i)))) low = absurd (omega (arith, low))

-- a buffer of four zeros, once it was read into, has what the image has there
pub read-all : (image : List ℕ) (at : ℕ) (new : List ℕ) (n : ℕ) → Gives image at shut_gate new n → (i : ℕ) → i < 4 → byte_at new i ≡ byte_at image (at + i)
read-all image at new n g i less = elim (cases_lt i n) [
  | inl low ↦ g.front i low
  | inr high ↦ g.rest i high ∙ zero-gate i less ∙ sym (get_or_past image (at + i) 0 (let all = g.all in omega (arith, all, high, less)))
]

-- four bytes, one by one
pub four : (bytes gate : List ℕ) → length bytes ≡ 4 → length gate ≡ 4 → ((i : ℕ) → i < 4 → byte_at bytes i ≡ byte_at gate i) → bytes ≡ gate
four (a ∷ b ∷ c ∷ d ∷ []) (p ∷ q ∷ r ∷ s ∷ []) long short same =
    λ i. same 0 (omega arith) i ∷ same 1 (omega arith) i ∷ same 2 (omega arith) i ∷ same 3 (omega arith) i ∷ []
four [] gate long short same = absurd (omega (arith, long))
four (a ∷ []) gate long short same = absurd (omega (arith, long))
four (a ∷ b ∷ []) gate long short same = absurd (omega (arith, long))
four (a ∷ b ∷ c ∷ []) gate long short same = absurd (omega (arith, long))
four (a ∷ b ∷ c ∷ d ∷ e ∷ rest) gate long short same = absurd (omega (arith, long))
four (a ∷ b ∷ c ∷ d ∷ []) [] long short same = absurd (omega (arith, short))
four (a ∷ b ∷ c ∷ d ∷ []) (p ∷ []) long short same = absurd (omega (arith, short))
four (a ∷ b ∷ c ∷ d ∷ []) (p ∷ q ∷ []) long short same = absurd (omega (arith, short))
four (a ∷ b ∷ c ∷ d ∷ []) (p ∷ q ∷ r ∷ []) long short same = absurd (omega (arith, short))
four (a ∷ b ∷ c ∷ d ∷ []) (p ∷ q ∷ r ∷ s ∷ t ∷ rest) long short same = absurd (omega (arith, short))

-- a gate of zeros isn't open
pub zeros-shut : (image : List ℕ) (k : ℕ) → HasGate image k shut_gate → IsOpen image k → ⊥
zeros-shut image k gate opens = absurd (let no_way : 0 ≡ 1 = sym (gate 3 (omega arith)) ∙ opens 3 (omega arith) in cc)

module _ (top slot : ℕ) (low : slot < top) (old : List ℕ → Type 0) (s : IsSound top old) where
  -- where one image is open, all have its body
  pub open-alike : (seen : List ℕ) → old seen → IsOpen seen slot → IsAlike old slot
  open-alike seen there gate c d left other = λ i within. s.same slot seen c low there gate left i within ∙ sym (s.same slot seen d low there gate other i within)

  -- an image that is like an old one but for the gate has what stood there, where an open image was there
  pub but-from : (seen : List ℕ) → old seen → IsOpen seen slot → (c : List ℕ) → IsBut top slot old c → IsFrom top old c
  but-from seen there gate c but k less opens = by (but.2 k less)
    where
      by : SameBody k c but.0 × ((k ≡ slot) ⊎ (IsOpen c k → IsOpen but.0 k)) → Stood old k c
      by p = other p.0 p.1
        where
          other : SameBody k c but.0 → (k ≡ slot) ⊎ (IsOpen c k → IsOpen but.0 k) → Stood old k c
          other same (inr f) = (but.0, but.1, f opens, same)
          other same (inl is) = (
            seen,
            there,
            subst (λ (j : ℕ). IsOpen seen j) (sym is) gate,
            λ i within. same i within ∙ subst (λ (j : ℕ). SameBody j but.0 seen) (sym is) (s.same slot seen but.0 low there gate but.1) i within,
          )

  -- the same over a body that is whole in each image
  pub but-or : (body : List ℕ) → HasWhole old slot body → (c : List ℕ) → IsBut top slot old c → IsFromOr top slot body old c
  but-or body whole c but k less opens = by (but.2 k less)
    where
      by : SameBody k c but.0 × ((k ≡ slot) ⊎ (IsOpen c k → IsOpen but.0 k)) → Stood old k c ⊎ ((k ≡ slot) × HasBody c k body)
      by p = other p.0 p.1
        where
          other : SameBody k c but.0 → (k ≡ slot) ⊎ (IsOpen c k → IsOpen but.0 k) → Stood old k c ⊎ ((k ≡ slot) × HasBody c k body)
          other same (inr f) = inl (but.0, but.1, f opens, same)
          other same (inl is) = inr (is, λ i within. same i within ∙ subst (λ (j : ℕ). HasBody but.0 j body) (sym is) (whole but.0 but.1) i within)

-- a body that is whole in each image
pub whole-alike : (slot : ℕ) (old : List ℕ → Type 0) (body : List ℕ) → HasWhole old slot body → IsAlike old slot
whole-alike slot old body whole c d left other i within = whole c left i within ∙ sym (whole d other i within)

-- what came from images that came from others
pub from-from : (top : ℕ) (old mid : List ℕ → Type 0) → Every mid (IsFrom top old) → (c : List ℕ) → IsFrom top mid c → IsFrom top old c
from-from top old mid each c from k less opens =
    let m = from k less opens in
    let o = each m.0 m.1 k less m.2 in
    (o.0, o.1, o.2, λ i within. m.3 i within ∙ o.3 i within)

pub from-or : (top slot : ℕ) (body : List ℕ) (old mid : List ℕ → Type 0) → Every mid (IsFrom top old) → (c : List ℕ) → IsFromOr top slot body mid c → IsFromOr top slot body old c
from-or top slot body old mid each c from k less opens = by (from k less opens)
  where
    by : Stood mid k c ⊎ ((k ≡ slot) × HasBody c k body) → Stood old k c ⊎ ((k ≡ slot) × HasBody c k body)
    by (inl m) = let o = each m.0 m.1 k less m.2 in inl (o.0, o.1, o.2, λ i within. m.3 i within ∙ o.3 i within)
    by (inr this) = inr this

pub or-weaker : (top slot : ℕ) (body : List ℕ) (old : List ℕ → Type 0) (c : List ℕ) → IsFrom top old c → IsFromOr top slot body old c
or-weaker top slot body old c from k less opens = inl (from k less opens)

-- a buffer of zeros, once it was read into, has what the image has there
pub read-zeros : (image : List ℕ) (at n : ℕ) (new : List ℕ) (count : ℕ) → Gives image at (replicate n 0) new count → (i : ℕ) → i < n → byte_at new i ≡ byte_at image (at + i)
read-zeros image at n new count g i less = elim (cases_lt i count) [
  | inl low ↦ g.front i low
  | inr high ↦ g.rest i high ∙ get_or-replicate n i 0 0 less
      ∙ sym (get_or_past image (at + i) 0 (let all = g.all in let long = length-replicate {A = ℕ} n 0 in omega (arith, all, high, less, long)))
]
