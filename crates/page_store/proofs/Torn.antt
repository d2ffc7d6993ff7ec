-- What a torn write leaves of slots.
use Rattle.std.proofs.Common.{◌≡◌, ◌<◌, ◌≤◌, ◌⊎◌, inl, inr, ℕ, ◌+◌, ◌*◌, List, length, refl, sym, ◌∙◌, subst, arith}
use Rattle.std.proofs.lemmas.Bool.{cases_lt}
use Rattle.page_store.specs.Disk.{Torn, Follows, Every, byte_at}
use Rattle.page_store.specs.Slots.{gate_at, IsOpen, SameBody, SameSlot, IsSound, IsFrom, IsBeside, IsShut, IsAlike, IsBut}

-- a slot apart from what was written has its bytes
apart : (top at n j : ℕ) (d c : List ℕ) → Torn at n d c → 4224 * top ≤ length d → j < top → (gate_at j + 4224 ≤ at) ⊎ (at + n ≤ gate_at j)
    → (i : ℕ) → i < 4224 → byte_at c (gate_at j + i) ≡ byte_at d (gate_at j + i)
apart top at n j d c torn long low (inl before) i less = torn.below (4224 * j + i) (omega (arith, before, less)) (omega (arith, long, low, less))
apart top at n j d c torn long low (inr behind) i less = torn.above (4224 * j + i) (omega (arith, behind, less)) (omega (arith, long, low, less))

pub opens-too : (j : ℕ) (d c : List ℕ) → ((i : ℕ) → i < 4 → byte_at c (gate_at j + i) ≡ byte_at d (gate_at j + i)) → IsOpen c j → IsOpen d j
opens-too j d c same gate i less = sym (same i less) ∙ gate i less

pub which : (j slot : ℕ) → (j ≡ slot) ⊎ ((j < slot) ⊎ (slot < j))
which j slot = elim (cases_lt j slot) [
  | inl less ↦ inr (inl less)
  | inr ge ↦ elim (cases_lt slot j) [ inl more ↦ inr (inr more) | inr le ↦ inl (omega (arith, ge, le)) ]
]

module _ (top at n slot : ℕ) (d c : List ℕ) (torn : Torn at n d c) (long : 4224 * top ≤ length d) (begins : gate_at slot ≤ at) (ends : at + n ≤ gate_at slot + 4224) where
  aside : (j : ℕ) → (j < slot) ⊎ (slot < j) → (gate_at j + 4224 ≤ at) ⊎ (at + n ≤ gate_at j)
  aside j (inl less) = inl (omega (arith, less, begins))
  aside j (inr more) = inr (omega (arith, more, ends))

  -- another slot is as it was
  pub gate-aside : (j : ℕ) → j < top → (j < slot) ⊎ (slot < j) → IsOpen c j → IsOpen d j
  gate-aside j low other gate = opens-too j d c (λ i less. apart top at n j d c torn long low (aside j other) i (omega (arith, less))) gate

  pub body-aside : (j : ℕ) → j < top → (j < slot) ⊎ (slot < j) → SameBody j c d
  body-aside j low other i less =
      let same = apart top at n j d c torn long low (aside j other) (4 + i) (omega (arith, less)) in
      let place : gate_at j + (4 + i) ≡ gate_at j + 4 + i = omega arith in
      subst (λ (p : ℕ). byte_at c p ≡ byte_at d p) place same

  pub slot-aside : (j : ℕ) → j < top → (j ≡ slot → ⊥) → SameSlot j c d
  slot-aside j low other = by (which j slot)
    where
      by : (j ≡ slot) ⊎ ((j < slot) ⊎ (slot < j)) → SameSlot j c d
      by (inl is) = absurd (other is)
      by (inr apart_from) = λ i less. apart top at n j d c torn long low (aside j apart_from) i less

-- a gate that is torn stands over the body as it was
gate-own : (top slot : ℕ) (d c : List ℕ) → Torn (gate_at slot) 4 d c → 4224 * top ≤ length d → slot < top → SameBody slot c d
gate-own top slot d c torn long low i less = torn.above (gate_at slot + 4 + i) (omega arith) (omega (arith, long, low, less))

pub gate-but : (top slot : ℕ) (d c : List ℕ) → Torn (gate_at slot) 4 d c → 4224 * top ≤ length d → slot < top
    → (k : ℕ) → k < top → SameBody k c d × ((k ≡ slot) ⊎ (IsOpen c k → IsOpen d k))
gate-but top slot d c torn long low k less = by (which k slot)
  where
    by : (k ≡ slot) ⊎ ((k < slot) ⊎ (slot < k)) → SameBody k c d × ((k ≡ slot) ⊎ (IsOpen c k → IsOpen d k))
    by (inl is) = (subst (λ (j : ℕ). SameBody j c d) (sym is) (gate-own top slot d c torn long low), inl is)
    by (inr other) = (
      body-aside top (gate_at slot) 4 slot d c torn long (omega arith) (omega arith) k less other,
      inr (gate-aside top (gate_at slot) 4 slot d c torn long (omega arith) (omega arith) k less other),
    )

module _ (top slot : ℕ) (low : slot < top) (old new : List ℕ → Type 0) (s : IsSound top old) where
  -- something was written within a slot: the others are as they were
  pub torn-beside : (at n : ℕ) → gate_at slot ≤ at → at + n ≤ gate_at slot + 4224 → Follows (Torn at n) old new → Every new (IsBeside top slot old)
  torn-beside at n begins ends crash c left =
      let f = crash c left in (f.0, f.1, λ k less other. slot-aside top at n slot f.0 c f.2 (s.long f.0 f.1) begins ends k less other)

  -- ---- a gate was written

  pub torn-but : Follows (Torn (gate_at slot) 4) old new → Every new (IsBut top slot old)
  torn-but crash c left = let f = crash c left in (f.0, f.1, gate-but top slot f.0 c f.2 (s.long f.0 f.1) low)

  pub long-torn : (at n : ℕ) → Follows (Torn at n) old new → (c : List ℕ) → new c → 4224 * top ≤ length c
  long-torn at n crash c left = let f = crash c left in let more = f.2.long in let was = s.long f.0 f.1 in omega (arith, more, was)

  pub but-sound : IsAlike old slot → Follows (Torn (gate_at slot) 4) old new → IsSound top new
  but-sound alike crash = record {
    long = long-torn (gate_at slot) 4 crash;
    same = λ k d c less there gate left.
        let f = torn-but crash d there in
        let t = torn-but crash c left in
        let own = t.2 k less in
        let its = f.2 k less in
        λ i within. own.0 i within ∙ (by k less f.0 t.0 d f.1 t.1 gate its.1) i within ∙ sym (its.0 i within);
  }
    where
      by : (k : ℕ) → k < top → (a b d : List ℕ) → old a → old b → IsOpen d k → (k ≡ slot) ⊎ (IsOpen d k → IsOpen a k) → SameBody k b a
      by k less a b d there left gate (inl is) = subst (λ (j : ℕ). SameBody j b a) (sym is) (alike b a left there)
      by k less a b d there left gate (inr opens) = s.same k a b less there (opens gate) left

  -- ---- a body was written under a closed gate

  pub shut-torn : IsShut old slot → Follows (Torn (gate_at slot + 4) 4220) old new → IsShut new slot
  shut-torn shut crash c left gate =
      let f = crash c left in
      let long = s.long f.0 f.1 in
      shut f.0 f.1 (opens-too slot f.0 c (λ i less. f.2.below (gate_at slot + i) (omega (arith, less)) (omega (arith, long, low, less))) gate)

  -- what is closed elsewhere stays closed
  pub shut-aside : IsShut old slot → Follows (Torn (gate_at slot + 4) 4220) old new → (k : ℕ) → k < top → IsShut old k → IsShut new k
  shut-aside shut crash k less was c left gate = by (which k slot)
    where
      by : (k ≡ slot) ⊎ ((k < slot) ⊎ (slot < k)) → ⊥
      by (inl is) = shut-torn shut crash c left (subst (λ (j : ℕ). IsOpen c j) is gate)
      by (inr other) =
          let f = crash c left in
          was f.0 f.1 (gate-aside top (gate_at slot + 4) 4220 slot f.0 c f.2 (s.long f.0 f.1) (omega arith) (omega arith) k less other gate)

  body-from : IsShut old slot → (crash : Follows (Torn (gate_at slot + 4) 4220) old new) → (k : ℕ) → k < top → (c : List ℕ) → new c → IsOpen c k
      → (d : List ℕ) × old d × IsOpen d k × SameBody k c d
  body-from shut crash k less c left gate = by (which k slot)
    where
      by : (k ≡ slot) ⊎ ((k < slot) ⊎ (slot < k)) → (d : List ℕ) × old d × IsOpen d k × SameBody k c d
      by (inl is) = absurd (shut-torn shut crash c left (subst (λ (j : ℕ). IsOpen c j) is gate))
      by (inr other) =
          let f = crash c left in
          let long = s.long f.0 f.1 in (
            f.0,
            f.1,
            gate-aside top (gate_at slot + 4) 4220 slot f.0 c f.2 long (omega arith) (omega arith) k less other gate,
            body-aside top (gate_at slot + 4) 4220 slot f.0 c f.2 long (omega arith) (omega arith) k less other,
          )

  pub body-leaves : IsShut old slot → Follows (Torn (gate_at slot + 4) 4220) old new → Every new (IsFrom top old)
  body-leaves shut crash c left k less gate = body-from shut crash k less c left gate

  pub body-sound : IsShut old slot → Follows (Torn (gate_at slot + 4) 4220) old new → IsSound top new
  body-sound shut crash = record {
    long = long-torn (gate_at slot + 4) 4220 crash;
    same = λ k d c less there gate left. by k d c less there gate left (which k slot);
  }
    where
      by : (k : ℕ) (d c : List ℕ) → k < top → new d → IsOpen d k → new c → (k ≡ slot) ⊎ ((k < slot) ⊎ (slot < k)) → SameBody k c d
      by k d c less there gate left (inl is) = absurd (shut-torn shut crash d there (subst (λ (j : ℕ). IsOpen d j) is gate))
      by k d c less there gate left (inr other) = λ i within.
          let f = body-from shut crash k less d there gate in
          let t = crash c left in
          let own = body-aside top (gate_at slot + 4) 4220 slot t.0 c t.2 (s.long t.0 t.1) (omega arith) (omega arith) k less other in
          own i within ∙ s.same k f.0 t.0 less f.1 f.2 t.1 i within ∙ sym (f.3 i within)

-- fewer images
pub fewer : (top : ℕ) (old new : List ℕ → Type 0) → IsSound top old → ((c : List ℕ) → new c → old c) → IsSound top new
fewer top old new s sub = record { long = λ c left. s.long c (sub c left); same = λ k d c less there gate left. s.same k d c less (sub d there) gate (sub c left) }

-- an image itself
pub itself : (top : ℕ) (old : List ℕ → Type 0) → Every old (IsFrom top old)
itself top old c left k less gate = (c, left, gate, λ i within. refl)

pub but-itself : (top slot : ℕ) (old : List ℕ → Type 0) → Every old (IsBut top slot old)
but-itself top slot old c left = (c, left, λ k less. (λ i within. refl, inr (λ gate. gate)))

pub beside-itself : (top slot : ℕ) (old : List ℕ → Type 0) → Every old (IsBeside top slot old)
beside-itself top slot old c left = (c, left, λ k less other i within. refl)

-- what is beside images that were beside others
pub beside-then : (top slot : ℕ) (old mid : List ℕ → Type 0) → Every mid (IsBeside top slot old) → (c : List ℕ) → IsBeside top slot mid c → IsBeside top slot old c
beside-then top slot old mid each c b =
    let o = each b.0 b.1 in
    (o.0, o.1, λ k less other i within. b.2 k less other i within ∙ o.2 k less other i within)

pub beside-fewer : (top slot : ℕ) (old mid : List ℕ → Type 0) → ((c : List ℕ) → mid c → old c) → (c : List ℕ) → IsBeside top slot mid c → IsBeside top slot old c
beside-fewer top slot old mid sub c b = (b.0, sub b.0 b.1, b.2)
