-- The sizes of a session are those that it can go by.
use Rattle.std.proofs.Common.{◌≡◌, ◌≤◌, ◌<◌, ◌*◌, ◌/◌, ℕ, true, false, eqb, ltb, refl, sym, subst, arith}
use Rattle.std.proofs.lemmas.Bool.{eqb-false, ltb-true, ltb-false}
use Rattle.world_model.specs.Mounts.{lesser_size}
use Rattle.world_model.specs.ReadSize.{page_bytes, whole_pages}
use Rattle.session_setup.specs.Phases.{AreSizes}

-- it is at least 1, and no more than what is wanted
pub record Within (size wanted : ℕ) : Type 0 where
  pub some : 1 ≤ size
  pub most : size ≤ wanted

lesser_within : (wanted greatest : ℕ) → 1 ≤ wanted → Within (lesser_size wanted greatest) wanted
lesser_within wanted greatest some =
    elim (eqb greatest 0) as (λ t. eqb greatest 0 ≡ t → Within (lesser_size wanted greatest) wanted) [
      | true ↦ λ e. rw e (record { some = omega (arith, some); most = omega arith })
      | false ↦ λ e. let differs = eqb-false greatest 0 e in rw e (record { some = omega (arith, some, differs); most = omega arith })
    ] refl

-- whole pages
pub record InPages (size from : ℕ) : Type 0 where
  pub some : 1 ≤ size
  pub most : size ≤ from
  pub pages : page_bytes < size → (count : ℕ) × (size ≡ page_bytes * count)

pages_of : (size : ℕ) → 1 ≤ size → InPages (whole_pages size) size
pages_of size some =
    elim (ltb 4096 size) as (λ t. ltb 4096 size ≡ t → InPages (whole_pages size) size) [
      | true ↦ λ e. let lt = ltb-true 4096 size e in rw e (record { some = omega (arith, lt); most = omega arith; pages = λ more. (size / 4096, omega arith) })
      | false ↦ λ e. let le = ltb-false 4096 size e in rw e (record { some = some; most = omega arith; pages = λ more. absurd (omega (arith, le, more)) })
    ] refl

pub sizes_fit : (rsize wsize rtmax wtmax size read write : ℕ) → 1 ≤ rsize → rsize ≤ 65536 → 1 ≤ wsize → wsize ≤ 65536 → size ≡ lesser_size rsize rtmax → read ≡ whole_pages size → write ≡ lesser_size wsize wtmax → AreSizes read write
sizes_fit rsize wsize rtmax wtmax size read write r rm w wm is p q =
    let a = lesser_within rsize rtmax r in
    let b = lesser_within wsize wtmax w in
    let c = pages_of size (subst (λ (n : ℕ). 1 ≤ n) (sym is) a.some) in
    rw (p, q) (record { read = c.some; most_read = omega (arith, c.most, is, a.most, rm); pages = c.pages; write = b.some; most_write = omega (arith, b.most, wm) })
