-- Lanes keep their numbers, and there are sixteen at most.
use Rattle.std.proofs.Common.{◌≡◌, ◌≢◌, ◌+◌, ◌≤◌, ◌<◌, ℕ, zero, suc, List, [], ◌∷◌, ◌++◌, length, map, Bool, true, false, Some, nat_eq, slice_get, slice_set, refl, sym, ap, subst, ◌∙◌, arith}
use Rattle.std.specs.Prelude.{remove, if◌then◌else◌}
use Rattle.std.proofs.lemmas.Bool.{eqb-true, eqb-false}
use Rattle.std.proofs.lemmas.List.{length-map}
use Rattle.client_core.specs.declared.lane.Lane.{Lane}
use Rattle.client_core.specs.declared.lane.State.{State}
use Rattle.client_core.specs.Lanes.{lost_lane}
use Rattle.client_core.proofs.Places.{number_in}
use Rattle.client_core.specs.Numbers.{numbers_of, IsOther, AreOnce, AreUpTo, AreLanes, IsIdle}

-- ---- as many different numbers from 1 on as the greatest at most

abbrev drop_one : ℕ → List ℕ → List ℕ
drop_one x [] = []
drop_one x (n ∷ ns) = if nat_eq n x then ns else n ∷ drop_one x ns

drop-length : (x : ℕ) (ns : List ℕ) → length ns ≤ length (drop_one x ns) + 1
drop-length x [] = omega arith
drop-length x (n ∷ ns) = by (nat_eq n x) (drop-length x ns)
  where
    by : (b : Bool) → length ns ≤ length (drop_one x ns) + 1 → length (n ∷ ns) ≤ length (if b then ns else n ∷ drop_one x ns) + 1
    by true rest = omega arith
    by false rest = omega (arith, rest)

drop-other : (x y : ℕ) (ns : List ℕ) → IsOther y ns → IsOther y (drop_one x ns)
drop-other x y [] o = tt
drop-other x y (n ∷ ns) o = by (nat_eq n x) (drop-other x y ns o.1)
  where
    by : (b : Bool) → IsOther y (drop_one x ns) → IsOther y (if b then ns else n ∷ drop_one x ns)
    by true rest = o.1
    by false rest = (o.0, rest)

drop-once : (x : ℕ) (ns : List ℕ) → AreOnce ns → AreOnce (drop_one x ns)
drop-once x [] o = tt
drop-once x (n ∷ ns) o = by (nat_eq n x) (drop-once x ns o.1)
  where
    by : (b : Bool) → AreOnce (drop_one x ns) → AreOnce (if b then ns else n ∷ drop_one x ns)
    by true rest = o.1
    by false rest = (drop-other x n ns o.0, rest)

others-less : (b : ℕ) (ns : List ℕ) → IsOther (suc b) ns → AreUpTo (suc b) ns → AreUpTo b ns
others-less b [] o u = tt
others-less b (n ∷ ns) o u =
    let apart : n ≢ suc b = o.0 in
    let most : n ≤ suc b = u.1 in
    (u.0, omega (arith, apart, most), others-less b ns o.1 u.2)

drop-less : (b : ℕ) (ns : List ℕ) → AreOnce ns → AreUpTo (suc b) ns → AreUpTo b (drop_one (suc b) ns)
drop-less b [] o u = tt
drop-less b (n ∷ ns) o u = by (nat_eq n (suc b)) refl (drop-less b ns o.1 u.2)
  where
    by : (t : Bool) → nat_eq n (suc b) ≡ t → AreUpTo b (drop_one (suc b) ns) → AreUpTo b (if t then ns else n ∷ drop_one (suc b) ns)
    by true is rest = others-less b ns (subst (λ (x : ℕ). IsOther x ns) (eqb-true n (suc b) is) o.0) u.2
    by false is rest =
        let apart : n ≢ suc b = eqb-false n (suc b) is in
        let most : n ≤ suc b = u.1 in
        (u.0, omega (arith, apart, most), rest)

few-numbers : (most : ℕ) (ns : List ℕ) → AreOnce ns → AreUpTo most ns → length ns ≤ most
few-numbers zero [] o u = omega arith
few-numbers zero (n ∷ ns) o u = let least : 1 ≤ n = u.0 in let most : n ≤ 0 = u.1 in absurd (omega (arith, least, most))
few-numbers (suc b) ns o u =
    let rest = few-numbers b (drop_one (suc b) ns) (drop-once (suc b) ns o) (drop-less b ns o u) in
    let less = drop-length (suc b) ns in
    omega (arith, rest, less)

pub few-lanes : (lanes : List Lane) → AreLanes lanes → length lanes ≤ 16
few-lanes lanes l =
    let few = few-numbers 16 (numbers_of lanes) l.once l.each in
    let same = length-map lanes (λ lane. lane.number) in
    omega (arith, few, same)

pub idle-few : (number : ℕ) (lanes : List Lane) → IsIdle number lanes → AreLanes lanes → length lanes < 16
idle-few number lanes i l =
    let few = few-numbers 16 (number ∷ numbers_of lanes) (i.other, l.once) (i.least, i.most, l.each) in
    let same = length-map lanes (λ lane. lane.number) in
    omega (arith, few, same)

-- ---- the same numbers

pub same-numbers : (old new : List Lane) → numbers_of new ≡ numbers_of old → AreLanes old → AreLanes new
same-numbers old new is l = record { once = subst AreOnce (sym is) l.once; each = subst (AreUpTo 16) (sym is) l.each }

set-numbers : (lanes : List Lane) (at number : ℕ) (state another : State) → slice_get lanes at ≡ Some (record { number = number; state = state }) → numbers_of (slice_set lanes at (record { number = number; state = another })) ≡ numbers_of lanes
set-numbers [] at number state another there = absurd (cc)
set-numbers (lane ∷ lanes) zero number state another there = let same : lane.number ≡ number = ap number_in there in ap (λ (n : ℕ). n ∷ numbers_of lanes) (sym same)
set-numbers (lane ∷ lanes) (suc at) number state another there = ap (λ (ns : List ℕ). lane.number ∷ ns) (set-numbers lanes at number state another there)

pub set-lanes : (lanes : List Lane) (at number : ℕ) (state another : State) → slice_get lanes at ≡ Some (record { number = number; state = state }) → AreLanes lanes → AreLanes (slice_set lanes at (record { number = number; state = another }))
set-lanes lanes at number state another there l = same-numbers lanes (slice_set lanes at (record { number = number; state = another })) (set-numbers lanes at number state another there) l

lost-numbers : (lanes : List Lane) → numbers_of (map lost_lane lanes) ≡ numbers_of lanes
lost-numbers [] = refl
lost-numbers (lane ∷ lanes) = ap (λ (ns : List ℕ). lane.number ∷ ns) (lost-numbers lanes)

pub lost-lanes : (lanes : List Lane) → AreLanes lanes → AreLanes (map lost_lane lanes)
lost-lanes lanes l = same-numbers lanes (map lost_lane lanes) (lost-numbers lanes) l

-- ---- one more, or one less

other-last : (x n : ℕ) (ns : List ℕ) → n ≢ x → IsOther x ns → IsOther x (ns ++ n ∷ [])
other-last x n [] apart o = (apart, tt)
other-last x n (m ∷ ms) apart o = (o.0, other-last x n ms apart o.1)

once-last : (n : ℕ) (ns : List ℕ) → IsOther n ns → AreOnce ns → AreOnce (ns ++ n ∷ [])
once-last n [] o a = (tt, tt)
once-last n (m ∷ ms) o a = (other-last m n ms (λ is. o.0 (sym is)) a.0, once-last n ms o.1 a.1)

each-last : (n : ℕ) (ns : List ℕ) → 1 ≤ n → n ≤ 16 → AreUpTo 16 ns → AreUpTo 16 (ns ++ n ∷ [])
each-last n [] least most u = (least, most, tt)
each-last n (m ∷ ms) least most u = (u.0, u.1, each-last n ms least most u.2)

pushed-numbers : (lanes : List Lane) (lane : Lane) → numbers_of (lanes ++ lane ∷ []) ≡ numbers_of lanes ++ lane.number ∷ []
pushed-numbers [] lane = refl
pushed-numbers (l ∷ ls) lane = ap (λ (ns : List ℕ). l.number ∷ ns) (pushed-numbers ls lane)

pub pushed-lanes : (lanes : List Lane) (number : ℕ) (state : State) → IsIdle number lanes → AreLanes lanes → AreLanes (lanes ++ record { number = number; state = state } ∷ [])
pushed-lanes lanes number state i l =
    let is = pushed-numbers lanes (record { number = number; state = state }) in
    record {
      once = subst AreOnce (sym is) (once-last number (numbers_of lanes) i.other l.once);
      each = subst (AreUpTo 16) (sym is) (each-last number (numbers_of lanes) i.least i.most l.each);
    }

other-removed : (x : ℕ) (lanes : List Lane) (at : ℕ) → IsOther x (numbers_of lanes) → IsOther x (numbers_of (remove lanes at))
other-removed x [] zero o = tt
other-removed x [] (suc at) o = tt
other-removed x (lane ∷ lanes) zero o = o.1
other-removed x (lane ∷ lanes) (suc at) o = (o.0, other-removed x lanes at o.1)

once-removed : (lanes : List Lane) (at : ℕ) → AreOnce (numbers_of lanes) → AreOnce (numbers_of (remove lanes at))
once-removed [] zero o = tt
once-removed [] (suc at) o = tt
once-removed (lane ∷ lanes) zero o = o.1
once-removed (lane ∷ lanes) (suc at) o = (other-removed lane.number lanes at o.0, once-removed lanes at o.1)

each-removed : (lanes : List Lane) (at : ℕ) → AreUpTo 16 (numbers_of lanes) → AreUpTo 16 (numbers_of (remove lanes at))
each-removed [] zero u = tt
each-removed [] (suc at) u = tt
each-removed (lane ∷ lanes) zero u = u.2
each-removed (lane ∷ lanes) (suc at) u = (u.0, u.1, each-removed lanes at u.2)

pub removed-lanes : (lanes : List Lane) (at : ℕ) → AreLanes lanes → AreLanes (remove lanes at)
removed-lanes lanes at l = record { once = once-removed lanes at l.once; each = each-removed lanes at l.each }
