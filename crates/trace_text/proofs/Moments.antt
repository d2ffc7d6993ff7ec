-- The server at each moment, as updates are added and as the last one changes.
use Rattle.std.proofs.Common.{◌≡◌, ◌≢◌, ◌<◌, ◌≤◌, ◌-◌, ◌⊎◌, inl, inr, ℕ, zero, suc, List, [], ◌∷◌, ◌++◌, length, Option, Some, None, slice_get, slice_set, slice_index_or, refl, sym, ap, ◌∙◌, arith}
use Rattle.std.proofs.lemmas.Option.{slice_get_past, slice_get_read}
use Rattle.nfs_types.specs.declared.verf.Verf.{Verf}
use Rattle.trace_data.specs.declared.trace.Update.{Update}
use Rattle.trace_data.specs.declared.trace.Updated.{Updated}
use Rattle.trace_data.specs.Histories.{named, objects_of, objects_after, object_at, or_else, verf_at, verf_or}

-- ---- lists

get-front : {X : Type 0} (xs ys : List X) (n : ℕ) → n < length xs → slice_get (xs ++ ys) n ≡ slice_get xs n
get-front [] ys n lt = absurd (omega (arith, lt))
get-front (x ∷ xs) ys zero lt = refl
get-front (x ∷ xs) ys (suc n) lt = get-front xs ys n (omega (arith, lt))

get-end : {X : Type 0} (xs : List X) (y : X) (n : ℕ) → n ≡ length xs → slice_get (xs ++ y ∷ []) n ≡ Some y
get-end [] y zero e = refl
get-end [] y (suc n) e = absurd (omega (arith, e))
get-end (x ∷ xs) y zero e = absurd (omega (arith, e))
get-end (x ∷ xs) y (suc n) e = get-end xs y n (omega (arith, e))

length-end : {X : Type 0} (xs : List X) (y : X) → length (xs ++ y ∷ []) ≡ suc (length xs)
length-end [] y = refl
length-end (x ∷ xs) y = ap suc (length-end xs y)

get-set : {X : Type 0} (xs : List X) (k : ℕ) (y : X) → k < length xs → slice_get (slice_set xs k y) k ≡ Some y
get-set [] k y lt = absurd (omega (arith, lt))
get-set (x ∷ xs) zero y lt = refl
get-set (x ∷ xs) (suc k) y lt = get-set xs k y (omega (arith, lt))

get-other : {X : Type 0} (xs : List X) (k n : ℕ) (y : X) → n < k → slice_get (slice_set xs k y) n ≡ slice_get xs n
get-other [] k n y lt = refl
get-other (x ∷ xs) zero n y lt = absurd (omega (arith, lt))
get-other (x ∷ xs) (suc k) zero y lt = refl
get-other (x ∷ xs) (suc k) (suc n) y lt = get-other xs k n y (omega (arith, lt))

length-set : {X : Type 0} (xs : List X) (k : ℕ) (y : X) → length (slice_set xs k y) ≡ length xs
length-set [] k y = refl
length-set (x ∷ xs) zero y = refl
length-set (x ∷ xs) (suc k) y = ap suc (length-set xs k y)

where-is : (n k : ℕ) → (n < k) ⊎ ((n ≡ k) ⊎ (k < n))
where-is zero zero = inr (inl refl)
where-is zero (suc k) = inl (omega arith)
where-is (suc n) zero = inr (inr (omega arith))
where-is (suc n) (suc k) = elim (where-is n k) [
  | inl lt ↦ inl (omega (arith, lt))
  | inr more ↦ elim more [
    | inl e ↦ inr (inl (ap suc e))
    | inr gt ↦ inr (inr (omega (arith, gt)))
  ]
]

-- ---- one update more, which changes nothing

pub verf-added : (start : Verf) (us : List Update) (u : Update) → u.verf ≡ verf_at start us (length us) → (n : ℕ) → verf_at start (us ++ u ∷ []) n ≡ verf_at start us n
verf-added start us u same zero = refl
verf-added start us u same (suc n) = elim (where-is n (length us)) [
  | inl lt ↦ ap (λ (o : Option Update). verf_or o (verf_at start (us ++ u ∷ []) n)) (get-front us (u ∷ []) n lt)
      ∙ ap (verf_or (slice_get us n)) (verf-added start us u same n)
  | inr more ↦ elim more [
    | inl e ↦ ap (λ (o : Option Update). verf_or o (verf_at start (us ++ u ∷ []) n)) (get-end us u n e)
        ∙ same ∙ ap (verf_at start us) (sym e)
        ∙ sym (ap (λ (o : Option Update). verf_or o (verf_at start us n)) (slice_get_past us n (let le : length us ≤ n = omega (arith, e) in le)))
    | inr gt ↦ ap (λ (o : Option Update). verf_or o (verf_at start (us ++ u ∷ []) n)) (slice_get_past (us ++ u ∷ []) n (let l : length (us ++ u ∷ []) ≡ suc (length us) = length-end us u in omega (arith, l, gt)))
        ∙ verf-added start us u same n
        ∙ sym (ap (λ (o : Option Update). verf_or o (verf_at start us n)) (slice_get_past us n (omega (arith, gt))))
  ]
]

after-is : (us : List Update) (n : ℕ) (o : Option Update) → slice_get us n ≡ o → objects_after us n ≡ objects_of o
unfolding objects_after
after-is us n o e = ap objects_of e

pub object-added : (start : List Updated) (us : List Update) (u : Update) → u.objects.items ≡ [] → (n : ℕ) (h : List ℕ)
    → object_at start (us ++ u ∷ []) n h ≡ object_at start us n h
object-added start us u none zero h = refl
object-added start us u none (suc n) h = elim (where-is n (length us)) [
  | inl lt ↦ ap (λ (os : List Updated). or_else (named os h) (object_at start (us ++ u ∷ []) n h))
      (after-is (us ++ u ∷ []) n (slice_get us n) (get-front us (u ∷ []) n lt) ∙ sym (after-is us n (slice_get us n) refl))
      ∙ ap (or_else (named (objects_after us n) h)) (object-added start us u none n h)
  | inr more ↦ elim more [
    | inl e ↦ ap (λ (os : List Updated). or_else (named os h) (object_at start (us ++ u ∷ []) n h)) (after-is (us ++ u ∷ []) n (Some u) (get-end us u n e) ∙ none)
        ∙ object-added start us u none n h
        ∙ sym (ap (λ (os : List Updated). or_else (named os h) (object_at start us n h)) (after-is us n None (slice_get_past us n (omega (arith, e)))))
    | inr gt ↦ ap (λ (os : List Updated). or_else (named os h) (object_at start (us ++ u ∷ []) n h))
        (after-is (us ++ u ∷ []) n None (slice_get_past (us ++ u ∷ []) n (let l : length (us ++ u ∷ []) ≡ suc (length us) = length-end us u in omega (arith, l, gt))))
        ∙ object-added start us u none n h
        ∙ sym (ap (λ (os : List Updated). or_else (named os h) (object_at start us n h)) (after-is us n None (slice_get_past us n (omega (arith, gt)))))
  ]
]

-- ---- no update

pub verf-start : (start : Verf) (n : ℕ) → verf_at start [] n ≡ start
verf-start start zero = refl
verf-start start (suc n) = verf-start start n

pub object-start : (start : List Updated) (n : ℕ) (h : List ℕ) → object_at start [] n h ≡ named start h
object-start start zero h = refl
object-start start (suc n) h = ap (λ (os : List Updated). or_else (named os h) (object_at start [] n h)) (after-is [] n None refl) ∙ object-start start n h

-- ---- the last update is another one

-- before it nothing changes
pub verf-before : (start : Verf) (us : List Update) (k : ℕ) (u : Update) (n : ℕ) → n ≤ k → verf_at start (slice_set us k u) n ≡ verf_at start us n
verf-before start us k u zero le = refl
verf-before start us k u (suc n) le =
    ap (λ (o : Option Update). verf_or o (verf_at start (slice_set us k u) n)) (get-other us k n u (omega (arith, le)))
    ∙ ap (verf_or (slice_get us n)) (verf-before start us k u n (omega (arith, le)))

pub object-before : (start : List Updated) (us : List Update) (k : ℕ) (u : Update) (n : ℕ) (h : List ℕ) → n ≤ k
    → object_at start (slice_set us k u) n h ≡ object_at start us n h
object-before start us k u zero h le = refl
object-before start us k u (suc n) h le =
    ap (λ (os : List Updated). or_else (named os h) (object_at start (slice_set us k u) n h))
    (after-is (slice_set us k u) n (slice_get us n) (get-other us k n u (omega (arith, le))) ∙ sym (after-is us n (slice_get us n) refl))
    ∙ ap (or_else (named (objects_after us n) h)) (object-before start us k u n h (omega (arith, le)))

-- from it on it says all
pub verf-from : (start : Verf) (us : List Update) (u : Update) (k : ℕ) → suc k ≡ length us → slice_get us k ≡ Some u → (n : ℕ) → k < n → verf_at start us n ≡ u.verf
verf-from start us u k last is zero lt = absurd (omega (arith, lt))
verf-from start us u k last is (suc n) lt = elim (where-is n k) [
  | inl before ↦ absurd (omega (arith, before, lt))
  | inr more ↦ elim more [
    | inl e ↦ ap (λ (o : Option Update). verf_or o (verf_at start us n)) (ap (slice_get us) e ∙ is)
    | inr gt ↦ ap (λ (o : Option Update). verf_or o (verf_at start us n)) (slice_get_past us n (omega (arith, gt, last))) ∙ verf-from start us u k last is n gt
  ]
]

pub object-from : (start : List Updated) (us : List Update) (u : Update) (k : ℕ) → suc k ≡ length us → slice_get us k ≡ Some u → (n : ℕ) (h : List ℕ) → k < n
    → object_at start us n h ≡ or_else (named u.objects.items h) (object_at start us k h)
object-from start us u k last is zero h lt = absurd (omega (arith, lt))
object-from start us u k last is (suc n) h lt = elim (where-is n k) [
  | inl before ↦ absurd (omega (arith, before, lt))
  | inr more ↦ elim more [
    | inl e ↦ ap (λ (os : List Updated). or_else (named os h) (object_at start us n h)) (after-is us n (Some u) (ap (slice_get us) e ∙ is))
        ∙ ap (λ (m : ℕ). or_else (named u.objects.items h) (object_at start us m h)) e
    | inr gt ↦ ap (λ (os : List Updated). or_else (named os h) (object_at start us n h)) (after-is us n None (slice_get_past us n (omega (arith, gt, last))))
        ∙ object-from start us u k last is n h gt
  ]
]

pub last-set : (us : List Update) (k : ℕ) (u : Update) → suc k ≡ length us → (suc k ≡ length (slice_set us k u)) × (slice_get (slice_set us k u) k ≡ Some u)
last-set us k u last = (last ∙ sym (length-set us k u), get-set us k u (omega (arith, last)))

-- ---- the last item of a list, as code finds it

pub suc-last : {X : Type 0} (count : ℕ) (xs : List X) → count ≡ length xs → count ≢ 0 → suc (count - 1) ≡ length xs
suc-last zero xs is some = absurd (some refl)
suc-last (suc n) xs is some = omega (arith, is)

pub item-last : {X : Type 0} (xs : List X) (k : ℕ) (x : X) → suc k ≡ length xs → x ≡ slice_index_or xs k x → slice_get xs k ≡ Some x
item-last xs k x last is = slice_get_read xs (length xs) k x refl (omega (arith, last)) is
