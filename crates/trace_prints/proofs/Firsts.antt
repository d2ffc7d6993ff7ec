-- Of objects under one file handle the first counts.
use Rattle.std.proofs.Common.{◌≡◌, ◌<◌, ◌≤◌, ◌+◌, ℕ, zero, suc, List, [], ◌∷◌, ◌++◌, length, take, Bool, true, false, Option, Some, None, is_some, slice_get, refl, sym, ap, ◌∙◌, subst, arith, true≢false, get_or}
use Rattle.std.specs.Prelude.{if◌then◌else◌}
use Rattle.std.specs.Option.{option_map}
use Rattle.std.specs.Str.{bytes_eq}
use Rattle.std.proofs.lemmas.List.{append-nil, take_more}
use Rattle.std.proofs.lemmas.Option.{get_or_from_slice_get, none-some, slice_get-get_or}
use Rattle.std.proofs.lemmas.Slice.Eq.{bytes_eq-Decides}
use Rattle.trace_data.specs.declared.trace.Object.{Object}
use Rattle.trace_data.specs.declared.trace.Updated.{Updated}
use Rattle.trace_data.specs.Histories.{named, or_else}
use Rattle.trace_text.specs.Texts.{first_of, firsts}
use Rattle.trace_prints.proofs.Passes.{Apart, Distinct, find}

abbrev pub object-in : Option Updated → Option Object
object-in o = option_map (λ (u : Updated). u.object) o

named-last : (us : List Updated) (u : Updated) (h : List ℕ) → named (us ++ u ∷ []) h ≡ or_else (named us h) (if bytes_eq u.handle h then Some u.object else None)
named-last [] u h = refl
named-last (v ∷ us) u h = by (named-last us u h) (bytes_eq v.handle h)
  where
    by : named (us ++ u ∷ []) h ≡ or_else (named us h) (if bytes_eq u.handle h then Some u.object else None) → (t : Bool) → (if t then Some v.object else named (us ++ u ∷ []) h) ≡ or_else (if t then Some v.object else named us h) (if bytes_eq u.handle h then Some u.object else None)
    by rest true = refl
    by rest false = rest

abbrev or-found : Option Updated → Option Updated → Option Updated
or-found None o = o
or-found (Some u) o = Some u

find-last : (us : List Updated) (u : Updated) (h : List ℕ) → find (us ++ u ∷ []) h ≡ or-found (find us h) (if bytes_eq u.handle h then Some u else None)
find-last [] u h = refl
find-last (v ∷ us) u h = by (find-last us u h) (bytes_eq v.handle h)
  where
    by : find (us ++ u ∷ []) h ≡ or-found (find us h) (if bytes_eq u.handle h then Some u else None) → (t : Bool) → (if t then Some v else find (us ++ u ∷ []) h) ≡ or-found (if t then Some v else find us h) (if bytes_eq u.handle h then Some u else None)
    by rest true = refl
    by rest false = rest

-- an object more
last-first : (us fs : List Updated) (u : Updated) (h : List ℕ) → ((k : List ℕ) → object-in (find fs k) ≡ named us k) → object-in (find (fs ++ first_of us (Some u)) h) ≡ named (us ++ u ∷ []) h
last-first us fs u h e = by (is_some (named us u.handle)) refl
  where
    is-there : (o : Option Object) → is_some o ≡ true → (d : Option Object) → or_else o d ≡ o
    is-there None f d = absurd (true≢false (sym f))
    is-there (Some x) f d = refl

    no-other : (t : Bool) → bytes_eq u.handle h ≡ t → is_some (named us u.handle) ≡ true → or_else (named us h) (if t then Some u.object else None) ≡ named us h
    no-other true f g = is-there (named us h) (ap (λ (k : List ℕ). is_some (named us k)) (sym ((bytes_eq-Decides u.handle h).0 f)) ∙ g) (Some u.object)
    no-other false f g = none (named us h)
      where
        none : (o : Option Object) → or_else o None ≡ o
        none None = refl
        none (Some x) = refl

    joined : (o : Option Updated) (t : Bool) → object-in (or-found o (if t then Some u else None)) ≡ or_else (object-in o) (if t then Some u.object else None)
    joined None true = refl
    joined None false = refl
    joined (Some v) t = refl

    by : (t : Bool) → is_some (named us u.handle) ≡ t → object-in (find (fs ++ (if t then [] else u ∷ [])) h) ≡ named (us ++ u ∷ []) h
    by true g = ap (λ (k : List Updated). object-in (find k h)) (append-nil fs) ∙ e h ∙ sym (no-other (bytes_eq u.handle h) refl g) ∙ sym (named-last us u h)
    by false g = ap object-in (find-last fs u h) ∙ joined (find fs h) (bytes_eq u.handle h)
        ∙ ap (λ (o : Option Object). or_else o (if bytes_eq u.handle h then Some u.object else None)) (e h) ∙ sym (named-last us u h)

-- the place after some objects
one-more : (objects : List Updated) (n : ℕ) (u : Updated) → n < length objects → slice_get objects n ≡ Some u → take (suc n) objects ≡ take n objects ++ u ∷ []
one-more objects n u lt is =
    let next : suc n ≡ n + 1 = omega arith in
    ap (λ (k : ℕ). take k objects) next ∙ take_more objects n u lt ∙ ap (λ (v : Updated). take n objects ++ v ∷ []) (get_or_from_slice_get objects n u u is)

-- a place that is within has an item
pub no-item : {X : Type 0} (xs : List X) (n : ℕ) → n < length xs → slice_get xs n ≡ None → ⊥
no-item {X = X} [] n lt e = absurd (omega (arith, lt))
no-item {X = X} (x ∷ xs) n lt e = none-some (get_or (x ∷ xs) n x) (sym e ∙ slice_get-get_or (x ∷ xs) n x lt)

pub firsts-named : (objects : List Updated) (n : ℕ) (h : List ℕ) → n ≤ length objects → object-in (find (firsts objects n) h) ≡ named (take n objects) h
firsts-named objects zero h le = refl
firsts-named objects (suc n) h le = by (λ k. firsts-named objects n k (omega (arith, le))) (slice_get objects n) refl
  where
    lt : n < length objects
    lt = omega (arith, le)

    by : ((k : List ℕ) → object-in (find (firsts objects n) k) ≡ named (take n objects) k) → (o : Option Updated) → slice_get objects n ≡ o → object-in (find (firsts objects n ++ first_of (take n objects) o) h) ≡ named (take (suc n) objects) h
    by rest None f = absurd (no-item objects n lt f)
    by rest (Some u) f = last-first (take n objects) (firsts objects n) u h rest
        ∙ ap (λ (k : List Updated). named k h) (sym (one-more objects n u lt f))

-- ---- they have handles of their own

abbrev Behind : List ℕ → List Updated → Type 0
Behind h [] = Unit {0}
Behind h (v ∷ vs) = (bytes_eq v.handle h ≡ false) × Behind h vs

none-behind : (h : List ℕ) (us : List Updated) → find us h ≡ None → Behind h us
none-behind h [] e = tt
none-behind h (v ∷ vs) e = by (λ g. none-behind h vs g) (bytes_eq v.handle h) refl e
  where
    by : (find vs h ≡ None → Behind h vs) → (t : Bool) → bytes_eq v.handle h ≡ t → (if t then Some v else find vs h) ≡ None → Behind h (v ∷ vs)
    by rest true f g = absurd (cc g)
    by rest false f g = (f, rest g)

apart-last : (v u : Updated) (vs : List Updated) → Apart v vs → bytes_eq v.handle u.handle ≡ false → Apart v (vs ++ u ∷ [])
apart-last v u [] a e = (e, tt)
apart-last v u (w ∷ vs) a e = (a.0, apart-last v u vs a.1 e)

distinct-last : (us : List Updated) (u : Updated) → Distinct us → Behind u.handle us → Distinct (us ++ u ∷ [])
distinct-last [] u d b = (tt, tt)
distinct-last (v ∷ us) u d b = (apart-last v u us d.0 b.0, distinct-last us u d.1 b.1)

pub firsts-distinct : (objects : List Updated) (n : ℕ) → n ≤ length objects → Distinct (firsts objects n)
firsts-distinct objects zero le = tt
firsts-distinct objects (suc n) le = by (firsts-distinct objects n (omega (arith, le))) (slice_get objects n)
  where
    by : Distinct (firsts objects n) → (o : Option Updated) → Distinct (firsts objects n ++ first_of (take n objects) o)
    by before None = subst (λ (k : List Updated). Distinct k) (sym (append-nil (firsts objects n))) before
    by before (Some u) = test (is_some (named (take n objects) u.handle)) refl
      where
        nothing : (o : Option Updated) → is_some (object-in o) ≡ false → o ≡ None
        nothing None e = refl
        nothing (Some v) e = absurd (true≢false e)

        test : (t : Bool) → is_some (named (take n objects) u.handle) ≡ t → Distinct (firsts objects n ++ (if t then [] else u ∷ []))
        test true e = subst (λ (k : List Updated). Distinct k) (sym (append-nil (firsts objects n))) before
        test false e = distinct-last (firsts objects n) u before (none-behind u.handle (firsts objects n)
            (nothing (find (firsts objects n) u.handle) (ap is_some (firsts-named objects n u.handle (omega (arith, le))) ∙ e)))
