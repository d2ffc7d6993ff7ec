-- The object under a handle: where it is named, and which stamps it had.
use Rattle.std.proofs.Common.{Bool, subst, true, ◌≡◌, ◌<◌, ◌≤◌, ◌⊎◌, inl, inr, ◌==◌, ℕ, zero, suc, false, true≢false, List, [], ◌∷◌, length, Option, Some, None, slice_get, refl, sym, ◌∙◌, ap, arith}
use Rattle.std.specs.Prelude.{Decides, ◌&&◌, ◌||◌}
use Rattle.std.specs.Str.{bytes_eq}
use Rattle.std.proofs.lemmas.Option.{slice_get_within}
use Rattle.std.proofs.lemmas.Bool.{cases_Bool}
use Rattle.std.proofs.lemmas.Bool.Decides.{Decides-like, Decides-and, Decides-or, Decides-eqb}
use Rattle.std.proofs.lemmas.Slice.Eq.{bytes_eq-Decides}
use Rattle.nfs_types.specs.declared.time.Time.{Time}
use Rattle.nfs_types.specs.declared.wcc.Stamp.{Stamp}
use Rattle.nfs_types.specs.Stamps.{same_time, same_stamp, stamp_of}
use Rattle.trace_data.specs.declared.trace.Object.{Object}
use Rattle.trace_data.specs.declared.trace.Updated.{Updated}
use Rattle.trace_data.specs.declared.trace.Update.{Update}
use Rattle.trace_rules.specs.Decided.{all_below, any_below}
use Rattle.trace_data.specs.Histories.{named, objects_after, or_else, object_at}
use Rattle.trace_rules.specs.Freshness.{if_named, has_stamp, gave_stamp, had_stamp}
use Rattle.trace_rules.proofs.Below.{all_below-decides, any_below-decides}
use Rattle.trace_rules.proofs.Combining.{always}

-- ---- where it is named

past : (u : Updated) (us : List Updated) (h : List ℕ) → bytes_eq u.handle h ≡ false → named (u ∷ us) h ≡ named us h
past u us h f = rw f refl

here : (u : Updated) (us : List Updated) (h : List ℕ) → bytes_eq u.handle h ≡ true → named (u ∷ us) h ≡ Some u.object
here u us h t = rw t refl

-- an object that is named has a place in the list
pub named-object : (us : List Updated) (h : List ℕ) (o : Object) → named us h ≡ Some o → (k : ℕ) × (u : Updated) × (slice_get us k ≡ Some u) × (u.handle ≡ h) × (u.object ≡ o)
named-object [] h o e = absurd (cc)
named-object (u ∷ us) h o e = elim (cases_Bool (bytes_eq u.handle h)) [
  | inl t ↦ (zero, u, refl, (bytes_eq-Decides u.handle h).0 t, one (sym (here u us h t) ∙ e))
  | inr f ↦ let r = named-object us h o (sym (past u us h f) ∙ e) in (suc r.0, r.1, r.2, r.3, r.4)
]
  where
    one : Some u.object ≡ Some o → u.object ≡ o
    one q = cc

-- A test of each object that a list names decides a fact of each handle, if that fact holds of each handle that isn't named.
module _ (test : List ℕ → Bool) (P : List ℕ → Type 0) (each : (f : List ℕ) → Decides (test f) (P f)) where
  at-decides : (objects : List Updated) (k : ℕ) → Decides (if_named test (slice_get objects k)) ((u : Updated) → slice_get objects k ≡ Some u → P u.handle)
  at-decides objects k = by (slice_get objects k) refl
    where
      other : (u v : Updated) → Some u ≡ Some v → u ≡ v
      other u v e = cc

      by : (o : Option Updated) → slice_get objects k ≡ o → Decides (if_named test o) ((u : Updated) → slice_get objects k ≡ Some u → P u.handle)
      by None e = always (λ u is. let q : slice_get objects k ≡ Some u = is in absurd (cc))
      by (Some v) e = Decides-like (test v.handle) (λ w u is. subst (λ (z : Updated). P z.handle) (other v u (sym e ∙ is)) w) (λ w. w v e) (each v.handle)

  pub named-decides : (objects : List Updated) → ((f : List ℕ) → named objects f ≡ None → P f) → Decides (all_below (λ k. if_named test (slice_get objects k)) (length objects)) ((f : List ℕ) → P f)
  named-decides objects unnamed =
      Decides-like (all_below (λ k. if_named test (slice_get objects k)) (length objects))
      (λ w f. by w f (named objects f) refl)
      (λ w k below u is. w u.handle)
      (all_below-decides (λ k. if_named test (slice_get objects k)) (λ k. (u : Updated) → slice_get objects k ≡ Some u → P u.handle) (λ k. at-decides objects k) (length objects))
    where
      by : ((k : ℕ) → k < length objects → (u : Updated) → slice_get objects k ≡ Some u → P u.handle) → (f : List ℕ) (y : Option Object) → named objects f ≡ y → P f
      by w f None e = unnamed f e
      by w f (Some o) e = let p = named-object objects f o e in subst P p.3 (w p.0 (slice_get_within objects p.0 p.1 p.2) p.1 p.2)

-- ---- stamps

pub time-decides : (s t : Time) → Decides (same_time s t) (s ≡ t)
time-decides s t =
    Decides-like ((s.seconds == t.seconds) && (s.nanos == t.nanos))
    (λ w i. record { seconds = w.0 i; nanos = w.1 i })
    (λ e. (ap (λ (z : Time). z.seconds) e, ap (λ (z : Time). z.nanos) e))
    (Decides-and (s.seconds == t.seconds) (s.nanos == t.nanos) (Decides-eqb s.seconds t.seconds) (Decides-eqb s.nanos t.nanos))

pub stamp-decides : (s t : Stamp) → Decides (same_stamp s t) (s ≡ t)
stamp-decides s t =
    Decides-like ((s.size == t.size) && same_time s.mtime t.mtime && same_time s.ctime t.ctime)
    (λ w i. record { size = w.0.0 i; mtime = w.0.1 i; ctime = w.1 i })
    (λ e. ((ap (λ (z : Stamp). z.size) e, ap (λ (z : Stamp). z.mtime) e), ap (λ (z : Stamp). z.ctime) e))
    (Decides-and ((s.size == t.size) && same_time s.mtime t.mtime) (same_time s.ctime t.ctime)
    (Decides-and (s.size == t.size) (same_time s.mtime t.mtime) (Decides-eqb s.size t.size) (time-decides s.mtime t.mtime)) (time-decides s.ctime t.ctime))

-- there is an object, and it has the stamp
abbrev pub HasStamp : Option Object → Stamp → Type 0
HasStamp x s = (o : Object) × (x ≡ Some o) × (stamp_of o.attr ≡ s)

has-decides : (s : Stamp) (x : Option Object) → Decides (has_stamp s x) (HasStamp x s)
has-decides s None = (λ t. absurd (true≢false (sym t)), λ w. let e : None ≡ Some w.0 = w.1 in absurd (cc))
has-decides s (Some o) = Decides-like (same_stamp (stamp_of o.attr) s) (λ e. (o, refl, e)) (λ w. let e : Some o ≡ Some w.0 = w.1 in let same : o ≡ w.0 = cc in ap (λ (z : Object). stamp_of z.attr) same ∙ w.2) (stamp-decides (stamp_of o.attr) s)

pub gave-decides : (us : List Updated) (f : List ℕ) (s : Stamp) → Decides (gave_stamp us f s) (HasStamp (named us f) s)
unfolding gave_stamp
gave-decides us f s = has-decides s (named us f)

-- the object had the stamp at some moment up to n
abbrev pub Had : List Updated → List Update → ℕ → List ℕ → Stamp → Type 0
Had start us n f s = (m : ℕ) × (m ≤ n) × HasStamp (object_at start us m f) s

-- the start gave it the stamp, or an update before n did
abbrev pub Given : List Updated → List Update → ℕ → List ℕ → Stamp → Type 0
Given start us n f s = HasStamp (named start f) s ⊎ ((j : ℕ) × (j < n) × HasStamp (named (objects_after us j) f) s)

pub either : (R : Type 0) (x y : Option Object) (o : Object) → or_else x y ≡ Some o → (x ≡ Some o → R) → (y ≡ Some o → R) → R
either R None y o e named was = was e
either R (Some p) y o e named was = named e

-- what stands under the handle at moment m was named at the start or by an update before
pub origin : (start : List Updated) (us : List Update) (m : ℕ) (f : List ℕ) (o : Object) → object_at start us m f ≡ Some o → (named start f ≡ Some o) ⊎ ((j : ℕ) × (j < m) × (named (objects_after us j) f ≡ Some o))
origin start us zero f o e = inl e
origin start us (suc m) f o e =
    either ((named start f ≡ Some o) ⊎ ((j : ℕ) × (j < suc m) × (named (objects_after us j) f ≡ Some o))) (named (objects_after us m) f) (object_at start us m f) o e
    (λ this. inr (m, omega arith, this))
    (λ was. elim (origin start us m f o was) [ inl first ↦ inl first | inr w ↦ (let lt : w.0 < m = w.1 in inr (w.0, omega (arith, lt), w.2)) ])

found : (start : List Updated) (us : List Update) (n : ℕ) (f : List ℕ) (s : Stamp) (m : ℕ) (o : Object) → m ≤ n → object_at start us m f ≡ Some o → stamp_of o.attr ≡ s → Given start us n f s
found start us n f s zero o le e is = inl (o, e, is)
found start us n f s (suc m) o le e is =
    either (Given start us n f s) (named (objects_after us m) f) (object_at start us m f) o e
    (λ here. inr (m, omega (arith, le), (o, here, is)))
    (λ was. found start us n f s m o (omega (arith, le)) was is)

named-at : (start : List Updated) (us : List Update) (f : List ℕ) (j : ℕ) (o : Object) → named (objects_after us j) f ≡ Some o → object_at start us (suc j) f ≡ Some o
named-at start us f j o e = ap (λ z. or_else z (object_at start us j f)) e

pub had-decides : (start : List Updated) (us : List Update) (n : ℕ) (f : List ℕ) (s : Stamp) → Decides (had_stamp start us n f s) (Had start us n f s)
unfolding had_stamp
had-decides start us n f s =
    Decides-like (gave_stamp start f s || any_below (λ j. gave_stamp (objects_after us j) f s) n)
    at_moment
    (λ w. found start us n f s w.0 w.2.0 w.1 w.2.1 w.2.2)
    (Decides-or (gave_stamp start f s) (any_below (λ j. gave_stamp (objects_after us j) f s) n) (gave-decides start f s) (any_below-decides (λ j. gave_stamp (objects_after us j) f s) (λ j. HasStamp (named (objects_after us j) f) s) (λ j. gave-decides (objects_after us j) f s) n))
  where
    at_moment : Given start us n f s → Had start us n f s
    at_moment (inl w) = (zero, omega arith, w)
    at_moment (inr w) = let lt : w.0 < n = w.1 in (suc w.0, omega (arith, lt), (w.2.0, named-at start us f w.0 w.2.0 w.2.1, w.2.2))
