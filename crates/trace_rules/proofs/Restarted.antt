-- The tests decide whether an entry is a restart of the server.
use Rattle.std.proofs.Common.{◌≡◌, ◌≢◌, ◌<◌, ◌⊎◌, inl, inr, ◌==◌, ℕ, suc, List, length, map, Option, Some, None, slice_get, refl, sym, ◌∙◌, ap, subst, arith}
use Rattle.std.specs.Prelude.{Decides, ◌&&◌, ◌||◌, not}
use Rattle.std.specs.Option.{option_map}
use Rattle.std.specs.Str.{bytes_eq}
use Rattle.std.proofs.lemmas.Option.{slice_get_within}
use Rattle.std.proofs.lemmas.Bool.Decides.{Decides-like, Decides-and, Decides-or, Decides-not, Decides-eqb}
use Rattle.std.proofs.lemmas.Slice.Eq.{bytes_eq-Decides}
use Rattle.nfs_types.specs.declared.verf.Verf.{Verf}
use Rattle.world_model.specs.Server as model
use Rattle.world_model.specs.Steps.{Becomes}
use Rattle.world_model.specs.Lawful.{IsLeft, IsSteady, Restarts}
use Rattle.trace_data.specs.declared.trace.Contents.{Contents}
use Rattle.trace_data.specs.declared.trace.Contents.TheVariants.{File, Directory, Other}
use Rattle.trace_data.specs.declared.trace.Object.{Object}
use Rattle.trace_data.specs.declared.trace.Updated.{Updated}
use Rattle.trace_data.specs.declared.trace.Update.{Update}
use Rattle.trace_data.specs.declared.trace.Trace.{Trace}
use Rattle.trace_data.specs.Histories.{listed_of, holds_of, object_of, named, objects_after, or_else, object_at, verf_at, server_at, history_of}
use Rattle.trace_rules.specs.Keeping.{same_bool, is_file, same_object}
use Rattle.trace_rules.specs.Restarting.{same_verf, new_verf, loses, is_lost, is_left, left_under, left_at, left_all, is_steady, if_steady, steady_under, steady_of, steady_at, steady_all, steady_updates, steady, restarts}
use Rattle.trace_rules.proofs.Below.{all_below-decides}
use Rattle.trace_rules.proofs.Combining.{always, never}
use Rattle.trace_rules.proofs.Naming.{named-object, named-decides, origin}
use Rattle.trace_rules.proofs.Unchanged.{bool-decides, now-of, stable-of, contents-decides, object-decides}

one : (a b : model.Object) → Some a ≡ Some b → a ≡ b
one a b e = cc

-- ---- the write verifier

pub verf-decides : (a b : Verf) → Decides (same_verf a b) (a ≡ b)
verf-decides a b = Decides-like (bytes_eq a.0 b.0) (λ e i. record { 0 = e i }) (λ e. ap (λ (z : Verf). z.0) e) (bytes_eq-Decides a.0 b.0)

new-decides : (start : Verf) (us : List Update) (n : ℕ) (verf : Verf) → Decides (new_verf start us n verf) ((m : ℕ) → m < n → verf_at start us m ≢ verf)
unfolding new_verf
new-decides start us n verf = all_below-decides (λ m. not (same_verf (verf_at start us m) verf)) (λ m. verf_at start us m ≢ verf) (λ m. Decides-not (same_verf (verf_at start us m) verf) (verf-decides (verf_at start us m) verf)) n

-- ---- what is left of each object

-- a file with bytes that aren't stable, and one that holds the stable ones
abbrev Loses : model.Holds → model.Holds → Type 0
Loses g h = (now : List ℕ) × (stable : List ℕ) × (g ≡ model.Bytes now stable) × (now ≢ stable) × (h ≡ model.Bytes stable stable)

loses-decides : (c d : Contents) → Decides (loses c d) (Loses (holds_of c) (holds_of d))
loses-decides (File now stable) d =
    Decides-like (not (bytes_eq now stable) && is_file stable stable d)
    (λ w. (now, stable, refl, w.0, sym w.1))
    (λ w.
    let p : now ≡ w.0 = now-of now stable w.0 w.1 w.2 in
    let q : stable ≡ w.1 = stable-of now stable w.0 w.1 w.2 in
    (λ e. w.3 (sym p ∙ e ∙ q), sym (w.4 ∙ ap (λ z. model.Bytes z z) (sym q))))
    (Decides-and (not (bytes_eq now stable)) (is_file stable stable d) (Decides-not (bytes_eq now stable) (bytes_eq-Decides now stable)) (contents-decides (File stable stable) d))
loses-decides (Directory entries) d = never (λ w. let e : model.Entries (map listed_of entries.items) ≡ model.Bytes w.0 w.1 = w.2 in cc)
loses-decides (Other text) d = never (λ w. let e : model.Text text ≡ model.Bytes w.0 w.1 = w.2 in cc)

abbrev Lost : model.Object → model.Object → Type 0
Lost o p = (now : List ℕ) × (stable : List ℕ) × (o.holds ≡ model.Bytes now stable) × (now ≢ stable) × Becomes o p (model.Bytes stable stable)

lost-decides : (a b : Object) → Decides (is_lost a b) (Lost (object_of a) (object_of b))
unfolding is_lost
lost-decides a b =
    Decides-like (loses a.contents b.contents && same_bool b.gone a.gone && (b.attr.kind == a.attr.kind) && (b.attr.fileid == a.attr.fileid))
    (λ w. let l = w.0.0.0 in (l.0, l.1, l.2, l.3, record { holds = l.4; gone = w.0.0.1; kind = w.0.1; fileid = w.1 }))
    (λ w. let k : Becomes (object_of a) (object_of b) (model.Bytes w.1 w.1) = w.4 in ((((w.0, w.1, w.2, w.3, k.holds), k.gone), k.kind), k.fileid))
    (Decides-and (loses a.contents b.contents && same_bool b.gone a.gone && (b.attr.kind == a.attr.kind)) (b.attr.fileid == a.attr.fileid)
    (Decides-and (loses a.contents b.contents && same_bool b.gone a.gone) (b.attr.kind == a.attr.kind)
    (Decides-and (loses a.contents b.contents) (same_bool b.gone a.gone) (loses-decides a.contents b.contents) (bool-decides b.gone a.gone))
    (Decides-eqb b.attr.kind a.attr.kind)) (Decides-eqb b.attr.fileid a.attr.fileid))

lost-or-same : (a b : model.Object) → IsLeft (Some a) (Some b) → (a ≡ b) ⊎ Lost a b
lost-or-same a b (IsLeft.same e) = inl (sym (one b a e))
lost-or-same a b (IsLeft.lost o p now stable was is holds other becomes) =
    inr (subst (λ (z : model.Object). Lost z b) (sym (one a o was)) (subst (λ (z : model.Object). Lost o z) (sym (one b p is)) (now, stable, holds, other, becomes)))

not-left : (b : model.Object) → IsLeft None (Some b) → ⊥
not-left b (IsLeft.same e) = cc
not-left b (IsLeft.lost o p now stable was is holds other becomes) = cc

is-left : (a b : model.Object) → (a ≡ b) ⊎ Lost a b → IsLeft (Some a) (Some b)
is-left a b (inl e) = IsLeft.same (ap (λ z. Some z) (sym e))
is-left a b (inr l) = IsLeft.lost a b l.0 l.1 refl refl l.2 l.3 l.4

left-by : (x y : Option Object) → Decides (is_left x y) (IsLeft (option_map object_of x) (option_map object_of (or_else y x)))
left-by None None = always (IsLeft.same refl)
left-by (Some a) None = always (IsLeft.same refl)
left-by None (Some b) = never (λ w. not-left (object_of b) w)
left-by (Some a) (Some b) =
    Decides-like (same_object a b || is_lost a b)
    (λ w. is-left (object_of a) (object_of b) w)
    (λ w. lost-or-same (object_of a) (object_of b) w)
    (Decides-or (same_object a b) (is_lost a b) (object-decides a b) (lost-decides a b))

-- entry n leaves this of the object under the handle
abbrev pub Left : List Updated → List Update → ℕ → List ℕ → Type 0
Left start us n f = IsLeft (option_map object_of (object_at start us n f)) (option_map object_of (object_at start us (suc n) f))

left-decides : (start : List Updated) (us : List Update) (n : ℕ) (f : List ℕ) → Decides (left_under start us n f) (Left start us n f)
unfolding left_under
left-decides start us n f = left-by (object_at start us n f) (named (objects_after us n) f)

pub all-left : (start : List Updated) (us : List Update) (n : ℕ) → Decides (left_all start us n) ((f : List ℕ) → Left start us n f)
unfolding left_all left_at
all-left start us n = named-decides (λ f. left_under start us n f) (λ f. Left start us n f) (λ f. left-decides start us n f) (objects_after us n) (λ f e. IsLeft.same (ap (λ z. option_map object_of (or_else z (object_at start us n f))) e))

-- ---- files whose bytes are all stable

abbrev pub SteadyContents : Contents → Type 0
SteadyContents c = (now stable : List ℕ) → holds_of c ≡ model.Bytes now stable → now ≡ stable

contents-steady : (c : Contents) → Decides (is_steady c) (SteadyContents c)
contents-steady (File n s) = Decides-like (bytes_eq n s) (λ e now stable h. sym (now-of n s now stable h) ∙ e ∙ stable-of n s now stable h) (λ w. w n s refl) (bytes_eq-Decides n s)
contents-steady (Directory entries) = always (λ now stable h. let q : model.Entries (map listed_of entries.items) ≡ model.Bytes now stable = h in absurd (cc))
contents-steady (Other text) = always (λ now stable h. let q : model.Text text ≡ model.Bytes now stable = h in absurd (cc))

if-steady : (x : Option Object) → Decides (if_steady x) (IsSteady (option_map object_of x))
if-steady None = always (λ o now stable e. absurd (cc))
if-steady (Some a) =
    Decides-like (is_steady a.contents)
    (λ w o now stable e h. w now stable (ap (λ (z : model.Object). z.holds) (one (object_of a) o e) ∙ h))
    (λ w now stable h. w (object_of a) now stable refl h)
    (contents-steady a.contents)

-- the object under the handle at moment m
abbrev pub SteadyUnder : List Updated → List Update → ℕ → List ℕ → Type 0
SteadyUnder start us m f = IsSteady (option_map object_of (object_at start us m f))

under-decides : (start : List Updated) (us : List Update) (m : ℕ) (f : List ℕ) → Decides (steady_under start us m f) (SteadyUnder start us m f)
unfolding steady_under
under-decides start us m f = if-steady (object_at start us m f)

-- each object of a list, or else the one that is under its handle at moment m
abbrev pub SteadyAt : List Updated → List Update → ℕ → List Updated → ℕ → Type 0
SteadyAt start us m objects k = (u : Updated) → slice_get objects k ≡ Some u → SteadyContents u.object.contents ⊎ SteadyUnder start us m u.handle

at-steady : (start : List Updated) (us : List Update) (m : ℕ) (objects : List Updated) (k : ℕ) → Decides (steady_at start us m objects k) (SteadyAt start us m objects k)
unfolding steady_at
at-steady start us m objects k = by (slice_get objects k) refl
  where
    other : (u v : Updated) → Some u ≡ Some v → u ≡ v
    other u v e = cc

    by : (o : Option Updated) → slice_get objects k ≡ o → Decides (steady_of start us m o) (SteadyAt start us m objects k)
    by None e = always (λ u is. let q : slice_get objects k ≡ Some u = is in absurd (cc))
    by (Some v) e =
        Decides-like (is_steady v.object.contents || steady_under start us m v.handle)
        (λ w u is. subst (λ (z : Updated). SteadyContents z.object.contents ⊎ SteadyUnder start us m z.handle) (other v u (sym e ∙ is)) w)
        (λ w. w v e)
        (Decides-or (is_steady v.object.contents) (steady_under start us m v.handle) (contents-steady v.object.contents) (under-decides start us m v.handle))

abbrev pub AllSteady : List Updated → List Update → ℕ → List Updated → Type 0
AllSteady start us m objects = (k : ℕ) → k < length objects → SteadyAt start us m objects k

all-steady : (start : List Updated) (us : List Update) (m : ℕ) (objects : List Updated) → Decides (steady_all start us m objects) (AllSteady start us m objects)
unfolding steady_all
all-steady start us m objects = all_below-decides (λ k. steady_at start us m objects k) (λ k. SteadyAt start us m objects k) (λ k. at-steady start us m objects k) (length objects)

updates-steady : (start : List Updated) (us : List Update) (m : ℕ) → Decides (steady_updates start us m) ((j : ℕ) → j < m → AllSteady start us m (objects_after us j))
unfolding steady_updates
updates-steady start us m = all_below-decides (λ j. steady_all start us m (objects_after us j)) (λ j. AllSteady start us m (objects_after us j)) (λ j. all-steady start us m (objects_after us j)) m

steady-named : (start : List Updated) (us : List Update) (m : ℕ) (objects : List Updated) → AllSteady start us m objects → (f : List ℕ) (p : Object) → named objects f ≡ Some p → object_at start us m f ≡ Some p → SteadyContents p.contents
steady-named start us m objects all f p e at =
    let n = named-object objects f p e in
    elim (all n.0 (slice_get_within objects n.0 n.1 n.2) n.1 n.2) [
      | inl s ↦ subst (λ (z : Object). SteadyContents z.contents) n.4 s
      | inr t ↦ (λ now stable h. t (object_of p) now stable (ap (option_map object_of) (subst (λ (g : List ℕ). object_at start us m g ≡ Some p) (sym n.3) at)) h)
    ]

steady-under : (x : Option Object) → ((p : Object) → x ≡ Some p → SteadyContents p.contents) → IsSteady (option_map object_of x)
steady-under None s o now stable e h = absurd (cc)
steady-under (Some p) s o now stable e h = s p refl now stable (ap (λ (z : model.Object). z.holds) (one (object_of p) o e) ∙ h)

steady-decides : (start : List Updated) (us : List Update) (m : ℕ) → Decides (steady start us m) ((f : List ℕ) → SteadyUnder start us m f)
unfolding steady
steady-decides start us m =
    Decides-like (steady_all start us m start && steady_updates start us m)
    (λ w f. steady-under (object_at start us m f) (λ p at. elim (origin start us m f p at) [
      | inl here ↦ steady-named start us m start w.0 f p here at
      | inr there ↦ steady-named start us m (objects_after us there.0) (w.1 there.0 there.1) f p there.2 at
    ]))
    (λ w. (λ k below u is. inr (w u.handle), λ j early k below u is. inr (w u.handle)))
    (Decides-and (steady_all start us m start) (steady_updates start us m) (all-steady start us m start) (updates-steady start us m))

-- ---- a restart

pub restarts-decides : (t : Trace) (n : ℕ) (verf : Verf) → Decides (restarts t.start.verf t.start.objects.items t.updates.items n verf) (Restarts (history_of t) n (server_at t n) (server_at t (suc n)) verf)
unfolding restarts
restarts-decides t n verf =
    Decides-like (same_verf (verf_at t.start.verf t.updates.items (suc n)) verf && new_verf t.start.verf t.updates.items (suc n) verf && left_all t.start.objects.items t.updates.items n && steady t.start.objects.items t.updates.items (suc n))
    (λ w. record { verifier = w.0.0.0; new = λ m le. w.0.0.1 m (omega (arith, le)); left = w.0.1; steady = w.1 })
    (λ (r : Restarts (history_of t) n (server_at t n) (server_at t (suc n)) verf). (((r.verifier, λ m lt. r.new m (omega (arith, lt))), r.left), r.steady))
    (Decides-and (same_verf (verf_at t.start.verf t.updates.items (suc n)) verf && new_verf t.start.verf t.updates.items (suc n) verf && left_all t.start.objects.items t.updates.items n) (steady t.start.objects.items t.updates.items (suc n))
    (Decides-and (same_verf (verf_at t.start.verf t.updates.items (suc n)) verf && new_verf t.start.verf t.updates.items (suc n) verf) (left_all t.start.objects.items t.updates.items n)
    (Decides-and (same_verf (verf_at t.start.verf t.updates.items (suc n)) verf) (new_verf t.start.verf t.updates.items (suc n) verf) (verf-decides (verf_at t.start.verf t.updates.items (suc n)) verf) (new-decides t.start.verf t.updates.items (suc n) verf))
    (all-left t.start.objects.items t.updates.items n))
    (steady-decides t.start.objects.items t.updates.items (suc n)))
