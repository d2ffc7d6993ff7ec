-- Objects of two exports, place after place: those below a place as the new one has them, the others as the old one has.
use Rattle.std.proofs.Common.{Bool, true≢false, ◌≡◌, ◌<◌, ◌≤◌, ◌+◌, ◌==◌, ◌⊎◌, ℕ, zero, suc, Result, Ok, Err, IfOk, OnOk, true, false, List, [], ◌∷◌, ◌++◌, length, Option, Some, None, slice_get, slice_set, refl, sym, ap, ◌∙◌, subst, inl, inr, arith, nat_lt, if◌then◌else◌}
use Rattle.std.specs.Option.{option_map}
use Rattle.std.specs.Str.{bytes_eq}
use Rattle.std.proofs.lemmas.Bool.{cases_Bool, cases_lt, cases_eq, le-ltb, lt-ltb, eqb-true, eqb-false}
use Rattle.std.proofs.lemmas.Option.{slice_get_past, slice_get_within}
use Rattle.std.proofs.lemmas.Slice.Eq.{bytes_eq-Decides}
use Rattle.world_model.specs.Server as model
use Rattle.export_fs.specs.declared.node.Node.{Node}
use Rattle.export_fs.specs.Parts.{handle_of, place_of, last_number}
use Rattle.export_fs.specs.Seen.{seen_at, seen_by, object_of as seen_object}
use Rattle.export_fs.specs.View.{View}
use Rattle.export_fs.specs.Sound.{Sound}
use Rattle.export_fs.proofs.Handles.{place_is}
use Rattle.export_fs.proofs.Objects.{get_front_other, get_last, get_set_other, length_set}
use Rattle.trace_data.specs.declared.trace.Object.{Object}
use Rattle.trace_data.specs.declared.trace.Updated.{Updated}
use Rattle.trace_data.specs.Histories.{named, or_else, object_of}
use Rattle.world_trace.specs.Mirrored.{Mirrors, named_or, Changes, seen_below, below_by, IsBelow, Renewed, IsShown}
use Rattle.world_trace.proofs.Naming.{named-push, named-here, named-past}

-- ---- at one place

chosen : {A : Type 0} → (b : Bool) (x y : A) → b ≡ true → (if b then x else y) ≡ x
chosen true x y e = refl
chosen false x y e = absurd (cc)

passed : {A : Type 0} → (b : Bool) (x y : A) → b ≡ false → (if b then x else y) ≡ y
passed true x y e = absurd (cc)
passed false x y e = refl

not-yet : (bound : ℕ) (old new : List Node) (place : ℕ) → bound ≤ place → seen_below bound old new place ≡ seen_at old place
not-yet bound old new place le = passed (nat_lt place bound) (seen_at new place) (seen_at old place) (le-ltb place bound le)

already : (bound : ℕ) (old new : List Node) (place : ℕ) → place < bound → seen_below bound old new place ≡ seen_at new place
already bound old new place lt = chosen (nat_lt place bound) (seen_at new place) (seen_at old place) (lt-ltb place bound lt)

none-past : (nodes : List Node) (place : ℕ) → length nodes ≤ place → seen_at nodes place ≡ None
none-past nodes place le = ap (λ (o : Option Node). option_map (seen_object place) o) (slice_get_past nodes place le)

-- the same below each of two places
below-same : (a b : ℕ) (old new : List Node) (h : List ℕ) (o : Option ℕ) → ((place : ℕ) → o ≡ Some place → bytes_eq h (handle_of place) ≡ true → seen_below a old new place ≡ seen_below b old new place) → below_by a old new h o ≡ below_by b old new h o
below-same a b old new h None same = refl
below-same a b old new h (Some place) same = elim (cases_Bool (bytes_eq h (handle_of place))) [
  | inl t ↦ rw t (same place refl t)
  | inr f ↦ rw f refl
]

below-old : (old new : List Node) (h : List ℕ) (o : Option ℕ) → seen_by old h o ≡ below_by 0 old new h o
below-old old new h None = refl
below-old old new h (Some place) = elim (cases_Bool (bytes_eq h (handle_of place))) [
  | inl t ↦ rw t (sym (not-yet 0 old new place (omega arith)))
  | inr f ↦ rw f refl
]

-- at the end all are those of the new export
all-new : (old new : List Node) → length old ≤ length new → (place : ℕ) → seen_below (length new) old new place ≡ seen_at new place
all-new old new more place = elim (cases_lt place (length new)) [
  | inl lt ↦ already (length new) old new place lt
  | inr le ↦ not-yet (length new) old new place le ∙ none-past old place (omega (arith, more, le)) ∙ sym (none-past new place le)
]

below-new : (old new : List Node) → length old ≤ length new → (h : List ℕ) (o : Option ℕ) → below_by (length new) old new h o ≡ seen_by new h o
below-new old new more h None = refl
below-new old new more h (Some place) = elim (cases_Bool (bytes_eq h (handle_of place))) [
  | inl t ↦ rw t (all-new old new more place)
  | inr f ↦ rw f refl
]

-- ---- the walk over places

begins-bare : (old new : List Node) (shown : List Object) → Mirrors old shown → Renewed 0 old new shown []
begins-bare old new shown shows = record {
  many = omega arith;
  shows = λ place. shows place ∙ sym (not-yet 0 old new place (omega arith));
  tells = λ h. below-old old new h (place_of h);
  names = λ h o is. absurd (cc);
}

pub begins : (old new : List Node) (shown : List Object) (objects : List Updated) → objects ≡ [] → Mirrors old shown → Renewed 0 old new shown objects
begins old new shown objects none shows = subst (λ (us : List Updated). Renewed 0 old new shown us) (sym none) (begins-bare old new shown shows)

pub ends : (old new : List Node) (shown : List Object) (objects : List Updated) → length old ≤ length new → Renewed (length new) old new shown objects → Changes old new shown objects
ends old new shown objects more r = record {
  shows = λ place. r.shows place ∙ all-new old new more place;
  tells = λ h. r.tells h ∙ below-new old new more h (place_of h);
}

-- a place beyond or before the next one is as it was
apart : (place at : ℕ) (old new : List Node) → (at ≡ place → ⊥) → seen_below place old new at ≡ seen_below (place + 1) old new at
apart place at old new other = elim (cases_lt at place) [
  | inl lt ↦ already place old new at lt ∙ sym (already (place + 1) old new at (omega (arith, lt)))
  | inr le ↦ not-yet place old new at le ∙ sym (not-yet (place + 1) old new at (above le))
]
  where
    above : place ≤ at → place + 1 ≤ at
    above le = elim (cases_lt place at) [
      | inl lt ↦ omega (arith, lt)
      | inr ge ↦ absurd (other (omega (arith, le, ge)))
    ]

wider : (place : ℕ) (h : List ℕ) → IsBelow place h → IsBelow (place + 1) h
wider place h b = record { place = b.place; is = b.is; below = omega (arith, b.below) }

there : (o : Option Object) (x : model.Object) → option_map object_of o ≡ Some x → (y : Object) × (o ≡ Some y)
there None x e = absurd (cc)
there (Some y) x e = (y, refl)

node-at : (nodes : List Node) (place : ℕ) (o : Option Node) → slice_get nodes place ≡ o → place < length nodes → (x : model.Object) × (seen_at nodes place ≡ Some x)
node-at nodes place None e lt = absurd (none-within nodes place lt e)
  where
    none-within : (ns : List Node) (at : ℕ) → at < length ns → slice_get ns at ≡ None → ⊥
    none-within [] at l e = omega (arith, l)
    none-within (n ∷ ns) zero l e = cc
    none-within (n ∷ ns) (suc at) l e = none-within ns at (omega (arith, l)) e
node-at nodes place (Some node) e lt = (seen_object place node, ap (λ (o : Option Node). option_map (seen_object place) o) e)

-- the object at the place is the one that was shown
pub keeps : (place : ℕ) (old new : List Node) (shown : List Object) (objects : List Updated) → place < length new → option_map object_of (slice_get shown place) ≡ seen_at new place → Renewed place old new shown objects → Renewed (place + 1) old new shown objects
keeps place old new shown objects lt same r = record {
  many = let n = node-at new place (slice_get new place) refl lt in let s = there (slice_get shown place) n.0 (same ∙ n.1) in omega (arith, slice_get_within shown place s.0 s.1);
  shows = λ at. r.shows at ∙ next at;
  tells = λ h. r.tells h ∙ below-same place (place + 1) old new h (place_of h) (λ at is t. next at);
  names = λ h o is. wider place h (r.names h o is);
}
  where
    next : (at : ℕ) → seen_below place old new at ≡ seen_below (place + 1) old new at
    next at = elim (cases_eq at place) [
      | inl e ↦ subst (λ (z : ℕ). seen_below place old new z ≡ seen_below (place + 1) old new z) (sym e) (sym (r.shows place) ∙ same ∙ sym (already (place + 1) old new place (omega arith)))
      | inr d ↦ apart place at old new d
    ]

abbrev update : ℕ → Object → Updated
update place copy = record { handle = handle_of place; object = copy }

-- the object at the place is another one: it is named and shown
moves-on : (place : ℕ) (old new : List Node) (before after : List Object) (objects : List Updated) (object copy : Object) → place < last_number → Some (object_of object) ≡ seen_at new place → object_of copy ≡ object_of object → IsShown place object before after → Renewed place old new before objects
    → Renewed (place + 1) old new after (objects ++ record { handle = handle_of place; object = copy } ∷ [])
moves-on place old new before after objects object copy small is same shown r = record {
  many = omega (arith, shown.many);
  shows = λ at. shows-at at;
  tells = λ h. tells-at h (cases_Bool (bytes_eq (handle_of place) h));
  names = λ h o e. names-at h o (named objects h) refl e (cases_Bool (bytes_eq (handle_of place) h));
}
  where
    shows-at : (at : ℕ) → option_map object_of (slice_get after at) ≡ seen_below (place + 1) old new at
    shows-at at = elim (cases_Bool (at == place)) [
      | inl t ↦
          let e : at ≡ place = eqb-true at place t in
          ap (λ (o : Option Object). option_map object_of o) (shown.is at ∙ chosen (at == place) (Some object) (slice_get before at) t) ∙ is ∙ sym (already (place + 1) old new place (omega arith)) ∙ ap (λ (z : ℕ). seen_below (place + 1) old new z) (sym e)
      | inr f ↦ ap (λ (o : Option Object). option_map object_of o) (shown.is at ∙ passed (at == place) (Some object) (slice_get before at) f) ∙ r.shows at ∙ apart place at old new (λ e. eqb-false at place f e)
    ]

    its : (h : List ℕ) → bytes_eq (handle_of place) h ≡ true → place_of h ≡ Some place
    its h t = ap place_of (sym ((bytes_eq-Decides (handle_of place) h).0 t)) ∙ place_is place small

    nothing : (h : List ℕ) → bytes_eq (handle_of place) h ≡ true → (o : Option Object) → named objects h ≡ o → named objects h ≡ None
    nothing h t None e = e
    nothing h t (Some o) e =
        let b = r.names h o e in
        let q : Some b.place ≡ Some place = sym b.is ∙ its h t in
        let p : b.place ≡ place = cc in
        absurd (omega (arith, b.below, p))

    tells-at : (h : List ℕ) → (bytes_eq (handle_of place) h ≡ true) ⊎ (bytes_eq (handle_of place) h ≡ false) → named_or (named (objects ++ update place copy ∷ []) h) (seen_by old h (place_of h)) ≡ below_by (place + 1) old new h (place_of h)
    tells-at h (inl t) =
        let n : named (objects ++ update place copy ∷ []) h ≡ Some copy =
        named-push objects (update place copy) h ∙ ap (λ (o : Option Object). or_else o (named (update place copy ∷ []) h)) (nothing h t (named objects h) refl) ∙ named-here (update place copy) h t in
        let e : h ≡ handle_of place = sym ((bytes_eq-Decides (handle_of place) h).0 t) in
        let back : bytes_eq h (handle_of place) ≡ true = (bytes_eq-Decides h (handle_of place)).1 e in
        let b : below_by (place + 1) old new h (Some place) ≡ seen_at new place = chosen (bytes_eq h (handle_of place)) (seen_below (place + 1) old new place) None back ∙ already (place + 1) old new place (omega arith) in
        ap (λ (o : Option Object). named_or o (seen_by old h (place_of h))) n ∙ ap Some same ∙ is ∙ sym b ∙ ap (below_by (place + 1) old new h) (sym (its h t))
    tells-at h (inr f) =
        let n : named (objects ++ update place copy ∷ []) h ≡ named objects h =
        named-push objects (update place copy) h ∙ ap (or_else (named objects h)) (named-past (update place copy) h f) ∙ or-none (named objects h) in
        ap (λ (o : Option Object). named_or o (seen_by old h (place_of h))) n ∙ r.tells h
        ∙ below-same place (place + 1) old new h (place_of h) (λ at q t. apart place at old new (λ e. clash at e t))
      where
        or-none : (o : Option Object) → or_else o None ≡ o
        or-none None = refl
        or-none (Some o) = refl

        clash : (at : ℕ) → at ≡ place → bytes_eq h (handle_of at) ≡ true → ⊥
        clash at e t =
            let s : h ≡ handle_of place = (bytes_eq-Decides h (handle_of at)).0 t ∙ ap handle_of e in
            let q : bytes_eq (handle_of place) h ≡ true = (bytes_eq-Decides (handle_of place) h).1 (sym s) in
            true≢false (sym q ∙ f)

    names-at : (h : List ℕ) (o : Object) (n : Option Object) → named objects h ≡ n → named (objects ++ update place copy ∷ []) h ≡ Some o → (bytes_eq (handle_of place) h ≡ true) ⊎ (bytes_eq (handle_of place) h ≡ false) → IsBelow (place + 1) h
    names-at h o n is-n e (inl t) = record { place = place; is = its h t; below = omega arith }
    names-at h o None is-n e (inr f) =
        let q : named (objects ++ update place copy ∷ []) h ≡ None =
        named-push objects (update place copy) h ∙ ap (λ (z : Option Object). or_else z (named (update place copy ∷ []) h)) is-n ∙ named-past (update place copy) h f in
        absurd (cc)
    names-at h o (Some m) is-n e (inr f) = wider place h (r.names h m is-n)

pub moves : (place : ℕ) (old new : List Node) (before after : List Object) (objects more : List Updated) (object copy : Object) (h : List ℕ) → place < last_number → Some (object_of object) ≡ seen_at new place
    → object_of copy ≡ object_of object → h ≡ handle_of place → more ≡ objects ++ record { handle = h; object = copy } ∷ [] → IsShown place object before after → Renewed place old new before objects
    → Renewed (place + 1) old new after more
moves place old new before after objects more object copy h small is same handle pushed shown r =
    let all : more ≡ objects ++ update place copy ∷ [] = pushed ∙ ap (λ (g : List ℕ). objects ++ record { handle = g; object = copy } ∷ []) handle in
    subst (λ (us : List Updated). Renewed (place + 1) old new after us) (sym all) (moves-on place old new before after objects object copy small is same shown r)

-- each object of a sound export has a file handle
pub small : (v : View) → Sound v → (place : ℕ) → place < length v.nodes → place < last_number
small v sound place lt = omega (arith, lt, sound.places, sound.numbers)

pub on-ok-then : {T E : Type 0} {P Q : Type 0} → (r : Result T E) → OnOk r P → (P → Q) → OnOk r Q
on-ok-then (Ok x) p f = f p
on-ok-then (Err e) p f = p

pub if-ok-then : {T E : Type 0} {P Q : T → Type 0} → (r : Result T E) → IfOk r P → ((x : T) → P x → Q x) → IfOk r Q
if-ok-then (Ok x) p f = f x p
if-ok-then (Err e) p f = p

-- ---- an object at a place

set-here : (xs : List Object) (q : ℕ) (y : Object) → q < length xs → slice_get (slice_set xs q y) q ≡ Some y
set-here [] q y lt = absurd (omega (arith, lt))
set-here (x ∷ xs) zero y lt = refl
set-here (x ∷ xs) (suc q) y lt = set-here xs q y (omega (arith, lt))

pub put : (place : ℕ) (object : Object) (before : List Object) → place < length before → IsShown place object before (slice_set before place object)
put place object before lt = record {
  many = let e : length (slice_set before place object) ≡ length before = length_set before place object in omega (arith, lt, e);
  is = λ at. elim (cases_Bool (at == place)) [
    | inl t ↦
        let e : at ≡ place = eqb-true at place t in
        ap (slice_get (slice_set before place object)) e ∙ set-here before place object lt ∙ sym (chosen (at == place) (Some object) (slice_get before at) t)
    | inr f ↦ get_set_other before place at object (λ e. eqb-false at place f e) ∙ sym (passed (at == place) (Some object) (slice_get before at) f)
  ];
}

pub push : (place : ℕ) (object : Object) (before after : List Object) → place ≡ length before → after ≡ before ++ object ∷ [] → IsShown place object before after
push place object before after end is = subst (λ (xs : List Object). IsShown place object before xs) (sym is) (record {
  many = let e : length (before ++ object ∷ []) ≡ length before + 1 = longer before in omega (arith, end, e);
  is = λ at. elim (cases_Bool (at == place)) [
    | inl t ↦
        let e : at ≡ length before = eqb-true at place t ∙ end in
        ap (slice_get (before ++ object ∷ [])) e ∙ get_last before object ∙ sym (chosen (at == place) (Some object) (slice_get before at) t)
    | inr f ↦ get_front_other before object at (λ e. eqb-false at place f (e ∙ sym end)) ∙ sym (passed (at == place) (Some object) (slice_get before at) f)
  ];
})
  where
    longer : (xs : List Object) → length (xs ++ object ∷ []) ≡ length xs + 1
    longer [] = refl
    longer (x ∷ xs) = omega (arith, longer xs)

-- a server without objects
pub empty : (h : List ℕ) (o : Option ℕ) → seen_by [] h o ≡ None
empty h None = refl
empty h (Some place) = elim (cases_Bool (bytes_eq h (handle_of place))) [
  | inl t ↦ rw t refl
  | inr f ↦ rw f refl
]

-- nothing moved, and nothing is named
pub unchanged : (old new : List Node) (shown : List Object) → new ≡ old → Mirrors old shown → Changes old new shown []
unchanged old new shown same shows = record {
  shows = subst (λ (nodes : List Node). Mirrors nodes shown) (sym same) shows;
  tells = λ h. ap (λ (nodes : List Node). seen_by nodes h (place_of h)) (sym same);
}
