-- What slots hold, one operation after another; and that the tests find what the history shows.
use Rattle.std.proofs.Common.{◌≡◌, ◌<◌, ◌≤◌, ◌+◌, ◌⊎◌, inl, inr, ℕ, zero, suc, true, false, true≢false, List, [], ◌∷◌, ◌++◌, append-nil, length, Option, Some, None, slice_get, refl, sym, ◌∙◌, ap, subst, arith}
use Rattle.std.specs.Prelude.{max}
use Rattle.std.proofs.lemmas.Bool.{cases_lt, cases_Bool}
use Rattle.trace_claims.specs.declared.operations.Hold.{Hold}
use Rattle.trace_claims.specs.declared.slots.Named.{Named}
use Rattle.trace_claims.specs.Slotted.{closes_there, close_at, later, hold_by, list_of, LastClose, HoldsUpTo}

-- ---- the last close

some-named : (a b : Named) → Some a ≡ Some b → a ≡ b
some-named a b e = cc

pub none-closes : (ns : List Named) (lane slot place : ℕ) → LastClose ns lane slot place 0 None
none-closes ns lane slot place = λ j n at lt. absurd (omega (arith, lt))

earlier-or-this : (j k : ℕ) → j < k + 1 → (j < k) ⊎ (j ≡ k)
earlier-or-this j k lt = elim (cases_lt j k) [
  | inl before ↦ inl before
  | inr le ↦ inr (omega (arith, le, lt))
]

-- one operation more
pub last-more : (ns : List Named) (lane slot place k : ℕ) (n : Named) (last : Option ℕ) → slice_get ns k ≡ Some n → LastClose ns lane slot place k last → LastClose ns lane slot place (k + 1) (later last (close_at n lane slot place))
last-more ns lane slot place k n last at known = elim (cases_Bool (closes_there n lane slot place)) [
  | inl closes ↦ subst (λ (o : Option ℕ). LastClose ns lane slot place (k + 1) (later last o)) (sym (there closes)) (closing closes last known)
  | inr other ↦ subst (λ (o : Option ℕ). LastClose ns lane slot place (k + 1) (later last o)) (sym (nothing other)) (passing other last known)
]
  where
    there : closes_there n lane slot place ≡ true → close_at n lane slot place ≡ Some n.course.ending.end
    there t = rw t refl

    nothing : closes_there n lane slot place ≡ false → close_at n lane slot place ≡ None
    nothing t = rw t refl

    this : (j : ℕ) (o : Named) → slice_get ns j ≡ Some o → j ≡ k → n ≡ o
    this j o is same = some-named n o (sym at ∙ subst (λ (z : ℕ). slice_get ns z ≡ Some o) same is)

    passing : closes_there n lane slot place ≡ false → (last : Option ℕ) → LastClose ns lane slot place k last → LastClose ns lane slot place (k + 1) (later last None)
    passing f None none = λ j o is lt. elim (earlier-or-this j k lt) [
      | inl before ↦ none j o is before
      | inr same ↦ subst (λ (z : Named). closes_there z lane slot place ≡ false) (this j o is same) f
    ]
    passing f (Some a) known = record {
      j = known.j;
      n = known.n;
      is = known.is;
      closes = known.closes;
      there = known.there;
      most = λ j o is lt closes. elim (earlier-or-this j k lt) [
        | inl before ↦ known.most j o is before closes
        | inr same ↦ absurd (true≢false (sym closes ∙ subst (λ (z : Named). closes_there z lane slot place ≡ false) (this j o is same) f))
      ];
    }

    closing : closes_there n lane slot place ≡ true → (last : Option ℕ) → LastClose ns lane slot place k last → LastClose ns lane slot place (k + 1) (later last (Some n.course.ending.end))
    closing t None none = record {
      j = k;
      n = n;
      is = at;
      closes = t;
      there = refl;
      most = λ j o is lt closes. elim (earlier-or-this j k lt) [
        | inl before ↦ absurd (true≢false (sym closes ∙ none j o is before))
        | inr same ↦ let e : n ≡ o = this j o is same in subst (λ (z : Named). z.course.ending.end ≤ n.course.ending.end) e (omega arith)
      ];
    }
    closing t (Some a) known = elim (cases_lt a n.course.ending.end) [
      | inl less ↦ record {
        j = k;
        n = n;
        is = at;
        closes = t;
        there = omega (arith, less);
        most = λ j o is lt closes. elim (earlier-or-this j k lt) [
          | inl before ↦ let le = known.most j o is before closes in omega (arith, le, less)
          | inr same ↦ let e : n ≡ o = this j o is same in subst (λ (z : Named). z.course.ending.end ≤ max a n.course.ending.end) e (omega (arith, less))
        ];
      }
      | inr le ↦ record {
        j = known.j;
        n = known.n;
        is = known.is;
        closes = known.closes;
        there = let is = known.there in omega (arith, is, le);
        most = λ j o is lt closes. elim (earlier-or-this j k lt) [
          | inl before ↦ let few = known.most j o is before closes in omega (arith, few, le)
          | inr same ↦ let e : n ≡ o = this j o is same in subst (λ (z : Named). z.course.ending.end ≤ max a n.course.ending.end) e (omega (arith, le))
        ];
      }
    ]

-- ---- what a slot holds

some-hold : (a b : Hold) → Some a ≡ Some b → a ≡ b
some-hold a b e = cc

get-last : (hs : List Hold) (c : Hold) (k : ℕ) (d : Hold) → slice_get (hs ++ c ∷ []) k ≡ Some d → (slice_get hs k ≡ Some d) ⊎ (c ≡ d)
get-last [] c zero d at = inr (some-hold c d at)
get-last [] c (suc k) d at = absurd cc
get-last (x ∷ hs) c zero d at = inl at
get-last (x ∷ hs) c (suc k) d at = get-last hs c k d at

get-grow : (hs : List Hold) (c : Hold) (k : ℕ) (d : Hold) → slice_get hs k ≡ Some d → slice_get (hs ++ c ∷ []) k ≡ Some d
get-grow [] c k d at = absurd cc
get-grow (x ∷ hs) c zero d at = at
get-grow (x ∷ hs) c (suc k) d at = get-grow hs c k d at

get-new : (hs : List Hold) (c : Hold) → slice_get (hs ++ c ∷ []) (length hs) ≡ Some c
get-new [] c = refl
get-new (x ∷ hs) c = get-new hs c

pub no-holds : (ns : List Named) (lane slot place : ℕ) (closed : Option ℕ) → HoldsUpTo ns lane slot place closed 0 []
no-holds ns lane slot place closed = record { each = λ i hold at. absurd cc; every = λ j n hold at lt is. absurd (omega (arith, lt)) }

-- one operation more
pub more-holds : (ns : List Named) (lane slot place : ℕ) (closed : Option ℕ) (k : ℕ) (n : Named) (hs : List Hold) (found : Option Hold) → slice_get ns k ≡ Some n → found ≡ hold_by n lane slot place closed
    → HoldsUpTo ns lane slot place closed k hs → HoldsUpTo ns lane slot place closed (k + 1) (hs ++ list_of found)
more-holds ns lane slot place closed k n hs None at is has = subst (λ (l : List Hold). HoldsUpTo ns lane slot place closed (k + 1) l) (sym (append-nil hs)) (record {
  each = λ i hold there. let old = has.each i hold there in (old.0, old.1, (let lt = old.2 in omega (arith, lt)), old.3, old.4);
  every = λ j o hold there lt by. elim (earlier-or-this j k lt) [
    | inl before ↦ has.every j o hold there before by
    | inr same ↦ absurd (none o hold (some-named n o (sym at ∙ subst (λ (z : ℕ). slice_get ns z ≡ Some o) same there)) by)
  ];
})
  where
    none : (o : Named) (hold : Hold) → n ≡ o → hold_by o lane slot place closed ≡ Some hold → ⊥
    none o hold e by = let no_way : None ≡ Some hold = is ∙ ap (λ (z : Named). hold_by z lane slot place closed) e ∙ by in cc
more-holds ns lane slot place closed k n hs (Some c) at is has = record {
  each = λ i hold there. elim (get-last hs c i hold there) [
    | inl old_one ↦ let old = has.each i hold old_one in (old.0, old.1, (let lt = old.2 in omega (arith, lt)), old.3, old.4)
    | inr same ↦ (k, n, omega arith, at, sym is ∙ ap (λ (z : Hold). Some z) same)
  ];
  every = λ j o hold there lt by. elim (earlier-or-this j k lt) [
    | inl before ↦ let old = has.every j o hold there before by in (old.0, get-grow hs c old.0 hold old.1)
    | inr same ↦ (length hs, new o hold (some-named n o (sym at ∙ subst (λ (z : ℕ). slice_get ns z ≡ Some o) same there)) by)
  ];
}
  where
    new : (o : Named) (hold : Hold) → n ≡ o → hold_by o lane slot place closed ≡ Some hold → slice_get (hs ++ c ∷ []) (length hs) ≡ Some hold
    new o hold e by = get-new hs c ∙ is ∙ ap (λ (z : Named). hold_by z lane slot place closed) e ∙ by
