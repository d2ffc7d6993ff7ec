-- What may have been changed whole by a moment is held at each later one.
use Rattle.std.proofs.Common.{◌≡◌, ◌≤◌, ◌+◌, inl, inr, ℕ, Bool, true, false, true≢false, List, [], Option, Some, None, slice_get, refl, sym, ◌∙◌, ap, arith}
use Rattle.std.specs.Prelude.{◌-◌, ◌&&◌, ◌||◌, nat_le, if◌then◌else◌}
use Rattle.std.proofs.lemmas.Bool.{cases_lt, or_cases, or_left, or_right}
use Rattle.world_model.specs.declared.entry.Entry.{Entry}
use Rattle.trace_data.specs.declared.trace.Trace.{Trace}
use Rattle.trace_claims.specs.declared.courses.Course.{Course}
use Rattle.trace_claims.specs.declared.digest.Digest.{Digest}
use Rattle.trace_claims.specs.Bytes.{byte_from, byte_of, same_byte, shows}
use Rattle.trace_claims.specs.Courses.{range}
use Rattle.trace_claims.specs.Keeping.{is_touched, is_kept}
use Rattle.trace_claims.specs.Objects.{now_at, stable_at, is_gone_at}
use Rattle.trace_claims.specs.Staying.{question_at, question_past, held_in, held_by_range, is_held, outdated_in, outdated_by_range, is_outdated, StaysFrom}
use Rattle.trace_claims.specs.Touching.{is_foreign, is_rewritten, is_given_up}
use Rattle.trace_claims.proofs.Moving.{touched-later}
use Rattle.trace_claims.proofs.Placing.{places-told, places-shown}

-- ---- lists without bytes show nothing

abbrev no_bytes : List ℕ
no_bytes = []

none-if : (b : Bool) (k : ℕ) → (if b then slice_get no_bytes k else None) ≡ None
none-if true k = refl
none-if false k = refl

none-from : (offset i : ℕ) → byte_from no_bytes offset i ≡ None
unfolding byte_from
none-from offset i = none-if (nat_le offset i) (i - offset)

shows-nothing : (h : List Entry) (x offset i : ℕ) → shows h x no_bytes no_bytes offset i ≡ false
shows-nothing h x offset i = ap (λ (z : Option ℕ). same_byte z (byte_of h x i) && same_byte z (byte_of h x i)) (none-from offset i)

-- ---- what may have been changed of a file, be it gone or not

or-with : (a b c g : Bool) → (a || b || false || c) ≡ true → (a || b || g || c) ≡ true
or-with a b c g t = elim (or_cases (a || b || false) c t) [
  | inl x ↦ or_left (a || b || g) c (or_left (a || b) g (elim (or_cases (a || b) false x) [ inl y ↦ y | inr y ↦ absurd (true≢false (sym y)) ]))
  | inr x ↦ or_right (a || b || g) c x
]

past-touched : (d : Digest) (w : Course) (n p : ℕ) (f : List ℕ) (gone : Bool) (i : ℕ) → is_touched d w (question_past n p f) i ≡ true
    → is_touched d w (record { length = n; moment = p; file = f; gone = gone }) i ≡ true
unfolding is_touched
past-touched d w n p f gone i t =
    or-with (is_foreign d.foreign.items w.place p f i) (is_rewritten d.operations.items n w p f i) (is_given_up d.left.items d.operations.items n w p f) gone t

-- ---- from a moment on

outdated-kept : (t : Trace) (d : Digest) (n : ℕ) (w : Course) (p q : ℕ) (f : List ℕ) (i : ℕ) → p ≤ q → is_kept t.entries.items d w (question_past n p f) no_bytes no_bytes 0 i ≡ true
    → is_kept t.entries.items d w (question_at t n q f) (now_at t q f) (stable_at t q f) 0 i ≡ true
outdated-kept t d n w p q f i le k =
    elim (or_cases (shows t.entries.items w.place no_bytes no_bytes 0 i) (is_touched d w (question_past n p f) i) k) [
      | inl shown ↦ absurd (true≢false (sym shown ∙ shows-nothing t.entries.items w.place 0 i))
      | inr touched ↦
          or_right (shows t.entries.items w.place (now_at t q f) (stable_at t q f) 0 i) (is_touched d w (question_at t n q f) i)
          (touched-later d w n p q f (is_gone_at t q f) i le (past-touched d w n p f (is_gone_at t q f) i touched))
    ]

outdated-in : (t : Trace) (d : Digest) (n : ℕ) (w : Course) (p q : ℕ) (f : List ℕ) (from to : ℕ) → p ≤ q → outdated_in t d n w p f from to ≡ true → held_in t d n w q f from to ≡ true
unfolding outdated_in held_in
outdated-in t d n w p q f from to le outdated =
    places-shown (is_kept t.entries.items d w (question_at t n q f) (now_at t q f) (stable_at t q f) 0) from to
    (λ i low high. outdated-kept t d n w p q f i le (places-told (is_kept t.entries.items d w (question_past n p f) no_bytes no_bytes 0) from to outdated i low high))

outdated-range : (t : Trace) (d : Digest) (n : ℕ) (w : Course) (p q : ℕ) (f : List ℕ) (r : Option (ℕ × ℕ)) → p ≤ q → outdated_by_range t d n w p f r ≡ true
    → held_by_range t d n w q f r ≡ true
outdated-range t d n w p q f None le outdated = refl
outdated-range t d n w p q f (Some r) le outdated = outdated-in t d n w p q f r.0 r.1 le outdated

outdated-held : (t : Trace) (d : Digest) (n : ℕ) (w : Course) (p q : ℕ) (f : List ℕ) → p ≤ q → is_outdated t d n w p f ≡ true → is_held t d n w q f ≡ true
unfolding is_outdated is_held
outdated-held t d n w p q f le outdated = outdated-range t d n w p q f (range w.work) le outdated

-- what stays up to a place, and may have been changed whole after the entry there, stays
pub stays-outdated : (t : Trace) (d : Digest) (n : ℕ) (w : Course) (f : List ℕ) (settled place to : ℕ) → StaysFrom t d n w f settled place → is_outdated t d n w (place + 1) f ≡ true
    → StaysFrom t d n w f settled to
stays-outdated t d n w f settled place to so-far outdated p low high = elim (cases_lt place p) [
  | inl later ↦ outdated-held t d n w (place + 1) p f (omega (arith, later)) outdated
  | inr before ↦ so-far p low before
]
