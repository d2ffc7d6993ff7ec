-- What is kept of the writes, after the entry of one of them is set, changed or taken out.
use Rattle.std.proofs.Common.{◌≡◌, ◌<◌, ◌≤◌, ℕ, zero, suc, ◌+◌, ◌-◌, Bool, true, false, List, [], ◌∷◌, Option, Some, None, refl, sym, ap, ◌∙◌, ◌⊎◌, inl, inr, subst, arith, nat_cmp}
use Rattle.std.specs.Prelude.{◌≢◌, IsSome, IfSome}
use Rattle.std.specs.Ordering.{is_gt}
use Rattle.std.specs.declared.cmp.Ordering.{Ordering}
use Rattle.std.specs.declared.cmp.Ordering.TheVariants.{Less, Equal, Greater}
use Rattle.std.specs.Cmp.Lexicographic.{slice_cmp}
use Rattle.std.specs.Map.{lookup, set_value, remove_entry}
use Rattle.std.specs.BTreeMap.{BTreeMap, is_at, get, insert_entry, UpdatesBy, WritesThrough, IsLowerBound}
use Rattle.std.proofs.lemmas.Bool.{cases_eq, eq-eqb, ne_eqb}
use Rattle.std.proofs.lemmas.Cmp.{ranked, tied_itself, nat_list_cmp_total}
use Rattle.std.proofs.lemmas.List.Elements.{All-cons, All-head, All-tail}
use Rattle.std.proofs.lemmas.Map.Entries.{All-lookup}
use Rattle.write_back.specs.declared.ages.Age.{Age}
use Rattle.write_back.specs.Ages.{Writes, HaveBytes, Raises, raised_by, Enters, IsFirst, kept_for, kept_by, only}
use Rattle.write_back.proofs.Keys.{is-at}
use Rattle.write_back.proofs.ByFile.{other-false}
use Rattle.write_back.proofs.WritesKept.{raised-some}

-- whether the entry of a write is found by another number
apart-at : (number n : ℕ) → (number ≡ n → ⊥) → is_at (nat_cmp number) n ≡ false
apart-at number n apart = by (is_at (nat_cmp number) n) refl
  where
    by : (b : Bool) → is_at (nat_cmp number) n ≡ b → is_at (nat_cmp number) n ≡ false
    by true h = absurd (apart (is-at number n h))
    by false h = h

pub same-file : (file : List ℕ) → is_at (slice_cmp nat_cmp file) file ≡ true
same-file file = rw (tied_itself nat_list_cmp_total file) refl

-- each write has bytes after a step
pub have-set : (test : ℕ → Bool) (es : Writes) (w : Age) → 0 < w.bytes → HaveBytes es → HaveBytes (set_value test es w)
have-set test [] w some have = have
have-set test (e ∷ es) w some have = by (test e.0) refl (have-set test es w some (All-tail (λ (e : ℕ × Age). 0 < e.1.bytes) e es have))
  where
    by : (b : Bool) → test e.0 ≡ b → HaveBytes (set_value test es w) → HaveBytes (set_value test (e ∷ es) w)
    by true h more = rw h (All-cons (λ (e : ℕ × Age). 0 < e.1.bytes) (e.0, w) es some (All-tail (λ (e : ℕ × Age). 0 < e.1.bytes) e es have))
    by false h more = rw h (All-cons (λ (e : ℕ × Age). 0 < e.1.bytes) e (set_value test es w) (All-head (λ (e : ℕ × Age). 0 < e.1.bytes) e es have) more)

pub have-removed : (test : ℕ → Bool) (es : Writes) → HaveBytes es → HaveBytes (remove_entry test es)
have-removed test [] have = have
have-removed test (e ∷ es) have = by (test e.0) refl (have-removed test es (All-tail (λ (e : ℕ × Age). 0 < e.1.bytes) e es have))
  where
    by : (b : Bool) → test e.0 ≡ b → HaveBytes (remove_entry test es) → HaveBytes (remove_entry test (e ∷ es))
    by true h more = rw h (All-tail (λ (e : ℕ × Age). 0 < e.1.bytes) e es have)
    by false h more = rw h (All-cons (λ (e : ℕ × Age). 0 < e.1.bytes) e (remove_entry test es) (All-head (λ (e : ℕ × Age). 0 < e.1.bytes) e es have) more)

pub have-inserted : (number : ℕ) (es : Writes) (w : Age) → 0 < w.bytes → HaveBytes es → HaveBytes (insert_entry nat_cmp es number w)
have-inserted number [] w some have = All-cons (λ (e : ℕ × Age). 0 < e.1.bytes) (number, w) [] some have
have-inserted number (e ∷ es) w some have = by (nat_cmp number e.0) refl (have-inserted number es w some (All-tail (λ (e : ℕ × Age). 0 < e.1.bytes) e es have))
  where
    by : (r : Ordering) → nat_cmp number e.0 ≡ r → HaveBytes (insert_entry nat_cmp es number w) → HaveBytes (insert_entry nat_cmp (e ∷ es) number w)
    by Less h more = rw h (All-cons (λ (e : ℕ × Age). 0 < e.1.bytes) (number, w) (e ∷ es) some have)
    by Equal h more = rw h (All-cons (λ (e : ℕ × Age). 0 < e.1.bytes) (e.0, w) es some (All-tail (λ (e : ℕ × Age). 0 < e.1.bytes) e es have))
    by Greater h more = rw h (All-cons (λ (e : ℕ × Age). 0 < e.1.bytes) e (insert_entry nat_cmp es number w) (All-head (λ (e : ℕ × Age). 0 < e.1.bytes) e es have) more)

-- the bytes of a write that is found
pub have-found : (test : ℕ → Bool) (es : Writes) (w : Age) → HaveBytes es → lookup test es ≡ Some w → 0 < w.bytes
have-found test es w have found = subst (λ (o : Option Age). IfSome o (λ w. 0 < w.bytes)) found (All-lookup (λ (w : Age). 0 < w.bytes) test es have)

-- how many are kept of a file after more came
kept-more : (file : List ℕ) (v w : Age) (amount : ℕ) → w.file ≡ v.file → w.bytes ≡ v.bytes + amount → 0 < v.bytes → kept_for file (Some w) ≡ raised_by amount (kept_for file (Some v))
kept-more file v w amount same is some = by (is_at (slice_cmp nat_cmp file) v.file) refl
  where
    by : (b : Bool) → is_at (slice_cmp nat_cmp file) v.file ≡ b → kept_for file (Some w) ≡ raised_by amount (kept_for file (Some v))
    by true h = rw (same, h) (is ∙ sym (raised-some amount v.bytes some))
    by false h = rw (same, h) refl

-- the bytes of the file that a write names
pub kept-named : (es : Writes) (number : ℕ) (v : Age) → lookup (is_at (nat_cmp number)) es ≡ Some v → kept_by es v.file number ≡ v.bytes
kept-named es number v found = ap (kept_for v.file) found ∙ rw (same-file v.file) refl

pub only-here : (number amount n : ℕ) → number ≡ n → only number amount n ≡ amount
only-here number amount n is = rw (eq-eqb number n is) refl

pub only-none : (number amount n : ℕ) → (number ≡ n → ⊥) → only number amount n ≡ 0
only-none number amount n apart = rw (ne_eqb number n apart) refl

-- one write gets more bytes
raises-at : (old new : Writes) (number amount : ℕ) → ((file : List ℕ) → kept_by new file number ≡ raised_by amount (kept_by old file number)) → ((file : List ℕ) (n : ℕ) → (number ≡ n → ⊥) → kept_by new file n ≡ kept_by old file n) → Raises (only number amount) old new
raises-at old new number amount here others file n = by (cases_eq number n)
  where
    none : (k : ℕ) → k ≡ raised_by 0 k
    none zero = refl
    none (suc k) = omega arith

    by : (number ≡ n) ⊎ (number ≡ n → ⊥) → kept_by new file n ≡ raised_by (only number amount n) (kept_by old file n)
    by (inl is) = rw (only-here number amount n is) (subst (λ m. kept_by new file m ≡ raised_by amount (kept_by old file m)) is (here file))
    by (inr apart) = rw (only-none number amount n apart) (others file n apart ∙ none (kept_by old file n))

some-of : (o : Option Age) (v : Age) → o ≡ Some v → IsSome o
some-of None v is = absurd cc
some-of (Some w) v is = refl

-- the entry of a write is updated
module _ (m n : BTreeMap ℕ Age) (number : ℕ) (w : Option Age) (changes : UpdatesBy nat_cmp (nat_cmp number) m n w) where
  updated-here : (file : List ℕ) → kept_by n.entries file number ≡ kept_for file w
  updated-here file = ap (kept_for file) changes.1

  updated-others : (file : List ℕ) (q : ℕ) → (number ≡ q → ⊥) → kept_by n.entries file q ≡ kept_by m.entries file q
  updated-others file q apart = ap (kept_for file) (changes.2 q (apart-at number q apart))

-- it gets more, or keeps some
module _ (m n : BTreeMap ℕ Age) (number amount : ℕ) (v w : Age) (found : lookup (is_at (nat_cmp number)) m.entries ≡ Some v) (writes : WritesThrough nat_cmp (nat_cmp number) m w n) (same : w.file ≡ v.file) where
  changes : UpdatesBy nat_cmp (nat_cmp number) m n (Some w)
  changes = writes.3 (some-of (lookup (is_at (nat_cmp number)) m.entries) v found)

  pub raises-some : HaveBytes m.entries → w.bytes ≡ v.bytes + amount → Raises (only number amount) m.entries n.entries
  raises-some have is =
      raises-at m.entries n.entries number amount
      (λ file. updated-here m n number (Some w) changes file ∙ kept-more file v w amount same is (have-found (is_at (nat_cmp number)) m.entries v have found) ∙ ap (λ o. raised_by amount (kept_for file o)) (sym found))
      (updated-others m n number (Some w) changes)

  pub have-through : HaveBytes m.entries → 0 < w.bytes → HaveBytes n.entries
  have-through have some = subst HaveBytes (sym writes.0) (have-set (is_at (nat_cmp number)) m.entries w some have)

-- a write is entered
pub enters : (m n : BTreeMap ℕ Age) (number bytes : ℕ) (file : List ℕ) (w : Age) → w.file ≡ file → w.bytes ≡ bytes → UpdatesBy nat_cmp (nat_cmp number) m n (Some w) → Enters number file bytes m.entries n.entries
enters m n number bytes file w file-is bytes-is changes = record {
  here = updated-here m n number (Some w) changes file ∙ rw (file-is, same-file file) bytes-is;
  elsewhere = λ other apart. updated-here m n number (Some w) changes other ∙ elsewhere other apart;
  others = λ other q apart. updated-others m n number (Some w) changes other q (λ is. apart (sym is));
}
  where
    elsewhere : (other : List ℕ) → other ≢ file → kept_for other (Some w) ≡ 0
    elsewhere other apart = rw (file-is, other-false other file (λ is. apart (sym is))) refl

-- the first write that is kept
kept-some : (o : Option Age) (file : List ℕ) → 0 < kept_for file o → IsSome o
kept-some None file some = absurd (omega (arith, some))
kept-some (Some v) file some = refl

not-above : (a q : ℕ) → is_gt (nat_cmp a q) ≡ false → a ≤ q
not-above a q h = by (nat_cmp a q) refl
  where
    by : (r : Ordering) → r ≡ nat_cmp a q → a ≤ q
    by Less e = omega (arith, ranked a q Less e)
    by Equal e = omega (arith, ranked a q Equal e)
    by Greater e = let f : true ≡ false = (rw (← e) at h) in absurd cc

pub is-first : (m : BTreeMap ℕ Age) (number : ℕ) (v : Age) → HaveBytes m.entries → get nat_cmp m number ≡ Some v → IsLowerBound nat_cmp m number → IsFirst m.entries v.file
is-first m number v have found lower = record {
  number = number;
  there = omega (arith, kept-named m.entries number v found, have-found (is_at (nat_cmp number)) m.entries v have found);
  least = λ other n some. not-above number n (lower n (kept-some (get nat_cmp m n) other some));
}
