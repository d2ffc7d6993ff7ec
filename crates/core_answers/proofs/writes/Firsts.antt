-- Who is the first in the order of a file, after another lane left its place or took one.
use Rattle.core_answers.proofs.Prelude.{◌≡◌, ◌≢◌, ◌<◌, ◌≤◌, ℕ, zero, suc, Bool, true, false, cond, nat_eq, List, [], ◌∷◌, ◌++◌, length, Option, Some, None, option_map, position, slice_get, ◌⊎◌, inl, inr, refl, sym, ap, subst, ◌∙◌, arith, nat_lt, if◌then◌else◌, eqb-true, cases_lt, LaneFile, left, is_first}
use Rattle.std.proofs.Common.{remove}
use Rattle.std.proofs.lemmas.Bool.{lt-ltb, le-ltb}
use Rattle.client_shelf.specs.LaneFiles.{is_lane, is_file, added, leads}
use Rattle.std.specs.Option.{option_map_or, option_and_then}
use Rattle.std.specs.List.{position_or_len}

some-place : (a b : LaneFile) → Some a ≡ Some b → a ≡ b
some-place a b e = cc

-- the first place that passes a test
seek : (LaneFile → Bool) → List LaneFile → Option LaneFile
seek p [] = None
seek p (x ∷ xs) = cond (p x) (Some x) (seek p xs)

module _ (p : LaneFile → Bool) where
  place-cons : (x : LaneFile) (xs : List LaneFile) → position_or_len p (x ∷ xs) ≡ cond (p x) 0 (suc (position_or_len p xs))
  place-cons x xs = by (p x) refl
    where
      by : (b : Bool) → p x ≡ b → position_or_len p (x ∷ xs) ≡ cond b 0 (suc (position_or_len p xs))
      by true d = rw d refl
      by false d = rw d (omega arith)

  within : (xs : List LaneFile) (b : Bool) → nat_lt (position_or_len p xs) (length xs) ≡ b → position p xs ≡ cond b (Some (position_or_len p xs)) None
  within xs b is = ap (λ (c : Bool). cond c (Some (position_or_len p xs)) None) is

  pub position-cons : (x : LaneFile) (xs : List LaneFile) → position p (x ∷ xs) ≡ cond (p x) (Some 0) (option_map suc (position p xs))
  position-cons x xs = by (p x) refl
    where
      at : (k : ℕ) → position_or_len p (x ∷ xs) ≡ k → (b : Bool) → nat_lt k (length (x ∷ xs)) ≡ b → position p (x ∷ xs) ≡ cond b (Some k) None
      at k is b lt =
          ap (λ (n : ℕ). cond (nat_lt n (length (x ∷ xs))) (Some n) None) is ∙ ap (λ (c : Bool). cond c (Some k) None) lt

      rest : (position_or_len p xs < length xs) ⊎ (length xs ≤ position_or_len p xs) → position_or_len p (x ∷ xs) ≡ suc (position_or_len p xs)
          → position p (x ∷ xs) ≡ option_map suc (position p xs)
      rest (inl low) is =
          at (suc (position_or_len p xs)) is true (lt-ltb (suc (position_or_len p xs)) (length (x ∷ xs)) (omega (arith, low)))
          ∙ sym (ap (λ (o : Option ℕ). option_map suc o) (within xs true (lt-ltb (position_or_len p xs) (length xs) low)))
      rest (inr high) is =
          at (suc (position_or_len p xs)) is false (le-ltb (suc (position_or_len p xs)) (length (x ∷ xs)) (omega (arith, high)))
          ∙ sym (ap (λ (o : Option ℕ). option_map suc o) (within xs false (le-ltb (position_or_len p xs) (length xs) high)))

      by : (b : Bool) → p x ≡ b → position p (x ∷ xs) ≡ cond b (Some 0) (option_map suc (position p xs))
      by true d = at 0 (place-cons x xs ∙ ap (λ (b : Bool). cond b 0 (suc (position_or_len p xs))) d) true (lt-ltb 0 (length (x ∷ xs)) (omega arith))
      by false d = rest (cases_lt (position_or_len p xs) (length xs)) (place-cons x xs ∙ ap (λ (b : Bool). cond b 0 (suc (position_or_len p xs))) d)

  at-position : (xs : List LaneFile) → option_and_then (λ at. slice_get xs at) (position p xs) ≡ seek p xs
  unfolding seek
  at-position [] = refl
  at-position (x ∷ xs) = ap (λ (o : Option ℕ). option_and_then (λ at. slice_get (x ∷ xs) at) o) (position-cons x xs) ∙ by (p x) (at-position xs)
    where
      step : (o : Option ℕ) → option_and_then (λ at. slice_get (x ∷ xs) at) (option_map suc o) ≡ option_and_then (λ at. slice_get xs at) o
      step None = refl
      step (Some k) = refl

      by : (b : Bool) → option_and_then (λ at. slice_get xs at) (position p xs) ≡ seek p xs
          → option_and_then (λ at. slice_get (x ∷ xs) at) (cond b (Some 0) (option_map suc (position p xs))) ≡ cond b (Some x) (seek p xs)
      by true rest = refl
      by false rest = step (position p xs) ∙ rest

  -- one that is found is found in front of more
  seek-more : (xs : List LaneFile) (y q : LaneFile) → seek p xs ≡ Some q → seek p (xs ++ y ∷ []) ≡ Some q
  unfolding seek
  seek-more [] y q is = absurd (let no_way : None ≡ Some q = is in cc)
  seek-more (x ∷ xs) y q is = by (p x) is (λ k. seek-more xs y q k)
    where
      by : (b : Bool) → cond b (Some x) (seek p xs) ≡ Some q → (seek p xs ≡ Some q → seek p (xs ++ y ∷ []) ≡ Some q) → cond b (Some x) (seek p (xs ++ y ∷ [])) ≡ Some q
      by true k rest = k
      by false k rest = rest k

left-cons : (lane : ℕ) (x : LaneFile) (xs : List LaneFile) → left lane (x ∷ xs) ≡ cond (nat_eq x.lane lane) xs (x ∷ left lane xs)
left-cons lane x xs = ap (λ (o : Option ℕ). option_map_or (λ at. remove (x ∷ xs) at) o (x ∷ xs)) (position-cons (is_lane lane) x xs) ∙ by (nat_eq x.lane lane)
  where
    step : (o : Option ℕ) → option_map_or (λ at. remove (x ∷ xs) at) (option_map suc o) (x ∷ xs) ≡ x ∷ option_map_or (λ at. remove xs at) o xs
    step None = refl
    step (Some k) = refl

    by : (b : Bool) → option_map_or (λ at. remove (x ∷ xs) at) (cond b (Some 0) (option_map suc (position (is_lane lane) xs))) (x ∷ xs) ≡ cond b xs (x ∷ left lane xs)
    by true = refl
    by false = step (position (is_lane lane) xs)

module _ (p : LaneFile → Bool) where
  -- one of another lane is found where a lane left its place
  seek-left : (lane : ℕ) (xs : List LaneFile) (q : LaneFile) → q.lane ≢ lane → seek p xs ≡ Some q → seek p (left lane xs) ≡ Some q
  unfolding seek
  seek-left lane [] q apart is = absurd (let no_way : None ≡ Some q = is in cc)
  seek-left lane (x ∷ xs) q apart is =
      subst (λ (ys : List LaneFile). seek p ys ≡ Some q) (sym (left-cons lane x xs)) (by (nat_eq x.lane lane) refl (p x) refl is (λ k. seek-left lane xs q apart k))
    where
      by : (b : Bool) → nat_eq x.lane lane ≡ b → (c : Bool) → p x ≡ c → cond c (Some x) (seek p xs) ≡ Some q → (seek p xs ≡ Some q → seek p (left lane xs) ≡ Some q)
          → seek p (cond b xs (x ∷ left lane xs)) ≡ Some q
      by true d true e k rest = absurd (apart (sym (ap (λ (y : LaneFile). y.lane) (some-place x q k)) ∙ eqb-true x.lane lane d))
      by true d false e k rest = k
      by false d true e k rest = ap (λ (c : Bool). cond c (Some x) (seek p (left lane xs))) e ∙ k
      by false d false e k rest = ap (λ (c : Bool). cond c (Some x) (seek p (left lane xs))) e ∙ rest k

-- ---- who is the first

record Finds (n : ℕ) (order : List LaneFile) : Type 0 where
  own : LaneFile
  there : seek (is_lane n) order ≡ Some own
  first : LaneFile
  leads_ : seek (is_file own.file) order ≡ Some first
  same : nat_eq first.lane own.lane ≡ true

seek-passes : (p : LaneFile → Bool) (xs : List LaneFile) (q : LaneFile) → seek p xs ≡ Some q → p q ≡ true
unfolding seek
seek-passes p [] q is = absurd (let no_way : None ≡ Some q = is in cc)
seek-passes p (x ∷ xs) q is = by (p x) refl is (λ k. seek-passes p xs q k)
  where
    by : (b : Bool) → p x ≡ b → cond b (Some x) (seek p xs) ≡ Some q → (seek p xs ≡ Some q → p q ≡ true) → p q ≡ true
    by true e k rest = subst (λ (y : LaneFile). p y ≡ true) (some-place x q k) e
    by false e k rest = rest k

finds : (n : ℕ) (order : List LaneFile) → is_first n order ≡ true → Finds n order
finds n order is = by (seek (is_lane n) order) refl (sym (ap (λ (o : Option LaneFile). option_map_or (λ place. leads place order) o false) (at-position (is_lane n) order)) ∙ is)
  where
    first : (own : LaneFile) → seek (is_lane n) order ≡ Some own → (o : Option LaneFile) → seek (is_file own.file) order ≡ o
        → option_map_or (λ (q : LaneFile). nat_eq q.lane own.lane) o false ≡ true → Finds n order
    first own there None e k = absurd (let no_way : false ≡ true = k in cc)
    first own there (Some q) e k = record { own = own; there = there; first = q; leads_ = e; same = k }

    by : (o : Option LaneFile) → seek (is_lane n) order ≡ o → option_map_or (λ place. leads place order) o false ≡ true → Finds n order
    by None e k = absurd (let no_way : false ≡ true = k in cc)
    by (Some own) e k =
        first own e (seek (is_file own.file) order) refl
        (sym (ap (λ (o : Option LaneFile). option_map_or (λ (q : LaneFile). nat_eq q.lane own.lane) o false) (at-position (is_file own.file) order)) ∙ k)

is-first : (n : ℕ) (order : List LaneFile) → Finds n order → is_first n order ≡ true
is-first n order f =
    ap (λ (o : Option LaneFile). option_map_or (λ place. leads place order) o false) (at-position (is_lane n) order ∙ f.there)
    ∙ ap (λ (o : Option LaneFile). option_map_or (λ (q : LaneFile). nat_eq q.lane f.own.lane) o false) (at-position (is_file f.own.file) order ∙ f.leads_) ∙ f.same

own-lane : (n : ℕ) (order : List LaneFile) (f : Finds n order) → f.own.lane ≡ n
own-lane n order f = eqb-true f.own.lane n (seek-passes (is_lane n) order f.own f.there)

-- Who is first stays so where another lane leaves its place, and where one takes the last place.
pub first-left : (n lane : ℕ) (order : List LaneFile) → n ≢ lane → is_first n order ≡ true → is_first n (left lane order) ≡ true
first-left n lane order apart is =
    let f = finds n order is in
    let own = own-lane n order f in
    let first : f.first.lane ≡ n = eqb-true f.first.lane f.own.lane f.same ∙ own in
    is-first n (left lane order) (record {
      own = f.own;
      there = seek-left (is_lane n) lane order f.own (λ same. apart (sym own ∙ same)) f.there;
      first = f.first;
      leads_ = seek-left (is_file f.own.file) lane order f.first (λ same. apart (sym first ∙ same)) f.leads_;
      same = f.same;
    })

pub first-added : (n : ℕ) (place : LaneFile) (order : List LaneFile) → is_first n order ≡ true → is_first n (added place order) ≡ true
first-added n place order is = by (nat_lt (length order) 16)
  where
    f : Finds n order
    f = finds n order is

    by : (b : Bool) → is_first n (if b then order ++ place ∷ [] else order) ≡ true
    by false = is
    by true = is-first n (order ++ place ∷ []) (record {
      own = f.own;
      there = seek-more (is_lane n) order place f.own f.there;
      first = f.first;
      leads_ = seek-more (is_file f.own.file) order place f.first f.leads_;
      same = f.same;
    })

-- ---- one alone is the first of a file

record Stands (xs : List LaneFile) (q : LaneFile) : Type 0 where
  at : ℕ
  there : slice_get xs at ≡ Some q

seek-there : (p : LaneFile → Bool) (xs : List LaneFile) (q : LaneFile) → seek p xs ≡ Some q → Stands xs q
unfolding seek
seek-there p [] q is = absurd (let no_way : None ≡ Some q = is in cc)
seek-there p (x ∷ xs) q is = by (p x) is (λ k. seek-there p xs q k)
  where
    by : (b : Bool) → cond b (Some x) (seek p xs) ≡ Some q → (seek p xs ≡ Some q → Stands xs q) → Stands (x ∷ xs) q
    by true k rest = record { at = zero; there = k }
    by false k rest = let s = rest k in record { at = suc s.at; there = s.there }

some-file : (a b : List ℕ) → Some a ≡ Some b → a ≡ b
some-file a b e = cc

-- where each place in the order is the seat of its lane
pub same-first : (seats : ℕ → Option (List ℕ)) (order : List LaneFile) → ((k : ℕ) (place : LaneFile) → slice_get order k ≡ Some place → seats place.lane ≡ Some place.file)
    → (n l : ℕ) (f : List ℕ) → seats n ≡ Some f → seats l ≡ Some f → is_first n order ≡ true → is_first l order ≡ true → n ≡ l
same-first seats order sound n l f at_n at_l first_n first_l =
    sym (first-is n a) ∙ ap (λ (q : LaneFile). q.lane) same ∙ first-is l b
  where
    a : Finds n order
    a = finds n order first_n

    b : Finds l order
    b = finds l order first_l

    first-is : (k : ℕ) (c : Finds k order) → c.first.lane ≡ k
    first-is k c = eqb-true c.first.lane c.own.lane c.same ∙ own-lane k order c

    file-is : (k : ℕ) (c : Finds k order) → seats k ≡ Some f → c.own.file ≡ f
    file-is k c at =
        let s = seek-there (is_lane k) order c.own c.there in
        some-file c.own.file f (sym (sound s.at c.own s.there) ∙ ap seats (own-lane k order c) ∙ at)

    same : a.first ≡ b.first
    same =
        some-place a.first b.first
        (sym a.leads_ ∙ ap (λ (g : List ℕ). seek (is_file g) order) (file-is n a at_n ∙ sym (file-is l b at_l)) ∙ b.leads_)
