-- Which lane stands before which in the order of files, after another lane left its place or took one; who is the first stands before all others of its file.
use Rattle.core_session.proofs.Prelude.{◌≡◌, ◌≢◌, ◌<◌, ◌≤◌, ◌+◌, ℕ, zero, suc, Bool, true, false, cond, nat_eq, List, [], ◌∷◌, ◌++◌, length, remove, Option, Some, None, option_map, position, slice_get, Result, refl, sym, ap, ◌∙◌, arith, nat_lt, if◌then◌else◌, option_map_or, eqb-true, Fault, Reply, LaneFile, Step, Send, Wait, Done, Shelf, Turn, is_lane, added, left, is_first, Machine, Starts, Resumes, Takes, in_flight, Counts, IsCounted, IsUnbegun, counts-calls, IsLive, IsFreshFor, still-there, before-push, Sits}
use Rattle.std.specs.Option.{option_and_then}
use Rattle.client_shelf.specs.LaneFiles.{is_file, leads}
use Rattle.std.specs.Cmp.Lexicographic.{bytes_decides}
use Rattle.core_facts.proofs.AllSeats as seats
use Rattle.core_facts.proofs.FileSeats.{Seats}
use Rattle.core_answers.proofs.writes.Firsts.{position-cons}

-- ---- lists

-- of two places the first stays before the second where another element was taken out
pub record BothStand {A : Type 0} (xs : List A) (x y : A) : Type 0 where
  pub i : ℕ
  pub j : ℕ
  pub low : i < j
  pub one : slice_get xs i ≡ Some x
  pub two : slice_get xs j ≡ Some y

some-suc : {A : Type 0} → (x y z : A) (xs : List A) → x ≡ z → BothStand xs x y → BothStand (z ∷ xs) x y
some-suc x y z xs same b = let low = b.low in record { i = suc b.i; j = suc b.j; low = omega (arith, low); one = b.one; two = b.two }

pub still-before : {A : Type 0} → (xs : List A) (at i j : ℕ) (x y : A) → i < j → i ≢ at → j ≢ at → slice_get xs i ≡ Some x → slice_get xs j ≡ Some y → BothStand (remove xs at) x y
still-before [] at i j x y low a b one two = absurd (cc)
still-before (z ∷ zs) zero zero j x y low a b one two = absurd (a refl)
still-before (z ∷ zs) zero (suc i) zero x y low a b one two = absurd (omega (arith, low))
still-before (z ∷ zs) zero (suc i) (suc j) x y low a b one two = record { i = i; j = j; low = omega (arith, low); one = one; two = two }
still-before (z ∷ zs) (suc at) zero zero x y low a b one two = absurd (omega (arith, low))
still-before (z ∷ zs) (suc at) zero (suc j) x y low a b one two =
    let k = still-there zs at j y (λ e. b (ap suc e)) two in
    record { i = zero; j = suc k.0; low = omega arith; one = one; two = k.1 }
still-before (z ∷ zs) (suc at) (suc i) zero x y low a b one two = absurd (omega (arith, low))
still-before (z ∷ zs) (suc at) (suc i) (suc j) x y low a b one two =
    let k = still-before zs at i j x y (omega (arith, low)) (λ e. a (ap suc e)) (λ e. b (ap suc e)) one two in
    let more = k.low in
    record { i = suc k.i; j = suc k.j; low = omega (arith, more); one = k.one; two = k.two }

-- ---- the order of files

-- a place of one lane stands before one of another, both of this file
pub record StandsBefore (order : List LaneFile) (file : List ℕ) (first second : ℕ) : Type 0 where
  pub i : ℕ
  pub j : ℕ
  pub low : i < j
  pub one : slice_get order i ≡ Some (record { lane = first; file = file })
  pub two : slice_get order j ≡ Some (record { lane = second; file = file })

position-passes : (p : LaneFile → Bool) (xs : List LaneFile) (k : ℕ) (x : LaneFile) → position p xs ≡ Some k → slice_get xs k ≡ Some x → p x ≡ true
position-passes p [] k x at there = absurd (cc)
position-passes p (y ∷ ys) k x at there = by (λ m is there. position-passes p ys m x is there) (p y) refl (sym (position-cons p y ys) ∙ at)
  where
    suc-of : (o : Option ℕ) (k : ℕ) → option_map suc o ≡ Some k → (m : ℕ) × (o ≡ Some m) × (k ≡ suc m)
    suc-of None k e = absurd cc
    suc-of (Some m) k e = (m, refl, cc)

    zero-of : (k : ℕ) → Some 0 ≡ Some k → k ≡ 0
    zero-of k e = cc

    some-of : (a b : LaneFile) → Some a ≡ Some b → b ≡ a
    some-of a b e = cc

    by : ((m : ℕ) → position p ys ≡ Some m → slice_get ys m ≡ Some x → p x ≡ true) → (b : Bool) → p y ≡ b → cond b (Some 0) (option_map suc (position p ys)) ≡ Some k → p x ≡ true
    by so true d e = ap p (some-of y x (sym (ap (λ (i : ℕ). slice_get (y ∷ ys) i) (zero-of k e)) ∙ there)) ∙ d
    by so false d e =
        let m = suc-of (position p ys) k e in
        so m.0 m.1 (sym (ap (λ (i : ℕ). slice_get (y ∷ ys) i) m.2) ∙ there)

-- the first place that passes comes before each that does
position-least : (p : LaneFile → Bool) (xs : List LaneFile) (k i : ℕ) (x : LaneFile) → position p xs ≡ Some k → slice_get xs i ≡ Some x → p x ≡ true → k ≤ i
position-least p [] k i x at there passes = absurd (cc)
position-least p (y ∷ ys) k i x at there passes = by (λ m j is there. position-least p ys m j x is there passes) (p y) refl i there (sym (position-cons p y ys) ∙ at)
  where
    suc-of : (o : Option ℕ) (k : ℕ) → option_map suc o ≡ Some k → (m : ℕ) × (o ≡ Some m) × (k ≡ suc m)
    suc-of None k e = absurd cc
    suc-of (Some m) k e = (m, refl, cc)

    zero-of : (k : ℕ) → Some 0 ≡ Some k → k ≡ 0
    zero-of k e = cc

    some-of : (a b : LaneFile) → Some a ≡ Some b → a ≡ b
    some-of a b e = cc

    by : ((m j : ℕ) → position p ys ≡ Some m → slice_get ys j ≡ Some x → m ≤ j) → (b : Bool) → p y ≡ b → (i : ℕ) → slice_get (y ∷ ys) i ≡ Some x → cond b (Some 0) (option_map suc (position p ys)) ≡ Some k → k ≤ i
    by so true d i there e = let z = zero-of k e in omega (arith, z)
    by so false d zero there e = absurd (let no_way : false ≡ true = sym d ∙ ap p (some-of y x there) ∙ passes in cc)
    by so false d (suc i) there e =
        let m = suc-of (position p ys) k e in
        let less = so m.0 i m.1 there in
        let is = m.2 in
        omega (arith, less, is)

-- ---- others stay before one another

abbrev pub BeforeStays : ℕ → List LaneFile → List LaneFile → Type 0
BeforeStays lane old new = (file : List ℕ) (a b : ℕ) → a ≢ lane → b ≢ lane → StandsBefore old file a b → StandsBefore new file a b

pub left-before : (lane : ℕ) (order : List LaneFile) → BeforeStays lane order (left lane order)
left-before lane order file a b one two s = by (position (is_lane lane) order) refl
  where
    by : (o : Option ℕ) → position (is_lane lane) order ≡ o → StandsBefore (option_map_or (λ at. remove order at) o order) file a b
    by None is = s
    by (Some at) is =
        let k = still-before order at s.i s.j (record { lane = a; file = file }) (record { lane = b; file = file }) s.low
        (λ e. one (eqb-true a lane (position-passes (is_lane lane) order at (record { lane = a; file = file }) is (sym (ap (slice_get order) e) ∙ s.one))))
        (λ e. two (eqb-true b lane (position-passes (is_lane lane) order at (record { lane = b; file = file }) is (sym (ap (slice_get order) e) ∙ s.two)))) s.one s.two in
        record { i = k.i; j = k.j; low = k.low; one = k.one; two = k.two }

pub added-before : (place : LaneFile) (order : List LaneFile) (file : List ℕ) (a b : ℕ) → StandsBefore order file a b → StandsBefore (added place order) file a b
added-before place order file a b s = by (nat_lt (length order) 16)
  where
    by : (c : Bool) → StandsBefore (if c then order ++ place ∷ [] else order) file a b
    by false = s
    by true = record {
      i = s.i;
      j = s.j;
      low = s.low;
      one = before-push order place s.i (record { lane = a; file = file }) s.one;
      two = before-push order place s.j (record { lane = b; file = file }) s.two;
    }

module _ (lane : ℕ) (start : List LaneFile) where
  abbrev Kept : Option (List ℕ) → List LaneFile → Type 0
  Kept seat order = BeforeStays lane start order

  leaves : (seat : Option (List ℕ)) (order : List LaneFile) → Kept seat order → Kept None (left lane order)
  leaves seat order p file a b one two s = left-before lane order file a b one two (p file a b one two s)

  joins : (seat : Option (List ℕ)) (file : List ℕ) (order : List LaneFile) → Kept seat order → Kept (Some file) (added (record { lane = lane; file = file }) (left lane order))
  joins seat f order p file a b one two s =
      added-before (record { lane = lane; file = f }) (left lane order) file a b (left-before lane order file a b one two (p file a b one two s))

  kept-of : (next : Step) (Live : Type 0) (seat : Option (List ℕ)) (order : List LaneFile) → Seats lane Kept leaves joins next Live seat order → BeforeStays lane start order
  kept-of (Send call) Live seat order s = s.1
  kept-of Wait Live seat order s = s.1
  kept-of (Done answer) Live seat order s = s

module _ (wsize : ℕ) (turn : Turn) (lane : ℕ) where
  pub before-start : (m : Machine) (old : Shelf) (next : Step) (new : Machine) (after : Shelf) → IsFreshFor lane m → Starts wsize m turn old next new after
      → BeforeStays lane old.order after.order
  before-start m old next new after fresh s =
      kept-of lane old.order next _ _ after.order
      (seats.all-starts lane (Kept lane old.order) (leaves lane old.order) (joins lane old.order) m wsize turn old next new after fresh (λ file a b one two k. k) s)

  pub before-resume : (m : Machine) (old : Shelf) (next : Step) (new : Machine) (after : Shelf) → IsLive lane m → Resumes wsize m turn old next new after
      → BeforeStays lane old.order after.order
  before-resume m old next new after live s =
      kept-of lane old.order next _ _ after.order
      (seats.all-resumes lane (Kept lane old.order) (leaves lane old.order) (joins lane old.order) m wsize turn old next new after live (λ file a b one two k. k) s)

  pub before-take : (sent : Turn) (came : Result Reply Fault) (m : Machine) (old : Shelf) (next : Step) (new : Machine) (after : Shelf) (others : ℕ) → IsLive lane m
      → in_flight m ≡ others + 1 → Takes wsize m sent turn came old next new after → BeforeStays lane old.order after.order
  before-take sent came m old next new after others live one s =
      kept-of lane old.order next _ _ after.order
      (seats.all-takes lane (Kept lane old.order) (leaves lane old.order) (joins lane old.order) m wsize sent turn came old next new after others live one (λ file a b one two k. k) s)

-- ---- who is the first stands before all others of its file

record FirstAt (order : List LaneFile) (n : ℕ) : Type 0 where
  at : ℕ
  own : LaneFile
  there : slice_get order at ≡ Some own
  lane_is : own.lane ≡ n
  k : ℕ
  found : position (is_file own.file) order ≡ Some k
  first : LaneFile
  first_there : slice_get order k ≡ Some first
  same : first.lane ≡ own.lane

first-at : (order : List LaneFile) (n : ℕ) → is_first n order ≡ true → FirstAt order n
first-at order n is = by (position (is_lane n) order) refl is
  where
    leads-at : (at : ℕ) (own : LaneFile) → slice_get order at ≡ Some own → own.lane ≡ n → (o : Option ℕ) → position (is_file own.file) order ≡ o
        → option_map_or (λ (first : LaneFile). nat_eq first.lane own.lane) (option_and_then (λ i. slice_get order i) o) false ≡ true → FirstAt order n
    leads-at at own there lane_is None found e = absurd (let no_way : false ≡ true = e in cc)
    leads-at at own there lane_is (Some k) found e = first-of (slice_get order k) refl e
      where
        first-of : (o : Option LaneFile) → slice_get order k ≡ o → option_map_or (λ (first : LaneFile). nat_eq first.lane own.lane) o false ≡ true → FirstAt order n
        first-of None there_k e = absurd (let no_way : false ≡ true = e in cc)
        first-of (Some first) there_k e =
            record { at = at; own = own; there = there; lane_is = lane_is; k = k; found = found; first = first; first_there = there_k; same = eqb-true first.lane own.lane e }

    by : (o : Option ℕ) → position (is_lane n) order ≡ o → option_map_or (λ (place : LaneFile). leads place order) (option_and_then (λ i. slice_get order i) o) false ≡ true → FirstAt order n
    by None at e = absurd (let no_way : false ≡ true = e in cc)
    by (Some i) at e = own-of (slice_get order i) refl e
      where
        own-of : (o : Option LaneFile) → slice_get order i ≡ o → option_map_or (λ (place : LaneFile). leads place order) o false ≡ true → FirstAt order n
        own-of None there e = absurd (let no_way : false ≡ true = e in cc)
        own-of (Some own) there e =
            leads-at i own there (eqb-true own.lane n (position-passes (is_lane n) order i own at there)) (position (is_file own.file) order) refl e

pub none-before : (seats : ℕ → Option (List ℕ)) (order : List LaneFile) → Sits seats order → (file : List ℕ) (l n : ℕ) → is_first n order ≡ true → StandsBefore order file l n → ⊥
none-before seats order sits file l n is s =
    let f = first-at order n is in
    let own_at : f.at ≡ s.j = sits.apart f.at s.j f.own (record { lane = n; file = file }) f.there s.two f.lane_is in
    let own_is : f.own ≡ record { lane = n; file = file } = some-place f.own (record { lane = n; file = file }) (sym f.there ∙ ap (slice_get order) own_at ∙ s.two) in
    let file_is : f.own.file ≡ file = ap (λ (p : LaneFile). p.file) own_is in
    let passes : is_file f.own.file (record { lane = l; file = file }) ≡ true = (bytes_decides file f.own.file).1 (sym file_is) in
    let least = position-least (is_file f.own.file) order f.k s.i (record { lane = l; file = file }) f.found s.one passes in
    let first_at : f.k ≡ s.j = sits.apart f.k s.j f.first (record { lane = n; file = file }) f.first_there s.two (f.same ∙ f.lane_is) in
    let low = s.low in
    absurd (omega (arith, least, first_at, low))
  where
    some-place : (a b : LaneFile) → Some a ≡ Some b → a ≡ b
    some-place a b e = cc

-- ---- as long as it goes on: it is at work, and counts its calls

live-next : (lane : ℕ) (start : List LaneFile) (next : Step) (Live : Type 0) (seat : Option (List ℕ)) (order : List LaneFile)
    → Seats lane (Kept lane start) (leaves lane start) (joins lane start) next Live seat order → (call : _) → next ≡ Send call → Live
live-next lane start (Send other) Live seat order s call is = s.0
live-next lane start Wait Live seat order s call is = absurd cc
live-next lane start (Done answer) Live seat order s call is = absurd cc

count-next : (next : Step) (before : ℕ) (machine : Machine) → Counts next before machine → (call : _) → next ≡ Send call → in_flight machine ≡ before + 1
count-next (Send other) before machine c call is = c.0
count-next Wait before machine c call is = absurd cc
count-next (Done answer) before machine c call is = absurd cc

-- what holds of the order after a step, and of one whose call isn't made
pub record GoesBefore (lane : ℕ) (start : List LaneFile) (next : Step) (new : Machine) (after : Shelf) : Type 0 where
  pub before : BeforeStays lane start after.order
  pub live : (call : _) → next ≡ Send call → IsLive lane new
  pub count : (call : _) → next ≡ Send call → (n : ℕ) × (in_flight new ≡ n + 1)

module _ (wsize : ℕ) (turn : Turn) (lane : ℕ) where
  pub goes-start : (m : Machine) (old : Shelf) (next : Step) (new : Machine) (after : Shelf) → IsFreshFor lane m → IsUnbegun m → Starts wsize m turn old next new after
      → GoesBefore lane old.order next new after
  goes-start m old next new after fresh unbegun s =
      let k = seats.all-starts lane (Kept lane old.order) (leaves lane old.order) (joins lane old.order) m wsize turn old next new after fresh (λ file a b one two k. k) s in
      record {
        before = kept-of lane old.order next _ _ after.order k;
        live = live-next lane old.order next _ _ after.order k;
        count = λ call is. (0, count-next next 0 new (counts-calls.start wsize m turn old next new after s unbegun) call is);
      }

  pub goes-resume : (m : Machine) (old : Shelf) (next : Step) (new : Machine) (after : Shelf) → IsLive lane m → IsCounted m → Resumes wsize m turn old next new after
      → GoesBefore lane old.order next new after
  goes-resume m old next new after live counted s =
      let k = seats.all-resumes lane (Kept lane old.order) (leaves lane old.order) (joins lane old.order) m wsize turn old next new after live (λ file a b one two k. k) s in
      record {
        before = kept-of lane old.order next _ _ after.order k;
        live = live-next lane old.order next _ _ after.order k;
        count = λ call is. (in_flight m, count-next next (in_flight m) new (counts-calls.resume wsize m turn old next new after s counted) call is);
      }

  pub goes-take : (sent : Turn) (came : Result Reply Fault) (m : Machine) (old : Shelf) (next : Step) (new : Machine) (after : Shelf) (others : ℕ) → IsLive lane m → IsCounted m
      → in_flight m ≡ others + 1 → Takes wsize m sent turn came old next new after → GoesBefore lane old.order next new after
  goes-take sent came m old next new after others live counted one s =
      let k = seats.all-takes lane (Kept lane old.order) (leaves lane old.order) (joins lane old.order) m wsize sent turn came old next new after others live one (λ file a b one two k. k) s in
      record {
        before = kept-of lane old.order next _ _ after.order k;
        live = live-next lane old.order next _ _ after.order k;
        count = λ call is. (others, count-next next others new (counts-calls.take wsize m sent turn came old next new after others s counted one) call is);
      }
