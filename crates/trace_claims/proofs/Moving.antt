-- Within a piece each place is touched as another, and what is touched by a moment is touched by a later one.
use Rattle.std.proofs.Common.{◌≡◌, ◌<◌, ◌≤◌, ◌+◌, inl, inr, ℕ, Bool, true, List, length, Some, slice_get, arith}
use Rattle.std.specs.Prelude.{◌==◌, ◌&&◌, ◌||◌, not, nat_lt, nat_le}
use Rattle.std.specs.List.{list_any}
use Rattle.std.specs.Str.{bytes_eq}
use Rattle.std.proofs.lemmas.Bool.{ltb-true, lt-ltb, leb-true, le-leb, and_parts, and_from, or_cases, or_left, or_right}
use Rattle.trace_claims.specs.declared.courses.Work.{Work}
use Rattle.trace_claims.specs.declared.courses.Work.TheVariants as works
use Rattle.trace_claims.specs.declared.courses.Course.{Course}
use Rattle.trace_claims.specs.declared.digest.Digest.{Digest}
use Rattle.trace_claims.specs.declared.keeping.Question.{Question}
use Rattle.trace_claims.specs.declared.operations.Operation.{Operation}
use Rattle.trace_claims.specs.declared.touched.Foreign as changed
use Rattle.trace_claims.specs.declared.touched.Left as lefts
use Rattle.trace_claims.specs.declared.touched.Reach.{Reach}
use Rattle.trace_claims.specs.declared.touched.Reach.TheVariants.{Range, Past}
use Rattle.trace_claims.specs.Courses.{covers, is_put, is_write, is_refused, ended_before}
use Rattle.trace_claims.specs.Operations.{is_of, if_cut, cuts, writes_to, writes_or_cuts}
use Rattle.trace_claims.specs.Touching.{changes, touches, is_foreign, rewrites, is_rewritten, gives, is_given_up, is_stable_since}
use Rattle.trace_claims.specs.Pieces.{apart, apart_work, apart_reach, IsPiece}
use Rattle.trace_claims.specs.Keeping.{is_touched}
use Rattle.trace_claims.proofs.Owning.{any-there, any-found}

-- i and j lie in the piece from a to before b
pub record InPiece (a b i j : ℕ) : Type 0 where
  pub ai : a ≤ i
  pub ib : i < b
  pub aj : a ≤ j
  pub jb : j < b

pub turned : (a b i j : ℕ) → InPiece a b i j → InPiece a b j i
turned a b i j p = record { ai = p.aj; ib = p.jb; aj = p.ai; jb = p.ib }

-- ---- one edge

edge-low : (a b i j e : ℕ) → InPiece a b i j → apart a b e ≡ true → nat_le e i ≡ true → nat_le e j ≡ true
edge-low a b i j e p t l =
    let le : e ≤ i = leb-true e i l in
    le-leb e j (elim (or_cases (nat_le e a) (nat_le b e) t) [
      | inl x ↦ let y : e ≤ a = leb-true e a x in omega (arith, y, p.aj)
      | inr x ↦ let y : b ≤ e = leb-true b e x in omega (arith, y, le, p.ib)
    ])

edge-high : (a b i j e : ℕ) → InPiece a b i j → apart a b e ≡ true → nat_lt i e ≡ true → nat_lt j e ≡ true
edge-high a b i j e p t l =
    let lt : i < e = ltb-true i e l in
    lt-ltb j e (elim (or_cases (nat_le e a) (nat_le b e) t) [
      | inl x ↦ let y : e ≤ a = leb-true e a x in omega (arith, y, lt, p.ai)
      | inr x ↦ let y : b ≤ e = leb-true b e x in omega (arith, y, p.jb)
    ])

within-moves : (a b i j low high : ℕ) → InPiece a b i j → (apart a b low && apart a b high) ≡ true → (nat_le low i && nat_lt i high) ≡ true → (nat_le low j && nat_lt j high) ≡ true
within-moves a b i j low high p t w =
    let two = and_parts (apart a b low) (apart a b high) t in
    let its = and_parts (nat_le low i) (nat_lt i high) w in
    and_from (nat_le low j) (nat_lt j high) (edge-low a b i j low p two.0 its.0) (edge-high a b i j high p two.1 its.1)

-- ---- one operation, one change of another client

pub covers-moves : (a b i j : ℕ) (w : Work) → InPiece a b i j → apart_work a b w ≡ true → covers w i ≡ true → covers w j ≡ true
covers-moves a b i j (works.Write slot offset count) p t c = within-moves a b i j offset (offset + count) p t c
covers-moves a b i j (works.Put offset count) p t c = within-moves a b i j offset (offset + count) p t c
covers-moves a b i j (works.Truncate slot size) p t c = absurd cc
covers-moves a b i j (works.Open slot) p t c = absurd cc
covers-moves a b i j (works.Read slot offset count) p t c = absurd cc
covers-moves a b i j (works.Sync slot) p t c = absurd cc
covers-moves a b i j (works.Close slot) p t c = absurd cc
covers-moves a b i j works.Other p t c = absurd cc

if-cut-moves : (a b i j : ℕ) (w : Work) (x : Bool) → InPiece a b i j → apart_work a b w ≡ true → if_cut w i x ≡ true → if_cut w j x ≡ true
if-cut-moves a b i j (works.Truncate slot size) x p t c = let two = and_parts (nat_le size i) x c in and_from (nat_le size j) x (edge-low a b i j size p t two.0) two.1
if-cut-moves a b i j (works.Write slot offset count) x p t c = absurd cc
if-cut-moves a b i j (works.Put offset count) x p t c = absurd cc
if-cut-moves a b i j (works.Open slot) x p t c = absurd cc
if-cut-moves a b i j (works.Read slot offset count) x p t c = absurd cc
if-cut-moves a b i j (works.Sync slot) x p t c = absurd cc
if-cut-moves a b i j (works.Close slot) x p t c = absurd cc
if-cut-moves a b i j works.Other x p t c = absurd cc

pub cuts-moves : (a b i j : ℕ) (o : Operation) (f : List ℕ) → InPiece a b i j → apart_work a b o.course.work ≡ true → cuts o f i ≡ true → cuts o f j ≡ true
cuts-moves a b i j o f p t c = if-cut-moves a b i j o.course.work (is_of o f) p t c

changes-moves : (a b i j : ℕ) (r : Reach) → InPiece a b i j → apart_reach a b r ≡ true → changes r i ≡ true → changes r j ≡ true
changes-moves a b i j (Range from to) p t c = within-moves a b i j from to p t c
changes-moves a b i j (Past size) p t c = edge-low a b i j size p t c

writes-moves : (a b i j : ℕ) (o : Operation) (n : ℕ) (f : List ℕ) → InPiece a b i j → apart_work a b o.course.work ≡ true → writes_or_cuts o n f i ≡ true → writes_or_cuts o n f j ≡ true
writes-moves a b i j o n f p t c = elim (or_cases (covers o.course.work i && writes_to o n f && not (is_write o.course.work && is_refused o.course n)) (cuts o f i) c) [
  | inl x ↦
      let outer = and_parts (covers o.course.work i && writes_to o n f) (not (is_write o.course.work && is_refused o.course n)) x in
      let inner = and_parts (covers o.course.work i) (writes_to o n f) outer.0 in
      or_left (covers o.course.work j && writes_to o n f && not (is_write o.course.work && is_refused o.course n)) (cuts o f j)
      (and_from (covers o.course.work j && writes_to o n f) (not (is_write o.course.work && is_refused o.course n))
      (and_from (covers o.course.work j) (writes_to o n f) (covers-moves a b i j o.course.work p t inner.0) inner.1) outer.1)
  | inr x ↦ or_right (covers o.course.work j && writes_to o n f && not (is_write o.course.work && is_refused o.course n)) (cuts o f j) (cuts-moves a b i j o f p t x)
]

-- ---- lists

-- one that passes a test passes the other
pub any-moves : {X : Type 0} (p q : X → Bool) (xs : List X) → ((k : ℕ) (x : X) → slice_get xs k ≡ Some x → p x ≡ true → q x ≡ true) → list_any p xs ≡ true → list_any q xs ≡ true
any-moves p q xs moves t = let it = any-found p xs t in any-there q xs it.0 it.1 it.2 (moves it.0 it.1 it.2 it.3)

foreign-moves : (a b i j w p : ℕ) (f : List ℕ) (cs : List changed.Foreign) → InPiece a b i j → ((k : ℕ) (c : changed.Foreign) → slice_get cs k ≡ Some c → apart_reach a b c.reach ≡ true)
    → is_foreign cs w p f i ≡ true → is_foreign cs w p f j ≡ true
foreign-moves a b i j w p f cs piece apart_all t = any-moves (touches w p f i) (touches w p f j) cs (λ k c is x.
    let two = and_parts (nat_lt w c.place && nat_lt c.place p && bytes_eq c.file f) (changes c.reach i) x in
    and_from (nat_lt w c.place && nat_lt c.place p && bytes_eq c.file f) (changes c.reach j) two.0 (changes-moves a b i j c.reach piece (apart_all k c is) two.1)) t

rewritten-moves : (a b i j n p : ℕ) (w : Course) (f : List ℕ) (os : List Operation) → InPiece a b i j → ((k : ℕ) (o : Operation) → slice_get os k ≡ Some o → apart_work a b o.course.work ≡ true)
    → is_rewritten os n w p f i ≡ true → is_rewritten os n w p f j ≡ true
rewritten-moves a b i j n p w f os piece apart_all t = any-moves (rewrites n w p f i) (rewrites n w p f j) os (λ k o is x.
    let two = and_parts (not (o.course.place == w.place) && nat_lt o.course.place p && not (ended_before o.course w.place)) (writes_or_cuts o n f i) x in
    and_from (not (o.course.place == w.place) && nat_lt o.course.place p && not (ended_before o.course w.place)) (writes_or_cuts o n f j) two.0
    (writes-moves a b i j o n f piece (apart_all k o is) two.1)) t

-- the four tests, each of which goes on
pub or-moves : (a b c d e f g : Bool) → (a ≡ true → e ≡ true) → (b ≡ true → f ≡ true) → (d ≡ true → g ≡ true) → (a || b || c || d) ≡ true → (e || f || c || g) ≡ true
or-moves a b c d e f g ae bf dg t = elim (or_cases (a || b || c) d t) [
  | inl x ↦ or_left (e || f || c) g (elim (or_cases (a || b) c x) [
    | inl y ↦ or_left (e || f) c (elim (or_cases a b y) [
      | inl z ↦ or_left e f (ae z)
      | inr z ↦ or_right e f (bf z)
    ])
    | inr y ↦ or_right (e || f) c y
  ])
  | inr x ↦ or_right (e || f || c) g (dg x)
]

-- a place of a piece is touched as another
pub touched-moves : (d : Digest) (w : Course) (q : Question) (a most b i j : ℕ) → IsPiece d.operations.items d.foreign.items a most b → InPiece a b i j → is_touched d w q i ≡ true → is_touched d w q j ≡ true
unfolding is_touched
touched-moves d w q a most b i j piece p t =
    or-moves (is_foreign d.foreign.items w.place q.moment q.file i) (is_rewritten d.operations.items q.length w q.moment q.file i) q.gone (is_given_up d.left.items d.operations.items q.length w q.moment q.file)
    (is_foreign d.foreign.items w.place q.moment q.file j) (is_rewritten d.operations.items q.length w q.moment q.file j) (is_given_up d.left.items d.operations.items q.length w q.moment q.file)
    (foreign-moves a b i j w.place q.moment q.file d.foreign.items p piece.reaches)
    (rewritten-moves a b i j q.length q.moment w q.file d.operations.items p piece.works)
    (λ x. x) t

-- ---- later moments

before-later : (k p q : ℕ) → p ≤ q → nat_lt k p ≡ true → nat_lt k q ≡ true
before-later k p q le t = let lt : k < p = ltb-true k p t in lt-ltb k q (omega (arith, lt, le))

foreign-later : (i w p q : ℕ) (f : List ℕ) (cs : List changed.Foreign) → p ≤ q → is_foreign cs w p f i ≡ true → is_foreign cs w q f i ≡ true
foreign-later i w p q f cs le t = any-moves (touches w p f i) (touches w q f i) cs (λ k c is x.
    let three = and_parts (nat_lt w c.place && nat_lt c.place p && bytes_eq c.file f) (changes c.reach i) x in
    let two = and_parts (nat_lt w c.place && nat_lt c.place p) (bytes_eq c.file f) three.0 in
    let one = and_parts (nat_lt w c.place) (nat_lt c.place p) two.0 in
    and_from (nat_lt w c.place && nat_lt c.place q && bytes_eq c.file f) (changes c.reach i)
    (and_from (nat_lt w c.place && nat_lt c.place q) (bytes_eq c.file f) (and_from (nat_lt w c.place) (nat_lt c.place q) one.0 (before-later c.place p q le one.1)) two.1) three.1) t

rewritten-later : (i n p q : ℕ) (w : Course) (f : List ℕ) (os : List Operation) → p ≤ q → is_rewritten os n w p f i ≡ true → is_rewritten os n w q f i ≡ true
rewritten-later i n p q w f os le t = any-moves (rewrites n w p f i) (rewrites n w q f i) os (λ k o is x.
    let three = and_parts (not (o.course.place == w.place) && nat_lt o.course.place p && not (ended_before o.course w.place)) (writes_or_cuts o n f i) x in
    let two = and_parts (not (o.course.place == w.place) && nat_lt o.course.place p) (not (ended_before o.course w.place)) three.0 in
    let one = and_parts (not (o.course.place == w.place)) (nat_lt o.course.place p) two.0 in
    and_from (not (o.course.place == w.place) && nat_lt o.course.place q && not (ended_before o.course w.place)) (writes_or_cuts o n f i)
    (and_from (not (o.course.place == w.place) && nat_lt o.course.place q) (not (ended_before o.course w.place))
    (and_from (not (o.course.place == w.place)) (nat_lt o.course.place q) one.0 (before-later o.course.place p q le one.1)) two.1) three.1) t

given-later : (n p q : ℕ) (w : Course) (f : List ℕ) (ls : List lefts.Left) (os : List Operation) → p ≤ q → is_given_up ls os n w p f ≡ true → is_given_up ls os n w q f ≡ true
given-later n p q w f ls os le t = any-moves (gives os n w p f) (gives os n w q f) ls (λ k l is x.
    let five = and_parts (nat_lt w.place l.place && nat_lt l.place p && bytes_eq l.file f && l.gives_up && not (is_stable_since os n w l.place f)) (not (is_put w.work && ended_before w l.place)) x in
    let four = and_parts (nat_lt w.place l.place && nat_lt l.place p && bytes_eq l.file f && l.gives_up) (not (is_stable_since os n w l.place f)) five.0 in
    let three = and_parts (nat_lt w.place l.place && nat_lt l.place p && bytes_eq l.file f) l.gives_up four.0 in
    let two = and_parts (nat_lt w.place l.place && nat_lt l.place p) (bytes_eq l.file f) three.0 in
    let one = and_parts (nat_lt w.place l.place) (nat_lt l.place p) two.0 in
    and_from (nat_lt w.place l.place && nat_lt l.place q && bytes_eq l.file f && l.gives_up && not (is_stable_since os n w l.place f)) (not (is_put w.work && ended_before w l.place))
    (and_from (nat_lt w.place l.place && nat_lt l.place q && bytes_eq l.file f && l.gives_up) (not (is_stable_since os n w l.place f))
    (and_from (nat_lt w.place l.place && nat_lt l.place q && bytes_eq l.file f) l.gives_up
    (and_from (nat_lt w.place l.place && nat_lt l.place q) (bytes_eq l.file f)
    (and_from (nat_lt w.place l.place) (nat_lt l.place q) one.0 (before-later l.place p q le one.1)) two.1) three.1) four.1) five.1) t

-- what is touched by a moment is touched by a later one, if the file is gone at both or at neither
pub touched-later : (d : Digest) (w : Course) (n p q : ℕ) (f : List ℕ) (gone : Bool) (i : ℕ) → p ≤ q
    → is_touched d w (record { length = n; moment = p; file = f; gone = gone }) i ≡ true → is_touched d w (record { length = n; moment = q; file = f; gone = gone }) i ≡ true
unfolding is_touched
touched-later d w n p q f gone i le t =
    or-moves (is_foreign d.foreign.items w.place p f i) (is_rewritten d.operations.items n w p f i) gone (is_given_up d.left.items d.operations.items n w p f)
    (is_foreign d.foreign.items w.place q f i) (is_rewritten d.operations.items n w q f i) (is_given_up d.left.items d.operations.items n w q f)
    (foreign-later i w.place p q f d.foreign.items le)
    (rewritten-later i n p q w f d.operations.items le)
    (given-later n p q w f d.left.items d.operations.items le) t
