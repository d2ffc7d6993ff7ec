-- How often a place of a file may still be sent without a further cause: once where its pending byte waits to be sent, and once where it has just taken off
-- under an xid; of the writes whose numbers are of a class.
use Rattle.core_counts.proofs.Prelude.{◌≡◌, ◌≤◌, ◌<◌, ◌+◌, ◌-◌, ◌&&◌, ℕ, zero, suc, Bool, true, false, List, [], ◌∷◌, length, map, Option, Some, None, refl, sym, ap, subst, ◌∙◌, arith, if◌then◌else◌, nat_lt, slice_index, eq-eqb, ltb-true, ltb-false, leb-true, Verf, Change, InFlight, Unsent, fate, Pending, of_file, IsNewest, acked_by, Flown, FilePending, flown_in, rest_of, rest_at, fly_at, PutsBytes, PutsInFlight, Lands, cell_landed, newer_or, Cell, Segments, cell_at, cell_in, covers, is_ready, is_in_flight, if-true, if-false}
use Rattle.std.specs.Prelude.{nat_eq, nat_le, Contains}
use Rattle.std.proofs.lemmas.Bool.{leb-false}
use Rattle.write_back.specs.declared.state.State.TheVariants.{Waiting}
use Rattle.write_back.specs.Changes.{cell_left}
use Rattle.write_back.specs.Pieces.{Sent}
use Rattle.write_back.specs.Places.{cell_flown, cell_cut}
use Rattle.std.specs.List.{concat}
use Rattle.std.proofs.lemmas.List.Elements.{Contains-append_left, Contains-append_right, Contains-push}
use Rattle.write_back.specs.declared.change.Change.TheVariants as by_change
use Rattle.write_back.specs.declared.state.State.{State}
use Rattle.write_back.proofs.Newest.{newest-above}

-- ---- of one place

abbrev pub Class : Type 0
Class = ℕ → Bool

abbrev pub one_if : Bool → ℕ
one_if b = if b then 1 else 0

-- its pending byte may be sent
abbrev pub due_of : Class → Option Cell → ℕ
due_of c None = 0
due_of c (Some cell) = one_if (is_ready cell.state && c cell.number)

-- it is in flight under the xid
abbrev pub flown_of : ℕ → Class → Option Flown → ℕ
flown_of y c None = 0
flown_of y c (Some flown) = one_if (nat_eq flown.xid y && c flown.number)

abbrev pub weight : ℕ → Class → FilePending → ℕ → ℕ
weight y c of i = due_of c (rest_at of i) + flown_of y c (fly_at of i)

-- numbers up to one, and above it
abbrev pub low : ℕ → Class
low s n = nat_le n s

abbrev pub high : ℕ → Class
high s n = nat_lt s n

abbrev pub any : Class
any n = true

pub one-most : (b : Bool) → one_if b ≤ 1
one-most true = omega arith
one-most false = omega arith

pub due-most : (c : Class) (o : Option Cell) → due_of c o ≤ 1
due-most c None = omega arith
due-most c (Some cell) = one-most (is_ready cell.state && c cell.number)

pub flown-most : (y : ℕ) (c : Class) (o : Option Flown) → flown_of y c o ≤ 1
flown-most y c None = omega arith
flown-most y c (Some flown) = one-most (nat_eq flown.xid y && c flown.number)

-- ---- low and high numbers are all

one-split : (b : Bool) (s n : ℕ) → one_if (b && true) ≡ one_if (b && nat_le n s) + one_if (b && nat_lt s n)
one-split false s n = refl
one-split true s n = by (nat_le n s) (nat_lt s n) refl refl
  where
    by : (l h : Bool) → nat_le n s ≡ l → nat_lt s n ≡ h → 1 ≡ one_if l + one_if h
    by true false p q = refl
    by false true p q = refl
    by true true p q = absurd (let a = leb-true n s p in let b = ltb-true s n q in omega (arith, a, b))
    by false false p q = absurd (let a = leb-false n s p in let b = ltb-false s n q in omega (arith, a, b))

pub due-split : (s : ℕ) (o : Option Cell) → due_of any o ≡ due_of (low s) o + due_of (high s) o
due-split s None = refl
due-split s (Some cell) = one-split (is_ready cell.state) s cell.number

pub flown-split : (y s : ℕ) (o : Option Flown) → flown_of y any o ≡ flown_of y (low s) o + flown_of y (high s) o
flown-split y s None = refl
flown-split y s (Some flown) = one-split (nat_eq flown.xid y) s flown.number

-- ---- numbers at a place

-- up to this one
pub record Below (s : ℕ) (of : FilePending) (i : ℕ) : Type 0 where
  pub rest : (cell : Cell) → rest_at of i ≡ Some cell → cell.number ≤ s
  pub fly : (flown : Flown) → fly_at of i ≡ Some flown → flown.number ≤ s

and-none : (a b : Bool) → b ≡ false → one_if (a && b) ≡ 0
and-none true b is = ap one_if is
and-none false b is = refl

high-none : (s n : ℕ) → n ≤ s → nat_lt s n ≡ false
high-none s n less = by (nat_lt s n) refl
  where
    by : (b : Bool) → nat_lt s n ≡ b → b ≡ false
    by false is = refl
    by true is = absurd (let more = ltb-true s n is in omega (arith, less, more))

pub due-low : (s : ℕ) (o : Option Cell) → ((cell : Cell) → o ≡ Some cell → cell.number ≤ s) → due_of (high s) o ≡ 0
due-low s None below = refl
due-low s (Some cell) below = and-none (is_ready cell.state) (nat_lt s cell.number) (high-none s cell.number (below cell refl))

pub flown-low : (y s : ℕ) (o : Option Flown) → ((flown : Flown) → o ≡ Some flown → flown.number ≤ s) → flown_of y (high s) o ≡ 0
flown-low y s None below = refl
flown-low y s (Some flown) below = and-none (nat_eq flown.xid y) (nat_lt s flown.number) (high-none s flown.number (below flown refl))

pub below-high : (y s : ℕ) (of : FilePending) (i : ℕ) → Below s of i → weight y (high s) of i ≡ 0
below-high y s of i b = let one = due-low s (rest_at of i) b.rest in let two = flown-low y s (fly_at of i) b.fly in omega (arith, one, two)

-- what weighs with a high number is there
pub due-high : (s k : ℕ) (o : Option Cell) → ((cell : Cell) → o ≡ Some cell → cell.number ≤ k) → 0 < due_of (high s) o → s < k
due-high s k None below some = absurd (omega (arith, some))
due-high s k (Some cell) below some = by (nat_lt s cell.number) refl
  where
    by : (b : Bool) → nat_lt s cell.number ≡ b → s < k
    by true is = let more = ltb-true s cell.number is in let less = below cell refl in omega (arith, more, less)
    by false is = absurd (let none = and-none (is_ready cell.state) (nat_lt s cell.number) is in omega (arith, none, some))

pub flown-high : (y s k : ℕ) (o : Option Flown) → ((flown : Flown) → o ≡ Some flown → flown.number ≤ k) → 0 < flown_of y (high s) o → s < k
flown-high y s k None below some = absurd (omega (arith, some))
flown-high y s k (Some flown) below some = by (nat_lt s flown.number) refl
  where
    by : (b : Bool) → nat_lt s flown.number ≡ b → s < k
    by true is = let more = ltb-true s flown.number is in let less = below flown refl in omega (arith, more, less)
    by false is = absurd (let none = and-none (nat_eq flown.xid y) (nat_lt s flown.number) is in omega (arith, none, some))

pub high-below : (y s k : ℕ) (of : FilePending) (i : ℕ) → Below k of i → 0 < weight y (high s) of i → s < k
high-below y s k of i b some = by (due_of (high s) (rest_at of i)) refl
  where
    by : (n : ℕ) → due_of (high s) (rest_at of i) ≡ n → s < k
    by zero is = flown-high y s k (fly_at of i) b.fly (omega (arith, some, is))
    by (suc n) is = due-high s k (rest_at of i) b.rest (omega (arith, is))

-- ---- what is pending has numbers below the next one

cell-in : (es : Segments) (place : ℕ) (cell : Cell) → cell_at es place ≡ Some cell → Contains (map (λ e. e.1.number) es) cell.number
cell-in [] place cell is = absurd cc
cell-in (e ∷ es) place cell is = by (covers e.0 (length e.1.bytes) place) refl (cell-in es place cell)
  where
    by : (b : Bool) → covers e.0 (length e.1.bytes) place ≡ b → (cell_at es place ≡ Some cell → Contains (map (λ e. e.1.number) es) cell.number) → Contains (e.1.number ∷ map (λ e. e.1.number) es) cell.number
    by true h more =
        let same : cell_in e place ≡ cell = (let k : Some (cell_in e place) ≡ Some cell = (rw h at is) in cc) in
        subst (λ n. Contains (e.1.number ∷ map (λ e. e.1.number) es) n) (ap (λ (z : Cell). z.number) same) (Contains-append_left (e.1.number ∷ []) (map (λ e. e.1.number) es) e.1.number (Contains-push [] e.1.number))
    by false h more = Contains-append_right (e.1.number ∷ []) (map (λ e. e.1.number) es) cell.number (more (rw h at is))

rest-in : (o : Option Cell) (cell : Cell) → rest_of o ≡ Some cell → o ≡ Some cell
rest-in None cell is = absurd cc
rest-in (Some other) cell is = by (is_in_flight other.state) refl
  where
    by : (b : Bool) → is_in_flight other.state ≡ b → Some other ≡ Some cell
    by true h = let k : None ≡ Some cell = (rw h at is) in absurd cc
    by false h = (rw h at is)

pub newest-below : (s : ℕ) (file : List ℕ) (back : Pending) → IsNewest (s + 1) back → (i : ℕ) → Below s (of_file file back) i
newest-below s file back newest i = record {
  rest = λ cell is.
      let there : Contains (map (λ e. e.1.number) (of_file file back).segments) cell.number =
      cell-in (of_file file back).segments i cell (rest-in (cell_at (of_file file back).segments i) cell is) in
      let less = newest file cell.number (Contains-append_left (map (λ e. e.1.number) (of_file file back).segments)
      (concat (map (λ piece. map (λ part. part.number) piece.parts) (of_file file back).pieces)) cell.number there) in
      omega (arith, less);
  fly = λ flown is. let less = newest-above (s + 1) file back newest i flown is in omega (arith, less);
}

-- ---- what becomes of the place

-- a piece takes off
one-less : (a b : Bool) → one_if (a && b) ≤ one_if b
one-less true b = omega arith
one-less false true = omega arith
one-less false false = omega arith

puts-flown : (y : ℕ) (c : Class) (o : Option Flown) (rest : Option Cell)
    → ((flown : Flown) → o ≡ Some flown → rest ≡ Some (record { byte = flown.byte; number = flown.number; state = Waiting flown.before })) → flown_of y c o ≤ due_of c rest
puts-flown y c None rest was = omega arith
puts-flown y c (Some flown) rest was = subst (λ (o : Option Cell). one_if (nat_eq flown.xid y && c flown.number) ≤ due_of c o) (sym (was flown refl)) (one-less (nat_eq flown.xid y) (c flown.number))

pub puts-weight : (y : ℕ) (c : Class) (piece : Sent) (upto : ℕ) (old new : FilePending) (i : ℕ) → PutsInFlight piece upto old new → weight y c new i ≤ weight y c old i
puts-weight y c piece upto old new i p = by (covers piece.offset (length piece.bytes) i) refl
  where
    by : (b : Bool) → covers piece.offset (length piece.bytes) i ≡ b → weight y c new i ≤ weight y c old i
    by true h =
        let rest : rest_at new i ≡ None = p.rest i ∙ if-true (covers piece.offset (length piece.bytes) i) None (rest_at old i) h in
        let fly : fly_at new i ≡ flown_in piece i = p.fly i ∙ if-true (covers piece.offset (length piece.bytes) i) (flown_in piece i) (fly_at old i) h in
        let one = ap (due_of c) rest in
        let two = ap (flown_of y c) fly in
        let more = puts-flown y c (flown_in piece i) (rest_at old i) (λ flown is. p.was i flown h is) in
        omega (arith, one, two, more)
    by false h =
        let rest : rest_at new i ≡ rest_at old i = p.rest i ∙ if-false (covers piece.offset (length piece.bytes) i) None (rest_at old i) h in
        let fly : fly_at new i ≡ fly_at old i = p.fly i ∙ if-false (covers piece.offset (length piece.bytes) i) (flown_in piece i) (fly_at old i) h in
        let one = ap (due_of c) rest in
        let two = ap (flown_of y c) fly in
        omega (arith, one, two)

-- it is cut
pub cut-due : (c : Class) (size upto i : ℕ) (o : Option Cell) → due_of c (cell_cut size upto i o) ≤ due_of c o
cut-due c size upto i None = omega arith
cut-due c size upto i (Some cell) = by (nat_le size i && nat_le cell.number upto) refl
  where
    by : (b : Bool) → (nat_le size i && nat_le cell.number upto) ≡ b → due_of c (cell_cut size upto i (Some cell)) ≤ due_of c (Some cell)
    by true h = let one = ap (due_of c) (if-true (nat_le size i && nat_le cell.number upto) None (Some cell) h) in omega (arith, one)
    by false h = let one = ap (due_of c) (if-false (nat_le size i && nat_le cell.number upto) None (Some cell) h) in omega (arith, one)

-- bytes come in with a number
pub laid-out : (y : ℕ) (c : Class) (offset : ℕ) (bytes : List ℕ) (number : ℕ) (old new : FilePending) (i : ℕ) → PutsBytes offset bytes number old new
    → covers offset (length bytes) i ≡ false → weight y c new i ≡ weight y c old i
laid-out y c offset bytes number old new i p out =
    let rest = ap (due_of c) (p.rest i ∙ if-false (covers offset (length bytes) i) (Some (record { byte = slice_index bytes (i - offset); number = number; state = Waiting Unsent })) (rest_at old i) out) in
    let fly = ap (flown_of y c) (p.fly i) in
    omega (arith, rest, fly)

pub laid-in : (y : ℕ) (c : Class) (offset : ℕ) (bytes : List ℕ) (number : ℕ) (old new : FilePending) (i : ℕ) → PutsBytes offset bytes number old new
    → covers offset (length bytes) i ≡ true → weight y c new i ≡ one_if (c number) + flown_of y c (fly_at old i)
laid-in y c offset bytes number old new i p within =
    let rest : due_of c (rest_at new i) ≡ one_if (c number) =
    ap (due_of c) (p.rest i ∙ if-true (covers offset (length bytes) i) (Some (record { byte = slice_index bytes (i - offset); number = number; state = Waiting Unsent })) (rest_at old i) within) in
    let fly = ap (flown_of y c) (p.fly i) in
    omega (arith, rest, fly)

-- a piece lands elsewhere
pub lands-out : (y : ℕ) (c : Class) (piece : Sent) (count : ℕ) (first others : Change) (old new : FilePending) (i : ℕ) → Lands piece count first others old new
    → covers piece.offset (length piece.bytes) i ≡ false → weight y c new i ≡ weight y c old i
lands-out y c piece count first others old new i p out =
    let rest = ap (due_of c) (p.rest i ∙ if-false (covers piece.offset (length piece.bytes) i)
    (newer_or (rest_at old i) (cell_landed (if nat_lt (i - piece.offset) count then first else others) (fly_at old i))) (rest_at old i) out) in
    let fly = ap (flown_of y c) (p.fly i ∙ if-false (covers piece.offset (length piece.bytes) i) None (fly_at old i) out) in
    omega (arith, rest, fly)

-- what is left where it lands
pub lands-in : (y : ℕ) (c : Class) (piece : Sent) (count : ℕ) (first others : Change) (old new : FilePending) (i : ℕ) → Lands piece count first others old new
    → covers piece.offset (length piece.bytes) i ≡ true
    → weight y c new i ≡ due_of c (newer_or (rest_at old i) (cell_landed (if nat_lt (i - piece.offset) count then first else others) (fly_at old i)))
lands-in y c piece count first others old new i p within =
    let rest = ap (due_of c) (p.rest i ∙ if-true (covers piece.offset (length piece.bytes) i)
    (newer_or (rest_at old i) (cell_landed (if nat_lt (i - piece.offset) count then first else others) (fly_at old i))) (rest_at old i) within) in
    let fly = ap (flown_of y c) (p.fly i ∙ if-true (covers piece.offset (length piece.bytes) i) None (fly_at old i) within) in
    omega (arith, rest, fly)

-- a change leaves numbers as they are
pub left-number : (o : Option State) (cell left : Cell) → cell_left o cell ≡ Some left → left.number ≡ cell.number
left-number None cell left is = absurd (let no_way : None ≡ Some left = is in cc)
left-number (Some state) cell left is =
    let same : record { byte = cell.byte; number = cell.number; state = state } ≡ left = cc in sym (ap (λ (z : Cell). z.number) same)

pub landed-number : (change : Change) (o : Option Flown) (s : ℕ) → ((flown : Flown) → o ≡ Some flown → flown.number ≤ s) → (left : Cell) → cell_landed change o ≡ Some left → left.number ≤ s
landed-number change None s below left is = absurd (let no_way : None ≡ Some left = is in cc)
landed-number change (Some flown) s below left is =
    let same = left-number (fate change flown.number (InFlight flown.before)) (cell_flown flown) left is in let less = below flown refl in omega (arith, same, less)

pub newer-number : (rest landed : Option Cell) (s : ℕ) → ((cell : Cell) → rest ≡ Some cell → cell.number ≤ s) → ((cell : Cell) → landed ≡ Some cell → cell.number ≤ s)
    → (left : Cell) → newer_or rest landed ≡ Some left → left.number ≤ s
newer-number None landed s a b left is = b left is
newer-number (Some cell) landed s a b left is = a left is

-- it comes back, where it is in flight under the xid
back-one : (y : ℕ) (c : Class) (rest : Option Cell) (fly : Option Flown) → ((flown : Flown) → fly ≡ Some flown → flown.xid ≡ y)
    → due_of c (newer_or rest (cell_landed by_change.Return fly)) ≤ due_of c rest + flown_of y c fly
back-one y c (Some cell) fly own = omega arith
back-one y c None None own = omega arith
back-one y c None (Some flown) own = let one = ap (λ (b : Bool). one_if (b && c flown.number)) (eq-eqb flown.xid y (own flown refl)) in omega (arith, one)

pub back-weight : (y : ℕ) (c : Class) (b : Bool) (rest : Option Cell) (fly : Option Flown) → ((flown : Flown) → fly ≡ Some flown → flown.xid ≡ y)
    → due_of c (newer_or rest (cell_landed (if b then by_change.Return else by_change.Return) fly)) ≤ due_of c rest + flown_of y c fly
back-weight y c true rest fly own = back-one y c rest fly own
back-weight y c false rest fly own = back-one y c rest fly own

-- the server has it
acked-none : (c : Class) (verf : Verf) (b : Bool) (fly : Option Flown) → due_of c (cell_landed (if b then by_change.Store else by_change.Ack verf) fly) ≡ 0
acked-none c verf b None = refl
acked-none c verf true (Some flown) = refl
acked-none c verf false (Some flown) = refl

pub acked-weight : (c : Class) (committed : ℕ) (verf : Verf) (rest : Option Cell) (fly : Option Flown) → due_of c (newer_or rest (cell_landed (acked_by committed verf) fly)) ≤ due_of c rest
acked-weight c committed verf (Some cell) fly = omega arith
acked-weight c committed verf None fly = let none = acked-none c verf (nat_lt 0 committed) fly in omega (arith, none)
