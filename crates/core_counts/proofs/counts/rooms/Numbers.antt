-- Sums over the lanes, over calls that may be made again, and over the writes that began.
use Rattle.core_counts.proofs.Prelude.{◌≡◌, ◌≢◌, ◌<◌, ◌≤◌, ◌+◌, ◌-◌, ◌⊎◌, inl, inr, ℕ, zero, suc, nat_eq, Bool, true, false, List, [], ◌∷◌, ◌++◌, length, Option, Some, None, refl, sym, ap, subst, ◌∙◌, arith, length-append, if◌then◌else◌, eqb-true, eqb-false, Waiting, waiting_at, Entry, Began, Op, IsWriter, Placed, At, Repeat, Purpose, count}
use Rattle.claims.specs.Asks.{write, fill, put}
use Rattle.world_model.specs.declared.op.Op.TheVariants as ops
use Rattle.core_counts.proofs.counts.engine.Lists.{Each, each-map, each-both, each-join, Apart, Different}

-- ---- lanes

unfoldable pub total : ℕ → (ℕ → ℕ) → ℕ
total zero q = 0
total (suc n) q = q (suc n) + total n q

unfoldable pub times : ℕ → ℕ → ℕ
times zero e = 0
times (suc n) e = e + times n e

pub total-none : (m : ℕ) → total m (λ n. 0) ≡ 0
unfolding total
total-none zero = refl
total-none (suc m) = let rest = total-none m in omega (arith, rest)

-- one of them has so much, and each other so much more
abbrev pub sets : ℕ → ℕ → ℕ → (ℕ → ℕ) → ℕ → ℕ
sets a b e q n = if nat_eq n a then b else q n + e

pub sets-here : (a b e : ℕ) (q : ℕ → ℕ) (n : ℕ) → n ≡ a → sets a b e q n ≡ b
sets-here a b e q n is = by (nat_eq n a) refl
  where
    by : (c : Bool) → nat_eq n a ≡ c → (if c then b else q n + e) ≡ b
    by true d = refl
    by false d = absurd (eqb-false n a d is)

pub sets-other : (a b e : ℕ) (q : ℕ → ℕ) (n : ℕ) → n ≢ a → sets a b e q n ≡ q n + e
sets-other a b e q n apart = by (nat_eq n a) refl
  where
    by : (c : Bool) → nat_eq n a ≡ c → (if c then b else q n + e) ≡ q n + e
    by true d = absurd (apart (eqb-true n a d))
    by false d = refl

total-others : (m a b e : ℕ) (q : ℕ → ℕ) → m < a → total m (sets a b e q) ≡ total m q + times m e
unfolding total times
total-others zero a b e q low = refl
total-others (suc m) a b e q low =
    let rest = total-others m a b e q (omega (arith, low)) in
    let one = sets-other a b e q (suc m) (λ same. absurd (omega (arith, low, same))) in
    omega (arith, rest, one)

pub total-sets : (m a b e : ℕ) (q : ℕ → ℕ) → 1 ≤ a → a ≤ m → total m (sets a b e q) + q a + e ≡ b + total m q + times m e
unfolding total times
total-sets zero a b e q least most = absurd (omega (arith, least, most))
total-sets (suc m) a b e q least most = by (nat_eq (suc m) a) refl (total-sets m a b e q least)
  where
    by : (c : Bool) → nat_eq (suc m) a ≡ c → (a ≤ m → total m (sets a b e q) + q a + e ≡ b + total m q + times m e) → (sets a b e q (suc m) + total m (sets a b e q)) + q a + e ≡ b + (q (suc m) + total m q) + (e + times m e)
    by true d lower =
        let same = eqb-true (suc m) a d in
        let one = sets-here a b e q (suc m) same in
        let rest = total-others m a b e q (omega (arith, same)) in
        let own = ap q same in
        omega (arith, one, rest, own)
    by false d lower =
        let apart = eqb-false (suc m) a d in
        let one = sets-other a b e q (suc m) apart in
        let rest = lower (below (λ same. apart same)) in
        omega (arith, one, rest)
      where
        below : (suc m ≡ a → ⊥) → a ≤ m
        below apart = within (nat_eq a (suc m)) refl
          where
            within : (c : Bool) → nat_eq a (suc m) ≡ c → a ≤ m
            within true same = absurd (apart (sym (eqb-true a (suc m) same)))
            within false other = let away = eqb-false a (suc m) other in omega (arith, most, away)

-- of sixteen
zeros : times 16 0 ≡ 0
unfolding times
zeros = refl

twos : times 16 2 ≡ 32
unfolding times
twos = refl

pub sixteen-sets : (a b : ℕ) (q : ℕ → ℕ) → 1 ≤ a → a ≤ 16 → total 16 (sets a b 0 q) + q a ≡ b + total 16 q
sixteen-sets a b q least most =
    let all = total-sets 16 a b 0 q least most in
    let none : times 16 0 ≡ 0 = zeros in
    omega (arith, all, none)

pub sixteen-more : (a b : ℕ) (q : ℕ → ℕ) → 1 ≤ a → a ≤ 16 → total 16 (sets a b 2 q) + q a ≡ b + total 16 q + 30
sixteen-more a b q least most =
    let all = total-sets 16 a b 2 q least most in
    let none : times 16 2 ≡ 32 = twos in
    omega (arith, all, none)

-- ---- some of others

abbrev pub In : {A : Type 0} → A → List A → Type 0
In a [] = ⊥
In a (x ∷ xs) = (x ≡ a) ⊎ In a xs

unfoldable pub minus : {A : Type 0} → (xs : List A) (a : A) → In a xs → List A
minus [] a i = []
minus (x ∷ xs) a (inl same) = xs
minus (x ∷ xs) a (inr i) = x ∷ minus xs a i

module _ {A : Type 0} (key weight : A → ℕ) where
  abbrev pub weigh : List A → ℕ
  weigh [] = 0
  weigh (x ∷ xs) = weight x + weigh xs

  weigh-minus : (xs : List A) (a : A) (i : In a xs) → weigh xs ≡ weight a + weigh (minus xs a i)
  unfolding minus
  weigh-minus [] a i = absurd i
  weigh-minus (x ∷ xs) a (inl same) = let is = ap weight same in omega (arith, is)
  weigh-minus (x ∷ xs) a (inr i) = let rest = weigh-minus xs a i in omega (arith, rest)

  in-minus : (xs : List A) (a b : A) (i : In a xs) → In b xs → key b ≢ key a → In b (minus xs a i)
  unfolding minus
  in-minus [] a b i j apart = absurd i
  in-minus (x ∷ xs) a b (inl same) (inl other) apart = absurd (apart (ap key (sym other ∙ same)))
  in-minus (x ∷ xs) a b (inl same) (inr j) apart = j
  in-minus (x ∷ xs) a b (inr i) (inl other) apart = inl other
  in-minus (x ∷ xs) a b (inr i) (inr j) apart = inr (in-minus xs a b i j apart)

  pub weigh-within : (some all : List A) → Different key some → Each (λ (a : A). In a all) some → weigh some ≤ weigh all
  weigh-within [] all d e = omega arith
  weigh-within (a ∷ some) all d e =
      let rest = weigh-within some (minus all a e.0) d.1
      (each-map (λ (b : A). (key b ≢ key a) × In b all) (λ (b : A). In b (minus all a e.0)) (λ b k. in-minus all a b e.0 k.1 k.0) some
      (each-both (λ (b : A). key b ≢ key a) (λ (b : A). In b all) some d.0 e.1)) in
      let one = weigh-minus all a e.0 in
      omega (arith, rest, one)

-- as many different numbers as there are
pub few-within : (xs made : List ℕ) → Apart xs → Each (λ (n : ℕ). In n made) xs → length xs ≤ length made
few-within xs made a e =
    let all = weigh-within (λ (n : ℕ). n) (λ (n : ℕ). 1) xs made (different xs a) e in
    let one = ones xs in
    let two = ones made in
    omega (arith, all, one, two)
  where
    ones : (ys : List ℕ) → weigh (λ (n : ℕ). n) (λ (n : ℕ). 1) ys ≡ length ys
    ones [] = refl
    ones (y ∷ ys) = let rest = ones ys in omega (arith, rest)

    different : (ys : List ℕ) → Apart ys → Different (λ (n : ℕ). n) ys
    different [] k = tt
    different (y ∷ ys) k = (k.0, different ys k.1)

-- ---- how often calls may be made again

abbrev pub pot_if : Option (Waiting Purpose) → ℕ → ℕ
pot_if None n = 0
pot_if (Some w) n = 3 - n

abbrev pub pot : List (ℕ × Waiting Purpose) → List Repeat → ℕ → ℕ
pot calls rs xid = pot_if (waiting_at xid calls) (count xid rs)

pub pot-most : (calls : List (ℕ × Waiting Purpose)) (rs : List Repeat) (xid : ℕ) → pot calls rs xid ≤ 3
pot-most calls rs xid = by (waiting_at xid calls)
  where
    by : (o : Option (Waiting Purpose)) → pot_if o (count xid rs) ≤ 3
    by None = omega arith
    by (Some w) = omega arith

abbrev pub sum_of : (ℕ → ℕ) → List ℕ → ℕ
sum_of p [] = 0
sum_of p (y ∷ ys) = p y + sum_of p ys

pub sum-less : (p r : ℕ → ℕ) (ys : List ℕ) → ((y : ℕ) → In y ys → r y ≤ p y) → sum_of r ys ≤ sum_of p ys
sum-less p r [] less = omega arith
sum-less p r (y ∷ ys) less = let one = less y (inl refl) in let rest = sum-less p r ys (λ z there. less z (inr there)) in omega (arith, one, rest)

pub sum-drop : (p r : ℕ → ℕ) (ys : List ℕ) (xid d : ℕ) → ((y : ℕ) → In y ys → r y ≤ p y) → In xid ys → r xid + d ≤ p xid → sum_of r ys + d ≤ sum_of p ys
sum-drop p r [] xid d less i drop_ = absurd i
sum-drop p r (y ∷ ys) xid d less (inl same) drop_ =
    let rest = sum-less p r ys (λ z there. less z (inr there)) in
    let one = subst (λ (n : ℕ). r n + d ≤ p n) (sym same) drop_ in
    omega (arith, one, rest)
sum-drop p r (y ∷ ys) xid d less (inr i) drop_ =
    let rest = sum-drop p r ys xid d (λ z there. less z (inr there)) i drop_ in
    let one = less y (inl refl) in
    omega (arith, one, rest)

-- ---- the writes, fills and puts that began

abbrev pub if_writes : ℕ → Op → List Placed
if_writes n (ops.Write slot offset bytes) = (n, ops.Write slot offset bytes) ∷ []
if_writes n (ops.Fill slot offset count byte) = (n, ops.Fill slot offset count byte) ∷ []
if_writes n (ops.Put path offset bytes) = (n, ops.Put path offset bytes) ∷ []
if_writes n op = []

abbrev pub writer_here : ℕ → Entry → List Placed
writer_here n (Began lane line op) = if_writes n op
writer_here n e = []

abbrev pub writers_from : ℕ → List Entry → List Placed
writers_from n [] = []
writers_from n (e ∷ es) = writer_here n e ++ writers_from (suc n) es

-- so many writes, fills and puts began
abbrev pub many : List Entry → ℕ
many h = length (writers_from 0 h)

more-from : (n : ℕ) (h : List Entry) (e : Entry) → length (writers_from n (h ++ e ∷ [])) ≡ length (writers_from n h) + length (writer_here (n + length h) e)
more-from n [] e =
    let one = length-append (writer_here n e) [] in
    let here : length (writer_here (n + 0) e) ≡ length (writer_here n e) = ap (λ (k : ℕ). length (writer_here k e)) (let z : n + 0 ≡ n = omega arith in z) in
    omega (arith, one, here)
more-from n (x ∷ h) e =
    let rest = more-from (suc n) h e in
    let one = length-append (writer_here n x) (writers_from (suc n) (h ++ e ∷ [])) in
    let two = length-append (writer_here n x) (writers_from (suc n) h) in
    let place : length (writer_here (suc n + length h) e) ≡ length (writer_here (n + suc (length h)) e) = ap (λ (k : ℕ). length (writer_here k e)) (let z : suc n + length h ≡ n + suc (length h) = omega arith in z) in
    omega (arith, rest, one, two, place)

pub many-more : (h : List Entry) (e : Entry) → many (h ++ e ∷ []) ≡ many h + length (writer_here (length h) e)
many-more h e =
    let all = more-from 0 h e in
    let here : length (writer_here (0 + length h) e) ≡ length (writer_here (length h) e) = ap (λ (k : ℕ). length (writer_here k e)) (let z : 0 + length h ≡ length h = omega arith in z) in
    omega (arith, all, here)

-- what is in the list
pub record IsOne (from : ℕ) (h : List Entry) (o : Placed) : Type 0 where
  pub at : ℕ
  pub place : o.0 ≡ from + at
  pub lane : ℕ
  pub line : ℕ
  pub began : At h at (Began lane line o.1)
  pub writes : IsWriter o.1

op-one : (from lane line : ℕ) (op : Op) (es : List Entry) → Each (IsOne from (Began lane line op ∷ es)) (if_writes from op)
op-one from lane line (ops.Write slot offset bytes) es = (record { at = 0; place = omega arith; lane = lane; line = line; began = refl; writes = write slot offset bytes refl }, tt)
op-one from lane line (ops.Fill slot offset count byte) es = (record { at = 0; place = omega arith; lane = lane; line = line; began = refl; writes = fill slot offset count byte refl }, tt)
op-one from lane line (ops.Put path offset bytes) es = (record { at = 0; place = omega arith; lane = lane; line = line; began = refl; writes = put path offset bytes refl }, tt)
op-one from lane line (ops.OpenFile slot mode path) es = tt
op-one from lane line (ops.Read slot offset count) es = tt
op-one from lane line (ops.Sync slot) es = tt
op-one from lane line (ops.Close slot) es = tt
op-one from lane line (ops.Truncate slot size) es = tt
op-one from lane line (ops.Stat path) es = tt
op-one from lane line (ops.Access path bits) es = tt
op-one from lane line (ops.ReadLink path) es = tt
op-one from lane line (ops.MakeDir path) es = tt
op-one from lane line (ops.RemoveDir path) es = tt
op-one from lane line (ops.Remove path) es = tt
op-one from lane line (ops.Rename a b) es = tt
op-one from lane line (ops.Link a b) es = tt
op-one from lane line (ops.SymLink path target) es = tt
op-one from lane line (ops.List path) es = tt

here-one : (from : ℕ) (e : Entry) (es : List Entry) → Each (IsOne from (e ∷ es)) (writer_here from e)
here-one from (Began lane line op) es = op-one from lane line op es
here-one from e es = tt

later-one : (from : ℕ) (e : Entry) (es : List Entry) (o : Placed) → IsOne (suc from) es o → IsOne from (e ∷ es) o
later-one from e es o k = record { at = suc k.at; place = (let p = k.place in omega (arith, p)); lane = k.lane; line = k.line; began = k.began; writes = k.writes }

pub each-one : (from : ℕ) (h : List Entry) → Each (IsOne from h) (writers_from from h)
each-one from [] = tt
each-one from (e ∷ es) =
    each-join (IsOne from (e ∷ es)) (writer_here from e) (writers_from (suc from) es) (here-one from e es)
    (each-map (IsOne (suc from) es) (IsOne from (e ∷ es)) (later-one from e es) (writers_from (suc from) es) (each-one (suc from) es))

in-left : {A : Type 0} → (a : A) (xs ys : List A) → In a xs → In a (xs ++ ys)
in-left a [] ys i = absurd i
in-left a (x ∷ xs) ys (inl same) = inl same
in-left a (x ∷ xs) ys (inr i) = inr (in-left a xs ys i)

in-right : {A : Type 0} → (a : A) (xs ys : List A) → In a ys → In a (xs ++ ys)
in-right a [] ys i = i
in-right a (x ∷ xs) ys i = inr (in-right a xs ys i)

op-in : (n : ℕ) (op : Op) → IsWriter op → In (n, op) (if_writes n op)
op-in n op (write slot offset bytes is) = subst (λ (o : Op). In (n, o) (if_writes n o)) (sym is) (inl refl)
op-in n op (fill slot offset count byte is) = subst (λ (o : Op). In (n, o) (if_writes n o)) (sym is) (inl refl)
op-in n op (put path offset bytes is) = subst (λ (o : Op). In (n, o) (if_writes n o)) (sym is) (inl refl)

-- each that began is there
pub all-in : (from : ℕ) (h : List Entry) (x lane line : ℕ) (op : Op) → At h x (Began lane line op) → IsWriter op → In (from + x, op) (writers_from from h)
all-in from [] x lane line op at writes = absurd (cc)
all-in from (e ∷ es) zero lane line op at writes =
    let same : e ≡ Began lane line op = first e (Began lane line op) at in
    subst (λ (n : ℕ). In (n, op) (writers_from from (e ∷ es))) (let z : from ≡ from + 0 = omega arith in z)
    (in-left (from, op) (writer_here from e) (writers_from (suc from) es) (subst (λ (z : Entry). In (from, op) (writer_here from z)) (sym same) (op-in from op writes)))
  where
    first : (a b : Entry) → Some a ≡ Some b → a ≡ b
    first a b k = cc
all-in from (e ∷ es) (suc x) lane line op at writes =
    subst (λ (n : ℕ). In (n, op) (writers_from from (e ∷ es))) (let z : suc from + x ≡ from + suc x = omega arith in z)
    (in-right (suc from + x, op) (writer_here from e) (writers_from (suc from) es) (all-in (suc from) es x lane line op at writes))

pub every-in : (h : List Entry) (x lane line : ℕ) (op : Op) → At h x (Began lane line op) → IsWriter op → In (x, op) (writers_from 0 h)
every-in h x lane line op at writes = subst (λ (n : ℕ). In (n, op) (writers_from 0 h)) (let z : 0 + x ≡ x = omega arith in z) (all-in 0 h x lane line op at writes)

-- they began at different places
late-one : (from : ℕ) (h : List Entry) (o : Placed) → IsOne (suc from) h o → o.0 ≢ from
late-one from h o k same = let p = k.place in absurd (omega (arith, p, same))

op-apart : (n : ℕ) (op : Op) (rest : List Placed) → Each (λ (o : Placed). o.0 ≢ n) rest → Different (λ (o : Placed). o.0) rest → Different (λ (o : Placed). o.0) (if_writes n op ++ rest)
op-apart n (ops.Write slot offset bytes) rest e d = (e, d)
op-apart n (ops.Fill slot offset count byte) rest e d = (e, d)
op-apart n (ops.Put path offset bytes) rest e d = (e, d)
op-apart n (ops.OpenFile slot mode path) rest e d = d
op-apart n (ops.Read slot offset count) rest e d = d
op-apart n (ops.Sync slot) rest e d = d
op-apart n (ops.Close slot) rest e d = d
op-apart n (ops.Truncate slot size) rest e d = d
op-apart n (ops.Stat path) rest e d = d
op-apart n (ops.Access path bits) rest e d = d
op-apart n (ops.ReadLink path) rest e d = d
op-apart n (ops.MakeDir path) rest e d = d
op-apart n (ops.RemoveDir path) rest e d = d
op-apart n (ops.Remove path) rest e d = d
op-apart n (ops.Rename a b) rest e d = d
op-apart n (ops.Link a b) rest e d = d
op-apart n (ops.SymLink path target) rest e d = d
op-apart n (ops.List path) rest e d = d

here-apart : (n : ℕ) (e : Entry) (rest : List Placed) → Each (λ (o : Placed). o.0 ≢ n) rest → Different (λ (o : Placed). o.0) rest → Different (λ (o : Placed). o.0) (writer_here n e ++ rest)
here-apart n (Began lane line op) rest each d = op-apart n op rest each d
here-apart n e rest each d = d

pub all-apart-from : (from : ℕ) (h : List Entry) → Different (λ (o : Placed). o.0) (writers_from from h)
all-apart-from from [] = tt
all-apart-from from (e ∷ es) =
    here-apart from e (writers_from (suc from) es)
    (each-map (IsOne (suc from) es) (λ (o : Placed). o.0 ≢ from) (late-one from es) (writers_from (suc from) es) (each-one (suc from) es)) (all-apart-from (suc from) es)
