-- The client's time: which readings of the clock it goes by, and how young a moment is by them.
use Rattle.std.proofs.Common.{inl, inr, ◌⊎◌, ◌≡◌, ◌<◌, ◌≤◌, ◌+◌, ℕ, suc, List, [], ◌∷◌, ◌++◌, Option, Some, sym, subst, ◌∙◌, arith}
use Rattle.std.proofs.lemmas.Bool.{cases_lt}
use Rattle.world_model.specs.declared.entry.Entry.{Entry}
use Rattle.world_model.specs.declared.entry.Entry.TheVariants as entries
use Rattle.world_model.specs.Entries.{At}
use Rattle.world_model.specs.History.{History}
use Rattle.claims.specs.Modes.{Modes}
use Rattle.world_model.specs.Mounts.{Origin, Rooted}
use Rattle.world_model.specs.Operations.{EndsAt}
use Rattle.claims.specs.ReadTrue.{IsYoung}
use Rattle.claims.specs.Recent as recency
use Rattle.claims.specs.Recent.{Recent, Walked}
use Rattle.world_model.specs.Server.{Names}
use Rattle.world_model.proofs.Places.{At-one}

pub some_number : (a b : ℕ) → Some a ≡ Some b → a ≡ b
some_number a b e = cc

clock_is : (a b : ℕ) → entries.Clock a ≡ entries.Clock b → a ≡ b
clock_is a b e = cc

-- the clock was read before the moment n, and showed this
pub record WasRead (t : History) (n ms : ℕ) : Type 0 where
  pub at : ℕ
  pub read : At t.entries at (entries.Clock ms)
  pub before : at < n

-- the client's time is no less
abbrev pub AtLeast : ℕ → Option ℕ → Type 0
AtLeast ms now = (b : ℕ) × (now ≡ Some b) × (ms ≤ b)

-- the client's time is the greatest reading before the moment p
pub record Clocked (t : History) (p : ℕ) (now : Option ℕ) : Type 0 where
  pub read : (b : ℕ) → now ≡ Some b → WasRead t p b
  pub most : (j ms : ℕ) → At t.entries j (entries.Clock ms) → j < p → AtLeast ms now

-- an operation began after a reading that none before it exceeds
pub record TimedOp (t : History) (x : ℕ) : Type 0 where
  pub at : ℕ
  pub ms : ℕ
  pub read : At t.entries at (entries.Clock ms)
  pub before : at < x
  pub most : (j later : ℕ) → At t.entries j (entries.Clock later) → j < x → later ≤ ms

pub read_later : (t : History) (n k ms : ℕ) → n ≤ k → WasRead t n ms → WasRead t k ms
read_later t n k ms le r = record { at = r.at; read = r.read; before = let b = r.before in omega (arith, b, le) }

-- the client's time grows
abbrev pub Grows : Option ℕ → Option ℕ → Type 0
Grows old new = (b : ℕ) → old ≡ Some b → AtLeast b new

pub least_later : (ms : ℕ) (old new : Option ℕ) → Grows old new → AtLeast ms old → AtLeast ms new
least_later ms old new grows a = let r = grows a.0 a.1 in let p = a.2 in let q = r.2 in (r.0, r.1, omega (arith, p, q))

pub grows_same : (old : Option ℕ) → Grows old old
grows_same old b e = (b, e, omega arith)

pub timed_op : (t : History) (x time : ℕ) (now : Option ℕ) → now ≡ Some time → Clocked t x now → TimedOp t x
timed_op t x time now is c = let r = c.read time is in record {
  at = r.at;
  ms = time;
  read = r.read;
  before = r.before;
  most = λ j later at lt. let a = c.most j later at lt in let le = a.2 in let same : time ≡ a.0 = some_number time a.0 (sym is ∙ a.1) in omega (arith, le, same);
}

-- ---- over an entry

pub clock_quiet : (t : History) (p : ℕ) (e : Entry) (now : Option ℕ) → At t.entries p e → ((ms : ℕ) → e ≡ entries.Clock ms → ⊥) → Clocked t p now → Clocked t (suc p) now
clock_quiet t p e now here none c = record {
  read = λ b is. read_later t p (suc p) b (omega arith) (c.read b is);
  most = λ j ms at lt. elim (cases_lt j p) [
    | inl low ↦ c.most j ms at low
    | inr ge ↦ let same : j ≡ p = omega (arith, lt, ge) in absurd (none ms (At-one t.entries p e (entries.Clock ms) here (subst (λ z. At t.entries z (entries.Clock ms)) same at)))
  ];
}

pub clock_read : (t : History) (p ms time : ℕ) (old new : Option ℕ) → At t.entries p (entries.Clock ms) → new ≡ Some time → (time ≡ ms) ⊎ (old ≡ Some time) → ms ≤ time → ((b : ℕ) → old ≡ Some b → b ≤ time) → Clocked t p old → Clocked t (suc p) new
clock_read t p ms time old new here is one least later c = record {
  read = λ b e. let same : time ≡ b = some_number time b (sym is ∙ e) in subst (λ z. WasRead t (suc p) z) same (shown one);
  most = λ j later_ at lt. elim (cases_lt j p) [
    | inl low ↦ let a = c.most j later_ at low in let le = a.2 in let up = later a.0 a.1 in (time, is, omega (arith, le, up))
    | inr ge ↦
        let same : j ≡ p = omega (arith, lt, ge) in
        let e : ms ≡ later_ = clock_is ms later_ (At-one t.entries p (entries.Clock ms) (entries.Clock later_) here (subst (λ z. At t.entries z (entries.Clock later_)) same at)) in
        (time, is, omega (arith, e, least))
  ];
}
  where
    shown : (time ≡ ms) ⊎ (old ≡ Some time) → WasRead t (suc p) time
    shown (inl e) = record { at = p; read = subst (λ z. At t.entries p (entries.Clock z)) (sym e) here; before = omega arith }
    shown (inr e) = read_later t p (suc p) time (omega arith) (c.read time e)

-- ---- moments that an operation may go by

-- A moment up to p: one of the operation's own, where nothing is kept; else one that is young for it.
pub record Near (m : Modes) (t : History) (x p n : ℕ) : Type 0 where
  pub soon : n ≤ p
  pub own : m.longest ≡ 0 → x ≤ n
  pub young : 0 < m.longest → IsYoung m t.entries x n

pub near_later : (m : Modes) (t : History) (x p q n : ℕ) → p ≤ q → Near m t x p n → Near m t x q n
near_later m t x p q n le k = record { soon = let s = k.soon in omega (arith, s, le); own = k.own; young = k.young }

pub near_own : (m : Modes) (t : History) (x p n : ℕ) → TimedOp t x → x ≤ n → n ≤ p → Near m t x p n
near_own m t x p n timed low soon = record {
  soon = soon;
  own = λ none. low;
  young = λ some. record {
    at = timed.at;
    ms = timed.ms;
    read = timed.read;
    before = let b = timed.before in omega (arith, b, low);
    young = λ j later at lt. let le = timed.most j later at lt in omega (arith, le, some);
  };
}

-- what was kept from a time, and is believed
pub near_kept : (m : Modes) (t : History) (x p n sent lifetime time : ℕ) (now : Option ℕ) → Clocked t p now → x < p → n ≤ p → WasRead t n sent → AtLeast sent now → lifetime ≤ m.longest → now ≡ Some time → time < sent + lifetime → Near m t x p n
near_kept m t x p n sent lifetime time now clock low soon read least most is young = record {
  soon = soon;
  own = λ none. let le = least.2 in let same : least.0 ≡ time = some_number least.0 time (sym least.1 ∙ is) in absurd (omega (arith, none, most, le, same, young));
  young = λ some. record {
    at = read.at;
    ms = sent;
    read = read.read;
    before = read.before;
    young = λ j later at lt.
        let a = clock.most j later at (omega (arith, lt, low)) in
        let le = a.2 in
        let same : a.0 ≡ time = some_number a.0 time (sym a.1 ∙ is) in
        omega (arith, le, same, young, most);
  };
}

pub near_recent : (m : Modes) (t : History) (x y n : ℕ) → EndsAt t.entries x y → Near m t x y n → Recent m t.entries x n
near_recent m t x y n end k = elim (cases_lt 0 m.longest) [
  | inl some ↦ recency.kept y some end k.soon (k.young some)
  | inr none ↦ let zero_ : m.longest ≡ 0 = omega (arith, none) in recency.during y zero_ end (record { late = k.own zero_; soon = k.soon })
]

-- ---- walks

-- The path leads to the object by what directories held at such moments.
pub data Led (m : Modes) (origin : Origin) (t : History) (x p : ℕ) : List (List ℕ) → List ℕ → Type 0 where
  at_root : (path : List (List ℕ)) (object : List ℕ) → path ≡ [] → Rooted origin t.entries x object → Led m origin t x p path object
  through : (path earlier : List (List ℕ)) (object name d : List ℕ) (n : ℕ) → path ≡ earlier ++ name ∷ [] → Led m origin t x p earlier d → Near m t x p n → Names (t.at n) d name object → Led m origin t x p path object

pub led_later : (m : Modes) (origin : Origin) (t : History) (x p q : ℕ) (path : List (List ℕ)) (object : List ℕ) → p ≤ q → Led m origin t x p path object → Led m origin t x q path object
led_later m origin t x p q path object le (at_root _ _ is rooted) = at_root path object is rooted
led_later m origin t x p q path object le (through _ earlier _ name d n is led near named) = through path earlier object name d n is (led_later m origin t x p q earlier d le led) (near_later m t x p q n le near) named

pub led_walked : (m : Modes) (origin : Origin) (t : History) (x y : ℕ) (path : List (List ℕ)) (object : List ℕ) → EndsAt t.entries x y → Led m origin t x y path object → Walked m origin t x path object
led_walked m origin t x y path object end (at_root _ _ is rooted) = recency.root path object is rooted
led_walked m origin t x y path object end (through _ earlier _ name d n is led near named) = recency.step path earlier object name d n is (led_walked m origin t x y earlier d end led) (near_recent m t x y n end near) named
