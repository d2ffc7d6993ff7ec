-- Which of the first three rules breaks first. Each is kept by beginnings.
use Rattle.std.proofs.Common.{◌≡◌, ◌<◌, ◌≤◌, ◌⊎◌, inl, inr, ℕ, zero, suc, Bool, true, false, List, length, take, Option, Some, None, slice_get, refl, sym, ◌∙◌, ap, subst, arith}
use Rattle.std.specs.Prelude.{MatchOption, nat_lt, if◌then◌else◌}
use Rattle.std.proofs.lemmas.Bool.{ltb-true, ltb-false}
use Rattle.std.proofs.lemmas.List.{length-take-le}
use Rattle.std.proofs.lemmas.Option.{slice_get_within}
use Rattle.world_model.specs.declared.entry.Entry.{Entry}
use Rattle.world_model.specs.declared.entry.Entry.TheVariants.{Delivered, Executed}
use Rattle.world_model.specs.Entries.{At}
use Rattle.world_model.specs.Fresh.{Fresh}
use Rattle.world_model.specs.History.{History, history}
use Rattle.world_model.specs.Lawful.{Lawful}
use Rattle.trace_data.specs.declared.trace.Trace.{Trace}
use Rattle.trace_data.specs.Histories.{history_of}
use Rattle.trace_rules.specs.Beginnings.{beginning, BreaksAt, OnceOf}
use Rattle.trace_lawful.specs.declared.earliest.First.{First}
use Rattle.trace_lawful.specs.Earliest.{with_rule, earlier}
use Rattle.trace_lawful.specs.Judged.{KeepsServer, BreaksFirst, FirstBroken}
use Rattle.trace_lawful.proofs.Lawfulness.{get-take, lawful-less}

-- ---- what the whole keeps its beginnings keep

length-taken : (n : ℕ) (h : List Entry) (m : ℕ) (e : Entry) → n ≤ length h → At (take n h) m e → m < n
length-taken n h m e le at = let inside : m < length (take n h) = slice_get_within (take n h) m e at in let same : length (take n h) ≡ n = length-take-le n h le in omega (arith, inside, same)

once-less : (h : History) (n : ℕ) → n ≤ length h.entries → OnceOf h → OnceOf (beginning h n)
once-less h n le once i m xid bytes call reply came is done =
    once i m xid bytes call reply (from i (Delivered bytes) came) is (from m (Executed xid call reply) done)
  where
    from : (k : ℕ) (e : Entry) → At (take n h.entries) k e → At h.entries k e
    from k e at = sym (get-take n h.entries k (length-taken n h.entries k e le at)) ∙ at

fresh-less : (h : History) (n : ℕ) → n ≤ length h.entries → Fresh h → Fresh (beginning h n)
fresh-less h n le fresh m below = let same : length (take n h.entries) ≡ n = length-take-le n h.entries le in fresh m (omega (arith, below, same, le))

-- a rule that the whole keeps, or that breaks first at some number of entries, holds of each beginning before
kept-before : (rule : History → Type 0) (h : History) → ((n : ℕ) → n ≤ length h.entries → rule h → rule (beginning h n)) → (first : Option ℕ)
    → MatchOption first (rule h) (BreaksAt rule h) → (n : ℕ) → n ≤ length h.entries → ((m : ℕ) → first ≡ Some m → n < m) → rule (beginning h n)
kept-before rule h less None whole n le later = less n le whole
kept-before rule h less (Some m) breaks n le later = breaks.least n (later m refl)

-- ---- the earliest

-- a number and the rule that breaks there
abbrev pub Finds : History → Option ℕ → Option ℕ → Option ℕ → Type 0
Finds h unlawful late stale = MatchOption unlawful (Lawful h) (BreaksAt Lawful h) × MatchOption late (OnceOf h) (BreaksAt OnceOf h) × MatchOption stale (Fresh h) (BreaksAt Fresh h)

-- none is less than n
abbrev pub NoneBefore : Option ℕ → ℕ → Type 0
NoneBefore first n = (m : ℕ) → first ≡ Some m → n ≤ m

-- none is n or less
abbrev pub NonePast : Option ℕ → ℕ → Type 0
NonePast first n = (m : ℕ) → first ≡ Some m → n < m

keeps-before : (t : Trace) (unlawful late stale : Option ℕ) → Finds (history_of t) unlawful late stale → (n : ℕ) → n ≤ length t.entries.items
    → NonePast unlawful n → NonePast late n → NonePast stale n → KeepsServer (beginning (history_of t) n)
keeps-before t unlawful late stale f n le a b c = record {
  lawful = kept-before Lawful (history_of t) (λ m less w. lawful-less t m less w) unlawful f.0 n le a;
  once = kept-before OnceOf (history_of t) (λ m less w. once-less (history_of t) m less w) late f.1 n le b;
  fresh = kept-before Fresh (history_of t) (λ m less w. fresh-less (history_of t) m less w) stale f.2 n le c;
}

-- no rule breaks
pub none-broken : (t : Trace) → Finds (history_of t) None None None → KeepsServer (history_of t)
none-broken t f = record { lawful = f.0; once = f.1; fresh = f.2 }

sooner : (first : Option ℕ) (n m : ℕ) → NoneBefore first n → m < n → NonePast first m
sooner first n m none lt k e = let le : n ≤ k = none k e in omega (arith, le, lt)

-- the entries are lawful no more
pub unlawful-first : (t : Trace) (n : ℕ) (late stale : Option ℕ) → Finds (history_of t) (Some n) late stale → NoneBefore late n → NoneBefore stale n
    → FirstBroken (history_of t) n 1
unlawful-first t n late stale f b c = let within : n ≤ length t.entries.items = f.0.within in record {
  within = within;
  breaks = BreaksFirst.unlawful refl f.0.breaks;
  least = λ m lt. keeps-before t (Some n) late stale f m (omega (arith, within, lt)) (λ k e. subst (λ z. m < z) (some n k e) lt) (sooner late n m b lt) (sooner stale n m c lt);
}
  where
    some : (n k : ℕ) → Some n ≡ Some k → n ≡ k
    some n k e = cc

-- a copy comes late
pub late-first : (t : Trace) (n : ℕ) (unlawful stale : Option ℕ) → Finds (history_of t) unlawful (Some n) stale → NonePast unlawful n → NoneBefore stale n
    → FirstBroken (history_of t) n 2
late-first t n unlawful stale f a c = let within : n ≤ length t.entries.items = f.1.within in record {
  within = within;
  breaks = BreaksFirst.late refl (kept-before Lawful (history_of t) (λ m less w. lawful-less t m less w) unlawful f.0 n within a) f.1.breaks;
  least = λ m lt. keeps-before t unlawful (Some n) stale f m (omega (arith, within, lt)) (λ k e. let past : n < k = a k e in omega (arith, past, lt)) (λ k e. subst (λ z. m < z) (some n k e) lt) (sooner stale n m c lt);
}
  where
    some : (n k : ℕ) → Some n ≡ Some k → n ≡ k
    some n k e = cc

-- a stamp isn't fresh
pub stale-first : (t : Trace) (n : ℕ) (unlawful late : Option ℕ) → Finds (history_of t) unlawful late (Some n) → NonePast unlawful n → NonePast late n
    → FirstBroken (history_of t) n 3
stale-first t n unlawful late f a b = let within : n ≤ length t.entries.items = f.2.within in record {
  within = within;
  breaks = BreaksFirst.stale refl (kept-before Lawful (history_of t) (λ m less w. lawful-less t m less w) unlawful f.0 n within a)
      (kept-before OnceOf (history_of t) (λ m less w. once-less (history_of t) m less w) late f.1 n within b) f.2.breaks;
  least = λ m lt. keeps-before t unlawful late (Some n) f m (omega (arith, within, lt)) (λ k e. let past : n < k = a k e in omega (arith, past, lt))
      (λ k e. let past : n < k = b k e in omega (arith, past, lt)) (λ k e. subst (λ z. m < z) (some n k e) lt);
}
  where
    some : (n k : ℕ) → Some n ≡ Some k → n ≡ k
    some n k e = cc

-- ---- all three together

-- what is found of the first three rules
abbrev pub IsFirst : Trace → Option First → Type 0
IsFirst t first = MatchOption first (KeepsServer (history_of t)) (λ f. FirstBroken (history_of t) f.entries f.rule)

none-there : (n : ℕ) → NoneBefore None n
none-there n m e = absurd (cc)

none-past : (n : ℕ) → NonePast None n
none-past n m e = absurd (cc)

at-most : (n k : ℕ) → n ≤ k → NoneBefore (Some k) n
at-most n k le m e = subst (λ z. n ≤ z) (some k m e) le
  where
    some : (a b : ℕ) → Some a ≡ Some b → a ≡ b
    some a b e = cc

is-past : (n k : ℕ) → n < k → NonePast (Some k) n
is-past n k lt m e = subst (λ z. n < z) (some k m e) lt
  where
    some : (a b : ℕ) → Some a ≡ Some b → a ≡ b
    some a b e = cc

-- one of two first places, by which has fewer entries
either-first : (P : Option First → Type 0) (a b : First) → (b.entries < a.entries → P (Some b)) → (a.entries ≤ b.entries → P (Some a)) → P (earlier (Some a) (Some b))
either-first P a b less most = by (nat_lt b.entries a.entries) refl
  where
    by : (x : Bool) → nat_lt b.entries a.entries ≡ x → P (if x then Some b else Some a)
    by true e = less (ltb-true b.entries a.entries e)
    by false e = most (ltb-false b.entries a.entries e)

pub first-of : (t : Trace) (unlawful late stale : Option ℕ) → MatchOption unlawful (Lawful (history_of t)) (BreaksAt Lawful (history_of t))
    → MatchOption late (OnceOf (history_of t)) (BreaksAt OnceOf (history_of t)) → MatchOption stale (Fresh (history_of t)) (BreaksAt Fresh (history_of t))
    → IsFirst t (earlier (earlier (with_rule 1 unlawful) (with_rule 2 late)) (with_rule 3 stale))
first-of t None None None a b c = none-broken t (a, b, c)
first-of t None None (Some s) a b c = stale-first t s None None (a, b, c) (none-past s) (none-past s)
first-of t None (Some l) None a b c = late-first t l None None (a, b, c) (none-past l) (none-there l)
first-of t (Some u) None None a b c = unlawful-first t u None None (a, b, c) (none-there u) (none-there u)
first-of t None (Some l) (Some s) a b c = either-first (IsFirst t) (record { entries = l; rule = 2 }) (record { entries = s; rule = 3 })
    (λ less. stale-first t s None (Some l) (a, b, c) (none-past s) (is-past s l less))
    (λ most. late-first t l None (Some s) (a, b, c) (none-past l) (at-most l s most))
first-of t (Some u) None (Some s) a b c = either-first (IsFirst t) (record { entries = u; rule = 1 }) (record { entries = s; rule = 3 })
    (λ less. stale-first t s (Some u) None (a, b, c) (is-past s u less) (none-past s))
    (λ most. unlawful-first t u None (Some s) (a, b, c) (none-there u) (at-most u s most))
first-of t (Some u) (Some l) None a b c = either-first (λ z. IsFirst t (earlier z None)) (record { entries = u; rule = 1 }) (record { entries = l; rule = 2 })
    (λ less. late-first t l (Some u) None (a, b, c) (is-past l u less) (none-there l))
    (λ most. unlawful-first t u (Some l) None (a, b, c) (at-most u l most) (none-there u))
first-of t (Some u) (Some l) (Some s) a b c = either-first (λ z. IsFirst t (earlier z (Some (record { entries = s; rule = 3 })))) (record { entries = u; rule = 1 }) (record { entries = l; rule = 2 })
    (λ less. either-first (IsFirst t) (record { entries = l; rule = 2 }) (record { entries = s; rule = 3 })
    (λ lower. stale-first t s (Some u) (Some l) (a, b, c) (is-past s u (omega (arith, less, lower))) (is-past s l lower))
    (λ most. late-first t l (Some u) (Some s) (a, b, c) (is-past l u less) (at-most l s most)))
    (λ most. either-first (IsFirst t) (record { entries = u; rule = 1 }) (record { entries = s; rule = 3 })
    (λ lower. stale-first t s (Some u) (Some l) (a, b, c) (is-past s u lower) (is-past s l (omega (arith, lower, most))))
    (λ more. unlawful-first t u (Some l) (Some s) (a, b, c) (at-most u l most) (at-most u s more)))

-- what is found of the entries alone
pub late-of : (t : Trace) (late : Option ℕ) → MatchOption late (OnceOf (history t.entries.items)) (BreaksAt OnceOf (history t.entries.items))
    → MatchOption late (OnceOf (history_of t)) (BreaksAt OnceOf (history_of t))
late-of t None once = once
late-of t (Some n) b = record { within = b.within; breaks = b.breaks; least = b.least }
