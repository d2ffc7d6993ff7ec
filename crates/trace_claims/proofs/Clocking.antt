-- From which moment on a read may show what its file was.
use Rattle.std.proofs.Common.{◌≡◌, ◌<◌, ◌≤◌, ◌+◌, ◌-◌, inl, inr, ℕ, Bool, true, false, true≢false, List, length, Option, Some, None, slice_get, refl, sym, ◌∙◌, ap, subst, arith}
use Rattle.std.specs.Prelude.{Decides, ◌&&◌, not, nat_lt, max, if◌then◌else◌}
use Rattle.std.proofs.lemmas.Bool.{cases_lt, ltb-true, ltb-false, lt-ltb, and_parts, and_from, or_cases, or_left, or_right}
use Rattle.std.proofs.lemmas.Option.{slice_get_within}
use Rattle.world_model.specs.declared.entry.Entry.{Entry}
use Rattle.world_model.specs.declared.entry.Entry.TheVariants.{Began, Answered, Dialed, Sent, Executed, Foreign, Flushed, Reboot, Delivered, Failed, Clock}
use Rattle.world_model.specs.Entries.{At}
use Rattle.claims.specs.ReadTrue.{Since, each_read, opened, kept}
use Rattle.trace_data.specs.declared.trace.Trace.{Trace}
use Rattle.trace_claims.specs.Clocks.{clock_there, clock_at, later, IsLatest, LatestClock, young_by, young_reading, is_young, YoungAt, NoneYoung, IsFirstYoung, KeptBy, by_open, by_clock, after_within, SinceKept, IsSince}
use Rattle.trace_claims.specs.Modes.{modes_of}

some-number : (a b : ℕ) → Some a ≡ Some b → a ≡ b
some-number a b e = cc

clock-of-told : (o : Option Entry) (ms : ℕ) → clock_there o ≡ Some ms → o ≡ Some (Clock ms)
clock-of-told None ms t = absurd cc
clock-of-told (Some (Clock its)) ms t = ap (λ z. Some (Clock z)) (some-number its ms t)
clock-of-told (Some (Began lane line op)) ms t = absurd cc
clock-of-told (Some (Answered lane line answer)) ms t = absurd cc
clock-of-told (Some (Dialed port)) ms t = absurd cc
clock-of-told (Some (Sent bytes)) ms t = absurd cc
clock-of-told (Some (Executed xid call reply)) ms t = absurd cc
clock-of-told (Some (Foreign call reply)) ms t = absurd cc
clock-of-told (Some (Flushed file from len)) ms t = absurd cc
clock-of-told (Some (Reboot verf)) ms t = absurd cc
clock-of-told (Some (Delivered bytes)) ms t = absurd cc
clock-of-told (Some Failed) ms t = absurd cc

pub clock-told : (h : List Entry) (i ms : ℕ) → clock_at h i ≡ Some ms → At h i (Clock ms)
unfolding clock_at
clock-told h i ms t = clock-of-told (slice_get h i) ms t

pub clock-shown : (h : List Entry) (i ms : ℕ) → At h i (Clock ms) → clock_at h i ≡ Some ms
unfolding clock_at
clock-shown h i ms at = ap clock_there at

-- ---- the latest reading before a place

pub latest-none : (h : List Entry) → LatestClock h 0 None
latest-none h j ms at lt = absurd (omega (arith, lt))

at-last : (j k : ℕ) → k ≤ j → j < k + 1 → j ≡ k
at-last j k le lt = omega (arith, le, lt)

pub latest-more : (h : List Entry) (k : ℕ) (last : Option ℕ) → LatestClock h k last → LatestClock h (k + 1) (later last (clock_at h k))
latest-more h k last known = by last known (clock_at h k) refl
  where
    here : (j ms : ℕ) → At h j (Clock ms) → k ≤ j → j < k + 1 → clock_at h k ≡ Some ms
    here j ms at le lt = clock-shown h k ms (subst (λ (z : ℕ). At h z (Clock ms)) (at-last j k le lt) at)

    by : (last : Option ℕ) → LatestClock h k last → (c : Option ℕ) → clock_at h k ≡ c → LatestClock h (k + 1) (later last c)
    by None none None is = λ j ms at lt. elim (cases_lt j k) [
      | inl before ↦ none j ms at before
      | inr le ↦ let it : None ≡ Some ms = sym is ∙ here j ms at le lt in absurd cc
    ]
    by None none (Some a) is = record {
      j = k;
      there = clock-told h k a is;
      before = omega arith;
      most = λ j other at lt. elim (cases_lt j k) [
        | inl before ↦ absurd (none j other at before)
        | inr le ↦ let same : a ≡ other = some-number a other (sym is ∙ here j other at le lt) in omega (arith, same)
      ];
    }
    by (Some a) last None is = record {
      j = last.j;
      there = last.there;
      before = (let lt = last.before in omega (arith, lt));
      most = λ j other at lt. elim (cases_lt j k) [
        | inl before ↦ last.most j other at before
        | inr le ↦ let it : None ≡ Some other = sym is ∙ here j other at le lt in absurd cc
      ];
    }
    by (Some a) last (Some b) is = elim (cases_lt b a) [
      | inl less ↦ subst (λ (z : ℕ). IsLatest h (k + 1) z) (let e : a ≡ max a b = omega (arith, less) in e) (record {
        j = last.j;
        there = last.there;
        before = (let lt = last.before in omega (arith, lt));
        most = λ j other at lt. elim (cases_lt j k) [
          | inl before ↦ last.most j other at before
          | inr le ↦ let same : b ≡ other = some-number b other (sym is ∙ here j other at le lt) in omega (arith, same, less)
        ];
      })
      | inr above ↦ subst (λ (z : ℕ). IsLatest h (k + 1) z) (let e : b ≡ max a b = omega (arith, above) in e) (record {
        j = k;
        there = clock-told h k b is;
        before = omega arith;
        most = λ j other at lt. elim (cases_lt j k) [
          | inl before ↦ let le : other ≤ a = last.most j other at before in omega (arith, le, above)
          | inr le ↦ let same : b ≡ other = some-number b other (sym is ∙ here j other at le lt) in omega (arith, same)
        ];
      })
    ]

-- ---- young readings

young-told : (h : List Entry) (o longest i : ℕ) (latest : Option ℕ) → LatestClock h o latest → (c : Option ℕ) → clock_at h i ≡ c → young_reading c latest longest ≡ true → YoungAt h o longest i
young-told h o longest i latest known None is t = absurd (true≢false (sym t))
young-told h o longest i None none (Some ms) is t = record { ms = ms; read = clock-told h i ms is; young = λ j later at lt. absurd (none j later at lt) }
young-told h o longest i (Some last) known (Some ms) is t = record {
  ms = ms;
  read = clock-told h i ms is;
  young = λ j later at lt.
      let le : later ≤ last = known.most j later at lt in
      elim (or_cases (nat_lt last ms) (nat_lt (last - ms) longest) t) [
        | inl x ↦ let less : last < ms = ltb-true last ms x in omega (arith, le, less)
        | inr x ↦ let less : last - ms < longest = ltb-true (last - ms) longest x in omega (arith, le, less)
      ];
}

young-shown : (h : List Entry) (o longest i : ℕ) (latest : Option ℕ) → LatestClock h o latest → (y : YoungAt h o longest i) → young_by y.ms latest longest ≡ true
young-shown h o longest i None known y = refl
young-shown h o longest i (Some last) known y =
    let lt : last < y.ms + longest = y.young known.j last known.there known.before in
    elim (cases_lt last y.ms) [
      | inl less ↦ or_left (nat_lt last y.ms) (nat_lt (last - y.ms) longest) (lt-ltb last y.ms less)
      | inr le ↦ or_right (nat_lt last y.ms) (nat_lt (last - y.ms) longest) (lt-ltb (last - y.ms) longest (omega (arith, le, lt)))
    ]

pub young-decides : (h : List Entry) (o longest i : ℕ) (latest : Option ℕ) → LatestClock h o latest → Decides (is_young h i latest longest) (YoungAt h o longest i)
young-decides h o longest i latest known = (
  young-told h o longest i latest known (clock_at h i) refl,
  λ y. ap (λ (c : Option ℕ). young_reading c latest longest) (clock-shown h i y.ms y.read) ∙ young-shown h o longest i latest known y,
)

-- none of the first k is young
abbrev pub NoneBelow : List Entry → (o longest k : ℕ) → Type 0
NoneBelow h o longest k = (i : ℕ) → YoungAt h o longest i → k ≤ i

pub below-more : (h : List Entry) (o longest k : ℕ) (latest : Option ℕ) → LatestClock h o latest → NoneBelow h o longest k → is_young h k latest longest ≡ false → NoneBelow h o longest (k + 1)
below-more h o longest k latest known none f i y = elim (cases_lt k i) [
  | inl less ↦ omega (arith, less)
  | inr le ↦
      let same : i ≡ k = (let low = none i y in omega (arith, le, low)) in
      absurd (true≢false (sym ((young-decides h o longest k latest known).1 (subst (λ (z : ℕ). YoungAt h o longest z) same y)) ∙ f))
]

pub below-all : (h : List Entry) (o longest k : ℕ) → length h ≤ k → NoneBelow h o longest k → NoneYoung h o longest
below-all h o longest k le none i y = let low = none i y in let there = slice_get_within h i (Clock y.ms) y.read in omega (arith, low, there, le)

-- ---- moments

pub kept-found : (h : List Entry) (o longest i : ℕ) → IsFirstYoung h o longest i → SinceKept h o longest (after_within i o)
kept-found h o longest i f = by (nat_lt i o) refl
  where
    by : (b : Bool) → nat_lt i o ≡ b → SinceKept h o longest (if b then i + 1 else o)
    by true is =
        let lt : i < o = ltb-true i o is in
        record { opened = omega (arith, lt); young = λ j y. let le = f.first j y in omega (arith, le); least = λ n le. by_clock i f.is (omega (arith, le)) }
    by false is =
        let high : o ≤ i = ltb-false i o is in
        record { opened = omega arith; young = λ j y. let le = f.first j y in omega (arith, le, high); least = λ n le. by_open le }

pub kept-none : (h : List Entry) (o longest : ℕ) → NoneYoung h o longest → SinceKept h o longest o
kept-none h o longest none = record { opened = omega arith; young = λ j y. absurd (none j y); least = λ n le. by_open le }

-- each read asks again
pub since-read : (t : Trace) (r o : ℕ) → t.noac ≡ true → IsSince t r o r
since-read t r o on = record { late = late; early = λ n le. each_read on le }
  where
    late : (n : ℕ) → Since (modes_of t) t.entries.items r o n → r ≤ n
    late n (each_read mode le) = le
    late n (opened mode le) = absurd (true≢false (sym on ∙ mode))
    late n (kept mode nocto some young) = absurd (true≢false (sym on ∙ mode))

not-of : (a b : Bool) → a ≡ false → b ≡ true → (not a && b) ≡ true
not-of a b x y = rw (x, y) refl

of-not : (a b : Bool) → (not a && b) ≡ true → b ≡ true
of-not a b t = (and_parts (not a) b t).1

-- an open may go by what is kept
pub since-kept : (t : Trace) (r o s : ℕ) → t.noac ≡ false → (t.nocto && nat_lt 0 t.lives) ≡ true → SinceKept t.entries.items o t.lives s → IsSince t r o s
since-kept t r o s off on k = record { late = late; early = λ n le. early n (k.least n le) }
  where
    two : (t.nocto ≡ true) × (nat_lt 0 t.lives ≡ true)
    two = and_parts t.nocto (nat_lt 0 t.lives) on

    late : (n : ℕ) → Since (modes_of t) t.entries.items r o n → s ≤ n
    late n (each_read mode le) = absurd (true≢false (sym mode ∙ off))
    late n (opened mode le) = let low = k.opened in omega (arith, low, le)
    late n (kept mode nocto some young) = let le = k.young young.at (record { ms = young.ms; read = young.read; young = young.young }) in let lt = young.before in omega (arith, le, lt)

    early : (n : ℕ) → KeptBy t.entries.items o t.lives n → Since (modes_of t) t.entries.items r o n
    early n (by_open le) = opened off le
    early n (by_clock i y lt) = kept off (not-of t.noac t.nocto off two.0) (ltb-true 0 t.lives two.1) (record { at = i; ms = y.ms; read = y.read; before = lt; young = y.young })

-- it goes by no more than the open asked
pub since-open : (t : Trace) (r o : ℕ) → t.noac ≡ false → (t.nocto && nat_lt 0 t.lives) ≡ false → IsSince t r o o
since-open t r o off none = record { late = late; early = λ n le. opened off le }
  where
    late : (n : ℕ) → Since (modes_of t) t.entries.items r o n → o ≤ n
    late n (each_read mode le) = absurd (true≢false (sym mode ∙ off))
    late n (opened mode le) = le
    late n (kept mode nocto some young) = absurd (true≢false (sym (and_from t.nocto (nat_lt 0 t.lives) (of-not t.noac t.nocto nocto) (lt-ltb 0 t.lives some)) ∙ none))
