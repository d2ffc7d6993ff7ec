-- What was settled by one client before the other opened the file is seen.
use Rattle.std.proofs.Common.{◌≡◌, ◌<◌, ◌≤◌, ◌⊎◌, inl, inr, ◌+◌, ℕ, zero, suc, List, [], ◌∷◌, length, true, false, Some, slice_get, refl, sym, ap, ◌∙◌, arith}
use Rattle.std.proofs.lemmas.Bool.{cases_lt}
use Rattle.std.proofs.lemmas.Option.{slice_get_within}
use Rattle.world_model.specs.History.{History}
use Rattle.world_model.specs.Lawful.{Lawful}
use Rattle.claims.specs.Modes.{Modes}
use Rattle.world_model.specs.Mounts.{Origin}
use Rattle.claims.specs.ReadTrue.{ReadsBytes, Since, each_read, opened, kept, HeldSize, IsCurrent, own, held, hole, ReadCurrent}
use Rattle.world_model.specs.Server.{Bytes, Object, Server, HasBytes}
use Rattle.claims.specs.Settled.{HoldsStable, SettledBy, Settled}
use Rattle.claims.specs.Touched.{Wrote, Touched}
use Rattle.law_own.specs.Own.{ReadEnds}
use Rattle.law_own.proofs.OneByte.{touched-later}
use Rattle.outside.specs.Pairs.{PairTold, StandsAt, side, moment_in}
use Rattle.law_pair.specs.Seen.{ShowsOrPends, SettledAreSeen}
use Rattle.law_sides.proofs.Agreeing.{sides-agree}
use Rattle.law_sides.proofs.Moments.{Between, between, moments-rise, stands-next, moment-within}

some-object : (a b : Object) → Some a ≡ Some b → a ≡ b
some-object a b e = cc

bytes-now : (a b c d : List ℕ) → Bytes a b ≡ Bytes c d → a ≡ c
bytes-now a b c d e = cc

same-byte : (a b : ℕ) → Some a ≡ Some b → a ≡ b
same-byte a b e = cc

-- a file has one list of bytes, whichever of two servers that agree on it
one-now : (s t : Server) (f a b c d : List ℕ) → s.object f ≡ t.object f → HasBytes s f a b → HasBytes t f c d → a ≡ c
one-now s t f a b c d agree p q = bytes-now a b c d (sym p.holds ∙ ap (λ (z : Object). z.holds) (some-object p.file q.file (sym p.is ∙ agree ∙ q.is)) ∙ q.holds)

has-or-past : (xs : List ℕ) (k : ℕ) → ((b : ℕ) × (slice_get xs k ≡ Some b)) ⊎ (length xs ≤ k)
has-or-past [] k = inr (omega arith)
has-or-past (x ∷ xs) zero = inl (x, refl)
has-or-past (x ∷ xs) (suc k) = elim (has-or-past xs k) [ inl b ↦ inl b | inr le ↦ inr (omega (arith, le)) ]

-- the moments of which a read may show bytes aren't before its open, where opens ask anew
since-opened : (m : Modes) (h : History) (r y o : ℕ) (f : List ℕ) (offset count : ℕ) (bytes : List ℕ) → m.nocto ≡ false → ReadsBytes m h.entries r y o f offset count bytes → (n : ℕ)
    → Since m h.entries r o n → o ≤ n
since-opened m h r y o f offset count bytes asks reads n (each_read noac late) = let a = reads.holds.opens.ended.later in let b = reads.holds.before in omega (arith, a, b, late)
since-opened m h r y o f offset count bytes asks reads n (opened noac late) = late
since-opened m h r y o f offset count bytes asks reads n (kept noac may some young) = absurd (let no_way : true ≡ false = sym may ∙ asks in cc)

module _ (m : Modes) (origin : Origin) (h : PairTold) (writer reader : ℕ) (asks : m.nocto ≡ false) (lawful : Lawful (side writer h)) (its_lawful : Lawful (side reader h))
    (settled : Settled m origin (side writer h)) (current : ReadCurrent m origin (side reader h)) (short : ReadEnds m (side reader h)) where
  module _ (r y o : ℕ) (f : List ℕ) (offset count : ℕ) (bytes : List ℕ) (reads : ReadsBytes m (side reader h).entries r y o f offset count bytes) (w e k v j : ℕ)
      (wrote : Wrote m (side writer h).entries w e f (offset + k) v) (by : SettledBy m (side writer h).entries w e f j) (done began ended : ℕ)
      (is_done : StandsAt writer h.steps done j) (is_began : StandsAt reader h.steps began o) (is_ended : StandsAt reader h.steps ended y) (after : done < began)
      (untouched : Touched m origin (side writer h) w (moment_in writer h.steps ended) f (offset + k) → ⊥) where
    -- the open begins before the read ends
    in-order : began ≤ ended
    in-order = elim (cases_lt ended began) [
      | inl early ↦
          let a = reads.holds.opens.ended.later in
          let b = reads.holds.before in
          let c = reads.ended.later in
          let rise = moments-rise reader h.steps ended began (omega (arith, early)) in
          let p = is_began.place in
          let q = is_ended.place in
          absurd (omega (arith, a, b, c, rise, p, q))
      | inr late ↦ late
    ]

    here : (n : ℕ) → o ≤ n → n ≤ y → Between reader h.steps began ended n
    here n late soon =
        let p = is_began.place in
        let q = is_ended.place in
        between reader h.steps began ended n in-order (omega (arith, late, p)) (omega (arith, soon, q))

    -- at each moment that the read may show, the file has the byte
    stays : (n : ℕ) → o ≤ n → (b : Between reader h.steps began ended n) → HoldsStable ((side writer h).at (moment_in writer h.steps b.at)) f (offset + k) v
    stays n late b =
        let begun = b.late in
        let past = moments-rise writer h.steps (suc done) b.at (omega (arith, after, begun)) in
        let next = stands-next writer h.steps done j is_done in
        let soon = moments-rise writer h.steps b.at ended b.soon in
        settled w e f (offset + k) v j wrote by (moment_in writer h.steps b.at) (omega (arith, past, next)) (moment-within writer h.steps b.at)
        (λ touched. untouched (touched-later m origin (side writer h) lawful w (moment_in writer h.steps b.at) (moment_in writer h.steps ended) f (offset + k) soon (moment-within writer h.steps ended) touched))

    -- both agree on the file then
    agrees : (n : ℕ) (b : Between reader h.steps began ended n) → ((side writer h).at (moment_in writer h.steps b.at)).object f ≡ ((side reader h).at n).object f
    agrees n b = sides-agree writer reader h lawful its_lawful b.at f ∙ ap (λ (i : ℕ). ((side reader h).at i).object f) b.is

    late-enough : (n : ℕ) → Since m (side reader h).entries r o n → o ≤ n
    late-enough n such = since-opened m (side reader h) r y o f offset count bytes asks reads n such

    -- so it isn't shorter
    longer : (most : ℕ) → most ≤ offset + k → HeldSize (side reader h) (Since m (side reader h).entries r o) y f most → ⊥
    longer most le s =
        let late = late-enough s.n s.late in
        let b = here s.n late s.soon in
        let there = stays s.n late b in
        let same : there.now ≡ s.now = one-now _ _ f there.now there.stable s.now s.stable (agrees s.n b) there.has s.has in
        let inside = slice_get_within there.now (offset + k) v there.holds in
        let long = ap length same in
        let size = s.short in
        absurd (omega (arith, inside, long, size, le))

    is-seen : (u : ℕ) → slice_get bytes k ≡ Some u → IsCurrent m origin (side reader h) r y o f (offset + k) u → ShowsOrPends m origin h reader r y f (offset + k) k bytes v
    is-seen u has (own p) = inr (u, has, p)
    is-seen u has (held s) =
        let late = late-enough s.n s.late in
        let b = here s.n late s.soon in
        let there = stays s.n late b in
        let same : there.now ≡ s.now = one-now _ _ f there.now there.stable s.now s.stable (agrees s.n b) there.has s.has in
        inl (has ∙ sym s.holds ∙ ap (λ (z : List ℕ). slice_get z (offset + k)) (sym same) ∙ there.holds)
    is-seen u has (hole q x zero_ size past pending) = absurd (longer (offset + k) (omega arith) size)

    shown : k < count → ShowsOrPends m origin h reader r y f (offset + k) k bytes v
    shown inside = elim (has-or-past bytes k) [
      | inl b ↦ is-seen b.0 b.1 (current r y o f offset count bytes reads k b.0 b.1)
      | inr past ↦ absurd (longer (offset + length bytes) (omega (arith, past)) (short r y o f offset count bytes reads (omega (arith, past, inside))))
    ]

pub settled-are-seen : SettledAreSeen
settled-are-seen m origin h writer reader asks lawful its_lawful settled current short r y o f offset count bytes reads w e k v j wrote by done began ended is_done is_began is_ended after inside untouched =
    shown m origin h writer reader asks lawful its_lawful settled current short r y o f offset count bytes reads w e k v j wrote by done began ended is_done is_began is_ended after untouched inside
