-- A byte that the file has all the while, and over which this client gave no other, is in the answer of a read.
use Rattle.core_session.proofs.Prelude.{◌≡◌, ◌<◌, ◌≤◌, ◌+◌, ◌⊎◌, inl, inr, ℕ, true, false, List, length, take, Option, Some, None, slice_get, refl, sym, ap, ◌∙◌, arith, cases_lt, slice_get-get_or, slice_get_within, History, Modes, HeldSize, HasBytes, Object, Server}
use Rattle.std.proofs.Common.{slice_index}
use Rattle.claims.specs.ReadTrue.{Since, each_read, opened, kept}
use Rattle.core_session.specs.current.Recent.{IsSoFar, own, held, past, ReadRecent}
use Rattle.core_session.specs.current.Steady.{IsSteady, SteadyRead, StableRead}
use Rattle.core_session.proofs.current.ReadsRecent.{bytes-same, reads-recent}

some-object : (a b : Object) → Some a ≡ Some b → a ≡ b
some-object a b e = cc

some-byte : (a b : ℕ) → Some a ≡ Some b → a ≡ b
some-byte a b e = cc

-- at one moment it has one content
one-content : (s : Server) (file a b c d : List ℕ) → HasBytes s file a b → HasBytes s file c d → a ≡ c
one-content s file a b c d p q =
    bytes-same a b c d (sym p.holds ∙ ap (λ (o : Object). o.holds) (some-object p.file q.file (sym p.is ∙ q.is)) ∙ q.holds)

module _ (modes : Modes) (t : History) (x y o : ℕ) (file : List ℕ) (place b : ℕ) (steady : IsSteady modes t x y o file place b) where
  -- it doesn't end before the byte
  not-short : (most : ℕ) → most ≤ place → HeldSize t (Since modes t.entries x o) y file most → ⊥
  not-short most low s =
      let k = steady.held s.n s.late s.soon in
      let same = one-content (t.at s.n) file k.now k.stable s.now s.stable k.has s.has in
      let within = slice_get_within k.now place b k.holds in
      let long = ap (λ (bs : List ℕ). length bs) same in
      let short = s.short in
      absurd (omega (arith, within, long, short, low))

  same-byte : (v : ℕ) → IsSoFar modes t (take y t.entries) x y o file place v → v ≡ b
  same-byte v (own w) = steady.alone v w
  same-byte v (held d) =
      let k = steady.held d.n d.late d.soon in
      let same = one-content (t.at d.n) file k.now k.stable d.now d.stable k.has d.has in
      some-byte v b (sym d.holds ∙ ap (λ (bs : List ℕ). slice_get bs place) (sym same) ∙ k.holds)
  same-byte v (past q u zero_is size_ less w) = absurd (not-short place (omega arith) size_)

pub steady-read : SteadyRead
steady-read m terms setup t v g noac brief lawful fresh given x y o file offset count bytes read k b low steady = by (slice_get bytes k) refl (cases_lt k (length bytes))
  where
    r : ReadRecent terms.modes t x y o file offset count bytes
    r = reads-recent m terms setup t v g noac brief lawful fresh given x y o file offset count bytes read

    by : (found : Option ℕ) → slice_get bytes k ≡ found → (k < length bytes) ⊎ (length bytes ≤ k) → slice_get bytes k ≡ Some b
    by (Some v) is within = is ∙ ap Some (same-byte terms.modes t x y o file (offset + k) b steady v (r.each k v is))
    by None is (inl within) = absurd (let no_way : None ≡ Some (slice_index bytes k) = sym is ∙ slice_get-get_or bytes k 0 within in cc)
    by None is (inr past_) =
        absurd (not-short terms.modes t x y o file (offset + k) b steady (offset + length bytes) (omega (arith, past_)) (r.short (omega (arith, past_, low))))

-- ---- a byte that stays

module _ (modes : Modes) (t : History) (asks : modes.nocto ≡ false) (x o e : ℕ) (began : o < x) (after : e < o) where
  late : (n : ℕ) → Since modes t.entries x o n → e < n
  late n (each_read noac from) = omega (arith, from, began, after)
  late n (opened noac from) = omega (arith, from, after)
  late n (kept noac may some young) = absurd (let no_way : true ≡ false = sym may ∙ asks in cc)

pub stable-read : StableRead
stable-read m terms setup t v g noac asks lawful fresh given x y o file offset count bytes read e k b after low s =
    let began = read.holds.opens.ended.later in
    let before = read.holds.before in
    steady-read m terms setup t v g noac (λ may. absurd (let no_way : true ≡ false = sym may ∙ asks in cc)) lawful fresh given x y o file offset count bytes read k b low (record {
      held = λ n since soon. let h = s.stays n (late terms.modes t asks x o e (omega (arith, began, before)) after n since) soon in record { now = h.now; stable = h.stable; has = h.has; holds = h.holds };
      alone = s.alone;
    })
