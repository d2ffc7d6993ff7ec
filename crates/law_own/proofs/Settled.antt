-- What was settled before the moments that a read may show is read.
use Rattle.std.proofs.Common.{◌≡◌, ◌<◌, ◌≤◌, ◌⊎◌, inl, inr, ◌+◌, ◌==◌, ℕ, zero, suc, List, [], ◌∷◌, length, Some, slice_get, refl, sym, ap, subst, ◌∙◌, arith}
use Rattle.std.proofs.lemmas.Bool.{cases_Bool, eqb-true, eqb-false}
use Rattle.std.proofs.lemmas.Option.{slice_get_within}
use Rattle.world_model.specs.History.{History}
use Rattle.world_model.specs.Lawful.{Lawful}
use Rattle.claims.specs.Modes.{Modes}
use Rattle.world_model.specs.Mounts.{Origin}
use Rattle.claims.specs.ReadTrue.{ReadsBytes, Since, HeldSize, PendingWithin, IsCurrent, own, held, hole, ReadCurrent}
use Rattle.world_model.specs.Server.{Bytes, Object, Server, HasBytes}
use Rattle.claims.specs.Settled.{HoldsStable, SettledBy, Settled}
use Rattle.claims.specs.Touched.{Wrote, Touched, written}
use Rattle.world_model.proofs.Places.{At-below}
use Rattle.law_own.specs.Own.{ReadEnds, SettledAreRead}
use Rattle.law_own.proofs.OneByte.{HasByte, wrote-byte, writes-byte, one-byte, touched-later}

some-object : (a b : Object) → Some a ≡ Some b → a ≡ b
some-object a b e = cc

bytes-now : (a b c d : List ℕ) → Bytes a b ≡ Bytes c d → a ≡ c
bytes-now a b c d e = cc

same-byte : (a b : ℕ) → Some a ≡ Some b → a ≡ b
same-byte a b e = cc

-- a file has one list of bytes
one-now : (s : Server) (f a b c d : List ℕ) → HasBytes s f a b → HasBytes s f c d → a ≡ c
one-now s f a b c d p q = bytes-now a b c d (sym p.holds ∙ ap (λ (z : Object). z.holds) (some-object p.file q.file (sym p.is ∙ q.is)) ∙ q.holds)

-- whether the list has the place
has-or-past : (xs : List ℕ) (k : ℕ) → ((b : ℕ) × (slice_get xs k ≡ Some b)) ⊎ (length xs ≤ k)
has-or-past [] k = inr (omega arith)
has-or-past (x ∷ xs) zero = inl (x, refl)
has-or-past (x ∷ xs) (suc k) = elim (has-or-past xs k) [ inl b ↦ inl b | inr le ↦ inr (omega (arith, le)) ]

same-or-not : (a b : ℕ) → (a ≡ b) ⊎ (a ≡ b → ⊥)
same-or-not a b = elim (cases_Bool (a == b)) [ inl e ↦ inl (eqb-true a b e) | inr e ↦ inr (eqb-false a b e) ]

module _ (m : Modes) (origin : Origin) (t : History) (lawful : Lawful t) (settled : Settled m origin t) (current : ReadCurrent m origin t) (short : ReadEnds m t) where
  module _ (r y o : ℕ) (f : List ℕ) (offset count : ℕ) (bytes : List ℕ) (reads : ReadsBytes m t.entries r y o f offset count bytes) (w e k v j : ℕ)
      (wrote : Wrote m t.entries w e f (offset + k) v) (by : SettledBy m t.entries w e f j) (early : e < r) (before : (n : ℕ) → Since m t.entries r o n → j < n)
      (untouched : Touched m origin t w y f (offset + k) → ⊥) where
    ends : y < length t.entries
    ends = At-below t.entries y _ reads.ended.answered

    -- at each moment that the read may show the file has the byte
    stays : (n : ℕ) → Since m t.entries r o n → n ≤ y → HoldsStable (t.at n) f (offset + k) v
    stays n such soon =
        let within = ends in
        settled w e f (offset + k) v j wrote by n (before n such) (omega (arith, soon, within))
        (λ touched. untouched (touched-later m origin t lawful w n y f (offset + k) soon (omega (arith, within)) touched))

    -- so it isn't shorter
    longer : (most : ℕ) → most ≤ offset + k → HeldSize t (Since m t.entries r o) y f most → ⊥
    longer most le s =
        let there = stays s.n s.late s.soon in
        let same : there.now ≡ s.now = one-now (t.at s.n) f there.now there.stable s.now s.stable there.has s.has in
        let inside = slice_get_within there.now (offset + k) v there.holds in
        let long = ap length same in
        let size = s.short in
        absurd (omega (arith, inside, long, size, le))

    -- what is pending is its own byte
    pends : (b : ℕ) → PendingWithin m origin t.entries r y f (offset + k) b → b ≡ v
    pends b p = elim (same-or-not p.pending.w w) [
      | inl same ↦
          one-byte t.entries w (offset + k) b v
          (subst (λ (z : ℕ). HasByte t.entries z (offset + k) b) same (writes-byte m origin t.entries p.pending.w f (offset + k) b p.pending.writes)) (wrote-byte m t.entries w e f (offset + k) v wrote)
      | inr other ↦
          let low = p.pending.before in
          let late = p.moment.late in
          let soon = p.moment.soon in
          absurd (untouched (written p.pending.w b other (omega (arith, low, soon))
          (λ answered. p.pending.uncovered w e v answered wrote (omega (arith, early, late))) p.pending.writes p.pending.unrefused))
    ]

    is-read : (b : ℕ) → IsCurrent m origin t r y o f (offset + k) b → b ≡ v
    is-read b (own p) = pends b p
    is-read b (held h) =
        let there = stays h.n h.late h.soon in
        let same : there.now ≡ h.now = one-now (t.at h.n) f there.now there.stable h.now h.stable there.has h.has in
        same-byte b v (sym h.holds ∙ ap (λ (z : List ℕ). slice_get z (offset + k)) (sym same) ∙ there.holds)
    is-read b (hole q u zero_ size past pending) = absurd (longer (offset + k) (omega arith) size)

    shown : k < count → slice_get bytes k ≡ Some v
    shown inside = elim (has-or-past bytes k) [
      | inl b ↦ b.1 ∙ ap (λ (z : ℕ). Some z) (is-read b.0 (current r y o f offset count bytes reads k b.0 b.1))
      | inr past ↦
          absurd (longer (offset + length bytes) (omega (arith, past)) (short r y o f offset count bytes reads (omega (arith, past, inside))))
    ]

pub settled-are-read : SettledAreRead
settled-are-read m origin t lawful settled current short r y o f offset count bytes reads w e k v j wrote by early before inside untouched =
    shown m origin t lawful settled current short r y o f offset count bytes reads w e k v j wrote by early before untouched inside
