-- Where steps have nothing of one client's own, what they tell is what the other client's entries tell.
use Rattle.std.specs.Prelude.{nat_lt}
use Rattle.std.proofs.Common.{◌≡◌, ◌<◌, ◌≤◌, ◌-◌, ◌==◌, inl, inr, ℕ, List, [], ◌∷◌, ◌++◌, Bool, true, false, cond, Option, Some, None, refl, sym, ap, subst, ◌∙◌, arith}
use Rattle.std.proofs.lemmas.Bool.{cases_lt, eqb-true, eqb-false, eq-eqb, lt-ltb, le-ltb}
use Rattle.world_model.specs.declared.entry.Entry.{Entry}
use Rattle.world_model.specs.declared.entry.Entry.TheVariants.{Began, Answered, Dialed, Sent, Executed, Foreign, Flushed, Reboot, Delivered, Failed, Clock}
use Rattle.world_model.specs.Clocked.{clocks}
use Rattle.world_model.specs.Entries.{ours}
use Rattle.outside.specs.Pairs.{PairStep, from_afar, with_seen, seen_as, side_steps, seen_by, entries_of}
use Rattle.lane_session.specs.Labels.{told_in, told_by}
use Rattle.pair_runs.specs.Texts.{label_at, step_text, pair_transcript, read_in, step_clock, pair_clocks}

some-step : (a b : PairStep) → Some a ≡ Some b → a ≡ b
some-step a b e = cc

-- an entry that only the server makes
IsServers : Entry → Type 0
IsServers (Executed xid call reply) = Unit {0}
IsServers (Foreign call reply) = Unit {0}
IsServers (Flushed file from len) = Unit {0}
IsServers (Reboot verf) = Unit {0}
IsServers e = ⊥

ours-first : (e : Entry) (es : List Entry) → ours (e ∷ es) ≡ [] → IsServers e
unfolding IsServers
ours-first (Executed xid call reply) es u = tt
ours-first (Foreign call reply) es u = tt
ours-first (Flushed file from len) es u = tt
ours-first (Reboot verf) es u = tt
ours-first (Began lane line op) es u = absurd cc
ours-first (Answered lane line answer) es u = absurd cc
ours-first (Dialed port) es u = absurd cc
ours-first (Sent bytes) es u = absurd cc
ours-first (Delivered bytes) es u = absurd cc
ours-first Failed es u = absurd cc
ours-first (Clock ms) es u = absurd cc

ours-rest : (e : Entry) (es : List Entry) → ours (e ∷ es) ≡ [] → ours es ≡ []
ours-rest (Executed xid call reply) es u = u
ours-rest (Foreign call reply) es u = u
ours-rest (Flushed file from len) es u = u
ours-rest (Reboot verf) es u = u
ours-rest (Began lane line op) es u = absurd cc
ours-rest (Answered lane line answer) es u = absurd cc
ours-rest (Dialed port) es u = absurd cc
ours-rest (Sent bytes) es u = absurd cc
ours-rest (Delivered bytes) es u = absurd cc
ours-rest Failed es u = absurd cc
ours-rest (Clock ms) es u = absurd cc

seen-rest : (o : Option PairStep) (steps : List PairStep) → ours (entries_of (with_seen o steps)) ≡ [] → ours (entries_of steps) ≡ []
seen-rest None steps u = u
seen-rest (Some t) steps u = ours-rest t.entry (entries_of steps) u

-- ---- what entries tell, in general

afar-servers : (s : PairStep) (e : Entry) (t : PairStep) → s.entry ≡ e → from_afar s e ≡ Some t → IsServers t.entry
unfolding IsServers
afar-servers s (Executed xid call reply) t same is = subst (λ (x : PairStep). IsServers x.entry) (some-step (record s { entry = Foreign call reply }) t is) tt
afar-servers s (Foreign call reply) t same is = subst (λ (x : PairStep). IsServers x.entry) (some-step s t is) (subst IsServers (sym same) tt)
afar-servers s (Flushed file from len) t same is = subst (λ (x : PairStep). IsServers x.entry) (some-step s t is) (subst IsServers (sym same) tt)
afar-servers s (Reboot verf) t same is = subst (λ (x : PairStep). IsServers x.entry) (some-step s t is) (subst IsServers (sym same) tt)
afar-servers s (Began lane line op) t same is = absurd cc
afar-servers s (Answered lane line answer) t same is = absurd cc
afar-servers s (Dialed port) t same is = absurd cc
afar-servers s (Sent bytes) t same is = absurd cc
afar-servers s (Delivered bytes) t same is = absurd cc
afar-servers s Failed t same is = absurd cc
afar-servers s (Clock ms) t same is = absurd cc

all_said : (Entry → List ℕ) → List Entry → List ℕ
all_said say [] = []
all_said say (e ∷ es) = say e ++ all_said say es

-- of a step of one of the two clients
step_said : (ℕ → Entry → List ℕ) → PairStep → List ℕ
step_said say s = cond (nat_lt s.end 2) (say s.end s.entry) []

steps_said : (ℕ → Entry → List ℕ) → List PairStep → List ℕ
steps_said say [] = []
steps_said say (s ∷ steps) = step_said say s ++ steps_said say steps

module _ (say : ℕ → Entry → List ℕ) (silent : (end : ℕ) (e : Entry) → IsServers e → say end e ≡ []) (end : ℕ) (low : end < 2) where
  -- who sees a step from afar is told nothing by it
  afar-said : (s : PairStep) (rest : List PairStep) (o : Option PairStep) → from_afar s s.entry ≡ o → all_said (say end) (entries_of (with_seen o rest)) ≡ all_said (say end) (entries_of rest)
  unfolding all_said
  afar-said s rest None is = refl
  afar-said s rest (Some t) is = ap (λ (x : List ℕ). x ++ all_said (say end) (entries_of rest)) (silent end t.entry (afar-servers s s.entry t refl is))

  lower : (s : PairStep) → s.end < 2 → step_said say s ≡ say s.end s.entry
  unfolding step_said
  lower s lt = ap (λ (b : Bool). cond b (say s.end s.entry) []) (lt-ltb s.end 2 lt)

  higher : (s : PairStep) → 2 ≤ s.end → step_said say s ≡ []
  unfolding step_said
  higher s le = ap (λ (b : Bool). cond b (say s.end s.entry) []) (le-ltb s.end 2 le)

  -- a step of this end, of the other, or of none
  one-more : (s : PairStep) (steps : List PairStep) → steps_said say steps ≡ all_said (say end) (seen_by end steps) → ours (seen_by (1 - end) (s ∷ steps)) ≡ []
      → step_said say s ++ steps_said say steps ≡ all_said (say end) (seen_by end (s ∷ steps))
  unfolding all_said
  one-more s steps rest u = own (s.end == end) refl
    where
      -- one that is seen from afar, and says nothing itself
      silently : (s.end == end) ≡ false → step_said say s ≡ [] → step_said say s ++ steps_said say steps ≡ all_said (say end) (seen_by end (s ∷ steps))
      silently other none =
          ap (λ (x : List ℕ). x ++ steps_said say steps) none ∙ rest
          ∙ sym (afar-said s (side_steps end steps) (from_afar s s.entry) refl)
          ∙ sym (ap (λ (b : Bool). all_said (say end) (entries_of (with_seen (cond b (Some s) (from_afar s s.entry)) (side_steps end steps)))) other)

      -- one of the other client is the server's
      theirs : (s.end == end) ≡ false → s.end ≡ 1 - end → step_said say s ≡ []
      theirs other is =
          let here : ours (s.entry ∷ seen_by (1 - end) steps) ≡ [] =
          subst (λ (b : Bool). ours (entries_of (with_seen (cond b (Some s) (from_afar s s.entry)) (side_steps (1 - end) steps))) ≡ []) (eq-eqb s.end (1 - end) is) u in
          lower s (omega (arith, is, low)) ∙ silent s.end s.entry (ours-first s.entry (seen_by (1 - end) steps) here)

      beyond : (s.end ≡ end → ⊥) → (s.end ≡ 1 - end → ⊥) → 2 ≤ s.end
      beyond a b = elim (cases_lt s.end 2) [
        | inl lt ↦ absurd (elim (cases_lt s.end 1) [
          | inl zero_ ↦ elim (cases_lt end 1) [ inl e ↦ a (omega (arith, zero_, e)) | inr e ↦ b (omega (arith, zero_, e, low)) ]
          | inr one_ ↦ elim (cases_lt end 1) [ inl e ↦ b (omega (arith, one_, lt, e)) | inr e ↦ a (omega (arith, one_, lt, e, low)) ]
        ])
        | inr le ↦ le
      ]

      by_other : (s.end == end) ≡ false → (b : Bool) → (s.end == 1 - end) ≡ b → step_said say s ++ steps_said say steps ≡ all_said (say end) (seen_by end (s ∷ steps))
      by_other other true is = silently other (theirs other (eqb-true s.end (1 - end) is))
      by_other other false not =
          let a = eqb-false s.end end other in
          let b = eqb-false s.end (1 - end) not in
          silently other (higher s (beyond a b))

      own : (b : Bool) → (s.end == end) ≡ b → step_said say s ++ steps_said say steps ≡ all_said (say end) (seen_by end (s ∷ steps))
      own true is =
          let same = eqb-true s.end end is in
          ap (λ (x : List ℕ). x ++ steps_said say steps) (lower s (omega (arith, same, low)) ∙ ap (λ (k : ℕ). say k s.entry) same)
          ∙ ap (λ (x : List ℕ). say end s.entry ++ x) rest
          ∙ sym (ap (λ (b : Bool). all_said (say end) (entries_of (with_seen (cond b (Some s) (from_afar s s.entry)) (side_steps end steps)))) is)
      own false is = by_other is (s.end == 1 - end) refl

-- what steps tell that spare the other client is what this one's entries tell
said-alone : (say : ℕ → Entry → List ℕ) → ((end : ℕ) (e : Entry) → IsServers e → say end e ≡ []) → (end : ℕ) → end < 2 → (steps : List PairStep) → ours (seen_by (1 - end) steps) ≡ []
    → steps_said say steps ≡ all_said (say end) (seen_by end steps)
unfolding all_said steps_said
said-alone say silent end low [] u = refl
said-alone say silent end low (s ∷ steps) u =
    one-more say silent end low s steps (said-alone say silent end low steps (seen-rest (seen_as (1 - end) s) (side_steps (1 - end) steps) u)) u

-- ---- lines and readings

silent-told : (end : ℕ) (e : Entry) → IsServers e → told_in (label_at end) e ≡ []
unfolding IsServers
silent-told end (Executed xid call reply) s = refl
silent-told end (Foreign call reply) s = refl
silent-told end (Flushed file from len) s = refl
silent-told end (Reboot verf) s = refl
silent-told end (Began lane line op) s = absurd s
silent-told end (Answered lane line answer) s = absurd s
silent-told end (Dialed port) s = absurd s
silent-told end (Sent bytes) s = absurd s
silent-told end (Delivered bytes) s = absurd s
silent-told end Failed s = absurd s
silent-told end (Clock ms) s = absurd s

silent-read : (e : Entry) → IsServers e → read_in e ≡ []
unfolding IsServers
silent-read (Executed xid call reply) s = refl
silent-read (Foreign call reply) s = refl
silent-read (Flushed file from len) s = refl
silent-read (Reboot verf) s = refl
silent-read (Began lane line op) s = absurd s
silent-read (Answered lane line answer) s = absurd s
silent-read (Dialed port) s = absurd s
silent-read (Sent bytes) s = absurd s
silent-read (Delivered bytes) s = absurd s
silent-read Failed s = absurd s
silent-read (Clock ms) s = absurd s

told-said : (end : ℕ) (es : List Entry) → all_said (λ e. told_in (label_at end) e) es ≡ told_by (label_at end) es
unfolding all_said
told-said end [] = refl
told-said end (e ∷ es) = ap (λ (x : List ℕ). told_in (label_at end) e ++ x) (told-said end es)

transcript-said : (steps : List PairStep) → steps_said (λ end e. told_in (label_at end) e) steps ≡ pair_transcript steps
unfolding steps_said step_said
transcript-said [] = refl
transcript-said (s ∷ steps) = ap (λ (x : List ℕ). step_text s ++ x) (transcript-said steps)

-- The lines of steps that spare the other client are those of this one, with its label.
pub transcript-alone : (end : ℕ) → end < 2 → (steps : List PairStep) → ours (seen_by (1 - end) steps) ≡ [] → pair_transcript steps ≡ told_by (label_at end) (seen_by end steps)
transcript-alone end low steps u =
    sym (transcript-said steps) ∙ said-alone (λ n e. told_in (label_at n) e) (λ n e s. silent-told n e s) end low steps u ∙ told-said end (seen_by end steps)

clocks-said : (es : List Entry) → all_said read_in es ≡ clocks es
unfolding all_said
clocks-said [] = refl
clocks-said (Clock ms ∷ es) = ap (λ (x : List ℕ). ms ∷ x) (clocks-said es)
clocks-said (Began lane line op ∷ es) = clocks-said es
clocks-said (Answered lane line answer ∷ es) = clocks-said es
clocks-said (Dialed port ∷ es) = clocks-said es
clocks-said (Sent bytes ∷ es) = clocks-said es
clocks-said (Executed xid call reply ∷ es) = clocks-said es
clocks-said (Foreign call reply ∷ es) = clocks-said es
clocks-said (Flushed file from len ∷ es) = clocks-said es
clocks-said (Reboot verf ∷ es) = clocks-said es
clocks-said (Delivered bytes ∷ es) = clocks-said es
clocks-said (Failed ∷ es) = clocks-said es

readings-said : (steps : List PairStep) → steps_said (λ end e. read_in e) steps ≡ pair_clocks steps
unfolding steps_said step_said
readings-said [] = refl
readings-said (s ∷ steps) = ap (λ (x : List ℕ). step_clock s ++ x) (readings-said steps)

-- And so are its readings.
pub clocks-alone : (end : ℕ) → end < 2 → (steps : List PairStep) → ours (seen_by (1 - end) steps) ≡ [] → pair_clocks steps ≡ clocks (seen_by end steps)
clocks-alone end low steps u = sym (readings-said steps) ∙ said-alone (λ n e. read_in e) (λ n e s. silent-read e s) end low steps u ∙ clocks-said (seen_by end steps)
