-- Where a last close gave up what was pending of a file, a byte that is settled later was settled before, or was touched.
use Rattle.core_session.proofs.Prelude.{◌≡◌, ◌<◌, ◌≤◌, ℕ, zero, suc, List, length, refl, sym, subst, arith, Answer, Entry, Began, Answered, Op, At, History, Modes, Origin, Ended, SettledBy, MadeFirm, at_once, by_commit, Wrote, write, fill, Touched, At-one, IsSaved}
use Rattle.claims.specs.Settled.{later, itself}
use Rattle.claims.specs.Touched.{put, StableSince, IsAnsweredPut, given_up}
use Rattle.core_session.specs.settled.Settling.{AreSaved}
use Rattle.world_model.specs.declared.op.Op.TheVariants as ops

-- ---- by a later place

firm-later : (h : List Entry) (middle to more : ℕ) (f : List ℕ) (firm : ℕ) (verf : _) → to ≤ more → MadeFirm h middle to f firm verf → MadeFirm h middle more f firm verf
firm-later h middle to more f firm verf le (at_once some) = at_once some
firm-later h middle to more f firm verf le (by_commit wcc its same asked) = by_commit wcc its same (record {
  xid = asked.xid;
  bytes = asked.bytes;
  heard = record {
    sent_at = asked.heard.sent_at;
    record_sent = asked.heard.record_sent;
    got_at = asked.heard.got_at;
    sent = asked.heard.sent;
    spells = asked.heard.spells;
    got = asked.heard.got;
    after = asked.heard.after;
    later = asked.heard.later;
    before = let low = asked.heard.before in omega (arith, low, le);
  };
  spells = asked.spells;
})

saved-later : (h : List Entry) (w to more p : ℕ) (f : List ℕ) (i v : ℕ) → to ≤ more → IsSaved h w to p f i v → IsSaved h w more p f i v
saved-later h w to more p f i v le s = record {
  from = s.from;
  after = s.after;
  evidence = record {
    middle = s.evidence.middle;
    firm = s.evidence.firm;
    verf = s.evidence.verf;
    by = let low = s.evidence.by in omega (arith, low, le);
    wrote = s.evidence.wrote;
    made = firm-later h s.evidence.middle to more f s.evidence.firm s.evidence.verf le s.evidence.made;
  };
  alike = s.alike;
}

-- ---- an operation is answered once

same-began : (a b c d : ℕ) (p q : Op) → Began a b p ≡ Began c d q → (a ≡ c) × (b ≡ d)
same-began a b c d p q e = (cc, cc)

pub answered-once : (h : List Entry) (x lane other y z : ℕ) (op its : Op) (a b : Answer) → Ended h lane x op y a → Ended h other x its z b → y ≡ z
answered-once h x lane other y z op its a b d e =
    let same = same-began lane d.line other e.line op its (At-one h x (Began lane d.line op) (Began other e.line its) d.began e.began) in
    let there : At h z (Answered lane d.line b) = subst (λ (l : ℕ). At h z (Answered lane l b)) (sym same.1) (subst (λ (n : ℕ). At h z (Answered n e.line b)) (sym same.0) e.answered) in
    let here : At h y (Answered other e.line a) = subst (λ (l : ℕ). At h y (Answered other l a)) same.1 (subst (λ (n : ℕ). At h y (Answered n d.line a)) same.0 d.answered) in
    let low = d.first z b there e.later in
    let high = e.first y a here d.later in
    omega (arith, low, high)

-- ---- by induction over the settling

module _ (m : Modes) (origin : Origin) (t : History) (saved : AreSaved m origin t) where
  module _ (w y : ℕ) (f : List ℕ) (i v : ℕ) (wrote : Wrote m t.entries w y f i v) (p : ℕ) (within : p ≤ length t.entries) (untouched : Touched m origin t w p f i → ⊥) where
    -- a put that was answered before a place settled its bytes itself
    itself-before : (k : ℕ) → IsAnsweredPut t.entries w k → (y < k) × SettledBy m t.entries w y f y
    itself-before k a = by wrote
      where
        by : Wrote m t.entries w y f i v → (y < k) × SettledBy m t.entries w y f y
        by (write lane slot offset bytes value of ended covers) =
            let same = At-one t.entries w (Began a.lane a.ended.line (ops.Put a.path a.offset a.bytes)) (Began of.lane of.line (ops.Write slot offset bytes)) a.ended.began of.began in absurd (cc same)
        by (fill lane slot offset count value of ended low high) =
            let same = At-one t.entries w (Began a.lane a.ended.line (ops.Put a.path a.offset a.bytes)) (Began of.lane of.line (ops.Fill slot offset count v)) a.ended.began of.began in absurd (cc same)
        by (put offset bytes to covers) =
            let same = answered-once t.entries w a.lane to.lane a.y y (ops.Put a.path a.offset a.bytes) (ops.Put to.path offset bytes) a.answer _ a.ended to.ended in
            let early = a.before in
            (omega (arith, same, early), itself offset bytes to refl)

    settles : (n j : ℕ) → j < n → SettledBy m t.entries w y f j → j < p → (IsSaved t.entries w (suc j) p f i v → ⊥) → ⊥
    settles zero j few settled low none = absurd (omega (arith, few))
    settles (suc n) j few settled low none = saved w y f i v j wrote settled p low within untouched (λ k late soon left gives.
        (let since : StableSince m t.entries w k f → ⊥ = λ s.
        (let by = s.by in
        settles n s.y (omega (arith, by, soon, few)) (later s.x s.after s.made) (omega (arith, by, soon, low))
        (λ first. none (saved-later t.entries w (suc s.y) (suc j) p f i v (omega (arith, by, soon)) first))) in
        let answered : IsAnsweredPut t.entries w k → ⊥ = λ a.
        (let own = itself-before k a in
        let early = own.0 in
        settles n y (omega (arith, early, soon, few)) own.1 (omega (arith, early, soon, low))
        (λ first. none (saved-later t.entries w (suc y) (suc j) p f i v (omega (arith, early, soon)) first))) in
        untouched (given_up k late (omega (arith, soon, low)) (record { left = left; refused = gives; unstable = since; unanswered = answered })))) none

  pub are-saved : (w y : ℕ) (f : List ℕ) (i v j : ℕ) → Wrote m t.entries w y f i v → SettledBy m t.entries w y f j → (p : ℕ) → j < p → p ≤ length t.entries
      → (Touched m origin t w p f i → ⊥) → (IsSaved t.entries w (suc j) p f i v → ⊥) → ⊥
  are-saved w y f i v j wrote settled p low within untouched none = settles w y f i v wrote p within untouched (suc j) j (omega arith) settled low none
