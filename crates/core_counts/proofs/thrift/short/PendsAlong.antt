-- From an operation's answer on, two places of a file along a history.
use Rattle.core_counts.proofs.Prelude.{◌≡◌, ◌≤◌, ◌<◌, ◌⊎◌, inl, inr, ◌+◌, ℕ, false, List, [], ◌∷◌, ◌++◌, length, append_assoc, sym, ap, subst, ◌∙◌, arith, cases_lt, Answer, Entry, Began, Answered, Delivered, Op, At, Terms, At-grow, At-back, At-last, At-one, length_last, Mounted, machine_of, Setup, View, KnowsRoot, Reaches, GoesWith, begins-unbegun, reached-all, lanes-under-way, SameCalls, AreAsked, IsPlain}
use Rattle.core_session.proofs.drops.KnowingAlong.{NotedBefore}
use Rattle.core_session.proofs.syncs.WatchingAlong.{KeepsWatching, reached-watching}
use Rattle.core_counts.proofs.thrift.short.Pends as one
use Rattle.core_counts.proofs.thrift.short.Pends.{Cov, covered-on}
use Rattle.core_counts.proofs.thrift.short.PendsSteps.{Base}

module _ (mt : Mounted) (terms : Terms) (setup : Setup) (H : List Entry) (V : View) (g : GoesWith mt terms setup H V) (roots : KnowsRoot terms.origin H mt.root) (asked : AreAsked H) (f : List ℕ) (e p s0 : ℕ) where
  abbrev pub PhaseAt : ℕ → ℕ → ℕ → List Entry → View → Type 0
  PhaseAt i byte n h v = one.Phase mt terms setup H V g roots asked f i byte n s0 (Unit {0}) h v

  abbrev BaseAt : ℕ → ℕ → ℕ → List Entry → View → Type 0
  BaseAt i byte n h v = Base mt terms setup H V g roots asked f i byte n h v

  -- both places, under one number
  abbrev pub Pair : List Entry → View → Type 0
  Pair h v = (n : ℕ) × (a : ℕ) × (b : ℕ) × PhaseAt e a n h v × PhaseAt p b n h v

  abbrev pub Result : List Entry → View → Type 0
  Result h v = Cov f p h ⊎ Pair h v

  pub record Held (h : List Entry) (v : View) : Type 0 where
    pub base : (i byte n : ℕ) → BaseAt i byte n h v
    pub stage : s0 < length h → Result h v

  abbrev pub HeldTo : List Entry → View → Type 0
  HeldTo h v = (rest : List Entry) → H ≡ h ++ rest → Held h v

  none : {X : Type 0} → ⊥ → X
  none bad = absurd bad

  on-cov : (h : List Entry) (x : Entry) (v : View) → Cov f p h → Result (h ++ x ∷ []) v
  on-cov h x v c = inl (covered-on h x f p c)

  before-that : (h : List Entry) (x : Entry) (rest : List Entry) → H ≡ (h ++ x ∷ []) ++ rest → H ≡ h ++ x ∷ rest
  before-that h x rest is_ = is_ ∙ append_assoc h (x ∷ []) rest

  grown : (h : List Entry) (x : Entry) → s0 < length (h ++ x ∷ []) → (s0 < length h) ⊎ (s0 ≡ length h)
  grown h x low = by (cases_lt s0 (length h))
    where
      by : (s0 < length h) ⊎ (length h ≤ s0) → (s0 < length h) ⊎ (s0 ≡ length h)
      by (inl less) = inl less
      by (inr most) = inr (let long = length_last h x in omega (arith, low, most, long))

  -- the answer from which on they are followed, and what is known there
  module _ (l0 line0 : ℕ) (ended0 : Answer) (answered0 : At H s0 (Answered l0 line0 ended0)) (w lw linew : ℕ) (opw : Op) (beganw : At H w (Began lw linew opw)) (early : w < s0)
      (start : (h : List Entry) (v : View) → length h ≡ s0 + 1 → Reaches (machine_of mt) setup h v → v.lost ≡ false → (rest : List Entry) → H ≡ h ++ rest → ((i byte n : ℕ) → BaseAt i byte n h v) → Result h v) where
    not-there : (h : List Entry) (x : Entry) (rest : List Entry) → H ≡ (h ++ x ∷ []) ++ rest → (x ≡ Answered l0 line0 ended0 → ⊥) → s0 ≡ length h → ⊥
    not-there h x rest to not same =
        not (At-one H (length h) x (Answered l0 line0 ended0)
        (subst (λ (z : List Entry). At z (length h) x) (sym to) (At-grow (h ++ x ∷ []) rest (length h) x (At-last h x)))
        (subst (λ (z : ℕ). At H z (Answered l0 line0 ended0)) same answered0))

    -- where it isn't that answer
    later-stage : (h : List Entry) (x : Entry) (rest : List Entry) (old new : View) → H ≡ (h ++ x ∷ []) ++ rest → (x ≡ Answered l0 line0 ended0 → ⊥) → Held h old → (Pair h old → Pair (h ++ x ∷ []) new)
        → s0 < length (h ++ x ∷ []) → Result (h ++ x ∷ []) new
    later-stage h x rest old new to not k step low = by (grown h x low)
      where
        of : Result h old → Result (h ++ x ∷ []) new
        of (inl c) = on-cov h x new c
        of (inr pair) = inr (step pair)

        by : (s0 < length h) ⊎ (s0 ≡ length h) → Result (h ++ x ∷ []) new
        by (inl less) = of (k.stage less)
        by (inr same) = absurd (not-there h x rest to not same)

    same-held : (h : List Entry) (x : Entry) (old new : View) → IsPlain x → NotedBefore x old → new.lanes ≡ old.lanes → new.shelf ≡ old.shelf → new.wsize ≡ old.wsize → SameCalls old.calls.calls new.calls.calls → (rest : List Entry)
        → H ≡ (h ++ x ∷ []) ++ rest → Held h old → Held (h ++ x ∷ []) new
    same-held h x old new plain noted lanes shelf wsize calls rest to k = record {
      base = λ i byte n. (one.same-both mt terms setup H V g roots asked f i byte n s0 ⊥ h x old new plain noted lanes shelf wsize calls (k.base i byte n, none)).0;
      stage = later-stage h x rest old new to (λ same. plain.answers_ l0 line0 ended0 same) k (λ pair. (
        pair.0,
        pair.1,
        pair.2,
        (one.same-both mt terms setup H V g roots asked f e pair.1 pair.0 s0 (Unit {0}) h x old new plain noted lanes shelf wsize calls (k.base e pair.1 pair.0, λ u. pair.3)).1 tt,
        (one.same-both mt terms setup H V g roots asked f p pair.2 pair.0 s0 (Unit {0}) h x old new plain noted lanes shelf wsize calls (k.base p pair.2 pair.0, λ u. pair.4)).1 tt,
      ));
    }

    laws : KeepsWatching (machine_of mt) setup HeldTo
    laws = record {
      fresh = λ h v may up fresh rest to. record {
        base = λ i byte n. one.fresh-base mt terms setup H V g roots asked f i byte n s0 ⊥ h v may fresh;
        stage = λ low. absurd (up.unbegun w lw linew opw (At-back h rest w (Began lw linew opw) (subst (λ (z : List Entry). At z w (Began lw linew opw)) to beganw) (omega (arith, low, early))));
      };
      stirs = λ h old new at known t b rest to. let k = b rest to in record {
        base = λ i byte n. (one.stirs-both mt terms setup H V g roots asked f i byte n s0 ⊥ h old new at known t (k.base i byte n, none)).0;
        stage = λ low. elim (k.stage low) [
          | inl c ↦ inl c
          | inr pair ↦ inr (
            pair.0,
            pair.1,
            pair.2,
            (one.stirs-both mt terms setup H V g roots asked f e pair.1 pair.0 s0 (Unit {0}) h old new at known t (k.base e pair.1 pair.0, λ u. pair.3)).1 tt,
            (one.stirs-both mt terms setup H V g roots asked f p pair.2 pair.0 s0 (Unit {0}) h old new at known t (k.base p pair.2 pair.0, λ u. pair.4)).1 tt,
          )
        ];
      };
      starts = λ h old new lane line op now_ r found known idle fits t b rest to.
          let is_ = before-that h (Began lane line op) rest to in
          let k = b (Began lane line op ∷ rest) is_ in record {
            base = λ i byte n. (one.starts-both mt terms setup H V g roots asked f i byte n s0 ⊥ h rest old new lane line op now_ (sym is_) r found known idle fits t (k.base i byte n, none)).0;
            stage = later-stage h (Began lane line op) rest old new to (λ same. cc same) k (λ pair. (
              pair.0,
              pair.1,
              pair.2,
              (one.starts-both mt terms setup H V g roots asked f e pair.1 pair.0 s0 (Unit {0}) h rest old new lane line op now_ (sym is_) r found known idle fits t (k.base e pair.1 pair.0, λ u. pair.3)).1 tt,
              (one.starts-both mt terms setup H V g roots asked f p pair.2 pair.0 s0 (Unit {0}) h rest old new lane line op now_ (sym is_) r found known idle fits t (k.base p pair.2 pair.0, λ u. pair.4)).1 tt,
            ));
          };
      takes = λ h old new rec xid call at r found known fin hears named waits there o b rest to.
          let is_ = before-that h (Delivered rec) rest to in
          let k = b (Delivered rec ∷ rest) is_ in record {
            base = λ i byte n. one.takes-base mt terms setup H V g roots asked f i byte n s0 ⊥ h rest rec (sym is_) old new xid call at r found known fin hears named waits there o (k.base i byte n, none);
            stage = later-stage h (Delivered rec) rest old new to (λ same. cc same) k (λ pair. (
              pair.0,
              pair.1,
              pair.2,
              one.takes-phase mt terms setup H V g roots asked f e pair.1 pair.0 s0 (Unit {0}) h rest rec (sym is_) old new xid call at r found known fin hears named waits there o (k.base e pair.1 pair.0, λ u. pair.3) pair.3,
              one.takes-phase mt terms setup H V g roots asked f p pair.2 pair.0 s0 (Unit {0}) h rest rec (sym is_) old new xid call at r found known fin hears named waits there o (k.base p pair.2 pair.0, λ u. pair.4) pair.4,
            ));
          };
      answers = λ h old new at lane line answer r found known later kept open_ a b rest to.
          let is_ = before-that h (Answered lane line answer) rest to in
          let k = b (Answered lane line answer ∷ rest) is_ in
          let apart = (lanes-under-way (h ++ Answered lane line answer ∷ []) new (reached-all (machine_of mt) (begins-unbegun mt) setup (h ++ Answered lane line answer ∷ []) new later kept).lanes).apart in
          let bases = λ (i byte n : ℕ). (one.answers-both mt terms setup H V g roots asked f i byte n s0 ⊥ h old new at lane line answer known apart open_ a (k.base i byte n, none)).0 in
          record {
            base = bases;
            stage = λ low. elim (grown h (Answered lane line answer) low) [
              | inl less ↦ elim (k.stage less) [
                | inl c ↦ on-cov h (Answered lane line answer) new c
                | inr pair ↦ inr (
                  pair.0,
                  pair.1,
                  pair.2,
                  (one.answers-both mt terms setup H V g roots asked f e pair.1 pair.0 s0 (Unit {0}) h old new at lane line answer known apart open_ a (k.base e pair.1 pair.0, λ u. pair.3)).1 tt,
                  (one.answers-both mt terms setup H V g roots asked f p pair.2 pair.0 s0 (Unit {0}) h old new at lane line answer known apart open_ a (k.base p pair.2 pair.0, λ u. pair.4)).1 tt,
                )
              ]
              | inr same ↦ start (h ++ Answered lane line answer ∷ []) new (length_last h (Answered lane line answer) ∙ ap (λ (z : ℕ). z + 1) (sym same)) later kept rest to bases
            ];
          };
      same = λ h x old new r found known plain noted waits lanes shelf wsize calls b rest to.
          same-held h x old new plain noted lanes shelf wsize calls rest to (b (x ∷ rest) (before-that h x rest to));
    }

    -- at each later moment
    pub followed : (h : List Entry) (v : View) → Reaches (machine_of mt) setup h v → v.lost ≡ false → (rest : List Entry) → H ≡ h ++ rest → s0 < length h → Result h v
    followed h v r found rest to low = (reached-watching (machine_of mt) (begins-unbegun mt) setup HeldTo laws h v r found rest to).stage low
