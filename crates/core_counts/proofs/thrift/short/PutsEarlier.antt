-- A put that was the last to write a place, as it was answered: a WRITE that covers the place was sent.
use Rattle.core_counts.proofs.Prelude.{◌≡◌, ◌<◌, ◌≤◌, inl, inr, ◌+◌, ◌++◌, ℕ, false, List, [], ◌∷◌, length, refl, sym, ap, subst, ◌∙◌, arith, cases_lt, Entry, Began, Sent, Delivered, Op, At, Rooted, PutsTo, Terms, OneLane, CoveredEarlier, Rooted-wide, At-grow, At-back, Mounted, machine_of, Setup, View, KnowsRoot, Reaches, GoesFrom}
use Rattle.world_model.proofs.Growth.{Rooted-grow}
use Rattle.world_model.specs.declared.answer.Answer.TheVariants as answers
use Rattle.world_model.specs.declared.op.Op.TheVariants as ops
use Rattle.claims.specs.Touched.{Covers}
use Rattle.claims.specs.Touched as touched_by
use Rattle.core_session.specs.syncs.Synced.{PutsNamed}
use Rattle.core_session.proofs.syncs.Ends.{ended-back}
use Rattle.core_counts.proofs.thrift.short.PutMade.{put-covered}
use Rattle.core_counts.proofs.thrift.short.PutsLong.{one-before}

same-head : (a b : Entry) (xs ys : List Entry) → a ∷ xs ≡ b ∷ ys → (a ≡ b) × (xs ≡ ys)
same-head a b xs ys e = (cc, cc)

-- of two beginnings of one history the shorter one begins the other
prefix-of : (a m b r : List Entry) → a ++ m ≡ b ++ r → length a ≤ length b → (c : List Entry) × (b ≡ a ++ c)
prefix-of [] m b r is low = (b, refl)
prefix-of (x ∷ a) m [] r is low = absurd (omega (arith, low))
prefix-of (x ∷ a) m (z ∷ b) r is low =
    let same = same-head x z (a ++ m) (b ++ r) is in
    let rest = prefix-of a m b r same.1 (omega (arith, low)) in
    (rest.0, ap (λ (k : List Entry). z ∷ k) rest.1 ∙ ap (λ (e : Entry). e ∷ (a ++ rest.0)) (sym same.0))

module _ (m : Mounted) (terms : Terms) (setup : Setup) (start h : List Entry) (V : View) (from : GoesFrom m terms setup start h V) (one : OneLane h) (before rest : List Entry) (is : h ≡ before ++ rest) (view : View)
    (reaches : Reaches (machine_of m) setup before view) (found : view.lost ≡ false) (w y offset : ℕ) (f bytes : List ℕ) (to : PutsTo h w y f offset bytes) (long : length before ≡ y + 1) where
  at-whole : (x lane line : ℕ) (op : Op) → At before x (Began lane line op) → At h x (Began lane line op)
  at-whole x lane line op at = subst (λ (k : List Entry). At k x (Began lane line op)) (sym is) (At-grow before rest x (Began lane line op) at)

  set-up-late : (x lane line : ℕ) (op : Op) → At h x (Began lane line op) → length start ≤ x
  set-up-late x lane line op at = elim (cases_lt x (length start)) [
    | inl early ↦ absurd (from.set_up.unbegun x lane line op (At-back start from.more x (Began lane line op) (subst (λ (k : List Entry). At k x (Began lane line op)) from.grows at) early))
    | inr late ↦ late
  ]

  below : w < length before
  below = let late = to.ended.later in omega (arith, late, long)

  split : (c : List Entry) × (before ≡ start ++ c)
  split = prefix-of start from.more before rest (sym from.grows ∙ is) (let late = set-up-late w to.lane to.ended.line (ops.Put to.path offset bytes) to.ended.began in omega (arith, late, below))

  roots : KnowsRoot terms.origin before m.root
  roots x lane line op at =
      Rooted-wide terms.origin before (length start) x m.root (set-up-late x lane line op (at-whole x lane line op at))
      (subst (λ (k : List Entry). Rooted terms.origin k (length start) m.root) (sym split.1) (Rooted-grow terms.origin start split.0 (length start) m.root from.set_up.root))

  named : PutsNamed before
  named x lane line offset_ path bytes_ at = (from.asked x lane line (ops.Put path offset_ bytes_) (at-whole x lane line (ops.Put path offset_ bytes_) at)).0

  here : (e : Entry) (n : ℕ) → At h n e → n < length before → At before n e
  here e n at low = At-back before rest n e (subst (λ (k : List Entry). At k n e) is at) low

  there : (e : Entry) (n : ℕ) → At before n e → At h n e
  there e n at = subst (λ (k : List Entry). At k n e) (sym is) (At-grow before rest n e at)

  to-here : PutsTo before w y f offset bytes
  to-here = record {
    lane = to.lane;
    path = to.path;
    value = to.value;
    call = to.call;
    ended = ended-back before rest h (sym is) to.lane w (ops.Put to.path offset bytes) y (answers.Done to.value) (omega (arith, long)) to.ended;
    names = to.names;
    asked = record {
      at = to.asked.at;
      bytes = to.asked.bytes;
      xid = to.asked.xid;
      sent_at = to.asked.sent_at;
      record_sent = to.asked.record_sent;
      got = here (Delivered to.asked.bytes) to.asked.at to.asked.got (let low = to.asked.before in omega (arith, low, long));
      before = to.asked.before;
      last = λ j b at low. to.asked.last j b (there (Delivered b) j at) low;
      under = to.asked.under;
      sent = record {
        sent = here (Sent to.asked.record_sent) to.asked.sent_at to.asked.sent.sent (let low = to.asked.before in let early = to.asked.asked in omega (arith, low, early, long));
        under = to.asked.sent.under;
        first = λ j b at has. to.asked.sent.first j b (there (Sent b) j at) has;
      };
      spells = to.asked.spells;
      asked = to.asked.asked;
    };
  }

  pub was-covered : (i v : ℕ) → Covers offset bytes i v → CoveredEarlier before (length before) f i
  was-covered i v covers =
      put-covered m terms setup before view (record { nocto = from.goes.nocto; reaches = reaches }) found roots named (one-before before rest (subst OneLane is one)) w y f i offset v bytes to-here (touched_by.put offset bytes to-here covers) (long ∙ omega arith)
