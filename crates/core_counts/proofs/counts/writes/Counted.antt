-- The WRITEs of a place, along a history.
use Rattle.core_counts.proofs.Prelude.{◌≡◌, ◌≢◌, ◌≤◌, ◌+◌, ◌*◌, inl, inr, ℕ, List, [], ◌∷◌, ◌++◌, length, sym, ap, subst, ◌∙◌, arith, length-append, append_assoc, append-nil, Entry, Began, Sent, Call, Carries, Few, RepliedAt, CoversPlace, IsCommitOf, NoneBegan, IsCaused, IsCause, mounts, informs, asked, At, SpellsCall, Terms, most_tries, WritesByte, FirstSent, FirstSent-grow, At-grow, At-back, At-below, Mounted, machine_of, Setup, View, Notes, begins-unbegun, notes-reach, IsNfs, one-call, IsSession, GoesFrom, all-asked, session}
use Rattle.claims.specs.CallCounts.{IsPoor, WritesPlace, FewWrites}
use Rattle.world_model.specs.Waiting.{Answers}
use Rattle.world_model.proofs.Growth.{Answers-grow}
use Rattle.core_counts.proofs.coarse.Going.{reached-going}
use Rattle.core_counts.proofs.counts.engine.Booked.{Unlost, unlost}
use Rattle.core_counts.proofs.counts.engine.Lists.{Each, each-map, each-both, each-all, all-each, Apart, apart-all, all-apart, without, without-each, without-apart, without-length}
use Rattle.core_counts.proofs.counts.writes.Along.{keeps-tally}
use Rattle.core_counts.proofs.counts.writes.Giving.{writes-of}
use Rattle.core_counts.proofs.counts.writes.Tally.{In, Writer, Answered, Tally, writer-later}
use Rattle.core_counts.specs.counts.Writes.{FewWritesMade}

-- different numbers that are all among others are no more than these
fewer : (zs xs : List ℕ) → Apart xs → Each (λ (x : ℕ). In x zs) xs → length xs ≤ length zs
fewer [] [] a e = omega arith
fewer [] (x ∷ xs) a e = absurd e.0
fewer (z ∷ zs) xs a e =
    let k = without-apart z xs a in
    let less = fewer zs (without z xs) k.0
    (each-map (λ (x : ℕ). (x ≢ z) × In x (z ∷ zs)) (λ (x : ℕ). In x zs) (λ x p. later x p.0 p.1) (without z xs)
    (each-both (λ (x : ℕ). x ≢ z) (λ (x : ℕ). In x (z ∷ zs)) (without z xs) k.1 (without-each (λ (x : ℕ). In x (z ∷ zs)) z xs e))) in
    let size = without-length z xs in
    omega (arith, less, size)
  where
    later : (x : ℕ) → x ≢ z → In x (z ∷ zs) → In x zs
    later x apart (inl is) = absurd (apart (sym is))
    later x apart (inr there) = there

module _ (m : Mounted) (terms : Terms) (setup : Setup) (before h : List Entry) (v : View) (from : GoesFrom m terms setup before h v) (notes : Notes (machine_of m) setup h v)
    (f : List ℕ) (i : ℕ) where
  u : Unlost (machine_of m) setup h v
  u = unlost (machine_of m) setup h v notes

  its-session : IsSession m terms setup h v
  its-session = session m terms setup before h v from

  tally : Tally m terms.modes its-session.goes.nocto setup f i u.g u.gv
  tally = reached-going (machine_of m) (begins-unbegun m) setup (Tally m terms.modes its-session.goes.nocto setup f i) (keeps-tally m terms.modes its-session.goes.nocto setup f i) u.g u.gv
      (notes-reach (machine_of m) setup u.g u.gv u.notes) u.found

  -- ---- into the whole history

  abbrev WriterAt : List Entry → ℕ → Type 0
  WriterAt k x = Writer m terms.modes its-session.goes.nocto setup f i k x

  writer-on : (g rest : List Entry) (x : ℕ) → WriterAt g x → WriterAt (g ++ rest) x
  writer-on g [] x w = subst (λ (k : List Entry). WriterAt k x) (sym (append-nil g)) w
  writer-on g (e ∷ rest) x w =
      subst (λ (k : List Entry). WriterAt k x) (append_assoc g (e ∷ []) rest)
      (writer-on (g ++ e ∷ []) rest x (writer-later m terms.modes its-session.goes.nocto setup f i g e x w))

  writes : (x : ℕ) → WriterAt u.g x → WritesPlace terms h f i x
  writes x w =
      let k = subst (λ (k : List Entry). WriterAt k x) (sym u.is) (writer-on u.g u.rest x w) in
      (k.byte, subst (λ (n : ℕ). WritesByte terms.modes terms.origin h n f i k.byte) k.is (writes-of m terms setup h v its-session f i k.byte k.given))

  longer : length u.g ≤ length h
  longer = let size = ap length u.is ∙ length-append u.g u.rest in omega (arith, size)

  replied : (at : ℕ) → RepliedAt u.g (IsPoor f i) at → RepliedAt h (IsPoor f i) at
  replied at c = record {
    call = c.call;
    xid = c.xid;
    bytes = c.bytes;
    heard = record {
      sent_at = c.heard.sent_at;
      record_sent = c.heard.record_sent;
      got_at = c.heard.got_at;
      sent = subst (λ (k : List Entry). FirstSent k c.heard.sent_at c.xid c.heard.record_sent) (sym u.is) (FirstSent-grow u.g u.rest c.heard.sent_at c.xid c.heard.record_sent c.heard.sent);
      spells = c.heard.spells;
      got = subst (λ (k : List Entry). Answers k c.heard.got_at c.xid c.bytes) (sym u.is) (Answers-grow u.g u.rest c.heard.got_at c.xid c.bytes c.heard.got);
      after = c.heard.after;
      later = c.heard.later;
      before = let low = c.heard.before in let more = longer in omega (arith, low, more);
    };
    here = c.here;
    is = c.is;
  }

  carried : (xid : ℕ) → Answered m terms.modes its-session.goes.nocto setup f i u.g xid → Carries h (IsCommitOf f) xid
  carried xid a = record {
    at = a.heard.sent_at;
    bytes = a.heard.record_sent;
    call = a.call;
    sent = subst (λ (k : List Entry). FirstSent k a.heard.sent_at xid a.heard.record_sent) (sym u.is) (FirstSent-grow u.g u.rest a.heard.sent_at xid a.heard.record_sent a.heard.sent);
    spells = a.heard.spells;
    is = a.is;
  }

  -- ---- each WRITE of the place was made

  is-nfs : (call : Call) → CoversPlace f i call → IsNfs call
  is-nfs call c = subst IsNfs (sym c.is) tt

  -- a record that was sent before any operation began is none
  not-early : (j xid : ℕ) (bytes : List ℕ) (call : Call) → At u.g j (Sent bytes) → NoneBegan u.g j → SpellsCall xid call bytes → CoversPlace f i call → ⊥
  not-early j xid bytes call at none spells c = by ((all-asked m terms setup before h v from notes).caused j bytes (subst (λ (k : List Entry). At k j (Sent bytes)) (sym u.is) (At-grow u.g u.rest j (Sent bytes) at)))
    where
      by : IsCaused terms h j bytes → ⊥
      by k = cause k.cause (one-call xid k.xid call k.call bytes (is-nfs call c) spells k.made.spells)
        where
          cause : IsCause terms h j k.call → call ≡ k.call → ⊥
          cause (mounts path origin same early) which = absurd (let one = sym c.is ∙ which ∙ same in cc)
          cause (informs root rooted same early) which = absurd (let one = sym c.is ∙ which ∙ same in cc)
          cause (asked lane x op w asks keeps) which =
              let low = At-below u.g j (Sent bytes) at in
              let since = w.before in
              none x lane w.line op (At-back u.g u.rest x (Began lane w.line op) (subst (λ (k : List Entry). At k x (Began lane w.line op)) u.is w.began) (omega (arith, low, since))) w.before

  was-made : (xid : ℕ) → Carries h (CoversPlace f i) xid → In xid tally.lists.made
  was-made xid c = elim (tally.sents c.at xid c.bytes c.call there c.sent.under c.spells c.is) [
    | inl none ↦ absurd (not-early c.at xid c.bytes c.call there none c.spells c.is)
    | inr has ↦ has
  ]
    where
      there : At u.g c.at (Sent c.bytes)
      there = At-back u.g u.rest c.at (Sent c.bytes) (subst (λ (k : List Entry). At k c.at (Sent c.bytes)) u.is c.sent.sent) (u.sent c.at c.bytes c.sent.sent)

  few : Few h (CoversPlace f i) (most_tries * length tally.lists.writers + length tally.lists.poor + length tally.lists.commits)
  few xids apart each =
      let less = fewer tally.lists.made xids (all-apart xids apart) (each-map (Carries h (CoversPlace f i)) (λ (x : ℕ). In x tally.lists.made) was-made xids (all-each (Carries h (CoversPlace f i)) xids each)) in
      let room = tally.few in
      omega (arith, less, room)

  pub few-writes : FewWrites terms h f i
  few-writes = record {
    writers = tally.lists.writers;
    poor = tally.lists.poor;
    commits = tally.lists.commits;
    operations = record {
      different = apart-all tally.lists.writers tally.lists.writers_apart;
      each = each-all (WritesPlace terms h f i) tally.lists.writers (each-map (WriterAt u.g) (WritesPlace terms h f i) writes tally.lists.writers tally.lists.each_writer);
    };
    replied = record {
      different = apart-all tally.lists.poor tally.lists.poor_apart;
      each = each-all (RepliedAt h (IsPoor f i)) tally.lists.poor (each-map (RepliedAt u.g (IsPoor f i)) (RepliedAt h (IsPoor f i)) replied tally.lists.poor tally.lists.each_poor);
    };
    committed = record {
      different = apart-all tally.lists.commits tally.lists.commits_apart;
      each = each-all (Carries h (IsCommitOf f)) tally.lists.commits
          (each-map (Answered m terms.modes its-session.goes.nocto setup f i u.g) (Carries h (IsCommitOf f)) carried tally.lists.commits tally.lists.each_commit);
    };
    few = few;
  }

pub few-writes-made : FewWritesMade
few-writes-made m terms setup before h v from notes f i = few-writes m terms setup before h v from notes f i
