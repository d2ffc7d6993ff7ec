-- The COMMITs of a file in a whole session: 2 for each sync, close and put of it, and 32 for each write, fill and put where writes may have waited for room.
use Rattle.core_counts.proofs.Prelude.{◌≡◌, ◌≢◌, ◌<◌, ◌≤◌, ◌+◌, ◌*◌, inl, inr, ℕ, suc, List, [], ◌∷◌, ◌++◌, length, refl, sym, subst, ◌∙◌, arith, length-append, cases_lt, Placed, AreDifferent, count_of, most_pending, IsCommitOf, Carries, Few, StableOf, WriterAt, IsCaused, IsCause, NoneBegan, mounts, informs, asked, At, SpellsCall, mount_call, Terms, most_tries, Entry, Began, Sent, Call, At-back, At-below, At-grow, Mounted, machine_of, Setup, View, Notes, one-call, IsSession, GoesFrom, all-asked, session, different-apart}
use Rattle.claims.specs.CallCounts.{FewCommits}
use Rattle.std.specs.Prelude.{sum_by}
use Rattle.std.proofs.lemmas.List.Sums.{sum_by-cons}
use Rattle.core_session.proofs.room.Writers as writers
use Rattle.core_counts.specs.counts.Commits.{FewCommitsMade}
use Rattle.core_counts.proofs.counts.commits.WithRoom.{HasRoom}
use Rattle.core_counts.proofs.counts.commits.Counted.{is-nfs, not-info, few-commits-with-room}
use Rattle.core_counts.proofs.counts.engine.Booked.{Unlost, unlost}
use Rattle.core_counts.proofs.counts.engine.Lists.{Each, each-map, each-all, all-each, all-apart, Different}
use Rattle.core_counts.proofs.counts.rooms.Numbers.{In, weigh, weigh-within, few-within, many, writers_from, writer_here, IsOne, each-one, every-in, all-apart-from}
use Rattle.core_counts.proofs.counts.rooms.Purses.{Purse}
use Rattle.core_counts.proofs.counts.rooms.Whole.{both}

-- ---- the writes, fills and puts of a history

few-prefix : (n : ℕ) (a b : List Entry) → length (writers_from n a) ≤ length (writers_from n (a ++ b))
few-prefix n [] b = omega arith
few-prefix n (e ∷ a) b =
    let rest = few-prefix (suc n) a b in
    let one = length-append (writer_here n e) (writers_from (suc n) a) in
    let two = length-append (writer_here n e) (writers_from (suc n) (a ++ b)) in
    omega (arith, rest, one, two)

different-of : (os : List Placed) → AreDifferent os → Different (λ (o : Placed). o.0) os
different-of [] a = tt
different-of (o ∷ os) a = (
  each-map (λ (p : Placed). o.0 ≢ p.0) (λ (p : Placed). p.0 ≢ o.0) (λ p apart same. apart (sym same)) os
      (all-each (λ (p : Placed). o.0 ≢ p.0) os (λ k d within. a 0 (suc k) d (omega arith) (omega (arith, within)))),
  different-of os (λ i j d low within. a (suc i) (suc j) d (omega (arith, low)) (omega (arith, within))),
)

elsewhere-of : (x : ℕ) (os : List Placed) → Each (λ (o : Placed). o.0 ≢ x) os → writers.Elsewhere x os
elsewhere-of x [] e = tt
elsewhere-of x (o ∷ os) e = (e.0, elsewhere-of x os e.1)

apart-of : (os : List Placed) → Different (λ (o : Placed). o.0) os → writers.Apart os
apart-of [] d = tt
apart-of (o ∷ os) d = (elsewhere-of o.0 os d.0, apart-of os d.1)

weigh-is : (os : List Placed) → weigh (λ (o : Placed). o.0) (λ (o : Placed). count_of o.1) os ≡ sum_by (λ (o : Placed). count_of o.1) os
weigh-is [] = refl
weigh-is (o ∷ os) = let rest = weigh-is os in let step = sum_by-cons (λ (p : Placed). count_of p.1) o os in omega (arith, rest, step)

writer-in : (h : List Entry) (o : Placed) → WriterAt h o → In o (writers_from 0 h)
writer-in h o w = every-in h o.0 w.began.0 w.began.1 o.1 w.began.2 w.writes

one-writer : (h : List Entry) (o : Placed) → IsOne 0 h o → WriterAt h o
one-writer h o k = record {
  began = (k.lane, k.line, subst (λ (n : ℕ). At h n (Began k.lane k.line o.1)) (let place = k.place in let same : k.at ≡ o.0 = omega (arith, place) in same) k.began);
  writes = k.writes;
}

-- all of them are more than a session holds back, or none of them ever waits
has-room : (h : List Entry) → sum_by (λ (o : Placed). count_of o.1) (writers_from 0 h) ≤ most_pending → HasRoom h
has-room h low some different each =
    let less = weigh-within (λ (o : Placed). o.0) (λ (o : Placed). count_of o.1) some (writers_from 0 h) (different-of some different)
    (each-map (WriterAt h) (λ (o : Placed). In o (writers_from 0 h)) (writer-in h) some (all-each (WriterAt h) some each)) in
    let one = weigh-is some in
    let two = weigh-is (writers_from 0 h) in
    omega (arith, less, one, two, low)

module _ (m : Mounted) (terms : Terms) (setup : Setup) (before h : List Entry) (v : View) (from : GoesFrom m terms setup before h v) (n : Notes (machine_of m) setup h v) (f : List ℕ) where
  u : Unlost (machine_of m) setup h v
  u = unlost (machine_of m) setup h v n

  its-session : IsSession m terms setup h v
  its-session = session m terms setup before h v from

  p : Purse terms h f u.g u.gv
  p = (both m terms setup h v its-session.goes its-session.root its-session.asked f u.g u.gv u.notes u.found u.rest u.is).1

  whole : {e : Entry} → (i : ℕ) → At u.g i e → At h i e
  whole {e} i at = subst (λ (k : List Entry). At k i e) (sym u.is) (At-grow u.g u.rest i e at)

  back : (i : ℕ) (bytes : List ℕ) → At h i (Sent bytes) → At u.g i (Sent bytes)
  back i bytes at = At-back u.g u.rest i (Sent bytes) (subst (λ (k : List Entry). At k i (Sent bytes)) u.is at) (u.sent i bytes at)

  -- a record that was sent before any operation began is no COMMIT
  not-early : (i xid : ℕ) (bytes : List ℕ) (call : Call) → At u.g i (Sent bytes) → NoneBegan u.g i → SpellsCall xid call bytes → IsCommitOf f call → ⊥
  not-early i xid bytes call at none spells commits = by ((all-asked m terms setup before h v from n).caused i bytes (whole i at))
    where
      by : IsCaused terms h i bytes → ⊥
      by c = cause c.cause (one-call xid c.xid call c.call bytes (is-nfs f call commits) spells c.made.spells)
        where
          cause : IsCause terms h i c.call → call ≡ c.call → ⊥
          cause (mounts path origin same early) which = is-nfs f (mount_call path) (subst (IsCommitOf f) (which ∙ same) commits)
          cause (informs root rooted same early) which = not-info f root (subst (IsCommitOf f) (which ∙ same) commits)
          cause (asked lane x op w asks keeps) which =
              let low = At-below u.g i (Sent bytes) at in
              let since = w.before in
              none x lane w.line op (At-back u.g u.rest x (Began lane w.line op) (subst (λ (k : List Entry). At k x (Began lane w.line op)) u.is w.began) (omega (arith, low, since))) w.before

  in-made : (xid : ℕ) → Carries h (IsCommitOf f) xid → In xid p.made
  in-made xid c = elim (p.sents c.at xid c.bytes there c.sent.under (record { xid = xid; call = c.call; spells = c.spells; is = c.is })) [
    | inl none ↦ absurd (not-early c.at xid c.bytes c.call there none c.spells c.is)
    | inr in_ ↦ in_
  ]
    where
      there : At u.g c.at (Sent c.bytes)
      there = back c.at c.bytes c.sent.sent

  few : Few h (IsCommitOf f) (most_tries * (2 * length p.stable + 32 * length (writers_from 0 h)))
  few xids apart each =
      let size = few-within xids p.made (all-apart xids apart)
      (each-map (Carries h (IsCommitOf f)) (λ (xid : ℕ). In xid p.made) in-made xids (all-each (Carries h (IsCommitOf f)) xids each)) in
      let fits = p.fits in
      let less : many u.g ≤ many h = subst (λ (k : List Entry). many u.g ≤ many k) (sym u.is) (few-prefix 0 u.g u.rest) in
      omega (arith, size, fits, less)

  crowded : most_pending < sum_by (λ (o : Placed). count_of o.1) (writers_from 0 h) → FewCommits terms h f
  crowded more = record {
    stable = p.stable;
    full = writers_from 0 h;
    operations = record { different = different-apart p.stable p.apart; each = writers.all-each (StableOf terms h f) p.stable p.each };
    writers = record {
      different = different-apart (writers_from 0 h) (apart-of (writers_from 0 h) (all-apart-from 0 h));
      each = each-all (WriterAt h) (writers_from 0 h) (each-map (IsOne 0 h) (WriterAt h) (one-writer h) (writers_from 0 h) (each-one 0 h));
    };
    room = inr more;
    few = few;
  }

  pub all-commits : FewCommits terms h f
  all-commits = elim (cases_lt most_pending (sum_by (λ (o : Placed). count_of o.1) (writers_from 0 h))) [
    | inl more ↦ crowded more
    | inr low ↦ few-commits-with-room m terms setup before h v from n (has-room h low) f
  ]

pub few-commits : FewCommitsMade
few-commits m terms setup before h v from n f = all-commits m terms setup before h v from n f
