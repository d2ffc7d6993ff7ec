-- The COMMITs of a file, along a history in which puts find room.
use Rattle.core_counts.proofs.Prelude.{◌≡◌, ◌≢◌, ◌⊎◌, inl, inr, ◌+◌, ◌*◌, ◌++◌, ℕ, Bool, true, false, List, [], ◌∷◌, length, All, Result, refl, sym, ap, subst, ◌∙◌, arith, All-weaker, All-nil, All-head, FileCall, same-or, Placed, IsCommitOf, commit, StableOf, WriterAt, Few, RepliedAt, info_call, Terms, most_tries, Entry, Began, Call, Reply, Fault, Op, Step, Repeat, Turn, Mounted, Machine, machine_of, Setup, View, Notes, IsNfs, GoesFrom}
use Rattle.claims.specs.Asks.{Asks, Acts, Stabilizes, NeedsRoom, TakesRoom}
use Rattle.claims.specs.CallCounts.{FewCommits}
use Rattle.std.specs.Prelude.{sum_by}
use Rattle.std.proofs.lemmas.List.Sums.{sum_by-cons}
use Rattle.nfs_file_calls.specs.declared.call.FileCall.TheVariants as files
use Rattle.claims.specs.Asks as asks
use Rattle.world_model.specs.declared.message.Call.TheVariants as calls
use Rattle.core_counts.proofs.counts.commits.WithRoom.{HasRoom, FewCommitsWithRoom}
use Rattle.core_counts.proofs.counts.commits.Laws.{MachineLeft, IsSaver, sync, close, put, machine-starts, machine-resumes, machine-takes}
use Rattle.core_counts.proofs.counts.commits.Machines.{StepIs, Taken, repeats, goes}
use Rattle.core_counts.proofs.counts.commits.Rooms.{machine-room}
use Rattle.core_counts.proofs.counts.engine.Laws.{Spends, nothing, Took, again, on, SeenLaws}
use Rattle.core_counts.proofs.counts.engine.Sum.{Summed, AsksOne, summed-seen}

-- ---- which operations ask for COMMITs

record IsOther (call : Call) : Type 0 where
  not : (f : List ℕ) (offset count : ℕ) → call ≡ calls.File (files.Commit f offset count) → ⊥

other : (R : Type 0) (f : List ℕ) (call to : Call) → call ≡ to → IsOther to → IsCommitOf f call → R
other R f call to is o (commit offset count e) = absurd (o.not f offset count (sym is ∙ e))

acts-other : (terms : Terms) (h : List Entry) (x n : ℕ) (op : Op) (call : Call) → Acts terms h x n op call → IsOther call
acts-other terms h x n op call (asks.cuts slot size f is of e) = record { not = λ g offset count same. absurd (cc) }
acts-other terms h x n op call (asks.accesses path bits f is of e) = record { not = λ g offset count same. absurd (cc) }
acts-other terms h x n op call (asks.reads_link path f is of e) = record { not = λ g offset count same. absurd (cc) }
acts-other terms h x n op call (asks.makes_dir path d name is of e) = record { not = λ g offset count same. absurd (cc) }
acts-other terms h x n op call (asks.makes_link path target d name is of e) = record { not = λ g offset count same. absurd (cc) }
acts-other terms h x n op call (asks.removes_dir path d name is of e) = record { not = λ g offset count same. absurd (cc) }
acts-other terms h x n op call (asks.renames from to d name to_d to_name is of of_to e) = record { not = λ g offset count same. absurd (cc) }
acts-other terms h x n op call (asks.links from to f d name is of of_to e) = record { not = λ g offset count same. absurd (cc) }
acts-other terms h x n op call (asks.removes path d name is of e) = record { not = λ g offset count same. absurd (cc) }
acts-other terms h x n op call (asks.hides path d last name is of hidden may e) = record { not = λ g offset count same. absurd (cc) }

same-file : (f g : List ℕ) (a b c d : ℕ) → calls.File (files.Commit f a b) ≡ calls.File (files.Commit g c d) → f ≡ g
same-file f g a b c d e = cc

-- no operation wants room
crowded-not : (h : List Entry) (x n : ℕ) (R : Type 0) → HasRoom h → NeedsRoom h x n → R
crowded-not h x n R room k =
    let all = room k.writers k.different (All-weaker (TakesRoom h x n) (WriterAt h) (λ o t. record { began = t.began; writes = t.writes }) k.writers k.each) in
    let full = k.full in
    absurd (omega (arith, all, full))

commit-asks : (terms : Terms) (h : List Entry) (x n : ℕ) (op : Op) (call : Call) (f : List ℕ) → HasRoom h → Asks terms h x n op call → IsCommitOf f call → Stabilizes terms h x n op f
commit-asks terms h x n op call f room (asks.commits g stable e) (commit offset count made) =
    subst (Stabilizes terms h x n op) (same-file g f 0 0 offset count (sym e ∙ made)) stable
commit-asks terms h x n op call f room (asks.commits_for_room g writes had needs e) p = crowded-not h x n _ room needs
commit-asks terms h x n op call f room (asks.walks path earlier later name next d has is leads e) p = other _ f call _ e (record { not = λ g offset count same. absurd (cc) }) p
commit-asks terms h x n op call f room (asks.finds path d name has of e) p = other _ f call _ e (record { not = λ g offset count same. absurd (cc) }) p
commit-asks terms h x n op call f room (asks.looks_for_hidden path d last name is of hidden e) p = other _ f call _ e (record { not = λ g offset count same. absurd (cc) }) p
commit-asks terms h x n op call f room (asks.creates slot path d name is of e) p = other _ f call _ e (record { not = λ g offset count same. absurd (cc) }) p
commit-asks terms h x n op call f room (asks.creates_after slot path d name reply is of asked none e) p = other _ f call _ e (record { not = λ g offset count same. absurd (cc) }) p
commit-asks terms h x n op call f room (asks.opens path g is leads e) p = other _ f call _ e (record { not = λ g offset count same. absurd (cc) }) p
commit-asks terms h x n op call f room (asks.opens_made slot mode path d name g making attr wcc is of makes asked e) p = other _ f call _ e (record { not = λ g offset count same. absurd (cc) }) p
commit-asks terms h x n op call f room (asks.shows path g is leads e) p = other _ f call _ e (record { not = λ g offset count same. absurd (cc) }) p
commit-asks terms h x n op call f room (asks.reads slot offset count at size g is of inside e) p = other _ f call _ e (record { not = λ g offset count same. absurd (cc) }) p
commit-asks terms h x n op call f room (asks.asks_anew slot offset count g is anew of e) p = other _ f call _ e (record { not = λ g offset count same. absurd (cc) }) p
commit-asks terms h x n op call f room (asks.writes g bytes at how stable e) p = other _ f call _ e (record { not = λ g offset count same. absurd (cc) }) p
commit-asks terms h x n op call f room (asks.writes_for_room g bytes at how writes had needs e) p = other _ f call _ e (record { not = λ g offset count same. absurd (cc) }) p
commit-asks terms h x n op call f room (asks.removes_hidden r) p = other _ f call _ r.removes (record { not = λ g offset count same. absurd (cc) }) p
commit-asks terms h x n op call f room (asks.lists path d rows cookie verf is leads chain e) p = other _ f call _ e (record { not = λ g offset count same. absurd (cc) }) p
commit-asks terms h x n op call f room (asks.acts a) p = other _ f call call refl (acts-other terms h x n op call a) p

saver-of : (terms : Terms) (h : List Entry) (x n : ℕ) (op : Op) (f : List ℕ) → Stabilizes terms h x n op f → IsSaver f op
saver-of terms h x n op f (asks.sync slot is of) = sync slot is
saver-of terms h x n op f (asks.close slot is of) = close slot is
saver-of terms h x n op f (asks.put path offset bytes is leads) = put path offset bytes is

-- ---- whether a call is such a COMMIT

pub is-nfs : (f : List ℕ) (call : Call) → IsCommitOf f call → IsNfs call
is-nfs f call (commit offset count is) = subst IsNfs (sym is) tt

pub not-info : (f root : List ℕ) → IsCommitOf f (info_call root) → ⊥
not-info f root (commit offset count is) = absurd (cc)

is_same : (f g : List ℕ) → (g ≡ f) ⊎ (g ≢ f) → Bool
is_same f g (inl same) = true
is_same f g (inr apart) = false

test-file : List ℕ → FileCall → Bool
test-file f (files.Commit g offset count) = is_same f g (same-or f g)
test-file f call = false

pub test : List ℕ → Call → Bool
test f (calls.File call) = test-file f call
test f call = false

same-sound : (f g : List ℕ) (o : (g ≡ f) ⊎ (g ≢ f)) → is_same f g o ≡ true → g ≡ f
unfolding is_same
same-sound f g (inl same) is = same
same-sound f g (inr apart) is = absurd (cc)

same-complete : (f : List ℕ) (o : (f ≡ f) ⊎ (f ≢ f)) → is_same f f o ≡ true
unfolding is_same
same-complete f (inl same) = refl
same-complete f (inr apart) = absurd (apart refl)

file-sound : (f : List ℕ) (call : FileCall) → test-file f call ≡ true → IsCommitOf f (calls.File call)
unfolding test-file
file-sound f (files.Commit g offset count) is = commit offset count (ap (λ (k : List ℕ). calls.File (files.Commit k offset count)) (same-sound f g (same-or f g) is))
file-sound f call is = absurd (cc)

pub test-sound : (f : List ℕ) (call : Call) → test f call ≡ true → IsCommitOf f call
unfolding test
test-sound f (calls.File call) is = file-sound f call is
test-sound f call is = absurd (cc)

pub test-complete : (f : List ℕ) (call : Call) → IsCommitOf f call → test f call ≡ true
unfolding test test-file
test-complete f call (commit offset count is) = subst (λ (c : Call). test f c ≡ true) (sym is) (same-complete f (same-or f f))

-- ---- the laws

-- no reply gives one more
NoReply : Call → ℕ → List ℕ → Type 0
NoReply call xid bytes = ⊥

two_of : Op → ℕ
two_of op = 2

module _ (m : Mounted) (setup : Setup) (H : List Entry) (room : HasRoom H) (f : List ℕ) where
  abbrev Left : List Entry → ℕ → Op → Machine → ℕ → Type 0
  Left h x op machine left = MachineLeft f machine left

  spends : (h : List Entry) (x : ℕ) (op : Op) (had : ℕ) (next : Step) (new : Machine) → StepIs f had next (MachineLeft f new) → Spends (IsCommitOf f) Left h x op had next new
  spends h x op had next new s = record { left = s.left; keeps = s.keeps; less = s.less; asks = s.asks }

  took : (h : List Entry) (x : ℕ) (op : Op) (had : ℕ) (sent turn : Turn) (came : Result Reply Fault) (old later : List Repeat) (next : Step) (new : Machine)
      → Taken f had sent turn old later next (MachineLeft f new) → Took (IsCommitOf f) NoReply Left h x op had sent turn came old next new later
  took h x op had sent turn came old later next new (repeats table left) = again table had (omega arith) left
  took h x op had sent turn came old later next new (goes table s) =
      on table 0 (nothing refl) (record {
        left = s.left;
        keeps = s.keeps;
        less = let l = s.less in omega (arith, l);
        asks = λ call sends p. let l = s.asks call sends p in omega (arith, l);
      })

  commit-laws : SeenLaws m setup H (IsCommitOf f) NoReply (IsSaver f) two_of Left
  unfolding two_of
  commit-laws = record {
    starts = λ h lane line op wsize turn old next new after fits s. spends (h ++ Began lane line op ∷ []) (length h) op 2 next new (machine-starts f m lane op wsize turn old next new after fits s);
    resumes = λ h x op machine wsize turn old next new after had fits left s. spends h x op had next new (machine-resumes f machine wsize turn old next new after had left s);
    takes = λ h x op machine wsize sent turn came old next new after others had fits left count c seen t.
        took h x op had sent turn came old.repeats after.repeats next new
        (machine-takes f machine wsize sent turn came old next new after had (omega (arith, count)) left (machine-room m setup H room f h x op came old machine seen) t);
    grows = λ h e x op machine left k. k;
  }

-- ---- along a history

twice : (os : List Placed) → sum_by (λ (o : Placed). two_of o.1) os ≡ 2 * length os
unfolding two_of
twice [] = refl
twice (o ∷ os) = let rest = twice os in let step = sum_by-cons (λ (p : Placed). 2) o os in omega (arith, rest, step)

module _ (m : Mounted) (terms : Terms) (setup : Setup) (before h : List Entry) (v : View) (g : GoesFrom m terms setup before h v) (notes : Notes (machine_of m) setup h v) (room : HasRoom h) (f : List ℕ) where
  own : Summed terms h (IsCommitOf f) NoReply two_of
  own = summed-seen m terms setup before h v g notes (IsCommitOf f) NoReply (IsSaver f) two_of (Left m setup h room f) (commit-laws m setup h room f) (λ call p. is-nfs f call p)
      (λ root p. not-info f root p) (test f) (λ call is. test-sound f call is) (λ x n op call asks_ p. test-complete f call p)
      (λ x n op call began asked asks_ p. saver-of terms h x n op f (commit-asks terms h x n op call f room asks_ p))

  no-credit : (cs : List ℕ) → All (RepliedAt h NoReply) cs → length cs ≡ 0
  unfolding NoReply
  no-credit [] all = refl
  no-credit (c ∷ cs) all = absurd (All-head (RepliedAt h NoReply) c cs all).is

  few : Few h (IsCommitOf f) (most_tries * (2 * length own.asking + 32 * length {A = Placed} []))
  few xids apart each =
      let most = own.few xids apart each in
      let sum = twice own.asking in
      let none = no-credit own.credits own.replied in
      omega (arith, most, sum, none)

  pub commits-few : FewCommits terms h f
  commits-few = record {
    stable = own.asking;
    full = [];
    operations = record {
      different = own.different;
      each = All-weaker (AsksOne terms h (IsCommitOf f)) (StableOf terms h f)
          (λ o k. record { end = k.end; began = k.began; ends = k.ends; stable = commit-asks terms h o.0 k.end o.1 k.call f room k.asks k.is }) own.asking own.each;
    };
    writers = record { different = λ i j d low within. absurd (omega (arith, within)); each = All-nil (WriterAt h) };
    room = inl refl;
    few = few;
  }

pub few-commits-with-room : FewCommitsWithRoom
few-commits-with-room m terms setup before h v g notes room f = commits-few m terms setup before h v g notes room f
