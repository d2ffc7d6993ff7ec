-- What a session may still make of the COMMITs of a file, over all its lanes: it never makes more than the syncs, closes and puts of the file and the writes, fills
-- and puts that began allow.
use Rattle.core_counts.proofs.Prelude.{◌≡◌, ◌≢◌, ◌<◌, ◌≤◌, ◌+◌, ◌*◌, ◌⊎◌, inl, inr, ℕ, List, ◌∷◌, length, refl, sym, subst, ◌∙◌, arith, Pending, Entry, Began, Sent, Op, IsWriter, Placed, StableOf, NoneBegan, At, HasXid, UnderWay, Terms, At-one, Writing, Machine, State, Busy, View, Runs, IsEmpty, each-map, Elsewhere, Story, story-turns, Turns}
use Rattle.core_session.proofs.room.Writers.{Each, Apart}
use Rattle.file_ops.specs.declared.write_file.Writing.TheVariants as writing
use Rattle.core_counts.proofs.counts.rooms.Base.{Effect}
use Rattle.core_counts.proofs.counts.rooms.Calls.{Such, Waiting_, Ends, pots}
use Rattle.core_counts.proofs.counts.rooms.Numbers.{total, sets, sets-here, sets-other, sixteen-sets, sixteen-more, In, many}
use Rattle.core_counts.proofs.counts.rooms.Posts.{Holds, RoleHolds}
use Rattle.core_counts.proofs.counts.rooms.Roles.{Role, neither, storing, own, role_of, OwnLeft}
use Rattle.core_counts.proofs.counts.rooms.Writes.{Waits, WriteLeft, elsewhere, of_it}

module _ (terms : Terms) (H : List Entry) (f : List ℕ) where
  pub record Purse (h : List Entry) (v : View) : Type 0 where
    pub made : List ℕ
    pub waiting : Waiting_ f made v
    pub sents : (i xid : ℕ) (bytes : List ℕ) → At h i (Sent bytes) → HasXid bytes xid → Such f bytes → NoneBegan h i ⊎ In xid made
    pub stable : List Placed
    pub apart : Apart stable
    pub each : Each (StableOf terms H f) stable
    pub early : Each (λ (o : Placed). o.0 < length h) stable
    pub q : ℕ → ℕ
    pub story : Story (λ number x machine op. Holds f stable x v.shelf.seq v.shelf.back (q number) machine) h v
    pub fits : length made + pots f v made + 4 * total 16 q ≤ 4 * (2 * length stable + 32 * many h)

  -- ---- the other lanes

  -- nothing but the file's emptiness is asked of what is pending
  waits-still : (old new : Pending) (q : ℕ) → (IsEmpty f old → IsEmpty f new) → Waits f old q → Waits f new q
  waits-still old new q keeps w = record { more = w.more; may = by w.may; less = w.less }
    where
      by : (1 ≤ w.more) ⊎ IsEmpty f old → (1 ≤ w.more) ⊎ IsEmpty f new
      by (inl some) = inl some
      by (inr none) = inr (keeps none)

  waits-more : (old new : Pending) (q : ℕ) → Waits f old q → Waits f new (q + 2)
  waits-more old new q w = record { more = w.more + 1; may = inl (omega arith); less = let less = w.less in omega (arith, less) }

  write-still : (seq : ℕ) (old new : Pending) (q : ℕ) (state : Writing) → (IsEmpty f old → IsEmpty f new) → WriteLeft f seq old q state → WriteLeft f seq new q state
  write-still seq old new q writing.Idle keeps w = waits-still old new q keeps w
  write-still seq old new q (writing.Room file s) keeps (elsewhere apart w) = elsewhere apart (waits-still old new q keeps w)
  write-still seq old new q (writing.Room file s) keeps (of_it here more low few) = of_it here more low few

  write-more : (seq : ℕ) (old new : Pending) (q : ℕ) (state : Writing) → WriteLeft f seq old q state → WriteLeft f (seq + 1) new (q + 2) state
  write-more seq old new q writing.Idle w = waits-more old new q w
  write-more seq old new q (writing.Room file s) (elsewhere apart w) = elsewhere apart (waits-more old new q w)
  write-more seq old new q (writing.Room file s) (of_it here more low few) = of_it here (more + 1) (omega (arith, low)) (omega (arith, few))

  role-still : (S T : List Placed) (x : ℕ) → (Elsewhere x S → Elsewhere x T) → (seq : ℕ) (old new : Pending) (q : ℕ) (r : Role) → (IsEmpty f old → IsEmpty f new) → RoleHolds f S x seq old q r
      → RoleHolds f T x seq new q r
  role-still S T x on seq old new q neither keeps k = tt
  role-still S T x on seq old new q (storing state) keeps k = (write-still seq old new q state keeps k.0, on k.1)
  role-still S T x on seq old new q (own saving) keeps (inl e) = inl (on e)
  role-still S T x on seq old new q (own saving) keeps (inr paid) = inr paid

  role-more : (S T : List Placed) (x : ℕ) → (Elsewhere x S → Elsewhere x T) → (seq : ℕ) (old new : Pending) (q : ℕ) (r : Role) → RoleHolds f S x seq old q r → RoleHolds f T x (seq + 1) new (q + 2) r
  role-more S T x on seq old new q neither k = tt
  role-more S T x on seq old new q (storing state) k = (write-more seq old new q state k.0, on k.1)
  role-more S T x on seq old new q (own saving) (inl e) = inl (on e)
  role-more S T x on seq old new q (own saving) (inr paid) = inr (omega (arith, paid))

  -- ---- a step of one lane

  began-lane : (a b c d : ℕ) (o p : Op) → Began a b o ≡ Began c d p → c ≡ a
  began-lane a b c d o p e = cc

  module _ (h h2 : List Entry) (old new : View) (at number x : ℕ) (op : Op) (state : State) (t : Turns f h h2 old new at number x op state) (runs : Runs h2 number) (least : 1 ≤ number) (most : number ≤ 16)
      (effect : Effect f op old.shelf.seq old.shelf.back new.shelf.seq new.shelf.back) (b : Purse h old) (fresh had more : ℕ) (many_is : many h2 ≡ many h + more) (had_is : had ≤ b.q number + 32 * more)
      (longer : length h ≤ length h2) (held : ℕ) (held_is : held ≤ pots f old b.made)
      (sents : (all : List ℕ) → ((y : ℕ) → In y b.made → In y all) → (i xid : ℕ) (bytes : List ℕ) → At h2 i (Sent bytes) → HasXid bytes xid → Such f bytes → NoneBegan h2 i ⊎ In xid all)
      (calls : Ends f b.made held fresh new) where
    -- the operations in other lanes are others
    other-op : (n z : ℕ) (o : Op) → n ≢ number → UnderWay h n z (length h) o → x ≢ z
    other-op n z o apart u same =
        let there = t.on n z o apart u in
        apart
        (began-lane number t.own.line n there.line op o
        (At-one h2 x (Began number t.own.line op) (Began n there.line o) t.own.began (subst (λ (k : ℕ). At h2 k (Began n there.line o)) (sym same) there.began)))

    early-on : Each (λ (o : Placed). o.0 < length h2) b.stable
    early-on = each-map (λ (o : Placed). o.0 < length h) (λ (o : Placed). o.0 < length h2) (λ o low. omega (arith, low, longer)) b.stable b.early

    -- with one more that makes the file stable, or none
    module _ (T : List Placed) (apart : Apart T) (each : Each (StableOf terms H f) T) (early : Each (λ (o : Placed). o.0 < length h2) T) (joined : ℕ) (long : length T ≡ length b.stable + joined)
        (on : (z : ℕ) → x ≢ z → Elsewhere z b.stable → Elsewhere z T) (left : ℕ) (holds : (m : Machine) → state ≡ Busy m → Holds f T x new.shelf.seq new.shelf.back left m) where
      still : (left + fresh ≤ had + 2 * joined) → new.shelf.seq ≡ old.shelf.seq → (IsEmpty f old.shelf.back → IsEmpty f new.shelf.back) → Purse h2 new
      still few seq keeps = record {
        made = calls.all;
        waiting = calls.waiting;
        sents = sents calls.all calls.more;
        stable = T;
        apart = apart;
        each = each;
        early = early;
        q = sets number left 0 b.q;
        story = story-turns f h h2 old new at number x op state t runs
            (λ n z machine o. Holds f b.stable z old.shelf.seq old.shelf.back (b.q n) machine)
            (λ n z machine o. Holds f T z new.shelf.seq new.shelf.back (sets number left 0 b.q n) machine)
            (λ machine is. subst (λ (k : ℕ). Holds f T x new.shelf.seq new.shelf.back k machine) (sym (sets-here number left 0 b.q number refl)) (holds machine is))
            (λ n z machine o off u k.
            subst (λ (p : ℕ). Holds f T z new.shelf.seq new.shelf.back p machine) (sym (sets-other number left 0 b.q n off ∙ zero_more (b.q n)))
            (subst (λ (s : ℕ). Holds f T z s new.shelf.back (b.q n) machine) (sym seq)
            (role-still b.stable T z (on z (other-op n z o off u)) old.shelf.seq old.shelf.back new.shelf.back (b.q n) (role_of machine) keeps k)))
            b.story;
        fits =
            let sum = sixteen-sets number left b.q least most in
            let total_now = calls.fits in
            let before = b.fits in
            omega (arith, sum, total_now, before, few, many_is, had_is, held_is, long);
      }
        where
          zero_more : (n : ℕ) → n + 0 ≡ n
          zero_more n = omega arith

      added : (left + fresh + 30 ≤ had + 2 * joined) → new.shelf.seq ≡ old.shelf.seq + 1 → Purse h2 new
      added few seq = record {
        made = calls.all;
        waiting = calls.waiting;
        sents = sents calls.all calls.more;
        stable = T;
        apart = apart;
        each = each;
        early = early;
        q = sets number left 2 b.q;
        story = story-turns f h h2 old new at number x op state t runs
            (λ n z machine o. Holds f b.stable z old.shelf.seq old.shelf.back (b.q n) machine)
            (λ n z machine o. Holds f T z new.shelf.seq new.shelf.back (sets number left 2 b.q n) machine)
            (λ machine is. subst (λ (k : ℕ). Holds f T x new.shelf.seq new.shelf.back k machine) (sym (sets-here number left 2 b.q number refl)) (holds machine is))
            (λ n z machine o off u k.
            subst (λ (p : ℕ). Holds f T z new.shelf.seq new.shelf.back p machine) (sym (sets-other number left 2 b.q n off))
            (subst (λ (s : ℕ). Holds f T z s new.shelf.back (b.q n + 2) machine) (sym seq)
            (role-more b.stable T z (on z (other-op n z o off u)) old.shelf.seq old.shelf.back new.shelf.back (b.q n) (role_of machine) k)))
            b.story;
        fits =
            let sum = sixteen-more number left b.q least most in
            let total_now = calls.fits in
            let before = b.fits in
            omega (arith, sum, total_now, before, few, many_is, had_is, held_is, long);
      }

      -- by what the step did
      pub by-effect : (left + fresh ≤ had + 2 * joined) → (IsWriter op → (new.shelf.seq ≡ old.shelf.seq) ⊎ (left + fresh + 30 ≤ had + 2 * joined)) → Purse h2 new
      by-effect few adds = by effect
        where
          by : Effect f op old.shelf.seq old.shelf.back new.shelf.seq new.shelf.back → Purse h2 new
          by (inl same) = still few same.0 same.1
          by (inr more_) = writes more_.0 (adds more_.1)
            where
              writes : new.shelf.seq ≡ old.shelf.seq + 1 → (new.shelf.seq ≡ old.shelf.seq) ⊎ (left + fresh + 30 ≤ had + 2 * joined) → Purse h2 new
              writes up (inl same) = absurd (omega (arith, up, same))
              writes up (inr enough) = added enough up

    -- the lane has so much left, and those of its own file are as they were
    pub plain-end : (left : ℕ) → ((m : Machine) → state ≡ Busy m → Holds f b.stable x new.shelf.seq new.shelf.back left m) → left + fresh ≤ had
        → (IsWriter op → (new.shelf.seq ≡ old.shelf.seq) ⊎ (left + fresh + 30 ≤ had)) → Purse h2 new
    plain-end left holds few adds = by-effect b.stable b.apart b.each early-on 0 (omega arith) (λ z off e. e) left holds (omega (arith, few)) (λ w. by (adds w))
      where
        by : (new.shelf.seq ≡ old.shelf.seq) ⊎ (left + fresh + 30 ≤ had) → (new.shelf.seq ≡ old.shelf.seq) ⊎ (left + fresh + 30 ≤ had + 2 * 0)
        by (inl same) = inl same
        by (inr enough) = inr (omega (arith, enough))

    -- it makes its first COMMIT of its own file
    pub joins-end : StableOf terms H f (x, op) → Elsewhere x b.stable → x < length h2 → (left : ℕ) → ((m : Machine) → state ≡ Busy m → OwnLeft f left (role_of m)) → left + fresh ≤ 2
        → (IsWriter op → (new.shelf.seq ≡ old.shelf.seq) ⊎ (30 ≤ had)) → Purse h2 new
    joins-end stable off low left holds few adds =
        by-effect ((x, op) ∷ b.stable) (off, b.apart) (stable, b.each) (low, early-on) 1 (omega arith) (λ z apart e. (apart, e)) left
        (λ m is. paid (role_of m) (holds m is)) (omega (arith, few)) (λ w. by (adds w))
      where
        paid : (r : Role) → OwnLeft f left r → RoleHolds f ((x, op) ∷ b.stable) x new.shelf.seq new.shelf.back left r
        paid neither k = tt
        paid (storing s) k = absurd k
        paid (own s) k = inr k

        by : (new.shelf.seq ≡ old.shelf.seq) ⊎ (30 ≤ had) → (new.shelf.seq ≡ old.shelf.seq) ⊎ (left + fresh + 30 ≤ had + 2 * 1)
        by (inl same) = inl same
        by (inr enough) = inr (omega (arith, enough, few))
