-- What a step of an operation leaves it of the COMMITs of a file, by what it was about.
use Rattle.core_counts.proofs.Prelude.{◌≡◌, ◌≤◌, ◌⊎◌, inl, inr, ◌+◌, ℕ, Bool, true, false, List, Some, None, Result, Err, refl, sym, ap, subst, ◌∙◌, arith, Pending, Placed, IsWriter, IsCommitOf, Fault, Call, Reply, Op, Step, Repeat, Shelf, Turn, Closing, Putting, Saving, Syncing, Writing, machine_of, file_of, Starts, Resumes, Takes, Mounted, Machine, Opener, in_flight, Going, commits_of, Asks, Elsewhere, job_save, job_kind}
use Rattle.core_answers.proofs.writes.AllFits.{commits_path}
use Rattle.claims.specs.Asks as asks
use Rattle.world_model.specs.declared.op.Op.TheVariants as ops
use Rattle.client_shelf.specs.declared.step.Step.TheVariants as nexts
use Rattle.file_ops.specs.declared.close_file.Closing.TheVariants as closing
use Rattle.file_ops.specs.declared.put_file.Putting.TheVariants as putting
use Rattle.file_ops.specs.declared.saving.Phase.{Phase}
use Rattle.file_ops.specs.declared.saving.Phase.TheVariants as phases
use Rattle.file_ops.specs.declared.sync_file.Syncing.TheVariants as syncing
use Rattle.file_ops.specs.declared.write_file.Writing.TheVariants as writing
use Rattle.op_machines.specs.declared.file_machine.FileMachine.TheVariants as files
use Rattle.op_machines.specs.declared.machine.Machine.TheVariants as machines
use Rattle.op_machines.specs.declared.opener.Opener.TheVariants as openers
use Rattle.core_answers.proofs.paths.Endings.{takes-not}
use Rattle.core_answers.proofs.writes.CallFits.{commits_put, commits_write}
use Rattle.core_counts.proofs.counts.commits.Saves.{left_to, left_in}
use Rattle.core_counts.proofs.counts.rooms.Owns.{asks-commits, all-owns, all-own-takes, Begun, all-begun}
use Rattle.core_counts.proofs.counts.rooms.Roles.{Role, neither, storing, own, sync_role, close_role, put_role, path_role, role_of, as-going, done-none, StoreLeft, OwnLeft, OwnStep, StoreStep, stays, early, over, settles, all-stores, all-takes, AllEnds, PathEnds, PutEnds}
use Rattle.core_counts.proofs.counts.rooms.Writes.{WriteLeft, elsewhere, of_it, RoomEnds, EndsAbove, NotAgain}

-- ---- roles

pub left-few : (s : Saving) → left_to s ≤ 2
left-few s = by s.phase
  where
    by : (p : Phase) → left_in p ≤ 2
    by phases.Sending = omega arith
    by phases.Committing = omega arith
    by phases.Resending = omega arith
    by phases.CommittingAgain = omega arith

storing-is : (a b : Writing) → storing a ≡ storing b → a ≡ b
storing-is a b e = cc

-- while it finds its file, it waits for no COMMIT
put-idle : (at : Putting) (write : Writing) → put_role at write ≡ storing writing.Idle → commits_put at write ≡ None
put-idle putting.Idle write is = refl
put-idle putting.Opens write is = refl
put-idle (putting.Adds file) write is = ap commits_write (storing-is write writing.Idle is)
put-idle (putting.Saves s) write is = absurd (cc)

sync-idle : {X : Type 0} → (at : Syncing) → sync_role at ≡ storing writing.Idle → X
sync-idle syncing.Idle is = absurd (cc)
sync-idle (syncing.Saves s) is = absurd (cc)

close-idle : {X : Type 0} → (at : Closing) → close_role at ≡ storing writing.Idle → X
close-idle closing.Idle is = absurd (cc)
close-idle (closing.Queued s) is = absurd (cc)
close-idle (closing.Saves s) is = absurd (cc)
close-idle (closing.ToRemove removal) is = absurd (cc)
close-idle (closing.Removing removal) is = absurd (cc)

path-idle : (b : Bool) (o : Opener) → path_role b o ≡ storing writing.Idle → commits_path b o ≡ None
path-idle false o k = refl
path-idle true (openers.Put p) k = put-idle p.state p.write.state k
path-idle true (openers.Open p) k = absurd (cc)

idle-none : (m : Machine) → role_of m ≡ storing writing.Idle → commits_of m ≡ None
idle-none (machines.File (files.Write m)) is = ap commits_write (storing-is m.state writing.Idle is)
idle-none (machines.File (files.Put m)) is = put-idle m.state m.write.state is
idle-none (machines.File (files.Sync m)) is = sync-idle m.state is
idle-none (machines.File (files.Close m)) is = close-idle m.state is
idle-none (machines.File (files.Open m)) is = absurd (cc)
idle-none (machines.File (files.Read m)) is = absurd (cc)
idle-none (machines.File (files.Truncate m)) is = absurd (cc)
idle-none (machines.Path m) is = path-idle m.arrived m.opener is
idle-none (machines.Name m) is = absurd (cc)

-- ---- the save by which it makes room ends

module _ (f : List ℕ) (wsize : ℕ) (sent turn : Turn) (came : Result Reply Fault) (old : Shelf) where
  room-ends : (w : Writing) → ((s : Saving) (file : List ℕ) → w ≡ writing.Room file s → f ≡ s.file → EndsAbove f wsize sent turn came old s) → RoomEnds f wsize sent turn came old w
  room-ends writing.Idle e = tt
  room-ends (writing.Room file s) e = e s file refl

  -- where that of its machine ends so
  pub ends-all : (m : Machine) → ((s : Saving) → job_save m ≡ Some s → f ≡ s.file → EndsAbove f wsize sent turn came old s) → AllEnds f wsize sent turn came old m
  ends-all (machines.File (files.Write m)) e = by m.state e
    where
      by : (w : Writing) → ((s : Saving) → job_save (machines.File (files.Write (record m { state = w }))) ≡ Some s → f ≡ s.file → EndsAbove f wsize sent turn came old s) → RoomEnds f wsize sent turn came old w
      by writing.Idle k = tt
      by (writing.Room file s) k = k s refl
  ends-all (machines.File (files.Put m)) e = put-ends m.state m.write.state e
    where
      put-ends : (at : Putting) (w : Writing)
          → ((s : Saving) → job_save (machines.File (files.Put (record m { state = at; write = record m.write { state = w } }))) ≡ Some s → f ≡ s.file → EndsAbove f wsize sent turn came old s)
          → PutEnds f wsize sent turn came old at w
      put-ends putting.Idle w k = tt
      put-ends putting.Opens w k = tt
      put-ends (putting.Adds file) writing.Idle k = tt
      put-ends (putting.Adds file) (writing.Room g s) k = k s refl
      put-ends (putting.Saves s) w k = tt
  ends-all (machines.File (files.Sync m)) e = tt
  ends-all (machines.File (files.Close m)) e = tt
  ends-all (machines.File (files.Open m)) e = tt
  ends-all (machines.File (files.Read m)) e = tt
  ends-all (machines.File (files.Truncate m)) e = tt
  ends-all (machines.Path m) e = by m.arrived m.opener e
    where
      put-ends : (at : Putting) (w : Writing) (p : _)
          → ((s : Saving) → job_save (machines.File (files.Put (record p { state = at; write = record p.write { state = w } }))) ≡ Some s → f ≡ s.file → EndsAbove f wsize sent turn came old s)
          → PutEnds f wsize sent turn came old at w
      put-ends putting.Idle w p k = tt
      put-ends putting.Opens w p k = tt
      put-ends (putting.Adds file) writing.Idle p k = tt
      put-ends (putting.Adds file) (writing.Room g s) p k = k s refl
      put-ends (putting.Saves s) w p k = tt

      by : (b : Bool) (o : Opener) → ((s : Saving) → job_save (machines.Path (record m { arrived = b; opener = o })) ≡ Some s → f ≡ s.file → EndsAbove f wsize sent turn came old s)
          → PathEnds f b wsize sent turn came old o
      by false o k = tt
      by true (openers.Open p) k = tt
      by true (openers.Put p) k = put-ends p.state p.write.state p k
  ends-all (machines.Name m) e = tt

-- where a call isn't made, it doesn't end well
pub ends-unmade : (f : List ℕ) (wsize : ℕ) (sent turn : Turn) (fault : Fault) (old : Shelf) (m : Machine) → AllEnds f wsize sent turn (Err fault) old m
ends-unmade f wsize sent turn fault old m =
    ends-all f wsize sent turn (Err fault) old m (λ s is same repeats later new after t. absurd (takes-not wsize sent turn fault repeats s old.back _ new after later t))

-- ---- what is left

module _ (f : List ℕ) (S : List Placed) (x : ℕ) where
  -- Before its first COMMIT a save of its own file is none of those that are counted.
  abbrev pub RoleHolds : ℕ → Pending → ℕ → Role → Type 0
  RoleHolds seq back q neither = Unit {0}
  RoleHolds seq back q (storing state) = WriteLeft f seq back q state × Elsewhere x S
  RoleHolds seq back q (own saving) = Elsewhere x S ⊎ (left_to saving ≤ q)

  abbrev pub Holds : ℕ → Pending → ℕ → Machine → Type 0
  Holds seq back q m = RoleHolds seq back q (role_of m)

  -- a COMMIT is made: it had one left; or it is the first one of its own file
  pub data Paid (op : Op) (q : ℕ) (old after : Shelf) (to : Role) : Type 0 where
    pays : (left : ℕ) → RoleHolds after.seq after.back left to → left + 1 ≤ q → (IsWriter op → (after.seq ≡ old.seq)) → Paid op q old after to
    joins : (left : ℕ) → Elsewhere x S → OwnLeft f left to → left + 1 ≤ 2 → (IsWriter op → (after.seq ≡ old.seq) ⊎ (30 ≤ q)) → Paid op q old after to

  -- what a step leaves, before its call is made
  pub record Post (F : List Repeat → Type 0) (op : Op) (q : ℕ) (old after : Shelf) (next : Step) (new : Machine) : Type 0 where
    pub left : ℕ
    pub holds : Going next (Holds after.seq after.back left new)
    pub less : left ≤ q
    pub adds : IsWriter op → (after.seq ≡ old.seq) ⊎ (left + 30 ≤ q)
    pub made : (call : Call) → next ≡ nexts.Send call → IsCommitOf f call → F after.repeats → Paid op q old after (role_of new)

  own-paid : (seq left : ℕ) (back : Pending) (to : Role) → OwnLeft f left to → RoleHolds seq back left to
  own-paid seq left back neither k = tt
  own-paid seq left back (storing state) k = absurd k
  own-paid seq left back (own saving) k = inr k

  own-unpaid : (seq q left : ℕ) (back : Pending) (to : Role) → Elsewhere x S → OwnLeft f left to → RoleHolds seq back q to
  own-unpaid seq q left back neither e k = tt
  own-unpaid seq q left back (storing state) e k = absurd k
  own-unpaid seq q left back (own saving) e k = inl e

  going-map : (next : Step) (P R : Type 0) → (P → R) → Going next P → Going next R
  going-map (nexts.Send call) P R f_ p = f_ p
  going-map nexts.Wait P R f_ p = f_ p
  going-map (nexts.Done answer) P R f_ p = tt

  sent-going : (next : Step) (call : Call) (P : Type 0) → next ≡ nexts.Send call → Going next P → P
  sent-going next call P is g = subst (λ (n : Step). Going n P) is g

  -- of its own file, with so many left
  paid-post : (F : List Repeat → Type 0) (op : Op) (q : ℕ) (old after : Shelf) (next : Step) (new : Machine) → (IsWriter op → after.seq ≡ old.seq) → OwnStep f F q after next (role_of new)
      → Post F op q old after next new
  paid-post F op q old after next new same s = record {
    left = s.left;
    holds = going-map next (OwnLeft f s.left (role_of new)) (Holds after.seq after.back s.left new) (own-paid after.seq s.left after.back (role_of new)) s.keeps;
    less = s.less;
    adds = λ w. inl (same w);
    made = λ call sends p fresh.
        pays s.left (own-paid after.seq s.left after.back (role_of new) (sent-going next call (OwnLeft f s.left (role_of new)) sends s.keeps)) (s.asks call sends p fresh) same;
  }

  -- before its first COMMIT
  unpaid-post : (F : List Repeat → Type 0) (op : Op) (q : ℕ) (old after : Shelf) (next : Step) (new : Machine) → (IsWriter op → (after.seq ≡ old.seq) ⊎ (30 ≤ q)) → Elsewhere x S
      → OwnStep f F 2 after next (role_of new) → Post F op q old after next new
  unpaid-post F op q old after next new same e s = record {
    left = 0;
    holds = going-map next (OwnLeft f s.left (role_of new)) (Holds after.seq after.back 0 new) (own-unpaid after.seq 0 s.left after.back (role_of new) e) s.keeps;
    less = omega arith;
    adds = λ w. by (same w);
    made = λ call sends p fresh. joins s.left e (sent-going next call (OwnLeft f s.left (role_of new)) sends s.keeps) (s.asks call sends p fresh) same;
  }
    where
      by : (after.seq ≡ old.seq) ⊎ (30 ≤ q) → (after.seq ≡ old.seq) ⊎ (0 + 30 ≤ q)
      by (inl is) = inl is
      by (inr some) = inr (omega (arith, some))

  -- one that writes has 30 for the others
  pub reserve : (seq q : ℕ) (back : Pending) (state : Writing) → WriteLeft f seq back q state → 30 ≤ q
  reserve seq q back writing.Idle w = let less = w.less in omega (arith, less)
  reserve seq q back (writing.Room file s) (elsewhere apart w) = let less = w.less in omega (arith, less)
  reserve seq q back (writing.Room file s) (of_it here more low few) = omega (arith, few)

  store-holds : (seq q : ℕ) (back : Pending) (to : Role) → Elsewhere x S → StoreLeft f seq back q to → RoleHolds seq back q to
  store-holds seq q back neither e k = absurd k
  store-holds seq q back (storing state) e k = (k, e)
  store-holds seq q back (own saving) e k = absurd k

  store-post : (F : List Repeat → Type 0) (op : Op) (q : ℕ) (old after : Shelf) (next : Step) (new : Machine) → 30 ≤ q → Elsewhere x S → Asks next new → StoreStep f F q old after next (role_of new)
      → Post F op q old after next new
  store-post F op q old after next new some e a (stays s) = record {
    left = s.left;
    holds = as-going next (Holds after.seq after.back s.left new) (store-holds after.seq s.left after.back (role_of new) e s.holds);
    less = s.less;
    adds = λ w. inl s.seq;
    made = λ call sends p fresh. pays s.left (store-holds after.seq s.left after.back (role_of new) e s.holds) (s.asks call sends p fresh) (λ w. s.seq);
  }
  store-post F op q old after next new some e a (early going same is k) = record {
    left = q;
    holds = as-going next (Holds after.seq after.back q new) (subst (RoleHolds after.seq after.back q) (sym is) (k, e));
    less = omega arith;
    adds = λ w. inl same;
    made = λ call sends p fresh. absurd (let no_way : None ≡ Some f = sym (idle-none new is) ∙ asks-commits f next new call a sends p in cc);
  }
  store-post F op q old after next new some e a (over answer is) = record {
    left = 0;
    holds = subst (λ (n : Step). Going n (Holds after.seq after.back 0 new)) (sym is) tt;
    less = omega arith;
    adds = λ w. inr (omega (arith, some));
    made = λ call sends p fresh. done-none next answer call is sends;
  }
  store-post F op q old after next new some e a (settles s) = unpaid-post F op q old after next new (λ w. inr some) e s

  -- ---- one that writes by its machine

  -- its machine is that of its operation: a write's stores, and a put's stores or saves its own file
  abbrev pub KindOf : Mounted → ℕ → Op → Machine → Type 0
  KindOf mt number op m = job_kind m ≡ job_kind (machine_of mt number op)

  writer-kind : (mt : Mounted) (number : ℕ) (op : Op) → IsWriter op → (job_kind (machine_of mt number op) ≡ 1) ⊎ (job_kind (machine_of mt number op) ≡ 3)
  writer-kind mt number op (asks.write slot offset bytes is) = rw is (inl refl)
  writer-kind mt number op (asks.fill slot offset count byte is) = rw is (inl refl)
  writer-kind mt number op (asks.put path offset bytes is) = rw is (inr refl)

  -- one that neither stores nor saves is no write
  pub kind-neither : {X : Type 0} → (m : Machine) (k : ℕ) → role_of m ≡ neither → job_kind m ≡ k → (k ≡ 1) ⊎ (k ≡ 3) → X
  kind-neither m k is kind which = absurd (by m is kind which)
    where
      put-none : (at : Putting) (w : Writing) → put_role at w ≡ neither → ⊥
      put-none putting.Idle w e = cc
      put-none putting.Opens w e = cc
      put-none (putting.Adds file) w e = cc
      put-none (putting.Saves s) w e = cc

      other : (n : ℕ) → n ≡ k → (k ≡ 1) ⊎ (k ≡ 3) → (n ≡ 1) ⊎ (n ≡ 3)
      other n same (inl e) = inl (same ∙ e)
      other n same (inr e) = inr (same ∙ e)

      two-not : (n : ℕ) → (n ≡ 0) ⊎ (n ≡ 2) ⊎ (n ≡ 5) → (n ≡ 1) ⊎ (n ≡ 3) → ⊥
      two-not n (inl a) (inl b) = omega (arith, a, b)
      two-not n (inl a) (inr b) = omega (arith, a, b)
      two-not n (inr (inl a)) (inl b) = omega (arith, a, b)
      two-not n (inr (inl a)) (inr b) = omega (arith, a, b)
      two-not n (inr (inr a)) (inl b) = omega (arith, a, b)
      two-not n (inr (inr a)) (inr b) = omega (arith, a, b)

      path : (b : Bool) (o : Opener) → path_role b o ≡ neither → (file_kind_of : ℕ) → job_kind (machines.File (file_of o)) ≡ file_kind_of → (file_kind_of ≡ 1) ⊎ (file_kind_of ≡ 3) → ⊥
      path b (openers.Open p) e n kind_is w = two-not n (inl (sym kind_is)) w
      path true (openers.Put p) e n kind_is w = put-none p.state p.write.state e
      path false (openers.Put p) e n kind_is w = cc

      by : (m : Machine) → role_of m ≡ neither → job_kind m ≡ k → (k ≡ 1) ⊎ (k ≡ 3) → ⊥
      by (machines.File (files.Open m)) e same w = two-not 0 (inl refl) (other 0 same w)
      by (machines.File (files.Read m)) e same w = two-not 0 (inl refl) (other 0 same w)
      by (machines.File (files.Truncate m)) e same w = two-not 0 (inl refl) (other 0 same w)
      by (machines.File (files.Sync m)) e same w = two-not 2 (inr (inl refl)) (other 2 same w)
      by (machines.File (files.Close m)) e same w = two-not 5 (inr (inr refl)) (other 5 same w)
      by (machines.File (files.Write m)) e same w = cc
      by (machines.File (files.Put m)) e same w = put-none m.state m.write.state e
      by (machines.Path m) e same w = path m.arrived m.opener e k same w
      by (machines.Name m) e same w = two-not 0 (inl refl) (other 0 same w)

  -- one that saves its own file is a put, if it writes
  pub kind-own : (m : Machine) (s : Saving) → role_of m ≡ own s → job_kind m ≡ 1 → ⊥
  kind-own (machines.File (files.Write m)) s is kind = cc
  kind-own (machines.File (files.Sync m)) s is kind = omega (arith, kind)
  kind-own (machines.File (files.Close m)) s is kind = omega (arith, kind)
  kind-own (machines.File (files.Put m)) s is kind = omega (arith, kind)
  kind-own (machines.File (files.Open m)) s is kind = omega (arith, kind)
  kind-own (machines.File (files.Read m)) s is kind = omega (arith, kind)
  kind-own (machines.File (files.Truncate m)) s is kind = omega (arith, kind)
  kind-own (machines.Path m) s is kind = by m.opener kind
    where
      by : (o : Opener) → job_kind (machines.File (file_of o)) ≡ 1 → ⊥
      by (openers.Open p) e = omega (arith, e)
      by (openers.Put p) e = omega (arith, e)
  kind-own (machines.Name m) s is kind = omega (arith, kind)

  module _ (mt : Mounted) (number : ℕ) (op : Op) (m : Machine) (kind : KindOf mt number op m) where
    neither-writes : {X : Type 0} → role_of m ≡ neither → IsWriter op → X
    neither-writes is w = kind-neither m (job_kind (machine_of mt number op)) is kind (writer-kind mt number op w)

    own-writes : (X : Type 0) → (s : Saving) → role_of m ≡ own s → (job_kind m ≡ 3 → X) → IsWriter op → X
    own-writes X s is then_ w = by (writer-kind mt number op w)
      where
        by : (job_kind (machine_of mt number op) ≡ 1) ⊎ (job_kind (machine_of mt number op) ≡ 3) → X
        by (inl one) = absurd (kind-own m s is (kind ∙ one))
        by (inr three) = then_ (kind ∙ three)

    pub resumes-post : (F : List Repeat → Type 0) (wsize : ℕ) (turn : Turn) (old : Shelf) (next : Step) (new : Machine) (after : Shelf) (q : ℕ) → Holds old.seq old.back q m → Asks next new
        → Resumes wsize m turn old next new after → Post F op q old after next new
    resumes-post F wsize turn old next new after q k a s = by (role_of m) refl k
      where
        by : (r : Role) → role_of m ≡ r → RoleHolds old.seq old.back q r → Post F op q old after next new
        by neither is h =
            paid-post F op q old after next new (λ w. neither-writes is w) (all-owns f F m wsize turn old next new after q (subst (OwnLeft f q) (sym is) tt) a s).step
        by (storing state) is h =
            store-post F op q old after next new (reserve old.seq q old.back state h.0) h.1 a
            (all-stores f F m wsize turn old next new after q (subst (StoreLeft f old.seq old.back q) (sym is) h.0) s)
        by (own saving) is (inl e) =
            let o = all-owns f F m wsize turn old next new after 2 (subst (OwnLeft f 2) (sym is) (left-few saving)) a s in
            unpaid-post F op q old after next new (λ w. inl (own-writes (after.seq ≡ old.seq) saving is o.seq w)) e o.step
        by (own saving) is (inr paid) =
            let o = all-owns f F m wsize turn old next new after q (subst (OwnLeft f q) (sym is) paid) a s in
            paid-post F op q old after next new (own-writes (after.seq ≡ old.seq) saving is o.seq) o.step

    pub takes-post : (wsize : ℕ) (sent turn : Turn) (came : Result Reply Fault) (old : Shelf) (next : Step) (new : Machine) (after : Shelf) (q : ℕ) → 1 ≤ in_flight m → AllEnds f wsize sent turn came old m
        → Holds old.seq old.back q m → Asks next new → Takes wsize m sent turn came old next new after → Post (NotAgain f sent old.repeats) op q old after next new
    takes-post wsize sent turn came old next new after q some ends k a s = by (role_of m) refl k
      where
        F : List Repeat → Type 0
        F rs = NotAgain f sent old.repeats rs

        by : (r : Role) → role_of m ≡ r → RoleHolds old.seq old.back q r → Post (NotAgain f sent old.repeats) op q old after next new
        by neither is h =
            paid-post (NotAgain f sent old.repeats) op q old after next new (λ w. neither-writes is w)
            (all-own-takes f m wsize sent turn came old next new after q some (subst (OwnLeft f q) (sym is) tt) a s).step
        by (storing state) is h =
            store-post (NotAgain f sent old.repeats) op q old after next new (reserve old.seq q old.back state h.0) h.1 a
            (all-takes f m wsize sent turn came old next new after q ends (subst (StoreLeft f old.seq old.back q) (sym is) h.0) s)
        by (own saving) is (inl e) =
            let o = all-own-takes f m wsize sent turn came old next new after 2 some (subst (OwnLeft f 2) (sym is) (left-few saving)) a s in
            unpaid-post (NotAgain f sent old.repeats) op q old after next new (λ w. inl (own-writes (after.seq ≡ old.seq) saving is o.seq w)) e o.step
        by (own saving) is (inr paid) =
            let o = all-own-takes f m wsize sent turn came old next new after q some (subst (OwnLeft f q) (sym is) paid) a s in
            paid-post (NotAgain f sent old.repeats) op q old after next new (own-writes (after.seq ≡ old.seq) saving is o.seq) o.step

  -- ---- one that begins

  -- what a write, fill or put has at first
  abbrev pub first_of : Op → ℕ
  first_of (ops.Write slot offset bytes) = 32
  first_of (ops.Fill slot offset count byte) = 32
  first_of (ops.Put path offset bytes) = 32
  first_of op = 0

  none-writes : {X : Type 0} → (op : Op) → first_of op ≡ 0 → IsWriter op → X
  none-writes op none (asks.write slot offset bytes is) = absurd (let e : 32 ≡ 0 = ap first_of (sym is) ∙ none in omega (arith, e))
  none-writes op none (asks.fill slot offset count byte is) = absurd (let e : 32 ≡ 0 = ap first_of (sym is) ∙ none in omega (arith, e))
  none-writes op none (asks.put path offset bytes is) = absurd (let e : 32 ≡ 0 = ap first_of (sym is) ∙ none in omega (arith, e))

  pub starts-post : (F : List Repeat → Type 0) (mt : Mounted) (lane : ℕ) (op : Op) (wsize : ℕ) (turn : Turn) (old : Shelf) (next : Step) (new : Machine) (after : Shelf) → Elsewhere x S → Asks next new
      → Starts wsize (machine_of mt lane op) turn old next new after → Post F op (first_of op) old after next new
  starts-post F mt lane op wsize turn old next new after e a s = by op (all-begun f F mt lane wsize turn old next new after a op s)
    where
      by : (o : Op) → Begun f F old after next new o → Post F o (first_of o) old after next new
      by (ops.Write slot offset bytes) k = store-post F (ops.Write slot offset bytes) 32 old after next new (omega arith) e a k
      by (ops.Fill slot offset count byte) k = store-post F (ops.Fill slot offset count byte) 32 old after next new (omega arith) e a k
      by (ops.Put path offset bytes) k = store-post F (ops.Put path offset bytes) 32 old after next new (omega arith) e a k
      by (ops.Sync slot) k = unpaid-post F (ops.Sync slot) 0 old after next new (none-writes (ops.Sync slot) refl) e k
      by (ops.Close slot) k = unpaid-post F (ops.Close slot) 0 old after next new (none-writes (ops.Close slot) refl) e k
      by (ops.OpenFile slot mode path) k = unpaid-post F (ops.OpenFile slot mode path) 0 old after next new (none-writes (ops.OpenFile slot mode path) refl) e k
      by (ops.Read slot offset count) k = unpaid-post F (ops.Read slot offset count) 0 old after next new (none-writes (ops.Read slot offset count) refl) e k
      by (ops.Truncate slot size) k = unpaid-post F (ops.Truncate slot size) 0 old after next new (none-writes (ops.Truncate slot size) refl) e k
      by (ops.Stat path) k = unpaid-post F (ops.Stat path) 0 old after next new (none-writes (ops.Stat path) refl) e k
      by (ops.Access path bits) k = unpaid-post F (ops.Access path bits) 0 old after next new (none-writes (ops.Access path bits) refl) e k
      by (ops.ReadLink path) k = unpaid-post F (ops.ReadLink path) 0 old after next new (none-writes (ops.ReadLink path) refl) e k
      by (ops.MakeDir path) k = unpaid-post F (ops.MakeDir path) 0 old after next new (none-writes (ops.MakeDir path) refl) e k
      by (ops.RemoveDir path) k = unpaid-post F (ops.RemoveDir path) 0 old after next new (none-writes (ops.RemoveDir path) refl) e k
      by (ops.Remove path) k = unpaid-post F (ops.Remove path) 0 old after next new (none-writes (ops.Remove path) refl) e k
      by (ops.Rename from to) k = unpaid-post F (ops.Rename from to) 0 old after next new (none-writes (ops.Rename from to) refl) e k
      by (ops.Link from to) k = unpaid-post F (ops.Link from to) 0 old after next new (none-writes (ops.Link from to) refl) e k
      by (ops.SymLink path target) k = unpaid-post F (ops.SymLink path target) 0 old after next new (none-writes (ops.SymLink path target) refl) e k
      by (ops.List path) k = unpaid-post F (ops.List path) 0 old after next new (none-writes (ops.List path) refl) e k
