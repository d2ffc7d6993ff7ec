-- The steps of a save of an operation's own file, a sync's, a close's or a put's: it asks for two COMMITs at most. And how each operation begins.
use Rattle.core_counts.proofs.Prelude.{◌≡◌, ◌≤◌, inl, ◌-◌, ℕ, Bool, true, false, List, Some, None, Result, refl, sym, ap, subst, ◌∙◌, arith, Pending, IsCommitOf, commit, Fault, Call, Reply, Op, ended, is_first, Step, Repeat, Shelf, Turn, file_at, Closing, PutFile, Putting, Saving, Syncing, by-step, machine_of, put_of, front_of, last_of, file_of, begun_at, Starts, Resumes, Takes, Mounted, FileMachine, Machine, Opener, PathMachine, in_flight, Going, commits_of, Asks, job_kind, take-kind}
use Rattle.core_session.proofs.syncs.Fates.{start-kind, resume-kind}
use Rattle.world_model.specs.declared.op.Op.TheVariants as ops
use Rattle.client_shelf.specs.declared.step.Step.TheVariants as nexts
use Rattle.file_ops.specs.PutFile as puts
use Rattle.file_ops.specs.Syncs as syncs
use Rattle.file_ops.specs.declared.close_file.Closing.TheVariants as closing
use Rattle.file_ops.specs.declared.put_file.Putting.TheVariants as putting
use Rattle.file_ops.specs.declared.sync_file.Syncing.TheVariants as syncing
use Rattle.name_ops.specs.Pairs.{walk_of}
use Rattle.op_machines.specs.FileSteps as steps
use Rattle.op_machines.specs.PathSteps as paths
use Rattle.op_machines.specs.declared.file_machine.FileMachine.TheVariants as files
use Rattle.op_machines.specs.declared.machine.Machine.TheVariants as machines
use Rattle.op_machines.specs.declared.opener.Opener.TheVariants as openers
use Rattle.core_answers.specs.writes.Alone.{committed_file}
use Rattle.core_counts.proofs.counts.commits.Laws.{MachineLeft, machine-resumes, machine-takes}
use Rattle.core_counts.proofs.counts.commits.Machines.{StepIs, Taken, repeats, goes, SyncLeft, CloseLeft, sync-starts, close-starts}
use Rattle.core_counts.proofs.counts.commits.Saves.{Took, again, on, takes-took}
use Rattle.core_counts.proofs.counts.engine.Steps.{one-longer}
use Rattle.core_counts.proofs.counts.rooms.Roles.{Role, neither, storing, sync_role, close_role, put_role, file_role, path_role, role_of, as-going, OwnLeft, OwnStep, StoreStep, put-follows, put-queues, follows-seq, queues-seq, path-stores, store-to, write-store}
use Rattle.core_counts.proofs.counts.rooms.Writes.{Waits, NotAgain, write-starts}

-- ---- which operations ask for no COMMIT

pub record IsQuiet (m : Machine) : Type 0 where
  pub role : role_of m ≡ neither
  pub none : commits_of m ≡ None

path-quiet : (b : Bool) (o : Opener) (m : PathMachine) → m.arrived ≡ b → m.opener ≡ o → job_kind (machines.Path m) ≡ 0 → IsQuiet (machines.Path m)
path-quiet true (openers.Open o) m there is kind = rw (there, is) (record { role = refl; none = refl })
path-quiet false (openers.Open o) m there is kind = rw (there, is) (record { role = refl; none = refl })
path-quiet b (openers.Put o) m there is kind = absurd (let no_way : 3 ≡ 0 = (rw is at kind) in omega (arith, no_way))

pub kind-quiet : (m : Machine) → job_kind m ≡ 0 → IsQuiet m
kind-quiet (machines.File (files.Open m)) kind = record { role = refl; none = refl }
kind-quiet (machines.File (files.Read m)) kind = record { role = refl; none = refl }
kind-quiet (machines.File (files.Truncate m)) kind = record { role = refl; none = refl }
kind-quiet (machines.File (files.Write m)) kind = absurd (omega (arith, kind))
kind-quiet (machines.File (files.Sync m)) kind = absurd (omega (arith, kind))
kind-quiet (machines.File (files.Close m)) kind = absurd (omega (arith, kind))
kind-quiet (machines.File (files.Put m)) kind = absurd (omega (arith, kind))
kind-quiet (machines.Path m) kind = path-quiet m.arrived m.opener m refl refl kind
kind-quiet (machines.Name m) kind = record { role = refl; none = refl }

module _ (f : List ℕ) where
  committed-is : (call : Call) → IsCommitOf f call → committed_file call ≡ Some f
  committed-is call (commit offset count is) = ap committed_file is

  -- the file of a COMMIT that it asks for
  pub asks-commits : (next : Step) (new : Machine) (call : Call) → Asks next new → next ≡ nexts.Send call → IsCommitOf f call → commits_of new ≡ Some f
  asks-commits next new call a is p = (subst (λ (n : Step). Asks n new) is a).commits_ f (committed-is call p)

  quiet-step : (F : List Repeat → Type 0) (had : ℕ) (after : Shelf) (next : Step) (new : Machine) → Asks next new → IsQuiet new → OwnStep f F had after next (role_of new)
  quiet-step F had after next new a q = record {
    left = had;
    keeps = as-going next (OwnLeft f had (role_of new)) (subst (OwnLeft f had) (sym q.role) tt);
    less = omega arith;
    asks = λ call sends p fresh. absurd (let no_way : None ≡ Some f = sym q.none ∙ asks-commits next new call a sends p in cc);
  }

  -- ---- from the count of a sync or a close

  own-of : (F : List Repeat → Type 0) (had : ℕ) (after : Shelf) (next : Step) (to : Role) (P : ℕ → Type 0) → ((n : ℕ) → P n → OwnLeft f n to) → StepIs f had next P → OwnStep f F had after next to
  own-of F had after next to P keeps s = record { left = s.left; keeps = over next s.keeps; less = s.less; asks = λ call sends p fresh. s.asks call sends p }
    where
      over : (n : Step) → Going n (P s.left) → Going n (OwnLeft f s.left to)
      over (nexts.Send call) p = keeps s.left p
      over nexts.Wait p = keeps s.left p
      over (nexts.Done answer) p = tt

  own-taken : (had : ℕ) (sent turn : Turn) (repeats_ : List Repeat) (after : Shelf) (next : Step) (to : Role) (P : ℕ → Type 0) → ((n : ℕ) → P n → OwnLeft f n to)
      → Taken f had sent turn repeats_ after.repeats next P → OwnStep f (NotAgain f sent repeats_) had after next to
  own-taken had sent turn repeats_ after next to P keeps (repeats table p) = record {
    left = had;
    keeps = as-going next (OwnLeft f had to) (keeps had p);
    less = omega arith;
    asks = λ call sends c fresh. absurd (one-longer (ended sent.xid repeats_) _ (sym fresh ∙ table));
  }
  own-taken had sent turn repeats_ after next to P keeps (goes table s) = own-of (NotAgain f sent repeats_) had after next to P keeps s

  sync-own : (state : Syncing) (n : ℕ) → SyncLeft f state n → OwnLeft f n (sync_role state)
  sync-own syncing.Idle n k = tt
  sync-own (syncing.Saves s) n k = k

  own-sync : (state : Syncing) (n : ℕ) → OwnLeft f n (sync_role state) → SyncLeft f state n
  own-sync syncing.Idle n k = tt
  own-sync (syncing.Saves s) n k = k

  close-own : (state : Closing) (n : ℕ) → CloseLeft f state n → OwnLeft f n (close_role state)
  close-own closing.Idle n k = tt
  close-own (closing.Queued s) n k = k
  close-own (closing.Saves s) n k = k
  close-own (closing.ToRemove removal) n k = tt
  close-own (closing.Removing removal) n k = tt

  own-close : (state : Closing) (n : ℕ) → OwnLeft f n (close_role state) → CloseLeft f state n
  own-close closing.Idle n k = tt
  own-close (closing.Queued s) n k = k
  own-close (closing.Saves s) n k = k
  own-close (closing.ToRemove removal) n k = tt
  own-close (closing.Removing removal) n k = tt

  -- ---- of a put

  put-own : (F : List Repeat → Type 0) (at : Putting) (wsize : ℕ) (m : PutFile) (turn : Turn) (old : Shelf) (next : Step) (new : PutFile) (after : Shelf) (had : ℕ) → OwnLeft f had (put_role at m.write.state)
      → puts.Resumes at wsize m turn old next new after → OwnStep f F had after next (put_role new.state new.write.state) × (after.seq ≡ old.seq)
  put-own F putting.Idle wsize m turn old next new after had k r = absurd k
  put-own F putting.Opens wsize m turn old next new after had k r = absurd k
  put-own F (putting.Adds file) wsize m turn old next new after had k r = absurd k
  put-own F (putting.Saves s) wsize m turn old next new after had k r = (
    put-queues f F (is_first m.write.lane old.order) wsize m.write.lane turn s old next new.state after new.write.state had k r.0,
    queues-seq f (is_first m.write.lane old.order) wsize m.write.lane turn s old next new.state after r.0,
  )

  follows-table : (gives : _) (lane : ℕ) (saved : Saving) (was : Shelf) (next : Step) (state : Putting) (after : Shelf) → puts.Follows gives lane saved was next state after → after.repeats ≡ was.repeats
  follows-table gives lane saved was next state after l = by-step (λ g. puts.Follows g lane saved was next state after → after.repeats ≡ was.repeats)
      (λ call k. ap (λ (z : Shelf). z.repeats) k.2) (λ k. ap (λ (z : Shelf). z.repeats) k.2) (λ result k. ap (λ (z : Shelf). z.repeats) k.others) gives l

  put-own-takes : (at : Putting) (wsize : ℕ) (m : PutFile) (sent turn : Turn) (came : Result Reply Fault) (old : Shelf) (next : Step) (new : PutFile) (after : Shelf) (had : ℕ)
      → OwnLeft f had (put_role at m.write.state) → puts.Takes at wsize m sent turn came old next new after
      → OwnStep f (NotAgain f sent old.repeats) had after next (put_role new.state new.write.state) × (after.seq ≡ old.seq)
  put-own-takes putting.Idle wsize m sent turn came old next new after had k t = absurd k
  put-own-takes putting.Opens wsize m sent turn came old next new after had k t = absurd k
  put-own-takes (putting.Adds file) wsize m sent turn came old next new after had k t = absurd k
  put-own-takes (putting.Saves s) wsize m sent turn came old next new after had k t = (
    by (takes-took f wsize sent turn came old.repeats s old.back t.0.gives t.0.saved t.0.took.back t.0.took.repeats t.0.takes),
    follows-seq f t.0.gives m.write.lane t.0.saved t.0.took next new.state after t.0.follows ∙ ap (λ (z : Shelf). z.seq) t.0.others,
  )
    where
      by : Took f sent turn old.repeats t.0.took.repeats s (syncs.sync_next t.0.gives) t.0.saved → OwnStep f (NotAgain f sent old.repeats) had after next (put_role new.state new.write.state)
      by (again table few) =
          put-follows f (NotAgain f sent old.repeats) t.0.gives m.write.lane t.0.saved t.0.took next new.state after new.write.state had (omega (arith, few, k))
          (λ call sends p fresh. absurd (one-longer (ended sent.xid old.repeats) _
          (sym fresh ∙ follows-table t.0.gives m.write.lane t.0.saved t.0.took next new.state after t.0.follows ∙ table))) t.0.follows
      by (on table spent) =
          let less = spent.less in
          put-follows f (NotAgain f sent old.repeats) t.0.gives m.write.lane t.0.saved t.0.took next new.state after new.write.state had (omega (arith, less, k))
          (λ call sends p fresh. let one = spent.asks call sends p in omega (arith, one, k)) t.0.follows

  -- ---- of any operation

  -- where it is a put, the number of the last write stays
  pub record OwnAll (F : List Repeat → Type 0) (had : ℕ) (old after : Shelf) (next : Step) (m new : Machine) : Type 0 where
    pub step : OwnStep f F had after next (role_of new)
    pub seq : job_kind m ≡ 3 → after.seq ≡ old.seq

  own-as : (F : List Repeat → Type 0) (had : ℕ) (after : Shelf) (next : Step) (to new : Role) → new ≡ to → OwnStep f F had after next to → OwnStep f F had after next new
  own-as F had after next to new is s = subst (OwnStep f F had after next) (sym is) s

  quiet-all : (F : List Repeat → Type 0) (had : ℕ) (old after : Shelf) (next : Step) (m new : Machine) → job_kind m ≡ 0 → job_kind new ≡ job_kind m → Asks next new → OwnAll F had old after next m new
  quiet-all F had old after next m new none same a = record {
    step = quiet-step F had after next new a (kind-quiet new (same ∙ none));
    seq = λ three. absurd (omega (arith, none, three));
  }

  path-role : (m : PathMachine) (opener : Opener) (new : PathMachine) → m.arrived ≡ true → new ≡ record m { opener = opener } → path_role new.arrived new.opener ≡ file_role (file_of opener)
  path-role m opener new there is = ap (λ (p : PathMachine). path_role p.arrived p.opener) is ∙ ap (λ (b : Bool). path_role b opener) there

  put-file : (F : List Repeat → Type 0) (p : PutFile) (wsize : ℕ) (turn : Turn) (old : Shelf) (next : Step) (new : FileMachine) (after : Shelf) (had : ℕ) → OwnLeft f had (file_role (files.Put p))
      → steps.Resumes wsize (files.Put p) turn old next new after → OwnStep f F had after next (file_role new) × (after.seq ≡ old.seq)
  put-file F p wsize turn old next new after had k s =
      let z = put-own F p.state wsize p turn old next s.machine after had k s.step in
      (own-as F had after next (file_role (files.Put s.machine)) (file_role new) (ap file_role s.machine_is) z.0, z.1)

  put-file-takes : (p : PutFile) (wsize : ℕ) (sent turn : Turn) (came : Result Reply Fault) (old : Shelf) (next : Step) (new : FileMachine) (after : Shelf) (had : ℕ) → OwnLeft f had (file_role (files.Put p))
      → steps.Takes wsize (files.Put p) sent turn came old next new after → OwnStep f (NotAgain f sent old.repeats) had after next (file_role new) × (after.seq ≡ old.seq)
  put-file-takes p wsize sent turn came old next new after had k s =
      let z = put-own-takes p.state wsize p sent turn came old next s.machine after had k s.step in
      (own-as (NotAgain f sent old.repeats) had after next (file_role (files.Put s.machine)) (file_role new) (ap file_role s.machine_is) z.0, z.1)

  path-own : (F : List Repeat → Type 0) (b : Bool) (o : Opener) (wsize : ℕ) (m : PathMachine) (turn : Turn) (old : Shelf) (next : Step) (new : Machine) (after : Shelf) (had : ℕ) → m.arrived ≡ b → m.opener ≡ o
      → OwnLeft f had (path_role b o) → Asks next new → job_kind new ≡ job_kind (machines.Path m) → (machine : PathMachine) → new ≡ machines.Path machine → paths.PathResumes b wsize m turn old next machine after
      → OwnAll F had old after next (machines.Path m) new
  path-own F b (openers.Open o) wsize m turn old next new after had there is k a same machine machine_is r =
      quiet-all F had old after next (machines.Path m) new (ap (λ (z : Opener). job_kind (machines.Path (record m { opener = z }))) is) same a
  path-own F false (openers.Put p) wsize m turn old next new after had there is k a same machine machine_is r = absurd k
  path-own F true (openers.Put p) wsize m turn old next new after had there is k a same machine machine_is r =
      let z = put-file F p wsize turn old next (file_of r.opener) after had k (subst (λ (o : Opener). steps.Resumes wsize (file_of o) turn old next (file_of r.opener) after) is r.step) in
      record {
        step = own-as F had after next (file_role (file_of r.opener)) (role_of new) (ap role_of machine_is ∙ path-role m r.opener machine there r.machine_is) z.0;
        seq = λ three. z.1;
      }

  path-own-takes : (b : Bool) (o : Opener) (wsize : ℕ) (m : PathMachine) (sent turn : Turn) (came : Result Reply Fault) (old : Shelf) (next : Step) (new : Machine) (after : Shelf) (had : ℕ) → m.arrived ≡ b
      → m.opener ≡ o → OwnLeft f had (path_role b o) → Asks next new → job_kind new ≡ job_kind (machines.Path m) → (machine : PathMachine) → new ≡ machines.Path machine
      → paths.PathTakes b wsize m sent turn came old next machine after → OwnAll (NotAgain f sent old.repeats) had old after next (machines.Path m) new
  path-own-takes b (openers.Open o) wsize m sent turn came old next new after had there is k a same machine machine_is r =
      quiet-all (NotAgain f sent old.repeats) had old after next (machines.Path m) new (ap (λ (z : Opener). job_kind (machines.Path (record m { opener = z }))) is) same a
  path-own-takes false (openers.Put p) wsize m sent turn came old next new after had there is k a same machine machine_is r = absurd k
  path-own-takes true (openers.Put p) wsize m sent turn came old next new after had there is k a same machine machine_is r =
      let z = put-file-takes p wsize sent turn came old next (file_of r.opener) after had k
      (subst (λ (o : Opener). steps.Takes wsize (file_of o) sent turn came old next (file_of r.opener) after) is r.step) in
      record {
        step = own-as (NotAgain f sent old.repeats) had after next (file_role (file_of r.opener)) (role_of new) (ap role_of machine_is ∙ path-role m r.opener machine there r.machine_is) z.0;
        seq = λ three. z.1;
      }

  pub all-owns : (F : List Repeat → Type 0) (m : Machine) (wsize : ℕ) (turn : Turn) (old : Shelf) (next : Step) (new : Machine) (after : Shelf) (had : ℕ) → OwnLeft f had (role_of m) → Asks next new
      → Resumes wsize m turn old next new after → OwnAll F had old after next m new
  all-owns F (machines.File (files.Sync m)) wsize turn old next new after had k a s = record {
    step = own-as F had after next (sync_role s.step.state) (role_of new) (ap role_of (s.machine_is ∙ ap machines.File s.step.machine_is))
        (own-of F had after next (sync_role s.step.state) (MachineLeft f new) (λ n l. sync-own s.step.state n (subst (λ (z : Machine). MachineLeft f z n) (s.machine_is ∙ ap machines.File s.step.machine_is) l))
        (machine-resumes f (machines.File (files.Sync m)) wsize turn old next new after had (own-sync m.state had k) s));
    seq = λ three. absurd (omega (arith, three));
  }
  all-owns F (machines.File (files.Close m)) wsize turn old next new after had k a s = record {
    step = own-as F had after next (close_role s.step.state) (role_of new) (ap role_of (s.machine_is ∙ ap machines.File s.step.machine_is))
        (own-of F had after next (close_role s.step.state) (MachineLeft f new) (λ n l. close-own s.step.state n (subst (λ (z : Machine). MachineLeft f z n) (s.machine_is ∙ ap machines.File s.step.machine_is) l))
        (machine-resumes f (machines.File (files.Close m)) wsize turn old next new after had (own-close m.state had k) s));
    seq = λ three. absurd (omega (arith, three));
  }
  all-owns F (machines.File (files.Put m)) wsize turn old next new after had k a s =
      let z = put-file F m wsize turn old next s.machine after had k s.step in
      record { step = own-as F had after next (file_role s.machine) (role_of new) (ap role_of s.machine_is) z.0; seq = λ three. z.1 }
  all-owns F (machines.File (files.Write m)) wsize turn old next new after had k a s = absurd k
  all-owns F (machines.File (files.Open m)) wsize turn old next new after had k a s =
      quiet-all F had old after next (machines.File (files.Open m)) new refl (resume-kind wsize turn (machines.File (files.Open m)) old next new after s) a
  all-owns F (machines.File (files.Read m)) wsize turn old next new after had k a s =
      quiet-all F had old after next (machines.File (files.Read m)) new refl (resume-kind wsize turn (machines.File (files.Read m)) old next new after s) a
  all-owns F (machines.File (files.Truncate m)) wsize turn old next new after had k a s =
      quiet-all F had old after next (machines.File (files.Truncate m)) new refl (resume-kind wsize turn (machines.File (files.Truncate m)) old next new after s) a
  all-owns F (machines.Path m) wsize turn old next new after had k a s =
      path-own F m.arrived m.opener wsize m turn old next new after had refl refl k a (resume-kind wsize turn (machines.Path m) old next new after s) s.machine s.machine_is s.step
  all-owns F (machines.Name m) wsize turn old next new after had k a s =
      quiet-all F had old after next (machines.Name m) new refl (resume-kind wsize turn (machines.Name m) old next new after s) a

  pub all-own-takes : (m : Machine) (wsize : ℕ) (sent turn : Turn) (came : Result Reply Fault) (old : Shelf) (next : Step) (new : Machine) (after : Shelf) (had : ℕ) → 1 ≤ in_flight m → OwnLeft f had (role_of m)
      → Asks next new → Takes wsize m sent turn came old next new after → OwnAll (NotAgain f sent old.repeats) had old after next m new
  all-own-takes (machines.File (files.Sync m)) wsize sent turn came old next new after had some k a s = record {
    step = own-as (NotAgain f sent old.repeats) had after next (sync_role s.step.state) (role_of new) (ap role_of (s.machine_is ∙ ap machines.File s.step.machine_is))
        (own-taken had sent turn old.repeats after next (sync_role s.step.state) (MachineLeft f new)
        (λ n l. sync-own s.step.state n (subst (λ (z : Machine). MachineLeft f z n) (s.machine_is ∙ ap machines.File s.step.machine_is) l))
        (machine-takes f (machines.File (files.Sync m)) wsize sent turn came old next new after had some (own-sync m.state had k) tt s));
    seq = λ three. absurd (omega (arith, three));
  }
  all-own-takes (machines.File (files.Close m)) wsize sent turn came old next new after had some k a s = record {
    step = own-as (NotAgain f sent old.repeats) had after next (close_role s.step.state) (role_of new) (ap role_of (s.machine_is ∙ ap machines.File s.step.machine_is))
        (own-taken had sent turn old.repeats after next (close_role s.step.state) (MachineLeft f new)
        (λ n l. close-own s.step.state n (subst (λ (z : Machine). MachineLeft f z n) (s.machine_is ∙ ap machines.File s.step.machine_is) l))
        (machine-takes f (machines.File (files.Close m)) wsize sent turn came old next new after had some (own-close m.state had k) tt s));
    seq = λ three. absurd (omega (arith, three));
  }
  all-own-takes (machines.File (files.Put m)) wsize sent turn came old next new after had some k a s =
      let z = put-file-takes m wsize sent turn came old next s.machine after had k s.step in
      record { step = own-as (NotAgain f sent old.repeats) had after next (file_role s.machine) (role_of new) (ap role_of s.machine_is) z.0; seq = λ three. z.1 }
  all-own-takes (machines.File (files.Write m)) wsize sent turn came old next new after had some k a s = absurd k
  all-own-takes (machines.File (files.Open m)) wsize sent turn came old next new after had some k a s =
      quiet-all (NotAgain f sent old.repeats) had old after next (machines.File (files.Open m)) new refl (take-kind wsize turn sent came (machines.File (files.Open m)) old next new after s) a
  all-own-takes (machines.File (files.Read m)) wsize sent turn came old next new after had some k a s =
      quiet-all (NotAgain f sent old.repeats) had old after next (machines.File (files.Read m)) new refl (take-kind wsize turn sent came (machines.File (files.Read m)) old next new after s) a
  all-own-takes (machines.File (files.Truncate m)) wsize sent turn came old next new after had some k a s =
      quiet-all (NotAgain f sent old.repeats) had old after next (machines.File (files.Truncate m)) new refl (take-kind wsize turn sent came (machines.File (files.Truncate m)) old next new after s) a
  all-own-takes (machines.Path m) wsize sent turn came old next new after had some k a s =
      path-own-takes m.arrived m.opener wsize m sent turn came old next new after had refl refl k a (take-kind wsize turn sent came (machines.Path m) old next new after s) s.machine s.machine_is s.step
  all-own-takes (machines.Name m) wsize sent turn came old next new after had some k a s =
      quiet-all (NotAgain f sent old.repeats) had old after next (machines.Name m) new refl (take-kind wsize turn sent came (machines.Name m) old next new after s) a

  -- ---- how one begins

  -- it may begin one save of the file
  first-waits : (back : Pending) → Waits f back 32
  first-waits back = record { more = 1; may = inl (omega arith); less = omega arith }

  abbrev pub Begun : (F : List Repeat → Type 0) (old after : Shelf) (next : Step) (new : Machine) → Op → Type 0
  Begun F old after next new (ops.Write slot offset bytes) = StoreStep f F 32 old after next (role_of new)
  Begun F old after next new (ops.Fill slot offset count byte) = StoreStep f F 32 old after next (role_of new)
  Begun F old after next new (ops.Put path offset bytes) = StoreStep f F 32 old after next (role_of new)
  Begun F old after next new op = OwnStep f F 2 after next (role_of new)

  module _ (F : List Repeat → Type 0) (m : Mounted) (lane wsize : ℕ) (turn : Turn) (old : Shelf) (next : Step) (new : Machine) (after : Shelf) (a : Asks next new) where
    plain-begun : (op : Op) → job_kind (machine_of m lane op) ≡ 0 → Starts wsize (machine_of m lane op) turn old next new after → OwnStep f F 2 after next (role_of new)
    plain-begun op kind s = quiet-step F 2 after next new a (kind-quiet new (start-kind wsize turn (machine_of m lane op) old next new after s ∙ kind))

    pub all-begun : (op : Op) → Starts wsize (machine_of m lane op) turn old next new after → Begun F old after next new op
    all-begun (ops.Write slot offset bytes) s =
        store-to f F 32 old after next (storing s.step.machine.state) (role_of new) (ap role_of (s.machine_is ∙ ap machines.File s.step.machine_is))
        (write-store f F 32 old after next s.step.machine.state (write-starts f F wsize _ turn old next s.step.machine after 32 (first-waits old.back) s.step.step))
    all-begun (ops.Fill slot offset count byte) s =
        store-to f F 32 old after next (storing s.step.machine.state) (role_of new) (ap role_of (s.machine_is ∙ ap machines.File s.step.machine_is))
        (write-store f F 32 old after next s.step.machine.state (write-starts f F wsize _ turn old next s.step.machine after 32 (first-waits old.back) s.step.step))
    all-begun (ops.Put path offset bytes) s =
        store-to f F 32 old after next (path_role s.machine.arrived s.machine.opener) (role_of new) (ap role_of s.machine_is)
        (path-stores f F false wsize (record { walk = walk_of m.root (front_of path); opener = begun_at (turn.moment - 1) (put_of m lane (last_of path) offset bytes); arrived = false }) turn old next s.machine
        after 32 refl (first-waits old.back) s.step)
    all-begun (ops.Sync slot) s =
        own-as F 2 after next (sync_role s.step.state) (role_of new) (ap role_of (s.machine_is ∙ ap machines.File s.step.machine_is))
        (own-of F 2 after next (sync_role s.step.state) (SyncLeft f s.step.state) (sync-own s.step.state) (sync-starts f (file_at lane slot old.opens) wsize _ turn old next s.step.state after s.step.step))
    all-begun (ops.Close slot) s =
        own-as F 2 after next (close_role s.step.state) (role_of new) (ap role_of (s.machine_is ∙ ap machines.File s.step.machine_is))
        (own-of F 2 after next (close_role s.step.state) (CloseLeft f s.step.state) (close-own s.step.state) (close-starts f (file_at lane slot old.opens) wsize _ turn old next s.step.state after s.step.step))
    all-begun (ops.OpenFile slot mode path) s = plain-begun (ops.OpenFile slot mode path) refl s
    all-begun (ops.Read slot offset count) s = plain-begun (ops.Read slot offset count) refl s
    all-begun (ops.Truncate slot size) s = plain-begun (ops.Truncate slot size) refl s
    all-begun (ops.Stat path) s = plain-begun (ops.Stat path) refl s
    all-begun (ops.Access path bits) s = plain-begun (ops.Access path bits) refl s
    all-begun (ops.ReadLink path) s = plain-begun (ops.ReadLink path) refl s
    all-begun (ops.MakeDir path) s = plain-begun (ops.MakeDir path) refl s
    all-begun (ops.RemoveDir path) s = plain-begun (ops.RemoveDir path) refl s
    all-begun (ops.Remove path) s = plain-begun (ops.Remove path) refl s
    all-begun (ops.Rename from to) s = plain-begun (ops.Rename from to) refl s
    all-begun (ops.Link from to) s = plain-begun (ops.Link from to) refl s
    all-begun (ops.SymLink path target) s = plain-begun (ops.SymLink path target) refl s
    all-begun (ops.List path) s = plain-begun (ops.List path) refl s
