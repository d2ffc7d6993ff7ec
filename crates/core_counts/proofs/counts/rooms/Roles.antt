-- What each step of any operation makes of the COMMITs of a file that it may still ask for: one that writes and whose bytes aren't pending yet, and the save of its own
-- file of a sync, a close or a put.
use Rattle.core_counts.proofs.Prelude.{◌≡◌, ◌≤◌, inl, inr, ◌+◌, ℕ, Bool, true, false, List, [], Result, Ok, Err, refl, sym, ap, subst, ◌∙◌, arith, Pending, IsCommitOf, Answer, Fault, Call, Reply, is_first, Step, Repeat, Shelf, Turn, joined, Closing, OpeningStep, PutFile, Putting, Saving, Syncing, Writing, by-step, WalkStep, file_of, Resumes, Takes, FileMachine, Machine, Opener, PathMachine, Going}
use Rattle.op_machines.specs.Openers.{placed}
use Rattle.client_shelf.specs.declared.step.Step.TheVariants as nexts
use Rattle.file_ops.specs.PutFile as puts
use Rattle.file_ops.specs.Saves as saves
use Rattle.file_ops.specs.Syncs as syncs
use Rattle.file_ops.specs.WriteFile as writes
use Rattle.file_ops.specs.declared.close_file.Closing.TheVariants as closing
use Rattle.file_ops.specs.declared.opening.OpeningStep.TheVariants as openings
use Rattle.file_ops.specs.declared.put_file.Putting.TheVariants as putting
use Rattle.file_ops.specs.declared.sync_file.Syncing.TheVariants as syncing
use Rattle.file_ops.specs.declared.write_file.Writing.TheVariants as writing
use Rattle.name_ops.specs.Walking as walking
use Rattle.name_ops.specs.declared.walk.WalkStep.TheVariants as walks
use Rattle.name_ops.proofs.Keeps.{walk-takes-kept}
use Rattle.op_machines.specs.FileSteps as steps
use Rattle.op_machines.specs.PathSteps as paths
use Rattle.op_machines.specs.declared.file_machine.FileMachine.TheVariants as files
use Rattle.op_machines.specs.declared.machine.Machine.TheVariants as machines
use Rattle.op_machines.specs.declared.opener.Opener.TheVariants as openers
use Rattle.core_session.proofs.room.Stages.{IsGoing}
use Rattle.core_counts.proofs.counts.commits.Saves.{left_to, goes-spent}
use Rattle.core_counts.proofs.counts.rooms.Writes as w
use Rattle.core_counts.proofs.counts.rooms.Writes.{Waits, WriteLeft, WriteStep, Stays, RoomEnds, NotAgain, write-writes, write-resumes, write-takes}

-- ---- what an operation is about

-- it writes, and its bytes aren't pending yet; or it saves its own file; or neither
pub data Role : Type 0 where
  neither : Role
  storing : (state : Writing) → Role
  own : (saving : Saving) → Role

abbrev pub sync_role : Syncing → Role
sync_role syncing.Idle = neither
sync_role (syncing.Saves s) = own s

abbrev pub close_role : Closing → Role
close_role closing.Idle = neither
close_role (closing.Queued s) = own s
close_role (closing.Saves s) = own s
close_role (closing.ToRemove removal) = neither
close_role (closing.Removing removal) = neither

abbrev pub put_role : Putting → Writing → Role
put_role putting.Idle write = storing writing.Idle
put_role putting.Opens write = storing writing.Idle
put_role (putting.Adds file) write = storing write
put_role (putting.Saves s) write = own s

abbrev pub file_role : FileMachine → Role
file_role (files.Open m) = neither
file_role (files.Read m) = neither
file_role (files.Write m) = storing m.state
file_role (files.Sync m) = sync_role m.state
file_role (files.Close m) = close_role m.state
file_role (files.Truncate m) = neither
file_role (files.Put m) = put_role m.state m.write.state

abbrev pub path_role : Bool → Opener → Role
path_role true opener = file_role (file_of opener)
path_role false (openers.Open m) = neither
path_role false (openers.Put m) = storing writing.Idle

abbrev pub role_of : Machine → Role
role_of (machines.File m) = file_role m
role_of (machines.Path m) = path_role m.arrived m.opener
role_of (machines.Name m) = neither

pub going-of : (next : Step) (P : Type 0) → IsGoing next → Going next P → P
going-of next P (inl is) g = subst (λ (n : Step). Going n P) is g
going-of next P (inr is) g = subst (λ (n : Step). Going n P) is.1 g

pub as-going : (next : Step) (P : Type 0) → P → Going next P
as-going (nexts.Send call) P p = p
as-going nexts.Wait P p = p
as-going (nexts.Done answer) P p = tt

pub done-none : {X : Type 0} → (next : Step) (answer : Answer) (call : Call) → next ≡ nexts.Done answer → next ≡ nexts.Send call → X
done-none next answer call is sends = absurd (let no_way : nexts.Done answer ≡ nexts.Send call = sym is ∙ sends in cc)

module _ (f : List ℕ) where
  abbrev pub StoreLeft : ℕ → Pending → ℕ → Role → Type 0
  StoreLeft seq back q neither = ⊥
  StoreLeft seq back q (storing state) = WriteLeft f seq back q state
  StoreLeft seq back q (own saving) = ⊥

  abbrev pub OwnLeft : ℕ → Role → Type 0
  OwnLeft q neither = Unit {0}
  OwnLeft q (storing state) = ⊥
  OwnLeft q (own saving) = left_to saving ≤ q

  -- a step of a save of its own file
  pub record OwnStep (F : List Repeat → Type 0) (had : ℕ) (after : Shelf) (next : Step) (to : Role) : Type 0 where
    pub left : ℕ
    pub keeps : Going next (OwnLeft left to)
    pub less : left ≤ had
    pub asks : (call : Call) → next ≡ nexts.Send call → IsCommitOf f call → F after.repeats → left + 1 ≤ had

  -- A step of one that writes: it goes on; or goes on finding its file; or has its answer; or its bytes are pending, and it saves its own file.
  pub data StoreStep (F : List Repeat → Type 0) (had : ℕ) (old after : Shelf) (next : Step) (to : Role) : Type 0 where
    stays : Stays f F had old after next (λ q. StoreLeft after.seq after.back q to) → StoreStep F had old after next to
    early : IsGoing next → after.seq ≡ old.seq → to ≡ storing writing.Idle → Waits f after.back had → StoreStep F had old after next to
    over : (answer : Answer) → next ≡ nexts.Done answer → StoreStep F had old after next to
    settles : OwnStep F 2 after next to → StoreStep F had old after next to

  pub store-to : (F : List Repeat → Type 0) (had : ℕ) (old after : Shelf) (next : Step) (to new : Role) → new ≡ to → StoreStep F had old after next to → StoreStep F had old after next new
  store-to F had old after next to new is s = subst (StoreStep F had old after next) (sym is) s

  -- from another shelf with the same number
  store-from : (F : List Repeat → Type 0) (had : ℕ) (old mid after : Shelf) (next : Step) (to : Role) → mid.seq ≡ old.seq → StoreStep F had mid after next to → StoreStep F had old after next to
  store-from F had old mid after next to same (stays s) =
      stays (record { going = s.going; seq = s.seq ∙ same; left = s.left; holds = s.holds; less = s.less; asks = s.asks })
  store-from F had old mid after next to same (early going seq is w_) = early going (seq ∙ same) is w_
  store-from F had old mid after next to same (over answer is) = over answer is
  store-from F had old mid after next to same (settles s) = settles s

  -- ---- the save of a put

  pub put-follows : (F : List Repeat → Type 0) (gives : _) (lane : ℕ) (saved : Saving) (was : Shelf) (next : Step) (state : Putting) (after : Shelf) (write : Writing) (had : ℕ) → left_to saved ≤ had
      → ((call : Call) → syncs.sync_next gives ≡ nexts.Send call → IsCommitOf f call → F after.repeats → left_to saved + 1 ≤ had) → puts.Follows gives lane saved was next state after
      → OwnStep F had after next (put_role state write)
  put-follows F gives lane saved was next state after write had le asks k = by-step
      (λ g. ((call : Call) → syncs.sync_next g ≡ nexts.Send call → IsCommitOf f call → F after.repeats → left_to saved + 1 ≤ had) → puts.Follows g lane saved was next state after
      → OwnStep F had after next (put_role state write))
      (λ call z l. going_on (λ c sends p fresh. z c (sym l.0 ∙ sends) p fresh) l.1)
      (λ z l. going_on (λ c sends p fresh. z c (sym l.0 ∙ sends) p fresh) l.1)
      (λ result z l. record {
        left = 0;
        keeps = subst (λ (n : Step). Going n (OwnLeft 0 (put_role state write))) (sym l.next_is) tt;
        less = omega arith;
        asks = λ call sends p fresh. done-none next _ call l.next_is sends;
      })
      gives asks k
    where
      going_on : ((call : Call) → next ≡ nexts.Send call → IsCommitOf f call → F after.repeats → left_to saved + 1 ≤ had) → state ≡ putting.Saves saved → OwnStep F had after next (put_role state write)
      going_on asks_ is = record {
        left = left_to saved;
        keeps = as-going next (OwnLeft (left_to saved) (put_role state write)) (subst (λ (p : Putting). OwnLeft (left_to saved) (put_role p write)) (sym is) (omega arith));
        less = le;
        asks = asks_;
      }

  pub put-queues : (F : List Repeat → Type 0) (b : Bool) (wsize lane : ℕ) (turn : Turn) (s : Saving) (was : Shelf) (next : Step) (state : Putting) (after : Shelf) (write : Writing) (had : ℕ) → left_to s ≤ had
      → puts.QueuesIf b wsize lane turn s was next state after → OwnStep F had after next (put_role state write)
  put-queues F true wsize lane turn s was next state after write had le q =
      let spent = goes-spent f wsize turn.xid turn.room false s was.back q.gives q.saved q.gone.back q.goes in
      let less = spent.less in
      put-follows F q.gives lane q.saved q.gone next state after write had (omega (arith, less, le))
      (λ call sends p fresh. let one = spent.asks call sends p in omega (arith, one, le)) q.follows
  put-queues F false wsize lane turn s was next state after write had le q = record {
    left = had;
    keeps = as-going next (OwnLeft had (put_role state write)) (subst (λ (p : Putting). OwnLeft had (put_role p write)) (sym q.state_is) le);
    less = omega arith;
    asks = λ call sends p fresh. w.wait-none next call q.next_is sends;
  }

  -- its number stays
  pub follows-seq : (gives : _) (lane : ℕ) (saved : Saving) (was : Shelf) (next : Step) (state : Putting) (after : Shelf) → puts.Follows gives lane saved was next state after → after.seq ≡ was.seq
  follows-seq gives lane saved was next state after l = by-step (λ g. puts.Follows g lane saved was next state after → after.seq ≡ was.seq)
      (λ call k. ap (λ (z : Shelf). z.seq) k.2) (λ k. ap (λ (z : Shelf). z.seq) k.2) (λ result k. ap (λ (z : Shelf). z.seq) k.others) gives l

  pub queues-seq : (b : Bool) (wsize lane : ℕ) (turn : Turn) (s : Saving) (was : Shelf) (next : Step) (state : Putting) (after : Shelf) → puts.QueuesIf b wsize lane turn s was next state after → after.seq ≡ was.seq
  queues-seq true wsize lane turn s was next state after q = follows-seq q.gives lane q.saved q.gone next state after q.follows ∙ ap (λ (z : Shelf). z.seq) q.others
  queues-seq false wsize lane turn s was next state after q = ap (λ (z : Shelf). z.seq) q.shelf_is

  -- ---- a put before it

  put-wrote : (F : List Repeat → Type 0) (wsize lane : ℕ) (file : List ℕ) (turn : Turn) (old mid after : Shelf) (told next : Step) (written : Writing) (state : Putting) (q : ℕ) → WriteStep f F q old mid told written
      → puts.AfterWrite told wsize lane file turn mid next state after → StoreStep F q old after next (put_role state written)
  put-wrote F wsize lane file turn old mid after told next written state q (w.goes s) k = by s.going
    where
      on_ : next ≡ told → state ≡ putting.Adds file → after ≡ mid → StoreStep F q old after next (put_role state written)
      on_ is state_is same = stays (record {
        going = subst IsGoing (sym is) s.going;
        seq = ap (λ (z : Shelf). z.seq) same ∙ s.seq;
        left = s.left;
        holds = subst (λ (p : Putting). StoreLeft after.seq after.back s.left (put_role p written)) (sym state_is)
            (subst (λ (z : Shelf). WriteLeft f z.seq z.back s.left written) (sym same) s.holds);
        less = s.less;
        asks = λ call sends p fresh. s.asks call (sym is ∙ sends) p (subst (λ (z : Shelf). F z.repeats) same fresh);
      })

      by : IsGoing told → StoreStep F q old after next (put_role state written)
      by (inl is) = let l = subst (λ (n : Step). puts.AfterWrite n wsize lane file turn mid next state after) is k in on_ (l.0 ∙ sym is) l.1 l.2
      by (inr is) = let l = subst (λ (n : Step). puts.AfterWrite n wsize lane file turn mid next state after) is.1 k in on_ (l.0 ∙ sym is.1) l.1 l.2
  put-wrote F wsize lane file turn old mid after told next written state q (w.refused fault is) k =
      let e = subst (λ (n : Step). puts.AfterWrite n wsize lane file turn mid next state after) is k in over _ e.next_is
  put-wrote F wsize lane file turn old mid after told next written state q (w.adds is) k =
      settles (put-queues F (is_first lane (joined lane file mid).order) wsize lane turn (saves.begun file mid.seq) (joined lane file mid) next state after written 2 (omega arith)
      (subst (λ (n : Step). puts.AfterWrite n wsize lane file turn mid next state after) is k))

  writes-on : (F : List Repeat → Type 0) (wsize : ℕ) (m : PutFile) (file : List ℕ) (turn : Turn) (told : Step) (written : Writing) (old mid : Shelf) (next : Step) (new : PutFile) (after : Shelf) (q : ℕ)
      → WriteStep f F q old mid told written → puts.WritesOn wsize m file turn told written mid next new after → StoreStep F q old after next (put_role new.state new.write.state)
  writes-on F wsize m file turn told written old mid next new after q s g =
      store-to F q old after next (put_role new.state written) (put_role new.state new.write.state) (ap (λ (p : PutFile). put_role new.state p.write.state) g.machine_is)
      (put-wrote F wsize m.write.lane file turn old mid after told next written new.state q s g.follows)

  -- it goes on finding its file
  finds : (F : List Repeat → Type 0) (q : ℕ) (old after : Shelf) (next : Step) (to : Role) → Waits f old.back q → after.seq ≡ old.seq → after.back ≡ old.back → to ≡ storing writing.Idle
      → StoreStep F q old after next to
  finds F q old after (nexts.Send call) to k seq back is = early (inr (call, refl)) seq is (subst (λ (b : Pending). Waits f b q) (sym back) k)
  finds F q old after nexts.Wait to k seq back is = early (inl refl) seq is (subst (λ (b : Pending). Waits f b q) (sym back) k)
  finds F q old after (nexts.Done answer) to k seq back is = over answer refl

  put-stays : (F : List Repeat → Type 0) (m : PutFile) (at : Putting) (old : Shelf) (next : Step) (new : PutFile) (after : Shelf) (q : ℕ) → Waits f old.back q → m.state ≡ at
      → put_role at m.write.state ≡ storing writing.Idle → puts.Stays m old next new after → StoreStep F q old after next (put_role new.state new.write.state)
  put-stays F m at old next new after q k is idle s =
      finds F q old after next (put_role new.state new.write.state) k (ap (λ (z : Shelf). z.seq) s.shelf_is) (ap (λ (z : Shelf). z.back) s.shelf_is)
      (ap (λ (p : PutFile). put_role p.state p.write.state) s.machine_is ∙ ap (λ (p : Putting). put_role p m.write.state) is ∙ idle)

  put-resumes : (F : List Repeat → Type 0) (at : Putting) (wsize : ℕ) (m : PutFile) (turn : Turn) (old : Shelf) (next : Step) (new : PutFile) (after : Shelf) (q : ℕ) → m.state ≡ at
      → StoreLeft old.seq old.back q (put_role at m.write.state) → puts.Resumes at wsize m turn old next new after → StoreStep F q old after next (put_role new.state new.write.state)
  put-resumes F putting.Idle wsize m turn old next new after q is k r = put-stays F m putting.Idle old next new after q k is refl r
  put-resumes F putting.Opens wsize m turn old next new after q is k r =
      finds F q old after next (put_role new.state new.write.state) k (ap (λ (z : Shelf). z.seq) r.2) (ap (λ (z : Shelf). z.back) r.2)
      (ap (λ (p : PutFile). put_role p.state p.write.state) r.1 ∙ ap (λ (p : Putting). put_role p m.write.state) is)
  put-resumes F (putting.Adds file) wsize m turn old next new after q is k r =
      writes-on F wsize m file turn r.told r.written old r.mid next new after q (write-resumes f F m.write.state wsize m.write.lane turn old r.told r.written r.mid q k r.resumes) r.goes
  put-resumes F (putting.Saves s) wsize m turn old next new after q is k r = absurd k

  -- where the save by which it makes room ends
  abbrev pub PutEnds : ℕ → Turn → Turn → Result Reply Fault → Shelf → Putting → Writing → Type 0
  PutEnds wsize sent turn came old putting.Idle write = Unit {0}
  PutEnds wsize sent turn came old putting.Opens write = Unit {0}
  PutEnds wsize sent turn came old (putting.Adds file) write = RoomEnds f wsize sent turn came old write
  PutEnds wsize sent turn came old (putting.Saves s) write = Unit {0}

  put-opened : (F : List Repeat → Type 0) (step : OpeningStep) (wsize : ℕ) (m : PutFile) (turn : Turn) (old : Shelf) (next : Step) (new : PutFile) (after : Shelf) (q : ℕ) → m.state ≡ putting.Opens
      → Waits f old.back q → puts.AfterOpening step wsize m turn old next new after → StoreStep F q old after next (put_role new.state new.write.state)
  put-opened F (openings.Send call) wsize m turn old next new after q is k a =
      finds F q old after next (put_role new.state new.write.state) k (ap (λ (z : Shelf). z.seq) a.2) (ap (λ (z : Shelf). z.back) a.2)
      (ap (λ (p : PutFile). put_role p.state p.write.state) a.1 ∙ ap (λ (p : Putting). put_role p m.write.state) is)
  put-opened F openings.Wait wsize m turn old next new after q is k a = put-stays F m putting.Opens old next new after q k is refl a
  put-opened F (openings.Ended (Ok file)) wsize m turn old next new after q is k a =
      writes-on F wsize m file turn a.told a.written old a.mid next new after q
      (write-writes f F wsize m.write.lane file m.write.offset (writes.made_bytes m.write.text) turn old (puts.put_at m.write.lane file old) a.told a.written a.mid q refl k a.writes) a.goes
  put-opened F (openings.Ended (Err fault)) wsize m turn old next new after q is k a = over _ a.0

  put-takes : (at : Putting) (wsize : ℕ) (m : PutFile) (sent turn : Turn) (came : Result Reply Fault) (old : Shelf) (next : Step) (new : PutFile) (after : Shelf) (q : ℕ) → m.state ≡ at
      → PutEnds wsize sent turn came old at m.write.state → StoreLeft old.seq old.back q (put_role at m.write.state) → puts.Takes at wsize m sent turn came old next new after
      → StoreStep (NotAgain f sent old.repeats) q old after next (put_role new.state new.write.state)
  put-takes putting.Idle wsize m sent turn came old next new after q is ends k t = put-stays (NotAgain f sent old.repeats) m putting.Idle old next new after q k is refl t
  put-takes putting.Opens wsize m sent turn came old next new after q is ends k t =
      store-from (NotAgain f sent old.repeats) q old t.took after next (put_role new.state new.write.state) (ap (λ (z : Shelf). z.seq) t.others)
      (put-opened (NotAgain f sent old.repeats) t.step wsize _ turn t.took next new after q is (subst (λ (b : Pending). Waits f b q) (sym (ap (λ (z : Shelf). z.back) t.others)) k) t.follows)
  put-takes (putting.Adds file) wsize m sent turn came old next new after q is ends k t =
      writes-on (NotAgain f sent old.repeats) wsize m file turn t.told t.written old t.mid next new after q
      (write-takes f m.write.state wsize m.write sent turn came old t.told t.written t.mid q ends k t.takes) t.goes
  put-takes (putting.Saves s) wsize m sent turn came old next new after q is ends k t = absurd k

  -- ---- any operation on a file that writes

  sync-none : {X : Type 0} → (state : Syncing) (seq q : ℕ) (back : Pending) → StoreLeft seq back q (sync_role state) → X
  sync-none syncing.Idle seq q back k = absurd k
  sync-none (syncing.Saves s) seq q back k = absurd k

  close-none : {X : Type 0} → (state : Closing) (seq q : ℕ) (back : Pending) → StoreLeft seq back q (close_role state) → X
  close-none closing.Idle seq q back k = absurd k
  close-none (closing.Queued s) seq q back k = absurd k
  close-none (closing.Saves s) seq q back k = absurd k
  close-none (closing.ToRemove removal) seq q back k = absurd k
  close-none (closing.Removing removal) seq q back k = absurd k

  pub write-store : (F : List Repeat → Type 0) (q : ℕ) (old after : Shelf) (next : Step) (state : Writing) → WriteStep f F q old after next state → StoreStep F q old after next (storing state)
  write-store F q old after next state (w.goes s) = stays s
  write-store F q old after next state (w.refused fault is) = over _ is
  write-store F q old after next state (w.adds is) = over _ is

  file-stores : (F : List Repeat → Type 0) (m : FileMachine) (wsize : ℕ) (turn : Turn) (old : Shelf) (next : Step) (new : FileMachine) (after : Shelf) (q : ℕ) → StoreLeft old.seq old.back q (file_role m)
      → steps.Resumes wsize m turn old next new after → StoreStep F q old after next (file_role new)
  file-stores F (files.Write m) wsize turn old next new after q k s =
      store-to F q old after next (storing s.state) (file_role new) (ap file_role s.machine_is)
      (write-store F q old after next s.state (write-resumes f F m.state wsize m.lane turn old next s.state after q k s.step))
  file-stores F (files.Put m) wsize turn old next new after q k s =
      store-to F q old after next (file_role (files.Put s.machine)) (file_role new) (ap file_role s.machine_is) (put-resumes F m.state wsize m turn old next s.machine after q refl k s.step)
  file-stores F (files.Sync m) wsize turn old next new after q k s = sync-none m.state old.seq q old.back k
  file-stores F (files.Close m) wsize turn old next new after q k s = close-none m.state old.seq q old.back k
  file-stores F (files.Open m) wsize turn old next new after q k s = absurd k
  file-stores F (files.Read m) wsize turn old next new after q k s = absurd k
  file-stores F (files.Truncate m) wsize turn old next new after q k s = absurd k

  abbrev pub FileEnds : ℕ → Turn → Turn → Result Reply Fault → Shelf → FileMachine → Type 0
  FileEnds wsize sent turn came old (files.Write m) = RoomEnds f wsize sent turn came old m.state
  FileEnds wsize sent turn came old (files.Put m) = PutEnds wsize sent turn came old m.state m.write.state
  FileEnds wsize sent turn came old m = Unit {0}

  file-takes : (m : FileMachine) (wsize : ℕ) (sent turn : Turn) (came : Result Reply Fault) (old : Shelf) (next : Step) (new : FileMachine) (after : Shelf) (q : ℕ)
      → FileEnds wsize sent turn came old m → StoreLeft old.seq old.back q (file_role m) → steps.Takes wsize m sent turn came old next new after
      → StoreStep (NotAgain f sent old.repeats) q old after next (file_role new)
  file-takes (files.Write m) wsize sent turn came old next new after q ends k s =
      store-to (NotAgain f sent old.repeats) q old after next (storing s.state) (file_role new) (ap file_role s.machine_is)
      (write-store (NotAgain f sent old.repeats) q old after next s.state (write-takes f m.state wsize m sent turn came old next s.state after q ends k s.step))
  file-takes (files.Put m) wsize sent turn came old next new after q ends k s =
      store-to (NotAgain f sent old.repeats) q old after next (file_role (files.Put s.machine)) (file_role new) (ap file_role s.machine_is)
      (put-takes m.state wsize m sent turn came old next s.machine after q refl ends k s.step)
  file-takes (files.Sync m) wsize sent turn came old next new after q ends k s = sync-none m.state old.seq q old.back k
  file-takes (files.Close m) wsize sent turn came old next new after q ends k s = close-none m.state old.seq q old.back k
  file-takes (files.Open m) wsize sent turn came old next new after q ends k s = absurd k
  file-takes (files.Read m) wsize sent turn came old next new after q ends k s = absurd k
  file-takes (files.Truncate m) wsize sent turn came old next new after q ends k s = absurd k

  -- ---- puts on their way

  path-as : (m : PathMachine) (opener : Opener) (new : PathMachine) → m.arrived ≡ true → new ≡ record m { opener = opener } → path_role new.arrived new.opener ≡ file_role (file_of opener)
  path-as m opener new there is = ap (λ (p : PathMachine). path_role p.arrived p.opener) is ∙ ap (λ (b : Bool). path_role b opener) there

  way-as : (m new : PathMachine) → m.arrived ≡ false → new ≡ m → path_role new.arrived new.opener ≡ path_role false m.opener
  way-as m new way is = ap (λ (p : PathMachine). path_role p.arrived p.opener) is ∙ ap (λ (b : Bool). path_role b m.opener) way

  placed-waits : (dir : List ℕ) (o : Opener) (seq q : ℕ) (back : Pending) → StoreLeft seq back q (path_role false o) → StoreLeft seq back q (file_role (file_of (placed dir o))) × Waits f back q × (path_role false o ≡ storing writing.Idle)
  placed-waits dir (openers.Put m) seq q back k = (k, k, refl)
  placed-waits dir (openers.Open m) seq q back k = absurd k

  path-follows : (F : List Repeat → Type 0) (step : WalkStep) (wsize : ℕ) (m : PathMachine) (turn : Turn) (old : Shelf) (next : Step) (new : PathMachine) (after : Shelf) (q : ℕ) → m.arrived ≡ false
      → StoreLeft old.seq old.back q (path_role false m.opener) → paths.Follows step wsize m turn old next new after → StoreStep F q old after next (path_role new.arrived new.opener)
  path-follows F (walks.Send call) wsize m turn old next new after q way k r =
      let p = placed-waits [] m.opener old.seq q old.back k in
      finds F q old after next (path_role new.arrived new.opener) p.1 (ap (λ (z : Shelf). z.seq) r.2) (ap (λ (z : Shelf). z.back) r.2) (way-as m new way r.1 ∙ p.2)
  path-follows F walks.Wait wsize m turn old next new after q way k r =
      let p = placed-waits [] m.opener old.seq q old.back k in
      finds F q old after next (path_role new.arrived new.opener) p.1 (ap (λ (z : Shelf). z.seq) r.2) (ap (λ (z : Shelf). z.back) r.2) (way-as m new way r.1 ∙ p.2)
  path-follows F (walks.At dir) wsize m turn old next new after q way k r =
      store-to F q old after next (file_role (file_of r.opener)) (path_role new.arrived new.opener) (path-as (record m { opener = placed dir m.opener; arrived = true }) r.opener new refl r.machine_is)
      (file-stores F (file_of (placed dir m.opener)) wsize turn old next (file_of r.opener) after q (placed-waits dir m.opener old.seq q old.back k).0 r.step)
  path-follows F (walks.Refused fault) wsize m turn old next new after q way k r = over _ r.0

  pub path-stores : (F : List Repeat → Type 0) (b : Bool) (wsize : ℕ) (m : PathMachine) (turn : Turn) (old : Shelf) (next : Step) (new : PathMachine) (after : Shelf) (q : ℕ) → m.arrived ≡ b
      → StoreLeft old.seq old.back q (path_role b m.opener) → paths.PathResumes b wsize m turn old next new after → StoreStep F q old after next (path_role new.arrived new.opener)
  path-stores F true wsize m turn old next new after q is k r =
      store-to F q old after next (file_role (file_of r.opener)) (path_role new.arrived new.opener) (path-as m r.opener new is r.machine_is)
      (file-stores F (file_of m.opener) wsize turn old next (file_of r.opener) after q k r.step)
  path-stores F false wsize m turn old next new after q is k r =
      store-from F q old (walking.go_shelf m.walk turn old) after next (path_role new.arrived new.opener) refl
      (path-follows F (walking.go_next m.walk turn old) wsize (record m { walk = walking.go_after m.walk turn old }) turn (walking.go_shelf m.walk turn old) next new after q is k r)

  abbrev pub PathEnds : Bool → ℕ → Turn → Turn → Result Reply Fault → Shelf → Opener → Type 0
  PathEnds true wsize sent turn came old opener = FileEnds wsize sent turn came old (file_of opener)
  PathEnds false wsize sent turn came old opener = Unit {0}

  path-takes : (b : Bool) (wsize : ℕ) (m : PathMachine) (sent turn : Turn) (came : Result Reply Fault) (old : Shelf) (next : Step) (new : PathMachine) (after : Shelf) (q : ℕ) → m.arrived ≡ b
      → PathEnds b wsize sent turn came old m.opener → StoreLeft old.seq old.back q (path_role b m.opener) → paths.PathTakes b wsize m sent turn came old next new after
      → StoreStep (NotAgain f sent old.repeats) q old after next (path_role new.arrived new.opener)
  path-takes true wsize m sent turn came old next new after q is ends k r =
      store-to (NotAgain f sent old.repeats) q old after next (file_role (file_of r.opener)) (path_role new.arrived new.opener) (path-as m r.opener new is r.machine_is)
      (file-takes (file_of m.opener) wsize sent turn came old next (file_of r.opener) after q ends k r.step)
  path-takes false wsize m sent turn came old next new after q is ends k r =
      let kept = walk-takes-kept (walking.waiting_name m.walk) m.walk sent turn came old r.step r.walked.walk r.heard r.takes in
      store-from (NotAgain f sent old.repeats) q old r.heard after next (path_role new.arrived new.opener) kept.seq
      (path-follows (NotAgain f sent old.repeats) r.step wsize r.walked turn r.heard next new after q (ap (λ (p : PathMachine). p.arrived) r.walked_is ∙ is)
      (subst (λ (n : ℕ). StoreLeft n r.heard.back q (path_role false r.walked.opener)) (sym kept.seq)
      (subst (λ (z : Pending). StoreLeft old.seq z q (path_role false r.walked.opener)) (sym kept.back)
      (subst (λ (p : PathMachine). StoreLeft old.seq old.back q (path_role false p.opener)) (sym r.walked_is) k))) r.follows)

  -- ---- any operation that writes

  pub all-stores : (F : List Repeat → Type 0) (m : Machine) (wsize : ℕ) (turn : Turn) (old : Shelf) (next : Step) (new : Machine) (after : Shelf) (q : ℕ) → StoreLeft old.seq old.back q (role_of m)
      → Resumes wsize m turn old next new after → StoreStep F q old after next (role_of new)
  all-stores F (machines.File m) wsize turn old next new after q k s =
      store-to F q old after next (file_role s.machine) (role_of new) (ap role_of s.machine_is) (file-stores F m wsize turn old next s.machine after q k s.step)
  all-stores F (machines.Path m) wsize turn old next new after q k s =
      store-to F q old after next (path_role s.machine.arrived s.machine.opener) (role_of new) (ap role_of s.machine_is) (path-stores F m.arrived wsize m turn old next s.machine after q refl k s.step)
  all-stores F (machines.Name m) wsize turn old next new after q k s = absurd k

  abbrev pub AllEnds : ℕ → Turn → Turn → Result Reply Fault → Shelf → Machine → Type 0
  AllEnds wsize sent turn came old (machines.File m) = FileEnds wsize sent turn came old m
  AllEnds wsize sent turn came old (machines.Path m) = PathEnds m.arrived wsize sent turn came old m.opener
  AllEnds wsize sent turn came old (machines.Name m) = Unit {0}

  pub all-takes : (m : Machine) (wsize : ℕ) (sent turn : Turn) (came : Result Reply Fault) (old : Shelf) (next : Step) (new : Machine) (after : Shelf) (q : ℕ) → AllEnds wsize sent turn came old m
      → StoreLeft old.seq old.back q (role_of m) → Takes wsize m sent turn came old next new after → StoreStep (NotAgain f sent old.repeats) q old after next (role_of new)
  all-takes (machines.File m) wsize sent turn came old next new after q ends k s =
      store-to (NotAgain f sent old.repeats) q old after next (file_role s.machine) (role_of new) (ap role_of s.machine_is) (file-takes m wsize sent turn came old next s.machine after q ends k s.step)
  all-takes (machines.Path m) wsize sent turn came old next new after q ends k s =
      store-to (NotAgain f sent old.repeats) q old after next (path_role s.machine.arrived s.machine.opener) (role_of new) (ap role_of s.machine_is)
      (path-takes m.arrived wsize m sent turn came old next s.machine after q refl ends k s.step)
  all-takes (machines.Name m) wsize sent turn came old next new after q ends k s = absurd k
