-- A put that went well: COMMIT of its file was answered 0 since it began.
use Rattle.core_facts.proofs.Prelude.{◌≡◌, ◌+◌, ◌-◌, ℕ, Bool, true, false, List, [], ◌∷◌, ◌++◌, length, Result, Ok, refl, sym, ap, subst, ◌∙◌, Verf, Answer, Fault, Entry, Began, Call, Reply, Op, Asked, Step, Shelf, Turn, PutFile, Putting, Saving, commit_told, WalkStep, Mounted, Machine, Opener, PathMachine, machine_of, file_of, slot_taken, begun_at, placed, Starts, Resumes, Takes, State, Busy, Over, in_flight}
use Rattle.op_machines.specs.Openers.{opening_in}
use Rattle.core_facts.specs.InFlight.{of_file}
use Rattle.nfs_file_calls.specs.declared.owned.FileKept.TheVariants as kept
use Rattle.world_model.specs.declared.answer.Answer.TheVariants as answers
use Rattle.world_model.specs.declared.message.Reply.TheVariants as replies
use Rattle.world_model.specs.declared.op.Op.TheVariants as ops
use Rattle.world_model.specs.Commits.{Committed}
use Rattle.world_model.proofs.Growth.{Committed-grow}
use Rattle.client_shelf.specs.declared.step.Step.TheVariants as nexts
use Rattle.file_ops.specs.declared.put_file.Putting.TheVariants as putting
use Rattle.file_ops.specs.Saves as saves
use Rattle.name_ops.specs.declared.walk.WalkStep.TheVariants as walks
use Rattle.name_ops.specs.Walking as walking
use Rattle.op_machines.specs.declared.machine.Machine.TheVariants as machines
use Rattle.op_machines.specs.declared.opener.Opener.TheVariants as openers
use Rattle.op_machines.specs.FileSteps as steps
use Rattle.op_machines.specs.PathSteps as paths
use Rattle.core_facts.specs.Synced.{PutsCommitted}
use Rattle.core_facts.proofs.AllCounts.{begins-unbegun, of_path, path-file}
use Rattle.core_facts.proofs.Expecting.{some-put, no-open, arrived-expects}
use Rattle.core_facts.proofs.PutCounts.{of_put}
use Rattle.core_facts.proofs.Putting.{PutExpects, PutHas, PutWell, put-resumes, put-takes}
use Rattle.core_facts.proofs.Steps.{ThenOf}
use Rattle.core_facts.proofs.Stories.{IsTold, StoryLaws, reached-answered}
use Rattle.core_facts.proofs.Syncing.{told-commit, committed-later}

-- COMMIT of this file was answered 0 until now
abbrev pub IsCommitted : List Entry → ℕ → List ℕ → Type 0
IsCommitted h x f = Committed h x (length h) f

-- it is a put, and once it has its directory COMMIT of the file of its save was answered 0 where that sends again
pub record PutRuns (h : List Entry) (x : ℕ) (machine : Machine) : Type 0 where
  pub m : PathMachine
  pub p : PutFile
  pub is : machine ≡ machines.Path m
  pub opener : m.opener ≡ openers.Put p
  pub has : m.arrived ≡ true → PutHas (IsCommitted h x) p.state

abbrev pub PutState : List Entry → ℕ → State → Type 0
PutState h x (Busy machine) = PutRuns h x machine
PutState h x (Over answer) = PutWell (IsCommitted h x) answer

abbrev pub PutStory : List Entry → ℕ → Op → State → Type 0
PutStory h x op state = (path : List (List ℕ)) (offset : ℕ) (bytes : List ℕ) → op ≡ ops.Put path offset bytes → PutState h x state

abbrev pub Goes : List Entry → ℕ → Step → Machine → Type 0
Goes h x next new = ThenOf (λ n. PutState h x (Busy n)) (λ a. PutState h x (Over a)) next new

for-put : (h : List Entry) (x : ℕ) (op : Op) (next : Step) (new : Machine) → ((path : List (List ℕ)) (offset : ℕ) (bytes : List ℕ) → op ≡ ops.Put path offset bytes → Goes h x next new)
    → ThenOf (λ n. PutStory h x op (Busy n)) (λ a. PutStory h x op (Over a)) next new
for-put h x op (nexts.Send call) new t = t
for-put h x op nexts.Wait new t = t
for-put h x op (nexts.Done answer) new t = t

goes-as : (h : List Entry) (x : ℕ) (next : Step) (to new : Machine) → new ≡ to → Goes h x next to → Goes h x next new
goes-as h x next to new is t = subst (λ (n : Machine). Goes h x next n) (sym is) t

-- what a step of its own machine leads to
then-put : (h : List Entry) (x : ℕ) (m : PathMachine) (q : PutFile) (next : Step) → ThenOf (PutHas (IsCommitted h x)) (PutWell (IsCommitted h x)) next q.state
    → Goes h x next (machines.Path (record m { opener = openers.Put q }))
then-put h x m q (nexts.Send call) t = record { m = record m { opener = openers.Put q }; p = q; is = refl; opener = refl; has = λ there. t }
then-put h x m q nexts.Wait t = record { m = record m { opener = openers.Put q }; p = q; is = refl; opener = refl; has = λ there. t }
then-put h x m q (nexts.Done answer) t = t

opener-goes : (h : List Entry) (x : ℕ) (m : PathMachine) (opener : Opener) (q : PutFile) (next : Step) (new : PathMachine) → new ≡ record m { opener = opener } → opener ≡ openers.Put q
    → ThenOf (PutHas (IsCommitted h x)) (PutWell (IsCommitted h x)) next q.state → Goes h x next (machines.Path new)
opener-goes h x m opener q next new is at t =
    goes-as h x next (machines.Path (record m { opener = openers.Put q })) (machines.Path new)
    (ap machines.Path (is ∙ ap (λ (o : Opener). record m { opener = o }) at)) (then-put h x m q next t)

then-goes : (h : List Entry) (x : ℕ) (wsize : ℕ) (m : PathMachine) (p : PutFile) (turn : Turn) (was : Shelf) (next : Step) (new : PathMachine) (after : Shelf) → m.opener ≡ openers.Put p
    → PutHas (IsCommitted h x) p.state → paths.ThenResumes wsize m turn was next new after → Goes h x next (machines.Path new)
then-goes h x wsize m p turn was next new after at has t = by t.opener refl (subst (λ (o : Opener). steps.Resumes wsize (file_of o) turn was next (file_of t.opener) after) at t.step)
  where
    by : (k : Opener) → t.opener ≡ k → steps.Resumes wsize (file_of (openers.Put p)) turn was next (file_of t.opener) after → Goes h x next (machines.Path new)
    by k to step = of k to (subst (λ (o : Opener). steps.Resumes wsize (file_of (openers.Put p)) turn was next (file_of o) after) to step)
      where
        of : (k : Opener) → t.opener ≡ k → steps.Resumes wsize (file_of (openers.Put p)) turn was next (file_of k) after → Goes h x next (machines.Path new)
        of (openers.Open o) to step = absurd (no-open o _ step.machine_is)
        of (openers.Put q) to step =
            let s = put-resumes (IsCommitted h x) p.state wsize p turn was next step.machine after refl has step.step in
            opener-goes h x m t.opener q next new t.machine_is to
            (subst (λ (k : PutFile). ThenOf (PutHas (IsCommitted h x)) (PutWell (IsCommitted h x)) next k.state) (some-put q step.machine step.machine_is) s.then_)

-- on its way
follows-goes : (step : WalkStep) (h : List Entry) (x : ℕ) (wsize : ℕ) (m : PathMachine) (p : PutFile) (turn : Turn) (was : Shelf) (next : Step) (new : PathMachine) (after : Shelf)
    → m.opener ≡ openers.Put p → m.arrived ≡ false → paths.Follows step wsize m turn was next new after → Goes h x next (machines.Path new)
follows-goes (walks.Send call) h x wsize m p turn was next new after at on_way f =
    subst (λ (n : Step). Goes h x n (machines.Path new)) (sym f.0)
    (record { m = m; p = p; is = ap machines.Path f.1; opener = at; has = λ there. absurd (let no_way : true ≡ false = sym there ∙ on_way in cc) })
follows-goes walks.Wait h x wsize m p turn was next new after at on_way f =
    subst (λ (n : Step). Goes h x n (machines.Path new)) (sym f.0)
    (record { m = m; p = p; is = ap machines.Path f.1; opener = at; has = λ there. absurd (let no_way : true ≡ false = sym there ∙ on_way in cc) })
follows-goes (walks.At dir) h x wsize m p turn was next new after at on_way f =
    then-goes h x wsize (record m { opener = placed dir m.opener; arrived = true }) (record p { opening = opening_in dir p.opening; state = putting.Opens }) turn was next new after
    (ap (placed dir) at) tt f
follows-goes (walks.Refused fault) h x wsize m p turn was next new after at on_way f = subst (λ (n : Step). Goes h x n (machines.Path new)) (sym f.0) tt

path-goes : (b : Bool) (h : List Entry) (x : ℕ) (wsize : ℕ) (m : PathMachine) (p : PutFile) (turn : Turn) (was : Shelf) (next : Step) (new : PathMachine) (after : Shelf) → m.arrived ≡ b
    → m.opener ≡ openers.Put p → (m.arrived ≡ true → PutHas (IsCommitted h x) p.state) → paths.PathResumes b wsize m turn was next new after → Goes h x next (machines.Path new)
path-goes true h x wsize m p turn was next new after is at has r = then-goes h x wsize m p turn was next new after at (has is) r
path-goes false h x wsize m p turn was next new after is at has r =
    follows-goes (walking.go_next m.walk turn was) h x wsize (record m { walk = walking.go_after m.walk turn was }) p turn (walking.go_shelf m.walk turn was) next new after at is r

-- the COMMIT that the reply answers is that of its file
put-shown : (h : List Entry) (x : ℕ) (m : PathMachine) (p : PutFile) (came : Result Reply Fault) → m.arrived ≡ true → m.opener ≡ openers.Put p → IsTold h x (machines.Path m) came
    → (s : Saving) → p.state ≡ putting.Saves s → saves.is_sending s.phase ≡ false → (verf : Verf) → commit_told came ≡ Ok verf → IsCommitted h x s.file
put-shown h x m p came there opener told s at idle verf is =
    let c = told-commit came verf is in
    let expects : PutExpects (putting.Saves s) told.call = subst (λ (t : Putting). PutExpects t told.call) at (arrived-expects m there p opener told.call told.expects) in
    record {
      wcc = c.wcc;
      verf = verf;
      asked = subst (λ (k : Call). Asked h x (length h) k (replies.File (kept.Commit c.wcc verf))) (expects idle) (told.heard (replies.File (kept.Commit c.wcc verf)) c.is);
    }

path-hears : (b : Bool) (h : List Entry) (x : ℕ) (wsize : ℕ) (m : PathMachine) (p : PutFile) (sent turn : Turn) (came : Result Reply Fault) (was : Shelf) (next : Step) (new : PathMachine)
    (after : Shelf) (others : ℕ) → m.arrived ≡ b → m.opener ≡ openers.Put p → (m.arrived ≡ true → PutHas (IsCommitted h x) p.state) → of_path m ≡ others + 1
    → IsTold h x (machines.Path m) came → paths.PathTakes b wsize m sent turn came was next new after → Goes h x next (machines.Path new)
path-hears true h x wsize m p sent turn came was next new after others is at has one told t =
    by t.opener refl (subst (λ (o : Opener). steps.Takes wsize (file_of o) sent turn came was next (file_of t.opener) after) at t.step)
  where
    count : of_put p ≡ others + 1
    count = ap (λ (o : Opener). of_file (file_of o)) (sym at) ∙ sym (path-file m is) ∙ one

    of : (k : Opener) → t.opener ≡ k → steps.Takes wsize (file_of (openers.Put p)) sent turn came was next (file_of k) after → Goes h x next (machines.Path new)
    of (openers.Open o) to step = absurd (no-open o _ step.machine_is)
    of (openers.Put q) to step =
        let s = put-takes (IsCommitted h x) p.state wsize p sent turn came was next step.machine after others refl count (has is) (put-shown h x m p came is at told) step.step in
        opener-goes h x m t.opener q next new t.machine_is to
        (subst (λ (k : PutFile). ThenOf (PutHas (IsCommitted h x)) (PutWell (IsCommitted h x)) next k.state) (some-put q step.machine step.machine_is) s.then_)

    by : (k : Opener) → t.opener ≡ k → steps.Takes wsize (file_of (openers.Put p)) sent turn came was next (file_of t.opener) after → Goes h x next (machines.Path new)
    by k to step = of k to (subst (λ (o : Opener). steps.Takes wsize (file_of (openers.Put p)) sent turn came was next (file_of o) after) to step)
path-hears false h x wsize m p sent turn came was next new after others is at has one told t =
    follows-goes t.step h x wsize t.walked p turn t.heard next new after (ap (λ (w : PathMachine). w.opener) t.walked_is ∙ at) (ap (λ (w : PathMachine). w.arrived) t.walked_is ∙ is) t.follows

-- one entry more
put-later : (h : List Entry) (e : Entry) (x : ℕ) (state : Putting) → PutHas (IsCommitted h x) state → PutHas (IsCommitted (h ++ e ∷ []) x) state
put-later h e x putting.Idle has = tt
put-later h e x putting.Opens has = tt
put-later h e x (putting.Adds file) has = tt
put-later h e x (putting.Saves s) has = λ again. committed-later h e x s.file (has again)

well-later : (h : List Entry) (e : Entry) (x : ℕ) (answer : Answer) → PutWell (IsCommitted h x) answer → PutWell (IsCommitted (h ++ e ∷ []) x) answer
well-later h e x (answers.Done value) w = (w.0, committed-later h e x w.0 w.1)
well-later h e x (answers.Refused fault) w = tt

state-later : (h : List Entry) (e : Entry) (x : ℕ) (state : State) → PutState h x state → PutState (h ++ e ∷ []) x state
state-later h e x (Busy machine) s = record { m = s.m; p = s.p; is = s.is; opener = s.opener; has = λ there. put-later h e x s.p.state (s.has there) }
state-later h e x (Over answer) s = well-later h e x answer s

-- a put as it begins: it is on its way
put-begins : (h : List Entry) (x : ℕ) (wsize : ℕ) (turn : Turn) (m : PathMachine) (p : PutFile) (old : Shelf) (next : Step) (new : Machine) (after : Shelf) → m.arrived ≡ false
    → m.opener ≡ openers.Put p → Starts wsize (machines.Path m) turn old next new after → Goes h x next new
put-begins h x wsize turn m p old next new after on_way at s =
    goes-as h x next (machines.Path s.machine) new s.machine_is
    (path-goes m.arrived h x wsize (record m { opener = begun_at (turn.moment - 1) m.opener }) (record p { opening = record p.opening { moment = turn.moment - 1 } }) turn old next s.machine after refl
    (ap (begun_at (turn.moment - 1)) at) (λ there. absurd (let no_way : true ≡ false = sym there ∙ on_way in cc))
    (subst (λ (o : Opener). paths.StartsIf (slot_taken o old.opens) wsize m turn old next s.machine after) at s.step))

put-laws : (m : Mounted) → StoryLaws (machine_of m) PutStory
put-laws mounted = record {
  starts = λ h lane line op wsize turn old next new after s.
      for-put (h ++ Began lane line op ∷ []) (length h) op next new (λ path offset bytes is.
      put-begins (h ++ Began lane line op ∷ []) (length h) wsize turn _ _ old next new after refl refl
      (subst (λ (o : Op). Starts wsize (machine_of mounted lane o) turn old next new after) is s));
  resumes = λ h x op machine wsize turn old next new after story r.
      for-put h x op next new (λ path offset bytes is.
      let k = story path offset bytes is in
      let s = (let moved : Resumes wsize (machines.Path k.m) turn old next new after = subst (λ (n : Machine). Resumes wsize n turn old next new after) k.is r in moved) in
      goes-as h x next (machines.Path s.machine) new s.machine_is (path-goes k.m.arrived h x wsize k.m k.p turn old next s.machine after refl k.opener k.has s.step));
  takes = λ h x op machine wsize sent turn came old next new after others story one told t.
      for-put h x op next new (λ path offset bytes is.
      let k = story path offset bytes is in
      let s = (let moved : Takes wsize (machines.Path k.m) sent turn came old next new after = subst (λ (n : Machine). Takes wsize n sent turn came old next new after) k.is t in moved) in
      goes-as h x next (machines.Path s.machine) new s.machine_is
      (path-hears k.m.arrived h x wsize k.m k.p sent turn came old next s.machine after others refl k.opener k.has (sym (ap in_flight k.is) ∙ one)
      (subst (λ (n : Machine). IsTold h x n came) k.is told) s.step));
  grows = λ h e x op state story path offset bytes is. state-later h e x state (story path offset bytes is);
  lost = λ h x op shown path offset bytes is. tt;
}

pub puts-committed : PutsCommitted
puts-committed mounted setup h v r lane x path offset bytes y value ended =
    let s = reached-answered (machine_of mounted) (begins-unbegun mounted) setup PutStory (put-laws mounted) h v r lane x (ops.Put path offset bytes) y (answers.Done value) ended in
    let k = s.story path offset bytes refl in
    record {
      f = k.0;
      committed = subst (λ (g : List Entry). Committed g x y k.0) (sym s.is)
          (Committed-grow s.before s.after x y k.0 (subst (λ (n : ℕ). Committed s.before x n k.0) s.there k.1));
    }
