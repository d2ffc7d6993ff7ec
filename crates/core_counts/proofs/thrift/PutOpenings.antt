-- Puts before their bytes are pending: their steps, and what becomes of the kept pages.
use Rattle.core_counts.proofs.Prelude.{◌≡◌, ◌≤◌, ◌-◌, ◌⊎◌, inl, inr, ℕ, Bool, true, false, List, Result, Ok, Err, refl, sym, ap, subst, ◌∙◌, if◌then◌else◌, Pages, after_page, Answer, Fault, Call, Reply, Step, Shelf, Turn, WalkStep, Led, Opening, OpeningStep, PutFile, Putting, Machine, Opener, PathMachine, file_of, slot_taken, begun_at, Starts, Resumes, Takes, ThenOf, kept-as, Both}
use Rattle.op_machines.specs.Openers.{opening_in, placed}
use Rattle.core_answers.proofs.pages.NamePages.{SamePages, walk-takes-kept}
use Rattle.world_model.specs.declared.answer.Answer.TheVariants as answers
use Rattle.world_model.specs.declared.answer.Fault.TheVariants as faults
use Rattle.client_shelf.specs.declared.step.Step.TheVariants as nexts
use Rattle.name_ops.specs.declared.walk.WalkStep.TheVariants as walks
use Rattle.name_ops.specs.Walking as walking
use Rattle.file_ops.specs.declared.opening.Led.TheVariants as leads
use Rattle.file_ops.specs.declared.opening.OpeningStep.TheVariants as openings
use Rattle.file_ops.specs.declared.put_file.Putting.TheVariants as putting
use Rattle.file_ops.specs.Opening as opening
use Rattle.file_ops.specs.PutFile as puts
use Rattle.op_machines.specs.declared.file_machine.FileMachine.TheVariants as files
use Rattle.op_machines.specs.declared.machine.Machine.TheVariants as machines
use Rattle.op_machines.specs.declared.opener.Opener.TheVariants as openers
use Rattle.op_machines.specs.FileSteps as steps
use Rattle.op_machines.specs.PathSteps as paths
use Rattle.core_answers.proofs.bonds.FileCalls.{OpeningOn, PutOn, FileAsks}
use Rattle.core_answers.proofs.bonds.MachineCalls.{PathOn, Asks}
use Rattle.core_session.proofs.current.FedPages.{as-shelf}
use Rattle.core_session.proofs.kept.OwnTold.{added-same}
use Rattle.core_counts.proofs.thrift.SaverSteps.{PutSaves, stays-any, stays-done, adds-then}
use Rattle.core_counts.proofs.thrift.Savers.{SavesFile, IsSaver, FileStays, then-map, as-path}
use Rattle.core_counts.proofs.thrift.TakePages.{TakeLaws, led-pages, follows-pages}

-- A put that opens its file, or is on the way to it, with a moment that isn't later.
pub record IsPutting (b : ℕ) (machine : Machine) : Type 0 where
  pub m : PathMachine
  pub q : PutFile
  pub is : machine ≡ machines.Path m
  pub opener : m.opener ≡ openers.Put q
  pub low : q.opening.moment ≤ b
  pub there : m.arrived ≡ true → q.state ≡ putting.Opens

-- It goes on so, or makes its bytes stable.
abbrev pub IsEither : ℕ → Machine → Type 0
IsEither b z = IsPutting b z ⊎ IsSaver z

abbrev pub PutThen : ℕ → Step → Machine → Type 0
PutThen b next new = ThenOf (IsEither b) (λ answer. Unit {0}) next new

put-is : (p q : PutFile) → files.Put p ≡ files.Put q → p ≡ q
put-is p q e = cc

opener-put : (o : Opener) (q : PutFile) → file_of o ≡ files.Put q → o ≡ openers.Put q
opener-put (openers.Put p) q e = ap openers.Put (put-is p q e)
opener-put (openers.Open m) q e = absurd (cc)

-- its moment stays
abbrev SameMoment : Opening → Opening → Type 0
SameMoment o n = n.moment ≡ o.moment

go-same : (o : Opening) (turn : Turn) → SameMoment o (opening.go_after o turn)
go-same o turn = by (opening.waits o turn)
  where
    by : (b : Bool) → SameMoment o (if b then o else record o { asked = true })
    by true = refl
    by false = refl

led-same : (o : Opening) (turn : Turn) (led : Led) → SameMoment o (opening.led_after o turn led)
led-same o turn (leads.Goes step) = go-same (opening.at_step o step) turn
led-same o turn (leads.Opens file attr) = refl
led-same o turn (leads.Knows file stamp) = refl
led-same o turn (leads.Ends fault) = refl

after-same : (again : Bool) (o : Opening) (turn : Turn) (led : Led) → SameMoment o (opening.opening_after again o turn led)
after-same true o turn led = refl
after-same false o turn led = led-same o turn led

module _ (b : ℕ) where
  -- ---- what a step leads to

  then-done : (answer : Answer) (next : Step) (new : Machine) → next ≡ nexts.Done answer → PutThen b next new
  then-done answer next new is = stays-done (IsEither b) answer next new is

  then-goes : (next : Step) (new : Machine) → IsPutting b new → PutThen b next new
  then-goes next new k = stays-any (IsEither b) next new (inl k)

  as-machine : (m : PathMachine) (o : Opener) (q : PutFile) (p : PathMachine) (new : Machine) → new ≡ machines.Path p → p ≡ record m { opener = o } → o ≡ openers.Put q → q.opening.moment ≤ b
      → q.state ≡ putting.Opens → IsPutting b new
  as-machine m o q p new is at opener_ low state =
      record { m = p; q = q; is = is; opener = ap (λ (z : PathMachine). z.opener) at ∙ opener_; low = low; there = λ there. state }

  low-as : (o n : Opening) → SameMoment o n → o.moment ≤ b → n.moment ≤ b
  low-as o n s low = subst (λ (k : ℕ). k ≤ b) (sym s) low

  then-resumes : (wsize : ℕ) (m : PathMachine) (q : PutFile) (turn : Turn) (old : Shelf) (next : Step) (p : PathMachine) (new : Machine) (after : Shelf) → m.opener ≡ openers.Put q
      → q.opening.moment ≤ b → q.state ≡ putting.Opens → new ≡ machines.Path p → paths.ThenResumes wsize m turn old next p after → PutThen b next new
  then-resumes wsize m q turn old next p new after opener low state is t =
      let s : steps.PutResumes wsize q turn old next (file_of t.opener) after = subst (λ (o : Opener). steps.Resumes wsize (file_of o) turn old next (file_of t.opener) after) opener t.step in
      let r : puts.Resumes putting.Opens wsize q turn old next s.machine after = subst (λ (z : Putting). puts.Resumes z wsize q turn old next s.machine after) state s.step in
      let same = go-same q.opening turn in
      then-goes next new (as-machine m t.opener (record q { opening = opening.go_after q.opening turn }) p new is t.machine_is
      (opener-put t.opener (record q { opening = opening.go_after q.opening turn }) (s.machine_is ∙ ap files.Put r.1)) (low-as q.opening (opening.go_after q.opening turn) same low) state)

  follows : (step : WalkStep) (wsize : ℕ) (m : PathMachine) (q : PutFile) (turn : Turn) (old : Shelf) (next : Step) (p : PathMachine) (new : Machine) (after : Shelf) → m.opener ≡ openers.Put q
      → q.opening.moment ≤ b → m.arrived ≡ false → new ≡ machines.Path p → paths.Follows step wsize m turn old next p after → PutThen b next new
  follows (walks.Send call) wsize m q turn old next p new after opener low way is f =
      then-goes next new (record { m = m; q = q; is = is ∙ ap machines.Path f.1; opener = opener; low = low; there = λ there. absurd (let no_way : false ≡ true = sym way ∙ there in cc) })
  follows walks.Wait wsize m q turn old next p new after opener low way is f =
      then-goes next new (record { m = m; q = q; is = is ∙ ap machines.Path f.1; opener = opener; low = low; there = λ there. absurd (let no_way : false ≡ true = sym way ∙ there in cc) })
  follows (walks.At dir) wsize m q turn old next p new after opener low way is f =
      then-resumes wsize (record m { opener = placed dir m.opener; arrived = true }) (record q { opening = opening_in dir q.opening; state = putting.Opens }) turn old next p new after
      (ap (placed dir) opener) low refl is f
  follows (walks.Refused fault) wsize m q turn old next p new after opener low way is f = then-done (answers.Refused fault) next new f.0

  path-resumes : (a : Bool) (wsize : ℕ) (m : PathMachine) (q : PutFile) (turn : Turn) (old : Shelf) (next : Step) (p : PathMachine) (new : Machine) (after : Shelf) → m.opener ≡ openers.Put q
      → q.opening.moment ≤ b → m.arrived ≡ a → (a ≡ true → q.state ≡ putting.Opens) → new ≡ machines.Path p → paths.PathResumes a wsize m turn old next p after
      → PutThen b next new
  path-resumes true wsize m q turn old next p new after opener low way there is r = then-resumes wsize m q turn old next p new after opener low (there refl) is r
  path-resumes false wsize m q turn old next p new after opener low way there is r =
      follows (walking.go_next m.walk turn old) wsize (record m { walk = walking.go_after m.walk turn old }) q turn (walking.go_shelf m.walk turn old) next p new after opener low way is r

  pub putting-resumes : (machine : Machine) (wsize : ℕ) (turn : Turn) (old : Shelf) (next : Step) (new : Machine) (after : Shelf) → IsPutting b machine → Resumes wsize machine turn old next new after
      → PutThen b next new
  putting-resumes machine wsize turn old next new after k r =
      let s : Resumes wsize (machines.Path k.m) turn old next new after = subst (λ (z : Machine). Resumes wsize z turn old next new after) k.is r in
      path-resumes k.m.arrived wsize k.m k.q turn old next s.machine new after k.opener k.low refl k.there s.machine_is s.step

  -- ---- the first step

  starts-if : (taken : Bool) (wsize : ℕ) (m : PathMachine) (q : PutFile) (turn : Turn) (old : Shelf) (next : Step) (p : PathMachine) (new : Machine) (after : Shelf) → m.opener ≡ openers.Put q
      → turn.moment - 1 ≤ b → m.arrived ≡ false → new ≡ machines.Path p → paths.StartsIf taken wsize m turn old next p after → PutThen b next new
  starts-if true wsize m q turn old next p new after opener low way is s = then-done (answers.Refused faults.Slot) next new s.0
  starts-if false wsize m q turn old next p new after opener low way is s =
      path-resumes m.arrived wsize (record m { opener = begun_at (turn.moment - 1) m.opener }) (record q { opening = record q.opening { moment = turn.moment - 1 } }) turn old next p new after
      (ap (begun_at (turn.moment - 1)) opener) low refl (λ there. absurd (let no_way : false ≡ true = sym way ∙ there in cc)) is s

  pub putting-starts : (m : PathMachine) (q : PutFile) (wsize : ℕ) (turn : Turn) (old : Shelf) (next : Step) (new : Machine) (after : Shelf) → m.opener ≡ openers.Put q → turn.moment - 1 ≤ b
      → m.arrived ≡ false → Starts wsize (machines.Path m) turn old next new after → PutThen b next new
  putting-starts m q wsize turn old next new after opener low way s =
      starts-if (slot_taken m.opener old.opens) wsize m q turn old next s.machine new after opener low way s.machine_is s.step

  -- ---- what came of its call

  module _ (came : Result Reply Fault) (sent turn : Turn) where
    after-opening : (step : OpeningStep) (wsize : ℕ) (m : PathMachine) (o : Opener) (q k : PutFile) (took : Shelf) (next : Step) (p : PathMachine) (new : Machine) (after : Shelf)
        → m.arrived ≡ true → new ≡ machines.Path p → p ≡ record m { opener = o } → file_of o ≡ files.Put k → q.opening.moment ≤ b → q.state ≡ putting.Opens
        → puts.AfterOpening step wsize q turn took next k after → PutThen b next new
    after-opening (openings.Send asked) wsize m o q k took next p new after there is at opener low state a =
        then-goes next new (as-machine m o q p new is at (opener-put o q (opener ∙ ap files.Put a.1)) low state)
    after-opening openings.Wait wsize m o q k took next p new after there is at opener low state a =
        then-goes next new (as-machine m o q p new is at (opener-put o q (opener ∙ ap files.Put a.machine_is)) low state)
    after-opening (openings.Ended (Ok file)) wsize m o q k took next p new after there is at opener low state a =
        let own : FileStays next (file_of o) = subst (FileStays next) (sym opener)
        (then-map PutSaves SavesFile (λ answer. Unit {0}) next k (files.Put k) (λ z. z) (adds-then wsize q file turn took next k after a)) in
        then-map IsSaver (IsEither b) (λ answer. Unit {0}) next new new (λ z. inr z) (as-path m o next p new there is at own)
    after-opening (openings.Ended (Err fault)) wsize m o q k took next p new after there is at opener low state a = then-done (answers.Refused fault) next new a.0

    path-takes : (a : Bool) (wsize : ℕ) (m : PathMachine) (q : PutFile) (old : Shelf) (next : Step) (p : PathMachine) (new : Machine) (after : Shelf) → m.opener ≡ openers.Put q
        → q.opening.moment ≤ b → m.arrived ≡ a → (a ≡ true → q.state ≡ putting.Opens) → new ≡ machines.Path p → paths.PathTakes a wsize m sent turn came old next p after
        → PutThen b next new
    path-takes true wsize m q old next p new after opener low way there is t =
        let s : steps.PutTakes wsize q sent turn came old next (file_of t.opener) after = subst (λ (o : Opener). steps.Takes wsize (file_of o) sent turn came old next (file_of t.opener) after) opener t.step in
        let r : puts.TakesOpening wsize q sent turn came old next s.machine after = subst (λ (z : Putting). puts.Takes z wsize q sent turn came old next s.machine after) (there refl) s.step in
        let again = opening.opening_again q.opening sent turn came old.repeats in
        let led = opening.led_on q.opening turn.now came r.took.attrs old.pages in
        let same = after-same again q.opening turn led in
        after-opening r.step wsize m t.opener (puts.led again q turn came r.took.attrs old.pages) s.machine r.took next p new after way is t.machine_is s.machine_is
        (low-as q.opening (opening.opening_after again q.opening turn led) same low) (there refl) r.follows
    path-takes false wsize m q old next p new after opener low way there is t =
        follows t.step wsize t.walked q turn t.heard next p new after (ap (λ (z : PathMachine). z.opener) t.walked_is ∙ opener) low (ap (λ (z : PathMachine). z.arrived) t.walked_is ∙ way) is t.follows

    pub putting-takes : (machine : Machine) (wsize : ℕ) (old : Shelf) (next : Step) (new : Machine) (after : Shelf) → IsPutting b machine → Takes wsize machine sent turn came old next new after
        → PutThen b next new
    putting-takes machine wsize old next new after k t =
        let s : Takes wsize (machines.Path k.m) sent turn came old next new after = subst (λ (z : Machine). Takes wsize z sent turn came old next new after) k.is t in
        path-takes k.m.arrived wsize k.m k.q old next s.machine new after k.opener k.low refl k.there s.machine_is s.step

-- ---- the kept pages

module _ (T : Pages → Type 0) (shows : (file : List ℕ) (index : ℕ) (c : Pages) → T c → T (after_page file index c)) (b : ℕ) (call : Call) (came : Result Reply Fault) (sent turn : Turn)
    (laws : TakeLaws T b call came sent turn) where
  opened-same : (step : OpeningStep) (wsize : ℕ) (q : PutFile) (old : Shelf) (next : Step) (k : PutFile) (after : Shelf) → puts.AfterOpening step wsize q turn old next k after → SamePages old after
  opened-same (openings.Send asked) wsize q old next k after a = kept-as old old after a.2 refl
  opened-same openings.Wait wsize q old next k after a = kept-as old old after a.shelf_is refl
  opened-same (openings.Ended (Ok file)) wsize q old next k after a = added-same wsize q file turn old next k after a
  opened-same (openings.Ended (Err fault)) wsize q old next k after a = kept-as old old after a.2 refl

  path-pages : (a : Bool) (wsize : ℕ) (m : PathMachine) (q : PutFile) (old : Shelf) (next : Step) (p : PathMachine) (after : Shelf) → m.opener ≡ openers.Put q → q.opening.moment ≤ b
      → (a ≡ true → q.state ≡ putting.Opens) → ((reply : Reply) → came ≡ Ok reply → PathOn a m call) → paths.PathTakes a wsize m sent turn came old next p after
      → T old.pages → T after.pages
  path-pages true wsize m q old next p after opener low there on t had =
      let s : steps.PutTakes wsize q sent turn came old next (file_of t.opener) after = subst (λ (o : Opener). steps.Takes wsize (file_of o) sent turn came old next (file_of t.opener) after) opener t.step in
      let r : puts.TakesOpening wsize q sent turn came old next s.machine after = subst (λ (z : Putting). puts.Takes z wsize q sent turn came old next s.machine after) (there refl) s.step in
      let asked : (reply : Reply) → came ≡ Ok reply → OpeningOn q.opening call =
      λ reply is. subst (λ (z : Putting). PutOn z q.opening q.write.state call) (there refl) (subst (λ (o : Opener). FileAsks (file_of o) call) opener (on reply is)) in
      as-shelf T shows r.took after (opened-same r.step wsize (puts.led (opening.opening_again q.opening sent turn came old.repeats) q turn came r.took.attrs old.pages) r.took next s.machine after r.follows)
      (led-pages T shows b call came sent turn laws (opening.opening_again q.opening sent turn came old.repeats) q.opening r.took.attrs (opening.led_on q.opening turn.now came r.took.attrs old.pages)
      r.step old.pages r.took.pages low refl asked r.leads had)
  path-pages false wsize m q old next p after opener low there on t had =
      follows-pages T shows b call came sent turn laws t.step wsize t.walked t.heard next p after t.follows
      (as-shelf T shows old t.heard (walk-takes-kept (walking.waiting_name m.walk) m.walk sent turn came old t.step t.walked.walk t.heard t.takes) had)

  pub putting-pages : (machine : Machine) (wsize : ℕ) (old : Shelf) (next : Step) (new : Machine) (after : Shelf) → IsPutting b machine → ((reply : Reply) → came ≡ Ok reply → Both machine call)
      → Takes wsize machine sent turn came old next new after → T old.pages → T after.pages
  putting-pages machine wsize old next new after k on t had =
      let s : Takes wsize (machines.Path k.m) sent turn came old next new after = subst (λ (z : Machine). Takes wsize z sent turn came old next new after) k.is t in
      let asked = λ (reply : Reply) (is : came ≡ Ok reply). subst (λ (z : Machine). Asks z call) k.is (on reply is).0 in
      path-pages k.m.arrived wsize k.m k.q old next s.machine after k.opener k.low k.there asked s.step had
