-- What each step of a put makes of its bytes, its path among it, where nothing else is pending.
use Rattle.core_session.proofs.Prelude.{◌≡◌, ◌≤◌, ◌^◌, ◌+◌, ◌-◌, ℕ, Bool, true, false, List, [], length, Result, Ok, Err, refl, sym, ap, subst, ◌∙◌, arith, slice_index, Fault, Reply, Step, Shelf, Turn, Pending, of_file, IsFree, FilePending, covers, OpeningStep, PutFile, Putting, Saving, WalkStep, walk-takes-kept, Machine, Opener, PathMachine, file_of, slot_taken, begun_at, Starts, Resumes, Takes}
use Rattle.std.specs.Prelude.{Contains}
use Rattle.write_back.specs.Files.{numbers_of, IsNewest, IsNothing}
use Rattle.op_machines.specs.Openers.{opening_in, placed}
use Rattle.world_model.specs.declared.answer.Answer.TheVariants as answers
use Rattle.client_shelf.specs.declared.step.Step.TheVariants as nexts
use Rattle.file_ops.specs.declared.opening.OpeningStep.TheVariants as openings
use Rattle.file_ops.specs.declared.put_file.Putting.TheVariants as putting
use Rattle.file_ops.specs.PutFile as puts
use Rattle.file_ops.specs.WriteFile as writes
use Rattle.name_ops.specs.declared.walk.WalkStep.TheVariants as walks
use Rattle.name_ops.specs.Walking as walking
use Rattle.op_machines.specs.declared.machine.Machine.TheVariants as machines
use Rattle.op_machines.specs.declared.opener.Opener.TheVariants as openers
use Rattle.op_machines.specs.FileSteps as steps
use Rattle.op_machines.specs.PathSteps as paths
use Rattle.core_facts.proofs.Expecting.{some-put, no-open}
use Rattle.step_saves.specs.PutBytes.{PutAt, PutLeaves}
use Rattle.step_saves.proofs.Accounting.{known-more}
use Rattle.step_saves.proofs.PutSteps.{MayAdd, SaveKnown, put-resumes, put-takes, takes-save}

-- ---- the same bytes

pub record SameText (m new : PutFile) : Type 0 where
  pub offset : new.write.offset ≡ m.write.offset
  pub text : new.write.text ≡ m.write.text

text-of : (m new to : PutFile) → new ≡ to → SameText m to → SameText m new
text-of m new to is s = record { offset = ap (λ (z : PutFile). z.write.offset) is ∙ s.offset; text = ap (λ (z : PutFile). z.write.text) is ∙ s.text }

opened-text : (step : OpeningStep) (wsize : ℕ) (m : PutFile) (turn : Turn) (old : Shelf) (next : Step) (new : PutFile) (after : Shelf) → puts.AfterOpening step wsize m turn old next new after → SameText m new
opened-text (openings.Send call) wsize m turn old next new after f = text-of m new m f.1 (record { offset = refl; text = refl })
opened-text openings.Wait wsize m turn old next new after f = text-of m new m f.machine_is (record { offset = refl; text = refl })
opened-text (openings.Ended (Ok file)) wsize m turn old next new after f =
    record { offset = ap (λ (z : PutFile). z.write.offset) f.goes.machine_is; text = ap (λ (z : PutFile). z.write.text) f.goes.machine_is }
opened-text (openings.Ended (Err fault)) wsize m turn old next new after f = record { offset = ap (λ (z : PutFile). z.write.offset) f.1; text = ap (λ (z : PutFile). z.write.text) f.1 }

resumes-text : (state : Putting) (wsize : ℕ) (m : PutFile) (turn : Turn) (old : Shelf) (next : Step) (new : PutFile) (after : Shelf) → puts.Resumes state wsize m turn old next new after → SameText m new
resumes-text putting.Idle wsize m turn old next new after r = text-of m new m r.machine_is (record { offset = refl; text = refl })
resumes-text putting.Opens wsize m turn old next new after r = record { offset = ap (λ (z : PutFile). z.write.offset) r.1; text = ap (λ (z : PutFile). z.write.text) r.1 }
resumes-text (putting.Adds file) wsize m turn old next new after r =
    record { offset = ap (λ (z : PutFile). z.write.offset) r.goes.machine_is; text = ap (λ (z : PutFile). z.write.text) r.goes.machine_is }
resumes-text (putting.Saves s) wsize m turn old next new after r = record { offset = ap (λ (z : PutFile). z.write.offset) r.1; text = ap (λ (z : PutFile). z.write.text) r.1 }

takes-text : (state : Putting) (wsize : ℕ) (m : PutFile) (sent turn : Turn) (came : Result Reply Fault) (old : Shelf) (next : Step) (new : PutFile) (after : Shelf)
    → puts.Takes state wsize m sent turn came old next new after → SameText m new
takes-text putting.Idle wsize m sent turn came old next new after t = text-of m new m t.machine_is (record { offset = refl; text = refl })
takes-text putting.Opens wsize m sent turn came old next new after t =
    let s = opened-text t.step wsize _ turn t.took next new after t.follows in
    record { offset = s.offset; text = s.text }
takes-text (putting.Adds file) wsize m sent turn came old next new after t =
    record { offset = ap (λ (z : PutFile). z.write.offset) t.goes.machine_is; text = ap (λ (z : PutFile). z.write.text) t.goes.machine_is }
takes-text (putting.Saves s) wsize m sent turn came old next new after t = record { offset = ap (λ (z : PutFile). z.write.offset) t.1; text = ap (λ (z : PutFile). z.write.text) t.1 }

none-newest : (n : ℕ) (back : Pending) → IsNothing back → IsNewest n back
none-newest n back empty file other found =
    let none : Contains [] other = subst (λ (of : FilePending). Contains (numbers_of of) other) (empty file) found in
    absurd (omega (arith, none.1))

-- ---- what is known of it

-- of less is known by more
pub put-more : (offset : ℕ) (bytes : List ℕ) (Wrote Wrote' : List ℕ → ℕ → List ℕ → Type 0) (Finished Finished' : List ℕ → ℕ → Type 0) (state : Putting) (back : Pending)
    → ((f : List ℕ) (place : ℕ) (v : List ℕ) → Wrote f place v → Wrote' f place v) → ((f : List ℕ) (place : ℕ) → Finished f place → Finished' f place)
    → PutAt offset bytes Wrote Finished state back → PutAt offset bytes Wrote' Finished' state back
put-more offset bytes Wrote Wrote' Finished Finished' putting.Idle back w d at = at
put-more offset bytes Wrote Wrote' Finished Finished' putting.Opens back w d at = at
put-more offset bytes Wrote Wrote' Finished Finished' (putting.Adds file) back w d at = at
put-more offset bytes Wrote Wrote' Finished Finished' (putting.Saves s) back w d at = record {
  sound = at.sound;
  way = at.way;
  bytes_are = λ place inside. known-more place (slice_index bytes (place - offset)) s.upto (Wrote s.file place) (Wrote' s.file place) (Finished s.file place) (Finished' s.file place) (of_file s.file back)
      (w s.file place) (d s.file place) (at.bytes_are place inside);
}

module _ (offset : ℕ) (bytes : List ℕ) (last : offset + length bytes ≤ 2 ^ 63 - 1) (Wrote : List ℕ → ℕ → List ℕ → Type 0) (Finished : List ℕ → ℕ → Type 0) where
  -- it has these bytes
  pub record HasText (p : PutFile) : Type 0 where
    pub offset_is : p.write.offset ≡ offset
    pub text_is : writes.made_bytes p.write.text ≡ bytes

  text-stays : (p q : PutFile) → HasText p → SameText p q → HasText q
  text-stays p q has same = record { offset_is = same.offset ∙ has.offset_is; text_is = ap writes.made_bytes same.text ∙ has.text_is }

  pub record PutRuns (machine : Machine) (back : Pending) : Type 0 where
    pub m : PathMachine
    pub p : PutFile
    pub is : machine ≡ machines.Path m
    pub opener : m.opener ≡ openers.Put p
    pub text : HasText p
    pub empty : m.arrived ≡ false → IsNothing back
    pub has : m.arrived ≡ true → PutAt offset bytes Wrote Finished p.state back

  abbrev pub PutGoes : Step → Machine → Pending → Type 0
  PutGoes (nexts.Send call) machine back = PutRuns machine back
  PutGoes nexts.Wait machine back = PutRuns machine back
  PutGoes (nexts.Done (answers.Done value)) machine back = (file : List ℕ) × ((place : ℕ) → covers offset (length bytes) place ≡ true → Finished file place)
  PutGoes (nexts.Done (answers.Refused fault)) machine back = Unit {0}

  -- the step of the put as that of its path
  then-put : (m : PathMachine) (q : PutFile) (next : Step) (back : Pending) → m.arrived ≡ true → HasText q → PutLeaves offset bytes Wrote Finished next q.state back
      → PutGoes next (machines.Path (record m { opener = openers.Put q })) back
  then-put m q (nexts.Send call) back there text t = record {
    m = record m { opener = openers.Put q };
    p = q;
    is = refl;
    opener = refl;
    text = text;
    empty = λ not. absurd (let no_way : true ≡ false = sym there ∙ not in cc);
    has = λ yes_. t;
  }
  then-put m q nexts.Wait back there text t = record {
    m = record m { opener = openers.Put q };
    p = q;
    is = refl;
    opener = refl;
    text = text;
    empty = λ not. absurd (let no_way : true ≡ false = sym there ∙ not in cc);
    has = λ yes_. t;
  }
  then-put m q (nexts.Done (answers.Done value)) back there text t = t
  then-put m q (nexts.Done (answers.Refused fault)) back there text t = tt

  goes-as : (next : Step) (to new : Machine) (back : Pending) → new ≡ to → PutGoes next to back → PutGoes next new back
  goes-as next to new back is t = subst (λ (n : Machine). PutGoes next n back) (sym is) t

  -- of the bytes that it has
  leaves-here : (p : PutFile) (next : Step) (state : Putting) (back : Pending) → HasText p → PutLeaves p.write.offset (writes.made_bytes p.write.text) Wrote Finished next state back
      → PutLeaves offset bytes Wrote Finished next state back
  leaves-here p next state back text l =
      subst (λ (bs : List ℕ). PutLeaves offset bs Wrote Finished next state back) text.text_is
      (subst (λ (o : ℕ). PutLeaves o (writes.made_bytes p.write.text) Wrote Finished next state back) text.offset_is l)

  at-there : (p : PutFile) (state : Putting) (back : Pending) → HasText p → PutAt offset bytes Wrote Finished state back → PutAt p.write.offset (writes.made_bytes p.write.text) Wrote Finished state back
  at-there p state back text l =
      subst (λ (o : ℕ). PutAt o (writes.made_bytes p.write.text) Wrote Finished state back) (sym text.offset_is)
      (subst (λ (bs : List ℕ). PutAt offset bs Wrote Finished state back) (sym text.text_is) l)

  module _ (wsize : ℕ) (turn : Turn) (some : 1 ≤ wsize) (old : Shelf) (free : (file : List ℕ) → IsFree turn.xid file old.back) (next : Step) (after : Shelf) where
    opener-goes : (m : PathMachine) (opener : Opener) (q : PutFile) (new : PathMachine) → m.arrived ≡ true → new ≡ record m { opener = opener } → opener ≡ openers.Put q → HasText q
        → PutLeaves offset bytes Wrote Finished next q.state after.back → PutGoes next (machines.Path new) after.back
    opener-goes m opener q new there is at text t =
        goes-as next (machines.Path (record m { opener = openers.Put q })) (machines.Path new) after.back
        (ap machines.Path (is ∙ ap (λ (o : Opener). record m { opener = o }) at)) (then-put m q next after.back there text t)

    then-goes : (m : PathMachine) (p : PutFile) (new : PathMachine) → m.arrived ≡ true → m.opener ≡ openers.Put p → HasText p → PutAt offset bytes Wrote Finished p.state old.back
        → paths.ThenResumes wsize m turn old next new after → PutGoes next (machines.Path new) after.back
    then-goes m p new there at text has t = by t.opener refl (subst (λ (o : Opener). steps.Resumes wsize (file_of o) turn old next (file_of t.opener) after) at t.step)
      where
        of : (k : Opener) → t.opener ≡ k → steps.Resumes wsize (file_of (openers.Put p)) turn old next (file_of k) after → PutGoes next (machines.Path new) after.back
        of (openers.Open o) to step = absurd (no-open o _ step.machine_is)
        of (openers.Put q) to step =
            let same : q ≡ step.machine = sym (some-put q step.machine step.machine_is) in
            let left : PutLeaves p.write.offset (writes.made_bytes p.write.text) Wrote Finished next step.machine.state after.back =
            put-resumes Wrote Finished wsize turn some p.state p old next step.machine after refl free (at-there p p.state old.back text has) step.step in
            let later : HasText step.machine = text-stays p step.machine text (resumes-text p.state wsize p turn old next step.machine after step.step) in
            opener-goes m t.opener q new there t.machine_is to (subst HasText (sym same) later)
            (subst (λ (k : PutFile). PutLeaves offset bytes Wrote Finished next k.state after.back) (sym same) (leaves-here p next step.machine.state after.back text left))

        by : (k : Opener) → t.opener ≡ k → steps.Resumes wsize (file_of (openers.Put p)) turn old next (file_of t.opener) after → PutGoes next (machines.Path new) after.back
        by k to step = of k to (subst (λ (o : Opener). steps.Resumes wsize (file_of (openers.Put p)) turn old next (file_of o) after) to step)

    -- on its way
    follows-goes : (step : WalkStep) (m : PathMachine) (p : PutFile) (new : PathMachine) → m.opener ≡ openers.Put p → m.arrived ≡ false → HasText p → IsNothing old.back
        → paths.Follows step wsize m turn old next new after → PutGoes next (machines.Path new) after.back
    follows-goes (walks.Send call) m p new at on_way text empty f =
        subst (λ (n : Step). PutGoes n (machines.Path new) after.back) (sym f.0)
        (record {
          m = m;
          p = p;
          is = ap machines.Path f.1;
          opener = at;
          text = text;
          empty = λ not. subst (λ (s : Shelf). IsNothing s.back) (sym f.2) empty;
          has = λ there. absurd (let no_way : true ≡ false = sym there ∙ on_way in cc);
        })
    follows-goes walks.Wait m p new at on_way text empty f =
        subst (λ (n : Step). PutGoes n (machines.Path new) after.back) (sym f.0)
        (record {
          m = m;
          p = p;
          is = ap machines.Path f.1;
          opener = at;
          text = text;
          empty = λ not. subst (λ (s : Shelf). IsNothing s.back) (sym f.2) empty;
          has = λ there. absurd (let no_way : true ≡ false = sym there ∙ on_way in cc);
        })
    follows-goes (walks.At dir) m p new at on_way text empty f =
        then-goes (record m { opener = placed dir m.opener; arrived = true }) (record p { opening = opening_in dir p.opening; state = putting.Opens }) new refl (ap (placed dir) at)
        (record { offset_is = text.offset_is; text_is = text.text_is }) empty f
    follows-goes (walks.Refused fault) m p new at on_way text empty f = subst (λ (n : Step). PutGoes n (machines.Path new) after.back) (sym f.0) tt

  -- a step without a reply
  path-goes : (b : Bool) (wsize : ℕ) (turn : Turn) (m : PathMachine) (p : PutFile) (old : Shelf) (next : Step) (new : PathMachine) (after : Shelf) → 1 ≤ wsize
      → ((file : List ℕ) → IsFree turn.xid file old.back) → m.arrived ≡ b → m.opener ≡ openers.Put p → HasText p → (m.arrived ≡ false → IsNothing old.back)
      → (m.arrived ≡ true → PutAt offset bytes Wrote Finished p.state old.back) → paths.PathResumes b wsize m turn old next new after → PutGoes next (machines.Path new) after.back
  path-goes true wsize turn m p old next new after some free is at text empty has r = then-goes wsize turn some old free next after m p new is at text (has is) r
  path-goes false wsize turn m p old next new after some free is at text empty has r =
      follows-goes wsize turn some (walking.go_shelf m.walk turn old) free next after (walking.go_next m.walk turn old) (record m { walk = walking.go_after m.walk turn old }) p new at is text (empty is) r

  pub runs-resumes : (wsize : ℕ) (turn : Turn) (machine : Machine) (old : Shelf) (next : Step) (new : Machine) (after : Shelf) → 1 ≤ wsize
      → ((file : List ℕ) → IsFree turn.xid file old.back) → PutRuns machine old.back → Resumes wsize machine turn old next new after → PutGoes next new after.back
  runs-resumes wsize turn machine old next new after some free k r =
      let s = (let moved : Resumes wsize (machines.Path k.m) turn old next new after = subst (λ (n : Machine). Resumes wsize n turn old next new after) k.is r in moved) in
      goes-as next (machines.Path s.machine) new after.back s.machine_is
      (path-goes k.m.arrived wsize turn k.m k.p old next s.machine after some free refl k.opener k.text k.empty k.has s.step)

  -- the first step
  pub runs-starts : (wsize : ℕ) (turn : Turn) (m : PathMachine) (p : PutFile) (old : Shelf) (next : Step) (new : Machine) (after : Shelf) → 1 ≤ wsize
      → ((file : List ℕ) → IsFree turn.xid file old.back) → m.opener ≡ openers.Put p → HasText p → PutAt offset bytes Wrote Finished p.state old.back → IsNothing old.back
      → Starts wsize (machines.Path m) turn old next new after → PutGoes next new after.back
  runs-starts wsize turn m p old next new after some free at text has empty s =
      goes-as next (machines.Path s.machine) new after.back s.machine_is
      (path-goes m.arrived wsize turn (record m { opener = begun_at (turn.moment - 1) m.opener }) (record p { opening = record p.opening { moment = turn.moment - 1 } }) old next s.machine after some free refl
      (ap (begun_at (turn.moment - 1)) at) (record { offset_is = text.offset_is; text_is = text.text_is }) (λ not. empty) (λ there. has)
      (subst (λ (o : Opener). paths.StartsIf (slot_taken o old.opens) wsize m turn old next s.machine after) at s.step))

  -- ---- a step with what came

  then-takes : (wsize : ℕ) (sent turn : Turn) (came : Result Reply Fault) (some : 1 ≤ wsize) (old : Shelf) (free : (file : List ℕ) → IsFree turn.xid file old.back) (next : Step) (after : Shelf)
      (m : PathMachine) (p : PutFile) (new : PathMachine) → m.arrived ≡ true → m.opener ≡ openers.Put p → HasText p → PutAt offset bytes Wrote Finished p.state old.back
      → SaveKnown Wrote Finished wsize turn some p.state p sent came old.back → paths.ThenTakes wsize m sent turn came old next new after → PutGoes next (machines.Path new) after.back
  then-takes wsize sent turn came some old free next after m p new there at text has known t =
      by t.opener refl (subst (λ (o : Opener). steps.Takes wsize (file_of o) sent turn came old next (file_of t.opener) after) at t.step)
    where
      may : IsNothing old.back → MayAdd p old
      may empty = record { newest = none-newest (old.seq + 1) old.back empty; last = near }
        where
          near : p.write.offset + length (writes.made_bytes p.write.text) ≤ 2 ^ 63 - 1
          near = omega (arith, last, text.offset_is, ap length text.text_is)

      stepped : (state : Putting) (new : PutFile) → p.state ≡ state → PutAt p.write.offset (writes.made_bytes p.write.text) Wrote Finished state old.back → SaveKnown Wrote Finished wsize turn some state p sent came old.back
          → puts.Takes state wsize p sent turn came old next new after → PutLeaves p.write.offset (writes.made_bytes p.write.text) Wrote Finished next new.state after.back
      stepped putting.Idle new is at known r = put-takes Wrote Finished wsize turn some putting.Idle p sent came old next new after is free (may at) at known r
      stepped putting.Opens new is at known r = put-takes Wrote Finished wsize turn some putting.Opens p sent came old next new after is free (may at) at known r
      stepped (putting.Adds file) new is at known r = absurd at
      stepped (putting.Saves s) new is at known r = saves-step s new is at known r
        where
          saves-step : (s : Saving) (new : PutFile) → p.state ≡ putting.Saves s → PutAt p.write.offset (writes.made_bytes p.write.text) Wrote Finished (putting.Saves s) old.back
              → SaveKnown Wrote Finished wsize turn some (putting.Saves s) p sent came old.back → puts.Takes (putting.Saves s) wsize p sent turn came old next new after
              → PutLeaves p.write.offset (writes.made_bytes p.write.text) Wrote Finished next new.state after.back
          saves-step s new is at known r =
              takes-save p.write.offset (writes.made_bytes p.write.text) Wrote Finished wsize p.write.lane turn some sent came s old next new.state after free at known.0 known.1 known.2 r.0

      of : (k : Opener) → t.opener ≡ k → steps.Takes wsize (file_of (openers.Put p)) sent turn came old next (file_of k) after → PutGoes next (machines.Path new) after.back
      of (openers.Open o) to step = absurd (no-open o _ step.machine_is)
      of (openers.Put q) to step =
          let same : q ≡ step.machine = sym (some-put q step.machine step.machine_is) in
          let left : PutLeaves p.write.offset (writes.made_bytes p.write.text) Wrote Finished next step.machine.state after.back =
          stepped p.state step.machine refl (at-there p p.state old.back text has) known step.step in
          let later : HasText step.machine = text-stays p step.machine text (takes-text p.state wsize p sent turn came old next step.machine after step.step) in
          opener-goes wsize turn some old free next after m t.opener q new there t.machine_is to (subst HasText (sym same) later)
          (subst (λ (k : PutFile). PutLeaves offset bytes Wrote Finished next k.state after.back) (sym same) (leaves-here p next step.machine.state after.back text left))

      by : (k : Opener) → t.opener ≡ k → steps.Takes wsize (file_of (openers.Put p)) sent turn came old next (file_of t.opener) after → PutGoes next (machines.Path new) after.back
      by k to step = of k to (subst (λ (o : Opener). steps.Takes wsize (file_of (openers.Put p)) sent turn came old next (file_of o) after) to step)

  path-takes : (b : Bool) (wsize : ℕ) (sent turn : Turn) (came : Result Reply Fault) (some : 1 ≤ wsize) (m : PathMachine) (p : PutFile) (old : Shelf) (next : Step) (new : PathMachine) (after : Shelf)
      → ((file : List ℕ) → IsFree turn.xid file old.back) → m.arrived ≡ b → m.opener ≡ openers.Put p → HasText p → (m.arrived ≡ false → IsNothing old.back)
      → (m.arrived ≡ true → PutAt offset bytes Wrote Finished p.state old.back) → (m.arrived ≡ true → SaveKnown Wrote Finished wsize turn some p.state p sent came old.back)
      → paths.PathTakes b wsize m sent turn came old next new after → PutGoes next (machines.Path new) after.back
  path-takes true wsize sent turn came some m p old next new after free is at text empty has known t =
      then-takes wsize sent turn came some old free next after m p new is at text (has is) (known is) t
  path-takes false wsize sent turn came some m p old next new after free is at text empty has known t =
      let kept = walk-takes-kept (walking.waiting_name m.walk) m.walk sent turn came old t.step t.walked.walk t.heard t.takes in
      follows-goes wsize turn some t.heard (λ file. subst (λ (q : Pending). IsFree turn.xid file q) (sym kept.back) (free file)) next after t.step t.walked p new
      (ap (λ (w : PathMachine). w.opener) t.walked_is ∙ at) (ap (λ (w : PathMachine). w.arrived) t.walked_is ∙ is) text (subst IsNothing (sym kept.back) (empty is)) t.follows

  pub runs-takes : (wsize : ℕ) (sent turn : Turn) (came : Result Reply Fault) (some : 1 ≤ wsize) (machine : Machine) (old : Shelf) (next : Step) (new : Machine) (after : Shelf)
      → ((file : List ℕ) → IsFree turn.xid file old.back) → (k : PutRuns machine old.back) → (k.m.arrived ≡ true → SaveKnown Wrote Finished wsize turn some k.p.state k.p sent came old.back)
      → Takes wsize machine sent turn came old next new after → PutGoes next new after.back
  runs-takes wsize sent turn came some machine old next new after free k known t =
      let s = (let moved : Takes wsize (machines.Path k.m) sent turn came old next new after = subst (λ (n : Machine). Takes wsize n sent turn came old next new after) k.is t in moved) in
      goes-as next (machines.Path s.machine) new after.back s.machine_is
      (path-takes k.m.arrived wsize sent turn came some k.m k.p old next s.machine after free refl k.opener k.text k.empty k.has known s.step)
