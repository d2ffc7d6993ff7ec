-- An open and its walk, step by step; for which calls it asks, and what its answer shows.
use Rattle.core_facts.proofs.Prelude.{◌≡◌, ◌-◌, ◌⊎◌, inl, inr, ℕ, Bool, true, false, List, Option, Some, None, Result, Ok, Err, refl, sym, ap, subst, ◌∙◌, if◌then◌else◌, Mode, DirKept, Answer, Fault, Entry, Call, Reply, Step, Shelf, Turn, OpenFile, Led, Opening, PutFile, Walk, WalkStep, found_by, look_again, Machine, Opener, PathMachine, IsNamed, front_of, last_of, file_of}
use Rattle.nfs_types.specs.declared.mode.Mode.TheVariants as modes
use Rattle.nfs_dir_calls.specs.declared.keeping.DirKept.TheVariants as dir_kept
use Rattle.world_model.specs.declared.answer.Answer.TheVariants as answers
use Rattle.world_model.specs.declared.answer.Fault.TheVariants as faults
use Rattle.world_model.specs.declared.message.Reply.TheVariants as replies
use Rattle.client_shelf.specs.declared.step.Step.TheVariants as nexts
use Rattle.file_ops.specs.declared.opening.Led.TheVariants as leads
use Rattle.file_ops.specs.OpenFile as opens
use Rattle.file_ops.specs.Opening as opening
use Rattle.name_ops.specs.declared.walk.WalkStep.TheVariants as walks
use Rattle.name_ops.specs.Walking as walking
use Rattle.op_machines.specs.declared.file_machine.FileMachine.TheVariants as files
use Rattle.op_machines.specs.declared.machine.Machine.TheVariants as machines
use Rattle.op_machines.specs.declared.opener.Opener.TheVariants as openers
use Rattle.op_machines.specs.PathSteps as paths
use Rattle.core_facts.proofs.AllAwaited.{PathOr}
use Rattle.core_facts.proofs.Awaited.{WalkMoves, go-step, took-step}
use Rattle.core_facts.proofs.Leading.{NamesTold, LeadsTo, WalkLeads, go-leads, took-leads, end-leads, IsHeard}
use Rattle.core_facts.proofs.OneCalls.{then-as}
use Rattle.core_facts.proofs.OpenStory.{not-kind, OpeningStory, OpeningTold, StepStory, has_to, led-on, go-next, led-next, OpenAnswer, as-next, follows-then}
use Rattle.core_facts.proofs.Steps.{ThenOf}

-- ---- which opener it is

open-of : (k : Opener) (m : OpenFile) → file_of k ≡ files.Open m → k ≡ openers.Open m
open-of (openers.Open a) m is = ap openers.Open (same a m is)
  where
    same : (a b : OpenFile) → files.Open a ≡ files.Open b → a ≡ b
    same a b e = cc
open-of (openers.Put a) m is = absurd (put a m is)
  where
    put : (a : PutFile) (b : OpenFile) → files.Put a ≡ files.Open b → ⊥
    put a b e = cc

-- ---- what a step leaves as it is

after-dir : (again : Bool) (o : Opening) (turn : Turn) (led : Led) → (opening.opening_after again o turn led).dir ≡ o.dir
after-dir true o turn led = refl
after-dir false o turn (leads.Goes step) = by (opening.waits (opening.at_step o step) turn)
  where
    by : (b : Bool) → (if b then opening.at_step o step else record (opening.at_step o step) { asked = true }).dir ≡ o.dir
    by true = refl
    by false = refl
after-dir false o turn (leads.Opens file attr) = refl
after-dir false o turn (leads.Knows file stamp) = refl
after-dir false o turn (leads.Ends fault) = refl

after-nocto : (again : Bool) (o : Opening) (turn : Turn) (led : Led) → (opening.opening_after again o turn led).nocto ≡ o.nocto
after-nocto true o turn led = refl
after-nocto false o turn (leads.Goes step) = by (opening.waits (opening.at_step o step) turn)
  where
    by : (b : Bool) → (if b then opening.at_step o step else record (opening.at_step o step) { asked = true }).nocto ≡ o.nocto
    by true = refl
    by false = refl
after-nocto false o turn (leads.Opens file attr) = refl
after-nocto false o turn (leads.Knows file stamp) = refl
after-nocto false o turn (leads.Ends fault) = refl

gone-same : (b : Bool) (o : Opening) → ((if b then o else record o { asked = true }).dir ≡ o.dir) × ((if b then o else record o { asked = true }).nocto ≡ o.nocto)
gone-same true o = (refl, refl)
gone-same false o = (refl, refl)

-- ---- a walk gives no kind of file

abbrev NoKind : WalkStep → Type 0
NoKind (walks.Send call) = Unit {0}
NoKind walks.Wait = Unit {0}
NoKind (walks.At dir) = Unit {0}
NoKind (walks.Refused fault) = fault ≡ faults.Kind → ⊥

asks-kind : (name : Option (List ℕ)) (room : Bool) (w : Walk) → NoKind (walking.asks name room w)
asks-kind None room w = tt
asks-kind (Some name) true w = tt
asks-kind (Some name) false w = tt

on-kind : (w : Walk) (turn : Turn) (shelf : Shelf) → NoKind (walking.on_next w turn shelf.attrs shelf.names)
on-kind w turn shelf = asks-kind (walking.next_name (walking.walked w turn.now shelf.attrs shelf.names)) turn.room (walking.walked w turn.now shelf.attrs shelf.names)

go-kind : (w : Walk) (turn : Turn) (shelf : Shelf) → NoKind (walking.go_next w turn shelf)
go-kind w turn shelf = by w.asked
  where
    by : (b : Bool) → NoKind (if b then walks.Wait else walking.on_next w turn shelf.attrs shelf.names)
    by true = tt
    by false = on-kind w turn shelf

found-kind : (reply : DirKept) (fault : Fault) → found_by (Ok (replies.Dir reply)) ≡ Err fault → fault ≡ faults.Kind → ⊥
found-kind (dir_kept.Lookup found attr dir) fault is to = absurd (cc)
found-kind (dir_kept.LookupFail status dir) fault is to = let nfs : faults.Nfs status.0 ≡ fault = cc in let no_way : faults.Nfs status.0 ≡ faults.Kind = nfs ∙ to in cc
found-kind reply fault is to = let bad : faults.Bad 2 ≡ fault = cc in let no_way : faults.Bad 2 ≡ faults.Kind = bad ∙ to in cc

came-kind : (came : Result Reply Fault) (fault : Fault) → ((f : Fault) → came ≡ Err f → f ≡ faults.Kind → ⊥) → found_by came ≡ Err fault → fault ≡ faults.Kind → ⊥
came-kind (Ok (replies.Dir reply)) fault none is to = found-kind reply fault is to
came-kind (Ok (replies.File reply)) fault none is to = let bad : faults.Bad 2 ≡ fault = cc in let no_way : faults.Bad 2 ≡ faults.Kind = bad ∙ to in cc
came-kind (Ok (replies.Mount reply)) fault none is to = let bad : faults.Bad 2 ≡ fault = cc in let no_way : faults.Bad 2 ≡ faults.Kind = bad ∙ to in cc
came-kind (Err f) fault none is to = none f refl (let same : f ≡ fault = cc in same ∙ to)

told-kind : (told : Result (List ℕ) Fault) (w : Walk) (turn : Turn) (shelf : Shelf) → ((fault : Fault) → told ≡ Err fault → fault ≡ faults.Kind → ⊥) → NoKind (walking.told_next w told turn shelf)
told-kind (Ok found) w turn shelf none = on-kind (walking.arrived w found) turn shelf
told-kind (Err fault) w turn shelf none = none fault refl

took-kind : (name : Option (List ℕ)) (w : Walk) (sent turn : Turn) (came : Result Reply Fault) (old : Shelf) (step : WalkStep) (new : Walk) (after : Shelf)
    → ((f : Fault) → came ≡ Err f → f ≡ faults.Kind → ⊥) → walking.Takes name w sent turn came old step new after → NoKind step
took-kind None w sent turn came old step new after none k = subst NoKind (sym k.next_is) tt
took-kind (Some name) w sent turn came old step new after none k = subst NoKind (sym k.next_is) (by (look_again sent turn came old))
  where
    by : (b : Bool) → NoKind (walking.followed_next b w name (found_by came) turn k.heard)
    by true = tt
    by false = told-kind (found_by came) w turn k.heard (λ fault is. came-kind came fault none is)

module _ (top : List ℕ) (h : List Entry) (x : ℕ) (path : List (List ℕ)) (mode : Mode) (nocto : Bool) where
  -- its walk leads to its directory, and then its opening goes on
  pub record OpenRuns (machine : Machine) : Type 0 where
    pub walk : Walk
    pub opener : OpenFile
    pub arrived : Bool
    pub is : machine ≡ machines.Path (record { walk = walk; opener = openers.Open opener; arrived = arrived })
    pub nocto_is : opener.opening.nocto ≡ nocto
    pub name_is : opener.opening.name ≡ last_of path
    pub mode_is : opener.opening.mode ≡ mode
    pub on_way : arrived ≡ false → WalkLeads top h (front_of path) walk
    pub there : arrived ≡ true → OpeningStory top h x path mode opener.opening

  -- and its answer
  pub record OpenOver (answer : Answer) : Type 0 where
    pub d : List ℕ
    pub leads : LeadsTo top h (front_of path) d
    pub answer_is : OpenAnswer top h x path mode nocto d answer

  -- without a directory it is refused, for another reason
  abbrev pub Over : Answer → Type 0
  Over answer = OpenOver answer ⊎ ((fault : Fault) × (answer ≡ answers.Refused fault) × (fault ≡ faults.Kind → ⊥))

  abbrev pub StepIs : Step → Machine → Type 0
  StepIs next new = ThenOf OpenRuns Over next new

  -- what the opening comes to
  path-then : (next : Step) (n : OpenFile) (walk : Walk) (d : List ℕ) (new : Machine) → new ≡ machines.Path (record { walk = walk; opener = openers.Open n; arrived = true }) → n.opening.nocto ≡ nocto
      → n.opening.dir ≡ d → LeadsTo top h (front_of path) d
      → ThenOf (λ (k : OpenFile). OpeningStory top h x path mode k.opening) (OpenAnswer top h x path mode n.opening.nocto n.opening.dir) next n → StepIs next new
  path-then next n walk d new is same at l t = by next t
    where
      runs : OpeningStory top h x path mode n.opening → OpenRuns new
      runs s = record {
        walk = walk;
        opener = n;
        arrived = true;
        is = is;
        nocto_is = same;
        name_is = s.name_is;
        mode_is = s.mode_is;
        on_way = λ no_way. absurd (cc);
        there = λ yes_is. s;
      }

      by : (k : Step) → ThenOf (λ (k : OpenFile). OpeningStory top h x path mode k.opening) (OpenAnswer top h x path mode n.opening.nocto n.opening.dir) k n → StepIs k new
      by (nexts.Send call) s = runs s
      by nexts.Wait s = runs s
      by (nexts.Done answer) s = inl (record {
        d = d;
        leads = l;
        answer_is = subst (λ (b : Bool). OpenAnswer top h x path mode b d answer) same (subst (λ (f : List ℕ). OpenAnswer top h x path mode n.opening.nocto f answer) at s);
      })

  then-open : (wsize : ℕ) (walk : Walk) (o : OpenFile) (turn : Turn) (old : Shelf) (next : Step) (new : PathMachine) (after : Shelf) → o.opening.nocto ≡ nocto
      → OpeningStory top h x path mode o.opening → paths.ThenResumes wsize (record { walk = walk; opener = openers.Open o; arrived = true }) turn old next new after → StepIs next (machines.Path new)
  then-open wsize walk o turn old next new after same s t =
      let opener : t.opener ≡ openers.Open (opens.gone o turn) = open-of t.opener (opens.gone o turn) t.step.machine_is in
      let gone = gone-same (opening.waits o.opening turn) o.opening in
      path-then next (opens.gone o turn) walk o.opening.dir (machines.Path new)
      (ap machines.Path (t.machine_is ∙ ap (λ (k : Opener). record { walk = walk; opener = k; arrived = true }) opener)) (gone.1 ∙ same) gone.0 s.leads
      (then-as (λ (k : OpenFile). OpeningStory top h x path mode k.opening) (OpenAnswer top h x path mode (opens.gone o turn).opening.nocto (opens.gone o turn).opening.dir) _ next
      (opens.gone o turn) t.step.next_is
      (as-next top h x path mode (opening.go_next o.opening turn) (opens.gone o turn) (go-next top h x path mode o.opening turn s)))

  -- it starts at its directory
  first-story : (dir : List ℕ) (o : Opening) → o.name ≡ last_of path → o.mode ≡ mode → LeadsTo top h (front_of path) dir
      → OpeningStory top h x path mode (record { dir = dir; name = o.name; mode = o.mode; nocto = o.nocto; moment = o.moment; step = opening.first_step o.mode; asked = false; put_off = 0 })
  first-story dir o name_is mode_is l = record { name_is = name_is; mode_is = mode_is; leads = l; step = by o.mode mode_is }
    where
      by : (m : Mode) → m ≡ mode → StepStory top h x path mode dir (opening.first_step m)
      by modes.X is = has_to (sym is)
      by modes.R is = tt
      by modes.W is = tt
      by modes.RW is = tt
      by modes.C is = tt

  follows-open : (step : WalkStep) (wsize : ℕ) (walk : Walk) (o : OpenFile) (turn : Turn) (old : Shelf) (next : Step) (new : PathMachine) (after : Shelf) → o.opening.nocto ≡ nocto
      → o.opening.name ≡ last_of path → o.opening.mode ≡ mode → WalkLeads top h (front_of path) walk → WalkMoves step walk → NoKind step
      → paths.Follows step wsize (record { walk = walk; opener = openers.Open o; arrived = false }) turn old next new after → StepIs next (machines.Path new)
  follows-open step wsize walk o turn old next new after same name_is mode_is l s none f = by step s none f
    where
      runs : new ≡ record { walk = walk; opener = openers.Open o; arrived = false } → OpenRuns (machines.Path new)
      runs is = record {
        walk = walk;
        opener = o;
        arrived = false;
        is = ap machines.Path is;
        nocto_is = same;
        name_is = name_is;
        mode_is = mode_is;
        on_way = λ yes_is. l;
        there = λ no_way. absurd (cc);
      }

      by : (w : WalkStep) → WalkMoves w walk → NoKind w → paths.Follows w wsize (record { walk = walk; opener = openers.Open o; arrived = false }) turn old next new after → StepIs next (machines.Path new)
      by (walks.Send call) k z g = then-as OpenRuns Over (nexts.Send call) next (machines.Path new) g.0 (runs g.1)
      by walks.Wait k z g = then-as OpenRuns Over nexts.Wait next (machines.Path new) g.0 (runs g.1)
      by (walks.At dir) k z g = then-open wsize walk (record o { opening = record { dir = dir; name = o.opening.name; mode = o.opening.mode; nocto = o.opening.nocto; moment = o.opening.moment; step = opening.first_step o.opening.mode; asked = false; put_off = 0 } })
          turn old next new after same (first-story dir o.opening name_is mode_is (subst (λ (d : List ℕ). LeadsTo top h (front_of path) d) (sym k.0) (end-leads top h (front_of path) walk l k.1))) g
      by (walks.Refused fault) k z g = then-as OpenRuns Over (nexts.Done (answers.Refused fault)) next (machines.Path new) g.0 (inr (fault, refl, z))

  pub open-resumes : (b : Bool) (wsize : ℕ) (walk : Walk) (o : OpenFile) (turn : Turn) (old : Shelf) (next : Step) (new : PathMachine) (after : Shelf) → o.opening.nocto ≡ nocto
      → o.opening.name ≡ last_of path → o.opening.mode ≡ mode → (b ≡ false → WalkLeads top h (front_of path) walk) → (b ≡ true → OpeningStory top h x path mode o.opening) → NamesTold h old.names
      → paths.PathResumes b wsize (record { walk = walk; opener = openers.Open o; arrived = b }) turn old next new after → StepIs next (machines.Path new)
  open-resumes true wsize walk o turn old next new after same name_is mode_is l s t r = then-open wsize walk o turn old next new after same (s refl) r
  open-resumes false wsize walk o turn old next new after same name_is mode_is l s t r =
      follows-open (walking.go_next walk turn old) wsize (walking.go_after walk turn old) o turn (walking.go_shelf walk turn old) next new after same name_is mode_is
      (go-leads top h (front_of path) walk turn old t (l refl)) (go-step walk turn old) (go-kind walk turn old) r

  pub open-takes : (b : Bool) (wsize : ℕ) (walk : Walk) (o : OpenFile) (sent turn : Turn) (came : Result Reply Fault) (old : Shelf) (next : Step) (new : PathMachine) (after : Shelf) (call : Call)
      → IsNamed path → o.opening.nocto ≡ nocto → o.opening.name ≡ last_of path → o.opening.mode ≡ mode → (b ≡ false → WalkLeads top h (front_of path) walk)
      → (b ≡ true → OpeningStory top h x path mode o.opening) → NamesTold h old.names → PathOr b (record { walk = walk; opener = openers.Open o; arrived = b }) call → IsHeard top h came call
      → OpeningTold top h x path mode came call → paths.PathTakes b wsize (record { walk = walk; opener = openers.Open o; arrived = b }) sent turn came old next new after
      → StepIs next (machines.Path new)
  open-takes true wsize walk o sent turn came old next new after call named same name_is mode_is l s t e heard told k =
      let again = opening.opening_again o.opening sent turn came old.repeats in
      let led = opening.led_on o.opening turn.now came after.attrs old.pages in
      let done : OpenFile = opens.took_after again o turn came after.attrs old.pages in
      let opener : k.opener ≡ openers.Open done = open-of k.opener done k.step.machine_is in
      let mine : OpeningTold top h x path mode came (opening.call_of o.opening o.opening.step) = subst (OpeningTold top h x path mode came) e told in
      path-then next done walk o.opening.dir (machines.Path new) (ap machines.Path (k.machine_is ∙ ap (λ (q : Opener). record { walk = walk; opener = q; arrived = true }) opener))
      (after-nocto again o.opening turn led ∙ same) (after-dir again o.opening turn led) (s refl).leads
      (follows-then top h x path mode o done k.step.steps.step next old.opens after.opens
      (led-next top h x path mode again o.opening sent turn led k.step.steps.step old.pages after.pages (s refl)
      (led-on top h x path mode o.opening turn.now came after.attrs old.pages named (s refl) mine) k.step.steps.led) k.step.steps.follows)
  open-takes false wsize walk o sent turn came old next new after call named same name_is mode_is l s t e heard told k =
      let way : k.walked ≡ record { walk = k.walked.walk; opener = openers.Open o; arrived = false } = k.walked_is in
      follows-open k.step wsize k.walked.walk o turn k.heard next new after same name_is mode_is
      (took-leads top h (front_of path) walk sent turn came old k.step k.walked.walk k.heard call t (l refl) e heard k.takes)
      (took-step walk sent turn came old k.step k.walked.walk k.heard k.takes)
      (took-kind (walking.waiting_name walk) walk sent turn came old k.step k.walked.walk k.heard (λ f is to. not-kind h x call f (told.refused f is) to) k.takes)
      (subst (λ (m : PathMachine). paths.Follows k.step wsize m turn k.heard next new after) way k.follows)
