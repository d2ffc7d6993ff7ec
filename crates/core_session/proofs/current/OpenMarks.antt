-- What an open makes of its own moment, and which pages it leaves where it goes well.
use Rattle.core_session.proofs.Prelude.{◌≡◌, ◌-◌, ◌==◌, ◌&&◌, inl, inr, ℕ, Bool, true, false, List, Option, Some, None, Result, Ok, Err, refl, sym, ap, subst, ◌∙◌, if◌then◌else◌, eqb-true, Attr, Mode, Stamp, Wcc, stamp_of, Opened, Place, Opens, Pages, known_of, Answer, Fault, Call, Reply, Step, Shelf, Turn, looked, OpenFile, Led, Opening, OpeningStep, made_by, got_by, OpeningPhase, opened_pages, WalkStep, Machine, Opener, PathMachine, file_of, slot_taken, begun_at, Starts, Resumes, Takes, ThenOf, IsOn}
use Rattle.nfs_types.specs.Stamps.{same_stamp}
use Rattle.page_cache.specs.Pages.{opened}
use Rattle.attr_cache.specs.Attrs.{Attrs}
use Rattle.file_ops.specs.Told.{found_by}
use Rattle.op_machines.specs.Openers.{placed, opening_in}
use Rattle.std.specs.FinMap as finite
use Rattle.nfs_dir_calls.specs.declared.keeping.DirKept.TheVariants as found
use Rattle.nfs_file_calls.specs.declared.owned.FileKept.TheVariants as kept
use Rattle.page_cache.proofs.States.{same_stamp-is}
use Rattle.world_model.specs.declared.answer.Answer.TheVariants as answers
use Rattle.world_model.specs.declared.answer.Fault.TheVariants as faults
use Rattle.world_model.specs.declared.message.Reply.TheVariants as replies
use Rattle.client_shelf.specs.declared.step.Step.TheVariants as nexts
use Rattle.file_ops.specs.declared.opening.Led.TheVariants as leads
use Rattle.file_ops.specs.declared.opening.OpeningStep.TheVariants as openings
use Rattle.file_ops.specs.declared.opening.OpeningPhase.TheVariants as opening_steps
use Rattle.file_ops.specs.OpenFile as opens
use Rattle.file_ops.specs.Opening as opening
use Rattle.name_ops.specs.declared.walk.WalkStep.TheVariants as walks
use Rattle.name_ops.specs.Walking as walking
use Rattle.op_machines.specs.declared.file_machine.FileMachine.TheVariants as files
use Rattle.op_machines.specs.declared.machine.Machine.TheVariants as machines
use Rattle.op_machines.specs.declared.opener.Opener.TheVariants as openers
use Rattle.op_machines.specs.FileSteps as steps
use Rattle.op_machines.specs.PathSteps as paths
use Rattle.core_answers.proofs.bonds.FileCalls.{StepOn, OpeningOn, FileAsks}
use Rattle.core_answers.proofs.bonds.MachineCalls.{PathOn, PathAsks, Asks}
use Rattle.core_session.proofs.current.FedPages.{told-opens, told-knows, by-opens}

-- an open with this moment, which asks for the attributes of its file, or may go by those that are kept
pub record IsOpening (nocto : Bool) (k : ℕ) (machine : Machine) : Type 0 where
  pub m : PathMachine
  pub q : OpenFile
  pub is : machine ≡ machines.Path m
  pub opener : m.opener ≡ openers.Open q
  pub moment : q.opening.moment ≡ k
  pub asks : q.opening.nocto ≡ nocto

abbrev pub IsRefusal : Answer → Type 0
IsRefusal (answers.Done value) = ⊥
IsRefusal (answers.Refused fault) = Unit {0}

-- the step ends with a refusal, or the open goes on
abbrev pub GoesOn : Bool → ℕ → Step → Machine → Type 0
GoesOn nocto k next new = ThenOf (IsOpening nocto k) IsRefusal next new

-- ---- what is believed

-- a reply gives the file, as LOOKUP or CREATE do
pub data Gives (came : Result Reply Fault) (file : List ℕ) : Type 0 where
  by_lookup : (attr dir : Option Attr) → came ≡ Ok (replies.Dir (found.Lookup file attr dir)) → Gives came file
  by_create : (attr : Option Attr) (wcc : Wcc) → came ≡ Ok (replies.Dir (found.Create (Some file) attr wcc)) → Gives came file

goes-is : (a b : OpeningPhase) → leads.Goes a ≡ leads.Goes b → a ≡ b
goes-is a b e = cc

no-ends : (fault : Fault) (step : OpeningPhase) → leads.Ends fault ≡ leads.Goes step → ⊥
no-ends fault step e = cc

no-opens : (file : List ℕ) (attr : Attr) (step : OpeningPhase) → leads.Opens file attr ≡ leads.Goes step → ⊥
no-opens file attr step e = cc

ask-is : (a b : List ℕ) → opening_steps.Ask a ≡ opening_steps.Ask b → a ≡ b
ask-is a b e = cc

no-find : (a : List ℕ) → opening_steps.Find ≡ opening_steps.Ask a → ⊥
no-find a e = cc

no-make : (a : List ℕ) → opening_steps.Make ≡ opening_steps.Ask a → ⊥
no-make a e = cc

found-in : (came : Result Reply Fault) (file f : List ℕ) → found_by came ≡ Ok file → file ≡ f → Gives came f
found-in (Ok (replies.Dir (found.Lookup g attr dir))) file f e same =
    let is : g ≡ f = (let first : g ≡ file = cc in first) ∙ same in by_lookup attr dir (ap (λ (k : List ℕ). Ok (replies.Dir (found.Lookup k attr dir))) is)
found-in (Ok (replies.Dir (found.LookupFail status dir))) file f e same = absurd cc
found-in (Ok (replies.Dir reply)) file f e same = absurd cc
found-in (Ok (replies.File reply)) file f e same = absurd cc
found-in (Ok (replies.Mount reply)) file f e same = absurd cc
found-in (Err fault) file f e same = absurd cc

made-in : (came : Result Reply Fault) (file f : List ℕ) → made_by came ≡ Ok (Some file) → file ≡ f → Gives came f
made-in (Ok (replies.Dir (found.Create g attr wcc))) file f e same =
    let is : g ≡ Some f = (let first : g ≡ Some file = cc in first) ∙ ap Some same in by_create attr wcc (ap (λ (k : Option (List ℕ)). Ok (replies.Dir (found.Create k attr wcc))) is)
made-in (Ok (replies.Dir (found.CreateFail status wcc))) file f e same = absurd cc
made-in (Ok (replies.Dir reply)) file f e same = absurd cc
made-in (Ok (replies.File reply)) file f e same = absurd cc
made-in (Ok (replies.Mount reply)) file f e same = absurd cc
made-in (Err fault) file f e same = absurd cc

found-asks : (came : Result Reply Fault) (r : Result (List ℕ) Fault) (f : List ℕ) → found_by came ≡ r → opening.found r ≡ leads.Goes (opening_steps.Ask f) → Gives came f
found-asks came (Ok file) f is e = found-in came file f is (ask-is file f (goes-is (opening_steps.Ask file) (opening_steps.Ask f) e))
found-asks came (Err fault) f is e = absurd (no-ends fault (opening_steps.Ask f) e)

made-asks : (came : Result Reply Fault) (r : Result (Option (List ℕ)) Fault) (f : List ℕ) → made_by came ≡ r → opening.made r ≡ leads.Goes (opening_steps.Ask f) → Gives came f
made-asks came (Ok (Some file)) f is e = made-in came file f is (ask-is file f (goes-is (opening_steps.Ask file) (opening_steps.Ask f) e))
made-asks came (Ok None) f is e = absurd (no-find f (goes-is opening_steps.Find (opening_steps.Ask f) e))
made-asks came (Err fault) f is e = absurd (no-ends fault (opening_steps.Ask f) e)

look-asks : (b : Bool) (came : Result Reply Fault) (f : List ℕ) → (if b then leads.Goes opening_steps.Make else opening.found (found_by came)) ≡ leads.Goes (opening_steps.Ask f) → Gives came f
look-asks true came f e = absurd (no-make f (goes-is opening_steps.Make (opening_steps.Ask f) e))
look-asks false came f e = found-asks came (found_by came) f refl e

kind-goes : (b : Bool) (file : List ℕ) (attr : Attr) (step : OpeningPhase) → (if b then leads.Opens file attr else leads.Ends faults.Kind) ≡ leads.Goes step → ⊥
kind-goes true file attr step e = no-opens file attr step e
kind-goes false file attr step e = no-ends faults.Kind step e

got-goes : (r : Result Attr Fault) (file : List ℕ) (step : OpeningPhase) → opening.got file r ≡ leads.Goes step → ⊥
got-goes (Ok attr) file step e = kind-goes (attr.kind == 1) file attr step e
got-goes (Err fault) file step e = no-ends fault step e

told-asks : (mode : Mode) (step : OpeningPhase) (came : Result Reply Fault) (f : List ℕ) → opening.led_to mode step came ≡ leads.Goes (opening_steps.Ask f) → Gives came f
told-asks mode opening_steps.Look came f e = look-asks (opening.makes mode came) came f e
told-asks mode opening_steps.Make came f e = made-asks came (made_by came) f refl e
told-asks mode opening_steps.Find came f e = found-asks came (found_by came) f refl e
told-asks mode (opening_steps.Ask file) came f e = absurd (got-goes (got_by came) file (opening_steps.Ask f) e)

-- an open that goes by attributes that are believed: they are of the file that the reply gives, and show the known stamp
pub record Believes (nocto : Bool) (came : Result Reply Fault) (now : ℕ) (attrs : Attrs) (file : List ℕ) (stamp : Stamp) : Type 0 where
  pub attr : Attr
  pub may : nocto ≡ true
  pub gives : Gives came file
  pub looked_is : looked file now attrs ≡ Some attr
  pub kind : attr.kind ≡ 1
  pub stamp_is : stamp_of attr ≡ stamp

module _ (now : ℕ) (attrs : Attrs) (c : Pages) where
  knows-is : (a b : List ℕ) (s t : Stamp) → leads.Knows a s ≡ leads.Knows b t → (a ≡ b) × (s ≡ t)
  knows-is a b s t e = (cc, cc)

  no-knows : (step : OpeningPhase) (file : List ℕ) (s : Stamp) → leads.Goes step ≡ leads.Knows file s → ⊥
  no-knows step file s e = cc

  both-are : (a b : Bool) → (a && b) ≡ true → (a ≡ true) × (b ≡ true)
  both-are true b e = (refl, e)
  both-are false b e = absurd cc

  at-known : (came : Result Reply Fault) (f : List ℕ) (a : Option Attr) (s : Option Stamp) (file : List ℕ) (stamp : Stamp) → Gives came f → looked f now attrs ≡ a
      → opening.known_at f a s ≡ leads.Knows file stamp → Believes true came now attrs file stamp
  at-known came f None s file stamp gives is e = absurd (no-knows (opening_steps.Ask f) file stamp e)
  at-known came f (Some a) None file stamp gives is e = absurd (no-knows (opening_steps.Ask f) file stamp e)
  at-known came f (Some a) (Some s) file stamp gives is e = by ((a.kind == 1) && same_stamp (stamp_of a) s) refl e
    where
      by : (b : Bool) → ((a.kind == 1) && same_stamp (stamp_of a) s) ≡ b → (if b then leads.Knows f s else leads.Goes (opening_steps.Ask f)) ≡ leads.Knows file stamp
          → Believes true came now attrs file stamp
      by false same e = absurd (no-knows (opening_steps.Ask f) file stamp e)
      by true same e =
          let k = knows-is f file s stamp e in
          let two = both-are (a.kind == 1) (same_stamp (stamp_of a) s) same in
          record {
            attr = a;
            may = refl;
            gives = subst (Gives came) k.0 gives;
            looked_is = ap (λ (g : List ℕ). looked g now attrs) (sym k.0) ∙ is;
            kind = eqb-true a.kind 1 two.0;
            stamp_is = same_stamp-is (stamp_of a) s two.1 ∙ k.1;
          }

  led-known : (led : Led) (mode : Mode) (step : OpeningPhase) (came : Result Reply Fault) (file : List ℕ) (stamp : Stamp) → opening.led_to mode step came ≡ led
      → opening.known_led led now attrs c ≡ leads.Knows file stamp → Believes true came now attrs file stamp
  led-known (leads.Goes (opening_steps.Ask f)) mode step came file stamp is e = at-known came f (looked f now attrs) (known_of f c) file stamp (told-asks mode step came f is) refl e
  led-known (leads.Goes opening_steps.Look) mode step came file stamp is e = absurd (no-knows opening_steps.Look file stamp e)
  led-known (leads.Goes opening_steps.Make) mode step came file stamp is e = absurd (no-knows opening_steps.Make file stamp e)
  led-known (leads.Goes opening_steps.Find) mode step came file stamp is e = absurd (no-knows opening_steps.Find file stamp e)
  led-known (leads.Opens f a) mode step came file stamp is e = absurd (told-knows now attrs c mode step came file stamp (is ∙ e))
  led-known (leads.Knows f s) mode step came file stamp is e = absurd (told-knows now attrs c mode step came file stamp (is ∙ e))
  led-known (leads.Ends fault) mode step came file stamp is e = absurd (told-knows now attrs c mode step came file stamp (is ∙ e))

  by-known : (nocto : Bool) (mode : Mode) (step : OpeningPhase) (came : Result Reply Fault) (file : List ℕ) (stamp : Stamp)
      → opening.known_by nocto (opening.led_to mode step came) now attrs c ≡ leads.Knows file stamp → Believes nocto came now attrs file stamp
  by-known true mode step came file stamp e = led-known (opening.led_to mode step came) mode step came file stamp refl e
  by-known false mode step came file stamp e = absurd (told-knows now attrs c mode step came file stamp e)

-- ---- the opening

-- its moment stays, and whether it asks
pub record IsSame (o n : Opening) : Type 0 where
  pub moment : n.moment ≡ o.moment
  pub nocto : n.nocto ≡ o.nocto

go-same : (b : Bool) (o : Opening) → IsSame o (if b then o else record o { asked = true })
go-same true o = record { moment = refl; nocto = refl }
go-same false o = record { moment = refl; nocto = refl }

led-same : (o : Opening) (turn : Turn) (led : Led) → IsSame o (opening.led_after o turn led)
led-same o turn (leads.Goes step) = let s = go-same (opening.waits (opening.at_step o step) turn) (opening.at_step o step) in record { moment = s.moment; nocto = s.nocto }
led-same o turn (leads.Opens file attr) = record { moment = refl; nocto = refl }
led-same o turn (leads.Knows file stamp) = record { moment = refl; nocto = refl }
led-same o turn (leads.Ends fault) = record { moment = refl; nocto = refl }

after-same : (again : Bool) (o : Opening) (turn : Turn) (led : Led) → IsSame o (opening.opening_after again o turn led)
after-same true o turn led = record { moment = refl; nocto = refl }
after-same false o turn led = led-same o turn led

-- ---- as a machine

open-is : (a b : OpenFile) → files.Open a ≡ files.Open b → a ≡ b
open-is a b e = cc

opener-is : (o : Opener) (q : OpenFile) → file_of o ≡ files.Open q → o ≡ openers.Open q
opener-is (openers.Open z) q e = ap openers.Open (open-is z q e)
opener-is (openers.Put z) q e = absurd cc

module _ (nocto : Bool) (k : ℕ) where
  as-machine : (m : PathMachine) (o : Opener) (q : OpenFile) (p : PathMachine) (new : Machine) → new ≡ machines.Path p → p ≡ record m { opener = o } → o ≡ openers.Open q
      → q.opening.moment ≡ k → q.opening.nocto ≡ nocto → IsOpening nocto k new
  as-machine m o q p new is at opener moment asks =
      record { m = p; q = q; is = is; opener = ap (λ (z : PathMachine). z.opener) at ∙ opener; moment = moment; asks = asks }

  goes-by : (next to : Step) (new : Machine) → next ≡ to → GoesOn nocto k to new → GoesOn nocto k next new
  goes-by next to new is g = subst (λ (n : Step). GoesOn nocto k n new) (sym is) g

  go-next : (b : Bool) (call : Call) (next : Step) (new : Machine) → next ≡ opens.goes_as (if b then openings.Wait else openings.Send call) → IsOpening nocto k new → GoesOn nocto k next new
  go-next true call next new is o = goes-by next nexts.Wait new is o
  go-next false call next new is o = goes-by next (nexts.Send call) new is o

  then-resumes : (wsize : ℕ) (m : PathMachine) (q : OpenFile) (turn : Turn) (old : Shelf) (next : Step) (p : PathMachine) (new : Machine) (after : Shelf) → m.opener ≡ openers.Open q
      → q.opening.moment ≡ k → q.opening.nocto ≡ nocto → new ≡ machines.Path p → paths.ThenResumes wsize m turn old next p after → GoesOn nocto k next new
  then-resumes wsize m q turn old next p new after opener moment asks is t =
      let s : steps.OpenResumes q turn old next (file_of t.opener) after = subst (λ (o : Opener). steps.Resumes wsize (file_of o) turn old next (file_of t.opener) after) opener t.step in
      let same = go-same (opening.waits q.opening turn) q.opening in
      go-next (opening.waits q.opening turn) (opening.call_of q.opening q.opening.step) next new s.next_is
      (as-machine m t.opener (opens.gone q turn) p new is t.machine_is (opener-is t.opener (opens.gone q turn) s.machine_is) (same.moment ∙ moment) (same.nocto ∙ asks))

  follows : (step : WalkStep) (wsize : ℕ) (m : PathMachine) (q : OpenFile) (turn : Turn) (old : Shelf) (next : Step) (p : PathMachine) (new : Machine) (after : Shelf) → m.opener ≡ openers.Open q
      → q.opening.moment ≡ k → q.opening.nocto ≡ nocto → new ≡ machines.Path p → paths.Follows step wsize m turn old next p after → GoesOn nocto k next new
  follows (walks.Send call) wsize m q turn old next p new after opener moment asks is f =
      goes-by next (nexts.Send call) new f.0 (record { m = p; q = q; is = is; opener = ap (λ (z : PathMachine). z.opener) f.1 ∙ opener; moment = moment; asks = asks })
  follows walks.Wait wsize m q turn old next p new after opener moment asks is f =
      goes-by next nexts.Wait new f.0 (record { m = p; q = q; is = is; opener = ap (λ (z : PathMachine). z.opener) f.1 ∙ opener; moment = moment; asks = asks })
  follows (walks.At dir) wsize m q turn old next p new after opener moment asks is f =
      then-resumes wsize (record m { opener = placed dir m.opener; arrived = true }) (record q { opening = opening_in dir q.opening }) turn old next p new after
      (ap (placed dir) opener) moment asks is f
  follows (walks.Refused fault) wsize m q turn old next p new after opener moment asks is f = goes-by next (nexts.Done (answers.Refused fault)) new f.0 tt

  path-resumes : (b : Bool) (wsize : ℕ) (m : PathMachine) (q : OpenFile) (turn : Turn) (old : Shelf) (next : Step) (p : PathMachine) (new : Machine) (after : Shelf) → m.opener ≡ openers.Open q
      → q.opening.moment ≡ k → q.opening.nocto ≡ nocto → new ≡ machines.Path p → paths.PathResumes b wsize m turn old next p after → GoesOn nocto k next new
  path-resumes true wsize m q turn old next p new after opener moment asks is r = then-resumes wsize m q turn old next p new after opener moment asks is r
  path-resumes false wsize m q turn old next p new after opener moment asks is r =
      follows (walking.go_next m.walk turn old) wsize (record m { walk = walking.go_after m.walk turn old }) q turn (walking.go_shelf m.walk turn old) next p new after opener moment asks is r

  pub opening-resumes : (machine : Machine) (wsize : ℕ) (turn : Turn) (old : Shelf) (next : Step) (new : Machine) (after : Shelf) → IsOpening nocto k machine → Resumes wsize machine turn old next new after
      → GoesOn nocto k next new
  opening-resumes machine wsize turn old next new after o r =
      let s : Resumes wsize (machines.Path o.m) turn old next new after = subst (λ (z : Machine). Resumes wsize z turn old next new after) o.is r in
      path-resumes o.m.arrived wsize o.m o.q turn old next s.machine new after o.opener o.moment o.asks s.machine_is s.step

  -- ---- the first step

  starts-if : (taken : Bool) (wsize : ℕ) (m : PathMachine) (q : OpenFile) (turn : Turn) (old : Shelf) (next : Step) (p : PathMachine) (new : Machine) (after : Shelf) → m.opener ≡ openers.Open q
      → turn.moment - 1 ≡ k → q.opening.nocto ≡ nocto → new ≡ machines.Path p → paths.StartsIf taken wsize m turn old next p after → GoesOn nocto k next new
  starts-if true wsize m q turn old next p new after opener moment asks is s = goes-by next (nexts.Done (answers.Refused faults.Slot)) new s.0 tt
  starts-if false wsize m q turn old next p new after opener moment asks is s =
      path-resumes m.arrived wsize (record m { opener = begun_at (turn.moment - 1) m.opener }) (record q { opening = record q.opening { moment = turn.moment - 1 } }) turn old next p new after
      (ap (begun_at (turn.moment - 1)) opener) moment asks is s

  pub opening-starts : (m : PathMachine) (q : OpenFile) (wsize : ℕ) (turn : Turn) (old : Shelf) (next : Step) (new : Machine) (after : Shelf) → m.opener ≡ openers.Open q → turn.moment - 1 ≡ k
      → q.opening.nocto ≡ nocto → Starts wsize (machines.Path m) turn old next new after → GoesOn nocto k next new
  opening-starts m q wsize turn old next new after opener moment asks s =
      starts-if (slot_taken m.opener old.opens) wsize m q turn old next s.machine new after opener moment asks s.machine_is s.step

  -- ---- what came of its call

  -- It goes on, or ends with a refusal; or it goes well with the reply to GETATTR of its file, with which its pages were opened; or, where it may, with the
  -- file that a LOOKUP or CREATE gave, of which attributes are believed that show the known stamp.
  pub data Took (call : Call) (came : Result Reply Fault) (sent turn : Turn) (attrs : Attrs) (old : Pages) (next : Step) (new : Machine) (later : Pages) : Type 0 where
    took_on : GoesOn nocto k next new → Took call came sent turn attrs old next new later
    took_well : (file : List ℕ) (attr : Attr) → next ≡ opens.well → came ≡ Ok (replies.File (kept.GetAttr attr)) → IsOn file call → attr.kind ≡ 1 → later ≡ opened_pages file attr k sent turn old
        → Took call came sent turn attrs old next new later
    took_known : (file : List ℕ) (stamp : Stamp) (attr : Attr) → next ≡ opens.well → nocto ≡ true → Gives came file → looked file turn.now attrs ≡ Some attr → attr.kind ≡ 1
        → stamp_of attr ≡ stamp → later ≡ opened file stamp k old → Took call came sent turn attrs old next new later

  no-end : (b : Bool) (call : Call) (result : Result (List ℕ) Fault) → openings.Ended result ≡ (if b then openings.Wait else openings.Send call) → ⊥
  no-end true call result e = cc
  no-end false call result e = cc

  module _ (call : Call) (came : Result Reply Fault) (sent turn : Turn) where
    -- the pages with which it ends
    data Ends (attrs : Attrs) (file : List ℕ) (old later : Pages) : Type 0 where
      ends_asked : (attr : Attr) → came ≡ Ok (replies.File (kept.GetAttr attr)) → IsOn file call → attr.kind ≡ 1 → later ≡ opened_pages file attr k sent turn old → Ends attrs file old later
      ends_known : (stamp : Stamp) (attr : Attr) → nocto ≡ true → Gives came file → looked file turn.now attrs ≡ Some attr → attr.kind ≡ 1 → stamp_of attr ≡ stamp → later ≡ opened file stamp k old
          → Ends attrs file old later

    opened-as : (again : Bool) (o : Opening) (attrs : Attrs) (led : Led) (file : List ℕ) (old later : Pages) → o.moment ≡ k → o.nocto ≡ nocto → ((reply : Reply) → came ≡ Ok reply → OpeningOn o call)
        → opening.led_on o turn.now came attrs old ≡ led → opening.LedIf again o sent turn led (openings.Ended (Ok file)) old later
        → Ends attrs file old later
    opened-as true o attrs led file old later moment asks on is l = absurd (let no_way : openings.Ended (Ok file) ≡ openings.Send (opening.call_of o o.step) = l.0 in cc)
    opened-as false o attrs (leads.Goes to) file old later moment asks on is l =
        absurd (no-end (opening.waits (opening.at_step o to) turn) (opening.call_of (opening.at_step o to) to) (Ok file) l.0)
    opened-as false o attrs (leads.Opens f attr) file old later moment asks on is l =
        let told = by-opens turn.now attrs old o.nocto (opening.told_led o came) f attr is in
        let by = told-opens o.mode o.step came f attr told in
        let asked : IsOn f call = subst (λ (s : OpeningPhase). StepOn s o.dir call) by.asks (on (replies.File (kept.GetAttr attr)) by.got) in
        ends_asked attr by.got (subst (λ (g : List ℕ). IsOn g call) (sym l.0) asked) by.kind
        (l.1 ∙ ap (λ (n : ℕ). opened_pages f attr n sent turn old) moment ∙ ap (λ (g : List ℕ). opened_pages g attr k sent turn old) (sym l.0))
    opened-as false o attrs (leads.Knows f stamp) file old later moment asks on is l =
        let b = by-known turn.now attrs old o.nocto o.mode o.step came f stamp is in
        ends_known stamp b.attr (sym asks ∙ b.may) (subst (Gives came) (sym l.0) b.gives) (ap (λ (g : List ℕ). looked g turn.now attrs) l.0 ∙ b.looked_is) b.kind b.stamp_is
        (l.1 ∙ ap (λ (n : ℕ). opened f stamp n old) moment ∙ ap (λ (g : List ℕ). opened g stamp k old) (sym l.0))
    opened-as false o attrs (leads.Ends fault) file old later moment asks on is l = absurd (let no_way : openings.Ended (Ok file) ≡ openings.Ended (Err fault) = l.0 in cc)

    module _ (again : Bool) (q : OpenFile) (attrs : Attrs) (pages later : Pages) (moment : q.opening.moment ≡ k) (asks : q.opening.nocto ≡ nocto) (on : (reply : Reply) → came ≡ Ok reply → OpeningOn q.opening call) where
      ended : (file : List ℕ) (next : Step) (new : Machine) → next ≡ opens.well → Ends attrs file pages later → Took call came sent turn attrs pages next new later
      ended file next new well (ends_asked attr came_ on_ kind is) = took_well file attr well came_ on_ kind is
      ended file next new well (ends_known stamp attr may gives looked_ kind stamp_is is) = took_known file stamp attr well may gives looked_ kind stamp_is is

      puts : (file : List ℕ) (other : Option Opened) (place : Place) (of : Opened) (next : Step) (old opened : Opens) (new : Machine)
          → opening.LedIf again q.opening sent turn (opening.led_on q.opening turn.now came attrs pages) (openings.Ended (Ok file)) pages later
          → opens.PutsOver other place of next old opened → Took call came sent turn attrs pages next new later
      puts file (Some other) place of next old opened new l p = took_on (goes-by next (opens.refused faults.Slot) new p.0 tt)
      puts file None place of next old opened new l (inl p) =
          ended file next new p.0 (opened-as again q.opening attrs (opening.led_on q.opening turn.now came attrs pages) file pages later moment asks on refl l)
      puts file None place of next old opened new l (inr p) = took_on (goes-by next (opens.refused faults.Memory) new p.0 tt)

      open-follows : (step : OpeningStep) (next : Step) (old opened : Opens) (new : Machine)
          → opening.LedIf again q.opening sent turn (opening.led_on q.opening turn.now came attrs pages) step pages later → opens.Follows q step next old opened → IsOpening nocto k new
          → Took call came sent turn attrs pages next new later
      open-follows (openings.Send asked) next old opened new l f o = took_on (goes-by next (nexts.Send asked) new f.0 o)
      open-follows openings.Wait next old opened new l f o = took_on (goes-by next nexts.Wait new f.0 o)
      open-follows (openings.Ended (Ok file)) next old opened new l f o = puts file (finite.get old (opens.place_of q)) (opens.place_of q) (opens.opened_of q.opening file) next old opened new l f
      open-follows (openings.Ended (Err fault)) next old opened new l f o = took_on (goes-by next (opens.refused fault) new f.0 tt)

    path-takes : (b : Bool) (wsize : ℕ) (m : PathMachine) (q : OpenFile) (old : Shelf) (next : Step) (p : PathMachine) (new : Machine) (after : Shelf) → m.opener ≡ openers.Open q
        → q.opening.moment ≡ k → q.opening.nocto ≡ nocto → ((reply : Reply) → came ≡ Ok reply → PathOn b m call) → new ≡ machines.Path p → paths.PathTakes b wsize m sent turn came old next p after
        → Took call came sent turn after.attrs old.pages next new after.pages
    path-takes true wsize m q old next p new after opener moment asks on is t =
        let s : steps.OpenTakes q sent turn came old next (file_of t.opener) after = subst (λ (o : Opener). steps.Takes wsize (file_of o) sent turn came old next (file_of t.opener) after) opener t.step in
        let again = opening.opening_again q.opening sent turn came old.repeats in
        let asked : (reply : Reply) → came ≡ Ok reply → OpeningOn q.opening call = λ reply is. subst (λ (o : Opener). FileAsks (file_of o) call) opener (on reply is) in
        let same = after-same again q.opening turn (opening.led_on q.opening turn.now came after.attrs old.pages) in
        open-follows again q after.attrs old.pages after.pages moment asks asked s.steps.step next old.opens after.opens new s.steps.led s.steps.follows
        (as-machine m t.opener (opens.took_after again q turn came after.attrs old.pages) p new is t.machine_is
        (opener-is t.opener (opens.took_after again q turn came after.attrs old.pages) s.machine_is) (same.moment ∙ moment) (same.nocto ∙ asks))
    path-takes false wsize m q old next p new after opener moment asks on is t =
        took_on (follows t.step wsize t.walked q turn t.heard next p new after (ap (λ (z : PathMachine). z.opener) t.walked_is ∙ opener) moment asks is t.follows)

    pub opening-takes : (machine : Machine) (wsize : ℕ) (old : Shelf) (next : Step) (new : Machine) (after : Shelf) → IsOpening nocto k machine → ((reply : Reply) → came ≡ Ok reply → Asks machine call)
        → Takes wsize machine sent turn came old next new after → Took call came sent turn after.attrs old.pages next new after.pages
    opening-takes machine wsize old next new after o on t =
        let s : Takes wsize (machines.Path o.m) sent turn came old next new after = subst (λ (z : Machine). Takes wsize z sent turn came old next new after) o.is t in
        let asked : (reply : Reply) → came ≡ Ok reply → PathAsks o.m call = λ reply is. subst (λ (z : Machine). Asks z call) o.is (on reply is) in
        path-takes o.m.arrived wsize o.m o.q old next s.machine new after o.opener o.moment o.asks asked s.machine_is s.step
