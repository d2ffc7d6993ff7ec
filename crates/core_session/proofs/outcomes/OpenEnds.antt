-- A step of an open ends it well only at the reply to its GETATTR, or at one that gave a file of which attributes are kept.
use Rattle.core_session.proofs.Prelude.{◌≡◌, ◌==◌, ◌&&◌, inl, inr, ℕ, Bool, true, false, List, Option, Some, None, Result, Ok, Err, refl, sym, ap, subst, ◌∙◌, if◌then◌else◌, eqb-true, Attr, Mode, known_of, Fault, Value, Call, Reply, Step, Shelf, Turn, OpenFile, Led, Opening, OpeningStep, OpeningPhase, made_by, got_by, Walk, WalkStep, PathMachine}
use Rattle.file_ops.specs.Told.{found_by}
use Rattle.std.specs.FinMap as finite
use Rattle.nfs_types.specs.declared.mode.Mode.TheVariants as modes
use Rattle.attr_cache.specs.Attrs as attrs
use Rattle.world_model.specs.declared.answer.Answer.TheVariants as answers
use Rattle.world_model.specs.declared.answer.Fault.TheVariants as faults
use Rattle.world_model.specs.declared.answer.Value.TheVariants as values
use Rattle.client_shelf.specs.declared.step.Step.TheVariants as nexts
use Rattle.file_ops.specs.declared.opening.Led.TheVariants as leads
use Rattle.file_ops.specs.declared.opening.OpeningStep.TheVariants as openings
use Rattle.file_ops.specs.declared.opening.OpeningPhase.TheVariants as opening_steps
use Rattle.file_ops.specs.OpenFile as opens
use Rattle.file_ops.specs.Opening as opening
use Rattle.name_ops.specs.declared.walk.WalkStep.TheVariants as walks
use Rattle.name_ops.specs.Walking as walking
use Rattle.op_machines.specs.declared.opener.Opener.TheVariants as openers
use Rattle.op_machines.specs.PathSteps as paths

-- it ends, and well
abbrev IsWell : Step → Value → Type 0
IsWell next value = next ≡ nexts.Done (answers.Done value)

-- it doesn't
abbrev pub IsUnwell : Step → Type 0
IsUnwell next = (value : Value) → IsWell next value → ⊥

unwell-as : (to next : Step) → next ≡ to → IsUnwell to → IsUnwell next
unwell-as to next is u value well = u value (sym is ∙ well)

sends-unwell : (call : Call) → IsUnwell (nexts.Send call)
sends-unwell call value well = absurd (cc)

waits-unwell : IsUnwell nexts.Wait
waits-unwell value well = absurd (cc)

refused-unwell : (fault : Fault) → IsUnwell (nexts.Done (answers.Refused fault))
refused-unwell fault value well = absurd (cc)

-- ---- steps that no reply made possible

asks-unwell : (b : Bool) (call : Call) → IsUnwell (opens.goes_as (if b then openings.Wait else openings.Send call))
asks-unwell true call = waits-unwell
asks-unwell false call = sends-unwell call

go-unwell : (o : Opening) (turn : Turn) → IsUnwell (opens.goes_as (opening.go_next o turn))
go-unwell o turn = asks-unwell (opening.waits o turn) (opening.call_of o o.step)

then-unwell : (wsize : ℕ) (walk : Walk) (o : OpenFile) (arrived : Bool) (turn : Turn) (old : Shelf) (next : Step) (new : PathMachine) (after : Shelf)
    → paths.ThenResumes wsize (record { walk = walk; opener = openers.Open o; arrived = arrived }) turn old next new after → IsUnwell next
then-unwell wsize walk o arrived turn old next new after t = unwell-as (opens.goes_as (opening.go_next o.opening turn)) next t.step.next_is (go-unwell o.opening turn)

follows-unwell : (step : WalkStep) (wsize : ℕ) (walk : Walk) (o : OpenFile) (turn : Turn) (old : Shelf) (next : Step) (new : PathMachine) (after : Shelf)
    → paths.Follows step wsize (record { walk = walk; opener = openers.Open o; arrived = false }) turn old next new after → IsUnwell next
follows-unwell (walks.Send call) wsize walk o turn old next new after f = unwell-as (nexts.Send call) next f.0 (sends-unwell call)
follows-unwell walks.Wait wsize walk o turn old next new after f = unwell-as nexts.Wait next f.0 waits-unwell
follows-unwell (walks.At dir) wsize walk o turn old next new after f =
    then-unwell wsize walk (record o { opening = record { dir = dir; name = o.opening.name; mode = o.opening.mode; nocto = o.opening.nocto; moment = o.opening.moment; step = opening.first_step o.opening.mode; asked = false; put_off = 0 } })
    true turn old next new after f
follows-unwell (walks.Refused fault) wsize walk o turn old next new after f = unwell-as (nexts.Done (answers.Refused fault)) next f.0 (refused-unwell fault)

pub resumes-unwell : (b : Bool) (wsize : ℕ) (walk : Walk) (o : OpenFile) (turn : Turn) (old : Shelf) (next : Step) (new : PathMachine) (after : Shelf)
    → paths.PathResumes b wsize (record { walk = walk; opener = openers.Open o; arrived = b }) turn old next new after → IsUnwell next
resumes-unwell true wsize walk o turn old next new after r = then-unwell wsize walk o true turn old next new after r
resumes-unwell false wsize walk o turn old next new after r =
    follows-unwell (walking.go_next walk turn old) wsize (walking.go_after walk turn old) o turn (walking.go_shelf walk turn old) next new after r

-- the first step, of an open that begins
pub starts-unwell : (b : Bool) (wsize : ℕ) (walk : Walk) (o : OpenFile) (turn : Turn) (old : Shelf) (next : Step) (new : PathMachine) (after : Shelf)
    → paths.StartsIf b wsize (record { walk = walk; opener = openers.Open o; arrived = false }) turn old next new after → IsUnwell next
starts-unwell true wsize walk o turn old next new after s = unwell-as (nexts.Done (answers.Refused faults.Slot)) next s.0 (refused-unwell faults.Slot)
starts-unwell false wsize walk o turn old next new after s = resumes-unwell false wsize walk (opens.begun o turn) turn old next new after s

-- ---- what a reply leads to

-- a reply itself leads to no kept attributes
found-knows : (told : Result (List ℕ) Fault) (file : List ℕ) (stamp : _) → opening.found told ≡ leads.Knows file stamp → ⊥
found-knows (Ok found) file stamp is = absurd (cc)
found-knows (Err fault) file stamp is = absurd (cc)

made-knows : (told : Result (Option (List ℕ)) Fault) (file : List ℕ) (stamp : _) → opening.made told ≡ leads.Knows file stamp → ⊥
made-knows (Ok (Some found)) file stamp is = absurd (cc)
made-knows (Ok None) file stamp is = absurd (cc)
made-knows (Err fault) file stamp is = absurd (cc)

kind-knows : (b : Bool) (f : List ℕ) (attr : Attr) (file : List ℕ) (stamp : _) → (if b then leads.Opens f attr else leads.Ends faults.Kind) ≡ leads.Knows file stamp → ⊥
kind-knows true f attr file stamp is = absurd (cc)
kind-knows false f attr file stamp is = absurd (cc)

got-knows : (f : List ℕ) (told : Result Attr Fault) (file : List ℕ) (stamp : _) → opening.got f told ≡ leads.Knows file stamp → ⊥
got-knows f (Ok attr) file stamp is = kind-knows (attr.kind == 1) f attr file stamp is
got-knows f (Err fault) file stamp is = absurd (cc)

look-knows : (b : Bool) (told : Result (List ℕ) Fault) (file : List ℕ) (stamp : _) → (if b then leads.Goes opening_steps.Make else opening.found told) ≡ leads.Knows file stamp → ⊥
look-knows true told file stamp is = absurd (cc)
look-knows false told file stamp is = found-knows told file stamp is

told-knows : (step : OpeningPhase) (mode : Mode) (came : Result Reply Fault) (file : List ℕ) (stamp : _) → opening.led_to mode step came ≡ leads.Knows file stamp → ⊥
told-knows opening_steps.Look mode came file stamp is = look-knows (opening.makes mode came) (found_by came) file stamp is
told-knows opening_steps.Make mode came file stamp is = made-knows (made_by came) file stamp is
told-knows opening_steps.Find mode came file stamp is = found-knows (found_by came) file stamp is
told-knows (opening_steps.Ask f) mode came file stamp is = got-knows f (got_by came) file stamp is

-- By kept attributes it is open: the reply gave the file, and its attributes are believed.
pub record KnownAt (o : Opening) (came : Result Reply Fault) (now : ℕ) (c : attrs.Attrs) : Type 0 where
  pub file : List ℕ
  pub attr : Attr
  pub nocto : o.nocto ≡ true
  pub gave : opening.told_led o came ≡ leads.Goes (opening_steps.Ask file)
  pub believed : attrs.looked file now c ≡ Some attr
  pub kind : attr.kind ≡ 1

record KnownFile (f : List ℕ) (o : Option Attr) (file : List ℕ) : Type 0 where
  pub attr : Attr
  pub is : o ≡ Some attr
  pub same : f ≡ file
  pub kind : attr.kind ≡ 1

both-true : (a b : Bool) → (a && b) ≡ true → a ≡ true
both-true true b is = refl
both-true false b is = absurd (cc)

known-if : (b : Bool) (f : List ℕ) (attr : Attr) (kept : _) (file : List ℕ) (stamp : _) → (b ≡ true → attr.kind ≡ 1)
    → (if b then leads.Knows f kept else leads.Goes (opening_steps.Ask f)) ≡ leads.Knows file stamp → KnownFile f (Some attr) file
known-if true f attr kept file stamp kind is = record { attr = attr; is = refl; same = cc; kind = kind refl }
known-if false f attr kept file stamp kind is = absurd (cc)

known-file : (f : List ℕ) (o : Option Attr) (kept : _) (file : List ℕ) (stamp : _) → opening.known_at f o kept ≡ leads.Knows file stamp → KnownFile f o file
known-file f (Some attr) (Some own) file stamp is = known-if _ f attr own file stamp (λ t. eqb-true attr.kind 1 (both-true (attr.kind == 1) _ t)) is
known-file f None kept file stamp is = absurd (cc)
known-file f (Some attr) None file stamp is = absurd (cc)

known-led : (o : Opening) (came : Result Reply Fault) (now : ℕ) (c : attrs.Attrs) (pages : _) (led : Led) (file : List ℕ) (stamp : _) → o.nocto ≡ true → opening.told_led o came ≡ led
    → ((f : List ℕ) (s : _) → led ≡ leads.Knows f s → ⊥) → opening.known_led led now c pages ≡ leads.Knows file stamp → KnownAt o came now c
known-led o came now c pages (leads.Goes (opening_steps.Ask f)) file stamp nocto gave none is =
    let k = known-file f (attrs.looked f now c) (known_of f pages) file stamp is in
    record { file = f; attr = k.attr; nocto = nocto; gave = gave; believed = k.is; kind = k.kind }
known-led o came now c pages (leads.Goes opening_steps.Look) file stamp nocto gave none is = absurd (cc)
known-led o came now c pages (leads.Goes opening_steps.Make) file stamp nocto gave none is = absurd (cc)
known-led o came now c pages (leads.Goes opening_steps.Find) file stamp nocto gave none is = absurd (cc)
known-led o came now c pages (leads.Opens f attr) file stamp nocto gave none is = absurd (cc)
known-led o came now c pages (leads.Knows f s) file stamp nocto gave none is = absurd (none f s refl)
known-led o came now c pages (leads.Ends fault) file stamp nocto gave none is = absurd (cc)

known-by : (b : Bool) (o : Opening) (came : Result Reply Fault) (now : ℕ) (c : attrs.Attrs) (pages : _) (file : List ℕ) (stamp : _) → o.nocto ≡ b
    → opening.known_by b (opening.told_led o came) now c pages ≡ leads.Knows file stamp → KnownAt o came now c
known-by true o came now c pages file stamp nocto is =
    known-led o came now c pages (opening.told_led o came) file stamp nocto refl (λ f s. told-knows o.step o.mode came f s) is
known-by false o came now c pages file stamp nocto is = absurd (told-knows o.step o.mode came file stamp is)

pub known-at : (o : Opening) (came : Result Reply Fault) (now : ℕ) (c : attrs.Attrs) (pages : _) (file : List ℕ) (stamp : _)
    → opening.led_on o now came c pages ≡ leads.Knows file stamp → KnownAt o came now c
known-at o came now c pages file stamp is = known-by o.nocto o came now c pages file stamp refl is

-- ---- steps that take what came

-- what its reply led to, as it goes well
pub data WellLed (led : Led) : Type 0 where
  opened : (file : List ℕ) (attr : Attr) → led ≡ leads.Opens file attr → WellLed led
  knew : (file : List ℕ) (stamp : _) → led ≡ leads.Knows file stamp → WellLed led

-- a call that has no reply leads to its refusal
ends-unwell : (b : Bool) (fault : Fault) (now : ℕ) (c : attrs.Attrs) (pages : _) → WellLed (opening.known_by b (leads.Ends fault) now c pages) → ⊥
ends-unwell true fault now c pages (opened file attr is) = absurd (cc)
ends-unwell true fault now c pages (knew file stamp is) = absurd (cc)
ends-unwell false fault now c pages (opened file attr is) = absurd (cc)
ends-unwell false fault now c pages (knew file stamp is) = absurd (cc)

makes-none : (mode : Mode) (fault : Fault) → opening.makes mode (Err fault) ≡ false
makes-none modes.C fault = refl
makes-none modes.R fault = refl
makes-none modes.W fault = refl
makes-none modes.RW fault = refl
makes-none modes.X fault = refl

err-led : (step : OpeningPhase) (mode : Mode) (fault : Fault) → opening.led_to mode step (Err fault) ≡ leads.Ends fault
err-led opening_steps.Look mode fault = ap (λ (b : Bool). if b then leads.Goes opening_steps.Make else leads.Ends fault) (makes-none mode fault)
err-led opening_steps.Make mode fault = refl
err-led opening_steps.Find mode fault = refl
err-led (opening_steps.Ask file) mode fault = refl

pub err-unwell : (o : Opening) (now : ℕ) (fault : Fault) (c : attrs.Attrs) (pages : _) → WellLed (opening.led_on o now (Err fault) c pages) → ⊥
err-unwell o now fault c pages w =
    ends-unwell o.nocto fault now c pages (subst (λ (l : Led). WellLed (opening.known_by o.nocto l now c pages)) (err-led o.step o.mode fault) w)

asks-ends : (b : Bool) (call : Call) (file : List ℕ) → (if b then openings.Wait else openings.Send call) ≡ openings.Ended (Ok file) → ⊥
asks-ends true call file is = absurd (cc)
asks-ends false call file is = absurd (cc)

led-well : (again : Bool) (o : Opening) (sent turn : Turn) (led : Led) (file : List ℕ) (pages later : _) → opening.LedIf again o sent turn led (openings.Ended (Ok file)) pages later → WellLed led
led-well true o sent turn led file pages later l = absurd (let is = l.0 in cc)
led-well false o sent turn (leads.Goes step) file pages later l =
    let at : Opening = opening.at_step o step in
    absurd (asks-ends (opening.waits at turn) (opening.call_of at at.step) file (sym l.0))
led-well false o sent turn (leads.Opens f attr) file pages later l = opened f attr refl
led-well false o sent turn (leads.Knows f stamp) file pages later l = knew f stamp refl
led-well false o sent turn (leads.Ends fault) file pages later l = absurd (let is = l.0 in cc)

-- its answer is nothing more
nothing-more : (value : Value) → nexts.Done (answers.Done values.Nothing) ≡ nexts.Done (answers.Done value) → value ≡ values.Nothing
nothing-more value e = let same : values.Nothing ≡ value = cc in sym same

puts-well : (other : Option _) (place of : _) (next : Step) (old new : _) (value : Value) → opens.PutsOver other place of next old new → IsWell next value → value ≡ values.Nothing
puts-well (Some other) place of next old new value p well = absurd (unwell-as (opens.refused faults.Slot) next p.0 (refused-unwell faults.Slot) value well)
puts-well None place of next old new value (inl p) well = nothing-more value (sym p.0 ∙ well)
puts-well None place of next old new value (inr p) well = absurd (unwell-as (opens.refused faults.Memory) next p.0 (refused-unwell faults.Memory) value well)

-- The open ends well: its opening did, by this reply.
pub record EndsWell (m : OpenFile) (came : Result Reply Fault) (now : ℕ) (c : attrs.Attrs) (pages : _) (value : Value) : Type 0 where
  pub led : WellLed (opening.led_on m.opening now came c pages)
  pub gives : value ≡ values.Nothing

follows-well : (m : OpenFile) (sent turn : Turn) (came : Result Reply Fault) (c : attrs.Attrs) (again : Bool) (step : OpeningStep) (next : Step) (pages later : _) (old new : _) (value : Value)
    → opening.LedIf again m.opening sent turn (opening.led_on m.opening turn.now came c pages) step pages later → opens.Follows m step next old new → IsWell next value
    → EndsWell m came turn.now c pages value
follows-well m sent turn came c again (openings.Send call) next pages later old new value l f well = absurd (unwell-as (nexts.Send call) next f.0 (sends-unwell call) value well)
follows-well m sent turn came c again openings.Wait next pages later old new value l f well = absurd (unwell-as nexts.Wait next f.0 waits-unwell value well)
follows-well m sent turn came c again (openings.Ended (Ok file)) next pages later old new value l f well = record {
  led = led-well again m.opening sent turn (opening.led_on m.opening turn.now came c pages) file pages later l;
  gives = puts-well (finite.get old (opens.place_of m)) (opens.place_of m) (opens.opened_of m.opening file) next old new value f well;
}
follows-well m sent turn came c again (openings.Ended (Err fault)) next pages later old new value l f well =
    absurd (unwell-as (opens.refused fault) next f.0 (refused-unwell fault) value well)

-- only from its directory
pub record ArrivedWell (b : Bool) (o : OpenFile) (came : Result Reply Fault) (turn : Turn) (old after : Shelf) (value : Value) : Type 0 where
  pub arrived : b ≡ true
  pub ends : EndsWell o came turn.now after.attrs old.pages value

pub takes-well : (b : Bool) (wsize : ℕ) (walk : Walk) (o : OpenFile) (sent turn : Turn) (came : Result Reply Fault) (old : Shelf) (next : Step) (new : PathMachine) (after : Shelf) (value : Value)
    → paths.PathTakes b wsize (record { walk = walk; opener = openers.Open o; arrived = b }) sent turn came old next new after → next ≡ nexts.Done (answers.Done value)
    → ArrivedWell b o came turn old after value
takes-well true wsize walk o sent turn came old next new after value k well = record {
  arrived = refl;
  ends = follows-well o sent turn came after.attrs (opening.opening_again o.opening sent turn came old.repeats) k.step.steps.step next old.pages after.pages old.opens after.opens value
      k.step.steps.led k.step.steps.follows well;
}
takes-well false wsize walk o sent turn came old next new after value k well =
    absurd (follows-unwell k.step wsize k.walked.walk o turn k.heard next new after
    (subst (λ (m : PathMachine). paths.Follows k.step wsize m turn k.heard next new after) k.walked_is k.follows) value well)
