-- Which call an open waits for: that of its step.
use Rattle.core_facts.proofs.Prelude.{◌≡◌, ◌≤◌, ◌+◌, ℕ, Bool, true, false, Option, Some, None, Ok, Err, inl, inr, refl, sym, ap, subst, ◌∙◌, arith, if◌then◌else◌, Opened, Place, Opens, Pages, Call, Step, Turn, OpenFile, Led, Opening, OpeningStep, OpeningPhase, one_if, of_opening}
use Rattle.std.specs.FinMap as finite
use Rattle.client_shelf.specs.declared.step.Step.TheVariants as nexts
use Rattle.file_ops.specs.declared.opening.Led.TheVariants as leads
use Rattle.file_ops.specs.declared.opening.OpeningStep.TheVariants as openings
use Rattle.file_ops.specs.declared.opening.OpeningPhase.TheVariants as steps
use Rattle.file_ops.specs.OpenFile as opens
use Rattle.file_ops.specs.Opening as opening
use Rattle.file_ops.proofs.Openings.{counted-call}
use Rattle.core_facts.proofs.Steps.{AskedOf, KeptOf}

abbrev pub OpeningExpects : Opening → Call → Type 0
OpeningExpects o call = call ≡ opening.call_of o o.step

abbrev pub OpenExpects : OpenFile → Call → Type 0
OpenExpects m call = OpeningExpects m.opening call

pub record OpenSteps (others : ℕ) (old : OpenFile) (next : Step) (new : OpenFile) : Type 0 where
  pub asked : AskedOf OpenExpects next new
  pub kept : KeptOf OpenExpects others old next new

-- ---- an opening that asks

call-same : (o : Opening) (step : OpeningPhase) (asked : Bool) → opening.call_of (record o { asked = asked }) step ≡ opening.call_of o step
call-same o steps.Look asked = refl
call-same o steps.Make asked = refl
call-same o steps.Find asked = refl
call-same o (steps.Ask file) asked = refl

abbrev WaitsOr : Bool → Opening → Opening
WaitsOr b o = if b then o else record o { asked = true }

waits-same : (b : Bool) (o : Opening) → opening.call_of (WaitsOr b o) (WaitsOr b o).step ≡ opening.call_of o o.step
waits-same true o = refl
waits-same false o = call-same o o.step true

go-same : (o : Opening) (turn : Turn) → opening.call_of (opening.go_after o turn) (opening.go_after o turn).step ≡ opening.call_of o o.step
go-same o turn = waits-same (opening.waits o turn) o

one-call : (a b : Call) → openings.Send a ≡ openings.Send b → a ≡ b
one-call a b e = cc

one-next : (a b : Call) → nexts.Send a ≡ nexts.Send b → a ≡ b
one-next a b e = cc

pub go-asks : (o : Opening) (turn : Turn) (call : Call) → opening.go_next o turn ≡ openings.Send call → OpeningExpects (opening.go_after o turn) call
go-asks o turn call is = by (opening.waits o turn) is ∙ sym (go-same o turn)
  where
    by : (b : Bool) → (if b then openings.Wait else openings.Send (opening.call_of o o.step)) ≡ openings.Send call → call ≡ opening.call_of o o.step
    by true e = absurd (cc)
    by false e = sym (one-call (opening.call_of o o.step) call e)

goes-send : (step : OpeningStep) (call : Call) → opens.goes_as step ≡ nexts.Send call → step ≡ openings.Send call
goes-send (openings.Send c) call e = ap openings.Send (one-next c call e)
goes-send openings.Wait call e = absurd (cc)
goes-send (openings.Ended (Ok file)) call e = absurd (cc)
goes-send (openings.Ended (Err fault)) call e = absurd (cc)

-- ---- a reply

led-asks : (again : Bool) (o : Opening) (sent turn : Turn) (led : Led) (step : OpeningStep) (pages later : Pages) (call : Call) → opening.LedIf again o sent turn led step pages later
    → step ≡ openings.Send call → OpeningExpects (opening.opening_after again o turn led) call
led-asks true o sent turn led step pages later call l is = sym (one-call (opening.call_of o o.step) call (sym l.0 ∙ is)) ∙ sym (counted-call o o.step)
led-asks false o sent turn (leads.Goes s) step pages later call l is = go-asks (opening.at_step o s) turn call (sym l.0 ∙ is)
led-asks false o sent turn (leads.Opens file attr) step pages later call l is =
    absurd (subst (λ (n : OpeningStep). opening.LedTo o sent turn (leads.Opens file attr) n pages later) is l)
led-asks false o sent turn (leads.Knows file stamp) step pages later call l is =
    absurd (subst (λ (n : OpeningStep). opening.LedTo o sent turn (leads.Knows file stamp) n pages later) is l)
led-asks false o sent turn (leads.Ends fault) step pages later call l is = absurd (let no_way : openings.Ended (Err fault) ≡ openings.Send call = sym l.0 ∙ is in cc)

puts-send : (there : Option Opened) (place : Place) (of : Opened) (next : Step) (old new : Opens) (call : Call) → opens.PutsOver there place of next old new → next ≡ nexts.Send call → ⊥
puts-send (Some other) place of next old new call p is = let no_way : opens.refused _ ≡ nexts.Send call = sym p.0 ∙ is in cc
puts-send None place of next old new call (inl p) is = let no_way : opens.well ≡ nexts.Send call = sym p.0 ∙ is in cc
puts-send None place of next old new call (inr p) is = let no_way : opens.refused _ ≡ nexts.Send call = sym p.0 ∙ is in cc

follows-send : (m : OpenFile) (step : OpeningStep) (next : Step) (old new : Opens) (call : Call) → opens.Follows m step next old new → next ≡ nexts.Send call → step ≡ openings.Send call
follows-send m (openings.Send c) next old new call f is = ap openings.Send (one-next c call (sym f.0 ∙ is))
follows-send m openings.Wait next old new call f is = absurd (let no_way : nexts.Wait ≡ nexts.Send call = sym f.0 ∙ is in cc)
follows-send m (openings.Ended (Ok file)) next old new call f is =
    absurd (puts-send (finite.get old (opens.place_of m)) (opens.place_of m) (opens.opened_of m.opening file) next old new call f is)
follows-send m (openings.Ended (Err fault)) next old new call f is = absurd (let no_way : opens.refused fault ≡ nexts.Send call = sym f.0 ∙ is in cc)

-- ---- the operation

asked-by : (next : Step) (new : OpenFile) → ((call : Call) → next ≡ nexts.Send call → OpenExpects new call) → AskedOf OpenExpects next new
asked-by (nexts.Send call) new any = any call refl
asked-by nexts.Wait new any = tt
asked-by (nexts.Done answer) new any = tt

kept-by : (others : ℕ) (old : OpenFile) (next : Step) (new : OpenFile) → (1 ≤ others → (c : Call) → OpenExpects old c → OpenExpects new c) → KeptOf OpenExpects others old next new
kept-by others old (nexts.Send call) new any = any
kept-by others old nexts.Wait new any = any
kept-by others old (nexts.Done answer) new any = tt

pub open-resumes : (others : ℕ) (m : OpenFile) (turn : Turn) (next : Step) → next ≡ opens.goes_as (opening.go_next m.opening turn) → OpenSteps others m next (opens.gone m turn)
open-resumes others m turn next is = record {
  asked = asked-by next (opens.gone m turn) (λ call e. go-asks m.opening turn call (goes-send (opening.go_next m.opening turn) call (sym is ∙ e)));
  kept = kept-by others m next (opens.gone m turn) (λ some c e. e ∙ sym (go-same m.opening turn));
}

one-most : (b : Bool) → one_if b ≤ 1
one-most true = omega arith
one-most false = omega arith

pub open-takes : (again : Bool) (m : OpenFile) (sent turn : Turn) (led : Led) (step : OpeningStep) (next : Step) (pages later : Pages) (old new : Opens) (others : ℕ)
    → of_opening m.opening ≡ others + 1 → opening.LedIf again m.opening sent turn led step pages later → opens.Follows m step next old new
    → OpenSteps others m next (record m { opening = opening.opening_after again m.opening turn led })
open-takes again m sent turn led step next pages later old new others one l f = record {
  asked = asked-by next after (λ call e. led-asks again m.opening sent turn led step pages later call l (follows-send m step next old new call f e));
  kept = kept-by others m next after (λ some. absurd (let most = one-most m.opening.asked in omega (arith, one, most, some)));
}
  where
    after : OpenFile
    after = record m { opening = opening.opening_after again m.opening turn led }
