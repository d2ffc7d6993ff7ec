-- The file that an opening comes to is one that its path leads to, or that its CREATE gave.
use Rattle.core_answers.proofs.Prelude.{◌≡◌, ◌==◌, ◌++◌, ℕ, Bool, true, false, List, [], ◌∷◌, length, Option, Some, None, Result, Ok, Err, refl, sym, subst, arith, if◌then◌else◌, Attr, Mode, looked, known_of, Fault, Entry, Call, Reply, Asked, Asked-grow, Asked-wide, length_last, Turn, Led, Opening, OpeningStep, OpeningPhase, got_by, IsNamed, front_of, leads-later, OpeningStory, StepStory, has_to, IsFileOf}
use Rattle.file_ops.specs.Told.{found_by, made_by}
use Rattle.core_facts.proofs.OpenStory.{OpeningTold, MayMake, missing, found, made, LedStory, led-on}
use Rattle.world_model.specs.declared.answer.Fault.TheVariants as faults
use Rattle.file_ops.specs.declared.opening.Led.TheVariants as leads
use Rattle.file_ops.specs.declared.opening.OpeningStep.TheVariants as openings
use Rattle.file_ops.specs.declared.opening.OpeningPhase.TheVariants as opening_steps
use Rattle.file_ops.specs.Opening as opening

module _ (top : List ℕ) (h : List Entry) (x : ℕ) (path : List (List ℕ)) (mode : Mode) where
  -- ---- which file it comes to

  abbrev pub LedFile : List ℕ → Led → Type 0
  LedFile d (leads.Goes step) = Unit {0}
  LedFile d (leads.Opens file attr) = IsFileOf top h x path mode d file
  LedFile d (leads.Knows file stamp) = IsFileOf top h x path mode d file
  LedFile d (leads.Ends fault) = Unit {0}

  found-none : (d : List ℕ) (r : Result (List ℕ) Fault) → LedFile d (opening.found r)
  found-none d (Ok file) = tt
  found-none d (Err fault) = tt

  made-none : (d : List ℕ) (r : Result (Option (List ℕ)) Fault) → LedFile d (opening.made r)
  made-none d (Ok (Some file)) = tt
  made-none d (Ok None) = tt
  made-none d (Err fault) = tt

  look-none : (b : Bool) (d : List ℕ) (r : Result (List ℕ) Fault) → LedFile d (if b then leads.Goes opening_steps.Make else opening.found r)
  look-none true d r = tt
  look-none false d r = found-none d r

  got-file : (d file : List ℕ) (r : Result Attr Fault) → IsFileOf top h x path mode d file → LedFile d (opening.got file r)
  got-file d file (Ok attr) of = by (attr.kind == 1)
    where
      by : (b : Bool) → LedFile d (if b then leads.Opens file attr else leads.Ends faults.Kind)
      by true = of
      by false = tt
  got-file d file (Err fault) of = tt

  led-to-file : (d : List ℕ) (m : Mode) (step : OpeningPhase) (came : Result Reply Fault) → StepStory top h x path mode d step → LedFile d (opening.led_to m step came)
  led-to-file d m opening_steps.Look came s = look-none (opening.makes m came) d (found_by came)
  led-to-file d m opening_steps.Make came s = made-none d (made_by came)
  led-to-file d m opening_steps.Find came s = found-none d (found_by came)
  led-to-file d m (opening_steps.Ask file) came s = got-file d file (got_by came) s

  known-at-file : (d file : List ℕ) (attr : Option Attr) (known : _) → IsFileOf top h x path mode d file → LedFile d (opening.known_at file attr known)
  known-at-file d file (Some attr) (Some stamp) of = by _
    where
      by : (b : Bool) → LedFile d (if b then leads.Knows file stamp else leads.Goes (opening_steps.Ask file))
      by true = of
      by false = tt
  known-at-file d file None known of = tt
  known-at-file d file (Some attr) None of = tt

  known-file : (d : List ℕ) (led : Led) (now : ℕ) (attrs pages : _) → LedStory top h x path mode false d led → LedFile d led → LedFile d (opening.known_led led now attrs pages)
  known-file d (leads.Goes opening_steps.Look) now attrs pages s f = tt
  known-file d (leads.Goes opening_steps.Make) now attrs pages s f = tt
  known-file d (leads.Goes opening_steps.Find) now attrs pages s f = tt
  known-file d (leads.Goes (opening_steps.Ask file)) now attrs pages s f = known-at-file d file (looked file now attrs) (known_of file pages) s
  known-file d (leads.Opens file attr) now attrs pages s f = f
  known-file d (leads.Knows file stamp) now attrs pages s f = f
  known-file d (leads.Ends fault) now attrs pages s f = tt

  -- as in a session that asks anew
  anew : (o : Opening) → OpeningStory top h x path mode o → OpeningStory top h x path mode (record o { nocto = false })
  anew o s = record { name_is = s.name_is; mode_is = s.mode_is; leads = s.leads; step = s.step }

  call-anew : (o : Opening) (step : OpeningPhase) → opening.call_of o step ≡ opening.call_of (record o { nocto = false }) step
  call-anew o opening_steps.Look = refl
  call-anew o opening_steps.Make = refl
  call-anew o opening_steps.Find = refl
  call-anew o (opening_steps.Ask file) = refl

  pub led-file : (o : Opening) (now : ℕ) (came : Result Reply Fault) (attrs pages : _) → IsNamed path → OpeningStory top h x path mode o
      → OpeningTold top h x path mode came (opening.call_of o o.step) → LedFile o.dir (opening.led_on o now came attrs pages)
  led-file o now came attrs pages named s t = by o.nocto
    where
      file : LedFile o.dir (opening.told_led o came)
      file = led-to-file o.dir o.mode o.step came s.step

      by : (b : Bool) → LedFile o.dir (opening.known_by b (opening.told_led o came) now attrs pages)
      by true = known-file o.dir (opening.told_led o came) now attrs pages
          (led-on top h x path mode (record o { nocto = false }) now came attrs pages named (anew o s) (subst (OpeningTold top h x path mode came) (call-anew o o.step) t)) file
      by false = file

  -- so a step that ends it well gives such a file
  abbrev pub NextFile : List ℕ → OpeningStep → Type 0
  NextFile d (openings.Send call) = Unit {0}
  NextFile d openings.Wait = Unit {0}
  NextFile d (openings.Ended (Ok file)) = IsFileOf top h x path mode d file
  NextFile d (openings.Ended (Err fault)) = Unit {0}

  next-file-as : (d : List ℕ) (to step : OpeningStep) → step ≡ to → NextFile d to → NextFile d step
  next-file-as d to step is n = subst (NextFile d) (sym is) n

  opened-file : (d file : List ℕ) (to : _) (result : Result (List ℕ) Fault) (pages later : _) → IsFileOf top h x path mode d file → opening.FileOpened file to result pages later
      → NextFile d (openings.Ended result)
  opened-file d file to (Ok opened) pages later of f = subst (IsFileOf top h x path mode d) (sym f.0) of
  opened-file d file to (Err fault) pages later of f = tt

  go-file : (d : List ℕ) (o : Opening) (turn : Turn) → NextFile d (opening.go_next o turn)
  go-file d o turn = by (opening.waits o turn)
    where
      by : (b : Bool) → NextFile d (if b then openings.Wait else openings.Send (opening.call_of o o.step))
      by true = tt
      by false = tt

  pub next-file : (again : Bool) (o : Opening) (sent turn : Turn) (led : Led) (step : OpeningStep) (pages later : _) → LedFile o.dir led
      → opening.LedIf again o sent turn led step pages later → NextFile o.dir step
  next-file true o sent turn led step pages later f l = next-file-as o.dir (openings.Send (opening.call_of o o.step)) step l.0 tt
  next-file false o sent turn (leads.Goes to) step pages later f l = next-file-as o.dir (opening.go_next (opening.at_step o to) turn) step l.0 (go-file o.dir (opening.at_step o to) turn)
  next-file false o sent turn (leads.Opens file attr) (openings.Ended result) pages later f l = opened-file o.dir file _ result pages later f l
  next-file false o sent turn (leads.Opens file attr) (openings.Send call) pages later f l = tt
  next-file false o sent turn (leads.Opens file attr) openings.Wait pages later f l = tt
  next-file false o sent turn (leads.Knows file stamp) (openings.Ended result) pages later f l = opened-file o.dir file _ result pages later f l
  next-file false o sent turn (leads.Knows file stamp) (openings.Send call) pages later f l = tt
  next-file false o sent turn (leads.Knows file stamp) openings.Wait pages later f l = tt
  next-file false o sent turn (leads.Ends fault) step pages later f l = next-file-as o.dir (openings.Ended (Err fault)) step l.0 tt

-- ---- one entry more

asked-on : (h : List Entry) (e : Entry) (x : ℕ) (call : Call) (reply : Reply) → Asked h x (length h) call reply → Asked (h ++ e ∷ []) x (length (h ++ e ∷ [])) call reply
asked-on h e x call reply a =
    let more = length_last h e in
    Asked-wide (h ++ e ∷ []) x (length h) x (length (h ++ e ∷ [])) call reply (omega arith) (omega (arith, more)) (Asked-grow h (e ∷ []) x (length h) call reply a)

module _ (top : List ℕ) (h : List Entry) (e : Entry) (x : ℕ) (path : List (List ℕ)) (mode : Mode) where
  file-later : (d file : List ℕ) → IsFileOf top h x path mode d file → IsFileOf top (h ++ e ∷ []) x path mode d file
  file-later d file (found l) = found (leads-later top h e path file l)
  file-later d file (made making attr wcc mk a) = made making attr wcc mk (asked-on h e x making _ a)

  may-later : (d : List ℕ) → MayMake top h x path mode d → MayMake top (h ++ e ∷ []) x path mode d
  may-later d (has_to is) = has_to is
  may-later d (missing reply is a none) = missing reply is (asked-on h e x _ reply a) none

  step-later : (d : List ℕ) (step : OpeningPhase) → StepStory top h x path mode d step → StepStory top (h ++ e ∷ []) x path mode d step
  step-later d opening_steps.Look s = tt
  step-later d opening_steps.Make s = may-later d s
  step-later d opening_steps.Find s = tt
  step-later d (opening_steps.Ask file) s = file-later d file s

  pub story-later : (o : Opening) → OpeningStory top h x path mode o → OpeningStory top (h ++ e ∷ []) x path mode o
  story-later o s = record { name_is = s.name_is; mode_is = s.mode_is; leads = leads-later top h e (front_of path) o.dir s.leads; step = step-later o.dir o.step s.step }
