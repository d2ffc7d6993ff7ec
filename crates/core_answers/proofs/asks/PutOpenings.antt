-- How a put finds its file: by LOOKUP of its last name; so its path leads to the file that it opens.
use Rattle.core_answers.proofs.Prelude.{◌≡◌, ◌==◌, ℕ, Bool, true, false, List, [], ◌∷◌, ◌++◌, length, Option, Some, None, Result, Ok, Err, refl, sym, ap, subst, ◌∙◌, if◌then◌else◌, Attr, Mode, DirKept, looked, known_of, Fault, Entry, Reply, look_up, Asked, Turn, Led, Opening, OpeningStep, OpeningPhase, got_by, IsNamed, front_of, last_of, LeadsTo, leads-later, IsHeard, front-last}
use Rattle.file_ops.specs.Told.{found_by}
use Rattle.nfs_types.specs.declared.mode.Mode.TheVariants as modes
use Rattle.nfs_dir_calls.specs.declared.keeping.DirKept.TheVariants as dir_kept
use Rattle.world_model.specs.declared.answer.Fault.TheVariants as faults
use Rattle.world_model.specs.declared.message.Reply.TheVariants as replies
use Rattle.world_model.specs.Leads as leading
use Rattle.file_ops.specs.declared.opening.Led.TheVariants as leads
use Rattle.file_ops.specs.declared.opening.OpeningStep.TheVariants as openings
use Rattle.file_ops.specs.declared.opening.OpeningPhase.TheVariants as opening_steps
use Rattle.file_ops.specs.Opening as opening

module _ (top : List ℕ) (h : List Entry) (path : List (List ℕ)) where
  -- it makes no file, and asks for the attributes of the one to which its path leads
  abbrev pub PutStep : OpeningPhase → Type 0
  PutStep opening_steps.Look = Unit {0}
  PutStep opening_steps.Make = ⊥
  PutStep opening_steps.Find = Unit {0}
  PutStep (opening_steps.Ask file) = LeadsTo top h path file

  pub record PutOpening (o : Opening) : Type 0 where
    pub name_is : o.name ≡ last_of path
    pub mode_is : o.mode ≡ modes.W
    pub leads : LeadsTo top h (front_of path) o.dir
    pub step : PutStep o.step

  -- what a reply leads to
  abbrev PutLed : Led → Type 0
  PutLed (leads.Goes step) = PutStep step
  PutLed (leads.Opens file attr) = LeadsTo top h path file
  PutLed (leads.Knows file stamp) = LeadsTo top h path file
  PutLed (leads.Ends fault) = Unit {0}

  -- ---- LOOKUP

  found-dir : (d : List ℕ) (reply : DirKept) → IsNamed path → LeadsTo top h (front_of path) d → Asked h 0 (length h) (look_up d (last_of path)) (replies.Dir reply)
      → PutLed (opening.found (found_by (Ok (replies.Dir reply))))
  found-dir d (dir_kept.Lookup object attr dir) named l a = leading.step path (front_of path) object (last_of path) d attr dir (front-last path named) l a
  found-dir d (dir_kept.LookupFail status dir) named l a = tt
  found-dir d reply named l a = tt

  found-led : (d : List ℕ) (came : Result Reply Fault) → IsNamed path → LeadsTo top h (front_of path) d → IsHeard top h came (look_up d (last_of path))
      → PutLed (opening.found (found_by came))
  found-led d (Ok (replies.Dir reply)) named l t = found-dir d reply named l (t (replies.Dir reply) refl)
  found-led d (Ok (replies.File reply)) named l t = tt
  found-led d (Ok (replies.Mount reply)) named l t = tt
  found-led d (Err fault) named l t = tt

  look-led : (m : Mode) (d : List ℕ) (came : Result Reply Fault) → m ≡ modes.W → PutLed (opening.found (found_by came))
      → PutLed (if opening.makes m came then leads.Goes opening_steps.Make else opening.found (found_by came))
  look-led m d came is k = subst (λ (n : Mode). PutLed (if opening.makes n came then leads.Goes opening_steps.Make else opening.found (found_by came))) (sym is) k

  -- ---- GETATTR

  got-led : (file : List ℕ) (told : Result Attr Fault) → LeadsTo top h path file → PutLed (opening.got file told)
  got-led file (Ok attr) l = by (attr.kind == 1)
    where
      by : (b : Bool) → PutLed (if b then leads.Opens file attr else leads.Ends faults.Kind)
      by true = l
      by false = tt
  got-led file (Err fault) l = tt

  -- ---- a reply

  led-told : (o : Opening) (came : Result Reply Fault) → IsNamed path → PutOpening o → IsHeard top h came (opening.call_of o o.step) → PutLed (opening.told_led o came)
  led-told o came named s t = by o.step refl s.step
    where
      at : (k : OpeningPhase) → o.step ≡ k → IsHeard top h came (opening.call_of o k)
      at k is = subst (IsHeard top h came) (ap (opening.call_of o) is) t

      named-at : (k : OpeningPhase) → o.step ≡ k → opening.call_of o k ≡ look_up o.dir o.name → IsHeard top h came (look_up o.dir (last_of path))
      named-at k is same = subst (IsHeard top h came) (same ∙ ap (look_up o.dir) s.name_is) (at k is)

      by : (k : OpeningPhase) → o.step ≡ k → PutStep k → PutLed (opening.led_to o.mode k came)
      by opening_steps.Look is p = look-led o.mode o.dir came s.mode_is (found-led o.dir came named s.leads (named-at opening_steps.Look is refl))
      by opening_steps.Find is p = found-led o.dir came named s.leads (named-at opening_steps.Find is refl)
      by opening_steps.Make is p = absurd p
      by (opening_steps.Ask file) is p = got-led file (got_by came) p

  known-at : (file : List ℕ) (attr : Option Attr) (known : _) → LeadsTo top h path file → PutLed (opening.known_at file attr known)
  known-at file (Some attr) (Some stamp) l = by _
    where
      by : (b : Bool) → PutLed (if b then leads.Knows file stamp else leads.Goes (opening_steps.Ask file))
      by true = l
      by false = l
  known-at file None known l = l
  known-at file (Some attr) None l = l

  known-led : (led : Led) (now : ℕ) (attrs pages : _) → PutLed led → PutLed (opening.known_led led now attrs pages)
  known-led (leads.Goes opening_steps.Look) now attrs pages s = s
  known-led (leads.Goes opening_steps.Make) now attrs pages s = s
  known-led (leads.Goes opening_steps.Find) now attrs pages s = s
  known-led (leads.Goes (opening_steps.Ask file)) now attrs pages s = known-at file (looked file now attrs) (known_of file pages) s
  known-led (leads.Opens file attr) now attrs pages s = s
  known-led (leads.Knows file stamp) now attrs pages s = s
  known-led (leads.Ends fault) now attrs pages s = s

  led-on : (o : Opening) (now : ℕ) (came : Result Reply Fault) (attrs pages : _) → IsNamed path → PutOpening o → IsHeard top h came (opening.call_of o o.step)
      → PutLed (opening.led_on o now came attrs pages)
  led-on o now came attrs pages named s t = by o.nocto
    where
      by : (b : Bool) → PutLed (opening.known_by b (opening.told_led o came) now attrs pages)
      by true = known-led (opening.told_led o came) now attrs pages (led-told o came named s t)
      by false = led-told o came named s t

  -- ---- a step

  abbrev pub PutNext : OpeningStep → Opening → Type 0
  PutNext (openings.Send call) o = PutOpening o
  PutNext openings.Wait o = PutOpening o
  PutNext (openings.Ended (Ok file)) o = LeadsTo top h path file
  PutNext (openings.Ended (Err fault)) o = Unit {0}

  counted-opening : (o : Opening) → PutOpening o → PutOpening (opening.counted o)
  counted-opening o s = record { name_is = s.name_is; mode_is = s.mode_is; leads = s.leads; step = s.step }

  pub go-opening : (o : Opening) (turn : Turn) → PutOpening o → PutOpening (opening.go_after o turn)
  go-opening o turn s = by (opening.waits o turn)
    where
      by : (b : Bool) → PutOpening (if b then o else record o { asked = true })
      by true = s
      by false = record { name_is = s.name_is; mode_is = s.mode_is; leads = s.leads; step = s.step }

  next-as : (to step : OpeningStep) (o : Opening) → step ≡ to → PutNext to o → PutNext step o
  next-as to step o is s = subst (λ (n : OpeningStep). PutNext n o) (sym is) s

  go-next : (o : Opening) (turn : Turn) → PutOpening o → PutNext (opening.go_next o turn) (opening.go_after o turn)
  go-next o turn s = by (opening.waits o turn) (go-opening o turn s)
    where
      by : (b : Bool) → PutOpening (opening.go_after o turn) → PutNext (if b then openings.Wait else openings.Send (opening.call_of o o.step)) (opening.go_after o turn)
      by true k = k
      by false k = k

  opened : (o : Opening) (file : List ℕ) (to : _) (result : Result (List ℕ) Fault) (pages later : _) → LeadsTo top h path file → opening.FileOpened file to result pages later
      → PutNext (openings.Ended result) o
  opened o file to (Ok opened_file) pages later l f = subst (LeadsTo top h path) (sym f.0) l
  opened o file to (Err fault) pages later l f = tt

  led-next : (again : Bool) (o : Opening) (sent turn : Turn) (led : Led) (step : OpeningStep) (pages later : _) → PutOpening o → PutLed led
      → opening.LedIf again o sent turn led step pages later → PutNext step (opening.opening_after again o turn led)
  led-next true o sent turn led step pages later s d l = next-as (openings.Send (opening.call_of o o.step)) step (opening.counted o) l.0 (counted-opening o s)
  led-next false o sent turn (leads.Goes to) step pages later s d l =
      next-as (opening.go_next (opening.at_step o to) turn) step _ l.0
      (go-next (opening.at_step o to) turn (record { name_is = s.name_is; mode_is = s.mode_is; leads = s.leads; step = d }))
  led-next false o sent turn (leads.Opens file attr) (openings.Ended result) pages later s d l = opened o file _ result pages later d l
  led-next false o sent turn (leads.Opens file attr) (openings.Send call) pages later s d l = s
  led-next false o sent turn (leads.Opens file attr) openings.Wait pages later s d l = s
  led-next false o sent turn (leads.Knows file stamp) (openings.Ended result) pages later s d l = opened o file _ result pages later d l
  led-next false o sent turn (leads.Knows file stamp) (openings.Send call) pages later s d l = s
  led-next false o sent turn (leads.Knows file stamp) openings.Wait pages later s d l = s
  led-next false o sent turn (leads.Ends fault) step pages later s d l = next-as (openings.Ended (Err fault)) step o l.0 tt

  -- at what came of its call
  pub took-next : (again : Bool) (o : Opening) (sent turn : Turn) (now : ℕ) (came : Result Reply Fault) (attrs known : _) (step : OpeningStep) (pages later : _) → IsNamed path → PutOpening o
      → IsHeard top h came (opening.call_of o o.step) → opening.LedIf again o sent turn (opening.led_on o now came attrs known) step pages later
      → PutNext step (opening.opening_after again o turn (opening.led_on o now came attrs known))
  took-next again o sent turn now came attrs known step pages later named s t l =
      led-next again o sent turn (opening.led_on o now came attrs known) step pages later s (led-on o now came attrs known named s t) l

  -- it starts at its directory
  pub first-opening : (dir : List ℕ) (o : Opening) → o.name ≡ last_of path → o.mode ≡ modes.W → LeadsTo top h (front_of path) dir
      → PutOpening (record { dir = dir; name = o.name; mode = o.mode; nocto = o.nocto; moment = o.moment; step = opening.first_step o.mode; asked = false; put_off = 0 })
  first-opening dir o name_is mode_is l =
      record { name_is = name_is; mode_is = mode_is; leads = l; step = subst (λ (k : Mode). PutStep (opening.first_step k)) (sym mode_is) tt }

-- one entry more
step-later : (top : List ℕ) (h : List Entry) (e : Entry) (path : List (List ℕ)) (step : OpeningPhase) → PutStep top h path step → PutStep top (h ++ e ∷ []) path step
step-later top h e path opening_steps.Look s = tt
step-later top h e path opening_steps.Make s = s
step-later top h e path opening_steps.Find s = tt
step-later top h e path (opening_steps.Ask file) s = leads-later top h e path file s

pub opening-later : (top : List ℕ) (h : List Entry) (e : Entry) (path : List (List ℕ)) (o : Opening) → PutOpening top h path o → PutOpening top (h ++ e ∷ []) path o
opening-later top h e path o s =
    record { name_is = s.name_is; mode_is = s.mode_is; leads = leads-later top h e (front_of path) o.dir s.leads; step = step-later top h e path o.step s.step }
