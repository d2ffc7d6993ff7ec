-- What the steps of opens and puts cost, with the walk to their directory: LOOKUP, CREATE, LOOKUP and GETATTR once each.
use Rattle.core_counts.proofs.Prelude.{◌≡◌, ◌≤◌, ◌+◌, ◌||◌, ◌&&◌, ◌==◌, inl, inr, not, ℕ, Bool, true, false, List, Option, Some, None, Result, Ok, Err, refl, sym, ap, subst, ◌∙◌, arith, if◌then◌else◌, Attrs, Attr, Mode, Stamp, Opens, stamp_of, Pages, known_of, Answer, Fault, Call, Reply, Step, Shelf, Turn, Led, Opening, OpeningStep, OpeningPhase, Putting, got_by, FileMachine, Opener, file_of}
use Rattle.attr_cache.specs.Attrs.{looked}
use Rattle.nfs_types.specs.Stamps.{same_stamp}
use Rattle.file_ops.specs.Told.{found_by, made_by}
use Rattle.op_machines.specs.Openers.{placed}
use Rattle.std.specs.FinMap as finite
use Rattle.world_model.specs.declared.answer.Fault.TheVariants as faults
use Rattle.client_shelf.specs.declared.step.Step.TheVariants as nexts
use Rattle.file_ops.specs.declared.open_file.OpenFile.{OpenFile}
use Rattle.file_ops.specs.declared.opening.Led.TheVariants as leads
use Rattle.file_ops.specs.declared.opening.OpeningStep.TheVariants as openings
use Rattle.file_ops.specs.declared.opening.OpeningPhase.TheVariants as steps
use Rattle.file_ops.specs.declared.put_file.Putting.TheVariants as putting
use Rattle.file_ops.specs.OpenFile as opens
use Rattle.file_ops.specs.Opening as opening
use Rattle.op_machines.specs.declared.file_machine.FileMachine.TheVariants as files
use Rattle.op_machines.specs.declared.opener.Opener.TheVariants as openers
use Rattle.op_machines.specs.FileSteps as stepping
use Rattle.core_facts.specs.InFlight.{one_if, of_file}
use Rattle.core_answers.proofs.asks.FilesAwaited.{FileNames}
use Rattle.core_counts.proofs.counts.equal.Costs.{Costs, costs-as, TakesCosts, own-takes}

-- ---- how many calls an opening may still ask for

abbrev pub rank : OpeningPhase → Bool → ℕ
rank steps.Look true = 3
rank steps.Look false = 4
rank steps.Make true = 2
rank steps.Make false = 3
rank steps.Find true = 1
rank steps.Find false = 2
rank (steps.Ask file) true = 0
rank (steps.Ask file) false = 1

abbrev pub opening_left : Opening → ℕ
opening_left o = rank o.step o.asked

abbrev pub putting_left : Putting → Opening → ℕ
putting_left putting.Idle o = 0
putting_left putting.Opens o = opening_left o
putting_left (putting.Adds file) o = 0
putting_left (putting.Saves saving) o = 0

abbrev pub file_left : FileMachine → ℕ
file_left (files.Open m) = opening_left m.opening
file_left (files.Put m) = putting_left m.state m.opening
file_left machine = 0

rank-step : (step : OpeningPhase) → rank step true + 1 ≡ rank step false
rank-step steps.Look = refl
rank-step steps.Make = refl
rank-step steps.Find = refl
rank-step (steps.Ask file) = refl

rank-most : (step : OpeningPhase) (b : Bool) → rank step b ≤ 4
rank-most steps.Look true = omega arith
rank-most steps.Look false = omega arith
rank-most steps.Make true = omega arith
rank-most steps.Make false = omega arith
rank-most steps.Find true = omega arith
rank-most steps.Find false = omega arith
rank-most (steps.Ask file) true = omega arith
rank-most (steps.Ask file) false = omega arith

pub placed-left : (dir : List ℕ) (opener : Opener) → file_left (file_of (placed dir opener)) ≤ 4
placed-left dir (openers.Open m) = rank-most (opening.first_step m.opening.mode) false
placed-left dir (openers.Put m) = rank-most (opening.first_step m.opening.mode) false

-- ---- where an opening leads

abbrev LedFits : ℕ → Led → Type 0
LedFits n (leads.Goes step) = rank step false ≤ n
LedFits n led = Unit {0}

found-fits : (r : Result (List ℕ) Fault) (n : ℕ) → 1 ≤ n → LedFits n (opening.found r)
found-fits (Ok file) n some = some
found-fits (Err fault) n some = tt

made-fits : (r : Result (Option (List ℕ)) Fault) → LedFits 2 (opening.made r)
made-fits (Ok (Some found)) = omega arith
made-fits (Ok None) = omega arith
made-fits (Err fault) = tt

got-fits : (file : List ℕ) (r : Result Attr Fault) → LedFits 0 (opening.got file r)
got-fits file (Err fault) = tt
got-fits file (Ok attr) = by (attr.kind == 1)
  where
    by : (b : Bool) → LedFits 0 (if b then leads.Opens file attr else leads.Ends faults.Kind)
    by true = tt
    by false = tt

told-fits : (mode : Mode) (step : OpeningPhase) (came : Result Reply Fault) → LedFits (rank step true) (opening.led_to mode step came)
told-fits mode steps.Look came = by (opening.makes mode came)
  where
    by : (b : Bool) → LedFits 3 (if b then leads.Goes steps.Make else opening.found (found_by came))
    by true = omega arith
    by false = found-fits (found_by came) 3 (omega arith)
told-fits mode steps.Make came = made-fits (made_by came)
told-fits mode steps.Find came = found-fits (found_by came) 1 (omega arith)
told-fits mode (steps.Ask file) came = got-fits file (got_by came)

known-at-fits : (file : List ℕ) (attr : Option Attr) (known : Option Stamp) (n : ℕ) → 1 ≤ n → LedFits n (opening.known_at file attr known)
known-at-fits file None known n some = some
known-at-fits file (Some attr) None n some = some
known-at-fits file (Some attr) (Some stamp) n some = by ((attr.kind == 1) && same_stamp (stamp_of attr) stamp)
  where
    by : (b : Bool) → LedFits n (if b then leads.Knows file stamp else leads.Goes (steps.Ask file))
    by true = tt
    by false = some

known-fits : (led : Led) (now : ℕ) (attrs : Attrs) (pages : Pages) (n : ℕ) → LedFits n led → LedFits n (opening.known_led led now attrs pages)
known-fits (leads.Goes steps.Look) now attrs pages n f = f
known-fits (leads.Goes steps.Make) now attrs pages n f = f
known-fits (leads.Goes steps.Find) now attrs pages n f = f
known-fits (leads.Goes (steps.Ask file)) now attrs pages n f = known-at-fits file (looked file now attrs) (known_of file pages) n f
known-fits (leads.Opens file attr) now attrs pages n f = tt
known-fits (leads.Knows file stamp) now attrs pages n f = tt
known-fits (leads.Ends fault) now attrs pages n f = tt

pub led-fits : (o : Opening) (now : ℕ) (came : Result Reply Fault) (attrs : Attrs) (pages : Pages) → LedFits (rank o.step true) (opening.led_on o now came attrs pages)
led-fits o now came attrs pages = by o.nocto
  where
    by : (b : Bool) → LedFits (rank o.step true) (if b then opening.known_led (opening.told_led o came) now attrs pages else opening.told_led o came)
    by true = known-fits (opening.told_led o came) now attrs pages (rank o.step true) (told-fits o.mode o.step came)
    by false = told-fits o.mode o.step came

pub asked-some : (b : Bool) (others : ℕ) → one_if b ≡ others + 1 → b ≡ true
asked-some true others is = refl
asked-some false others is = absurd (omega (arith, is))

-- the call that a step asks for, if it does
abbrev pub SendsOf : Step → FileMachine → Type 0
SendsOf next new = (call : Call) → next ≡ nexts.Send call → FileNames new call × (1 ≤ of_file new)

module _ (P : Call → Type 0) where
  pub go-costs : (o : Opening) (turn : Turn) (had : ℕ) → opening_left o ≤ had → Costs P had (opens.goes_as (opening.go_next o turn)) (opening_left (opening.go_after o turn))
  go-costs o turn had few = by (opening.waits o turn) refl
    where
      first-false : (a b : Bool) → (a || b) ≡ false → a ≡ false
      first-false true b is = is
      first-false false b is = refl

      by : (b : Bool) → opening.waits o turn ≡ b
          → Costs P had (opens.goes_as (if b then openings.Wait else openings.Send (opening.call_of o o.step))) (opening_left (if b then o else record o { asked = true }))
      by true is = few
      by false is =
          let idle = first-false o.asked (not turn.room) is in
          let now : rank o.step false ≡ opening_left o = ap (rank o.step) (sym idle) in
          let one = rank-step o.step in
          (omega (arith, few, now, one), λ p. omega (arith, few, now, one))

  -- what it comes to, but where it has ended
  pub led-costs : (o : Opening) (sent turn : Turn) (led : Led) (step : OpeningStep) (old new : Pages) (had : ℕ) → LedFits had led → opening.LedTo o sent turn led step old new
      → ((r : Result (List ℕ) Fault) → step ≡ openings.Ended r → ⊥) → Costs P had (opens.goes_as step) (opening_left (opening.led_after o turn led))
  led-costs o sent turn (leads.Goes s) step old new had fits l open_ =
      subst (λ (n : OpeningStep). Costs P had (opens.goes_as n) (opening_left (opening.go_after (opening.at_step o s) turn))) (sym l.0) (go-costs (opening.at_step o s) turn had fits)
  led-costs o sent turn (leads.Opens file attr) (openings.Ended r) old new had fits l open_ = absurd (open_ r refl)
  led-costs o sent turn (leads.Opens file attr) (openings.Send call) old new had fits l open_ = absurd l
  led-costs o sent turn (leads.Opens file attr) openings.Wait old new had fits l open_ = absurd l
  led-costs o sent turn (leads.Knows file stamp) (openings.Ended r) old new had fits l open_ = absurd (open_ r refl)
  led-costs o sent turn (leads.Knows file stamp) (openings.Send call) old new had fits l open_ = absurd l
  led-costs o sent turn (leads.Knows file stamp) openings.Wait old new had fits l open_ = absurd l
  led-costs o sent turn (leads.Ends fault) step old new had fits l open_ = absurd (open_ (Err fault) l.0)

  -- ---- an open

  open-done : (m : OpenFile) (r : Result (List ℕ) Fault) (next : Step) (old new : Opens) → opens.Follows m (openings.Ended r) next old new → (answer : Answer) × (next ≡ nexts.Done answer)
  open-done m (Ok file) next old new f = by (finite.get old (opens.place_of m)) f
    where
      by : (o : Option _) → opens.PutsOver o (opens.place_of m) (opens.opened_of m.opening file) next old new → (answer : Answer) × (next ≡ nexts.Done answer)
      by (Some other) p = (_, p.0)
      by None (inl p) = (_, p.0)
      by None (inr p) = (_, p.0)
  open-done m (Err fault) next old new f = (_, f.0)

  pub open-takes : (m : OpenFile) (sent turn : Turn) (came : Result Reply Fault) (old : Shelf) (next : Step) (new : FileMachine) (after : Shelf) (others : ℕ) → of_file (files.Open m) ≡ others + 1
      → stepping.OpenTakes m sent turn came old next new after → TakesCosts P (opening_left m.opening) sent turn old.repeats next (file_left new) after.repeats
  open-takes m sent turn came old next new after others flight t =
      own-takes P (opening_left m.opening) (opening.opening_again m.opening sent turn came old.repeats) (opening.may_again m.opening (opening.told_led m.opening came)) sent turn old.repeats next (file_left new) after.repeats
      refl t.repeats (few (opening.opening_again m.opening sent turn came old.repeats) refl) (λ calm. rest calm)
    where
      asked : m.opening.asked ≡ true
      asked = asked-some m.opening.asked others flight

      led : Led
      led = opening.led_on m.opening turn.now came after.attrs old.pages

      had : rank m.opening.step true ≡ opening_left m.opening
      had = ap (rank m.opening.step) (sym asked)

      after-led : (l : Led) → LedFits (rank m.opening.step true) l → opening_left (opening.led_after m.opening turn l) ≤ opening_left m.opening
      after-led (leads.Goes s) fits =
          let few_of = after-go (opening.at_step m.opening s) in
          let less = few_of in
          let low : rank s false ≤ rank m.opening.step true = fits in
          omega (arith, less, low, had)
        where
          after-go : (o : Opening) → opening_left (opening.go_after o turn) ≤ rank o.step false
          after-go o = by (opening.waits o turn)
            where
              both : (b : Bool) → rank o.step b ≤ rank o.step false
              both true = let one = rank-step o.step in omega (arith, one)
              both false = omega arith

              by : (b : Bool) → opening_left (if b then o else record o { asked = true }) ≤ rank o.step false
              by true = both o.asked
              by false = both true
      after-led (leads.Opens file attr) fits = omega arith
      after-led (leads.Knows file stamp) fits = omega arith
      after-led (leads.Ends fault) fits = omega arith

      few : (b : Bool) → opening.opening_again m.opening sent turn came old.repeats ≡ b → file_left new ≤ opening_left m.opening
      few true is =
          let same = ap file_left (t.machine_is ∙ ap (λ (b : Bool). files.Open (opens.took_after b m turn came after.attrs old.pages)) is) in
          omega (arith, same)
      few false is =
          let same = ap file_left (t.machine_is ∙ ap (λ (b : Bool). files.Open (opens.took_after b m turn came after.attrs old.pages)) is) in
          let less = after-led (opening.led_on m.opening turn.now came after.attrs old.pages) (led-fits m.opening turn.now came after.attrs old.pages) in
          omega (arith, same, less)

      rest : opening.opening_again m.opening sent turn came old.repeats ≡ false → Costs P (opening_left m.opening) next (file_left new)
      rest calm = by t.steps.step refl t.steps.follows
        where
          l : opening.LedTo m.opening sent turn (opening.led_on m.opening turn.now came after.attrs old.pages) t.steps.step old.pages after.pages
          l = subst (λ (b : Bool). opening.LedIf b m.opening sent turn (opening.led_on m.opening turn.now came after.attrs old.pages) t.steps.step old.pages after.pages) calm t.steps.led

          new_is : file_left new ≡ opening_left (opening.led_after m.opening turn (opening.led_on m.opening turn.now came after.attrs old.pages))
          new_is = ap file_left (t.machine_is ∙ ap (λ (b : Bool). files.Open (opens.took_after b m turn came after.attrs old.pages)) calm)

          goes : (s : OpeningStep) → t.steps.step ≡ s → ((r : Result (List ℕ) Fault) → s ≡ openings.Ended r → ⊥) → next ≡ opens.goes_as s → Costs P (opening_left m.opening) next (file_left new)
          goes s is open_ next_is =
              costs-as P (opening_left m.opening) (opens.goes_as s) next (opening_left (opening.led_after m.opening turn (opening.led_on m.opening turn.now came after.attrs old.pages))) (file_left new) next_is new_is
              (subst (λ (n : ℕ). Costs P n (opens.goes_as s) (opening_left (opening.led_after m.opening turn (opening.led_on m.opening turn.now came after.attrs old.pages)))) had
              (led-costs m.opening sent turn (opening.led_on m.opening turn.now came after.attrs old.pages) s old.pages after.pages (rank m.opening.step true)
              (led-fits m.opening turn.now came after.attrs old.pages)
              (subst (λ (n : OpeningStep). opening.LedTo m.opening sent turn (opening.led_on m.opening turn.now came after.attrs old.pages) n old.pages after.pages) is l) open_))

          by : (s : OpeningStep) → t.steps.step ≡ s → opens.Follows m s next old.opens after.opens → Costs P (opening_left m.opening) next (file_left new)
          by (openings.Send call) is f = goes (openings.Send call) is (λ r e. absurd (cc)) f.0
          by openings.Wait is f = goes openings.Wait is (λ r e. absurd (cc)) f.0
          by (openings.Ended r) is f = let k = open-done m r next old.opens after.opens f in costs-as P (opening_left m.opening) (nexts.Done k.0) next (file_left new) (file_left new) k.1 refl tt
