-- What the steps of puts cost: those of their opening. Their WRITEs and COMMITs don't count.
use Rattle.core_counts.proofs.Prelude.{◌≡◌, ◌≤◌, ◌+◌, inl, inr, ℕ, Bool, true, false, List, Result, Ok, Err, refl, sym, ap, subst, ◌∙◌, arith, Fault, Call, Reply, Step, Repeat, Shelf, Turn, repeats_after, is_first, Led, Opening, OpeningStep, PutFile, Putting, Saving, Writing, by-step, Saves, joined}
use Rattle.world_model.specs.declared.answer.Answer.TheVariants as answers
use Rattle.client_shelf.specs.declared.step.Step.TheVariants as nexts
use Rattle.file_ops.specs.declared.opening.OpeningStep.TheVariants as openings
use Rattle.file_ops.specs.declared.put_file.Putting.TheVariants as putting
use Rattle.file_ops.specs.declared.write_file.Writing.TheVariants as writing
use Rattle.file_ops.specs.OpenFile as opens
use Rattle.file_ops.specs.Opening as opening
use Rattle.file_ops.specs.PutFile as puts
use Rattle.file_ops.specs.Saves as saves
use Rattle.op_machines.specs.declared.file_machine.FileMachine.TheVariants as files
use Rattle.core_facts.specs.InFlight.{of_putting}
use Rattle.core_answers.proofs.asks.FilesAwaited.{StateNames}
use Rattle.core_counts.proofs.counts.equal.Costs.{Costs, costs-as, TakesCosts, repeats_it, goes_on}
use Rattle.core_counts.proofs.counts.equal.Tables.{Tabled}
use Rattle.core_counts.proofs.counts.listed.Laws.{table-again}
use Rattle.core_counts.proofs.counts.equal.Files.{SendsOf, rank, opening_left, putting_left, led-fits, go-costs, led-costs, asked-some}

abbrev pub IsQuiet : Putting → Type 0
IsQuiet putting.Idle = Unit {0}
IsQuiet putting.Opens = ⊥
IsQuiet (putting.Adds file) = Unit {0}
IsQuiet (putting.Saves saving) = Unit {0}

abbrev pub put_left : PutFile → ℕ
put_left p = putting_left p.state p.opening

quiet-none : (s : Putting) (o : Opening) → IsQuiet s → putting_left s o ≡ 0
quiet-none putting.Idle o q = refl
quiet-none putting.Opens o q = absurd q
quiet-none (putting.Adds file) o q = refl
quiet-none (putting.Saves saving) o q = refl

quiet-at : (s state : Putting) → state ≡ s → IsQuiet s → IsQuiet state
quiet-at s state is q = subst IsQuiet (sym is) q

follows-quiet : (gives : _) (lane : ℕ) (saving : Saving) (old : Shelf) (next : Step) (state : Putting) (new : Shelf) → puts.Follows gives lane saving old next state new → IsQuiet state
follows-quiet gives lane saving old next state new f = by-step (λ g. puts.Follows g lane saving old next state new → IsQuiet state)
    (λ call l. quiet-at (putting.Saves saving) state l.1 tt) (λ l. quiet-at (putting.Saves saving) state l.1 tt) (λ result l. quiet-at putting.Idle state l.state_is tt) gives f

queues-quiet : (b : Bool) (wsize lane : ℕ) (turn : Turn) (saving : Saving) (old : Shelf) (next : Step) (state : Putting) (new : Shelf) → puts.QueuesIf b wsize lane turn saving old next state new
    → IsQuiet state
queues-quiet true wsize lane turn saving old next state new q = follows-quiet q.gives lane q.saved q.gone next state new q.follows
queues-quiet false wsize lane turn saving old next state new q = quiet-at (putting.Saves saving) state q.state_is tt

after-quiet : (told : Step) (wsize lane : ℕ) (file : List ℕ) (turn : Turn) (shelf : Shelf) (next : Step) (state : Putting) (new : Shelf)
    → puts.AfterWrite told wsize lane file turn shelf next state new → IsQuiet state
after-quiet (nexts.Send call) wsize lane file turn shelf next state new a = quiet-at (putting.Adds file) state a.1 tt
after-quiet nexts.Wait wsize lane file turn shelf next state new a = quiet-at (putting.Adds file) state a.1 tt
after-quiet (nexts.Done (answers.Done value)) wsize lane file turn shelf next state new a =
    queues-quiet (is_first lane (joined lane file shelf).order) wsize lane turn (saves.begun file shelf.seq) (joined lane file shelf) next state new a
after-quiet (nexts.Done (answers.Refused fault)) wsize lane file turn shelf next state new a = quiet-at putting.Idle state a.state_is tt

module _ (P : Call → Type 0) (no_saved : (f : List ℕ) (call : Call) → Saves f call → P call → ⊥) where
  saved-by : (s : Putting) (o : Opening) (w : Writing) (call : Call) → IsQuiet s → StateNames s w call → 1 ≤ of_putting s o w → P call → ⊥
  saved-by putting.Idle o w call q named some p = absurd (omega (arith, some))
  saved-by putting.Opens o w call q named some p = q
  saved-by (putting.Adds file) o writing.Idle call q named some p = absurd (omega (arith, some))
  saved-by (putting.Adds file) o (writing.Room f saving) call q named some p = no_saved saving.file call named p
  saved-by (putting.Saves saving) o w call q named some p = no_saved saving.file call named p

  quiet-costs : (new : PutFile) (next : Step) (had : ℕ) → IsQuiet new.state → SendsOf next (files.Put new) → Costs P had next (put_left new)
  quiet-costs new (nexts.Send call) had q s =
      let none = quiet-none new.state new.opening q in
      let n = s call refl in
      (omega (arith, none), λ p. absurd (saved-by new.state new.opening new.write.state call q n.0 n.1 p))
  quiet-costs new nexts.Wait had q s = let none = quiet-none new.state new.opening q in omega (arith, none)
  quiet-costs new (nexts.Done answer) had q s = tt

  tabled-quiet : (had : ℕ) (sent turn : Turn) (old : List Repeat) (next : Step) (new : PutFile) (later : List Repeat) → IsQuiet new.state → SendsOf next (files.Put new) → Tabled sent turn old next later
      → TakesCosts P had sent turn old next (put_left new) later
  tabled-quiet had sent turn old next new later q s (inl k) = repeats_it k.2 (let none = quiet-none new.state new.opening q in omega (arith, none))
  tabled-quiet had sent turn old next new later q s (inr table) = goes_on table (quiet-costs new next had q s)

  pub put-resumes : (at : Putting) (wsize : ℕ) (m : PutFile) (turn : Turn) (old : Shelf) (next : Step) (new : PutFile) (after : Shelf) → m.state ≡ at → puts.Resumes at wsize m turn old next new after
      → SendsOf next (files.Put new) → Costs P (putting_left at m.opening) next (put_left new)
  put-resumes putting.Idle wsize m turn old next new after is r s =
      costs-as P 0 nexts.Wait next 0 (put_left new) r.next_is (ap put_left r.machine_is ∙ ap (λ (state : Putting). putting_left state m.opening) is) (omega arith)
  put-resumes putting.Opens wsize m turn old next new after is r s =
      costs-as P (opening_left m.opening) (opens.goes_as (opening.go_next m.opening turn)) next (opening_left (opening.go_after m.opening turn)) (put_left new) r.0
      (ap put_left r.1 ∙ ap (λ (state : Putting). putting_left state (opening.go_after m.opening turn)) is) (go-costs P m.opening turn (opening_left m.opening) (omega arith))
  put-resumes (putting.Adds file) wsize m turn old next new after is r s =
      quiet-costs new next 0 (after-quiet r.told wsize m.write.lane file turn r.mid next new.state after r.goes.follows) s
  put-resumes (putting.Saves saving) wsize m turn old next new after is r s =
      quiet-costs new next 0 (queues-quiet (is_first m.write.lane old.order) wsize m.write.lane turn saving old next new.state after r.0) s

  opening-takes : (b : Bool) (wsize : ℕ) (m : PutFile) (sent turn : Turn) (came : Result Reply Fault) (old took : Shelf) (step : OpeningStep) (next : Step) (new : PutFile) (after : Shelf) → m.state ≡ putting.Opens
      → m.opening.asked ≡ true → opening.opening_again m.opening sent turn came old.repeats ≡ b
      → took.repeats ≡ repeats_after (opening.may_again m.opening (opening.told_led m.opening came)) sent turn old.repeats
      → opening.LedIf b m.opening sent turn (opening.led_on m.opening turn.now came took.attrs old.pages) step old.pages took.pages
      → puts.AfterOpening step wsize (puts.led b m turn came took.attrs old.pages) turn took next new after → SendsOf next (files.Put new) → Tabled sent turn old.repeats next after.repeats
      → TakesCosts P (opening_left m.opening) sent turn old.repeats next (put_left new) after.repeats
  opening-takes true wsize m sent turn came old took (openings.Send call) next new after is asked again table l f s w =
      repeats_it (table-again true (opening.may_again m.opening (opening.told_led m.opening came)) sent turn old.repeats after.repeats again (ap (λ (q : Shelf). q.repeats) f.2 ∙ table))
      (let same = ap put_left f.1 ∙ ap (λ (state : Putting). putting_left state (opening.counted m.opening)) is in omega (arith, same))
  opening-takes true wsize m sent turn came old took openings.Wait next new after is asked again table l f s w = absurd (let no_way : openings.Wait ≡ openings.Send (opening.call_of m.opening m.opening.step) = l.0 in cc)
  opening-takes true wsize m sent turn came old took (openings.Ended r) next new after is asked again table l f s w =
      absurd (let no_way : openings.Ended r ≡ openings.Send (opening.call_of m.opening m.opening.step) = l.0 in cc)
  opening-takes false wsize m sent turn came old took (openings.Send call) next new after is asked again table l f s w =
      let led : Led = opening.led_on m.opening turn.now came took.attrs old.pages in
      goes_on (table-again false (opening.may_again m.opening (opening.told_led m.opening came)) sent turn old.repeats after.repeats again (ap (λ (q : Shelf). q.repeats) f.2 ∙ table))
      (costs-as P (opening_left m.opening) (nexts.Send call) next (opening_left (opening.led_after m.opening turn led)) (put_left new) f.0
      (ap put_left f.1 ∙ ap (λ (state : Putting). putting_left state (opening.led_after m.opening turn led)) is)
      (subst (λ (n : ℕ). Costs P n (nexts.Send call) (opening_left (opening.led_after m.opening turn led))) (ap (rank m.opening.step) (sym asked))
      (led-costs P m.opening sent turn led (openings.Send call) old.pages took.pages (rank m.opening.step true) (led-fits m.opening turn.now came took.attrs old.pages) l (λ r e. absurd (cc)))))
  opening-takes false wsize m sent turn came old took openings.Wait next new after is asked again table l f s w =
      let led : Led = opening.led_on m.opening turn.now came took.attrs old.pages in
      goes_on (table-again false (opening.may_again m.opening (opening.told_led m.opening came)) sent turn old.repeats after.repeats again (ap (λ (q : Shelf). q.repeats) f.shelf_is ∙ table))
      (costs-as P (opening_left m.opening) nexts.Wait next (opening_left (opening.led_after m.opening turn led)) (put_left new) f.next_is
      (ap put_left f.machine_is ∙ ap (λ (state : Putting). putting_left state (opening.led_after m.opening turn led)) is)
      (subst (λ (n : ℕ). Costs P n nexts.Wait (opening_left (opening.led_after m.opening turn led))) (ap (rank m.opening.step) (sym asked))
      (led-costs P m.opening sent turn led openings.Wait old.pages took.pages (rank m.opening.step true) (led-fits m.opening turn.now came took.attrs old.pages) l (λ r e. absurd (cc)))))
  opening-takes false wsize m sent turn came old took (openings.Ended (Ok file)) next new after is asked again table l f s w =
      tabled-quiet (opening_left m.opening) sent turn old.repeats next new after.repeats (after-quiet f.told wsize m.write.lane file turn f.mid next new.state after f.goes.follows) s w
  opening-takes false wsize m sent turn came old took (openings.Ended (Err fault)) next new after is asked again table l f s w =
      goes_on (table-again false (opening.may_again m.opening (opening.told_led m.opening came)) sent turn old.repeats after.repeats again (ap (λ (q : Shelf). q.repeats) f.2 ∙ table))
      (costs-as P (opening_left m.opening) (nexts.Done (answers.Refused fault)) next (put_left new) (put_left new) f.0 refl tt)

  pub put-takes : (at : Putting) (wsize : ℕ) (m : PutFile) (sent turn : Turn) (came : Result Reply Fault) (old : Shelf) (next : Step) (new : PutFile) (after : Shelf) (others : ℕ) → m.state ≡ at
      → of_putting at m.opening m.write.state ≡ others + 1 → puts.Takes at wsize m sent turn came old next new after → SendsOf next (files.Put new) → Tabled sent turn old.repeats next after.repeats
      → TakesCosts P (putting_left at m.opening) sent turn old.repeats next (put_left new) after.repeats
  put-takes putting.Idle wsize m sent turn came old next new after others is flight t s w = absurd (omega (arith, flight))
  put-takes putting.Opens wsize m sent turn came old next new after others is flight t s w =
      opening-takes (opening.opening_again m.opening sent turn came old.repeats) wsize m sent turn came old t.took t.step next new after is (asked-some m.opening.asked others flight) refl t.repeats t.leads t.follows s w
  put-takes (putting.Adds file) wsize m sent turn came old next new after others is flight t s w =
      tabled-quiet 0 sent turn old.repeats next new after.repeats (after-quiet t.told wsize m.write.lane file turn t.mid next new.state after t.goes.follows) s w
  put-takes (putting.Saves saving) wsize m sent turn came old next new after others is flight t s w =
      tabled-quiet 0 sent turn old.repeats next new after.repeats (follows-quiet t.0.gives m.write.lane t.0.saved t.0.took next new.state after t.0.follows) s w
