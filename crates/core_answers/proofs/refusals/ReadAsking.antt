-- A read asks for a call of which it is known that it was sent for it: as `proofs/asks/ReadAsks` has it.
use Rattle.core_answers.proofs.Prelude.{◌≡◌, ◌≤◌, ℕ, true, List, Option, Some, None, ◌++◌, refl, sym, ap, subst, ◌∙◌, arith, Entry, Call, Op, Asks, IsOf, Terms, Mounted, Machine, machine_of, Busy, Setup, in_flight, of_phase, of_reading, begins-unbegun, Held, held-later, always-later, Given, is-given, good-over, Phase, Reading, place_after}
use Rattle.world_model.specs.declared.op.Op.TheVariants as ops
use Rattle.claims.specs.Asks as asks
use Rattle.core_answers.proofs.asks.CallsAwaited.{Expects, expects-laws}
use Rattle.core_answers.proofs.asks.Sendings.{SentFor}
use Rattle.core_answers.proofs.asks.SlotAsks.{of-slot}
use Rattle.core_answers.proofs.asks.ReadAsks.{ReadIn, ReadRuns, ReadStory, read-laws}
use Rattle.core_answers.proofs.asks.ReadRanges.{inside}
use Rattle.core_answers.proofs.asks.ReadsAwaited.{PhaseNames, ReadNames}
use Rattle.core_answers.proofs.asks.ReadSteps.{PhaseAt, ReadAt}
use Rattle.file_ops.specs.declared.reading.Phase.TheVariants as phases
use Rattle.file_ops.specs.Reading as reading
use Rattle.nfs_file_calls.specs.declared.call.FileCall.TheVariants as calls_of
use Rattle.world_model.specs.declared.message.Call.TheVariants as calls

module _ (mounted : Mounted) (terms : Terms) (setup : Setup) (same : mounted.nocto ≡ terms.modes.nocto) (anew : mounted.noac ≡ terms.modes.noac) (one : 1 ≤ mounted.rsize) (h : List Entry) (i : ℕ)
    (bytes : List ℕ) where
  abbrev ReadSending : Type 0
  ReadSending = SentFor (machine_of mounted) (begins-unbegun mounted) setup Expects expects-laws h i bytes

  abbrev HeldOf : List Entry → ℕ → Op → List ℕ → Type 0
  HeldOf g x op f = (k : Held terms.modes g x op) × (k.o.file ≡ f)

  runs : (w : ReadSending) (slot offset count : ℕ) → w.op ≡ ops.Read slot offset count → ReadRuns terms.modes mounted one w.before w.x slot offset count w.machine
  runs w slot offset count is =
      (good-over (machine_of mounted) (begins-unbegun mounted) setup (Given terms.modes) (is-given terms.modes mounted same setup) (ReadStory terms.modes mounted one) (read-laws terms.modes mounted one)
      w.before w.old w.reached w.at (record { number = w.lane; state = Busy w.machine }) w.busy).1 w.x w.op w.under_way slot offset count is

  of-now : (w : ReadSending) (slot offset count : ℕ) (k : ReadRuns terms.modes mounted one w.before w.x slot offset count w.machine) → IsOf terms.modes h w.x (ops.Read slot offset count) k.held.o.file
  of-now w slot offset count k =
      let op : Op = ops.Read slot offset count in
      let later = always-later (λ g. HeldOf g w.x op k.held.o.file) (λ g e t. (held-later terms.modes g e w.x op t.0, t.1)) w.before w.after (k.held, refl) in
      subst (λ (g : List Entry). IsOf terms.modes g w.x op k.held.o.file) (sym w.is)
      (subst (IsOf terms.modes (w.before ++ w.after) w.x op) later.1 (of-slot terms.modes (w.before ++ w.after) w.x op later.0))

  names : (w : ReadSending) (slot offset count : ℕ) (k : ReadRuns terms.modes mounted one w.before w.x slot offset count w.machine) → ReadNames k.of.reading w.call
  names w slot offset count k = (subst (λ (m : Machine). Expects m w.call) k.is w.expects).1

  many : (w : ReadSending) (slot offset count : ℕ) (k : ReadRuns terms.modes mounted one w.before w.x slot offset count w.machine) → 1 ≤ of_reading k.of.reading
  many w slot offset count k = subst (λ (m : Machine). 1 ≤ in_flight m) k.is w.some

  abbrev Asking : ℕ → ℕ → ℕ → ℕ → Call → Type 0
  Asking x slot offset count call = Asks terms h x i (ops.Read slot offset count) call

  phase-asks : (p : Phase) (r : Reading) (x slot offset count : ℕ) (f : List ℕ) (call : Call) → r.phase ≡ p → IsOf terms.modes h x (ops.Read slot offset count) f
      → ReadAt f offset count mounted.rsize mounted.noac one r → PhaseNames p r call → 1 ≤ of_phase p → Asking x slot offset count call
  phase-asks phases.AskedAttrs r x slot offset count f call is of k e some =
      let anew_is : mounted.noac ≡ true = subst (λ (p : Phase). PhaseAt f offset count mounted.rsize mounted.noac one p r.base) is k.phase in
      asks.asks_anew slot offset count f refl (sym anew ∙ anew_is) of (e ∙ ap reading.attrs_call k.file)
  phase-asks (phases.Asked n) r x slot offset count f call is of k e some =
      let asked = subst (λ (p : Phase). PhaseAt f offset count mounted.rsize mounted.noac one p r.base) is k.phase in
      asks.reads slot offset count (place_after r.base) n f refl of (inside offset count n r.base k.base asked.0 asked.1)
      (e ∙ ap (λ (g : List ℕ). calls.File (calls_of.Read g (place_after r.base) n)) k.file)
  phase-asks phases.Attrs r x slot offset count f call is of k e some = absurd (omega (arith, some))
  phase-asks phases.Pages r x slot offset count f call is of k e some = absurd (omega (arith, some))
  phase-asks phases.Rest r x slot offset count f call is of k e some = absurd (omega (arith, some))
  phase-asks phases.Ended r x slot offset count f call is of k e some = absurd (omega (arith, some))

  reading-asks : (o : Option Reading) (x slot offset count : ℕ) (f : List ℕ) (call : Call) → IsOf terms.modes h x (ops.Read slot offset count) f
      → ReadIn terms.modes mounted one f offset count o → ReadNames o call → 1 ≤ of_reading o → Asking x slot offset count call
  reading-asks None x slot offset count f call of k e some = absurd (omega (arith, some))
  reading-asks (Some r) x slot offset count f call of k e some = phase-asks r.phase r x slot offset count f call refl of k e some

  pub read-of : (w : ReadSending) (slot offset count : ℕ) → w.op ≡ ops.Read slot offset count → Asking w.x slot offset count w.call
  read-of w slot offset count is =
      let k = runs w slot offset count is in
      reading-asks k.of.reading w.x slot offset count k.held.o.file w.call (of-now w slot offset count k) k.at (names w slot offset count k) (many w slot offset count k)
