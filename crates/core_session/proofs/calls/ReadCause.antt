-- What a read asks for, of a record that was sent for it.
use Rattle.core_session.proofs.Prelude.{◌≡◌, ◌≤◌, ℕ, true, List, ◌++◌, Option, Some, None, refl, sym, ap, subst, ◌∙◌, arith, Entry, Call, Op, Asks, IsOf, Terms, Phase, Reading, place_after, Mounted, Machine, machine_of, Busy, Setup, in_flight, begins-unbegun, Held, held-later, always-later, Given, is-given, good-over, Expects, expects-laws, SentFor, of-slot}
use Rattle.core_facts.specs.InFlight.{of_phase, of_reading}
use Rattle.nfs_file_calls.specs.declared.call.FileCall.TheVariants as calls_of
use Rattle.world_model.specs.declared.message.Call.TheVariants as calls
use Rattle.world_model.specs.declared.op.Op.TheVariants as ops
use Rattle.claims.specs.Asks as asks
use Rattle.file_ops.specs.declared.reading.Phase.TheVariants as phases
use Rattle.file_ops.specs.Reading as reading
use Rattle.core_answers.proofs.asks.ReadRanges.{inside}
use Rattle.core_answers.proofs.asks.ReadsAwaited.{PhaseNames, ReadNames}
use Rattle.core_answers.proofs.asks.ReadSteps.{PhaseAt, ReadAt}
use Rattle.core_answers.proofs.asks.ReadAsks.{ReadIn, ReadRuns, ReadStory, read-laws}

-- ---- what a read asks for

read-parts : (f g : List ℕ) (a b c d : ℕ) → calls.File (calls_of.Read f a b) ≡ calls.File (calls_of.Read g c d) → d ≡ b
read-parts f g a b c d e = cc

not-read : (f g : List ℕ) (a b : ℕ) → calls.File (calls_of.GetAttr f) ≡ calls.File (calls_of.Read g a b) → ⊥
not-read f g a b e = cc

module _ (mounted : Mounted) (terms : Terms) (setup : Setup) (same : mounted.nocto ≡ terms.modes.nocto) (anew : mounted.noac ≡ terms.modes.noac) (one : 1 ≤ mounted.rsize) (h : List Entry) (i : ℕ)
    (bytes : List ℕ) where
  abbrev pub Sending : Type 0
  Sending = SentFor (machine_of mounted) (begins-unbegun mounted) setup Expects expects-laws h i bytes

  abbrev HeldOf : List Entry → ℕ → Op → List ℕ → Type 0
  HeldOf g x op f = (k : Held terms.modes g x op) × (k.o.file ≡ f)

  runs : (w : Sending) (slot offset count : ℕ) → w.op ≡ ops.Read slot offset count → ReadRuns terms.modes mounted one w.before w.x slot offset count w.machine
  runs w slot offset count is =
      (good-over (machine_of mounted) (begins-unbegun mounted) setup (Given terms.modes) (is-given terms.modes mounted same setup) (ReadStory terms.modes mounted one) (read-laws terms.modes mounted one)
      w.before w.old w.reached w.at (record { number = w.lane; state = Busy w.machine }) w.busy).1 w.x w.op w.under_way slot offset count is

  of-now : (w : Sending) (slot offset count : ℕ) (k : ReadRuns terms.modes mounted one w.before w.x slot offset count w.machine) → IsOf terms.modes h w.x (ops.Read slot offset count) k.held.o.file
  of-now w slot offset count k =
      let op : Op = ops.Read slot offset count in
      let later = always-later (λ g. HeldOf g w.x op k.held.o.file) (λ g e t. (held-later terms.modes g e w.x op t.0, t.1)) w.before w.after (k.held, refl) in
      subst (λ (g : List Entry). IsOf terms.modes g w.x op k.held.o.file) (sym w.is)
      (subst (IsOf terms.modes (w.before ++ w.after) w.x op) later.1 (of-slot terms.modes (w.before ++ w.after) w.x op later.0))

  names : (w : Sending) (slot offset count : ℕ) (k : ReadRuns terms.modes mounted one w.before w.x slot offset count w.machine) → ReadNames k.of.reading w.call
  names w slot offset count k = (subst (λ (m : Machine). Expects m w.call) k.is w.expects).1

  many : (w : Sending) (slot offset count : ℕ) (k : ReadRuns terms.modes mounted one w.before w.x slot offset count w.machine) → 1 ≤ of_reading k.of.reading
  many w slot offset count k = subst (λ (m : Machine). 1 ≤ in_flight m) k.is w.some

  -- what is asked for, and how much
  pub record Asking (x slot offset count : ℕ) (call : Call) : Type 0 where
    pub asks : Asks terms h x i (ops.Read slot offset count) call
    pub fits : (f : List ℕ) (at size : ℕ) → call ≡ calls.File (calls_of.Read f at size) → size ≤ mounted.rsize

  phase-asks : (p : Phase) (r : Reading) (x slot offset count : ℕ) (f : List ℕ) (call : Call) → r.phase ≡ p → IsOf terms.modes h x (ops.Read slot offset count) f
      → ReadAt f offset count mounted.rsize mounted.noac one r → PhaseNames p r call → 1 ≤ of_phase p → Asking x slot offset count call
  phase-asks phases.AskedAttrs r x slot offset count f call is of k e some =
      let anew_is : mounted.noac ≡ true = subst (λ (p : Phase). PhaseAt f offset count mounted.rsize mounted.noac one p r.base) is k.phase in
      record {
        asks = asks.asks_anew slot offset count f refl (sym anew ∙ anew_is) of (e ∙ ap reading.attrs_call k.file);
        fits = λ g at size c. absurd (not-read r.file g at size (sym e ∙ c));
      }
  phase-asks (phases.Asked n) r x slot offset count f call is of k e some =
      let asked = subst (λ (p : Phase). PhaseAt f offset count mounted.rsize mounted.noac one p r.base) is k.phase in
      record {
        asks = asks.reads slot offset count (place_after r.base) n f refl of (inside offset count n r.base k.base asked.0 asked.1)
            (e ∙ ap (λ (g : List ℕ). calls.File (calls_of.Read g (place_after r.base) n)) k.file);
        fits = λ g at size c.
            let part : size ≡ n = read-parts r.file g (place_after r.base) n at size (sym e ∙ c) in
            let most = asked.2 in
            omega (arith, part, most);
      }
  phase-asks phases.Attrs r x slot offset count f call is of k e some = absurd (omega (arith, some))
  phase-asks phases.Pages r x slot offset count f call is of k e some = absurd (omega (arith, some))
  phase-asks phases.Rest r x slot offset count f call is of k e some = absurd (omega (arith, some))
  phase-asks phases.Ended r x slot offset count f call is of k e some = absurd (omega (arith, some))

  reading-asks : (o : Option Reading) (x slot offset count : ℕ) (f : List ℕ) (call : Call) → IsOf terms.modes h x (ops.Read slot offset count) f
      → ReadIn terms.modes mounted one f offset count o → ReadNames o call → 1 ≤ of_reading o → Asking x slot offset count call
  reading-asks None x slot offset count f call of k e some = absurd (omega (arith, some))
  reading-asks (Some r) x slot offset count f call of k e some = phase-asks r.phase r x slot offset count f call refl of k e some

  pub asking : (w : Sending) (slot offset count : ℕ) → w.op ≡ ops.Read slot offset count → Asking w.x slot offset count w.call
  asking w slot offset count is =
      let k = runs w slot offset count is in
      reading-asks k.of.reading w.x slot offset count k.held.o.file w.call (of-now w slot offset count k) k.at (names w slot offset count k) (many w slot offset count k)
