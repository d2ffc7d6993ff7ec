-- What a sync, a close or a truncate asks for, of a record that was sent for it.
use Rattle.core_session.proofs.Prelude.{◌≡◌, ◌≤◌, ◌⊎◌, inl, inr, ℕ, List, ◌++◌, length, refl, sym, ap, subst, ◌∙◌, arith, Entry, Call, Op, Asks, UnderWay, IsOf, Terms, Closing, Syncing, Truncating, Mounted, FileMachine, Machine, machine_of, Busy, Setup, of_syncing, of_closing, of_truncating, in_flight, begins-unbegun, Held, held-later, always-later, Given, is-given, good-over, Expects, expects-laws, SyncNames, CloseNames, FileNames, Saves, SentFor, WorksAt, SlotRuns, SlotStory, slot-laws, of-slot}
use Rattle.claims.specs.Asks.{Stabilizes}
use Rattle.core_answers.proofs.asks.FilesAwaited.{CutNames}
use Rattle.core_answers.proofs.asks.SlotFiles.{SyncAt, CloseAt, CutAt, IsWorker}
use Rattle.world_model.specs.declared.op.Op.TheVariants as ops
use Rattle.claims.specs.Asks as asks
use Rattle.file_ops.specs.declared.close_file.Closing.TheVariants as closing
use Rattle.file_ops.specs.declared.sync_file.Syncing.TheVariants as syncing
use Rattle.file_ops.specs.declared.truncate_file.Truncating.TheVariants as truncating
use Rattle.file_ops.specs.TruncateFile as truncates
use Rattle.op_machines.specs.declared.file_machine.FileMachine.TheVariants as files
use Rattle.op_machines.specs.declared.machine.Machine.TheVariants as machines
use Rattle.core_answers.specs.asks.SlotCalls.{IsRemoval}

module _ (terms : Terms) (h : List Entry) (x n : ℕ) (call : Call) where
  saves-asks : (op : Op) (f s : List ℕ) → Stabilizes terms h x n op f → s ≡ f → Saves s call → Asks terms h x n op call
  saves-asks op f s stable is (inl k) = asks.writes s k.0.bytes k.0.offset k.0.how (subst (Stabilizes terms h x n op) (sym is) stable) k.1
  saves-asks op f s stable is (inr k) = asks.commits s (subst (Stabilizes terms h x n op) (sym is) stable) k

  sync-asks : (slot : ℕ) (f : List ℕ) (state : Syncing) → IsOf terms.modes h x (ops.Sync slot) f → SyncAt f state → SyncNames state call → 1 ≤ of_syncing state
      → Asks terms h x n (ops.Sync slot) call
  sync-asks slot f syncing.Idle of k e some = absurd (omega (arith, some))
  sync-asks slot f (syncing.Saves s) of k e some = saves-asks (ops.Sync slot) f s.file (asks.sync slot refl of) k e

  close-asks : (slot : ℕ) (f : List ℕ) (state : Closing) → IsOf terms.modes h x (ops.Close slot) f → CloseAt f state → CloseNames state call → 1 ≤ of_closing state
      → Asks terms h x n (ops.Close slot) call ⊎ IsRemoval call
  close-asks slot f closing.Idle of k e some = absurd (omega (arith, some))
  close-asks slot f (closing.Queued s) of k e some = absurd (omega (arith, some))
  close-asks slot f (closing.Saves s) of k e some = inl (saves-asks (ops.Close slot) f s.file (asks.close slot refl of) k e)
  close-asks slot f (closing.ToRemove removal) of k e some = absurd (omega (arith, some))
  close-asks slot f (closing.Removing removal) of k e some = inr (record { d = removal.dir; name = removal.name; is = e })

  cut-asks : (slot size its_size : ℕ) (f : List ℕ) (state : Truncating) → IsOf terms.modes h x (ops.Truncate slot size) f → its_size ≡ size → CutAt f state → CutNames its_size state call
      → 1 ≤ of_truncating state → Asks terms h x n (ops.Truncate slot size) call
  cut-asks slot size its_size f truncating.Idle of same k e some = absurd (omega (arith, some))
  cut-asks slot size its_size f (truncating.Queued file upto) of same k e some = absurd (omega (arith, some))
  cut-asks slot size its_size f (truncating.Asked file upto) of same k e some =
      asks.acts (asks.cuts slot size f refl of (e ∙ ap (λ (g : List ℕ). truncates.size_call g its_size) k ∙ ap (truncates.size_call f) same))

  -- by its machine
  of-sync : (slot : ℕ) (f : List ℕ) (m : FileMachine) → IsOf terms.modes h x (ops.Sync slot) f → WorksAt (ops.Sync slot) f m → FileNames m call → 1 ≤ in_flight (machines.File m)
      → Asks terms h x n (ops.Sync slot) call
  of-sync slot f (files.Sync m) of k e some = sync-asks slot f m.state of k e some
  of-sync slot f m of k e some = absurd k

  of-close : (slot : ℕ) (f : List ℕ) (m : FileMachine) → IsOf terms.modes h x (ops.Close slot) f → WorksAt (ops.Close slot) f m → FileNames m call → 1 ≤ in_flight (machines.File m)
      → Asks terms h x n (ops.Close slot) call ⊎ IsRemoval call
  of-close slot f (files.Close m) of k e some = close-asks slot f m.state of k e some
  of-close slot f m of k e some = absurd k

  of-cut : (slot size : ℕ) (f : List ℕ) (m : FileMachine) → IsOf terms.modes h x (ops.Truncate slot size) f → WorksAt (ops.Truncate slot size) f m → FileNames m call
      → 1 ≤ in_flight (machines.File m) → Asks terms h x n (ops.Truncate slot size) call
  of-cut slot size f (files.Truncate m) of k e some = cut-asks slot size m.size f m.state of k.0 k.1 e some
  of-cut slot size f m of k e some = absurd k

module _ (mounted : Mounted) (terms : Terms) (setup : Setup) (same : mounted.nocto ≡ terms.modes.nocto) (h : List Entry) (i : ℕ) (bytes : List ℕ) where
  abbrev pub Sending : Type 0
  Sending = SentFor (machine_of mounted) (begins-unbegun mounted) setup Expects expects-laws h i bytes

  -- its slot holds this file
  abbrev HeldOf : List Entry → ℕ → Op → List ℕ → Type 0
  HeldOf g x op f = (k : Held terms.modes g x op) × (k.o.file ≡ f)

  runs : (w : Sending) (op : Op) → w.op ≡ op → IsWorker op → SlotRuns terms.modes w.before w.x op w.machine
  runs w op is works =
      (good-over (machine_of mounted) (begins-unbegun mounted) setup (Given terms.modes) (is-given terms.modes mounted same setup) (SlotStory terms.modes) (slot-laws terms.modes mounted) w.before w.old
      w.reached w.at (record { number = w.lane; state = Busy w.machine }) w.busy).1 w.x op (subst (UnderWay w.before w.lane w.x (length w.before)) is w.under_way) works

  of-now : (w : Sending) (op : Op) (k : SlotRuns terms.modes w.before w.x op w.machine) → IsOf terms.modes h w.x op k.held.o.file
  of-now w op k =
      let later = always-later (λ g. HeldOf g w.x op k.held.o.file) (λ g e t. (held-later terms.modes g e w.x op t.0, t.1)) w.before w.after (k.held, refl) in
      subst (λ (g : List Entry). IsOf terms.modes g w.x op k.held.o.file) (sym w.is)
      (subst (IsOf terms.modes (w.before ++ w.after) w.x op) later.1 (of-slot terms.modes (w.before ++ w.after) w.x op later.0))

  names : (w : Sending) (op : Op) (k : SlotRuns terms.modes w.before w.x op w.machine) → FileNames k.of w.call
  names w op k = (subst (λ (m : Machine). Expects m w.call) k.is w.expects).1

  many : (w : Sending) (op : Op) (k : SlotRuns terms.modes w.before w.x op w.machine) → 1 ≤ in_flight (machines.File k.of)
  many w op k = subst (λ (m : Machine). 1 ≤ in_flight m) k.is w.some

  pub sync-cause : (w : Sending) (slot : ℕ) → w.op ≡ ops.Sync slot → Asks terms h w.x i (ops.Sync slot) w.call
  sync-cause w slot is =
      let op : Op = ops.Sync slot in
      let k = runs w op is tt in
      of-sync terms h w.x i w.call slot k.held.o.file k.of (of-now w op k) k.works (names w op k) (many w op k)

  pub cut-cause : (w : Sending) (slot size : ℕ) → w.op ≡ ops.Truncate slot size → Asks terms h w.x i (ops.Truncate slot size) w.call
  cut-cause w slot size is =
      let op : Op = ops.Truncate slot size in
      let k = runs w op is tt in
      of-cut terms h w.x i w.call slot size k.held.o.file k.of (of-now w op k) k.works (names w op k) (many w op k)

  pub close-cause : (w : Sending) (slot : ℕ) → w.op ≡ ops.Close slot → Asks terms h w.x i (ops.Close slot) w.call ⊎ IsRemoval w.call
  close-cause w slot is =
      let op : Op = ops.Close slot in
      let k = runs w op is tt in
      of-close terms h w.x i w.call slot k.held.o.file k.of (of-now w op k) k.works (names w op k) (many w op k)
