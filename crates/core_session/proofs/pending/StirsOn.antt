-- A lane goes on: what stands of the newest bytes goes on standing.
use Rattle.core_session.proofs.Prelude.{◌≡◌, ◌≤◌, ◌<◌, ℕ, List, ◌++◌, length, refl, arith, Value, Entry, Began, Op, At, IsBusy, Terms, Cuts, Mounted, Machine, Busy, Over, Setup, Stirs, with_state, View, turn_at, unmade_turn, GoesWith, Known, Runs, lanes-under-way, number_of, at-set, to-map, Placed}
use Rattle.world_model.specs.declared.answer.Answer.TheVariants as answers
use Rattle.core_session.proofs.saves.WholeSteps.{Wholly}
use Rattle.core_session.proofs.syncs.Causes.{IsWriter, IsPut, OfOp}
use Rattle.core_session.proofs.syncs.Fates.{job_kind}
use Rattle.core_session.proofs.syncs.Plans.{Plan, Came_, stirs-came}
use Rattle.core_session.proofs.syncs.Seen.{bases}
use Rattle.core_session.proofs.syncs.Aims.{JobAims, some-aim}
use Rattle.core_session.proofs.syncs.Turning.{turns-stir}
use Rattle.core_session.proofs.drops.Along.{GuardsKnown}
use Rattle.core_session.proofs.pending.Letting.{stirs-lets}
use Rattle.core_session.proofs.syncs.SlotHeld.{HoldsSlot}
use Rattle.core_session.proofs.pending.Above.{Above}
use Rattle.core_session.proofs.syncs.Aparts.{apart-turns}
use Rattle.core_session.proofs.pending.Cuttings.{IsTruncate, IsCutter, cutter-resumes, cutter-resumes-not, cutter-takes, cutter-takes-err, leads-keeps, leads-done}
use Rattle.core_session.proofs.pending.LaneSettles.{stirs-good}
use Rattle.core_session.proofs.pending.Newest.{OfNewest}
use Rattle.core_session.proofs.syncs.PutGoes.{OwnAt, Names, names-keep, own_save, stirs-not, stirs-at-save}
use Rattle.core_session.proofs.pending.Settles as settles
use Rattle.core_session.proofs.pending.Settles.{StateGood}
use Rattle.core_session.proofs.pending.Entering.{entering}
use Rattle.core_session.proofs.pending.Standing.{IsSaverOf, past, PutSaves, Told, Phase, C, plan}
use Rattle.core_session.proofs.pending.Stepping.{machine-saver, was-all, save-file, writer-here, saver-here, put-here, truncate-here, next-phase}

module _ (mt : Mounted) (terms : Terms) (setup : Setup) (H : List Entry) (V : View) (g : GoesWith mt terms setup H V) (f : List ℕ) (i : ℕ) (h rest : List Entry) (split_ : h ++ rest ≡ H) (old new : View) (at : ℕ)
    (k : Known setup h old) (t : Stirs old at new) (wholly : Wholly setup h old) (placed : Placed old) (some : 1 ≤ old.wsize) (gk : GuardsKnown terms.modes h old) (gk2 : GuardsKnown terms.modes h new) (slots2 : (x : ℕ) → HoldsSlot terms.modes H x f h new)
    (p : Phase mt terms setup H f i h old) where
  run : IsBusy h t.number (length h)
  run = (lanes-under-way h old k.lanes).busy at (record { number = t.number; state = Busy t.machine }) t.there

  runs : Runs h t.number
  runs = k.lanes.busy at t.number (to-map number_of old.lanes at (record { number = t.number; state = Busy t.machine }) t.there)

  abbrev least : 1 ≤ t.number
  least = (placed.live at (record { number = t.number; state = Busy t.machine }) t.there).least

  abbrev most : t.number ≤ 16
  most = (placed.live at (record { number = t.number; state = Busy t.machine }) t.there).most

  told_ : Told mt terms setup H f i p.u t.number run.x t.machine run.op
  told_ = p.story at t.number t.machine run.x run.op t.there run.under_way

  none-late : (y lane line : ℕ) (o : Op) → At H y (Began lane line o) → length h ≤ y → y < length h → p.u y ≡ old.shelf.seq
  none-late y lane line o at_y low high = absurd (omega (arith, low, high))

  writer : OfOp H run.x IsWriter → job_kind t.machine ≡ 1
  writer =
      writer-here mt terms setup H V g f i h h rest split_ old new at t.number run.x run.op old.wsize some least most (bases f old.lanes) (job_kind t.machine) told_.0 runs run.under_way (omega arith)
      (λ lane y z o a d. d) p p.u (λ y low. refl) p.low none-late

  -- the file that a put has found
  aim : (tgt : List ℕ) × JobAims t.machine tgt
  aim = some-aim t.machine

  abbrev plan_ : Plan f old.wsize (job_kind t.machine) old.shelf.seq (λ z. Unit {0})
  plan_ = plan mt terms setup H f i h old p.u run.x (p.u run.x) old.shelf.seq (job_kind t.machine) (own_save t.machine) aim.0 old.wsize new.shelf (p.low run.x)

  was : C mt terms setup H f i h old p.u run.x (p.u run.x) old.shelf.seq (job_kind t.machine) (own_save t.machine) aim.0 old.shelf.seq old.shelf.back
  was = was-all mt terms setup H V g f i h old p run.x (p.u run.x) (job_kind t.machine) (own_save t.machine) aim.0

  came : Came_ f old.wsize some t.number least most (bases f old.lanes) (job_kind t.machine) old.shelf.seq (λ z. Unit {0}) plan_ old.lanes at new
  came =
      let e = entering mt terms setup H f i h old p.u run.x (p.u run.x) old.shelf.seq t.machine aim.0 aim.1 writer told_.1 old.shelf.seq old.shelf.back old.shelf.order in
      stirs-came mt setup h old k wholly placed some f p.owned (λ z. Unit {0}) tt tt new at t plan_ refl (λ alone. tt) e.Whole e.whole was e.says

  settled : StateGood came.state → IsSaverOf mt terms setup H f i run.x → OfNewest (Above f i (p.u run.x)) new.shelf.back
  settled good sv =
      stirs-good f i (p.u run.x) old new at t saver
      (λ z is. (save-file mt terms setup H V g f i run.x (p.u run.x) t.machine z old.shelf.seq old.shelf.back old.shelf.order saver sv (told_.1 old.shelf.seq old.shelf.back old.shelf.order) is).0)
      p.common.sound (λ is. p.marks run.x (past at t.number t.machine run.op t.there run.under_way is sv)) came.state came.but.here good
    where
      saver : settles.IsSaver t.machine
      saver = machine-saver t.machine
          (saver-here mt terms setup H V g f i h h rest split_ old new at t.number run.x run.op old.wsize some least most (bases f old.lanes) (job_kind t.machine) told_.0 runs run.under_way (omega arith)
          (λ lane y z o a d. d) p p.u (λ y low. refl) p.low none-late sv)

  marks : IsTruncate run.op → (machine : Machine) → came.state ≡ Busy machine → IsCutter (p.u run.x) machine
  marks truncates machine busy =
      leads-keeps (IsCutter (p.u run.x)) (cutter-takes (p.u run.x)) (with_state old at t.number (Busy t.after) t.shelf) new at t.number t.after t.next
      (at-set old.lanes at (record { number = t.number; state = Busy t.machine }) (record { number = t.number; state = Busy t.after }) t.there) t.leads
      (cutter-resumes (p.u run.x) t.machine (told_.2 truncates) old.wsize (turn_at old) old.shelf t.next t.after t.shelf t.resumes) came.state came.but.here machine busy

  -- a truncate doesn't go well without a reply
  done : (value : Value) → came.state ≡ Over (answers.Done value) → Cuts terms.modes H run.x f i → OfNewest (Above f i (p.u run.x)) new.shelf.back
  done value is c =
      leads-done (with_state old at t.number (Busy t.after) t.shelf) new at t.number t.after t.next
      (at-set old.lanes at (record { number = t.number; state = Busy t.machine }) (record { number = t.number; state = Busy t.after }) t.there) t.leads came.state came.but.here value is
      (OfNewest (Above f i (p.u run.x)))
      (λ good. absurd (cutter-resumes-not (p.u run.x) t.machine cutter old.wsize (turn_at old) old.shelf t.next t.after t.shelf t.resumes good))
      (λ fault n after left k good. absurd (cutter-takes-err (p.u run.x) t.after
      (cutter-resumes (p.u run.x) t.machine cutter old.wsize (turn_at old) old.shelf t.next t.after t.shelf t.resumes) old.wsize (turn_at (with_state old at t.number (Busy t.after) t.shelf))
      (unmade_turn (with_state old at t.number (Busy t.after) t.shelf)) fault t.shelf n after left k good))
    where
      cutter : IsCutter (p.u run.x) t.machine
      cutter = told_.2
          (truncate-here mt terms setup H V g f i h h rest split_ old new at t.number run.x run.op old.wsize some least most (bases f old.lanes) (job_kind t.machine) told_.0 runs run.under_way (omega arith)
          (λ lane y z o a d. d) p p.u (λ y low. refl) p.low none-late c)

  -- nor does a put
  put-not : OfOp H run.x IsPut → (value : Value) → came.state ≡ Over (answers.Done value) → ⊥
  put-not puts value is = stirs-not old new at t
      (put-here mt terms setup H V g f i h h rest split_ old new at t.number run.x run.op old.wsize some least most (bases f old.lanes) (job_kind t.machine) told_.0 runs run.under_way (omega arith)
      (λ lane y z o a d. d) p p.u (λ y low. refl) p.low none-late puts) t.number came.state came.but.here value is

  -- what is in its own save stays there
  own-on : (number : ℕ) → PutSaves mt terms setup H f i h old run.x number → (machine : Machine) → came.state ≡ Busy machine → OwnAt (Names f number) (own_save machine)
  own-on number saves machine is =
      stirs-at-save (Names f number) (names-keep f number) old new at t (saves at t.number t.machine run.op t.there run.under_way) t.number came.state came.but.here machine is

  pub stirs-phase : Phase mt terms setup H f i h new
  stirs-phase =
      next-phase mt terms setup H V g f i h h rest split_ old new at t.number run.x run.op old.wsize some least most (bases f old.lanes) (job_kind t.machine) told_.0 runs run.under_way (omega arith)
      (λ lane y z o a d. d) p p.u (λ y low. refl) p.low none-late (own_save t.machine) aim.0 came
      (turns-stir f setup h old new at t.number t.machine came.state k t.there came.but run.x run.op run.under_way) settled marks done (λ value is puts. absurd (put-not puts value is))
      (λ low. own-on) (λ low number saves puts value is. absurd (put-not puts value is)) (λ puts none. put-not puts)
      (λ y a. apart-turns f h h old new at t.number run.x run.op came.state (turns-stir f setup h old new at t.number t.machine came.state k t.there came.but run.x run.op run.under_way) (λ z l. l) y a)
      (λ sound number few guard. stirs-lets setup terms.modes h old new at k t gk.drops gk2.drops gk.ranked f i number came.state came.but p.common.sound sound p.owned came.owned_ guard)
      (slots2 run.x) (λ w number guard u. u)
