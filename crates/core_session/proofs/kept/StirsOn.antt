-- A lane goes on: what holds of the byte goes on holding.
use Rattle.core_session.proofs.Prelude.{◌≡◌, ◌≢◌, ◌≤◌, ◌<◌, ◌⊎◌, ◌+◌, inl, inr, ℕ, Bool, true, false, nat_eq, List, ◌++◌, length, Some, slice_get, refl, sym, ap, subst, ◌∙◌, arith, eqb-true, eqb-false, Waiting, next_xid, Value, Entry, Op, IsBusy, UnderWay, AnsweredBefore, Terms, Pending, of_file, Mounted, Machine, machine_of, Purpose, Busy, Over, Setup, Stirs, View, GoesWith, Known, Runs, lanes-under-way, number_of, to-map, Placed, Opens, IsOpen, Fault, Began, At, IsOf, slot_of, CloseFile, Saving, file_at, Lane, AreApart, IsPlain, Kind, plainly, kind_of, IsOwed, IsGuarded, save_in, LetsGo, list_any, is_other}
use Rattle.world_model.specs.declared.answer.Answer.TheVariants as answers
use Rattle.core_session.proofs.saves.WholeSteps.{Wholly}
use Rattle.core_session.proofs.drops.LaneIs.{number-is, state-is}
use Rattle.core_session.proofs.drops.DropLaws.{dropped-stirs}
use Rattle.core_session.proofs.drops.Laws.{DropsKnown, stirs-stepped, OneStepped, drops-stirs}
use Rattle.core_session.proofs.syncs.Leftovers.{left-step, closer-it}
use Rattle.core_session.proofs.syncs.Aims.{JobAims, some-aim}
use Rattle.core_session.proofs.syncs.AllJobs.{JobHas}
use Rattle.core_session.proofs.syncs.Aparts.{apart-turns}
use Rattle.core_session.proofs.syncs.Carrying.{unused-fresh, calls-stirs, wrote-kept}
use Rattle.core_session.proofs.syncs.Contents.{Common}
use Rattle.core_session.proofs.syncs.Fate.{Story, one-under, fate-turns, ready-is, busy}
use Rattle.core_session.proofs.syncs.Fates.{job_kind}
use Rattle.core_session.proofs.syncs.LaneButs.{stirs-but}
use Rattle.core_session.proofs.syncs.Looks.{Touching, touching-on, ClosesIt, IsLeft, owed, was_left, left_}
use Rattle.core_session.proofs.syncs.Nexts.{at-on, not-before, common-from, known-from}
use Rattle.core_session.proofs.kept.Nexts.{landed-unsent, landed-since, PlanBefore, PlanAfter, before-next, after-story, One, Two, MineIs, before-other, before-write, before-put, to-plan, Guarding, evident_, open_, ahead_, loose_, Unmade, Dropped, closes-by, puts-by, closes-none, puts-none, Outcome_, ahead-known, kept-known, PlanOwn, own-tale, saved-ends, saved-goes}
use Rattle.core_session.proofs.kept.Nexts as nexts
use Rattle.core_session.proofs.syncs.StirsOn.{over-known, busy-one, both-or}
use Rattle.core_session.proofs.syncs.Passing.{told}
use Rattle.core_session.proofs.syncs.Phases.{Across, Family, KnownBy, Evident}
use Rattle.core_session.proofs.syncs.Plans.{Plan, Came_, stirs-came}
use Rattle.core_session.proofs.syncs.PutGoes.{OwnAt, Names, names-keep, own_save, stirs-not, stirs-at-save}
use Rattle.core_session.proofs.syncs.Seen.{bases, Owned}
use Rattle.core_session.proofs.syncs.Showings.{Fresh, Wrote, Made}
use Rattle.core_session.proofs.syncs.Stages.{Stage, unsent, flies, again, held, stable, over}
use Rattle.core_session.proofs.syncs.Stands.{WritesIt, of_slot, of_last}
use Rattle.core_session.proofs.kept.Stands.{Case, StableTwo, ToldBefore, ToldAfter, after, SinceTwo, Has, Early, IsUnsent, Since_, Phase, GuardBy, PutRuns, LiveBy}
use Rattle.core_session.proofs.kept.Stands as stands
use Rattle.core_session.proofs.syncs.Turning.{Turns, fixed-turns, turns-stir, turns-apart}
use Rattle.world_model.specs.declared.op.Op.TheVariants as ops
use Rattle.op_machines.specs.declared.file_machine.FileMachine.TheVariants as files
use Rattle.op_machines.specs.declared.machine.Machine.TheVariants as machines
use Rattle.core_session.proofs.drops.Along.{GuardsKnown}
use Rattle.core_session.proofs.drops.Drops.{LaneTold}
use Rattle.core_session.proofs.drops.GuardLaws.{StepOf, stirs-step}
use Rattle.core_session.proofs.drops.SlotKinds.{KindTold}
use Rattle.core_session.proofs.syncs.Causes.{IsWriter, put-is}
use Rattle.core_session.proofs.syncs.Guard.{GuardView, by_slot, by_close, guard-view, guard-step, SavesWell, ends, goes_on, GaveIt, loosed, still-guarded, owed-gave, slot-guard, stirs-plain}
use Rattle.core_session.proofs.kept.Lefts.{left-now, owed-at, live-or}
use Rattle.core_session.proofs.syncs.Pasts.{IsAhead, AheadOf, stirs-ahead}
use Rattle.core_session.proofs.syncs.SlotHeld.{HoldsSlot}
use Rattle.core_session.proofs.syncs.PutPlaced.{PutPlaced, stirs-put, crowded, own-at}

module _ (mt : Mounted) (terms : Terms) (setup : Setup) (H : List Entry) (V : View) (g : GoesWith mt terms setup H V) (w y : ℕ) (sure : Bool) (due p : ℕ) (f : List ℕ) (i byte : ℕ) (c : Case terms H w y p f i byte) where
  abbrev pub PhaseOf : List Entry → View → Type 0
  PhaseOf = Phase mt terms setup H w y sure due p f i byte

  -- from a shorter history and other calls
  pub two-map : (h h2 : List Entry) (calls calls2 : List (ℕ × Waiting Purpose)) (n : ℕ) (b : Pending) → ((k z : ℕ) → k ≤ length h → Fresh h k z → Fresh h2 k z)
      → ((k : ℕ) → SinceTwo mt terms setup H w y sure due p f i byte h k → SinceTwo mt terms setup H w y sure due p f i byte h2 k)
      → ((k : ℕ) (v : List ℕ) → Wrote f i byte h calls k v → Wrote f i byte h2 calls2 k v) → ((k : ℕ) → Made f i byte h k → Made f i byte h2 k)
      → Stage i byte n (Two mt terms setup H V g w y sure due p f i byte c h calls).Fresh (Two mt terms setup H V g w y sure due p f i byte c h calls).Since (Two mt terms setup H V g w y sure due p f i byte c h calls).Wrote (Two mt terms setup H V g w y sure due p f i byte c h calls).Made ⊥ (of_file f b)
      → Stage i byte n (Two mt terms setup H V g w y sure due p f i byte c h2 calls2).Fresh (Two mt terms setup H V g w y sure due p f i byte c h2 calls2).Since (Two mt terms setup H V g w y sure due p f i byte c h2 calls2).Wrote (Two mt terms setup H V g w y sure due p f i byte c h2 calls2).Made ⊥ (of_file f b)
  two-map h h2 calls calls2 n b fresh sinces wrotes mades (unsent ready at z) = unsent ready at (sinces 0 z)
  two-map h h2 calls calls2 n b fresh sinces wrotes mades (flies k flown at e m none fr z) = flies k flown at e m none (by fr) (sinces k z)
    where
      by : (flown.xid ≡ 0) ⊎ Fresh h k flown.xid → (flown.xid ≡ 0) ⊎ Fresh h2 k flown.xid
      by (inl e) = inl e
      by (inr x) = inr (fresh k flown.xid z.0 x)
  two-map h h2 calls calls2 n b fresh sinces wrotes mades (again k ready at none z) = again k ready at none (sinces k z)
  two-map h h2 calls calls2 n b fresh sinces wrotes mades (held k verf at none z x) = held k verf at none (sinces k z) (wrotes k verf.0 x)
  two-map h h2 calls calls2 n b fresh sinces wrotes mades (stable k none off z x) = stable k none off (sinces k z) (mades k x)
  two-map h h2 calls calls2 n b fresh sinces wrotes mades (over o) = over o

  module _ (h rest : List Entry) (split_ : h ++ rest ≡ H) (old new : View) (at : ℕ) (k : Known setup h old) (t : Stirs old at new) (wholly : Wholly setup h old) (placed : Placed old) (places : PutPlaced old) (some : 1 ≤ old.wsize) (guards : GuardsKnown terms.modes h old)
      (slot_w : HoldsSlot terms.modes H w f h old) where
    abbrev d : DropsKnown terms.modes h old
    d = guards.drops

    abbrev d2 : DropsKnown terms.modes h new
    d2 = drops-stirs mt terms.modes g.nocto setup h old new at k t d

    step : StepOf old new
    step = stirs-step setup terms.modes h old new k d at t

    apart_ : AreApart old.lanes
    apart_ = (lanes-under-way h old k.lanes).apart

    its-lane : LaneTold terms.modes h t.number (Busy t.machine) old.shelf.opens
    its-lane = d.lanes at (record { number = t.number; state = Busy t.machine }) t.there

    run : IsBusy h t.number (length h)
    run = (lanes-under-way h old k.lanes).busy at (record { number = t.number; state = Busy t.machine }) t.there

    runs : Runs h t.number
    runs = k.lanes.busy at t.number (to-map number_of old.lanes at (record { number = t.number; state = Busy t.machine }) t.there)

    one_old : (n z : ℕ) (machine : Machine) (o : Op) → slice_get old.lanes at ≡ Some (record { number = n; state = Busy machine }) → UnderWay h n z (length h) o → z ≡ run.x
    one_old n z machine o there u =
        (one-under h t.number run.x z run.op o runs run.under_way
        (subst (λ (m : ℕ). UnderWay h m z (length h) o) (number-is (Busy machine) (Busy t.machine) n t.number (sym there ∙ t.there)) u)).0

    abbrev least : 1 ≤ t.number
    least = (placed.live at (record { number = t.number; state = Busy t.machine }) t.there).least

    abbrev most : t.number ≤ 16
    most = (placed.live at (record { number = t.number; state = Busy t.machine }) t.there).most

    next : (z : ℕ) → Fresh h z (next_xid old.calls)
    next z = unused-fresh setup h old k z

    its-x : its-lane.x ≡ run.x
    its-x = one_old t.number its-lane.x t.machine its-lane.op t.there its-lane.under_way

    its-op : its-lane.op ≡ run.op
    its-op = (one-under h t.number run.x its-lane.x run.op its-lane.op runs run.under_way its-lane.under_way).1

    -- one that neither opens nor closes a slot
    plainly-told : kind_of run.op ≡ plainly → IsPlain t.machine
    plainly-told is = subst (λ (q : Kind). KindTold terms.modes h its-lane.x t.number q t.machine old.shelf.opens) (ap kind_of its-op ∙ is) its-lane.told

    no-close : kind_of run.op ≡ plainly → (q : CloseFile) → t.machine ≡ machines.File (files.Close q) → ⊥
    no-close is q same = subst IsPlain same (plainly-told is)

    aim : (tgt : List ℕ) × JobAims t.machine tgt
    aim = some-aim t.machine

    stirs-early : length h ≤ p → Early mt terms setup H w y sure due p f i byte h old → PhaseOf h new
    stirs-early lowp e = by (nat_eq run.x w) refl
      where
        told_ : ToldBefore mt terms setup H w y sure due p f i byte t.number run.x t.machine run.op
        told_ = e.story at t.number t.machine run.x run.op t.there run.under_way

        from : Common old.shelf.seq old.shelf.seq old.shelf.back
        from = common-from 0 old.shelf.seq old.shelf.seq old.shelf.back (omega arith) e.content

        -- its slot guards what a write adds
        guard-in : run.x ≡ w → IsWriter c.opW → (m : ℕ) → IsGuarded m new f
        guard-in same wrote_ m = by c.wrote
          where
            op_is : run.op ≡ c.opW
            op_is = nexts.op-at mt terms setup H V g w y sure due p f i byte c w t.number run.under_way.line c.laneW c.endW.line run.op c.opW
                (subst (λ (z : ℕ). At H z (Began t.number run.under_way.line run.op)) same (at-on H h rest split_ run.x (Began t.number run.under_way.line run.op) run.under_way.began)) c.endW.began

            by-slot : (op : Op) → run.op ≡ op → IsWriter op → IsOf terms.modes H w op f → (its : ℕ) → slot_of op ≡ Some its → kind_of op ≡ plainly → IsGuarded m new f
            by-slot op is writer of its on plain =
                let none = no-close (ap kind_of is ∙ plain) in
                let held : file_at t.number its old.shelf.opens ≡ Some f =
                slot_w op its plain on of t.number (subst (λ (o : Op). UnderWay h t.number w (length h) o) is (subst (λ (z : ℕ). UnderWay h t.number z (length h) run.op) same run.under_way)) in
                let was : IsGuarded m old f = slot-guard m f old t.number its
                (λ q i. none q (busy-one t.machine (machines.File (files.Close q)) (state-is (Busy t.machine) (Busy (machines.File (files.Close q))) t.number t.number
                (sym t.there ∙ ap (slice_get old.lanes) (sym (apart_ i.at at (record { number = t.number; state = Busy (machines.File (files.Close q)) }) (record { number = t.number; state = Busy t.machine }) i.there t.there refl))
                ∙ i.there)))) held in
                let b = stirs-but f old new at t in
                still-guarded m f old new at t.number t.machine b.state t.there b.but.here b.but.was none (guard-step terms.modes h h old new m f step d d2 guards.ranked was)

            by : WritesIt terms H w y f c.opW → IsGuarded m new f
            by (of_last path offset bytes is call names last) = absurd (subst IsWriter is wrote_)
            by (of_slot writer of) = on c.opW op_is writer of
              where
                on : (op : Op) → run.op ≡ op → IsWriter op → IsOf terms.modes H w op f → IsGuarded m new f
                on (ops.Write its offset bytes) is wr of_ = by-slot (ops.Write its offset bytes) is wr of_ its refl refl
                on (ops.Fill its offset count b) is wr of_ = by-slot (ops.Fill its offset count b) is wr of_ its refl refl
                on (ops.Sync its) is wr of_ = absurd wr
                on (ops.Close its) is wr of_ = absurd wr
                on (ops.OpenFile its mode path) is wr of_ = absurd wr
                on (ops.Read its offset count) is wr of_ = absurd wr
                on (ops.Truncate its size) is wr of_ = absurd wr
                on (ops.Put path offset bytes) is wr of_ = absurd wr
                on (ops.Stat path) is wr of_ = absurd wr
                on (ops.Access path bits) is wr of_ = absurd wr
                on (ops.MakeDir path) is wr of_ = absurd wr
                on (ops.RemoveDir path) is wr of_ = absurd wr
                on (ops.Remove path) is wr of_ = absurd wr
                on (ops.Rename one two) is wr of_ = absurd wr
                on (ops.Link one two) is wr of_ = absurd wr
                on (ops.SymLink path target) is wr of_ = absurd wr
                on (ops.ReadLink path) is wr of_ = absurd wr
                on (ops.List path) is wr of_ = absurd wr

        on : Came_ f old.wsize some t.number least most (bases f old.lanes) (job_kind t.machine) old.shelf.seq (λ z. (q : ℕ) → (One mt terms setup H V g w y sure due p f i byte c (next_xid old.calls) (length h)).Fresh q z)
            (PlanBefore mt terms setup H V g w y sure due p f i byte c run.x old.wsize (job_kind t.machine) old.shelf.seq (next_xid old.calls) (length h) new.shelf aim.0) old.lanes at new → PhaseOf h new
        on came =
            let turned = turns-stir f setup h old new at t.number t.machine came.state k t.there came.but run.x run.op run.under_way in
            before-next mt terms setup H V g w y sure due p f i byte c h h rest split_ old new at t.number run.x run.op old.wsize some least most (bases f old.lanes) (job_kind t.machine) old.shelf.seq (next_xid old.calls)
            told_.0 runs run.under_way (omega arith) lowp one_old aim.0 came turned next e.fated (λ off l. l) (apart-turns f h h old new at t.number run.x run.op came.state turned (λ file l. l) w)
            (λ same put value is. absurd (stirs-not old new at t put t.number came.state came.but.here value is)) (λ same wr. guard-in same wr (old.shelf.seq + 1)) e

        its : run.x ≡ w → WritesIt terms H w y f c.opW → PhaseOf h new
        its same (of_slot writer of) = on (stirs-came mt setup h old k wholly placed some f e.owned (λ z. (q : ℕ) → (One mt terms setup H V g w y sure due p f i byte c (next_xid old.calls) (length h)).Fresh q z) (λ q. inr refl) (λ q. inl refl)
            new at t (PlanBefore mt terms setup H V g w y sure due p f i byte c run.x old.wsize (job_kind t.machine) old.shelf.seq (next_xid old.calls) (length h) new.shelf aim.0) refl (λ sole. tt) ⊥
            (λ none z. absurd none) (from, refl)
            (before-write mt terms setup H V g w y sure due p f i byte c run.x old.wsize (job_kind t.machine) old.shelf.seq (next_xid old.calls) (length h) new.shelf aim.0 t.machine refl aim.1 told_.1
            old.shelf.seq old.shelf.back old.shelf.order
            (told_.0 ∙ nexts.writer-kind mt terms setup H V g w y sure due p f i byte c h rest split_ t.number run.x run.op run.under_way same writer)))
        its same (of_last path offset bytes op_is call names last) =
            on (stirs-came mt setup h old k wholly placed some f e.owned (λ z. (q : ℕ) → (One mt terms setup H V g w y sure due p f i byte c (next_xid old.calls) (length h)).Fresh q z) (λ q. inr refl) (λ q. inl refl)
            new at t (PlanBefore mt terms setup H V g w y sure due p f i byte c run.x old.wsize (job_kind t.machine) old.shelf.seq (next_xid old.calls) (length h) new.shelf aim.0) refl (λ sole. tt)
            (MineIs mt terms setup H V g w y sure due p f i byte c run.x old.wsize (job_kind t.machine) old.shelf.seq (next_xid old.calls) (length h) new.shelf aim.0 t.machine refl aim.1 told_.1
            old.shelf.seq old.shelf.back old.shelf.order → ⊥)
            (λ nay z. (z.0, λ one mine. absurd (nay mine))) (from, refl)
            (before-put mt terms setup H V g w y sure due p f i byte c run.x old.wsize (job_kind t.machine) old.shelf.seq (next_xid old.calls) (length h) new.shelf aim.0 t.machine refl aim.1 told_.1
            old.shelf.seq old.shelf.back old.shelf.order same
            (told_.0 ∙ nexts.put-at mt terms setup H V g w y sure due p f i byte c h rest split_ t.number run.x run.op run.under_way same path offset bytes op_is)
            (nexts.put-no-writer mt terms setup H V g w y sure due p f i byte c h rest split_ t.number run.x run.op run.under_way same path offset bytes op_is)))

        by : (b : Bool) → nat_eq run.x w ≡ b → PhaseOf h new
        by false d = on (stirs-came mt setup h old k wholly placed some f e.owned (λ z. (q : ℕ) → (One mt terms setup H V g w y sure due p f i byte c (next_xid old.calls) (length h)).Fresh q z) (λ q. inr refl) (λ q. inl refl)
            new at t (PlanBefore mt terms setup H V g w y sure due p f i byte c run.x old.wsize (job_kind t.machine) old.shelf.seq (next_xid old.calls) (length h) new.shelf aim.0) refl (λ sole. tt) (Unit {0})
            (λ u z. (z.0, λ same. absurd (eqb-false run.x w d same))) (from, refl)
            (before-other mt terms setup H V g w y sure due p f i byte c run.x old.wsize (job_kind t.machine) old.shelf.seq (next_xid old.calls) (length h) new.shelf aim.0 t.machine refl aim.1 told_.1
            old.shelf.seq old.shelf.back old.shelf.order (eqb-false run.x w d)))
        by true d = its (eqb-true run.x w d) c.wrote

    -- ---- once its bytes are there

    -- the lanes and the puts' places after the step
    turned0 : Turns f h h old new at t.number run.x run.op (stirs-but f old new at t).state
    turned0 = turns-stir f setup h old new at t.number t.machine (stirs-but f old new at t).state k t.there (stirs-but f old new at t).but run.x run.op run.under_way

    apart-new : AreApart new.lanes
    apart-new = turns-apart f h h old new at t.number run.x run.op (stirs-but f old new at t).state turned0 apart_

    its-stays : (q : ℕ) (l : Lane) → slice_get old.lanes q ≡ Some l → q ≢ at → slice_get new.lanes q ≡ Some l
    its-stays = turned0.but.stays

    new-places : PutPlaced new
    new-places = stirs-put mt setup h old new at k placed t places

    module _ (lowp : length h ≤ p) (n : ℕ) (its_own : run.x ≡ w → OwnAt (Names f n) (own_save t.machine)) (began : w < length h) (kind_is : job_kind t.machine ≡ job_kind (machine_of mt t.number run.op)) where
      not : AnsweredBefore H run.x w → ⊥
      not = not-before H h rest split_ w t.number run.x run.op began run.under_way

      module _ (a : Family) (since_now : a.Since (length h)) (At_ : ℕ → Type 0) (nexts_ : (q : ℕ) → a.Fresh q (next_xid old.calls)) (zeros_ : (q : ℕ) → a.Fresh q 0)
          (known : KnownBy a old.shelf.seq f i byte n ⊥ old.shelf.seq old.shelf.back)
          (story : Story (ToldAfter mt terms setup H w y sure due p f i byte n) h old) (own : Owned f old.lanes old.shelf.seq old.shelf.back old.shelf.order)
          (tale : Has f (after mt terms setup H w y sure due p f i byte run.x n) t.machine)
          (held : Evident a ⊎ LiveBy mt terms setup H w y sure due p f i byte n h old) where
        -- what guards the byte as the step begins
        abbrev of-view : GuardView f old → Guarding mt terms setup H V g w y sure due p f i byte c h h rest split_ old new at t.number run.x run.op old.wsize some least most (bases f old.lanes) (job_kind t.machine) old.shelf.seq (next_xid old.calls) kind_is runs run.under_way (omega arith) lowp one_old a since_now n At_ began not aim.0
        of-view (by_slot o) = open_ o
        of-view (by_close q ahead is) = ahead_ ahead

        abbrev guarding-by : Evident a ⊎ LiveBy mt terms setup H w y sure due p f i byte n h old → Guarding mt terms setup H V g w y sure due p f i byte c h h rest split_ old new at t.number run.x run.op old.wsize some least most (bases f old.lanes) (job_kind t.machine) old.shelf.seq (next_xid old.calls) kind_is runs run.under_way (omega arith) lowp one_old a since_now n At_ began not aim.0
        guarding-by (inl e) = evident_ e
        guarding-by (inr (inl guard)) = of-view (guard-view n f old d.turned apart_ guard)
        guarding-by (inr (inr put)) = loose_ put

        abbrev guarding : Guarding mt terms setup H V g w y sure due p f i byte c h h rest split_ old new at t.number run.x run.op old.wsize some least most (bases f old.lanes) (job_kind t.machine) old.shelf.seq (next_xid old.calls) kind_is runs run.under_way (omega arith) lowp one_old a since_now n At_ began not aim.0
        guarding = guarding-by held

        put-plain : job_kind t.machine ≡ 3 → kind_of run.op ≡ plainly
        put-plain three =
            let z = put-is run.op (nexts.put-kind mt terms setup H V g w y sure due p f i byte c t.number run.op (sym kind_is ∙ three)) in
            ap kind_of z.3

        still : job_kind t.machine ≡ 3 → IsOpen old.shelf.opens f → IsOpen new.shelf.opens f
        still three o = subst (λ (z : Opens). IsOpen z f) (sym (stirs-plain old new at t (plainly-told (put-plain three)))) o

        -- beside the put that wrote it another put isn't alone
        crowds : PutRuns mt terms setup H w y sure due p f i byte h old → run.x ≢ w → list_any (is_other t.number f) new.shelf.puts ≡ false → ⊥
        crowds r off sole =
            let place : r.at ≢ at = (λ same. off (sym (one_old r.number w r.machine r.op (ap (slice_get old.lanes) (sym same) ∙ r.there) r.under))) in
            let its = (story r.at r.number r.machine w r.op r.there r.under).1 refl in
            let full = crowded new r.at r.number r.machine f t.number apart-new new-places (its-stays r.at (record { number = r.number; state = Busy r.machine }) r.there place)
            (own-at r.machine its.0 its.1 ∙ ap Some its.2.0)
            (λ same. place (apart_ r.at at (record { number = r.number; state = Busy r.machine }) (record { number = t.number; state = Busy t.machine }) r.there t.there same)) in
            let no_way : true ≡ false = sym full ∙ sole in
            cc

        abbrev plan : Plan f old.wsize (job_kind t.machine) old.shelf.seq (λ z. (q : ℕ) → a.Fresh q z)
        plan =
            PlanAfter mt terms setup H V g w y sure due p f i byte c h h rest split_ old new at t.number run.x run.op old.wsize some least most (bases f old.lanes) (job_kind t.machine) old.shelf.seq (next_xid old.calls) kind_is runs run.under_way (omega arith) lowp one_old a since_now n At_ began not aim.0
            (Dropped mt terms setup H V g w y sure due p f i byte c h h rest split_ old new at t.number run.x run.op old.wsize some least most (bases f old.lanes) (job_kind t.machine) old.shelf.seq (next_xid old.calls) kind_is runs run.under_way (omega arith) lowp one_old a since_now n At_ began not aim.0 guarding) (list_any (is_other t.number f) new.shelf.puts ≡ false) (closes-by mt terms setup H V g w y sure due p f i byte c h h rest split_ old new at t.number run.x run.op old.wsize some least most (bases f old.lanes) (job_kind t.machine) old.shelf.seq (next_xid old.calls) kind_is runs run.under_way (omega arith) lowp one_old a since_now n At_ began not aim.0 guarding) (puts-by mt terms setup H V g w y sure due p f i byte c h h rest split_ old new at t.number run.x run.op old.wsize some least most (bases f old.lanes) (job_kind t.machine) old.shelf.seq (next_xid old.calls) kind_is runs run.under_way (omega arith) lowp one_old a since_now n At_ began not aim.0 guarding still crowds)

        came : Came_ f old.wsize some t.number least most (bases f old.lanes) (job_kind t.machine) old.shelf.seq (λ z. (q : ℕ) → a.Fresh q z) plan old.lanes at new
        came = stirs-came mt setup h old k wholly placed some f own (λ z. (q : ℕ) → a.Fresh q z) nexts_ zeros_ new at t plan refl (λ sole. sole) (Unit {0})
            (λ u z. over-known a f i byte n old.shelf.seq (Across terms.modes terms.origin H w run.x f i) old.shelf.seq old.shelf.back z) known
            (to-plan mt terms setup H V g w y sure due p f i byte c h h rest split_ old new at t.number run.x run.op old.wsize some least most (bases f old.lanes) (job_kind t.machine) old.shelf.seq (next_xid old.calls) kind_is runs run.under_way (omega arith) lowp one_old a since_now n At_ began not aim.0 t.machine refl aim.1 tale old.shelf.seq old.shelf.back old.shelf.order)

        turned : Turns f h h old new at t.number run.x run.op came.state
        turned = turns-stir f setup h old new at t.number t.machine came.state k t.there came.but run.x run.op run.under_way

        -- the put stays at its own save
        stays : run.x ≡ w → (machine : Machine) → came.state ≡ Busy machine → OwnAt (Names f n) (own_save machine)
        stays same machine is = stirs-at-save (Names f n) (names-keep f n) old new at t (its_own same) t.number came.state came.but.here machine is

        stepped : OneStepped terms.modes h old new
        stepped = (stirs-stepped terms.modes h old new at t d).0

        left-here : IsOwed terms.modes (length h) h new f → Touching terms.modes terms.origin H w (length H) p p f i h new
        left-here o = left-now mt terms setup H w y sure due p f i byte h rest split_ new began o

        closed : Unmade mt terms setup H V g w y sure due p f i byte c h h rest split_ old new at t.number run.x run.op old.wsize some least most (bases f old.lanes) (job_kind t.machine) old.shelf.seq (next_xid old.calls) kind_is runs run.under_way (omega arith) lowp one_old a since_now n At_ began not aim.0 guarding → (fault : Fault) → came.state ≡ Over (answers.Refused fault) → ClosesIt terms.modes H run.x f → (IsOpen new.shelf.opens f → ⊥)
            → Touching terms.modes terms.origin H w (length H) p p f i h new
        closed un fault is ci shut = left-here
            (left-step mt terms setup H V g f h rest split_ h old new stepped d.turned apart_ at t.number t.machine t.there its-lane came.state came.but.here run.x its-x fault is ci.0 ci.1 shut)

        -- beside a close that is ahead
        beside : job_kind t.machine ≡ 3 → IsAhead f old.lanes old.shelf.order → Outcome_ mt terms setup H V g w y sure due p f i byte c h h rest split_ old new at t.number run.x run.op old.wsize some least most (bases f old.lanes) (job_kind t.machine) old.shelf.seq (next_xid old.calls) kind_is runs run.under_way (omega arith) lowp one_old a since_now n At_ began not aim.0
        beside three ahead = by (nat_eq ahead.n t.number) refl
          where
            one-machine : ahead.n ≡ t.number → ⊥
            one-machine same =
                let place = apart_ ahead.at at (record { number = ahead.n; state = Busy ahead.machine }) (record { number = t.number; state = Busy t.machine }) ahead.there t.there same in
                let machine : ahead.machine ≡ t.machine =
                busy-one ahead.machine t.machine (state-is (Busy ahead.machine) (Busy t.machine) ahead.n t.number (sym ahead.there ∙ ap (slice_get old.lanes) place ∙ t.there)) in
                let no_way : 5 ≡ 3 = sym ahead.kind ∙ ap job_kind machine ∙ three in
                omega (arith, no_way)

            by : (b : Bool) → nat_eq ahead.n t.number ≡ b → Outcome_ mt terms setup H V g w y sure due p f i byte c h h rest split_ old new at t.number run.x run.op old.wsize some least most (bases f old.lanes) (job_kind t.machine) old.shelf.seq (next_xid old.calls) kind_is runs run.under_way (omega arith) lowp one_old a since_now n At_ began not aim.0
            by true e = absurd (one-machine (eqb-true ahead.n t.number e))
            by false e =
                let l = stirs-ahead mt setup h old k wholly placed some f own (λ z. (q : ℕ) → a.Fresh q z) nexts_ zeros_ ahead new at t (eqb-false ahead.n t.number e)
                (PlanAfter mt terms setup H V g w y sure due p f i byte c h h rest split_ old new at t.number run.x run.op old.wsize some least most (bases f old.lanes) (job_kind t.machine) old.shelf.seq (next_xid old.calls) kind_is runs run.under_way (omega arith) lowp one_old a since_now n At_ began not aim.0 ⊥ ⊥ (closes-none mt terms setup H V g w y sure due p f i byte c h h rest split_ old new at t.number run.x run.op old.wsize some least most (bases f old.lanes) (job_kind t.machine) old.shelf.seq (next_xid old.calls) kind_is runs run.under_way (omega arith) lowp one_old a since_now n At_ began not aim.0 three) (puts-none mt terms setup H V g w y sure due p f i byte c h h rest split_ old new at t.number run.x run.op old.wsize some least most (bases f old.lanes) (job_kind t.machine) old.shelf.seq (next_xid old.calls) kind_is runs run.under_way (omega arith) lowp one_old a since_now n At_ began not aim.0)) refl known
                (λ u z. over-known a f i byte n old.shelf.seq (Across terms.modes terms.origin H w run.x f i) old.shelf.seq old.shelf.back z)
                (to-plan mt terms setup H V g w y sure due p f i byte c h h rest split_ old new at t.number run.x run.op old.wsize some least most (bases f old.lanes) (job_kind t.machine) old.shelf.seq (next_xid old.calls) kind_is runs run.under_way (omega arith) lowp one_old a since_now n At_ began not aim.0 t.machine refl aim.1 tale old.shelf.seq old.shelf.back old.shelf.order) in
                ahead-known mt terms setup H V g w y sure due p f i byte c h h rest split_ old new at t.number run.x run.op old.wsize some least most (bases f old.lanes) (job_kind t.machine) old.shelf.seq (next_xid old.calls) kind_is runs run.under_way (omega arith) lowp one_old a since_now n At_ began not aim.0 three (AheadOf mt setup h old k wholly placed some f own (λ z. (q : ℕ) → a.Fresh q z) nexts_ zeros_ ahead t.number (eqb-false ahead.n t.number e)) old.lanes at l
                (λ answer is. ready-is f h h old new at t.number run.x run.op came.state turned answer (state-is came.state l.state t.number t.number (sym came.but.here ∙ l.here) ∙ is))

        stepped-known : KnownBy a old.shelf.seq f i byte n ⊥ new.shelf.seq new.shelf.back ⊎ Touching terms.modes terms.origin H w (length H) p p f i h new
        stepped-known = kept-known mt terms setup H V g w y sure due p f i byte c h h rest split_ old new at t.number run.x run.op old.wsize some least most (bases f old.lanes) (job_kind t.machine) old.shelf.seq (next_xid old.calls) kind_is runs run.under_way (omega arith) lowp one_old a since_now n At_ began not aim.0 guarding still crowds came turned closed beside

        -- a close that saved it
        evidence : SavesWell n f t.machine came.state → Evident a
        evidence well_ = by well_
          where
            made-by : (q : CloseFile) (z : Saving) → t.machine ≡ machines.File (files.Close q) → save_in q.state ≡ Some z → z.file ≡ f → n ≤ z.upto
                → ((ci : ClosesIt terms.modes H run.x f) (five : job_kind t.machine ≡ 5)
                → Came_ f old.wsize some t.number least most (bases f old.lanes) (job_kind t.machine) old.shelf.seq (λ z. (q : ℕ) → a.Fresh q z) (PlanOwn mt terms setup H V g w y sure due p f i byte c h h rest split_ old new at t.number run.x run.op old.wsize some least most (bases f old.lanes) (job_kind t.machine) old.shelf.seq (next_xid old.calls) kind_is runs run.under_way (omega arith) lowp one_old a since_now n At_ began not aim.0 ci) old.lanes at new → Evident a) → Evident a
            made-by q z is saves file enough then =
                let it = closer-it mt terms setup H V g f h rest split_ t.number t.machine old.shelf.opens its-lane q is z saves file in
                let ci : ClosesIt terms.modes H run.x f = (it.0, subst (λ (x : ℕ). IsOf terms.modes H x (ops.Close it.0) f) its-x it.1) in
                let five : job_kind t.machine ≡ 5 = ap job_kind is in
                then ci five
                (stirs-came mt setup h old k wholly placed some f own (λ z. (q : ℕ) → a.Fresh q z) nexts_ zeros_ new at t (PlanOwn mt terms setup H V g w y sure due p f i byte c h h rest split_ old new at t.number run.x run.op old.wsize some least most (bases f old.lanes) (job_kind t.machine) old.shelf.seq (next_xid old.calls) kind_is runs run.under_way (omega arith) lowp one_old a since_now n At_ began not aim.0 ci) refl (λ sole. tt) (Unit {0})
                (λ u k. over-known a f i byte n old.shelf.seq (Across terms.modes terms.origin H w run.x f i) old.shelf.seq old.shelf.back k) known
                (subst (λ (m : Machine). JobHas (told f (Unit {0}) (PlanOwn mt terms setup H V g w y sure due p f i byte c h h rest split_ old new at t.number run.x run.op old.wsize some least most (bases f old.lanes) (job_kind t.machine) old.shelf.seq (next_xid old.calls) kind_is runs run.under_way (omega arith) lowp one_old a since_now n At_ began not aim.0 ci).t) m old.shelf.seq old.shelf.back old.shelf.order) (sym is)
                (own-tale mt terms setup H V g w y sure due p f i byte c h h rest split_ old new at t.number run.x run.op old.wsize some least most (bases f old.lanes) (job_kind t.machine) old.shelf.seq (next_xid old.calls) kind_is runs run.under_way (omega arith) lowp one_old a since_now n At_ began not aim.0 ci five q z saves enough
                (subst (Has f (after mt terms setup H w y sure due p f i byte run.x n)) is tale) old.shelf.seq old.shelf.back old.shelf.order)))

            by : SavesWell n f t.machine came.state → Evident a
            by (ends q z value is saves file enough st) = made-by q z is saves file enough
                (λ ci five own_. saved-ends mt terms setup H V g w y sure due p f i byte c h h rest split_ old new at t.number run.x run.op old.wsize some least most (bases f old.lanes) (job_kind t.machine) old.shelf.seq (next_xid old.calls) kind_is runs run.under_way (omega arith) lowp one_old a since_now n At_ began not aim.0 ci five own_ value (state-is own_.state came.state t.number t.number (sym own_.but.here ∙ came.but.here) ∙ st))
            by (goes_on q e z removal is saves file enough st gone fine) = made-by q z is saves file enough
                (λ ci five own_. saved-goes mt terms setup H V g w y sure due p f i byte c h h rest split_ old new at t.number run.x run.op old.wsize some least most (bases f old.lanes) (job_kind t.machine) old.shelf.seq (next_xid old.calls) kind_is runs run.under_way (omega arith) lowp one_old a since_now n At_ began not aim.0 ci five own_ e removal (state-is own_.state came.state t.number t.number (sym own_.but.here ∙ came.but.here) ∙ st) gone fine)

        -- no put ends well by such a step
        put-good : PutRuns mt terms setup H w y sure due p f i byte h old → w ≡ run.x → (value : Value) → came.state ≡ Over (answers.Done value) → Evident a
        put-good r same value is =
            let put = r.put t.number run.under_way.line run.op
            (subst (λ (z : ℕ). At H z (Began t.number run.under_way.line run.op)) (sym same) (at-on H h rest split_ run.x (Began t.number run.under_way.line run.op) run.under_way.began)) in
            absurd (stirs-not old new at t (kind_is ∙ nexts.kind-of-put mt terms setup H V g w y sure due p f i byte c t.number run.op put) t.number came.state came.but.here value is)

        stepped-guard : (GuardBy mt terms setup H w y sure due p f i byte n (Evident a) h new ⊎ Evident a) ⊎ Touching terms.modes terms.origin H w (length H) p p f i h new
        stepped-guard = by held
          where
            loose : SavesWell n f t.machine came.state ⊎ GaveIt f old new t.machine came.state
                → (GuardBy mt terms setup H w y sure due p f i byte n (Evident a) h new ⊎ Evident a) ⊎ Touching terms.modes terms.origin H w (length H) p p f i h new
            loose (inl saves) = inl (inr (evidence saves))
            loose (inr gave_) = inr (left-here (owed-gave terms.modes h old new t.machine came.state f stepped d.turned apart_ gave_))

            after_ : IsGuarded n new f ⊎ LetsGo n f old new → (GuardBy mt terms setup H w y sure due p f i byte n (Evident a) h new ⊎ Evident a) ⊎ Touching terms.modes terms.origin H w (length H) p p f i h new
            after_ (inl guard) = inl (inl (inl guard))
            after_ (inr lets) = loose (loosed n f old new at t.number t.machine came.state t.there came.but.here came.but.was lets)

            by : Evident a ⊎ LiveBy mt terms setup H w y sure due p f i byte n h old
                → (GuardBy mt terms setup H w y sure due p f i byte n (Evident a) h new ⊎ Evident a) ⊎ Touching terms.modes terms.origin H w (length H) p p f i h new
            by (inl e) = inl (inr e)
            by (inr (inr put)) = inl (inl (inr (
              put.put,
              fate-turns f h h old new at t.number run.x run.op came.state turned w (Evident a) (Evident a) (λ z. z) (put-good put) (λ off l. l) one_old (busy put.at put.number put.machine put.op put.there put.under),
            )))
            by (inr (inl guard)) = after_ (guard-step terms.modes h h old new n f step d d2 guards.ranked guard)

        stepped-both : (KnownBy a old.shelf.seq f i byte n ⊥ new.shelf.seq new.shelf.back × (GuardBy mt terms setup H w y sure due p f i byte n (Evident a) h new ⊎ Evident a))
            ⊎ Touching terms.modes terms.origin H w (length H) p p f i h new
        stepped-both = both-or stepped-known stepped-guard

        stepped-story : Story (ToldAfter mt terms setup H w y sure due p f i byte n) h new
        stepped-story =
            after-story mt terms setup H V g w y sure due p f i byte c h h rest split_ old new at t.number run.x run.op old.wsize some least most (bases f old.lanes) (job_kind t.machine) old.shelf.seq (next_xid old.calls) kind_is runs run.under_way (omega arith) lowp one_old a since_now n At_ began not aim.0 (Dropped mt terms setup H V g w y sure due p f i byte c h h rest split_ old new at t.number run.x run.op old.wsize some least most (bases f old.lanes) (job_kind t.machine) old.shelf.seq (next_xid old.calls) kind_is runs run.under_way (omega arith) lowp one_old a since_now n At_ began not aim.0 guarding) (list_any (is_other t.number f) new.shelf.puts ≡ false) (closes-by mt terms setup H V g w y sure due p f i byte c h h rest split_ old new at t.number run.x run.op old.wsize some least most (bases f old.lanes) (job_kind t.machine) old.shelf.seq (next_xid old.calls) kind_is runs run.under_way (omega arith) lowp one_old a since_now n At_ began not aim.0 guarding) (puts-by mt terms setup H V g w y sure due p f i byte c h h rest split_ old new at t.number run.x run.op old.wsize some least most (bases f old.lanes) (job_kind t.machine) old.shelf.seq (next_xid old.calls) kind_is runs run.under_way (omega arith) lowp one_old a since_now n At_ began not aim.0 guarding still crowds) came turned stays story

        stepped-owned : Owned f new.lanes new.shelf.seq new.shelf.back new.shelf.order
        stepped-owned = came.owned_

      abbrev first : Family
      first = One mt terms setup H V g w y sure due p f i byte c (next_xid old.calls) (length h)

      abbrev then_ : Family
      then_ = Two mt terms setup H V g w y sure due p f i byte c h old.calls.calls

      held-first : LiveBy mt terms setup H w y sure due p f i byte n h old ⊎ ⊥ → Evident first ⊎ LiveBy mt terms setup H w y sure due p f i byte n h old
      held-first live = elim live [ inl guard ↦ inr guard | inr none ↦ absurd none ]

      held-then : LiveBy mt terms setup H w y sure due p f i byte n h old ⊎ Evident then_ → Evident then_ ⊎ LiveBy mt terms setup H w y sure due p f i byte n h old
      held-then live = elim live [ inl guard ↦ inr guard | inr made ↦ inl made ]

      stirs-unsent : Since_ mt terms setup H w y sure due p f i byte (IsUnsent mt terms setup H w y sure due p f i byte n old) n ⊥ ⊥ h old → LiveBy mt terms setup H w y sure due p f i byte n h old ⊎ ⊥
          → Has f (after mt terms setup H w y sure due p f i byte run.x n) t.machine → PhaseOf h new
      stirs-unsent e live tale =
          let known : KnownBy first old.shelf.seq f i byte n ⊥ old.shelf.seq old.shelf.back =
          record { common = common-from 0 old.shelf.seq old.shelf.seq old.shelf.back (omega arith) e.content.common; low = e.content.low; stage = unsent e.content.ready e.content.there (inl refl) } in
          landed-unsent mt terms setup H V g w y sure due p f i byte c h h rest split_ old new at t.number run.x run.op old.wsize some least most (bases f old.lanes) (job_kind t.machine) old.shelf.seq (next_xid old.calls) kind_is runs run.under_way (omega arith) lowp one_old first (inr refl) n (λ q. ⊥) began not aim.0 next
          (stepped-both first (inr refl) (λ q. ⊥) (λ q. inr refl) (λ q. inl refl) known e.story e.owned tale (held-first live)) e.fate
          (stepped-story first (inr refl) (λ q. ⊥) (λ q. inr refl) (λ q. inl refl) known e.story e.owned tale (held-first live))
          (stepped-owned first (inr refl) (λ q. ⊥) (λ q. inr refl) (λ q. inl refl) known e.story e.owned tale (held-first live))

      since-here : SinceTwo mt terms setup H w y sure due p f i byte h (length h)
      since-here = (omega arith, began, λ q xid offset how bytes sent at_q spells low high inside. absurd (omega (arith, low, high)))

      stirs-since : Since_ mt terms setup H w y sure due p f i byte (KnownBy then_ 0 f i byte n ⊥ old.shelf.seq old.shelf.back) n (StableTwo mt terms setup H w y sure due p f i byte h) (Evident then_) h old
          → LiveBy mt terms setup H w y sure due p f i byte n h old ⊎ Evident then_ → Has f (after mt terms setup H w y sure due p f i byte run.x n) t.machine → PhaseOf h new
      stirs-since e live tale =
          let known = known-from then_ f i byte n 0 old.shelf.seq old.shelf.seq old.shelf.back (omega arith) e.content in
          landed-since mt terms setup H V g w y sure due p f i byte c h h rest split_ old new at t.number run.x run.op old.wsize some least most (bases f old.lanes) (job_kind t.machine) old.shelf.seq (next_xid old.calls) kind_is runs run.under_way (omega arith) lowp one_old then_ since-here n (λ q. ⊥) began not aim.0 old.calls.calls
          (λ q v. wrote-kept f i byte h old.calls.calls new.calls.calls q v (calls-stirs setup h old new at k t))
          (stepped-both then_ since-here (λ q. ⊥) (λ q. inr (next q)) (λ q. inl refl) known e.story e.owned tale (held-then live)) e.fate
          (stepped-story then_ since-here (λ q. ⊥) (λ q. inr (next q)) (λ q. inl refl) known e.story e.owned tale (held-then live))
          (stepped-owned then_ since-here (λ q. ⊥) (λ q. inr (next q)) (λ q. inl refl) known e.story e.owned tale (held-then live))

    -- ---- touched

    turned-now : Turns f h h old new at t.number run.x run.op (stirs-but f old new at t).state
    turned-now = turns-stir f setup h old new at t.number t.machine (stirs-but f old new at t).state k t.there (stirs-but f old new at t).but run.x run.op run.under_way

    touch : Touching terms.modes terms.origin H w (length H) p p f i h old → Touching terms.modes terms.origin H w (length H) p p f i h new
    touch m = touching-on terms.modes terms.origin H w (length H) p p f i h h old new
        (fixed-turns f h h old new at t.number run.x run.op (stirs-but f old new at t).state turned-now) drop
        (apart-turns f h h old new at t.number run.x run.op (stirs-but f old new at t).state turned-now (λ file l. l) (length H)) m
      where
        drop : IsLeft terms.modes H w (length H) p h old f → Touching terms.modes terms.origin H w (length H) p p f i h new
        drop (was_left n) = left_ (was_left n)
        drop (owed from after_ dr fate saver puts) = owed-at mt terms setup H w y sure due p f i byte h rest split_ new from after_ (dropped-stirs terms.modes from f h old new at t d dr)

    pub stirs-phase : PhaseOf h old → PhaseOf h new
    stirs-phase (stands.early lowp e) = stirs-early lowp e
    stirs-phase (stands.unsent lowp n e) = by (live-or mt terms setup H w y sure due p f i byte h old n ⊥ e.began e.guard)
      where
        by : (LiveBy mt terms setup H w y sure due p f i byte n h old ⊎ ⊥) ⊎ Touching terms.modes terms.origin H w (length H) p p f i h old → PhaseOf h new
        by (inr m) = stands.touched (touch m)
        by (inl live) =
            let told_ = e.story at t.number t.machine run.x run.op t.there run.under_way in
            stirs-unsent lowp n told_.1 e.began told_.0 e live told_.2
    stirs-phase (stands.since lowp n e) = by (live-or mt terms setup H w y sure due p f i byte h old n (Evident (Two mt terms setup H V g w y sure due p f i byte c h old.calls.calls)) e.began e.guard)
      where
        by : (LiveBy mt terms setup H w y sure due p f i byte n h old ⊎ Evident (Two mt terms setup H V g w y sure due p f i byte c h old.calls.calls)) ⊎ Touching terms.modes terms.origin H w (length H) p p f i h old → PhaseOf h new
        by (inr m) = stands.touched (touch m)
        by (inl live) =
            let told_ = e.story at t.number t.machine run.x run.op t.there run.under_way in
            stirs-since lowp n told_.1 e.began told_.0 e live told_.2
    stirs-phase (stands.past low) = stands.past low
    stirs-phase (stands.touched m) = stands.touched (touch m)
