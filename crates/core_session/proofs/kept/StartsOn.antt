-- An operation begins: what holds of the byte goes on holding.
use Rattle.core_session.proofs.Prelude.{◌≡◌, ◌≢◌, ◌≤◌, ◌<◌, ◌+◌, ◌⊎◌, inl, inr, ℕ, Bool, true, false, nat_eq, List, [], ◌∷◌, ◌++◌, length, Option, Some, slice_get, refl, sym, ap, subst, ◌∙◌, append_assoc, arith, eqb-true, eqb-false, cases_lt, next_xid, Answer, Entry, Began, Sent, Op, At, UnderWay, AnsweredBefore, Terms, IsDelivered, Opens, IsOpen, At-one, At-grow, At-last, At-cases, length_last, Mounted, Machine, machine_of, Fits, Shelf, Lane, Busy, Over, Setup, IsIdle, numbers_of, counted, StartsLane, View, turn_at, Reaches, GoesWith, Known, Runs, lanes-begin, number_of, lanes-under-way, idle-numbers, to-map, at-push, Placed, keeps-placed, Stays, starts-stay, Fault, IsOf, slot_of, CloseFile, file_at, State, AreApart, Kind, plainly, kind_of, BeginsAs, IsOwed, IsGuarded, IsClose, list_any, is_other}
use Rattle.world_model.specs.declared.answer.Answer.TheVariants as answers
use Rattle.core_session.proofs.saves.WholeSteps.{Wholly, starts-wholly}
use Rattle.core_session.proofs.drops.DropLaws.{dropped-starts}
use Rattle.core_session.proofs.drops.Laws.{DropsKnown, drops-starts, Begun, starts-begun}
use Rattle.core_session.proofs.syncs.Leftovers.{LeftOr, left-begins}
use Rattle.core_session.proofs.syncs.Beginnings.{begins, close-of}
use Rattle.core_session.proofs.syncs.Carrying.{unused-fresh, fresh-grow, wrote-grow, made-grow, calls-same, calls-starts, wrote-kept}
use Rattle.core_session.proofs.syncs.AllJobs.{JobBegins}
use Rattle.core_session.proofs.syncs.Aparts.{apart-turns, names-next}
use Rattle.core_session.proofs.syncs.Causes.{IsWriter, OfOp, IsPut, put-is}
use Rattle.core_session.proofs.syncs.Contents.{Common}
use Rattle.core_session.proofs.syncs.Fate.{Story, fate-turns, ready-is, busy}
use Rattle.core_session.proofs.syncs.Fates.{job_kind}
use Rattle.core_session.proofs.syncs.LaneButs.{starts-but}
use Rattle.core_session.proofs.syncs.Looks.{Touching, touching-on, ClosesIt, IsLeft, owed, was_left, left_}
use Rattle.core_session.proofs.syncs.Nexts.{common-from}
use Rattle.core_session.proofs.kept.Nexts.{PlanBefore, PlanAfter, before-next, after-story, landed-unsent, landed-since, write-op, writer-kind, One, Two, put-kind, Guarding, evident_, open_, ahead_, loose_, Unmade, Dropped, closes-by, puts-by, closes-none, puts-none, Outcome_, ahead-known, kept-known, PlanOwn, saved-ends, saved-goes}
use Rattle.core_session.proofs.syncs.Jobs.{Job}
use Rattle.core_session.proofs.syncs.Levels.{Owner}
use Rattle.core_session.proofs.syncs.Passing.{job-in}
use Rattle.core_session.proofs.syncs.PutGoes.{OwnAt, Names, own_save, starts-not}
use Rattle.core_session.proofs.syncs.Phases.{Across, Family, KnownBy, Evident}
use Rattle.core_session.proofs.syncs.Plans.{Plan, Came_, starts-came}
use Rattle.core_session.proofs.syncs.Seen.{Owned, bases}
use Rattle.core_session.proofs.syncs.Showings.{Fresh}
use Rattle.core_session.proofs.syncs.Stages.{unsent}
use Rattle.core_session.proofs.syncs.Stands.{slot-of, WritesIt, of_slot, of_last}
use Rattle.core_session.proofs.kept.Stands.{Case, fated-map, StableTwo, SinceTwo, Early, IsUnsent, Since_, Phase, Stands, ToldAfter, after, before, GuardBy, PutRuns, LiveBy}
use Rattle.core_session.proofs.kept.Stands as stands
use Rattle.core_session.proofs.syncs.StirsOn.{over-known, both-or}
use Rattle.core_session.proofs.kept.StirsOn.{two-map}
use Rattle.core_session.proofs.syncs.Turning.{IsFixed, Turns, fixed-turns, turns-starts, turns-apart}
use Rattle.core_session.proofs.kept.Nexts as nexts
use Rattle.world_model.specs.declared.op.Op.TheVariants as ops
use Rattle.op_machines.specs.declared.file_machine.FileMachine.TheVariants as files
use Rattle.op_machines.specs.declared.machine.Machine.TheVariants as machines
use Rattle.core_session.proofs.drops.Along.{GuardsKnown, guards-steps}
use Rattle.core_session.proofs.drops.LaneIs.{state-is}
use Rattle.core_session.proofs.syncs.Guard.{GuardView, by_slot, by_close, guard-view, slot-guard, starts-plain, starts-kind}
use Rattle.core_session.proofs.kept.Lefts.{left-now, owed-at, live-or}
use Rattle.core_session.proofs.syncs.Pasts.{IsAhead, AheadOf, starts-ahead}
use Rattle.core_session.proofs.syncs.SlotHeld.{HoldsSlot, holds-starts, slot-begins}
use Rattle.core_session.proofs.drops.Drops.{own-others}
use Rattle.core_session.proofs.drops.Dropping.{file-open}
use Rattle.core_session.proofs.drops.Shown.{guards-kept}
use Rattle.core_session.proofs.drops.SlotKinds.{OthersSame, begins-as}
use Rattle.core_session.specs.drops.Told.{BeginsWell, begun_saved, begun_removes, begun_gave}
use Rattle.core_session.proofs.syncs.LaneSteps.{Landed}
use Rattle.core_session.proofs.syncs.PutPlaced.{PutPlaced, starts-put, crowded, own-at}

one-entry : (lane line : ℕ) (op : Op) (b : List ℕ) → Sent b ≡ Began lane line op → ⊥
one-entry lane line op b e = cc

none-past : (lanes : List Lane) (l : Lane) → slice_get lanes (length lanes) ≡ Some l → ⊥
none-past [] l there = absurd cc
none-past (x ∷ lanes) l there = none-past lanes l there

began-other : (lane line : ℕ) (op : Op) → IsDelivered (Began lane line op) → ⊥
began-other lane line op d = let e = d.1 in absurd cc

-- nothing is told of a put as it begins
put-begins : (mt : Mounted) (lane : ℕ) (op : Op) (j : Job) (slots : Opens) → IsPut op → JobBegins j (machine_of mt lane op) slots
put-begins mt lane op j slots is = let e = put-is op is in subst (λ (o : Op). JobBegins j (machine_of mt lane o) slots) (sym e.3) tt

abbrev has-some : View → Type 0
has-some v = 1 ≤ v.wsize

some-stays : Stays has-some
some-stays = record {
  makes = λ old new number call made p. subst (λ (v : View). 1 ≤ v.wsize) (sym made.is) p;
  sets = λ old at number was state shelf there p. p;
}

module _ (mt : Mounted) (terms : Terms) (setup : Setup) (H : List Entry) (V : View) (g : GoesWith mt terms setup H V) (w y : ℕ) (sure : Bool) (due p : ℕ) (f : List ℕ) (i byte : ℕ) (c : Case terms H w y p f i byte) where
  abbrev PhaseOf : List Entry → View → Type 0
  PhaseOf = Phase mt terms setup H w y sure due p f i byte

  module _ (h rest : List Entry) (old new : View) (lane line : ℕ) (op : Op) (now : ℕ) (is : h ++ Began lane line op ∷ rest ≡ H) (r : Reaches (machine_of mt) setup h old) (found : old.lost ≡ false)
      (k : Known setup h old) (idle : IsIdle lane old.lanes) (fits : Fits (machine_of mt lane op)) (t : StartsLane (counted old now) lane (machine_of mt lane op) new) (wholly : Wholly setup h old) (placed : Placed old) (places : PutPlaced old)
      (some : 1 ≤ old.wsize) (guards : GuardsKnown terms.modes h old) (slot_w : HoldsSlot terms.modes H w f h old) where
    abbrev d : DropsKnown terms.modes h old
    d = guards.drops

    abbrev h2 : List Entry
    h2 = h ++ Began lane line op ∷ []

    split_ : h2 ++ rest ≡ H
    split_ = append_assoc h (Began lane line op ∷ []) rest ∙ is

    long : length h2 ≡ length h + 1
    long = length_last h (Began lane line op)

    shorter : length h ≤ length h2
    shorter = let more = long in omega (arith, more)

    under : UnderWay h2 lane (length h) (length h2) op
    under = record {
      line = line;
      began = At-last h (Began lane line op);
      before = let more = long in omega (arith, more);
      unanswered = λ a.
          let later = a.ended.later in
          let low = a.before in
          let more = long in
          absurd (omega (arith, later, low, more));
    }

    runs : Runs h2 lane
    runs = (lanes-begin h old lane line op k.lanes idle.other (Busy (machine_of mt lane op))).busy (length old.lanes) lane
        (to-map number_of (old.lanes ++ record { number = lane; state = Busy (machine_of mt lane op) } ∷ []) (length old.lanes) (record { number = lane; state = Busy (machine_of mt lane op) })
        (at-push old.lanes (record { number = lane; state = Busy (machine_of mt lane op) })))

    one_old : (n z : ℕ) (machine : Machine) (o : Op) → slice_get old.lanes (length old.lanes) ≡ Some (record { number = n; state = Busy machine }) → UnderWay h n z (length h) o → z ≡ length h
    one_old n z machine o there u = absurd (none-past old.lanes (record { number = n; state = Busy machine }) there)

    next : (z : ℕ) → Fresh h2 z (next_xid old.calls)
    next z q b at has = elim (At-cases h (Began lane line op) q (Sent b) at) [
      | inl was ↦ unused-fresh setup h old k z q b was has
      | inr last ↦ absurd (one-entry lane line op b (sym last.1))
    ]

    abbrev kind : ℕ
    kind = job_kind (machine_of mt lane op)

    abbrev d2 : DropsKnown terms.modes h2 new
    d2 = drops-starts mt terms.modes g.nocto setup h old new lane line op now r found k idle t d

    apart_ : AreApart old.lanes
    apart_ = (lanes-under-way h old k.lanes).apart

    begun : Begun mt terms.modes g.nocto setup h old new lane line op
    begun = starts-begun mt terms.modes g.nocto setup h old new lane line op now r found idle t

    others : OthersSame lane old.shelf.opens new.shelf.opens
    others = own-others _ _ _ _ _ _ _ _ _ _ begun.state begun.own

    same-slots : kind_of op ≡ plainly → new.shelf.opens ≡ old.shelf.opens
    same-slots is = starts-plain (counted old now) new lane (machine_of mt lane op) t (subst (λ (q : Kind). BeginsAs terms.modes.nocto lane q (machine_of mt lane op)) is (begins-as terms.modes mt g.nocto lane op))

    slots_w : HoldsSlot terms.modes H w f h2 new
    slots_w = holds-starts mt terms setup H V g w f h rest old new lane line op split_ r found idle others same-slots slot_w

    began-in : At H (length h) (Began lane line op)
    began-in = subst (λ (l : List Entry). At l (length h) (Began lane line op)) split_ (At-grow h2 rest (length h) (Began lane line op) (At-last h (Began lane line op)))

    abbrev its-but : State
    its-but = (starts-but f old new now lane (machine_of mt lane op) t).state

    turned-now : Turns f h h2 old new (length old.lanes) lane (length h) op its-but
    turned-now = let b = starts-but f old new now lane (machine_of mt lane op) t in turns-starts f h old new lane line op b.state idle b.but

    its-here : slice_get new.lanes (length old.lanes) ≡ Some (record { number = lane; state = its-but })
    its-here = (starts-but f old new now lane (machine_of mt lane op) t).but.here

    fixed_ : (x : ℕ) (a : Answer) → IsFixed h old x a → IsFixed h2 new x a
    fixed_ x a = fixed-turns f h h2 old new (length old.lanes) lane (length h) op its-but turned-now x a

    -- ---- touched

    touch : Touching terms.modes terms.origin H w (length H) p p f i h old → Touching terms.modes terms.origin H w (length H) p p f i h2 new
    touch m = touching-on terms.modes terms.origin H w (length H) p p f i h h2 old new fixed_ drop
        (apart-turns f h h2 old new (length old.lanes) lane (length h) op its-but turned-now (λ file l. names-next h (Began lane line op) file (began-other lane line op) l) (length H)) m
      where
        drop : IsLeft terms.modes H w (length H) p h old f → Touching terms.modes terms.origin H w (length H) p p f i h2 new
        drop (was_left n) = left_ (was_left n)
        drop (owed from after_ dr fate saver puts) =
            owed-at mt terms setup H w y sure due p f i byte h2 rest split_ new from after_ (dropped-starts mt terms.modes g.nocto setup f from h old new lane line op now r found idle t dr)

    touched-on : Touching terms.modes terms.origin H w (length H) p p f i h old → PhaseOf h2 new
    touched-on m = stands.touched (touch m)

    -- ---- before its bytes came in

    abbrev first : Family
    first = One mt terms setup H V g w y sure due p f i byte c (next_xid old.calls) (length h2)

    abbrev First : ℕ → Type 0
    First z = (q : ℕ) → first.Fresh q z

    abbrev early_plan : Plan f old.wsize kind old.shelf.seq First
    early_plan = PlanBefore mt terms setup H V g w y sure due p f i byte c (length h) old.wsize kind old.shelf.seq (next_xid old.calls) (length h2) new.shelf []

    abbrev early_job : Option (Owner f lane (bases f old.lanes)) → Job
    early_job owner =
        job-in f old.wsize some lane idle.least idle.most (bases f old.lanes) owner early_plan.C early_plan.D early_plan.E early_plan.t (turn_at (counted old now)) (early_plan.ways (turn_at (counted old now)) (λ q. inr refl))

    early-begins : (owner : Option (Owner f lane (bases f old.lanes))) → JobBegins (early_job owner) (machine_of mt lane op) old.shelf.opens
    early-begins owner = by (nat_eq kind 3) refl
      where
        by : (b : Bool) → nat_eq kind 3 ≡ b → JobBegins (early_job owner) (machine_of mt lane op) old.shelf.opens
        by true is3 = put-begins mt lane op (early_job owner) old.shelf.opens (put-kind mt terms setup H V g w y sure due p f i byte c lane op (eqb-true kind 3 is3))
        by false is3 =
            begins mt terms setup H V g w f i byte c.laneW c.endW.line c.opW c.endW.began (slot-of terms H w y f c.opW c.wrote) c.has h rest old lane line op is r found idle fits (early_job owner)
            (λ file offset bytes z. (z, λ three. absurd (eqb-false kind 3 is3 three))) (λ file z. (z, λ three. absurd (eqb-false kind 3 is3 three))) (λ file size upto z. z)

    starts-early : length h < p → Early mt terms setup H w y sure due p f i byte h old → PhaseOf h2 new
    starts-early lt e =
        let turned = turns-starts f h old new lane line op came.state idle came.but in
        before-next mt terms setup H V g w y sure due p f i byte c h h2 rest split_ old new (length old.lanes) lane (length h) op old.wsize some idle.least idle.most (bases f old.lanes) kind old.shelf.seq (next_xid old.calls)
        refl runs under shorter (let more = long in omega (arith, more, lt)) one_old [] came turned next e.fated (λ off low. past off low)
        (apart-turns f h h2 old new (length old.lanes) lane (length h) op came.state turned (λ file l. names-next h (Began lane line op) file (began-other lane line op) l) w)
        (λ same put value over. absurd (starts-not (counted old now) new lane (machine_of mt lane op) t put lane came.state came.but.here value over)) (λ same wr. guard-in same wr came.state came.but.here came.but.was (old.shelf.seq + 1)) e
      where
        -- its slot guards what a write adds
        guard-in : length h ≡ w → IsWriter c.opW → (st : State) → slice_get new.lanes (length old.lanes) ≡ Some (record { number = lane; state = st })
            → ((q : ℕ) (l : Lane) → slice_get new.lanes q ≡ Some l → q ≢ length old.lanes → slice_get old.lanes q ≡ Some l) → (m : ℕ) → IsGuarded m new f
        guard-in same wrote_ st here was m = by c.wrote
          where
            op_is : op ≡ c.opW
            op_is = nexts.op-at mt terms setup H V g w y sure due p f i byte c w lane line c.laneW c.endW.line op c.opW (subst (λ (z : ℕ). At H z (Began lane line op)) same began-in) c.endW.began

            no-close : kind ≡ 1 → (q : CloseFile) → IsClose new lane q → ⊥
            no-close one q i = at (nat_eq i.at (length old.lanes)) refl
              where
                at : (b : Bool) → nat_eq i.at (length old.lanes) ≡ b → ⊥
                at true e =
                    let five : 5 ≡ kind = starts-kind (counted old now) new lane (machine_of mt lane op) t lane (machines.File (files.Close q)) (ap (slice_get new.lanes) (sym (eqb-true i.at (length old.lanes) e)) ∙ i.there) in
                    omega (arith, five, one)
                at false e =
                    idle-numbers lane (numbers_of old.lanes) idle.other i.at
                    (to-map number_of old.lanes i.at (record { number = lane; state = Busy (machines.File (files.Close q)) })
                    (was i.at (record { number = lane; state = Busy (machines.File (files.Close q)) }) i.there (eqb-false i.at (length old.lanes) e)))

            by-slot : (o : Op) → op ≡ o → kind ≡ 1 → IsOf terms.modes H w o f → (its : ℕ) → slot_of o ≡ Some its → kind_of o ≡ plainly → IsGuarded m new f
            by-slot o is_o one of its on plain =
                slot-guard m f new lane its (no-close one)
                (slots_w o its plain on of lane (subst (λ (q : Op). UnderWay h2 lane w (length h2) q) is_o (subst (λ (z : ℕ). UnderWay h2 lane z (length h2) op) same under)))

            by : WritesIt terms H w y f c.opW → IsGuarded m new f
            by (of_last path offset bytes is_put call names last) = absurd (subst IsWriter is_put wrote_)
            by (of_slot writer of) = on c.opW op_is writer of
              where
                one : kind ≡ 1
                one = writer-kind mt terms setup H V g w y sure due p f i byte c h2 rest split_ lane (length h) op under same writer

                on : (o : Op) → op ≡ o → IsWriter o → IsOf terms.modes H w o f → IsGuarded m new f
                on (ops.Write its offset bytes) is_o wr of_ = by-slot (ops.Write its offset bytes) is_o one of_ its refl refl
                on (ops.Fill its offset count b) is_o wr of_ = by-slot (ops.Fill its offset count b) is_o one of_ its refl refl
                on (ops.Sync its) is_o wr of_ = absurd wr
                on (ops.Close its) is_o wr of_ = absurd wr
                on (ops.OpenFile its mode path) is_o wr of_ = absurd wr
                on (ops.Read its offset count) is_o wr of_ = absurd wr
                on (ops.Truncate its size) is_o wr of_ = absurd wr
                on (ops.Put path offset bytes) is_o wr of_ = absurd wr
                on (ops.Stat path) is_o wr of_ = absurd wr
                on (ops.Access path bits) is_o wr of_ = absurd wr
                on (ops.MakeDir path) is_o wr of_ = absurd wr
                on (ops.RemoveDir path) is_o wr of_ = absurd wr
                on (ops.Remove path) is_o wr of_ = absurd wr
                on (ops.Rename one two) is_o wr of_ = absurd wr
                on (ops.Link one two) is_o wr of_ = absurd wr
                on (ops.SymLink path target) is_o wr of_ = absurd wr
                on (ops.ReadLink path) is_o wr of_ = absurd wr
                on (ops.List path) is_o wr of_ = absurd wr

        past : w ≢ length h → length h ≤ w → length h2 ≤ w
        past off low = by (cases_lt (length h) w)
          where
            by : (length h < w) ⊎ (w ≤ length h) → length h2 ≤ w
            by (inl lt) = let more = long in omega (arith, lt, more)
            by (inr ge) = absurd (off (omega (arith, low, ge)))

        from : Common old.shelf.seq old.shelf.seq old.shelf.back
        from = common-from 0 old.shelf.seq old.shelf.seq old.shelf.back (omega arith) e.content

        came : Came_ f old.wsize some lane idle.least idle.most (bases f old.lanes) kind old.shelf.seq First early_plan old.lanes (length old.lanes) new
        came = starts-came mt setup h old k wholly placed some f e.owned First (λ q. inr refl) (λ q. inl refl) new lane op now idle t early_plan refl (λ sole. tt) early-begins (from, refl)
            (λ saver. (from, λ same mine. absurd (not-mine saver same mine)))
          where
            not-mine : (kind ≡ 2) ⊎ (kind ≡ 5) → length h ≡ w → OfOp H (length h) IsWriter ⊎ ((kind ≡ 3) × (f ≡ [])) → ⊥
            not-mine saver same (inr put) = not-kind saver put.0
              where
                not-kind : (kind ≡ 2) ⊎ (kind ≡ 5) → kind ≡ 3 → ⊥
                not-kind (inl a) b = omega (arith, a, b)
                not-kind (inr a) b = omega (arith, a, b)
            not-mine saver same (inl writer) =
                not-one saver (writer-kind mt terms setup H V g w y sure due p f i byte c h2 rest split_ lane (length h) op under same
                (subst IsWriter (write-op mt terms setup H V g w y sure due p f i byte c lane (length h) line op began-in-all same) (writer lane line op began-in-all)))
              where
                began-in-all : At H (length h) (Began lane line op)
                began-in-all = subst (λ (l : List Entry). At l (length h) (Began lane line op)) split_ (At-grow h2 rest (length h) (Began lane line op) (At-last h (Began lane line op)))

                not-one : (kind ≡ 2) ⊎ (kind ≡ 5) → kind ≡ 1 → ⊥
                not-one (inl a) b = omega (arith, a, b)
                not-one (inr a) b = omega (arith, a, b)

    -- ---- once they are there

    module _ (lt : length h < p) (n : ℕ) (began : w < length h) where
      lowp : length h2 ≤ p
      lowp = let more = long in omega (arith, more, lt)

      began2 : w < length h2
      began2 = let more = long in omega (arith, more, began)

      apart : length h ≢ w
      apart same = omega (arith, began, same)

      not : AnsweredBefore H (length h) w → ⊥
      not a = let later = a.ended.later in let low = a.before in omega (arith, later, low, began)

      module _ (a : Family) (since_now : a.Since (length h2)) (At_ : ℕ → Type 0) (nexts_ : (q : ℕ) → a.Fresh q (next_xid old.calls)) (zeros_ : (q : ℕ) → a.Fresh q 0)
          (known : KnownBy a old.shelf.seq f i byte n ⊥ old.shelf.seq old.shelf.back)
          (story : Story (ToldAfter mt terms setup H w y sure due p f i byte n) h old) (own : Owned f old.lanes old.shelf.seq old.shelf.back old.shelf.order)
          (held : Evident a ⊎ LiveBy mt terms setup H w y sure due p f i byte n h old) where
        -- what guards the byte as the step begins
        abbrev of-view : GuardView f old → Guarding mt terms setup H V g w y sure due p f i byte c h h2 rest split_ old new (length old.lanes) lane (length h) op old.wsize some idle.least idle.most (bases f old.lanes) kind old.shelf.seq (next_xid old.calls) refl runs under shorter lowp one_old a since_now n At_ began2 not []
        of-view (by_slot o) = open_ o
        of-view (by_close q ahead is) = ahead_ ahead

        abbrev guarding-by : Evident a ⊎ LiveBy mt terms setup H w y sure due p f i byte n h old → Guarding mt terms setup H V g w y sure due p f i byte c h h2 rest split_ old new (length old.lanes) lane (length h) op old.wsize some idle.least idle.most (bases f old.lanes) kind old.shelf.seq (next_xid old.calls) refl runs under shorter lowp one_old a since_now n At_ began2 not []
        guarding-by (inl e) = evident_ e
        guarding-by (inr (inl guard)) = of-view (guard-view n f old d.turned apart_ guard)
        guarding-by (inr (inr put)) = loose_ put

        abbrev guarding : Guarding mt terms setup H V g w y sure due p f i byte c h h2 rest split_ old new (length old.lanes) lane (length h) op old.wsize some idle.least idle.most (bases f old.lanes) kind old.shelf.seq (next_xid old.calls) refl runs under shorter lowp one_old a since_now n At_ began2 not []
        guarding = guarding-by held

        still : kind ≡ 3 → IsOpen old.shelf.opens f → IsOpen new.shelf.opens f
        still three o =
            let z = put-is op (put-kind mt terms setup H V g w y sure due p f i byte c lane op three) in
            subst (λ (q : Opens). IsOpen q f) (sym (same-slots (ap kind_of z.3))) o

        -- beside the put that wrote it another put isn't alone
        crowds : PutRuns mt terms setup H w y sure due p f i byte h old → length h ≢ w → list_any (is_other lane f) new.shelf.puts ≡ false → ⊥
        crowds q off sole =
            let but = starts-but f old new now lane (machine_of mt lane op) t in
            let turns = turns-starts f h old new lane line op but.state idle but.but in
            let apart-new = turns-apart f h h2 old new (length old.lanes) lane (length h) op but.state turns apart_ in
            let new-places = starts-put mt setup h old new lane op now k idle t places in
            let place : q.at ≢ length old.lanes = (λ same. none-past old.lanes (record { number = q.number; state = Busy q.machine }) (ap (slice_get old.lanes) (sym same) ∙ q.there)) in
            let its = (story q.at q.number q.machine w q.op q.there q.under).1 refl in
            let full = crowded new q.at q.number q.machine f lane apart-new new-places (turns.but.stays q.at (record { number = q.number; state = Busy q.machine }) q.there place)
            (own-at q.machine its.0 its.1 ∙ ap Some its.2.0)
            (λ same. idle-numbers lane (numbers_of old.lanes) idle.other q.at (to-map number_of old.lanes q.at (record { number = q.number; state = Busy q.machine }) q.there ∙ ap Some same)) in
            let no_way : true ≡ false = sym full ∙ sole in
            cc

        abbrev plan : Plan f old.wsize kind old.shelf.seq (λ z. (q : ℕ) → a.Fresh q z)
        plan = PlanAfter mt terms setup H V g w y sure due p f i byte c h h2 rest split_ old new (length old.lanes) lane (length h) op old.wsize some idle.least idle.most (bases f old.lanes) kind old.shelf.seq (next_xid old.calls) refl runs under shorter lowp one_old a since_now n At_ began2 not [] (Dropped mt terms setup H V g w y sure due p f i byte c h h2 rest split_ old new (length old.lanes) lane (length h) op old.wsize some idle.least idle.most (bases f old.lanes) kind old.shelf.seq (next_xid old.calls) refl runs under shorter lowp one_old a since_now n At_ began2 not [] guarding) (list_any (is_other lane f) new.shelf.puts ≡ false) (closes-by mt terms setup H V g w y sure due p f i byte c h h2 rest split_ old new (length old.lanes) lane (length h) op old.wsize some idle.least idle.most (bases f old.lanes) kind old.shelf.seq (next_xid old.calls) refl runs under shorter lowp one_old a since_now n At_ began2 not [] guarding) (puts-by mt terms setup H V g w y sure due p f i byte c h h2 rest split_ old new (length old.lanes) lane (length h) op old.wsize some idle.least idle.most (bases f old.lanes) kind old.shelf.seq (next_xid old.calls) refl runs under shorter lowp one_old a since_now n At_ began2 not [] guarding still crowds)

        begins_ : (owner : Option (Owner f lane (bases f old.lanes)))
            → JobBegins (job-in f old.wsize some lane idle.least idle.most (bases f old.lanes) owner plan.C plan.D plan.E plan.t (turn_at (counted old now)) (plan.ways (turn_at (counted old now)) nexts_)) (machine_of mt lane op)
            old.shelf.opens
        begins_ owner = by (nat_eq kind 3) refl
          where
            by : (b : Bool) → nat_eq kind 3 ≡ b
                → JobBegins (job-in f old.wsize some lane idle.least idle.most (bases f old.lanes) owner plan.C plan.D plan.E plan.t (turn_at (counted old now)) (plan.ways (turn_at (counted old now)) nexts_)) (machine_of mt lane op)
                old.shelf.opens
            by true is3 =
                put-begins mt lane op (job-in f old.wsize some lane idle.least idle.most (bases f old.lanes) owner plan.C plan.D plan.E plan.t (turn_at (counted old now)) (plan.ways (turn_at (counted old now)) nexts_))
                old.shelf.opens (put-kind mt terms setup H V g w y sure due p f i byte c lane op (eqb-true kind 3 is3))
            by false is3 =
                begins mt terms setup H V g w f i byte c.laneW c.endW.line c.opW c.endW.began (slot-of terms H w y f c.opW c.wrote) c.has h rest old lane line op is r found idle fits
                (job-in f old.wsize some lane idle.least idle.most (bases f old.lanes) owner plan.C plan.D plan.E plan.t (turn_at (counted old now)) (plan.ways (turn_at (counted old now)) nexts_))
                (λ file offset bytes z. ((z, apart), λ three. absurd (eqb-false kind 3 is3 three))) (λ file z. (z, λ three. absurd (eqb-false kind 3 is3 three))) (λ file size upto z. z)

        came : Came_ f old.wsize some lane idle.least idle.most (bases f old.lanes) kind old.shelf.seq (λ z. (q : ℕ) → a.Fresh q z) plan old.lanes (length old.lanes) new
        came = starts-came mt setup h old k wholly placed some f own (λ z. (q : ℕ) → a.Fresh q z) nexts_ zeros_ new lane op now idle t plan refl (λ sole. sole)
            begins_
            known (λ saver. over-known a f i byte n old.shelf.seq (Across terms.modes terms.origin H w (length h) f i) old.shelf.seq old.shelf.back known)

        turned : Turns f h h2 old new (length old.lanes) lane (length h) op came.state
        turned = turns-starts f h old new lane line op came.state idle came.but

        stays : length h ≡ w → (machine : Machine) → came.state ≡ Busy machine → OwnAt (Names f n) (own_save machine)
        stays same machine busy_is = absurd (apart same)

        left-here : IsOwed terms.modes (length h2) h2 new f → Touching terms.modes terms.origin H w (length H) p p f i h2 new
        left-here o = left-now mt terms setup H w y sure due p f i byte h2 rest split_ new began2 o

        -- a close that is refused as it begins
        refused-here : (fault : Fault) → came.state ≡ Over (answers.Refused fault) → ClosesIt terms.modes H (length h) f → (IsOpen new.shelf.opens f → ⊥) → Touching terms.modes terms.origin H w (length H) p p f i h2 new
        refused-here fault is_ ci shut =
            by (left-begins mt terms setup H V g f h old new lane line now r found idle d.turned apart_ rest came.state came.but.here op split_ t began-in)
          where
            op_is : op ≡ ops.Close ci.0
            op_is = nexts.op-at mt terms setup H V g w y sure due p f i byte c (length h) lane line ci.1.lane ci.1.line op (ops.Close ci.0) began-in ci.1.began

            held_now : file_at lane ci.0 old.shelf.opens ≡ Some f
            held_now = slot-begins mt terms setup H V g h (Began lane line op ∷ rest) is old r found lane line op ci.0 f began-in idle (ap slot_of op_is) (subst (λ (o : Op). IsOf terms.modes H (length h) o f) (sym op_is) ci.1)

            by : LeftOr mt terms setup H V g f h old new lane line came.state op → Touching terms.modes terms.origin H w (length H) p p f i h2 new
            by (inl drops) = left-here (drops fault is_ ci.0 ci.1 shut)
            by (inr same) = absurd (shut (subst (λ (z : Shelf). IsOpen z.opens f) (sym same) (file-open old.shelf.opens lane ci.0 f held_now)))

        closed : Unmade mt terms setup H V g w y sure due p f i byte c h h2 rest split_ old new (length old.lanes) lane (length h) op old.wsize some idle.least idle.most (bases f old.lanes) kind old.shelf.seq (next_xid old.calls) refl runs under shorter lowp one_old a since_now n At_ began2 not [] guarding → (fault : Fault) → came.state ≡ Over (answers.Refused fault) → ClosesIt terms.modes H (length h) f → (IsOpen new.shelf.opens f → ⊥)
            → Touching terms.modes terms.origin H w (length H) p p f i h2 new
        closed un fault is_ ci shut = refused-here fault is_ ci shut

        -- beside a close that is ahead
        beside : kind ≡ 3 → IsAhead f old.lanes old.shelf.order → Outcome_ mt terms setup H V g w y sure due p f i byte c h h2 rest split_ old new (length old.lanes) lane (length h) op old.wsize some idle.least idle.most (bases f old.lanes) kind old.shelf.seq (next_xid old.calls) refl runs under shorter lowp one_old a since_now n At_ began2 not []
        beside three ahead =
            ahead-known mt terms setup H V g w y sure due p f i byte c h h2 rest split_ old new (length old.lanes) lane (length h) op old.wsize some idle.least idle.most (bases f old.lanes) kind old.shelf.seq (next_xid old.calls) refl runs under shorter lowp one_old a since_now n At_ began2 not [] three (AheadOf mt setup h old k wholly placed some f own (λ z. (q : ℕ) → a.Fresh q z) nexts_ zeros_ ahead lane off)
            (old.lanes ++ record { number = lane; state = Busy t.after } ∷ []) (length old.lanes) l
            (λ answer is_. ready-is f h h2 old new (length old.lanes) lane (length h) op came.state turned answer (state-is came.state l.state lane lane (sym came.but.here ∙ l.here) ∙ is_))
          where
            off : ahead.n ≢ lane
            off same =
                idle-numbers lane (numbers_of old.lanes) idle.other ahead.at
                (to-map number_of old.lanes ahead.at (record { number = ahead.n; state = Busy ahead.machine }) ahead.there ∙ ap Some same)

            l : Landed f old.wsize some lane idle.least idle.most (bases f old.lanes) (AheadOf mt setup h old k wholly placed some f own (λ z. (q : ℕ) → a.Fresh q z) nexts_ zeros_ ahead lane off) (PlanAfter mt terms setup H V g w y sure due p f i byte c h h2 rest split_ old new (length old.lanes) lane (length h) op old.wsize some idle.least idle.most (bases f old.lanes) kind old.shelf.seq (next_xid old.calls) refl runs under shorter lowp one_old a since_now n At_ began2 not [] ⊥ ⊥ (closes-none mt terms setup H V g w y sure due p f i byte c h h2 rest split_ old new (length old.lanes) lane (length h) op old.wsize some idle.least idle.most (bases f old.lanes) kind old.shelf.seq (next_xid old.calls) refl runs under shorter lowp one_old a since_now n At_ began2 not [] three) (puts-none mt terms setup H V g w y sure due p f i byte c h h2 rest split_ old new (length old.lanes) lane (length h) op old.wsize some idle.least idle.most (bases f old.lanes) kind old.shelf.seq (next_xid old.calls) refl runs under shorter lowp one_old a since_now n At_ began2 not [])).C (PlanAfter mt terms setup H V g w y sure due p f i byte c h h2 rest split_ old new (length old.lanes) lane (length h) op old.wsize some idle.least idle.most (bases f old.lanes) kind old.shelf.seq (next_xid old.calls) refl runs under shorter lowp one_old a since_now n At_ began2 not [] ⊥ ⊥ (closes-none mt terms setup H V g w y sure due p f i byte c h h2 rest split_ old new (length old.lanes) lane (length h) op old.wsize some idle.least idle.most (bases f old.lanes) kind old.shelf.seq (next_xid old.calls) refl runs under shorter lowp one_old a since_now n At_ began2 not [] three) (puts-none mt terms setup H V g w y sure due p f i byte c h h2 rest split_ old new (length old.lanes) lane (length h) op old.wsize some idle.least idle.most (bases f old.lanes) kind old.shelf.seq (next_xid old.calls) refl runs under shorter lowp one_old a since_now n At_ began2 not [])).D (PlanAfter mt terms setup H V g w y sure due p f i byte c h h2 rest split_ old new (length old.lanes) lane (length h) op old.wsize some idle.least idle.most (bases f old.lanes) kind old.shelf.seq (next_xid old.calls) refl runs under shorter lowp one_old a since_now n At_ began2 not [] ⊥ ⊥ (closes-none mt terms setup H V g w y sure due p f i byte c h h2 rest split_ old new (length old.lanes) lane (length h) op old.wsize some idle.least idle.most (bases f old.lanes) kind old.shelf.seq (next_xid old.calls) refl runs under shorter lowp one_old a since_now n At_ began2 not [] three) (puts-none mt terms setup H V g w y sure due p f i byte c h h2 rest split_ old new (length old.lanes) lane (length h) op old.wsize some idle.least idle.most (bases f old.lanes) kind old.shelf.seq (next_xid old.calls) refl runs under shorter lowp one_old a since_now n At_ began2 not [])).E (PlanAfter mt terms setup H V g w y sure due p f i byte c h h2 rest split_ old new (length old.lanes) lane (length h) op old.wsize some idle.least idle.most (bases f old.lanes) kind old.shelf.seq (next_xid old.calls) refl runs under shorter lowp one_old a since_now n At_ began2 not [] ⊥ ⊥ (closes-none mt terms setup H V g w y sure due p f i byte c h h2 rest split_ old new (length old.lanes) lane (length h) op old.wsize some idle.least idle.most (bases f old.lanes) kind old.shelf.seq (next_xid old.calls) refl runs under shorter lowp one_old a since_now n At_ began2 not [] three) (puts-none mt terms setup H V g w y sure due p f i byte c h h2 rest split_ old new (length old.lanes) lane (length h) op old.wsize some idle.least idle.most (bases f old.lanes) kind old.shelf.seq (next_xid old.calls) refl runs under shorter lowp one_old a since_now n At_ began2 not [])).t
                (old.lanes ++ record { number = lane; state = Busy t.after } ∷ []) (length old.lanes) kind new
            l = starts-ahead mt setup h old k wholly placed some f own (λ z. (q : ℕ) → a.Fresh q z) nexts_ zeros_ ahead new lane op now idle t off (PlanAfter mt terms setup H V g w y sure due p f i byte c h h2 rest split_ old new (length old.lanes) lane (length h) op old.wsize some idle.least idle.most (bases f old.lanes) kind old.shelf.seq (next_xid old.calls) refl runs under shorter lowp one_old a since_now n At_ began2 not [] ⊥ ⊥ (closes-none mt terms setup H V g w y sure due p f i byte c h h2 rest split_ old new (length old.lanes) lane (length h) op old.wsize some idle.least idle.most (bases f old.lanes) kind old.shelf.seq (next_xid old.calls) refl runs under shorter lowp one_old a since_now n At_ began2 not [] three) (puts-none mt terms setup H V g w y sure due p f i byte c h h2 rest split_ old new (length old.lanes) lane (length h) op old.wsize some idle.least idle.most (bases f old.lanes) kind old.shelf.seq (next_xid old.calls) refl runs under shorter lowp one_old a since_now n At_ began2 not [])) refl
                (λ owner. put-begins mt lane op
                (job-in f old.wsize some lane idle.least idle.most (bases f old.lanes) owner (PlanAfter mt terms setup H V g w y sure due p f i byte c h h2 rest split_ old new (length old.lanes) lane (length h) op old.wsize some idle.least idle.most (bases f old.lanes) kind old.shelf.seq (next_xid old.calls) refl runs under shorter lowp one_old a since_now n At_ began2 not [] ⊥ ⊥ (closes-none mt terms setup H V g w y sure due p f i byte c h h2 rest split_ old new (length old.lanes) lane (length h) op old.wsize some idle.least idle.most (bases f old.lanes) kind old.shelf.seq (next_xid old.calls) refl runs under shorter lowp one_old a since_now n At_ began2 not [] three) (puts-none mt terms setup H V g w y sure due p f i byte c h h2 rest split_ old new (length old.lanes) lane (length h) op old.wsize some idle.least idle.most (bases f old.lanes) kind old.shelf.seq (next_xid old.calls) refl runs under shorter lowp one_old a since_now n At_ began2 not [])).C (PlanAfter mt terms setup H V g w y sure due p f i byte c h h2 rest split_ old new (length old.lanes) lane (length h) op old.wsize some idle.least idle.most (bases f old.lanes) kind old.shelf.seq (next_xid old.calls) refl runs under shorter lowp one_old a since_now n At_ began2 not [] ⊥ ⊥ (closes-none mt terms setup H V g w y sure due p f i byte c h h2 rest split_ old new (length old.lanes) lane (length h) op old.wsize some idle.least idle.most (bases f old.lanes) kind old.shelf.seq (next_xid old.calls) refl runs under shorter lowp one_old a since_now n At_ began2 not [] three) (puts-none mt terms setup H V g w y sure due p f i byte c h h2 rest split_ old new (length old.lanes) lane (length h) op old.wsize some idle.least idle.most (bases f old.lanes) kind old.shelf.seq (next_xid old.calls) refl runs under shorter lowp one_old a since_now n At_ began2 not [])).D (PlanAfter mt terms setup H V g w y sure due p f i byte c h h2 rest split_ old new (length old.lanes) lane (length h) op old.wsize some idle.least idle.most (bases f old.lanes) kind old.shelf.seq (next_xid old.calls) refl runs under shorter lowp one_old a since_now n At_ began2 not [] ⊥ ⊥ (closes-none mt terms setup H V g w y sure due p f i byte c h h2 rest split_ old new (length old.lanes) lane (length h) op old.wsize some idle.least idle.most (bases f old.lanes) kind old.shelf.seq (next_xid old.calls) refl runs under shorter lowp one_old a since_now n At_ began2 not [] three) (puts-none mt terms setup H V g w y sure due p f i byte c h h2 rest split_ old new (length old.lanes) lane (length h) op old.wsize some idle.least idle.most (bases f old.lanes) kind old.shelf.seq (next_xid old.calls) refl runs under shorter lowp one_old a since_now n At_ began2 not [])).E (PlanAfter mt terms setup H V g w y sure due p f i byte c h h2 rest split_ old new (length old.lanes) lane (length h) op old.wsize some idle.least idle.most (bases f old.lanes) kind old.shelf.seq (next_xid old.calls) refl runs under shorter lowp one_old a since_now n At_ began2 not [] ⊥ ⊥ (closes-none mt terms setup H V g w y sure due p f i byte c h h2 rest split_ old new (length old.lanes) lane (length h) op old.wsize some idle.least idle.most (bases f old.lanes) kind old.shelf.seq (next_xid old.calls) refl runs under shorter lowp one_old a since_now n At_ began2 not [] three) (puts-none mt terms setup H V g w y sure due p f i byte c h h2 rest split_ old new (length old.lanes) lane (length h) op old.wsize some idle.least idle.most (bases f old.lanes) kind old.shelf.seq (next_xid old.calls) refl runs under shorter lowp one_old a since_now n At_ began2 not [])).t (turn_at (counted old now)) ((PlanAfter mt terms setup H V g w y sure due p f i byte c h h2 rest split_ old new (length old.lanes) lane (length h) op old.wsize some idle.least idle.most (bases f old.lanes) kind old.shelf.seq (next_xid old.calls) refl runs under shorter lowp one_old a since_now n At_ began2 not [] ⊥ ⊥ (closes-none mt terms setup H V g w y sure due p f i byte c h h2 rest split_ old new (length old.lanes) lane (length h) op old.wsize some idle.least idle.most (bases f old.lanes) kind old.shelf.seq (next_xid old.calls) refl runs under shorter lowp one_old a since_now n At_ began2 not [] three) (puts-none mt terms setup H V g w y sure due p f i byte c h h2 rest split_ old new (length old.lanes) lane (length h) op old.wsize some idle.least idle.most (bases f old.lanes) kind old.shelf.seq (next_xid old.calls) refl runs under shorter lowp one_old a since_now n At_ began2 not [])).ways (turn_at (counted old now)) nexts_))
                old.shelf.opens (put-kind mt terms setup H V g w y sure due p f i byte c lane op three))
                known (λ saver. over-known a f i byte n old.shelf.seq (Across terms.modes terms.origin H w (length h) f i) old.shelf.seq old.shelf.back known)

        stepped-known : KnownBy a old.shelf.seq f i byte n ⊥ new.shelf.seq new.shelf.back ⊎ Touching terms.modes terms.origin H w (length H) p p f i h2 new
        stepped-known = kept-known mt terms setup H V g w y sure due p f i byte c h h2 rest split_ old new (length old.lanes) lane (length h) op old.wsize some idle.least idle.most (bases f old.lanes) kind old.shelf.seq (next_xid old.calls) refl runs under shorter lowp one_old a since_now n At_ began2 not [] guarding still crowds came turned closed beside

        -- a close that ends as it begins, or has saved the file then
        its-close : (slot : ℕ) → op ≡ ops.Close slot → file_at lane slot old.shelf.opens ≡ Some f → ClosesIt terms.modes H (length h) f
        its-close slot op_is held_ = (
          slot,
          close-of mt terms setup H V g w f i byte c.laneW c.endW.line c.opW c.endW.began (slot-of terms H w y f c.opW c.wrote) c.has h rest old lane line slot f
              (subst (λ (o : Op). h ++ Began lane line o ∷ rest ≡ H) op_is is) r found idle held_,
        )

        its-state : (st : State) → new.lanes ≡ old.lanes ++ record { number = lane; state = st } ∷ [] → (own_ : State) → slice_get new.lanes (length old.lanes) ≡ Some (record { number = lane; state = own_ }) → own_ ≡ st
        its-state st lanes_are own_ here =
            state-is own_ st lane lane (sym here ∙ ap (λ (ls : List Lane). slice_get ls (length old.lanes)) lanes_are ∙ at-push old.lanes (record { number = lane; state = st }))

        own-came : (slot : ℕ) → op ≡ ops.Close slot → (ci : ClosesIt terms.modes H (length h) f)
            → Came_ f old.wsize some lane idle.least idle.most (bases f old.lanes) kind old.shelf.seq (λ z. (q : ℕ) → a.Fresh q z) (PlanOwn mt terms setup H V g w y sure due p f i byte c h h2 rest split_ old new (length old.lanes) lane (length h) op old.wsize some idle.least idle.most (bases f old.lanes) kind old.shelf.seq (next_xid old.calls) refl runs under shorter lowp one_old a since_now n At_ began2 not [] ci) old.lanes (length old.lanes) new
        own-came slot op_is ci = starts-came mt setup h old k wholly placed some f own (λ z. (q : ℕ) → a.Fresh q z) nexts_ zeros_ new lane op now idle t (PlanOwn mt terms setup H V g w y sure due p f i byte c h h2 rest split_ old new (length old.lanes) lane (length h) op old.wsize some idle.least idle.most (bases f old.lanes) kind old.shelf.seq (next_xid old.calls) refl runs under shorter lowp one_old a since_now n At_ began2 not [] ci) refl (λ sole. tt) begins-own
            known (λ saver. over-known a f i byte n old.shelf.seq (Across terms.modes terms.origin H w (length h) f i) old.shelf.seq old.shelf.back known)
          where
            not-three : kind ≡ 3 → ⊥
            not-three three = let no_way : 5 ≡ 3 = sym (ap (λ (o : Op). job_kind (machine_of mt lane o)) op_is) ∙ three in omega (arith, no_way)

            begins-own : (owner : Option (Owner f lane (bases f old.lanes)))
                → JobBegins (job-in f old.wsize some lane idle.least idle.most (bases f old.lanes) owner (PlanOwn mt terms setup H V g w y sure due p f i byte c h h2 rest split_ old new (length old.lanes) lane (length h) op old.wsize some idle.least idle.most (bases f old.lanes) kind old.shelf.seq (next_xid old.calls) refl runs under shorter lowp one_old a since_now n At_ began2 not [] ci).C (PlanOwn mt terms setup H V g w y sure due p f i byte c h h2 rest split_ old new (length old.lanes) lane (length h) op old.wsize some idle.least idle.most (bases f old.lanes) kind old.shelf.seq (next_xid old.calls) refl runs under shorter lowp one_old a since_now n At_ began2 not [] ci).D (PlanOwn mt terms setup H V g w y sure due p f i byte c h h2 rest split_ old new (length old.lanes) lane (length h) op old.wsize some idle.least idle.most (bases f old.lanes) kind old.shelf.seq (next_xid old.calls) refl runs under shorter lowp one_old a since_now n At_ began2 not [] ci).E (PlanOwn mt terms setup H V g w y sure due p f i byte c h h2 rest split_ old new (length old.lanes) lane (length h) op old.wsize some idle.least idle.most (bases f old.lanes) kind old.shelf.seq (next_xid old.calls) refl runs under shorter lowp one_old a since_now n At_ began2 not [] ci).t (turn_at (counted old now)) ((PlanOwn mt terms setup H V g w y sure due p f i byte c h h2 rest split_ old new (length old.lanes) lane (length h) op old.wsize some idle.least idle.most (bases f old.lanes) kind old.shelf.seq (next_xid old.calls) refl runs under shorter lowp one_old a since_now n At_ began2 not [] ci).ways (turn_at (counted old now)) nexts_)) (machine_of mt lane op)
                old.shelf.opens
            begins-own owner =
                begins mt terms setup H V g w f i byte c.laneW c.endW.line c.opW c.endW.began (slot-of terms H w y f c.opW c.wrote) c.has h rest old lane line op is r found idle fits
                (job-in f old.wsize some lane idle.least idle.most (bases f old.lanes) owner (PlanOwn mt terms setup H V g w y sure due p f i byte c h h2 rest split_ old new (length old.lanes) lane (length h) op old.wsize some idle.least idle.most (bases f old.lanes) kind old.shelf.seq (next_xid old.calls) refl runs under shorter lowp one_old a since_now n At_ began2 not [] ci).C (PlanOwn mt terms setup H V g w y sure due p f i byte c h h2 rest split_ old new (length old.lanes) lane (length h) op old.wsize some idle.least idle.most (bases f old.lanes) kind old.shelf.seq (next_xid old.calls) refl runs under shorter lowp one_old a since_now n At_ began2 not [] ci).D (PlanOwn mt terms setup H V g w y sure due p f i byte c h h2 rest split_ old new (length old.lanes) lane (length h) op old.wsize some idle.least idle.most (bases f old.lanes) kind old.shelf.seq (next_xid old.calls) refl runs under shorter lowp one_old a since_now n At_ began2 not [] ci).E (PlanOwn mt terms setup H V g w y sure due p f i byte c h h2 rest split_ old new (length old.lanes) lane (length h) op old.wsize some idle.least idle.most (bases f old.lanes) kind old.shelf.seq (next_xid old.calls) refl runs under shorter lowp one_old a since_now n At_ began2 not [] ci).t (turn_at (counted old now)) ((PlanOwn mt terms setup H V g w y sure due p f i byte c h h2 rest split_ old new (length old.lanes) lane (length h) op old.wsize some idle.least idle.most (bases f old.lanes) kind old.shelf.seq (next_xid old.calls) refl runs under shorter lowp one_old a since_now n At_ began2 not [] ci).ways (turn_at (counted old now)) nexts_))
                (λ file offset bytes z. ((z, apart), λ three. absurd (not-three three))) (λ file z. (z, λ three. absurd (not-three three))) (λ file size upto z. z)

        stepped-guard : (GuardBy mt terms setup H w y sure due p f i byte n (Evident a) h2 new ⊎ Evident a) ⊎ Touching terms.modes terms.origin H w (length H) p p f i h2 new
        stepped-guard = by held
          where
            close-kind : (slot : ℕ) → op ≡ ops.Close slot → kind ≡ 5
            close-kind slot op_is = ap (λ (o : Op). job_kind (machine_of mt lane o)) op_is

            after_ : IsGuarded n new f ⊎ BeginsWell lane op f old new → (GuardBy mt terms setup H w y sure due p f i byte n (Evident a) h2 new ⊎ Evident a) ⊎ Touching terms.modes terms.origin H w (length H) p p f i h2 new
            after_ (inl guard) = inl (inl (inl guard))
            after_ (inr (begun_saved slot value op_is held_ lanes_are)) =
                let ci = its-close slot op_is held_ in
                let own_ = own-came slot op_is ci in
                inl (inr (saved-ends mt terms setup H V g w y sure due p f i byte c h h2 rest split_ old new (length old.lanes) lane (length h) op old.wsize some idle.least idle.most (bases f old.lanes) kind old.shelf.seq (next_xid old.calls) refl runs under shorter lowp one_old a since_now n At_ began2 not [] ci (close-kind slot op_is) own_ value (its-state (Over (answers.Done value)) lanes_are own_.state own_.but.here)))
            after_ (inr (begun_removes slot q removal op_is held_ lanes_are gone fine)) =
                let ci = its-close slot op_is held_ in
                let own_ = own-came slot op_is ci in
                inl (inr (saved-goes mt terms setup H V g w y sure due p f i byte c h h2 rest split_ old new (length old.lanes) lane (length h) op old.wsize some idle.least idle.most (bases f old.lanes) kind old.shelf.seq (next_xid old.calls) refl runs under shorter lowp one_old a since_now n At_ began2 not [] ci (close-kind slot op_is) own_ q removal (its-state (Busy (machines.File (files.Close q))) lanes_are own_.state own_.but.here) gone fine))
            after_ (inr (begun_gave slot fault op_is held_ lanes_are shut)) =
                inr (refused-here fault (its-state (Over (answers.Refused fault)) lanes_are came.state came.but.here) (its-close slot op_is held_) shut)

            by : Evident a ⊎ LiveBy mt terms setup H w y sure due p f i byte n h old
                → (GuardBy mt terms setup H w y sure due p f i byte n (Evident a) h2 new ⊎ Evident a) ⊎ Touching terms.modes terms.origin H w (length H) p p f i h2 new
            by (inl e) = inl (inr e)
            by (inr (inr put)) = inl (inl (inr (
              put.put,
              fate-turns f h h2 old new (length old.lanes) lane (length h) op came.state turned w (Evident a) (Evident a) (λ z. z) (λ same value is_. absurd (apart (sym same)))
                  (λ off low. absurd (omega (arith, began, low))) one_old (busy put.at put.number put.machine put.op put.there put.under),
            )))
            by (inr (inl guard)) = after_ ((guards-kept mt terms setup h old (record { nocto = g.nocto; reaches = r }) found).begins lane now op new idle t n known.low f guard)

        stepped-both : (KnownBy a old.shelf.seq f i byte n ⊥ new.shelf.seq new.shelf.back × (GuardBy mt terms setup H w y sure due p f i byte n (Evident a) h2 new ⊎ Evident a))
            ⊎ Touching terms.modes terms.origin H w (length H) p p f i h2 new
        stepped-both = both-or stepped-known stepped-guard

        stepped-story : Story (ToldAfter mt terms setup H w y sure due p f i byte n) h2 new
        stepped-story =
            after-story mt terms setup H V g w y sure due p f i byte c h h2 rest split_ old new (length old.lanes) lane (length h) op old.wsize some idle.least idle.most (bases f old.lanes) kind old.shelf.seq (next_xid old.calls) refl runs under shorter lowp one_old a since_now n At_ began2 not [] (Dropped mt terms setup H V g w y sure due p f i byte c h h2 rest split_ old new (length old.lanes) lane (length h) op old.wsize some idle.least idle.most (bases f old.lanes) kind old.shelf.seq (next_xid old.calls) refl runs under shorter lowp one_old a since_now n At_ began2 not [] guarding) (list_any (is_other lane f) new.shelf.puts ≡ false) (closes-by mt terms setup H V g w y sure due p f i byte c h h2 rest split_ old new (length old.lanes) lane (length h) op old.wsize some idle.least idle.most (bases f old.lanes) kind old.shelf.seq (next_xid old.calls) refl runs under shorter lowp one_old a since_now n At_ began2 not [] guarding) (puts-by mt terms setup H V g w y sure due p f i byte c h h2 rest split_ old new (length old.lanes) lane (length h) op old.wsize some idle.least idle.most (bases f old.lanes) kind old.shelf.seq (next_xid old.calls) refl runs under shorter lowp one_old a since_now n At_ began2 not [] guarding still crowds) came turned stays story

        stepped-owned : Owned f new.lanes new.shelf.seq new.shelf.back new.shelf.order
        stepped-owned = came.owned_

      held-first : LiveBy mt terms setup H w y sure due p f i byte n h old ⊎ ⊥ → Evident first ⊎ LiveBy mt terms setup H w y sure due p f i byte n h old
      held-first live = elim live [ inl guard ↦ inr guard | inr none ↦ absurd none ]

      starts-unsent : Since_ mt terms setup H w y sure due p f i byte (IsUnsent mt terms setup H w y sure due p f i byte n old) n ⊥ ⊥ h old → LiveBy mt terms setup H w y sure due p f i byte n h old ⊎ ⊥ → PhaseOf h2 new
      starts-unsent e live =
          let known : KnownBy first old.shelf.seq f i byte n ⊥ old.shelf.seq old.shelf.back =
          record { common = common-from 0 old.shelf.seq old.shelf.seq old.shelf.back (omega arith) e.content.common; low = e.content.low; stage = unsent e.content.ready e.content.there (inl refl) } in
          landed-unsent mt terms setup H V g w y sure due p f i byte c h h2 rest split_ old new (length old.lanes) lane (length h) op old.wsize some idle.least idle.most (bases f old.lanes) kind old.shelf.seq (next_xid old.calls) refl runs under shorter lowp one_old first (inr refl) n (λ q. ⊥) began2 not [] next
          (stepped-both first (inr refl) (λ q. ⊥) (λ q. inr refl) (λ q. inl refl) known e.story e.owned (held-first live)) e.fate
          (stepped-story first (inr refl) (λ q. ⊥) (λ q. inr refl) (λ q. inl refl) known e.story e.owned (held-first live))
          (stepped-owned first (inr refl) (λ q. ⊥) (λ q. inr refl) (λ q. inl refl) known e.story e.owned (held-first live))

      abbrev then_ : Family
      then_ = Two mt terms setup H V g w y sure due p f i byte c h2 old.calls.calls

      -- nothing is sent by this entry
      since-on : (q : ℕ) → SinceTwo mt terms setup H w y sure due p f i byte h q → SinceTwo mt terms setup H w y sure due p f i byte h2 q
      since-on q z = (
        let low = z.0 in let more = long in omega (arith, low, more),
        z.1,
        λ u xid offset how bytes sent at spells low high inside. elim (cases_lt u (length h)) [
          | inl before ↦ z.2 u xid offset how bytes sent at spells low before inside
          | inr past ↦ absurd (nothing-sent u sent at past high)
        ],
      )
        where
          nothing-sent : (u : ℕ) (sent : List ℕ) → At H u (Sent sent) → length h ≤ u → u < length h2 → ⊥
          nothing-sent u sent at past high =
              let here : u ≡ length h = let more = long in omega (arith, past, high, more) in
              one-entry lane line op sent (At-one H (length h) (Sent sent) (Began lane line op) (subst (λ (q : ℕ). At H q (Sent sent)) here at)
              (subst (λ (l : List Entry). At l (length h) (Began lane line op)) split_ (At-grow h2 rest (length h) (Began lane line op) (At-last h (Began lane line op)))))

      since-here : SinceTwo mt terms setup H w y sure due p f i byte h2 (length h2)
      since-here = (omega arith, began2, λ q xid offset how bytes sent at_q spells low high inside. absurd (omega (arith, low, high)))

      settles-on : StableTwo mt terms setup H w y sure due p f i byte h → StableTwo mt terms setup H w y sure due p f i byte h2
      settles-on z = (z.0, since-on z.0 z.1, z.2)

      abbrev was : Family
      was = Two mt terms setup H V g w y sure due p f i byte c h old.calls.calls

      shown-on : Evident was → Evident then_
      shown-on z = (z.0, since-on z.0 z.1, made-grow f i byte h (Began lane line op) z.0 z.2)

      held-then : LiveBy mt terms setup H w y sure due p f i byte n h old ⊎ Evident was → Evident then_ ⊎ LiveBy mt terms setup H w y sure due p f i byte n h old
      held-then live = elim live [ inl guard ↦ inr guard | inr made ↦ inl (shown-on made) ]

      starts-since : Since_ mt terms setup H w y sure due p f i byte (KnownBy was 0 f i byte n ⊥ old.shelf.seq old.shelf.back) n (StableTwo mt terms setup H w y sure due p f i byte h) (Evident was) h old → LiveBy mt terms setup H w y sure due p f i byte n h old ⊎ Evident was → PhaseOf h2 new
      starts-since e live =
          let known : KnownBy then_ old.shelf.seq f i byte n ⊥ old.shelf.seq old.shelf.back = record {
            common = common-from 0 old.shelf.seq old.shelf.seq old.shelf.back (omega arith) e.content.common;
            low = e.content.low;
            stage = two-map mt terms setup H V g w y sure due p f i byte c h h2 old.calls.calls old.calls.calls n old.shelf.back (λ q z low fr. fresh-grow h (Began lane line op) q z low fr) since-on
                (λ q v z. wrote-grow f i byte h (Began lane line op) old.calls.calls old.calls.calls q v (calls-same h2 old.calls.calls old.calls.calls refl) z) (λ q z. made-grow f i byte h (Began lane line op) q z) e.content.stage;
          } in
          landed-since mt terms setup H V g w y sure due p f i byte c h h2 rest split_ old new (length old.lanes) lane (length h) op old.wsize some idle.least idle.most (bases f old.lanes) kind old.shelf.seq (next_xid old.calls) refl runs under shorter lowp one_old then_ since-here n (λ q. ⊥) began2 not [] old.calls.calls
          (λ q v. wrote-kept f i byte h2 old.calls.calls new.calls.calls q v (calls-starts setup h old new lane line op now (machine_of mt lane op) k t))
          (stepped-both then_ since-here (λ q. ⊥) (λ q. inr (next q)) (λ q. inl refl) known e.story e.owned (held-then live))
          (fated-map sure (StableTwo mt terms setup H w y sure due p f i byte h) (StableTwo mt terms setup H w y sure due p f i byte h2) settles-on e.fate)
          (stepped-story then_ since-here (λ q. ⊥) (λ q. inr (next q)) (λ q. inl refl) known e.story e.owned (held-then live))
          (stepped-owned then_ since-here (λ q. ⊥) (λ q. inr (next q)) (λ q. inl refl) known e.story e.owned (held-then live))

    on : PhaseOf h old → length h < p → PhaseOf h2 new
    on (stands.early lowp e) lt = starts-early lt e
    on (stands.unsent low n e) lt = by (live-or mt terms setup H w y sure due p f i byte h old n ⊥ e.began e.guard)
      where
        by : (LiveBy mt terms setup H w y sure due p f i byte n h old ⊎ ⊥) ⊎ Touching terms.modes terms.origin H w (length H) p p f i h old → PhaseOf h2 new
        by (inr m) = touched-on m
        by (inl live) = starts-unsent lt n e.began e live
    on (stands.since low n e) lt = by (live-or mt terms setup H w y sure due p f i byte h old n (Evident (Two mt terms setup H V g w y sure due p f i byte c h old.calls.calls)) e.began e.guard)
      where
        by : (LiveBy mt terms setup H w y sure due p f i byte n h old ⊎ Evident (Two mt terms setup H V g w y sure due p f i byte c h old.calls.calls)) ⊎ Touching terms.modes terms.origin H w (length H) p p f i h old → PhaseOf h2 new
        by (inr m) = touched-on m
        by (inl live) = starts-since lt n e.began e live
    on (stands.touched m) lt = touched-on m
    on (stands.past low) lt = stands.past (let more = long in omega (arith, more, low))

    pub starts-phase : PhaseOf h old → PhaseOf h2 new
    starts-phase phase = elim (cases_lt (length h) p) [ inl lt ↦ on phase lt | inr ge ↦ stands.past (let more = long in omega (arith, more, ge)) ]

  pub stands-starts : (h : List Entry) (old new : View) (lane line : ℕ) (op : Op) (now : ℕ) → Reaches (machine_of mt) setup h old → old.lost ≡ false → Known setup h old → IsIdle lane old.lanes
      → Fits (machine_of mt lane op) → StartsLane (counted old now) lane (machine_of mt lane op) new → Stands mt terms setup H w y sure due p f i byte h old
      → Stands mt terms setup H w y sure due p f i byte (h ++ Began lane line op ∷ []) new
  stands-starts h old new lane line op now r found k idle fits t st = record {
    guards = (guards-steps mt terms.modes g.nocto setup).starts h old new lane line op now r found k idle fits t st.guards;
    slot_w = λ rest is.
        let here : h ++ Began lane line op ∷ rest ≡ H = sym (append_assoc h (Began lane line op ∷ []) rest) ∙ is in
        slots_w h rest old new lane line op now here r found k idle fits t st.wholly st.placed st.places st.wsize st.guards (st.slot_w (Began lane line op ∷ rest) here);
    wholly = starts-wholly mt setup h old new lane line op now r found k idle t st.wholly;
    placed = (keeps-placed mt setup).starts h old new lane op now k idle t st.placed;
    places = starts-put mt setup h old new lane op now k idle t st.places;
    wsize = starts-stay has-some some-stays (counted old now) new lane (machine_of mt lane op) (λ state shelf. st.wsize) t;
    phase = λ rest is.
        let here : h ++ Began lane line op ∷ rest ≡ H = sym (append_assoc h (Began lane line op ∷ []) rest) ∙ is in
        starts-phase h rest old new lane line op now here r found k idle fits t st.wholly st.placed st.places st.wsize st.guards (st.slot_w (Began lane line op ∷ rest) here) (st.phase (Began lane line op ∷ rest) here);
  }
