-- A lane takes what came of its call: what holds of the byte goes on holding.
use Rattle.core_session.proofs.Prelude.{Ok, position, ◌≡◌, ◌≢◌, ◌≤◌, ◌<◌, ◌⊎◌, ◌+◌, inl, inr, ℕ, Bool, true, false, nat_eq, List, [], ◌∷◌, ◌++◌, length, Some, slice_get, refl, sym, ap, subst, ◌∙◌, arith, eqb-true, eqb-false, Waiting, next_xid, Value, Entry, Op, IsBusy, UnderWay, AnsweredBefore, Terms, of_file, Mounted, Machine, machine_of, Purpose, State, Busy, Over, Setup, TakesAt, View, turn_at, GoesWith, Known, taker-is, taker-one, quiet-facts, Runs, lanes-under-way, number_of, to-map, Placed, KnowsRoot, PutsNamed, xid_at, waiting_at, Verf, Wcc, Began, Delivered, said_of, Flown, fly_at, EachSound, Saving, is_busy, numbers_of, in_flight, Reaches, HearsRecord, taken_one, waits-late, Opens, IsOpen, Fault, At, IsOf, slot_of, CloseFile, file_at, Lane, AreApart, IsPlain, Kind, plainly, kind_of, IsOwed, IsGuarded, save_in, LetsGo, Answer, list_any, is_other}
use Rattle.world_model.specs.declared.answer.Answer.TheVariants as answers
use Rattle.world_model.specs.declared.op.Op.TheVariants as ops
use Rattle.core_session.proofs.saves.WholeSteps.{Wholly}
use Rattle.core_session.proofs.drops.LaneIs.{number-is, state-is}
use Rattle.core_session.proofs.drops.Laws.{DropsKnown, takes-stepped, OneStepped, drops-takes}
use Rattle.core_session.proofs.syncs.Leftovers.{left-step, closer-it}
use Rattle.core_session.proofs.syncs.PutAdding.{put-adding}
use Rattle.core_session.proofs.syncs.PutsBring.{PutGiven, puts-bring}
use Rattle.core_session.proofs.syncs.Aims.{JobAims, AimedAt, takes-aim, aims-own, saves-opens, opens-as}
use Rattle.core_session.proofs.syncs.AllJobs.{JobOpens, job_save, JobHas}
use Rattle.core_session.proofs.syncs.Aparts.{Apart, apart-heard}
use Rattle.core_session.proofs.syncs.PutEnds.{own-last}
use Rattle.core_session.proofs.syncs.PutGoes.{AtSave, OwnAt, Names, names-keep, at-save, own_save, own-has, takes-at-save, takes-still}
use Rattle.core_session.proofs.syncs.Carrying.{unused-fresh, calls-takes, wrote-kept}
use Rattle.core_session.proofs.syncs.Contents.{Common, Shows}
use Rattle.core_session.proofs.syncs.Fate.{Story, one-under, busy, fate-turns, ready-is}
use Rattle.core_session.proofs.syncs.Fates.{job_kind, save-is}
use Rattle.core_session.proofs.syncs.LaneButs.{takes-but}
use Rattle.core_session.proofs.syncs.Looks.{Touching, touching-on, ClosesIt, IsLeft, owed, was_left, left_}
use Rattle.core_session.proofs.syncs.Nexts.{at-on, not-before, common-from, known-from}
use Rattle.core_session.proofs.kept.Nexts.{landed-unsent, landed-since, PlanBefore, PlanAfter, before-next, after-story, One, Two, MineIs, before-other, before-write, before-put, to-plan, put-kind, Guarding, evident_, open_, ahead_, loose_, Unmade, Dropped, closes-by, puts-by, closes-none, puts-none, Outcome_, ahead-known, kept-known, PlanOwn, own-tale, saved-ends, saved-goes, PlanPut, put-tale, put-made}
use Rattle.core_session.proofs.kept.Nexts as nexts
use Rattle.core_session.proofs.syncs.Passing.{told}
use Rattle.core_session.proofs.syncs.Phases.{Across, Family, KnownBy, Evident}
use Rattle.core_session.proofs.syncs.Causes.{Adding, IsWriter, put-is}
use Rattle.core_session.proofs.syncs.Plans.{Plan, Came_, takes-came}
use Rattle.core_session.proofs.syncs.Seen.{bases, Owned}
use Rattle.core_session.proofs.syncs.Showings.{Fresh, Wrote, Made, flown-is, below-next, shows-write, shows-commit}
use Rattle.core_session.proofs.syncs.Stages.{unsent}
use Rattle.core_session.proofs.syncs.Stands.{WritesIt, of_slot, of_last}
use Rattle.core_session.proofs.kept.Stands.{Case, fated-map, StableTwo, ToldBefore, ToldAfter, after, SinceTwo, Has, Early, IsUnsent, Since_, Phase, before, GuardBy, PutRuns, LiveBy}
use Rattle.core_session.proofs.kept.Stands as stands
use Rattle.core_session.proofs.syncs.Turning.{IsFixed, Turns, fixed-turns, turns-take, under-on, under-was, turns-apart}
use Rattle.nfs_file_calls.specs.declared.owned.FileKept.TheVariants as kept
use Rattle.world_model.specs.declared.message.Reply.TheVariants as replies
use Rattle.step_saves.specs.Accounts.{Reaches as ReachesByte}
use Rattle.core_session.proofs.syncs.Grows.{SendsNone, BeginsNone, split-on, fresh-none, longer-by, begins-later}
use Rattle.core_session.proofs.kept.Grows.{evident-on, settles-on, two-on}
use Rattle.core_session.proofs.syncs.StirsOn.{over-known, both-or, busy-one}
use Rattle.op_machines.specs.declared.file_machine.FileMachine.TheVariants as files
use Rattle.op_machines.specs.declared.machine.Machine.TheVariants as machines
use Rattle.core_session.proofs.drops.Along.{GuardsKnown}
use Rattle.core_session.proofs.drops.Drops.{LaneTold}
use Rattle.core_session.proofs.drops.GuardLaws.{StepOf, takes-step}
use Rattle.core_session.proofs.drops.SlotKinds.{KindTold}
use Rattle.core_session.proofs.syncs.Guard.{GuardView, by_slot, by_close, guard-view, guard-step, SavesWell, ends, goes_on, GaveIt, loosed, still-guarded, owed-gave, slot-guard, takes-plain}
use Rattle.core_session.proofs.kept.Lefts.{left-now, left-shown, live-or}
use Rattle.core_session.proofs.syncs.Pasts.{IsAhead, AheadOf, takes-ahead}
use Rattle.core_session.proofs.syncs.SlotHeld.{HoldsSlot}
use Rattle.core_session.proofs.syncs.PutPlaced.{PutPlaced, takes-put, crowded, own-at}

module _ (mt : Mounted) (terms : Terms) (setup : Setup) (H : List Entry) (V : View) (g : GoesWith mt terms setup H V) (w y : ℕ) (sure : Bool) (due p : ℕ) (f : List ℕ) (i byte : ℕ) (c : Case terms H w y p f i byte) (roots : KnowsRoot terms.origin H mt.root)
    (puts_named : PutsNamed H) where
  abbrev PhaseOf : List Entry → View → Type 0
  PhaseOf = Phase mt terms setup H w y sure due p f i byte

  module _ (h rest : List Entry) (rec : List ℕ) (split0 : h ++ Delivered rec ∷ rest ≡ H) (old new : View) (xid : ℕ) (call : Waiting Purpose) (at : ℕ) (r : Reaches (machine_of mt) setup h old) (found : old.lost ≡ false)
      (k : Known setup h old) (fin : View) (hears : HearsRecord old rec fin) (named : xid_at rec ≡ Some xid) (waits : waiting_at xid old.calls.calls ≡ Some call)
      (place : position (is_busy call.purpose.lane) old.lanes ≡ Some at) (t : TakesAt (taken_one old xid) at call.purpose.sent (said_of call.purpose.proc rec) new) (wholly : Wholly setup h old) (placed : Placed old) (places : PutPlaced old)
      (some : 1 ≤ old.wsize) (guards : GuardsKnown terms.modes h old) (slot_w : HoldsSlot terms.modes H w f h old) where
    abbrev d : DropsKnown terms.modes h old
    d = guards.drops

    abbrev h2 : List Entry
    h2 = h ++ Delivered rec ∷ []

    split_ : h2 ++ rest ≡ H
    split_ = split-on H h rest (Delivered rec) split0

    sends-none : SendsNone (Delivered rec)
    sends-none b is = absurd cc

    begins-none : BeginsNone (Delivered rec)
    begins-none lane line op is = absurd cc

    shorter : length h ≤ length h2
    shorter = longer-by h (Delivered rec)

    run : IsBusy h t.number (length h)
    run = (lanes-under-way h old k.lanes).busy at (record { number = t.number; state = Busy t.machine }) t.there

    under2 : UnderWay h2 t.number run.x (length h2) run.op
    under2 = under-on h (Delivered rec) t.number run.x run.op (λ line answer is. absurd (cc is)) run.under_way

    runs : Runs h t.number
    runs = k.lanes.busy at t.number (to-map number_of old.lanes at (record { number = t.number; state = Busy t.machine }) t.there)

    runs2 : Runs h2 t.number
    runs2 = (quiet-facts h (Delivered rec) (numbers_of old.lanes) (λ number. refl) k.lanes).busy at t.number (to-map number_of old.lanes at (record { number = t.number; state = Busy t.machine }) t.there)

    one_old : (n z : ℕ) (machine : Machine) (o : Op) → slice_get old.lanes at ≡ Some (record { number = n; state = Busy machine }) → UnderWay h n z (length h) o → z ≡ run.x
    one_old n z machine o there u =
        (one-under h t.number run.x z run.op o runs run.under_way
        (subst (λ (m : ℕ). UnderWay h m z (length h) o) (number-is (Busy machine) (Busy t.machine) n t.number (sym there ∙ t.there)) u)).0

    abbrev least : 1 ≤ t.number
    least = (placed.live at (record { number = t.number; state = Busy t.machine }) t.there).least

    abbrev most : t.number ≤ 16
    most = (placed.live at (record { number = t.number; state = Busy t.machine }) t.there).most

    next : (z : ℕ) → Fresh h2 z (next_xid old.calls)
    next z = fresh-none h (Delivered rec) (next_xid old.calls) sends-none (unused-fresh setup h old k) z

    up-w : w ≢ run.x → length h ≤ w → length h2 ≤ w
    up-w off low = begins-later H h rest (Delivered rec) split0 begins-none w c.laneW c.endW.line c.opW c.endW.began low

    abbrev d2 : DropsKnown terms.modes h2 new
    d2 = drops-takes mt terms.modes g.nocto setup h old new rec xid call at k waits place t d

    step : StepOf old new
    step = takes-step setup terms.modes h old new k d rec xid call at waits place t

    apart_ : AreApart old.lanes
    apart_ = (lanes-under-way h old k.lanes).apart

    under-back : (x : ℕ) (o : Op) (n : ℕ) → UnderWay h2 n x (length h2) o → UnderWay h n x (length h) o
    under-back x o n u = under-was h (Delivered rec) n x o (λ line p is. absurd (begins-none n line p is)) u

    its-told : LaneTold terms.modes h t.number (Busy t.machine) old.shelf.opens
    its-told = d.lanes at (record { number = t.number; state = Busy t.machine }) t.there

    its-x : its-told.x ≡ run.x
    its-x = one_old t.number its-told.x t.machine its-told.op t.there its-told.under_way

    its-op : its-told.op ≡ run.op
    its-op = (one-under h t.number run.x its-told.x run.op its-told.op runs run.under_way its-told.under_way).1

    -- one that neither opens nor closes a slot
    plainly-told : kind_of run.op ≡ plainly → IsPlain t.machine
    plainly-told is = subst (λ (q : Kind). KindTold terms.modes h its-told.x t.number q t.machine old.shelf.opens) (ap kind_of its-op ∙ is) its-told.told

    no-close : kind_of run.op ≡ plainly → (q : CloseFile) → t.machine ≡ machines.File (files.Close q) → ⊥
    no-close is q same = subst IsPlain same (plainly-told is)

    stepped : OneStepped terms.modes h2 old new
    stepped = takes-stepped mt terms.modes g.nocto setup h old new rec xid call at k waits place t d

    its-but : (b : State) × (slice_get new.lanes at ≡ Some (record { number = t.number; state = b })) × ((q : ℕ) (l : Lane) → slice_get new.lanes q ≡ Some l → q ≢ at → slice_get old.lanes q ≡ Some l)
    its-but =
        let b = takes-but f old new xid at call.purpose.sent (said_of call.purpose.proc rec) t in
        (b.state, b.but.here, b.but.was)

    -- ---- what the record says

    number-of : call.purpose.lane ≡ t.number
    number-of = sym (taker-is setup h old xid call at k waits place t.number t.machine t.there)

    is-one : xid ≢ 0
    is-one same =
        let low = waits-late old.calls.cred old.calls.first_xid (next_xid old.calls) xid old.calls.calls call k.rows.sound.calls.each waits in
        let first = k.rows.sound.calls.first in
        omega (arith, low, first, same)

    one-says : (n q0 : ℕ) → EachSound old.shelf.back → (z : Saving) → Shows q0 f i byte n (One mt terms setup H V g w y sure due p f i byte c (next_xid old.calls) (length h2)).Fresh
        (One mt terms setup H V g w y sure due p f i byte c (next_xid old.calls) (length h2)).Since (λ m v. ⊥) (λ m. ⊥) ⊥ call.purpose.sent (said_of call.purpose.proc rec) z old.shelf.back
    one-says n q0 each z = (
      λ m flown flies_ byte_is number_is fresh_ since_ wcc count committed verf is reaches. absurd (by (flown-is mt setup h old r found xid call waits at t.number t.machine t.there number-of wholly f i byte each z.file count flown flies_ reaches) fresh_),
      λ m wcc verf is same since_ none. absurd none,
    )
      where
        by : {x : ℕ} → x ≡ xid → (x ≡ 0) ⊎ (x ≡ next_xid old.calls) → ⊥
        by here (inl zero_) = is-one (sym here ∙ zero_)
        by here (inr next_) =
            let low = below-next mt setup h old r found xid call waits at t.number t.machine t.there number-of wholly rec fin hears named f i byte in
            let same = sym here ∙ next_ in
            omega (arith, low, same)

    two-says : (n q0 : ℕ) → EachSound old.shelf.back → (z : Saving) → job_save t.machine ≡ Some z → Shows q0 f i byte n (Two mt terms setup H V g w y sure due p f i byte c h2 old.calls.calls).Fresh
        (Two mt terms setup H V g w y sure due p f i byte c h2 old.calls.calls).Since (Two mt terms setup H V g w y sure due p f i byte c h2 old.calls.calls).Wrote (Two mt terms setup H V g w y sure due p f i byte c h2 old.calls.calls).Made ⊥
        call.purpose.sent (said_of call.purpose.proc rec) z old.shelf.back
    two-says n q0 each z saved = (
      λ m flown flies_ byte_is number_is fresh_ since_ wcc count committed verf is reaches. by m flown flies_ byte_is number_is since_ wcc count committed verf is reaches fresh_,
      λ m wcc verf is same since_ wrote_. (shows-commit mt setup h old r found xid call waits at t.number t.machine t.there number-of wholly rec fin hears named f i byte z (SinceTwo mt terms setup H w y sure due p f i byte h2)
          (λ sends. (save-is t.machine z saved).flies_is some-call sends) (λ idle. (save-is t.machine z saved).commits_is some-call idle) m wcc verf is same since_ wrote_),
    )
      where
        some-call : 1 ≤ in_flight t.machine
        some-call = let one = taker-one setup h old xid call at k waits place t.number t.machine t.there in omega (arith, one)

        by : (m : ℕ) (flown : Flown) → fly_at (of_file f old.shelf.back) i ≡ Some flown → flown.byte ≡ byte → flown.number ≡ n → SinceTwo mt terms setup H w y sure due p f i byte h2 m
            → (wcc : Wcc) (count committed : ℕ) (verf : Verf) → said_of call.purpose.proc rec ≡ Ok (replies.File (kept.Write wcc count committed verf)) → ReachesByte f i byte old.shelf.back call.purpose.sent.xid z.file count
            → (flown.xid ≡ 0) ⊎ Fresh h2 m flown.xid → Wrote f i byte h2 old.calls.calls m verf.0 × (0 < committed → Made f i byte h2 m)
        by m flown flies_ byte_is number_is since_ wcc count committed verf is reaches (inl none) =
            absurd (is-one (sym (flown-is mt setup h old r found xid call waits at t.number t.machine t.there number-of wholly f i byte each z.file count flown flies_ reaches) ∙ none))
        by m flown flies_ byte_is number_is since_ wcc count committed verf is reaches (inr fresh_) =
            let k = shows-write mt setup h old r found xid call waits at t.number t.machine t.there number-of wholly rec fin hears named f i byte each z n (SinceTwo mt terms setup H w y sure due p f i byte h2)
            m flown flies_ byte_is number_is fresh_ since_ wcc count committed verf is reaches in k

    -- the bytes of a put come in to a file to which its path leads
    its-lane : UnderWay h call.purpose.lane run.x (length h) run.op
    its-lane = subst (λ (n : ℕ). UnderWay h n run.x (length h) run.op) (sym number-of) run.under_way

    given : PutGiven mt setup h old rec fin xid call at t.machine r found hears named waits
        (subst (λ (n : ℕ). slice_get old.lanes at ≡ Some (record { number = n; state = Busy t.machine })) (sym number-of) t.there) (Adding terms.modes terms.origin H w f i byte run.x) run.op
    given path offset text is =
        let u : UnderWay h call.purpose.lane run.x (length h) (ops.Put path offset text) = subst (λ (o : Op). UnderWay h call.purpose.lane run.x (length h) o) is its-lane in (
          puts_named run.x call.purpose.lane u.line offset path text
              (at-on H h (Delivered rec ∷ rest) split0 run.x (Began call.purpose.lane u.line (ops.Put path offset text)) u.began),
          λ file leads.
              put-adding mt terms.modes terms.origin setup H roots w f i byte c.laneW c.endW.line c.opW c.endW.began c.has h rest (Delivered rec ∷ rest) rec old (sym split_) (sym split0) r
              call.purpose.lane run.x offset path text u file leads,
        )

    opens : JobOpens (Adding terms.modes terms.origin H w f i byte run.x) old.wsize t.machine call.purpose.sent (turn_at (taken_one old xid)) (said_of call.purpose.proc rec) old.shelf t.next t.after t.shelf t.takes
    opens =
        puts-bring mt setup h old rec fin xid call at t.machine r found hears named waits
        (subst (λ (n : ℕ). slice_get old.lanes at ≡ Some (record { number = n; state = Busy t.machine })) (sym number-of) t.there) (Adding terms.modes terms.origin H w f i byte run.x) run.x run.op its-lane given
        old.wsize call.purpose.sent (turn_at (taken_one old xid)) t.next t.after t.shelf t.takes

    abbrev AddsHere : List ℕ → ℕ → List ℕ → Type 0
    AddsHere = Adding terms.modes terms.origin H w f i byte run.x

    aim_early : (tgt : List ℕ) × JobAims t.machine tgt
        × (JobOpens AddsHere old.wsize t.machine call.purpose.sent (turn_at (taken_one old xid)) (said_of call.purpose.proc rec) old.shelf t.next t.after t.shelf t.takes
        → JobOpens (AimedAt AddsHere (job_kind t.machine) old.wsize call.purpose.sent (turn_at (taken_one old xid)) (said_of call.purpose.proc rec) old.shelf t.next tgt) old.wsize t.machine call.purpose.sent
        (turn_at (taken_one old xid)) (said_of call.purpose.proc rec) old.shelf t.next t.after t.shelf t.takes)
    aim_early = takes-aim AddsHere (job_kind t.machine) old.wsize call.purpose.sent (turn_at (taken_one old xid)) (said_of call.purpose.proc rec) old.shelf t.next t.machine t.after t.shelf t.takes

    -- this record names the file that a put saved which went well
    put-left : (x : ℕ) → run.x ≡ x → job_kind t.machine ≡ 3 → job_kind t.machine ≡ job_kind (machine_of mt t.number run.op) → (state : State) → slice_get new.lanes at ≡ Some (record { number = t.number; state = state }) → (value : Value)
        → state ≡ Over (answers.Done value) → (f_off : (z : Saving) → own_save t.machine ≡ Some z → f ≢ z.file) → Apart f h2 new x
    put-left x same put kind_is state here value is off =
        let own = takes-at-save (taken_one old xid) new at call.purpose.sent (said_of call.purpose.proc rec) t put t.number state here value is in
        record {
          k = at;
          number = t.number;
          op = run.op;
          value = value;
          puts = put-kind mt terms setup H V g w y sure due p f i byte c t.number run.op (sym kind_is ∙ put);
          there = here ∙ ap (λ (st : State). Some (record { number = t.number; state = st })) is;
          under = subst (λ (z : ℕ). UnderWay h2 t.number z (length h2) run.op) same under2;
          file = own.0.file;
          off = off own.0 own.1;
          last = own-last mt setup h old rec fin xid call at r found hears named waits t.machine
              (subst (λ (n : ℕ). slice_get old.lanes at ≡ Some (record { number = n; state = Busy t.machine })) (sym number-of) t.there) own.0 own.1;
        }

    takes-early : length h2 ≤ p → Early mt terms setup H w y sure due p f i byte h old → PhaseOf h2 new
    takes-early lowp e = by (nat_eq run.x w) refl
      where
        told_ : ToldBefore mt terms setup H w y sure due p f i byte t.number run.x t.machine run.op
        told_ = e.story at t.number t.machine run.x run.op t.there run.under_way

        from : Common old.shelf.seq old.shelf.seq old.shelf.back
        from = common-from 0 old.shelf.seq old.shelf.seq old.shelf.back (omega arith) e.content

        -- its own save is of another file
        other-file : run.x ≡ w → (z : Saving) → own_save t.machine ≡ Some z → f ≢ z.file
        other-file same z own =
            let k = own-has (told f (Unit {0}) (before mt terms setup H w y sure due p f i byte run.x)) t.machine z own old.shelf.seq old.shelf.back old.shelf.order (told_.1 old.shelf.seq old.shelf.back old.shelf.order) in
            k.1.1 same

        -- its slot guards what a write adds
        guard-in : run.x ≡ w → IsWriter c.opW → (m : ℕ) → IsGuarded m new f
        guard-in same wrote_ m = by c.wrote
          where
            op_is : run.op ≡ c.opW
            op_is = nexts.op-at mt terms setup H V g w y sure due p f i byte c w t.number run.under_way.line c.laneW c.endW.line run.op c.opW
                (subst (λ (z : ℕ). At H z (Began t.number run.under_way.line run.op)) same (at-on H h (Delivered rec ∷ rest) split0 run.x (Began t.number run.under_way.line run.op) run.under_way.began)) c.endW.began

            by-slot : (op : Op) → run.op ≡ op → IsWriter op → IsOf terms.modes H w op f → (its : ℕ) → slot_of op ≡ Some its → kind_of op ≡ plainly → IsGuarded m new f
            by-slot op is writer of its on plain =
                let none = no-close (ap kind_of is ∙ plain) in
                let held : file_at t.number its old.shelf.opens ≡ Some f =
                slot_w op its plain on of t.number (subst (λ (o : Op). UnderWay h t.number w (length h) o) is (subst (λ (z : ℕ). UnderWay h t.number z (length h) run.op) same run.under_way)) in
                let was : IsGuarded m old f = slot-guard m f old t.number its
                (λ q i. none q (busy-one t.machine (machines.File (files.Close q)) (state-is (Busy t.machine) (Busy (machines.File (files.Close q))) t.number t.number
                (sym t.there ∙ ap (slice_get old.lanes) (sym (apart_ i.at at (record { number = t.number; state = Busy (machines.File (files.Close q)) }) (record { number = t.number; state = Busy t.machine }) i.there t.there refl))
                ∙ i.there)))) held in
                still-guarded m f old new at t.number t.machine its-but.0 t.there its-but.1 its-but.2 none (guard-step terms.modes h h2 old new m f step d d2 guards.ranked was)

            by : WritesIt terms H w y f c.opW → IsGuarded m new f
            by (of_last path offset bytes is call names last) = absurd (subst IsWriter is wrote_)
            by (of_slot writer of) = on c.opW op_is writer of
              where
                on : (op : Op) → run.op ≡ op → IsWriter op → IsOf terms.modes H w op f → IsGuarded m new f
                on (ops.Write its offset bytes) is wr of_ = by-slot (ops.Write its offset bytes) is wr of_ its refl refl
                on (ops.Fill its offset count b) is wr of_ = by-slot (ops.Fill its offset count b) is wr of_ its refl refl
                on (ops.Sync its) is wr of_ = absurd wr
                on (ops.Close its) is wr of_ = absurd wr
                on (ops.OpenFile its mode path) is wr of_ = absurd wr
                on (ops.Read its offset count) is wr of_ = absurd wr
                on (ops.Truncate its size) is wr of_ = absurd wr
                on (ops.Put path offset bytes) is wr of_ = absurd wr
                on (ops.Stat path) is wr of_ = absurd wr
                on (ops.Access path bits) is wr of_ = absurd wr
                on (ops.MakeDir path) is wr of_ = absurd wr
                on (ops.RemoveDir path) is wr of_ = absurd wr
                on (ops.Remove path) is wr of_ = absurd wr
                on (ops.Rename one two) is wr of_ = absurd wr
                on (ops.Link one two) is wr of_ = absurd wr
                on (ops.SymLink path target) is wr of_ = absurd wr
                on (ops.ReadLink path) is wr of_ = absurd wr
                on (ops.List path) is wr of_ = absurd wr

        on : Came_ f old.wsize some t.number least most (bases f old.lanes) (job_kind t.machine) old.shelf.seq (λ z. (q : ℕ) → (One mt terms setup H V g w y sure due p f i byte c (next_xid old.calls) (length h2)).Fresh q z)
            (PlanBefore mt terms setup H V g w y sure due p f i byte c run.x old.wsize (job_kind t.machine) old.shelf.seq (next_xid old.calls) (length h2) new.shelf aim_early.0) old.lanes at new → PhaseOf h2 new
        on came =
            before-next mt terms setup H V g w y sure due p f i byte c h h2 rest split_ old new at t.number run.x run.op old.wsize some least most (bases f old.lanes) (job_kind t.machine) old.shelf.seq (next_xid old.calls)
            told_.0 runs2 under2 shorter lowp one_old aim_early.0 came (turns-take f setup h old new at t.number t.machine came.state k t.there came.but rec run.x run.op under2) next
            e.fated up-w (λ left. absurd (apart-heard f h old w hears.may left))
            (λ same put value is. put-left w same put told_.0 came.state came.but.here value is (other-file same)) (λ same wr. guard-in same wr (old.shelf.seq + 1)) e

        its : run.x ≡ w → WritesIt terms H w y f c.opW → PhaseOf h2 new
        its same (of_slot writer of) = on (takes-came mt setup h old k wholly placed some f e.owned (λ z. (q : ℕ) → (One mt terms setup H V g w y sure due p f i byte c (next_xid old.calls) (length h2)).Fresh q z) (λ q. inr refl) (λ q. inl refl)
            rec xid call at r found waits place new t (PlanBefore mt terms setup H V g w y sure due p f i byte c run.x old.wsize (job_kind t.machine) old.shelf.seq (next_xid old.calls) (length h2) new.shelf aim_early.0) refl (λ sole. tt)
            (λ z saved. one-says (old.shelf.seq + 1) old.shelf.seq e.content.sound z) (aim_early.2 opens) ⊥
            (λ none z. absurd none) (from, refl)
            (before-write mt terms setup H V g w y sure due p f i byte c run.x old.wsize (job_kind t.machine) old.shelf.seq (next_xid old.calls) (length h2) new.shelf aim_early.0 t.machine refl aim_early.1 told_.1
            old.shelf.seq old.shelf.back old.shelf.order
            (told_.0 ∙ nexts.writer-kind mt terms setup H V g w y sure due p f i byte c h2 rest split_ t.number run.x run.op under2 same writer)))
        its same (of_last path offset bytes op_is call_ names last) = on (takes-came mt setup h old k wholly placed some f e.owned (λ z. (q : ℕ) → (One mt terms setup H V g w y sure due p f i byte c (next_xid old.calls) (length h2)).Fresh q z) (λ q. inr refl) (λ q. inl refl)
            rec xid call at r found waits place new t (PlanBefore mt terms setup H V g w y sure due p f i byte c run.x old.wsize (job_kind t.machine) old.shelf.seq (next_xid old.calls) (length h2) new.shelf aim_early.0) refl (λ sole. tt)
            (λ z saved. one-says (old.shelf.seq + 1) old.shelf.seq e.content.sound z) (aim_early.2 opens)
            (MineIs mt terms setup H V g w y sure due p f i byte c run.x old.wsize (job_kind t.machine) old.shelf.seq (next_xid old.calls) (length h2) new.shelf aim_early.0 t.machine refl aim_early.1 told_.1
            old.shelf.seq old.shelf.back old.shelf.order → ⊥)
            (λ nay z. (z.0, λ one mine. absurd (nay mine))) (from, refl)
            (before-put mt terms setup H V g w y sure due p f i byte c run.x old.wsize (job_kind t.machine) old.shelf.seq (next_xid old.calls) (length h2) new.shelf aim_early.0 t.machine refl aim_early.1 told_.1
            old.shelf.seq old.shelf.back old.shelf.order same
            (told_.0 ∙ nexts.put-at mt terms setup H V g w y sure due p f i byte c h2 rest split_ t.number run.x run.op under2 same path offset bytes op_is)
            (nexts.put-no-writer mt terms setup H V g w y sure due p f i byte c h2 rest split_ t.number run.x run.op under2 same path offset bytes op_is)))

        by : (b : Bool) → nat_eq run.x w ≡ b → PhaseOf h2 new
        by false d = on (takes-came mt setup h old k wholly placed some f e.owned (λ z. (q : ℕ) → (One mt terms setup H V g w y sure due p f i byte c (next_xid old.calls) (length h2)).Fresh q z) (λ q. inr refl) (λ q. inl refl)
            rec xid call at r found waits place new t (PlanBefore mt terms setup H V g w y sure due p f i byte c run.x old.wsize (job_kind t.machine) old.shelf.seq (next_xid old.calls) (length h2) new.shelf aim_early.0) refl (λ sole. tt)
            (λ z saved. one-says (old.shelf.seq + 1) old.shelf.seq e.content.sound z) (aim_early.2 opens) (Unit {0})
            (λ u z. (z.0, λ same. absurd (eqb-false run.x w d same))) (from, refl)
            (before-other mt terms setup H V g w y sure due p f i byte c run.x old.wsize (job_kind t.machine) old.shelf.seq (next_xid old.calls) (length h2) new.shelf aim_early.0 t.machine refl aim_early.1 told_.1
            old.shelf.seq old.shelf.back old.shelf.order (eqb-false run.x w d)))
        by true d = its (eqb-true run.x w d) c.wrote

    -- ---- once its bytes are there

    abbrev AddsThen : List ℕ → ℕ → List ℕ → Type 0
    AddsThen file offset bytes = Adding terms.modes terms.origin H w f i byte run.x file offset bytes × (run.x ≢ w)

    aim : (tgt : List ℕ) × JobAims t.machine tgt
        × (JobOpens AddsThen old.wsize t.machine call.purpose.sent (turn_at (taken_one old xid)) (said_of call.purpose.proc rec) old.shelf t.next t.after t.shelf t.takes
        → JobOpens (AimedAt AddsThen (job_kind t.machine) old.wsize call.purpose.sent (turn_at (taken_one old xid)) (said_of call.purpose.proc rec) old.shelf t.next tgt) old.wsize t.machine call.purpose.sent
        (turn_at (taken_one old xid)) (said_of call.purpose.proc rec) old.shelf t.next t.after t.shelf t.takes)
    aim = takes-aim AddsThen (job_kind t.machine) old.wsize call.purpose.sent (turn_at (taken_one old xid)) (said_of call.purpose.proc rec) old.shelf t.next t.machine t.after t.shelf t.takes

    -- the put that is looked after opens nothing more
    opens-then : (run.x ≡ w → AtSave (own_save t.machine))
        → JobOpens AddsThen old.wsize t.machine call.purpose.sent (turn_at (taken_one old xid)) (said_of call.purpose.proc rec) old.shelf t.next t.after t.shelf t.takes
    opens-then own = by (nat_eq run.x w) refl
      where
        by : (b : Bool) → nat_eq run.x w ≡ b
            → JobOpens AddsThen old.wsize t.machine call.purpose.sent (turn_at (taken_one old xid)) (said_of call.purpose.proc rec) old.shelf t.next t.after t.shelf t.takes
        by true d = saves-opens AddsThen (job_kind t.machine) old.wsize call.purpose.sent (turn_at (taken_one old xid)) (said_of call.purpose.proc rec) old.shelf t.next t.machine (own (eqb-true run.x w d)) t.after t.shelf t.takes
        by false d = opens-as AddsHere (job_kind t.machine) old.wsize call.purpose.sent (turn_at (taken_one old xid)) (said_of call.purpose.proc rec) old.shelf t.next AddsThen
            (λ file offset bytes k. (k, eqb-false run.x w d)) t.machine t.after t.shelf t.takes opens

    -- the lanes and the puts' places after the step
    turned0 : Turns f h h2 old new at t.number run.x run.op (takes-but f old new xid at call.purpose.sent (said_of call.purpose.proc rec) t).state
    turned0 =
        let b = takes-but f old new xid at call.purpose.sent (said_of call.purpose.proc rec) t in
        turns-take f setup h old new at t.number t.machine b.state k t.there b.but rec run.x run.op under2

    apart-new : AreApart new.lanes
    apart-new = turns-apart f h h2 old new at t.number run.x run.op (takes-but f old new xid at call.purpose.sent (said_of call.purpose.proc rec) t).state turned0 apart_

    its-stays : (q : ℕ) (l : Lane) → slice_get old.lanes q ≡ Some l → q ≢ at → slice_get new.lanes q ≡ Some l
    its-stays = turned0.but.stays

    new-places : PutPlaced new
    new-places = takes-put mt setup h old new rec xid call at k placed waits place t places

    module _ (lowp : length h2 ≤ p) (n : ℕ) (its_own : run.x ≡ w → OwnAt (Names f n) (own_save t.machine)) (began : w < length h2) (kind_is : job_kind t.machine ≡ job_kind (machine_of mt t.number run.op)) where
      not : AnsweredBefore H run.x w → ⊥
      not = not-before H h2 rest split_ w t.number run.x run.op began under2

      module _ (a : Family) (since_now : a.Since (length h2)) (At_ : ℕ → Type 0) (nexts_ : (q : ℕ) → a.Fresh q (next_xid old.calls)) (zeros_ : (q : ℕ) → a.Fresh q 0)
          (known : KnownBy a old.shelf.seq f i byte n ⊥ old.shelf.seq old.shelf.back)
          (story : Story (ToldAfter mt terms setup H w y sure due p f i byte n) h old) (own : Owned f old.lanes old.shelf.seq old.shelf.back old.shelf.order)
          (tale : Has f (after mt terms setup H w y sure due p f i byte run.x n) t.machine)
          (says : (z : Saving) → job_save t.machine ≡ Some z → Shows old.shelf.seq f i byte n a.Fresh a.Since a.Wrote a.Made ⊥ call.purpose.sent (said_of call.purpose.proc rec) z old.shelf.back)
          (held : Evident a ⊎ LiveBy mt terms setup H w y sure due p f i byte n h old) where
        -- what guards the byte as the step begins
        abbrev of-view : GuardView f old → Guarding mt terms setup H V g w y sure due p f i byte c h h2 rest split_ old new at t.number run.x run.op old.wsize some least most (bases f old.lanes) (job_kind t.machine) old.shelf.seq (next_xid old.calls) kind_is runs2 under2 shorter lowp one_old a since_now n At_ began not aim.0
        of-view (by_slot o) = open_ o
        of-view (by_close q ahead is) = ahead_ ahead

        abbrev guarding-by : Evident a ⊎ LiveBy mt terms setup H w y sure due p f i byte n h old → Guarding mt terms setup H V g w y sure due p f i byte c h h2 rest split_ old new at t.number run.x run.op old.wsize some least most (bases f old.lanes) (job_kind t.machine) old.shelf.seq (next_xid old.calls) kind_is runs2 under2 shorter lowp one_old a since_now n At_ began not aim.0
        guarding-by (inl e) = evident_ e
        guarding-by (inr (inl guard)) = of-view (guard-view n f old d.turned apart_ guard)
        guarding-by (inr (inr put)) = loose_ put

        abbrev guarding : Guarding mt terms setup H V g w y sure due p f i byte c h h2 rest split_ old new at t.number run.x run.op old.wsize some least most (bases f old.lanes) (job_kind t.machine) old.shelf.seq (next_xid old.calls) kind_is runs2 under2 shorter lowp one_old a since_now n At_ began not aim.0
        guarding = guarding-by held

        put-plain : job_kind t.machine ≡ 3 → kind_of run.op ≡ plainly
        put-plain three =
            let z = put-is run.op (nexts.put-kind mt terms setup H V g w y sure due p f i byte c t.number run.op (sym kind_is ∙ three)) in
            ap kind_of z.3

        still : job_kind t.machine ≡ 3 → IsOpen old.shelf.opens f → IsOpen new.shelf.opens f
        still three o = subst (λ (z : Opens). IsOpen z f) (sym (takes-plain (taken_one old xid) new at call.purpose.sent (said_of call.purpose.proc rec) t (plainly-told (put-plain three)))) o

        -- beside the put that wrote it another put isn't alone
        crowds : PutRuns mt terms setup H w y sure due p f i byte h old → run.x ≢ w → list_any (is_other t.number f) new.shelf.puts ≡ false → ⊥
        crowds r off sole =
            let place : r.at ≢ at = (λ same. off (sym (one_old r.number w r.machine r.op (ap (slice_get old.lanes) (sym same) ∙ r.there) r.under))) in
            let its = (story r.at r.number r.machine w r.op r.there r.under).1 refl in
            let full = crowded new r.at r.number r.machine f t.number apart-new new-places (its-stays r.at (record { number = r.number; state = Busy r.machine }) r.there place)
            (own-at r.machine its.0 its.1 ∙ ap Some its.2.0)
            (λ same. place (apart_ r.at at (record { number = r.number; state = Busy r.machine }) (record { number = t.number; state = Busy t.machine }) r.there t.there same)) in
            let no_way : true ≡ false = sym full ∙ sole in
            cc

        abbrev plan : Plan f old.wsize (job_kind t.machine) old.shelf.seq (λ z. (q : ℕ) → a.Fresh q z)
        plan =
            PlanAfter mt terms setup H V g w y sure due p f i byte c h h2 rest split_ old new at t.number run.x run.op old.wsize some least most (bases f old.lanes) (job_kind t.machine) old.shelf.seq (next_xid old.calls) kind_is runs2 under2 shorter lowp one_old a since_now n At_ began not aim.0
            (Dropped mt terms setup H V g w y sure due p f i byte c h h2 rest split_ old new at t.number run.x run.op old.wsize some least most (bases f old.lanes) (job_kind t.machine) old.shelf.seq (next_xid old.calls) kind_is runs2 under2 shorter lowp one_old a since_now n At_ began not aim.0 guarding) (list_any (is_other t.number f) new.shelf.puts ≡ false) (closes-by mt terms setup H V g w y sure due p f i byte c h h2 rest split_ old new at t.number run.x run.op old.wsize some least most (bases f old.lanes) (job_kind t.machine) old.shelf.seq (next_xid old.calls) kind_is runs2 under2 shorter lowp one_old a since_now n At_ began not aim.0 guarding) (puts-by mt terms setup H V g w y sure due p f i byte c h h2 rest split_ old new at t.number run.x run.op old.wsize some least most (bases f old.lanes) (job_kind t.machine) old.shelf.seq (next_xid old.calls) kind_is runs2 under2 shorter lowp one_old a since_now n At_ began not aim.0 guarding still crowds)

        came : Came_ f old.wsize some t.number least most (bases f old.lanes) (job_kind t.machine) old.shelf.seq (λ z. (q : ℕ) → a.Fresh q z) plan old.lanes at new
        came = takes-came mt setup h old k wholly placed some f own (λ z. (q : ℕ) → a.Fresh q z) nexts_ zeros_ rec xid call at r found waits place new t plan refl (λ sole. sole) says (aim.2 (opens-then (λ one. at-save (Names f n) (own_save t.machine) (its_own one)))) (Unit {0})
            (λ u z. over-known a f i byte n old.shelf.seq (Across terms.modes terms.origin H w run.x f i) old.shelf.seq old.shelf.back z) known
            (to-plan mt terms setup H V g w y sure due p f i byte c h h2 rest split_ old new at t.number run.x run.op old.wsize some least most (bases f old.lanes) (job_kind t.machine) old.shelf.seq (next_xid old.calls) kind_is runs2 under2 shorter lowp one_old a since_now n At_ began not aim.0 t.machine refl aim.1 tale old.shelf.seq old.shelf.back old.shelf.order)

        turned : Turns f h h2 old new at t.number run.x run.op came.state
        turned = turns-take f setup h old new at t.number t.machine came.state k t.there came.but rec run.x run.op under2

        -- the put stays at its own save
        stays : run.x ≡ w → (machine : Machine) → came.state ≡ Busy machine → OwnAt (Names f n) (own_save machine)
        stays same machine is = takes-still (Names f n) (names-keep f n) (taken_one old xid) new at call.purpose.sent (said_of call.purpose.proc rec) t (its_own same) t.number came.state came.but.here machine is

        left-here : IsOwed terms.modes (length h2) h2 new f → Touching terms.modes terms.origin H w (length H) p p f i h2 new
        left-here o = left-now mt terms setup H w y sure due p f i byte h2 rest split_ new began o

        closed : Unmade mt terms setup H V g w y sure due p f i byte c h h2 rest split_ old new at t.number run.x run.op old.wsize some least most (bases f old.lanes) (job_kind t.machine) old.shelf.seq (next_xid old.calls) kind_is runs2 under2 shorter lowp one_old a since_now n At_ began not aim.0 guarding → (fault : Fault) → came.state ≡ Over (answers.Refused fault) → ClosesIt terms.modes H run.x f → (IsOpen new.shelf.opens f → ⊥)
            → Touching terms.modes terms.origin H w (length H) p p f i h2 new
        closed un fault is ci shut = left-here
            (left-step mt terms setup H V g f h (Delivered rec ∷ rest) split0 h2 old new stepped d.turned apart_ at t.number t.machine t.there its-told came.state came.but.here run.x its-x fault is ci.0 ci.1 shut)

        -- beside a close that is ahead
        beside : job_kind t.machine ≡ 3 → IsAhead f old.lanes old.shelf.order → Outcome_ mt terms setup H V g w y sure due p f i byte c h h2 rest split_ old new at t.number run.x run.op old.wsize some least most (bases f old.lanes) (job_kind t.machine) old.shelf.seq (next_xid old.calls) kind_is runs2 under2 shorter lowp one_old a since_now n At_ began not aim.0
        beside three ahead = by (nat_eq ahead.n t.number) refl
          where
            one-machine : ahead.n ≡ t.number → ⊥
            one-machine same =
                let place = apart_ ahead.at at (record { number = ahead.n; state = Busy ahead.machine }) (record { number = t.number; state = Busy t.machine }) ahead.there t.there same in
                let machine : ahead.machine ≡ t.machine =
                busy-one ahead.machine t.machine (state-is (Busy ahead.machine) (Busy t.machine) ahead.n t.number (sym ahead.there ∙ ap (slice_get old.lanes) place ∙ t.there)) in
                let no_way : 5 ≡ 3 = sym ahead.kind ∙ ap job_kind machine ∙ three in
                omega (arith, no_way)

            by : (b : Bool) → nat_eq ahead.n t.number ≡ b → Outcome_ mt terms setup H V g w y sure due p f i byte c h h2 rest split_ old new at t.number run.x run.op old.wsize some least most (bases f old.lanes) (job_kind t.machine) old.shelf.seq (next_xid old.calls) kind_is runs2 under2 shorter lowp one_old a since_now n At_ began not aim.0
            by true e = absurd (one-machine (eqb-true ahead.n t.number e))
            by false e =
                let l = takes-ahead mt setup h old k wholly placed some f own (λ z. (q : ℕ) → a.Fresh q z) nexts_ zeros_ ahead rec xid call at r found waits place new t (eqb-false ahead.n t.number e)
                (PlanAfter mt terms setup H V g w y sure due p f i byte c h h2 rest split_ old new at t.number run.x run.op old.wsize some least most (bases f old.lanes) (job_kind t.machine) old.shelf.seq (next_xid old.calls) kind_is runs2 under2 shorter lowp one_old a since_now n At_ began not aim.0 ⊥ ⊥ (closes-none mt terms setup H V g w y sure due p f i byte c h h2 rest split_ old new at t.number run.x run.op old.wsize some least most (bases f old.lanes) (job_kind t.machine) old.shelf.seq (next_xid old.calls) kind_is runs2 under2 shorter lowp one_old a since_now n At_ began not aim.0 three) (puts-none mt terms setup H V g w y sure due p f i byte c h h2 rest split_ old new at t.number run.x run.op old.wsize some least most (bases f old.lanes) (job_kind t.machine) old.shelf.seq (next_xid old.calls) kind_is runs2 under2 shorter lowp one_old a since_now n At_ began not aim.0)) refl says (aim.2 (opens-then (λ one. at-save (Names f n) (own_save t.machine) (its_own one)))) known
                (λ u z. over-known a f i byte n old.shelf.seq (Across terms.modes terms.origin H w run.x f i) old.shelf.seq old.shelf.back z)
                (to-plan mt terms setup H V g w y sure due p f i byte c h h2 rest split_ old new at t.number run.x run.op old.wsize some least most (bases f old.lanes) (job_kind t.machine) old.shelf.seq (next_xid old.calls) kind_is runs2 under2 shorter lowp one_old a since_now n At_ began not aim.0 t.machine refl aim.1 tale old.shelf.seq old.shelf.back old.shelf.order) in
                ahead-known mt terms setup H V g w y sure due p f i byte c h h2 rest split_ old new at t.number run.x run.op old.wsize some least most (bases f old.lanes) (job_kind t.machine) old.shelf.seq (next_xid old.calls) kind_is runs2 under2 shorter lowp one_old a since_now n At_ began not aim.0 three (AheadOf mt setup h old k wholly placed some f own (λ z. (q : ℕ) → a.Fresh q z) nexts_ zeros_ ahead t.number (eqb-false ahead.n t.number e)) old.lanes at l
                (λ answer is. ready-is f h h2 old new at t.number run.x run.op came.state turned answer (state-is came.state l.state t.number t.number (sym came.but.here ∙ l.here) ∙ is))

        stepped-known : KnownBy a old.shelf.seq f i byte n ⊥ new.shelf.seq new.shelf.back ⊎ Touching terms.modes terms.origin H w (length H) p p f i h2 new
        stepped-known = kept-known mt terms setup H V g w y sure due p f i byte c h h2 rest split_ old new at t.number run.x run.op old.wsize some least most (bases f old.lanes) (job_kind t.machine) old.shelf.seq (next_xid old.calls) kind_is runs2 under2 shorter lowp one_old a since_now n At_ began not aim.0 guarding still crowds came turned closed beside

        -- a close that saved it
        evidence : SavesWell n f t.machine came.state → Evident a
        evidence well_ = by well_
          where
            made-by : (q : CloseFile) (z : Saving) → t.machine ≡ machines.File (files.Close q) → save_in q.state ≡ Some z → z.file ≡ f → n ≤ z.upto
                → ((ci : ClosesIt terms.modes H run.x f) (five : job_kind t.machine ≡ 5)
                → Came_ f old.wsize some t.number least most (bases f old.lanes) (job_kind t.machine) old.shelf.seq (λ z. (q : ℕ) → a.Fresh q z) (PlanOwn mt terms setup H V g w y sure due p f i byte c h h2 rest split_ old new at t.number run.x run.op old.wsize some least most (bases f old.lanes) (job_kind t.machine) old.shelf.seq (next_xid old.calls) kind_is runs2 under2 shorter lowp one_old a since_now n At_ began not aim.0 ci) old.lanes at new → Evident a) → Evident a
            made-by q z is saves file enough then =
                let it = closer-it mt terms setup H V g f h (Delivered rec ∷ rest) split0 t.number t.machine old.shelf.opens its-told q is z saves file in
                let ci : ClosesIt terms.modes H run.x f = (it.0, subst (λ (x : ℕ). IsOf terms.modes H x (ops.Close it.0) f) its-x it.1) in
                let five : job_kind t.machine ≡ 5 = ap job_kind is in
                then ci five
                (takes-came mt setup h old k wholly placed some f own (λ z. (q : ℕ) → a.Fresh q z) nexts_ zeros_ rec xid call at r found waits place new t (PlanOwn mt terms setup H V g w y sure due p f i byte c h h2 rest split_ old new at t.number run.x run.op old.wsize some least most (bases f old.lanes) (job_kind t.machine) old.shelf.seq (next_xid old.calls) kind_is runs2 under2 shorter lowp one_old a since_now n At_ began not aim.0 ci) refl (λ sole. tt) says (aim.2 (opens-then (λ one. at-save (Names f n) (own_save t.machine) (its_own one)))) (Unit {0})
                (λ u k. over-known a f i byte n old.shelf.seq (Across terms.modes terms.origin H w run.x f i) old.shelf.seq old.shelf.back k) known
                (subst (λ (m : Machine). JobHas (told f (Unit {0}) (PlanOwn mt terms setup H V g w y sure due p f i byte c h h2 rest split_ old new at t.number run.x run.op old.wsize some least most (bases f old.lanes) (job_kind t.machine) old.shelf.seq (next_xid old.calls) kind_is runs2 under2 shorter lowp one_old a since_now n At_ began not aim.0 ci).t) m old.shelf.seq old.shelf.back old.shelf.order) (sym is)
                (own-tale mt terms setup H V g w y sure due p f i byte c h h2 rest split_ old new at t.number run.x run.op old.wsize some least most (bases f old.lanes) (job_kind t.machine) old.shelf.seq (next_xid old.calls) kind_is runs2 under2 shorter lowp one_old a since_now n At_ began not aim.0 ci five q z saves enough
                (subst (Has f (after mt terms setup H w y sure due p f i byte run.x n)) is tale) old.shelf.seq old.shelf.back old.shelf.order)))

            by : SavesWell n f t.machine came.state → Evident a
            by (ends q z value is saves file enough st) = made-by q z is saves file enough
                (λ ci five own_. saved-ends mt terms setup H V g w y sure due p f i byte c h h2 rest split_ old new at t.number run.x run.op old.wsize some least most (bases f old.lanes) (job_kind t.machine) old.shelf.seq (next_xid old.calls) kind_is runs2 under2 shorter lowp one_old a since_now n At_ began not aim.0 ci five own_ value (state-is own_.state came.state t.number t.number (sym own_.but.here ∙ came.but.here) ∙ st))
            by (goes_on q e z removal is saves file enough st gone fine) = made-by q z is saves file enough
                (λ ci five own_. saved-goes mt terms setup H V g w y sure due p f i byte c h h2 rest split_ old new at t.number run.x run.op old.wsize some least most (bases f old.lanes) (job_kind t.machine) old.shelf.seq (next_xid old.calls) kind_is runs2 under2 shorter lowp one_old a since_now n At_ began not aim.0 ci five own_ e removal (state-is own_.state came.state t.number t.number (sym own_.but.here ∙ came.but.here) ∙ st) gone fine)

        -- the put that wrote it settles it where it ends well
        put-good : PutRuns mt terms setup H w y sure due p f i byte h old → w ≡ run.x → (value : Value) → came.state ≡ Over (answers.Done value) → Evident a
        put-good runner same value is =
            let put = runner.put t.number under2.line run.op
            (subst (λ (z : ℕ). At H z (Began t.number under2.line run.op)) (sym same) (at-on H h2 rest split_ run.x (Began t.number under2.line run.op) under2.began)) in
            let three : job_kind t.machine ≡ 3 = kind_is ∙ nexts.kind-of-put mt terms setup H V g w y sure due p f i byte c t.number run.op put in
            let saves = its_own (sym same) in
            let here : f ≡ aim.0 = sym saves.2.0 ∙ sym (aims-own t.machine aim.0 saves.0 aim.1 saves.1) in
            let own_ = takes-came mt setup h old k wholly placed some f own (λ z. (q : ℕ) → a.Fresh q z) nexts_ zeros_ rec xid call at r found waits place new t
            (PlanPut mt terms setup H V g w y sure due p f i byte c h h2 rest split_ old new at t.number run.x run.op old.wsize some least most (bases f old.lanes) (job_kind t.machine) old.shelf.seq (next_xid old.calls) kind_is runs2 under2 shorter lowp one_old a since_now n At_ began not aim.0 (sym same) three here) refl (λ sole. tt) says (aim.2 (opens-then (λ one. at-save (Names f n) (own_save t.machine) (its_own one)))) (Unit {0})
            (λ u q. over-known a f i byte n old.shelf.seq (Across terms.modes terms.origin H w run.x f i) old.shelf.seq old.shelf.back q) known
            (put-tale mt terms setup H V g w y sure due p f i byte c h h2 rest split_ old new at t.number run.x run.op old.wsize some least most (bases f old.lanes) (job_kind t.machine) old.shelf.seq (next_xid old.calls) kind_is runs2 under2 shorter lowp one_old a since_now n At_ began not aim.0 (sym same) three here t.machine aim.1 saves tale old.shelf.seq old.shelf.back old.shelf.order) in
            put-made mt terms setup H V g w y sure due p f i byte c h h2 rest split_ old new at t.number run.x run.op old.wsize some least most (bases f old.lanes) (job_kind t.machine) old.shelf.seq (next_xid old.calls) kind_is runs2 under2 shorter lowp one_old a since_now n At_ began not aim.0 (sym same) three here own_ value (state-is own_.state came.state t.number t.number (sym own_.but.here ∙ came.but.here) ∙ is)

        stepped-guard : (GuardBy mt terms setup H w y sure due p f i byte n (Evident a) h2 new ⊎ Evident a) ⊎ Touching terms.modes terms.origin H w (length H) p p f i h2 new
        stepped-guard = by held
          where
            loose : SavesWell n f t.machine came.state ⊎ GaveIt f old new t.machine came.state
                → (GuardBy mt terms setup H w y sure due p f i byte n (Evident a) h2 new ⊎ Evident a) ⊎ Touching terms.modes terms.origin H w (length H) p p f i h2 new
            loose (inl saves) = inl (inr (evidence saves))
            loose (inr gave_) = inr (left-here (owed-gave terms.modes h2 old new t.machine came.state f stepped d.turned apart_ gave_))

            after_ : IsGuarded n new f ⊎ LetsGo n f old new → (GuardBy mt terms setup H w y sure due p f i byte n (Evident a) h2 new ⊎ Evident a) ⊎ Touching terms.modes terms.origin H w (length H) p p f i h2 new
            after_ (inl guard) = inl (inl (inl guard))
            after_ (inr lets) = loose (loosed n f old new at t.number t.machine came.state t.there came.but.here came.but.was lets)

            by : Evident a ⊎ LiveBy mt terms setup H w y sure due p f i byte n h old
                → (GuardBy mt terms setup H w y sure due p f i byte n (Evident a) h2 new ⊎ Evident a) ⊎ Touching terms.modes terms.origin H w (length H) p p f i h2 new
            by (inl e) = inl (inr e)
            by (inr (inr put)) = inl (inl (inr (
              put.put,
              fate-turns f h h2 old new at t.number run.x run.op came.state turned w (Evident a) (Evident a) (λ z. z) (put-good put) up-w one_old (busy put.at put.number put.machine put.op put.there put.under),
            )))
            by (inr (inl guard)) = after_ (guard-step terms.modes h h2 old new n f step d d2 guards.ranked guard)

        stepped-both : (KnownBy a old.shelf.seq f i byte n ⊥ new.shelf.seq new.shelf.back × (GuardBy mt terms setup H w y sure due p f i byte n (Evident a) h2 new ⊎ Evident a))
            ⊎ Touching terms.modes terms.origin H w (length H) p p f i h2 new
        stepped-both = both-or stepped-known stepped-guard

        stepped-story : Story (ToldAfter mt terms setup H w y sure due p f i byte n) h2 new
        stepped-story =
            after-story mt terms setup H V g w y sure due p f i byte c h h2 rest split_ old new at t.number run.x run.op old.wsize some least most (bases f old.lanes) (job_kind t.machine) old.shelf.seq (next_xid old.calls) kind_is runs2 under2 shorter lowp one_old a since_now n At_ began not aim.0 (Dropped mt terms setup H V g w y sure due p f i byte c h h2 rest split_ old new at t.number run.x run.op old.wsize some least most (bases f old.lanes) (job_kind t.machine) old.shelf.seq (next_xid old.calls) kind_is runs2 under2 shorter lowp one_old a since_now n At_ began not aim.0 guarding) (list_any (is_other t.number f) new.shelf.puts ≡ false) (closes-by mt terms setup H V g w y sure due p f i byte c h h2 rest split_ old new at t.number run.x run.op old.wsize some least most (bases f old.lanes) (job_kind t.machine) old.shelf.seq (next_xid old.calls) kind_is runs2 under2 shorter lowp one_old a since_now n At_ began not aim.0 guarding) (puts-by mt terms setup H V g w y sure due p f i byte c h h2 rest split_ old new at t.number run.x run.op old.wsize some least most (bases f old.lanes) (job_kind t.machine) old.shelf.seq (next_xid old.calls) kind_is runs2 under2 shorter lowp one_old a since_now n At_ began not aim.0 guarding still crowds) came turned stays story

        stepped-owned : Owned f new.lanes new.shelf.seq new.shelf.back new.shelf.order
        stepped-owned = came.owned_

      abbrev first : Family
      first = One mt terms setup H V g w y sure due p f i byte c (next_xid old.calls) (length h2)

      abbrev then_ : Family
      then_ = Two mt terms setup H V g w y sure due p f i byte c h2 old.calls.calls

      held-first : LiveBy mt terms setup H w y sure due p f i byte n h old ⊎ ⊥ → Evident first ⊎ LiveBy mt terms setup H w y sure due p f i byte n h old
      held-first live = elim live [ inl guard ↦ inr guard | inr none ↦ absurd none ]

      abbrev was : Family
      was = Two mt terms setup H V g w y sure due p f i byte c h old.calls.calls

      shown-on : Evident was → Evident then_
      shown-on e = evident-on mt terms setup H V g w y sure due p f i byte c h rest (Delivered rec) old.calls.calls split0 sends-none e

      held-then : LiveBy mt terms setup H w y sure due p f i byte n h old ⊎ Evident was → Evident then_ ⊎ LiveBy mt terms setup H w y sure due p f i byte n h old
      held-then live = elim live [ inl guard ↦ inr guard | inr made ↦ inl (shown-on made) ]

      takes-unsent : Since_ mt terms setup H w y sure due p f i byte (IsUnsent mt terms setup H w y sure due p f i byte n old) n ⊥ ⊥ h old → LiveBy mt terms setup H w y sure due p f i byte n h old ⊎ ⊥
          → Has f (after mt terms setup H w y sure due p f i byte run.x n) t.machine → PhaseOf h2 new
      takes-unsent e live tale =
          let known : KnownBy first old.shelf.seq f i byte n ⊥ old.shelf.seq old.shelf.back =
          record { common = common-from 0 old.shelf.seq old.shelf.seq old.shelf.back (omega arith) e.content.common; low = e.content.low; stage = unsent e.content.ready e.content.there (inl refl) } in
          landed-unsent mt terms setup H V g w y sure due p f i byte c h h2 rest split_ old new at t.number run.x run.op old.wsize some least most (bases f old.lanes) (job_kind t.machine) old.shelf.seq (next_xid old.calls) kind_is runs2 under2 shorter lowp one_old first (inr refl) n (λ q. ⊥) began not aim.0 next
          (stepped-both first (inr refl) (λ q. ⊥) (λ q. inr refl) (λ q. inl refl) known e.story e.owned tale (λ z saved. one-says n old.shelf.seq e.content.common.sound z) (held-first live)) e.fate
          (stepped-story first (inr refl) (λ q. ⊥) (λ q. inr refl) (λ q. inl refl) known e.story e.owned tale (λ z saved. one-says n old.shelf.seq e.content.common.sound z) (held-first live))
          (stepped-owned first (inr refl) (λ q. ⊥) (λ q. inr refl) (λ q. inl refl) known e.story e.owned tale (λ z saved. one-says n old.shelf.seq e.content.common.sound z) (held-first live))

      since-here : SinceTwo mt terms setup H w y sure due p f i byte h2 (length h2)
      since-here = (omega arith, began, λ q xid offset how bytes sent at_q spells low high inside. absurd (omega (arith, low, high)))

      takes-since : Since_ mt terms setup H w y sure due p f i byte (KnownBy was 0 f i byte n ⊥ old.shelf.seq old.shelf.back) n (StableTwo mt terms setup H w y sure due p f i byte h) (Evident was) h old
          → LiveBy mt terms setup H w y sure due p f i byte n h old ⊎ Evident was → Has f (after mt terms setup H w y sure due p f i byte run.x n) t.machine → PhaseOf h2 new
      takes-since e live tale =
          let known : KnownBy then_ old.shelf.seq f i byte n ⊥ old.shelf.seq old.shelf.back =
          two-on mt terms setup H V g w y sure due p f i byte c h rest (Delivered rec) old.calls.calls n old.shelf.seq old.shelf.seq old.shelf.back split0 sends-none
          (known-from was f i byte n 0 old.shelf.seq old.shelf.seq old.shelf.back (omega arith) e.content) in
          landed-since mt terms setup H V g w y sure due p f i byte c h h2 rest split_ old new at t.number run.x run.op old.wsize some least most (bases f old.lanes) (job_kind t.machine) old.shelf.seq (next_xid old.calls) kind_is runs2 under2 shorter lowp one_old then_ since-here n (λ q. ⊥) began not aim.0 old.calls.calls
          (λ q v. wrote-kept f i byte h2 old.calls.calls new.calls.calls q v (calls-takes setup h old new rec xid at call.purpose.sent (said_of call.purpose.proc rec) k named t))
          (stepped-both then_ since-here (λ q. ⊥) (λ q. inr (next q)) (λ q. inl refl) known e.story e.owned tale (two-says n old.shelf.seq known.common.sound) (held-then live))
          (fated-map sure (StableTwo mt terms setup H w y sure due p f i byte h) (StableTwo mt terms setup H w y sure due p f i byte h2) (settles-on mt terms setup H V g w y sure due p f i byte c h rest (Delivered rec) split0 sends-none) e.fate)
          (stepped-story then_ since-here (λ q. ⊥) (λ q. inr (next q)) (λ q. inl refl) known e.story e.owned tale (two-says n old.shelf.seq known.common.sound) (held-then live))
          (stepped-owned then_ since-here (λ q. ⊥) (λ q. inr (next q)) (λ q. inl refl) known e.story e.owned tale (two-says n old.shelf.seq known.common.sound) (held-then live))

    turned-now : Turns f h h2 old new at t.number run.x run.op (takes-but f old new xid at call.purpose.sent (said_of call.purpose.proc rec) t).state
    turned-now =
        let b = takes-but f old new xid at call.purpose.sent (said_of call.purpose.proc rec) t in
        turns-take f setup h old new at t.number t.machine b.state k t.there b.but rec run.x run.op under2

    pub takes-touched : length h ≤ p → Touching terms.modes terms.origin H w (length H) p p f i h old → Touching terms.modes terms.origin H w (length H) p p f i h2 new
    takes-touched low m = touching-on terms.modes terms.origin H w (length H) p p f i h h2 old new fixed_ drop (λ left. absurd (apart-heard f h old (length H) hears.may left)) m
      where
        fixed_ : (x : ℕ) (answer : Answer) → IsFixed h old x answer → IsFixed h2 new x answer
        fixed_ = fixed-turns f h h2 old new at t.number run.x run.op (takes-but f old new xid at call.purpose.sent (said_of call.purpose.proc rec) t).state turned-now

        drop : IsLeft terms.modes H w (length H) p h old f → Touching terms.modes terms.origin H w (length H) p p f i h2 new
        drop (was_left n) = left_ (was_left n)
        drop (owed from after_ dr fate saver puts) = left_ (was_left (left-shown mt terms setup H w y sure due p f i byte h (Delivered rec ∷ rest) split0 low old hears.may from after_ dr))

    pub takes-phase : length h2 ≤ p → PhaseOf h old → PhaseOf h2 new
    takes-phase low (stands.early lowp e) = takes-early low e
    takes-phase low (stands.unsent lowp n e) = by (live-or mt terms setup H w y sure due p f i byte h old n ⊥ e.began e.guard)
      where
        by : (LiveBy mt terms setup H w y sure due p f i byte n h old ⊎ ⊥) ⊎ Touching terms.modes terms.origin H w (length H) p p f i h old → PhaseOf h2 new
        by (inr m) = stands.touched (takes-touched lowp m)
        by (inl live) =
            let told_ = e.story at t.number t.machine run.x run.op t.there run.under_way in
            takes-unsent low n told_.1 (let b = e.began in omega (arith, b, shorter)) told_.0 e live told_.2
    takes-phase low (stands.since lowp n e) = by (live-or mt terms setup H w y sure due p f i byte h old n (Evident (Two mt terms setup H V g w y sure due p f i byte c h old.calls.calls)) e.began e.guard)
      where
        by : (LiveBy mt terms setup H w y sure due p f i byte n h old ⊎ Evident (Two mt terms setup H V g w y sure due p f i byte c h old.calls.calls)) ⊎ Touching terms.modes terms.origin H w (length H) p p f i h old → PhaseOf h2 new
        by (inr m) = stands.touched (takes-touched lowp m)
        by (inl live) =
            let told_ = e.story at t.number t.machine run.x run.op t.there run.under_way in
            takes-since low n told_.1 (let b = e.began in omega (arith, b, shorter)) told_.0 e live told_.2
    takes-phase low (stands.touched m) = stands.touched (takes-touched (omega (arith, low, shorter)) m)
    takes-phase low (stands.past early) = stands.past (omega (arith, early, shorter))
