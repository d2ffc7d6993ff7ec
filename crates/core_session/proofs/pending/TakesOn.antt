-- A lane takes what came of its call: what stands of the newest bytes goes on standing.
use Rattle.core_session.proofs.Prelude.{◌≡◌, ◌≢◌, ◌≤◌, ◌<◌, ◌⊎◌, inl, inr, ℕ, false, List, [], ◌∷◌, ◌++◌, length, Option, Some, None, position, slice_get, refl, sym, ap, subst, ◌∙◌, append_assoc, arith, xid_at, Waiting, waiting_at, Answer, Value, Entry, Began, Answered, Delivered, Op, At, IsBusy, Ended, UnderWay, Terms, Cuts, At-one, At-grow, At-back, At-cases, At-last, At-below, length_last, said_of, same-or, Saving, Mounted, Machine, machine_of, Purpose, State, Busy, Over, Setup, is_busy, numbers_of, TakesAt, with_state, View, turn_at, unmade_turn, KnowsRoot, Reaches, HearsRecord, GoesWith, AreApart, taken_one, begins-unbegun, Known, taker-is, reached-kept, Runs, quiet-facts, lanes-under-way, number_of, at-set, to-map, Placed, Turned, PutsNamed}
use Rattle.core_answers.proofs.writes.AllTurns.{keeps-turned}
use Rattle.world_model.specs.declared.answer.Answer.TheVariants as answers
use Rattle.world_model.specs.declared.op.Op.TheVariants as ops
use Rattle.core_session.proofs.saves.WholeSteps.{Wholly}
use Rattle.core_session.proofs.syncs.AllJobs.{JobOpens, job_save}
use Rattle.core_session.proofs.syncs.Causes.{IsWriter, IsPut, OfOp}
use Rattle.core_session.proofs.syncs.Fates.{job_kind, take-kind}
use Rattle.core_session.proofs.syncs.Grows.{split-on, longer-by}
use Rattle.core_session.proofs.syncs.LaneSteps.{own-seat}
use Rattle.core_session.proofs.syncs.Nexts.{at-on}
use Rattle.core_session.proofs.syncs.Passing.{told}
use Rattle.core_session.proofs.syncs.Plans.{Plan, Came_, takes-came}
use Rattle.core_session.proofs.syncs.PutEnds.{LastNames, own-last}
use Rattle.core_session.proofs.syncs.PutsBring.{PutGiven, puts-bring}
use Rattle.core_session.proofs.syncs.Seen.{Sees, sees, bases}
use Rattle.core_session.proofs.syncs.Aims.{JobAims, AimedAt, takes-aim, saves-opens, opens-as}
use Rattle.core_session.proofs.syncs.Turning.{turns-take, under-on}
use Rattle.core_session.proofs.drops.Along.{GuardsKnown}
use Rattle.core_session.proofs.pending.Alone.{at-once, unleft-step}
use Rattle.core_session.proofs.pending.Letting.{takes-lets}
use Rattle.core_session.proofs.syncs.SlotHeld.{HoldsSlot}
use Rattle.core_session.proofs.pending.Above.{Above}
use Rattle.core_session.proofs.syncs.Aparts.{apart-heard}
use Rattle.core_session.proofs.pending.Begins.{Giving, put-giving}
use Rattle.core_session.proofs.pending.Cuttings.{IsTruncate, IsCutter, cutter-takes, cutter-takes-err, cutter-takes-now, leads-keeps, leads-done}
use Rattle.core_session.proofs.pending.LaneCuts.{cut-lane}
use Rattle.core_session.proofs.pending.LaneSettles.{takes-lane-good, lane-ends}
use Rattle.core_session.proofs.pending.Newest.{OfNewest}
use Rattle.core_session.proofs.syncs.PutGoes.{AtSave, OwnAt, Names, names-keep, own_save, own-has, takes-at-save, takes-still, unmade-end}
use Rattle.core_session.proofs.pending.Puts.{own-job, put-takes-good}
use Rattle.core_session.proofs.pending.Settles as settles
use Rattle.core_session.proofs.pending.Settles.{StateGood, not-good}
use Rattle.core_session.proofs.pending.Entering.{entering}
use Rattle.core_session.proofs.pending.Standing.{IsSaverOf, past, PutEnd, settled_, left_, PutSaves, tale, Told, Phase, C, plan}
use Rattle.core_session.proofs.pending.Stepping.{machine-saver, was-all, save-file, writer-here, saver-here, put-here, truncate-here, next-phase}

none-saved : (z : Saving) → None ≡ Some z → ⊥
none-saved z e = cc

-- what was answered before the last entry
pub ended-early : (h : List Entry) (e : Entry) (lane y z : ℕ) (o : Op) (a : Answer) → z < length h → Ended (h ++ e ∷ []) lane y o z a → Ended h lane y o z a
ended-early h e lane y z o a low d = record {
  line = d.line;
  began = At-back h (e ∷ []) y (Began lane d.line o) d.began (let later = d.later in omega (arith, later, low));
  answered = At-back h (e ∷ []) z (Answered lane d.line a) d.answered low;
  later = d.later;
  first = λ q b at after. d.first q b (At-grow h (e ∷ []) q (Answered lane d.line b) at) after;
}

-- an entry that answers nothing: what was answered was answered before
pub ended-was : (h : List Entry) (e : Entry) → ((lane line : ℕ) (answer : Answer) → e ≡ Answered lane line answer → ⊥) → (lane y z : ℕ) (o : Op) (a : Answer) → Ended (h ++ e ∷ []) lane y o z a → Ended h lane y o z a
ended-was h e other lane y z o a d = by (At-cases h e z (Answered lane d.line a) d.answered)
  where
    by : At h z (Answered lane d.line a) ⊎ ((z ≡ length h) × (e ≡ Answered lane d.line a)) → Ended h lane y o z a
    by (inr now) = absurd (other lane d.line a now.1)
    by (inl was) = ended-early h e lane y z o a (At-below h z (Answered lane d.line a) was) d

-- no operation begins with an entry of another kind
pub none-begins : (H h rest : List Entry) (e : Entry) → h ++ e ∷ rest ≡ H → ((lane line : ℕ) (op : Op) → e ≡ Began lane line op → ⊥) → (y lane line : ℕ) (o : Op) → At H y (Began lane line o)
    → length h ≤ y → y < length (h ++ e ∷ []) → ⊥
none-begins H h rest e is other y lane line o at low high =
    let long = length_last h e in
    let here : y ≡ length h = omega (arith, low, high, long) in
    let split : (h ++ e ∷ []) ++ rest ≡ H = append_assoc h (e ∷ []) rest ∙ is in
    let at_e : At H (length h) e = subst (λ (k : List Entry). At k (length h) e) split (At-grow (h ++ e ∷ []) rest (length h) e (At-last h e)) in
    other lane line o (At-one H (length h) e (Began lane line o) at_e (subst (λ (n : ℕ). At H n (Began lane line o)) here at))

module _ (mt : Mounted) (terms : Terms) (setup : Setup) (H : List Entry) (V : View) (g : GoesWith mt terms setup H V) (roots : KnowsRoot terms.origin H mt.root) (puts_named : PutsNamed H) (f : List ℕ) (i : ℕ)
    (h rest : List Entry) (rec : List ℕ) (split0 : h ++ Delivered rec ∷ rest ≡ H) (old new : View) (xid : ℕ) (call : Waiting Purpose) (at : ℕ) (r : Reaches (machine_of mt) setup h old) (found : old.lost ≡ false)
    (k : Known setup h old) (fin : View) (hears : HearsRecord old rec fin) (named : xid_at rec ≡ Some xid) (waits : waiting_at xid old.calls.calls ≡ Some call)
    (place : position (is_busy call.purpose.lane) old.lanes ≡ Some at) (t : TakesAt (taken_one old xid) at call.purpose.sent (said_of call.purpose.proc rec) new) (wholly : Wholly setup h old) (placed : Placed old)
    (some : 1 ≤ old.wsize) (gk : GuardsKnown terms.modes h old) (gk2 : GuardsKnown terms.modes (h ++ Delivered rec ∷ []) new) (slots2 : (x : ℕ) → HoldsSlot terms.modes H x f (h ++ Delivered rec ∷ []) new)
    (p : Phase mt terms setup H f i h old) where
  abbrev h2 : List Entry
  h2 = h ++ Delivered rec ∷ []

  split_ : h2 ++ rest ≡ H
  split_ = split-on H h rest (Delivered rec) split0

  shorter : length h ≤ length h2
  shorter = longer-by h (Delivered rec)

  run : IsBusy h t.number (length h)
  run = (lanes-under-way h old k.lanes).busy at (record { number = t.number; state = Busy t.machine }) t.there

  all-apart : AreApart old.lanes
  all-apart = (lanes-under-way h old k.lanes).apart

  under2 : UnderWay h2 t.number run.x (length h2) run.op
  under2 = under-on h (Delivered rec) t.number run.x run.op (λ line answer is. absurd (cc is)) run.under_way

  runs2 : Runs h2 t.number
  runs2 = (quiet-facts h (Delivered rec) (numbers_of old.lanes) (λ number. refl) k.lanes).busy at t.number (to-map number_of old.lanes at (record { number = t.number; state = Busy t.machine }) t.there)

  abbrev least : 1 ≤ t.number
  least = (placed.live at (record { number = t.number; state = Busy t.machine }) t.there).least

  abbrev most : t.number ≤ 16
  most = (placed.live at (record { number = t.number; state = Busy t.machine }) t.there).most

  number-of : call.purpose.lane ≡ t.number
  number-of = sym (taker-is setup h old xid call at k waits place t.number t.machine t.there)

  told_ : Told mt terms setup H f i p.u t.number run.x t.machine run.op
  told_ = p.story at t.number t.machine run.x run.op t.there run.under_way

  ended_ : (lane y z : ℕ) (o : Op) (a : Answer) → Ended h2 lane y o z a → Ended h lane y o z a
  ended_ = ended-was h (Delivered rec) (λ lane line answer is. cc)

  none-late : (y lane line : ℕ) (o : Op) → At H y (Began lane line o) → length h ≤ y → y < length h2 → p.u y ≡ old.shelf.seq
  none-late y lane line o at_y low high = absurd (none-begins H h rest (Delivered rec) split0 (λ n l q is. cc) y lane line o at_y low high)

  writer : OfOp H run.x IsWriter → job_kind t.machine ≡ 1
  writer =
      writer-here mt terms setup H V g f i h h2 rest split_ old new at t.number run.x run.op old.wsize some least most (bases f old.lanes) (job_kind t.machine) told_.0 runs2 under2 shorter
      ended_ p p.u (λ y low. refl) p.low none-late

  -- the bytes of a put come in to a file to which its path leads
  its-lane : UnderWay h call.purpose.lane run.x (length h) run.op
  its-lane = subst (λ (n : ℕ). UnderWay h n run.x (length h) run.op) (sym number-of) run.under_way

  abbrev there_ : slice_get old.lanes at ≡ Some (record { number = call.purpose.lane; state = Busy t.machine })
  there_ = subst (λ (n : ℕ). slice_get old.lanes at ≡ Some (record { number = n; state = Busy t.machine })) (sym number-of) t.there

  given : PutGiven mt setup h old rec fin xid call at t.machine r found hears named waits there_ (Giving terms.modes terms.origin H f i run.x) run.op
  given path offset text is =
      let u : UnderWay h call.purpose.lane run.x (length h) (ops.Put path offset text) = subst (λ (o : Op). UnderWay h call.purpose.lane run.x (length h) o) is its-lane in (
        puts_named run.x call.purpose.lane u.line offset path text (at-on H h (Delivered rec ∷ rest) split0 run.x (Began call.purpose.lane u.line (ops.Put path offset text)) u.began),
        λ file leads.
            put-giving mt terms.modes terms.origin setup H roots f i h rest (Delivered rec ∷ rest) rec old (sym split_) (sym split0) r call.purpose.lane run.x offset path text u file leads,
      )

  opens : JobOpens (Giving terms.modes terms.origin H f i run.x) old.wsize t.machine call.purpose.sent (turn_at (taken_one old xid)) (said_of call.purpose.proc rec) old.shelf t.next t.after t.shelf t.takes
  opens =
      puts-bring mt setup h old rec fin xid call at t.machine r found hears named waits there_ (Giving terms.modes terms.origin H f i run.x) run.x run.op its-lane given
      old.wsize call.purpose.sent (turn_at (taken_one old xid)) t.next t.after t.shelf t.takes

  -- what brings its bytes in has no save of its own yet
  abbrev Brings : List ℕ → ℕ → List ℕ → Type 0
  Brings file offset bytes = Giving terms.modes terms.origin H f i run.x file offset bytes × (job_kind t.machine ≡ 3 → own_save t.machine ≡ None)

  brings : JobOpens Brings old.wsize t.machine call.purpose.sent (turn_at (taken_one old xid)) (said_of call.purpose.proc rec) old.shelf t.next t.after t.shelf t.takes
  brings = by (own_save t.machine) refl
    where
      by : (own : Option Saving) → own_save t.machine ≡ own
          → JobOpens Brings old.wsize t.machine call.purpose.sent (turn_at (taken_one old xid)) (said_of call.purpose.proc rec) old.shelf t.next t.after t.shelf t.takes
      by None is =
          opens-as (Giving terms.modes terms.origin H f i run.x) (job_kind t.machine) old.wsize call.purpose.sent (turn_at (taken_one old xid)) (said_of call.purpose.proc rec) old.shelf t.next Brings
          (λ file offset bytes gives. (gives, λ three. is)) t.machine t.after t.shelf t.takes opens
      by (Some z) is =
          saves-opens Brings (job_kind t.machine) old.wsize call.purpose.sent (turn_at (taken_one old xid)) (said_of call.purpose.proc rec) old.shelf t.next t.machine (z, is) t.after t.shelf t.takes

  -- the file that a put has found, or finds
  aim : (tgt : List ℕ) × JobAims t.machine tgt
      × (JobOpens Brings old.wsize t.machine call.purpose.sent (turn_at (taken_one old xid)) (said_of call.purpose.proc rec) old.shelf t.next t.after t.shelf t.takes
      → JobOpens (AimedAt Brings (job_kind t.machine) old.wsize call.purpose.sent (turn_at (taken_one old xid)) (said_of call.purpose.proc rec) old.shelf t.next tgt) old.wsize t.machine call.purpose.sent
      (turn_at (taken_one old xid)) (said_of call.purpose.proc rec) old.shelf t.next t.after t.shelf t.takes)
  aim = takes-aim Brings (job_kind t.machine) old.wsize call.purpose.sent (turn_at (taken_one old xid)) (said_of call.purpose.proc rec) old.shelf t.next t.machine t.after t.shelf t.takes

  abbrev plan_ : Plan f old.wsize (job_kind t.machine) old.shelf.seq (λ z. Unit {0})
  plan_ = plan mt terms setup H f i h old p.u run.x (p.u run.x) old.shelf.seq (job_kind t.machine) (own_save t.machine) aim.0 old.wsize new.shelf (p.low run.x)

  was : C mt terms setup H f i h old p.u run.x (p.u run.x) old.shelf.seq (job_kind t.machine) (own_save t.machine) aim.0 old.shelf.seq old.shelf.back
  was = was-all mt terms setup H V g f i h old p run.x (p.u run.x) (job_kind t.machine) (own_save t.machine) aim.0

  came : Came_ f old.wsize some t.number least most (bases f old.lanes) (job_kind t.machine) old.shelf.seq (λ z. Unit {0}) plan_ old.lanes at new
  came =
      let e = entering mt terms setup H f i h old p.u run.x (p.u run.x) old.shelf.seq t.machine aim.0 aim.1 writer told_.1 old.shelf.seq old.shelf.back old.shelf.order in
      takes-came mt setup h old k wholly placed some f p.owned (λ z. Unit {0}) tt tt rec xid call at r found waits place new t plan_ refl (λ alone. tt) (λ z saved. tt) (aim.2 brings) e.Whole e.whole was e.says

  see : Sees f old.lanes at t.number (job_save t.machine) old.shelf.seq old.shelf.back old.shelf.order
  see = sees f old.lanes at t.number t.machine old.shelf.seq old.shelf.back old.shelf.order all-apart t.there p.owned

  settled : StateGood came.state → IsSaverOf mt terms setup H f i run.x → OfNewest (Above f i (p.u run.x)) new.shelf.back
  settled good sv =
      takes-lane-good f i (p.u run.x) old new xid at call.purpose.sent (said_of call.purpose.proc rec) t saver
      (λ z saved.
      let k2 = save-file mt terms setup H V g f i run.x (p.u run.x) t.machine z old.shelf.seq old.shelf.back old.shelf.order saver sv (told_.1 old.shelf.seq old.shelf.back old.shelf.order) saved in
      lane-ends mt setup h old k wholly rec xid call at r found waits place new t f i (p.u run.x) (bases f old.lanes) see.owner old.shelf.seq old.shelf.order some p.common.sound z saved k2.0 k2.1 (see.saves_ z saved))
      (λ is. p.marks run.x (past at t.number t.machine run.op t.there run.under_way is sv)) came.state came.but.here good
    where
      saver : settles.IsSaver t.machine
      saver = machine-saver t.machine
          (saver-here mt terms setup H V g f i h h2 rest split_ old new at t.number run.x run.op old.wsize some least most (bases f old.lanes) (job_kind t.machine) told_.0 runs2 under2 shorter
          ended_ p p.u (λ y low. refl) p.low none-late sv)

  marks : IsTruncate run.op → (machine : Machine) → came.state ≡ Busy machine → IsCutter (p.u run.x) machine
  marks truncates machine busy =
      leads-keeps (IsCutter (p.u run.x)) (cutter-takes (p.u run.x)) (with_state (taken_one old xid) at t.number (Busy t.after) t.shelf) new at t.number t.after t.next
      (at-set old.lanes at (record { number = t.number; state = Busy t.machine }) (record { number = t.number; state = Busy t.after }) t.there) t.leads
      (cutter-takes (p.u run.x) t.machine (told_.2 truncates) old.wsize call.purpose.sent (turn_at (taken_one old xid)) (said_of call.purpose.proc rec) old.shelf t.next t.after t.shelf t.takes) came.state
      came.but.here machine busy

  turned : Turned old
  turned = reached-kept (machine_of mt) (begins-unbegun mt) setup Turned (keeps-turned mt setup) h old r found

  done : (value : Value) → came.state ≡ Over (answers.Done value) → Cuts terms.modes H run.x f i → OfNewest (Above f i (p.u run.x)) new.shelf.back
  done value is c =
      leads-done (with_state (taken_one old xid) at t.number (Busy t.after) t.shelf) new at t.number t.after t.next
      (at-set old.lanes at (record { number = t.number; state = Busy t.machine }) (record { number = t.number; state = Busy t.after }) t.there) t.leads came.state came.but.here value is
      (OfNewest (Above f i (p.u run.x)))
      (λ good. cut-lane mt terms setup H V g f i run.x (p.u run.x) t.number old.shelf.seq old.shelf.order (bases f old.lanes) see.owner old.shelf.back t.shelf.back p.common.sound c t.machine cutter
      (placed.live at (record { number = t.number; state = Busy t.machine }) t.there).live (turned.turns at (record { number = t.number; state = Busy t.machine }) t.there)
      (own-seat old.lanes old.shelf.order at t.number t.machine all-apart t.there placed.sits) (told_.1 old.shelf.seq old.shelf.back old.shelf.order) see.beside
      (cutter-takes-now (p.u run.x) t.machine cutter old.wsize call.purpose.sent (turn_at (taken_one old xid)) (said_of call.purpose.proc rec) old.shelf t.next t.after t.shelf t.takes good))
      (λ fault n after left k good. absurd (cutter-takes-err (p.u run.x) t.after
      (cutter-takes (p.u run.x) t.machine cutter old.wsize call.purpose.sent (turn_at (taken_one old xid)) (said_of call.purpose.proc rec) old.shelf t.next t.after t.shelf t.takes) old.wsize
      (turn_at (with_state (taken_one old xid) at t.number (Busy t.after) t.shelf)) (unmade_turn (with_state (taken_one old xid) at t.number (Busy t.after) t.shelf)) fault t.shelf n after left k good))
    where
      cutter : IsCutter (p.u run.x) t.machine
      cutter = told_.2
          (truncate-here mt terms setup H V g f i h h2 rest split_ old new at t.number run.x run.op old.wsize some least most (bases f old.lanes) (job_kind t.machine) told_.0 runs2 under2 shorter
          ended_ p p.u (λ y low. refl) p.low none-late c)

  -- a put that has its answer has saved the file, or another one
  module _ (value : Value) (is_done : came.state ≡ Over (answers.Done value)) (puts : OfOp H run.x IsPut) where
    put_kind : job_kind t.machine ≡ 3
    put_kind =
        put-here mt terms setup H V g f i h h2 rest split_ old new at t.number run.x run.op old.wsize some least most (bases f old.lanes) (job_kind t.machine) told_.0 runs2 under2 shorter
        ended_ p p.u (λ y low. refl) p.low none-late puts

    is-put : IsPut run.op
    is-put = puts t.number run.under_way.line run.op (at-on H h (Delivered rec ∷ rest) split0 run.x (Began t.number run.under_way.line run.op) run.under_way.began)

    own : AtSave (own_save t.machine)
    own = takes-at-save (taken_one old xid) new at call.purpose.sent (said_of call.purpose.proc rec) t put_kind t.number came.state came.but.here value is_done

    own-low : f ≡ own.0.file → p.u run.x ≤ own.0.upto
    own-low = (own-has (told f (Unit {0}) (tale mt terms setup H f i run.x (p.u run.x))) t.machine own.0 own.1 old.shelf.seq old.shelf.back old.shelf.order
        (told_.1 old.shelf.seq old.shelf.back old.shelf.order)).2

    last-of : LastNames h2 (length h2) own.0.file
    last-of = own-last mt setup h old rec fin xid call at r found hears named waits t.machine there_ own.0 own.1

    -- of the file that it saved only later bytes are left
    put-above : (z : Saving) → own_save t.machine ≡ Some z → f ≡ z.file → (u : ℕ) → u ≤ z.upto → OfNewest (Above f i u) new.shelf.back
    put-above z its here u low =
        leads-done (with_state (taken_one old xid) at t.number (Busy t.after) t.shelf) new at t.number t.after t.next
        (at-set old.lanes at (record { number = t.number; state = Busy t.machine }) (record { number = t.number; state = Busy t.after }) t.there) t.leads came.state came.but.here value is_done
        (OfNewest (Above f i u))
        (λ good. put-takes-good f i u old.wsize call.purpose.sent (turn_at (taken_one old xid)) (said_of call.purpose.proc rec) t.machine z old.shelf t.next t.after t.shelf its t.takes
        (lane-ends mt setup h old k wholly rec xid call at r found waits place new t f i u (bases f old.lanes) see.owner old.shelf.seq old.shelf.order some p.common.sound z (own-job t.machine z its) here low
        (see.saves_ z (own-job t.machine z its))) good)
        (λ fault n after left k_ good. absurd (not-good n
        (unmade-end old.wsize (unmade_turn (with_state (taken_one old xid) at t.number (Busy t.after) t.shelf)) (turn_at (with_state (taken_one old xid) at t.number (Busy t.after) t.shelf)) fault t.after
        (take-kind old.wsize (turn_at (taken_one old xid)) call.purpose.sent (said_of call.purpose.proc rec) t.machine old.shelf t.next t.after t.shelf t.takes ∙ put_kind) t.shelf n after left k_) good))

    put-end : PutEnd mt terms setup H f i h2 new run.x (p.u run.x)
    put-end = by (same-or own.0.file f)
      where
        by : (f ≡ own.0.file) ⊎ (f ≢ own.0.file) → PutEnd mt terms setup H f i h2 new run.x (p.u run.x)
        by (inl here) = settled_ (put-above own.0 own.1 here (p.u run.x) (own-low here))
        by (inr off) = left_ (record {
          k = at;
          number = t.number;
          op = run.op;
          value = value;
          puts = is-put;
          there = came.but.here ∙ ap (λ (st : State). Some (record { number = t.number; state = st })) is_done;
          under = under2;
          file = own.0.file;
          off = off;
          last = last-of;
        })

    -- it had its own save before
    put-new : own_save t.machine ≡ None → ⊥
    put-new none = none-saved own.0 (sym none ∙ own.1)

  -- what is in its own save stays there, and is gone where it ends well
  own-on : (number : ℕ) → PutSaves mt terms setup H f i h old run.x number → (machine : Machine) → came.state ≡ Busy machine → OwnAt (Names f number) (own_save machine)
  own-on number saves machine is =
      takes-still (Names f number) (names-keep f number) (taken_one old xid) new at call.purpose.sent (said_of call.purpose.proc rec) t (saves at t.number t.machine run.op t.there run.under_way)
      t.number came.state came.but.here machine is

  own-done : (number : ℕ) → PutSaves mt terms setup H f i h old run.x number → OfOp H run.x IsPut → (value : Value) → came.state ≡ Over (answers.Done value) → OfNewest (Above f i number) new.shelf.back
  own-done number saves puts value is =
      let o = saves at t.number t.machine run.op t.there run.under_way in put-above value is puts o.0 o.1 (sym o.2.0) number o.2.1

  pub takes-phase : Phase mt terms setup H f i h2 new
  takes-phase =
      next-phase mt terms setup H V g f i h h2 rest split_ old new at t.number run.x run.op old.wsize some least most (bases f old.lanes) (job_kind t.machine) told_.0 runs2 under2 shorter
      ended_ p p.u (λ y low. refl) p.low none-late (own_save t.machine) aim.0 came (turns-take f setup h old new at t.number t.machine came.state k t.there came.but rec run.x run.op under2)
      settled marks done put-end (λ low. own-on) (λ low. own-done) (λ puts none value is. put-new value is puts none)
      (λ y a. absurd (apart-heard f h old y hears.may a))
      (λ sound number few guard. takes-lets mt setup terms.modes h old k wholly rec xid call at r found waits place new t gk.drops gk2.drops gk.ranked f i number came.state came.but some p.common.sound sound p.owned
      came.owned_ see guard)
      (slots2 run.x)
      (λ w number guard u. unleft-step mt terms setup H V g f h (Delivered rec ∷ rest) split0 (Delivered rec) rest refl old gk.drops
      (λ b e. at-once mt terms setup H V g f h (Delivered rec ∷ rest) split0 old r found hears.may.noted) w number guard u)
