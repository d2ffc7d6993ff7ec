-- A save under way, before whose next byte no shorter piece ends: so through each of its steps.
use Rattle.core_counts.proofs.Prelude.{◌≡◌, ◌<◌, ◌≤◌, ◌⊎◌, inl, inr, ◌+◌, ℕ, Bool, true, false, List, [], ◌∷◌, length, Option, Some, None, Result, Err, refl, sym, ap, subst, ◌∙◌, arith, nat_lt, Verf, Fault, Memory, Reply, Step, Repeat, Turn, goes_again, Change, InFlight, Acked, fate, chosen, IsAnswer, Pending, of_file, OnFile, acked_by, at_piece, at_xid, landed, landed_part, with_xid, FilePending, Flown, rest_at, fly_at, fly_in, flown_in, piece_under, Cell, Segments, covers, is_ready, is_in_flight, how_of, ready_of, answer-acked, answer-return, under-own, renumbers-so, Sending, Committing, Resending, CommittingAgain, Saving, EachSound, IsUnderWay, IsAwaited}
use Rattle.write_back.specs.declared.state.State.TheVariants.{Waiting}
use Rattle.write_back.specs.Pieces.{Sent}
use Rattle.write_back.proofs.Landings.{lands-one, lands-part}
use Rattle.write_back.proofs.Xids.{fly-under}
use Rattle.step_saves.specs.Saves.{IsHeld, PhaseHas, PhaseCounts, Leaves}
use Rattle.client_shelf.specs.declared.step.Step.TheVariants as nexts
use Rattle.write_back.specs.declared.change.Change.TheVariants as by_change
use Rattle.write_back.specs.declared.state.Ready.TheVariants.{Refused}
use Rattle.write_back.specs.declared.state.State.{State}
use Rattle.file_ops.specs.declared.saving.Phase.{Phase}
use Rattle.file_ops.specs.Saves as saves
use Rattle.file_ops.specs.Syncs.{sync_next}
use Rattle.step_saves.proofs.Going.{goes-leaves}
use Rattle.step_saves.proofs.Taking.{Outcome, did, fails, refuses, came-outcome, lands-sound, takes-leaves, refused-file}
use Rattle.core_counts.proofs.thrift.short.Ends.{Each, each-without, Mild, mild-return, mild-store, Open, Second, waits, flies, EndsLong, open-sent, open-landed, open-returned, open-renamed}

answer-refuse : (status : ℕ) → IsAnswer (by_change.Refuse status)
answer-refuse status = record { leaves = λ number state out. stays number state out; lands = λ number ready left is. waits_ left is }
  where
    stays : (number : ℕ) (state : State) → is_in_flight state ≡ false → fate (by_change.Refuse status) number state ≡ Some state
    stays number (Waiting ready) out = refl
    stays number (InFlight ready) out = absurd cc
    stays number (Acked held) out = refl

    waits_ : (left : State) → Some (Waiting (Refused status)) ≡ Some left → is_in_flight left ≡ false
    waits_ left is = let same : Waiting (Refused status) ≡ left = cc in sym (ap is_in_flight same)

mild-refuse : (status : ℕ) → Mild (by_change.Refuse status)
mild-refuse status number ready left plain is =
    let same : Waiting (Refused status) ≡ left = (let k : Some (Waiting (Refused status)) ≡ Some left = is in cc) in subst (λ (s : State). how_of (ready_of s) ≡ 0) same refl

mild-ack : (verf : Verf) → Mild (by_change.Ack verf)
mild-ack verf number ready left plain is = let same : Acked verf ≡ left = (let k : Some (Acked verf) ≡ Some left = is in cc) in subst (λ (s : State). how_of (ready_of s) ≡ 0) same refl

mild-acked : (committed : ℕ) (verf : Verf) → Mild (acked_by committed verf)
mild-acked committed verf = by (nat_lt 0 committed) refl
  where
    by : (b : Bool) → nat_lt 0 committed ≡ b → Mild (acked_by committed verf)
    by true h = rw h mild-store
    by false h = rw h (mild-ack verf)

ready-held : (s : State) → is_ready s ≡ true → IsHeld s → ⊥
ready-held (Waiting ready) is held = held
ready-held (InFlight ready) is held = held
ready-held (Acked verf) is held = absurd (let no_way : false ≡ true = is in cc)

module _ (before next wsize : ℕ) (is_next : next ≡ before + 1) (some : 1 ≤ wsize) where
  abbrev pub IsOpen : ℕ → FilePending → Type 0
  IsOpen upto of = Open before next wsize upto of

  pub record Hold (s : Saving) (b : Pending) : Type 0 where
    pub way : IsUnderWay s b
    pub open_ : IsOpen s.upto (of_file s.file b)

  abbrev pub Early : ℕ → List ℕ → Pending → Type 0
  Early to file b = Each (λ q. q.xid < to) (of_file file b).pieces

  -- the same save, after a step
  abbrev pub HoldsOn : Step → Saving → Saving → Pending → Type 0
  HoldsOn (nexts.Send call) s new after = (new.file ≡ s.file) × Hold new after
  HoldsOn nexts.Wait s new after = (new.file ≡ s.file) × Hold new after
  HoldsOn (nexts.Done answer) s new after = Unit {0}

  holds-on : (n : Step) (s new : Saving) (after : Pending) → Leaves n s new after → IsOpen s.upto (of_file s.file after) → HoldsOn n s new after
  holds-on (nexts.Send call) s new after l open_ =
      (l.file, record { way = l.so; open_ = subst (λ (n : ℕ). IsOpen n (of_file new.file after)) (sym l.upto) (subst (λ (g : List ℕ). IsOpen s.upto (of_file g after)) (sym l.file) open_) })
  holds-on nexts.Wait s new after l open_ =
      (l.file, record { way = l.so; open_ = subst (λ (n : ℕ). IsOpen n (of_file new.file after)) (sym l.upto) (subst (λ (g : List ℕ). IsOpen s.upto (of_file g after)) (sym l.file) open_) })
  holds-on (nexts.Done answer) s new after l open_ = tt

  -- ---- without a reply

  module _ (to : ℕ) (room by_reply : Bool) (s : Saving) (b : Pending) (sound : EachSound b) (early : Early to s.file b) (open_ : IsOpen s.upto (of_file s.file b)) where
    same-open : (after : Pending) → after ≡ b → IsOpen s.upto (of_file s.file after)
    same-open after is = subst (λ (p : Pending). IsOpen s.upto (of_file s.file p)) (sym is) open_

    sends-open : (run : Segments) → chosen s.upto wsize (of_file s.file b) ≡ run → (nx : _) (new : Saving) (after : Pending) → saves.Sends to by_reply run s b nx new after → IsOpen s.upto (of_file s.file after)
    sends-open run is nx new after (inr l) = same-open after l.1
    sends-open [] is nx new after (inl r) = same-open after r.1
    sends-open (e ∷ es) is nx new after (inl r) =
        subst (IsOpen s.upto) (sym r.1.0.here) (open-sent before next wsize is_next to s.upto e es (of_file s.file b) (sound s.file) is early open_)

    if-open : (c : Bool) (nx : _) (new : Saving) (after : Pending) → saves.SendsIf c to by_reply (chosen s.upto wsize (of_file s.file b)) s b nx new after → IsOpen s.upto (of_file s.file after)
    if-open true nx new after g = sends-open (chosen s.upto wsize (of_file s.file b)) refl nx new after g
    if-open false nx new after g = same-open after g.1

    over-open : (refusal : Option Fault) (nx : _) (new : Saving) (after : Pending) → saves.GoesOver refusal wsize to room by_reply s b nx new after → IsOpen s.upto (of_file s.file after)
    over-open (Some fault) nx new after g = same-open after g.1
    over-open None nx new after g = if-open (saves.may_send room s) nx new after g

    pub goes-open : (nx : _) (new : Saving) (after : Pending) → saves.Goes wsize to room by_reply s b nx new after → IsOpen s.upto (of_file s.file after)
    goes-open nx new after g = over-open s.refusal nx new after g

  pub hold-goes : (to : ℕ) (room by_reply : Bool) (s : Saving) (b : Pending) (nx : _) (new : Saving) (after : Pending) → EachSound b → Early to s.file b → saves.Goes wsize to room by_reply s b nx new after
      → Hold s b → HoldsOn (sync_next nx) s new after
  hold-goes to room by_reply s b nx new after sound early g h =
      holds-on (sync_next nx) s new after (goes-leaves wsize to room by_reply s b nx new after some (sound s.file) h.way g) (goes-open to room by_reply s b sound early h.open_ nx new after g)

  -- ---- not while a COMMIT waits

  none-flies : (of : FilePending) (place : ℕ) (flown : Flown) → of.pieces ≡ [] → fly_at of place ≡ Some flown → ⊥
  none-flies of place flown none at = let no_way : None ≡ Some flown = sym (ap (λ (qs : List Sent). fly_in qs place) none) ∙ at in absurd cc

  pub hold-sends : (s : Saving) (b : Pending) → Hold s b → (phase : Phase) → s.phase ≡ phase → saves.is_sending phase ≡ true
  hold-sends s b h Sending is = refl
  hold-sends s b h Resending is = refl
  hold-sends s b h Committing is = absurd (by h.open_.second)
    where
      has : PhaseHas Committing s.refusal s.upto (of_file s.file b)
      has = subst (λ (p : Phase). PhaseHas p s.refusal s.upto (of_file s.file b)) is h.way.has

      counts : PhaseCounts Committing s.waiting (of_file s.file b).pieces
      counts = subst (λ (p : Phase). PhaseCounts p s.waiting (of_file s.file b).pieces) is h.way.counts

      by : Second before next wsize s.upto (of_file s.file b) → ⊥
      by (waits cell at ready plain low each) = ready-held cell.state ready (has next cell at low)
      by (flies flown at none plain low each) = none-flies (of_file s.file b) next flown counts.1 at
  hold-sends s b h CommittingAgain is = absurd (by h.open_.second)
    where
      has : PhaseHas CommittingAgain s.refusal s.upto (of_file s.file b)
      has = subst (λ (p : Phase). PhaseHas p s.refusal s.upto (of_file s.file b)) is h.way.has

      by : Second before next wsize s.upto (of_file s.file b) → ⊥
      by (waits cell at ready plain low each) = let above = has.rest next cell at in absurd (omega (arith, above, low))
      by (flies flown at none plain low each) = let above = has.fly next flown at in absurd (omega (arith, above, low))

  -- ---- with a reply, where the second byte isn't in flight

  pub record Waits (upto : ℕ) (of : FilePending) : Type 0 where
    pub cell : Cell
    pub at : rest_at of next ≡ Some cell
    pub ready : is_ready cell.state ≡ true
    pub plain : how_of (ready_of cell.state) ≡ 0
    pub low : cell.number ≤ upto
    pub each : Each (EndsLong before next wsize) of.pieces

  module _ (upto asked to : ℕ) (file : List ℕ) (b between : Pending) (sound : EachSound b) (early : Early to file b) (open_ : IsOpen upto (of_file file b)) (w : Waits upto (of_file file b)) where
    -- what is left of the file once a piece has landed
    record Left (new : FilePending) : Type 0 where
      opened : IsOpen upto new
      sooner : Each (λ q. q.xid < to) new.pieces

    own : (piece : Sent) → piece_under asked (of_file file b).pieces ≡ Some piece → piece_under piece.xid (of_file file b).pieces ≡ Some piece
    own piece found = ap (λ x. piece_under x (of_file file b).pieces) (under-own asked (of_file file b).pieces piece found) ∙ found

    part-left : (change : Change) → IsAnswer change → Mild change → (count : ℕ) → Left (at_xid (landed_part change count) asked (of_file file b))
    part-left change answer mild count = by (piece_under asked (of_file file b).pieces) refl
      where
        by : (o : Option Sent) → piece_under asked (of_file file b).pieces ≡ o → Left (at_piece (landed_part change count) o (of_file file b))
        by None h = record { opened = open_; sooner = early }
        by (Some piece) h = record {
          opened = open-landed before next wsize upto piece count change by_change.Return (of_file file b) (landed_part change count piece (of_file file b))
              (lands-part change answer piece count (of_file file b) (sound file) (own piece h)) refl mild mild-return open_ w.cell w.at w.ready w.plain w.low w.each;
          sooner = each-without (λ q. q.xid < to) piece.xid (of_file file b).pieces early;
        }

    back-left : (change : Change) → IsAnswer change → Mild change → Left (at_xid (landed change) asked (of_file file b))
    back-left change answer mild = by (piece_under asked (of_file file b).pieces) refl
      where
        by : (o : Option Sent) → piece_under asked (of_file file b).pieces ≡ o → Left (at_piece (landed change) o (of_file file b))
        by None h = record { opened = open_; sooner = early }
        by (Some piece) h = record {
          opened = open-landed before next wsize upto piece 0 change change (of_file file b) (landed change piece (of_file file b))
              (lands-one change answer piece 0 (of_file file b) (sound file) (own piece h)) refl mild mild open_ w.cell w.at w.ready w.plain w.low w.each;
          sooner = each-without (λ q. q.xid < to) piece.xid (of_file file b).pieces early;
        }

    outcome-left : (how : ℕ) (came : Result Reply Fault) (now : Option Fault) → Outcome asked file how came b between now → Left (of_file file between)
    outcome-left how came now (did wcc count firm verf is enough none on) = subst Left (sym on.here) (part-left (acked_by firm verf) (answer-acked firm verf) (mild-acked firm verf) count)
    outcome-left how came now (fails fault is on) = subst Left (sym on.here) (back-left by_change.Return answer-return mild-return)
    outcome-left how came now (refuses fault status is on) = subst Left (sym on.here) (back-left (by_change.Refuse status) (answer-refuse status) (mild-refuse status))

  module _ (sent turn : Turn) (came : Result Reply Fault) (s : Saving) (b : Pending) (sound : EachSound b) (early : Early turn.xid s.file b) (h : Hold s b) (w : Waits s.upto (of_file s.file b)) where
    write-open : (told : _) (nx : _) (new : Saving) (after : Pending) → ((between : Pending) (now : Option Fault) → saves.Lands sent.xid s.file told b between now → (how : ℕ) × Outcome sent.xid s.file how came b between now)
        → saves.TakesWrite wsize sent.xid turn.xid turn.room told (saves.less_waiting s) b nx new after → IsOpen s.upto (of_file s.file after)
    write-open told nx new after outcome t =
        let o = outcome t.between t.refusal t.lands in
        let left = outcome-left s.upto sent.xid turn.xid s.file b t.between sound early h.open_ w o.0 came t.refusal o.1 in
        let same = refused-file t.refusal (saves.less_waiting s) in
        let again : Saving = saves.refused_by t.refusal (saves.less_waiting s) in
        let mid_sound : EachSound t.between = lands-sound sent.xid s.file o.0 came b t.between t.refusal sound o.1 in
        let early_ : Early turn.xid again.file t.between = subst (λ (g : List ℕ). Early turn.xid g t.between) (sym same.0) left.sooner in
        let open__ : IsOpen again.upto (of_file again.file t.between) =
        subst (λ (n : ℕ). IsOpen n (of_file again.file t.between)) (sym same.1) (subst (λ (g : List ℕ). IsOpen s.upto (of_file g t.between)) (sym same.0) left.opened) in
        subst (λ (n : ℕ). IsOpen n (of_file s.file after)) same.1
        (subst (λ (g : List ℕ). IsOpen again.upto (of_file g after)) same.0 (goes-open turn.xid turn.room t.counts again t.between mid_sound early_ open__ nx new after t.goes))

    own-told : (between : Pending) (now : Option Fault) → saves.Lands sent.xid s.file (saves.told_of sent.xid s.file b came) b between now → (how : ℕ) × Outcome sent.xid s.file how came b between now
    own-told between now l =
        ((saves.answered sent.xid s.file b).how, came-outcome (saves.answered sent.xid s.file b).how (length (saves.answered sent.xid s.file b).bytes) sent.xid s.file b between came now l)

    repeats-open : (again : Bool) (nx : _) (new : Saving) (after : Pending) → saves.RepeatsWrite again wsize sent turn (saves.told_of sent.xid s.file b came) s b nx new after → IsOpen s.upto (of_file s.file after)
    repeats-open true nx new after r =
        subst (IsOpen s.upto) (sym r.1.here)
        (open-renamed before next wsize s.upto sent.xid turn.xid (of_file s.file b) (with_xid sent.xid turn.xid (of_file s.file b)) (renumbers-so sent.xid turn.xid (of_file s.file b) (sound s.file)) refl
        h.open_ w.cell w.at w.ready w.plain w.low w.each)
    repeats-open false nx new after r = write-open (saves.told_of sent.xid s.file b came) nx new after own-told r

    told-open : (busy : Bool) (repeats later : List Repeat) (nx : _) (new : Saving) (after : Pending) → saves.TakesToldIf busy wsize sent turn (saves.told_of sent.xid s.file b came) repeats s b nx new after later → IsOpen s.upto (of_file s.file after)
    told-open true repeats later nx new after (inl t) = repeats-open (goes_again true sent turn repeats) nx new after t.0
    told-open true repeats later nx new after (inr t) = write-open _ nx new after (λ between now l. (0, fails Memory l.0 l.1)) t.0
    told-open false repeats later nx new after t = write-open (saves.told_of sent.xid s.file b came) nx new after own-told t.0

    in-open : (phase : Phase) → s.phase ≡ phase → (repeats later : List Repeat) (nx : _) (new : Saving) (after : Pending) → saves.TakesIn phase wsize sent turn came repeats s b nx new after later → IsOpen s.upto (of_file s.file after)
    in-open Sending is repeats later nx new after t = told-open (saves.may_again (saves.told_busy (saves.told_of sent.xid s.file b came)) s) repeats later nx new after t
    in-open Resending is repeats later nx new after t = told-open (saves.may_again (saves.told_busy (saves.told_of sent.xid s.file b came)) s) repeats later nx new after t
    in-open Committing is repeats later nx new after t = absurd (let no_way : false ≡ true = hold-sends s b h Committing is in cc)
    in-open CommittingAgain is repeats later nx new after t = absurd (let no_way : false ≡ true = hold-sends s b h CommittingAgain is in cc)

    pub hold-takes : (repeats later : List Repeat) (nx : _) (new : Saving) (after : Pending) → IsAwaited s sent.xid b → saves.Takes wsize sent turn came repeats s b nx new after later → HoldsOn (sync_next nx) s new after
    hold-takes repeats later nx new after awaited t =
        holds-on (sync_next nx) s new after (takes-leaves wsize sent turn came repeats s b nx new after later some sound h.way awaited t) (in-open s.phase refl repeats later nx new after t)

  -- ---- a call that couldn't be made

  module _ (sent turn : Turn) (fault : Fault) (s : Saving) (b : Pending) (sound : EachSound b) (last : Each (λ q. q.xid ≤ sent.xid) (of_file s.file b).pieces) (h : Hold s b) where
    returned : (between : Pending) → OnFile b between s.file (at_xid (landed by_change.Return) sent.xid (of_file s.file b)) → IsOpen s.upto (of_file s.file between)
    returned between on = subst (IsOpen s.upto) (sym on.here) (by (piece_under sent.xid (of_file s.file b).pieces) refl)
      where
        by : (o : Option Sent) → piece_under sent.xid (of_file s.file b).pieces ≡ o → IsOpen s.upto (at_piece (landed by_change.Return) o (of_file s.file b))
        by None found = h.open_
        by (Some piece) found =
            let xid_is : piece.xid ≡ sent.xid = under-own sent.xid (of_file s.file b).pieces piece found in
            let own : piece_under piece.xid (of_file s.file b).pieces ≡ Some piece = ap (λ x. piece_under x (of_file s.file b).pieces) xid_is ∙ found in
            open-returned before next wsize s.upto piece 0 by_change.Return by_change.Return (of_file s.file b) (landed by_change.Return piece (of_file s.file b))
            (lands-one by_change.Return answer-return piece 0 (of_file s.file b) (sound s.file) own) refl mild-return mild-return h.open_ refl refl
            (flown (covers piece.offset (length piece.bytes) next) refl)
            (subst (λ (n : ℕ). Each (λ q. q.xid ≤ n) (of_file s.file b).pieces) (sym xid_is) last)
          where
            flown : (c : Bool) → covers piece.offset (length piece.bytes) next ≡ c → (flown_in piece next ≡ fly_at (of_file s.file b) next) ⊎ (covers piece.offset (length piece.bytes) next ≡ false)
            flown true inside = inl (sym (fly-under sent.xid (of_file s.file b).pieces piece next (sound s.file).sent found inside))
            flown false inside = inr inside

    back-open : (refusal : Option Fault) (counts : Bool) (between : Pending) (nx : _) (new : Saving) (after : Pending) → saves.Lands sent.xid s.file (saves.told_of sent.xid s.file b (Err fault)) b between refusal
        → saves.Goes wsize turn.xid turn.room counts (saves.refused_by refusal (saves.less_waiting s)) between nx new after → IsOpen s.upto (of_file s.file after)
    back-open None counts between nx new after l g = absurd (let no_way : None ≡ Some fault = l.0 in cc)
    back-open (Some now) counts between nx new after l g = subst (λ (p : Pending). IsOpen s.upto (of_file s.file p)) (sym g.1) (returned between l.1)

    unmade-in : (phase : Phase) → s.phase ≡ phase → (repeats later : List Repeat) (nx : _) (new : Saving) (after : Pending) → saves.TakesIn phase wsize sent turn (Err fault) repeats s b nx new after later → IsOpen s.upto (of_file s.file after)
    unmade-in Sending is repeats later nx new after t = back-open t.0.refusal t.0.counts t.0.between nx new after t.0.lands t.0.goes
    unmade-in Resending is repeats later nx new after t = back-open t.0.refusal t.0.counts t.0.between nx new after t.0.lands t.0.goes
    unmade-in Committing is repeats later nx new after t = absurd (let no_way : false ≡ true = hold-sends s b h Committing is in cc)
    unmade-in CommittingAgain is repeats later nx new after t = absurd (let no_way : false ≡ true = hold-sends s b h CommittingAgain is in cc)

    pub hold-unmade : (repeats later : List Repeat) (nx : _) (new : Saving) (after : Pending) → IsAwaited s sent.xid b → saves.Takes wsize sent turn (Err fault) repeats s b nx new after later → HoldsOn (sync_next nx) s new after
    hold-unmade repeats later nx new after awaited t =
        holds-on (sync_next nx) s new after (takes-leaves wsize sent turn (Err fault) repeats s b nx new after later some sound h.way awaited t) (unmade-in s.phase refl repeats later nx new after t)
