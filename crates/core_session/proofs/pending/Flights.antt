-- What a WRITE carries may have been pending since the operation began that asks for it: as it was made, or as it was made first.
use Rattle.core_session.proofs.Prelude.{◌≡◌, ◌≢◌, ◌≤◌, ◌<◌, ◌+◌, ◌-◌, ◌⊎◌, inl, inr, ℕ, zero, suc, Bool, true, false, nat_eq, List, [], ◌∷◌, ◌++◌, length, Option, Some, None, option_map, slice_get, refl, sym, ap, subst, ◌∙◌, arith, if◌then◌else◌, slice_index, cases_lt, eqb-true, eqb-false, Waiting, next_xid, made_call, waiting_at, without, waits_early, at_made, others_made, others_taken, gone, is_in_flight, of_file, Flown, flown_in, fly_at, piece_under, rest_at, Cell, cell_at, covers, IsOver, IsSound, covered, flown-some, fly-under, some-of, flown-from, Answer, Value, Entry, Began, Answered, Delivered, Call, Op, proc_of, AnsweredBefore, UnderWay, LeftAlone, PutRefused, Terms, RefusedWrite, length_last, said_of, Step, Shelf, Mounted, Machine, machine_of, Purpose, Busy, Setup, IsFresh, IsIdle, numbers_of, with_state, record_of, Makes, Leads, Stirs, counted, StartsLane, TakesAt, AnswersAt, View, turn_at, IsOpenLine, GoesWith, taken_one, calls-some, Known, Runs, idle-numbers, number_of, to-map, Rows, same-rows, taken-rows, SameCalls, After, waits-late, unused-next, starts-under, resumes-under, takes-under, SameUnder}
use Rattle.write_back.specs.Pieces.{Sent, rest_of}
use Rattle.write_back.proofs.Flying.{under-whole}
use Rattle.claims.specs.Pending.{Pending}
use Rattle.core_facts.proofs.Counting.{known-some}
use Rattle.core_answers.proofs.writes.PiecesCarried.{Flying, unmade-under}
use Rattle.write_back.specs.declared.state.State.TheVariants.{Waiting as Waits}
use Rattle.write_back.specs.declared.state.Ready.TheVariants.{Unsent}
use Rattle.world_model.specs.declared.answer.Answer.TheVariants as answers
use Rattle.client_shelf.specs.declared.step.Step.TheVariants as nexts
use Rattle.core_session.proofs.calls.TableHeld.{AllNoted}
use Rattle.core_session.proofs.drops.KnowingAlong.{IsPlain}
use Rattle.core_session.proofs.drops.Laws.{DropsKnown}
use Rattle.core_session.proofs.syncs.Fate.{one-under}
use Rattle.core_session.proofs.syncs.Causes.{IsWriter, OfOp}
use Rattle.core_session.proofs.syncs.LaneButs.{SteppedTo, stirs-but, starts-but, takes-but}
use Rattle.core_session.proofs.syncs.Turning.{IsFixed, Turned, turns-stirs, turns-takes, turns-starts, fixed-turns, fixed-answers, fixed-same, under-was, under-answers-back, under-plain-back}
use Rattle.core_session.proofs.pending.Making.{Free, IsMade, newest, again, AllMade, WasAsked, Never, starts-made, resumes-made, takes-made}
use Rattle.core_session.proofs.pending.Bases.{AllSoon, CameAfter, Based, guarded-not, none-after, one-after}
use Rattle.core_session.proofs.pending.Givers.{answered-writer}
use Rattle.core_session.proofs.pending.Moments.{given, unput-by, whole}
use Rattle.core_session.proofs.pending.Standing.{Phase}

some-waiting : (a b : Waiting Purpose) → Some a ≡ Some b → a ≡ b
some-waiting a b e = cc

began-lane : (a b c d : ℕ) (o p : Op) → Began a b o ≡ Began c d p → a ≡ c
began-lane a b c d o p e = cc

below-get : (xs : List ℕ) (k byte : ℕ) → slice_get xs k ≡ Some byte → k < length xs
below-get [] k byte is = absurd (cc)
below-get (x ∷ xs) zero byte is = omega arith
below-get (x ∷ xs) (suc k) byte is = let rest = below-get xs k byte is in omega (arith, rest)

some-index : (xs : List ℕ) (k byte : ℕ) → slice_get xs k ≡ Some byte → slice_index xs k ≡ byte
some-index [] k byte is = absurd (cc)
some-index (x ∷ xs) zero byte is = cc
some-index (x ∷ xs) (suc k) byte is = some-index xs k byte is

-- ---- the calls that wait after a step

-- no call of a lane waits that has no operation
idle-calls : (setup : Setup) (h : List Entry) (v : View) → Known setup h v → (lane : ℕ) → IsIdle lane v.lanes → (xid : ℕ) (w : Waiting Purpose) → waiting_at xid v.calls.calls ≡ Some w
    → w.purpose.lane ≡ lane → ⊥
idle-calls setup h v k lane idle xid w waits same =
    let some = calls-some xid v.calls.calls w waits in
    let count = k.known.counted w.purpose.lane in
    let busy = known-some w.purpose.lane v.lanes (omega (arith, some, count)) in
    idle-numbers lane (numbers_of v.lanes) idle.other busy.at
    (to-map number_of v.lanes busy.at (record { number = w.purpose.lane; state = Busy busy.machine }) busy.there ∙ ap Some same)

module _ (W : List ℕ → ℕ → List ℕ → Type 0) (setup : Setup) (h : List Entry) (v : View) (r : Rows setup h v) where
  -- what the call that was made carries
  abbrev MadeNow : View → Type 0
  MadeNow new = (f : List ℕ) (piece : Sent) → piece_under (next_xid v.calls) (of_file f new.shelf.back).pieces ≡ Some piece → IsMade W (next_xid v.calls) f piece new.shelf.back

  -- a call that waits did so before, or was made for the lane
  abbrev Waited : ℕ → ℕ → Waiting Purpose → View → Type 0
  Waited number xid w new = (waiting_at xid v.calls.calls ≡ Some w) ⊎ ((xid ≡ next_xid v.calls) × (w.purpose.lane ≡ number) × MadeNow new)

  made-waited : (number : ℕ) (call : Call) (new : View) (m : Makes v number call new) → AllMade W (next_xid v.calls) v.shelf.back → (xid : ℕ) (w : Waiting Purpose)
      → waiting_at xid (v.calls.calls ++ (next_xid v.calls, made_call (record_of v call m.args) (record { lane = number; proc = proc_of call; sent = turn_at v })) ∷ []) ≡ Some w
      → (waiting_at xid v.calls.calls ≡ Some w) ⊎ ((xid ≡ next_xid v.calls) × (w.purpose.lane ≡ number) × MadeNow v)
  made-waited number call new m own xid w is = by (nat_eq xid (next_xid v.calls)) refl
    where
      row : Waiting Purpose
      row = made_call (record_of v call m.args) (record { lane = number; proc = proc_of call; sent = turn_at v })

      by : (b : Bool) → nat_eq xid (next_xid v.calls) ≡ b → (waiting_at xid v.calls.calls ≡ Some w) ⊎ ((xid ≡ next_xid v.calls) × (w.purpose.lane ≡ number) × MadeNow v)
      by true d =
          let here : xid ≡ next_xid v.calls = eqb-true xid (next_xid v.calls) d in
          let which : row ≡ w =
          some-waiting row w (sym (at_made v.calls.cred v.calls.first_xid (next_xid v.calls) xid (next_xid v.calls) v.calls.calls row r.sound.calls.each here refl) ∙ is) in
          inr (here, sym (ap (λ (c : Waiting Purpose). c.purpose.lane) which), own)
      by false d = inl (sym (others_made xid (next_xid v.calls) v.calls.calls row d) ∙ is)

  leads-waited : (new : View) (at number : ℕ) (machine : Machine) (next : Step) → After (Free W (next_xid v.calls)) (λ call. AllMade W (next_xid v.calls)) next v.shelf.back
      → Leads v at number machine next new → (xid : ℕ) (w : Waiting Purpose) → waiting_at xid new.calls.calls ≡ Some w → Waited number xid w new
  leads-waited new at number machine (nexts.Send call) own (inl m) =
      subst (λ (z : View). (xid : ℕ) (w : Waiting Purpose) → waiting_at xid z.calls.calls ≡ Some w → Waited number xid w z) (sym m.is) (λ xid w is. made-waited number call new m own xid w is)
  leads-waited new at number machine (nexts.Send call) own (inr f) =
      subst (λ (z : View). (xid : ℕ) (w : Waiting Purpose) → waiting_at xid z.calls.calls ≡ Some w → Waited number xid w z) (sym f.is) (λ xid w is. inl is)
  leads-waited new at number machine nexts.Wait own is =
      subst (λ (z : View). (xid : ℕ) (w : Waiting Purpose) → waiting_at xid z.calls.calls ≡ Some w → Waited number xid w z) (sym is) (λ xid w at_. inl at_)
  leads-waited new at number machine (nexts.Done answer) own is =
      subst (λ (z : View). (xid : ℕ) (w : Waiting Purpose) → waiting_at xid z.calls.calls ≡ Some w → Waited number xid w z) (sym is) (λ xid w at_. inl at_)

  -- what is in flight under another xid stays there
  leads-under : (mt : Mounted) (new : View) (at number : ℕ) (machine : Machine) (next : Step) → Leads v at number machine next new → (xid : ℕ) → next_xid v.calls ≢ xid → 0 ≢ xid
      → SameUnder xid v.shelf.back new.shelf.back
  leads-under mt new at number machine (nexts.Send call) (inl m) xid apart some = subst (λ (z : View). SameUnder xid v.shelf.back z.shelf.back) (sym m.is) (λ f. refl)
  leads-under mt new at number machine (nexts.Send call) (inr k) xid apart some =
      subst (λ (z : View). SameUnder xid v.shelf.back z.shelf.back) (sym k.is) (unmade-under mt setup v machine k.fault k.next k.after k.left k.takes xid apart some)
  leads-under mt new at number machine nexts.Wait is xid apart some = subst (λ (z : View). SameUnder xid v.shelf.back z.shelf.back) (sym is) (λ f. refl)
  leads-under mt new at number machine (nexts.Done answer) is xid apart some = subst (λ (z : View). SameUnder xid v.shelf.back z.shelf.back) (sym is) (λ f. refl)

-- the xid of a call that waits is below the next one, and no 0
module _ (setup : Setup) (h : List Entry) (v : View) (r : Rows setup h v) (xid : ℕ) (w : Waiting Purpose) (waits : waiting_at xid v.calls.calls ≡ Some w) where
  not-next : next_xid v.calls ≢ xid
  not-next same = let high = waits_early v.calls.cred v.calls.first_xid (next_xid v.calls) xid v.calls.calls w r.sound.calls.each waits in omega (arith, high, same)

  not-zero : 0 ≢ xid
  not-zero same =
      let low = waits-late v.calls.cred v.calls.first_xid (next_xid v.calls) xid v.calls.calls w r.sound.calls.each waits in
      let first = r.sound.calls.first in
      omega (arith, low, first, same)

-- ---- what is known of each WRITE that waits

module _ (mt : Mounted) (terms : Terms) (setup : Setup) (H : List Entry) (V : View) (g : GoesWith mt terms setup H V) (f : List ℕ) (i : ℕ) where
  -- As a call was made, at the moment of the history `past` and of the view `seen`, the byte could be pending: where it is of no write that is refused yet (what has
  -- a good answer isn't), and where each answer that was ready is noted before the next record.
  pub record Was (x : ℕ) (h : List Entry) (v : View) (byte : ℕ) : Type 0 where
    pub past : List Entry
    pub seen : View
    pub late : x ≤ length past
    pub soon : length past ≤ length h
    pub w : ℕ
    pub well : OfOp H w IsWriter → (value : Value) × IsFixed h v w (answers.Done value)
    pub fixes : (y : ℕ) (a : Answer) → IsFixed past seen y a → IsFixed h v y a
    pub after : CameAfter H past seen h
    pub pending : (RefusedWrite H w → ⊥) → AllSoon H past seen → Pending terms.modes terms.origin H f i (length past) byte

  -- each of these bytes that has the place
  abbrev pub Shown : ℕ → List Entry → View → ℕ → List ℕ → Type 0
  Shown x h v offset bytes = (k byte : ℕ) → i ≡ offset + k → slice_get bytes k ≡ Some byte → Was x h v byte

  abbrev pub StaysFixed : List Entry → View → List Entry → View → Type 0
  StaysFixed h v h2 new = (y : ℕ) (a : Answer) → IsFixed h v y a → IsFixed h2 new y a

  shown-more : (x : ℕ) (h : List Entry) (v : View) (h2 : List Entry) (new : View) (offset : ℕ) (bytes : List ℕ) → length h ≤ length h2 → StaysFixed h v h2 new → CameAfter H h v h2
      → Shown x h v offset bytes → Shown x h2 new offset bytes
  shown-more x h v h2 new offset bytes low fixed after s k byte at has =
      let o = s k byte at has in
      let within = o.soon in
      record {
        past = o.past;
        seen = o.seen;
        late = o.late;
        soon = omega (arith, within, low);
        w = o.w;
        well = λ writer. (let k_ = o.well writer in (k_.0, fixed o.w (answers.Done k_.0) k_.1));
        fixes = λ y a was. fixed y a (o.fixes y a was);
        after = λ d b there from to y a was. elim (cases_lt d (length h)) [
          | inl early ↦ o.after d b there from early y a was
          | inr late ↦ after d b there late to y a (o.fixes y a was)
        ];
        pending = o.pending;
      }

  -- of each call that waits for an operation under way
  abbrev pub Flights : List Entry → View → Type 0
  Flights h v = (xid : ℕ) (w : Waiting Purpose) → waiting_at xid v.calls.calls ≡ Some w → (x : ℕ) (op : Op) → UnderWay h w.purpose.lane x (length h) op → (piece : Sent)
      → piece_under xid (of_file f v.shelf.back).pieces ≡ Some piece → Shown x h v piece.offset piece.bytes

  -- ---- one that was made now

  module _ (h rest : List Entry) (is : h ++ rest ≡ H) (v : View) (p : Phase mt terms setup H f i h v) (based : Based mt terms setup H V g f h v) (drops : DropsKnown terms.modes h v) (xid : ℕ)
      (piece : Sent) (there : piece_under xid (of_file f v.shelf.back).pieces ≡ Some piece) (x : ℕ) (low : x ≤ length h) where
    sound : IsSound (of_file f v.shelf.back)
    sound = p.common.sound f

    -- where the newest byte of a place is in flight, it is the one that flies there
    flies-newest : (flown : Flown) → fly_at (of_file f v.shelf.back) i ≡ Some flown → rest_at (of_file f v.shelf.back) i ≡ None → Was x h v flown.byte
    flies-newest flown fly bare = by (cell_at (of_file f v.shelf.back).segments i) refl (subst (λ (o : Option Flown). IsOver o (cell_at (of_file f v.shelf.back).segments i)) fly (sound.over i)) bare
      where
        unleft : (cell : Cell) (at : cell_at (of_file f v.shelf.back).segments i ≡ Some cell) → AllSoon H h v → (PutRefused H (given mt terms setup H f i h rest is v p cell at).w → ⊥) → (k : ℕ)
            → AnsweredBefore H (given mt terms setup H f i h rest is v p cell at).w k → LeftAlone terms.modes H k f → k < length h → ⊥
        unleft cell at soon none k before left early =
            let giver = given mt terms setup H f i h rest is v p cell at in
            let writer =
            answered-writer H giver.w (length h) (λ d. unput-by mt terms setup H f i h rest is v p cell at d) none k before early terms.modes terms.origin f i cell.byte giver.writes in
            guarded-not mt terms setup H V g f h rest is v based drops soon k early left (λ j bytes came from to. giver.unleft writer k before left j bytes came from to) cell.number (giver.guard writer)

        known : (cell : Cell) → cell_at (of_file f v.shelf.back).segments i ≡ Some cell → Was x h v cell.byte
        known cell at =
            let giver = given mt terms setup H f i h rest is v p cell at in
            record {
              past = h;
              seen = v;
              late = low;
              soon = omega arith;
              w = giver.w;
              well = giver.well;
              fixes = λ y a k. k;
              after = none-after H h v;
              pending = λ unrefused soon. whole mt terms setup H f i h rest is v p cell at unrefused (λ none k before left low_. unleft cell at soon none k before left low_);
            }

        unsent : (cell : Cell) → cell.state ≡ Waits Unsent → rest_of (Some cell) ≡ None → ⊥
        unsent cell state none = by (is_in_flight cell.state) refl none
          where
            by : (b : Bool) → is_in_flight cell.state ≡ b → (if b then None else Some cell) ≡ None → ⊥
            by true d gone_ = let no_way : false ≡ true = sym (ap is_in_flight state) ∙ d in absurd (cc no_way)
            by false d gone_ = absurd (cc gone_)

        by : (o : Option Cell) → cell_at (of_file f v.shelf.back).segments i ≡ o → IsOver (Some flown) o → rest_of o ≡ None → Was x h v flown.byte
        by None at over none = absurd over
        by (Some cell) at (inl same) none = subst (λ (c : Cell). Was x h v c.byte) same (known cell at)
        by (Some cell) at (inr newer) none = absurd (unsent cell newer.0 none)

    made-shown : (W : List ℕ → ℕ → List ℕ → Type 0) → (W f piece.offset piece.bytes → Shown x h v piece.offset piece.bytes) → IsMade W xid f piece v.shelf.back
        → Shown x h v piece.offset piece.bytes
    made-shown W was (again w) k byte at has = was w k byte at has
    made-shown W was (newest bare) k byte at has =
        let more = below-get piece.bytes k byte has in
        let inside : covers piece.offset (length piece.bytes) i ≡ true = covered piece.offset (length piece.bytes) i (omega (arith, at)) (omega (arith, at, more)) in
        let whole = under-whole xid (of_file f v.shelf.back).pieces piece sound.sent there in
        let flown = some-of (flown_in piece i) (flown-some piece i whole inside) in
        let fly : fly_at (of_file f v.shelf.back) i ≡ Some flown.0 = fly-under xid (of_file f v.shelf.back).pieces piece i sound.sent there inside ∙ flown.1 in
        let index : i - piece.offset ≡ k = omega (arith, at) in
        let byte_is : flown.0.byte ≡ byte = (flown-from piece i flown.0 flown.1).byte ∙ ap (λ (n : ℕ). slice_index piece.bytes n) index ∙ some-index piece.bytes k byte has in
        subst (Was x h v) byte_is (flies-newest flown.0 fly (bare i inside))

  -- ---- each step

  pub stirs-flights : (h rest : List Entry) (is : h ++ rest ≡ H) (old new : View) (at : ℕ) → Known setup h old → (t : Stirs old at new) → Flying setup h old → Phase mt terms setup H f i h new
      → Based mt terms setup H V g f h new → DropsKnown terms.modes h new → Flights h old → Flights h new
  stirs-flights h rest is old new at k t flying p based drops fl xid w waits x op u piece there =
      by (leads-waited Never setup h v (same-rows setup h old v refl k.rows) new at t.number t.after t.next
      (resumes-made old.wsize (turn_at old) t.machine old.shelf t.next t.after t.shelf t.resumes (unused-next setup h old k.rows flying.flown)) t.leads xid w waits)
    where
      v : View
      v = with_state old at t.number (Busy t.after) t.shelf

      came : SteppedTo f old.lanes new.lanes at t.number
      came = stirs-but f old new at t

      turned : Turned f h h old new at t.number came.state
      turned = turns-stirs f setup h old new at t.number t.machine came.state k t.there came.but

      by : Waited Never setup h v (same-rows setup h old v refl k.rows) t.number xid w new → Shown x h new piece.offset piece.bytes
      by (inl was) =
          let apart = not-next setup h old k.rows xid w was in
          let some = not-zero setup h old k.rows xid w was in
          let same = resumes-under old.wsize (turn_at old) xid apart t.machine old.shelf t.next t.after t.shelf t.resumes f in
          let after = leads-under Never setup h v (same-rows setup h old v refl k.rows) mt new at t.number t.after t.next t.leads xid apart some f in
          shown-more x h old h new piece.offset piece.bytes (omega arith) (fixed-turns f h h old new at t.number turned.x turned.op came.state turned.turns) (none-after H h old)
          (fl xid w was x op u piece (sym same ∙ sym after ∙ there))
      by (inr made) =
          let own = subst (λ (n : ℕ). piece_under n (of_file f new.shelf.back).pieces ≡ Some piece) made.0 there in
          made-shown h rest is new p based drops (next_xid old.calls) piece own x (let low = u.before in omega (arith, low)) Never (λ none. absurd none) (made.2 f piece own)

  pub starts-flights : (h rest : List Entry) (lane line : ℕ) (op : Op) → (h ++ Began lane line op ∷ []) ++ rest ≡ H → (old new : View) (now : ℕ) → Known setup h old → IsIdle lane old.lanes
      → (t : StartsLane (counted old now) lane (machine_of mt lane op) new) → Flying setup h old → Phase mt terms setup H f i (h ++ Began lane line op ∷ []) new
      → Based mt terms setup H V g f (h ++ Began lane line op ∷ []) new → DropsKnown terms.modes (h ++ Began lane line op ∷ []) new → Flights h old → Flights (h ++ Began lane line op ∷ []) new
  starts-flights h rest lane line op is old new now k idle t flying p based drops fl xid w waits x o u piece there =
      by (leads-waited Never setup h v (same-rows setup h old v refl k.rows) new (length old.lanes) lane t.after t.next
      (starts-made old.wsize (turn_at (counted old now)) (machine_of mt lane op) old.shelf t.next t.after t.shelf t.starts (unused-next setup h old k.rows flying.flown)) t.leads xid w waits)
    where
      v : View
      v = record (counted old now) { lanes = old.lanes ++ record { number = lane; state = Busy t.after } ∷ []; shelf = t.shelf }

      came : SteppedTo f old.lanes new.lanes (length old.lanes) lane
      came = starts-but f old new now lane (machine_of mt lane op) t

      by : Waited Never setup h v (same-rows setup h old v refl k.rows) lane xid w new → Shown x (h ++ Began lane line op ∷ []) new piece.offset piece.bytes
      by (inl was) =
          let apart = not-next setup h old k.rows xid w was in
          let some = not-zero setup h old k.rows xid w was in
          let same = starts-under old.wsize (turn_at (counted old now)) xid apart (machine_of mt lane op) old.shelf t.next t.after t.shelf t.starts f in
          let after = leads-under Never setup h v (same-rows setup h old v refl k.rows) mt new (length old.lanes) lane t.after t.next t.leads xid apart some f in
          let before = under-was h (Began lane line op) w.purpose.lane x o (λ l p_ e. idle-calls setup h old k lane idle xid w was (sym (began-lane lane line w.purpose.lane l op p_ e))) u in
          shown-more x h old (h ++ Began lane line op ∷ []) new piece.offset piece.bytes (let more = length_last h (Began lane line op) in omega (arith, more))
          (fixed-turns f h (h ++ Began lane line op ∷ []) old new (length old.lanes) lane (length h) op came.state (turns-starts f h old new lane line op came.state idle came.but))
          (one-after H h rest (Began lane line op) is old (λ b e. absurd cc))
          (fl xid w was x o before piece (sym same ∙ sym after ∙ there))
      by (inr made) =
          let own = subst (λ (n : ℕ). piece_under n (of_file f new.shelf.back).pieces ≡ Some piece) made.0 there in
          made-shown (h ++ Began lane line op ∷ []) rest is new p based drops (next_xid old.calls) piece own x (let low = u.before in omega (arith, low)) Never (λ none. absurd none) (made.2 f piece own)

  -- the lane whose call is answered may ask for it again
  module _ (h rest : List Entry) (rec : List ℕ) (is : (h ++ Delivered rec ∷ []) ++ rest ≡ H) (old new : View) (asked : ℕ) (call : Waiting Purpose) (at : ℕ) (k : Known setup h old)
      (waits : waiting_at asked old.calls.calls ≡ Some call) (t : TakesAt (taken_one old asked) at call.purpose.sent (said_of call.purpose.proc rec) new) (flying : Flying setup h old)
      (number-of : call.purpose.lane ≡ t.number) (run_x : ℕ) (run_op : Op) (under : UnderWay h call.purpose.lane run_x (length h) run_op) (runs : Runs (h ++ Delivered rec ∷ []) t.number)
      (under2 : UnderWay (h ++ Delivered rec ∷ []) t.number run_x (length (h ++ Delivered rec ∷ [])) run_op) (p : Phase mt terms setup H f i (h ++ Delivered rec ∷ []) new)
      (based : Based mt terms setup H V g f (h ++ Delivered rec ∷ []) new) (drops : DropsKnown terms.modes (h ++ Delivered rec ∷ []) new) (noted : AllNoted old) (fl : Flights h old) where
    abbrev pub h2 : List Entry
    h2 = h ++ Delivered rec ∷ []

    abbrev v : View
    v = with_state (taken_one old asked) at t.number (Busy t.after) t.shelf

    rows : Rows setup h v
    rows = same-rows setup h (taken_one old asked) v refl (taken-rows setup h old asked k.rows)

    sent-is : call.purpose.sent.xid ≡ asked
    sent-is = flying.flown.sents asked call.purpose (ap (option_map (λ (w : Waiting Purpose). w.purpose)) waits)

    abbrev Asked : List ℕ → ℕ → List ℕ → Type 0
    Asked file offset bytes = file ≡ f → Shown run_x h old offset bytes

    was-asked : WasAsked Asked call.purpose.sent.xid old.shelf.back
    was-asked file piece there same =
        fl asked call waits run_x run_op under piece
        (subst (λ (n : ℕ). piece_under n (of_file f old.shelf.back).pieces ≡ Some piece) sent-is
        (subst (λ (g : List ℕ). piece_under call.purpose.sent.xid (of_file g old.shelf.back).pieces ≡ Some piece) same there))

    more : length h ≤ length h2
    more = let long = length_last h (Delivered rec) in omega (arith, long)

    came : SteppedTo f old.lanes new.lanes at t.number
    came = takes-but f old new asked at call.purpose.sent (said_of call.purpose.proc rec) t

    turned : Turned f h h2 old new at t.number came.state
    turned = turns-takes f setup h old new at t.number t.machine came.state k t.there came.but rec

    after_ : CameAfter H h old h2
    after_ = one-after H h rest (Delivered rec) is old (λ b e. noted)

    fixed_ : StaysFixed h old h2 new
    fixed_ = fixed-turns f h h2 old new at t.number turned.x turned.op came.state turned.turns

    pub takes-flights : Flights h2 new
    takes-flights xid w there_ x op u piece there =
        by (leads-waited Asked setup h v rows new at t.number t.after t.next
        (takes-made old.wsize (turn_at (taken_one old asked)) Asked call.purpose.sent (said_of call.purpose.proc rec) t.machine old.shelf t.next t.after t.shelf t.takes was-asked
        (unused-next setup h old k.rows flying.flown)) t.leads xid w there_)
      where
        left : waiting_at xid (without asked old.calls.calls) ≡ Some w → Shown x h2 new piece.offset piece.bytes
        left at_ = stays (nat_eq xid asked) refl
          where
            stays : (b : Bool) → nat_eq xid asked ≡ b → Shown x h2 new piece.offset piece.bytes
            stays true d = absurd (
                let none : waiting_at asked (without asked old.calls.calls) ≡ None = gone old.calls.cred old.calls.first_xid (next_xid old.calls) asked old.calls.calls k.rows.sound.calls.each in
                let here : waiting_at asked (without asked old.calls.calls) ≡ Some w = ap (λ (n : ℕ). waiting_at n (without asked old.calls.calls)) (sym (eqb-true xid asked d)) ∙ at_ in
                let no_way : None ≡ Some w = sym none ∙ here in cc)
            stays false d =
                let was : waiting_at xid old.calls.calls ≡ Some w = sym (others_taken xid asked old.calls.calls d) ∙ at_ in
                let off : xid ≢ asked = eqb-false xid asked d in
                let apart = not-next setup h old k.rows xid w was in
                let some = not-zero setup h old k.rows xid w was in
                let same = takes-under old.wsize (turn_at (taken_one old asked)) call.purpose.sent (said_of call.purpose.proc rec) xid (λ e. off (sym e ∙ sent-is)) apart t.machine old.shelf t.next t.after
                t.shelf t.takes f in
                let after = leads-under Asked setup h v rows mt new at t.number t.after t.next t.leads xid apart some f in
                let before = under-was h (Delivered rec) w.purpose.lane x op (λ l p_ e. absurd (cc e)) u in
                shown-more x h old h2 new piece.offset piece.bytes more fixed_ after_ (fl xid w was x op before piece (sym same ∙ sym after ∙ there))

        by : Waited Asked setup h v rows t.number xid w new → Shown x h2 new piece.offset piece.bytes
        by (inl was) = left was
        by (inr made) =
            let own = subst (λ (n : ℕ). piece_under n (of_file f new.shelf.back).pieces ≡ Some piece) made.0 there in
            let its : UnderWay h2 t.number x (length h2) op = subst (λ (n : ℕ). UnderWay h2 n x (length h2) op) made.1 u in
            let same : x ≡ run_x = (one-under h2 t.number run_x x run_op op runs under2 its).0 in
            made-shown h2 rest is new p based drops (next_xid old.calls) piece own x (let low = u.before in omega (arith, low)) Asked
            (λ asked_. shown-more x h old h2 new piece.offset piece.bytes more fixed_ after_ (subst (λ (n : ℕ). Shown n h old piece.offset piece.bytes) (sym same) (asked_ refl)))
            (made.2 f piece own)

  -- ---- other entries

  pub answers-flights : (h rest : List Entry) (old new : View) (at lane line : ℕ) (answer : Answer) → (h ++ Answered lane line answer ∷ []) ++ rest ≡ H → Known setup h old
      → IsOpenLine h lane line → AnswersAt old at lane (Some answer) new → Flights h old → Flights (h ++ Answered lane line answer ∷ []) new
  answers-flights h rest old new at lane line answer is k open_line a fl xid w waits x op u piece there =
      shown-more x h old (h ++ Answered lane line answer ∷ []) new piece.offset piece.bytes (let more = length_last h (Answered lane line answer) in omega (arith, more))
      (fixed-answers setup h old new at lane line answer k open_line a) (one-after H h rest (Answered lane line answer) is old (λ b e. absurd cc))
      (fl xid w (sym (ap (λ (z : View). waiting_at xid z.calls.calls) a.is) ∙ waits) x op (under-answers-back h lane line answer w.purpose.lane x op u) piece
      (sym (ap (λ (z : View). piece_under xid (of_file f z.shelf.back).pieces) a.is) ∙ there))

  pub same-flights : (h rest : List Entry) (e : Entry) (old new : View) → (h ++ e ∷ []) ++ rest ≡ H → ((b : List ℕ) → e ≡ Delivered b → AllNoted old) → IsPlain e → new.lanes ≡ old.lanes → new.shelf ≡ old.shelf → SameCalls old.calls.calls new.calls.calls → Flights h old → Flights (h ++ e ∷ []) new
  same-flights h rest e old new is noted plain lanes shelf calls fl xid w waits x op u piece there =
      let was = calls.waited xid w waits in
      let lane : was.was.purpose.lane ≡ w.purpose.lane = ap (λ (q : Purpose). q.lane) (sym was.purpose) in
      let before = under-plain-back h e w.purpose.lane x op plain u in
      shown-more x h old (h ++ e ∷ []) new piece.offset piece.bytes (let more = length_last h e in omega (arith, more)) (fixed-same h e old new plain lanes)
      (one-after H h rest e is old noted)
      (fl xid was.was was.waited x op (subst (λ (n : ℕ). UnderWay h n x (length h) op) (sym lane) before) piece
      (sym (ap (λ (s : Shelf). piece_under xid (of_file f s.back).pieces) shelf) ∙ there))

  pub fresh-flights : (h : List Entry) (v : View) → IsFresh setup v → Flights h v
  fresh-flights h v fresh xid w waits = absurd (let no_way : None ≡ Some w = ap (λ c. waiting_at xid c.calls) (sym fresh.calls) ∙ waits in cc)
