-- Along a history: each byte of an ok put that was alone was made stable.
use Rattle.core_session.proofs.Prelude.{◌≡◌, ◌⊎◌, inl, inr, ◌<◌, ◌≤◌, ◌^◌, ◌+◌, ◌-◌, ℕ, List, [], ◌∷◌, ◌++◌, length, Bool, true, false, nat_eq, Option, Some, None, option_map, position, slice_get, slice_set, refl, sym, ap, subst, ◌∙◌, arith, slice_index, eqb-true, xid_at, Waiting, next_xid, waiting_at, without, others_taken, gone, Answer, Value, Entry, Began, Answered, Sent, Delivered, Call, Op, At, HasXid, At-grow, At-below, At-back, At-last, At-cases, said_of, Step, Shelf, Pending, IsFree, IsUnused, Mounted, Machine, machine_of, last_of, front_of, Fits, Starts, walk_of, Lane, Purpose, State, Busy, Over, Setup, is_busy, with_state, Leads, Stirs, counted, StartsLane, TakesAt, AnswersAt, View, turn_at, in_flight, Reaches, IsSetUp, HearsRecord, begins-unbegun, taken_one, flies_of, Known, purpose_at, taker-is, taker-one, Rows, same-rows, silent-grow, rows-grow, taken-quiet, not-sent, taken-rows, Stays, stirs-stay, starts-stay, steps-stay, SameCalls, waits-late, unused-next, starts-under, resumes-under, takes-under, SameUnder, After, Free, AllMadeStable}
use Rattle.std.specs.Prelude.{remove}
use Rattle.write_back.specs.Files.{IsNothing}
use Rattle.op_machines.specs.Begun.{put_of}
use Rattle.core_facts.proofs.Flights.{Flies}
use Rattle.core_session.specs.saves.PutsWritten.{IsAlone, PutsWritten}
use Rattle.world_model.specs.declared.answer.Answer.TheVariants as answers
use Rattle.world_model.specs.declared.op.Op.TheVariants as ops
use Rattle.client_shelf.specs.declared.step.Step.TheVariants as nexts
use Rattle.file_ops.specs.PutFile.{not_begun}
use Rattle.core_facts.proofs.Flown.{Flown, sender, look_at}
use Rattle.core_answers.proofs.writes.AllFits as fitting
use Rattle.core_session.proofs.saves.Evidenced.{stable-grow}
use Rattle.core_session.proofs.drops.KnowingAlong.{IsPlain}
use Rattle.core_session.proofs.saves.HearingAlong.{KeepsHearing, reached-hearing}
use Rattle.core_session.proofs.saves.PutPaths.{runs-starts, runs-resumes, runs-takes}
use Rattle.core_session.proofs.saves.Puts.{only-lane, same-lane, Wrote, Made, Runs, Goes, StateSo, LanesSo, state-grow, state-calls, goes-calls, leads-so}
use Rattle.core_session.proofs.saves.Taking.{sent-piece, put-known}
use Rattle.core_session.proofs.saves.WholeSteps.{Has, IsSent, Wholly, keeps-wholly, starts-has, resumes-has, takes-has}

-- ---- what is carried

-- only one operation began
abbrev pub IsOnly : List Entry → ℕ → Type 0
IsOnly h x = (i lane line : ℕ) (op : Op) → At h i (Began lane line op) → i ≡ x

abbrev pub NoneBegan : List Entry → Type 0
NoneBegan h = (i lane line : ℕ) (op : Op) → At h i (Began lane line op) → ⊥

abbrev pub Told : List Entry → Type 0
Told h = (x y lane other line line2 : ℕ) (path : List (List ℕ)) (offset : ℕ) (bytes : List ℕ) (value : Value) → At h x (Began lane line (ops.Put path offset bytes))
    → At h y (Answered other line2 (answers.Done value)) → x < y → IsAlone h x y → AllMadeStable h x y offset bytes

abbrev pub Lone : List Entry → View → Type 0
Lone h v = (x lane line : ℕ) (path : List (List ℕ)) (offset : ℕ) (bytes : List ℕ) → At h x (Began lane line (ops.Put path offset bytes)) → IsOnly h x
    → (last : offset + length bytes ≤ 2 ^ 63 - 1) × LanesSo x offset bytes last h v

pub record Joint (setup : Setup) (h : List Entry) (v : View) : Type 0 where
  pub wholly : Wholly setup h v
  pub wsize : 1 ≤ v.wsize
  pub none : NoneBegan h → IsNothing v.shelf.back × (v.lanes ≡ [])
  pub lone : Lone h v
  pub told : Told h

-- ---- one entry more

abbrev IsNoAnswer : Entry → Type 0
IsNoAnswer e = (lane line : ℕ) (answer : Answer) → e ≡ Answered lane line answer → ⊥

abbrev IsNoBegin : Entry → Type 0
IsNoBegin e = (lane line : ℕ) (op : Op) → e ≡ Began lane line op → ⊥

alone-back : (h : List Entry) (e : Entry) (x y : ℕ) → IsAlone (h ++ e ∷ []) x y → IsAlone h x y
alone-back h e x y a i lane line op at low = a i lane line op (At-grow h (e ∷ []) i (Began lane line op) at) low

only-back : (h : List Entry) (e : Entry) (x : ℕ) → IsOnly (h ++ e ∷ []) x → IsOnly h x
only-back h e x a i lane line op at = a i lane line op (At-grow h (e ∷ []) i (Began lane line op) at)

none-back : (h : List Entry) (e : Entry) → NoneBegan (h ++ e ∷ []) → NoneBegan h
none-back h e a i lane line op at = a i lane line op (At-grow h (e ∷ []) i (Began lane line op) at)

began-back : (h : List Entry) (e : Entry) (x lane line : ℕ) (op : Op) → IsNoBegin e → At (h ++ e ∷ []) x (Began lane line op) → At h x (Began lane line op)
began-back h e x lane line op plain at = by (At-cases h e x (Began lane line op) at)
  where
    by : At h x (Began lane line op) ⊎ ((x ≡ length h) × (e ≡ Began lane line op)) → At h x (Began lane line op)
    by (inl was) = was
    by (inr last) = absurd (plain lane line op last.1)

all-grow : (h : List Entry) (e : Entry) (x y end offset : ℕ) (bytes : List ℕ) → y ≤ end → AllMadeStable h x y offset bytes → AllMadeStable (h ++ e ∷ []) x end offset bytes
all-grow h e x y end offset bytes low s = record {
  file = s.file;
  each = λ place inside. stable-grow h (e ∷ []) x y end s.file place (slice_index bytes (place - offset)) low (s.each place inside);
}

told-by : (h : List Entry) (e : Entry) → Told h
    → ((x lane other line line2 : ℕ) (path : List (List ℕ)) (offset : ℕ) (bytes : List ℕ) (value : Value) → e ≡ Answered other line2 (answers.Done value) → At h x (Began lane line (ops.Put path offset bytes))
    → IsOnly h x → AllMadeStable h x (length h) offset bytes)
    → Told (h ++ e ∷ [])
told-by h e told last x y lane other line line2 path offset bytes value began answered later alone = by (At-cases h e y (Answered other line2 (answers.Done value)) answered)
  where
    here : y ≤ length h → At h x (Began lane line (ops.Put path offset bytes))
    here low = At-back h (e ∷ []) x (Began lane line (ops.Put path offset bytes)) began (omega (arith, low, later))

    by : At h y (Answered other line2 (answers.Done value)) ⊎ ((y ≡ length h) × (e ≡ Answered other line2 (answers.Done value))) → AllMadeStable (h ++ e ∷ []) x y offset bytes
    by (inl was) =
        let low : y ≤ length h = (let below = At-below h y (Answered other line2 (answers.Done value)) was in omega (arith, below)) in
        let same : y ≤ y = omega arith in
        all-grow h e x y y offset bytes same (told x y lane other line line2 path offset bytes value (here low) was later (alone-back h e x y alone))
    by (inr new) =
        let low : y ≤ length h = (let is = new.0 in omega (arith, is)) in
        let high : length h ≤ y = (let is = new.0 in omega (arith, is)) in
        let only : IsOnly h x = (λ i l n op at.
        let below = At-below h i (Began l n op) at in
        alone-back h e x y alone i l n op at (omega (arith, below, high))) in
        all-grow h e x (length h) y offset bytes high (last x lane other line line2 path offset bytes value new.1 (here low) only)

told-grow : (h : List Entry) (e : Entry) → IsNoAnswer e → Told h → Told (h ++ e ∷ [])
told-grow h e plain told = told-by h e told (λ x lane other line line2 path offset bytes value is began only. absurd (plain other line2 (answers.Done value) is))

-- ---- nothing is in flight under 0

unused-zero : (setup : Setup) (h : List Entry) (v : View) → Rows setup h v → Flown v → IsUnused 0 v.shelf.back
unused-zero setup h v r f =
    subst (λ (q : Option Purpose). Flies 0 (sender (look_at v.lanes) q) v.shelf.back) (none (waiting_at 0 v.calls.calls) refl) (f.flies 0)
  where
    none : (o : Option (Waiting Purpose)) → waiting_at 0 v.calls.calls ≡ o → purpose_at 0 v.calls.calls ≡ None
    none None is = ap (option_map (λ (w : Waiting Purpose). w.purpose)) is
    none (Some w) is = absurd (
        let low = waits-late v.calls.cred v.calls.first_xid (next_xid v.calls) 0 v.calls.calls w r.sound.calls.each is in
        let first = r.sound.calls.first in
        omega (arith, low, first))

free-after : (old new : Pending) → SameUnder 0 old new → IsUnused 0 old → (file : List ℕ) → IsFree 0 file new
free-after old new same free file = same file ∙ free file

-- the piece of a WRITE that is asked for
asked-piece : (xid : ℕ) (next : Step) (machine : Machine) (back : Pending) → After (Free xid) (Has xid) next back → fitting.Asks next machine → (call : Call) → next ≡ nexts.Send call → (f : List ℕ)
    → flies_of machine ≡ Some f → IsSent xid f back
asked-piece xid (nexts.Send call) machine back a asks other is f flies = let i = a f (asks.sends f flies) in record { piece = i.piece; there = i.there }
asked-piece xid nexts.Wait machine back a asks other is f flies = absurd (cc)
asked-piece xid (nexts.Done answer) machine back a asks other is f flies = absurd (cc)

busy-state : (lanes : List Lane) (at number : ℕ) (machine : Machine) → lanes ≡ [] → slice_get lanes at ≡ Some (record { number = number; state = Busy machine }) → ⊥
busy-state lanes at number machine is there = absurd (let no_way : None ≡ Some (record { number = number; state = Busy machine }) = ap (λ (ls : List Lane). slice_get ls at) (sym is) ∙ there in cc)

over-state : (lanes : List Lane) (at number : ℕ) (answer : Answer) → lanes ≡ [] → slice_get lanes at ≡ Some (record { number = number; state = Over answer }) → ⊥
over-state lanes at number answer is there = absurd (let no_way : None ≡ Some (record { number = number; state = Over answer }) = ap (λ (ls : List Lane). slice_get ls at) (sym is) ∙ there in cc)

set-one : (lanes : List Lane) (at : ℕ) (own new : Lane) → lanes ≡ own ∷ [] → at ≡ 0 → slice_set lanes at new ≡ new ∷ []
set-one lanes at own new is zero_ = ap (λ (n : ℕ). slice_set lanes n new) zero_ ∙ ap (λ (ls : List Lane). slice_set ls 0 new) is

remove-one : (lanes : List Lane) (at : ℕ) (own : Lane) → lanes ≡ own ∷ [] → at ≡ 0 → remove lanes at ≡ []
remove-one lanes at own is zero_ = ap (λ (n : ℕ). remove lanes n) zero_ ∙ ap (λ (ls : List Lane). remove ls 0) is

-- ---- the laws

module _ (m : Mounted) (setup : Setup) where
  stirs-lone : (h : List Entry) (old new : View) (at : ℕ) → Known setup h old → Stirs old at new → Joint setup h old → Lone h new
  stirs-lone h old new at k t i x lane line path offset bytes began only = let l = i.lone x lane line path offset bytes began only in (l.0, by l.0 l.1)
    where
      by : (last : offset + length bytes ≤ 2 ^ 63 - 1) → LanesSo x offset bytes last h old → LanesSo x offset bytes last h new
      by last (inl empty) = absurd (busy-state old.lanes at t.number t.machine empty t.there)
      by last (inr o) =
          let one = only-lane old.lanes (record { number = o.number; state = o.state }) (record { number = t.number; state = Busy t.machine }) at o.lanes t.there in
          let same = same-lane o.number t.number o.state (Busy t.machine) one.1 in
          let runs : Runs x offset bytes last h old.calls.calls t.machine old.shelf.back = subst (λ (s : State). StateSo x offset bytes last h old.calls.calls old.shelf.back s) same.1 o.so in
          let unused = unused-next setup h old k.rows i.wholly.flying.flown in
          let first = k.rows.sound.calls.first in
          let goes = runs-resumes offset bytes last (Wrote x offset bytes last h old.calls.calls) (Made x offset bytes last h) old.wsize (turn_at old) t.machine old.shelf t.next t.after t.shelf i.wsize
          unused runs t.resumes in
          inr (leads-so x offset bytes last setup h v new t.number t.after t.next (same-rows setup h old v refl k.rows)
          (set-one old.lanes at (record { number = o.number; state = o.state }) (record { number = t.number; state = Busy t.after }) o.lanes one.0) i.wsize
          (free-after old.shelf.back t.shelf.back (resumes-under old.wsize (turn_at old) 0 (λ same. absurd (omega (arith, first, same))) t.machine old.shelf t.next t.after t.shelf t.resumes)
          (unused-zero setup h old k.rows i.wholly.flying.flown))
          (asked-piece (next_xid old.calls) t.next t.after t.shelf.back (resumes-has old.wsize (turn_at old) t.machine old.shelf t.next t.after t.shelf t.resumes unused)
          (fitting.all-resumes old.wsize (turn_at old) t.machine old.shelf t.next t.after t.shelf t.resumes))
          goes (subst (λ (n : ℕ). Leads v n t.number t.after t.next new) one.0 t.leads))
        where
          v : View
          v = with_state old at t.number (Busy t.after) t.shelf

  starts-lone : (h : List Entry) (old new : View) (lane line : ℕ) (op : Op) (now : ℕ) → Known setup h old → Fits (machine_of m lane op) → StartsLane (counted old now) lane (machine_of m lane op) new
      → Joint setup h old → Lone (h ++ Began lane line op ∷ []) new
  starts-lone h old new lane line op now k fits t i x other l2 path offset bytes began only = by (At-cases h (Began lane line op) x (Began other l2 (ops.Put path offset bytes)) began)
    where
      later : List Entry
      later = h ++ Began lane line op ∷ []

      here : length h ≡ x
      here = only (length h) lane line op (At-last h (Began lane line op))

      none : NoneBegan h
      none j a b c at =
          let same = only j a b c (At-grow h (Began lane line op ∷ []) j (Began a b c) at) in
          let below = At-below h j (Began a b c) at in
          absurd (omega (arith, same, below, here))

      v : View
      v = record (counted old now) { lanes = old.lanes ++ record { number = lane; state = Busy t.after } ∷ []; shelf = t.shelf }

      own-op : (a b : ℕ) (c : Op) (d e : ℕ) (f : Op) → Began a b c ≡ Began d e f → c ≡ f
      own-op a b c d e f is = cc

      is-put : Began lane line op ≡ Began other l2 (ops.Put path offset bytes) → (last : offset + length bytes ≤ 2 ^ 63 - 1) × LanesSo x offset bytes last later new
      is-put is = (
        last,
        inr (leads-so x offset bytes last setup later v new lane t.after t.next
            (same-rows setup later old v refl (silent-grow setup h (Began lane line op) old (record { sent = λ bytes is. cc; came = λ bytes is. cc }) k.rows))
            (ap (λ (ls : List Lane). ls ++ record { number = lane; state = Busy t.after } ∷ []) empty.1) i.wsize
            (free-after old.shelf.back t.shelf.back (starts-under old.wsize (turn_at (counted old now)) 0 (λ same. absurd (omega (arith, first, same))) (machine_of m lane op) old.shelf t.next t.after t.shelf t.starts)
            (unused-zero setup h old k.rows i.wholly.flying.flown))
            (asked-piece (next_xid old.calls) t.next t.after t.shelf.back (starts-has old.wsize (turn_at (counted old now)) (machine_of m lane op) old.shelf t.next t.after t.shelf t.starts unused)
            (fitting.all-starts old.wsize (turn_at (counted old now)) (machine_of m lane op) old.shelf t.next t.after t.shelf t.starts))
            goes (subst (λ (n : ℕ). Leads v n lane t.after t.next new) (ap (λ (ls : List Lane). length ls) empty.1) t.leads)),
      )
        where
          op-is : op ≡ ops.Put path offset bytes
          op-is = own-op lane line op other l2 (ops.Put path offset bytes) is

          last : offset + length bytes ≤ 2 ^ 63 - 1
          last = subst (λ (o : Op). Fits (machine_of m lane o)) op-is fits

          empty : IsNothing old.shelf.back × (old.lanes ≡ [])
          empty = i.none none

          unused : IsUnused (next_xid old.calls) old.shelf.back
          unused = unused-next setup h old k.rows i.wholly.flying.flown

          first : 1 ≤ old.calls.first_xid
          first = k.rows.sound.calls.first

          goes : Goes x offset bytes last later old.calls.calls t.next t.after t.shelf.back
          goes = runs-starts offset bytes last (Wrote x offset bytes last later old.calls.calls) (Made x offset bytes last later) old.wsize (turn_at (counted old now))
              (record { walk = walk_of m.root (front_of path); opener = put_of m lane (last_of path) offset bytes; arrived = false }) (not_begun lane m.nocto m.root (last_of path) offset bytes)
              old.shelf t.next t.after t.shelf i.wsize unused refl (record { offset_is = refl; text_is = refl }) empty.0 empty.0
              (subst (λ (o : Op). Starts old.wsize (machine_of m lane o) (turn_at (counted old now)) old.shelf t.next t.after t.shelf) op-is t.starts)

      by : At h x (Began other l2 (ops.Put path offset bytes)) ⊎ ((x ≡ length h) × (Began lane line op ≡ Began other l2 (ops.Put path offset bytes)))
          → (last : offset + length bytes ≤ 2 ^ 63 - 1) × LanesSo x offset bytes last later new
      by (inl was) = absurd (none x other l2 (ops.Put path offset bytes) was)
      by (inr is) = is-put is.1

  takes-lone : (h : List Entry) (old new : View) (rec : List ℕ) (xid : ℕ) (call : Waiting Purpose) (at : ℕ) → Reaches (machine_of m) setup h old → old.lost ≡ false
      → Known setup h old → (fin : View) → HearsRecord old rec fin → xid_at rec ≡ Some xid → waiting_at xid old.calls.calls ≡ Some call
      → position (is_busy call.purpose.lane) old.lanes ≡ Some at → TakesAt (taken_one old xid) at call.purpose.sent (said_of call.purpose.proc rec) new → Joint setup h old
      → Lone (h ++ Delivered rec ∷ []) new
  takes-lone h old new rec xid call at r found k fin hears named waits there t i x lane line path offset bytes began only =
      let l = i.lone x lane line path offset bytes (began-back h (Delivered rec) x lane line (ops.Put path offset bytes) (λ a b c is. cc) began) own-only in (l.0, by l.0 l.1)
    where
      later : List Entry
      later = h ++ Delivered rec ∷ []

      own-only : IsOnly h x
      own-only = only-back h (Delivered rec) x only

      v : View
      v = with_state (taken_one old xid) at t.number (Busy t.after) t.shelf

      was : (y : ℕ) (w : Waiting Purpose) → waiting_at y (without xid old.calls.calls) ≡ Some w
          → ((u : Waiting Purpose) × (waiting_at y old.calls.calls ≡ Some u) × (u.bytes ≡ w.bytes)) ⊎ ((j : ℕ) (b : List ℕ) → At later j (Sent b) → HasXid b y → ⊥)
      was y w is = by (nat_eq y xid) refl
        where
          by : (b : Bool) → nat_eq y xid ≡ b
              → ((u : Waiting Purpose) × (waiting_at y old.calls.calls ≡ Some u) × (u.bytes ≡ w.bytes)) ⊎ ((j : ℕ) (b : List ℕ) → At later j (Sent b) → HasXid b y → ⊥)
          by true d = absurd (
              let none : waiting_at xid (without xid old.calls.calls) ≡ None = gone old.calls.cred old.calls.first_xid (next_xid old.calls) xid old.calls.calls k.rows.sound.calls.each in
              let here : waiting_at xid (without xid old.calls.calls) ≡ Some w = ap (λ (n : ℕ). waiting_at n (without xid old.calls.calls)) (sym (eqb-true y xid d)) ∙ is in
              let no_way : None ≡ Some w = sym none ∙ here in cc)
          by false d = inl (w, sym (others_taken y xid old.calls.calls d) ∙ is, refl)

      by : (last : offset + length bytes ≤ 2 ^ 63 - 1) → LanesSo x offset bytes last h old → LanesSo x offset bytes last later new
      by last (inl empty) = absurd (busy-state old.lanes at t.number t.machine empty t.there)
      by last (inr o) = inr (leads-so x offset bytes last setup later v new t.number t.after t.next
          (same-rows setup later (taken_one old xid) v refl
          (rows-grow setup h (Delivered rec) (taken_one old xid) (taken-quiet setup h old rec xid k.rows named) (not-sent rec) (taken-rows setup h old xid k.rows)))
          (set-one old.lanes at (record { number = o.number; state = o.state }) (record { number = t.number; state = Busy t.after }) o.lanes one.0) i.wsize
          (free-after old.shelf.back t.shelf.back
          (takes-under old.wsize (turn_at (taken_one old xid)) call.purpose.sent (said_of call.purpose.proc rec) 0 (λ same. absurd (omega (arith, first, low, same, sent)))
          (λ same. absurd (omega (arith, first, same))) t.machine old.shelf t.next t.after t.shelf t.takes)
          (unused-zero setup h old k.rows i.wholly.flying.flown))
          (asked-piece (next_xid old.calls) t.next t.after t.shelf.back
          (takes-has old.wsize (turn_at (taken_one old xid)) call.purpose.sent (said_of call.purpose.proc rec) t.machine old.shelf t.next t.after t.shelf (in_flight t.machine - 1) single pieces t.takes unused)
          (fitting.all-takes old.wsize (turn_at (taken_one old xid)) call.purpose.sent (said_of call.purpose.proc rec) t.machine old.shelf t.next t.after t.shelf (in_flight t.machine - 1) single t.takes))
          (goes-calls x offset bytes last later old.calls.calls (without xid old.calls.calls) t.shelf.back t.next t.after was goes)
          (subst (λ (n : ℕ). Leads v n t.number t.after t.next new) one.0 t.leads))
        where
          one : (at ≡ 0) × ◌≡◌ {A = Lane} (record { number = o.number; state = o.state }) (record { number = t.number; state = Busy t.machine })
          one = only-lane old.lanes (record { number = o.number; state = o.state }) (record { number = t.number; state = Busy t.machine }) at o.lanes t.there

          runs : Runs x offset bytes last later old.calls.calls t.machine old.shelf.back
          runs = subst (λ (s : State). StateSo x offset bytes last later old.calls.calls old.shelf.back s) (same-lane o.number t.number o.state (Busy t.machine) one.1).1
              (state-grow x offset bytes last h (Delivered rec) old.calls.calls old.shelf.back o.state o.so)

          taker : t.number ≡ call.purpose.lane
          taker = taker-is setup h old xid call at k waits there t.number t.machine t.there

          single : in_flight t.machine ≡ (in_flight t.machine - 1) + 1
          single = taker-one setup h old xid call at k waits there t.number t.machine t.there

          pieces : (f : List ℕ) → flies_of t.machine ≡ Some f → IsSent call.purpose.sent.xid f old.shelf.back
          pieces = sent-piece m setup h old r found xid call waits at t.number t.machine t.there (sym taker) i.wholly

          unused : IsUnused (next_xid old.calls) old.shelf.back
          unused = unused-next setup h old k.rows i.wholly.flying.flown

          first : 1 ≤ old.calls.first_xid
          first = k.rows.sound.calls.first

          low : old.calls.first_xid ≤ xid
          low = waits-late old.calls.cred old.calls.first_xid (next_xid old.calls) xid old.calls.calls call k.rows.sound.calls.each waits

          sent : call.purpose.sent.xid ≡ xid
          sent = i.wholly.flying.flown.sents xid call.purpose (ap (option_map (λ (w : Waiting Purpose). w.purpose)) waits)

          goes : Goes x offset bytes last later old.calls.calls t.next t.after t.shelf.back
          goes = runs-takes offset bytes last (Wrote x offset bytes last later old.calls.calls) (Made x offset bytes last later) old.wsize call.purpose.sent (turn_at (taken_one old xid))
              (said_of call.purpose.proc rec) i.wsize t.machine old.shelf t.next t.after t.shelf unused runs
              (put-known m setup h old r found xid call waits at t.number t.machine t.there (sym taker) i.wholly rec fin hears named x own-only offset bytes last old.wsize (turn_at (taken_one old xid)) i.wsize runs)
              t.takes

  over-so : (x offset : ℕ) (bytes : List ℕ) (last : offset + length bytes ≤ 2 ^ 63 - 1) (h : List Entry) (calls : List (ℕ × Waiting Purpose)) (back : Pending) (state : State) (value : Value)
      → state ≡ Over (answers.Done value) → StateSo x offset bytes last h calls back state → AllMadeStable h x (length h) offset bytes
  over-so x offset bytes last h calls back state value is s = subst (λ (t : State). StateSo x offset bytes last h calls back t) is s

  answers-joint : (h : List Entry) (old new : View) (at lane line : ℕ) (answer : Answer) → Known setup h old → AnswersAt old at lane (Some answer) new → Joint setup h old
      → Joint setup (h ++ Answered lane line answer ∷ []) new
  answers-joint h old new at lane line answer k a i = record {
    wholly = (keeps-wholly m setup).answers h old new at lane line answer k a i.wholly;
    wsize = subst (λ (v : View). 1 ≤ v.wsize) (sym a.is) i.wsize;
    none = λ no. absurd (over-state old.lanes at lane a.answer (i.none (none-back h (Answered lane line answer) no)).1 a.there);
    lone = λ x l n path offset bytes began only.
        let last = lone-of x l n path offset bytes began only in
        (last.0, inl (ap (λ (v : View). v.lanes) a.is ∙ gone-lane x offset bytes last.0 last.1));
    told = told-by h (Answered lane line answer) i.told (λ x l other n line2 path offset bytes value is began only.
        let last = i.lone x l n path offset bytes began only in
        told-last x other line2 offset bytes value is last.0 last.1);
  }
    where
      lone-of : (x l n : ℕ) (path : List (List ℕ)) (offset : ℕ) (bytes : List ℕ) → At (h ++ Answered lane line answer ∷ []) x (Began l n (ops.Put path offset bytes)) → IsOnly (h ++ Answered lane line answer ∷ []) x
          → (last : offset + length bytes ≤ 2 ^ 63 - 1) × LanesSo x offset bytes last h old
      lone-of x l n path offset bytes began only =
          i.lone x l n path offset bytes (began-back h (Answered lane line answer) x l n (ops.Put path offset bytes) (λ p q c is. cc) began) (only-back h (Answered lane line answer) x only)

      gone-lane : (x offset : ℕ) (bytes : List ℕ) (last : offset + length bytes ≤ 2 ^ 63 - 1) → LanesSo x offset bytes last h old → remove old.lanes at ≡ []
      gone-lane x offset bytes last (inl empty) = absurd (over-state old.lanes at lane a.answer empty a.there)
      gone-lane x offset bytes last (inr o) =
          let one = only-lane old.lanes (record { number = o.number; state = o.state }) (record { number = lane; state = Over a.answer }) at o.lanes a.there in
          remove-one old.lanes at (record { number = o.number; state = o.state }) o.lanes one.0

      own-answer : (p q : ℕ) (b : Answer) (d e : ℕ) (f : Answer) → Answered p q b ≡ Answered d e f → b ≡ f
      own-answer p q b d e f is = cc

      some-answer : (b c : Answer) → Some b ≡ Some c → b ≡ c
      some-answer b c is = cc

      told-last : (x other line2 offset : ℕ) (bytes : List ℕ) (value : Value) → Answered lane line answer ≡ Answered other line2 (answers.Done value) → (last : offset + length bytes ≤ 2 ^ 63 - 1)
          → LanesSo x offset bytes last h old → AllMadeStable h x (length h) offset bytes
      told-last x other line2 offset bytes value is last (inl empty) = absurd (over-state old.lanes at lane a.answer empty a.there)
      told-last x other line2 offset bytes value is last (inr o) =
          let one = only-lane old.lanes (record { number = o.number; state = o.state }) (record { number = lane; state = Over a.answer }) at o.lanes a.there in
          let same = same-lane o.number lane o.state (Over a.answer) one.1 in
          let which : a.answer ≡ answers.Done value = sym (some-answer answer a.answer a.gives) ∙ own-answer lane line answer other line2 (answers.Done value) is in
          over-so x offset bytes last h old.calls.calls old.shelf.back o.state value (same.1 ∙ ap Over which) o.so

  same-joint : (h : List Entry) (e : Entry) (old new : View) → IsPlain e → new.lanes ≡ old.lanes → new.shelf ≡ old.shelf → new.wsize ≡ old.wsize → SameCalls old.calls.calls new.calls.calls → Joint setup h old
      → Joint setup (h ++ e ∷ []) new
  same-joint h e old new plain lanes shelf wsize calls i = record {
    wholly = (keeps-wholly m setup).same h e old new lanes shelf calls i.wholly;
    wsize = subst (λ (n : ℕ). 1 ≤ n) (sym wsize) i.wsize;
    none = λ no. let was = i.none (none-back h e no) in (subst (λ (s : Shelf). IsNothing s.back) (sym shelf) was.0, lanes ∙ was.1);
    lone = λ x l n path offset bytes began only.
        let last = i.lone x l n path offset bytes (began-back h e x l n (ops.Put path offset bytes) plain.begins_ began) (only-back h e x only) in
        (last.0, by x offset bytes last.0 last.1);
    told = told-grow h e plain.answers_ i.told;
  }
    where
      was : (y : ℕ) (w : Waiting Purpose) → waiting_at y new.calls.calls ≡ Some w
          → ((u : Waiting Purpose) × (waiting_at y old.calls.calls ≡ Some u) × (u.bytes ≡ w.bytes)) ⊎ ((j : ℕ) (b : List ℕ) → At (h ++ e ∷ []) j (Sent b) → HasXid b y → ⊥)
      was y w is = let k = calls.waited y w is in inl (k.was, k.waited, sym k.bytes)

      by : (x offset : ℕ) (bytes : List ℕ) (last : offset + length bytes ≤ 2 ^ 63 - 1) → LanesSo x offset bytes last h old → LanesSo x offset bytes last (h ++ e ∷ []) new
      by x offset bytes last (inl empty) = inl (lanes ∙ empty)
      by x offset bytes last (inr o) = inr (record {
        number = o.number;
        state = o.state;
        lanes = lanes ∙ o.lanes;
        so = subst (λ (s : Shelf). StateSo x offset bytes last (h ++ e ∷ []) new.calls.calls s.back o.state) (sym shelf)
            (state-calls x offset bytes last (h ++ e ∷ []) old.calls.calls new.calls.calls old.shelf.back o.state was
            (state-grow x offset bytes last h e old.calls.calls old.shelf.back o.state o.so));
      })

  -- ---- all of them

  abbrev has-some : View → Type 0
  has-some v = 1 ≤ v.wsize

  some-stays : Stays has-some
  some-stays = record {
    makes = λ old new number call made p. subst (λ (v : View). 1 ≤ v.wsize) (sym made.is) p;
    sets = λ old at number was state shelf there p. p;
  }

  none-set : (h : List Entry) (old new : View) (at number : ℕ) (machine : Machine) → slice_get old.lanes at ≡ Some (record { number = number; state = Busy machine }) → Joint setup h old → NoneBegan h
      → IsNothing new.shelf.back × (new.lanes ≡ [])
  none-set h old new at number machine there i unbegun = absurd (busy-state old.lanes at number machine (i.none unbegun).1 there)

  pub keeps-joint : KeepsHearing (machine_of m) setup (Joint setup)
  keeps-joint = record {
    fresh = λ h v may up fresh. record {
      wholly = (keeps-wholly m setup).fresh h v fresh;
      wsize = subst (λ (n : ℕ). 1 ≤ n) (sym fresh.wsize) may.sizes.write;
      none = λ no. (subst IsNothing (sym fresh.back) (λ file. refl), fresh.lanes);
      lone = λ x lane line path offset bytes began only. absurd (no-began h up x lane line (ops.Put path offset bytes) began);
      told = λ x y lane other line line2 path offset bytes value began answered later alone. absurd (no-began h up x lane line (ops.Put path offset bytes) began);
    };
    stirs = λ h old new at k t i. record {
      wholly = (keeps-wholly m setup).stirs h old new at k t i.wholly;
      wsize = stirs-stay has-some some-stays old new at t i.wsize;
      none = λ no. none-set h old new at t.number t.machine t.there i no;
      lone = stirs-lone h old new at k t i;
      told = i.told;
    };
    starts = λ h old new lane line op now r found k idle fits t i. record {
      wholly = (keeps-wholly m setup).starts h old new lane line op now r found k idle t i.wholly;
      wsize = starts-stay has-some some-stays (counted old now) new lane (machine_of m lane op) (λ state shelf. i.wsize) t;
      none = λ no. absurd (no (length h) lane line op (At-last h (Began lane line op)));
      lone = starts-lone h old new lane line op now k fits t i;
      told = told-grow h (Began lane line op) (λ a b c is. cc) i.told;
    };
    takes = λ h old new rec xid call at r found k fin hears named waits there t i. record {
      wholly = (keeps-wholly m setup).takes h old new rec xid call at r found k waits there t i.wholly;
      wsize = steps-stay has-some some-stays (taken_one old xid) new at t.number t.machine t.after t.shelf t.next t.there t.leads i.wsize;
      none = λ no. none-set h old new at t.number t.machine t.there i (none-back h (Delivered rec) no);
      lone = takes-lone h old new rec xid call at r found k fin hears named waits there t i;
      told = told-grow h (Delivered rec) (λ a b c is. cc) i.told;
    };
    answers = λ h old new at lane line answer k a i. answers-joint h old new at lane line answer k a i;
    same = λ h e old new plain lanes shelf wsize calls i. same-joint h e old new plain lanes shelf wsize calls i;
  }
    where
      no-began : (h : List Entry) → IsSetUp setup h → (x lane line : ℕ) (op : Op) → At h x (Began lane line op) → ⊥
      no-began h up x lane line op at = up.unbegun x lane line op at

-- each byte of an ok put that was alone was made stable
pub puts-written : PutsWritten
puts-written m setup h v r found lane x y path offset bytes value ended alone =
    let i = reached-hearing (machine_of m) (begins-unbegun m) setup (Joint setup) (keeps-joint m setup) h v r found in
    i.told x y lane lane ended.line ended.line path offset bytes value ended.began ended.answered ended.later alone
