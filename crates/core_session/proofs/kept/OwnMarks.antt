-- Since the reply to an own change came, the file's known stamp is one that the server showed since.
use Rattle.core_session.proofs.Prelude.{◌≡◌, ◌<◌, ◌≤◌, ◌+◌, ◌-◌, ◌⊎◌, inl, inr, ℕ, Bool, true, false, nat_eq, List, [], ◌∷◌, ◌++◌, length, Option, Some, None, option_map, position, Result, Ok, Err, refl, sym, ap, subst, ◌∙◌, arith, append_assoc, eqb-true, cases_lt, Attr, Stamp, Wcc, stamp_of, FileCall, FileKept, xid_at, Waiting, next_xid, made_call, waiting_at, without, at_made, others_made, others_taken, gone, FileState, state_of, cut, Answer, Fault, Entry, Began, Answered, Delivered, Sent, Call, Reply, Op, At, Asked, HasXid, SpellsCall, SpellsReply, proc_of, Modes, At-back, At-below, At-grow, At-last, At-one, length_last, Numbered, one_file_call, said_of, Step, Shelf, Mounted, Machine, machine_of, Purpose, State, Busy, Over, Setup, is_busy, with_state, record_of, Makes, Leads, Stirs, counted, StartsLane, TakesAt, AnswersAt, View, turn_at, unmade_turn, HearsRecord, Reaches, IsUnsent, Tried, begins-unbegun, taken_one, was-sent, Known, at-position, Rows, rows-stay, same-rows, silent-grow, rows-grow, taken-quiet, not-sent, taken-rows, LastAtMost, SameCalls}
use Rattle.std.proofs.Common.{if◌then◌else◌}
use Rattle.page_cache.specs.Pages.{wrote, both_same, led_to}
use Rattle.law_stable.proofs.OneFileCall.{one_file_reply}
use Rattle.rpc_retry.specs.Take.{awaited}
use Rattle.page_cache.proofs.Inserts.{same-self}
use Rattle.page_cache.proofs.States.{state_changed, state-cut, state-wrote}
use Rattle.world_model.specs.declared.message.Call.TheVariants as calls
use Rattle.world_model.specs.declared.message.Reply.TheVariants as replies
use Rattle.world_model.specs.Waiting.{Waits}
use Rattle.client_shelf.specs.declared.step.Step.TheVariants as nexts
use Rattle.file_ops.specs.Saves as saves
use Rattle.core_facts.specs.Tries as tries
use Rattle.core_facts.proofs.SaidNone.{said-made, said-none}
use Rattle.core_session.proofs.current.Along.{IsPlain, KeepsHeard}
use Rattle.core_session.proofs.kept.OwnHeeds.{Awaits, AllHeard, HeardFrom, WasSent, keeps-heard}
use Rattle.core_session.proofs.current.FedMachines.{pages-starts, pages-resumes, pages-takes}
use Rattle.core_session.proofs.current.Moments.{IsMoment, AllTimely, WaitedSo, GoesOn, goes-itself, moment-goes, timely-goes, moment-grows, IsToldSince}
use Rattle.core_session.proofs.current.ToldNow.{IsToldNow, told-now}
use Rattle.core_session.proofs.syncs.WatchingAlong.{reached-watching}
use Rattle.core_session.proofs.kept.MineNow.{Mine, mine-of}
use Rattle.core_session.proofs.kept.OwnStated.{Stated}
use Rattle.core_session.proofs.kept.OwnSeen.{SeenAfter, itself, AfterIn, marked-after, shows-after, fed-after}
use Rattle.core_session.proofs.kept.OwnFollows.{Follows}

some-stamp : (a b : Stamp) → Some a ≡ Some b → a ≡ b
some-stamp a b e = cc

none-stamp : (s : Stamp) → None ≡ Some s → ⊥
none-stamp s e = cc

some-call : (a b : Waiting Purpose) → Some a ≡ Some b → a ≡ b
some-call a b e = cc

-- where a change leads
led-itself : (wcc : Wcc) (known : Option Stamp) (s : Stamp) → led_to wcc known ≡ Some s → (attr : Attr) × (wcc.after ≡ Some attr) × (stamp_of attr ≡ s)
led-itself wcc known s is = by (both_same wcc.before known) wcc.after refl is
  where
    by : (b : Bool) (after : Option Attr) → wcc.after ≡ after → (if b then option_map stamp_of after else None) ≡ Some s → (attr : Attr) × (wcc.after ≡ Some attr) × (stamp_of attr ≡ s)
    by true None ae at = absurd (none-stamp s at)
    by true (Some attr) ae at = (attr, ae, some-stamp (stamp_of attr) s at)
    by false after ae at = absurd (none-stamp s at)

-- what is known of the file's stamp, since the reply at the place d
pub record Marked (wcc : Wcc) (d : ℕ) (f : List ℕ) (h : List Entry) (v : View) : Type 0 where
  pub k : ℕ
  pub moment : IsMoment h v d k
  pub after : AfterIn wcc h d f k v.shelf.pages

module _ (wcc : Wcc) (d : ℕ) (f : List ℕ) (setup : Setup) where
  -- the same pages
  same-marked : (h : List Entry) (old new : View) → GoesOn h old new → new.shelf ≡ old.shelf → Marked wcc d f h old → Marked wcc d f h new
  same-marked h old new g is m = record {
    k = m.k;
    moment = moment-goes h old new d m.k g m.moment;
    after = subst (λ (s : Shelf). AfterIn wcc h d f m.k s.pages) (sym is) m.after;
  }

  pub grown-marked : (h : List Entry) (e : Entry) (v : View) → Marked wcc d f h v → Marked wcc d f (h ++ e ∷ []) v
  grown-marked h e v m = record { k = m.k; moment = moment-grows h e v d m.k m.moment; after = marked-after wcc h e d f m.k v.shelf.pages m.after }

  goes-state : (h : List Entry) (v : View) (at number : ℕ) (state : State) (shelf : Shelf) → GoesOn h v (with_state v at number state shelf)
  goes-state h v at number state shelf = record { moments = omega arith; calls = λ xid w waits. inl (record { was = w; waited = waits; purpose = refl }) }

  -- a call that is made wasn't sent yet
  made-goes : (h : List Entry) (v : View) (number : ℕ) (call : Call) (new : View) (k : Makes v number call new) → Rows setup h v → GoesOn h v new
  made-goes h v number call new k r = subst (GoesOn h v) (sym k.is) (record {
    moments = omega arith;
    calls = λ xid w at. by xid w at (nat_eq xid (next_xid v.calls)) refl;
  })
    where
      row : Waiting Purpose
      row = made_call (record_of v call k.args) (record { lane = number; proc = proc_of call; sent = turn_at v })

      by : (xid : ℕ) (w : Waiting Purpose) → waiting_at xid (v.calls.calls ++ (next_xid v.calls, row) ∷ []) ≡ Some w → (b : Bool) → nat_eq xid (next_xid v.calls) ≡ b
          → WaitedSo v xid w ⊎ (IsUnsent h xid × (w.purpose.sent.moment ≤ v.moments + 1))
      by xid w at true e =
          let is : xid ≡ next_xid v.calls = eqb-true xid (next_xid v.calls) e in
          let which : row ≡ w = some-call row w (sym (at_made v.calls.cred v.calls.first_xid (next_xid v.calls) xid (next_xid v.calls) v.calls.calls row r.sound.calls.each is refl) ∙ at) in
          inr (
            λ i bytes sent has. let low = r.used i xid bytes sent has in absurd (omega (arith, low, is)),
            subst (λ (z : Waiting Purpose). z.purpose.sent.moment ≤ v.moments + 1) which (omega arith),
          )
      by xid w at false e = inl (record { was = w; waited = sym (others_made xid (next_xid v.calls) v.calls.calls row e) ∙ at; purpose = refl })

  no-reply : (fault : Fault) (reply : Reply) → ◌≡◌ {A = Result Reply Fault} (Err fault) (Ok reply) → ⊥
  no-reply fault reply e = cc

  -- what a step leads to
  leads-goes : (h : List Entry) (v new : View) (at number : ℕ) (machine : Machine) (next : Step) → Rows setup h v → Leads v at number machine next new → GoesOn h v new
  leads-goes h v new at number machine (nexts.Send call) r (inl m) = made-goes h v number call new m r
  leads-goes h v new at number machine (nexts.Send call) r (inr f_) = subst (GoesOn h v) (sym f_.is) (goes-state h v at number f_.state f_.left)
  leads-goes h v new at number machine nexts.Wait r is = subst (GoesOn h v) (sym is) (goes-itself h v)
  leads-goes h v new at number machine (nexts.Done answer) r is = subst (GoesOn h v) (sym is) (goes-state h v at number (Over answer) v.shelf)

  leads-marked : (h : List Entry) (v new : View) (at number : ℕ) (machine : Machine) (next : Step) → Rows setup h v → Leads v at number machine next new → Marked wcc d f h v → Marked wcc d f h new
  leads-marked h v new at number machine (nexts.Send call) r (inl m) k = same-marked h v new (made-goes h v number call new m r) (ap (λ (z : View). z.shelf) m.is) k
  leads-marked h v new at number machine (nexts.Send call) r (inr g) k = subst (Marked wcc d f h) (sym g.is) (record {
    k = k.k;
    moment = moment-goes h v (with_state v at number g.state g.left) d k.k (goes-state h v at number g.state g.left) k.moment;
    after =
        let given = k.moment.given in
        pages-takes (AfterIn wcc h d f k.k) (λ file index c. shows-after wcc h d f k.k file index c) call (Err g.fault) (turn_at v) (unmade_turn v)
        (fed-after wcc h d f k.k call (Err g.fault) (turn_at v) (unmade_turn v) (omega (arith, given)) (λ reply is. absurd (no-reply g.fault reply is))) v.shelf
        (λ reply is. absurd (no-reply g.fault reply is)) machine v.wsize g.next g.after g.left (λ reply is. absurd (no-reply g.fault reply is)) g.takes k.after;
  })
  leads-marked h v new at number machine nexts.Wait r is k = subst (Marked wcc d f h) (sym is) k
  leads-marked h v new at number machine (nexts.Done answer) r is k =
      subst (Marked wcc d f h) (sym is) (same-marked h v (with_state v at number (Over answer) v.shelf) (goes-state h v at number (Over answer) v.shelf) refl k)

module _ (mounted : Mounted) (modes : Modes) (same : mounted.nocto ≡ modes.nocto) (setup : Setup) (lasts : modes.nocto ≡ true → LastAtMost setup.lives modes.longest) (H : List Entry) (numbered : Numbered H)
    (f : List ℕ) (call_ : FileCall) (reply_ : FileKept) (wcc : Wcc) (from to : ℕ) (asked : Asked H from to (calls.File call_) (replies.File reply_))
    (stated : Stated mounted setup H asked.heard.got_at f call_)
    (b_ b_lane b_line : ℕ) (op_ : Op) (began_ : At H b_ (Began b_lane b_line op_)) (since_ : b_ < asked.heard.sent_at)
    (newly : Follows mounted setup f call_ reply_ wcc) where
  abbrev d : ℕ
  d = asked.heard.got_at

  abbrev Mk : List Entry → View → Type 0
  Mk = Marked wcc d f

  pub record M (h : List Entry) (v : View) : Type 0 where
    pub timely : AllTimely v
    pub marked : (rest : List Entry) → h ++ rest ≡ H → d < length h → Mk h v

  at-on : (h rest : List Entry) (e : Entry) → (h ++ e ∷ []) ++ rest ≡ H → At H (length h) e
  at-on h rest e is = subst (λ (l : List Entry). At l (length h) e) is (At-grow (h ++ e ∷ []) rest (length h) e (At-last h e))

  before-it : (h rest : List Entry) (e : Entry) → (h ++ e ∷ []) ++ rest ≡ H → h ++ e ∷ rest ≡ H
  before-it h rest e is = sym (append_assoc h (e ∷ []) rest) ∙ is

  -- the reply comes at no other entry
  not-here : (h rest : List Entry) (e : Entry) → (h ++ e ∷ []) ++ rest ≡ H → ((b : List ℕ) → e ≡ Delivered b → ⊥) → d < length (h ++ e ∷ []) → d < length h
  not-here h rest e is other low = elim (cases_lt d (length h)) [
    | inl lt ↦ lt
    | inr ge ↦ (
        let more = length_last h e in
        let here : d ≡ length h = omega (arith, more, low, ge) in
        absurd (other asked.bytes (At-one H (length h) e (Delivered asked.bytes) (at-on h rest e is) (subst (λ (n : ℕ). At H n (Delivered asked.bytes)) here asked.heard.got.got))))
  ]

  -- ---- steps

  stirs-m : (h : List Entry) (old new : View) (at : ℕ) → Known setup h old → Stirs old at new → M h old → M h new
  stirs-m h old new at known t m = record {
    timely = timely-goes h mid new (leads-goes wcc d f setup h mid new at t.number t.after t.next rows t.leads) m.timely;
    marked = λ rest is low. leads-marked wcc d f setup h mid new at t.number t.after t.next rows t.leads (on (m.marked rest is low));
  }
    where
      mid : View
      mid = with_state old at t.number (Busy t.after) t.shelf

      rows : Rows setup h mid
      rows = (rows-stay setup h).sets old at t.number (Busy t.machine) (Busy t.after) t.shelf t.there known.rows

      on : Mk h old → Mk h mid
      on k = record {
        k = k.k;
        moment = record { low = k.moment.low; given = k.moment.given; sent = k.moment.sent };
        after = pages-resumes (AfterIn wcc h d f k.k) (λ file index c. shows-after wcc h d f k.k file index c) t.machine old.wsize (turn_at old) old.shelf t.next t.after t.shelf t.resumes k.after;
      }

  starts-m : (h : List Entry) (old new : View) (lane line : ℕ) (op : Op) (now : ℕ) → Known setup h old → StartsLane (counted old now) lane (machine_of mounted lane op) new → M h old → M (h ++ Began lane line op ∷ []) new
  starts-m h old new lane line op now known t m = record {
    timely = timely-goes later mid new (leads-goes wcc d f setup later mid new (length old.lanes) lane t.after t.next rows t.leads) (λ xid w waits. let low = m.timely xid w waits in omega (arith, low));
    marked = λ rest is low.
        leads-marked wcc d f setup later mid new (length old.lanes) lane t.after t.next rows t.leads
        (on (m.marked (Began lane line op ∷ rest) (before-it h rest (Began lane line op) is) (not-here h rest (Began lane line op) is (λ b e. cc) low)));
  }
    where
      later : List Entry
      later = h ++ Began lane line op ∷ []

      mid : View
      mid = record (counted old now) { lanes = old.lanes ++ record { number = lane; state = Busy t.after } ∷ []; shelf = t.shelf }

      rows : Rows setup later mid
      rows = same-rows setup later old mid refl (silent-grow setup h (Began lane line op) old (record { sent = λ bytes is. cc; came = λ bytes is. cc }) known.rows)

      on : Mk h old → Mk later mid
      on k = record {
        k = k.k;
        moment = (let n = moment-grows h (Began lane line op) old d k.k k.moment in record { low = n.low; given = (let given = k.moment.given in omega (arith, given)); sent = n.sent });
        after =
            pages-starts (AfterIn wcc later d f k.k) (λ file index c. shows-after wcc later d f k.k file index c) (machine_of mounted lane op) old.wsize (turn_at (counted old now)) old.shelf t.next t.after t.shelf t.starts
            (marked-after wcc h (Began lane line op) d f k.k old.shelf.pages k.after);
      }

  -- ---- a record

  module _ (h : List Entry) (old new : View) (rec : List ℕ) (xid : ℕ) (call : Waiting Purpose) (at : ℕ) (r : Reaches (machine_of mounted) setup h old) (found : old.lost ≡ false) (known : Known setup h old)
      (fin : View) (hears : HearsRecord old rec fin) (named : xid_at rec ≡ Some xid) (waits : waiting_at xid old.calls.calls ≡ Some call)
      (there : position (is_busy call.purpose.lane) old.lanes ≡ Some at) (t : TakesAt (taken_one old xid) at call.purpose.sent (said_of call.purpose.proc rec) new) (m : M h old) where
    abbrev later : List Entry
    later = h ++ Delivered rec ∷ []

    abbrev mid : View
    mid = with_state (taken_one old xid) at t.number (Busy t.after) t.shelf

    rows : Rows setup later mid
    rows = (rows-stay setup later).sets (taken_one old xid) at t.number (Busy t.machine) (Busy t.after) t.shelf t.there
        (rows-grow setup h (Delivered rec) (taken_one old xid) (taken-quiet setup h old rec xid known.rows named) (not-sent rec) (taken-rows setup h old xid known.rows))

    abbrev came : Result Reply Fault
    came = said_of call.purpose.proc rec

    lane-is : t.number ≡ call.purpose.lane
    lane-is = eqb-true t.number call.purpose.lane (at-position (is_busy call.purpose.lane) old.lanes at (record { number = t.number; state = Busy t.machine }) there t.there)

    mine : Mine setup h xid call t.machine old.shelf.back
    mine = mine-of mounted setup h old r found xid call at t.number t.machine waits lane-is t.there

    left-waits : (y : ℕ) (w : Waiting Purpose) → waiting_at y (without xid old.calls.calls) ≡ Some w → waiting_at y old.calls.calls ≡ Some w
    left-waits y w left = by (nat_eq y xid) refl
      where
        by : (b : Bool) → nat_eq y xid ≡ b → waiting_at y old.calls.calls ≡ Some w
        by false e = sym (others_taken y xid old.calls.calls e) ∙ left
        by true e = absurd (
            let none : waiting_at xid (without xid old.calls.calls) ≡ None = gone old.calls.cred old.calls.first_xid (next_xid old.calls) xid old.calls.calls known.rows.sound.calls.each in
            let here : waiting_at xid (without xid old.calls.calls) ≡ Some w = ap (λ (n : ℕ). waiting_at n (without xid old.calls.calls)) (sym (eqb-true y xid e)) ∙ left in
            let no_way : None ≡ Some w = sym none ∙ here in cc)

    goes : GoesOn later old mid
    goes = record { moments = omega arith; calls = λ y w left. inl (record { was = w; waited = left-waits y w left; purpose = refl }) }

    told : (k : ℕ) → IsMoment h old d k → (reply : Reply) → came ≡ Ok reply → IsToldSince later mine.made.asked call.purpose.sent d k reply
    told k moment reply said =
        let n = told-now mounted setup h old rec fin xid call hears r named waits mine.made reply said in
        record { since = n.from; answered = n.answered; later = λ late. moment.sent xid call waits late n.from call.bytes n.out.sent.sent n.out.sent.under }

    on : Mk h old → Mk later mid
    on k = record {
      k = k.k;
      moment = moment-goes later old mid d k.k goes (moment-grows h (Delivered rec) old d k.k k.moment);
      after =
          let given = k.moment.given in
          pages-takes (AfterIn wcc later d f k.k) (λ file index c. shows-after wcc later d f k.k file index c) mine.made.asked came call.purpose.sent (turn_at (taken_one old xid))
          (fed-after wcc later d f k.k mine.made.asked came call.purpose.sent (turn_at (taken_one old xid)) (omega (arith, given)) (told k.k k.moment)) old.shelf (λ reply said. mine.link) t.machine old.wsize t.next t.after t.shelf
          (λ reply said. mine.on) t.takes (marked-after wcc h (Delivered rec) d f k.k old.shelf.pages k.after);
    }

    -- it is the reply
    module _ (rest : List Entry) (is : later ++ rest ≡ H) (here : d ≡ length h) where
      rec-is : rec ≡ asked.bytes
      rec-is = delivered rec asked.bytes (At-one H (length h) (Delivered rec) (Delivered asked.bytes) (at-on h rest (Delivered rec) is) (subst (λ (n : ℕ). At H n (Delivered asked.bytes)) here asked.heard.got.got))
        where
          delivered : (a b : List ℕ) → Delivered a ≡ Delivered b → a ≡ b
          delivered a b e = cc

      xid-is : xid ≡ asked.xid
      xid-is = number xid asked.xid (sym named ∙ ap xid_at rec-is ∙ asked.heard.got.under)
        where
          number : (a b : ℕ) → Some a ≡ Some b → a ≡ b
          number a b e = cc

      -- the record of the call was sent
      sent-there : (i : ℕ) × At h i (Sent call.bytes) × HasXid call.bytes xid
      sent-there = by (known.rows.rows xid call waits).tried
        where
          by : Tried h xid call → (i : ℕ) × At h i (Sent call.bytes) × HasXid call.bytes xid
          by (tries.unsent nothing u) = absurd (let some = was-sent xid old.calls.calls call hears.may.sent waits in omega (arith, some, nothing))
          by (tries.runs i running out rest_) = (i, out.sent.sent, out.sent.under)
          by (tries.ended i idle out rest_) = (i, out.sent.sent, out.sent.under)

      bytes-are : call.bytes ≡ asked.heard.record_sent
      bytes-are =
          let s = sent-there in
          numbered.equal s.0 asked.heard.sent_at asked.xid call.bytes asked.heard.record_sent
          (subst (λ (l : List Entry). At l s.0 (Sent call.bytes)) (before-it h rest (Delivered rec) is) (At-grow h (Delivered rec ∷ rest) s.0 (Sent call.bytes) s.1)) asked.heard.sent.sent
          (subst (HasXid call.bytes) xid-is s.2) asked.heard.sent.under

      asked-is : calls.File call_ ≡ mine.made.asked
      asked-is = one_file_call asked.xid xid call_ mine.made.asked asked.heard.record_sent asked.heard.spells (subst (SpellsCall xid mine.made.asked) bytes-are mine.made.spells.spells)

      state : (s : FileState) × (state_of f old.shelf.pages ≡ Some s)
      state = stated h rest rec (before-it h rest (Delivered rec) is) here old r found xid call waits at t.number t.machine t.there lane-is mine.made asked-is

      abbrev k_ : ℕ
      k_ = (turn_at (taken_one old xid)).moment - 1

      -- after the change its file's mark is this moment, and its stamp the one to which the reply leads, if any
      seen-so : (told_ : Wcc) → ((attr : Attr) → told_.after ≡ Some attr → wcc.after ≡ Some attr) → (stamp : Stamp) → led_to told_ state.0.known ≡ Some stamp → SeenAfter wcc later d f stamp
      seen-so told_ its stamp is_ = let l = led-itself told_ state.0.known stamp is_ in itself stamp l.0 (its l.0 l.1) l.2

      wrote-pages : (told_ : Wcc) (place : ℕ) (bs : List ℕ) → ((attr : Attr) → told_.after ≡ Some attr → wcc.after ≡ Some attr) → AfterIn wcc later d f k_ (wrote f told_ place bs k_ old.shelf.pages)
      wrote-pages told_ place bs its = record {
        state = state_changed told_ k_ state.0;
        there = state-wrote f f old.shelf.pages told_ place bs k_
            ∙ ap (λ (b : Bool). if b then option_map (state_changed told_ k_) (state_of f old.shelf.pages) else state_of f old.shelf.pages) (same-self f)
            ∙ ap (option_map (state_changed told_ k_)) state.1;
        over = omega arith;
        seen = seen-so told_ its;
      }

      cut-pages : (size : ℕ) → AfterIn wcc later d f k_ (cut f wcc size k_ old.shelf.pages)
      cut-pages size = record {
        state = state_changed wcc k_ state.0;
        there = state-cut f f old.shelf.pages wcc size k_
            ∙ ap (λ (b : Bool). if b then option_map (state_changed wcc k_) (state_of f old.shelf.pages) else state_of f old.shelf.pages) (same-self f)
            ∙ ap (option_map (state_changed wcc k_)) state.1;
        over = omega arith;
        seen = seen-so wcc (λ attr is_. is_);
      }

      -- the last record is the one that comes
      spelled : (reply : Reply) → IsToldNow h rec xid call mine.made.asked reply → SpellsReply xid mine.made.asked reply rec
      spelled reply n =
          let more = length_last h (Delivered rec) in
          let late = n.last.last (length h) rec (At-last h (Delivered rec)) (omega (arith, more)) in
          let early = n.last.before in
          let at_ : n.last.at ≡ length h = omega (arith, more, late, early) in
          let bytes_ : rec ≡ n.last.bytes = same-record rec n.last.bytes (At-one later (length h) (Delivered rec) (Delivered n.last.bytes) (At-last h (Delivered rec)) (subst (λ (k : ℕ). At later k (Delivered n.last.bytes)) at_ n.last.got)) in
          let xid_ : xid ≡ n.last.xid = same-xid xid n.last.xid (sym named ∙ ap xid_at bytes_ ∙ n.last.under) in
          subst (SpellsReply xid mine.made.asked reply) (sym bytes_) (subst (λ (x : ℕ). SpellsReply x mine.made.asked reply n.last.bytes) (sym xid_) n.spells)
        where
          same-record : (a b : List ℕ) → Delivered a ≡ Delivered b → a ≡ b
          same-record a b e = cc

          same-xid : (a b : ℕ) → Some a ≡ Some b → a ≡ b
          same-xid a b e = cc

      its-reply : (its : FileKept) → came ≡ Ok (replies.File its) → replies.File its ≡ replies.File reply_
      its-reply its said =
          let now = told-now mounted setup h old rec fin xid call hears r named waits mine.made (replies.File its) said in
          one_file_reply asked.xid xid call_ reply_ (replies.File its) asked.bytes asked.spells
          (subst (λ (q : Call). SpellsReply xid q (replies.File its) asked.bytes) (sym asked-is) (subst (SpellsReply xid mine.made.asked (replies.File its)) rec-is (spelled (replies.File its) now)))

      established : Mk later mid
      established = record {
        k = k_;
        moment = record {
          low = let more = length_last h (Delivered rec) in omega (arith, more, here);
          given = omega arith;
          sent = λ y w left late i bs at_ has. let low = m.timely y w (left-waits y w left) in absurd (omega (arith, low, late));
        };
        after = newly (AfterIn wcc later d f k_) h old r found known xid call waits at t.number t.machine t.there lane-is mine.made asked-is came its-reply
            (said-made call.purpose.proc rec) (said-none call.purpose.proc rec) (turn_at (taken_one old xid))
            (wrote-pages saves.untold 0 [] (λ attr is_. absurd (none-attr attr is_))) (λ place bs. wrote-pages wcc place bs (λ attr is_. is_)) cut-pages t.next t.after t.shelf t.takes;
      }
        where
          none-attr : (attr : Attr) → None ≡ Some attr → ⊥
          none-attr attr e = cc

    pub takes-m : M later new
    takes-m = record {
      timely = timely-goes later mid new (leads-goes wcc d f setup later mid new at t.number t.after t.next rows t.leads) (timely-goes later old mid goes m.timely);
      marked = λ rest is low. leads-marked wcc d f setup later mid new at t.number t.after t.next rows t.leads (by rest is low (cases_lt d (length h)));
    }
      where
        by : (rest : List Entry) → later ++ rest ≡ H → d < length later → (d < length h) ⊎ (length h ≤ d) → Mk later mid
        by rest is low (inl lt) = on (m.marked (Delivered rec ∷ rest) (before-it h rest (Delivered rec) is) lt)
        by rest is low (inr ge) = established rest is (let more = length_last h (Delivered rec) in omega (arith, more, low, ge))

  -- ---- the rest

  answers-m : (h : List Entry) (old new : View) (at lane line : ℕ) (answer : Answer) → AnswersAt old at lane (Some answer) new → M h old → M (h ++ Answered lane line answer ∷ []) new
  answers-m h old new at lane line answer a m = subst (M (h ++ Answered lane line answer ∷ [])) (sym a.is) (record {
    timely = m.timely;
    marked = λ rest is low.
        let k = grown-marked wcc d f setup h (Answered lane line answer) old
        (m.marked (Answered lane line answer ∷ rest) (before-it h rest (Answered lane line answer) is) (not-here h rest (Answered lane line answer) is (λ b e. cc) low)) in
        record { k = k.k; moment = record { low = k.moment.low; given = k.moment.given; sent = k.moment.sent }; after = k.after };
  })

  same-goes : (h : List Entry) (old new : View) → new.moments ≡ old.moments → SameCalls old.calls.calls new.calls.calls → GoesOn h old new
  same-goes h old new moments s = record {
    moments = omega (arith, moments);
    calls = λ xid w waits. let k = s.waited xid w waits in inl (record { was = k.was; waited = k.waited; purpose = sym k.purpose });
  }

  same-m : (h : List Entry) (e : Entry) (old new : View) → IsPlain e → new.shelf ≡ old.shelf → new.moments ≡ old.moments → SameCalls old.calls.calls new.calls.calls → M h old → M (h ++ e ∷ []) new
  same-m h e old new plain shelf moments s m = record {
    timely = timely-goes (h ++ e ∷ []) old new goes m.timely;
    marked = λ rest is low.
        same-marked wcc d f setup (h ++ e ∷ []) old new goes shelf
        (grown-marked wcc d f setup h e old (m.marked (e ∷ rest) (before-it h rest e is) (not-here h rest e is plain.comes_ low)));
  }
    where
      goes : GoesOn (h ++ e ∷ []) old new
      goes = same-goes (h ++ e ∷ []) old new moments s

  -- the reply isn't dropped: its call waits
  drops-m : (h : List Entry) (old : View) (rec : List ℕ) → Reaches (machine_of mounted) setup h old → old.lost ≡ false → awaited (xid_at rec) old.calls.calls ≡ None → M h old → M (h ++ Delivered rec ∷ []) old
  drops-m h old rec r found none m = record {
    timely = timely-goes (h ++ Delivered rec ∷ []) old old (record { moments = omega arith; calls = λ y w waits. inl (record { was = w; waited = waits; purpose = refl }) }) m.timely;
    marked = λ rest is low. grown-marked wcc d f setup h (Delivered rec) old (m.marked (Delivered rec ∷ rest) (before-it h rest (Delivered rec) is) (by rest is low (cases_lt d (length h))));
  }
    where
      by : (rest : List Entry) → (h ++ Delivered rec ∷ []) ++ rest ≡ H → d < length (h ++ Delivered rec ∷ []) → (d < length h) ⊎ (length h ≤ d) → d < length h
      by rest is low (inl lt) = lt
      by rest is low (inr ge) = absurd (heard-or (reached-watching (machine_of mounted) (begins-unbegun mounted) setup AllHeard (keeps-heard setup (machine_of mounted)) h old r found waits.at asked.xid sent))
        where
          here : d ≡ length h
          here = let more = length_last h (Delivered rec) in omega (arith, more, low, ge)

          split_ : h ++ Delivered rec ∷ rest ≡ H
          split_ = before-it h rest (Delivered rec) is

          waits : Waits H asked.xid d
          waits = asked.heard.got.waits

          front : (n : ℕ) (e : Entry) → n < length h → At H n e → At h n e
          front n e low_ at = At-back h (Delivered rec ∷ rest) n e (subst (λ (l : List Entry). At l n e) (sym split_) at) low_

          first : asked.heard.sent_at ≤ waits.at
          first = asked.heard.sent.first waits.at waits.bytes waits.sent waits.under

          within : waits.at < length h
          within = let before = waits.before in omega (arith, before, here)

          sent : WasSent h asked.xid waits.at
          sent = record {
            b = b_;
            lane = b_lane;
            line = b_line;
            op = op_;
            began = front b_ (Began b_lane b_line op_) (omega (arith, since_, first, within)) began_;
            later = omega (arith, since_, first);
            bytes = waits.bytes;
            sent = front waits.at (Sent waits.bytes) within waits.sent;
            has = waits.under;
          }

          rec-is : rec ≡ asked.bytes
          rec-is = delivered rec asked.bytes (At-one H (length h) (Delivered rec) (Delivered asked.bytes) (at-on h rest (Delivered rec) is) (subst (λ (n : ℕ). At H n (Delivered asked.bytes)) here asked.heard.got.got))
            where
              delivered : (a b : List ℕ) → Delivered a ≡ Delivered b → a ≡ b
              delivered a b e = cc

          nothing : waiting_at asked.xid old.calls.calls ≡ None
          nothing = ap (λ (x : Option ℕ). awaited x old.calls.calls) (sym (ap xid_at rec-is ∙ asked.heard.got.under)) ∙ none

          heard-or : HeardFrom h asked.xid waits.at ⊎ Awaits asked.xid old → ⊥
          heard-or (inl w) =
              let low_ = At-below h w.at (Delivered w.bytes) w.got in
              waits.unanswered w.at w.bytes (subst (λ (l : List Entry). At l w.at (Delivered w.bytes)) split_ (At-grow h (Delivered rec ∷ rest) w.at (Delivered w.bytes) w.got)) w.has w.after (omega (arith, here, low_))
          heard-or (inr a) = let no_way : None ≡ Some a.0 = sym (ap (option_map (λ (z : Waiting Purpose). z.purpose)) nothing) ∙ a.1 in cc

  pub keeps-m : KeepsHeard (machine_of mounted) setup M
  keeps-m = record {
    fresh = λ h v may up fresh. record {
      timely = λ xid w waits. absurd (let no_way : None ≡ Some w = sym (ap (λ c. waiting_at xid c.calls) fresh.calls) ∙ waits in cc);
      marked = λ rest is low.
          let later = asked.heard.later in
          absurd (up.unbegun b_ b_lane b_line op_ (At-back h rest b_ (Began b_lane b_line op_) (subst (λ (l : List Entry). At l b_ (Began b_lane b_line op_)) (sym is) began_) (omega (arith, later, since_, low))));
    };
    stirs = λ h old new at known passed t m. stirs-m h old new at known t m;
    starts = λ h old new lane line op now r found known idle fits t m. starts-m h old new lane line op now known t m;
    takes = λ h old new rec xid call at r found known fin hears named waits there t m. takes-m h old new rec xid call at r found known fin hears named waits there t m;
    answers = λ h old new at lane line answer known a m. answers-m h old new at lane line answer a m;
    same = λ h e old new plain lanes shelf wsize moments s m. same-m h e old new plain shelf moments s m;
    drops = λ h old fin rec r found known hears none m. drops-m h old rec r found none m;
  }
