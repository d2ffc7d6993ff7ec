-- Along a history each call that waits was put off at as many different places of its operation as it was made before; and there are no more calls that are made
-- again than calls that wait.
use Rattle.core_session.proofs.Prelude.{◌≡◌, ◌≢◌, ◌<◌, ◌≤◌, ◌+◌, ◌-◌, ◌⊎◌, inl, inr, ℕ, List, [], ◌∷◌, ◌++◌, length, Bool, true, false, nat_eq, Option, Some, None, option_map, position, Result, Ok, Err, refl, sym, ap, subst, ◌∙◌, arith, eqb-true, eqb-false, xid_at, Waiting, next_xid, made_call, waiting_at, without, waits_early, at_made, others_made, others_taken, gone, Fault, Entry, Began, Answered, Sent, Delivered, Call, Reply, Op, SpellsCall, SpellsCallBy, proc_of, UnderWay, RefusesSo, jukebox, FirstSent-grow, At-grow, At-below, At-back, At-last, length_last, said_of, Says, Step, Send, Wait, Done, Repeat, Shelf, goes_again, Mounted, Machine, machine_of, Purpose, Busy, Setup, is_busy, IsIdle, with_state, record_of, Makes, Leads, Stirs, counted, StartsLane, TakesAt, View, turn_at, unmade_turn, in_flight, Counts, calls_for, HearsRecord, Reaches, IsMade, IsOutstanding, Tried, unsent, counts-calls, begins-unbegun, taken_one, calls-some, known-only, was-sent, says-of, Known, purpose_at, lanes-under-way, at-position, Rows, same-rows, rows-grow, silent-grow, taken-quiet, not-sent, taken-rows, AskedOf, under-back, IsExpected, reached-good, Expects, expects-laws, NoCall, NoShelf, NoStory, no-laws, IsPiece, CallFaults, one-call, CallFits, fits-laws, SameCalls, machine-fits}
use Rattle.claims.specs.PageRules.{refuses, breaks}
use Rattle.client_shelf.specs.Busy.{repeats_after}
use Rattle.core_facts.proofs.Counting.{none-idle}
use Rattle.core_facts.proofs.Rows.{made-known, made-asked}
use Rattle.core_facts.proofs.Owning.{reached-since}
use Rattle.core_facts.proofs.Expects.{ExpectLaws}
use Rattle.world_model.specs.declared.answer.Fault.TheVariants as faults
use Rattle.world_model.specs.Heard.{Heard, Refuses}
use Rattle.client_shelf.specs.Repeats.{times_of, ended, repeated, answered as answered_table}
use Rattle.client_core.specs.Steps.{IsUnmade, Refuses as RefusesStep}
use Rattle.core_facts.specs.Tries.{runs, ended as tries_ended}
use Rattle.core_answers.proofs.answers.Both.{both-laws}
use Rattle.core_answers.proofs.answers.Writing.{written-reached}
use Rattle.core_session.proofs.saves.HearingAlong.{KeepsHearing, reached-hearing}
use Rattle.core_answers.proofs.refusals.Replied.{Given}
use Rattle.core_answers.proofs.refusals.SentCalls.{nfs-of}
use Rattle.core_session.proofs.delays.Puts.{Puts, puts-later, puts-none, puts-more}
use Rattle.core_session.proofs.delays.Rests.{starts-same, resumes-same}
use Rattle.core_session.proofs.delays.Tables.{left, count, ended-is, times-is, AreApart, IsFree, IsWaiting, Each, each-map, each-free, free-of, left-apart, left-free, left-each, push-apart, push-each, free-count, left-count, push-count, pushed-count}
use Rattle.core_session.proofs.delays.Took.{Took, again-busy}
use Rattle.core_session.proofs.delays.TookFiles.{IsPutOff, Calm, took-any}

some-call : (a b : Waiting Purpose) → Some a ≡ Some b → a ≡ b
some-call a b e = cc

-- for which calls any operation waits
abbrev pub Calls : Machine → Call → Type 0
Calls machine call = Expects machine call × CallFits machine call

pub calls-laws : ExpectLaws Calls
calls-laws = both-laws Expects CallFits expects-laws fits-laws

-- ---- what came of a call

-- the record puts the call off
abbrev pub Off : ℕ → Call → List ℕ → Fault → Type 0
Off xid call rec fault = fault ≡ faults.Nfs jukebox → Refuses xid call rec (faults.Nfs jukebox)

pub off-own : (xid : ℕ) (call : Call) (rec : List ℕ) → CallFaults (Off xid call rec)
off-own xid call rec = record { memory = λ is. absurd (cc) }

off-so : (xid : ℕ) (call : Call) (rec : List ℕ) (fault : Fault) → RefusesSo xid call rec fault → Off xid call rec fault
off-so xid call rec fault (refuses r) is = subst (Refuses xid call rec) is r
off-so xid call rec fault (breaks n bad page) is = absurd (let wrong : faults.Bad n ≡ faults.Nfs jukebox = sym bad ∙ is in cc)

pub off-given : (xid : ℕ) (call : Call) (rec : List ℕ) (came : Result Reply Fault) → Says xid call rec came → Given (Off xid call rec) (off-own xid call rec) xid rec call came
off-given xid call rec came said = record {
  ok = λ reply is. (subst (Says xid call rec) is said).is;
  err = λ fault is. off-so xid call rec fault (refuses (subst (Says xid call rec) is said));
  give = λ reply is. off-so xid call rec;
}

pub off-evident : (xid : ℕ) (call : Call) (rec : List ℕ) (came : Result Reply Fault) → Says xid call rec came → IsPutOff came → Off xid call rec (faults.Nfs jukebox)
off-evident xid call rec came said p is = (p.reply, (subst (Says xid call rec) p.is said).is, p.status, λ e. absurd (omega (arith, e)))

module _ (m : Mounted) (setup : Setup) where
  -- Each call that waits was put off as often as it was made before, within the operation that is under way in its lane.
  abbrev pub Counted : List Entry → List (ℕ × Waiting Purpose) → List Repeat → Type 0
  Counted h calls rs = (xid : ℕ) (w : Waiting Purpose) → waiting_at xid calls ≡ Some w → (made : IsMade setup.cred xid w) → (x : ℕ) (op : Op) → UnderWay h w.purpose.lane x (length h) op
      → Puts h x (length h) made.asked (count xid rs)

  pub record DelayedBy (h : List Entry) (calls : List (ℕ × Waiting Purpose)) (rs : List Repeat) : Type 0 where
    pub apart : AreApart rs
    pub waits : Each (IsWaiting calls) rs
    pub counted : Counted h calls rs

  abbrev pub Delayed : List Entry → View → Type 0
  Delayed h v = DelayedBy h v.calls.calls v.shelf.repeats

  -- ---- what a step leads to

  -- a call waits, or it is the one that the step asks for
  abbrev Due : View → Step → ℕ → Type 0
  Due v next xid = IsWaiting v.calls.calls xid ⊎ ((xid ≡ next_xid v.calls) × ((call : Call) × (next ≡ Send call)))

  record Owing (h : List Entry) (v : View) (number : ℕ) (machine : Machine) (next : Step) : Type 0 where
    apart : AreApart v.shelf.repeats
    waits : Each (Due v next) v.shelf.repeats
    counted : Counted h v.calls.calls v.shelf.repeats
    mine : (call : Call) → next ≡ Send call → (x : ℕ) (op : Op) → UnderWay h number x (length h) op → Puts h x (length h) call (count (next_xid v.calls) v.shelf.repeats)
    asked : AskedOf Calls next machine
    flight : (call : Call) → next ≡ Send call → 1 ≤ in_flight machine

  module _ (h : List Entry) (v : View) (r : Rows setup h v) where
    early : (xid : ℕ) (w : Waiting Purpose) → waiting_at xid v.calls.calls ≡ Some w → xid < next_xid v.calls
    early xid w is = waits_early v.calls.cred v.calls.first_xid (next_xid v.calls) xid v.calls.calls w r.sound.calls.each is

    -- ---- the call is made

    made-waits : (row : Waiting Purpose) (next : Step) (xid : ℕ) → Due v next xid → IsWaiting (v.calls.calls ++ (next_xid v.calls, row) ∷ []) xid
    made-waits row next xid (inl w) = record {
      call = w.call;
      waits =
          let low = early xid w.call w.waits in
          others_made xid (next_xid v.calls) v.calls.calls row (different xid (next_xid v.calls) (λ same. absurd (omega (arith, low, same)))) ∙ w.waits;
    }
      where
        different : (a b : ℕ) → a ≢ b → nat_eq a b ≡ false
        different a b apart = by (nat_eq a b) refl
          where
            by : (c : Bool) → nat_eq a b ≡ c → c ≡ false
            by true d = absurd (apart (eqb-true a b d))
            by false d = refl
    made-waits row next xid (inr mine) = record {
      call = row;
      waits = at_made v.calls.cred v.calls.first_xid (next_xid v.calls) xid (next_xid v.calls) v.calls.calls row r.sound.calls.each mine.0 refl;
    }

    made-delayed : (new : View) (number : ℕ) (machine : Machine) (call : Call) → Owing h v number machine (Send call) → Makes v number call new → Delayed h new
    made-delayed new number machine call o k = subst (Delayed h) (sym k.is) (record {
      apart = o.apart;
      waits = each-map (Due v (Send call)) (IsWaiting (v.calls.calls ++ (next_xid v.calls, row) ∷ [])) (made-waits row (Send call)) v.shelf.repeats o.waits;
      counted = λ xid w at made x op u. by xid w at made x op u (nat_eq xid (next_xid v.calls)) refl;
    })
      where
        row : Waiting Purpose
        row = made_call (record_of v call k.args) (record { lane = number; proc = proc_of call; sent = turn_at v })

        by : (xid : ℕ) (w : Waiting Purpose) → waiting_at xid (v.calls.calls ++ (next_xid v.calls, row) ∷ []) ≡ Some w → (made : IsMade setup.cred xid w) → (x : ℕ) (op : Op)
            → UnderWay h w.purpose.lane x (length h) op → (b : Bool) → nat_eq xid (next_xid v.calls) ≡ b → Puts h x (length h) made.asked (count xid v.shelf.repeats)
        by xid w at made x op u false d = o.counted xid w (sym (others_made xid (next_xid v.calls) v.calls.calls row d) ∙ at) made x op u
        by xid w at made x op u true d =
            let same : xid ≡ next_xid v.calls = eqb-true xid (next_xid v.calls) d in
            let which : row ≡ w = some-call row w (sym (at_made v.calls.cred v.calls.first_xid (next_xid v.calls) xid (next_xid v.calls) v.calls.calls row r.sound.calls.each same refl) ∙ at) in
            let known = made-known setup h v number call new k r in
            let own : known.made.asked ≡ call = made-asked setup h v number call new k r in
            let bytes : row.bytes ≡ w.bytes = ap (λ (c : Waiting Purpose). c.bytes) which in
            let asked : made.asked ≡ known.made.asked =
            one-call xid (next_xid v.calls) made.asked known.made.asked w.bytes (nfs-of made.asked made.nfs) made.spells.spells
            (subst (λ (b : List ℕ). SpellsCall (next_xid v.calls) known.made.asked b) bytes known.made.spells.spells) in
            subst (λ (c : Call). Puts h x (length h) c (count xid v.shelf.repeats)) (sym (asked ∙ own))
            (subst (λ (n : ℕ). Puts h x (length h) call (count n v.shelf.repeats)) (sym same)
            (o.mine call refl x op (subst (λ (c : Waiting Purpose). UnderWay h c.purpose.lane x (length h) op) (sym which) u)))

    -- ---- it can't be made

    none-off : (fault : Fault) → IsUnmade v fault → fault ≡ faults.Nfs jukebox → ⊥
    none-off faults.Spent u is = absurd (cc)
    none-off faults.Memory u is = absurd (cc)
    none-off faults.Lost u is = absurd u
    none-off (faults.Nfs status) u is = absurd u
    none-off (faults.Rpc n) u is = absurd u
    none-off (faults.Bad rule) u is = absurd u
    none-off faults.Slot u is = absurd u
    none-off faults.Mode u is = absurd u
    none-off faults.Kind u is = absurd u
    none-off faults.Many u is = absurd u

    abbrev NotOff : Fault → Type 0
    NotOff fault = fault ≡ faults.Nfs jukebox → ⊥

    not-own : CallFaults NotOff
    not-own = record { memory = λ is. absurd (cc) }

    any-own : CallFaults (λ (fault : Fault). Unit {0})
    any-own = record { memory = tt }

    err-ok : (R : Type 0) (fault : Fault) (reply : Reply) → ◌≡◌ {A = Result Reply Fault} (Err fault) (Ok reply) → R
    err-ok R fault reply e = absurd (cc)

    one-fault : (a b : Fault) → ◌≡◌ {A = Result Reply Fault} (Err a) (Err b) → a ≡ b
    one-fault a b e = cc

    not-due : (next : Step) (xid : ℕ) → Due v next xid × (xid ≢ next_xid v.calls) → IsWaiting v.calls.calls xid
    not-due next xid (inl w, apart) = w
    not-due next xid (inr mine, apart) = absurd (apart mine.0)

    -- the table without it
    less-delayed : (next : Step) → AreApart v.shelf.repeats → Each (Due v next) v.shelf.repeats → Counted h v.calls.calls v.shelf.repeats
        → DelayedBy h v.calls.calls (left (next_xid v.calls) v.shelf.repeats)
    less-delayed next apart waits counted =
        let k = left-apart (next_xid v.calls) v.shelf.repeats apart in
        record {
          apart = k.0;
          waits = each-map (λ (n : ℕ). Due v next n × (n ≢ next_xid v.calls)) (IsWaiting v.calls.calls) (not-due next) (left (next_xid v.calls) v.shelf.repeats)
              (each-free (Due v next) (next_xid v.calls) (left (next_xid v.calls) v.shelf.repeats) k.1 (left-each (Due v next) (next_xid v.calls) v.shelf.repeats waits));
          counted = λ xid w at made x op u.
              let low = early xid w at in
              subst (λ (n : ℕ). Puts h x (length h) made.asked n) (sym (left-count xid (next_xid v.calls) v.shelf.repeats (λ same. absurd (omega (arith, low, same))))) (counted xid w at made x op u);
        }

    unmade-delayed : (new : View) (at number : ℕ) (machine : Machine) (call : Call) → Owing h v number machine (Send call) → RefusesStep v at number machine new → Delayed h new
    unmade-delayed new at number machine call o f = subst (Delayed h) (sym f.is) (subst (DelayedBy h v.calls.calls) (sym table) (less-delayed (Send call) o.apart o.waits o.counted))
      where
        given : Given NotOff not-own 0 [] call (Err f.fault)
        given = record {
          ok = λ reply is. err-ok _ f.fault reply is;
          err = λ fault is. subst NotOff (one-fault f.fault fault is) (none-off f.fault f.unmade);
          give = λ reply is. err-ok _ f.fault reply is;
        }

        took : Took NotOff (turn_at v) (unmade_turn v) v.shelf.repeats f.left.repeats (f.next ≡ Send call) (Calm (λ (fault : Fault). Unit {0}) any-own (Err f.fault) f.next machine)
        took = took-any NotOff not-own (turn_at v) (unmade_turn v) (Err f.fault) call (λ off. err-ok _ f.fault off.reply off.is) (λ (fault : Fault). Unit {0}) any-own (λ fault is. tt) machine v.wsize v.shelf
            f.next f.after f.left (o.flight call refl) o.asked.0 o.asked.1 (λ reply is. err-ok _ f.fault reply is)
            (machine-fits NotOff not-own 0 [] call (Err f.fault) given (turn_at v) v.shelf.back (λ reply is. err-ok _ f.fault reply is) machine o.asked.0 o.asked.1 (λ opens is. absurd (cc)) (λ lists is. absurd (cc)))
            f.takes

        calm : took.busy ≡ false
        calm = by took.busy refl
          where
            by : (b : Bool) → took.busy ≡ b → b ≡ false
            by true is = absurd (took.fault is refl)
            by false is = refl

        table : f.left.repeats ≡ left (next_xid v.calls) v.shelf.repeats
        table = took.later_is ∙ ap (λ (b : Bool). repeats_after b (turn_at v) (unmade_turn v) v.shelf.repeats) calm ∙ ended-is (next_xid v.calls) v.shelf.repeats

    -- no call is asked for
    rests-delayed : (number : ℕ) (machine : Machine) (next : Step) → ((call : Call) → next ≡ Send call → ⊥) → Owing h v number machine next → Delayed h v
    rests-delayed number machine next none o = record { apart = o.apart; waits = each-map (Due v next) (IsWaiting v.calls.calls) by v.shelf.repeats o.waits; counted = o.counted }
      where
        by : (xid : ℕ) → Due v next xid → IsWaiting v.calls.calls xid
        by xid (inl w) = w
        by xid (inr mine) = absurd (none mine.1.0 mine.1.1)

    leads-delayed : (new : View) (at number : ℕ) (machine : Machine) (next : Step) → Owing h v number machine next → Leads v at number machine next new → Delayed h new
    leads-delayed new at number machine (Send call) o (inl k) = made-delayed new number machine call o k
    leads-delayed new at number machine (Send call) o (inr f) = unmade-delayed new at number machine call o f
    leads-delayed new at number machine Wait o is = subst (Delayed h) (sym is) (rests-delayed number machine Wait (λ call e. absurd (cc)) o)
    leads-delayed new at number machine (Done answer) o is = subst (Delayed h) (sym is) (rests-delayed number machine (Done answer) (λ call e. absurd (cc)) o)

    -- nothing of the next call is in the table
    next-free : Each (IsWaiting v.calls.calls) v.shelf.repeats → IsFree (next_xid v.calls) v.shelf.repeats
    next-free waits = free-of (IsWaiting v.calls.calls) (next_xid v.calls) v.shelf.repeats (λ w. let low = early (next_xid v.calls) w.call w.waits in omega (arith, low)) waits

    -- a step without a reply
    plain-owing : (number others : ℕ) (machine : Machine) (next : Step) → Delayed h v → AskedOf Calls next machine → Counts next others machine → Owing h v number machine next
    plain-owing number others machine next d asked counts = record {
      apart = d.apart;
      waits = each-map (IsWaiting v.calls.calls) (Due v next) (λ xid w. inl w) v.shelf.repeats d.waits;
      counted = d.counted;
      mine = λ call is x op u. puts-none h x (length h) call (count (next_xid v.calls) v.shelf.repeats) (free-count (next_xid v.calls) v.shelf.repeats (next-free d.waits));
      asked = asked;
      flight = λ call is. by next is counts;
    }
      where
        by : (n : Step) → {call : Call} → n ≡ Send call → Counts n others machine → 1 ≤ in_flight machine
        by (Send c) is k = let one = k.0 in omega (arith, one)
        by Wait is k = absurd (cc)
        by (Done answer) is k = absurd (cc)

  -- ---- one entry more

  grown : (h : List Entry) (e : Entry) → length h ≤ length (h ++ e ∷ [])
  grown h e = let more = length_last h e in omega (arith, more)

  counted-grows : (h : List Entry) (e : Entry) (calls : List (ℕ × Waiting Purpose)) (rs : List Repeat)
      → ((xid : ℕ) (w : Waiting Purpose) → waiting_at xid calls ≡ Some w → (line : ℕ) (op : Op) → e ≡ Began w.purpose.lane line op → ⊥) → Counted h calls rs → Counted (h ++ e ∷ []) calls rs
  counted-grows h e calls rs other c xid w at made x op u =
      puts-later h (e ∷ []) x (length h) (length (h ++ e ∷ [])) made.asked (count xid rs) (grown h e)
      (c xid w at made x op (under-back h e w.purpose.lane x op (other xid w at) u))

  -- the same calls, but for how often they were sent
  same-counted : (h : List Entry) (old new : List (ℕ × Waiting Purpose)) (rs : List Repeat) → SameCalls old new → Counted h old rs → Counted h new rs
  same-counted h old new rs s c xid w at made x op u =
      let k = s.waited xid w at in
      c xid k.was k.waited (record {
        asked = made.asked;
        spells = subst (SpellsCallBy setup.cred xid made.asked) k.bytes made.spells;
        nfs = made.nfs;
        proc = ap (λ (p : Purpose). p.proc) (sym k.purpose) ∙ made.proc;
      }) x op (subst (λ (p : Purpose). UnderWay h p.lane x (length h) op) k.purpose u)

  same-waits : (old new : List (ℕ × Waiting Purpose)) → SameCalls old new → (xid : ℕ) → IsWaiting old xid → IsWaiting new xid
  same-waits old new s xid w = by (waiting_at xid new) refl
    where
      by : (o : Option (Waiting Purpose)) → waiting_at xid new ≡ o → IsWaiting new xid
      by (Some c) is = record { call = c; waits = is }
      by None is = absurd (
          let now : purpose_at xid new ≡ None = ap (option_map (λ (c : Waiting Purpose). c.purpose)) is in
          let was : purpose_at xid old ≡ Some w.call.purpose = ap (option_map (λ (c : Waiting Purpose). c.purpose)) w.waits in
          let no_way : None ≡ Some w.call.purpose = sym now ∙ s.purposes xid ∙ was in cc)

  -- ---- a record comes

  module _ (h : List Entry) (old : View) (rec : List ℕ) (xid : ℕ) (call : Waiting Purpose) (at : ℕ) (reaches : Reaches (machine_of m) setup h old) (found : old.lost ≡ false) (known : Known setup h old)
      (fin : View) (hears : HearsRecord old rec fin) (named : xid_at rec ≡ Some xid) (waits : waiting_at xid old.calls.calls ≡ Some call)
      (there : position (is_busy call.purpose.lane) old.lanes ≡ Some at) where
    abbrev later : List Entry
    later = h ++ Delivered rec ∷ []

    abbrev came : Result Reply Fault
    came = said_of call.purpose.proc rec

    -- a record that came now for a call that was first sent within the operation
    heard-now : (made : IsMade setup.cred xid call) (x : ℕ) (op : Op) → UnderWay h call.purpose.lane x (length h) op → (from : ℕ) → IsOutstanding h xid call.bytes from
        → (d : Heard later x (length later) made.asked xid rec) × (d.got_at ≡ length h)
    heard-now made x op u from o =
        let within : from < length h = At-below h from (Sent call.bytes) o.sent.sent in
        let more = length_last h (Delivered rec) in
        let since : x < from = reached-since (machine_of m) (begins-unbegun m) setup h old reaches found xid call waits x u.line op u.began from call.bytes o.sent.sent o.sent.under in (
          record {
            sent_at = from;
            record_sent = call.bytes;
            got_at = length h;
            sent = FirstSent-grow h (Delivered rec ∷ []) from xid call.bytes o.sent;
            spells = made.spells.spells;
            got = record {
              got = At-last h (Delivered rec);
              under = named;
              waits = record {
                at = from;
                bytes = call.bytes;
                sent = At-grow h (Delivered rec ∷ []) from (Sent call.bytes) o.sent.sent;
                under = o.sent.under;
                before = within;
                unanswered = λ j b got has after before. o.unheard j b (At-back h (Delivered rec ∷ []) j (Delivered b) got before) has after;
              };
            };
            after = omega (arith, since);
            later = within;
            before = omega (arith, more);
          },
          refl,
        )

    heard-at : (made : IsMade setup.cred xid call) (x : ℕ) (op : Op) → UnderWay h call.purpose.lane x (length h) op → (d : Heard later x (length later) made.asked xid rec) × (d.got_at ≡ length h)
    heard-at made x op u = by (known.rows.rows xid call waits).tried
      where
        by : Tried h xid call → (d : Heard later x (length later) made.asked xid rec) × (d.got_at ≡ length h)
        by (unsent nothing n) = absurd (let some = was-sent xid old.calls.calls call hears.may.sent waits in omega (arith, some, nothing))
        by (runs from running o rest) = heard-now made x op u from o
        by (tries_ended from idle o rest) = heard-now made x op u from o

    module _ (new : View) (o : TakesAt (taken_one old xid) at call.purpose.sent came new) (d : Delayed h old) where
      lane-is : o.number ≡ call.purpose.lane
      lane-is = eqb-true o.number call.purpose.lane (at-position (is_busy call.purpose.lane) old.lanes at (record { number = o.number; state = Busy o.machine }) there o.there)

      expected : IsExpected (machine_of m) (begins-unbegun m) setup Calls calls-laws NoCall NoShelf NoStory (no-laws (machine_of m) setup Calls) h o.number xid call o.machine
      expected = ((reached-good (machine_of m) (begins-unbegun m) setup Calls calls-laws NoCall NoShelf NoStory (no-laws (machine_of m) setup Calls) h old reaches).each at
          (record { number = o.number; state = Busy o.machine }) o.there).0 xid call waits (sym lane-is)

      abbrev asked : Call
      asked = expected.made.asked

      said : Says xid asked rec came
      said = says-of old rec hears.result fin xid call hears.hears named waits xid named asked (record { nfs = expected.made.nfs; is = sym expected.made.proc })

      sent-xid : call.purpose.sent.xid ≡ xid
      sent-xid = (written-reached m setup h old reaches found).flown.sents xid call.purpose (ap (option_map (λ (c : Waiting Purpose). c.purpose)) waits)

      piece : IsPiece call.purpose.sent.xid asked old.shelf.back
      piece =
          let s = (written-reached m setup h old reaches found).all xid call waits in
          let same : asked ≡ s.call = one-call xid xid asked s.call call.bytes (nfs-of asked expected.made.nfs) expected.made.spells.spells s.spells.spells in
          subst (λ (n : ℕ). IsPiece n asked old.shelf.back) (sym sent-xid) (subst (λ (c : Call). IsPiece xid c old.shelf.back) (sym same) s.piece)

      counted-calls : calls_for o.number old.calls.calls ≡ in_flight o.machine
      counted-calls = known.known.counted o.number ∙ known-only o.number old.lanes at (Busy o.machine) o.there
          (λ k l here same. (lanes-under-way h old known.lanes).apart k at l (record { number = o.number; state = Busy o.machine }) here o.there same)

      some : 1 ≤ in_flight o.machine
      some =
          let one = calls-some xid old.calls.calls call waits in
          let all : calls_for call.purpose.lane old.calls.calls ≡ in_flight o.machine = ap (λ (n : ℕ). calls_for n old.calls.calls) (sym lane-is) ∙ counted-calls in
          omega (arith, one, all)

      before : in_flight o.machine ≡ (in_flight o.machine - 1) + 1
      before = let low = some in omega (arith, low)

      took : Took (Off xid asked rec) call.purpose.sent (turn_at (taken_one old xid)) old.shelf.repeats o.shelf.repeats (o.next ≡ Send asked) (Calm (λ (fault : Fault). Unit {0}) (record { memory = tt }) came o.next o.machine)
      took = took-any (Off xid asked rec) (off-own xid asked rec) call.purpose.sent (turn_at (taken_one old xid)) came asked (off-evident xid asked rec came said) (λ (fault : Fault). Unit {0})
          (record { memory = tt }) (λ fault is. tt) o.machine old.wsize old.shelf o.next o.after o.shelf some expected.expects.0 expected.expects.1 (λ reply is. piece)
          (machine-fits (Off xid asked rec) (off-own xid asked rec) xid rec asked came (off-given xid asked rec came said) call.purpose.sent old.shelf.back (λ reply is. piece) o.machine expected.expects.0
          expected.expects.1 (λ opens is. absurd (cc)) (λ lists is. absurd (cc))) o.takes

      -- ---- the view once the operation has made its step

      rows : Rows setup later (taken_one old xid)
      rows = rows-grow setup h (Delivered rec) (taken_one old xid) (taken-quiet setup h old rec xid known.rows named) (not-sent rec) (taken-rows setup h old xid known.rows)

      abbrev mid : View
      mid = with_state (taken_one old xid) at o.number (Busy o.after) o.shelf

      mid-rows : Rows setup later mid
      mid-rows = same-rows setup later (taken_one old xid) mid refl rows

      abbrev next : ℕ
      next = next_xid old.calls

      early-old : (y : ℕ) (w : Waiting Purpose) → waiting_at y old.calls.calls ≡ Some w → y < next
      early-old y w is = waits_early old.calls.cred old.calls.first_xid (next_xid old.calls) y old.calls.calls w known.rows.sound.calls.each is

      -- what waits still waited, under another xid
      still-waited : (y : ℕ) (w : Waiting Purpose) → waiting_at y (without xid old.calls.calls) ≡ Some w → (waiting_at y old.calls.calls ≡ Some w) × (y ≢ xid)
      still-waited y w is = by (nat_eq y xid) refl
        where
          by : (b : Bool) → nat_eq y xid ≡ b → (waiting_at y old.calls.calls ≡ Some w) × (y ≢ xid)
          by false e = (sym (others_taken y xid old.calls.calls e) ∙ is, eqb-false y xid e)
          by true e = absurd (
              let none : waiting_at xid (without xid old.calls.calls) ≡ None = gone old.calls.cred old.calls.first_xid (next_xid old.calls) xid old.calls.calls known.rows.sound.calls.each in
              let there : waiting_at xid (without xid old.calls.calls) ≡ Some w = ap (λ (n : ℕ). waiting_at n (without xid old.calls.calls)) (sym (eqb-true y xid e)) ∙ is in
              let no_way : None ≡ Some w = sym none ∙ there in cc)

      waits-still : (y : ℕ) → IsWaiting old.calls.calls y × (y ≢ xid) → IsWaiting (without xid old.calls.calls) y
      waits-still y k = record { call = k.0.call; waits = others_taken y xid old.calls.calls (different (nat_eq y xid) refl) ∙ k.0.waits }
        where
          different : (b : Bool) → nat_eq y xid ≡ b → nat_eq y xid ≡ false
          different false e = e
          different true e = absurd (k.1 (eqb-true y xid e))

      -- the table without the call
      abbrev fewer : List Repeat
      fewer = left xid old.shelf.repeats

      fewer-apart : AreApart fewer × IsFree xid fewer
      fewer-apart = left-apart xid old.shelf.repeats d.apart

      fewer-waits : Each (IsWaiting (without xid old.calls.calls)) fewer
      fewer-waits = each-map (λ (n : ℕ). IsWaiting old.calls.calls n × (n ≢ xid)) (IsWaiting (without xid old.calls.calls)) waits-still fewer
          (each-free (IsWaiting old.calls.calls) xid fewer fewer-apart.1 (left-each (IsWaiting old.calls.calls) xid old.shelf.repeats d.waits))

      next-apart : IsFree next fewer
      next-apart = left-free next xid old.shelf.repeats (free-of (IsWaiting old.calls.calls) next old.shelf.repeats (λ w. let low = early-old next w.call w.waits in omega (arith, low)) d.waits)

      puts-of : (y : ℕ) (w : Waiting Purpose) → waiting_at y (without xid old.calls.calls) ≡ Some w → (made : IsMade setup.cred y w) → (x : ℕ) (op : Op) → UnderWay later w.purpose.lane x (length later) op
          → Puts later x (length later) made.asked (count y fewer)
      puts-of y w is made x op u =
          let was = still-waited y w is in
          subst (λ (n : ℕ). Puts later x (length later) made.asked n) (sym (left-count y xid old.shelf.repeats was.1))
          (puts-later h (Delivered rec ∷ []) x (length h) (length later) made.asked (count y old.shelf.repeats) (grown h (Delivered rec))
          (d.counted y w was.0 made x op (under-back h (Delivered rec) w.purpose.lane x op (λ line q e. absurd (cc)) u)))

      counts : Counts o.next (in_flight o.machine - 1) o.after
      counts = counts-calls.take old.wsize o.machine call.purpose.sent (turn_at (taken_one old xid)) came old.shelf o.next o.after o.shelf (in_flight o.machine - 1) o.takes
          (known.known.right at (record { number = o.number; state = Busy o.machine }) o.there) before

      asks : AskedOf Calls o.next o.after
      asks = (calls-laws.takes o.machine old.wsize call.purpose.sent (turn_at (taken_one old xid)) came old.shelf o.next o.after o.shelf (in_flight o.machine - 1) before o.takes).0

      flights : (c : Call) → o.next ≡ Send c → 1 ≤ in_flight o.after
      flights c is = by o.next is counts
        where
          by : (n : Step) → n ≡ Send c → Counts n (in_flight o.machine - 1) o.after → 1 ≤ in_flight o.after
          by (Send asked_) e k = let one = k.0 in omega (arith, one)
          by Wait e k = absurd (cc)
          by (Done answer) e k = absurd (cc)

      -- the operation that is under way was so before the record came
      was-under : (x : ℕ) (op : Op) → UnderWay later o.number x (length later) op → UnderWay h call.purpose.lane x (length h) op
      was-under x op u =
          subst (λ (n : ℕ). UnderWay h n x (length h) op) lane-is (under-back h (Delivered rec) o.number x op (λ line q e. absurd (cc)) u)

      -- ---- it isn't made again

      ends-owing : goes_again took.busy call.purpose.sent (turn_at (taken_one old xid)) old.shelf.repeats ≡ false → Owing later mid o.number o.after o.next
      ends-owing ends = record {
        apart = subst AreApart (sym table) fewer-apart.0;
        waits = subst (Each (Due mid o.next)) (sym table) (each-map (IsWaiting (without xid old.calls.calls)) (Due mid o.next) (λ n w. inl w) fewer fewer-waits);
        counted = λ y w is made x op u. subst (λ (rs : List Repeat). Puts later x (length later) made.asked (count y rs)) (sym table) (puts-of y w is made x op u);
        mine = λ c is x op u. puts-none later x (length later) c (count next o.shelf.repeats) (ap (count next) table ∙ free-count next fewer next-apart);
        asked = asks;
        flight = flights;
      }
        where
          table : o.shelf.repeats ≡ fewer
          table =
              took.later_is
              ∙ ap (λ (b : Bool). answered_table b call.purpose.sent.xid next old.shelf.repeats) ends
              ∙ ap (λ (n : ℕ). ended n old.shelf.repeats) sent-xid
              ∙ ended-is xid old.shelf.repeats

      -- ---- it is made again

      again-owing : goes_again took.busy call.purpose.sent (turn_at (taken_one old xid)) old.shelf.repeats ≡ true → Owing later mid o.number o.after o.next
      again-owing again = record {
        apart = subst AreApart (sym table) (push-apart fewer one fewer-apart.0 next-apart);
        waits = subst (Each (Due mid o.next)) (sym table)
            (push-each (Due mid o.next) fewer one (each-map (IsWaiting (without xid old.calls.calls)) (Due mid o.next) (λ n w. inl w) fewer fewer-waits) (inr (refl, (asked, took.again again))));
        counted = λ y w is made x op u.
            let low = early-old y w (still-waited y w is).0 in
            subst (λ (rs : List Repeat). Puts later x (length later) made.asked (count y rs)) (sym table)
            (subst (λ (n : ℕ). Puts later x (length later) made.asked n) (sym (push-count y fewer one (λ same. absurd (omega (arith, low, same))))) (puts-of y w is made x op u));
        mine = λ c is x op u.
            let was = was-under x op u in
            let own : c ≡ asked = same-send c asked (sym is ∙ took.again again) in
            let now = heard-at expected.made x op was in
            subst (λ (q : Call). Puts later x (length later) q (count next o.shelf.repeats)) (sym own)
            (subst (λ (n : ℕ). Puts later x (length later) asked n) (sym (ap (count next) table ∙ pushed-count fewer one next-apart))
            (puts-more h (Delivered rec ∷ []) x (length h) (length later) asked (count xid old.shelf.repeats) (length h) (grown h (Delivered rec)) (omega arith)
            (record {
              refused = record { xid = xid; bytes = rec; heard = now.0; refuses = took.fault (again-busy took.busy call.purpose.sent (turn_at (taken_one old xid)) old.shelf.repeats again) refl };
              here = now.1;
            }) (d.counted xid call waits expected.made x op was)));
        asked = asks;
        flight = flights;
      }
        where
          one : Repeat
          one = record { xid = next; times = count xid old.shelf.repeats + 1 }

          same-send : (a b : Call) → Send a ≡ Send b → a ≡ b
          same-send a b e = cc

          table : o.shelf.repeats ≡ fewer ++ one ∷ []
          table =
              took.later_is
              ∙ ap (λ (b : Bool). answered_table b call.purpose.sent.xid next old.shelf.repeats) again
              ∙ ap (λ (n : ℕ). repeated n next old.shelf.repeats) sent-xid
              ∙ ap (λ (rs : List Repeat). rs ++ record { xid = next; times = times_of xid old.shelf.repeats + 1 } ∷ []) (ended-is xid old.shelf.repeats)
              ∙ ap (λ (k : ℕ). fewer ++ record { xid = next; times = k + 1 } ∷ []) (times-is xid old.shelf.repeats)

      pub takes-delayed : Delayed later new
      takes-delayed = by (goes_again took.busy call.purpose.sent (turn_at (taken_one old xid)) old.shelf.repeats) refl
        where
          lead : Owing later mid o.number o.after o.next → Delayed later new
          lead owing = leads-delayed later mid mid-rows new at o.number o.after o.next owing o.leads

          by : (b : Bool) → goes_again took.busy call.purpose.sent (turn_at (taken_one old xid)) old.shelf.repeats ≡ b → Delayed later new
          by true again = lead (again-owing again)
          by false ends = lead (ends-owing ends)

  -- ---- along a history

  stirs-delayed : (h : List Entry) (old new : View) (at : ℕ) → Known setup h old → Stirs old at new → Delayed h old → Delayed h new
  stirs-delayed h old new at known t d =
      leads-delayed h mid (same-rows setup h old mid refl known.rows) new at t.number t.after t.next
      (plain-owing h mid (same-rows setup h old mid refl known.rows) t.number (in_flight t.machine) t.after t.next
      (subst (DelayedBy h old.calls.calls) (sym (resumes-same t.machine old.wsize (turn_at old) old.shelf t.next t.after t.shelf t.resumes)) d)
      (calls-laws.resumes t.machine old.wsize (turn_at old) old.shelf t.next t.after t.shelf t.resumes).0
      (counts-calls.resume old.wsize t.machine (turn_at old) old.shelf t.next t.after t.shelf t.resumes (known.known.right at (record { number = t.number; state = Busy t.machine }) t.there)))
      t.leads
    where
      mid : View
      mid = with_state old at t.number (Busy t.after) t.shelf

  starts-delayed : (h : List Entry) (old new : View) (lane line : ℕ) (op : Op) (now : ℕ) → Known setup h old → IsIdle lane old.lanes → StartsLane (counted old now) lane (machine_of m lane op) new
      → Delayed h old → Delayed (h ++ Began lane line op ∷ []) new
  starts-delayed h old new lane line op now known idle t d =
      leads-delayed later mid rows new (length old.lanes) lane t.after t.next
      (plain-owing later mid rows lane 0 t.after t.next
      (subst (DelayedBy later old.calls.calls) (sym (starts-same (machine_of m lane op) old.wsize (turn_at (counted old now)) old.shelf t.next t.after t.shelf t.starts)) (record {
        apart = d.apart;
        waits = d.waits;
        counted = counted-grows h (Began lane line op) old.calls.calls old.shelf.repeats (λ xid w at l o is. none-idle old lane xid w idle.other known.known.counted at (same-lane lane line w.purpose.lane l op o is)) d.counted;
      }))
      (calls-laws.starts (machine_of m lane op) old.wsize (turn_at (counted old now)) old.shelf t.next t.after t.shelf t.starts)
      (counts-calls.start old.wsize (machine_of m lane op) (turn_at (counted old now)) old.shelf t.next t.after t.shelf t.starts (begins-unbegun m lane op)))
      t.leads
    where
      same-lane : (a b c e : ℕ) (o p : Op) → Began a b o ≡ Began c e p → c ≡ a
      same-lane a b c e o p is = cc

      later : List Entry
      later = h ++ Began lane line op ∷ []

      mid : View
      mid = record (counted old now) { lanes = old.lanes ++ record { number = lane; state = Busy t.after } ∷ []; shelf = t.shelf }

      rows : Rows setup later mid
      rows = same-rows setup later old mid refl (silent-grow setup h (Began lane line op) old (record { sent = λ bytes is. absurd (cc); came = λ bytes is. absurd (cc) }) known.rows)

  delay-laws : KeepsHearing (machine_of m) setup Delayed
  delay-laws = record {
    fresh = λ h v may up fresh. subst (λ (rs : List Repeat). DelayedBy h v.calls.calls rs) (sym fresh.repeats) (record {
      apart = tt;
      waits = tt;
      counted = λ xid w at made x op u. puts-none h x (length h) made.asked 0 refl;
    });
    stirs = λ h old new at known t d. stirs-delayed h old new at known t d;
    starts = λ h old new lane line op now r found known idle fits t d. starts-delayed h old new lane line op now known idle t d;
    takes = λ h old new rec xid call at r found known fin hears named waits there o d. takes-delayed h old rec xid call at r found known fin hears named waits there new o d;
    answers = λ h old new at lane line answer known a d. subst (Delayed (h ++ Answered lane line answer ∷ [])) (sym a.is) (record {
      apart = d.apart;
      waits = d.waits;
      counted = counted-grows h (Answered lane line answer) old.calls.calls old.shelf.repeats (λ xid w there l o is. absurd (cc)) d.counted;
    });
    same = λ h e old new plain lanes shelf wsize calls d.
        let rs : new.shelf.repeats ≡ old.shelf.repeats = ap (λ (s : Shelf). s.repeats) shelf in
        subst (λ (k : List Repeat). DelayedBy (h ++ e ∷ []) new.calls.calls k) (sym rs) (record {
          apart = d.apart;
          waits = each-map (IsWaiting old.calls.calls) (IsWaiting new.calls.calls) (same-waits old.calls.calls new.calls.calls calls) old.shelf.repeats d.waits;
          counted = same-counted (h ++ e ∷ []) old.calls.calls new.calls.calls old.shelf.repeats calls
              (counted-grows h e old.calls.calls old.shelf.repeats (λ xid w there line o is. plain.begins_ w.purpose.lane line o is) d.counted);
        });
  }

  pub reached-delayed : (h : List Entry) (v : View) → Reaches (machine_of m) setup h v → v.lost ≡ false → Delayed h v
  reached-delayed h v r found = reached-hearing (machine_of m) (begins-unbegun m) setup Delayed delay-laws h v r found
