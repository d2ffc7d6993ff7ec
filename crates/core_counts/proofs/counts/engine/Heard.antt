-- The book is kept where an operation takes what came of its call.
use Rattle.core_counts.proofs.Prelude.{◌≡◌, ◌≢◌, ◌<◌, ◌≤◌, ◌+◌, ◌-◌, ◌&&◌, inl, inr, ℕ, List, [], ◌∷◌, ◌++◌, length, Bool, true, false, nat_eq, Some, None, option_map, position, Result, refl, sym, ap, subst, ◌∙◌, arith, eqb-true, eqb-false, ltb-true, xid_at, Waiting, next_xid, waiting_at, without, waits_early, others_taken, gone, Fault, Entry, Began, Sent, Delivered, Call, Reply, Op, At, IsBusy, UnderWay, FirstSent-grow, At-grow, At-below, At-back, At-last, length_last, said_of, Says, Step, Send, Repeat, goes_again, ended, repeated, Mounted, Machine, machine_of, Purpose, Busy, Setup, is_busy, numbers_of, with_state, TakesAt, View, turn_at, in_flight, Counts, HearsRecord, Reaches, IsMade, IsOutstanding, Tried, counts-calls, begins-unbegun, taken_one, was-sent, says-of, Known, Runs, LanesKnown, number_of, lanes-under-way, lanes-stay, quiet-facts, at-position, at-set, to-map, Rows, same-rows, rows-grow, taken-quiet, not-sent, taken-rows, Going, reached-good, NoCall, NoShelf, NoStory, no-laws, one-call, machine-fits, nfs-of, Calls, calls-laws, count, ended-is, IsWaiting, Each, Calm, took-any}
use Rattle.core_facts.proofs.Tales.{IsExpected}
use Rattle.core_session.proofs.delays.Delays.{Off, off-own, off-given, off-evident}
use Rattle.client_shelf.specs.Repeats.{times_of, answered as answered_table}
use Rattle.core_facts.specs.Counted.{calls_for}
use Rattle.core_facts.specs.Tries.{unsent, runs, ended as tries_ended}
use Rattle.core_facts.proofs.Counting.{calls-some, known-only}
use Rattle.core_facts.proofs.Owning.{reached-since}
use Rattle.core_answers.proofs.answers.PieceSteps.{IsPiece}
use Rattle.core_answers.proofs.answers.Writing.{written-reached}
use Rattle.core_session.proofs.delays.Tables.{left as left_of, times-is, AreApart, IsFree, each-map, each-free, free-of, left-apart, left-free, left-each, push-apart, push-each, free-count, left-count, push-count, pushed-count}
use Rattle.core_session.proofs.delays.Took.{Took as TookTable}
use Rattle.core_session.proofs.room.Entered.{under-early}
use Rattle.core_counts.proofs.counts.engine.Laws.{ToldNow, told, came_now, Took, again, on, SeenLaws}
use Rattle.core_counts.proofs.counts.engine.Ledger.{Row, Is, Room}
use Rattle.core_counts.proofs.counts.engine.Account.{repeats, account-grow, account-gain}
use Rattle.core_counts.proofs.counts.engine.Book.{budget-set}
use Rattle.core_counts.proofs.counts.engine.Steps.{one-longer, few-times, leads-book}
use Rattle.core_counts.proofs.counts.engine.Kept.{IBook, ISound, ILone, INear, IBudget, IOwn, IOwing, IDue, IJoining, not-empty, sound-with, counted-grows, budget-grows, began-back, one-each, some-in-flight, joins-first}

module _ (m : Mounted) (setup : Setup) (H : List Entry) (V : View) (P : Call → Type 0) (Q : Call → ℕ → List ℕ → Type 0) (is : Op → Type 0) (base : Op → ℕ)
    (Left : List Entry → ℕ → Op → Machine → ℕ → Type 0) (laws : SeenLaws m setup H P Q is base Left)
    (h : List Entry) (old : View) (rec : List ℕ) (xid : ℕ) (call : Waiting Purpose) (at : ℕ) (reaches : Reaches (machine_of m) setup h old) (found : old.lost ≡ false) (known : Known setup h old)
    (fin : View) (hears : HearsRecord old rec fin) (named : xid_at rec ≡ Some xid) (waits : waiting_at xid old.calls.calls ≡ Some call)
    (there : position (is_busy call.purpose.lane) old.lanes ≡ Some at) (rest : List Entry) (goes_on : H ≡ (h ++ Delivered rec ∷ []) ++ rest) where
  abbrev later : List Entry
  later = h ++ Delivered rec ∷ []

  abbrev came : Result Reply Fault
  came = said_of call.purpose.proc rec

  -- a record that came now for a call that was first sent within the operation
  heard-now : (made : IsMade setup.cred xid call) (x : ℕ) (op : Op) → UnderWay h call.purpose.lane x (length h) op → (from : ℕ) → IsOutstanding h xid call.bytes from → ToldNow later x made.asked xid rec
  heard-now made x op u from o =
      let within : from < length h = At-below h from (Sent call.bytes) o.sent.sent in
      let more = length_last h (Delivered rec) in
      let since : x < from = reached-since (machine_of m) (begins-unbegun m) setup h old reaches found xid call waits x u.line op u.began from call.bytes o.sent.sent o.sent.under in
      record {
        heard = record {
          sent_at = from;
          record_sent = call.bytes;
          got_at = length h;
          sent = FirstSent-grow h (Delivered rec ∷ []) from xid call.bytes o.sent;
          spells = made.spells.spells;
          got = record {
            got = At-last h (Delivered rec);
            under = named;
            waits = record {
              at = from;
              bytes = call.bytes;
              sent = At-grow h (Delivered rec ∷ []) from (Sent call.bytes) o.sent.sent;
              under = o.sent.under;
              before = within;
              unanswered = λ j b got has after before. o.unheard j b (At-back h (Delivered rec ∷ []) j (Delivered b) got before) has after;
            };
          };
          after = omega (arith, since);
          later = within;
          before = omega (arith, more);
        };
        end = sym more;
      }

  heard-at : (made : IsMade setup.cred xid call) (x : ℕ) (op : Op) → UnderWay h call.purpose.lane x (length h) op → ToldNow later x made.asked xid rec
  heard-at made x op u = by (known.rows.rows xid call waits).tried
    where
      by : Tried h xid call → ToldNow later x made.asked xid rec
      by (unsent none n) = absurd (let some = was-sent xid old.calls.calls call hears.may.sent waits in omega (arith, some, none))
      by (runs from running o rest) = heard-now made x op u from o
      by (tries_ended from idle o rest) = heard-now made x op u from o

  module _ (new : View) (o : TakesAt (taken_one old xid) at call.purpose.sent came new) (d : IBook m setup H V P Q is base Left laws h old) where
    lane-is : o.number ≡ call.purpose.lane
    lane-is = eqb-true o.number call.purpose.lane (at-position (is_busy call.purpose.lane) old.lanes at (record { number = o.number; state = Busy o.machine }) there o.there)

    expected : IsExpected (machine_of m) (begins-unbegun m) setup Calls calls-laws NoCall NoShelf NoStory (no-laws (machine_of m) setup Calls) h o.number xid call o.machine
    expected = ((reached-good (machine_of m) (begins-unbegun m) setup Calls calls-laws NoCall NoShelf NoStory (no-laws (machine_of m) setup Calls) h old reaches).each at
        (record { number = o.number; state = Busy o.machine }) o.there).0 xid call waits (sym lane-is)

    abbrev asked : Call
    asked = expected.made.asked

    said : Says xid asked rec came
    said = says-of old rec hears.result fin xid call hears.hears named waits xid named asked (record { nfs = expected.made.nfs; is = sym expected.made.proc })

    sent-xid : call.purpose.sent.xid ≡ xid
    sent-xid = (written-reached m setup h old reaches found).flown.sents xid call.purpose (ap (option_map (λ (c : Waiting Purpose). c.purpose)) waits)

    piece : IsPiece call.purpose.sent.xid asked old.shelf.back
    piece =
        let s = (written-reached m setup h old reaches found).all xid call waits in
        let same : asked ≡ s.call = one-call xid xid asked s.call call.bytes (nfs-of asked expected.made.nfs) expected.made.spells.spells s.spells.spells in
        subst (λ (n : ℕ). IsPiece n asked old.shelf.back) (sym sent-xid) (subst (λ (c : Call). IsPiece xid c old.shelf.back) (sym same) s.piece)

    counted-calls : calls_for o.number old.calls.calls ≡ in_flight o.machine
    counted-calls = known.known.counted o.number ∙ known-only o.number old.lanes at (Busy o.machine) o.there
        (λ k l here same. (lanes-under-way h old known.lanes).apart k at l (record { number = o.number; state = Busy o.machine }) here o.there same)

    some : 1 ≤ in_flight o.machine
    some =
        let one_call = calls-some xid old.calls.calls call waits in
        let all : calls_for call.purpose.lane old.calls.calls ≡ in_flight o.machine = ap (λ (n : ℕ). calls_for n old.calls.calls) (sym lane-is) ∙ counted-calls in
        omega (arith, one_call, all)

    before : in_flight o.machine ≡ (in_flight o.machine - 1) + 1
    before = let low = some in omega (arith, low)

    took : TookTable (Off xid asked rec) call.purpose.sent (turn_at (taken_one old xid)) old.shelf.repeats o.shelf.repeats (o.next ≡ Send asked) (Calm (λ (fault : Fault). Unit {0}) (record { memory = tt }) came o.next o.machine)
    took = took-any (Off xid asked rec) (off-own xid asked rec) call.purpose.sent (turn_at (taken_one old xid)) came asked (off-evident xid asked rec came said) (λ (fault : Fault). Unit {0})
        (record { memory = tt }) (λ fault same. tt) o.machine old.wsize old.shelf o.next o.after o.shelf some expected.expects.0 expected.expects.1 (λ reply same. piece)
        (machine-fits (Off xid asked rec) (off-own xid asked rec) xid rec asked came (off-given xid asked rec came said) call.purpose.sent old.shelf.back (λ reply same. piece) o.machine expected.expects.0
        expected.expects.1 (λ opens same. absurd (cc)) (λ lists same. absurd (cc))) o.takes

    -- ---- the view once the operation has made its step

    abbrev mid : View
    mid = with_state (taken_one old xid) at o.number (Busy o.after) o.shelf

    mid-rows : Rows setup later mid
    mid-rows = same-rows setup later (taken_one old xid) mid refl (rows-grow setup h (Delivered rec) (taken_one old xid) (taken-quiet setup h old rec xid known.rows named) (not-sent rec) (taken-rows setup h old xid known.rows))

    lanes-later : LanesKnown later (taken_one old xid)
    lanes-later = quiet-facts h (Delivered rec) (numbers_of old.lanes) (λ number. refl) known.lanes

    busy-lane : Runs later o.number
    busy-lane = lanes-later.busy at o.number (to-map number_of old.lanes at (record { number = o.number; state = Busy o.machine }) o.there)

    own-busy : IsBusy later o.number (length later)
    own-busy = (lanes-under-way later (taken_one old xid) lanes-later).busy at (record { number = o.number; state = Busy o.machine }) o.there

    abbrev x : ℕ
    x = own-busy.x

    abbrev op : Op
    op = own-busy.op

    began-not : (number line : ℕ) (its : Op) → Delivered rec ≡ Began number line its → ⊥
    began-not number line its same = cc

    -- the operation that is under way was so before the record came
    own-before : UnderWay h o.number x (length h) op
    own-before = under-early h (Delivered rec) o.number x op
        (At-below h x (Began o.number own-busy.under_way.line op) (began-back m setup H V P Q is base Left laws h (Delivered rec) x o.number own-busy.under_way.line op began-not own-busy.under_way.began))
        own-busy.under_way

    own-asked : UnderWay h call.purpose.lane x (length h) op
    own-asked = subst (λ (n : ℕ). UnderWay h n x (length h) op) lane-is own-before

    near : INear m setup H V P Q is base Left laws d.rows xid x op asked (count xid old.shelf.repeats)
    near = d.counted xid call waits expected.made x op own-asked

    told-now : ToldNow later x asked xid rec
    told-now = heard-at expected.made x op own-asked

    abbrev next : ℕ
    next = next_xid old.calls

    early-old : (y : ℕ) (w : Waiting Purpose) → waiting_at y old.calls.calls ≡ Some w → y < next
    early-old y w same = waits_early old.calls.cred old.calls.first_xid (next_xid old.calls) y old.calls.calls w known.rows.sound.calls.each same

    -- what waits still waited, under another xid
    still-waited : (y : ℕ) (w : Waiting Purpose) → waiting_at y (without xid old.calls.calls) ≡ Some w → (waiting_at y old.calls.calls ≡ Some w) × (y ≢ xid)
    still-waited y w same = by (nat_eq y xid) refl
      where
        by : (b : Bool) → nat_eq y xid ≡ b → (waiting_at y old.calls.calls ≡ Some w) × (y ≢ xid)
        by false e = (sym (others_taken y xid old.calls.calls e) ∙ same, eqb-false y xid e)
        by true e = absurd (
            let none : waiting_at xid (without xid old.calls.calls) ≡ None = gone old.calls.cred old.calls.first_xid (next_xid old.calls) xid old.calls.calls known.rows.sound.calls.each in
            let here : waiting_at xid (without xid old.calls.calls) ≡ Some w = ap (λ (n : ℕ). waiting_at n (without xid old.calls.calls)) (sym (eqb-true y xid e)) ∙ same in
            let no_way : None ≡ Some w = sym none ∙ here in cc)

    waits-still : (y : ℕ) → IsWaiting old.calls.calls y × (y ≢ xid) → IsWaiting (without xid old.calls.calls) y
    waits-still y k = record { call = k.0.call; waits = others_taken y xid old.calls.calls (different (nat_eq y xid) refl) ∙ k.0.waits }
      where
        different : (b : Bool) → nat_eq y xid ≡ b → nat_eq y xid ≡ false
        different false e = e
        different true e = absurd (k.1 (eqb-true y xid e))

    -- the table without the call
    abbrev fewer : List Repeat
    fewer = left_of xid old.shelf.repeats

    fewer-apart : AreApart fewer × IsFree xid fewer
    fewer-apart = left-apart xid old.shelf.repeats d.apart

    fewer-waits : Each (IsWaiting (without xid old.calls.calls)) fewer
    fewer-waits = each-map (λ (n : ℕ). IsWaiting old.calls.calls n × (n ≢ xid)) (IsWaiting (without xid old.calls.calls)) waits-still fewer
        (each-free (IsWaiting old.calls.calls) xid fewer fewer-apart.1 (left-each (IsWaiting old.calls.calls) xid old.shelf.repeats d.waits))

    next-apart : IsFree next fewer
    next-apart = left-free next xid old.shelf.repeats (free-of (IsWaiting old.calls.calls) next old.shelf.repeats (λ w. let low = early-old next w.call w.waits in omega (arith, low)) d.waits)

    near-of : (y : ℕ) (w : Waiting Purpose) → waiting_at y (without xid old.calls.calls) ≡ Some w → (made : IsMade setup.cred y w) → (z : ℕ) (its : Op) → UnderWay later w.purpose.lane z (length later) its
        → INear m setup H V P Q is base Left laws d.rows y z its made.asked (count y fewer)
    near-of y w same made z its u =
        let was = still-waited y w same in
        subst (INear m setup H V P Q is base Left laws d.rows y z its made.asked) (sym (left-count y xid old.shelf.repeats was.1))
        (counted-grows m setup H V P Q is base Left laws d.rows h (Delivered rec) old.calls.calls old.shelf.repeats (λ a b c line q e. began-not b.purpose.lane line q e) d.counted y w was.0 made z its u)

    counts : Counts o.next (in_flight o.machine - 1) o.after
    counts = counts-calls.take old.wsize o.machine call.purpose.sent (turn_at (taken_one old xid)) came old.shelf o.next o.after o.shelf (in_flight o.machine - 1) o.takes
        (known.known.right at (record { number = o.number; state = Busy o.machine }) o.there) before

    sound : ISound m setup H V P Q is base Left laws d.rows later next
    sound = sound-with m setup H V P Q is base Left laws d.rows h (Delivered rec) next (λ bytes same n has. absurd (not-empty rec bytes same)) d.sound

    others : (y lane line : ℕ) (its : Op) → At later y (Began lane line its) → is its → y ≢ x → IBudget m setup H V P Q is base Left laws d.rows later mid.lanes y its
    others y lane line its began fits apart =
        let was = began-back m setup H V P Q is base Left laws h (Delivered rec) y lane line its began-not began in
        budget-set m setup H V P Q is base Left d.rows later old.lanes at o.number o.machine x op o.there busy-lane own-busy.under_way y its (Busy o.after) apart
        (budget-grows m setup H V P Q is base Left laws d.rows h (Delivered rec) old.lanes old.lanes y its (At-below h y (Began lane line its) was) (λ k n machine here u. (k, here)) (d.budgets y lane line its was fits))

    lone : ILone m setup H V P Q is base Left laws d.rows (without xid old.calls.calls)
    lone a b in_a in_b = d.lone a b (record { call = in_a.call; waits = (still-waited a in_a.call in_a.waits).0 }) (record { call = in_b.call; waits = (still-waited b in_b.call in_b.waits).0 })

    -- what its law says
    law : (fits : is op) → Took P Q Left later x op (d.budgets x o.number own-before.line op own-before.began fits).left call.purpose.sent (turn_at (taken_one old xid)) came old.shelf.repeats o.next o.after
        o.shelf.repeats
    law fits =
        let was = d.budgets x o.number own-before.line op own-before.began fits in
        laws.takes later x op o.machine old.wsize call.purpose.sent (turn_at (taken_one old xid)) came old.shelf o.next o.after o.shelf (in_flight o.machine - 1) was.left fits
        (laws.grows h (Delivered rec) x op o.machine was.left (was.keeps at o.number o.machine o.there own-before)) before
        (told asked xid rec told-now expected.expects said sent-xid (λ reply same. piece))
        (came_now (record {
          k = h;
          e = Delivered rec;
          is = refl;
          view = old;
          reached = reaches;
          found = found;
          shelf = refl;
          at = at;
          number = o.number;
          there = o.there;
          under = own-before;
          rest = rest;
          goes = goes_on;
        })) o.takes

    row-of : Is d.rows (λ (r : Row). r.x ≡ x) xid
    row-of = (near.row, near.there, near.xid_is, near.x_is)

    -- ---- it isn't made again

    module _ (ends : o.shelf.repeats ≡ ended xid old.shelf.repeats) where
      table : o.shelf.repeats ≡ fewer
      table = ends ∙ ended-is xid old.shelf.repeats

      own-ends : is op → IOwn m setup H V P Q is base Left laws d.rows later mid x op o.after o.next
      own-ends fits = by (law fits)
        where
          by : Took P Q Left later x op (d.budgets x o.number own-before.line op own-before.began fits).left call.purpose.sent (turn_at (taken_one old xid)) came old.shelf.repeats o.next o.after o.shelf.repeats
              → IOwn m setup H V P Q is base Left laws d.rows later mid x op o.after o.next
          by (again same left less l) =
              absurd (one-longer (ended xid old.shelf.repeats) _ (sym ends ∙ subst (λ (n : ℕ). o.shelf.repeats ≡ repeated n next old.shelf.repeats) sent-xid same))
          by (on same gain gains s) = record {
            had = (d.budgets x o.number own-before.line op own-before.began fits).left + gain;
            left = s.left;
            account = account-gain P Q base d.rows h rec x op xid came (d.budgets x o.number own-before.line op own-before.began fits).left gain named row-of gains
                (d.budgets x o.number own-before.line op own-before.began fits).account;
            keeps = s.keeps;
            less = s.less;
            asks = λ c same_call none p. s.asks c same_call p;
          }

      ends-owing : IOwing m setup H V P Q is base Left laws d.rows later mid at o.number x op o.after o.next
      ends-owing = record {
        there = at-set old.lanes at (record { number = o.number; state = Busy o.machine }) (record { number = o.number; state = Busy o.after }) o.there;
        lanes = one-each m setup H V P Q is base Left laws later mid ((lanes-stay later).sets (taken_one old xid) at o.number (Busy o.machine) (Busy o.after) o.shelf o.there lanes-later);
        runs = busy-lane;
        under = own-busy.under_way;
        apart = subst AreApart (sym table) fewer-apart.0;
        waits = subst (Each (IDue m setup H V P Q is base Left laws mid o.next)) (sym table)
            (each-map (IsWaiting (without xid old.calls.calls)) (IDue m setup H V P Q is base Left laws mid o.next) (λ n w. inl w) fewer fewer-waits);
        counted = λ y w same made z its u.
            subst (λ (rs : List Repeat). INear m setup H V P Q is base Left laws d.rows y z its made.asked (count y rs)) (sym table) (near-of y w same made z its u);
        lone = lone;
        sound = sound;
        mine = λ c same. joins-first m setup H V P Q is base Left laws d.rows later mid x op c sound (ap (count next) table ∙ free-count next fewer next-apart);
        own = own-ends;
        others = others;
        asked = (calls-laws.takes o.machine old.wsize call.purpose.sent (turn_at (taken_one old xid)) came old.shelf o.next o.after o.shelf (in_flight o.machine - 1) before o.takes).0;
        flight = some-in-flight m setup H V P Q is base Left laws (in_flight o.machine - 1) o.after o.next counts;
      }

    -- ---- it is made again

    module _ (busy : goes_again took.busy call.purpose.sent (turn_at (taken_one old xid)) old.shelf.repeats ≡ true) where
      one : Repeat
      one = record { xid = next; times = count xid old.shelf.repeats + 1 }

      same-send : (a b : Call) → Send a ≡ Send b → a ≡ b
      same-send a b e = cc

      again-is : o.shelf.repeats ≡ repeated xid next old.shelf.repeats
      again-is =
          took.later_is
          ∙ ap (λ (b : Bool). answered_table b call.purpose.sent.xid next old.shelf.repeats) busy
          ∙ ap (λ (n : ℕ). repeated n next old.shelf.repeats) sent-xid

      table-more : o.shelf.repeats ≡ fewer ++ record { xid = next; times = count xid old.shelf.repeats + 1 } ∷ []
      table-more =
          again-is
          ∙ ap (λ (rs : List Repeat). rs ++ record { xid = next; times = times_of xid old.shelf.repeats + 1 } ∷ []) (ended-is xid old.shelf.repeats)
          ∙ ap (λ (k : ℕ). fewer ++ record { xid = next; times = k + 1 } ∷ []) (times-is xid old.shelf.repeats)

      count-is : count next o.shelf.repeats ≡ count xid old.shelf.repeats + 1
      count-is = ap (count next) table-more ∙ pushed-count fewer (record { xid = next; times = count xid old.shelf.repeats + 1 }) next-apart

      few : count xid old.shelf.repeats + 1 ≤ 3
      few =
          let less = ltb-true (times_of call.purpose.sent.xid old.shelf.repeats) 3
          (few-times (took.busy && (turn_at (taken_one old xid)).room) (times_of call.purpose.sent.xid old.shelf.repeats) (length (ended call.purpose.sent.xid old.shelf.repeats)) busy) in
          let same : times_of call.purpose.sent.xid old.shelf.repeats ≡ count xid old.shelf.repeats = ap (λ (n : ℕ). times_of n old.shelf.repeats) sent-xid ∙ times-is xid old.shelf.repeats in
          omega (arith, less, same)

      joins-again : (c : Call) → o.next ≡ Send c → IJoining m setup H V P Q is base Left laws d.rows mid x op c (count next o.shelf.repeats)
      joins-again c same = record {
        root = near.row.root;
        joins = repeats near.row near.there refl (near.call_is ∙ sym (same-send c asked (sym same ∙ took.again busy))) near.x_is near.op_is
            (subst (λ (n : ℕ). Room d.rows (λ (r : Row). r.root ≡ near.row.root) 0 n) (sym count-is) near.room)
            (let size = count-is in let less = few in omega (arith, size, less));
        alone = λ y w r here r_is root_is.
            let was = still-waited y w.call w.waits in
            was.1 (d.lone y xid (record { call = w.call; waits = was.0 }) (record { call = call; waits = waits }) r near.row here near.there r_is near.xid_is root_is);
      }

      own-again : is op → IOwn m setup H V P Q is base Left laws d.rows later mid x op o.after o.next
      own-again fits = by (law fits)
        where
          by : Took P Q Left later x op (d.budgets x o.number own-before.line op own-before.began fits).left call.purpose.sent (turn_at (taken_one old xid)) came old.shelf.repeats o.next o.after o.shelf.repeats
              → IOwn m setup H V P Q is base Left laws d.rows later mid x op o.after o.next
          by (again same left less l) = record {
            had = (d.budgets x o.number own-before.line op own-before.began fits).left;
            left = left;
            account = account-grow P Q base d.rows h (Delivered rec) x op (d.budgets x o.number own-before.line op own-before.began fits).left (d.budgets x o.number own-before.line op own-before.began fits).account;
            keeps = subst (λ (n : Step). Going n (Left later x op o.after left)) (sym (took.again busy)) l;
            less = less;
            asks = λ c same_call none p. absurd (let size = count-is in omega (arith, size, none));
          }
          by (on same gain gains s) =
              absurd (one-longer (ended xid old.shelf.repeats) _ (sym (subst (λ (n : ℕ). o.shelf.repeats ≡ ended n old.shelf.repeats) sent-xid same) ∙ again-is))

      again-owing : IOwing m setup H V P Q is base Left laws d.rows later mid at o.number x op o.after o.next
      again-owing = record {
        there = at-set old.lanes at (record { number = o.number; state = Busy o.machine }) (record { number = o.number; state = Busy o.after }) o.there;
        lanes = one-each m setup H V P Q is base Left laws later mid ((lanes-stay later).sets (taken_one old xid) at o.number (Busy o.machine) (Busy o.after) o.shelf o.there lanes-later);
        runs = busy-lane;
        under = own-busy.under_way;
        apart = subst AreApart (sym table-more) (push-apart fewer (record { xid = next; times = count xid old.shelf.repeats + 1 }) fewer-apart.0 next-apart);
        waits = subst (Each (IDue m setup H V P Q is base Left laws mid o.next)) (sym table-more)
            (push-each (IDue m setup H V P Q is base Left laws mid o.next) fewer (record { xid = next; times = count xid old.shelf.repeats + 1 })
            (each-map (IsWaiting (without xid old.calls.calls)) (IDue m setup H V P Q is base Left laws mid o.next) (λ n w. inl w) fewer fewer-waits) (inr (refl, (asked, took.again busy))));
        counted = λ y w same made z its u.
            let low = early-old y w (still-waited y w same).0 in
            subst (λ (rs : List Repeat). INear m setup H V P Q is base Left laws d.rows y z its made.asked (count y rs)) (sym table-more)
            (subst (INear m setup H V P Q is base Left laws d.rows y z its made.asked)
            (sym (push-count y fewer (record { xid = next; times = count xid old.shelf.repeats + 1 }) (λ e. absurd (omega (arith, low, e))))) (near-of y w same made z its u));
        lone = lone;
        sound = sound;
        mine = joins-again;
        own = own-again;
        others = others;
        asked = (calls-laws.takes o.machine old.wsize call.purpose.sent (turn_at (taken_one old xid)) came old.shelf o.next o.after o.shelf (in_flight o.machine - 1) before o.takes).0;
        flight = some-in-flight m setup H V P Q is base Left laws (in_flight o.machine - 1) o.after o.next counts;
      }

    pub takes-book : IBook m setup H V P Q is base Left laws later new
    takes-book = by (goes_again took.busy call.purpose.sent (turn_at (taken_one old xid)) old.shelf.repeats) refl
      where
        lead : IOwing m setup H V P Q is base Left laws d.rows later mid at o.number x op o.after o.next → IBook m setup H V P Q is base Left laws later new
        lead owing = leads-book m setup H V P Q is base Left laws d.rows later mid mid-rows at o.number x op o.after new o.next owing o.leads

        by : (b : Bool) → goes_again took.busy call.purpose.sent (turn_at (taken_one old xid)) old.shelf.repeats ≡ b → IBook m setup H V P Q is base Left laws later new
        by true busy = lead (again-owing busy)
        by false calm = lead (ends-owing (
            took.later_is ∙ ap (λ (b : Bool). answered_table b call.purpose.sent.xid next old.shelf.repeats) calm ∙ ap (λ (n : ℕ). ended n old.shelf.repeats) sent-xid))
