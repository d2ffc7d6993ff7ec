-- An operation hears of its call: what the session may still make of the COMMITs of the file after it. A COMMIT that was put off is made again of what was held for it.
use Rattle.core_counts.proofs.Prelude.{◌≡◌, ◌≢◌, ◌<◌, ◌≤◌, ◌+◌, ◌-◌, ◌&&◌, ℕ, nat_eq, Bool, true, false, List, [], ◌∷◌, ◌++◌, length, Option, Some, None, option_map, position, Result, refl, sym, ap, subst, ◌∙◌, arith, eqb-true, eqb-false, ltb-true, xid_at, Waiting, next_xid, waiting_at, without, waits_early, others_taken, gone, Fault, Entry, Sent, Delivered, Call, Reply, Op, IsCommitOf, IsBusy, UnderWay, Terms, length_last, said_of, Says, Send, Repeat, goes_again, ended, Mounted, machine_of, Purpose, Busy, Setup, is_busy, numbers_of, with_state, TakesAt, View, turn_at, in_flight, Counts, KnowsRoot, HearsRecord, Reaches, GoesWith, counts-calls, begins-unbegun, taken_one, says-of, Known, Runs, LanesKnown, number_of, lanes-under-way, quiet-facts, at-position, at-set, to-map, LaneLive, keeps-placed, Rows, same-rows, rows-grow, taken-quiet, not-sent, taken-rows, reached-good, steps-stay, NoCall, NoShelf, NoStory, no-laws, one-call, machine-fits, nfs-of, Asks, AreAsked, Calls, calls-laws, count, ended-is, IsWaiting, Calm, took-any, keeps-wholly, job_save, story-turns, take-kind, bases, Turns}
use Rattle.core_facts.proofs.Tales.{IsExpected}
use Rattle.core_answers.proofs.writes.AllFits.{all-takes}
use Rattle.core_session.proofs.delays.Delays.{Off, off-own, off-given, off-evident, Delayed, reached-delayed}
use Rattle.core_session.proofs.syncs.Seen.{Sees, sees}
use Rattle.core_session.proofs.syncs.Turning.{turns-take, under-was}
use Rattle.client_shelf.specs.Repeats.{times_of, answered as answered_table}
use Rattle.core_answers.proofs.answers.PieceSteps.{IsPiece}
use Rattle.core_answers.proofs.answers.Writing.{written-reached}
use Rattle.core_session.proofs.delays.Tables.{left as left_of, times-is, IsFree, free-of, left-free, pushed-count}
use Rattle.core_session.proofs.delays.Took.{Took as TookTable}
use Rattle.core_counts.proofs.counts.commits.Counted.{test, test-sound, test-complete}
use Rattle.core_counts.proofs.counts.engine.Steps.{few-times}
use Rattle.core_counts.proofs.counts.rooms.Base.{Base, Told, Stepped, takes-stepped}
use Rattle.core_counts.proofs.counts.rooms.Calls.{Waiting_, pots, Counts_, fresh, other, again_, table-other}
use Rattle.core_counts.proofs.counts.rooms.Clears.{clears, some-wait}
use Rattle.core_counts.proofs.counts.rooms.Leads.{lead}
use Rattle.core_counts.proofs.counts.rooms.Numbers.{In, pot, pot_if, sum-less, sum-drop, many-more}
use Rattle.core_counts.proofs.counts.rooms.Posts.{Post, KindOf, ends-all, takes-post}
use Rattle.core_counts.proofs.counts.rooms.Purses.{Purse}
use Rattle.core_counts.proofs.counts.rooms.Quiets.{sents-on}
use Rattle.core_counts.proofs.counts.rooms.Roles.{AllEnds}
use Rattle.core_counts.proofs.counts.rooms.Steps.{has-some, some-stays, some-in-flight}
use Rattle.core_counts.proofs.counts.rooms.Writes.{NotAgain}

same-send : (a b : Call) → Send a ≡ Send b → a ≡ b
same-send a b e = cc

not-sent-here : (rec bytes : List ℕ) → Delivered rec ≡ Sent bytes → ⊥
not-sent-here rec bytes e = cc

module _ (mt : Mounted) (terms : Terms) (setup : Setup) (H : List Entry) (V : View) (g : GoesWith mt terms setup H V) (roots : KnowsRoot terms.origin H mt.root) (asked_ : AreAsked H) (f : List ℕ)
    (h rest : List Entry) (rec : List ℕ) (is : h ++ Delivered rec ∷ rest ≡ H) (old new : View) (xid : ℕ) (call : Waiting Purpose) (at : ℕ) (reaches : Reaches (machine_of mt) setup h old) (found : old.lost ≡ false)
    (known : Known setup h old) (fin : View) (hears : HearsRecord old rec fin) (named : xid_at rec ≡ Some xid) (waits : waiting_at xid old.calls.calls ≡ Some call)
    (there : position (is_busy call.purpose.lane) old.lanes ≡ Some at) (o : TakesAt (taken_one old xid) at call.purpose.sent (said_of call.purpose.proc rec) new)
    (b : Base mt terms setup H V g roots asked_ f h old) (p : Purse terms H f h old) where
  abbrev later : List Entry
  later = h ++ Delivered rec ∷ []

  abbrev came : Result Reply Fault
  came = said_of call.purpose.proc rec

  lane-is : o.number ≡ call.purpose.lane
  lane-is = eqb-true o.number call.purpose.lane (at-position (is_busy call.purpose.lane) old.lanes at (record { number = o.number; state = Busy o.machine }) there o.there)

  expected : IsExpected (machine_of mt) (begins-unbegun mt) setup Calls calls-laws NoCall NoShelf NoStory (no-laws (machine_of mt) setup Calls) h o.number xid call o.machine
  expected = ((reached-good (machine_of mt) (begins-unbegun mt) setup Calls calls-laws NoCall NoShelf NoStory (no-laws (machine_of mt) setup Calls) h old reaches).each at
      (record { number = o.number; state = Busy o.machine }) o.there).0 xid call waits (sym lane-is)

  abbrev asked : Call
  asked = expected.made.asked

  said : Says xid asked rec came
  said = says-of old rec hears.result fin xid call hears.hears named waits xid named asked (record { nfs = expected.made.nfs; is = sym expected.made.proc })

  sent-xid : call.purpose.sent.xid ≡ xid
  sent-xid = (written-reached mt setup h old reaches found).flown.sents xid call.purpose (ap (option_map (λ (c : Waiting Purpose). c.purpose)) waits)

  piece : IsPiece call.purpose.sent.xid asked old.shelf.back
  piece =
      let s = (written-reached mt setup h old reaches found).all xid call waits in
      let same : asked ≡ s.call = one-call xid xid asked s.call call.bytes (nfs-of asked expected.made.nfs) expected.made.spells.spells s.spells.spells in
      subst (λ (n : ℕ). IsPiece n asked old.shelf.back) (sym sent-xid) (subst (λ (c : Call). IsPiece xid c old.shelf.back) (sym same) s.piece)

  some : 1 ≤ in_flight o.machine
  some = some-wait mt setup h old known b.wholly rec xid call at reaches found waits there new o

  before : in_flight o.machine ≡ (in_flight o.machine - 1) + 1
  before = let low = some in omega (arith, low)

  took : TookTable (Off xid asked rec) call.purpose.sent (turn_at (taken_one old xid)) old.shelf.repeats o.shelf.repeats (o.next ≡ Send asked) (Calm (λ (fault : Fault). Unit {0}) (record { memory = tt }) came o.next o.machine)
  took = took-any (Off xid asked rec) (off-own xid asked rec) call.purpose.sent (turn_at (taken_one old xid)) came asked (off-evident xid asked rec came said) (λ (fault : Fault). Unit {0})
      (record { memory = tt }) (λ fault same. tt) o.machine old.wsize old.shelf o.next o.after o.shelf some expected.expects.0 expected.expects.1 (λ reply same. piece)
      (machine-fits (Off xid asked rec) (off-own xid asked rec) xid rec asked came (off-given xid asked rec came said) call.purpose.sent old.shelf.back (λ reply same. piece) o.machine expected.expects.0
      expected.expects.1 (λ opens same. absurd (cc)) (λ lists same. absurd (cc))) o.takes

  -- ---- the operation

  run : IsBusy h o.number (length h)
  run = (lanes-under-way h old known.lanes).busy at (record { number = o.number; state = Busy o.machine }) o.there

  lanes-later : LanesKnown later (taken_one old xid)
  lanes-later = quiet-facts h (Delivered rec) (numbers_of old.lanes) (λ number. refl) known.lanes

  runs : Runs later o.number
  runs = lanes-later.busy at o.number (to-map number_of old.lanes at (record { number = o.number; state = Busy o.machine }) o.there)

  later-busy : IsBusy later o.number (length later)
  later-busy = (lanes-under-way later (taken_one old xid) lanes-later).busy at (record { number = o.number; state = Busy o.machine }) o.there

  abbrev x : ℕ
  x = later-busy.x

  abbrev op : Op
  op = later-busy.op

  own-before : UnderWay h o.number x (length h) op
  own-before = under-was h (Delivered rec) o.number x op (λ l q e. absurd (cc e)) later-busy.under_way

  live : LaneLive o.number o.machine
  live = b.placed.live at (record { number = o.number; state = Busy o.machine }) o.there

  stepped : Stepped mt terms setup H V g roots asked_ f later old new at o.number x op
  stepped = takes-stepped mt terms setup H V g roots asked_ f h rest rec is old new xid call at reaches found known fin hears named waits there o b x op own-before

  turns : Turns f h later old new at o.number x op stepped.state
  turns = turns-take f setup h old new at o.number o.machine stepped.state known o.there stepped.but rec x op later-busy.under_way

  abbrev mid : View
  mid = with_state (taken_one old xid) at o.number (Busy o.after) o.shelf

  rows : Rows setup later mid
  rows = same-rows setup later (taken_one old xid) mid refl (rows-grow setup h (Delivered rec) (taken_one old xid) (taken-quiet setup h old rec xid known.rows named) (not-sent rec) (taken-rows setup h old xid known.rows))

  asks : Asks o.next o.after
  asks = all-takes old.wsize (turn_at (taken_one old xid)) call.purpose.sent came o.machine old.shelf o.next o.after o.shelf (in_flight o.machine - 1) before o.takes

  kind : KindOf f p.stable x mt o.number op o.machine
  kind = (b.story at o.number o.machine x op o.there own-before).0

  kind-after : KindOf f p.stable x mt o.number op o.after
  kind-after = take-kind old.wsize (turn_at (taken_one old xid)) call.purpose.sent came o.machine old.shelf o.next o.after o.shelf o.takes ∙ kind

  see : Sees f old.lanes at o.number (job_save o.machine) old.shelf.seq old.shelf.back old.shelf.order
  see = sees f old.lanes at o.number o.machine old.shelf.seq old.shelf.back old.shelf.order (lanes-under-way h old known.lanes).apart o.there b.owned

  ends : AllEnds f old.wsize call.purpose.sent (turn_at (taken_one old xid)) came old.shelf o.machine
  ends = ends-all f old.wsize call.purpose.sent (turn_at (taken_one old xid)) came old.shelf o.machine
      (λ s saved here. clears mt setup h old known b.wholly rec xid call at reaches found waits there new o f (bases f old.lanes) see.owner old.shelf.seq old.shelf.order b.wsize b.common_ s saved here
      (see.saves_ s saved))

  post : Post f p.stable x (NotAgain f call.purpose.sent old.shelf.repeats) op (p.q o.number) old.shelf o.shelf o.next o.after
  post = takes-post f p.stable x mt o.number op o.machine kind old.wsize call.purpose.sent (turn_at (taken_one old xid)) came old.shelf o.next o.after o.shelf (p.q o.number) some ends
      (p.story at o.number o.machine x op o.there own-before) asks o.takes

  -- ---- the calls

  abbrev next : ℕ
  next = next_xid old.calls

  early-old : (y : ℕ) (w : Waiting Purpose) → waiting_at y old.calls.calls ≡ Some w → y < next
  early-old y w same = waits_early old.calls.cred old.calls.first_xid (next_xid old.calls) y old.calls.calls w known.rows.sound.calls.each same

  gone-it : waiting_at xid (without xid old.calls.calls) ≡ None
  gone-it = gone old.calls.cred old.calls.first_xid (next_xid old.calls) xid old.calls.calls known.rows.sound.calls.each

  still-waited : (y : ℕ) (w : Waiting Purpose) → waiting_at y (without xid old.calls.calls) ≡ Some w → (waiting_at y old.calls.calls ≡ Some w) × (y ≢ xid)
  still-waited y w same = by (nat_eq y xid) refl
    where
      by : (c : Bool) → nat_eq y xid ≡ c → (waiting_at y old.calls.calls ≡ Some w) × (y ≢ xid)
      by false e = (sym (others_taken y xid old.calls.calls e) ∙ same, eqb-false y xid e)
      by true e = absurd (
          let here : waiting_at xid (without xid old.calls.calls) ≡ Some w = ap (λ (n : ℕ). waiting_at n (without xid old.calls.calls)) (sym (eqb-true y xid e)) ∙ same in
          let no_way : None ≡ Some w = sym gone-it ∙ here in cc)

  waiting : Waiting_ f p.made mid
  waiting = record {
    first = p.waiting.first;
    some = p.waiting.some;
    below = p.waiting.below;
    waits = λ y w same such. p.waiting.waits y w (still-waited y w same).0 such;
  }

  abbrev again_now : Bool
  again_now = goes_again took.busy call.purpose.sent (turn_at (taken_one old xid)) old.shelf.repeats

  -- the table, by whether the call is made again
  table : (c : Bool) → again_now ≡ c → o.shelf.repeats ≡ answered_table c xid next old.shelf.repeats
  table c same = took.later_is ∙ ap (λ (d : Bool). answered_table d call.purpose.sent.xid next old.shelf.repeats) same ∙ ap (λ (n : ℕ). answered_table c n next old.shelf.repeats) sent-xid

  pot-less : (c : Bool) → again_now ≡ c → (y : ℕ) → In y p.made → pot (without xid old.calls.calls) o.shelf.repeats y ≤ pot old.calls.calls old.shelf.repeats y
  pot-less c same y in_ = by (nat_eq y xid) refl
    where
      by : (d : Bool) → nat_eq y xid ≡ d → pot (without xid old.calls.calls) o.shelf.repeats y ≤ pot old.calls.calls old.shelf.repeats y
      by true d =
          let none : pot (without xid old.calls.calls) o.shelf.repeats y ≡ 0 =
          ap (λ (n : ℕ). pot_if (waiting_at n (without xid old.calls.calls)) (count y o.shelf.repeats)) (eqb-true y xid d) ∙ ap (λ (w : Option (Waiting Purpose)). pot_if w (count y o.shelf.repeats)) gone-it in
          omega (arith, none)
      by false d =
          let low = p.waiting.below y in_ in
          let as_was : pot (without xid old.calls.calls) o.shelf.repeats y ≡ pot_if (waiting_at y old.calls.calls) (count y o.shelf.repeats) =
          ap (λ (w : Option (Waiting Purpose)). pot_if w (count y o.shelf.repeats)) (others_taken y xid old.calls.calls d) in
          let its : pot_if (waiting_at y old.calls.calls) (count y o.shelf.repeats) ≡ pot old.calls.calls old.shelf.repeats y =
          ap (pot_if (waiting_at y old.calls.calls)) (table-other c xid next y old.shelf.repeats o.shelf.repeats (table c same) (eqb-false y xid d) (λ e. omega (arith, low, e))) in
          omega (arith, as_was, its)

  pots-less : (c : Bool) → again_now ≡ c → pots f mid p.made ≤ pots f old p.made
  pots-less c same = sum-less (pot old.calls.calls old.shelf.repeats) (pot (without xid old.calls.calls) o.shelf.repeats) p.made (pot-less c same)

  -- ---- it is made again

  delayed : Delayed mt setup h old
  delayed = reached-delayed mt setup h old reaches found

  next-apart : IsFree next (left_of xid old.shelf.repeats)
  next-apart = left-free next xid old.shelf.repeats (free-of (IsWaiting old.calls.calls) next old.shelf.repeats (λ w. let low = early-old next w.call w.waits in omega (arith, low)) delayed.waits)

  count-is : again_now ≡ true → count next o.shelf.repeats ≡ count xid old.shelf.repeats + 1
  count-is busy =
      ap (count next)
      (table true busy ∙ ap (λ (rs : List Repeat). rs ++ record { xid = next; times = times_of xid old.shelf.repeats + 1 } ∷ []) (ended-is xid old.shelf.repeats)
      ∙ ap (λ (k : ℕ). left_of xid old.shelf.repeats ++ record { xid = next; times = k + 1 } ∷ []) (times-is xid old.shelf.repeats))
      ∙ pushed-count (left_of xid old.shelf.repeats) (record { xid = next; times = count xid old.shelf.repeats + 1 }) next-apart

  few : again_now ≡ true → count xid old.shelf.repeats + 1 ≤ 3
  few busy =
      let less = ltb-true (times_of call.purpose.sent.xid old.shelf.repeats) 3
      (few-times (took.busy && (turn_at (taken_one old xid)).room) (times_of call.purpose.sent.xid old.shelf.repeats) (length (ended call.purpose.sent.xid old.shelf.repeats)) busy) in
      let same : times_of call.purpose.sent.xid old.shelf.repeats ≡ count xid old.shelf.repeats = ap (λ (n : ℕ). times_of n old.shelf.repeats) sent-xid ∙ times-is xid old.shelf.repeats in
      omega (arith, less, same)

  counts : Counts o.next (in_flight o.machine - 1) o.after
  counts = counts-calls.take old.wsize o.machine call.purpose.sent (turn_at (taken_one old xid)) came old.shelf o.next o.after o.shelf (in_flight o.machine - 1) o.takes
      (known.known.right at (record { number = o.number; state = Busy o.machine }) o.there) before

  abbrev Counted_ : Type 0
  Counted_ = Counts_ f p.made (pots f old p.made) mid o.next (NotAgain f call.purpose.sent old.shelf.repeats o.shelf.repeats)

  again-commit : again_now ≡ true → IsCommitOf f asked → Counted_
  again-commit busy commits = again_ (3 - count xid old.shelf.repeats) (let more = count-is busy in let low = few busy in omega (arith, more, low))
      (sum-drop (pot old.calls.calls old.shelf.repeats) (pot (without xid old.calls.calls) o.shelf.repeats) p.made xid (3 - count xid old.shelf.repeats) (pot-less true busy)
      (p.waiting.waits xid call waits (record { xid = xid; call = asked; spells = expected.made.spells.spells; is = commits }))
      (let none : pot (without xid old.calls.calls) o.shelf.repeats xid ≡ 0 = ap (λ (w : Option (Waiting Purpose)). pot_if w (count xid o.shelf.repeats)) gone-it in
      let was : pot old.calls.calls old.shelf.repeats xid ≡ 3 - count xid old.shelf.repeats = ap (λ (w : Option (Waiting Purpose)). pot_if w (count xid old.shelf.repeats)) waits in
      omega (arith, none, was)))

  again-other : again_now ≡ true → (IsCommitOf f asked → ⊥) → Counted_
  again-other busy none = other (λ c sends commit. none (subst (IsCommitOf f) (same-send c asked (sym sends ∙ took.again busy)) commit)) (pots-less true busy)

  counted : (c : Bool) → again_now ≡ c → Counted_
  counted false calm = fresh (table false calm ∙ ap (λ (n : ℕ). ended n old.shelf.repeats) (sym sent-xid)) (pots-less false calm)
  counted true busy = by (test f asked) refl
    where
      by : (d : Bool) → test f asked ≡ d → Counted_
      by true d = again-commit busy (test-sound f asked d)
      by false d = again-other busy (λ commit. let no_way : false ≡ true = sym d ∙ test-complete f asked commit in cc)

  pub takes-base : Base mt terms setup H V g roots asked_ f later new
  takes-base = record {
    wholly = (keeps-wholly mt setup).takes h old new rec xid call at reaches found known waits there o b.wholly;
    placed = (keeps-placed mt setup).takes h old new rec xid call at known waits there o b.placed;
    wsize = steps-stay has-some some-stays (taken_one old xid) new at o.number o.machine o.after o.shelf o.next o.there o.leads b.wsize;
    common_ = stepped.common_;
    owned = stepped.owned;
    story = story-turns f h later old new at o.number x op stepped.state turns runs (Told mt terms setup H V g roots asked_ f) (Told mt terms setup H V g roots asked_ f)
        (λ machine same. stepped.told_ machine same) (λ n z machine q off u k. k) b.story;
  }

  pub takes-purse : Purse terms H f later new
  takes-purse =
      lead mt terms setup H V g roots asked_ f h later old new at o.number x op stepped turns runs live.least live.most p (p.q o.number) 0 (many-more h (Delivered rec)) (omega arith)
      (let long = length_last h (Delivered rec) in omega (arith, long)) later-busy.under_way.before (pots f old p.made) (omega arith)
      (λ all more. sents-on terms H f h (Delivered rec) old p all more (λ bytes same y has such. absurd (not-sent-here rec bytes same))) mid rows waiting o.after
      (at-set old.lanes at (record { number = o.number; state = Busy o.machine }) (record { number = o.number; state = Busy o.after }) o.there) kind-after
      (NotAgain f call.purpose.sent old.shelf.repeats) o.next o.leads post (counted again_now refl)
      (calls-laws.takes o.machine old.wsize call.purpose.sent (turn_at (taken_one old xid)) came old.shelf o.next o.after o.shelf (in_flight o.machine - 1) before o.takes).0 asks
      (some-in-flight (in_flight o.machine - 1) o.after o.next counts)
