-- The book is kept along a history.
use Rattle.core_counts.proofs.Prelude.{◌≡◌, ◌≢◌, ◌<◌, ◌≤◌, ◌⊎◌, inl, inr, ℕ, List, [], ◌∷◌, ◌++◌, length, Option, Some, None, option_map, slice_get, refl, sym, ap, subst, ◌∙◌, arith, append_assoc, Waiting, next_xid, waiting_at, waits_early, Answer, Entry, Began, Answered, Sent, Delivered, Call, Op, NoneBegan, At, IsBusy, HasXid, SpellsCallBy, UnderWay, At-grow, At-below, At-back, At-cases, Step, Send, Wait, Done, Repeat, Shelf, Mounted, Machine, machine_of, Lane, Purpose, Busy, Setup, IsIdle, with_state, Stirs, counted, StartsLane, AnswersAt, View, turn_at, in_flight, Counts, counts-calls, begins-unbegun, Known, purpose_at, Runs, LanesKnown, number_of, lanes-under-way, lanes-stay, lanes-begin, at-set, at-push, get-push, get-remove, skip, to-map, Rows, same-rows, silent-grow, under-back, SameCalls, calls-laws, count, IsWaiting, Each}
use Rattle.std.proofs.Common.{remove}
use Rattle.core_session.proofs.delays.Tables.{AreApart, IsFree, each-map, free-of, free-count}
use Rattle.core_facts.proofs.Counting.{none-idle}
use Rattle.core_session.proofs.delays.Rests.{starts-same, resumes-same}
use Rattle.core_session.proofs.room.Entered.{under-early}
use Rattle.core_counts.proofs.counts.engine.Laws.{SeenLaws}
use Rattle.core_counts.proofs.counts.engine.Ledger.{Row}
use Rattle.core_counts.proofs.counts.engine.Account.{first, account-grow, account-new}
use Rattle.core_counts.proofs.counts.engine.Book.{SentRow, root-below, budget-set}
use Rattle.core_counts.proofs.counts.engine.Steps.{BookAt, SoundAt, CountedAt, LoneAt, NearAt, BudgetAt, OwnAt, OwingAt, DueAt, JoiningAt, OneEach, leads-book}

pub not-empty : (a b : List ℕ) → Delivered a ≡ Sent b → ⊥
not-empty a b e = cc

not-sent-answer : (lane line : ℕ) (answer : Answer) (b : List ℕ) → Answered lane line answer ≡ Sent b → ⊥
not-sent-answer lane line answer b e = cc

module _ (m : Mounted) (setup : Setup) (H : List Entry) (V : View) (P : Call → Type 0) (Q : Call → ℕ → List ℕ → Type 0) (is : Op → Type 0) (base : Op → ℕ)
    (Left : List Entry → ℕ → Op → Machine → ℕ → Type 0) (laws : SeenLaws m setup H P Q is base Left) where
  abbrev pub IBook : List Entry → View → Type 0
  IBook = BookAt m setup H V P Q is base Left laws

  abbrev pub ISound : List Row → List Entry → ℕ → Type 0
  ISound = SoundAt m setup H V P Q is base Left laws

  abbrev pub ICounted : List Row → List Entry → List (ℕ × Waiting Purpose) → List Repeat → Type 0
  ICounted = CountedAt m setup H V P Q is base Left laws

  abbrev pub ILone : List Row → List (ℕ × Waiting Purpose) → Type 0
  ILone = LoneAt m setup H V P Q is base Left laws

  abbrev pub INear : List Row → ℕ → ℕ → Op → Call → ℕ → Type 0
  INear = NearAt m setup H V P Q is base Left laws

  abbrev pub IBudget : List Row → List Entry → List Lane → ℕ → Op → Type 0
  IBudget = BudgetAt m setup H V P Q is base Left laws

  abbrev pub IOwn : List Row → List Entry → View → ℕ → Op → Machine → Step → Type 0
  IOwn = OwnAt m setup H V P Q is base Left laws

  abbrev pub IOwing : List Row → List Entry → View → ℕ → ℕ → ℕ → Op → Machine → Step → Type 0
  IOwing = OwingAt m setup H V P Q is base Left laws

  abbrev pub IDue : View → Step → ℕ → Type 0
  IDue = DueAt m setup H V P Q is base Left laws

  abbrev pub IJoining : List Row → View → ℕ → Op → Call → ℕ → Type 0
  IJoining = JoiningAt m setup H V P Q is base Left laws

  abbrev pub ISentRow : List Row → List Entry → ℕ → ℕ → List ℕ → Type 0
  ISentRow = SentRow m setup H V P Q is base Left

  -- ---- one entry more

  none-later : (h : List Entry) (e : Entry) (i : ℕ) → i < length h → NoneBegan h i → NoneBegan (h ++ e ∷ []) i
  none-later h e i within none j lane line op at early = none j lane line op (At-back h (e ∷ []) j (Began lane line op) at (omega (arith, early, within))) early

  sent-row-later : (rows : List Row) (h : List Entry) (e : Entry) (i xid : ℕ) (bytes : List ℕ) → ISentRow rows h i xid bytes → ISentRow rows (h ++ e ∷ []) i xid bytes
  sent-row-later rows h e i xid bytes t = record {
    row = t.row;
    there = t.there;
    xid_is = t.xid_is;
    spells = t.spells;
    out = record {
      before = t.out.before;
      after = t.out.after ++ e ∷ [];
      is = ap (λ (k : List Entry). k ++ e ∷ []) t.out.is ∙ append_assoc t.out.before t.out.after (e ∷ []);
      there = t.out.there;
      old = t.out.old;
      reached = t.out.reached;
      found = t.out.found;
      xid = t.out.xid;
      waiting = t.out.waiting;
      waits = t.out.waits;
      bytes_is = t.out.bytes_is;
      at = t.out.at;
      machine = t.out.machine;
      busy = t.out.busy;
      x = t.out.x;
      op = t.out.op;
      under_way = t.out.under_way;
      some = t.out.some;
      low = t.out.low;
      high = t.out.high;
    };
    x_is = t.x_is;
    op_is = t.op_is;
    on = t.on;
    noted = t.noted;
  }

  -- with the records that were sent by then
  pub sound-with : (rows : List Row) (h : List Entry) (e : Entry) (next : ℕ) → ((bytes : List ℕ) → e ≡ Sent bytes → (xid : ℕ) → HasXid bytes xid → ISentRow rows (h ++ e ∷ []) (length h) xid bytes)
      → ISound rows h next → ISound rows (h ++ e ∷ []) next
  sound-with rows h e next sends s = record {
    below = s.below;
    rooted = s.rooted;
    few = s.few;
    began = λ r there. let k = s.began r there in (k.0, k.1, At-grow h (e ∷ []) r.x (Began k.0 k.1 r.op) k.2);
    one = s.one;
    sents = λ i xid bytes at named. by i xid bytes at named (At-cases h e i (Sent bytes) at);
  }
    where
      by : (i xid : ℕ) (bytes : List ℕ) → At (h ++ e ∷ []) i (Sent bytes) → HasXid bytes xid → At h i (Sent bytes) ⊎ ((i ≡ length h) × (e ≡ Sent bytes))
          → NoneBegan (h ++ e ∷ []) i ⊎ ISentRow rows (h ++ e ∷ []) i xid bytes
      by i xid bytes at named (inl there) = elim (s.sents i xid bytes there named) [
        | inl none ↦ inl (none-later h e i (At-below h i (Sent bytes) there) none)
        | inr t ↦ inr (sent-row-later rows h e i xid bytes t)
      ]
      by i xid bytes at named (inr now) = inr (subst (λ (n : ℕ). ISentRow rows (h ++ e ∷ []) n xid bytes) (sym now.0) (sends bytes now.1 xid named))

  pub counted-grows : (rows : List Row) (h : List Entry) (e : Entry) (calls : List (ℕ × Waiting Purpose)) (rs : List Repeat)
      → ((xid : ℕ) (w : Waiting Purpose) → waiting_at xid calls ≡ Some w → (line : ℕ) (op : Op) → e ≡ Began w.purpose.lane line op → ⊥) → ICounted rows h calls rs → ICounted rows (h ++ e ∷ []) calls rs
  counted-grows rows h e calls rs other c xid w at made x op u = c xid w at made x op (under-back h e w.purpose.lane x op (other xid w at) u)

  -- an operation that began before
  pub budget-grows : (rows : List Row) (h : List Entry) (e : Entry) (lanes later : List Lane) (x : ℕ) (op : Op) → x < length h
      → ((at number : ℕ) (machine : Machine) → slice_get later at ≡ Some (record { number = number; state = Busy machine }) → UnderWay h number x (length h) op
      → (k : ℕ) × (slice_get lanes k ≡ Some (record { number = number; state = Busy machine })))
      → IBudget rows h lanes x op → IBudget rows (h ++ e ∷ []) later x op
  budget-grows rows h e lanes later x op early place b = record {
    left = b.left;
    account = account-grow P Q base rows h e x op b.left b.account;
    keeps = λ at number machine there u.
        let was = under-early h e number x op early u in
        let k = place at number machine there was in
        laws.grows h e x op machine b.left (b.keeps k.0 number machine k.1 was);
  }

  pub began-back : (h : List Entry) (e : Entry) (x lane line : ℕ) (op : Op) → ((number other : ℕ) (its : Op) → e ≡ Began number other its → ⊥) → At (h ++ e ∷ []) x (Began lane line op) → At h x (Began lane line op)
  began-back h e x lane line op none at = by (At-cases h e x (Began lane line op) at)
    where
      by : At h x (Began lane line op) ⊎ ((x ≡ length h) × (e ≡ Began lane line op)) → At h x (Began lane line op)
      by (inl there) = there
      by (inr now) = absurd (none lane line op now.1)

  -- the same calls, but for how often they were sent
  same-counted : (rows : List Row) (h : List Entry) (old new : List (ℕ × Waiting Purpose)) (rs : List Repeat) → SameCalls old new → ICounted rows h old rs → ICounted rows h new rs
  same-counted rows h old new rs s c xid w at made x op u =
      let k = s.waited xid w at in
      c xid k.was k.waited (record {
        asked = made.asked;
        spells = subst (SpellsCallBy setup.cred xid made.asked) k.bytes made.spells;
        nfs = made.nfs;
        proc = ap (λ (p : Purpose). p.proc) (sym k.purpose) ∙ made.proc;
      }) x op (subst (λ (p : Purpose). UnderWay h p.lane x (length h) op) k.purpose u)

  same-waits : (old new : List (ℕ × Waiting Purpose)) → SameCalls old new → (xid : ℕ) → IsWaiting old xid → IsWaiting new xid
  same-waits old new s xid w = by (waiting_at xid new) refl
    where
      by : (o : Option (Waiting Purpose)) → waiting_at xid new ≡ o → IsWaiting new xid
      by (Some c) same = record { call = c; waits = same }
      by None same = absurd (
          let now : purpose_at xid new ≡ None = ap (option_map (λ (c : Waiting Purpose). c.purpose)) same in
          let was : purpose_at xid old ≡ Some w.call.purpose = ap (option_map (λ (c : Waiting Purpose). c.purpose)) w.waits in
          let no_way : None ≡ Some w.call.purpose = sym now ∙ s.purposes xid ∙ was in cc)

  waited : (old new : List (ℕ × Waiting Purpose)) → SameCalls old new → (xid : ℕ) → IsWaiting new xid → IsWaiting old xid
  waited old new s xid w = let k = s.waited xid w.call w.waits in record { call = k.was; waits = k.waited }

  -- lanes and shelf as they were
  pub same-book : (h : List Entry) (e : Entry) (old new : View) → ((lane line : ℕ) (op : Op) → e ≡ Began lane line op → ⊥) → new.lanes ≡ old.lanes → new.shelf ≡ old.shelf → next_xid new.calls ≡ next_xid old.calls → SameCalls old.calls.calls new.calls.calls
      → (b : IBook h old) → ((bytes : List ℕ) → e ≡ Sent bytes → (xid : ℕ) → HasXid bytes xid → ISentRow b.rows (h ++ e ∷ []) (length h) xid bytes) → IBook (h ++ e ∷ []) new
  same-book h e old new begins lanes shelf next calls b sends =
      let rs : new.shelf.repeats ≡ old.shelf.repeats = ap (λ (s : Shelf). s.repeats) shelf in
      record {
        rows = b.rows;
        apart = subst AreApart (sym rs) b.apart;
        waits = subst (Each (IsWaiting new.calls.calls)) (sym rs)
            (each-map (IsWaiting old.calls.calls) (IsWaiting new.calls.calls) (same-waits old.calls.calls new.calls.calls calls) old.shelf.repeats b.waits);
        counted = subst (ICounted b.rows (h ++ e ∷ []) new.calls.calls) (sym rs) (same-counted b.rows (h ++ e ∷ []) old.calls.calls new.calls.calls old.shelf.repeats calls
            (counted-grows b.rows h e old.calls.calls old.shelf.repeats (λ xid w there line o same. begins w.purpose.lane line o same) b.counted));
        lone = λ x y in_x in_y. b.lone x y (waited old.calls.calls new.calls.calls calls x in_x) (waited old.calls.calls new.calls.calls calls y in_y);
        sound = subst (ISound b.rows (h ++ e ∷ [])) (sym next) (sound-with b.rows h e (next_xid old.calls) sends b.sound);
        budgets = λ x lane line op at fits.
            let there = began-back h e x lane line op begins at in
            budget-grows b.rows h e old.lanes new.lanes x op (At-below h x (Began lane line op) there)
            (λ k number machine here u. (k, sym (ap (λ (ls : List Lane). slice_get ls k) lanes) ∙ here)) (b.budgets x lane line op there fits);
      }

  pub answers-book : (h : List Entry) (old new : View) (at lane line : ℕ) (answer : Answer) → AnswersAt old at lane (Some answer) new → IBook h old → IBook (h ++ Answered lane line answer ∷ []) new
  answers-book h old new at lane line answer a b = subst (IBook later) (sym a.is) (record {
    rows = b.rows;
    apart = b.apart;
    waits = b.waits;
    counted = counted-grows b.rows h (Answered lane line answer) old.calls.calls old.shelf.repeats (λ xid w there l o same. absurd (cc)) b.counted;
    lone = b.lone;
    sound = sound-with b.rows h (Answered lane line answer) (next_xid old.calls) (λ bytes same xid named. absurd (not-sent-answer lane line answer bytes same)) b.sound;
    budgets = λ x n l op began fits.
        let there = began-back h (Answered lane line answer) x n l op (λ number other its same. absurd (cc)) began in
        budget-grows b.rows h (Answered lane line answer) old.lanes (remove old.lanes at) x op (At-below h x (Began n l op) there)
        (λ k number machine here u. (skip at k, get-remove old.lanes at k (record { number = number; state = Busy machine }) here)) (b.budgets x n l op there fits);
  })
    where
      later : List Entry
      later = h ++ Answered lane line answer ∷ []

  -- ---- steps without a reply

  pub one-each : (h : List Entry) (v : View) → LanesKnown h v → OneEach m setup H V P Q is base Left laws v.lanes
  one-each h v k a b i j here there same = (lanes-under-way h v k).apart i j a b here there same

  pub some-in-flight : (others : ℕ) (machine : Machine) (next : Step) → Counts next others machine → (call : Call) → next ≡ Send call → 1 ≤ in_flight machine
  some-in-flight others machine (Send c) k call same = let one = k.0 in omega (arith, one)
  some-in-flight others machine Wait k call same = absurd (cc)
  some-in-flight others machine (Done answer) k call same = absurd (cc)

  -- a call that was never made joins as a first one
  pub joins-first : (rows : List Row) (h : List Entry) (v : View) (x : ℕ) (op : Op) (call : Call) → ISound rows h (next_xid v.calls) → count (next_xid v.calls) v.shelf.repeats ≡ 0
      → IJoining rows v x op call (count (next_xid v.calls) v.shelf.repeats)
  joins-first rows h v x op call s none = record {
    root = next_xid v.calls;
    joins = first refl none;
    alone = λ xid w r there r_is same. let low = root-below m setup H V P Q is base Left rows h (next_xid v.calls) s r there in absurd (omega (arith, low, same));
  }

  next-free : (rows : List Row) (h : List Entry) (v : View) → Rows setup h v → Each (IsWaiting v.calls.calls) v.shelf.repeats → IsFree (next_xid v.calls) v.shelf.repeats
  next-free rows h v r waits =
      free-of (IsWaiting v.calls.calls) (next_xid v.calls) v.shelf.repeats
      (λ w. let low = waits_early v.calls.cred v.calls.first_xid (next_xid v.calls) (next_xid v.calls) v.calls.calls w.call r.sound.calls.each w.waits in omega (arith, low)) waits

  pub stirs-book : (h : List Entry) (old new : View) (at : ℕ) → Known setup h old → Stirs old at new → IBook h old → IBook h new
  stirs-book h old new at known t b =
      leads-book m setup H V P Q is base Left laws b.rows h mid rows at t.number own.x own.op t.after new t.next (record {
        there = at-set old.lanes at (record { number = t.number; state = Busy t.machine }) (record { number = t.number; state = Busy t.after }) t.there;
        lanes = one-each h mid ((lanes-stay h).sets old at t.number (Busy t.machine) (Busy t.after) t.shelf t.there known.lanes);
        runs = busy_lane;
        under = own.under_way;
        apart = subst AreApart (sym table) b.apart;
        waits = subst (Each (IDue mid t.next)) (sym table) (each-map (IsWaiting old.calls.calls) (IDue mid t.next) (λ xid w. inl w) old.shelf.repeats b.waits);
        counted = subst (ICounted b.rows h old.calls.calls) (sym table) b.counted;
        lone = b.lone;
        sound = b.sound;
        mine = λ call same. joins-first b.rows h mid own.x own.op call b.sound none;
        own = mine;
        others = λ y lane line its began fits apart.
            budget-set m setup H V P Q is base Left b.rows h old.lanes at t.number t.machine own.x own.op t.there busy_lane own.under_way y its (Busy t.after) apart (b.budgets y lane line its began fits);
        asked = (calls-laws.resumes t.machine old.wsize (turn_at old) old.shelf t.next t.after t.shelf t.resumes).0;
        flight = some-in-flight (in_flight t.machine) t.after t.next
            (counts-calls.resume old.wsize t.machine (turn_at old) old.shelf t.next t.after t.shelf t.resumes (known.known.right at (record { number = t.number; state = Busy t.machine }) t.there));
      }) t.leads
    where
      mid : View
      mid = with_state old at t.number (Busy t.after) t.shelf

      rows : Rows setup h mid
      rows = same-rows setup h old mid refl known.rows

      own : IsBusy h t.number (length h)
      own = (lanes-under-way h old known.lanes).busy at (record { number = t.number; state = Busy t.machine }) t.there

      busy_lane : Runs h t.number
      busy_lane = known.lanes.busy at t.number (to-map number_of old.lanes at (record { number = t.number; state = Busy t.machine }) t.there)

      table : t.shelf.repeats ≡ old.shelf.repeats
      table = resumes-same t.machine old.wsize (turn_at old) old.shelf t.next t.after t.shelf t.resumes

      none : count (next_xid old.calls) t.shelf.repeats ≡ 0
      none = ap (count (next_xid old.calls)) table ∙ free-count (next_xid old.calls) old.shelf.repeats (next-free b.rows h old known.rows b.waits)

      mine : is own.op → IOwn b.rows h mid own.x own.op t.after t.next
      mine fits =
          let was = b.budgets own.x t.number own.under_way.line own.op own.under_way.began fits in
          let s = laws.resumes h own.x own.op t.machine old.wsize (turn_at old) old.shelf t.next t.after t.shelf was.left fits (was.keeps at t.number t.machine t.there own.under_way) t.resumes in
          record { had = was.left; left = s.left; account = was.account; keeps = s.keeps; less = s.less; asks = λ call same first_one p. s.asks call same p }

  pub starts-book : (h : List Entry) (old new : View) (lane line : ℕ) (op : Op) (now : ℕ) → Known setup h old → IsIdle lane old.lanes → StartsLane (counted old now) lane (machine_of m lane op) new
      → IBook h old → IBook (h ++ Began lane line op ∷ []) new
  starts-book h old new lane line op now known idle t b =
      leads-book m setup H V P Q is base Left laws b.rows later mid rows (length old.lanes) lane own.x own.op t.after new t.next (record {
        there = at-push old.lanes (record { number = lane; state = Busy t.after });
        lanes = one-each later mid lanes_known;
        runs = busy_lane;
        under = own.under_way;
        apart = subst AreApart (sym table) b.apart;
        waits = subst (Each (IDue mid t.next)) (sym table) (each-map (IsWaiting old.calls.calls) (IDue mid t.next) (λ xid w. inl w) old.shelf.repeats b.waits);
        counted = subst (ICounted b.rows later old.calls.calls) (sym table) (counted-grows b.rows h (Began lane line op) old.calls.calls old.shelf.repeats
            (λ xid w at l o same. none-idle old lane xid w idle.other known.known.counted at (same-lane lane line w.purpose.lane l op o same)) b.counted);
        lone = b.lone;
        sound = sound;
        mine = λ call same. joins-first b.rows later mid own.x own.op call sound none;
        own = mine;
        others = others;
        asked = calls-laws.starts (machine_of m lane op) old.wsize (turn_at (counted old now)) old.shelf t.next t.after t.shelf t.starts;
        flight = some-in-flight 0 t.after t.next (counts-calls.start old.wsize (machine_of m lane op) (turn_at (counted old now)) old.shelf t.next t.after t.shelf t.starts (begins-unbegun m lane op));
      }) t.leads
    where
      same-lane : (a b c e : ℕ) (o p : Op) → Began a b o ≡ Began c e p → c ≡ a
      same-lane a b c e o p same = cc

      began-op : (a b c e : ℕ) (o p : Op) → Began a b o ≡ Began c e p → o ≡ p
      began-op a b c e o p same = cc

      not-sent-began : (bytes : List ℕ) → Began lane line op ≡ Sent bytes → ⊥
      not-sent-began bytes same = cc

      later : List Entry
      later = h ++ Began lane line op ∷ []

      mid : View
      mid = record (counted old now) { lanes = old.lanes ++ record { number = lane; state = Busy t.after } ∷ []; shelf = t.shelf }

      rows : Rows setup later mid
      rows = same-rows setup later old mid refl (silent-grow setup h (Began lane line op) old (record { sent = λ bytes same. absurd (cc); came = λ bytes same. absurd (cc) }) known.rows)

      lanes_known : LanesKnown later mid
      lanes_known = lanes-begin h old lane line op known.lanes idle.other (Busy t.after)

      own : IsBusy later lane (length later)
      own = (lanes-under-way later mid lanes_known).busy (length old.lanes) (record { number = lane; state = Busy t.after }) (at-push old.lanes (record { number = lane; state = Busy t.after }))

      busy_lane : Runs later lane
      busy_lane = lanes_known.busy (length old.lanes) lane
          (to-map number_of (old.lanes ++ record { number = lane; state = Busy t.after } ∷ []) (length old.lanes) (record { number = lane; state = Busy t.after })
          (at-push old.lanes (record { number = lane; state = Busy t.after })))

      table : t.shelf.repeats ≡ old.shelf.repeats
      table = starts-same (machine_of m lane op) old.wsize (turn_at (counted old now)) old.shelf t.next t.after t.shelf t.starts

      sound : ISound b.rows later (next_xid old.calls)
      sound = sound-with b.rows h (Began lane line op) (next_xid old.calls) (λ bytes same xid named. absurd (not-sent-began bytes same)) b.sound

      none : count (next_xid old.calls) t.shelf.repeats ≡ 0
      none = ap (count (next_xid old.calls)) table ∙ free-count (next_xid old.calls) old.shelf.repeats (next-free b.rows h old known.rows b.waits)

      -- no operation of the lane was under way
      idle-before : (x : ℕ) (its : Op) → UnderWay h lane x (length h) its → ⊥
      idle-before x its u = (lanes-under-way h old known.lanes).idle lane idle.other (record { x = x; op = its; under_way = u })

      -- the operation that is under way is the one that begins
      own-is : (own.x ≡ length h) × (op ≡ own.op)
      own-is = by (At-cases h (Began lane line op) own.x (Began lane own.under_way.line own.op) own.under_way.began)
        where
          by : At h own.x (Began lane own.under_way.line own.op) ⊎ ((own.x ≡ length h) × (Began lane line op ≡ Began lane own.under_way.line own.op)) → (own.x ≡ length h) × (op ≡ own.op)
          by (inl there) = absurd (idle-before own.x own.op (under-early h (Began lane line op) lane own.x own.op (At-below h own.x (Began lane own.under_way.line own.op) there) own.under_way))
          by (inr new_one) = (new_one.0, began-op lane line lane own.under_way.line op own.op new_one.1)

      mine : is own.op → IOwn b.rows later mid own.x own.op t.after t.next
      mine fits =
          subst (λ (n : ℕ). IOwn b.rows later mid n own.op t.after t.next) (sym own-is.0) (subst (λ (o : Op). IOwn b.rows later mid (length h) o t.after t.next) own-is.1
          (let s = laws.starts h lane line op old.wsize (turn_at (counted old now)) old.shelf t.next t.after t.shelf (subst is (sym own-is.1) fits) t.starts in record {
            had = base op;
            left = s.left;
            account = account-new P Q base b.rows later (length h) op
                (λ r there same. let k = b.sound.began r there in let low = At-below h r.x (Began k.0 k.1 r.op) k.2 in absurd (omega (arith, low, same)));
            keeps = s.keeps;
            less = s.less;
            asks = λ call same first_one p. s.asks call same p;
          }))

      others : (y number its_line : ℕ) (its : Op) → At later y (Began number its_line its) → is its → y ≢ own.x → IBudget b.rows later mid.lanes y its
      others y number its_line its began fits apart = by (At-cases h (Began lane line op) y (Began number its_line its) began)
        where
          place : (k n : ℕ) (machine : Machine) → slice_get (old.lanes ++ record { number = lane; state = Busy t.after } ∷ []) k ≡ Some (record { number = n; state = Busy machine })
              → UnderWay h n y (length h) its → (j : ℕ) × (slice_get old.lanes j ≡ Some (record { number = n; state = Busy machine }))
          place k n machine here u = elim (get-push old.lanes (record { number = lane; state = Busy t.after }) k (record { number = n; state = Busy machine }) here) [
            | inl there ↦ (k, there)
            | inr new_one ↦ absurd (idle-before y its (subst (λ (j : ℕ). UnderWay h j y (length h) its) (ap (λ (l : Lane). l.number) new_one.1) u))
          ]

          by : At h y (Began number its_line its) ⊎ ((y ≡ length h) × (Began lane line op ≡ Began number its_line its)) → IBudget b.rows later mid.lanes y its
          by (inl there) =
              budget-grows b.rows h (Began lane line op) old.lanes mid.lanes y its (At-below h y (Began number its_line its) there) place (b.budgets y number its_line its there fits)
          by (inr new_one) = absurd (apart (new_one.0 ∙ sym own-is.0))
