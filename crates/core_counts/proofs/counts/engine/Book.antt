-- Along a history each call that is made has its row, and each operation makes no more first calls that are counted than its account has room for.
use Rattle.core_counts.proofs.Prelude.{◌≡◌, ◌≢◌, ◌<◌, ◌≤◌, ◌+◌, ◌⊎◌, inl, inr, ℕ, List, [], ◌∷◌, ◌++◌, length, Bool, true, false, nat_eq, Option, Some, slice_get, slice_set, refl, sym, ap, subst, ◌∙◌, arith, eqb-true, eqb-false, Waiting, next_xid, made_call, waiting_at, waits_early, at_made, others_made, Entry, Began, Sent, Call, Op, NoneBegan, At, HasXid, SpellsCall, proc_of, UnderWay, At-one, Step, Send, Repeat, Mounted, Machine, machine_of, Lane, Purpose, State, Busy, Setup, record_of, Makes, View, turn_at, in_flight, IsMade, begins-unbegun, Runs, Rows, made-known, made-asked, AskedOf, Going, set-other, at-set, one-call, nfs-of, Outgoing, Calls, count, IsWaiting, Each}
use Rattle.core_facts.proofs.Stories.{some-call}
use Rattle.core_session.proofs.delays.Tables.{AreApart, each-map}
use Rattle.core_session.proofs.calls.TableHeld.{AllNoted}
use Rattle.core_session.proofs.room.Onward.{Onward}
use Rattle.core_session.proofs.syncs.Fate.{one-under}
use Rattle.core_counts.proofs.counts.engine.Ledger.{Row, In, Room, HasRoot, room-push, room-other, room-wide}
use Rattle.core_counts.proofs.counts.engine.Account.{root-more, room-empty, room-up, Joins, first, repeats, Account, account-push, account-other}

same-busy : (a b : Machine) → Busy a ≡ Busy b → a ≡ b
same-busy a b e = cc

same-lane : (a b : Lane) → Some a ≡ Some b → a ≡ b
same-lane a b e = cc

same-machine : (a b : ℕ) (c d : Machine) → ◌≡◌ {A = Option Lane} (Some (record { number = a; state = Busy c })) (Some (record { number = b; state = Busy d })) → c ≡ d
same-machine a b c d e = same-busy c d (ap (λ (l : Lane). l.state) (same-lane _ _ e))

module _ (m : Mounted) (setup : Setup) (H : List Entry) (V : View) (P : Call → Type 0) (Q : Call → ℕ → List ℕ → Type 0) (is : Op → Type 0) (base : Op → ℕ)
    (Left : List Entry → ℕ → Op → Machine → ℕ → Type 0) where
  -- ---- what is kept

  -- the row of a call that waits; k times it was made before
  pub record Near (rows : List Row) (xid x : ℕ) (op : Op) (call : Call) (k : ℕ) : Type 0 where
    pub row : Row
    pub there : In row rows
    pub xid_is : row.xid ≡ xid
    pub call_is : row.call ≡ call
    pub x_is : row.x ≡ x
    pub op_is : row.op ≡ op
    pub room : Room rows (λ (r : Row). r.root ≡ row.root) 0 (k + 1)
    pub times : k ≤ 3

  abbrev pub Counted : List Row → List Entry → List (ℕ × Waiting Purpose) → List Repeat → Type 0
  Counted rows h calls rs = (xid : ℕ) (w : Waiting Purpose) → waiting_at xid calls ≡ Some w → (made : IsMade setup.cred xid w) → (x : ℕ) (op : Op) → UnderWay h w.purpose.lane x (length h) op
      → Near rows xid x op made.asked (count xid rs)

  -- the row of a record that was sent, and the view before it
  pub record SentRow (rows : List Row) (h : List Entry) (i xid : ℕ) (bytes : List ℕ) : Type 0 where
    pub row : Row
    pub there : In row rows
    pub xid_is : row.xid ≡ xid
    pub spells : SpellsCall xid row.call bytes
    pub out : Outgoing (machine_of m) (begins-unbegun m) setup h i bytes
    pub x_is : row.x ≡ out.x
    pub op_is : row.op ≡ out.op
    pub on : Onward (machine_of m) setup out.before out.old H V
    pub noted : AllNoted out.old

  pub record Sound (rows : List Row) (h : List Entry) (next : ℕ) : Type 0 where
    pub below : (r : Row) → In r rows → r.xid < next
    pub rooted : (r : Row) → In r rows → HasRoot rows r
    pub few : (root : ℕ) → Room rows (λ (r : Row). r.root ≡ root) 0 4
    pub began : (r : Row) → In r rows → (lane : ℕ) × (line : ℕ) × At h r.x (Began lane line r.op)
    pub one : (r q : Row) → In r rows → In q rows → r.xid ≡ q.xid → r ≡ q
    pub sents : (i xid : ℕ) (bytes : List ℕ) → At h i (Sent bytes) → HasXid bytes xid → NoneBegan h i ⊎ SentRow rows h i xid bytes

  -- no two calls that wait repeat one call
  abbrev pub Lone : List Row → List (ℕ × Waiting Purpose) → Type 0
  Lone rows calls = (a b : ℕ) → IsWaiting calls a → IsWaiting calls b → (r q : Row) → In r rows → In q rows → r.xid ≡ a → q.xid ≡ b → r.root ≡ q.root → a ≡ b

  -- what is left to the machine of an operation
  abbrev pub LeftBy : List Entry → List Lane → ℕ → Op → ℕ → Type 0
  LeftBy h lanes x op left = (at number : ℕ) (machine : Machine) → slice_get lanes at ≡ Some (record { number = number; state = Busy machine }) → UnderWay h number x (length h) op → Left h x op machine left

  pub record Budget (rows : List Row) (h : List Entry) (lanes : List Lane) (x : ℕ) (op : Op) : Type 0 where
    pub left : ℕ
    pub account : Account P Q base rows h x op left
    pub keeps : LeftBy h lanes x op left

  pub record Book (h : List Entry) (v : View) : Type 0 where
    pub rows : List Row
    pub apart : AreApart v.shelf.repeats
    pub waits : Each (IsWaiting v.calls.calls) v.shelf.repeats
    pub counted : Counted rows h v.calls.calls v.shelf.repeats
    pub lone : Lone rows v.calls.calls
    pub sound : Sound rows h (next_xid v.calls)
    pub budgets : (x lane line : ℕ) (op : Op) → At h x (Began lane line op) → is op → Budget rows h v.lanes x op

  -- ---- what a step leads to

  -- two lanes of one number are one lane
  abbrev pub AreOneEach : List Lane → Type 0
  AreOneEach lanes = (k other : Lane) (a b : ℕ) → slice_get lanes a ≡ Some k → slice_get lanes b ≡ Some other → k.number ≡ other.number → a ≡ b

  -- a call waits, or it is the one that the step asks for
  abbrev pub Due : View → Step → ℕ → Type 0
  Due v next xid = IsWaiting v.calls.calls xid ⊎ ((xid ≡ next_xid v.calls) × ((call : Call) × (next ≡ Send call)))

  -- as which row the call joins the others
  abbrev pub row_for : View → ℕ → Op → Call → ℕ → Row
  row_for v x op call root = record { xid = next_xid v.calls; call = call; x = x; op = op; root = root }

  pub record Joining (rows : List Row) (v : View) (x : ℕ) (op : Op) (call : Call) (k : ℕ) : Type 0 where
    pub root : ℕ
    pub joins : Joins rows (row_for v x op call root) k
    pub alone : (xid : ℕ) → IsWaiting v.calls.calls xid → (r : Row) → In r rows → r.xid ≡ xid → r.root ≢ root

  -- the operation of the lane made a step
  pub record Own (rows : List Row) (h : List Entry) (v : View) (x : ℕ) (op : Op) (machine : Machine) (next : Step) : Type 0 where
    pub had : ℕ
    pub left : ℕ
    pub account : Account P Q base rows h x op had
    pub keeps : Going next (Left h x op machine left)
    pub less : left ≤ had
    pub asks : (call : Call) → next ≡ Send call → count (next_xid v.calls) v.shelf.repeats ≡ 0 → P call → left + 1 ≤ had

  pub record Owing (rows : List Row) (h : List Entry) (v : View) (at number x : ℕ) (op : Op) (machine : Machine) (next : Step) : Type 0 where
    pub there : slice_get v.lanes at ≡ Some (record { number = number; state = Busy machine })
    pub lanes : AreOneEach v.lanes
    pub runs : Runs h number
    pub under : UnderWay h number x (length h) op
    pub apart : AreApart v.shelf.repeats
    pub waits : Each (Due v next) v.shelf.repeats
    pub counted : Counted rows h v.calls.calls v.shelf.repeats
    pub lone : Lone rows v.calls.calls
    pub sound : Sound rows h (next_xid v.calls)
    pub mine : (call : Call) → next ≡ Send call → Joining rows v x op call (count (next_xid v.calls) v.shelf.repeats)
    pub own : is op → Own rows h v x op machine next
    pub others : (y lane line : ℕ) (its : Op) → At h y (Began lane line its) → is its → y ≢ x → Budget rows h v.lanes y its
    pub asked : AskedOf Calls next machine
    pub flight : (call : Call) → next ≡ Send call → 1 ≤ in_flight machine

  -- ---- facts of rows

  pub root-below : (rows : List Row) (h : List Entry) (next : ℕ) → Sound rows h next → (r : Row) → In r rows → r.root < next
  root-below rows h next s r there = let k = s.rooted r there in let low = s.below k.first k.there in let same = k.xid in omega (arith, low, same)

  began-same : (a b c d : ℕ) (o p : Op) → Began a b o ≡ Began c d p → (a ≡ c) × (o ≡ p)
  began-same a b c d o p e = (cc, cc)

  not-equal : (a b : ℕ) → a ≢ b → nat_eq a b ≡ false
  not-equal a b apart = by (nat_eq a b) refl
    where
      by : (c : Bool) → nat_eq a b ≡ c → c ≡ false
      by true d = absurd (apart (eqb-true a b d))
      by false d = refl

  -- ---- one row more

  module _ (rows : List Row) (h : List Entry) (next : ℕ) (s : Sound rows h next) (row : Row) (k : ℕ) (joins : Joins rows row k) (new_xid : row.xid ≡ next) where
    fresh : (r : Row) → In r rows → r.xid ≢ row.xid
    fresh r there same = let low = s.below r there in absurd (omega (arith, low, same, new_xid))

    own-root : Room (row ∷ rows) (λ (r : Row). r.root ≡ row.root) 0 (k + 1)
    own-root = by joins
      where
        by : Joins rows row k → Room (row ∷ rows) (λ (r : Row). r.root ≡ row.root) 0 (k + 1)
        by (first own none) =
            room-push rows row (λ (r : Row). r.root ≡ row.root) 0 1 (k + 1) fresh (omega arith) (λ same. omega arith)
            (room-empty rows (λ (r : Row). r.root ≡ row.root) 1 (k + 1) (λ r there same. let low = root-below rows h next s r there in absurd (omega (arith, low, same, own, new_xid))) (omega arith))
        by (repeats q there root call x op room few) =
            room-push rows row (λ (r : Row). r.root ≡ row.root) 0 1 (k + 1) fresh (omega arith) (λ same. omega arith) (room-up rows (λ (r : Row). r.root ≡ row.root) 0 k room)

    times : k ≤ 3
    times = by joins
      where
        by : Joins rows row k → k ≤ 3
        by (first own none) = omega (arith, none)
        by (repeats q there root call x op room few) = few

    few-more : (root : ℕ) → Room (row ∷ rows) (λ (r : Row). r.root ≡ root) 0 4
    few-more root = by (nat_eq row.root root) refl
      where
        by : (b : Bool) → nat_eq row.root root ≡ b → Room (row ∷ rows) (λ (r : Row). r.root ≡ root) 0 4
        by true d =
            let few = times in
            subst (λ (n : ℕ). Room (row ∷ rows) (λ (r : Row). r.root ≡ n) 0 4) (eqb-true row.root root d)
            (room-wide (row ∷ rows) (λ (r : Row). r.root ≡ row.root) 0 (k + 1) 4 (omega (arith, few)) own-root)
        by false d = room-other rows row (λ (r : Row). r.root ≡ root) 0 4 (eqb-false row.root root d) (s.few root)

    root-of-new : HasRoot (row ∷ rows) row
    root-of-new = by joins
      where
        by : Joins rows row k → HasRoot (row ∷ rows) row
        by (first own none) = record { first = row; there = inl refl; xid = sym own; root = refl; call = refl; x = refl; op = refl }
        by (repeats q there root call x op room few) =
            let r = s.rooted q there in
            record { first = r.first; there = inr r.there; xid = r.xid ∙ root; root = r.root ∙ root; call = r.call ∙ call; x = r.x ∙ x; op = r.op ∙ op }

    rooted-more : (r : Row) → In r (row ∷ rows) → HasRoot (row ∷ rows) r
    rooted-more r (inl same) = subst (HasRoot (row ∷ rows)) same root-of-new
    rooted-more r (inr there) = root-more rows row r (s.rooted r there)

    below-more : (r : Row) → In r (row ∷ rows) → r.xid < next + 1
    below-more r (inl same) = let k_is = ap (λ (q : Row). q.xid) same in omega (arith, k_is, new_xid)
    below-more r (inr there) = let low = s.below r there in omega (arith, low)

    one-more : (r q : Row) → In r (row ∷ rows) → In q (row ∷ rows) → r.xid ≡ q.xid → r ≡ q
    one-more r q (inl a) (inl b) same = sym a ∙ b
    one-more r q (inl a) (inr b) same = absurd (fresh q b (sym same ∙ ap (λ (o : Row). o.xid) (sym a)))
    one-more r q (inr a) (inl b) same = absurd (fresh r a (same ∙ ap (λ (o : Row). o.xid) (sym b)))
    one-more r q (inr a) (inr b) same = s.one r q a b same

    sent-more : (i xid : ℕ) (bytes : List ℕ) → SentRow rows h i xid bytes → SentRow (row ∷ rows) h i xid bytes
    sent-more i xid bytes t = record {
      row = t.row;
      there = inr t.there;
      xid_is = t.xid_is;
      spells = t.spells;
      out = t.out;
      x_is = t.x_is;
      op_is = t.op_is;
      on = t.on;
      noted = t.noted;
    }

    pub sound-push : (lane line : ℕ) → At h row.x (Began lane line row.op) → Sound (row ∷ rows) h (next + 1)
    sound-push lane line began = record {
      below = below-more;
      rooted = rooted-more;
      few = few-more;
      began = λ r there. by r there;
      one = one-more;
      sents = λ i xid bytes at named. elim (s.sents i xid bytes at named) [
        | inl none ↦ inl none
        | inr t ↦ inr (sent-more i xid bytes t)
      ];
    }
      where
        by : (r : Row) → In r (row ∷ rows) → (lane : ℕ) × (line : ℕ) × At h r.x (Began lane line r.op)
        by r (inl same) = subst (λ (q : Row). (lane : ℕ) × (line : ℕ) × At h q.x (Began lane line q.op)) same (lane, line, began)
        by r (inr there) = s.began r there

    -- a call that waited
    near-more : (xid x : ℕ) (op : Op) (call : Call) (n : ℕ) (q : Near rows xid x op call n) → q.row.root ≢ row.root → Near (row ∷ rows) xid x op call n
    near-more xid x op call n q apart = record {
      row = q.row;
      there = inr q.there;
      xid_is = q.xid_is;
      call_is = q.call_is;
      x_is = q.x_is;
      op_is = q.op_is;
      room = room-other rows row (λ (r : Row). r.root ≡ q.row.root) 0 (n + 1) (λ same. apart (sym same)) q.room;
      times = q.times;
    }

    -- the one that is made
    abbrev near-new : Near (row ∷ rows) row.xid row.x row.op row.call k
    near-new = record { row = row; there = inl refl; xid_is = refl; call_is = refl; x_is = refl; op_is = refl; room = own-root; times = times }

    -- the operation's account
    account-made : (x : ℕ) (op : Op) (left had : ℕ) → left ≤ had → (k ≡ 0 → P row.call → left + 1 ≤ had) → Account P Q base rows h x op had → Account P Q base (row ∷ rows) h x op left
    account-made x op left had less asks a = account-push P Q base rows row h x op left had fresh less (λ f. asks (no-repeat f.0 joins) f.2) a
      where
        no-repeat : row.root ≡ row.xid → Joins rows row k → k ≡ 0
        no-repeat own (first same none) = none
        no-repeat own (repeats q there root call x_is op_is room few) = absurd (let low = root-below rows h next s q there in omega (arith, low, root, own, new_xid))

    pub budget-other : (lanes : List Lane) (y : ℕ) (op : Op) → y ≢ row.x → Budget rows h lanes y op → Budget (row ∷ rows) h lanes y op
    budget-other lanes y op apart b = record { left = b.left; account = account-other P Q base rows row h y op b.left (λ f. apart (sym f.1)) b.account; keeps = b.keeps }

    lone-more : (calls : List (ℕ × Waiting Purpose)) (w : Waiting Purpose) → ((xid : ℕ) → IsWaiting (calls ++ (next, w) ∷ []) xid → (xid ≡ next) ⊎ IsWaiting calls xid)
        → ((xid : ℕ) → IsWaiting calls xid → (r : Row) → In r rows → r.xid ≡ xid → r.root ≢ row.root) → ((xid : ℕ) → IsWaiting calls xid → xid < next) → Lone rows calls
        → Lone (row ∷ rows) (calls ++ (next, w) ∷ [])
    lone-more calls w cases alone early lone a b in_a in_b r q there_r there_q r_is q_is same = by (cases a in_a) (cases b in_b) there_r there_q
      where
        old : (xid : ℕ) → IsWaiting calls xid → (o : Row) → In o (row ∷ rows) → o.xid ≡ xid → In o rows
        old xid waits o (inl e) o_is = absurd (let low = early xid waits in let k_is = ap (λ (p : Row). p.xid) e in omega (arith, low, k_is, o_is, new_xid))
        old xid waits o (inr there) o_is = there

        newest : (xid : ℕ) → xid ≡ next → (o : Row) → In o (row ∷ rows) → o.xid ≡ xid → row ≡ o
        newest xid is_next o (inl e) o_is = e
        newest xid is_next o (inr there) o_is = absurd (let low = s.below o there in omega (arith, low, is_next, o_is))

        by : (a ≡ next) ⊎ IsWaiting calls a → (b ≡ next) ⊎ IsWaiting calls b → In r (row ∷ rows) → In q (row ∷ rows) → a ≡ b
        by (inl e) (inl f) i j = e ∙ sym f
        by (inl e) (inr f) i j =
            absurd (alone b f q (old b f q j q_is) q_is (sym same ∙ ap (λ (p : Row). p.root) (sym (newest a e r i r_is))))
        by (inr e) (inl f) i j =
            absurd (alone a e r (old a e r i r_is) r_is (same ∙ ap (λ (p : Row). p.root) (sym (newest b f q j q_is))))
        by (inr e) (inr f) i j = lone a b e f r q (old a e r i r_is) (old b f q j q_is) r_is q_is same

  -- ---- lanes

  module _ (rows : List Row) (h : List Entry) (lanes : List Lane) (at number : ℕ) (machine : Machine) (x : ℕ) (op : Op)
      (there : slice_get lanes at ≡ Some (record { number = number; state = Busy machine })) (runs : Runs h number) (under : UnderWay h number x (length h) op) where
    lane-is : (a b : Lane) → Some a ≡ Some b → a ≡ b
    lane-is a b e = cc

    -- the lane of the operation comes to another state
    pub budget-set : (y : ℕ) (its : Op) (state : State) → y ≢ x → Budget rows h lanes y its → Budget rows h (slice_set lanes at (record { number = number; state = state })) y its
    budget-set y its state apart b = record { left = b.left; account = b.account; keeps = λ k n other here u. by k n other here u (nat_eq k at) refl }
      where
        by : (k n : ℕ) (other : Machine) → slice_get (slice_set lanes at (record { number = number; state = state })) k ≡ Some (record { number = n; state = Busy other })
            → UnderWay h n y (length h) its → (c : Bool) → nat_eq k at ≡ c → Left h y its other b.left
        by k n other here u true d =
            let same = lane-is _ _ (sym (at-set lanes at (record { number = number; state = Busy machine }) (record { number = number; state = state }) there)
            ∙ ap (slice_get (slice_set lanes at (record { number = number; state = state }))) (sym (eqb-true k at d)) ∙ here) in
            let which : number ≡ n = ap (λ (l : Lane). l.number) same in
            absurd (apart (one-under h number x y op its runs under (subst (λ (j : ℕ). UnderWay h j y (length h) its) (sym which) u)).0)
        by k n other here u false d = b.keeps k n other (sym (set-other lanes at k (record { number = number; state = state }) (eqb-false k at d)) ∙ here) u

    -- what is left to it there
    pub left-set : AreOneEach lanes → (state : State) (left : ℕ) → ((other : Machine) → state ≡ Busy other → Left h x op other left)
        → LeftBy h (slice_set lanes at (record { number = number; state = state })) x op left
    left-set apart state left good k n other here u = by (nat_eq k at) refl
      where
        one_lane : number ≡ n
        one_lane = (began-same number under.line n u.line op op (At-one h x (Began number under.line op) (Began n u.line op) under.began u.began)).0

        by : (c : Bool) → nat_eq k at ≡ c → Left h x op other left
        by true d =
            let same = lane-is _ _ (sym (at-set lanes at (record { number = number; state = Busy machine }) (record { number = number; state = state }) there)
            ∙ ap (slice_get (slice_set lanes at (record { number = number; state = state }))) (sym (eqb-true k at d)) ∙ here) in
            good other (ap (λ (l : Lane). l.state) same)
        by false d =
            absurd (eqb-false k at d (apart (record { number = n; state = Busy other }) (record { number = number; state = Busy machine }) k at
            (sym (set-other lanes at k (record { number = number; state = state }) (eqb-false k at d)) ∙ here) there (sym one_lane)))

  -- the operation's lane is the only one with it
  pub own-lane : (h : List Entry) (lanes : List Lane) (at number : ℕ) (machine : Machine) (x : ℕ) (op : Op) → slice_get lanes at ≡ Some (record { number = number; state = Busy machine })
      → AreOneEach lanes → UnderWay h number x (length h) op → (left : ℕ) → Left h x op machine left → LeftBy h lanes x op left
  own-lane h lanes at number machine x op there apart under left l a n other here u =
      let one_lane = began-same number under.line n u.line op op (At-one h x (Began number under.line op) (Began n u.line op) under.began u.began) in
      let place : a ≡ at = apart (record { number = n; state = Busy other }) (record { number = number; state = Busy machine }) a at here there (sym one_lane.0) in
      let which = same-machine n number other machine (sym here ∙ ap (slice_get lanes) place ∙ there) in
      subst (λ (q : Machine). Left h x op q left) (sym which) l

  -- the operation that began at a place is the one that is under way there
  pub own-as : (rows : List Row) (h : List Entry) (lanes : List Lane) (number x : ℕ) (op : Op) → UnderWay h number x (length h) op → (y lane line : ℕ) (its : Op) → At h y (Began lane line its) → is its
      → y ≡ x → (is op → Budget rows h lanes x op) → Budget rows h lanes y its
  own-as rows h lanes number x op under y lane line its began fits same budget =
      let both = began-same number under.line lane line op its (At-one h x (Began number under.line op) (Began lane line its) under.began (subst (λ (n : ℕ). At h n (Began lane line its)) same began)) in
      subst (λ (n : ℕ). Budget rows h lanes n its) (sym same) (subst (Budget rows h lanes x) both.1 (budget (subst is (sym both.1) fits)))

  -- ---- the call is made

  module _ (rows : List Row) (h : List Entry) (v : View) (r : Rows setup h v) where
    pub early : (xid : ℕ) (w : Waiting Purpose) → waiting_at xid v.calls.calls ≡ Some w → xid < next_xid v.calls
    early xid w at = waits_early v.calls.cred v.calls.first_xid (next_xid v.calls) xid v.calls.calls w r.sound.calls.each at

    made-waits : (row : Waiting Purpose) (next : Step) (xid : ℕ) → Due v next xid → IsWaiting (v.calls.calls ++ (next_xid v.calls, row) ∷ []) xid
    made-waits row next xid (inl w) = record {
      call = w.call;
      waits =
          let low = early xid w.call w.waits in
          others_made xid (next_xid v.calls) v.calls.calls row (not-equal xid (next_xid v.calls) (λ same. absurd (omega (arith, low, same)))) ∙ w.waits;
    }
    made-waits row next xid (inr mine) = record {
      call = row;
      waits = at_made v.calls.cred v.calls.first_xid (next_xid v.calls) xid (next_xid v.calls) v.calls.calls row r.sound.calls.each mine.0 refl;
    }

    pub was-waiting : (row : Waiting Purpose) (xid : ℕ) → IsWaiting (v.calls.calls ++ (next_xid v.calls, row) ∷ []) xid → (xid ≡ next_xid v.calls) ⊎ IsWaiting v.calls.calls xid
    was-waiting row xid w = by (nat_eq xid (next_xid v.calls)) refl
      where
        by : (b : Bool) → nat_eq xid (next_xid v.calls) ≡ b → (xid ≡ next_xid v.calls) ⊎ IsWaiting v.calls.calls xid
        by true d = inl (eqb-true xid (next_xid v.calls) d)
        by false d = inr (record { call = w.call; waits = sym (others_made xid (next_xid v.calls) v.calls.calls row d) ∙ w.waits })

    module _ (at number x : ℕ) (op : Op) (machine : Machine) (call : Call) (o : Owing rows h v at number x op machine (Send call)) (new : View) (k : Makes v number call new) where
      abbrev purpose : Waiting Purpose
      purpose = made_call (record_of v call k.args) (record { lane = number; proc = proc_of call; sent = turn_at v })

      abbrev times_made : ℕ
      times_made = count (next_xid v.calls) v.shelf.repeats

      joining : Joining rows v x op call times_made
      joining = o.mine call refl

      abbrev row : Row
      row = row_for v x op call joining.root

      made-counted : Counted (row ∷ rows) h (v.calls.calls ++ (next_xid v.calls, purpose) ∷ []) v.shelf.repeats
      made-counted xid w waits made y its u = by (nat_eq xid (next_xid v.calls)) refl
        where
          by : (b : Bool) → nat_eq xid (next_xid v.calls) ≡ b → Near (row ∷ rows) xid y its made.asked (count xid v.shelf.repeats)
          by false d =
              let was = sym (others_made xid (next_xid v.calls) v.calls.calls purpose d) ∙ waits in
              let q = o.counted xid w was made y its u in
              near-more rows h (next_xid v.calls) o.sound row times_made joining.joins refl xid y its made.asked (count xid v.shelf.repeats) q
              (joining.alone xid (record { call = w; waits = was }) q.row q.there q.xid_is)
          by true d =
              let same : xid ≡ next_xid v.calls = eqb-true xid (next_xid v.calls) d in
              let which : purpose ≡ w = some-call purpose w
              (sym (at_made v.calls.cred v.calls.first_xid (next_xid v.calls) xid (next_xid v.calls) v.calls.calls purpose r.sound.calls.each same refl) ∙ waits) in
              let known = made-known setup h v number call new k r in
              let own : known.made.asked ≡ call = made-asked setup h v number call new k r in
              let bytes : purpose.bytes ≡ w.bytes = ap (λ (c : Waiting Purpose). c.bytes) which in
              let asked : made.asked ≡ known.made.asked =
              one-call xid (next_xid v.calls) made.asked known.made.asked w.bytes (nfs-of made.asked made.nfs) made.spells.spells
              (subst (λ (b : List ℕ). SpellsCall (next_xid v.calls) known.made.asked b) bytes known.made.spells.spells) in
              let mine = one-under h number x y op its o.runs o.under (subst (λ (c : Waiting Purpose). UnderWay h c.purpose.lane y (length h) its) (sym which) u) in
              let q = near-new rows h (next_xid v.calls) o.sound row times_made joining.joins refl in
              record {
                row = q.row;
                there = q.there;
                xid_is = sym same;
                call_is = sym (asked ∙ own);
                x_is = sym mine.0;
                op_is = sym mine.1;
                room = subst (λ (n : ℕ). Room (row ∷ rows) (λ (p : Row). p.root ≡ row.root) 0 (count n v.shelf.repeats + 1)) (sym same) q.room;
                times = subst (λ (n : ℕ). count n v.shelf.repeats ≤ 3) (sym same) q.times;
              }

      own-budget : (y lane line : ℕ) (its : Op) → At h y (Began lane line its) → is its → y ≡ x → Budget (row ∷ rows) h v.lanes y its
      own-budget y lane line its began fits same = own-as (row ∷ rows) h v.lanes number x op o.under y lane line its began fits same budget
        where
          budget : is op → Budget (row ∷ rows) h v.lanes x op
          budget f =
              let own = o.own f in
              record {
                left = own.left;
                account = account-made rows h (next_xid v.calls) o.sound row times_made joining.joins refl x op own.left own.had own.less (own.asks call refl) own.account;
                keeps = own-lane h v.lanes at number machine x op o.there o.lanes o.under own.left own.keeps;
              }

      pub made-book : Book h new
      made-book = subst (Book h) (sym k.is) (record {
        rows = row ∷ rows;
        apart = o.apart;
        waits = each-map (Due v (Send call)) (IsWaiting (v.calls.calls ++ (next_xid v.calls, purpose) ∷ [])) (made-waits purpose (Send call)) v.shelf.repeats o.waits;
        counted = made-counted;
        lone = lone-more rows h (next_xid v.calls) o.sound row times_made joining.joins refl v.calls.calls purpose (was-waiting purpose) joining.alone (λ xid w. early xid w.call w.waits) o.lone;
        sound = subst (Sound (row ∷ rows) h) next_is (sound-push rows h (next_xid v.calls) o.sound row times_made joining.joins refl number o.under.line o.under.began);
        budgets = λ y lane line its began fits. by y lane line its began fits (nat_eq y x) refl;
      })
        where
          next_is : next_xid v.calls + 1 ≡ v.calls.first_xid + (v.calls.made + 1)
          next_is = omega arith

          by : (y lane line : ℕ) (its : Op) → At h y (Began lane line its) → is its → (b : Bool) → nat_eq y x ≡ b → Budget (row ∷ rows) h v.lanes y its
          by y lane line its began fits true d = own-budget y lane line its began fits (eqb-true y x d)
          by y lane line its began fits false d =
              budget-other rows h (next_xid v.calls) o.sound row times_made joining.joins refl v.lanes y its (eqb-false y x d) (o.others y lane line its began fits (eqb-false y x d))
