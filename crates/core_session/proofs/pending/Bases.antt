-- A guarded byte isn't given up by a last close, at any step: since the session rested last the table of slots only got less, and each answer that was ready then
-- is noted before the next record.
use Rattle.core_session.proofs.Prelude.{◌≡◌, ◌≤◌, ◌<◌, ◌⊎◌, inl, inr, ℕ, suc, Bool, true, false, nat_eq, List, [], ◌∷◌, ◌++◌, length, Option, Some, None, slice_get, refl, sym, ap, subst, ◌∙◌, arith, append_assoc, append-nil, ◌+◌, cases_lt, eqb-true, eqb-false, Mode, Opened, Answer, Value, Entry, Began, Answered, Dialed, Sent, Executed, Foreign, Flushed, Reboot, Delivered, Failed, Clock, Call, Op, At, AnsweredBefore, Ended, LastReply, UnderWay, LeftAlone, Finds, Terms, At-back, At-below, At-grow, At-last, At-one, length_last, Shelf, Mounted, machine_of, State, Busy, Over, Setup, IsIdle, IsOther, numbers_of, Stirs, counted, StartsLane, View, Reaches, GoesWith, Known, lanes-under-way, reached-lanes, IsHeld, Kind, plainly, kind_of, StoryOf, Slots, reached-slots, IsGuarded, slot, past}
use Rattle.world_model.specs.Operations.{NoneCame}
use Rattle.core_facts.proofs.SlotGrowth.{finds-by}
use Rattle.core_facts.proofs.Slots.{opening, closing}
use Rattle.std.proofs.lemmas.List.{length-append}
use Rattle.std.specs.FinMap as finite
use Rattle.world_model.specs.declared.answer.Answer.TheVariants as answers
use Rattle.world_model.specs.declared.op.Op.TheVariants as ops
use Rattle.core_session.proofs.calls.TableHeld.{AllNoted, IsLane, kind-shown, lane-or, shown}
use Rattle.core_session.proofs.drops.KnowingAlong.{IsPlain}
use Rattle.core_session.proofs.drops.Laws.{DropsKnown, starts-begun, stirs-stepped}
use Rattle.core_session.proofs.drops.SlotKinds.{OnlyLess}
use Rattle.core_session.proofs.pending.Alone.{HeldBy, HeldSoon, held-by, not-held, past-not}
use Rattle.core_session.proofs.syncs.Ends.{ended-within}
use Rattle.core_session.proofs.syncs.LaneButs.{SteppedTo, stirs-but, starts-but}
use Rattle.core_session.proofs.syncs.Turning.{IsFixed, ready, gone, Turned, turns-stirs, turns-starts, fixed-turns}

-- ---- answers that are noted before the next record

-- The answer of the operation at the place x is noted, and no record comes before it from the place n on.
pub record NotedSoon (H : List Entry) (n x : ℕ) (a : Answer) : Type 0 where
  pub lane : ℕ
  pub op : Op
  pub z : ℕ
  pub ended : Ended H lane x op z a
  pub none : (d : ℕ) (b : List ℕ) → At H d (Delivered b) → n ≤ d → d < z → ⊥

-- so it is of each that is ready, and of those that were noted
abbrev pub AllSoon : List Entry → List Entry → View → Type 0
AllSoon H h v = (x : ℕ) (a : Answer) → IsFixed h v x a → NotedSoon H (length h) x a

-- where a record came later, the answers of these were noted before it
abbrev pub CameAfter : List Entry → List Entry → View → List Entry → Type 0
CameAfter H h v h2 = (d : ℕ) (b : List ℕ) → At H d (Delivered b) → length h ≤ d → d < length h2 → (x : ℕ) (a : Answer) → IsFixed h v x a → AnsweredBefore H x d

-- an answer of a shorter history
pub ended-more : (h rest : List Entry) (lane x : ℕ) (op : Op) (z : ℕ) (a : Answer) → Ended h lane x op z a → Ended (h ++ rest) lane x op z a
ended-more h rest lane x op z a e = record {
  line = e.line;
  began = At-grow h rest x (Began lane e.line op) e.began;
  answered = At-grow h rest z (Answered lane e.line a) e.answered;
  later = e.later;
  first = λ k b at past. elim (cases_lt k (length h)) [
    | inl low ↦ e.first k b (At-back h rest k (Answered lane e.line b) at low) past
    | inr high ↦ (let below = At-below h z (Answered lane e.line a) e.answered in omega (arith, below, high))
  ];
}

pub ended-on : (h rest H : List Entry) → h ++ rest ≡ H → (lane x : ℕ) (op : Op) (z : ℕ) (a : Answer) → Ended h lane x op z a → Ended H lane x op z a
ended-on h rest H is lane x op z a e = subst (λ (k : List Entry). Ended k lane x op z a) is (ended-more h rest lane x op z a e)

-- no entry more
pub none-after : (H h : List Entry) (v : View) → CameAfter H h v h
none-after H h v d b at from to x a k = absurd (omega (arith, from, to))

-- one entry more: no record comes while an answer is ready
pub one-after : (H h rest : List Entry) (e : Entry) → (h ++ e ∷ []) ++ rest ≡ H → (v : View) → ((b : List ℕ) → e ≡ Delivered b → AllNoted v) → CameAfter H h v (h ++ e ∷ [])
one-after H h rest e is v noted d b at from to x a k = by k
  where
    there : d ≡ length h
    there = let more = length_last h e in omega (arith, more, from, to)

    here : At H (length h) e
    here = subst (λ (z : List Entry). At z (length h) e) is (At-grow (h ++ e ∷ []) rest (length h) e (At-last h e))

    same : e ≡ Delivered b
    same = At-one H (length h) e (Delivered b) here (subst (λ (z : ℕ). At H z (Delivered b)) there at)

    by : IsFixed h v x a → AnsweredBefore H x d
    by (ready j n op lane u) = absurd (noted b same j n a lane)
    by (gone lane z op ended) = record {
      lane = lane;
      op = op;
      y = z;
      answer = a;
      ended = ended-on h (e ∷ rest) H (sym (append_assoc h (e ∷ []) rest) ∙ is) lane x op z a ended;
      before = let below = At-below h z (Answered lane ended.line a) ended.answered in omega (arith, below, from);
    }

-- ---- where an answer is noted that opened a slot

came-answer : (b : List ℕ) (lane line : ℕ) (a : Answer) → Delivered b ≡ Answered lane line a → ⊥
came-answer b lane line a e = absurd cc

began-parts : (a b c d : ℕ) (o p : Op) → Began a b o ≡ Began c d p → (a ≡ c) × (b ≡ d) × (o ≡ p)
began-parts a b c d o p e = (cc, cc, cc)

-- the last reply stays the last one while none comes
last-later : (H h rest : List Entry) → h ++ rest ≡ H → (z : ℕ) → length h ≤ z → ((d : ℕ) (b : List ℕ) → At H d (Delivered b) → length h ≤ d → d < z → ⊥) → (call : Call)
    → LastReply h (length h) call → LastReply H z call
last-later H h rest is z low none call l = record {
  at = l.at;
  bytes = l.bytes;
  xid = l.xid;
  sent_at = l.sent_at;
  record_sent = l.record_sent;
  got = grown l.at (Delivered l.bytes) l.got;
  before = let soon = l.before in omega (arith, soon, low);
  last = λ j b at soon. elim (cases_lt j (length h)) [
    | inl early ↦ l.last j b (back j (Delivered b) at early) early
    | inr late ↦ absurd (none j b at late soon)
  ];
  under = l.under;
  sent = record {
    sent = grown l.sent_at (Sent l.record_sent) l.sent.sent;
    under = l.sent.under;
    first = λ j b at under. elim (cases_lt j (length h)) [
      | inl early ↦ l.sent.first j b (back j (Sent b) at early) under
      | inr late ↦ (let soon = l.before in let ask = l.asked in omega (arith, soon, ask, late))
    ];
  };
  spells = l.spells;
  asked = l.asked;
}
  where
    grown : (j : ℕ) (e : Entry) → At h j e → At H j e
    grown j e at = subst (λ (k : List Entry). At k j e) is (At-grow h rest j e at)

    back : (j : ℕ) (e : Entry) → At H j e → j < length h → At h j e
    back j e at early = At-back h rest j e (subst (λ (k : List Entry). At k j e) (sym is) at) early

-- an operation that opens a slot
record IsOpen (op : Op) (its : ℕ) (mode : Mode) : Type 0 where
  path : List (List ℕ)
  is : op ≡ ops.OpenFile its mode path

some-kind : (a b : ℕ) (m n : Mode) → opening a m ≡ opening b n → (a ≡ b) × (m ≡ n)
some-kind a b m n e = (cc, cc)

opener-kind : (op : Op) (its : ℕ) (mode : Mode) → kind_of op ≡ opening its mode → IsOpen op its mode
opener-kind (ops.OpenFile s m path) its mode e =
    let k = some-kind s its m mode e in
    record { path = path; is = ap (λ (z : ℕ). ops.OpenFile z m path) k.0 ∙ ap (λ (z : Mode). ops.OpenFile its z path) k.1 }
opener-kind (ops.Close s) its mode e = absurd cc
opener-kind (ops.Read s offset count) its mode e = absurd cc
opener-kind (ops.Write s offset bytes) its mode e = absurd cc
opener-kind (ops.Fill s offset count byte) its mode e = absurd cc
opener-kind (ops.Put path offset bytes) its mode e = absurd cc
opener-kind (ops.Sync s) its mode e = absurd cc
opener-kind (ops.Truncate s size) its mode e = absurd cc
opener-kind (ops.Stat path) its mode e = absurd cc
opener-kind (ops.Access path bits) its mode e = absurd cc
opener-kind (ops.MakeDir path) its mode e = absurd cc
opener-kind (ops.RemoveDir path) its mode e = absurd cc
opener-kind (ops.Remove path) its mode e = absurd cc
opener-kind (ops.Rename from into) its mode e = absurd cc
opener-kind (ops.Link from into) its mode e = absurd cc
opener-kind (ops.SymLink path target) its mode e = absurd cc
opener-kind (ops.ReadLink path) its mode e = absurd cc
opener-kind (ops.List path) its mode e = absurd cc

one-opened : (a b : Opened) → Some a ≡ Some b → a ≡ b
one-opened a b e = cc

none-opened : (o : Opened) → ◌≡◌ {A = Option Opened} None (Some o) → ⊥
none-opened o e = absurd cc

-- the table only got less twice
less-then : (a b c : Shelf) → OnlyLess a.opens b.opens → OnlyLess b.opens c.opens → OnlyLess a.opens c.opens
less-then a b c first next q = elim (next q) [
  | inl same ↦ elim (first q) [ inl was ↦ inl (same ∙ was) | inr none ↦ inr (same ∙ none) ]
  | inr none ↦ inr none
]

module _ (mt : Mounted) (terms : Terms) (setup : Setup) (H : List Entry) (V : View) (g : GoesWith mt terms setup H V) (f : List ℕ) where
  -- ---- as the session rests

  module _ (h rest : List Entry) (is : h ++ rest ≡ H) (v : View) (r : Reaches (machine_of mt) setup h v) (found : v.lost ≡ false) (soon : AllSoon H h v) where
    abbrev Here : ℕ → ℕ → Type 0
    Here lane its = HeldBy mt terms setup H V g f h rest is lane its

    of-held : (lane its : ℕ) (o : Opened) → o.file ≡ f → IsHeld terms.modes h (length h) lane its o.file o.mode → Here lane its
    of-held lane its o same k =
        held-by mt terms setup H V g f h rest is lane its o.mode (subst (λ (z : List ℕ). IsHeld terms.modes h (length h) lane its z o.mode) same k)

    -- an open whose answer is ready
    opened-soon : (lane its x : ℕ) (op : Op) (value : Value) (mode : Mode) → UnderWay h lane x (length h) op → IsOpen op its mode → Finds terms.modes h (length h) f
        → NotedSoon H (length h) x (answers.Done value) → Here lane its
    unfolding last-later
    opened-soon lane its x op value mode u o finds n = record {
      n = suc n.z;
      open_at = x;
      from = omega (arith, late);
      none = λ d b at from to. elim (cases_lt d n.z) [
        | inl low ↦ n.none d b at from low
        | inr high ↦ (
            let there : d ≡ n.z = omega (arith, high, to) in
            came-answer b n.lane n.ended.line (answers.Done value)
            (At-one H n.z (Delivered b) (Answered n.lane n.ended.line (answers.Done value)) (subst (λ (z : ℕ). At H z (Delivered b)) there at) n.ended.answered))
      ];
      held = record {
        y = n.z;
        opens = record {
          mode = mode;
          path = o.path;
          value = value;
          ended = ended;
          finds = finds-by terms.modes h (length h) H n.z f (λ call l. last-later H h rest is n.z late n.none call l) (λ call l. (refl, refl)) finds;
        };
        before = omega arith;
        kept = λ c k answer d after low. omega (arith, after, low);
      };
    }
      where
        began : At H x (Began lane u.line op)
        began = subst (λ (k : List Entry). At k x (Began lane u.line op)) is (At-grow h rest x (Began lane u.line op) u.began)

        same : (n.lane ≡ lane) × (n.ended.line ≡ u.line) × (n.op ≡ op)
        same = began-parts n.lane n.ended.line lane u.line n.op op (At-one H x (Began n.lane n.ended.line n.op) (Began lane u.line op) n.ended.began began)

        ended : Ended H lane x (ops.OpenFile its mode o.path) n.z (answers.Done value)
        ended = subst (λ (p : Op). Ended H lane x p n.z (answers.Done value)) (same.2 ∙ o.is) (subst (λ (l : ℕ). Ended H l x n.op n.z (answers.Done value)) same.0 n.ended)

        late : length h ≤ n.z
        late = elim (cases_lt n.z (length h)) [
          | inl low ↦ absurd (u.unanswered (record {
            lane = n.lane;
            op = n.op;
            y = n.z;
            answer = answers.Done value;
            ended = ended-within h rest n.lane x n.op n.z (answers.Done value) low (subst (λ (k : List Entry). Ended k n.lane x n.op n.z (answers.Done value)) (sym is) n.ended);
            before = low;
          }))
          | inr high ↦ high
        ]

    -- each slot of the table that has the file
    pub rested-held : HeldSoon mt terms setup H V g f h rest is v
    rested-held lane its o there same = by (lane-or lane v.lanes)
      where
        s : Slots terms.modes mt g.nocto setup h v
        s = reached-slots terms.modes mt g.nocto setup h v r found

        over-held : (answer : Answer) (at x : ℕ) (op : Op) → slice_get v.lanes at ≡ Some (record { number = lane; state = Over answer }) → UnderWay h lane x (length h) op → (k : Kind) → kind_of op ≡ k
            → StoryOf terms.modes h x lane k (Over answer) v.shelf.opens → Here lane its
        over-held answer at x op here u plainly kind t = of-held lane its o same (shown terms.modes h lane its o (finite.get v.shelf.opens (lane, its)) there (t its))
        over-held answer at x op here u (closing its_own) kind t = which (nat_eq its its_own) refl
          where
            which : (b : Bool) → nat_eq its its_own ≡ b → Here lane its
            which true e = absurd (none-opened o (sym t.none ∙ ap (λ (k : ℕ). finite.get v.shelf.opens (lane, k)) (sym (eqb-true its its_own e)) ∙ there))
            which false e = of-held lane its o same (shown terms.modes h lane its o (finite.get v.shelf.opens (lane, its)) there (t.others its (eqb-false its its_own e)))
        over-held (answers.Refused fault) at x op here u (opening its_own mode) kind t =
            of-held lane its o same (shown terms.modes h lane its o (finite.get v.shelf.opens (lane, its)) there (t.0 its))
        over-held (answers.Done value) at x op here u (opening its_own mode) kind t = which (nat_eq its its_own) refl
          where
            which : (b : Bool) → nat_eq its its_own ≡ b → Here lane its
            which true e =
                let slot_is : its ≡ its_own = eqb-true its its_own e in
                let one : t.o ≡ o = one-opened t.o o (sym t.there ∙ ap (λ (k : ℕ). finite.get v.shelf.opens (lane, k)) (sym slot_is) ∙ there) in
                opened-soon lane its x op value mode u (opener-kind op its mode (kind ∙ ap (λ (k : ℕ). opening k mode) (sym slot_is)))
                (subst (Finds terms.modes h (length h)) (ap (λ (k : Opened). k.file) one ∙ same) t.finds) (soon x (answers.Done value) (ready at lane op here u))
            which false e = of-held lane its o same (shown terms.modes h lane its o (finite.get v.shelf.opens (lane, its)) there (t.others its (eqb-false its its_own e)))

        of-state : (at : ℕ) (state : State) → slice_get v.lanes at ≡ Some (record { number = lane; state = state }) → Here lane its
        of-state at (Busy machine) here =
            let busy = (lanes-under-way h v (reached-lanes (machine_of mt) setup h v r)).busy at (record { number = lane; state = Busy machine }) here in
            of-held lane its o same
            (kind-shown terms.modes h lane its o (kind_of busy.op) busy.x machine v.shelf.opens there (s.lanes at (record { number = lane; state = Busy machine }) here busy.x busy.op busy.under_way))
        of-state at (Over answer) here =
            let busy = (lanes-under-way h v (reached-lanes (machine_of mt) setup h v r)).busy at (record { number = lane; state = Over answer }) here in
            over-held answer at busy.x busy.op here busy.under_way (kind_of busy.op) refl (s.lanes at (record { number = lane; state = Over answer }) here busy.x busy.op busy.under_way)

        by : IsLane lane v.lanes ⊎ IsOther lane (numbers_of v.lanes) → Here lane its
        by (inl k) = of-state k.at k.state k.there
        by (inr other) = of-held lane its o same (shown terms.modes h lane its o (finite.get v.shelf.opens (lane, its)) there (s.idle lane other its))

  -- ---- since it rested last

  abbrev StaysFixed : List Entry → View → List Entry → View → Type 0
  StaysFixed h v h2 new = (x : ℕ) (a : Answer) → IsFixed h v x a → IsFixed h2 new x a

  -- Since the session rested no answer was noted and no record came, and the table only got less.
  pub record Rested (h : List Entry) (v : View) : Type 0 where
    pub before : List Entry
    pub after : List Entry
    pub is : before ++ after ≡ h
    pub old : View
    pub reached : Reaches (machine_of mt) setup before old
    pub found : old.lost ≡ false
    pub less : OnlyLess old.shelf.opens v.shelf.opens
    pub unanswered : (d n l : ℕ) (a : Answer) → At h d (Answered n l a) → length before ≤ d → ⊥
    pub uncame : (d : ℕ) (b : List ℕ) → At h d (Delivered b) → length before ≤ d → ⊥
    pub fixes : StaysFixed before old h v

  -- or a record came as the last entry
  pub data Based (h : List Entry) (v : View) : Type 0 where
    came : (before : List Entry) (b : List ℕ) → h ≡ before ++ Delivered b ∷ [] → Based h v
    rested : Rested h v → Based h v

  pub rests : (h : List Entry) (v : View) → Reaches (machine_of mt) setup h v → v.lost ≡ false → Based h v
  rests h v r found = rested (record {
    before = h;
    after = [];
    is = append-nil h;
    old = v;
    reached = r;
    found = found;
    less = λ q. inl refl;
    unanswered = λ d n l a at low. absurd (let below = At-below h d (Answered n l a) at in omega (arith, below, low));
    uncame = λ d b at low. absurd (let below = At-below h d (Delivered b) at in omega (arith, below, low));
    fixes = λ x a k. k;
  })

  -- a step of a lane
  pub stirs-fixed : (h : List Entry) (old new : View) (at : ℕ) → Known setup h old → Stirs old at new → StaysFixed h old h new
  stirs-fixed h old new at k t =
      let stepped : SteppedTo f old.lanes new.lanes at t.number = stirs-but f old new at t in
      let turned : Turned f h h old new at t.number stepped.state = turns-stirs f setup h old new at t.number t.machine stepped.state k t.there stepped.but in
      fixed-turns f h h old new at t.number turned.x turned.op stepped.state turned.turns

  pub based-stirs : (h : List Entry) (old new : View) (at : ℕ) → Known setup h old → Stirs old at new → DropsKnown terms.modes h old → Based h old → Based h new
  based-stirs h old new at k t d (came before b is) = came before b is
  based-stirs h old new at k t d (rested r) = rested (record {
    before = r.before;
    after = r.after;
    is = r.is;
    old = r.old;
    reached = r.reached;
    found = r.found;
    less = less-then r.old.shelf old.shelf new.shelf r.less (stirs-stepped terms.modes h old new at t d).1;
    unanswered = r.unanswered;
    uncame = r.uncame;
    fixes = λ x a fixed. stirs-fixed h old new at k t x a (r.fixes x a fixed);
  })

  -- an operation begins
  pub based-starts : (h : List Entry) (old new : View) (lane line : ℕ) (op : Op) (now : ℕ) → Reaches (machine_of mt) setup h old → old.lost ≡ false → IsIdle lane old.lanes
      → StartsLane (counted old now) lane (machine_of mt lane op) new → Based (h ++ Began lane line op ∷ []) new
  based-starts h old new lane line op now r found idle t = rested (record {
    before = h;
    after = Began lane line op ∷ [];
    is = refl;
    old = old;
    reached = r;
    found = found;
    less = (starts-begun mt terms.modes g.nocto setup h old new lane line op now r found idle t).less;
    unanswered = λ d n l a at low. answered-not d n l a (here d (Answered n l a) at low);
    uncame = λ d b at low. came-not d b (here d (Delivered b) at low);
    fixes =
        let stepped : SteppedTo f old.lanes new.lanes (length old.lanes) lane = starts-but f old new now lane (machine_of mt lane op) t in
        fixed-turns f h (h ++ Began lane line op ∷ []) old new (length old.lanes) lane (length h) op stepped.state (turns-starts f h old new lane line op stepped.state idle stepped.but);
  })
    where
      here : (d : ℕ) (e : Entry) → At (h ++ Began lane line op ∷ []) d e → length h ≤ d → e ≡ Began lane line op
      here d e at low =
          let below = At-below (h ++ Began lane line op ∷ []) d e at in
          let more = length_last h (Began lane line op) in
          let there : d ≡ length h = omega (arith, below, more, low) in
          At-one (h ++ Began lane line op ∷ []) (length h) e (Began lane line op) (subst (λ (z : ℕ). At (h ++ Began lane line op ∷ []) z e) there at) (At-last h (Began lane line op))

      answered-not : (d n l : ℕ) (a : Answer) → Answered n l a ≡ Began lane line op → ⊥
      answered-not d n l a e = absurd cc

      came-not : (d : ℕ) (b : List ℕ) → Delivered b ≡ Began lane line op → ⊥
      came-not d b e = absurd cc

  -- another entry, of which the lanes and the table see nothing
  based-other : (h : List Entry) (e : Entry) (old new : View) → Reaches (machine_of mt) setup h old → old.lost ≡ false → ((n l : ℕ) (a : Answer) → e ≡ Answered n l a → ⊥)
      → ((b : List ℕ) → e ≡ Delivered b → ⊥) → StaysFixed h old (h ++ e ∷ []) new → new.shelf ≡ old.shelf → Based (h ++ e ∷ []) new
  based-other h e old new r found quiet uncame fixed shelf = rested (record {
    before = h;
    after = e ∷ [];
    is = refl;
    old = old;
    reached = r;
    found = found;
    less = subst (λ (s : Shelf). OnlyLess old.shelf.opens s.opens) (sym shelf) (λ q. inl refl);
    unanswered = λ d n l a at low. quiet n l a (here d (Answered n l a) at low);
    uncame = λ d b at low. uncame b (here d (Delivered b) at low);
    fixes = fixed;
  })
    where
      here : (d : ℕ) (o : Entry) → At (h ++ e ∷ []) d o → length h ≤ d → e ≡ o
      here d o at low =
          let below = At-below (h ++ e ∷ []) d o at in
          let more = length_last h e in
          let there : d ≡ length h = omega (arith, below, more, low) in
          At-one (h ++ e ∷ []) (length h) e o (At-last h e) (subst (λ (z : ℕ). At (h ++ e ∷ []) z o) there at)

  pub based-same : (h : List Entry) (e : Entry) (old new : View) → Reaches (machine_of mt) setup h old → old.lost ≡ false → IsPlain e → StaysFixed h old (h ++ e ∷ []) new → new.shelf ≡ old.shelf
      → Based (h ++ e ∷ []) new
  based-same h (Began lane line op) old new r found plain fixed shelf = absurd (plain.begins_ lane line op refl)
  based-same h (Answered lane line answer) old new r found plain fixed shelf = absurd (plain.answers_ lane line answer refl)
  based-same h (Delivered b) old new r found plain fixed shelf = came h b refl
  based-same h (Sent b) old new r found plain fixed shelf = based-other h (Sent b) old new r found (λ n l a e. absurd cc) (λ c e. absurd cc) fixed shelf
  based-same h Failed old new r found plain fixed shelf = based-other h Failed old new r found (λ n l a e. absurd cc) (λ c e. absurd cc) fixed shelf
  based-same h (Dialed port) old new r found plain fixed shelf = based-other h (Dialed port) old new r found (λ n l a e. absurd cc) (λ c e. absurd cc) fixed shelf
  based-same h (Executed xid call reply) old new r found plain fixed shelf = based-other h (Executed xid call reply) old new r found (λ n l a e. absurd cc) (λ c e. absurd cc) fixed shelf
  based-same h (Foreign call reply) old new r found plain fixed shelf = based-other h (Foreign call reply) old new r found (λ n l a e. absurd cc) (λ c e. absurd cc) fixed shelf
  based-same h (Flushed file from len) old new r found plain fixed shelf = based-other h (Flushed file from len) old new r found (λ n l a e. absurd cc) (λ c e. absurd cc) fixed shelf
  based-same h (Reboot verf) old new r found plain fixed shelf = based-other h (Reboot verf) old new r found (λ n l a e. absurd cc) (λ c e. absurd cc) fixed shelf
  based-same h (Clock ms) old new r found plain fixed shelf = based-other h (Clock ms) old new r found (λ n l a e. absurd cc) (λ c e. absurd cc) fixed shelf

  -- ---- what is guarded wasn't left alone

  module _ (h rest : List Entry) (is : h ++ rest ≡ H) (v : View) (b : Based h v) (d : DropsKnown terms.modes h v) (soon : AllSoon H h v) (k : ℕ) (low : k < length h)
      (left : LeftAlone terms.modes H k f) (none : NoneCame H k (length h)) (number : ℕ) where
    -- the answer of the last close
    closed : At h k (Answered left.left.lane left.left.ended.line left.left.answer)
    closed = At-back h rest k (Answered left.left.lane left.left.ended.line left.left.answer)
        (subst (λ (z : List Entry). At z k (Answered left.left.lane left.left.ended.line left.left.answer)) (sym is) left.left.ended.answered) low

    -- as it rested, each answer that was ready is noted before the next record
    rested-soon : (r : Rested h v) → AllSoon H r.before r.old
    rested-soon r x a fixed =
        let n = soon x a (r.fixes x a fixed) in
        record {
          lane = n.lane;
          op = n.op;
          z = n.z;
          ended = n.ended;
          none = λ j bytes at from to. elim (cases_lt j (length h)) [
            | inl early ↦ r.uncame j bytes (At-back h rest j (Delivered bytes) (subst (λ (z : List Entry). At z j (Delivered bytes)) (sym is) at) early) from
            | inr late ↦ n.none j bytes at late to
          ];
        }

    not-slot : (place : ℕ × ℕ) (of : Opened) → finite.get v.shelf.opens place ≡ Some of → of.file ≡ f → ⊥
    not-slot place of there same = by b
      where
        after-record : (before : List Entry) (bytes : List ℕ) → h ≡ before ++ Delivered bytes ∷ [] → ⊥
        after-record before bytes eq = elim (cases_lt k (length before)) [
          | inl early ↦ none (length before) bytes got early (omega (arith, more))
          | inr late ↦ (
              let there : k ≡ length before = omega (arith, late, low, more) in
              came-answer bytes left.left.lane left.left.ended.line left.left.answer
              (At-one H (length before) (Delivered bytes) (Answered left.left.lane left.left.ended.line left.left.answer) got
              (subst (λ (z : ℕ). At H z (Answered left.left.lane left.left.ended.line left.left.answer)) there left.left.ended.answered)))
        ]
          where
            more : length h ≡ length before + 1
            more = ap length eq ∙ length_last before (Delivered bytes)

            got : At H (length before) (Delivered bytes)
            got = subst (λ (z : List Entry). At z (length before) (Delivered bytes)) is
                (At-grow h rest (length before) (Delivered bytes) (subst (λ (z : List Entry). At z (length before) (Delivered bytes)) (sym eq) (At-last before (Delivered bytes))))

        since-rest : (r : Rested h v) → ⊥
        since-rest r = elim (cases_lt k (length r.before)) [
          | inl early ↦ at early (r.less place)
          | inr late ↦ r.unanswered k left.left.lane left.left.ended.line left.left.answer closed late
        ]
          where
            whole : r.before ++ (r.after ++ rest) ≡ H
            whole = sym (append_assoc r.before r.after rest) ∙ ap (λ (z : List Entry). z ++ rest) r.is ∙ is

            shorter : length r.before ≤ length h
            shorter = let parts = length-append r.before r.after in let same = ap length r.is in omega (arith, parts, same)

            at : k < length r.before → (finite.get v.shelf.opens place ≡ finite.get r.old.shelf.opens place) ⊎ (finite.get v.shelf.opens place ≡ None) → ⊥
            at early (inr gone_) = none-opened of (sym gone_ ∙ there)
            at early (inl kept) =
                not-held mt terms setup H V g f r.before (r.after ++ rest) whole k early left (λ j bytes came_ from to. none j bytes came_ from (omega (arith, to, shorter))) place.0 place.1
                (rested-held r.before (r.after ++ rest) whole r.old r.reached r.found (rested-soon r) place.0 place.1 of (sym kept ∙ there) same)

        by : Based h v → ⊥
        by (came before bytes eq) = after-record before bytes eq
        by (rested r) = since-rest r

    pub guarded-not : IsGuarded number v f → ⊥
    guarded-not (slot place of there same all) = not-slot place of there same
    guarded-not (past n c removal fault close gone_ same refused all) = past-not mt terms setup H V g f h rest is k low left none v d n c removal close gone_ same
