-- A session makes no more calls of a kind than its operations need: the sum over those that ask for such calls, and over the replies that give one more, of which
-- each counts as often as a call may be made.
use Rattle.core_counts.proofs.Prelude.{◌≡◌, ◌≢◌, ◌<◌, ◌≤◌, ◌+◌, ◌*◌, ◌⊎◌, inl, inr, ℕ, zero, suc, nat_eq, List, [], ◌∷◌, ◌++◌, length, Bool, true, false, All, Option, Some, None, slice_get, refl, sym, ap, subst, ◌∙◌, arith, append_assoc, length-append, eqb-true, eqb-false, cases_lt, xid_at, Entry, Began, Answered, Dialed, Sent, Executed, Foreign, Flushed, Reboot, Delivered, Failed, Clock, Call, Op, Placed, AreDifferent, HasBegan, Carries, Few, RepliedAt, NoneBegan, IsCaused, IsCause, mounts, informs, asked, At, FirstSent, HasXid, SpellsCall, mount_call, info_call, AnsweredBefore, EndsAt, UnderWay, Terms, most_tries, FirstSent-grow, At-grow, At-back, At-below, At-one, Mounted, Machine, IsAsked, machine_of, Setup, View, Notes, begins-unbegun, Expects, expects-laws, IsNfs, one-call, IsSession, GoesFrom, all-asked, Outgoing, session}
use Rattle.std.proofs.Common.{fold, sum_by}
use Rattle.claims.specs.Asks.{Asks}
use Rattle.world_model.specs.Waiting.{Answers}
use Rattle.world_model.specs.Operations.{answered, unanswered}
use Rattle.world_model.proofs.Growth.{Answers-grow}
use Rattle.core_session.proofs.asked.Whole.{out-asked}
use Rattle.core_session.proofs.calls.Outgoing.{sent-nfs}
use Rattle.std.proofs.lemmas.List.Kept.{AllPairs-cons}
use Rattle.claims.specs.CallCounts.{Different as DifferentNumbers}
use Rattle.core_session.proofs.calls.Causes.{Now, Spelt}
use Rattle.core_session.proofs.order.PutWrites.{ends-at}
use Rattle.core_counts.proofs.counts.engine.Laws.{CountLaws, SeenLaws, seen-laws}
use Rattle.core_counts.proofs.counts.engine.Lists.{Each, each-map, each-join, each-all, all-each, Elsewhere, Apart, all-apart, apart-all, apart-join, with_key, others, with-each, others-each, split-length, Different, with-different, others-different}
use Rattle.core_counts.proofs.counts.engine.Ledger.{Row, In, Is, IsRoot, xid_of, rows-of, rows-fit, roots-of}
use Rattle.core_counts.proofs.counts.engine.Account.{FreshOf, Credit, Account}
use Rattle.core_counts.proofs.counts.engine.Book.{SentRow, Book}
use Rattle.core_counts.proofs.counts.engine.Booked.{Unlost, unlost, booked}
use Rattle.core_counts.proofs.counts.engine.Wider.{asks-wide}

-- the operation asks for such a call by its end
pub record AsksOne (terms : Terms) (h : List Entry) (P : Call → Type 0) (o : Placed) : Type 0 where
  pub call : Call
  pub is : P call
  pub end : ℕ
  pub began : HasBegan h o
  pub ends : EndsAt h o.0 end
  pub asks : Asks terms h o.0 end o.1 call

pub record Summed (terms : Terms) (h : List Entry) (P : Call → Type 0) (Q : Call → ℕ → List ℕ → Type 0) (base : Op → ℕ) : Type 0 where
  pub asking : List Placed
  pub credits : List ℕ
  pub different : AreDifferent asking
  pub each : All (AsksOne terms h P) asking
  pub apart : DifferentNumbers credits
  pub replied : All (RepliedAt h Q) credits
  pub few : Few h P (most_tries * (sum_by (λ (o : Placed). base o.1) asking + length credits))

-- an operation that wasn't answered before a place ends there or later
pub ends-late : (h : List Entry) (x n k : ℕ) → k ≤ length h → (AnsweredBefore h x k → ⊥) → EndsAt h x n → k ≤ n
ends-late h x n k within none (answered lane op answer d) = elim (cases_lt n k) [
  | inl lt ↦ absurd (none (record { lane = lane; op = op; y = n; answer = answer; ended = d; before = lt }))
  | inr ge ↦ omega (arith, ge)
]
ends-late h x n k within none (unanswered not is) = omega (arith, within, is)

module _ (m : Mounted) (terms : Terms) (setup : Setup) (before h : List Entry) (v : View) (from : GoesFrom m terms setup before h v) (n : Notes (machine_of m) setup h v)
    (P : Call → Type 0) (Q : Call → ℕ → List ℕ → Type 0) (is : Op → Type 0) (base : Op → ℕ) (Left : List Entry → ℕ → Op → Machine → ℕ → Type 0)
    (laws : SeenLaws m setup h P Q is base Left) (nfs : (call : Call) → P call → IsNfs call) (no_info : (root : List ℕ) → P (info_call root) → ⊥)
    (test : Call → Bool) (sound : (call : Call) → test call ≡ true → P call)
    (complete : (x i : ℕ) (op : Op) (call : Call) → Asks terms h x i op call → P call → test call ≡ true)
    (kind : (x i : ℕ) (op : Op) (call : Call) → HasBegan h (x, op) → IsAsked op → Asks terms h x i op call → P call → is op) where
  u : Unlost (machine_of m) setup h v
  u = unlost (machine_of m) setup h v n

  book : Book m setup h v P Q is base Left u.g u.gv
  book = booked m setup h v P Q is base Left laws u.g u.gv u.notes u.found u.on u.rest u.is

  its-session : IsSession m terms setup h v
  its-session = session m terms setup before h v from

  -- ---- what stands in the session before it was lost

  whole : {e : Entry} → (i : ℕ) → At u.g i e → At h i e
  whole {e} i at = subst (λ (k : List Entry). At k i e) (sym u.is) (At-grow u.g u.rest i e at)

  back : (i : ℕ) (bytes : List ℕ) → At h i (Sent bytes) → At u.g i (Sent bytes)
  back i bytes at = At-back u.g u.rest i (Sent bytes) (subst (λ (k : List Entry). At k i (Sent bytes)) u.is at) (u.sent i bytes at)

  abbrev SentFor : ℕ → ℕ → List ℕ → Type 0
  SentFor i xid bytes = SentRow m setup h v P Q is base Left book.rows u.g i xid bytes

  -- ---- each record that was sent

  module _ (i xid : ℕ) (bytes : List ℕ) (t : SentFor i xid bytes) where
    abbrev out : Outgoing (machine_of m) (begins-unbegun m) setup h i bytes
    out = record {
      before = t.out.before;
      after = t.out.after ++ u.rest;
      is = u.is ∙ ap (λ (k : List Entry). k ++ u.rest) t.out.is ∙ append_assoc t.out.before t.out.after u.rest;
      there = t.out.there;
      old = t.out.old;
      reached = t.out.reached;
      found = t.out.found;
      xid = t.out.xid;
      waiting = t.out.waiting;
      waits = t.out.waits;
      bytes_is = t.out.bytes_is;
      at = t.out.at;
      machine = t.out.machine;
      busy = t.out.busy;
      x = t.out.x;
      op = t.out.op;
      under_way = t.out.under_way;
      some = t.out.some;
      low = t.out.low;
      high = t.out.high;
    }

    abbrev spelt : Call
    spelt = Spelt m terms setup h v its-session i bytes out

    same-call : spelt ≡ t.row.call
    same-call = one-call t.out.xid xid spelt t.row.call bytes (sent-nfs (machine_of m) (begins-unbegun m) setup Expects expects-laws h i bytes out)
        (Now m terms setup h v its-session i bytes out).made.spells t.spells

    row-asked : Asks terms h t.row.x i t.row.op t.row.call
    row-asked =
        subst (λ (x : ℕ). Asks terms h x i t.row.op t.row.call) (sym t.x_is) (subst (λ (o : Op). Asks terms h t.out.x i o t.row.call) (sym t.op_is)
        (subst (Asks terms h t.out.x i t.out.op) same-call (out-asked m terms setup h v its-session i bytes out t.on t.noted)))

    row-began : HasBegan h (t.row.x, t.row.op)
    row-began = let k = book.sound.began t.row t.there in (k.0, k.1, whole t.row.x k.2)

    -- it was under way as the record was sent
    under : UnderWay t.out.before t.out.waiting.purpose.lane t.out.x (length t.out.before) t.out.op
    under = t.out.under_way

    unanswered-then : AnsweredBefore h t.row.x i → ⊥
    unanswered-then a =
        let d = a.ended in
        let early = a.before in
        let since = d.later in
        let place = t.out.there in
        let its = t.x_is in
        under.unanswered (record {
          lane = a.lane;
          op = a.op;
          y = a.y;
          answer = a.answer;
          ended = record {
            line = d.line;
            began = At-back t.out.before (t.out.after ++ u.rest) t.out.x (Began a.lane d.line a.op)
                (subst (λ (x : ℕ). At (t.out.before ++ (t.out.after ++ u.rest)) x (Began a.lane d.line a.op)) its (subst (λ (k : List Entry). At k t.row.x (Began a.lane d.line a.op)) out.is d.began))
                (omega (arith, place, early, since, its));
            answered = At-back t.out.before (t.out.after ++ u.rest) a.y (Answered a.lane d.line a.answer) (subst (λ (k : List Entry). At k a.y (Answered a.lane d.line a.answer)) out.is d.answered)
                (omega (arith, place, early));
            later = omega (arith, since, its);
            first = λ j other at past. d.first j other
                (subst (λ (k : List Entry). At k j (Answered a.lane d.line other)) (sym out.is) (At-grow t.out.before (t.out.after ++ u.rest) j (Answered a.lane d.line other) at)) (omega (arith, past, its));
          };
          before = omega (arith, place, early);
        })

    asks-one : P t.row.call → i < length h → AsksOne terms h P (t.row.x, t.row.op)
    asks-one p within =
        let e = ends-at h t.row.x row-began.0 row-began.1 t.row.op row-began.2 in
        record {
          call = t.row.call;
          is = p;
          end = e.0;
          began = row-began;
          ends = e.1;
          asks = asks-wide terms h t.row.x i e.0 (ends-late h t.row.x e.0 i (omega (arith, within)) unanswered-then e.1) t.row.op t.row.call row-asked;
        }

  -- a record that was sent before any operation began is no such call
  not-early : (i xid : ℕ) (bytes : List ℕ) (call : Call) → At u.g i (Sent bytes) → NoneBegan u.g i → SpellsCall xid call bytes → P call → ⊥
  not-early i xid bytes call at none spells p = by ((all-asked m terms setup before h v from n).caused i bytes (whole i at))
    where
      by : IsCaused terms h i bytes → ⊥
      by c = cause c.cause (one-call xid c.xid call c.call bytes (nfs call p) spells c.made.spells)
        where
          cause : IsCause terms h i c.call → call ≡ c.call → ⊥
          cause (mounts path origin same early) which = nfs (mount_call path) (subst P (which ∙ same) p)
          cause (informs root rooted same early) which = no_info root (subst P (which ∙ same) p)
          cause (asked lane x op w asks keeps) which =
              let low = At-below u.g i (Sent bytes) at in
              let since = w.before in
              none x lane w.line op (At-back u.g u.rest x (Began lane w.line op) (subst (λ (k : List Entry). At k x (Began lane w.line op)) u.is w.began) (omega (arith, low, since))) w.before

  -- ---- the operations that ask for such calls

  record Item : Type 0 where
    row : Row
    there : In row book.rows
    asks : AsksOne terms h P (row.x, row.op)
    fits : is row.op

  abbrev HasKey : ℕ → List Item → Type 0
  HasKey x [] = ⊥
  HasKey x (it ∷ items) = (it.row.x ≡ x) ⊎ HasKey x items

  abbrev KeysApart : List Item → Type 0
  KeysApart [] = Unit {0}
  KeysApart (it ∷ items) = Each (λ (o : Item). o.row.x ≢ it.row.x) items × KeysApart items

  has-key : (x : ℕ) (items : List Item) → HasKey x items ⊎ Each (λ (o : Item). o.row.x ≢ x) items
  has-key x [] = inr tt
  has-key x (it ∷ items) = by (nat_eq it.row.x x) refl (has-key x items)
    where
      by : (b : Bool) → nat_eq it.row.x x ≡ b → HasKey x items ⊎ Each (λ (o : Item). o.row.x ≢ x) items → HasKey x (it ∷ items) ⊎ Each (λ (o : Item). o.row.x ≢ x) (it ∷ items)
      by true d rest = inl (inl (eqb-true it.row.x x d))
      by false d (inl there) = inl (inr there)
      by false d (inr apart) = inr (eqb-false it.row.x x d, apart)

  -- those of the records before a place
  record Gathered (k : ℕ) : Type 0 where
    items : List Item
    apart : KeysApart items
    covers : (i xid : ℕ) (bytes : List ℕ) → i < k → At u.g i (Sent bytes) → HasXid bytes xid → (t : SentFor i xid bytes) → P t.row.call → HasKey t.row.x items

  add : (it : Item) (items : List Item) → KeysApart items → (more : List Item) × KeysApart more × HasKey it.row.x more × ((x : ℕ) → HasKey x items → HasKey x more)
  add it items apart = elim (has-key it.row.x items) [
    | inl there ↦ (items, apart, there, λ x has. has)
    | inr none ↦ (it ∷ items, (none, apart), inl refl, λ x has. inr has)
  ]

  sent-bytes : (a b : List ℕ) → Sent a ≡ Sent b → a ≡ b
  sent-bytes a b e = cc

  some-entry : (a b : Entry) → Some a ≡ Some b → a ≡ b
  some-entry a b e = cc

  some-number : (a b : ℕ) → Some a ≡ Some b → a ≡ b
  some-number a b e = cc

  module _ (k : ℕ) (early : Gathered k) where
    -- the entry at the place is none that counts
    skips : ((bytes : List ℕ) (xid : ℕ) → At u.g k (Sent bytes) → HasXid bytes xid → (t : SentFor k xid bytes) → P t.row.call → ⊥) → Gathered (suc k)
    skips none = record {
      items = early.items;
      apart = early.apart;
      covers = λ i xid bytes low at named t p. elim (cases_lt i k) [
        | inl lt ↦ early.covers i xid bytes lt at named t p
        | inr ge ↦ absurd (last i xid bytes low ge at named t p)
      ];
    }
      where
        last : (i xid : ℕ) (bytes : List ℕ) → i < suc k → k ≤ i → At u.g i (Sent bytes) → HasXid bytes xid → (t : SentFor i xid bytes) → P t.row.call → ⊥
        last i xid bytes low ge at named t p = by (omega (arith, low, ge)) at t p
          where
            by : k ≡ i → At u.g i (Sent bytes) → (t : SentFor i xid bytes) → P t.row.call → ⊥
            by same = subst (λ (j : ℕ). At u.g j (Sent bytes) → (t : SentFor j xid bytes) → P t.row.call → ⊥) same (λ there s q. none bytes xid there named s q)

    takes : (bytes : List ℕ) (xid : ℕ) → At u.g k (Sent bytes) → HasXid bytes xid → SentFor k xid bytes → Gathered (suc k)
    takes bytes xid at named t = by (test t.row.call) refl
      where
        same-row : (other : List ℕ) (its : ℕ) → At u.g k (Sent other) → HasXid other its → (s : SentFor k its other) → s.row ≡ t.row
        same-row other its there has s =
            let bytes_same : other ≡ bytes = sent-bytes other bytes (At-one u.g k (Sent other) (Sent bytes) there at) in
            let xid_same : its ≡ xid = some-number its xid (sym has ∙ ap xid_at bytes_same ∙ named) in
            book.sound.one s.row t.row s.there t.there (s.xid_is ∙ xid_same ∙ sym t.xid_is)

        within : k < length h
        within = At-below h k (Sent bytes) (whole k at)

        item : P t.row.call → Item
        item p = record {
          row = t.row;
          there = t.there;
          asks = asks-one k xid bytes t p within;
          fits = kind t.row.x k t.row.op t.row.call (row-began k xid bytes t)
              (its-session.asked t.row.x (row-began k xid bytes t).0 (row-began k xid bytes t).1 t.row.op (row-began k xid bytes t).2) (row-asked k xid bytes t) p;
        }

        with-item : (it : Item) → it.row ≡ t.row → Gathered (suc k)
        with-item it is_row =
            let more = add it early.items early.apart in
            record {
              items = more.0;
              apart = more.1;
              covers = λ i its other low there has s q. elim (cases_lt i k) [
                | inl lt ↦ more.3 s.row.x (early.covers i its other lt there has s q)
                | inr ge ↦ last more.0 more.2 i its other low ge there has s
              ];
            }
          where
            last : (items : List Item) → HasKey it.row.x items → (i its : ℕ) (other : List ℕ) → i < suc k → k ≤ i → At u.g i (Sent other) → HasXid other its → (s : SentFor i its other) → HasKey s.row.x items
            last items has_key i its other low ge there has s = by (omega (arith, low, ge)) there s
              where
                by : k ≡ i → At u.g i (Sent other) → (s : SentFor i its other) → HasKey s.row.x items
                by same = subst (λ (j : ℕ). At u.g j (Sent other) → (s : SentFor j its other) → HasKey s.row.x items) same
                    (λ now r. subst (λ (o : Row). HasKey o.x items) (is_row ∙ sym (same-row other its now has r)) has_key)

        by : (b : Bool) → test t.row.call ≡ b → Gathered (suc k)
        by false no_call = skips (λ other its there has s p.
            let q = subst (λ (o : Row). P o.call) (same-row other its there has s) p in
            absurd (let no_way : true ≡ false = sym (complete t.row.x k t.row.op t.row.call (row-asked k xid bytes t) q) ∙ no_call in cc))
        by true counts = with-item (item (sound t.row.call counts)) refl

    -- a record that was sent for an operation came after that began
    early-none : (bytes : List ℕ) (xid : ℕ) → NoneBegan u.g k → SentFor k xid bytes → ⊥
    early-none bytes xid none t =
        let b = book.sound.began t.row t.there in
        let since = t.out.under_way.before in
        let place = t.out.there in
        let its = t.x_is in
        none t.row.x b.0 b.1 t.row.op b.2 (omega (arith, since, place, its))

    goes-on : Gathered (suc k)
    goes-on = by (slice_get u.g k) refl
      where
        no-bytes : (bytes : List ℕ) → None ≡ Some (Sent bytes) → ⊥
        no-bytes bytes e = absurd (cc)

        other : (e : Entry) → slice_get u.g k ≡ Some e → ((bytes : List ℕ) → e ≡ Sent bytes → ⊥) → Gathered (suc k)
        other e here none = skips (λ bytes xid at named t p. none bytes (some-entry e (Sent bytes) (sym here ∙ at)))

        sent : (bytes : List ℕ) → slice_get u.g k ≡ Some (Sent bytes) → (o : Option ℕ) → xid_at bytes ≡ o → Gathered (suc k)
        sent bytes here None none = skips (λ its xid at named t p.
            let bytes_same : its ≡ bytes = sent-bytes its bytes (some-entry (Sent its) (Sent bytes) (sym at ∙ here)) in
            absurd (let no_way : None ≡ Some xid = sym none ∙ ap xid_at (sym bytes_same) ∙ named in cc))
        sent bytes here (Some xid) named = elim (book.sound.sents k xid bytes here named) [
          | inl none ↦ skips (λ its number at has t p. early-none its number none t)
          | inr t ↦ takes bytes xid here named t
        ]

        by : (o : Option Entry) → slice_get u.g k ≡ o → Gathered (suc k)
        by None here = skips (λ bytes xid at named t p. no-bytes bytes (sym here ∙ at))
        by (Some (Sent bytes)) here = sent bytes here (xid_at bytes) refl
        by (Some (Began lane line op)) here = other (Began lane line op) here (λ bytes e. absurd (cc))
        by (Some (Answered lane line answer)) here = other (Answered lane line answer) here (λ bytes e. absurd (cc))
        by (Some (Dialed port)) here = other (Dialed port) here (λ bytes e. absurd (cc))
        by (Some (Executed xid call reply)) here = other (Executed xid call reply) here (λ bytes e. absurd (cc))
        by (Some (Foreign call reply)) here = other (Foreign call reply) here (λ bytes e. absurd (cc))
        by (Some (Flushed file at len)) here = other (Flushed file at len) here (λ bytes e. absurd (cc))
        by (Some (Reboot verf)) here = other (Reboot verf) here (λ bytes e. absurd (cc))
        by (Some (Delivered bytes)) here = other (Delivered bytes) here (λ its e. absurd (cc))
        by (Some Failed) here = other Failed here (λ bytes e. absurd (cc))
        by (Some (Clock ms)) here = other (Clock ms) here (λ bytes e. absurd (cc))

  gathered : (k : ℕ) → Gathered k
  gathered zero = record { items = []; apart = tt; covers = λ i xid bytes low at named t p. absurd (omega (arith, low)) }
  gathered (suc k) = goes-on k (gathered k)

  all : Gathered (length u.g)
  all = gathered (length u.g)

  -- ---- their accounts

  account : (it : Item) → (left : ℕ) × Account P Q base book.rows u.g it.row.x it.row.op left
  account it = let k = book.sound.began it.row it.there in let b = book.budgets it.row.x k.0 k.1 it.row.op k.2 it.fits in (b.left, b.account)

  abbrev credits_of : Item → List ℕ
  credits_of it = (account it).1.credits

  abbrev most : List Item → ℕ
  most [] = 0
  most (it ∷ items) = (base it.row.op + length (credits_of it)) + most items

  abbrev IsCall : Row → Type 0
  IsCall r = P r.call

  abbrev InKeys : List Item → Row → Type 0
  InKeys items r = HasKey r.x items

  -- the first calls of these operations
  within : (items : List Item) (rs : List Row) → Different xid_of rs → Each (λ (r : Row). (In r book.rows × IsRoot IsCall r) × InKeys items r) rs → length rs ≤ most items
  within [] [] d e = omega arith
  within [] (r ∷ rs) d e = absurd e.0.1
  within (it ∷ items) rs d e =
      let x = it.row.x in
      let mine = with_key key x rs in
      let rest = others key x rs in
      let size = split-length key x rs in
      let a = account it in
      let own = rows-fit book.rows (FreshOf P Q base x) a.0 (base it.row.op + length a.1.credits) a.1.room (with_key key x rs) (with-different key xid_of x rs d)
      (each-map (λ (r : Row). ((In r book.rows × IsRoot IsCall r) × InKeys (it ∷ items) r) × (r.x ≡ x)) (λ (r : Row). In r book.rows × FreshOf P Q base x r)
      (λ r p. (p.0.0.0, (p.0.0.1.0, p.1, p.0.0.1.1))) (with_key key x rs) (with-each key (λ (r : Row). (In r book.rows × IsRoot IsCall r) × InKeys (it ∷ items) r) x rs e)) in
      let more = within items (others key x rs) (others-different key xid_of x rs d)
      (each-map (λ (r : Row). ((In r book.rows × IsRoot IsCall r) × InKeys (it ∷ items) r) × (r.x ≢ x)) (λ (r : Row). (In r book.rows × IsRoot IsCall r) × InKeys items r)
      (λ r p. (p.0.0, later r p.0.1 p.1)) (others key x rs) (others-each key (λ (r : Row). (In r book.rows × IsRoot IsCall r) × InKeys (it ∷ items) r) x rs e)) in
      omega (arith, size, own, more)
    where
      key : Row → ℕ
      key r = r.x

      later : (r : Row) → InKeys (it ∷ items) r → r.x ≢ it.row.x → InKeys items r
      later r (inl same) apart = absurd (apart (sym same))
      later r (inr there) apart = there

  -- ---- in the words of the counts

  abbrev placed : List Item → List Placed
  placed [] = []
  placed (it ∷ items) = (it.row.x, it.row.op) ∷ placed items

  abbrev replies_of : List Item → List ℕ
  replies_of [] = []
  replies_of (it ∷ items) = credits_of it ++ replies_of items

  fold-more : (os : List Placed) (a : ℕ) → fold (λ (k : ℕ) (o : Placed). k + base o.1) a os ≡ a + sum_by (λ (o : Placed). base o.1) os
  fold-more [] a = omega arith
  fold-more (o ∷ os) a = let one = fold-more os (a + base o.1) in let two = fold-more os (0 + base o.1) in omega (arith, one, two)

  most-is : (items : List Item) → most items ≡ sum_by (λ (o : Placed). base o.1) (placed items) + length (replies_of items)
  most-is [] = refl
  most-is (it ∷ items) =
      let rest = most-is items in
      let size = length-append (credits_of it) (replies_of items) in
      let sum_is = fold-more (placed items) (0 + base it.row.op) in
      omega (arith, rest, size, sum_is)

  asks-each : (items : List Item) → Each (AsksOne terms h P) (placed items)
  asks-each [] = tt
  asks-each (it ∷ items) = (it.asks, asks-each items)

  elsewhere : (x : ℕ) (items : List Item) → Each (λ (o : Item). o.row.x ≢ x) items → Each (λ (o : Placed). x ≢ o.0) (placed items)
  elsewhere x [] e = tt
  elsewhere x (it ∷ items) e = (λ same. e.0 (sym same), elsewhere x items e.1)

  different : (items : List Item) → KeysApart items → AreDifferent (placed items)
  different [] a = λ i j d low within_. absurd (omega (arith, within_))
  different (it ∷ items) a =
      AllPairs-cons (λ (p q : Placed). p.0 ≢ q.0) (it.row.x, it.row.op) (placed items) (each-all (λ (o : Placed). it.row.x ≢ o.0) (placed items) (elsewhere it.row.x items a.0)) (different items a.1)

  -- each reply gave one call more to one operation alone
  one-credit : (x y at : ℕ) → Credit P Q base book.rows u.g x at → Credit P Q base book.rows u.g y at → x ≡ y
  one-credit x y at c d =
      let place : c.heard.got_at ≡ d.heard.got_at = c.here ∙ sym d.here in
      let same = delivered-bytes c.bytes d.bytes (At-one u.g d.heard.got_at (Delivered c.bytes) (Delivered d.bytes) (subst (λ (k : ℕ). At u.g k (Delivered c.bytes)) place c.heard.got.got) d.heard.got.got) in
      let number : c.xid ≡ d.xid = some-number c.xid d.xid (sym c.heard.got.under ∙ ap xid_at same ∙ d.heard.got.under) in
      let row = book.sound.one c.row.0 d.row.0 c.row.1 d.row.1 (c.row.2 ∙ number ∙ sym d.row.2) in
      sym c.row.3 ∙ ap (λ (r : Row). r.x) row ∙ d.row.3
    where
      delivered-bytes : (a b : List ℕ) → Delivered a ≡ Delivered b → a ≡ b
      delivered-bytes a b e = cc

  apart-from : (x : ℕ) (items : List Item) → Each (λ (o : Item). o.row.x ≢ x) items → (at : ℕ) → Credit P Q base book.rows u.g x at → Elsewhere at (replies_of items)
  apart-from x [] e at c = tt
  apart-from x (it ∷ items) e at c =
      each-join (λ (other : ℕ). other ≢ at) (credits_of it) (replies_of items)
      (each-map (Credit P Q base book.rows u.g it.row.x) (λ (other : ℕ). other ≢ at)
      (λ other d same. e.0 (one-credit it.row.x x at (subst (Credit P Q base book.rows u.g it.row.x) same d) c)) (credits_of it) (account it).1.each)
      (apart-from x items e.1 at c)

  replies-apart : (items : List Item) → KeysApart items → Apart (replies_of items)
  replies-apart [] a = tt
  replies-apart (it ∷ items) a =
      apart-join (credits_of it) (replies_of items) (account it).1.apart (replies-apart items a.1)
      (each-map (Credit P Q base book.rows u.g it.row.x) (λ (at : ℕ). Elsewhere at (replies_of items)) (λ at c. apart-from it.row.x items a.0 at c) (credits_of it) (account it).1.each)

  replied : (x at : ℕ) → Credit P Q base book.rows u.g x at → RepliedAt h Q at
  replied x at c = record {
    call = c.call;
    xid = c.xid;
    bytes = c.bytes;
    heard = record {
      sent_at = c.heard.sent_at;
      record_sent = c.heard.record_sent;
      got_at = c.heard.got_at;
      sent = subst (λ (k : List Entry). FirstSent k c.heard.sent_at c.xid c.heard.record_sent) (sym u.is) (FirstSent-grow u.g u.rest c.heard.sent_at c.xid c.heard.record_sent c.heard.sent);
      spells = c.heard.spells;
      got = subst (λ (k : List Entry). Answers k c.heard.got_at c.xid c.bytes) (sym u.is) (Answers-grow u.g u.rest c.heard.got_at c.xid c.bytes c.heard.got);
      after = c.heard.after;
      later = c.heard.later;
      before = let low = c.heard.before in let size = ap length u.is ∙ length-append u.g u.rest in omega (arith, low, size);
    };
    here = c.here;
    is = c.gives;
  }

  replied-each : (items : List Item) → Each (RepliedAt h Q) (replies_of items)
  replied-each [] = tt
  replied-each (it ∷ items) =
      each-join (RepliedAt h Q) (credits_of it) (replies_of items) (each-map (Credit P Q base book.rows u.g it.row.x) (RepliedAt h Q) (replied it.row.x) (credits_of it) (account it).1.each) (replied-each items)

  -- ---- all such calls

  abbrev Counts : Row → Type 0
  Counts r = P r.call × InKeys all.items r

  its-row : (xid : ℕ) → Carries h P xid → Is book.rows Counts xid
  its-row xid c = by (book.sound.sents c.at xid c.bytes there c.sent.under)
    where
      there : At u.g c.at (Sent c.bytes)
      there = back c.at c.bytes c.sent.sent

      by : NoneBegan u.g c.at ⊎ SentFor c.at xid c.bytes → Is book.rows Counts xid
      by (inl none) = absurd (not-early c.at xid c.bytes c.call there none c.spells c.is)
      by (inr t) =
          let same : c.call ≡ t.row.call = one-call xid xid c.call t.row.call c.bytes (nfs c.call c.is) c.spells t.spells in
          let p = subst P same c.is in
          (t.row, t.there, t.xid_is, (p, all.covers c.at xid c.bytes (At-below u.g c.at (Sent c.bytes) there) there c.sent.under t p))

  few : Few h P (most_tries * (sum_by (λ (o : Placed). base o.1) (placed all.items) + length (replies_of all.items)))
  few xids apart each =
      let rows = roots-of book.rows Counts book.sound.rooted (λ r there q p. (subst P (sym q.call) p.0, subst (λ (k : ℕ). HasKey k all.items) (sym q.x) p.1)) book.sound.few xids (all-apart xids apart)
      (each-map (Carries h P) (Is book.rows Counts) its-row xids (all-each (Carries h P) xids each)) in
      let f = rows-of book.rows (IsRoot Counts) rows.roots rows.apart rows.each in
      let most_of = within all.items f.found f.different (each-map (λ (r : Row). In r book.rows × IsRoot Counts r) (λ (r : Row). (In r book.rows × IsRoot IsCall r) × InKeys all.items r)
      (λ r p. ((p.0, (p.1.0, p.1.1.0)), p.1.1.1)) f.found f.each) in
      let many = rows.few in
      let size = f.all in
      let total = most-is all.items in
      omega (arith, most_of, many, size, total)

  pub summed-seen : Summed terms h P Q base
  summed-seen = record {
    asking = placed all.items;
    credits = replies_of all.items;
    different = different all.items all.apart;
    each = each-all (AsksOne terms h P) (placed all.items) (asks-each all.items);
    apart = apart-all (replies_of all.items) (replies-apart all.items all.apart);
    replied = each-all (RepliedAt h Q) (replies_of all.items) (replied-each all.items);
    few = few;
  }

-- by the laws that need no view
module _ (m : Mounted) (terms : Terms) (setup : Setup) (before h : List Entry) (v : View) (from : GoesFrom m terms setup before h v) (n : Notes (machine_of m) setup h v)
    (P : Call → Type 0) (Q : Call → ℕ → List ℕ → Type 0) (is : Op → Type 0) (base : Op → ℕ) (Left : List Entry → ℕ → Op → Machine → ℕ → Type 0)
    (laws : CountLaws (machine_of m) P Q is base Left) (nfs : (call : Call) → P call → IsNfs call) (no_info : (root : List ℕ) → P (info_call root) → ⊥)
    (test : Call → Bool) (sound : (call : Call) → test call ≡ true → P call)
    (complete : (x i : ℕ) (op : Op) (call : Call) → Asks terms h x i op call → P call → test call ≡ true)
    (kind : (x i : ℕ) (op : Op) (call : Call) → HasBegan h (x, op) → IsAsked op → Asks terms h x i op call → P call → is op) where
  pub summed : Summed terms h P Q base
  summed = summed-seen m terms setup before h v from n P Q is base Left (seen-laws m setup h P Q is base Left laws) nfs no_info test sound complete kind
