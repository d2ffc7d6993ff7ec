-- Along a session of one lane pages that are followed stay, from where they were given.
use Rattle.core_counts.proofs.Prelude.{◌≡◌, ◌<◌, ◌≤◌, ◌+◌, ◌⊎◌, inl, inr, ℕ, Bool, true, false, nat_eq, List, [], ◌∷◌, ◌++◌, length, Option, Some, None, slice_get, refl, sym, ap, subst, ◌∙◌, arith, append_assoc, eqb-true, eqb-false, cases_lt, All-nil, Attr, Stamp, stamp_of, Waiting, waiting_at, Pages, after_page, Answer, Entry, Began, Answered, Delivered, Call, Reply, Op, At, Heard, OneLane, At-grow, At-back, At-last, length_last, Step, Shelf, Mounted, Machine, machine_of, Starts, Lane, Purpose, Busy, Over, Setup, IsFresh, IsIdle, numbers_of, with_state, Stirs, counted, StartsLane, AnswersAt, View, turn_at, IsSetUp, Reaches, begins-unbegun, Known, lanes-under-way, idle-numbers, number_of, at-set, at-push, get-push, get-remove, skip, to-map, Rows, rows-stay, same-rows, silent-grow, ThenOf, set-other, SameCalls}
use Rattle.std.proofs.Common.{remove}
use Rattle.claims.specs.Thrifty.{CameWithin, ChangesFile}
use Rattle.core_facts.proofs.Lists.{skip-other}
use Rattle.claims.specs.Shown.{ShowsAttr}
use Rattle.client_shelf.specs.declared.step.Step.TheVariants as nexts
use Rattle.core_facts.proofs.Owning.{reached-owned}
use Rattle.core_session.proofs.current.FedMachines.{pages-starts, pages-resumes}
use Rattle.core_counts.proofs.thrift.Calm.{Calm, Kind, quiet, putting, saver, Young, leads-calm}
use Rattle.core_counts.proofs.thrift.Distinct.{Few}
use Rattle.core_counts.proofs.thrift.DropsAlong.{IsPlain}
use Rattle.core_counts.proofs.thrift.Growth.{GoodPages, good-shown}
use Rattle.core_counts.proofs.thrift.Holds.{HoldsPage}
use Rattle.core_counts.proofs.thrift.MetReads.{MetBefore}
use Rattle.core_counts.proofs.thrift.OpKinds.{OpKind, reads, stores, puts, op-kind}
use Rattle.core_counts.proofs.thrift.PutOpenings.{IsEither, PutThen, putting-starts, putting-resumes}
use Rattle.core_counts.proofs.thrift.Quiet.{ThenQuiet, starts-quiet, resumes-quiet}
use Rattle.core_counts.proofs.thrift.Savers.{IsSaver, saver-starts, saver-resumes}
use Rattle.page_cache.specs.Pages.{nothing_kept}

-- ---- the session

-- A session of one lane, which began with no pages, in which a page of a file was given at the place `at`, after the open at the place o. From o to n nothing shows a change.
pub record Case (m : Mounted) (setup : Setup) : Type 0 where
  pub H : List Entry
  pub one : OneLane H
  pub bare : setup.pages ≡ nothing_kept
  pub o : ℕ
  pub at : ℕ
  pub n : ℕ
  pub i : ℕ
  pub f : List ℕ
  pub s : Stamp
  pub shown : (call : Call) (reply : Reply) (attr : Attr) → CameWithin H o n call reply → ShowsAttr call reply f attr → stamp_of attr ≡ s
  pub unwritten : (call : Call) (xid : ℕ) (bytes : List ℕ) → ChangesFile f call → (heard : Heard H 0 n call xid bytes) → o < heard.got_at → ⊥
  pub few : Few (λ (g : List ℕ) (j : ℕ). MetBefore H n (g, j))
  pub after : o < at
  pub open_lane : ℕ
  pub open_line : ℕ
  pub open_op : Op
  pub opened_at : At H o (Began open_lane open_line open_op)
  pub given_bytes : List ℕ
  pub given_at : At H at (Delivered given_bytes)

some-entry : (a c : Entry) → Some a ≡ Some c → a ≡ c
some-entry a c e = cc

none-busy : (number : ℕ) (machine : Machine) → ◌≡◌ {A = Option Lane} None (Some (record { number = number; state = Busy machine })) → ⊥
none-busy number machine e = cc

false-true : {A : Type 0} → false ≡ true → A
false-true e = absurd (cc)

-- ---- what is known of one of its views

module _ (m : Mounted) (setup : Setup) (q : Case m setup) where
  abbrev pub Follows : List Entry → List ℕ → Stamp → ℕ → Type 0
  Follows h g t j = (g ≡ q.f) × (t ≡ q.s) × (j ≡ q.i) × (q.at < length h)

  abbrev pub Met : List ℕ → ℕ → Type 0
  Met g j = MetBefore q.H q.n (g, j)

  abbrev pub GoodAt : List Entry → ℕ → Pages → Type 0
  GoodAt h b c = GoodPages Met (Follows h) (λ g t j p. q.few) b c

  abbrev pub Yet : List Entry → Type 0
  Yet h = q.at < length h

  abbrev pub CalmHere : List Entry → View → Type 0
  CalmHere h v = Calm Met q.few (Follows h) v

  abbrev pub CalmAt : List Entry → View → Type 0
  CalmAt h v = (rest : List Entry) → h ++ rest ≡ q.H → length h ≤ q.n → CalmHere h v

  pub shows : (h : List Entry) (b : ℕ) (file : List ℕ) (index : ℕ) (c : Pages) → GoodAt h b c → GoodAt h b (after_page file index c)
  shows h b file index c k = good-shown Met (Follows h) (λ g t j p. q.few) b file index c k

  pub grow-with : (h : List Entry) (e : Entry) (b more : ℕ) (c : Pages) → b ≤ more → (q.at ≡ length h → HoldsPage q.f q.s q.i c) → GoodAt h b c → GoodAt (h ++ e ∷ []) more c
  grow-with h e b more c le held k = record {
    marks = λ g j is. let low = k.marks g j is in omega (arith, low, le);
    met = k.met;
    distinct = k.distinct;
    room = k.room;
    holds = λ g t j p. by g t j p (cases_lt q.at (length h));
  }
    where
      by : (g : List ℕ) (t : Stamp) (j : ℕ) → Follows (h ++ e ∷ []) g t j → (q.at < length h) ⊎ (length h ≤ q.at) → HoldsPage g t j c
      by g t j p (inl low) = k.holds g t j (p.0, p.1, p.2, low)
      by g t j p (inr high) =
          let more_ = length_last h e in
          let within = p.3 in
          subst (λ (x : List ℕ). HoldsPage x t j c) (sym p.0) (subst (λ (x : Stamp). HoldsPage q.f x j c) (sym p.1) (subst (λ (x : ℕ). HoldsPage q.f q.s x c) (sym p.2)
          (held (omega (arith, high, more_, within)))))

  pub not-now : (h : List Entry) (e : Entry) (rest : List Entry) → (h ++ e ∷ []) ++ rest ≡ q.H → ((bytes : List ℕ) → e ≡ Delivered bytes → ⊥) → q.at ≡ length h → ⊥
  not-now h e rest is other same =
      let here : At q.H (length h) e = subst (λ (k : List Entry). At k (length h) e) is (At-grow (h ++ e ∷ []) rest (length h) e (At-last h e)) in
      other q.given_bytes (some-entry e (Delivered q.given_bytes) (sym here ∙ ap (slice_get q.H) (sym same) ∙ q.given_at))

  pub calm-grows : (h : List Entry) (e : Entry) (v : View) → (q.at ≡ length h → ⊥) → CalmHere h v → CalmHere (h ++ e ∷ []) v
  calm-grows h e v off c = record {
    b = c.b;
    low = c.low;
    pages = grow-with h e c.b c.b v.shelf.pages (omega arith) (λ same. absurd (off same)) c.pages;
    lanes = c.lanes;
  }

  pub before-last : (h : List Entry) (e : Entry) (rest : List Entry) → (h ++ e ∷ []) ++ rest ≡ q.H → h ++ (e ∷ rest) ≡ q.H
  before-last h e rest is = sym (append_assoc h (e ∷ []) rest) ∙ is

  pub shorter : (h : List Entry) (e : Entry) → length (h ++ e ∷ []) ≤ q.n → length h ≤ q.n
  shorter h e within = let more = length_last h e in omega (arith, within, more)

  -- ---- the only lane

  pub alone : (h rest : List Entry) (v : View) → h ++ rest ≡ q.H → Known setup h v → (k : ℕ) (lane : Lane) → slice_get v.lanes k ≡ Some lane → (j : ℕ) (other : Lane) → slice_get v.lanes j ≡ Some other → j ≡ k
  alone h rest v is known k lane there j other here =
      let under = lanes-under-way h v known.lanes in
      let x = under.busy k lane there in
      let y = under.busy j other here in
      let same = q.one y.x x.x other.number lane.number y.under_way.line x.under_way.line y.op x.op
      (subst (λ (z : List Entry). At z y.x (Began other.number y.under_way.line y.op)) is (At-grow h rest y.x (Began other.number y.under_way.line y.op) y.under_way.began))
      (subst (λ (z : List Entry). At z x.x (Began lane.number x.under_way.line x.op)) is (At-grow h rest x.x (Began lane.number x.under_way.line x.op) x.under_way.began)) in
      under.apart j k other lane here there same

  -- ---- steps of each kind

  pub quiet-then : (b : ℕ) (v : View) → Young b v → (next : Step) (new : Machine) → ThenQuiet b next new → ThenOf (Kind b v) (λ answer. Unit {0}) next new
  quiet-then b v young (nexts.Send call) new k = quiet young k
  quiet-then b v young nexts.Wait new k = quiet young k
  quiet-then b v young (nexts.Done answer) new k = tt

  either : (b : ℕ) (v : View) → Young b v → (new : Machine) → IsEither b new → Kind b v new
  either b v young new (inl k) = putting young k
  either b v young new (inr k) = saver k

  pub putting-then : (b : ℕ) (v : View) → Young b v → (next : Step) (new : Machine) → PutThen b next new
      → ThenOf (Kind b v) (λ answer. Unit {0}) next new
  putting-then b v young (nexts.Send call) new k = either b v young new k
  putting-then b v young nexts.Wait new k = either b v young new k
  putting-then b v young (nexts.Done answer) new k = tt

  pub saver-then : (b : ℕ) (v : View) (next : Step) (new : Machine) → ThenOf IsSaver (λ answer. Unit {0}) next new → ThenOf (Kind b v) (λ answer. Unit {0}) next new
  saver-then b v (nexts.Send call) new k = saver k
  saver-then b v nexts.Wait new k = saver k
  saver-then b v (nexts.Done answer) new k = tt

  -- ---- where nothing comes

  pub fresh-calm : (h : List Entry) (v : View) → IsSetUp setup h → IsFresh setup v → CalmAt h v
  fresh-calm h v up fresh rest is within = record {
    b = 0;
    low = omega arith;
    pages = subst (GoodAt h 0) (sym (fresh.pages ∙ q.bare)) (record {
      marks = λ g k at_. absurd (cc);
      met = All-nil (λ p. Met p.0.file p.0.index);
      distinct = tt;
      room = refl;
      holds = λ g t j p.
          let low = p.3 in
          let first = q.after in
          absurd (up.unbegun q.o q.open_lane q.open_line q.open_op
          (At-back h rest q.o (Began q.open_lane q.open_line q.open_op) (subst (λ (k : List Entry). At k q.o (Began q.open_lane q.open_line q.open_op)) (sym is) q.opened_at) (omega (arith, low, first))));
    });
    lanes = λ k number machine there. absurd (none-busy number machine (ap (λ (ls : List Lane). slice_get ls k) (sym fresh.lanes) ∙ there));
  }

  -- ---- where its machine goes on

  module _ (h rest : List Entry) (is : h ++ rest ≡ q.H) (old new : View) (k : ℕ) (known : Known setup h old) (t : Stirs old k new) (c : CalmHere h old) where
    abbrev mid : View
    mid = with_state old k t.number (Busy t.after) t.shelf

    only : (j : ℕ) (other : Lane) → slice_get old.lanes j ≡ Some other → j ≡ k
    only = alone h rest old is known k (record { number = t.number; state = Busy t.machine }) t.there

    only-mid : (j : ℕ) (other : Lane) → slice_get mid.lanes j ≡ Some other → j ≡ k
    only-mid j other here = by (nat_eq j k) refl
      where
        by : (b : Bool) → nat_eq j k ≡ b → j ≡ k
        by true e = eqb-true j k e
        by false e = only j other (sym (set-other old.lanes k j (record { number = t.number; state = Busy t.after }) (eqb-false j k e)) ∙ here)

    stirred : Kind c.b old t.machine → ThenOf (Kind c.b mid) (λ answer. Unit {0}) t.next t.after
    stirred (quiet young k_) =
        quiet-then c.b mid young t.next t.after (resumes-quiet c.b t.machine old.wsize (turn_at old) old.shelf t.next t.after t.shelf k_ t.resumes)
    stirred (putting young k_) =
        putting-then c.b mid young t.next t.after (putting-resumes c.b t.machine old.wsize (turn_at old) old.shelf t.next t.after t.shelf k_ t.resumes)
    stirred (saver own) = saver-then c.b mid t.next t.after (saver-resumes t.machine old.wsize (turn_at old) old.shelf t.next t.after t.shelf own t.resumes)

    pub stirs-here : CalmHere h new
    stirs-here =
        leads-calm Met q.few (Follows h) setup h mid new k t.number t.after t.next
        ((rows-stay setup h).sets old k t.number (Busy t.machine) (Busy t.after) t.shelf t.there known.rows)
        (record {
          b = c.b;
          low = c.low;
          pages = pages-resumes (GoodAt h c.b) (shows h c.b) t.machine old.wsize (turn_at old) old.shelf t.next t.after t.shelf t.resumes c.pages;
          there = at-set old.lanes k (record { number = t.number; state = Busy t.machine }) (record { number = t.number; state = Busy t.after }) t.there;
          own = stirred (c.lanes k t.number t.machine t.there);
          alone = only-mid;
        }) t.leads

  pub stirs-calm : (h : List Entry) (old new : View) (k : ℕ) → Known setup h old → Stirs old k new → CalmAt h old → CalmAt h new
  stirs-calm h old new k known t all rest is within = stirs-here h rest is old new k known t (all rest is within)

  -- ---- where an operation begins

  module _ (h : List Entry) (old new : View) (lane line : ℕ) (op : Op) (now : ℕ) (r : Reaches (machine_of m) setup h old) (found : old.lost ≡ false) (known : Known setup h old)
      (idle : IsIdle lane old.lanes) (t : StartsLane (counted old now) lane (machine_of m lane op) new) (rest : List Entry) (is : (h ++ Began lane line op ∷ []) ++ rest ≡ q.H)
      (within : length (h ++ Began lane line op ∷ []) ≤ q.n) (c : CalmHere h old) where
    abbrev begun_mid : View
    begun_mid = record (counted old now) { lanes = old.lanes ++ record { number = lane; state = Busy t.after } ∷ []; shelf = t.shelf }

    begun : At q.H (length h) (Began lane line op)
    begun = subst (λ (k : List Entry). At k (length h) (Began lane line op)) is (At-grow (h ++ Began lane line op ∷ []) rest (length h) (Began lane line op) (At-last h (Began lane line op)))

    -- its lane is the one of each operation that began before, so that none is under way
    none-before : (k : ℕ) (other : Lane) → slice_get old.lanes k ≡ Some other → ⊥
    none-before k other there =
        let x = (lanes-under-way h old known.lanes).busy k other there in
        let same = q.one x.x (length h) other.number lane x.under_way.line line x.op op
        (subst (λ (z : List Entry). At z x.x (Began other.number x.under_way.line x.op)) (before-last h (Began lane line op) rest is)
        (At-grow h (Began lane line op ∷ rest) x.x (Began other.number x.under_way.line x.op) x.under_way.began)) begun in
        idle-numbers lane (numbers_of old.lanes) idle.other k (to-map number_of old.lanes k other there ∙ ap Some same)

    none-waits : (xid : ℕ) (w : Waiting Purpose) → waiting_at xid old.calls.calls ≡ Some w → ⊥
    none-waits xid w waits =
        let own = (reached-owned (machine_of m) (begins-unbegun m) setup h old r found).owned xid w waits in
        none-before own.at (record { number = w.purpose.lane; state = Busy own.machine }) own.there

    none-young : (b : ℕ) → Young b begun_mid
    none-young b xid w waits = absurd (none-waits xid w waits)

    started : OpKind m lane op → ThenOf (Kind (old.moments + 1) begun_mid) (λ answer. Unit {0}) t.next t.after
    started (reads only) =
        quiet-then (old.moments + 1) begun_mid (none-young (old.moments + 1)) t.next t.after
        (starts-quiet (old.moments + 1) m lane op old.wsize (turn_at (counted old now)) old.shelf t.next t.after t.shelf (omega arith) only t.starts)
    started (stores file at_ own) =
        saver-then (old.moments + 1) begun_mid t.next t.after
        (saver-starts file old.wsize (turn_at (counted old now)) old.shelf t.next t.after t.shelf own
        (subst (λ (z : Machine). Starts old.wsize z (turn_at (counted old now)) old.shelf t.next t.after t.shelf) at_ t.starts))
    started (puts path put at_ opener way) =
        putting-then (old.moments + 1) begun_mid (none-young (old.moments + 1)) t.next t.after
        (putting-starts (old.moments + 1) path put old.wsize (turn_at (counted old now)) old.shelf t.next t.after t.shelf opener (omega arith) way
        (subst (λ (z : Machine). Starts old.wsize z (turn_at (counted old now)) old.shelf t.next t.after t.shelf) at_ t.starts))

    only-begun : (j : ℕ) (other : Lane) → slice_get begun_mid.lanes j ≡ Some other → j ≡ length old.lanes
    only-begun j other here = by (get-push old.lanes (record { number = lane; state = Busy t.after }) j other here)
      where
        by : (slice_get old.lanes j ≡ Some other) ⊎ ((j ≡ length old.lanes) × (◌≡◌ {A = Lane} other (record { number = lane; state = Busy t.after }))) → j ≡ length old.lanes
        by (inl there) = absurd (none-before j other there)
        by (inr now_) = now_.0

    begun-rows : Rows setup (h ++ Began lane line op ∷ []) (counted old now)
    begun-rows = same-rows setup (h ++ Began lane line op ∷ []) old (counted old now) refl (silent-grow setup h (Began lane line op) old (record { sent = λ bytes e. cc; came = λ bytes e. cc }) known.rows)

    pub starts-here : CalmHere (h ++ Began lane line op ∷ []) new
    starts-here =
        leads-calm Met q.few (Follows (h ++ Began lane line op ∷ [])) setup (h ++ Began lane line op ∷ []) begun_mid new (length old.lanes) lane t.after t.next (same-rows setup (h ++ Began lane line op ∷ []) (counted old now) begun_mid refl begun-rows)
        (record {
          b = old.moments + 1;
          low = omega arith;
          pages = pages-starts (GoodAt (h ++ Began lane line op ∷ []) (old.moments + 1)) (shows (h ++ Began lane line op ∷ []) (old.moments + 1)) (machine_of m lane op) old.wsize
              (turn_at (counted old now)) old.shelf t.next t.after t.shelf t.starts
              (grow-with h (Began lane line op) c.b (old.moments + 1) old.shelf.pages (let low = c.low in omega (arith, low))
              (λ same. absurd (not-now h (Began lane line op) rest is (λ bytes e. cc) same)) c.pages);
          there = at-push old.lanes (record { number = lane; state = Busy t.after });
          own = started (op-kind m lane op);
          alone = only-begun;
        }) t.leads

  pub starts-calm : (h : List Entry) (old new : View) (lane line : ℕ) (op : Op) (now : ℕ) → Reaches (machine_of m) setup h old → old.lost ≡ false → Known setup h old → IsIdle lane old.lanes
      → StartsLane (counted old now) lane (machine_of m lane op) new → CalmAt h old → CalmAt (h ++ Began lane line op ∷ []) new
  starts-calm h old new lane line op now r found known idle t all rest is within =
      starts-here h old new lane line op now r found known idle t rest is within
      (all (Began lane line op ∷ rest) (before-last h (Began lane line op) rest is) (shorter h (Began lane line op) within))

  -- ---- where an answer is noted

  pub kind-same : (b : ℕ) (old new : View) (machine : Machine) → (Young b old → Young b new) → Kind b old machine → Kind b new machine
  kind-same b old new machine f (quiet young k) = quiet (f young) k
  kind-same b old new machine f (putting young k) = putting (f young) k
  kind-same b old new machine f (saver k) = saver k

  module _ (h : List Entry) (old new : View) (k lane line : ℕ) (answer : Answer) (known : Known setup h old) (a : AnswersAt old k lane (Some answer) new) (rest : List Entry) (is : (h ++ Answered lane line answer ∷ []) ++ rest ≡ q.H)
      (within : length (h ++ Answered lane line answer ∷ []) ≤ q.n) (c : CalmHere h old) where
    whole : h ++ (Answered lane line answer ∷ rest) ≡ q.H
    whole = before-last h (Answered lane line answer) rest is

    only-over : (j : ℕ) (other : Lane) → slice_get old.lanes j ≡ Some other → j ≡ k
    only-over = alone h (Answered lane line answer ∷ rest) old whole known k (record { number = lane; state = Over a.answer }) a.there

    none-left : (j : ℕ) (other : Lane) → slice_get (remove old.lanes k) j ≡ Some other → ⊥
    none-left j other here = skip-other k j (only-over (skip k j) other (get-remove old.lanes k j other here))

    pub answers-here : CalmHere (h ++ Answered lane line answer ∷ []) new
    unfolding calm-grows
    answers-here =
        let g = calm-grows h (Answered lane line answer) old (λ same. not-now h (Answered lane line answer) rest is (λ bytes e. cc) same) c in
        subst (CalmHere (h ++ Answered lane line answer ∷ [])) (sym a.is) (record {
          b = g.b;
          low = g.low;
          pages = g.pages;
          lanes = λ j number machine here. absurd (none-left j (record { number = number; state = Busy machine }) here);
        })

  pub answers-calm : (h : List Entry) (old new : View) (k lane line : ℕ) (answer : Answer) → Known setup h old → AnswersAt old k lane (Some answer) new → CalmAt h old → CalmAt (h ++ Answered lane line answer ∷ []) new
  answers-calm h old new k lane line answer known a all rest is within =
      answers-here h old new k lane line answer known a rest is within
      (all (Answered lane line answer ∷ rest) (before-last h (Answered lane line answer) rest is) (shorter h (Answered lane line answer) within))

  -- ---- where lanes, shelf and calls stay

  pub same-calm : (h : List Entry) (e : Entry) (old new : View) → IsPlain e → new.lanes ≡ old.lanes → new.shelf ≡ old.shelf → new.moments ≡ old.moments → SameCalls old.calls.calls new.calls.calls
      → CalmAt h old → CalmAt (h ++ e ∷ []) new
  same-calm h e old new plain lanes shelf moments same all rest is within =
      let c = calm-grows h e old (λ now. not-now h e rest is plain.comes_ now) (all (e ∷ rest) (before-last h e rest is) (shorter h e within)) in
      record {
        b = c.b;
        low = subst (λ (k : ℕ). c.b ≤ k) (sym moments) c.low;
        pages = subst (λ (z : Shelf). GoodAt (h ++ e ∷ []) c.b z.pages) (sym shelf) c.pages;
        lanes = λ j number machine here. kind-same c.b old new machine
            (λ young xid w waits. let k = same.waited xid w waits in subst (λ (p : Purpose). c.b < p.sent.moment) (sym k.purpose) (young xid k.was k.waited))
            (c.lanes j number machine (ap (λ (ls : List Lane). slice_get ls j) (sym lanes) ∙ here));
      }
