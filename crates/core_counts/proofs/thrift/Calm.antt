-- Of a session of one lane: in each view marks of files are older than the calls of those that read, and pages that are followed stay.
use Rattle.core_counts.proofs.Prelude.{◌≡◌, ◌<◌, ◌≤◌, inl, inr, ℕ, Bool, true, false, nat_eq, List, [], ◌∷◌, ◌++◌, Option, Some, slice_get, slice_set, Result, Ok, Err, refl, sym, ap, subst, ◌∙◌, arith, eqb-true, eqb-false, Stamp, Waiting, next_xid, made_call, waiting_at, at_made, others_made, Pages, after_page, Answer, Fault, Entry, Reply, Call, proc_of, Step, Machine, Lane, Purpose, State, Busy, Over, Setup, record_of, IsRefused, Refuses, Leads, with_state, View, turn_at, unmade_turn, at-set, Rows, ThenOf, set-other}
use Rattle.client_core.specs.Steps.{put_view, IsUnmade}
use Rattle.world_model.specs.declared.answer.Fault.TheVariants as faults
use Rattle.client_shelf.specs.Unmade.{is_unmade, came_unmade}
use Rattle.client_shelf.specs.declared.step.Step.TheVariants as nexts
use Rattle.core_counts.proofs.thrift.Distinct.{Few}
use Rattle.core_counts.proofs.thrift.Growth.{GoodPages, good-shown, good-known}
use Rattle.core_counts.proofs.thrift.OtherPages.{good-later}
use Rattle.core_counts.proofs.thrift.PutOpenings.{IsPutting, IsEither, PutThen, putting-takes, putting-pages}
use Rattle.core_counts.proofs.thrift.Quiet.{ThenQuiet, takes-quiet}
use Rattle.core_counts.proofs.thrift.Savers.{IsSaver, AllStays, saver-takes, saver-pages}
use Rattle.core_counts.proofs.thrift.TakePages.{IsQuiet, TakeLaws, quiet-takes}

-- ---- operations by how they use the pages

-- each call that waits was made later
abbrev pub Young : ℕ → View → Type 0
Young b v = (xid : ℕ) (w : Waiting Purpose) → waiting_at xid v.calls.calls ≡ Some w → b < w.purpose.sent.moment

pub data Kind (b : ℕ) (v : View) (machine : Machine) : Type 0 where
  quiet : Young b v → IsQuiet b machine → Kind b v machine
  putting : Young b v → IsPutting b machine → Kind b v machine
  saver : IsSaver machine → Kind b v machine

some-call : (a c : Waiting Purpose) → Some a ≡ Some c → a ≡ c
some-call a c e = cc

some-lane : (a c : Lane) → Some a ≡ Some c → a ≡ c
some-lane a c e = cc

busy-is : (a c : Machine) → Busy a ≡ Busy c → a ≡ c
busy-is a c e = cc

pub same-state : (n k : ℕ) (a c : State) → ◌≡◌ {A = Option Lane} (Some (record { number = n; state = a })) (Some (record { number = k; state = c })) → a ≡ c
same-state n k a c e = ap (λ (l : Lane). l.state) (some-lane (record { number = n; state = a }) (record { number = k; state = c }) e)

pub same-busy : (n k : ℕ) (a c : Machine) → ◌≡◌ {A = Option Lane} (Some (record { number = n; state = Busy a })) (Some (record { number = k; state = Busy c })) → a ≡ c
same-busy n k a c e = busy-is a c (same-state n k (Busy a) (Busy c) e)

pub over-busy : (answer : Answer) (m : Machine) → Over answer ≡ Busy m → ⊥
over-busy answer m e = cc

no-reply : (fault : Fault) (reply : Reply) → ◌≡◌ {A = Result Reply Fault} (Err fault) (Ok reply) → ⊥
no-reply fault reply e = cc

-- why a call isn't made
unmade-so : (v : View) (F : Fault) → IsUnmade v F → is_unmade F ≡ true
unmade-so v faults.Memory u = refl
unmade-so v faults.Spent u = refl
unmade-so v F u = absurd u

-- ---- a fact of the kept pages over views

module _ (M : List ℕ → ℕ → Type 0) (few : Few M) (Q : List ℕ → Stamp → ℕ → Type 0) where
  -- those that are followed stay
  abbrev pub T : ℕ → Pages → Type 0
  T b c = GoodPages M Q (λ g t j p. few) b c

  pub record Calm (v : View) : Type 0 where
    pub b : ℕ
    pub low : b ≤ v.moments
    pub pages : T b v.shelf.pages
    pub lanes : (k number : ℕ) (machine : Machine) → slice_get v.lanes k ≡ Some (record { number = number; state = Busy machine }) → Kind b v machine

  -- The machine of the only lane made a step, and what that leads to is still to come.
  pub record CalmStep (v : View) (at number : ℕ) (machine : Machine) (next : Step) : Type 0 where
    pub b : ℕ
    pub low : b ≤ v.moments
    pub pages : T b v.shelf.pages
    pub there : slice_get v.lanes at ≡ Some (record { number = number; state = Busy machine })
    pub own : ThenOf (Kind b v) (λ answer. Unit {0}) next machine
    pub alone : (k : ℕ) (lane : Lane) → slice_get v.lanes k ≡ Some lane → k ≡ at

  shows : (b : ℕ) (file : List ℕ) (index : ℕ) (c : Pages) → T b c → T b (after_page file index c)
  shows b file index c k = good-shown M Q (λ g t j p. few) b file index c k

  -- ---- a call that isn't made

  module _ (v : View) (at number : ℕ) (machine : Machine) (call : Call) (s : CalmStep v at number machine (nexts.Send call)) (new : View) (r : Refuses v at number machine new) where
    no-laws : TakeLaws (T s.b) s.b call (Err r.fault) (turn_at v) (unmade_turn v)
    no-laws = record {
      opens = λ file attr mark c low is. absurd (no-reply r.fault _ is);
      knows = λ file stamp mark c low known. good-known M Q (λ g t j p. few) s.b file stamp mark c low known;
      notes = λ file attr counted eof given place count c is. absurd (no-reply r.fault _ is);
    }

    quiet-then : Young s.b v → (n : Step) (k : Machine) → ThenQuiet s.b n k → ThenOf (Kind s.b v) (λ answer. Unit {0}) n k
    quiet-then young (nexts.Send other) k q = quiet young q
    quiet-then young nexts.Wait k q = quiet young q
    quiet-then young (nexts.Done answer) k q = tt

    kind-of : {b : ℕ} → Young b v → (z : Machine) → IsEither b z → Kind b v z
    kind-of young z (inl k) = putting young k
    kind-of young z (inr k) = saver k

    putting-then : (b : ℕ) → Young b v → (n : Step) (k : Machine) → PutThen b n k → ThenOf (Kind b v) (λ answer. Unit {0}) n k
    putting-then b young (nexts.Send other) k q = kind-of young k q
    putting-then b young nexts.Wait k q = kind-of young k q
    putting-then b young (nexts.Done answer) k q = tt

    saver-then : (b : ℕ) (n : Step) (k : Machine) → AllStays n k → ThenOf (Kind b v) (λ answer. Unit {0}) n k
    saver-then b (nexts.Send other) k q = saver q
    saver-then b nexts.Wait k q = saver q
    saver-then b (nexts.Done answer) k q = tt

    later : T v.moments v.shelf.pages
    later = good-later M Q (λ g t j p. few) s.b Q (λ g t j p. few) v.moments v.shelf.pages s.low (λ g t j p. p) s.pages

    -- a WRITE or SETATTR that isn't made drops no page
    not-made : {A : Type 0} → came_unmade (Err r.fault) ≡ false → A
    not-made made = absurd (let no_way : false ≡ true = sym made ∙ unmade-so v r.fault r.unmade in cc)

    -- what a step leads to: its machine and the pages
    record Left : Type 0 where
      more : ℕ
      low_ : more ≤ v.moments
      pages : T more r.left.pages
      own : ThenOf (Kind more v) (λ answer. Unit {0}) r.next r.after

    unmade-left : Left
    unmade-left = by s.own
      where
        by : Kind s.b v machine → Left
        by (quiet young q) = record {
          more = s.b;
          low_ = s.low;
          pages = quiet-takes (T s.b) (shows s.b) s.b call (Err r.fault) (turn_at v) (unmade_turn v) no-laws machine v.wsize v.shelf r.next r.after r.left q
              (λ reply is. absurd (no-reply r.fault reply is)) r.takes s.pages;
          own = quiet-then young r.next r.after
              (takes-quiet s.b call (Err r.fault) (turn_at v) (unmade_turn v) machine v.wsize v.shelf r.next r.after r.left q (λ reply is. absurd (no-reply r.fault reply is)) r.takes);
        }
        by (putting young q) = record {
          more = s.b;
          low_ = s.low;
          pages = putting-pages (T s.b) (shows s.b) s.b call (Err r.fault) (turn_at v) (unmade_turn v) no-laws machine v.wsize v.shelf r.next r.after r.left q
              (λ reply is. absurd (no-reply r.fault reply is)) r.takes s.pages;
          own = putting-then s.b young r.next r.after (putting-takes s.b (Err r.fault) (turn_at v) (unmade_turn v) machine v.wsize v.shelf r.next r.after r.left q r.takes);
        }
        by (saver own) = record {
          more = v.moments;
          low_ = omega arith;
          pages = saver-pages M Q (λ g t j p. few) v.moments (Err r.fault) (turn_at v) (unmade_turn v) v.shelf (omega arith) later machine v.wsize r.next r.after r.left own
              (λ g is made. not-made made) (λ g is made. not-made made) r.takes;
          own = saver-then v.moments r.next r.after (saver-takes machine v.wsize (turn_at v) (unmade_turn v) (Err r.fault) v.shelf r.next r.after r.left own r.takes);
        }

    -- the lane in its new state
    only-set : (k n : ℕ) (other : Machine) → slice_get (slice_set v.lanes at (record { number = number; state = r.state })) k ≡ Some (record { number = n; state = Busy other }) → (k ≡ at) × (r.state ≡ Busy other)
    only-set k n other here = by (nat_eq k at) refl
      where
        at_now : slice_get (slice_set v.lanes at (record { number = number; state = r.state })) at ≡ Some (record { number = number; state = r.state })
        at_now = at-set v.lanes at (record { number = number; state = Busy machine }) (record { number = number; state = r.state }) s.there

        by : (b : Bool) → nat_eq k at ≡ b → (k ≡ at) × (r.state ≡ Busy other)
        by true e = (
          eqb-true k at e,
          same-state number n r.state (Busy other) (sym at_now ∙ ap (slice_get (slice_set v.lanes at (record { number = number; state = r.state }))) (sym (eqb-true k at e)) ∙ here),
        )
        by false e = absurd (eqb-false k at e (s.alone k (record { number = n; state = Busy other })
            (sym (set-other v.lanes at k (record { number = number; state = r.state }) (eqb-false k at e)) ∙ here)))

    unmade-calm : Calm new
    unmade-calm = subst Calm (sym r.is) (record {
      b = l.more;
      low = l.low_;
      pages = l.pages;
      lanes = λ k n other here. kind r.next r.state r.leads l.own other (only-set k n other here).1;
    })
      where
        l : Left
        l = unmade-left

        kind : (n : Step) (state : State) → IsRefused r.after n state → ThenOf (Kind l.more v) (λ answer. Unit {0}) n r.after → (other : Machine) → state ≡ Busy other
            → Kind l.more (with_state v at number r.state r.left) other
        kind (nexts.Send other_call) state is own other busy = absurd is
        kind nexts.Wait state is own other busy = moved (subst (Kind l.more v) (busy-is r.after other (sym is ∙ busy)) own)
          where
            moved : Kind l.more v other → Kind l.more (with_state v at number r.state r.left) other
            moved (quiet young q) = quiet young q
            moved (putting young q) = putting young q
            moved (saver q) = saver q
        kind (nexts.Done answer) state is own other busy = absurd (over-busy answer other (sym is ∙ busy))

  -- ---- what a step leads to

  module _ (setup : Setup) (h : List Entry) where
    only-one : (v : View) (at number : ℕ) (machine : Machine) → slice_get v.lanes at ≡ Some (record { number = number; state = Busy machine })
        → ((k : ℕ) (lane : Lane) → slice_get v.lanes k ≡ Some lane → k ≡ at) → (k n : ℕ) (other : Machine) → slice_get v.lanes k ≡ Some (record { number = n; state = Busy other }) → machine ≡ other
    only-one v at number machine there alone k n other here =
        same-busy number n machine other (sym there ∙ ap (slice_get v.lanes) (sym (alone k (record { number = n; state = Busy other }) here)) ∙ here)

    pub leads-calm : (v new : View) (at number : ℕ) (machine : Machine) (next : Step) → Rows setup h v → CalmStep v at number machine next → Leads v at number machine next new → Calm new
    leads-calm v new at number machine (nexts.Send call) r s (inl m) = subst Calm (sym m.is) (record {
      b = s.b;
      low = let low = s.low in omega (arith, low);
      pages = s.pages;
      lanes = λ k n other here. subst (Kind s.b made) (only-one v at number machine s.there s.alone k n other here) (later_kind s.own);
    })
      where
        row : Waiting Purpose
        row = made_call (record_of v call m.args) (record { lane = number; proc = proc_of call; sent = turn_at v })

        made : View
        made = put_view v (record { lane = number; proc = proc_of call; sent = turn_at v }) m.args

        by : Young s.b v → (xid : ℕ) (w : Waiting Purpose) → waiting_at xid (v.calls.calls ++ (next_xid v.calls, row) ∷ []) ≡ Some w → (t : Bool) → nat_eq xid (next_xid v.calls) ≡ t
            → s.b < w.purpose.sent.moment
        by young xid w at_ true d =
            let is : xid ≡ next_xid v.calls = eqb-true xid (next_xid v.calls) d in
            let which : row ≡ w = some-call row w (sym (at_made v.calls.cred v.calls.first_xid (next_xid v.calls) xid (next_xid v.calls) v.calls.calls row r.sound.calls.each is refl) ∙ at_) in
            let low = s.low in
            subst (λ (z : Waiting Purpose). s.b < z.purpose.sent.moment) which (omega (arith, low))
        by young xid w at_ false d = young xid w (sym (others_made xid (next_xid v.calls) v.calls.calls row d) ∙ at_)

        later_kind : Kind s.b v machine → Kind s.b made machine
        later_kind (quiet young q) = quiet (λ xid w waits. by young xid w waits (nat_eq xid (next_xid v.calls)) refl) q
        later_kind (putting young q) = putting (λ xid w waits. by young xid w waits (nat_eq xid (next_xid v.calls)) refl) q
        later_kind (saver q) = saver q
    leads-calm v new at number machine (nexts.Send call) r s (inr f_) = unmade-calm v at number machine call s new f_
    leads-calm v new at number machine nexts.Wait r s is = subst Calm (sym is) (record {
      b = s.b;
      low = s.low;
      pages = s.pages;
      lanes = λ k n other here. subst (Kind s.b v) (only-one v at number machine s.there s.alone k n other here) s.own;
    })
    leads-calm v new at number machine (nexts.Done answer) r s is = subst Calm (sym is) (record {
      b = s.b;
      low = s.low;
      pages = s.pages;
      lanes = λ k n other here. absurd (none k n other here (nat_eq k at) refl);
    })
      where
        there_now : slice_get (slice_set v.lanes at (record { number = number; state = Over answer })) at ≡ Some (record { number = number; state = Over answer })
        there_now = at-set v.lanes at (record { number = number; state = Busy machine }) (record { number = number; state = Over answer }) s.there

        none : (k n : ℕ) (other : Machine) → slice_get (slice_set v.lanes at (record { number = number; state = Over answer })) k ≡ Some (record { number = n; state = Busy other }) → (t : Bool)
            → nat_eq k at ≡ t → ⊥
        none k n other here true e =
            over-busy answer other (same-state number n (Over answer) (Busy other)
            (sym there_now ∙ ap (slice_get (slice_set v.lanes at (record { number = number; state = Over answer }))) (sym (eqb-true k at e)) ∙ here))
        none k n other here false e =
            eqb-false k at e (s.alone k (record { number = n; state = Busy other }) (sym (set-other v.lanes at k (record { number = number; state = Over answer }) (eqb-false k at e)) ∙ here))
