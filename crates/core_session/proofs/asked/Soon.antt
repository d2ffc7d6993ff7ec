-- Each slot of the table of opens holds its file by the history, at once or before a record comes: an open that has its answer is noted before.
use Rattle.core_session.proofs.Prelude.{◌≡◌, ◌≢◌, ◌≤◌, ◌<◌, ◌+◌, ◌⊎◌, inl, inr, ℕ, List, [], ◌∷◌, ◌++◌, length, map, remove, Bool, true, false, nat_eq, Option, Some, None, slice_get, slice_set, refl, sym, ap, subst, ◌∙◌, arith, append_assoc, eqb-true, eqb-false, Opened, Opens, Answer, Entry, Began, Answered, Dialed, Sent, Executed, Foreign, Flushed, Reboot, Delivered, Failed, Clock, Op, At, Modes, UnderWay, Terms, At-below, At-back, At-cases, length_last, Closing, Mounted, Machine, machine_of, Lane, State, Busy, Over, Setup, lost_lane, IsOther, numbers_of, AnswersAt, View, StepsTo, Reaches, last_reading, GoesWith, begins-unbegun, FailedNow, goes_on, gives_up, sent_now, failed_now, answered_now, always-later, LanesKnown, number_of, idle-numbers, lanes-under-way, reached-lanes, still-there, before-push, to-map, IsHeld, Agrees, held-grow, Kind, plainly, kind_of, StoryOf, SlotsAgree, Slots, reached-slots, under-back, set-other, Always, over-laws}
use Rattle.core_facts.proofs.Slots.{opening, closing, over-later, noted}
use Rattle.core_facts.proofs.Stories.{answered-under}
use Rattle.std.specs.FinMap as finite
use Rattle.file_ops.specs.declared.close_file.Closing.TheVariants as closing_states
use Rattle.core_facts.proofs.CloseSlots.{ClosingHas}
use Rattle.core_session.proofs.calls.TableHeld.{IsLane, lane-or, AllNoted}
use Rattle.core_session.proofs.calls.WriteCause.{WriteStory, write-laws}
use Rattle.core_session.proofs.drops.LaneIs.{state-is, number-is, answer-is, busy-over}
use Rattle.core_session.proofs.drops.Noting.{ended-at}
use Rattle.core_session.proofs.pending.Alone.{HeldBy, HeldSoon}
use Rattle.core_session.proofs.room.Entered.{BusyStays, begins-stay}
use Rattle.core_session.proofs.room.Onward.{Onward, stays, steps, drops}

-- ---- in a lane that has no answer ready

module _ (m : Modes) (h : List Entry) (n slot : ℕ) (o : Opened) where
  shown : (at : Option Opened) → at ≡ Some o → Agrees m h n slot at → IsHeld m h (length h) n slot o.file o.mode
  shown at is a = (subst (Agrees m h n slot) is a).held

  closing-shown : (state : Closing) (at : Option Opened) → at ≡ Some o → ClosingHas (Agrees m h n slot) state at → IsHeld m h (length h) n slot o.file o.mode
  closing-shown closing_states.Idle at is has = shown at is has
  closing-shown (closing_states.Queued saving) at is has = shown at is has
  closing-shown (closing_states.Saves saving) at is has = shown at is has
  closing-shown (closing_states.ToRemove removal) at is has = absurd (let no_way : None ≡ Some o = sym has ∙ is in cc)
  closing-shown (closing_states.Removing removal) at is has = absurd (let no_way : None ≡ Some o = sym has ∙ is in cc)

  kind-shown : (k : Kind) (x : ℕ) (machine : Machine) (opens : Opens) → finite.get opens (n, slot) ≡ Some o → StoryOf m h x n k (Busy machine) opens
      → IsHeld m h (length h) n slot o.file o.mode
  kind-shown (opening its mode) x machine opens is s = shown (finite.get opens (n, slot)) is (s.agree slot)
  kind-shown plainly x machine opens is s = shown (finite.get opens (n, slot)) is (s.1 slot)
  kind-shown (closing its) x machine opens is s = by (nat_eq slot its) refl
    where
      by : (b : Bool) → nat_eq slot its ≡ b → IsHeld m h (length h) n slot o.file o.mode
      by true e =
          let same : slot ≡ its = eqb-true slot its e in
          closing-shown s.c.state (finite.get opens (n, slot)) is
          (subst (λ (k : ℕ). ClosingHas (Agrees m h n k) s.c.state (finite.get opens (n, k))) (sym same) s.has)
      by false e = shown (finite.get opens (n, slot)) is (s.others slot (eqb-false slot its e))

held-on : (m : Modes) (h more : List Entry) (p n slot : ℕ) (o : Opened) → p ≤ length h → IsHeld m h p n slot o.file o.mode → IsHeld m (h ++ more) p n slot o.file o.mode
held-on m h more p n slot o within i = (always-later (λ (z : List Entry). (p ≤ length z) × IsHeld m z p n slot o.file o.mode)
    (λ z e k. (let long = length_last z e in let low = k.0 in omega (arith, long, low), held-grow m z e n slot o.file o.mode p k.0 k.1)) h more (within, i)).1

-- ---- a lane stays that has its answer

abbrev Waits : ℕ → Answer → View → Type 0
Waits n answer v = (at : ℕ) × (slice_get v.lanes at ≡ Some (record { number = n; state = Over answer }))

waits-stays : (n : ℕ) (answer : Answer) → BusyStays (Waits n answer)
waits-stays n answer = record {
  makes = λ old new number call m w. subst (Waits n answer) (sym m.is) w;
  sets = λ old at number machine state shelf there w. (w.0, set-other old.lanes at w.0 (record { number = number; state = state }) (apart old at number machine there w) ∙ w.1);
}
  where
    apart : (old : View) (at number : ℕ) (machine : Machine) → slice_get old.lanes at ≡ Some (record { number = number; state = Busy machine }) → (w : Waits n answer old) → w.0 ≢ at
    apart old at number machine there w same =
        busy-over machine answer (state-is (Busy machine) (Over answer) number n (sym there ∙ ap (slice_get old.lanes) (sym same) ∙ w.1))

waits-lost : (n : ℕ) (answer : Answer) (lanes : List Lane) (at : ℕ) → slice_get lanes at ≡ Some (record { number = n; state = Over answer })
    → slice_get (map lost_lane lanes) at ≡ Some (record { number = n; state = Over answer })
waits-lost n answer lanes at there = to-map lost_lane lanes at (record { number = n; state = Over answer }) there

began-lane : (a b c d : ℕ) (o p : Op) → Began a b o ≡ Began c d p → a ≡ c
began-lane a b c d o p e = cc

answered-lane : (a b c d : ℕ) (o p : Answer) → Answered a b o ≡ Answered c d p → a ≡ c
answered-lane a b c d o p e = cc

one-answer : (a b : Answer) → Some a ≡ Some b → a ≡ b
one-answer a b e = cc

module _ (mt : Mounted) (terms : Terms) (setup : Setup) (n : ℕ) (answer : Answer) (table : Opens) (from : ℕ) where
  abbrev Told : List Entry → Type 0
  Told h = (x : ℕ) (op : Op) → UnderWay h n x (length h) op → StoryOf terms.modes h x n (kind_of op) (Over answer) table

  abbrev NoneUpTo : List Entry → ℕ → Type 0
  NoneUpTo h p = (j : ℕ) (b : List ℕ) → At h j (Delivered b) → from ≤ j → j < p → ⊥

  -- the lane still waits to be noted
  record Ready (h : List Entry) (v : View) : Type 0 where
    waits : Waits n answer v
    told : Told h
    long : from ≤ length h
    none : NoneUpTo h (length h)

  -- it was noted before the place p
  record NotedAt (h : List Entry) : Type 0 where
    p : ℕ
    long : from ≤ p
    within : p ≤ length h
    none : NoneUpTo h p
    held : (slot : ℕ) (o : Opened) → finite.get table (n, slot) ≡ Some o → IsHeld terms.modes h p n slot o.file o.mode

  none-grow : (h : List Entry) (e : Entry) (p : ℕ) → p ≤ length h → NoneUpTo h p → NoneUpTo (h ++ e ∷ []) p
  none-grow h e p within none j b at low high = none j b (At-back h (e ∷ []) j (Delivered b) at (omega (arith, high, within))) low high

  noted-grow : (h : List Entry) (e : Entry) → NotedAt h → NotedAt (h ++ e ∷ [])
  noted-grow h e k = record {
    p = k.p;
    long = k.long;
    within = let w = k.within in let more = length_last h e in omega (arith, w, more);
    none = none-grow h e k.p k.within k.none;
    held = λ slot o is. held-on terms.modes h (e ∷ []) k.p n slot o k.within (k.held slot o is);
  }

  -- none came with an entry of another kind
  none-on : (h : List Entry) (e : Entry) → ((b : List ℕ) → e ≡ Delivered b → ⊥) → NoneUpTo h (length h) → NoneUpTo (h ++ e ∷ []) (length (h ++ e ∷ []))
  none-on h e silent none j b at low high = by (At-cases h e j (Delivered b) at)
    where
      by : At h j (Delivered b) ⊎ ((j ≡ length h) × (e ≡ Delivered b)) → ⊥
      by (inl there) = none j b there low (At-below h j (Delivered b) there)
      by (inr here) = silent b here.1

  -- an entry that neither begins anything in the lane nor answers it
  goes-on : (h : List Entry) (e : Entry) (old new : View) → ((line : ℕ) (a : Answer) → e ≡ Answered n line a → ⊥) → ((line : ℕ) (op : Op) → e ≡ Began n line op → ⊥)
      → ((b : List ℕ) → e ≡ Delivered b → ⊥) → Waits n answer new → Ready h old → Ready (h ++ e ∷ []) new
  goes-on h e old new quiet other silent waits r = record {
    waits = waits;
    told = λ x op u. over-later terms.modes h e n quiet x (kind_of op) answer table silent (r.told x op (under-back h e n x op other u));
    long = let low = r.long in let more = length_last h e in omega (arith, low, more);
    none = none-on h e silent r.none;
  }

  same-on : (h : List Entry) (e : Entry) (old new : View) → ((line : ℕ) (a : Answer) → e ≡ Answered n line a → ⊥) → ((line : ℕ) (op : Op) → e ≡ Began n line op → ⊥)
      → ((b : List ℕ) → e ≡ Delivered b → ⊥) → new.lanes ≡ old.lanes → Ready h old → Ready (h ++ e ∷ []) new
  same-on h e old new quiet other silent lanes r =
      goes-on h e old new quiet other silent (r.waits.0, ap (λ (ls : List Lane). slice_get ls r.waits.0) lanes ∙ r.waits.1) r

  -- an answer is noted
  answers-on : (h : List Entry) (old new : View) (at lane line : ℕ) (given : Answer) → StepsTo (machine_of mt) h old (Answered lane line given) new → Reaches (machine_of mt) setup h old
      → AnswersAt old at lane (Some given) new → Ready h old → Ready (h ++ Answered lane line given ∷ []) new ⊎ NotedAt (h ++ Answered lane line given ∷ [])
  answers-on h old new at lane line given t reached a r = by (nat_eq r.waits.0 at) refl
    where
      later : List Entry
      later = h ++ Answered lane line given ∷ []

      known : LanesKnown h old
      known = reached-lanes (machine_of mt) setup h old reached

      own : slice_get old.lanes at ≡ Some (record { number = lane; state = Over a.answer })
      own = a.there

      now : r.waits.0 ≡ at → (n ≡ lane) × (given ≡ answer)
      now same =
          let both : Some (record { number = n; state = Over answer }) ≡ Some (record { number = lane; state = Over a.answer }) = sym r.waits.1 ∙ ap (slice_get old.lanes) same ∙ own in
          (number-is (Over answer) (Over a.answer) n lane both, one-answer given a.answer a.gives ∙ sym (answer-is answer a.answer (state-is (Over answer) (Over a.answer) n lane both)))

      agree : n ≡ lane → given ≡ answer → SlotsAgree terms.modes later n table
      agree number same =
          let u = (lanes-under-way h old known).busy at (record { number = lane; state = Over a.answer }) own in
          let told : (x : ℕ) (op : Op) → UnderWay h lane x (length h) op → StoryOf terms.modes h x lane (kind_of op) (Over given) table =
          subst (λ (b : Answer). (x : ℕ) (op : Op) → UnderWay h lane x (length h) op → StoryOf terms.modes h x lane (kind_of op) (Over b) table) (sym same)
          (subst (λ (k : ℕ). (x : ℕ) (op : Op) → UnderWay h k x (length h) op → StoryOf terms.modes h x k (kind_of op) (Over answer) table) number r.told) in
          subst (λ (k : ℕ). SlotsAgree terms.modes later k table) (sym number)
          (noted terms.modes h lane line given table told
          (λ x op b d. answered-under (machine_of mt) (begins-unbegun mt) setup Always (λ g w k f number other. tt) WriteStory (over-laws (machine_of mt) WriteStory (write-laws mt)) h lane line given x op b d)
          u.x u.op
          (ended-at h lane line u.x u.op given t.line_is (known.busy at lane (to-map number_of old.lanes at (record { number = lane; state = Over a.answer }) own)) u.under_way)
          (told u.x u.op u.under_way))

      by : (b : Bool) → nat_eq r.waits.0 at ≡ b → Ready later new ⊎ NotedAt later
      by true e =
          let k = now (eqb-true r.waits.0 at e) in
          inr (record {
            p = length later;
            long = let low = r.long in let more = length_last h (Answered lane line given) in omega (arith, low, more);
            within = omega arith;
            none = none-on h (Answered lane line given) (λ b is. cc) r.none;
            held = λ slot o is. shown terms.modes later n slot o (finite.get table (n, slot)) is (agree k.0 k.1 slot);
          })
      by false e =
          let off = eqb-false r.waits.0 at e in
          let stays = still-there old.lanes at r.waits.0 (record { number = n; state = Over answer }) off r.waits.1 in
          inl (goes-on h (Answered lane line given) old new
          (λ l b is. off ((lanes-under-way h old known).apart r.waits.0 at (record { number = n; state = Over answer }) (record { number = lane; state = Over a.answer }) r.waits.1 own
          (sym (answered-lane lane line n l given b is))))
          (λ l op is. cc) (λ b is. cc) (stays.0, ap (λ (v : View). slice_get v.lanes stays.0) a.is ∙ stays.1) r)

  ready-step : (h : List Entry) (old : View) (e : Entry) (new : View) → StepsTo (machine_of mt) h old e new → Reaches (machine_of mt) setup h old → Ready h old
      → Ready (h ++ e ∷ []) new ⊎ NotedAt (h ++ e ∷ [])
  ready-step h old (Began lane line op) new t reached r =
      inl (goes-on h (Began lane line op) old new (λ l a is. cc)
      (λ l o is. idle-numbers lane (numbers_of old.lanes) t.idle.other r.waits.0
      (to-map number_of old.lanes r.waits.0 (record { number = n; state = Over answer }) r.waits.1 ∙ ap Some (sym (began-lane lane line n l op o is))))
      (λ b is. cc)
      (begins-stay (Waits n answer) (waits-stays n answer) old new lane (machine_of mt lane op) (last_reading 0 h)
      (λ state shelf. (r.waits.0, before-push old.lanes (record { number = lane; state = state }) r.waits.0 (record { number = n; state = Over answer }) r.waits.1)) t.step) r)
  ready-step h old (Answered lane line given) new t reached r =
      let a = answered_now old lane given new t.answers in answers-on h old new a.at lane line given t reached a.is r
  ready-step h old (Sent bytes) new t reached r =
      let k = sent_now old bytes new t in inl (same-on h (Sent bytes) old new (λ l a is. cc) (λ l o is. cc) (λ b is. cc) (ap (λ (v : View). v.lanes) k.is) r)
  ready-step h old (Delivered bytes) new t reached r = absurd (t.may.noted r.waits.0 n answer r.waits.1)
  ready-step h old Failed new (inl t) reached r = inl (by (failed_now old t.0 new t.1))
    where
      by : FailedNow old new → Ready (h ++ Failed ∷ []) new
      by (goes_on none is) = same-on h Failed old new (λ l a is. cc) (λ l o is. cc) (λ b is. cc) (ap (λ (v : View). v.lanes) is) r
      by (gives_up xid up is) = goes-on h Failed old new (λ l a is. cc) (λ l o is. cc) (λ b is. cc)
          (r.waits.0, ap (λ (v : View). slice_get v.lanes r.waits.0) is ∙ waits-lost n answer old.lanes r.waits.0 r.waits.1) r
  ready-step h old Failed new (inr t) reached r = inl (same-on h Failed old new (λ l a is. cc) (λ l o is. cc) (λ b is. cc) (ap (λ (v : View). v.lanes) t) r)
  ready-step h old (Dialed port) new t reached r = inl (same-on h (Dialed port) old new (λ l a is. cc) (λ l o is. cc) (λ b is. cc) (ap (λ (v : View). v.lanes) t) r)
  ready-step h old (Executed xid call reply) new t reached r =
      inl (same-on h (Executed xid call reply) old new (λ l a is. cc) (λ l o is. cc) (λ b is. cc) (ap (λ (v : View). v.lanes) t) r)
  ready-step h old (Foreign call reply) new t reached r = inl (same-on h (Foreign call reply) old new (λ l a is. cc) (λ l o is. cc) (λ b is. cc) (ap (λ (v : View). v.lanes) t) r)
  ready-step h old (Flushed file at len) new t reached r = inl (same-on h (Flushed file at len) old new (λ l a is. cc) (λ l o is. cc) (λ b is. cc) (ap (λ (v : View). v.lanes) t) r)
  ready-step h old (Reboot verf) new t reached r = inl (same-on h (Reboot verf) old new (λ l a is. cc) (λ l o is. cc) (λ b is. cc) (ap (λ (v : View). v.lanes) t) r)
  ready-step h old (Clock ms) new t reached r = inl (same-on h (Clock ms) old new (λ l a is. cc) (λ l o is. cc) (λ b is. cc) (ap (λ (v : View). v.lanes) t) r)

  walk : (g : List Entry) (gv : View) (h : List Entry) (v : View) → Onward (machine_of mt) setup g gv h v → Ready g gv → Ready h v ⊎ NotedAt h
  walk g gv _ _ (stays h v is same) r = inl (subst (λ (k : List Entry). Ready k v) (sym is) (subst (Ready g) (sym same) r))
  walk g gv _ _ (steps h before v u e on reached is t) r = subst (λ (k : List Entry). Ready k v ⊎ NotedAt k) (sym is) (by (walk g gv before u on r))
    where
      by : Ready before u ⊎ NotedAt before → Ready (before ++ e ∷ []) v ⊎ NotedAt (before ++ e ∷ [])
      by (inl k) = ready-step before u e v t reached k
      by (inr k) = inr (noted-grow before e k)
  walk g gv _ _ (drops h v u on is) r = by (walk g gv h u on r)
    where
      by : Ready h u ⊎ NotedAt h → Ready h v ⊎ NotedAt h
      by (inr k) = inr k
      by (inl k) = inl (record {
        waits = (k.waits.0, ap (λ (w : View). slice_get w.lanes k.waits.0) is ∙ waits-lost n answer u.lanes k.waits.0 k.waits.1);
        told = k.told;
        long = k.long;
        none = k.none;
      })

-- ---- each slot of the table

module _ (mt : Mounted) (terms : Terms) (setup : Setup) (H : List Entry) (V : View) (goes : GoesWith mt terms setup H V) (f : List ℕ) (g rest : List Entry) (is : g ++ rest ≡ H) (gv : View)
    (r : Reaches (machine_of mt) setup g gv) (found : gv.lost ≡ false) (h more : List Entry) (split : h ++ more ≡ H) (v : View) (on : Onward (machine_of mt) setup g gv h v) (all : AllNoted v) where
  abbrev By : ℕ → ℕ → Type 0
  By = HeldBy mt terms setup H V goes f g rest is

  slots : Slots terms.modes mt goes.nocto setup g gv
  slots = reached-slots terms.modes mt goes.nocto setup g gv r found

  at-once : (lane slot : ℕ) (o : Opened) → o.file ≡ f → IsHeld terms.modes g (length g) lane slot o.file o.mode → By lane slot
  at-once lane slot o same i =
      let k = subst (λ (z : List Entry). IsHeld terms.modes z (length g) lane slot o.file o.mode) is (held-on terms.modes g rest (length g) lane slot o (omega arith) i) in
      let of : IsHeld terms.modes H (length g) lane slot f o.mode = subst (λ (z : List ℕ). IsHeld terms.modes H (length g) lane slot z o.mode) same k in
      record { n = length g; open_at = of.x; from = omega arith; none = λ j b at low high. omega (arith, low, high); held = of.holds }

  noted-then : (lane slot : ℕ) (o : Opened) (answer : Answer) → finite.get gv.shelf.opens (lane, slot) ≡ Some o → o.file ≡ f
      → NotedAt mt terms setup lane answer gv.shelf.opens (length g) h → By lane slot
  noted-then lane slot o answer there same k =
      let i = subst (λ (z : List Entry). IsHeld terms.modes z k.p lane slot o.file o.mode) split (held-on terms.modes h more k.p lane slot o k.within (k.held slot o there)) in
      let of : IsHeld terms.modes H k.p lane slot f o.mode = subst (λ (z : List ℕ). IsHeld terms.modes H k.p lane slot z o.mode) same i in
      record {
        n = k.p;
        open_at = of.x;
        from = k.long;
        none = λ j b at low high.
            k.none j b (At-back h more j (Delivered b) (subst (λ (z : List Entry). At z j (Delivered b)) (sym split) at) (let w = k.within in omega (arith, high, w))) low high;
        held = of.holds;
      }

  pub held-soon : HeldSoon mt terms setup H V goes f g rest is gv
  held-soon lane slot o there same = by (lane-or lane gv.lanes)
    where
      of-state : (at : ℕ) (state : State) → slice_get gv.lanes at ≡ Some (record { number = lane; state = state }) → By lane slot
      of-state at (Busy machine) here =
          let busy = (lanes-under-way g gv (reached-lanes (machine_of mt) setup g gv r)).busy at (record { number = lane; state = Busy machine }) here in
          at-once lane slot o same
          (kind-shown terms.modes g lane slot o (kind_of busy.op) busy.x machine gv.shelf.opens there (slots.lanes at (record { number = lane; state = Busy machine }) here busy.x busy.op busy.under_way))
      of-state at (Over answer) here =
          ended (walk mt terms setup lane answer gv.shelf.opens (length g) g gv h v on (record {
            waits = (at, here);
            told = λ x op u. slots.lanes at (record { number = lane; state = Over answer }) here x op u;
            long = omega arith;
            none = λ j b at low high. omega (arith, low, high);
          }))
        where
          ended : Ready mt terms setup lane answer gv.shelf.opens (length g) h v ⊎ NotedAt mt terms setup lane answer gv.shelf.opens (length g) h → By lane slot
          ended (inl k) = absurd (all k.waits.0 lane answer k.waits.1)
          ended (inr k) = noted-then lane slot o answer there same k

      by : IsLane lane gv.lanes ⊎ IsOther lane (numbers_of gv.lanes) → By lane slot
      by (inl k) = of-state k.at k.state k.there
      by (inr other) = at-once lane slot o same (shown terms.modes g lane slot o (finite.get gv.shelf.opens (lane, slot)) there (slots.idle lane other slot))
