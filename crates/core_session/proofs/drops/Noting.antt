-- An answer is noted while a close's answer is owed: it was the last one of the file's closes, or another one is owed still.
use Rattle.core_session.proofs.Prelude.{◌≡◌, ◌≢◌, ◌⊎◌, ◌≤◌, ◌<◌, inl, inr, ℕ, suc, zero, List, [], ◌∷◌, ◌++◌, length, Bool, true, false, nat_eq, Option, Some, None, slice_get, refl, sym, ap, subst, ◌∙◌, arith, eqb-true, eqb-false, cases_lt, Mode, Opened, Opens, IsOpen, Answer, Entry, Began, Answered, Op, At, Ended, AnsweredBefore, UnderWay, InSlot, IsOf, Terms, GivesUp, itself, beside, At-grow, At-last, At-below, At-one, At-cases, length_last, Mounted, machine_of, Lane, State, Busy, Over, Setup, IsOther, numbers_of, AnswersAt, View, AreApart, IsOpenLine, GoesWith, Known, Runs, lanes-under-way, number_of, get-remove, still-there, skip, to-map, Agrees, SlotsAgree, Kind, plainly, kind_of, StoryOf, Slots, reached-slots, ended-grow, IsPast, NonePast, IsOwed, WasLeft, IsDropped}
use Rattle.claims.specs.Touched.{Left}
use Rattle.core_facts.proofs.Slots.{opening, closing}
use Rattle.core_facts.proofs.Stories.{some-answer}
use Rattle.core_session.specs.drops.Dropped.{IsReady, IsRefused, ready, noted}
use Rattle.std.specs.FinMap as finite
use Rattle.world_model.specs.declared.answer.Answer.TheVariants as answers
use Rattle.world_model.specs.declared.op.Op.TheVariants as ops
use Rattle.op_machines.specs.declared.file_machine.FileMachine.TheVariants as files
use Rattle.op_machines.specs.declared.machine.Machine.TheVariants as machines
use Rattle.core_facts.proofs.Marks.{last-same}
use Rattle.core_session.proofs.drops.Drops.{closer-kind}
use Rattle.core_session.proofs.drops.Dropping.{past-or-open}
use Rattle.core_session.proofs.drops.Growing.{of-grow, under-grow, still-on, was-left-grow}
use Rattle.core_session.proofs.drops.SlotKinds.{StateTold}
use Rattle.core_session.proofs.drops.LaneIs.{state-is, number-is, answer-is as answer-one}
use Rattle.core_session.proofs.drops.Laws.{DropsKnown}
use Rattle.core_session.proofs.drops.OneFile.{one-by-one, slot-file}

began-is : (a b c d : ℕ) (o p : Op) → Began a b o ≡ Began c d p → (a ≡ c) × (b ≡ d) × (o ≡ p)
began-is a b c d o p e = (cc, cc, cc)

some-opened : (a b : Opened) → Some a ≡ Some b → a ≡ b
some-opened a b e = cc

-- a lane is at one of these, or its number isn't among theirs
data HasLane (lanes : List Lane) (n : ℕ) : Type 0 where
  has_lane : (k : ℕ) (state : State) → slice_get lanes k ≡ Some (record { number = n; state = state }) → HasLane lanes n
  no_lane : IsOther n (numbers_of lanes) → HasLane lanes n

has-lane : (lanes : List Lane) (n : ℕ) → HasLane lanes n
has-lane [] n = no_lane tt
has-lane (l ∷ ls) n = by (nat_eq l.number n) refl (has-lane ls n)
  where
    by : (b : Bool) → nat_eq l.number n ≡ b → HasLane ls n → HasLane (l ∷ ls) n
    by true d r = has_lane zero l.state (ap (λ (k : ℕ). Some (record { number = k; state = l.state })) (eqb-true l.number n d))
    by false d (has_lane k state there) = has_lane (suc k) state there
    by false d (no_lane other) = no_lane (eqb-false l.number n d, other)

-- ---- which slots hold the file, by the view

module _ (mounted : Mounted) (terms : Terms) (setup : Setup) (h : List Entry) (v : View) (g : GoesWith mounted terms setup h v) (found : v.lost ≡ false) (d : DropsKnown terms.modes h v)
    (file : List ℕ) (shut : IsOpen v.shelf.opens file → ⊥) (none : NonePast v file) where
  slots : Slots terms.modes mounted g.nocto setup h v
  slots = reached-slots terms.modes mounted g.nocto setup h v g.reaches found

  module _ (n s x : ℕ) (i : InSlot terms.modes h (length h) n s x file) where
    agreed : (o : Option Opened) → finite.get v.shelf.opens (n, s) ≡ o → Agrees terms.modes h n s o → ⊥
    agreed None at a = a file i.opens.mode (record { x = x; holds = i; mode_is = refl })
    agreed (Some o) at a =
        shut (record {
          place = (n, s);
          of = o;
          there = at;
          same = slot-file mounted terms setup h v g (length h) n s a.held.x x o.file file a.held.holds i;
        })

    agree-all : SlotsAgree terms.modes h n v.shelf.opens → ⊥
    agree-all a = agreed (finite.get v.shelf.opens (n, s)) refl (a s)

    -- the slot held it as the close of it began, which is under way
    held-then : (c : ℕ) (u : UnderWay h n c (length h) (ops.Close s)) → InSlot terms.modes h c n s x file
    held-then c u = record {
      y = i.y;
      opens = i.opens;
      before = by (cases_lt x c);
      kept = λ q k answer e after lt. let low = u.before in i.kept q k answer e after (omega (arith, lt, low));
    }
      where
        early : (op : Op) (y k b : ℕ) (answer : Answer) → Ended h n b op y answer → AnsweredBefore h b k → y < k
        early op y k b answer e a =
            let same = began-is a.lane a.ended.line n e.line a.op op (At-one h b (Began a.lane a.ended.line a.op) (Began n e.line op) a.ended.began e.began) in
            let first = e.first a.y a.answer (subst (λ (l : ℕ). At h a.y (Answered l e.line a.answer)) same.0 (subst (λ (l : ℕ). At h a.y (Answered a.lane l a.answer)) same.1 a.ended.answered)) a.ended.later in
            let low = a.before in
            omega (arith, first, low)

        open_op : Op
        open_op = ops.OpenFile s i.opens.mode i.opens.path

        by : (x < c) ⊎ (c ≤ x) → i.y < c
        by (inl low) =
            early open_op i.y c x (answers.Done i.opens.value) i.opens.ended
            (one-by-one (machine_of mounted) setup h v g.reaches n x i.opens.ended.line open_op c u.line (ops.Close s) i.opens.ended.began u.began low)
        by (inr high) = same (cases_lt c x)
          where
            same : (c < x) ⊎ (x ≤ c) → i.y < c
            same (inl less) =
                let a = one-by-one (machine_of mounted) setup h v g.reaches n c u.line (ops.Close s) x i.opens.ended.line open_op u.began i.opens.ended.began less in
                let low = At-below h x (Began n i.opens.ended.line open_op) i.opens.ended.began in
                let under = a.before in
                absurd (u.unanswered (record { lane = a.lane; op = a.op; y = a.y; answer = a.answer; ended = a.ended; before = omega (arith, low, under) }))
            same (inr more) =
                let is : x ≡ c = omega (arith, high, more) in
                let one = began-is n i.opens.ended.line n u.line open_op (ops.Close s)
                (At-one h c (Began n i.opens.ended.line open_op) (Began n u.line (ops.Close s)) (subst (λ (k : ℕ). At h k (Began n i.opens.ended.line open_op)) is i.opens.ended.began) u.began) in
                absurd (let no_way : ops.OpenFile s i.opens.mode i.opens.path ≡ ops.Close s = one.2 in cc)

    closes-it : (c : ℕ) (u : UnderWay h n c (length h) (ops.Close s)) → IsOf terms.modes h c (ops.Close s) file
    closes-it c u = record { lane = n; line = u.line; slot = s; open_at = x; began = u.began; works_on = refl; holds = held-then c u }

    -- the close of this slot that is under way is past its sync, or has its answer
    one-slot : (a b : ℕ) → Some a ≡ Some b → a ≡ b
    one-slot a b e = cc

    same-file : (c : ℕ) (u : UnderWay h n c (length h) (ops.Close s)) (f : List ℕ) → IsOf terms.modes h c (ops.Close s) f → f ≡ file
    same-file c u f of =
        let one = began-is of.lane of.line n u.line (ops.Close s) (ops.Close s) (At-one h c (Began of.lane of.line (ops.Close s)) (Began n u.line (ops.Close s)) of.began u.began) in
        let there : InSlot terms.modes h c n s of.open_at f =
        subst (λ (k : ℕ). InSlot terms.modes h c k s of.open_at f) one.0 (subst (λ (k : ℕ). InSlot terms.modes h c of.lane k of.open_at f) (one-slot of.slot s (sym of.works_on)) of.holds) in
        slot-file mounted terms setup h v g c n s of.open_at x f file there (held-then c u)

    abbrev Found : Type 0
    Found = (answer : Answer) × IsReady terms.modes h v file answer

    module _ (k : ℕ) (state : State) (there : slice_get v.lanes k ≡ Some (record { number = n; state = state })) where
      -- by a close of a slot
      closing-now : (slot : ℕ) (st : State) → state ≡ st → (c : ℕ) → (u : UnderWay h n c (length h) (ops.Close slot)) → StateTold terms.modes h c n (closing slot) st v.shelf.opens
          → StoryOf terms.modes h c n (closing slot) st v.shelf.opens → (b : Bool) → nat_eq s slot ≡ b → Found
      closing-now slot (Busy machine) is c u t story false e = absurd (agreed (finite.get v.shelf.opens (n, s)) refl (story.others s (eqb-false s slot e)))
      closing-now slot (Over answer) is c u t story false e = absurd (agreed (finite.get v.shelf.opens (n, s)) refl (story.others s (eqb-false s slot e)))
      closing-now slot (Busy machine) is c u t story true e = absurd (by (past-or-open n slot t.file t.upto v.shelf.opens t.closer.c.state t.closer.at))
        where
          slot_is : s ≡ slot
          slot_is = eqb-true s slot e

          same : t.file ≡ file
          same =
              same-file c (subst (λ (z : ℕ). UnderWay h n c (length h) (ops.Close z)) (sym slot_is) u) t.file
              (subst (λ (z : ℕ). IsOf terms.modes h c (ops.Close z) t.file) (sym slot_is) t.of)

          by : IsPast t.file t.closer.c.state ⊎ IsOpen v.shelf.opens t.file → ⊥
          by (inr open_) = shut (subst (IsOpen v.shelf.opens) same open_)
          by (inl past) =
              none k n t.closer.c (there ∙ ap (λ (st : State). Some (record { number = n; state = st })) (is ∙ ap Busy t.closer.is))
              (subst (λ (f : List ℕ). IsPast f t.closer.c.state) same past)
      closing-now slot (Over answer) is c u t story true e =
          let slot_is = eqb-true s slot e in
          let own : UnderWay h n c (length h) (ops.Close s) = subst (λ (z : ℕ). UnderWay h n c (length h) (ops.Close z)) (sym slot_is) u in
          (answer, record { at = k; lane = n; slot = s; x = c; there = there ∙ ap (λ (st : State). Some (record { number = n; state = st })) is; under_way = own; of = closes-it c own })

      opening-now : (slot : ℕ) (mode : Mode) (st : State) (c : ℕ) → StoryOf terms.modes h c n (opening slot mode) st v.shelf.opens → (b : Bool) → nat_eq s slot ≡ b → ⊥
      opening-now slot mode (Busy machine) c story b e = agree-all story.agree
      opening-now slot mode (Over (answers.Done value)) c story false e = agreed (finite.get v.shelf.opens (n, s)) refl (story.others s (eqb-false s slot e))
      opening-now slot mode (Over (answers.Done value)) c story true e =
          subst (λ (z : ℕ). Agrees terms.modes h n z None) (sym (eqb-true s slot e)) story.none file i.opens.mode (record { x = x; holds = i; mode_is = refl })
      opening-now slot mode (Over (answers.Refused fault)) c story b e = agree-all story.0

      plainly-now : (st : State) (c : ℕ) → StoryOf terms.modes h c n plainly st v.shelf.opens → ⊥
      plainly-now (Busy machine) c story = agree-all story.1
      plainly-now (Over answer) c story = agree-all story

      by-kind : (op : Op) (c : ℕ) (kind : Kind) → kind_of op ≡ kind → UnderWay h n c (length h) op → StateTold terms.modes h c n kind state v.shelf.opens
          → StoryOf terms.modes h c n kind state v.shelf.opens → Found
      by-kind op c (opening slot mode) is u t story = absurd (opening-now slot mode state c story (nat_eq s slot) refl)
      by-kind op c plainly is u t story = absurd (plainly-now state c story)
      by-kind op c (closing slot) is u t story =
          closing-now slot state refl c (subst (λ (o : Op). UnderWay h n c (length h) o) (closer-kind op slot is) u) t story (nat_eq s slot) refl

    -- so its close has its answer, which isn't noted yet
    pub still-ready : (answer : Answer) × IsReady terms.modes h v file answer
    still-ready = by (has-lane v.lanes n)
      where
        by : HasLane v.lanes n → Found
        by (no_lane other) = absurd (agree-all (slots.idle n other))
        by (has_lane k state there) =
            let t = d.lanes k (record { number = n; state = state }) there in
            by-kind k state there t.op t.x (kind_of t.op) refl t.under_way t.told (slots.lanes k (record { number = n; state = state }) there t.x t.op t.under_way)

-- ---- the answer that is noted

mark-is : (lane a b : ℕ) (o p : Op) → Began lane a o ≡ Began lane b p → a ≡ b
mark-is lane a b o p e = cc

-- the operation of the lane that is under way is answered now
pub ended-at : (h : List Entry) (lane line x : ℕ) (op : Op) (answer : Answer) → IsOpenLine h lane line → Runs h lane → UnderWay h lane x (length h) op
    → Ended (h ++ Answered lane line answer ∷ []) lane x op (length h) answer
ended-at h lane line x op answer o r u = record {
  line = line;
  began = At-grow h (Answered lane line answer ∷ []) x (Began lane line op) began;
  answered = At-last h (Answered lane line answer);
  later = u.before;
  first = λ j a there after. by j a after (At-cases h (Answered lane line answer) j (Answered lane line a) there);
}
  where
    run-is : x ≡ r.x
    run-is = elim (r.others x u.line op u.began) [
      | inl same ↦ same
      | inr done ↦ absurd (u.unanswered done)
    ]

    line-of : u.line ≡ r.line
    line-of = mark-is lane u.line r.line op r.op (At-one h r.x (Began lane u.line op) (Began lane r.line r.op) (subst (λ (k : ℕ). At h k (Began lane u.line op)) run-is u.began) r.began)

    same-line : u.line ≡ line
    same-line = line-of ∙ mark-is lane r.line line r.op o.op (last-same r.before o.before (Began lane r.line r.op) (Began lane line o.op) (sym r.marks ∙ o.is))

    began : At h x (Began lane line op)
    began = subst (λ (l : ℕ). At h x (Began lane l op)) same-line u.began

    by : (j : ℕ) (a : Answer) → x < j → At h j (Answered lane line a) ⊎ ((j ≡ length h) × (Answered lane line answer ≡ Answered lane line a)) → length h ≤ j
    by j a after (inr now) = let at = now.0 in omega (arith, at)
    by j a after (inl there) =
        absurd (r.unanswered j a (subst (λ (l : ℕ). At h j (Answered lane l a)) (sym same-line ∙ line-of) there) (let is = run-is in omega (arith, after, is)))

module _ (mounted : Mounted) (terms : Terms) (setup : Setup) (from : ℕ) (h : List Entry) (old new : View) (at lane line : ℕ) (answer : Answer) (k : Known setup h old)
    (g : GoesWith mounted terms setup (h ++ Answered lane line answer ∷ []) new) (found : new.lost ≡ false) (line_is : IsOpenLine h lane line)
    (a : AnswersAt old at lane (Some answer) new) (later : DropsKnown terms.modes (h ++ Answered lane line answer ∷ []) new) (file : List ℕ) where
  abbrev Later : List Entry
  Later = h ++ Answered lane line answer ∷ []

  same-opens : new.shelf.opens ≡ old.shelf.opens
  same-opens = ap (λ (w : View). w.shelf.opens) a.is

  apart : AreApart old.lanes
  apart = (lanes-under-way h old k.lanes).apart

  runs : Runs h lane
  runs = k.lanes.busy at lane (to-map number_of old.lanes at (record { number = lane; state = Over a.answer }) a.there)

  answer-is : answer ≡ a.answer
  answer-is = some-answer answer a.answer a.gives

  lane-of : (n p q l : ℕ) (c b : Answer) → Answered n p c ≡ Answered q l b → q ≡ n
  lane-of n p q l c b e = cc

  over-is : (p q : ℕ) (c b : Answer) → ◌≡◌ {A = Option Lane} (Some (record { number = p; state = Over c })) (Some (record { number = q; state = Over b })) → (p ≡ q) × (c ≡ b)
  over-is p q c b e = (number-is (Over c) (Over b) p q e, answer-one c b (state-is (Over c) (Over b) p q e))

  -- another lane's answer is owed still
  ready-other : (its : Answer) → (r : IsReady terms.modes h old file its) → r.at ≢ at → IsReady terms.modes Later new file its
  ready-other its r off =
      let s = still-there old.lanes at r.at (record { number = r.lane; state = Over its }) off r.there in
      record {
        at = s.0;
        lane = r.lane;
        slot = r.slot;
        x = r.x;
        there = ap (λ (w : View). slice_get w.lanes s.0) a.is ∙ s.1;
        under_way = under-grow terms.modes h (Answered lane line answer) r.lane r.x (ops.Close r.slot)
            (λ n b e. off (apart r.at at (record { number = r.lane; state = Over its }) (record { number = lane; state = Over a.answer }) r.there a.there (lane-of lane line r.lane n answer b e)))
            r.under_way;
        of = of-grow terms.modes h (Answered lane line answer) r.x (ops.Close r.slot) file r.of;
      }

  -- the answer of this close is noted now
  record NotedNow (its : Answer) : Type 0 where
    slot : ℕ
    x : ℕ
    of : IsOf terms.modes Later x (ops.Close slot) file
    ended : Ended Later lane x (ops.Close slot) (length h) its
    is : answer ≡ its

  noted-now : (its : Answer) → (r : IsReady terms.modes h old file its) → r.at ≡ at → NotedNow its
  noted-now its r same =
      let both = over-is r.lane lane its a.answer (sym r.there ∙ ap (slice_get old.lanes) same ∙ a.there) in
      let is : answer ≡ its = answer-is ∙ sym both.1 in
      record {
        slot = r.slot;
        x = r.x;
        of = of-grow terms.modes h (Answered lane line answer) r.x (ops.Close r.slot) file r.of;
        ended = subst (λ (b : Answer). Ended Later lane r.x (ops.Close r.slot) (length h) b) is
            (ended-at h lane line r.x (ops.Close r.slot) answer line_is runs (subst (λ (n : ℕ). UnderWay h n r.x (length h) (ops.Close r.slot)) both.0 r.under_way));
        is = is;
      }

  refused-later : from ≤ length h → IsRefused terms.modes from h old file → IsRefused terms.modes from Later new file
  refused-later since (noted n slot c j fault of ended late) =
      noted n slot c j fault (of-grow terms.modes h (Answered lane line answer) c (ops.Close slot) file of)
      (ended-grow h (Answered lane line answer) n c (ops.Close slot) j (answers.Refused fault) ended) late
  refused-later since (ready fault r) = by (nat_eq r.at at) refl
    where
      by : (b : Bool) → nat_eq r.at at ≡ b → IsRefused terms.modes from Later new file
      by false e = ready fault (ready-other (answers.Refused fault) r (eqb-false r.at at e))
      by true e = let n = noted-now (answers.Refused fault) r (eqb-true r.at at e) in noted lane n.slot n.x (length h) fault n.of n.ended since

  shut-later : (IsOpen old.shelf.opens file → ⊥) → IsOpen new.shelf.opens file → ⊥
  shut-later shut open_ = shut (subst (λ (o : Opens). IsOpen o file) same-opens open_)

  none-later : NonePast old file → NonePast new file
  none-later none i n c there past =
      let here = get-remove old.lanes at i (record { number = n; state = Busy (machines.File (files.Close c)) }) (sym (ap (λ (w : View). slice_get w.lanes i) a.is) ∙ there) in
      none (skip at i) n c here past

  owed-later : IsOwed terms.modes from h old file → (its : Answer) → IsReady terms.modes Later new file its → IsOwed terms.modes from Later new file
  owed-later o its r = record {
    since = let more = length_last h (Answered lane line answer) in let low = o.since in omega (arith, more, low);
    still = still-on terms.modes h (Answered lane line answer) from (λ b e. absurd cc) o.still;
    shut = shut-later o.shut;
    none = none-later o.none;
    answer = its;
    some = r;
    refused = refused-later o.since o.refused;
  }

  -- it was the last one, or another one is owed still
  pub owed-noted : IsOwed terms.modes from h old file → IsDropped terms.modes from Later new file
  owed-noted o never = by (nat_eq o.some.at at) refl
    where
      gives : (its : Answer) → NotedNow its → IsRefused terms.modes from h old file → GivesUp terms.modes Later (length h) file
      gives its n (noted l slot c j fault of ended late) =
          beside l slot c j fault (of-grow terms.modes h (Answered lane line answer) c (ops.Close slot) file of)
          (ended-grow h (Answered lane line answer) l c (ops.Close slot) j (answers.Refused fault) ended) (At-below h j (Answered l ended.line (answers.Refused fault)) ended.answered)
          (λ q b there after before.
          let more = length_last h (Answered lane line answer) in
          still-on terms.modes h (Answered lane line answer) from (λ b e. absurd cc) o.still q b there (omega (arith, late, after)) (omega (arith, more, before)))
      gives its n (ready fault r) = by-place (nat_eq r.at at) refl
        where
          by-place : (b : Bool) → nat_eq r.at at ≡ b → GivesUp terms.modes Later (length h) file
          by-place true e =
              let k = noted-now (answers.Refused fault) r (eqb-true r.at at e) in
              itself lane line fault (subst (λ (b : Answer). At Later (length h) (Answered lane line b)) k.is (At-last h (Answered lane line answer)))
          by-place false e = absurd (never (inl (owed-later o (answers.Refused fault) (ready-other (answers.Refused fault) r (eqb-false r.at at e)))))

      left : (its : Answer) → NotedNow its → Left terms.modes Later (length h) file
      left its n = record {
        lane = lane;
        slot = n.slot;
        close = n.x;
        answer = its;
        of = n.of;
        ended = n.ended;
        last = λ other its_slot x i.
            let r = still-ready mounted terms setup Later new g found later file (shut-later o.shut) (none-later o.none) other its_slot x
            (subst (λ (n : ℕ). InSlot terms.modes Later n other its_slot x file) (let more = length_last h (Answered lane line answer) in omega (arith, more)) i) in
            never (inl (owed-later o r.0 r.1));
      }

      by : (b : Bool) → nat_eq o.some.at at ≡ b → ⊥
      by false e = never (inl (owed-later o o.answer (ready-other o.answer o.some (eqb-false o.some.at at e))))
      by true e =
          let n = noted-now o.answer o.some (eqb-true o.some.at at e) in
          never (inr (record {
            k = length h;
            late = o.since;
            soon = let more = length_last h (Answered lane line answer) in omega (arith, more);
            still = λ q b there late before.
                let more = length_last h (Answered lane line answer) in
                still-on terms.modes h (Answered lane line answer) from (λ b e. absurd cc) o.still q b there late (omega (arith, more, before));
            left = left o.answer n;
            gives = gives o.answer n o.refused;
          }))

  pub dropped-noted : IsDropped terms.modes from h old file → IsDropped terms.modes from Later new file
  dropped-noted d never = d (λ p. by p)
    where
      by : IsOwed terms.modes from h old file ⊎ WasLeft terms.modes from h file → ⊥
      by (inl o) = owed-noted o never
      by (inr l) = never (inr (was-left-grow terms.modes h (Answered lane line answer) from file l))
