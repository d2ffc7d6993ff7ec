-- Where each answer that is ready was noted, and the table has no slot that holds the file of a close past its sync, that close's slot alone holds the file by
-- the history.
use Rattle.core_session.proofs.Prelude.{◌≡◌, ◌⊎◌, ◌≤◌, ◌<◌, inl, inr, ℕ, List, length, Bool, true, false, nat_eq, Option, Some, None, slice_get, refl, sym, ap, subst, ◌∙◌, arith, eqb-true, eqb-false, cases_lt, Mode, Opened, IsOpen, Answer, Entry, Began, Answered, Op, At, Ended, AnsweredBefore, UnderWay, InSlot, IsOf, Terms, At-below, At-one, CloseFile, Mounted, Machine, machine_of, State, Busy, Over, Setup, IsOther, numbers_of, View, AreApart, GoesWith, lanes-under-way, reached-lanes, seat_in, Agrees, SlotsAgree, Kind, plainly, kind_of, StoryOf, Slots, reached-slots, same-first, IsPast}
use Rattle.core_facts.proofs.Slots.{opening, closing}
use Rattle.std.specs.FinMap as finite
use Rattle.world_model.specs.declared.answer.Answer.TheVariants as answers
use Rattle.world_model.specs.declared.op.Op.TheVariants as ops
use Rattle.claims.specs.Asks.{HeldAlone}
use Rattle.op_machines.specs.declared.file_machine.FileMachine.TheVariants as files
use Rattle.op_machines.specs.declared.machine.Machine.TheVariants as machines
use Rattle.core_session.proofs.calls.TableHeld.{AllNoted, IsLane, lane-or}
use Rattle.core_session.proofs.drops.Drops.{closer-kind}
use Rattle.core_session.proofs.drops.Dropping.{past-or-open}
use Rattle.core_session.proofs.drops.Giving.{past-at}
use Rattle.core_session.proofs.drops.LaneIs.{state-is}
use Rattle.core_session.proofs.drops.Laws.{DropsKnown}
use Rattle.core_session.proofs.drops.OneFile.{one-by-one, slot-file}
use Rattle.core_session.proofs.drops.SlotKinds.{StateTold}

began-is : (a b c d : ℕ) (o p : Op) → Began a b o ≡ Began c d p → (a ≡ c) × (b ≡ d) × (o ≡ p)
began-is a b c d o p e = (cc, cc, cc)

one-slot : (a b : ℕ) → Some a ≡ Some b → a ≡ b
one-slot a b e = cc

busy-is : (a b : Machine) → Busy a ≡ Busy b → a ≡ b
busy-is a b e = cc

close-is : (a b : CloseFile) → machines.File (files.Close a) ≡ machines.File (files.Close b) → a ≡ b
close-is a b e = cc

module _ (mounted : Mounted) (terms : Terms) (setup : Setup) (h : List Entry) (v : View) (g : GoesWith mounted terms setup h v) (found : v.lost ≡ false) (d : DropsKnown terms.modes h v)
    (noted : AllNoted v) (file : List ℕ) (shut : IsOpen v.shelf.opens file → ⊥) (at lane : ℕ) (close : CloseFile)
    (here : slice_get v.lanes at ≡ Some (record { number = lane; state = Busy (machines.File (files.Close close)) })) (its_past : IsPast file close.state) where
  slots : Slots terms.modes mounted g.nocto setup h v
  slots = reached-slots terms.modes mounted g.nocto setup h v g.reaches found

  apart : AreApart v.lanes
  apart = (lanes-under-way h v (reached-lanes (machine_of mounted) setup h v g.reaches)).apart

  module _ (n s x : ℕ) (i : InSlot terms.modes h (length h) n s x file) where
    abbrev IsIt : Type 0
    IsIt = (n ≡ lane) × (s ≡ close.slot)

    agreed : (o : Option Opened) → finite.get v.shelf.opens (n, s) ≡ o → Agrees terms.modes h n s o → ⊥
    agreed None there a = a file i.opens.mode (record { x = x; holds = i; mode_is = refl })
    agreed (Some o) there a =
        shut (record {
          place = (n, s);
          of = o;
          there = there;
          same = slot-file mounted terms setup h v g (length h) n s a.held.x x o.file file a.held.holds i;
        })

    agree-all : SlotsAgree terms.modes h n v.shelf.opens → ⊥
    agree-all a = agreed (finite.get v.shelf.opens (n, s)) refl (a s)

    -- the slot held it as the close of it began, which is under way
    held-then : (c : ℕ) (u : UnderWay h n c (length h) (ops.Close s)) → InSlot terms.modes h c n s x file
    held-then c u = record {
      y = i.y;
      opens = i.opens;
      before = by (cases_lt x c);
      kept = λ q k answer e after lt. let low = u.before in i.kept q k answer e after (omega (arith, lt, low));
    }
      where
        early : (op : Op) (y k b : ℕ) (answer : Answer) → Ended h n b op y answer → AnsweredBefore h b k → y < k
        early op y k b answer e a =
            let same = began-is a.lane a.ended.line n e.line a.op op (At-one h b (Began a.lane a.ended.line a.op) (Began n e.line op) a.ended.began e.began) in
            let first = e.first a.y a.answer (subst (λ (l : ℕ). At h a.y (Answered l e.line a.answer)) same.0 (subst (λ (l : ℕ). At h a.y (Answered a.lane l a.answer)) same.1 a.ended.answered)) a.ended.later in
            let low = a.before in
            omega (arith, first, low)

        open_op : Op
        open_op = ops.OpenFile s i.opens.mode i.opens.path

        by : (x < c) ⊎ (c ≤ x) → i.y < c
        by (inl low) =
            early open_op i.y c x (answers.Done i.opens.value) i.opens.ended
            (one-by-one (machine_of mounted) setup h v g.reaches n x i.opens.ended.line open_op c u.line (ops.Close s) i.opens.ended.began u.began low)
        by (inr high) = same (cases_lt c x)
          where
            same : (c < x) ⊎ (x ≤ c) → i.y < c
            same (inl less) =
                let a = one-by-one (machine_of mounted) setup h v g.reaches n c u.line (ops.Close s) x i.opens.ended.line open_op u.began i.opens.ended.began less in
                let low = At-below h x (Began n i.opens.ended.line open_op) i.opens.ended.began in
                let under = a.before in
                absurd (u.unanswered (record { lane = a.lane; op = a.op; y = a.y; answer = a.answer; ended = a.ended; before = omega (arith, low, under) }))
            same (inr more) =
                let is : x ≡ c = omega (arith, high, more) in
                let one = began-is n i.opens.ended.line n u.line open_op (ops.Close s)
                (At-one h c (Began n i.opens.ended.line open_op) (Began n u.line (ops.Close s)) (subst (λ (k : ℕ). At h k (Began n i.opens.ended.line open_op)) is i.opens.ended.began) u.began) in
                absurd (let no_way : ops.OpenFile s i.opens.mode i.opens.path ≡ ops.Close s = one.2 in cc)

    -- the close of this slot that is under way is of this file
    same-file : (c : ℕ) (u : UnderWay h n c (length h) (ops.Close s)) (f : List ℕ) → IsOf terms.modes h c (ops.Close s) f → f ≡ file
    same-file c u f of =
        let one = began-is of.lane of.line n u.line (ops.Close s) (ops.Close s) (At-one h c (Began of.lane of.line (ops.Close s)) (Began n u.line (ops.Close s)) of.began u.began) in
        let there : InSlot terms.modes h c n s of.open_at f =
        subst (λ (k : ℕ). InSlot terms.modes h c k s of.open_at f) one.0 (subst (λ (k : ℕ). InSlot terms.modes h c of.lane k of.open_at f) (one-slot of.slot s (sym of.works_on)) of.holds) in
        slot-file mounted terms setup h v g c n s of.open_at x f file there (held-then c u)

    -- a close of the file past its sync is this one: both are the first in the file's order
    is-it : (k : ℕ) (c : CloseFile) → slice_get v.lanes k ≡ Some (record { number = n; state = Busy (machines.File (files.Close c)) }) → IsPast file c.state → c.slot ≡ s → IsIt
    is-it k c there past same =
        let mine = past-at v at lane close file d.turned apart here its_past in
        let other = past-at v k n c file d.turned apart there past in
        let one : lane ≡ n = same-first (λ (q : ℕ). seat_in q v.lanes) v.shelf.order d.turned.placed.sits.sound lane n file mine.seat other.seat mine.first other.first in
        let place : k ≡ at =
        apart k at (record { number = n; state = Busy (machines.File (files.Close c)) }) (record { number = lane; state = Busy (machines.File (files.Close close)) }) there here (sym one) in
        let closes : c ≡ close =
        close-is c close
        (busy-is (machines.File (files.Close c)) (machines.File (files.Close close))
        (state-is (Busy (machines.File (files.Close c))) (Busy (machines.File (files.Close close))) n lane (sym there ∙ ap (slice_get v.lanes) place ∙ here))) in
        (sym one, sym same ∙ ap (λ (q : CloseFile). q.slot) closes)

    module _ (k : ℕ) (state : State) (there : slice_get v.lanes k ≡ Some (record { number = n; state = state })) where
      -- by a close of a slot
      closing-now : (slot : ℕ) (st : State) → state ≡ st → (c : ℕ) → (u : UnderWay h n c (length h) (ops.Close slot)) → StateTold terms.modes h c n (closing slot) st v.shelf.opens
          → StoryOf terms.modes h c n (closing slot) st v.shelf.opens → (b : Bool) → nat_eq s slot ≡ b → IsIt
      closing-now slot (Busy machine) is c u t story false e = absurd (agreed (finite.get v.shelf.opens (n, s)) refl (story.others s (eqb-false s slot e)))
      closing-now slot (Over answer) is c u t story b e = absurd (noted k n answer (there ∙ ap (λ (st : State). Some (record { number = n; state = st })) is))
      closing-now slot (Busy machine) is c u t story true e = by (past-or-open n slot t.file t.upto v.shelf.opens t.closer.c.state t.closer.at)
        where
          slot_is : s ≡ slot
          slot_is = eqb-true s slot e

          same : t.file ≡ file
          same =
              same-file c (subst (λ (z : ℕ). UnderWay h n c (length h) (ops.Close z)) (sym slot_is) u) t.file
              (subst (λ (z : ℕ). IsOf terms.modes h c (ops.Close z) t.file) (sym slot_is) t.of)

          by : IsPast t.file t.closer.c.state ⊎ IsOpen v.shelf.opens t.file → IsIt
          by (inr open_) = absurd (shut (subst (IsOpen v.shelf.opens) same open_))
          by (inl past) =
              is-it k t.closer.c (there ∙ ap (λ (st : State). Some (record { number = n; state = st })) (is ∙ ap Busy t.closer.is))
              (subst (λ (f : List ℕ). IsPast f t.closer.c.state) same past) (t.closer.slot_is ∙ sym slot_is)

      opening-now : (slot : ℕ) (mode : Mode) (st : State) → state ≡ st → (c : ℕ) → StoryOf terms.modes h c n (opening slot mode) st v.shelf.opens → ⊥
      opening-now slot mode (Busy machine) is c story = agree-all story.agree
      opening-now slot mode (Over answer) is c story = noted k n answer (there ∙ ap (λ (st : State). Some (record { number = n; state = st })) is)

      plainly-now : (st : State) (c : ℕ) → StoryOf terms.modes h c n plainly st v.shelf.opens → ⊥
      plainly-now (Busy machine) c story = agree-all story.1
      plainly-now (Over answer) c story = agree-all story

      by-kind : (op : Op) (c : ℕ) (kind : Kind) → kind_of op ≡ kind → UnderWay h n c (length h) op → StateTold terms.modes h c n kind state v.shelf.opens
          → StoryOf terms.modes h c n kind state v.shelf.opens → IsIt
      by-kind op c (opening slot mode) is u t story = absurd (opening-now slot mode state refl c story)
      by-kind op c plainly is u t story = absurd (plainly-now state c story)
      by-kind op c (closing slot) is u t story =
          closing-now slot state refl c (subst (λ (o : Op). UnderWay h n c (length h) o) (closer-kind op slot is) u) t story (nat_eq s slot) refl

    its-slot : IsIt
    its-slot = by (lane-or n v.lanes)
      where
        by : IsLane n v.lanes ⊎ IsOther n (numbers_of v.lanes) → IsIt
        by (inr other) = absurd (agree-all (slots.idle n other))
        by (inl l) =
            let t = d.lanes l.at (record { number = n; state = l.state }) l.there in
            by-kind l.at l.state l.there t.op t.x (kind_of t.op) refl t.under_way t.told (slots.lanes l.at (record { number = n; state = l.state }) l.there t.x t.op t.under_way)

  -- so it holds it alone now
  pub alone-now : (x : ℕ) → x ≤ length h → HeldAlone terms h x (length h) lane close.slot file
  alone-now x early = record { n = length h; moment = record { late = early; soon = omega arith }; alone = λ other its open_at i. its-slot other its open_at i }
