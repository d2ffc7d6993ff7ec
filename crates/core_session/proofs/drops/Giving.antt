-- A close that is refused, whose file no slot holds then: its answer is owed, and it alone is past its sync.
use Rattle.core_session.proofs.Prelude.{◌≡◌, ◌≢◌, ◌⊎◌, inl, inr, ℕ, List, [], ◌∷◌, ◌++◌, length, Bool, true, false, nat_eq, Some, None, slice_get, refl, sym, ap, subst, ◌∙◌, arith, eqb-true, eqb-false, Opens, IsOpen, Refused, Fault, Entry, Began, Op, Modes, UnderWay, IsOf, At-last, length_last, left, CloseFile, Closing, joined, Lane, State, Busy, Over, IsIdle, numbers_of, View, AreApart, seat_of, seat_close, idle-numbers, number_of, get-push, at-push, to-map, look-at, look-idle, Sits, same-sits, seat_with, seat-own, seat-other, joins, seat_state, seat_in, first-left, first-added, same-first, CloseTurn, IsFirst, Turned, IsPast, NonePast, IsOwed}
use Rattle.core_session.specs.drops.Dropped.{IsReady, ready, StillBetween}
use Rattle.world_model.specs.declared.op.Op.TheVariants as ops
use Rattle.file_ops.specs.declared.close_file.Closing.TheVariants as closings
use Rattle.op_machines.specs.declared.file_machine.FileMachine.TheVariants as files
use Rattle.op_machines.specs.declared.machine.Machine.TheVariants as machines
use Rattle.core_session.proofs.drops.Closers.{ClosingAt, ClosedAt}
use Rattle.core_session.proofs.drops.Drops.{WasCloser}
use Rattle.core_session.proofs.drops.Dropping.{was-at, now-at}
use Rattle.core_session.proofs.drops.SlotKinds.{CloserState, CloserLed}
use Rattle.core_session.proofs.drops.LaneIs.{state-is, busy-over}
use Rattle.core_session.proofs.drops.Laws.{OneStepped}

-- ---- seats and turns of closes

pub closing-seat : (n slot : ℕ) (file : List ℕ) (upto : ℕ) (opens : Opens) (state : Closing) → ClosingAt n slot file upto opens state → seat_close state ≡ Some file
closing-seat n slot file upto opens closings.Idle a = absurd a
closing-seat n slot file upto opens (closings.Queued saving) a = ap Some a.0.file_is
closing-seat n slot file upto opens (closings.Saves saving) a = ap Some a.0.file_is
closing-seat n slot file upto opens (closings.ToRemove removal) a = ap Some a.0
closing-seat n slot file upto opens (closings.Removing removal) a = ap Some a.0

pub past-seat : (file : List ℕ) (state : Closing) → IsPast file state → seat_close state ≡ Some file
past-seat file closings.Idle p = absurd p
past-seat file (closings.Queued saving) p = absurd p
past-seat file (closings.Saves saving) p = absurd p
past-seat file (closings.ToRemove removal) p = ap Some p
past-seat file (closings.Removing removal) p = ap Some p

pub past-first : (T : Type 0) (file : List ℕ) (state : Closing) → IsPast file state → CloseTurn T state → T
past-first T file closings.Idle p t = absurd p
past-first T file (closings.Queued saving) p t = absurd p
past-first T file (closings.Saves saving) p t = absurd p
past-first T file (closings.ToRemove removal) p t = t
past-first T file (closings.Removing removal) p t = t

-- what a close past its sync is in the order of its file
pub record PastAt (v : View) (n : ℕ) (file : List ℕ) : Type 0 where
  pub seat : seat_in n v.lanes ≡ Some file
  pub first : IsFirst n v.shelf.order

pub past-at : (v : View) (k n : ℕ) (c : CloseFile) (file : List ℕ) → Turned v → AreApart v.lanes
    → slice_get v.lanes k ≡ Some (record { number = n; state = Busy (machines.File (files.Close c)) }) → IsPast file c.state → PastAt v n file
past-at v k n c file t apart there past = record {
  seat = look-at seat_state v.lanes k n (Busy (machines.File (files.Close c))) apart there ∙ past-seat file c.state past;
  first = subst (λ (l : ℕ). IsFirst l v.shelf.order) (t.placed.live k (record { number = n; state = Busy (machines.File (files.Close c)) }) there).live.0
      (past-first (IsFirst c.lane v.shelf.order) file c.state past (t.turns k (record { number = n; state = Busy (machines.File (files.Close c)) }) there));
}

nothing-between : (h : List Entry) → StillBetween h (length h) (length h)
nothing-between h i b there late before = absurd (omega (arith, late, before))

-- ---- a step of its lane

module _ (m : Modes) (h : List Entry) (old new : View) (s : OneStepped m h old new) (t : Turned old) (apart : AreApart old.lanes) (slot : ℕ) (file : List ℕ) (upto : ℕ) (fault : Fault)
    (op_is : s.op ≡ ops.Close slot) (of : IsOf m h s.x (ops.Close slot) file) (was : WasCloser s.number s.machine old.shelf.opens slot file upto)
    (led : CloserLed s.number slot file upto (IsFirst s.number old.shelf.order) old.shelf.opens s.state new.shelf.opens) (ends : s.state ≡ Over (Refused fault)) where
  closed : ClosedAt s.number slot (IsFirst s.number old.shelf.order) new.shelf.opens (Refused fault)
  closed = subst (CloserState s.number slot file upto (IsFirst s.number old.shelf.order) new.shelf.opens) ends led.then_

  own-seat : seat_in s.number old.lanes ≡ Some file
  own-seat =
      look-at seat_state old.lanes s.at s.number (Busy s.machine) apart s.there ∙ ap seat_of was.is
      ∙ closing-seat s.number slot file upto old.shelf.opens was.c.state was.at

  none-left : NonePast new file
  none-left k n c there past = by (nat_eq k s.at) refl
    where
      by : (b : Bool) → nat_eq k s.at ≡ b → ⊥
      by true d =
          busy-over (machines.File (files.Close c)) (Refused fault)
          (sym (state-is s.state (Busy (machines.File (files.Close c))) s.number n (sym (now-at m h old new s file) ∙ ap (slice_get new.lanes) (sym (eqb-true k s.at d)) ∙ there)) ∙ ends)
      by false d =
          let here = was-at m h old new s file k (record { number = n; state = Busy (machines.File (files.Close c)) }) (eqb-false k s.at d) there in
          let p = past-at old k n c file t apart here past in
          let same = same-first (λ i. seat_in i old.lanes) old.shelf.order t.placed.sits.sound s.number n file own-seat p.seat closed.first p.first in
          eqb-false k s.at d (apart k s.at (record { number = n; state = Busy (machines.File (files.Close c)) }) (record { number = s.number; state = Busy s.machine }) here s.there (sym same))

  pub owed-given : (IsOpen new.shelf.opens file → ⊥) → IsOwed m (length h) h new file
  owed-given shut = record {
    since = omega arith;
    still = nothing-between h;
    shut = shut;
    none = none-left;
    answer = Refused fault;
    some = here;
    refused = ready fault here;
  }
    where
      here : IsReady m h new file (Refused fault)
      here = record {
        at = s.at;
        lane = s.number;
        slot = slot;
        x = s.x;
        there = now-at m h old new s file ∙ ap (λ (st : State). Some (record { number = s.number; state = st })) ends;
        under_way = subst (λ (o : Op). UnderWay h s.number s.x (length h) o) op_is s.under_way;
        of = of;
      }

-- ---- its first step

module _ (m : Modes) (h : List Entry) (old new : View) (lane line slot : ℕ) (file : List ℕ) (upto : ℕ) (fault : Fault) (state : State) (t : Turned old) (apart : AreApart old.lanes)
    (idle : IsIdle lane old.lanes) (lanes_are : new.lanes ≡ old.lanes ++ record { number = lane; state = state } ∷ [])
    (of : IsOf m (h ++ Began lane line (ops.Close slot) ∷ []) (length h) (ops.Close slot) file)
    (led : CloserLed lane slot file upto (IsFirst lane (joined lane file old.shelf).order) old.shelf.opens state new.shelf.opens) (ends : state ≡ Over (Refused fault)) where
  begun-closed : ClosedAt lane slot (IsFirst lane (joined lane file old.shelf).order) new.shelf.opens (Refused fault)
  begun-closed = subst (CloserState lane slot file upto (IsFirst lane (joined lane file old.shelf).order) new.shelf.opens) ends led.then_

  none-seat : (n : ℕ) (b : Bool) → nat_eq n lane ≡ b → seat_with lane None (λ j. seat_in j old.lanes) n ≡ seat_in n old.lanes
  none-seat n true d =
      let same = eqb-true n lane d in
      ap (λ (j : ℕ). seat_with lane None (λ i. seat_in i old.lanes) j) same ∙ seat-own lane None (λ i. seat_in i old.lanes)
      ∙ sym (ap (λ (j : ℕ). seat_in j old.lanes) same ∙ look-idle seat_state lane old.lanes idle.other)
  none-seat n false d = seat-other lane n None (λ j. seat_in j old.lanes) (eqb-false n lane d)

  sits : Sits (seat_with lane (Some file) (λ n. seat_in n old.lanes)) (joined lane file old.shelf).order
  sits =
      joins lane (λ n. seat_in n old.lanes) idle.least idle.most None file old.shelf.order
      (same-sits (λ n. seat_in n old.lanes) (seat_with lane None (λ n. seat_in n old.lanes)) old.shelf.order (λ n. none-seat n (nat_eq n lane) refl) t.placed.sits)

  not-lane : (j : ℕ) (l : Lane) → slice_get old.lanes j ≡ Some l → l.number ≢ lane
  not-lane j l there e = idle-numbers lane (numbers_of old.lanes) idle.other j (to-map number_of old.lanes j l there ∙ ap Some e)

  over-busy : (n k : ℕ) (c : CloseFile) → ◌≡◌ {A = Lane} (record { number = k; state = Busy (machines.File (files.Close c)) }) (record { number = n; state = Over (Refused fault) }) → ⊥
  over-busy n k c e = let no_way : Busy (machines.File (files.Close c)) ≡ Over (Refused fault) = ap (λ (l : Lane). l.state) e in cc

  none-begun : NonePast new file
  none-begun k n c there past =
      by (get-push old.lanes (record { number = lane; state = state }) k (record { number = n; state = Busy (machines.File (files.Close c)) }) (ap (λ (ls : List Lane). slice_get ls k) (sym lanes_are) ∙ there))
    where
      by : (slice_get old.lanes k ≡ Some (record { number = n; state = Busy (machines.File (files.Close c)) }))
          ⊎ ((k ≡ length old.lanes) × ◌≡◌ {A = Lane} (record { number = n; state = Busy (machines.File (files.Close c)) }) (record { number = lane; state = state })) → ⊥
      by (inr now) = over-busy lane n c (now.1 ∙ ap {B = Lane} (λ (st : State). record { number = lane; state = st }) ends)
      by (inl here) =
          let p = past-at old k n c file t apart here past in
          let off = not-lane k (record { number = n; state = Busy (machines.File (files.Close c)) }) here in
          let first = first-added n (record { lane = lane; file = file }) (left lane old.shelf.order) (first-left n lane old.shelf.order off p.first) in
          let same = same-first (seat_with lane (Some file) (λ i. seat_in i old.lanes)) (joined lane file old.shelf).order sits.sound lane n file
          (seat-own lane (Some file) (λ i. seat_in i old.lanes)) (seat-other lane n (Some file) (λ i. seat_in i old.lanes) off ∙ p.seat) begun-closed.first first in
          off (sym same)

  pub owed-begun : (IsOpen new.shelf.opens file → ⊥) → IsOwed m (length (h ++ Began lane line (ops.Close slot) ∷ [])) (h ++ Began lane line (ops.Close slot) ∷ []) new file
  owed-begun shut = record {
    since = omega arith;
    still = nothing-between (h ++ Began lane line (ops.Close slot) ∷ []);
    shut = shut;
    none = none-begun;
    answer = Refused fault;
    some = here;
    refused = ready fault here;
  }
    where
      here : IsReady m (h ++ Began lane line (ops.Close slot) ∷ []) new file (Refused fault)
      here = record {
        at = length old.lanes;
        lane = lane;
        slot = slot;
        x = length h;
        there = ap (λ (ls : List Lane). slice_get ls (length old.lanes)) lanes_are ∙ at-push old.lanes (record { number = lane; state = state })
            ∙ ap (λ (st : State). Some (record { number = lane; state = st })) ends;
        under_way = record {
          line = line;
          began = At-last h (Began lane line (ops.Close slot));
          before = let more = length_last h (Began lane line (ops.Close slot)) in omega (arith, more);
          unanswered = λ a. let late = a.ended.later in let low = a.before in let more = length_last h (Began lane line (ops.Close slot)) in absurd (omega (arith, late, low, more));
        };
        of = of;
      }
