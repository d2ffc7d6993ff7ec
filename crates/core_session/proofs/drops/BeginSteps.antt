-- What guards a written byte, as an operation begins, as an answer is noted, and as a lone byte comes in.
use Rattle.core_session.proofs.Prelude.{◌≡◌, ◌≢◌, ◌⊎◌, ◌≤◌, ◌<◌, inl, inr, ℕ, zero, suc, List, [], ◌∷◌, ◌++◌, length, remove, Bool, true, false, nat_eq, Option, Some, None, option_map, position, slice_get, refl, sym, ap, subst, ◌∙◌, arith, nat_lt, if◌then◌else◌, option_map_or, eqb-true, eqb-false, Opened, Opens, Entry, Op, Modes, LaneFile, Step, Shelf, is_lane, added, left, CloseFile, Closing, Saving, file_at, joined, Mounted, Machine, machine_of, Starts, Lane, State, Busy, Over, Setup, IsIdle, numbers_of, counted, StartsLane, View, turn_at, AreApart, Reaches, begins-unbegun, seat_close, idle-numbers, number_of, get-push, before-push, at-push, get-remove, skip, to-map, look-at, look-idle, Sits, same-sits, seat_with, seat-own, seat-other, joins, seat_state, seat_in, Kind, plainly, kind_of, BeginsAs, Agrees, reached-slots, IsFirst, Turned, file_in, save_in, IsClose, IsSaving, IsGuarded, slot, past}
use Rattle.core_facts.proofs.Slots.{opening, closing}
use Rattle.std.specs.FinMap as finite
use Rattle.world_model.specs.declared.answer.Answer.TheVariants as answers
use Rattle.world_model.specs.declared.answer.Fault.TheVariants as faults
use Rattle.world_model.specs.declared.op.Op.TheVariants as ops
use Rattle.file_ops.specs.declared.close_file.Closing.TheVariants as closings
use Rattle.file_ops.specs.Saves as saves
use Rattle.op_machines.specs.declared.file_machine.FileMachine.TheVariants as files
use Rattle.op_machines.specs.declared.machine.Machine.TheVariants as machines
use Rattle.core_facts.proofs.AllSeats.{begins-fresh}
use Rattle.core_session.proofs.drops.AllCounted.{up-starts}
use Rattle.core_session.proofs.drops.Drops.{closer-kind, ended-slot}
use Rattle.core_session.proofs.drops.CloseGoes.{goes-starts}
use Rattle.core_session.proofs.drops.GuardLaws.{StepOf, MachineWent, to-went, went-led, leading-up, leading-before, other-now, saving-open}
use Rattle.core_session.proofs.drops.Guards.{Ranked, CloserWent, Stepping, CloserStep, OtherStep, LetGo, other-ranked, other-guarded, closer-ranked, closer-guarded}
use Rattle.core_session.proofs.drops.LaneIs.{busy-over}
use Rattle.core_session.proofs.drops.Laws.{DropsKnown}
use Rattle.core_session.proofs.drops.Leading.{Leading, Pushed, starts-led, set-push}
use Rattle.core_session.proofs.drops.Ranks.{StandsBefore, BeforeStays, goes-start, left-before, added-before, none-before}
use Rattle.core_session.proofs.drops.SaveFiles.{save-begun}
use Rattle.core_session.proofs.drops.SlotKinds.{begins-as, MachineThen, CloserState, CloserLed, closer-led, close-begins, OtherTold, OtherState, other-led, other-begins}

below : (xs : List LaneFile) (i : ℕ) (x : LaneFile) → slice_get xs i ≡ Some x → i < length xs
below [] i x there = absurd (cc)
below (y ∷ ys) zero x there = omega arith
below (y ∷ ys) (suc i) x there = let less = below ys i x there in omega (arith, less)

save-seat : (state : Closing) (s : Saving) → save_in state ≡ Some s → seat_close state ≡ Some s.file
save-seat closings.Idle s is = absurd cc
save-seat (closings.Queued saving) s is = let same : saving ≡ s = cc in ap (λ (k : Saving). Some k.file) same
save-seat (closings.Saves saving) s is = let same : saving ≡ s = cc in ap (λ (k : Saving). Some k.file) same
save-seat (closings.ToRemove removal) s is = absurd cc
save-seat (closings.Removing removal) s is = absurd cc

-- ---- the order, before a lane joined a file

skip-up : (at i j : ℕ) → i < j → skip at i < skip at j
skip-up zero i j low = omega (arith, low)
skip-up (suc at) zero zero low = absurd (omega (arith, low))
skip-up (suc at) zero (suc j) low = omega arith
skip-up (suc at) (suc i) zero low = absurd (omega (arith, low))
skip-up (suc at) (suc i) (suc j) low = let less = skip-up at i j (omega (arith, low)) in omega (arith, less)

left-back : (lane : ℕ) (order : List LaneFile) (file : List ℕ) (a b : ℕ) → StandsBefore (left lane order) file a b → StandsBefore order file a b
left-back lane order file a b = by (position (is_lane lane) order)
  where
    by : (o : Option ℕ) → StandsBefore (option_map_or (λ at. remove order at) o order) file a b → StandsBefore order file a b
    by None s = s
    by (Some at) s = record {
      i = skip at s.i;
      j = skip at s.j;
      low = skip-up at s.i s.j s.low;
      one = get-remove order at s.i (record { lane = a; file = file }) s.one;
      two = get-remove order at s.j (record { lane = b; file = file }) s.two;
    }

lane-one : (a b : ℕ) (f g : List ℕ) → ◌≡◌ {A = LaneFile} (record { lane = a; file = f }) (record { lane = b; file = g }) → a ≡ b
lane-one a b f g e = ap (λ (p : LaneFile). p.lane) e

added-back : (lane : ℕ) (its : List ℕ) (order : List LaneFile) (file : List ℕ) (a b : ℕ) → a ≢ lane → b ≢ lane → StandsBefore (added (record { lane = lane; file = its }) order) file a b
    → StandsBefore order file a b
added-back lane its order file a b x y = by (nat_lt (length order) 16)
  where
    place : LaneFile
    place = record { lane = lane; file = its }

    by : (c : Bool) → StandsBefore (if c then order ++ record { lane = lane; file = its } ∷ [] else order) file a b → StandsBefore order file a b
    by false s = s
    by true s =
        at (get-push order (record { lane = lane; file = its }) s.i (record { lane = a; file = file }) s.one)
        (get-push order (record { lane = lane; file = its }) s.j (record { lane = b; file = file }) s.two)
      where
        at : (slice_get order s.i ≡ Some (record { lane = a; file = file })) ⊎ ((s.i ≡ length order) × ◌≡◌ {A = LaneFile} (record { lane = a; file = file }) (record { lane = lane; file = its }))
            → (slice_get order s.j ≡ Some (record { lane = b; file = file })) ⊎ ((s.j ≡ length order) × ◌≡◌ {A = LaneFile} (record { lane = b; file = file }) (record { lane = lane; file = its }))
            → StandsBefore order file a b
        at (inl one) (inl two) = record { i = s.i; j = s.j; low = s.low; one = one; two = two }
        at (inr one) two = absurd (x (lane-one a lane file its one.1))
        at (inl one) (inr two) = absurd (y (lane-one b lane file its two.1))

-- ---- a lane more

-- the other lanes are those of before
module _ (old new : View) (lane : ℕ) (state : State) (lanes_are : new.lanes ≡ old.lanes ++ record { number = lane; state = state } ∷ []) where
  pub close-pushed : (n : ℕ) (c : CloseFile) → IsClose old n c → IsClose new n c
  close-pushed n c k = record {
    at = k.at;
    there = ap (λ (ls : List Lane). slice_get ls k.at) lanes_are
        ∙ before-push old.lanes (record { number = lane; state = state }) k.at (record { number = n; state = Busy (machines.File (files.Close c)) }) k.there;
  }

  pub close-before : (n : ℕ) (c : CloseFile) → IsClose new n c → IsClose old n c ⊎ ((n ≡ lane) × (state ≡ Busy (machines.File (files.Close c))))
  close-before n c k =
      by (get-push old.lanes (record { number = lane; state = state }) k.at (record { number = n; state = Busy (machines.File (files.Close c)) })
      (ap (λ (ls : List Lane). slice_get ls k.at) (sym lanes_are) ∙ k.there))
    where
      by : (slice_get old.lanes k.at ≡ Some (record { number = n; state = Busy (machines.File (files.Close c)) }))
          ⊎ ((k.at ≡ length old.lanes) × ◌≡◌ {A = Lane} (record { number = n; state = Busy (machines.File (files.Close c)) }) (record { number = lane; state = state }))
          → IsClose old n c ⊎ ((n ≡ lane) × (state ≡ Busy (machines.File (files.Close c))))
      by (inl there) = inl (record { at = k.at; there = there })
      by (inr now) = inr (ap (λ (l : Lane). l.number) now.1, sym (ap (λ (l : Lane). l.state) now.1))

-- ---- before the first step of an operation that is no close, and of a close

module _ (old : View) (lane : ℕ) (idle : IsIdle lane old.lanes) (r : Ranked old) (number : ℕ) (few : number ≤ old.shelf.seq) (file : List ℕ) where
  not-lane : (j : ℕ) (l : Lane) → slice_get old.lanes j ≡ Some l → l.number ≢ lane
  not-lane j l there e = idle-numbers lane (numbers_of old.lanes) idle.other j (to-map number_of old.lanes j l there ∙ ap Some e)

  abbrev pub Beside : View
  Beside = record old { lanes = old.lanes ++ record { number = lane; state = Over (answers.Refused faults.Lost) } ∷ [] }

  beside-saving : (n : ℕ) (c : CloseFile) (f : List ℕ) (u : ℕ) → IsSaving Beside n c f u → IsSaving old n c f u
  beside-saving n c f u i = by (close-before old Beside lane (Over (answers.Refused faults.Lost)) refl n c i.close)
    where
      by : IsClose old n c ⊎ ((n ≡ lane) × (Over (answers.Refused faults.Lost) ≡ Busy (machines.File (files.Close c)))) → IsSaving old n c f u
      by (inl was) = record { close = was; save = i.save; is = i.is; file_is = i.file_is; upto_is = i.upto_is }
      by (inr now) = absurd (busy-over (machines.File (files.Close c)) (answers.Refused faults.Lost) (sym now.1))

  pub beside-ranked : Ranked Beside
  beside-ranked = record {
    sorted = λ n l c d f u w a b low. r.sorted n l c d f u w (beside-saving n c f u a) (beside-saving l d f w b) low;
    below = λ n c f u a. r.below n c f u (beside-saving n c f u a);
  }

  pub beside-guarded : IsGuarded number old file → IsGuarded number Beside file
  beside-guarded (slot place of there same all) = slot place of there same (λ c upto i. all c upto (beside-saving place.0 c file upto i))
  beside-guarded (past n c removal fault close gone same refused all) =
      past n c removal fault (close-pushed old Beside lane (Over (answers.Refused faults.Lost)) refl n c close) gone same refused (λ l d upto i. all l d upto (beside-saving l d file upto i))

  -- a close of a file, which has joined its order
  module _ (its : List ℕ) (q : CloseFile) (q_is : q.state ≡ closings.Queued (saves.begun its old.shelf.seq)) (t : Turned old) (apart : AreApart old.lanes) where
    abbrev pub Queued : View
    Queued = record old { lanes = old.lanes ++ record { number = lane; state = Busy (machines.File (files.Close q)) } ∷ []; shelf = joined lane its old.shelf }

    -- it is another's, or its own with all numbers
    queued-saving : (n : ℕ) (c : CloseFile) (f : List ℕ) (u : ℕ) → IsSaving Queued n c f u → (IsSaving old n c f u × (n ≢ lane)) ⊎ ((n ≡ lane) × (u ≡ old.shelf.seq) × (f ≡ its))
    queued-saving n c f u i = by (close-before old Queued lane (Busy (machines.File (files.Close q))) refl n c i.close)
      where
        close-of : (a b : CloseFile) → Busy (machines.File (files.Close a)) ≡ Busy (machines.File (files.Close b)) → b ≡ a
        close-of a b e = cc

        some-saving : (a b : Saving) → Some a ≡ Some b → b ≡ a
        some-saving a b e = cc

        by : IsClose old n c ⊎ ((n ≡ lane) × (Busy (machines.File (files.Close q)) ≡ Busy (machines.File (files.Close c)))) → (IsSaving old n c f u × (n ≢ lane)) ⊎ ((n ≡ lane) × (u ≡ old.shelf.seq) × (f ≡ its))
        by (inl was) = inl (
          record { close = was; save = i.save; is = i.is; file_is = i.file_is; upto_is = i.upto_is },
          not-lane was.at (record { number = n; state = Busy (machines.File (files.Close c)) }) was.there,
        )
        by (inr now) =
            let one : c ≡ q = close-of q c now.1 in
            let state : c.state ≡ closings.Queued (saves.begun its old.shelf.seq) = ap (λ (d : CloseFile). d.state) one ∙ q_is in
            let save : i.save ≡ saves.begun its old.shelf.seq = some-saving (saves.begun its old.shelf.seq) i.save (sym (ap save_in state) ∙ i.is) in
            inr (now.0, sym i.upto_is ∙ ap (λ (s : Saving). s.upto) save, sym i.file_is ∙ ap (λ (s : Saving). s.file) save)

    none-seat : (n : ℕ) (b : Bool) → nat_eq n lane ≡ b → seat_with lane None (λ j. seat_in j old.lanes) n ≡ seat_in n old.lanes
    none-seat n true d =
        let same = eqb-true n lane d in
        ap (λ (j : ℕ). seat_with lane None (λ i. seat_in i old.lanes) j) same ∙ seat-own lane None (λ i. seat_in i old.lanes)
        ∙ sym (ap (λ (j : ℕ). seat_in j old.lanes) same ∙ look-idle seat_state lane old.lanes idle.other)
    none-seat n false d = seat-other lane n None (λ j. seat_in j old.lanes) (eqb-false n lane d)

    pub queued-sits : Sits (seat_with lane (Some its) (λ n. seat_in n old.lanes)) (joined lane its old.shelf).order
    queued-sits =
        joins lane (λ n. seat_in n old.lanes) idle.least idle.most None its old.shelf.order
        (same-sits (λ n. seat_in n old.lanes) (seat_with lane None (λ n. seat_in n old.lanes)) old.shelf.order (λ n. none-seat n (nat_eq n lane) refl) t.placed.sits)

    stays : BeforeStays lane old.shelf.order (joined lane its old.shelf).order
    stays f a b x y st = added-before (record { lane = lane; file = its }) (left lane old.shelf.order) f a b (left-before lane old.shelf.order f a b x y st)

    no-place : (j : ℕ) (f : List ℕ) → slice_get old.shelf.order j ≡ Some (record { lane = lane; file = f }) → ⊥
    no-place j f there =
        let no_way : None ≡ Some f = sym (look-idle seat_state lane old.lanes idle.other) ∙ t.placed.sits.sound j (record { lane = lane; file = f }) there in
        absurd cc

    not-left : (j : ℕ) (f : List ℕ) → slice_get (left lane old.shelf.order) j ≡ Some (record { lane = lane; file = f }) → ⊥
    not-left j f = by (position (is_lane lane) old.shelf.order)
      where
        by : (o : Option ℕ) → slice_get (option_map_or (λ at. remove old.shelf.order at) o old.shelf.order) j ≡ Some (record { lane = lane; file = f }) → ⊥
        by None there = no-place j f there
        by (Some at) there = no-place (skip at j) f (get-remove old.shelf.order at j (record { lane = lane; file = f }) there)

    -- another close of the file stands before it
    behind : (n : ℕ) → n ≢ lane → seat_in n old.lanes ≡ Some its → StandsBefore (joined lane its old.shelf).order its n lane
    behind n off seat =
        let one = queued-sits.has n its (seat-other lane n (Some its) (λ i. seat_in i old.lanes) off ∙ seat) in
        let two = queued-sits.has lane its (seat-own lane (Some its) (λ i. seat_in i old.lanes)) in
        by (nat_lt (length (left lane old.shelf.order)) 16) refl one.at one.there two.at two.there
      where
        base : List LaneFile
        base = left lane old.shelf.order

        by : (b : Bool) → nat_lt (length (left lane old.shelf.order)) 16 ≡ b → (i : ℕ)
            → slice_get (added (record { lane = lane; file = its }) (left lane old.shelf.order)) i ≡ Some (record { lane = n; file = its }) → (j : ℕ)
            → slice_get (added (record { lane = lane; file = its }) (left lane old.shelf.order)) j ≡ Some (record { lane = lane; file = its })
            → StandsBefore (added (record { lane = lane; file = its }) (left lane old.shelf.order)) its n lane
        by false e i one j two =
            absurd (not-left j its (sym (ap (λ (b : Bool). slice_get (if b then left lane old.shelf.order ++ record { lane = lane; file = its } ∷ [] else left lane old.shelf.order) j) e) ∙ two))
        by true e i one j two =
            at (get-push (left lane old.shelf.order) (record { lane = lane; file = its }) i (record { lane = n; file = its }) (sym (pushed i) ∙ one))
            (get-push (left lane old.shelf.order) (record { lane = lane; file = its }) j (record { lane = lane; file = its }) (sym (pushed j) ∙ two))
          where
            pushed : (k : ℕ) → slice_get (added (record { lane = lane; file = its }) (left lane old.shelf.order)) k
                ≡ slice_get (left lane old.shelf.order ++ record { lane = lane; file = its } ∷ []) k
            pushed k = ap (λ (b : Bool). slice_get (if b then left lane old.shelf.order ++ record { lane = lane; file = its } ∷ [] else left lane old.shelf.order) k) e

            at : (slice_get (left lane old.shelf.order) i ≡ Some (record { lane = n; file = its }))
                ⊎ ((i ≡ length (left lane old.shelf.order)) × ◌≡◌ {A = LaneFile} (record { lane = n; file = its }) (record { lane = lane; file = its }))
                → (slice_get (left lane old.shelf.order) j ≡ Some (record { lane = lane; file = its }))
                ⊎ ((j ≡ length (left lane old.shelf.order)) × ◌≡◌ {A = LaneFile} (record { lane = lane; file = its }) (record { lane = lane; file = its }))
                → StandsBefore (added (record { lane = lane; file = its }) (left lane old.shelf.order)) its n lane
            at (inr now) k = absurd (off (lane-one n lane its its now.1))
            at (inl here) (inl there) = absurd (not-left j its there)
            at (inl here) (inr last) =
                let low = below (left lane old.shelf.order) i (record { lane = n; file = its }) here in
                let is = last.0 in
                record { i = i; j = j; low = omega (arith, low, is); one = one; two = two }

    pub queued-ranked : Ranked Queued
    queued-ranked = record {
      sorted = λ n l c d f u w a b low. by n l c d f u w low (queued-saving n c f u a) (queued-saving l d f w b);
      below = λ n c f u a. least n c f u (queued-saving n c f u a);
    }
      where
        least : (n : ℕ) (c : CloseFile) (f : List ℕ) (u : ℕ) → (IsSaving old n c f u × (n ≢ lane)) ⊎ ((n ≡ lane) × (u ≡ old.shelf.seq) × (f ≡ its)) → u ≤ old.shelf.seq
        least n c f u (inl was) = r.below n c f u was.0
        least n c f u (inr own) = let is = own.1 in omega (arith, is)

        seat : (n : ℕ) (c : CloseFile) (f : List ℕ) (u : ℕ) → IsSaving old n c f u → f ≡ its → seat_in n old.lanes ≡ Some its
        seat n c f u i same =
            look-at seat_state old.lanes i.close.at n (Busy (machines.File (files.Close c))) apart i.close.there
            ∙ save-seat c.state i.save i.is ∙ ap Some (i.file_is ∙ same)

        by : (n l : ℕ) (c d : CloseFile) (f : List ℕ) (u w : ℕ) → u < w → (IsSaving old n c f u × (n ≢ lane)) ⊎ ((n ≡ lane) × (u ≡ old.shelf.seq) × (f ≡ its))
            → (IsSaving old l d f w × (l ≢ lane)) ⊎ ((l ≡ lane) × (w ≡ old.shelf.seq) × (f ≡ its)) → StandsBefore (joined lane its old.shelf).order f n l
        by n l c d f u w low (inl a) (inl b) = stays f n l a.1 b.1 (r.sorted n l c d f u w a.0 b.0 low)
        by n l c d f u w low (inr a) (inl b) = let most = r.below l d f w b.0 in let is = a.1 in absurd (omega (arith, low, most, is))
        by n l c d f u w low (inr a) (inr b) = let one = a.1 in let two = b.1 in absurd (omega (arith, low, one, two))
        by n l c d f u w low (inl a) (inr b) =
            subst (λ (z : ℕ). StandsBefore (joined lane its old.shelf).order f n z) (sym b.0)
            (subst (λ (g : List ℕ). StandsBefore (joined lane its old.shelf).order g n lane) (sym b.2) (behind n a.1 (seat n c f u a.0 b.2)))

    pub queued-guarded : IsGuarded number old file → IsGuarded number Queued file
    queued-guarded (slot place of there same all) = slot place of there same (λ c upto i e. by c upto e (queued-saving place.0 c file upto i))
      where
        by : (c : CloseFile) (upto : ℕ) → c.slot ≡ place.1 → (IsSaving old place.0 c file upto × (place.0 ≢ lane)) ⊎ ((place.0 ≡ lane) × (upto ≡ old.shelf.seq) × (file ≡ its)) → number ≤ upto
        by c upto e (inl was) = all c upto was.0 e
        by c upto e (inr own) = let is = own.1 in omega (arith, few, is)
    queued-guarded (past n c removal fault close gone same refused all) =
        past n c removal fault (close-pushed old Queued lane (Busy (machines.File (files.Close q))) refl n c close) gone same refused (λ l d upto i. by l d upto (queued-saving l d file upto i))
      where
        by : (l : ℕ) (d : CloseFile) (upto : ℕ) → (IsSaving old l d file upto × (l ≢ lane)) ⊎ ((l ≡ lane) × (upto ≡ old.shelf.seq) × (file ≡ its)) → number ≤ upto
        by l d upto (inl was) = all l d upto was.0
        by l d upto (inr own) = let is = own.1 in omega (arith, few, is)

-- ---- the first step

module _ (mounted : Mounted) (m : Modes) (same : mounted.nocto ≡ m.nocto) (setup : Setup) (h : List Entry) (old new : View) (lane line : ℕ) (op : Op) (now : ℕ)
    (reached : Reaches (machine_of mounted) setup h old) (found : old.lost ≡ false) (idle : IsIdle lane old.lanes)
    (t : StartsLane (counted old now) lane (machine_of mounted lane op) new) (apart : AreApart old.lanes) (turned : Turned old) where
  abbrev S : Step → Machine → Shelf → Type 0
  S next machine shelf = Starts old.wsize (machine_of mounted lane op) (turn_at (counted old now)) old.shelf next machine shelf

  seq : old.shelf.seq ≤ new.shelf.seq
  seq =
      let l = starts-led (counted old now) new lane (machine_of mounted lane op) t in
      leading-up old.wsize old.shelf S (λ next k after s. up-starts (machine_of mounted lane op) old.wsize (turn_at (counted old now)) old.shelf next k after s) l.state new.shelf l.leading

  before : BeforeStays lane old.shelf.order new.shelf.order
  before =
      let l = starts-led (counted old now) new lane (machine_of mounted lane op) t in
      leading-before old.wsize lane old.shelf S
      (λ next k after s. goes-start old.wsize (turn_at (counted old now)) lane (machine_of mounted lane op) old.shelf next k after (begins-fresh mounted lane op) (begins-unbegun mounted lane op) s)
      l.state new.shelf l.leading

  pushed-apart : (was : State) → (k : ℕ) (l : Lane) → slice_get (old.lanes ++ record { number = lane; state = was } ∷ []) k ≡ Some l → l.number ≡ lane → k ≡ length old.lanes
  pushed-apart was k l there is = by (get-push old.lanes (record { number = lane; state = was }) k l there)
    where
      by : (slice_get old.lanes k ≡ Some l) ⊎ ((k ≡ length old.lanes) × (l ≡ record { number = lane; state = was })) → k ≡ length old.lanes
      by (inl here) = absurd (idle-numbers lane (numbers_of old.lanes) idle.other k (to-map number_of old.lanes k l here ∙ ap Some is))
      by (inr last) = last.0

  close-of : (a b : CloseFile) → Busy (machines.File (files.Close a)) ≡ Busy (machines.File (files.Close b)) → a ≡ b
  close-of a b e = cc

  -- A step from a view between, in which its lane is there already; the ranks and the guard of before are kept through both.
  pub record StartOf (g : List Entry) : Type 0 where
    pub mid : View
    pub step : StepOf mid new
    pub number_is : step.step.number ≡ lane
    pub lanes_are : new.lanes ≡ old.lanes ++ record { number = lane; state = step.step.state } ∷ []
    pub closes : (c : CloseFile) → step.step.was ≡ Busy (machines.File (files.Close c)) → (slot : ℕ) × (op ≡ ops.Close slot) × (file_at lane slot old.shelf.opens ≡ file_in c.state)
    pub ranked : Ranked old → Ranked new
    pub guarded : DropsKnown m g new → Ranked old → (number : ℕ) → number ≤ old.shelf.seq → (file : List ℕ) → IsGuarded number old file
        → IsGuarded number new file ⊎ LetGo number file mid new step.step

  module _ (g : List Entry) where
    -- another operation, or a close of a slot that holds no file
    module _ (state : State) (lanes_are : new.lanes ≡ old.lanes ++ record { number = lane; state = state } ∷ []) (kind : Kind) (now_is : OtherState m lane kind state)
        (same_opens : new.shelf.opens ≡ old.shelf.opens) where
      beside-step : Stepping (record old { lanes = old.lanes ++ record { number = lane; state = Over (answers.Refused faults.Lost) } ∷ [] }) new
      beside-step = record {
        at = length old.lanes;
        number = lane;
        was = Over (answers.Refused faults.Lost);
        state = state;
        there = at-push old.lanes (record { number = lane; state = Over (answers.Refused faults.Lost) });
        lanes_are = lanes_are ∙ sym (set-push old.lanes (record { number = lane; state = Over (answers.Refused faults.Lost) }) (record { number = lane; state = state }));
        apart = pushed-apart (Over (answers.Refused faults.Lost));
        seq = seq;
        before = before;
      }

      other-kind : OtherStep (record old { lanes = old.lanes ++ record { number = lane; state = Over (answers.Refused faults.Lost) } ∷ [] }) new beside-step
      unfolding beside-step
      other-kind = record {
        was_none = λ c is. busy-over (machines.File (files.Close c)) (answers.Refused faults.Lost) (sym is);
        is_none = λ c is. other-now m lane kind c (subst (OtherState m lane kind) is now_is);
        held = λ q of there. ap (λ (t : Opens). finite.get t q) same_opens ∙ there;
      }

      start-other : StartOf g
      unfolding beside-step
      start-other = record {
        mid = record old { lanes = old.lanes ++ record { number = lane; state = Over (answers.Refused faults.Lost) } ∷ [] };
        step = record { step = beside-step; kind = inr other-kind };
        number_is = refl;
        lanes_are = lanes_are;
        closes = λ c is. absurd (busy-over (machines.File (files.Close c)) (answers.Refused faults.Lost) (sym is));
        ranked = λ r. other-ranked (record old { lanes = old.lanes ++ record { number = lane; state = Over (answers.Refused faults.Lost) } ∷ [] }) new beside-step other-kind
            (beside-ranked old lane idle r 0 (omega arith) []);
        guarded = λ d r number few file guard.
            inl (other-guarded (record old { lanes = old.lanes ++ record { number = lane; state = Over (answers.Refused faults.Lost) } ∷ [] }) new beside-step other-kind number file
            (beside-guarded old lane idle r number few file guard));
      }

    -- a close of a slot that holds a file
    module _ (slot : ℕ) (op_is : op ≡ ops.Close slot) (c : CloseFile) (is : machine_of mounted lane op ≡ machines.File (files.Close c)) (lane_is : c.lane ≡ lane) (slot_is : c.slot ≡ slot)
        (its : List ℕ) (held : file_at lane slot old.shelf.opens ≡ Some its) (state : State) (lanes_are : new.lanes ≡ old.lanes ++ record { number = lane; state = state } ∷ [])
        (leading : Leading old.wsize S state new.shelf) where
      abbrev First : Type 0
      First = IsFirst lane (joined lane its old.shelf).order

      abbrev Q : CloseFile
      Q = record c { state = closings.Queued (saves.begun its old.shelf.seq) }

      led : CloserLed lane slot its old.shelf.seq First old.shelf.opens state new.shelf.opens
      led =
          closer-led lane slot its old.shelf.seq First old.wsize old.shelf.opens S
          (λ next k after s. close-begins lane slot its old.shelf.seq First (machine_of mounted lane op) c old.wsize (turn_at (counted old now)) old.shelf next k after is lane_is slot_is
          (λ first. first) refl held s) state new.shelf leading

      went-starts : (next : Step) (k : Machine) (after : Shelf) → S next k after → MachineThen lane slot its old.shelf.seq First after.opens next k
          → MachineWent lane slot its old.shelf.seq (closings.Queued (saves.begun its old.shelf.seq)) (joined lane its old.shelf) next k after
      went-starts next k after s then_ = by (subst (λ (n : Machine). Starts old.wsize n (turn_at (counted old now)) old.shelf next k after) is s)
        where
          by : Starts old.wsize (machines.File (files.Close c)) (turn_at (counted old now)) old.shelf next k after
              → MachineWent lane slot its old.shelf.seq (closings.Queued (saves.begun its old.shelf.seq)) (joined lane its old.shelf) next k after
          by r =
              to-went lane slot its old.shelf.seq First (closings.Queued (saves.begun its old.shelf.seq)) c r.step.state (joined lane its old.shelf) next k after
              (r.machine_is ∙ ap machines.File r.step.machine_is)
              (goes-starts lane slot its old.shelf.seq old.wsize c (turn_at (counted old now)) old.shelf next r.step.state after lane_is slot_is (save-begun its old.shelf.seq) held r.step.step)
              then_

      went : CloserWent lane slot its old.shelf.seq (closings.Queued (saves.begun its old.shelf.seq)) (joined lane its old.shelf) state new.shelf
      went =
          went-led lane slot its old.shelf.seq First old.wsize (closings.Queued (saves.begun its old.shelf.seq)) (joined lane its old.shelf) S
          (λ next k after s. close-begins lane slot its old.shelf.seq First (machine_of mounted lane op) c old.wsize (turn_at (counted old now)) old.shelf next k after is lane_is slot_is
          (λ first. first) refl held s) went-starts state new.shelf leading

      joined-before : BeforeStays lane (joined lane its old.shelf).order new.shelf.order
      joined-before f a b x y st = before f a b x y (left-back lane old.shelf.order f a b (added-back lane its (left lane old.shelf.order) f a b x y st))

      queued-step : Stepping (record old { lanes = old.lanes ++ record { number = lane; state = Busy (machines.File (files.Close Q)) } ∷ []; shelf = joined lane its old.shelf }) new
      queued-step = record {
        at = length old.lanes;
        number = lane;
        was = Busy (machines.File (files.Close Q));
        state = state;
        there = at-push old.lanes (record { number = lane; state = Busy (machines.File (files.Close Q)) });
        lanes_are = lanes_are ∙ sym (set-push old.lanes (record { number = lane; state = Busy (machines.File (files.Close Q)) }) (record { number = lane; state = state }));
        apart = pushed-apart (Busy (machines.File (files.Close Q)));
        seq = seq;
        before = joined-before;
      }

      closer-kind-of : CloserStep (record old { lanes = old.lanes ++ record { number = lane; state = Busy (machines.File (files.Close Q)) } ∷ []; shelf = joined lane its old.shelf }) new queued-step
      unfolding queued-step
      closer-kind-of = record {
        c = Q;
        its_slot = slot;
        file = its;
        upto = old.shelf.seq;
        was_is = refl;
        slot_is = slot_is;
        at_ = (save-begun its old.shelf.seq, held);
        went = went;
        rest = led.rest;
        first = λ fault refused. (subst (λ (st : State). CloserState lane slot its old.shelf.seq First new.shelf.opens st) refused led.then_).first;
      }

      start-close : StartOf g
      unfolding queued-step closer-kind-of
      start-close = record {
        mid = record old { lanes = old.lanes ++ record { number = lane; state = Busy (machines.File (files.Close Q)) } ∷ []; shelf = joined lane its old.shelf };
        step = record { step = queued-step; kind = inl closer-kind-of };
        number_is = refl;
        lanes_are = lanes_are;
        closes = λ c is. (slot, op_is, held ∙ ap (λ (d : CloseFile). file_in d.state) (close-of Q c is));
        ranked = λ r. closer-ranked (record old { lanes = old.lanes ++ record { number = lane; state = Busy (machines.File (files.Close Q)) } ∷ []; shelf = joined lane its old.shelf }) new
            queued-step closer-kind-of (queued-ranked old lane idle r 0 (omega arith) [] its Q refl turned apart);
        guarded = λ d r number few file guard.
            closer-guarded (record old { lanes = old.lanes ++ record { number = lane; state = Busy (machines.File (files.Close Q)) } ∷ []; shelf = joined lane its old.shelf }) new queued-step
            closer-kind-of (queued-ranked old lane idle r number few file its Q refl turned apart)
            (λ fault l refused st. none-before _ (joined lane its old.shelf).order (queued-sits old lane idle r number few file its Q refl turned apart) its l lane (closer-kind-of.first fault refused) st) number file
            (λ l k u i. saving-open m g new d l k file u i) (queued-guarded old lane idle r number few file its Q refl turned apart guard);
      }

    pub starts-step : StartOf g
    starts-step = by (kind_of op) refl (begins-as m mounted same lane op)
      where
        slots : (s : ℕ) → Agrees m h lane s (finite.get old.shelf.opens (lane, s))
        slots = (reached-slots m mounted same setup h old reached found).idle lane idle.other

        l : Pushed old.wsize S old.lanes lane new
        l = starts-led (counted old now) new lane (machine_of mounted lane op) t

        quietly : (kind : Kind) → OtherTold m lane kind (machine_of mounted lane op) → StartOf g
        quietly kind o =
            let k = other-led m lane kind old.wsize old.shelf.opens (λ opens. opens ≡ old.shelf.opens) S
            (λ next k after s. other-begins m lane kind (machine_of mounted lane op) old.wsize (turn_at (counted old now)) old.shelf next k after o s) l.state new.shelf l.leading in
            start-other l.state l.lanes_are kind k.0 k.1

        by : (kind : Kind) → kind_of op ≡ kind → BeginsAs m.nocto lane kind (machine_of mounted lane op) → StartOf g
        by (opening its_slot mode) kind_is k = quietly (opening its_slot mode) k
        by plainly kind_is k = quietly plainly k
        by (closing its_slot) kind_is k = at (finite.get old.shelf.opens (lane, its_slot)) refl
          where
            at : (o : Option Opened) → finite.get old.shelf.opens (lane, its_slot) ≡ o → StartOf g
            at None none =
                let e = ended-slot m h lane line op old.wsize (machine_of mounted lane op) (turn_at (counted old now)) old.shelf slots (begins-as m mounted same lane op) l.state new.shelf k.c its_slot k.is k.lane_is k.slot_is none l.leading in
                start-other l.state l.lanes_are (closing its_slot) (subst (OtherState m lane (closing its_slot)) (sym e.0) tt) e.1
            at (Some o) there =
                start-close its_slot (closer-kind op its_slot kind_is) k.c k.is k.lane_is k.slot_is o.file (ap (λ (o : Option Opened). option_map (λ (k : Opened). k.file) o) there) l.state l.lanes_are l.leading
