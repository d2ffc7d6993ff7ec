-- What a refused close gave up: its answer is owed, or the history shows that the last close left the file.
use Rattle.core_session.proofs.Prelude.{◌≡◌, ◌⊎◌, inl, inr, ℕ, List, [], ◌∷◌, ◌++◌, length, false, Option, Some, None, option_map, slice_get, refl, sym, ap, subst, ◌∙◌, Opened, IsOpen, Opens, Fault, Entry, Began, Op, At, IsOf, InSlot, Terms, At-grow, At-one, Step, Shelf, file_at, joined, Mounted, Machine, machine_of, Starts, Lane, State, Busy, Over, Setup, IsIdle, counted, StartsLane, View, turn_at, AreApart, Reaches, GoesWith, always-later, at-push, Kind, plainly, kind_of, BeginsAs, Turned, IsFirst, IsOwed, CloseFile, Saving, IsPlain, save_in}
use Rattle.core_facts.proofs.Slots.{opening, closing}
use Rattle.std.specs.FinMap as finite
use Rattle.world_model.specs.declared.answer.Answer.TheVariants as answers
use Rattle.world_model.specs.declared.answer.Fault.TheVariants as faults
use Rattle.world_model.specs.declared.op.Op.TheVariants as ops
use Rattle.client_shelf.specs.declared.step.Step.TheVariants as nexts
use Rattle.file_ops.specs.Closes as closes
use Rattle.op_machines.specs.declared.file_machine.FileMachine.TheVariants as files
use Rattle.op_machines.specs.declared.machine.Machine.TheVariants as machines
use Rattle.core_session.specs.drops.Told as told_of
use Rattle.core_session.proofs.drops.Drops.{LaneTold, OwnLed, closer, other, HadFile, HadNone, closer-kind}
use Rattle.core_session.proofs.drops.DropLaws.{given-step}
use Rattle.core_session.proofs.drops.Giving.{closing-seat, owed-begun}
use Rattle.core_session.proofs.drops.Growing.{of-grow}
use Rattle.core_session.proofs.drops.LaneIs.{state-is}
use Rattle.core_session.proofs.drops.Laws.{OneStepped, Begun, starts-begun}
use Rattle.core_session.proofs.drops.Leading.{Leading, settles, unmade, starts-led}
use Rattle.core_session.proofs.drops.OneFile.{slot-file}
use Rattle.core_session.proofs.drops.Shown.{was-close, now-over}
use Rattle.core_session.proofs.drops.SlotKinds.{begins-as, ClosesSlot, KindTold, CloserLed}
use Rattle.core_session.proofs.drops.Guards.{closing-save}

began-parts : (a b c d : ℕ) (o p : Op) → Began a b o ≡ Began c d p → (a ≡ c) × (o ≡ p)
began-parts a b c d o p e = (cc, cc)

some-slot : (a b : ℕ) → Some a ≡ Some b → a ≡ b
some-slot a b e = cc

close-slot : (a b : ℕ) → ops.Close a ≡ ops.Close b → a ≡ b
close-slot a b e = cc

module _ (mt : Mounted) (terms : Terms) (setup : Setup) (H : List Entry) (V : View) (g : GoesWith mt terms setup H V) (f : List ℕ) where
  pub of-more : (h rest : List Entry) (x : ℕ) (op : Op) (its : List ℕ) → IsOf terms.modes h x op its → IsOf terms.modes (h ++ rest) x op its
  of-more h rest x op its i = always-later (λ k. IsOf terms.modes k x op its) (λ k e j. of-grow terms.modes k e x op its j) h rest i

  -- a close is of one file
  pub one-of : (h rest : List Entry) → h ++ rest ≡ H → (x a b : ℕ) (its : List ℕ) → IsOf terms.modes h x (ops.Close a) its → IsOf terms.modes H x (ops.Close b) f → its ≡ f
  one-of h rest is x a b its i j = by (subst (λ (l : List Entry). IsOf terms.modes l x (ops.Close a) its) is (of-more h rest x (ops.Close a) its i))
    where
      by : IsOf terms.modes H x (ops.Close a) its → its ≡ f
      by k =
          let same = began-parts k.lane k.line j.lane j.line (ops.Close a) (ops.Close b) (At-one H x (Began k.lane k.line (ops.Close a)) (Began j.lane j.line (ops.Close b)) k.began j.began) in
          let slots : k.slot ≡ j.slot = sym (some-slot a k.slot k.works_on) ∙ close-slot a b same.1 ∙ some-slot b j.slot j.works_on in
          slot-file mt terms setup H V g x k.lane k.slot k.open_at j.open_at its f k.holds
          (subst (λ (n : ℕ). InSlot terms.modes H x n k.slot j.open_at f) (sym same.0) (subst (λ (z : ℕ). InSlot terms.modes H x j.lane z j.open_at f) (sym slots) j.holds))

  close-one : (a b : CloseFile) → machines.File (files.Close a) ≡ machines.File (files.Close b) → a ≡ b
  close-one a b e = cc

  -- a close that saves the file is one of it
  pub closer-it : (before rest : List Entry) → before ++ rest ≡ H → (n : ℕ) (machine : Machine) (opens : Opens) (told : LaneTold terms.modes before n (Busy machine) opens) (q : CloseFile)
      → machine ≡ machines.File (files.Close q) → (z : Saving) → save_in q.state ≡ Some z → z.file ≡ f → (its : ℕ) × IsOf terms.modes H told.x (ops.Close its) f
  closer-it before rest is n machine opens told q m_is z saves file = by told.op refl told.told
    where
      of-kind : (op : Op) → told.op ≡ op → (kind : Kind) → kind_of op ≡ kind → KindTold terms.modes before told.x n kind machine opens → (its : ℕ) × IsOf terms.modes H told.x (ops.Close its) f
      of-kind op same (opening its mode) k o = absurd (let no_way : machines.File (files.Close q) ≡ machines.Path o.m = sym m_is ∙ o.is in cc)
      of-kind op same plainly k o = absurd (subst IsPlain m_is o)
      of-kind op same (closing its) k o =
          let one = close-one q o.closer.c (sym m_is ∙ o.closer.is) in
          let so = closing-save n its o.file o.upto opens o.closer.c.state z o.closer.at (ap (λ (d : CloseFile). save_in d.state) (sym one) ∙ saves) in
          (its, subst (IsOf terms.modes H told.x (ops.Close its)) (sym so.0.file_is ∙ file) (subst (λ (l : List Entry). IsOf terms.modes l told.x (ops.Close its) o.file) is (of-more before rest told.x (ops.Close its) o.file o.of)))

      by : (op : Op) → told.op ≡ op → KindTold terms.modes before told.x n (kind_of op) machine opens → (its : ℕ) × IsOf terms.modes H told.x (ops.Close its) f
      by op same k = of-kind op same (kind_of op) refl k

  -- a step of its lane
  pub left-step : (before rest : List Entry) → before ++ rest ≡ H → (h : List Entry) (old new : View) (s : OneStepped terms.modes h old new) → Turned old → AreApart old.lanes → (at n : ℕ) (machine : Machine)
      → slice_get old.lanes at ≡ Some (record { number = n; state = Busy machine }) → (told : LaneTold terms.modes before n (Busy machine) old.shelf.opens) → (state : State)
      → slice_get new.lanes at ≡ Some (record { number = n; state = state }) → (x : ℕ) → told.x ≡ x → (fault : Fault) → state ≡ Over (answers.Refused fault) → (its : ℕ)
      → IsOf terms.modes H x (ops.Close its) f → (IsOpen new.shelf.opens f → ⊥) → IsOwed terms.modes (length h) h new f
  left-step before rest is h old new s turned apart at n machine there told state here x x_is fault refused its of shut =
      by (subst (λ (o : Op). KindTold terms.modes before told.x n (kind_of o) machine old.shelf.opens) op_is told.told)
    where
      op_is : told.op ≡ ops.Close its
      op_is =
          (began-parts n told.under_way.line of.lane of.line told.op (ops.Close its)
          (At-one H x (Began n told.under_way.line told.op) (Began of.lane of.line (ops.Close its))
          (subst (λ (z : ℕ). At H z (Began n told.under_way.line told.op)) x_is
          (subst (λ (l : List Entry). At l told.x (Began n told.under_way.line told.op)) is (At-grow before rest told.x (Began n told.under_way.line told.op) told.under_way.began))) of.began)).1

      by : ClosesSlot terms.modes before told.x n its machine old.shelf.opens → IsOwed terms.modes (length h) h new f
      by k =
          let same : k.file ≡ f = one-of before rest is told.x its its k.file k.of (subst (λ (z : ℕ). IsOf terms.modes H z (ops.Close its) f) (sym x_is) of) in
          let turn : told_of.Turned old new at n (Busy (machines.File (files.Close k.closer.c))) (Over (answers.Refused fault)) = record {
            before = there ∙ ap (λ (m : Machine). Some (record { number = n; state = Busy m })) k.closer.is;
            after = here ∙ ap (λ (st : State). Some (record { number = n; state = st })) refused;
          } in
          let owed : IsOwed terms.modes (length h) h new k.file =
          given-step terms.modes h old new s k.file k.closer.c fault turned apart (was-close terms.modes h old new s apart at n k.closer.c fault f turn)
          (closing-seat n its k.file k.upto old.shelf.opens k.closer.c.state k.closer.at) (now-over terms.modes h old new s apart at n k.closer.c fault f turn)
          (λ open_. shut (subst (IsOpen new.shelf.opens) same open_)) in
          subst (IsOwed terms.modes (length h) h new) same owed

  -- ---- as it begins

  abbrev pub LeftOr : List Entry → View → View → ℕ → ℕ → State → Op → Type 0
  LeftOr h old new lane line state op =
      ((fault : Fault) → state ≡ Over (answers.Refused fault) → (its : ℕ) → IsOf terms.modes H (length h) (ops.Close its) f → (IsOpen new.shelf.opens f → ⊥)
      → IsOwed terms.modes (length (h ++ Began lane line op ∷ [])) (h ++ Began lane line op ∷ []) new f) ⊎ (new.shelf ≡ old.shelf)

  module _ (h : List Entry) (old new : View) (lane line now : ℕ) (r : Reaches (machine_of mt) setup h old) (found : old.lost ≡ false) (idle : IsIdle lane old.lanes) (turned : Turned old)
      (apart : AreApart old.lanes) (rest : List Entry) (state : State) (here : slice_get new.lanes (length old.lanes) ≡ Some (record { number = lane; state = state })) where
    begun-close : (slot : ℕ) → (h ++ Began lane line (ops.Close slot) ∷ []) ++ rest ≡ H → StartsLane (counted old now) lane (machine_of mt lane (ops.Close slot)) new
        → LeftOr h old new lane line state (ops.Close slot)
    begun-close slot is t = by b.own
      where
        b : Begun mt terms.modes g.nocto setup h old new lane line (ops.Close slot)
        b = starts-begun mt terms.modes g.nocto setup h old new lane line (ops.Close slot) now r found idle t

        state_is : b.state ≡ state
        state_is =
            state-is b.state state lane lane
            (sym (at-push old.lanes (record { number = lane; state = b.state })) ∙ ap (λ (ls : List Lane). slice_get ls (length old.lanes)) (sym b.lanes_are) ∙ here)

        k : BeginsAs terms.modes.nocto lane (closing slot) (machine_of mt lane (ops.Close slot))
        k = begins-as terms.modes mt g.nocto lane (ops.Close slot)

        no-step : finite.get old.shelf.opens (lane, slot) ≡ None → (next : Step) (new_ : Machine) (after : Shelf)
            → Starts old.wsize (machine_of mt lane (ops.Close slot)) (turn_at (counted old now)) old.shelf next new_ after → (next ≡ nexts.Done (answers.Refused faults.Slot)) × (after ≡ old.shelf)
        no-step none next new_ after s = by (subst (λ (q : Machine). Starts old.wsize q (turn_at (counted old now)) old.shelf next new_ after) k.is s)
          where
            at : file_at k.c.lane k.c.slot old.shelf.opens ≡ None
            at = ap (λ (n : ℕ). file_at n k.c.slot old.shelf.opens) k.lane_is ∙ ap (λ (z : ℕ). file_at lane z old.shelf.opens) k.slot_is
                ∙ ap (λ (o : Option Opened). option_map (λ (q : Opened). q.file) o) none

            by : Starts old.wsize (machines.File (files.Close k.c)) (turn_at (counted old now)) old.shelf next new_ after → (next ≡ nexts.Done (answers.Refused faults.Slot)) × (after ≡ old.shelf)
            by z =
                let n = subst (λ (q : Option (List ℕ)). closes.StartsAt q old.wsize k.c (turn_at (counted old now)) old.shelf next z.step.state after) at z.step.step in
                (n.next_is, n.shelf_is)

        same-shelf : finite.get old.shelf.opens (lane, slot) ≡ None → new.shelf ≡ old.shelf
        same-shelf none = let l = starts-led (counted old now) new lane (machine_of mt lane (ops.Close slot)) t in by l.state l.leading
          where
            by : (st : _) → Leading old.wsize (λ next k after. Starts old.wsize (machine_of mt lane (ops.Close slot)) (turn_at (counted old now)) old.shelf next k after) st new.shelf → new.shelf ≡ old.shelf
            by st (settles next k s is) = (no-step none next k new.shelf s).1
            by st (unmade call mid between sent turn fault next k s takes is) = absurd (let no_way : nexts.Send call ≡ nexts.Done (answers.Refused faults.Slot) = (no-step none (nexts.Send call) mid between s).0 in cc)

        by : OwnLed terms.modes (h ++ Began lane line (ops.Close slot) ∷ []) lane (length h) (ops.Close slot) b.state old.shelf.opens new.shelf.opens
            (λ file. IsFirst lane (joined lane file old.shelf).order) (HadFile lane old.shelf.opens) (HadNone lane (ops.Close slot) old.shelf.opens) → LeftOr h old new lane line state (ops.Close slot)
        by (other v o others) = inr (none (finite.get old.shelf.opens (lane, slot)) refl)
          where
            none : (q : Option Opened) → finite.get old.shelf.opens (lane, slot) ≡ q → new.shelf ≡ old.shelf
            none None e = same-shelf e
            none (Some q) e = absurd (v slot q.file refl (ap (λ (o : Option Opened). option_map (λ (k : Opened). k.file) o) e))
        by (closer its file upto op_is of had led) = inl (λ fault refused b_slot own shut.
            let slot_is : its ≡ slot = sym (close-slot slot its op_is) in
            let same : file ≡ f = one-of (h ++ Began lane line (ops.Close slot) ∷ []) rest is (length h) its b_slot file of own in
            let owed : IsOwed terms.modes (length (h ++ Began lane line (ops.Close slot) ∷ [])) (h ++ Began lane line (ops.Close slot) ∷ []) new file =
            owed-begun terms.modes h old new lane line slot file upto fault b.state turned apart idle b.lanes_are
            (subst (λ (z : ℕ). IsOf terms.modes (h ++ Began lane line (ops.Close slot) ∷ []) (length h) (ops.Close z) file) slot_is of)
            (subst (λ (z : ℕ). CloserLed lane z file upto (IsFirst lane (joined lane file old.shelf).order) old.shelf.opens b.state new.shelf.opens) slot_is led) (state_is ∙ refused)
            (λ open_. shut (subst (IsOpen new.shelf.opens) same open_)) in
            subst (IsOwed terms.modes (length (h ++ Began lane line (ops.Close slot) ∷ [])) (h ++ Began lane line (ops.Close slot) ∷ []) new) same owed)

    pub left-begins : (op : Op) → (h ++ Began lane line op ∷ []) ++ rest ≡ H → StartsLane (counted old now) lane (machine_of mt lane op) new
        → At H (length h) (Began lane line op) → LeftOr h old new lane line state op
    left-begins op is t at = by (kind_of op) refl
      where
        not-close : ((slot : ℕ) → op ≡ ops.Close slot → ⊥) → LeftOr h old new lane line state op
        not-close nay = inl (λ fault refused its of shut.
            absurd (nay its (began-parts lane line of.lane of.line op (ops.Close its) (At-one H (length h) (Began lane line op) (Began of.lane of.line (ops.Close its)) at of.began)).1))

        by : (kind : Kind) → kind_of op ≡ kind → LeftOr h old new lane line state op
        by (closing slot) e =
            subst (λ (o : Op). (h ++ Began lane line o ∷ []) ++ rest ≡ H → StartsLane (counted old now) lane (machine_of mt lane o) new → LeftOr h old new lane line state o)
            (sym (closer-kind op slot e)) (begun-close slot) is t
        by (opening slot mode) e = not-close (λ its same. let no_way : closing its ≡ opening slot mode = sym (ap kind_of same) ∙ e in cc)
        by plainly e = not-close (λ its same. let no_way : closing its ≡ plainly = sym (ap kind_of same) ∙ e in cc)
