-- What guards a written byte, through each step of a lane: a slot of its file, or a close that removes it; until a close saves it or gives it up.
use Rattle.core_session.proofs.Prelude.{◌≡◌, ◌≢◌, ◌⊎◌, ◌≤◌, ◌<◌, inl, inr, ℕ, List, Bool, true, false, nat_eq, Option, Some, None, option_map, slice_get, slice_set, refl, sym, ap, subst, ◌∙◌, arith, eqb-true, eqb-false, cases_lt, Opened, Place, Opens, IsOpen, Fault, LaneFile, Shelf, CloseFile, Closing, Removal, Saving, file_at, Machine, Lane, State, Busy, Over, View, at-set, set-other, IsFirst, file_in, save_in, removal_in, IsClose, IsSaving, IsGuarded, slot, past}
use Rattle.std.specs.FinMap as finite
use Rattle.world_model.specs.declared.answer.Answer.TheVariants as answers
use Rattle.file_ops.specs.declared.close_file.Closing.TheVariants as closings
use Rattle.op_machines.specs.declared.file_machine.FileMachine.TheVariants as files
use Rattle.op_machines.specs.declared.machine.Machine.TheVariants as machines
use Rattle.core_session.proofs.drops.Closers.{ClosingAt}
use Rattle.core_session.proofs.drops.CloseGoes.{GoesAs, saves_on, freed, removes, OnItsWay, EndsAs, both-in}
use Rattle.core_session.proofs.drops.LaneIs.{state-is, number-is}
use Rattle.core_session.proofs.drops.Ranks.{StandsBefore, BeforeStays}
use Rattle.core_session.proofs.drops.SaveFiles.{IsSave}

-- ---- the ranks of saves

-- A close that saves more of a file stands behind one that saves less; and none saves more than what was written.
pub record Ranked (v : View) : Type 0 where
  pub sorted : (n l : ℕ) (c d : CloseFile) (file : List ℕ) (u w : ℕ) → IsSaving v n c file u → IsSaving v l d file w → u < w → StandsBefore v.shelf.order file n l
  pub below : (n : ℕ) (c : CloseFile) (file : List ℕ) (u : ℕ) → IsSaving v n c file u → u ≤ v.shelf.seq

-- ---- what a close's step is to the guard

pub record WentOn (number its_slot : ℕ) (file : List ℕ) (upto : ℕ) (at : Closing) (old : Shelf) (machine : Machine) (new : Shelf) : Type 0 where
  pub c : CloseFile
  pub is : machine ≡ machines.File (files.Close c)
  pub slot_is : c.slot ≡ its_slot
  pub way : OnItsWay file at c.state old new
  pub at_ : ClosingAt number its_slot file upto new.opens c.state

abbrev pub CloserWent : ℕ → ℕ → List ℕ → ℕ → Closing → Shelf → State → Shelf → Type 0
CloserWent number its_slot file upto at old (Busy machine) new = WentOn number its_slot file upto at old machine new
CloserWent number its_slot file upto at old (Over answer) new = EndsAs file at answer new.opens

-- a lane has made a step, as a close or as another operation; it may have begun with it
pub record Stepping (old new : View) : Type 0 where
  pub at : ℕ
  pub number : ℕ
  pub was : State
  pub state : State
  pub there : slice_get old.lanes at ≡ Some (record { number = number; state = was })
  pub lanes_are : new.lanes ≡ slice_set old.lanes at (record { number = number; state = state })
  pub apart : (k : ℕ) (lane : Lane) → slice_get old.lanes k ≡ Some lane → lane.number ≡ number → k ≡ at
  pub seq : old.shelf.seq ≤ new.shelf.seq
  pub before : BeforeStays number old.shelf.order new.shelf.order

pub record CloserStep (old new : View) (s : Stepping old new) : Type 0 where
  pub c : CloseFile
  pub its_slot : ℕ
  pub file : List ℕ
  pub upto : ℕ
  pub was_is : s.was ≡ Busy (machines.File (files.Close c))
  pub slot_is : c.slot ≡ its_slot
  pub at_ : ClosingAt s.number its_slot file upto old.shelf.opens c.state
  pub went : CloserWent s.number its_slot file upto c.state old.shelf s.state new.shelf
  pub rest : (q : Place) → q ≢ (s.number, its_slot) → finite.get new.shelf.opens q ≡ finite.get old.shelf.opens q
  pub first : (fault : Fault) → s.state ≡ Over (answers.Refused fault) → IsFirst s.number old.shelf.order

pub record OtherStep (old new : View) (s : Stepping old new) : Type 0 where
  pub was_none : (c : CloseFile) → s.was ≡ Busy (machines.File (files.Close c)) → ⊥
  pub is_none : (c : CloseFile) → s.state ≡ Busy (machines.File (files.Close c)) → ⊥
  pub held : (q : Place) (o : Opened) → finite.get old.shelf.opens q ≡ Some o → finite.get new.shelf.opens q ≡ Some o

-- The guard is let go: the close saved what came with the number, or gives it up.
pub data LetGo (number : ℕ) (file : List ℕ) (old new : View) (s : Stepping old new) : Type 0 where
  saved : (c : CloseFile) (save : Saving) → s.was ≡ Busy (machines.File (files.Close c)) → save_in c.state ≡ Some save → save.file ≡ file → number ≤ save.upto
      → ((value : _) × (s.state ≡ Over (answers.Done value))) ⊎ ((d : CloseFile) × (r : Removal) × (s.state ≡ Busy (machines.File (files.Close d))) × (removal_in d.state ≡ Some r) × (r.refusal ≡ None))
      → LetGo number file old new s
  gave : (c : CloseFile) (fault : Fault) → s.was ≡ Busy (machines.File (files.Close c)) → s.state ≡ Over (answers.Refused fault) → file_in c.state ≡ Some file
      → (IsOpen new.shelf.opens file → ⊥) → LetGo number file old new s

some-saving : (a b : Saving) → Some a ≡ Some b → a ≡ b
some-saving a b e = cc

some-removal : (a b : Removal) → Some a ≡ Some b → a ≡ b
some-removal a b e = cc

close-of : (a b : CloseFile) → Busy (machines.File (files.Close a)) ≡ Busy (machines.File (files.Close b)) → a ≡ b
close-of a b e = cc

pub closing-save : (n its_slot : ℕ) (file : List ℕ) (upto : ℕ) (opens : Opens) (state : Closing) (s : Saving) → ClosingAt n its_slot file upto opens state → save_in state ≡ Some s
    → IsSave file upto s × (file_at n its_slot opens ≡ Some file)
closing-save n its_slot file upto opens closings.Idle s a is = absurd a
closing-save n its_slot file upto opens (closings.Queued saving) s a is = (subst (IsSave file upto) (some-saving saving s is) a.0, a.1)
closing-save n its_slot file upto opens (closings.Saves saving) s a is = (subst (IsSave file upto) (some-saving saving s is) a.0, a.1)
closing-save n its_slot file upto opens (closings.ToRemove removal) s a is = absurd cc
closing-save n its_slot file upto opens (closings.Removing removal) s a is = absurd cc

pub closing-removal : (n its_slot : ℕ) (file : List ℕ) (upto : ℕ) (opens : Opens) (state : Closing) (r : Removal) → ClosingAt n its_slot file upto opens state → removal_in state ≡ Some r
    → (r.file ≡ file) × (finite.get opens (n, its_slot) ≡ None)
closing-removal n its_slot file upto opens closings.Idle r a is = absurd a
closing-removal n its_slot file upto opens (closings.Queued saving) r a is = absurd cc
closing-removal n its_slot file upto opens (closings.Saves saving) r a is = absurd cc
closing-removal n its_slot file upto opens (closings.ToRemove removal) r a is = (ap (λ (q : Removal). q.file) (sym (some-removal removal r is)) ∙ a.0, a.1)
closing-removal n its_slot file upto opens (closings.Removing removal) r a is = (ap (λ (q : Removal). q.file) (sym (some-removal removal r is)) ∙ a.0, a.1)

closing-file : (n its_slot : ℕ) (file : List ℕ) (upto : ℕ) (opens : Opens) (state : Closing) → ClosingAt n its_slot file upto opens state → file_in state ≡ Some file
closing-file n its_slot file upto opens closings.Idle a = absurd a
closing-file n its_slot file upto opens (closings.Queued saving) a = ap Some a.0.file_is
closing-file n its_slot file upto opens (closings.Saves saving) a = ap Some a.0.file_is
closing-file n its_slot file upto opens (closings.ToRemove removal) a = ap Some a.0
closing-file n its_slot file upto opens (closings.Removing removal) a = ap Some a.0

-- it saves, or removes
data SavesOr (state : Closing) : Type 0 where
  it_saves : (s : Saving) → save_in state ≡ Some s → SavesOr state
  it_removes : (r : Removal) → removal_in state ≡ Some r → SavesOr state

saves-or : (n its_slot : ℕ) (file : List ℕ) (upto : ℕ) (opens : Opens) (state : Closing) → ClosingAt n its_slot file upto opens state → SavesOr state
saves-or n its_slot file upto opens closings.Idle a = absurd a
saves-or n its_slot file upto opens (closings.Queued saving) a = it_saves saving refl
saves-or n its_slot file upto opens (closings.Saves saving) a = it_saves saving refl
saves-or n its_slot file upto opens (closings.ToRemove removal) a = it_removes removal refl
saves-or n its_slot file upto opens (closings.Removing removal) a = it_removes removal refl

-- ---- lanes, before and after

module _ (old new : View) (s : Stepping old new) where
  lane-was : (k : ℕ) (lane : Lane) → k ≢ s.at → slice_get new.lanes k ≡ Some lane → slice_get old.lanes k ≡ Some lane
  lane-was k lane off there =
      sym (set-other old.lanes s.at k (record { number = s.number; state = s.state }) off) ∙ ap (λ (ls : List Lane). slice_get ls k) (sym s.lanes_are) ∙ there

  lane-stays : (k : ℕ) (lane : Lane) → k ≢ s.at → slice_get old.lanes k ≡ Some lane → slice_get new.lanes k ≡ Some lane
  lane-stays k lane off there = ap (λ (ls : List Lane). slice_get ls k) s.lanes_are ∙ set-other old.lanes s.at k (record { number = s.number; state = s.state }) off ∙ there

  pub own-now : slice_get new.lanes s.at ≡ Some (record { number = s.number; state = s.state })
  own-now = ap (λ (ls : List Lane). slice_get ls s.at) s.lanes_are ∙ at-set old.lanes s.at (record { number = s.number; state = s.was }) (record { number = s.number; state = s.state }) s.there

  -- a close is another lane's, as it was, or the one of this step
  pub data CloseWas (n : ℕ) (c : CloseFile) : Type 0 where
    another : n ≢ s.number → IsClose old n c → CloseWas n c
    own : n ≡ s.number → s.state ≡ Busy (machines.File (files.Close c)) → CloseWas n c

  close-was : (n : ℕ) (c : CloseFile) → IsClose new n c → CloseWas n c
  close-was n c k = by (nat_eq k.at s.at) refl
    where
      by : (b : Bool) → nat_eq k.at s.at ≡ b → CloseWas n c
      by true d =
          let there = sym own-now ∙ ap (slice_get new.lanes) (sym (eqb-true k.at s.at d)) ∙ k.there in
          own (sym (number-is s.state (Busy (machines.File (files.Close c))) s.number n there)) (state-is s.state (Busy (machines.File (files.Close c))) s.number n there)
      by false d =
          let there = lane-was k.at (record { number = n; state = Busy (machines.File (files.Close c)) }) (eqb-false k.at s.at d) k.there in
          another (λ same. eqb-false k.at s.at d (s.apart k.at (record { number = n; state = Busy (machines.File (files.Close c)) }) there same)) (record { at = k.at; there = there })

  close-stays : (n : ℕ) (c : CloseFile) → n ≢ s.number → IsClose old n c → IsClose new n c
  close-stays n c off k = record {
    at = k.at;
    there = lane-stays k.at (record { number = n; state = Busy (machines.File (files.Close c)) }) (λ same.
        off (sym (number-is s.was (Busy (machines.File (files.Close c))) s.number n (sym s.there ∙ ap (slice_get old.lanes) (sym same) ∙ k.there)))) k.there;
  }

  -- ---- another operation's step

  module _ (o : OtherStep old new s) where
    other-saving : (n : ℕ) (c : CloseFile) (file : List ℕ) (u : ℕ) → IsSaving new n c file u → IsSaving old n c file u × (n ≢ s.number)
    other-saving n c file u k = by (close-was n c k.close)
      where
        by : CloseWas n c → IsSaving old n c file u × (n ≢ s.number)
        by (another off was) = (record { close = was; save = k.save; is = k.is; file_is = k.file_is; upto_is = k.upto_is }, off)
        by (own same is) = absurd (o.is_none c is)

    pub other-ranked : Ranked old → Ranked new
    other-ranked r = record {
      sorted = λ n l c d file u w a b low.
          let x = other-saving n c file u a in
          let y = other-saving l d file w b in
          s.before file n l x.1 y.1 (r.sorted n l c d file u w x.0 y.0 low);
      below = λ n c file u a. let low = r.below n c file u (other-saving n c file u a).0 in let more = s.seq in omega (arith, low, more);
    }

    pub other-guarded : (number : ℕ) (file : List ℕ) → IsGuarded number old file → IsGuarded number new file
    other-guarded number file (slot place of there same all) = slot place of (o.held place of there) same (λ c upto k. all c upto (other-saving place.0 c file upto k).0)
    other-guarded number file (past n c r fault close is same refused all) = past n c r fault (close-stays n c off close) is same refused (λ l d upto k. all l d upto (other-saving l d file upto k).0)
      where
        off : n ≢ s.number
        off e =
            let at = s.apart close.at (record { number = n; state = Busy (machines.File (files.Close c)) }) close.there e in
            o.was_none c (state-is s.was (Busy (machines.File (files.Close c))) s.number n (sym s.there ∙ ap (slice_get old.lanes) (sym at) ∙ close.there))

  -- ---- a close's step

  module _ (k : CloserStep old new s) where
    own-old : IsClose old s.number k.c
    own-old = record { at = s.at; there = s.there ∙ ap (λ (st : State). Some (record { number = s.number; state = st })) k.was_is }

    one-old : (c : CloseFile) → IsClose old s.number c → c ≡ k.c
    one-old c is =
        let at = s.apart is.at (record { number = s.number; state = Busy (machines.File (files.Close c)) }) is.there refl in
        close-of c k.c (state-is (Busy (machines.File (files.Close c))) s.was s.number s.number (sym is.there ∙ ap (slice_get old.lanes) at ∙ s.there) ∙ k.was_is)

    -- the own close, where it goes on
    on-way : (c : CloseFile) → s.state ≡ Busy (machines.File (files.Close c)) → WentOn s.number k.its_slot k.file k.upto k.c.state old.shelf (machines.File (files.Close c)) new.shelf
    on-way c is = subst (λ (st : State). CloserWent s.number k.its_slot k.file k.upto k.c.state old.shelf st new.shelf) is k.went

    close-one : (a b : CloseFile) → machines.File (files.Close a) ≡ machines.File (files.Close b) → a ≡ b
    close-one a b e = cc

    -- a close that saves did so before, and this one keeps its place in the order
    pub record SavedBefore (n : ℕ) (c : CloseFile) (file : List ℕ) (u : ℕ) : Type 0 where
      pub d : CloseFile
      pub was : IsSaving old n d file u
      pub slot_is : d.slot ≡ c.slot
      pub order : n ≡ s.number → new.shelf.order ≡ old.shelf.order

    own-saving : (c : CloseFile) (file : List ℕ) (u : ℕ) → s.state ≡ Busy (machines.File (files.Close c)) → (t : Saving) → save_in c.state ≡ Some t → t.file ≡ file → t.upto ≡ u → SavedBefore s.number c file u
    own-saving c file u is t saves file_is upto_is = by way.goes
      where
        w : WentOn s.number k.its_slot k.file k.upto k.c.state old.shelf (machines.File (files.Close c)) new.shelf
        w = on-way c is

        same : c ≡ w.c
        same = close-one c w.c w.is

        way : OnItsWay k.file k.c.state c.state old.shelf new.shelf
        way = subst (λ (d : CloseFile). OnItsWay k.file k.c.state d.state old.shelf new.shelf) (sym same) w.way

        now : IsSave k.file k.upto t
        now = (closing-save s.number k.its_slot k.file k.upto new.shelf.opens c.state t (subst (λ (d : CloseFile). ClosingAt s.number k.its_slot k.file k.upto new.shelf.opens d.state) (sym same) w.at_) saves).0

        by : GoesAs k.file k.c.state c.state old.shelf.opens new.shelf.opens → SavedBefore s.number c file u
        by (saves_on a b one two) =
            let then_ = (closing-save s.number k.its_slot k.file k.upto old.shelf.opens k.c.state a k.at_ one).0 in
            record {
              d = k.c;
              was = record { close = own-old; save = a; is = one; file_is = then_.file_is ∙ sym now.file_is ∙ file_is; upto_is = then_.upto_is ∙ sym now.upto_is ∙ upto_is };
              slot_is = k.slot_is ∙ sym w.slot_is ∙ ap (λ (d : CloseFile). d.slot) (sym same);
              order = λ e. way.order;
            }
        by (freed a r one two none) = absurd (both-in c.state t r saves two)
        by (removes r one two three) = absurd (both-in c.state t r saves two)

    saving-was : (n : ℕ) (c : CloseFile) (file : List ℕ) (u : ℕ) → IsSaving new n c file u → SavedBefore n c file u
    saving-was n c file u i = by (close-was n c i.close)
      where
        by : CloseWas n c → SavedBefore n c file u
        by (another off was) = record {
          d = c;
          was = record { close = was; save = i.save; is = i.is; file_is = i.file_is; upto_is = i.upto_is };
          slot_is = refl;
          order = λ e. absurd (off e);
        }
        by (own same is) = subst (λ (m : ℕ). SavedBefore m c file u) (sym same) (own-saving c file u is i.save i.is i.file_is i.upto_is)

    pub closer-ranked : Ranked old → Ranked new
    closer-ranked r = record {
      sorted = λ n l c d file u w a b low.
          let x = saving-was n c file u a in
          let y = saving-was l d file w b in
          by n l file x.order y.order (nat_eq n s.number) refl (nat_eq l s.number) refl (r.sorted n l x.d y.d file u w x.was y.was low);
      below = λ n c file u a. let x = saving-was n c file u a in let low = r.below n x.d file u x.was in let more = s.seq in omega (arith, low, more);
    }
      where
        by : (n l : ℕ) (file : List ℕ) → (n ≡ s.number → new.shelf.order ≡ old.shelf.order) → (l ≡ s.number → new.shelf.order ≡ old.shelf.order) → (a : Bool) → nat_eq n s.number ≡ a
            → (b : Bool) → nat_eq l s.number ≡ b → StandsBefore old.shelf.order file n l → StandsBefore new.shelf.order file n l
        by n l file f g true d b e st = subst (λ (o : List LaneFile). StandsBefore o file n l) (sym (f (eqb-true n s.number d))) st
        by n l file f g false d true e st = subst (λ (o : List LaneFile). StandsBefore o file n l) (sym (g (eqb-true l s.number e))) st
        by n l file f g false d false e st = s.before file n l (eqb-false n s.number d) (eqb-false l s.number e) st

    -- who is the first has none of its file before it; a close that saves has its slot
    module _ (r : Ranked old) (leads_it : (fault : Fault) (l : ℕ) → s.state ≡ Over (answers.Refused fault) → StandsBefore old.shelf.order k.file l s.number → ⊥) (number : ℕ) (file : List ℕ)
        (open_now : (l : ℕ) (d : CloseFile) (u : ℕ) → IsSaving new l d file u → IsOpen new.shelf.opens file) where
      abbrev Result : Type 0
      Result = IsGuarded number new file ⊎ LetGo number file old new s

      -- no slot holds it where its close was refused and it is given up; else one does, of which no close saves less
      still-held : (same : k.file ≡ file) (fault : Fault) → s.state ≡ Over (answers.Refused fault)
          → ((l : ℕ) (d : CloseFile) (u : ℕ) → l ≢ s.number → IsSaving old l d file u → number ≤ u) → EndsAs k.file k.c.state (answers.Refused fault) new.shelf.opens → Result
      still-held same fault is all (inr none) = inr (gave k.c fault k.was_is is (closing-file s.number k.its_slot k.file k.upto old.shelf.opens k.c.state k.at_ ∙ ap Some same) (λ o. none (subst (IsOpen new.shelf.opens) (sym same) o)))
      still-held same fault is all (inl o) = inl (slot o.place o.of o.there (o.same ∙ same) (λ d u i e. by d u i (close-was o.place.0 d i.close)))
        where
          by : (d : CloseFile) (u : ℕ) (i : IsSaving new o.place.0 d file u) → CloseWas o.place.0 d → number ≤ u
          by d u i (another off was) = all o.place.0 d u off (record { close = was; save = i.save; is = i.is; file_is = i.file_is; upto_is = i.upto_is })
          by d u i (own here now) = absurd (let no_way : Busy (machines.File (files.Close d)) ≡ Over (answers.Refused fault) = sym now ∙ is in cc)

      now-close : (machine : Machine) (c : CloseFile) → s.state ≡ Busy machine → machine ≡ machines.File (files.Close c) → IsClose new s.number c
      now-close machine c is m =
          record { at = s.at; there = own-now ∙ ap (λ (st : State). Some (record { number = s.number; state = st })) (is ∙ ap Busy m) }

      -- ---- where a slot guards it

      module _ (place : Place) (of : Opened) (there : finite.get old.shelf.opens place ≡ Some of) (of_file : of.file ≡ file)
          (all : (c : CloseFile) (upto : ℕ) → IsSaving old place.0 c file upto → c.slot ≡ place.1 → number ≤ upto) where
        all-later : (c : CloseFile) (u : ℕ) → IsSaving new place.0 c file u → c.slot ≡ place.1 → number ≤ u
        all-later c u i e = let x = saving-was place.0 c file u i in all x.d u x.was (x.slot_is ∙ e)

        module _ (lane_is : place.0 ≡ s.number) (slot_is : place.1 ≡ k.its_slot) where
          held : finite.get old.shelf.opens (s.number, k.its_slot) ≡ Some of
          held = ap {A = ℕ} (λ n. finite.get old.shelf.opens (n, k.its_slot)) (sym lane_is) ∙ ap {A = ℕ} (λ z. finite.get old.shelf.opens (place.0, z)) (sym slot_is) ∙ there

          some-file : (a b : List ℕ) → Some a ≡ Some b → a ≡ b
          some-file a b e = cc

          module _ (sv : Saving) (saves : save_in k.c.state ≡ Some sv) where
            so : IsSave k.file k.upto sv
            so = (closing-save s.number k.its_slot k.file k.upto old.shelf.opens k.c.state sv k.at_ saves).0

            same : k.file ≡ file
            same =
                some-file k.file file
                (sym (closing-save s.number k.its_slot k.file k.upto old.shelf.opens k.c.state sv k.at_ saves).1
                ∙ ap (λ (o : Option Opened). option_map (λ (q : Opened). q.file) o) held ∙ ap Some of_file)

            mine : IsSaving old s.number k.c file k.upto
            mine = record { close = own-old; save = sv; is = saves; file_is = so.file_is ∙ same; upto_is = so.upto_is }

            enough : number ≤ k.upto
            enough = all k.c k.upto (subst (λ (n : ℕ). IsSaving old n k.c file k.upto) (sym lane_is) mine) (k.slot_is ∙ sym slot_is)

            enough-save : number ≤ sv.upto
            enough-save = let e = enough in let u = so.upto_is in omega (arith, e, u)

            own-slot : (st : State) → s.state ≡ st → CloserWent s.number k.its_slot k.file k.upto k.c.state old.shelf st new.shelf → Result
            own-slot (Over (answers.Done value)) is w = inr (saved k.c sv k.was_is saves (so.file_is ∙ same) enough-save (inl (value, is)))
            own-slot (Over (answers.Refused fault)) is w = still-held same fault is by w
              where
                by : (l : ℕ) (d : CloseFile) (u : ℕ) → l ≢ s.number → IsSaving old l d file u → number ≤ u
                by l d u off i = cases (cases_lt u number)
                  where
                    cases : (u < number) ⊎ (number ≤ u) → number ≤ u
                    cases (inr high) = high
                    cases (inl low) =
                        let e = enough in
                        absurd (leads_it fault l is (subst (λ (f : List ℕ). StandsBefore old.shelf.order f l s.number) (sym same) (r.sorted l s.number d k.c file u k.upto i mine (omega (arith, low, e)))))
            own-slot (Busy machine) is w = by w.way.goes
              where
                refused : (removal : Removal) → removal_in w.c.state ≡ Some removal → (IsOpen new.shelf.opens k.file → ⊥) → (o : Option Fault) → removal.refusal ≡ o → Result
                refused removal two none None e =
                    inr (saved k.c sv k.was_is saves (so.file_is ∙ same) enough-save (inr (w.c, removal, is ∙ ap Busy w.is, two, e)))
                refused removal two none (Some fault) e =
                    inl (past s.number w.c removal fault (now-close machine w.c is w.is) two
                    ((closing-removal s.number k.its_slot k.file k.upto new.shelf.opens w.c.state removal w.at_ two).0 ∙ same) e
                    (λ l d u i. absurd (none (subst (IsOpen new.shelf.opens) (sym same) (open_now l d u i)))))

                by : GoesAs k.file k.c.state w.c.state old.shelf.opens new.shelf.opens → Result
                by (freed a removal one two none) = refused removal two none removal.refusal refl
                by (removes removal one two three) = absurd (both-in k.c.state sv removal saves one)
                by (saves_on a b one two) = there_now (finite.get new.shelf.opens (s.number, k.its_slot)) refl
                  where
                    file-now : file_at s.number k.its_slot new.shelf.opens ≡ Some k.file
                    file-now = (closing-save s.number k.its_slot k.file k.upto new.shelf.opens w.c.state b w.at_ two).1

                    at-place : finite.get new.shelf.opens place ≡ finite.get new.shelf.opens (s.number, k.its_slot)
                    at-place = ap {A = ℕ} (λ n. finite.get new.shelf.opens (n, place.1)) lane_is ∙ ap {A = ℕ} (λ z. finite.get new.shelf.opens (s.number, z)) slot_is

                    there_now : (o : Option Opened) → finite.get new.shelf.opens (s.number, k.its_slot) ≡ o → IsGuarded number new file ⊎ LetGo number file old new s
                    there_now None e = absurd (let no_way : None ≡ Some k.file = sym (ap (λ (o : Option Opened). option_map (λ (q : Opened). q.file) o) e) ∙ file-now in cc)
                    there_now (Some q) e =
                        inl (slot place q (at-place ∙ e)
                        (some-file q.file file (sym (ap (λ (o : Option Opened). option_map (λ (q : Opened). q.file) o) e) ∙ file-now ∙ ap Some same)) all-later)

          own-or : SavesOr k.c.state → Result
          own-or (it_saves sv saves) = own-slot sv saves s.state refl k.went
          own-or (it_removes removal gone) =
              absurd (let no_way : None ≡ Some of = sym (closing-removal s.number k.its_slot k.file k.upto old.shelf.opens k.c.state removal k.at_ gone).1 ∙ held in cc)

        by-slot : Result
        by-slot = by (nat_eq place.0 s.number) refl (nat_eq place.1 k.its_slot) refl
          where
            elsewhere : (place ≡ (s.number, k.its_slot) → ⊥) → IsGuarded number new file ⊎ LetGo number file old new s
            elsewhere off = inl (slot place of (k.rest place off ∙ there) of_file all-later)

            by : (a : Bool) → nat_eq place.0 s.number ≡ a → (b : Bool) → nat_eq place.1 k.its_slot ≡ b → IsGuarded number new file ⊎ LetGo number file old new s
            by false d b e = elsewhere (λ is. eqb-false place.0 s.number d (ap (λ (p : Place). p.0) is))
            by true d false e = elsewhere (λ is. eqb-false place.1 k.its_slot e (ap (λ (p : Place). p.1) is))
            by true d true e = own-or (eqb-true place.0 s.number d) (eqb-true place.1 k.its_slot e) (saves-or s.number k.its_slot k.file k.upto old.shelf.opens k.c.state k.at_)

      -- ---- where a close guards it

      module _ (n : ℕ) (c : CloseFile) (removal : Removal) (fault : Fault) (close : IsClose old n c) (gone : removal_in c.state ≡ Some removal) (of_file : removal.file ≡ file)
          (refused : removal.refusal ≡ Some fault) (all : (l : ℕ) (d : CloseFile) (upto : ℕ) → IsSaving old l d file upto → number ≤ upto) where
        all-after : (l : ℕ) (d : CloseFile) (u : ℕ) → IsSaving new l d file u → number ≤ u
        all-after l d u i = let x = saving-was l d file u i in all l x.d u x.was

        module _ (own_close : c ≡ k.c) where
          gone-own : removal_in k.c.state ≡ Some removal
          gone-own = ap (λ (d : CloseFile). removal_in d.state) (sym own_close) ∙ gone

          same-file : k.file ≡ file
          same-file = sym (closing-removal s.number k.its_slot k.file k.upto old.shelf.opens k.c.state removal k.at_ gone-own).0 ∙ of_file

          own-past : (st : State) → s.state ≡ st → CloserWent s.number k.its_slot k.file k.upto k.c.state old.shelf st new.shelf → Result
          own-past (Over (answers.Done value)) is w = absurd (let no_way : None ≡ Some fault = sym (w removal gone-own) ∙ refused in cc)
          own-past (Over (answers.Refused other)) is w = still-held same-file other is (λ l d u off i. all l d u i) w
          own-past (Busy machine) is w = by w.way.goes
            where
              by : GoesAs k.file k.c.state w.c.state old.shelf.opens new.shelf.opens → IsGuarded number new file ⊎ LetGo number file old new s
              by (saves_on a b one two) = absurd (both-in k.c.state a removal one gone-own)
              by (freed a other one two none) = absurd (both-in k.c.state a removal one gone-own)
              by (removes other one two three) =
                  let one_removal = some-removal other removal (sym one ∙ gone-own) in
                  inl (past s.number w.c removal fault (now-close machine w.c is w.is) (two ∙ ap Some one_removal) of_file refused all-after)

        by-past : Result
        by-past = by (nat_eq n s.number) refl
          where
            by : (a : Bool) → nat_eq n s.number ≡ a → IsGuarded number new file ⊎ LetGo number file old new s
            by false d = inl (past n c removal fault (close-stays n c (eqb-false n s.number d) close) gone of_file refused all-after)
            by true d = own-past (one-old c (subst (λ (m : ℕ). IsClose old m c) (eqb-true n s.number d) close)) s.state refl k.went

      pub closer-guarded : IsGuarded number old file → IsGuarded number new file ⊎ LetGo number file old new s
      closer-guarded (slot place of there same all) = by-slot place of there same all
      closer-guarded (past n c removal fault close gone same refused all) = by-past n c removal fault close gone same refused all
