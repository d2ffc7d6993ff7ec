-- How a close goes on: it saves, or its save was refused and it removes its file, which no slot holds then; and what a refusal at its end tells.
use Rattle.core_session.proofs.Prelude.{◌≡◌, ◌⊎◌, ℕ, Bool, true, false, List, Option, Some, None, Result, inl, inr, refl, sym, ap, subst, ◌∙◌, if◌then◌else◌, Opens, IsOpen, of_file, last_end, Answer, Fault, Reply, is_first, goes_again, Step, Shelf, Turn, CloseFile, Closing, Removal, Saving, TellsOpen, GivesUpBy, closed_answer, refusal_of, remove_of, remove_busy, file_at, joined, by-step, save_in, removal_in}
use Rattle.std.specs.FinMap as finite
use Rattle.world_model.specs.declared.answer.Answer.TheVariants as answers
use Rattle.client_shelf.specs.declared.step.Step.TheVariants as nexts
use Rattle.file_ops.specs.declared.close_file.Closing.TheVariants as closing
use Rattle.file_ops.specs.Closes as closes
use Rattle.file_ops.specs.Saves as saves
use Rattle.core_session.proofs.drops.SaveFiles.{IsSave, goes-save, takes-save}

-- from the state `at`, with the table of opens before and after
pub data GoesAs (file : List ℕ) (at state : Closing) (base opens : Opens) : Type 0 where
  saves_on : (s t : Saving) → save_in at ≡ Some s → save_in state ≡ Some t → GoesAs file at state base opens
  freed : (s : Saving) (r : Removal) → save_in at ≡ Some s → removal_in state ≡ Some r → (IsOpen opens file → ⊥) → GoesAs file at state base opens
  removes : (r : Removal) → removal_in at ≡ Some r → removal_in state ≡ Some r → opens ≡ base → GoesAs file at state base opens

pub record OnItsWay (file : List ℕ) (at state : Closing) (base new : Shelf) : Type 0 where
  pub order : new.order ≡ base.order
  pub goes : GoesAs file at state base.opens new.opens

-- it ends well only where its save did
abbrev pub EndsAs : List ℕ → Closing → Answer → Opens → Type 0
EndsAs file at (answers.Done value) opens = (r : Removal) → removal_in at ≡ Some r → r.refusal ≡ None
EndsAs file at (answers.Refused fault) opens = IsOpen opens file ⊎ (IsOpen opens file → ⊥)

abbrev pub CloserGoes : List ℕ → Closing → Shelf → Step → Closing → Shelf → Type 0
CloserGoes file at base (nexts.Send call) state new = OnItsWay file at state base new
CloserGoes file at base nexts.Wait state new = OnItsWay file at state base new
CloserGoes file at base (nexts.Done answer) state new = EndsAs file at answer new.opens

-- it doesn't do both
pub both-in : (state : Closing) (s : Saving) (r : Removal) → save_in state ≡ Some s → removal_in state ≡ Some r → ⊥
both-in closing.Idle s r a b = absurd cc
both-in (closing.Queued saving) s r a b = absurd cc
both-in (closing.Saves saving) s r a b = absurd cc
both-in (closing.ToRemove removal) s r a b = absurd cc
both-in (closing.Removing removal) s r a b = absurd cc

module _ (lane slot : ℕ) (file : List ℕ) (upto : ℕ) where
  sends : (at : Closing) (base : Shelf) (call : _) (aim : Closing) (next : Step) (state : Closing) (old new : Shelf) → next ≡ nexts.Send call → state ≡ aim → new ≡ old
      → OnItsWay file at aim base old → CloserGoes file at base next state new
  sends at base call aim next state old new n s o g = rw (n, s, o) g

  waits : (at : Closing) (base : Shelf) (aim : Closing) (next : Step) (state : Closing) (old new : Shelf) → next ≡ nexts.Wait → state ≡ aim → new ≡ old
      → OnItsWay file at aim base old → CloserGoes file at base next state new
  waits at base aim next state old new n s o g = rw (n, s, o) g

  given : (b : Bool) (opens : Opens) (of : List ℕ) → of ≡ file → TellsOpen opens of b → IsOpen opens file ⊎ (IsOpen opens file → ⊥)
  given true opens of same t = inl (subst (IsOpen opens) same t)
  given false opens of same t = inr (λ o. t (subst (IsOpen opens) (sym same) o))

  ends : (at : Closing) (base : Shelf) (of : List ℕ) (refusal : Option Fault) (old : Shelf) (next : Step) (state : Closing) (new : Shelf) → of ≡ file
      → (refusal ≡ None → (r : Removal) → removal_in at ≡ Some r → r.refusal ≡ None) → closes.Ends lane of refusal old next state new → CloserGoes file at base next state new
  ends at base of refusal old next state new same well e = by refusal refl e.next_is e.back
    where
      opens : new.opens ≡ old.opens
      opens = ap (λ (k : Shelf). k.opens) e.others

      by : (r : Option Fault) → refusal ≡ r → next ≡ nexts.Done (closed_answer r) → GivesUpBy r of old.opens old.back new.back → CloserGoes file at base next state new
      by None is n g = rw n (well is)
      by (Some fault) is n g = rw n (subst (λ (o : Opens). IsOpen o file ⊎ (IsOpen o file → ⊥)) (sym opens) (given g.is_open old.opens of same g.told))

  place-told : (b : Bool) (p : List ℕ × List ℕ) (q : Option (List ℕ × List ℕ)) (opens : Opens) → Some p ≡ (if b then None else q) → TellsOpen opens file b → IsOpen opens file → ⊥
  place-told true p q opens is t = absurd cc
  place-told false p q opens is t = t

  asks : (at : Closing) (base : Shelf) (room : Bool) (removal : Removal) (old : Shelf) (next : Step) (state : Closing) (new : Shelf) → OnItsWay file at (closing.Removing removal) base old
      → OnItsWay file at (closing.ToRemove removal) base old → closes.Asks room removal old next state new → CloserGoes file at base next state new
  asks at base true removal old next state new g w a = sends at base (remove_of removal) (closing.Removing removal) next state old new a.next_is a.state_is a.shelf_is g
  asks at base false removal old next state new g w a = waits at base (closing.ToRemove removal) next state old new a.next_is a.state_is a.shelf_is w

  frees : (at : Closing) (base : Shelf) (s : Saving) → save_in at ≡ Some s → (room : Bool) (of : List ℕ) (refusal : Option Fault) (old : Shelf) (next : Step) (state : Closing) (new : Shelf)
      → of ≡ file → old.order ≡ base.order → closes.Frees lane slot room of refusal old next state new → CloserGoes file at base next state new
  frees at base s was room of refusal old next state new same order f = by f.place f.tells.place_is f.ends
    where
      by : (p : Option (List ℕ × List ℕ)) → p ≡ (if f.tells.is_open then None else finite.get old.silly of) → closes.EndsAt p lane room of refusal f.freed next state new
          → CloserGoes file at base next state new
      by None is e = ends at base of refusal f.freed next state new same (λ none r past. absurd (both-in at s r was past)) e
      by (Some place) is e = asks at base room removal f.freed next state new (on-way (closing.Removing removal) refl) (on-way (closing.ToRemove removal) refl) e
        where
          removal : Removal
          removal = record { file = of; dir = place.0; name = place.1; refusal = refusal }

          on-way : (st : Closing) → removal_in st ≡ Some (record { file = of; dir = place.0; name = place.1; refusal = refusal }) → OnItsWay file at st base f.freed
          on-way st r = record {
            order = ap (λ (k : Shelf). k.order) f.slot_is ∙ order;
            goes = freed s removal was r (place-told f.tells.is_open place (finite.get old.silly of) f.freed.opens is (subst (λ (g : List ℕ). TellsOpen f.freed.opens g f.tells.is_open) same f.tells.told));
          }

  waiting : (begun : Bool) (saving : Saving) → save_in (closes.waits_as begun saving) ≡ Some saving
  waiting true saving = refl
  waiting false saving = refl

  follows : (at : Closing) (base : Shelf) (s : Saving) → save_in at ≡ Some s → (gives : _) (room begun : Bool) (saving : Saving) (old : Shelf) (next : Step) (state : Closing) (new : Shelf)
      → IsSave file upto saving → old.order ≡ base.order → closes.Follows gives lane slot room begun saving old next state new → CloserGoes file at base next state new
  follows at base s was gives room begun saving old next state new is order f = by-step
      (λ g. closes.Follows g lane slot room begun saving old next state new → CloserGoes file at base next state new)
      (λ call l. sends at base call (closing.Saves saving) next state old new l.0 l.1 l.2 (record { order = order; goes = saves_on s saving was refl }))
      (λ l. waits at base (closes.waits_as begun saving) next state old new l.0 l.1 l.2 (record { order = order; goes = saves_on s saving was (waiting begun saving) }))
      (λ result l. frees at base s was room saving.file (refusal_of result) old next state new is.file_is order l)
      gives f

  goes-on : (at : Closing) (base : Shelf) (s : Saving) → save_in at ≡ Some s → (wsize : ℕ) (turn : Turn) (begun : Bool) (saving : Saving) (old : Shelf) (next : Step) (state : Closing) (new : Shelf)
      → IsSave file upto saving → old.order ≡ base.order → closes.GoesOn wsize lane slot turn begun saving old next state new → CloserGoes file at base next state new
  goes-on at base s was wsize turn begun saving old next state new is order g =
      follows at base s was g.gives turn.room begun g.saved g.gone next state new (goes-save file upto wsize turn.xid turn.room false saving old.back g.gives g.saved g.gone.back is g.goes)
      (ap (λ (k : Shelf). k.order) g.others ∙ order) g.follows

  begins : (at : Closing) (base : Shelf) (s : Saving) → save_in at ≡ Some s → (end : Option ℕ) (wsize : ℕ) (turn : Turn) (saving : Saving) (old : Shelf) (next : Step) (state : Closing) (new : Shelf)
      → IsSave file upto saving → old.order ≡ base.order → closes.Begins end wsize lane slot turn saving old next state new → CloserGoes file at base next state new
  begins at base s was None wsize turn saving old next state new is order b = frees at base s was turn.room saving.file None old next state new is.file_is order b
  begins at base s was (Some end) wsize turn saving old next state new is order b = goes-on at base s was wsize turn false saving old next state new is order b

  pub goes-queues : (b : Bool) (wsize : ℕ) (turn : Turn) (saving : Saving) (old : Shelf) (next : Step) (state : Closing) (new : Shelf) → IsSave file upto saving
      → closes.QueuesIf b wsize lane slot turn saving old next state new → CloserGoes file (closing.Queued saving) old next state new
  goes-queues true wsize turn saving old next state new is q =
      begins (closing.Queued saving) old saving refl (last_end (of_file saving.file old.back).segments) wsize turn saving old next state new is refl q
  goes-queues false wsize turn saving old next state new is q =
      waits (closing.Queued saving) old (closing.Queued saving) next state old new q.next_is q.state_is q.shelf_is (record { order = refl; goes = saves_on saving saving refl refl })

  machine-is : (m : CloseFile) → m.lane ≡ lane → m.slot ≡ slot → m ≡ record { lane = lane; slot = slot; state = m.state }
  machine-is m of_lane of_slot = ap (λ (n : ℕ). record m { lane = n }) of_lane ∙ ap (λ (k : ℕ). record m { lane = lane; slot = k }) of_slot

  -- what is known of its state
  abbrev pub StateOf : Closing → Type 0
  StateOf closing.Idle = ⊥
  StateOf (closing.Queued saving) = IsSave file upto saving
  StateOf (closing.Saves saving) = IsSave file upto saving
  StateOf (closing.ToRemove removal) = removal.file ≡ file
  StateOf (closing.Removing removal) = removal.file ≡ file

  pub goes-starts : (wsize : ℕ) (m : CloseFile) (turn : Turn) (old : Shelf) (next : Step) (state : Closing) (new : Shelf) → m.lane ≡ lane → m.slot ≡ slot
      → IsSave file upto (saves.begun file old.seq) → file_at lane slot old.opens ≡ Some file → closes.Starts wsize m turn old next state new
      → CloserGoes file (closing.Queued (saves.begun file old.seq)) (joined lane file old) next state new
  goes-starts wsize m turn old next state new of_lane of_slot is at step = by (file_at lane slot old.opens) at
      (subst (λ (k : CloseFile). closes.Starts wsize k turn old next state new) (machine-is m of_lane of_slot) step)
    where
      one-file : (a b : List ℕ) → Some a ≡ Some b → a ≡ b
      one-file a b e = cc

      by : (found : Option (List ℕ)) → found ≡ Some file → closes.StartsAt found wsize (record { lane = lane; slot = slot; state = m.state }) turn old next state new
          → CloserGoes file (closing.Queued (saves.begun file old.seq)) (joined lane file old) next state new
      by None e k = absurd (let no_way : None ≡ Some file = e in cc)
      by (Some f) e k =
          goes-queues (is_first lane (joined lane file old).order) wsize turn (saves.begun file old.seq) (joined lane file old) next state new is
          (subst (λ (g : List ℕ). closes.Queues wsize lane slot turn (saves.begun g old.seq) (joined lane g old) next state new) (one-file f file e) k)

  same-way : (at : Closing) (base : Shelf) (s : Saving) → save_in at ≡ Some s → OnItsWay file at at base base
  same-way at base s was = record { order = refl; goes = saves_on s s was was }

  resumes-at : (at : Closing) (wsize : ℕ) (was : Closing) (turn : Turn) (old : Shelf) (next : Step) (state : Closing) (new : Shelf) → StateOf at
      → closes.Resumes at wsize (record { lane = lane; slot = slot; state = was }) turn old next state new → CloserGoes file at old next state new
  resumes-at closing.Idle wsize was turn old next state new k r = absurd k
  resumes-at (closing.Queued saving) wsize was turn old next state new k r = goes-queues (is_first lane old.order) wsize turn saving old next state new k r
  resumes-at (closing.Saves saving) wsize was turn old next state new k r = by (is_first lane old.order) r
    where
      by : (b : Bool) → closes.GoesOnIf b wsize lane slot turn saving old next state new → CloserGoes file (closing.Saves saving) old next state new
      by true g = goes-on (closing.Saves saving) old saving refl wsize turn true saving old next state new k refl g
      by false g = waits (closing.Saves saving) old (closing.Saves saving) next state old new g.next_is g.state_is g.shelf_is (same-way (closing.Saves saving) old saving refl)
  resumes-at (closing.ToRemove removal) wsize was turn old next state new k r =
      asks (closing.ToRemove removal) old turn.room removal old next state new (record { order = refl; goes = removes removal refl refl refl }) (record { order = refl; goes = removes removal refl refl refl }) r
  resumes-at (closing.Removing removal) wsize was turn old next state new k r =
      waits (closing.Removing removal) old (closing.Removing removal) next state old new r.next_is r.state_is r.shelf_is (record { order = refl; goes = removes removal refl refl refl })

  pub goes-resumes : (wsize : ℕ) (m : CloseFile) (turn : Turn) (old : Shelf) (next : Step) (state : Closing) (new : Shelf) → m.lane ≡ lane → m.slot ≡ slot → StateOf m.state
      → closes.Resumes m.state wsize m turn old next state new → CloserGoes file m.state old next state new
  goes-resumes wsize m turn old next state new of_lane of_slot k r =
      resumes-at m.state wsize m.state turn old next state new k
      (subst (λ (c : CloseFile). closes.Resumes m.state wsize c turn old next state new) (machine-is m of_lane of_slot) r)

  takes-at : (at : Closing) (wsize : ℕ) (was : Closing) (sent turn : Turn) (came : Result Reply Fault) (old : Shelf) (next : Step) (state : Closing) (new : Shelf) → StateOf at
      → closes.Takes at wsize (record { lane = lane; slot = slot; state = was }) sent turn came old next state new → CloserGoes file at old next state new
  takes-at closing.Idle wsize was sent turn came old next state new k t = absurd k
  takes-at (closing.Queued saving) wsize was sent turn came old next state new k t =
      waits (closing.Queued saving) old (closing.Queued saving) next state old new t.next_is t.state_is t.shelf_is (same-way (closing.Queued saving) old saving refl)
  takes-at (closing.Saves saving) wsize was sent turn came old next state new k t =
      follows (closing.Saves saving) old saving refl t.gives turn.room true t.saved t.took next state new
      (takes-save file upto wsize sent turn came old.repeats saving old.back t.gives t.saved t.took.back t.took.repeats k t.takes) (ap (λ (s : Shelf). s.order) t.others) t.follows
  takes-at (closing.ToRemove removal) wsize was sent turn came old next state new k t =
      waits (closing.ToRemove removal) old (closing.ToRemove removal) next state old new t.next_is t.state_is t.shelf_is (record { order = refl; goes = removes removal refl refl refl })
  takes-at (closing.Removing removal) wsize was sent turn came old next state new k t = by (goes_again (remove_busy came) sent turn old.repeats) t.ends
    where
      by : (b : Bool) → closes.EndsIf b lane removal t.took next state new → CloserGoes file (closing.Removing removal) old next state new
      by true e =
          sends (closing.Removing removal) old (remove_of removal) (closing.Removing removal) next state t.took new e.next_is e.state_is e.shelf_is
          (record { order = ap (λ (s : Shelf). s.order) t.others; goes = removes removal refl refl (ap (λ (s : Shelf). s.opens) t.others) })
      by false e = ends (closing.Removing removal) old removal.file removal.refusal t.took next state new k (λ none r is. let same : removal ≡ r = cc in ap (λ (q : Removal). q.refusal) (sym same) ∙ none) e

  pub goes-takes : (wsize : ℕ) (m : CloseFile) (sent turn : Turn) (came : Result Reply Fault) (old : Shelf) (next : Step) (state : Closing) (new : Shelf) → m.lane ≡ lane → m.slot ≡ slot
      → StateOf m.state → closes.Takes m.state wsize m sent turn came old next state new → CloserGoes file m.state old next state new
  goes-takes wsize m sent turn came old next state new of_lane of_slot k t =
      takes-at m.state wsize m.state sent turn came old next state new k
      (subst (λ (c : CloseFile). closes.Takes m.state wsize c sent turn came old next state new) (machine-is m of_lane of_slot) t)
