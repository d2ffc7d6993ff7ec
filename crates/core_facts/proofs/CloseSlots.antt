-- What each step of a close makes of the table of opens: its slot is free once its sync has ended.
use Rattle.core_facts.proofs.Prelude.{◌≡◌, ◌≢◌, ℕ, Bool, true, false, List, Option, Some, None, option_map, Result, refl, sym, ap, subst, ◌∙◌, Opened, Place, Opens, of_file, last_end, Fault, Reply, is_first, goes_again, Step, Shelf, Turn, CloseFile, Closing, Removal, Saving, closed_answer, refusal_of, remove_of, file_at, joined, by-step}
use Rattle.file_ops.specs.Closings.{remove_busy}
use Rattle.std.specs.FinMap as finite
use Rattle.open_files.proofs.Laws.{get-close_same, get-close_other}
use Rattle.world_model.specs.declared.answer.Answer.TheVariants as answers
use Rattle.world_model.specs.declared.answer.Fault.TheVariants as faults
use Rattle.client_shelf.specs.declared.step.Step.TheVariants as nexts
use Rattle.file_ops.specs.declared.close_file.Closing.TheVariants as closing
use Rattle.file_ops.specs.Closes as closes
use Rattle.file_ops.specs.Saves as saves
use Rattle.core_facts.proofs.Steps.{ThenOf}

-- A holds of what the slot holds, until the slot is free.
abbrev pub ClosingHas : (Option Opened → Type 0) → Closing → Option Opened → Type 0
ClosingHas A closing.Idle o = A o
ClosingHas A (closing.Queued saving) o = A o
ClosingHas A (closing.Saves saving) o = A o
ClosingHas A (closing.ToRemove removal) o = o ≡ None
ClosingHas A (closing.Removing removal) o = o ≡ None

-- A step of a close, seen from the table before it: it ends with a free slot, and leaves all others as they are.
pub record CloseSteps (A : Option Opened → Type 0) (place : Place) (base : Opens) (next : Step) (state : Closing) (new : Opens) : Type 0 where
  pub then_ : ThenOf (λ s. ClosingHas A s (finite.get new place)) (λ a. finite.get new place ≡ None) next state
  pub others : (q : Place) → q ≢ place → finite.get new q ≡ finite.get base q

module _ (A : Option Opened → Type 0) (lane slot : ℕ) where
  abbrev Steps : Opens → Step → Closing → Opens → Type 0
  Steps base next state new = CloseSteps A (lane, slot) base next state new

  close-to : (base : Opens) (to : Step) (at : Closing) (mid : Opens) (next : Step) (state : Closing) (new : Opens) → next ≡ to → state ≡ at → new ≡ mid → Steps base to at mid
      → Steps base next state new
  close-to base to at mid next state new is same later c =
      subst (λ (n : Step). Steps base n state new) (sym is) (subst (λ (s : Closing). Steps base to s new) (sym same) (subst (λ (o : Opens). Steps base to at o) (sym later) c))

  -- the table as it was
  same-opens : (base : Opens) (q : Place) → q ≢ (lane, slot) → finite.get base q ≡ finite.get base q
  same-opens base q other = refl

  ends : (base : Opens) (file : List ℕ) (refusal : Option Fault) (old : Shelf) (next : Step) (state : Closing) (new : Shelf) → finite.get old.opens (lane, slot) ≡ None
      → ((q : Place) → q ≢ (lane, slot) → finite.get old.opens q ≡ finite.get base q) → closes.Ends lane file refusal old next state new → Steps base next state new.opens
  ends base file refusal old next state new none others e =
      close-to base (nexts.Done (closed_answer refusal)) closing.Idle old.opens next state new.opens e.next_is e.state_is (ap (λ (k : Shelf). k.opens) e.others)
      (record { then_ = none; others = others })

  asks : (room : Bool) (base : Opens) (removal : Removal) (old : Shelf) (next : Step) (state : Closing) (new : Shelf) → finite.get old.opens (lane, slot) ≡ None
      → ((q : Place) → q ≢ (lane, slot) → finite.get old.opens q ≡ finite.get base q) → closes.Asks room removal old next state new → Steps base next state new.opens
  asks true base removal old next state new none others a =
      close-to base (nexts.Send (remove_of removal)) (closing.Removing removal) old.opens next state new.opens a.next_is a.state_is (ap (λ (k : Shelf). k.opens) a.shelf_is)
      (record { then_ = none; others = others })
  asks false base removal old next state new none others a =
      close-to base nexts.Wait (closing.ToRemove removal) old.opens next state new.opens a.next_is a.state_is (ap (λ (k : Shelf). k.opens) a.shelf_is)
      (record { then_ = none; others = others })

  ends-at : (place : Option (List ℕ × List ℕ)) (room : Bool) (base : Opens) (file : List ℕ) (refusal : Option Fault) (old : Shelf) (next : Step) (state : Closing) (new : Shelf)
      → finite.get old.opens (lane, slot) ≡ None → ((q : Place) → q ≢ (lane, slot) → finite.get old.opens q ≡ finite.get base q)
      → closes.EndsAt place lane room file refusal old next state new → Steps base next state new.opens
  ends-at None room base file refusal old next state new none others e = ends base file refusal old next state new none others e
  ends-at (Some place) room base file refusal old next state new none others e =
      asks room base (record { file = file; dir = place.0; name = place.1; refusal = refusal }) old next state new none others e

  frees : (room : Bool) (file : List ℕ) (refusal : Option Fault) (old : Shelf) (next : Step) (state : Closing) (new : Shelf) → closes.Frees lane slot room file refusal old next state new
      → Steps old.opens next state new.opens
  frees room file refusal old next state new f =
      let freed : f.freed.opens ≡ finite.remove old.opens (lane, slot) = ap (λ (k : Shelf). k.opens) f.slot_is in
      ends-at f.place room old.opens file refusal f.freed next state new (ap (λ (o : Opens). finite.get o (lane, slot)) freed ∙ get-close_same old.opens (lane, slot))
      (λ q other. ap (λ (o : Opens). finite.get o q) freed ∙ get-close_other old.opens (lane, slot) q other) f.ends

  waits-has : (begun : Bool) (saving : Saving) (o : Option Opened) → A o → ClosingHas A (closes.waits_as begun saving) o
  waits-has true saving o a = a
  waits-has false saving o a = a

  follows : (gives : _) (room begun : Bool) (saving : Saving) (old : Shelf) (next : Step) (state : Closing) (new : Shelf) → A (finite.get old.opens (lane, slot))
      → closes.Follows gives lane slot room begun saving old next state new → Steps old.opens next state new.opens
  follows gives room begun saving old next state new a f = by-step (λ g. closes.Follows g lane slot room begun saving old next state new → Steps old.opens next state new.opens)
      (λ call l. close-to old.opens (nexts.Send call) (closing.Saves saving) old.opens next state new.opens l.0 l.1 (ap (λ (k : Shelf). k.opens) l.2)
      (record { then_ = a; others = same-opens old.opens }))
      (λ l. close-to old.opens nexts.Wait (closes.waits_as begun saving) old.opens next state new.opens l.0 l.1 (ap (λ (k : Shelf). k.opens) l.2)
      (record { then_ = waits-has begun saving (finite.get old.opens (lane, slot)) a; others = same-opens old.opens }))
      (λ result l. frees room saving.file (refusal_of result) old next state new l)
      gives f

  -- seen from another shelf with the same table
  from-opens : (old gone : Shelf) (next : Step) (state : Closing) (new : Shelf) → gone.opens ≡ old.opens
      → (A (finite.get gone.opens (lane, slot)) → Steps gone.opens next state new.opens) → A (finite.get old.opens (lane, slot)) → Steps old.opens next state new.opens
  from-opens old gone next state new same step a =
      subst (λ (o : Opens). Steps o next state new.opens) same (step (subst (λ (o : Opens). A (finite.get o (lane, slot))) (sym same) a))

  goes-on : (wsize : ℕ) (turn : Turn) (begun : Bool) (saving : Saving) (old : Shelf) (next : Step) (state : Closing) (new : Shelf) → A (finite.get old.opens (lane, slot))
      → closes.GoesOn wsize lane slot turn begun saving old next state new → Steps old.opens next state new.opens
  goes-on wsize turn begun saving old next state new a g =
      from-opens old g.gone next state new (ap (λ (k : Shelf). k.opens) g.others) (λ b. follows g.gives turn.room begun g.saved g.gone next state new b g.follows) a

  waits : (at : Closing) (old : Shelf) (next : Step) (state : Closing) (new : Shelf) → ClosingHas A at (finite.get old.opens (lane, slot)) → closes.Waits at old next state new
      → Steps old.opens next state new.opens
  waits at old next state new a w =
      close-to old.opens nexts.Wait at old.opens next state new.opens w.next_is w.state_is (ap (λ (k : Shelf). k.opens) w.shelf_is) (record { then_ = a; others = same-opens old.opens })

  begins : (end : Option ℕ) (wsize : ℕ) (turn : Turn) (saving : Saving) (old : Shelf) (next : Step) (state : Closing) (new : Shelf) → A (finite.get old.opens (lane, slot))
      → closes.Begins end wsize lane slot turn saving old next state new → Steps old.opens next state new.opens
  begins None wsize turn saving old next state new a b = frees turn.room saving.file None old next state new b
  begins (Some end) wsize turn saving old next state new a b = goes-on wsize turn false saving old next state new a b

  queues : (b : Bool) (wsize : ℕ) (turn : Turn) (saving : Saving) (old : Shelf) (next : Step) (state : Closing) (new : Shelf) → A (finite.get old.opens (lane, slot))
      → closes.QueuesIf b wsize lane slot turn saving old next state new → Steps old.opens next state new.opens
  queues true wsize turn saving old next state new a q = begins (last_end (of_file saving.file old.back).segments) wsize turn saving old next state new a q
  queues false wsize turn saving old next state new a q = waits (closing.Queued saving) old next state new a q

  nothing-there : (o : Option Opened) → option_map (λ (k : Opened). k.file) o ≡ None → o ≡ None
  nothing-there None e = refl
  nothing-there (Some k) e = absurd cc

  starts-at : (at : Option (List ℕ)) (wsize : ℕ) (m : CloseFile) (turn : Turn) (old : Shelf) (next : Step) (state : Closing) (new : Shelf) → m.lane ≡ lane → m.slot ≡ slot
      → file_at lane slot old.opens ≡ at → A (finite.get old.opens (lane, slot)) → closes.StartsAt at wsize m turn old next state new → Steps old.opens next state new.opens
  starts-at None wsize m turn old next state new of_lane of_slot there a s =
      close-to old.opens (nexts.Done (answers.Refused faults.Slot)) m.state old.opens next state new.opens s.next_is s.state_is (ap (λ (k : Shelf). k.opens) s.shelf_is)
      (record { then_ = nothing-there (finite.get old.opens (lane, slot)) there; others = same-opens old.opens })
  starts-at (Some file) wsize m turn old next state new of_lane of_slot there a s =
      from-opens old (joined m.lane file old) next state new refl
      (λ b. queues (is_first lane (joined m.lane file old).order) wsize turn (saves.begun file old.seq) (joined m.lane file old) next state new b
      (subst (λ (n : ℕ). closes.Queues wsize n slot turn (saves.begun file old.seq) (joined m.lane file old) next state new) of_lane
      (subst (λ (k : ℕ). closes.Queues wsize m.lane k turn (saves.begun file old.seq) (joined m.lane file old) next state new) of_slot s))) a

  pub close-starts : (wsize : ℕ) (m : CloseFile) (turn : Turn) (old : Shelf) (next : Step) (state : Closing) (new : Shelf) → m.lane ≡ lane → m.slot ≡ slot
      → A (finite.get old.opens (lane, slot)) → closes.Starts wsize m turn old next state new → Steps old.opens next state new.opens
  close-starts wsize m turn old next state new of_lane of_slot a s =
      starts-at (file_at m.lane m.slot old.opens) wsize m turn old next state new of_lane of_slot
      (ap (λ (n : ℕ). file_at n slot old.opens) (sym of_lane) ∙ ap (λ (k : ℕ). file_at m.lane k old.opens) (sym of_slot)) a s

  goes-on-if : (b : Bool) (wsize : ℕ) (turn : Turn) (saving : Saving) (old : Shelf) (next : Step) (state : Closing) (new : Shelf) → A (finite.get old.opens (lane, slot))
      → closes.GoesOnIf b wsize lane slot turn saving old next state new → Steps old.opens next state new.opens
  goes-on-if true wsize turn saving old next state new a g = goes-on wsize turn true saving old next state new a g
  goes-on-if false wsize turn saving old next state new a g = waits (closing.Saves saving) old next state new a g

  resumes-at : (at : Closing) (wsize : ℕ) (m : CloseFile) (turn : Turn) (old : Shelf) (next : Step) (state : Closing) (new : Shelf) → m.lane ≡ lane → m.slot ≡ slot
      → ClosingHas A at (finite.get old.opens (lane, slot)) → closes.Resumes at wsize (record { lane = lane; slot = slot; state = m.state }) turn old next state new
      → Steps old.opens next state new.opens
  resumes-at closing.Idle wsize m turn old next state new of_lane of_slot a r = waits closing.Idle old next state new a r
  resumes-at (closing.Queued saving) wsize m turn old next state new of_lane of_slot a r = queues (is_first lane old.order) wsize turn saving old next state new a r
  resumes-at (closing.Saves saving) wsize m turn old next state new of_lane of_slot a r = goes-on-if (is_first lane old.order) wsize turn saving old next state new a r
  resumes-at (closing.ToRemove removal) wsize m turn old next state new of_lane of_slot a r = asks turn.room old.opens removal old next state new a (same-opens old.opens) r
  resumes-at (closing.Removing removal) wsize m turn old next state new of_lane of_slot a r = waits (closing.Removing removal) old next state new a r

  -- the machine by its lane and slot
  machine-is : (m : CloseFile) → m.lane ≡ lane → m.slot ≡ slot → m ≡ record { lane = lane; slot = slot; state = m.state }
  machine-is m of_lane of_slot = ap (λ (n : ℕ). record m { lane = n }) of_lane ∙ ap (λ (k : ℕ). record m { lane = lane; slot = k }) of_slot

  pub close-resumes : (wsize : ℕ) (m : CloseFile) (turn : Turn) (old : Shelf) (next : Step) (state : Closing) (new : Shelf) → m.lane ≡ lane → m.slot ≡ slot
      → ClosingHas A m.state (finite.get old.opens (lane, slot)) → closes.Resumes m.state wsize m turn old next state new → Steps old.opens next state new.opens
  close-resumes wsize m turn old next state new of_lane of_slot a r =
      resumes-at m.state wsize m turn old next state new of_lane of_slot a
      (subst (λ (k : CloseFile). closes.Resumes m.state wsize k turn old next state new) (machine-is m of_lane of_slot) r)

  ends-if : (again : Bool) (removal : Removal) (base : Opens) (old : Shelf) (next : Step) (state : Closing) (new : Shelf) → finite.get old.opens (lane, slot) ≡ None
      → ((q : Place) → q ≢ (lane, slot) → finite.get old.opens q ≡ finite.get base q) → closes.EndsIf again lane removal old next state new → Steps base next state new.opens
  ends-if true removal base old next state new none others e =
      close-to base (nexts.Send (remove_of removal)) (closing.Removing removal) old.opens next state new.opens e.next_is e.state_is (ap (λ (k : Shelf). k.opens) e.shelf_is)
      (record { then_ = none; others = others })
  ends-if false removal base old next state new none others e = ends base removal.file removal.refusal old next state new none others e

  takes-at : (at : Closing) (wsize : ℕ) (state_was : Closing) (sent turn : Turn) (came : Result Reply Fault) (old : Shelf) (next : Step) (state : Closing) (new : Shelf)
      → ClosingHas A at (finite.get old.opens (lane, slot)) → closes.Takes at wsize (record { lane = lane; slot = slot; state = state_was }) sent turn came old next state new
      → Steps old.opens next state new.opens
  takes-at closing.Idle wsize state_was sent turn came old next state new a t = waits closing.Idle old next state new a t
  takes-at (closing.Queued saving) wsize state_was sent turn came old next state new a t = waits (closing.Queued saving) old next state new a t
  takes-at (closing.Saves saving) wsize state_was sent turn came old next state new a t =
      from-opens old t.took next state new (ap (λ (k : Shelf). k.opens) t.others) (λ b. follows t.gives turn.room true t.saved t.took next state new b t.follows) a
  takes-at (closing.ToRemove removal) wsize state_was sent turn came old next state new a t = waits (closing.ToRemove removal) old next state new a t
  takes-at (closing.Removing removal) wsize state_was sent turn came old next state new a t =
      let same : t.took.opens ≡ old.opens = ap (λ (k : Shelf). k.opens) t.others in
      ends-if (goes_again (remove_busy came) sent turn old.repeats) removal old.opens t.took next state new (ap (λ (o : Opens). finite.get o (lane, slot)) same ∙ a)
      (λ q other. ap (λ (o : Opens). finite.get o q) same) t.ends

  pub close-takes : (wsize : ℕ) (m : CloseFile) (sent turn : Turn) (came : Result Reply Fault) (old : Shelf) (next : Step) (state : Closing) (new : Shelf) → m.lane ≡ lane → m.slot ≡ slot
      → ClosingHas A m.state (finite.get old.opens (lane, slot)) → closes.Takes m.state wsize m sent turn came old next state new → Steps old.opens next state new.opens
  close-takes wsize m sent turn came old next state new of_lane of_slot a t =
      takes-at m.state wsize m.state sent turn came old next state new a
      (subst (λ (k : CloseFile). closes.Takes m.state wsize k sent turn came old next state new) (machine-is m of_lane of_slot) t)
