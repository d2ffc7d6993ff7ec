-- What each step of a close makes of its slot, of its save's file and number, and of the table of opens; and that a refused one was the first in the order
-- of its file.
use Rattle.core_session.proofs.Prelude.{◌≡◌, ◌≢◌, ◌⊎◌, ℕ, Bool, true, false, List, Option, Some, None, option_map, Result, inl, inr, refl, sym, ap, subst, ◌∙◌, Opened, Place, Opens, of_file, last_end, Answer, Fault, Reply, is_first, goes_again, LaneFile, Step, Shelf, Turn, CloseFile, Closing, Removal, Saving, closed_answer, refusal_of, remove_of, remove_busy, file_at, joined, by-step, CloseTurn}
use Rattle.std.specs.FinMap as finite
use Rattle.open_files.proofs.Laws.{get-close_same, get-close_other}
use Rattle.client_shelf.specs.declared.step.Step.TheVariants as nexts
use Rattle.file_ops.specs.declared.close_file.Closing.TheVariants as closing
use Rattle.file_ops.specs.Closes as closes
use Rattle.file_ops.specs.Saves as saves
use Rattle.core_session.proofs.drops.SaveFiles.{IsSave, goes-save, takes-save}

-- ---- what is known of a close

-- Its slot holds this file until its save has ended, which is that of the file with all numbers up to one; then no more.
abbrev pub ClosingAt : ℕ → ℕ → List ℕ → ℕ → Opens → Closing → Type 0
ClosingAt lane slot file upto opens closing.Idle = ⊥
ClosingAt lane slot file upto opens (closing.Queued saving) = IsSave file upto saving × (file_at lane slot opens ≡ Some file)
ClosingAt lane slot file upto opens (closing.Saves saving) = IsSave file upto saving × (file_at lane slot opens ≡ Some file)
ClosingAt lane slot file upto opens (closing.ToRemove removal) = (removal.file ≡ file) × (finite.get opens (lane, slot) ≡ None)
ClosingAt lane slot file upto opens (closing.Removing removal) = (removal.file ≡ file) × (finite.get opens (lane, slot) ≡ None)

-- it has its answer: its slot is free, and it was the first in the order of its file
pub record ClosedAt (lane slot : ℕ) (T : Type 0) (opens : Opens) (answer : Answer) : Type 0 where
  pub free : finite.get opens (lane, slot) ≡ None
  pub first : T

-- T, that it is the first in the order, holds where it asks for a call and where it ends.
abbrev pub CloserThen : ℕ → ℕ → List ℕ → ℕ → Type 0 → Opens → Step → Closing → Type 0
CloserThen lane slot file upto T opens (nexts.Send call) state = ClosingAt lane slot file upto opens state × T
CloserThen lane slot file upto T opens nexts.Wait state = ClosingAt lane slot file upto opens state
CloserThen lane slot file upto T opens (nexts.Done answer) state = ClosedAt lane slot T opens answer

-- a step of it, seen from the table before
pub record CloserSteps (lane slot : ℕ) (file : List ℕ) (upto : ℕ) (T : Type 0) (base : Opens) (next : Step) (state : Closing) (new : Opens) : Type 0 where
  pub then_ : CloserThen lane slot file upto T new next state
  pub others : (q : Place) → q ≢ (lane, slot) → finite.get new q ≡ finite.get base q
  pub own : (finite.get new (lane, slot) ≡ finite.get base (lane, slot)) ⊎ (finite.get new (lane, slot) ≡ None)

module _ (lane slot : ℕ) (file : List ℕ) (upto : ℕ) (T : Type 0) where
  abbrev Steps : Opens → Step → Closing → Opens → Type 0
  Steps base next state new = CloserSteps lane slot file upto T base next state new

  abbrev At : Opens → Closing → Type 0
  At opens state = ClosingAt lane slot file upto opens state

  to : (base : Opens) (aim : Step) (at : Closing) (mid : Opens) (next : Step) (state : Closing) (new : Opens) → next ≡ aim → state ≡ at → new ≡ mid → Steps base aim at mid
      → Steps base next state new
  to base aim at mid next state new is same later c =
      subst (λ (n : Step). Steps base n state new) (sym is) (subst (λ (s : Closing). Steps base aim s new) (sym same) (subst (λ (o : Opens). Steps base aim at o) (sym later) c))

  same-opens : (base : Opens) (q : Place) → q ≢ (lane, slot) → finite.get base q ≡ finite.get base q
  same-opens base q other = refl

  ends : (base : Opens) (of : List ℕ) (refusal : Option Fault) (old : Shelf) (next : Step) (state : Closing) (new : Shelf) → T → finite.get old.opens (lane, slot) ≡ None
      → ((q : Place) → q ≢ (lane, slot) → finite.get old.opens q ≡ finite.get base q) → closes.Ends lane of refusal old next state new → Steps base next state new.opens
  ends base of refusal old next state new t none others e =
      to base (nexts.Done (closed_answer refusal)) closing.Idle old.opens next state new.opens e.next_is e.state_is (ap (λ (k : Shelf). k.opens) e.others)
      (record { then_ = record { free = none; first = t }; others = others; own = inr none })

  asks : (room : Bool) (base : Opens) (removal : Removal) (old : Shelf) (next : Step) (state : Closing) (new : Shelf) → T → removal.file ≡ file → finite.get old.opens (lane, slot) ≡ None
      → ((q : Place) → q ≢ (lane, slot) → finite.get old.opens q ≡ finite.get base q) → closes.Asks room removal old next state new → Steps base next state new.opens
  asks true base removal old next state new t of none others a =
      to base (nexts.Send (remove_of removal)) (closing.Removing removal) old.opens next state new.opens a.next_is a.state_is (ap (λ (k : Shelf). k.opens) a.shelf_is)
      (record { then_ = ((of, none), t); others = others; own = inr none })
  asks false base removal old next state new t of none others a =
      to base nexts.Wait (closing.ToRemove removal) old.opens next state new.opens a.next_is a.state_is (ap (λ (k : Shelf). k.opens) a.shelf_is)
      (record { then_ = (of, none); others = others; own = inr none })

  ends-at : (place : Option (List ℕ × List ℕ)) (room : Bool) (base : Opens) (of : List ℕ) (refusal : Option Fault) (old : Shelf) (next : Step) (state : Closing) (new : Shelf)
      → T → of ≡ file → finite.get old.opens (lane, slot) ≡ None → ((q : Place) → q ≢ (lane, slot) → finite.get old.opens q ≡ finite.get base q)
      → closes.EndsAt place lane room of refusal old next state new → Steps base next state new.opens
  ends-at None room base of refusal old next state new t same none others e = ends base of refusal old next state new t none others e
  ends-at (Some place) room base of refusal old next state new t same none others e =
      asks room base (record { file = of; dir = place.0; name = place.1; refusal = refusal }) old next state new t same none others e

  frees : (room : Bool) (of : List ℕ) (refusal : Option Fault) (old : Shelf) (next : Step) (state : Closing) (new : Shelf) → T → of ≡ file
      → closes.Frees lane slot room of refusal old next state new → Steps old.opens next state new.opens
  frees room of refusal old next state new t same f =
      let freed : f.freed.opens ≡ finite.remove old.opens (lane, slot) = ap (λ (k : Shelf). k.opens) f.slot_is in
      ends-at f.place room old.opens of refusal f.freed next state new t same (ap (λ (o : Opens). finite.get o (lane, slot)) freed ∙ get-close_same old.opens (lane, slot))
      (λ q other. ap (λ (o : Opens). finite.get o q) freed ∙ get-close_other old.opens (lane, slot) q other) f.ends

  waits-at : (begun : Bool) (saving : Saving) (opens : Opens) → IsSave file upto saving → file_at lane slot opens ≡ Some file → At opens (closes.waits_as begun saving)
  waits-at true saving opens s at = (s, at)
  waits-at false saving opens s at = (s, at)

  follows : (gives : _) (room begun : Bool) (saving : Saving) (old : Shelf) (next : Step) (state : Closing) (new : Shelf) → T → IsSave file upto saving
      → file_at lane slot old.opens ≡ Some file → closes.Follows gives lane slot room begun saving old next state new → Steps old.opens next state new.opens
  follows gives room begun saving old next state new t s at f = by-step (λ g. closes.Follows g lane slot room begun saving old next state new → Steps old.opens next state new.opens)
      (λ call l. to old.opens (nexts.Send call) (closing.Saves saving) old.opens next state new.opens l.0 l.1 (ap (λ (k : Shelf). k.opens) l.2)
      (record { then_ = ((s, at), t); others = same-opens old.opens; own = inl refl }))
      (λ l. to old.opens nexts.Wait (closes.waits_as begun saving) old.opens next state new.opens l.0 l.1 (ap (λ (k : Shelf). k.opens) l.2)
      (record { then_ = waits-at begun saving old.opens s at; others = same-opens old.opens; own = inl refl }))
      (λ result l. frees room saving.file (refusal_of result) old next state new t s.file_is l)
      gives f

  -- seen from another shelf with the same table
  from-opens : (old gone : Shelf) (next : Step) (state : Closing) (new : Shelf) → gone.opens ≡ old.opens
      → (file_at lane slot gone.opens ≡ Some file → Steps gone.opens next state new.opens) → file_at lane slot old.opens ≡ Some file → Steps old.opens next state new.opens
  from-opens old gone next state new same step a =
      subst (λ (o : Opens). Steps o next state new.opens) same (step (ap (λ (o : Opens). file_at lane slot o) same ∙ a))

  goes-on : (wsize : ℕ) (turn : Turn) (begun : Bool) (saving : Saving) (old : Shelf) (next : Step) (state : Closing) (new : Shelf) → T → IsSave file upto saving
      → file_at lane slot old.opens ≡ Some file → closes.GoesOn wsize lane slot turn begun saving old next state new → Steps old.opens next state new.opens
  goes-on wsize turn begun saving old next state new t s at g =
      from-opens old g.gone next state new (ap (λ (k : Shelf). k.opens) g.others)
      (λ b. follows g.gives turn.room begun g.saved g.gone next state new t (goes-save file upto wsize turn.xid turn.room false saving old.back g.gives g.saved g.gone.back s g.goes) b g.follows) at

  waits : (at : Closing) (old : Shelf) (next : Step) (state : Closing) (new : Shelf) → At old.opens at → closes.Waits at old next state new → Steps old.opens next state new.opens
  waits at old next state new a w =
      to old.opens nexts.Wait at old.opens next state new.opens w.next_is w.state_is (ap (λ (k : Shelf). k.opens) w.shelf_is) (record { then_ = a; others = same-opens old.opens; own = inl refl })

  begins : (end : Option ℕ) (wsize : ℕ) (turn : Turn) (saving : Saving) (old : Shelf) (next : Step) (state : Closing) (new : Shelf) → T → IsSave file upto saving
      → file_at lane slot old.opens ≡ Some file → closes.Begins end wsize lane slot turn saving old next state new → Steps old.opens next state new.opens
  begins None wsize turn saving old next state new t s at b = frees turn.room saving.file None old next state new t s.file_is b
  begins (Some end) wsize turn saving old next state new t s at b = goes-on wsize turn false saving old next state new t s at b

  queues : (b : Bool) (wsize : ℕ) (turn : Turn) (saving : Saving) (old : Shelf) (next : Step) (state : Closing) (new : Shelf) → (b ≡ true → T) → IsSave file upto saving
      → file_at lane slot old.opens ≡ Some file → closes.QueuesIf b wsize lane slot turn saving old next state new → Steps old.opens next state new.opens
  queues true wsize turn saving old next state new t s at q = begins (last_end (of_file saving.file old.back).segments) wsize turn saving old next state new (t refl) s at q
  queues false wsize turn saving old next state new t s at q = waits (closing.Queued saving) old next state new (s, at) q

  goes-on-if : (b : Bool) (wsize : ℕ) (turn : Turn) (saving : Saving) (old : Shelf) (next : Step) (state : Closing) (new : Shelf) → (b ≡ true → T) → IsSave file upto saving
      → file_at lane slot old.opens ≡ Some file → closes.GoesOnIf b wsize lane slot turn saving old next state new → Steps old.opens next state new.opens
  goes-on-if true wsize turn saving old next state new t s at g = goes-on wsize turn true saving old next state new (t refl) s at g
  goes-on-if false wsize turn saving old next state new t s at g = waits (closing.Saves saving) old next state new (s, at) g

  nothing-there : (o : Option Opened) → option_map (λ (k : Opened). k.file) o ≡ None → o ≡ None
  nothing-there None e = refl
  nothing-there (Some k) e = absurd cc

  -- ---- a close of this lane and slot

  machine-is : (m : CloseFile) → m.lane ≡ lane → m.slot ≡ slot → m ≡ record { lane = lane; slot = slot; state = m.state }
  machine-is m of_lane of_slot = ap (λ (n : ℕ). record m { lane = n }) of_lane ∙ ap (λ (k : ℕ). record m { lane = lane; slot = k }) of_slot

  -- T where the lane is the first in the order, when a step of the close without a reply begins
  abbrev pub HasTurn : List LaneFile → Type 0
  HasTurn order = is_first lane order ≡ true → T

  -- as it begins, with a slot that holds the file
  pub closer-starts : (wsize : ℕ) (m : CloseFile) (turn : Turn) (old : Shelf) (next : Step) (state : Closing) (new : Shelf) → m.lane ≡ lane → m.slot ≡ slot
      → HasTurn (joined lane file old).order → IsSave file upto (saves.begun file old.seq) → file_at lane slot old.opens ≡ Some file → closes.Starts wsize m turn old next state new
      → Steps old.opens next state new.opens
  closer-starts wsize m turn old next state new of_lane of_slot t s at step = by (file_at lane slot old.opens) at
      (subst (λ (k : CloseFile). closes.Starts wsize k turn old next state new) (machine-is m of_lane of_slot) step)
    where
      one-file : (a b : List ℕ) → Some a ≡ Some b → a ≡ b
      one-file a b e = cc

      by : (found : Option (List ℕ)) → found ≡ Some file → closes.StartsAt found wsize (record { lane = lane; slot = slot; state = m.state }) turn old next state new
          → Steps old.opens next state new.opens
      by None is k = absurd (let no_way : None ≡ Some file = is in cc)
      by (Some f) is k =
          from-opens old (joined lane file old) next state new refl
          (λ b. queues (is_first lane (joined lane file old).order) wsize turn (saves.begun file old.seq) (joined lane file old) next state new t s b
          (subst (λ (g : List ℕ). closes.Queues wsize lane slot turn (saves.begun g old.seq) (joined lane g old) next state new) (one-file f file is) k)) at

  resumes-at : (at : Closing) (wsize : ℕ) (was : Closing) (turn : Turn) (old : Shelf) (next : Step) (state : Closing) (new : Shelf) → HasTurn old.order
      → CloseTurn T at → ClosingAt lane slot file upto old.opens at → closes.Resumes at wsize (record { lane = lane; slot = slot; state = was }) turn old next state new
      → Steps old.opens next state new.opens
  resumes-at closing.Idle wsize was turn old next state new t c a r = absurd a
  resumes-at (closing.Queued saving) wsize was turn old next state new t c a r = queues (is_first lane old.order) wsize turn saving old next state new t a.0 a.1 r
  resumes-at (closing.Saves saving) wsize was turn old next state new t c a r = goes-on-if (is_first lane old.order) wsize turn saving old next state new t a.0 a.1 r
  resumes-at (closing.ToRemove removal) wsize was turn old next state new t c a r = asks turn.room old.opens removal old next state new c a.0 a.1 (same-opens old.opens) r
  resumes-at (closing.Removing removal) wsize was turn old next state new t c a r = waits (closing.Removing removal) old next state new a r

  pub closer-resumes : (wsize : ℕ) (m : CloseFile) (turn : Turn) (old : Shelf) (next : Step) (state : Closing) (new : Shelf) → m.lane ≡ lane → m.slot ≡ slot → HasTurn old.order
      → CloseTurn T m.state → ClosingAt lane slot file upto old.opens m.state → closes.Resumes m.state wsize m turn old next state new → Steps old.opens next state new.opens
  closer-resumes wsize m turn old next state new of_lane of_slot t c a r =
      resumes-at m.state wsize m.state turn old next state new t c a
      (subst (λ (k : CloseFile). closes.Resumes m.state wsize k turn old next state new) (machine-is m of_lane of_slot) r)

  ends-if : (again : Bool) (removal : Removal) (base : Opens) (old : Shelf) (next : Step) (state : Closing) (new : Shelf) → T → removal.file ≡ file → finite.get old.opens (lane, slot) ≡ None
      → ((q : Place) → q ≢ (lane, slot) → finite.get old.opens q ≡ finite.get base q) → closes.EndsIf again lane removal old next state new → Steps base next state new.opens
  ends-if true removal base old next state new t of none others e =
      to base (nexts.Send (remove_of removal)) (closing.Removing removal) old.opens next state new.opens e.next_is e.state_is (ap (λ (k : Shelf). k.opens) e.shelf_is)
      (record { then_ = ((of, none), t); others = others; own = inr none })
  ends-if false removal base old next state new t of none others e = ends base removal.file removal.refusal old next state new t none others e

  takes-at : (at : Closing) (wsize : ℕ) (was : Closing) (sent turn : Turn) (came : Result Reply Fault) (old : Shelf) (next : Step) (state : Closing) (new : Shelf) → T
      → ClosingAt lane slot file upto old.opens at → closes.Takes at wsize (record { lane = lane; slot = slot; state = was }) sent turn came old next state new
      → Steps old.opens next state new.opens
  takes-at closing.Idle wsize was sent turn came old next state new t a k = absurd a
  takes-at (closing.Queued saving) wsize was sent turn came old next state new t a k = waits (closing.Queued saving) old next state new a k
  takes-at (closing.Saves saving) wsize was sent turn came old next state new t a k =
      from-opens old k.took next state new (ap (λ (s : Shelf). s.opens) k.others)
      (λ b. follows k.gives turn.room true k.saved k.took next state new t
      (takes-save file upto wsize sent turn came old.repeats saving old.back k.gives k.saved k.took.back k.took.repeats a.0 k.takes) b k.follows) a.1
  takes-at (closing.ToRemove removal) wsize was sent turn came old next state new t a k = waits (closing.ToRemove removal) old next state new a k
  takes-at (closing.Removing removal) wsize was sent turn came old next state new t a k =
      let same : k.took.opens ≡ old.opens = ap (λ (s : Shelf). s.opens) k.others in
      ends-if (goes_again (remove_busy came) sent turn old.repeats) removal old.opens k.took next state new t a.0 (ap (λ (o : Opens). finite.get o (lane, slot)) same ∙ a.1)
      (λ q other. ap (λ (o : Opens). finite.get o q) same) k.ends

  -- what came of its call: only where it is the first in the order
  pub closer-takes : (wsize : ℕ) (m : CloseFile) (sent turn : Turn) (came : Result Reply Fault) (old : Shelf) (next : Step) (state : Closing) (new : Shelf) → m.lane ≡ lane → m.slot ≡ slot
      → T → ClosingAt lane slot file upto old.opens m.state → closes.Takes m.state wsize m sent turn came old next state new → Steps old.opens next state new.opens
  closer-takes wsize m sent turn came old next state new of_lane of_slot t a k =
      takes-at m.state wsize m.state sent turn came old next state new t a
      (subst (λ (c : CloseFile). closes.Takes m.state wsize c sent turn came old next state new) (machine-is m of_lane of_slot) k)
