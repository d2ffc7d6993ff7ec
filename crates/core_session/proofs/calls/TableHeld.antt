-- Where each answer that is ready was noted, what the table of opens has, a slot holds by the history.
use Rattle.core_session.proofs.Prelude.{◌≡◌, ◌⊎◌, inl, inr, ℕ, suc, List, [], ◌∷◌, Bool, true, false, nat_eq, Option, Some, None, slice_get, refl, sym, ap, subst, ◌∙◌, length, eqb-true, eqb-false, Answer, Entry, Modes, Opened, Opens, IsOpen, Closing, Mounted, Machine, machine_of, Lane, State, Busy, Over, Setup, IsOther, numbers_of, View, Reaches, lanes-under-way, reached-lanes, IsHeld, Agrees, Kind, plainly, kind_of, StoryOf, Slots, reached-slots}
use Rattle.core_facts.proofs.Slots.{opening, closing}
use Rattle.std.specs.FinMap as finite
use Rattle.file_ops.specs.declared.close_file.Closing.TheVariants as closing_states
use Rattle.core_facts.proofs.CloseSlots.{ClosingHas}

-- a lane with this number, or none
pub record IsLane (n : ℕ) (lanes : List Lane) : Type 0 where
  pub at : ℕ
  pub state : State
  pub there : slice_get lanes at ≡ Some (record { number = n; state = state })

pub lane-or : (n : ℕ) (lanes : List Lane) → IsLane n lanes ⊎ IsOther n (numbers_of lanes)
lane-or n [] = inr tt
lane-or n (l ∷ lanes) = by (nat_eq l.number n) refl (lane-or n lanes)
  where
    by : (b : Bool) → nat_eq l.number n ≡ b → IsLane n lanes ⊎ IsOther n (numbers_of lanes) → IsLane n (l ∷ lanes) ⊎ IsOther n (numbers_of (l ∷ lanes))
    by true is rest = inl (record { at = 0; state = l.state; there = ap (λ (k : ℕ). Some (record { number = k; state = l.state })) (eqb-true l.number n is) })
    by false is (inl k) = inl (record { at = suc k.at; state = k.state; there = k.there })
    by false is (inr other) = inr (eqb-false l.number n is, other)

-- no answer is ready that wasn't noted
abbrev pub AllNoted : View → Type 0
AllNoted v = (at number : ℕ) (answer : Answer) → slice_get v.lanes at ≡ Some (record { number = number; state = Over answer }) → ⊥

module _ (m : Modes) (h : List Entry) (n slot : ℕ) (o : Opened) where
  pub shown : (at : Option Opened) → at ≡ Some o → Agrees m h n slot at → IsHeld m h (length h) n slot o.file o.mode
  shown at is a = (subst (Agrees m h n slot) is a).held

  closing-shown : (state : Closing) (at : Option Opened) → at ≡ Some o → ClosingHas (Agrees m h n slot) state at → IsHeld m h (length h) n slot o.file o.mode
  closing-shown closing_states.Idle at is has = shown at is has
  closing-shown (closing_states.Queued saving) at is has = shown at is has
  closing-shown (closing_states.Saves saving) at is has = shown at is has
  closing-shown (closing_states.ToRemove removal) at is has = absurd (let no_way : None ≡ Some o = sym has ∙ is in cc)
  closing-shown (closing_states.Removing removal) at is has = absurd (let no_way : None ≡ Some o = sym has ∙ is in cc)

  pub kind-shown : (k : Kind) (x : ℕ) (machine : Machine) (opens : Opens) → finite.get opens (n, slot) ≡ Some o → StoryOf m h x n k (Busy machine) opens
      → IsHeld m h (length h) n slot o.file o.mode
  kind-shown (opening its mode) x machine opens is s = shown (finite.get opens (n, slot)) is (s.agree slot)
  kind-shown plainly x machine opens is s = shown (finite.get opens (n, slot)) is (s.1 slot)
  kind-shown (closing its) x machine opens is s = by (nat_eq slot its) refl
    where
      by : (b : Bool) → nat_eq slot its ≡ b → IsHeld m h (length h) n slot o.file o.mode
      by true e =
          let same : slot ≡ its = eqb-true slot its e in
          closing-shown s.c.state (finite.get opens (n, slot)) is
          (subst (λ (k : ℕ). ClosingHas (Agrees m h n k) s.c.state (finite.get opens (n, k))) (sym same) s.has)
      by false e = shown (finite.get opens (n, slot)) is (s.others slot (eqb-false slot its e))

module _ (mounted : Mounted) (modes : Modes) (same : mounted.nocto ≡ modes.nocto) (setup : Setup) (h : List Entry) (v : View) (r : Reaches (machine_of mounted) setup h v) (found : v.lost ≡ false)
    (noted : AllNoted v) where
  pub table-held : (n slot : ℕ) (o : Opened) → finite.get v.shelf.opens (n, slot) ≡ Some o → IsHeld modes h (length h) n slot o.file o.mode
  table-held n slot o is = by (lane-or n v.lanes)
    where
      s : Slots modes mounted same setup h v
      s = reached-slots modes mounted same setup h v r found

      of-state : (at : ℕ) (state : State) → slice_get v.lanes at ≡ Some (record { number = n; state = state }) → IsHeld modes h (length h) n slot o.file o.mode
      of-state at (Over answer) there = absurd (noted at n answer there)
      of-state at (Busy machine) there =
          let busy = (lanes-under-way h v (reached-lanes (machine_of mounted) setup h v r)).busy at (record { number = n; state = Busy machine }) there in
          kind-shown modes h n slot o (kind_of busy.op) busy.x machine v.shelf.opens is (s.lanes at (record { number = n; state = Busy machine }) there busy.x busy.op busy.under_way)

      by : IsLane n v.lanes ⊎ IsOther n (numbers_of v.lanes) → IsHeld modes h (length h) n slot o.file o.mode
      by (inl k) = of-state k.at k.state k.there
      by (inr other) = shown modes h n slot o (finite.get v.shelf.opens (n, slot)) is (s.idle n other slot)

  -- so a file that is open is held by some slot
  pub record HeldNow (file : List ℕ) : Type 0 where
    pub lane : ℕ
    pub slot : ℕ
    pub of : Opened
    pub held : IsHeld modes h (length h) lane slot file of.mode

  pub open-held : (file : List ℕ) → IsOpen v.shelf.opens file → HeldNow file
  open-held file i = record {
    lane = i.place.0;
    slot = i.place.1;
    of = i.of;
    held = subst (λ (f : List ℕ). IsHeld modes h (length h) i.place.0 i.place.1 f i.of.mode) i.same (table-held i.place.0 i.place.1 i.of i.there);
  }
