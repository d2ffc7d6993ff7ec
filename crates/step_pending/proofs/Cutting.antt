-- Bytes that a truncate drops, and all that are given up, by place.
use Rattle.std.proofs.Common.{inl, inr, ◌⊎◌, ◌≡◌, ◌≢◌, ◌≤◌, ℕ, Bool, true, false, [], Option, Some, None, refl, sym, ap, subst, ◌∙◌}
use Rattle.std.specs.Prelude.{◌&&◌, nat_le}
use Rattle.std.specs.Option.{option_map}
use Rattle.std.proofs.lemmas.Bool.{leb-true, and_parts}
use Rattle.write_back.specs.Files.{Pending, of_file, HasNoPiece, OnFile}
use Rattle.write_back.specs.Landing.{with_cut}
use Rattle.write_back.specs.Pieces.{nothing, rest_at, fly_at, fly_in}
use Rattle.write_back.specs.Places.{Cuts, cell_cut}
use Rattle.write_back.specs.Segments as segments
use Rattle.write_back.proofs.Adding.{cuts-so, sound-cut}
use Rattle.write_back.proofs.Keeping.{sound-nothing}
use Rattle.model_writes.specs.Machine.{Cell, Flight, View}
use Rattle.model_writes.specs.Story.{File, Spot}
use Rattle.step_pending.specs.Cells.{IsRest, flight_of, EachSound, Shows, Leads}
use Rattle.step_pending.specs.Steps.{CutsFrom, GivesAll}
use Rattle.step_pending.proofs.Leading.{if-true, if-false, spot, Turned, leads, sound-on}

-- what a place becomes by a truncate
record Left (size upto at : ℕ) (kept : Option segments.Cell) (rest : Option Cell) : Type 0 where
  pub left : Option Cell
  pub is_left : IsRest (cell_cut size upto at kept) left
  pub so : (left ≡ rest) ⊎ ((size ≤ at) × (left ≡ None))

left-of : (size upto at : ℕ) (kept : Option segments.Cell) (rest : Option Cell) → IsRest kept rest → Left size upto at kept rest
left-of size upto at None None is = record { left = None; is_left = tt; so = inl refl }
left-of size upto at None (Some cell) is = absurd is
left-of size upto at (Some kept) None is = absurd is
left-of size upto at (Some kept) (Some cell) is = by (nat_le size at && nat_le kept.number upto) refl
  where
    by : (b : Bool) → (nat_le size at && nat_le kept.number upto) ≡ b → Left size upto at (Some kept) (Some cell)
    by true h = record {
      left = None;
      is_left = subst (λ o. IsRest o None) (sym (if-true (nat_le size at && nat_le kept.number upto) None (Some kept) h)) tt;
      so = inr (leb-true size at ((and_parts (nat_le size at) (nat_le kept.number upto) h).0), refl);
    }
    by false h = record {
      left = Some cell;
      is_left = subst (λ o. IsRest o (Some cell)) (sym (if-false (nat_le size at && nat_le kept.number upto) None (Some kept) h)) is;
      so = inl refl;
    }

module _ (old : Pending) (file : File) (size upto : ℕ) (sound : EachSound old) (c : View) (shows : Shows old c) where
  cuts : Cuts size upto (of_file file old) (with_cut size upto (of_file file old))
  cuts = cuts-so size upto (of_file file old) (sound file).apart

  abbrev Becomes : Spot → Option Cell → Option Flight → Type 0
  Becomes i rest fly = ((rest ≡ c.rest i) × (fly ≡ c.fly i)) ⊎ ((i.file ≡ file) × (size ≤ i.at) × (rest ≡ None) × (fly ≡ c.fly i))

  joined : (at : ℕ) (left : Option Cell) → (left ≡ c.rest (spot file at)) ⊎ ((size ≤ at) × (left ≡ None)) → Becomes (spot file at) left (c.fly (spot file at))
  joined at left (inl same) = inl (same, refl)
  joined at left (inr gone) = inr (refl, gone.0, gone.1, refl)

  turned : (at : ℕ) → Turned (Becomes (spot file at)) (rest_at (with_cut size upto (of_file file old)) at) (fly_at (with_cut size upto (of_file file old)) at)
  turned at =
      let l : Left size upto at (rest_at (of_file file old) at) (c.rest (spot file at)) = left-of size upto at (rest_at (of_file file old) at) (c.rest (spot file at)) (shows.rest (spot file at)) in
      record {
        rest = l.left;
        fly = c.fly (spot file at);
        is_rest = subst (λ o. IsRest o l.left) (sym (cuts.rest at)) l.is_left;
        is_fly = shows.fly (spot file at);
        so = joined at l.left l.so;
      }

  others : (i : Spot) → i.file ≢ file → Becomes i (c.rest i) (c.fly i)
  others i apart = inl (refl, refl)

pub cut-leads : (old new : Pending) (file : File) (size upto : ℕ) → EachSound old → OnFile old new file (with_cut size upto (of_file file old)) → (c : View) → Shows old c
    → Leads new (CutsFrom file size) c
cut-leads old new file size upto sound on c shows =
    leads old new file (with_cut size upto (of_file file old)) on c shows (Becomes old file size upto sound c shows) (turned old file size upto sound c shows) (others old file size upto sound c shows)
    (CutsFrom file size) (λ d each. each)

pub cut-sound : (old new : Pending) (file : File) (size upto : ℕ) → EachSound old → HasNoPiece file old → OnFile old new file (with_cut size upto (of_file file old)) → EachSound new
cut-sound old new file size upto sound none on = sound-on old new file (with_cut size upto (of_file file old)) on sound (sound-cut size upto (of_file file old) (sound file) none)

-- ---- all is given up

module _ (old : Pending) (file : File) (quiet : HasNoPiece file old) (c : View) (shows : Shows old c) where
  record Given (i : Spot) (rest : Option Cell) (fly : Option Flight) : Type 0 where
    pub grounded : i.file ≡ file → c.fly i ≡ None
    pub none : i.file ≡ file → (rest ≡ None) × (fly ≡ None)
    pub stays : i.file ≢ file → (rest ≡ c.rest i) × (fly ≡ c.fly i)

  down : (at : ℕ) → c.fly (spot file at) ≡ None
  down at = shows.fly (spot file at) ∙ ap (λ pieces. option_map flight_of (fly_in pieces at)) quiet

  turned-none : (at : ℕ) → Turned (Given (spot file at)) (rest_at nothing at) (fly_at nothing at)
  turned-none at = record {
    rest = None;
    fly = None;
    is_rest = tt;
    is_fly = refl;
    so = record { grounded = λ same. down at; none = λ same. (refl, refl); stays = λ apart. absurd (apart refl) };
  }

  others-stay : (i : Spot) → i.file ≢ file → Given i (c.rest i) (c.fly i)
  others-stay i apart = record { grounded = λ same. absurd (apart same); none = λ same. absurd (apart same); stays = λ other. (refl, refl) }

  gives : (d : View) → ((i : Spot) → Given i (d.rest i) (d.fly i)) → GivesAll file c d
  gives d each = record { grounded = λ i same. (each i).grounded same; none = λ i same. (each i).none same; others = λ i apart. (each i).stays apart }

pub given-leads : (old new : Pending) (file : File) → HasNoPiece file old → OnFile old new file nothing → (c : View) → Shows old c → Leads new (GivesAll file) c
given-leads old new file quiet on c shows =
    leads old new file nothing on c shows (Given old file quiet c shows) (turned-none old file quiet c shows) (others-stay old file quiet c shows) (GivesAll file) (gives old file quiet c shows)

pub sound-given : (old new : Pending) (file : File) → EachSound old → OnFile old new file nothing → EachSound new
sound-given old new file sound on = sound-on old new file nothing on sound sound-nothing

-- ---- nothing was ever pending

pub nothing-sound : EachSound []
nothing-sound file = sound-nothing

pub nothing-shown : (c : View) → ((i : Spot) → c.rest i ≡ None) → ((i : Spot) → c.fly i ≡ None) → Shows [] c
nothing-shown c rests flies = record { rest = λ i. subst (λ o. IsRest None o) (sym (rests i)) tt; fly = flies }
