-- Of one place only bytes with a number above another are pending: what a save that ended well, a cut and new bytes leave.
use Rattle.core_session.proofs.Prelude.{◌≡◌, ◌≤◌, ◌<◌, ◌+◌, ◌-◌, ℕ, Bool, true, false, List, [], ◌∷◌, length, Option, Some, None, refl, sym, ap, subst, ◌∙◌, arith, slice_index, le-leb, is_in_flight, Pending, of_file, OnFile, HasNoPiece, with_bytes, with_cut, FilePending, Flown, fly_at, fly_in, rest_at, Segments, Cell, covers, cell_at, last_end, IsOver, low-of, high-of, EachSound, IsClearUpTo}
use Rattle.std.specs.Prelude.{nat_le}
use Rattle.std.proofs.lemmas.Bool.{leb-false}
use Rattle.write_back.specs.Pieces.{Sent, rest_of}
use Rattle.write_back.specs.declared.state.State.TheVariants.{Waiting}
use Rattle.write_back.specs.declared.state.Ready.TheVariants.{Unsent}
use Rattle.write_back.specs.Places.{cell_cut}
use Rattle.write_back.proofs.Adding.{cells-added, cells-cut}
use Rattle.core_session.proofs.pending.Newest.{of-cells, OfNewest}

one-cell : (a b : Cell) → Some a ≡ Some b → a ≡ b
one-cell a b e = cc

no-segments : (es : Segments) → last_end es ≡ None → es ≡ []
no-segments [] is = refl
no-segments (e ∷ []) is = absurd (cc)
no-segments (e ∷ g ∷ es) is = absurd (let none : g ∷ es ≡ [] = no-segments (g ∷ es) is in cc)

module _ (f : List ℕ) (i : ℕ) where
  -- the number of each byte of the place is above this one
  abbrev pub Above : ℕ → List ℕ → ℕ → ℕ → ℕ → Type 0
  Above m file place byte number = file ≡ f → place ≡ i → m < number

  pub of-cell : (m : ℕ) (b : Pending) → EachSound b → ((cell : Cell) → cell_at (of_file f b).segments i ≡ Some cell → m < cell.number) → OfNewest (Above m) b
  of-cell m b sound each = record { file = λ file. of-cells (Above m file) 0 (of_file file b).segments (sound file).apart (by file) }
    where
      by : (file : List ℕ) (place : ℕ) (cell : Cell) → cell_at (of_file file b).segments place ≡ Some cell → Above m file place cell.byte cell.number
      by file place cell is same here =
          each cell
          (subst (λ (z : List ℕ). cell_at (of_file z b).segments i ≡ Some cell) same (subst (λ (p : ℕ). cell_at (of_file file b).segments p ≡ Some cell) here is))

  -- nothing is pending of the file
  pub empty-above : (m : ℕ) (b : Pending) → EachSound b → last_end (of_file f b).segments ≡ None → OfNewest (Above m) b
  empty-above m b sound none =
      of-cell m b sound
      (λ cell is. absurd (let no_way : None ≡ Some cell = ap (λ (es : Segments). cell_at es i) (sym (no-segments (of_file f b).segments none)) ∙ is in cc))

  -- a save has ended well
  pub clear-above : (m upto : ℕ) (b : Pending) → m ≤ upto → EachSound b → HasNoPiece f b → IsClearUpTo upto (of_file f b) → OfNewest (Above m) b
  clear-above m upto b low sound quiet clear = of-cell m b sound each
    where
      none : fly_at (of_file f b) i ≡ None
      none = ap (λ (ps : List Sent). fly_in ps i) quiet

      each : (cell : Cell) → cell_at (of_file f b).segments i ≡ Some cell → m < cell.number
      each cell is =
          let over : is_in_flight cell.state ≡ false =
          subst (λ (c : Option Cell). IsOver None c) is (subst (λ (o : Option Flown). IsOver o (cell_at (of_file f b).segments i)) none ((sound f).over i)) in
          let rest : rest_at (of_file f b) i ≡ Some cell = ap rest_of is ∙ (rw over refl) in
          let more = clear.rest i cell rest in
          omega (arith, low, more)

  -- the file was cut at the place or before
  pub cut-above : (m size upto : ℕ) (b after : Pending) → m ≤ upto → size ≤ i → EachSound b → EachSound after → OnFile b after f (with_cut size upto (of_file f b)) → OfNewest (Above m) after
  cut-above m size upto b after low short sound then_ on = of-cell m after then_ each
    where
      cut-is : (o : Option Cell) (cell : Cell) → cell_cut size upto i o ≡ Some cell → upto < cell.number
      cut-is None cell is = absurd (let no_way : None ≡ Some cell = is in cc)
      cut-is (Some c) cell is = by (nat_le c.number upto) refl
        where
          by : (d : Bool) → nat_le c.number upto ≡ d → upto < cell.number
          by true e = absurd (let no_way : None ≡ Some cell = (rw (le-leb size i short, e) at is) in cc)
          by false e =
              let same : Some c ≡ Some cell = (rw (le-leb size i short, e) at is) in
              let more = leb-false c.number upto e in
              subst (λ (z : Cell). upto < z.number) (one-cell c cell same) (omega (arith, more))

      each : (cell : Cell) → cell_at (of_file f after).segments i ≡ Some cell → m < cell.number
      each cell is =
          let cells : cell_at (with_cut size upto (of_file f b)).segments i ≡ cell_cut size upto i (cell_at (of_file f b).segments i) = cells-cut size upto 0 (of_file f b).segments i (sound f).apart in
          let there : cell_at (with_cut size upto (of_file f b)).segments i ≡ Some cell = ap (λ (of : FilePending). cell_at of.segments i) (sym on.here) ∙ is in
          let more = cut-is (cell_at (of_file f b).segments i) cell (sym cells ∙ there) in
          omega (arith, low, more)

  -- its own bytes came in
  pub adds-above : (m number offset : ℕ) (bytes : List ℕ) (b after : Pending) → m < number → covers offset (length bytes) i ≡ true → EachSound b → EachSound after
      → OnFile b after f (with_bytes offset bytes number (of_file f b)) → OfNewest (Above m) after
  adds-above m number offset [] b after low inside sound then_ on = absurd (none inside)
    where
      none : covers offset 0 i ≡ true → ⊥
      none c =
          let first = low-of offset (offset + 0) i c in
          let last = high-of offset (offset + 0) i c in
          omega (arith, first, last)
  adds-above m number offset (x ∷ xs) b after low inside sound then_ on = of-cell m after then_ each
    where
      each : (cell : Cell) → cell_at (of_file f after).segments i ≡ Some cell → m < cell.number
      each cell is =
          let cells = cells-added offset (x ∷ xs) number (of_file f b).segments i (sound f).apart in
          let there : cell_at (with_bytes offset (x ∷ xs) number (of_file f b)).segments i ≡ Some cell = ap (λ (of : FilePending). cell_at of.segments i) (sym on.here) ∙ is in
          let new : cell_at (with_bytes offset (x ∷ xs) number (of_file f b)).segments i
          ≡ Some (record { byte = slice_index (x ∷ xs) (i - offset); number = number; state = Waiting Unsent }) = cells ∙ (rw inside refl) in
          subst (λ (z : Cell). m < z.number) (one-cell (record { byte = slice_index (x ∷ xs) (i - offset); number = number; state = Waiting Unsent }) cell (sym new ∙ there)) low
