-- A piece that is taken has as many bytes as a WRITE may have, or they don't go on where it ends.
use Rattle.core_counts.proofs.Prelude.{◌≡◌, ◌<◌, ◌≤◌, ◌⊎◌, inl, inr, ◌+◌, ◌-◌, ◌&&◌, ℕ, Bool, true, false, List, [], ◌∷◌, ◌++◌, length, take, Option, Some, None, refl, sym, ap, subst, ◌∙◌, arith, length-append, nat_lt, le-leb, lt-ltb, ltb-false, eq-eqb, eqb-true, cases_lt, InFlight, Acked, chosen, piece_of, FilePending, Flown, flown_in, rest_of, rest_at, fly_at, fly_in, PutsInFlight, Segment, Segments, Cell, covers, cell_in, cell_at, IsSound, is_ready, is_in_flight, if-true, if-false, Stops}
use Rattle.std.proofs.Common.{min, length-take}
use Rattle.std.specs.Prelude.{nat_le, nat_eq, not}
use Rattle.std.proofs.lemmas.Bool.{le-ltb, and_parts}
use Rattle.write_back.specs.declared.state.State.TheVariants.{Waiting}
use Rattle.write_back.specs.Choice.{may_go, how_of_segment, run_from, chosen_from, bytes_in}
use Rattle.write_back.specs.Pieces.{Sent, overlaps}
use Rattle.write_back.specs.Segments.{AreApart, end_of, head_of}
use Rattle.write_back.specs.declared.state.State.{State}
use Rattle.write_back.proofs.Cells.{later-none}
use Rattle.write_back.proofs.Flying.{overlaps-free}
use Rattle.write_back.proofs.Gathering.{run-zero}
use Rattle.write_back.proofs.Running.{chosen-is}
use Rattle.core_counts.specs.coarse.Long as long

-- a segment stands there which doesn't go on
pub record Halts (pieces : List Sent) (upto how : ℕ) (es : Segments) (p : ℕ) : Type 0 where
  pub e : ℕ × Segment
  pub begins : e.0 ≡ p
  pub size : 0 < length e.1.bytes
  pub there : (q : ℕ) → p ≤ q → q < end_of e → cell_at es q ≡ Some (cell_in e q)
  pub stops : (may_go pieces upto e && nat_eq (how_of_segment e) how) ≡ false

abbrev Out : List Sent → ℕ → ℕ → Segments → ℕ → ℕ → ℕ → Type 0
Out pieces upto how es size room p = (size ≡ room) ⊎ (cell_at es p ≡ None) ⊎ Halts pieces upto how es p

inside : (e : ℕ × Segment) (q : ℕ) → e.0 ≤ q → q < end_of e → covers e.0 (length e.1.bytes) q ≡ true
inside e q low high = rw (le-leb e.0 q low, lt-ltb q (end_of e) high) refl

behind : (e : ℕ × Segment) (q : ℕ) → end_of e ≤ q → covers e.0 (length e.1.bytes) q ≡ false
behind e q past = rw (le-ltb q (end_of e) past) (off (nat_le e.0 q))
  where
    off : (b : Bool) → (b && false) ≡ false
    off true = refl
    off false = refl

-- what stands behind a segment
skip : (e : ℕ × Segment) (es : Segments) (q : ℕ) → end_of e ≤ q → cell_at (e ∷ es) q ≡ cell_at es q
skip e es q past = rw (behind e q past) refl

skip-halts : (pieces : List Sent) (upto how : ℕ) (e : ℕ × Segment) (es : Segments) (p : ℕ) → end_of e ≤ p → Halts pieces upto how es p → Halts pieces upto how (e ∷ es) p
skip-halts pieces upto how e es p past h =
    record { e = h.e; begins = h.begins; size = h.size; there = λ q low high. skip e es q (omega (arith, past, low)) ∙ h.there q low high; stops = h.stops }

skip-out : (pieces : List Sent) (upto how : ℕ) (e : ℕ × Segment) (es : Segments) (size room p : ℕ) → end_of e ≤ p → (cell_at es p ≡ None) ⊎ Halts pieces upto how es p
    → (cell_at (e ∷ es) p ≡ None) ⊎ Halts pieces upto how (e ∷ es) p
skip-out pieces upto how e es size room p past (inl none) = inl (skip e es p past ∙ none)
skip-out pieces upto how e es size room p past (inr h) = inr (skip-halts pieces upto how e es p past h)

-- where a segment doesn't go on
stopped : (pieces : List Sent) (upto how place room : ℕ) (e : ℕ × Segment) (es : Segments) → AreApart place (e ∷ es)
    → (may_go pieces upto e && nat_eq (how_of_segment e) how && nat_eq e.0 place && nat_lt 0 room) ≡ false → Out pieces upto how (e ∷ es) 0 room (place + 0)
stopped pieces upto how place room e es apart is = by (may_go pieces upto e && nat_eq (how_of_segment e) how) (nat_eq e.0 place) (nat_lt 0 room) refl refl refl
  where
    by : (a b c : Bool) → (may_go pieces upto e && nat_eq (how_of_segment e) how) ≡ a → nat_eq e.0 place ≡ b → nat_lt 0 room ≡ c → Out pieces upto how (e ∷ es) 0 room (place + 0)
    by a b false f g k = let none : room ≤ 0 = ltb-false 0 room k in inl (omega (arith, none))
    by a false c f g k = elim (cases_lt place e.0) [
      | inl less ↦ inr (inl (later-none e.0 (e ∷ es) (place + 0) (omega arith, apart.1, apart.2, apart.3) (omega (arith, less))))
      | inr most ↦ absurd (let same : e.0 ≡ place = omega (arith, most, apart.0) in let t : true ≡ false = sym (eq-eqb e.0 place same) ∙ g in cc)
    ]
    by false true c f g k =
        let here : e.0 ≡ place = eqb-true e.0 place g in
        inr (inr (record {
          e = e;
          begins = omega (arith, here);
          size = apart.1;
          there = λ q low high. rw (inside e q (omega (arith, here, low)) high) refl;
          stops = f;
        }))
    by true true true f g k = absurd (let t : true ≡ false = (rw (f, g, k) at is) in cc)

run-out : (pieces : List Sent) (upto how place room : ℕ) (es : Segments) → AreApart place es
    → Out pieces upto how es (length (bytes_in (run_from pieces upto how place room es))) room (place + length (bytes_in (run_from pieces upto how place room es)))
run-out pieces upto how place room [] apart = inr (inl refl)
run-out pieces upto how place room (e ∷ es) apart =
    by (may_go pieces upto e && nat_eq (how_of_segment e) how && nat_eq e.0 place && nat_lt 0 room) refl (run-out pieces upto how (end_of e) (room - length e.1.bytes) es apart.3)
  where
    rest : List ℕ
    rest = bytes_in (run_from pieces upto how (end_of e) (room - length e.1.bytes) es)

    by : (b : Bool) → (may_go pieces upto e && nat_eq (how_of_segment e) how && nat_eq e.0 place && nat_lt 0 room) ≡ b
        → Out pieces upto how es (length rest) (room - length e.1.bytes) (end_of e + length rest)
        → Out pieces upto how (e ∷ es) (length (bytes_in (run_from pieces upto how place room (e ∷ es)))) room (place + length (bytes_in (run_from pieces upto how place room (e ∷ es))))
    by false h more = rw h (stopped pieces upto how place room e es apart h)
    by true h more =
        let three = and_parts (may_go pieces upto e && nat_eq (how_of_segment e) how && nat_eq e.0 place) (nat_lt 0 room) h in
        let two = and_parts (may_go pieces upto e && nat_eq (how_of_segment e) how) (nat_eq e.0 place) three.0 in
        let here : e.0 ≡ place = eqb-true e.0 place two.1 in
        let sizes : length (take room e.1.bytes ++ rest) ≡ length (take room e.1.bytes) + length rest = length-append (take room e.1.bytes) rest in
        rw h (fits (cases_lt room (length e.1.bytes)) here sizes (length-take room e.1.bytes) more)
      where
        fits : (room < length e.1.bytes) ⊎ (length e.1.bytes ≤ room) → e.0 ≡ place → length (take room e.1.bytes ++ rest) ≡ length (take room e.1.bytes) + length rest
            → length (take room e.1.bytes) ≡ min room (length e.1.bytes)
            → Out pieces upto how es (length rest) (room - length e.1.bytes) (end_of e + length rest)
            → Out pieces upto how (e ∷ es) (length (take room e.1.bytes ++ rest)) room (place + length (take room e.1.bytes ++ rest))
        fits (inl less) here sizes taken out =
            let none : length rest ≡ 0 = ap (λ z. length (bytes_in z)) (run-zero pieces upto how (end_of e) (room - length e.1.bytes) es (omega (arith, less))) in
            inl (omega (arith, sizes, taken, none, less))
        fits (inr most) here sizes taken (inl full) = inl (omega (arith, sizes, taken, full, most))
        fits (inr most) here sizes taken (inr out) =
            let same : end_of e + length rest ≡ place + length (take room e.1.bytes ++ rest) = omega (arith, here, sizes, taken, most) in
            inr (subst (λ p. (cell_at (e ∷ es) p ≡ None) ⊎ Halts pieces upto how (e ∷ es) p) same
            (skip-out pieces upto how e es 0 0 (end_of e + length rest) (omega arith) out))

-- what is chosen
pub chosen-out : (pieces : List Sent) (upto wsize low : ℕ) (es : Segments) (first : ℕ × Segment) (run : Segments) → AreApart low es → chosen_from pieces upto wsize es ≡ first ∷ run
    → Out pieces upto (how_of_segment first) es (length (bytes_in (first ∷ run))) wsize (first.0 + length (bytes_in (first ∷ run)))
chosen-out pieces upto wsize low [] first run apart is = absurd cc
chosen-out pieces upto wsize low (e ∷ es) first run apart is = by (may_go pieces upto e) refl (λ k. chosen-out pieces upto wsize (end_of e) es first run apart.3 k)
  where
    past : Out pieces upto (how_of_segment first) es (length (bytes_in (first ∷ run))) wsize (first.0 + length (bytes_in (first ∷ run))) → end_of e ≤ first.0
        → Out pieces upto (how_of_segment first) (e ∷ es) (length (bytes_in (first ∷ run))) wsize (first.0 + length (bytes_in (first ∷ run)))
    past (inl full) low_ = inl full
    past (inr out) low_ =
        inr (skip-out pieces upto (how_of_segment first) e es 0 0 (first.0 + length (bytes_in (first ∷ run))) (omega (arith, low_)) out)

    begun : (b : Bool) → (may_go pieces upto e && nat_eq (how_of_segment e) (how_of_segment e) && nat_eq e.0 e.0 && nat_lt 0 wsize) ≡ b
        → run_from pieces upto (how_of_segment e) e.0 wsize (e ∷ es) ≡ first ∷ run → first ≡ (e.0, head_of wsize e.1)
    begun true h same =
        let k : (e.0, head_of wsize e.1) ∷ run_from pieces upto (how_of_segment e) (end_of e) (wsize - length e.1.bytes) es ≡ first ∷ run = (rw h at same) in cc
    begun false h same = let k : [] ≡ first ∷ run = (rw h at same) in absurd cc

    by : (b : Bool) → may_go pieces upto e ≡ b
        → (chosen_from pieces upto wsize es ≡ first ∷ run → Out pieces upto (how_of_segment first) es (length (bytes_in (first ∷ run))) wsize (first.0 + length (bytes_in (first ∷ run))))
        → Out pieces upto (how_of_segment first) (e ∷ es) (length (bytes_in (first ∷ run))) wsize (first.0 + length (bytes_in (first ∷ run)))
    by false h more =
        let k : chosen_from pieces upto wsize es ≡ first ∷ run = (rw h at is) in
        past (more k) ((chosen-is pieces upto wsize (end_of e) es first run apart.3 k).1)
    by true h more =
        let here : chosen_from pieces upto wsize (e ∷ es) ≡ run_from pieces upto (how_of_segment e) e.0 wsize (e ∷ es) = rw h refl in
        let k : run_from pieces upto (how_of_segment e) e.0 wsize (e ∷ es) ≡ first ∷ run = sym here ∙ is in
        let at_first : first ≡ (e.0, head_of wsize e.1) = begun _ refl k in
        let out = run-out pieces upto (how_of_segment e) e.0 wsize (e ∷ es) (omega arith, apart.1, apart.2, apart.3) in
        let there : Out pieces upto (how_of_segment e) (e ∷ es) (length (bytes_in (first ∷ run))) wsize (e.0 + length (bytes_in (first ∷ run))) =
        subst (λ (z : Segments). Out pieces upto (how_of_segment e) (e ∷ es) (length (bytes_in z)) wsize (e.0 + length (bytes_in z))) k out in
        subst (λ (z : ℕ). Out pieces upto z (e ∷ es) (length (bytes_in (first ∷ run))) wsize (first.0 + length (bytes_in (first ∷ run)))) (sym (ap how_of_segment at_first))
        (subst (λ (z : ℕ). Out pieces upto (how_of_segment e) (e ∷ es) (length (bytes_in (first ∷ run))) wsize (z + length (bytes_in (first ∷ run)))) (sym (ap (λ (z : ℕ × Segment). z.0) at_first)) there)

-- ---- by place

rest-some : (cell : Cell) (c : Option Cell) → c ≡ Some cell → is_in_flight cell.state ≡ false → rest_of c ≡ Some cell
rest-some cell c is idle = ap rest_of is ∙ if-false (is_in_flight cell.state) None (Some cell) idle

rest-flies : (cell : Cell) (c : Option Cell) → c ≡ Some cell → is_in_flight cell.state ≡ true → rest_of c ≡ None
rest-flies cell c is flies = ap rest_of is ∙ if-true (is_in_flight cell.state) None (Some cell) flies

ready-idle : (s : State) → is_ready s ≡ true → is_in_flight s ≡ false
ready-idle (Waiting ready) is = refl
ready-idle (InFlight ready) is = absurd cc
ready-idle (Acked verf) is = absurd cc

un : (b : Bool) → not b ≡ false → b ≡ true
un true h = refl
un false h = absurd cc

module _ (piece : Sent) (upto : ℕ) (old new : FilePending) (sound : IsSound old) (puts : PutsInFlight piece upto old new) where
  abbrev low : ℕ
  low = piece.offset

  abbrev next : ℕ
  next = piece.offset + length piece.bytes

  outside : (q : ℕ) → next ≤ q → covers piece.offset (length piece.bytes) q ≡ false
  outside q past = rw (le-ltb q next past) (off (nat_le piece.offset q))
    where
      off : (b : Bool) → (b && false) ≡ false
      off true = refl
      off false = refl

  rest-past : (q : ℕ) → next ≤ q → rest_at new q ≡ rest_at old q
  rest-past q past = puts.rest q ∙ if-false (covers piece.offset (length piece.bytes) q) None (rest_at old q) (outside q past)

  fly-past : (q : ℕ) → next ≤ q → fly_at new q ≡ fly_at old q
  fly-past q past = puts.fly q ∙ if-false (covers piece.offset (length piece.bytes) q) (flown_in piece q) (fly_at old q) (outside q past)

  older : (q : ℕ) (flown : Flown) → low ≤ q → q < next → fly_at new q ≡ Some flown → flown.number ≤ upto
  older q flown least most is =
      let here : covers piece.offset (length piece.bytes) q ≡ true = rw (le-leb piece.offset q least, lt-ltb q next most) refl in
      puts.old_enough q flown (sym (if-true (covers piece.offset (length piece.bytes) q) (flown_in piece q) (fly_at old q) here) ∙ sym (puts.fly q) ∙ is)

  halted : (how : ℕ) → Halts old.pieces upto how old.segments next → Stops new low next how
  halted how h = by (is_ready h.e.1.state) (nat_le h.e.1.number upto) (overlaps old.pieces h.e.0 (end_of h.e)) (nat_eq (how_of_segment h.e) how) refl refl refl refl
    where
      cell : Cell
      cell = cell_in h.e next

      there : cell_at old.segments next ≡ Some cell
      there = h.there next (omega arith) (let b = h.begins in let s = h.size in omega (arith, b, s))

      rests : is_in_flight h.e.1.state ≡ false → rest_at new next ≡ Some cell
      rests idle = rest-past next (omega arith) ∙ rest-some cell (cell_at old.segments next) there idle

      not-ready : (b : Bool) → is_in_flight h.e.1.state ≡ b → is_ready h.e.1.state ≡ false → Stops new low next how
      not-ready true flies idle = long.none (rest-past next (omega arith) ∙ rest-flies cell (cell_at old.segments next) there flies)
      not-ready false rest idle = long.acked cell (rests rest) idle

      free : is_in_flight h.e.1.state ≡ false → ((place : ℕ) (other : Cell) → next ≤ place → rest_at new place ≡ Some other → other.number ≡ cell.number → fly_at new place ≡ None)
          → (place : ℕ) → h.e.0 ≤ place → place < end_of h.e → fly_in old.pieces place ≡ None
      free idle all place least most =
          let past : next ≤ place = (let b = h.begins in omega (arith, b, least)) in
          sym (fly-past place past)
          ∙ all place (cell_in h.e place) past (rest-past place past ∙ rest-some (cell_in h.e place) (cell_at old.segments place) (h.there place past most) idle) refl

      by : (a b c d : Bool) → is_ready h.e.1.state ≡ a → nat_le h.e.1.number upto ≡ b → overlaps old.pieces h.e.0 (end_of h.e) ≡ c → nat_eq (how_of_segment h.e) how ≡ d → Stops new low next how
      by false b c d f g k l = not-ready (is_in_flight h.e.1.state) refl f
      by true false c d f g k l =
          long.later cell (rests (ready-idle h.e.1.state f))
          (λ q flown least most is. let o = older q flown least most is in let n : upto < h.e.1.number = later (cases_lt upto h.e.1.number) g in omega (arith, o, n))
        where
          later : (upto < h.e.1.number) ⊎ (h.e.1.number ≤ upto) → nat_le h.e.1.number upto ≡ false → upto < h.e.1.number
          later (inl less) is = less
          later (inr most) is = absurd (let t : true ≡ false = sym (le-leb h.e.1.number upto most) ∙ is in cc)
      by true true true d f g k l =
          long.held cell (rests (ready-idle h.e.1.state f))
          (λ all. let t : true ≡ false = sym k ∙ overlaps-free old.pieces h.e.0 (end_of h.e) sound.sent (let s = h.size in omega (arith, s)) (free (ready-idle h.e.1.state f) all) in cc)
      by true true false false f g k l =
          long.otherwise cell (rests (ready-idle h.e.1.state f))
          (λ same. let t : true ≡ false = sym (eq-eqb (how_of_segment h.e) how same) ∙ l in cc)
      by true true false true f g k l = absurd (let s = h.stops in let t : true ≡ false = (rw (f, g, k, l) at s) in cc)

  pub out-stops : (how wsize size : ℕ) → Out old.pieces upto how old.segments size wsize next → (size ≡ wsize) ⊎ Stops new low next how
  out-stops how wsize size (inl full) = inl full
  out-stops how wsize size (inr (inl none)) = inr (long.none (rest-past next (omega arith) ∙ ap rest_of none))
  out-stops how wsize size (inr (inr h)) = inr (halted how h)

-- The piece has as many bytes as a WRITE may have, or they don't go on where it ends.
pub piece-long : (xid upto wsize : ℕ) (old new : FilePending) (e : ℕ × Segment) (es : Segments) → IsSound old → chosen upto wsize old ≡ e ∷ es
    → PutsInFlight (piece_of xid e (e ∷ es)) upto old new
    → (length (bytes_in (e ∷ es)) ≡ wsize) ⊎ Stops new e.0 (e.0 + length (bytes_in (e ∷ es))) (how_of_segment e)
piece-long xid upto wsize old new e es sound is puts =
    out-stops (piece_of xid e (e ∷ es)) upto old new sound puts (how_of_segment e) wsize (length (bytes_in (e ∷ es)))
    (chosen-out old.pieces upto wsize 0 old.segments e es sound.apart is)
