-- Two places next to each other, of which the second was never sent as long as it waits: a piece that ends between them is as long as a WRITE may be.
use Rattle.core_counts.proofs.Prelude.{◌≡◌, ◌<◌, ◌≤◌, ◌⊎◌, inl, inr, ◌+◌, ◌-◌, ℕ, Bool, true, false, List, [], ◌∷◌, ◌++◌, length, Option, Some, None, refl, sym, ap, subst, ◌∙◌, arith, nat_lt, if◌then◌else◌, le-leb, lt-ltb, eq-eqb, Change, Ready, InFlight, fate, chosen, piece_of, FilePending, Flown, flown_in, fly_in, rest_of, rest_at, fly_at, piece_under, PutsInFlight, Lands, cell_landed, newer_or, Segment, Segments, Cell, covers, cell_in, cell_at, IsSound, is_ready, is_in_flight, how_of, ready_of, flown_as_of, high-of, if-true, if-false}
use Rattle.std.specs.Prelude.{nat_eq}
use Rattle.write_back.specs.declared.state.State.TheVariants.{Waiting}
use Rattle.write_back.specs.Choice.{how_of_segment, bytes_in, with_sent}
use Rattle.write_back.specs.Pieces.{Sent, without, renumbered, overlaps}
use Rattle.write_back.specs.Segments.{end_of}
use Rattle.write_back.specs.Sound.{IsWhole}
use Rattle.write_back.specs.Waits.{Renumbers}
use Rattle.std.specs.Option.{option_map}
use Rattle.write_back.specs.declared.change.Change.TheVariants as by_change
use Rattle.write_back.specs.declared.state.State.{State}
use Rattle.write_back.proofs.Flying.{overlaps-free, flown-some}
use Rattle.write_back.proofs.NextPiece.{fits-call}
use Rattle.write_back.proofs.Sending.{next-is, puts-sent}
use Rattle.step_pending.proofs.Shown.{some-of, flown-from}
use Rattle.core_counts.proofs.coarse.Long.{Halts, chosen-out}

-- ---- lists of pieces

abbrev pub Each : (Sent → Type 0) → List Sent → Type 0
Each G [] = Unit {0}
Each G (q ∷ qs) = G q × Each G qs

pub each-append : (G : Sent → Type 0) (qs : List Sent) (q : Sent) → Each G qs → G q → Each G (qs ++ q ∷ [])
each-append G [] q each own = (own, tt)
each-append G (p ∷ qs) q each own = (each.0, each-append G qs q each.1 own)

pub each-map : (G K : Sent → Type 0) (qs : List Sent) → ((q : Sent) → G q → K q) → Each G qs → Each K qs
each-map G K [] conv each = tt
each-map G K (q ∷ qs) conv each = (conv q each.0, each-map G K qs conv each.1)

pub each-both : (G K : Sent → Type 0) (qs : List Sent) → Each G qs → Each K qs → Each (λ q. G q × K q) qs
each-both G K [] each other = tt
each-both G K (q ∷ qs) each other = ((each.0, other.0), each-both G K qs each.1 other.1)

pub each-without : (G : Sent → Type 0) (xid : ℕ) (qs : List Sent) → Each G qs → Each G (without xid qs)
each-without G xid [] each = tt
each-without G xid (q ∷ qs) each = by (nat_eq q.xid xid) (each-without G xid qs each.1)
  where
    by : (b : Bool) → Each G (without xid qs) → Each G (if b then qs else q ∷ without xid qs)
    by true rest = each.1
    by false rest = (each.0, rest)

pub each-under : (G : Sent → Type 0) (xid : ℕ) (qs : List Sent) (piece : Sent) → Each G qs → piece_under xid qs ≡ Some piece → G piece
each-under G xid [] piece each found = absurd (let no_way : None ≡ Some piece = found in cc)
each-under G xid (q ∷ qs) piece each found = by (nat_eq q.xid xid) found (each-under G xid qs piece each.1)
  where
    by : (b : Bool) → (if b then Some q else piece_under xid qs) ≡ Some piece → (piece_under xid qs ≡ Some piece → G piece) → G piece
    by true is more = subst G (let same : q ≡ piece = cc in same) each.0
    by false is more = more is

abbrev with_xid_of : ℕ → Sent → Sent
with_xid_of to q = record { xid = to; offset = q.offset; how = q.how; bytes = q.bytes; parts = q.parts }

pub each-renumbered : (G : Sent → Type 0) (xid to : ℕ) (qs : List Sent) → ((q : Sent) → G q → G (with_xid_of to q)) → Each G qs → Each G (renumbered xid to qs)
each-renumbered G xid to [] conv each = tt
each-renumbered G xid to (q ∷ qs) conv each = by (nat_eq q.xid xid) (each-renumbered G xid to qs conv each.1)
  where
    by : (b : Bool) → Each G (renumbered xid to qs) → Each G (if b then with_xid_of to q ∷ qs else q ∷ renumbered xid to qs)
    by true rest = (conv q each.0, each.1)
    by false rest = (each.0, rest)

-- what is in flight at a place is of one of them
each-fly : (to place : ℕ) (qs : List Sent) (flown : Flown) → Each (λ q. q.xid < to) qs → fly_in qs place ≡ Some flown → flown.xid < to
each-fly to place [] flown each is = absurd (let no_way : None ≡ Some flown = is in cc)
each-fly to place (q ∷ qs) flown each is = by (covers q.offset (length q.bytes) place) is (each-fly to place qs flown each.1)
  where
    by : (b : Bool) → (if b then flown_in q place else fly_in qs place) ≡ Some flown → (fly_in qs place ≡ Some flown → flown.xid < to) → flown.xid < to
    by true at more = let own = (flown-from q place flown at).xid in let low = each.0 in omega (arith, own, low)
    by false at more = more at

-- ---- the two places

-- changes that make nothing to be sent as stable
abbrev pub Mild : Change → Type 0
Mild change = (number : ℕ) (ready : Ready) (left : State) → how_of ready ≡ 0 → fate change number (InFlight ready) ≡ Some left → how_of (ready_of left) ≡ 0

pub mild-return : Mild by_change.Return
mild-return number ready left plain is = let same : Waiting ready ≡ left = (let k : Some (Waiting ready) ≡ Some left = is in cc) in subst (λ (s : State). how_of (ready_of s) ≡ 0) same plain

pub mild-store : Mild by_change.Store
mild-store number ready left plain is = absurd (let no_way : None ≡ Some left = is in cc)

one-cell : (a b : Cell) → Some a ≡ Some b → a ≡ b
one-cell a b e = cc

one-flown : (a b : Flown) → Some a ≡ Some b → a ≡ b
one-flown a b e = cc

-- the second place is `next`, the first is the one before it
module _ (before next wsize : ℕ) where
  abbrev pub EndsLong : Sent → Type 0
  EndsLong q = q.offset + length q.bytes ≡ next → length q.bytes ≡ wsize

  abbrev pub EndsAfter : ℕ → Sent → Type 0
  EndsAfter xid q = q.offset + length q.bytes ≡ next → (length q.bytes ≡ wsize) ⊎ (xid < q.xid)

  -- it waits, and no shorter piece ends before it; or it is in flight, and shorter ones that end before it came later
  pub data Second (upto : ℕ) (of : FilePending) : Type 0 where
    waits : (cell : Cell) → rest_at of next ≡ Some cell → is_ready cell.state ≡ true → how_of (ready_of cell.state) ≡ 0 → cell.number ≤ upto → Each EndsLong of.pieces → Second upto of
    flies : (flown : Flown) → fly_at of next ≡ Some flown → rest_at of next ≡ None → how_of flown.before ≡ 0 → flown.number ≤ upto → Each (EndsAfter flown.xid) of.pieces → Second upto of

  -- and neither is to be sent as stable; nothing rests where something is in flight
  pub record Open (upto : ℕ) (of : FilePending) : Type 0 where
    pub second : Second upto of
    pub rest : (cell : Cell) → rest_at of before ≡ Some cell → how_of (ready_of cell.state) ≡ 0
    pub fly : (flown : Flown) → fly_at of before ≡ Some flown → how_of flown.before ≡ 0
    pub apart : (place : ℕ) (flown : Flown) → fly_at of place ≡ Some flown → rest_at of place ≡ None

  -- ---- a piece takes off

  module _ (is_next : next ≡ before + 1) (to upto : ℕ) (first : ℕ × Segment) (run : Segments) (old : FilePending) (sound : IsSound old) (is : chosen upto wsize old ≡ first ∷ run)
      (early : Each (λ q. q.xid < to) old.pieces) where
    abbrev piece : Sent
    piece = piece_of to first (first ∷ run)

    abbrev new : FilePending
    new = with_sent piece old

    whole : IsWhole piece
    whole = (next-is to upto wsize old first run sound.apart is).whole

    puts : PutsInFlight piece upto old new
    puts = puts-sent piece upto old sound (next-is to upto wsize old first run sound.apart is)

    some : 0 < length piece.bytes
    some = whole.some

    took : (place : ℕ) → covers piece.offset (length piece.bytes) place ≡ true → (flown : Flown) × (flown_in piece place ≡ Some flown)
    took place h = some-of (flown_in piece place) (flown-some piece place whole h)

    fly-on : (place : ℕ) → covers piece.offset (length piece.bytes) place ≡ true → fly_at new place ≡ flown_in piece place
    fly-on place h = puts.fly place ∙ if-true (covers piece.offset (length piece.bytes) place) (flown_in piece place) (fly_at old place) h

    fly-off : (place : ℕ) → covers piece.offset (length piece.bytes) place ≡ false → fly_at new place ≡ fly_at old place
    fly-off place h = puts.fly place ∙ if-false (covers piece.offset (length piece.bytes) place) (flown_in piece place) (fly_at old place) h

    rest-on : (place : ℕ) → covers piece.offset (length piece.bytes) place ≡ true → rest_at new place ≡ None
    rest-on place h = puts.rest place ∙ if-true (covers piece.offset (length piece.bytes) place) None (rest_at old place) h

    rest-off : (place : ℕ) → covers piece.offset (length piece.bytes) place ≡ false → rest_at new place ≡ rest_at old place
    rest-off place h = puts.rest place ∙ if-false (covers piece.offset (length piece.bytes) place) None (rest_at old place) h

    -- what the place before was, where the piece has it
    module _ (open_ : Open upto old) where
      was-plain : (flown : Flown) → covers piece.offset (length piece.bytes) before ≡ true → flown_in piece before ≡ Some flown → how_of flown.before ≡ 0
      was-plain flown h at = open_.rest (record { byte = flown.byte; number = flown.number; state = Waiting flown.before }) (puts.was before flown h at)

      -- it ends between the places: then it is sent as what waits behind it, and is long
      long : (cell : Cell) → rest_at old next ≡ Some cell → is_ready cell.state ≡ true → how_of (ready_of cell.state) ≡ 0 → cell.number ≤ upto → EndsLong piece
      long cell at ready plain low ends = by (chosen-out old.pieces upto wsize 0 old.segments first run sound.apart is)
        where
          inside : covers piece.offset (length piece.bytes) before ≡ true
          inside = rw (le-leb piece.offset before (omega (arith, ends, is_next, some)), lt-ltb before (piece.offset + length piece.bytes) (omega (arith, ends, is_next))) refl

          how-is : how_of_segment first ≡ 0
          how-is =
              let t = took before inside in
              sym ((fits-call to upto wsize old first run sound is).how before t.0 t.1) ∙ was-plain t.0 inside t.1

          there : (c : Option Cell) → cell_at old.segments next ≡ c → rest_of c ≡ Some cell
          there c same = ap rest_of (sym same) ∙ at

          none-way : cell_at old.segments next ≡ None → length piece.bytes ≡ wsize
          none-way none = absurd (let no_way : None ≡ Some cell = there None none in cc)

          rests : (k : Cell) (c : Option Cell) → c ≡ Some k → rest_of c ≡ Some cell → (k ≡ cell) × (is_in_flight k.state ≡ false)
          rests k c same found = look (is_in_flight k.state) refl
            where
              found_ : (if is_in_flight k.state then None else Some k) ≡ Some cell
              found_ = sym (ap rest_of same) ∙ found

              look : (b : Bool) → is_in_flight k.state ≡ b → (k ≡ cell) × (is_in_flight k.state ≡ false)
              look true h = absurd (let no_way : None ≡ Some cell = sym (if-true (is_in_flight k.state) None (Some k) h) ∙ found_ in cc)
              look false h = (one-cell k cell (sym (if-false (is_in_flight k.state) None (Some k) h) ∙ found_), h)

          halts : Halts old.pieces upto (how_of_segment first) old.segments next → length piece.bytes ≡ wsize
          halts h =
              let own = rests (cell_in h.e next) (cell_at old.segments next) (h.there next (omega arith) (let b = h.begins in let s = h.size in omega (arith, b, s))) at in
              let ready_is : is_ready h.e.1.state ≡ true = ap (λ (c : Cell). is_ready c.state) own.0 ∙ ready in
              let low_is : h.e.1.number ≤ upto = subst (λ (c : Cell). c.number ≤ upto) (sym own.0) low in
              let plain_is : how_of_segment h.e ≡ how_of_segment first = ap (λ (c : Cell). how_of (ready_of c.state)) own.0 ∙ plain ∙ sym how-is in
              let free : (place : ℕ) → h.e.0 ≤ place → place < end_of h.e → fly_in old.pieces place ≡ None = free-at own.1 in
              let apart : overlaps old.pieces h.e.0 (end_of h.e) ≡ false = overlaps-free old.pieces h.e.0 (end_of h.e) sound.sent (let s = h.size in omega (arith, s)) free in
              let stops = h.stops in
              absurd (let no_way : true ≡ false = (rw (ready_is, le-leb h.e.1.number upto low_is, apart, eq-eqb (how_of_segment h.e) (how_of_segment first) plain_is) at stops) in cc)
            where
              free-at : is_in_flight h.e.1.state ≡ false → (place : ℕ) → h.e.0 ≤ place → place < end_of h.e → fly_in old.pieces place ≡ None
              free-at idle place least most = look (fly_in old.pieces place) refl
                where
                  rested : rest_at old place ≡ Some (cell_in h.e place)
                  rested = ap rest_of (h.there place (let b = h.begins in omega (arith, b, least)) most) ∙ if-false (is_in_flight h.e.1.state) None (Some (cell_in h.e place)) idle

                  look : (o : Option Flown) → fly_in old.pieces place ≡ o → fly_in old.pieces place ≡ None
                  look None same = same
                  look (Some flown) same = absurd (let no_way : None ≡ Some (cell_in h.e place) = sym (open_.apart place flown same) ∙ rested in cc)

          by : (length (bytes_in (first ∷ run)) ≡ wsize) ⊎ (cell_at old.segments (first.0 + length (bytes_in (first ∷ run))) ≡ None)
              ⊎ Halts old.pieces upto (how_of_segment first) old.segments (first.0 + length (bytes_in (first ∷ run))) → length piece.bytes ≡ wsize
          by (inl full) = full
          by (inr (inl none)) = none-way (subst (λ (n : ℕ). cell_at old.segments n ≡ None) ends none)
          by (inr (inr h)) = halts (subst (λ (n : ℕ). Halts old.pieces upto (how_of_segment first) old.segments n) ends h)

      second-sent : (b : Bool) → covers piece.offset (length piece.bytes) next ≡ b → Second upto old → Second upto new
      second-sent true h (waits cell at ready plain low each) =
          let t = took next h in
          let same : record { byte = t.0.byte; number = t.0.number; state = Waiting t.0.before } ≡ cell =
          one-cell (record { byte = t.0.byte; number = t.0.number; state = Waiting t.0.before }) cell (sym (puts.was next t.0 h t.1) ∙ at) in
          flies t.0 (fly-on next h ∙ t.1) (rest-on next h) (subst (λ (c : Cell). how_of (ready_of c.state) ≡ 0) (sym same) plain) (subst (λ (c : Cell). c.number ≤ upto) (sym same) low)
          (each-append (EndsAfter t.0.xid) old.pieces piece (each-map EndsLong (EndsAfter t.0.xid) old.pieces (λ q own ends. inl (own ends)) each)
          (λ ends. let past = high-of piece.offset (piece.offset + length piece.bytes) next h in absurd (omega (arith, past, ends))))
      second-sent true h (flies flown at none plain low each) = absurd (let no_way : None ≡ Some flown = sym (puts.free next h) ∙ at in cc)
      second-sent false h (waits cell at ready plain low each) =
          waits cell (rest-off next h ∙ at) ready plain low (each-append EndsLong old.pieces piece each (long cell at ready plain low))
      second-sent false h (flies flown at none plain low each) =
          flies flown (fly-off next h ∙ at) (rest-off next h ∙ none) plain low
          (each-append (EndsAfter flown.xid) old.pieces piece each (λ ends. inr (each-fly to next old.pieces flown early at)))

      pub open-sent : Open upto new
      open-sent = record {
        second = second-sent (covers piece.offset (length piece.bytes) next) refl open_.second;
        rest = λ cell at. rest_ cell at (covers piece.offset (length piece.bytes) before) refl;
        fly = λ flown at. fly_ flown at (covers piece.offset (length piece.bytes) before) refl;
        apart = λ place flown at. apart_ place flown at (covers piece.offset (length piece.bytes) place) refl;
      }
        where
          rest_ : (cell : Cell) → rest_at new before ≡ Some cell → (b : Bool) → covers piece.offset (length piece.bytes) before ≡ b → how_of (ready_of cell.state) ≡ 0
          rest_ cell at true h = absurd (let no_way : None ≡ Some cell = sym (rest-on before h) ∙ at in cc)
          rest_ cell at false h = open_.rest cell (sym (rest-off before h) ∙ at)

          fly_ : (flown : Flown) → fly_at new before ≡ Some flown → (b : Bool) → covers piece.offset (length piece.bytes) before ≡ b → how_of flown.before ≡ 0
          fly_ flown at true h = was-plain flown h (sym (fly-on before h) ∙ at)
          fly_ flown at false h = open_.fly flown (sym (fly-off before h) ∙ at)

          apart_ : (place : ℕ) (flown : Flown) → fly_at new place ≡ Some flown → (b : Bool) → covers piece.offset (length piece.bytes) place ≡ b → rest_at new place ≡ None
          apart_ place flown at true h = rest-on place h
          apart_ place flown at false h = rest-off place h ∙ open_.apart place flown (sym (fly-off place h) ∙ at)

  -- ---- a piece lands

  module _ (upto : ℕ) (piece : Sent) (count : ℕ) (first others : Change) (of new : FilePending) (lands : Lands piece count first others of new) (left : new.pieces ≡ without piece.xid of.pieces)
      (mild : Mild first) (rest_mild : Mild others) (open_ : Open upto of) where
    abbrev change_at : ℕ → Change
    change_at place = if nat_lt (place - piece.offset) count then first else others

    mild-at : (place : ℕ) → Mild (change_at place)
    mild-at place = by (nat_lt (place - piece.offset) count)
      where
        by : (b : Bool) → Mild (if b then first else others)
        by true = mild
        by false = rest_mild

    came-down : (place : ℕ) → covers piece.offset (length piece.bytes) place ≡ true → rest_at new place ≡ newer_or (rest_at of place) (cell_landed (change_at place) (fly_at of place))
    came-down place h = lands.rest place ∙ if-true (covers piece.offset (length piece.bytes) place) (newer_or (rest_at of place) (cell_landed (change_at place) (fly_at of place))) (rest_at of place) h

    stayed : (place : ℕ) → covers piece.offset (length piece.bytes) place ≡ false → rest_at new place ≡ rest_at of place
    stayed place h = lands.rest place ∙ if-false (covers piece.offset (length piece.bytes) place) (newer_or (rest_at of place) (cell_landed (change_at place) (fly_at of place))) (rest_at of place) h

    flew-off : (place : ℕ) → covers piece.offset (length piece.bytes) place ≡ true → fly_at new place ≡ None
    flew-off place h = lands.fly place ∙ if-true (covers piece.offset (length piece.bytes) place) None (fly_at of place) h

    flies-on : (place : ℕ) → covers piece.offset (length piece.bytes) place ≡ false → fly_at new place ≡ fly_at of place
    flies-on place h = lands.fly place ∙ if-false (covers piece.offset (length piece.bytes) place) None (fly_at of place) h

    -- what rested stays
    pub rests-on : (place : ℕ) (cell : Cell) → rest_at of place ≡ Some cell → rest_at new place ≡ Some cell
    rests-on place cell at = by (covers piece.offset (length piece.bytes) place) refl
      where
        by : (b : Bool) → covers piece.offset (length piece.bytes) place ≡ b → rest_at new place ≡ Some cell
        by true h = came-down place h ∙ ap (λ (o : Option Cell). newer_or o (cell_landed (change_at place) (fly_at of place))) at
        by false h = stayed place h ∙ at

    fallen : (change : Change) → Mild change → (o : Option Flown) → ((flown : Flown) → o ≡ Some flown → how_of flown.before ≡ 0) → (cell : Cell) → cell_landed change o ≡ Some cell → how_of (ready_of cell.state) ≡ 0
    fallen change soft None plain cell is = absurd (let no_way : None ≡ Some cell = is in cc)
    fallen change soft (Some flown) plain cell is = by (fate change flown.number (InFlight flown.before)) refl
      where
        by : (o : Option State) → fate change flown.number (InFlight flown.before) ≡ o → how_of (ready_of cell.state) ≡ 0
        by None none = absurd (let no_way : None ≡ Some cell = (rw none at is) in cc)
        by (Some state) some =
            let k : Some (record { byte = flown.byte; number = flown.number; state = state }) ≡ Some cell = (rw some at is) in
            subst (λ (c : Cell). how_of (ready_of c.state) ≡ 0) (one-cell (record { byte = flown.byte; number = flown.number; state = state }) cell k)
            (soft flown.number flown.before state (plain flown refl) some)

    rest-landed : (cell : Cell) → rest_at new before ≡ Some cell → how_of (ready_of cell.state) ≡ 0
    rest-landed cell at = by (covers piece.offset (length piece.bytes) before) refl (rest_at of before) refl
      where
        by : (b : Bool) → covers piece.offset (length piece.bytes) before ≡ b → (o : Option Cell) → rest_at of before ≡ o → how_of (ready_of cell.state) ≡ 0
        by false h o same = open_.rest cell (sym (stayed before h) ∙ at)
        by true h (Some c) same = open_.rest cell (same ∙ sym (rests-on before c same) ∙ at)
        by true h None same =
            fallen (change_at before) (mild-at before) (fly_at of before) (λ flown is. open_.fly flown is) cell
            (sym (came-down before h ∙ ap (λ (o : Option Cell). newer_or o (cell_landed (change_at before) (fly_at of before))) same) ∙ at)

    fly-landed : (flown : Flown) → fly_at new before ≡ Some flown → how_of flown.before ≡ 0
    fly-landed flown at = by (covers piece.offset (length piece.bytes) before) refl
      where
        by : (b : Bool) → covers piece.offset (length piece.bytes) before ≡ b → how_of flown.before ≡ 0
        by true h = absurd (let no_way : None ≡ Some flown = sym (flew-off before h) ∙ at in cc)
        by false h = open_.fly flown (sym (flies-on before h) ∙ at)

    apart-landed : (place : ℕ) (flown : Flown) → fly_at new place ≡ Some flown → rest_at new place ≡ None
    apart-landed place flown at = by (covers piece.offset (length piece.bytes) place) refl
      where
        by : (b : Bool) → covers piece.offset (length piece.bytes) place ≡ b → rest_at new place ≡ None
        by true h = absurd (let no_way : None ≡ Some flown = sym (flew-off place h) ∙ at in cc)
        by false h = stayed place h ∙ open_.apart place flown (sym (flies-on place h) ∙ at)

    opened : Second upto new → Open upto new
    opened second = record { second = second; rest = rest-landed; fly = fly-landed; apart = apart-landed }

    -- where the second one waits, or is back
    pub open-landed : (cell : Cell) → rest_at of next ≡ Some cell → is_ready cell.state ≡ true → how_of (ready_of cell.state) ≡ 0 → cell.number ≤ upto → Each EndsLong of.pieces → Open upto new
    open-landed cell at ready plain low each = opened (waits cell (rests-on next cell at) ready plain low (subst (Each EndsLong) (sym left) (each-without EndsLong piece.xid of.pieces each)))

    -- where all of the last piece goes back
    pub open-returned : first ≡ by_change.Return → others ≡ by_change.Return → flown_in piece next ≡ fly_at of next ⊎ covers piece.offset (length piece.bytes) next ≡ false → Each (λ q. q.xid ≤ piece.xid) of.pieces → Open upto new
    open-returned is also own last = by open_.second
      where
        back : change_at next ≡ by_change.Return
        back = which (nat_lt (next - piece.offset) count)
          where
            which : (b : Bool) → (if b then first else others) ≡ by_change.Return
            which true = is
            which false = also

        by : Second upto of → Open upto new
        by (waits cell at ready plain low each) = open-landed cell at ready plain low each
        by (flies flown at none plain low each) = look (covers piece.offset (length piece.bytes) next) refl own
          where
            look : (b : Bool) → covers piece.offset (length piece.bytes) next ≡ b → flown_in piece next ≡ fly_at of next ⊎ covers piece.offset (length piece.bytes) next ≡ false → Open upto new
            look false h k =
                opened (flies flown (flies-on next h ∙ at) (stayed next h ∙ none) plain low
                (subst (Each (EndsAfter flown.xid)) (sym left) (each-without (EndsAfter flown.xid) piece.xid of.pieces each)))
            look true h (inr off) = absurd (let no_way : true ≡ false = sym h ∙ off in cc)
            look true h (inl same) =
                let xid_is : flown.xid ≡ piece.xid = (flown-from piece next flown (same ∙ at)).xid in
                opened (waits (record { byte = flown.byte; number = flown.number; state = Waiting flown.before })
                (came-down next h ∙ ap (λ (o : Option Cell). newer_or o (cell_landed (change_at next) (fly_at of next))) none
                ∙ ap (λ (o : Option Flown). cell_landed (change_at next) o) at ∙ ap (λ (c : Change). cell_landed c (Some flown)) back) refl plain low
                (subst (Each EndsLong) (sym left)
                (each-without EndsLong piece.xid of.pieces
                (each-map (λ q. EndsAfter flown.xid q × (q.xid ≤ piece.xid)) EndsLong of.pieces (λ q k ends. long-then q (k.0 ends) k.1 xid_is) (each-both (EndsAfter flown.xid) (λ q. q.xid ≤ piece.xid) of.pieces each last)))))
              where
                long-then : (q : Sent) → (length q.bytes ≡ wsize) ⊎ (flown.xid < q.xid) → q.xid ≤ piece.xid → flown.xid ≡ piece.xid → length q.bytes ≡ wsize
                long-then q (inl full) most same_xid = full
                long-then q (inr late) most same_xid = absurd (omega (arith, late, most, same_xid))

  -- ---- a piece gets another xid

  pub open-renamed : (upto xid to : ℕ) (of new : FilePending) → Renumbers xid to of new → new.pieces ≡ renumbered xid to of.pieces → Open upto of → (cell : Cell) → rest_at of next ≡ Some cell
      → is_ready cell.state ≡ true → how_of (ready_of cell.state) ≡ 0 → cell.number ≤ upto → Each EndsLong of.pieces → Open upto new
  open-renamed upto xid to of new n left open_ cell at ready plain low each = record {
    second = waits cell (n.rest next ∙ at) ready plain low (subst (Each EndsLong) (sym left) (each-renumbered EndsLong xid to of.pieces (λ q own. own) each));
    rest = λ c is. open_.rest c (sym (n.rest before) ∙ is);
    fly = λ flown is. was (fly_at of before) refl flown (sym (n.fly before) ∙ is);
    apart = λ place flown is. n.rest place ∙ rested place (fly_at of place) refl flown (sym (n.fly place) ∙ is);
  }
    where
      same-before : (flown : Flown) → (flown_as_of xid to flown).before ≡ flown.before
      same-before flown = by (nat_eq flown.xid xid)
        where
          by : (b : Bool) → (if b then record { byte = flown.byte; number = flown.number; xid = to; before = flown.before } else flown).before ≡ flown.before
          by true = refl
          by false = refl

      was : (o : Option Flown) → fly_at of before ≡ o → (flown : Flown) → option_map (flown_as_of xid to) o ≡ Some flown → how_of flown.before ≡ 0
      was None none flown is = absurd (let no_way : None ≡ Some flown = is in cc)
      was (Some f) some flown is =
          let same : flown_as_of xid to f ≡ flown = one-flown (flown_as_of xid to f) flown is in
          subst (λ (k : Flown). how_of k.before ≡ 0) same (ap how_of (same-before f) ∙ open_.fly f some)

      rested : (place : ℕ) (o : Option Flown) → fly_at of place ≡ o → (flown : Flown) → option_map (flown_as_of xid to) o ≡ Some flown → rest_at of place ≡ None
      rested place None none flown is = absurd (let no_way : None ≡ Some flown = is in cc)
      rested place (Some f) some flown is = open_.apart place f some
