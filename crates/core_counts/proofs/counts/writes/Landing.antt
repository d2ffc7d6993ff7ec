-- What becomes of how often a place may still be sent, where a piece takes off or lands, and where a COMMIT is answered.
use Rattle.core_counts.proofs.Prelude.{◌≡◌, ◌≢◌, ◌≤◌, ◌+◌, ◌-◌, ◌&&◌, ◌⊎◌, inl, inr, ℕ, Bool, true, false, List, ◌∷◌, length, Option, Some, None, refl, sym, ap, subst, ◌∙◌, arith, if◌then◌else◌, nat_lt, eqb-true, lt-ltb, decided, Verf, Change, InFlight, Acked, fate, piece_of, IsAnswer, Pending, of_file, OnFile, acked_by, at_piece, at_xid, landed, landed_part, with_xid, Flown, FilePending, flown_in, rest_at, fly_at, piece_under, PutsInFlight, Lands, cell_landed, newer_or, Segment, Segments, covers, Cell, IsSound, is_in_flight, flown_as_of, low-of, high-of, answer-return, answer-acked, lands-one-at, under-own, same-or, renumbers-so, EachSound, if-true}
use Rattle.std.proofs.Common.{IfSome}
use Rattle.std.specs.Prelude.{nat_eq}
use Rattle.std.proofs.lemmas.Bool.{ne_eqb}
use Rattle.write_back.specs.declared.state.State.TheVariants.{Waiting}
use Rattle.write_back.specs.Changes.{cell_changed}
use Rattle.write_back.specs.Files.{IsFree, PutsPiece}
use Rattle.write_back.specs.Landing.{with_change}
use Rattle.write_back.specs.Pieces.{Sent}
use Rattle.write_back.specs.Waits.{Renumbers}
use Rattle.write_back.proofs.Replying.{lands-part-at}
use Rattle.write_back.proofs.Xids.{fly-under}
use Rattle.std.specs.Option.{option_map}
use Rattle.write_back.specs.declared.change.Change.TheVariants as by_change
use Rattle.write_back.specs.declared.state.State.{State}
use Rattle.write_back.specs.declared.state.Ready.TheVariants.{Refused as was_refused}
use Rattle.write_back.proofs.Marking.{held-settle, held-mark, changes-held, sound-held}
use Rattle.step_pending.proofs.Shown.{flown-from, has-piece, not-under}
use Rattle.core_counts.proofs.counts.writes.Weights.{Class, one_if, due_of, flown_of, weight, low, high, due-most, flown-most, Below, due-low, flown-low, below-high, puts-weight, lands-out as elsewhere, lands-in, left-number, landed-number, newer-number, back-weight, acked-weight}

-- what is known of a piece that is there
pub the-piece : (P : Sent → Type 0) (o : Option Sent) (piece : Sent) → o ≡ Some piece → IfSome o P → P piece
the-piece P (Some p) piece is h = subst P (let one : p ≡ piece = cc in one) h
the-piece P None piece is h = absurd cc

answer-refuse : (status : ℕ) → IsAnswer (by_change.Refuse status)
answer-refuse status = record { leaves = λ number state out. kept number state out; lands = λ number ready left is. refused left is }
  where
    kept : (number : ℕ) (state : State) → is_in_flight state ≡ false → fate (by_change.Refuse status) number state ≡ Some state
    kept number (Waiting ready) out = refl
    kept number (InFlight ready) out = absurd cc
    kept number (Acked held) out = refl

    refused : (left : State) → Some (Waiting (was_refused status)) ≡ Some left → is_in_flight left ≡ false
    refused left is = let same : Waiting (was_refused status) ≡ left = cc in sym (ap is_in_flight same)

-- Of one place of one file; and a byte that is in flight counts under one xid.
module _ (f : List ℕ) (i y : ℕ) where
  abbrev pub W : Class → Pending → ℕ
  W c back = weight y c (of_file f back) i

  -- no more of any class
  abbrev pub Fewer : Pending → Pending → Type 0
  Fewer old new = (c : Class) → W c new ≤ W c old

  pub same-fewer : (old new : Pending) → new ≡ old → Fewer old new
  same-fewer old new is c = let same = ap (W c) is in omega (arith, same)

  pub fewer-then : (a b c : Pending) → Fewer a b → Fewer b c → Fewer a c
  fewer-then a b c first next k = let one = first k in let two = next k in omega (arith, one, two)

  -- where one file is changed
  pub on-fewer : (old new : Pending) (file : List ℕ) (to : FilePending) → OnFile old new file to → (f ≡ file → (c : Class) → weight y c to i ≤ W c old) → Fewer old new
  on-fewer old new file to on less c = by (same-or file f)
    where
      by : (f ≡ file) ⊎ (f ≢ file) → W c new ≤ W c old
      by (inl same) =
          let here : of_file f new ≡ to = ap (λ (g : List ℕ). of_file g new) same ∙ on.here in
          let one = ap (λ (of : FilePending). weight y c of i) here in let two = less same c in omega (arith, one, two)
      by (inr apart) = let one = ap (λ (of : FilePending). weight y c of i) (on.others f apart) in omega (arith, one)

  -- nothing is in flight under the xid
  pub unflown : (back : Pending) → EachSound back → ((file : List ℕ) → IsFree y file back) → (c : Class) → flown_of y c (fly_at (of_file f back) i) ≡ 0
  unflown back sound free c = by (fly_at (of_file f back) i) refl
    where
      by : (o : Option Flown) → fly_at (of_file f back) i ≡ o → flown_of y c o ≡ 0
      by None is = refl
      by (Some flown) is = ap (λ (b : Bool). one_if (b && c flown.number)) (ne_eqb flown.xid y (not-under (of_file f back).pieces y i flown (sound f).xids (free f) is))

  -- ---- it takes off

  pub puts-fewer : (z upto : ℕ) (e : ℕ × Segment) (es : Segments) (old new : Pending) (file : List ℕ) → PutsPiece z upto (e ∷ es) old new file → Fewer old new
  puts-fewer z upto e es old new file p c = by (same-or file f)
    where
      by : (f ≡ file) ⊎ (f ≢ file) → W c new ≤ W c old
      by (inl same) =
          puts-weight y c (piece_of z e (e ∷ es)) upto (of_file f old) (of_file f new) i
          (subst (λ (g : List ℕ). PutsInFlight (piece_of z e (e ∷ es)) upto (of_file g old) (of_file g new)) (sym same) p.1)
      by (inr apart) = let one = ap (λ (of : FilePending). weight y c of i) (p.0.others f apart) in omega (arith, one)

  -- ---- it comes back from under the xid

  flies-own : (old : Pending) → EachSound old → (piece : Sent) → piece_under y (of_file f old).pieces ≡ Some piece → covers piece.offset (length piece.bytes) i ≡ true → (flown : Flown)
      → fly_at (of_file f old) i ≡ Some flown → flown.xid ≡ y
  flies-own old sound piece under within flown is =
      let there : flown_in piece i ≡ Some flown = sym (fly-under y (of_file f old).pieces piece i (sound f).sent under within) ∙ is in
      (flown-from piece i flown there).xid ∙ under-own y (of_file f old).pieces piece under

  returned-weight : (old : Pending) → EachSound old → (o : Option Sent) → piece_under y (of_file f old).pieces ≡ o → (c : Class)
      → weight y c (at_xid (landed by_change.Return) y (of_file f old)) i ≤ W c old
  returned-weight old sound None is c =
      let same = ap (λ (o : Option Sent). weight y c (at_piece (landed by_change.Return) o (of_file f old)) i) is in omega (arith, same)
  returned-weight old sound (Some piece) is c = by (covers piece.offset (length piece.bytes) i) refl
    where
      to : FilePending
      to = at_xid (landed by_change.Return) y (of_file f old)

      lands : Lands piece 0 by_change.Return by_change.Return (of_file f old) to
      lands = the-piece (λ p. Lands p 0 by_change.Return by_change.Return (of_file f old) to) (piece_under y (of_file f old).pieces) piece is
          (lands-one-at by_change.Return y (of_file f old) to answer-return (sound f) refl)

      by : (b : Bool) → covers piece.offset (length piece.bytes) i ≡ b → weight y c to i ≤ W c old
      by true within =
          let one = lands-in y c piece 0 by_change.Return by_change.Return (of_file f old) to i lands within in
          let two = back-weight y c (nat_lt (i - piece.offset) 0) (rest_at (of_file f old) i) (fly_at (of_file f old) i) (λ flown there. flies-own old sound piece is within flown there) in
          omega (arith, one, two)
      by false out = let one = elsewhere y c piece 0 by_change.Return by_change.Return (of_file f old) to i lands out in omega (arith, one)

  pub returned-fewer : (old new : Pending) (file : List ℕ) → EachSound old → OnFile old new file (at_xid (landed by_change.Return) y (of_file file old)) → Fewer old new
  returned-fewer old new file sound on =
      on-fewer old new file _ on (λ same c. subst (λ (g : List ℕ). weight y c (at_xid (landed by_change.Return) y (of_file g old)) i ≤ W c old) same
      (returned-weight old sound (piece_under y (of_file f old).pieces) refl c))

  -- ---- a reply

  -- Before it came no more than n, with numbers up to s, and nothing in flight under the xid; afterwards no more than m, and m is more than n where the reply
  -- leaves the place unwritten.
  module _ (x s n m : ℕ) (within : n ≤ m) (back : Pending) (sound : EachSound back) (free : (file : List ℕ) → IsFree y file back) (few : W (low s) back ≤ n) (below : Below s (of_file f back) i) where
    abbrev pub Gain : Type 0
    Gain = n + 1 ≤ m

    abbrev pub Fine : FilePending → Type 0
    Fine of = (weight y (low s) of i ≤ m) × (weight y (high s) of i ≡ 0)

    abbrev pub FineBack : Pending → Type 0
    FineBack b = Fine (of_file f b)

    as-before : (of : FilePending) → ((c : Class) → weight y c of i ≤ W c back) → Fine of
    as-before of less =
        let one = less (low s) in let two = less (high s) in let none = below-high y s (of_file f back) i below in (omega (arith, one, few, within), omega (arith, two, none))

    pub fine-then : (b c : Pending) → FineBack b → Fewer b c → FineBack c
    fine-then b c fine less = let one = less (low s) in let two = less (high s) in let a = fine.0 in let d = fine.1 in (omega (arith, one, a), omega (arith, two, d))

    pub fine-same : (b : Pending) → b ≡ back → FineBack b
    fine-same b is = as-before (of_file f b) (same-fewer back b is)

    -- where one file is changed
    on-fine : (b : Pending) (file : List ℕ) (to : FilePending) → OnFile back b file to → (f ≡ file → Fine to) → FineBack b
    on-fine b file to on fine = by (same-or file f)
      where
        by : (f ≡ file) ⊎ (f ≢ file) → FineBack b
        by (inl same) = subst Fine (sym (ap (λ (g : List ℕ). of_file g b) same ∙ on.here)) (fine same)
        by (inr apart) = as-before (of_file f b) (λ c. let one = ap (λ (of : FilePending). weight y c of i) (on.others f apart) in omega (arith, one))

    -- the piece under the xid has the place
    abbrev pub Covered : List ℕ → (Sent → Type 0) → Type 0
    Covered file P = f ≡ file → (piece : Sent) → piece_under x (of_file f back).pieces ≡ Some piece → covers piece.offset (length piece.bytes) i ≡ true → P piece

    abbrev Left : ℕ → Change → Change → Sent → Class → ℕ
    Left count first others piece c =
        due_of c (newer_or (rest_at (of_file f back) i) (cell_landed (if nat_lt (i - piece.offset) count then first else others) (fly_at (of_file f back) i)))

    -- it lands: by one more, or as it was
    module _ (g : Sent → FilePending → FilePending) (count : ℕ) (first others : Change)
        (landing : (piece : Sent) → piece_under x (of_file f back).pieces ≡ Some piece → Lands piece count first others (of_file f back) (at_xid g x (of_file f back))) where
      landed-fine : (o : Option Sent) → piece_under x (of_file f back).pieces ≡ o
          → ((piece : Sent) → o ≡ Some piece → covers piece.offset (length piece.bytes) i ≡ true → Gain ⊎ ((c : Class) → Left count first others piece c ≤ due_of c (rest_at (of_file f back) i)))
          → Fine (at_xid g x (of_file f back))
      landed-fine None is none = as-before (at_xid g x (of_file f back)) (λ c. let same = ap (λ (o : Option Sent). weight y c (at_piece g o (of_file f back)) i) is in omega (arith, same))
      landed-fine (Some piece) is so = by (covers piece.offset (length piece.bytes) i) refl
        where
          to : FilePending
          to = at_xid g x (of_file f back)

          lands : Lands piece count first others (of_file f back) to
          lands = landing piece is

          more : covers piece.offset (length piece.bytes) i ≡ true → Gain → Fine to
          more inside gain =
              let one = lands-in y (low s) piece count first others (of_file f back) to i lands inside in
              let two = lands-in y (high s) piece count first others (of_file f back) to i lands inside in
              let most = due-most (low s) (newer_or (rest_at (of_file f back) i) (cell_landed (if nat_lt (i - piece.offset) count then first else others) (fly_at (of_file f back) i))) in
              let none = due-low s (newer_or (rest_at (of_file f back) i) (cell_landed (if nat_lt (i - piece.offset) count then first else others) (fly_at (of_file f back) i)))
              (newer-number (rest_at (of_file f back) i) (cell_landed (if nat_lt (i - piece.offset) count then first else others) (fly_at (of_file f back) i)) s below.rest
              (landed-number (if nat_lt (i - piece.offset) count then first else others) (fly_at (of_file f back) i) s below.fly)) in
              (omega (arith, one, most, gain), omega (arith, two, none))

          by : (b : Bool) → covers piece.offset (length piece.bytes) i ≡ b → Fine to
          by false out = as-before to (λ c. let one = elsewhere y c piece count first others (of_file f back) to i lands out in omega (arith, one))
          by true inside = elim (so piece refl inside) [
            | inl gain ↦ more inside gain
            | inr less ↦ as-before to (λ c.
                let one = lands-in y c piece count first others (of_file f back) to i lands inside in let two = less c in omega (arith, one, two))
          ]

    pub returns-fine : (b : Pending) (file : List ℕ) → OnFile back b file (at_xid (landed by_change.Return) x (of_file file back)) → Covered file (λ piece. Gain) → FineBack b
    returns-fine b file on gains =
        on-fine b file _ on (λ same. subst (λ (g : List ℕ). Fine (at_xid (landed by_change.Return) x (of_file g back))) same
        (landed-fine (landed by_change.Return) 0 by_change.Return by_change.Return
        (λ piece is. the-piece (λ p. Lands p 0 by_change.Return by_change.Return (of_file f back) (at_xid (landed by_change.Return) x (of_file f back))) (piece_under x (of_file f back).pieces) piece is
        (lands-one-at by_change.Return x (of_file f back) _ answer-return (sound f) refl)) (piece_under x (of_file f back).pieces) refl (λ piece is inside. inl (gains same piece is inside))))

    pub refuses-fine : (status : ℕ) (b : Pending) (file : List ℕ) → OnFile back b file (at_xid (landed (by_change.Refuse status)) x (of_file file back)) → Covered file (λ piece. Gain) → FineBack b
    refuses-fine status b file on gains =
        on-fine b file _ on (λ same. subst (λ (g : List ℕ). Fine (at_xid (landed (by_change.Refuse status)) x (of_file g back))) same
        (landed-fine (landed (by_change.Refuse status)) 0 (by_change.Refuse status) (by_change.Refuse status)
        (λ piece is. the-piece (λ p. Lands p 0 (by_change.Refuse status) (by_change.Refuse status) (of_file f back) (at_xid (landed (by_change.Refuse status)) x (of_file f back)))
        (piece_under x (of_file f back).pieces) piece is (lands-one-at (by_change.Refuse status) x (of_file f back) _ (answer-refuse status) (sound f) refl))
        (piece_under x (of_file f back).pieces) refl (λ piece is inside. inl (gains same piece is inside))))

    -- the server has it whole
    whole-left : (count committed : ℕ) (verf : Verf) (piece : Sent) → length piece.bytes ≤ count → covers piece.offset (length piece.bytes) i ≡ true → (c : Class)
        → Left count (acked_by committed verf) by_change.Return piece c ≤ due_of c (rest_at (of_file f back) i)
    whole-left count committed verf piece all inside c =
        let start = low-of piece.offset (piece.offset + length piece.bytes) i inside in
        let end = high-of piece.offset (piece.offset + length piece.bytes) i inside in
        let early : nat_lt (i - piece.offset) count ≡ true = lt-ltb (i - piece.offset) count (omega (arith, start, end, all)) in
        let same = ap (λ (k : Change). due_of c (newer_or (rest_at (of_file f back) i) (cell_landed k (fly_at (of_file f back) i))))
        (if-true (nat_lt (i - piece.offset) count) (acked_by committed verf) by_change.Return early) in
        let less = acked-weight c committed verf (rest_at (of_file f back) i) (fly_at (of_file f back) i) in
        omega (arith, same, less)

    pub acks-fine : (count committed : ℕ) (verf : Verf) (b : Pending) (file : List ℕ) → OnFile back b file (at_xid (landed_part (acked_by committed verf) count) x (of_file file back))
        → Covered file (λ piece. (length piece.bytes ≤ count) ⊎ Gain) → FineBack b
    acks-fine count committed verf b file on so =
        on-fine b file _ on (λ same. subst (λ (g : List ℕ). Fine (at_xid (landed_part (acked_by committed verf) count) x (of_file g back))) same
        (landed-fine (landed_part (acked_by committed verf) count) count (acked_by committed verf) by_change.Return
        (λ piece is. the-piece (λ p. Lands p count (acked_by committed verf) by_change.Return (of_file f back) (at_xid (landed_part (acked_by committed verf) count) x (of_file f back)))
        (piece_under x (of_file f back).pieces) piece is (lands-part-at (acked_by committed verf) count x (of_file f back) _ (answer-acked committed verf) (sound f) refl))
        (piece_under x (of_file f back).pieces) refl (λ piece is inside. elim (so same piece is inside) [
          | inl all ↦ inr (whole-left count committed verf piece all inside)
          | inr gain ↦ inl gain
        ])))

    -- it goes out again under the other xid
    renamed-fine : Covered f (λ piece. Gain) → Fine (with_xid x y (of_file f back))
    renamed-fine gains = by (fly_at (of_file f back) i) refl
      where
        to : FilePending
        to = with_xid x y (of_file f back)

        r : Renumbers x y (of_file f back) to
        r = renumbers-so x y (of_file f back) (sound f)

        of-fly : (o : Option Flown) → fly_at (of_file f back) i ≡ o → (c : Class) → flown_of y c (fly_at to i) ≡ flown_of y c (option_map (flown_as_of x y) o)
        of-fly o is c = ap (flown_of y c) (r.fly i ∙ ap (option_map (flown_as_of x y)) is)

        by : (o : Option Flown) → fly_at (of_file f back) i ≡ o → Fine to
        by None is = as-before to (λ c. let one = of-fly None is c in let two = ap (due_of c) (r.rest i) in omega (arith, one, two))
        by (Some flown) is = at (nat_eq flown.xid x) refl
          where
            later : Flown
            later = record { byte = flown.byte; number = flown.number; xid = y; before = flown.before }

            at : (b : Bool) → nat_eq flown.xid x ≡ b → Fine to
            at true here =
                let has = has-piece (of_file f back).pieces i flown (sound f).xids is in
                let gain = gains refl has.piece (subst (λ (k : ℕ). piece_under k (of_file f back).pieces ≡ Some has.piece) (eqb-true flown.xid x here) has.under) has.inside in
                let one = of-fly (Some flown) is (low s) in
                let two = of-fly (Some flown) is (high s) in
                let most = flown-most y (low s) (option_map (flown_as_of x y) (Some flown)) in
                let none : flown_of y (high s) (Some (flown_as_of x y flown)) ≡ 0 =
                ap (λ (z : Flown). flown_of y (high s) (Some z)) (if-true (nat_eq flown.xid x) later flown here)
                ∙ flown-low y s (Some later) (λ other same. let k : later ≡ other = cc in subst (λ (z : Flown). z.number ≤ s) k (below.fly flown is)) in
                let rest_low = ap (due_of (low s)) (r.rest i) in
                let rest_high = ap (due_of (high s)) (r.rest i) in
                let none_high = due-low s (rest_at (of_file f back) i) below.rest in
                (omega (arith, one, most, rest_low, few, gain), omega (arith, two, none, rest_high, none_high))
            at false apart =
                as-before to (λ c.
                let one = of-fly (Some flown) is c in
                let same = ap (λ (z : Flown). flown_of y c (Some z)) (ap (λ (b : Bool). if b then later else flown) apart) in
                let was = ap (flown_of y c) is in
                let two = ap (due_of c) (r.rest i) in
                omega (arith, one, same, was, two))

    pub renews-fine : (b : Pending) (file : List ℕ) → OnFile back b file (with_xid x y (of_file file back)) → Covered file (λ piece. Gain) → FineBack b
    renews-fine b file on gains =
        on-fine b file _ on (λ same. subst (λ (g : List ℕ). Fine (with_xid x y (of_file g back))) same (renamed-fine (λ any piece is inside. gains same piece is inside)))

    -- the reply to a COMMIT
    decided-fine : (upto : ℕ) (verf : Verf) → Gain → Fine (decided upto verf (of_file f back))
    decided-fine upto verf gain =
        let settled : FilePending = with_change (by_change.Settle verf upto) (of_file f back) in
        let sound_settled : IsSound settled = sound-held (by_change.Settle verf upto) (held-settle verf upto) (of_file f back) (sound f) in
        let first = changes-held (by_change.Settle verf upto) (held-settle verf upto) (of_file f back) (sound f).apart in
        let next = changes-held (by_change.MarkAgain upto) (held-mark upto) settled sound_settled.apart in
        let rest : rest_at (decided upto verf (of_file f back)) i ≡ cell_changed (by_change.MarkAgain upto) (cell_changed (by_change.Settle verf upto) (rest_at (of_file f back) i)) =
        next.rest i ∙ ap (cell_changed (by_change.MarkAgain upto)) (first.rest i) in
        let fly : fly_at (decided upto verf (of_file f back)) i ≡ fly_at (of_file f back) i = next.fly i ∙ first.fly i in
        let one = ap (flown_of y (low s)) fly in
        let two = ap (flown_of y (high s)) fly in
        let none_low = unflown back sound free (low s) in
        let none_high = unflown back sound free (high s) in
        let most = due-most (low s) (rest_at (decided upto verf (of_file f back)) i) in
        let high_none = due-low s (rest_at (decided upto verf (of_file f back)) i) (λ cell is.
        changed-number (by_change.MarkAgain upto) (cell_changed (by_change.Settle verf upto) (rest_at (of_file f back) i))
        (changed-number (by_change.Settle verf upto) (rest_at (of_file f back) i) below.rest) cell (sym rest ∙ is)) in
        (omega (arith, one, none_low, most, gain), omega (arith, two, none_high, high_none))
      where
        changed-number : (change : Change) (o : Option Cell) → ((cell : Cell) → o ≡ Some cell → cell.number ≤ s) → (left : Cell) → cell_changed change o ≡ Some left → left.number ≤ s
        changed-number change None all left is = absurd (let no_way : None ≡ Some left = is in cc)
        changed-number change (Some cell) all left is =
            let same = left-number (fate change cell.number cell.state) cell left is in let less = all cell refl in omega (arith, same, less)

    pub decides-fine : (upto : ℕ) (verf : Verf) (b : Pending) (file : List ℕ) → OnFile back b file (decided upto verf (of_file file back)) → (f ≡ file → Gain) → FineBack b
    decides-fine upto verf b file on gains =
        on-fine b file _ on (λ same. subst (λ (g : List ℕ). Fine (decided upto verf (of_file g back))) same (decided-fine upto verf (gains same)))
