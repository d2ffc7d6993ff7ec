-- Of one file: what is to be sent again has older numbers than what was never sent. What a step of a save makes of that.
use Rattle.core_counts.proofs.Prelude.{◌≡◌, ◌≢◌, ◌≤◌, ◌<◌, ◌+◌, ◌&&◌, ◌||◌, ◌==◌, ◌-◌, ◌⊎◌, inl, inr, ℕ, Bool, true, false, List, [], ◌∷◌, length, Option, Some, None, Result, Ok, Err, refl, sym, ap, subst, ◌∙◌, arith, if◌then◌else◌, nat_lt, slice_index, Verdict, AllStable, SendAgain, decided, verdict_of, Verf, Fault, Memory, Reply, Wcc, Change, InFlight, Acked, Ready, Unsent, IsAnswer, is_in_flight, fate, lost, chosen, piece_of, Pending, of_file, with_bytes, OnFile, acked_by, at_piece, at_xid, landed, landed_part, with_cut, with_xid, Flown, FilePending, nothing, flown_in, fly_in, rest_at, fly_at, piece_under, PutsInFlight, PutsBytes, Lands, cell_landed, newer_or, Segments, covers, Cell, IsSound, flown_as_of, answer-return, answer-acked, lands-one-at, puts-with, same-or, renumbers-so, Repeat, Turn, goes_again, Sending, Committing, Resending, CommittingAgain, Saving, write_told, commit_told, cases_lt, leb-true, EachSound, IsUnderWay, if-true, if-false}
use Rattle.std.specs.Prelude.{nat_le, nat_eq}
use Rattle.world_model.specs.declared.answer.Fault.TheVariants.{Bad}
use Rattle.write_back.specs.declared.state.State.TheVariants.{Waiting}
use Rattle.write_back.specs.States.{same_verf}
use Rattle.write_back.specs.Changes.{cell_left, cell_changed}
use Rattle.write_back.specs.Landing.{with_change}
use Rattle.write_back.specs.Pieces.{Sent}
use Rattle.write_back.specs.Places.{cell_cut}
use Rattle.write_back.proofs.Replying.{lands-part-at}
use Rattle.step_saves.specs.Saves.{EachUpTo, IsHeld, PhaseHas, PhaseCounts}
use Rattle.std.specs.Option.{option_map}
use Rattle.world_model.specs.declared.message.Reply.TheVariants as replies
use Rattle.nfs_file_calls.specs.declared.owned.FileKept.TheVariants as kept
use Rattle.write_back.specs.declared.change.Change.TheVariants as by_change
use Rattle.write_back.specs.declared.state.State.{State}
use Rattle.write_back.specs.declared.state.Ready.TheVariants.{Again, Refused as was_refused}
use Rattle.write_back.proofs.Adding.{cuts-so}
use Rattle.write_back.proofs.Marking.{held-settle, held-mark, changes-held, sound-held}
use Rattle.file_ops.specs.declared.saving.Phase.{Phase}
use Rattle.file_ops.specs.Saves as saves
use Rattle.core_counts.proofs.counts.writes.Landing.{the-piece}

some-cell : (a b : Cell) → Some a ≡ Some b → a ≡ b
some-cell a b e = cc

some-flown : (a b : Flown) → Some a ≡ Some b → a ≡ b
some-flown a b e = cc

some-state : (a b : State) → Some a ≡ Some b → a ≡ b
some-state a b e = cc

same-ready : (a b : Ready) → Waiting a ≡ Waiting b → a ≡ b
same-ready a b e = cc

answer-refuse : (status : ℕ) → IsAnswer (by_change.Refuse status)
answer-refuse status = record { leaves = λ number state out. kept_ number state out; lands = λ number ready left is. refused left is }
  where
    kept_ : (number : ℕ) (state : State) → is_in_flight state ≡ false → fate (by_change.Refuse status) number state ≡ Some state
    kept_ number (Waiting ready) out = refl
    kept_ number (InFlight ready) out = absurd cc
    kept_ number (Acked held) out = refl

    refused : (left : State) → Some (Waiting (was_refused status)) ≡ Some left → is_in_flight left ≡ false
    refused left is = let same : Waiting (was_refused status) ≡ left = cc in sym (ap is_in_flight same)

-- ---- of one place

-- Up to this number it may be to be sent again, and above it never sent.
pub record Sorted (u : ℕ) (ready : Ready) (number : ℕ) : Type 0 where
  pub again : ready ≡ Again → number ≤ u
  pub unsent : ready ≡ Unsent → u < number

module _ (u : ℕ) where
  abbrev Rests : Option Cell → Type 0
  Rests o = (cell : Cell) → o ≡ Some cell → (ready : Ready) → cell.state ≡ Waiting ready → Sorted u ready cell.number

  none-rests : Rests None
  none-rests cell is = absurd (let no_way : None ≡ Some cell = is in cc)

  rests-as : (a b : Option Cell) → b ≡ a → Rests a → Rests b
  rests-as a b is r = subst Rests (sym is) r

  abbrev Flies : Option Flown → Type 0
  Flies o = (flown : Flown) → o ≡ Some flown → Sorted u flown.before flown.number

  none-flies : Flies None
  none-flies flown is = absurd (let no_way : None ≡ Some flown = is in cc)

  flies-as : (a b : Option Flown) → b ≡ a → Flies a → Flies b
  flies-as a b is r = subst Flies (sym is) r

  cut-or : (size upto i : ℕ) (cell : Cell) → (cell_cut size upto i (Some cell) ≡ None) ⊎ (cell_cut size upto i (Some cell) ≡ Some cell)
  cut-or size upto i cell = by (nat_le size i && nat_le cell.number upto)
    where
      by : (b : Bool) → ((if b then None else Some cell) ≡ None) ⊎ ((if b then None else Some cell) ≡ Some cell)
      by true = inl refl
      by false = inr refl

  cut-rests : (size upto i : ℕ) (o : Option Cell) → Rests o → Rests (cell_cut size upto i o)
  cut-rests size upto i None r = none-rests
  cut-rests size upto i (Some cell) r = by (cut-or size upto i cell)
    where
      by : (cell_cut size upto i (Some cell) ≡ None) ⊎ (cell_cut size upto i (Some cell) ≡ Some cell) → Rests (cell_cut size upto i (Some cell))
      by (inl is) = rests-as None (cell_cut size upto i (Some cell)) is none-rests
      by (inr is) = rests-as (Some cell) (cell_cut size upto i (Some cell)) is r

  -- a change of what is in flight that leaves what waits as it was before, or else refused
  abbrev Fine : Change → Type 0
  Fine change = (number : ℕ) (before : Ready) (left : State) → fate change number (InFlight before) ≡ Some left → (ready : Ready) → left ≡ Waiting ready → Sorted u before number → Sorted u ready number

  fine-return : Fine by_change.Return
  fine-return number before left is ready waits k =
      subst (λ (r : Ready). Sorted u r number) (same-ready before ready (some-state (Waiting before) left is ∙ waits)) k

  fine-refuse : (status : ℕ) → Fine (by_change.Refuse status)
  fine-refuse status number before left is ready waits k =
      let same = same-ready (was_refused status) ready (some-state (Waiting (was_refused status)) left is ∙ waits) in
      record { again = λ e. absurd (let no_way : was_refused status ≡ Again = same ∙ e in cc); unsent = λ e. absurd (let no_way : was_refused status ≡ Unsent = same ∙ e in cc) }

  fine-acked : (committed : ℕ) (verf : Verf) → Fine (acked_by committed verf)
  fine-acked committed verf = by (nat_lt 0 committed)
    where
      by : (b : Bool) → Fine (if b then by_change.Store else by_change.Ack verf)
      by true number before left is ready waits k = absurd (let no_way : None ≡ Some left = is in cc)
      by false number before left is ready waits k = absurd (let no_way : Acked verf ≡ Waiting ready = some-state (Acked verf) left is ∙ waits in cc)

  left-rests : (change : Change) → Fine change → (rest : Option Cell) (fly : Option Flown) → Rests rest → Flies fly → Rests (newer_or rest (cell_landed change fly))
  left-rests change fine (Some cell) fly r k = r
  left-rests change fine None None r k = none-rests
  left-rests change fine None (Some flown) r k = by (fate change flown.number (InFlight flown.before)) refl
    where
      by : (o : Option State) → fate change flown.number (InFlight flown.before) ≡ o → Rests (cell_left o (record { byte = flown.byte; number = flown.number; state = InFlight flown.before }))
      by None is = none-rests
      by (Some left) is = λ cell here ready waits.
          let same = some-cell (record { byte = flown.byte; number = flown.number; state = left }) cell here in
          subst (λ (n : ℕ). Sorted u ready n) (ap (λ (c : Cell). c.number) same) (fine flown.number flown.before left is ready (ap (λ (c : Cell). c.state) same ∙ waits) (k flown refl))

  if-rests : (b : Bool) (first others : Change) → Fine first → Fine others → (rest : Option Cell) (fly : Option Flown) → Rests rest → Flies fly
      → Rests (newer_or rest (cell_landed (if b then first else others) fly))
  if-rests true first others one two rest fly r k = left-rests first one rest fly r k
  if-rests false first others one two rest fly r k = left-rests others two rest fly r k

  renamed-flies : (x y : ℕ) (o : Option Flown) → Flies o → Flies (option_map (flown_as_of x y) o)
  renamed-flies x y None k = none-flies
  renamed-flies x y (Some flown) k = λ later is. by later (some-flown (flown_as_of x y flown) later is) (nat_eq flown.xid x) refl
    where
      by : (later : Flown) → flown_as_of x y flown ≡ later → (b : Bool) → nat_eq flown.xid x ≡ b → Sorted u later.before later.number
      by later same true h =
          let one = if-true (nat_eq flown.xid x) (record { byte = flown.byte; number = flown.number; xid = y; before = flown.before }) flown h in
          subst (λ (z : Flown). Sorted u z.before z.number) (sym one ∙ same) (k flown refl)
      by later same false h =
          let one = if-false (nat_eq flown.xid x) (record { byte = flown.byte; number = flown.number; xid = y; before = flown.before }) flown h in
          subst (λ (z : Flown). Sorted u z.before z.number) (sym one ∙ same) (k flown refl)

  -- ---- of one file

  pub record Parts (of : FilePending) : Type 0 where
    pub rest : (i : ℕ) (cell : Cell) → rest_at of i ≡ Some cell → (ready : Ready) → cell.state ≡ Waiting ready → Sorted u ready cell.number
    pub fly : (i : ℕ) (flown : Flown) → fly_at of i ≡ Some flown → Sorted u flown.before flown.number

  puts-parts : (piece : Sent) (upto : ℕ) (old new : FilePending) → PutsInFlight piece upto old new → Parts old → Parts new
  puts-parts piece upto old new p k = record { rest = λ i. (at i (covers piece.offset (length piece.bytes) i) refl).0; fly = λ i. (at i (covers piece.offset (length piece.bytes) i) refl).1 }
    where
      at : (i : ℕ) (b : Bool) → covers piece.offset (length piece.bytes) i ≡ b → Rests (rest_at new i) × Flies (fly_at new i)
      at i true h =
          let rest : rest_at new i ≡ None = p.rest i ∙ if-true (covers piece.offset (length piece.bytes) i) None (rest_at old i) h in
          let fly : fly_at new i ≡ flown_in piece i = p.fly i ∙ if-true (covers piece.offset (length piece.bytes) i) (flown_in piece i) (fly_at old i) h in (
            rests-as None (rest_at new i) rest none-rests,
            λ flown is. k.rest i (record { byte = flown.byte; number = flown.number; state = Waiting flown.before }) (p.was i flown h (sym fly ∙ is)) flown.before refl,
          )
      at i false h = (
        rests-as (rest_at old i) (rest_at new i) (p.rest i ∙ if-false (covers piece.offset (length piece.bytes) i) None (rest_at old i) h) (k.rest i),
        flies-as (fly_at old i) (fly_at new i) (p.fly i ∙ if-false (covers piece.offset (length piece.bytes) i) (flown_in piece i) (fly_at old i) h) (k.fly i),
      )

  piece-parts : (piece : Sent) (count : ℕ) (first others : Change) (old new : FilePending) → Fine first → Fine others → Lands piece count first others old new → Parts old → Parts new
  piece-parts piece count first others old new one two lands k =
      record { rest = λ i. (at i (covers piece.offset (length piece.bytes) i) refl).0; fly = λ i. (at i (covers piece.offset (length piece.bytes) i) refl).1 }
    where
      at : (i : ℕ) (b : Bool) → covers piece.offset (length piece.bytes) i ≡ b → Rests (rest_at new i) × Flies (fly_at new i)
      at i true h = (
        rests-as (newer_or (rest_at old i) (cell_landed (if nat_lt (i - piece.offset) count then first else others) (fly_at old i))) (rest_at new i) (lands.rest i ∙ if-true (covers piece.offset (length piece.bytes) i) (newer_or (rest_at old i) (cell_landed (if nat_lt (i - piece.offset) count then first else others) (fly_at old i))) (rest_at old i) h)
            (if-rests (nat_lt (i - piece.offset) count) first others one two (rest_at old i) (fly_at old i) (k.rest i) (k.fly i)),
        flies-as None (fly_at new i) (lands.fly i ∙ if-true (covers piece.offset (length piece.bytes) i) None (fly_at old i) h) none-flies,
      )
      at i false h = (
        rests-as (rest_at old i) (rest_at new i) (lands.rest i ∙ if-false (covers piece.offset (length piece.bytes) i) (newer_or (rest_at old i) (cell_landed (if nat_lt (i - piece.offset) count then first else others) (fly_at old i))) (rest_at old i) h) (k.rest i),
        flies-as (fly_at old i) (fly_at new i) (lands.fly i ∙ if-false (covers piece.offset (length piece.bytes) i) None (fly_at old i) h) (k.fly i),
      )

  module _ (x : ℕ) (of : FilePending) where
    landed-parts : (g : Sent → FilePending → FilePending) (count : ℕ) (first others : Change) → Fine first → Fine others
        → ((piece : Sent) → piece_under x of.pieces ≡ Some piece → Lands piece count first others of (at_xid g x of)) → Parts of → Parts (at_xid g x of)
    landed-parts g count first others one two landing k = by (piece_under x of.pieces) refl
      where
        by : (o : Option Sent) → piece_under x of.pieces ≡ o → Parts (at_xid g x of)
        by None is = subst (λ (o : Option Sent). Parts (at_piece g o of)) (sym is) k
        by (Some piece) is = piece-parts piece count first others of (at_xid g x of) one two (landing piece is) k

    returned-parts : IsSound of → Parts of → Parts (at_xid (landed by_change.Return) x of)
    returned-parts sound k =
        landed-parts (landed by_change.Return) 0 by_change.Return by_change.Return fine-return fine-return
        (λ piece is. the-piece (λ p. Lands p 0 by_change.Return by_change.Return of (at_xid (landed by_change.Return) x of)) (piece_under x of.pieces) piece is
        (lands-one-at by_change.Return x of _ answer-return sound refl)) k

    refused-parts : (status : ℕ) → IsSound of → Parts of → Parts (at_xid (landed (by_change.Refuse status)) x of)
    refused-parts status sound k =
        landed-parts (landed (by_change.Refuse status)) 0 (by_change.Refuse status) (by_change.Refuse status) (fine-refuse status) (fine-refuse status)
        (λ piece is. the-piece (λ p. Lands p 0 (by_change.Refuse status) (by_change.Refuse status) of (at_xid (landed (by_change.Refuse status)) x of)) (piece_under x of.pieces) piece is
        (lands-one-at (by_change.Refuse status) x of _ (answer-refuse status) sound refl)) k

    acked-parts : (count committed : ℕ) (verf : Verf) → IsSound of → Parts of → Parts (at_xid (landed_part (acked_by committed verf) count) x of)
    acked-parts count committed verf sound k =
        landed-parts (landed_part (acked_by committed verf) count) count (acked_by committed verf) by_change.Return (fine-acked committed verf) fine-return
        (λ piece is. the-piece (λ p. Lands p count (acked_by committed verf) by_change.Return of (at_xid (landed_part (acked_by committed verf) count) x of)) (piece_under x of.pieces) piece is
        (lands-part-at (acked_by committed verf) count x of _ (answer-acked committed verf) sound refl)) k

    renamed-parts : (y : ℕ) → IsSound of → Parts of → Parts (with_xid x y of)
    renamed-parts y sound k =
        let r = renumbers-so x y of sound in
        record {
          rest = λ i. rests-as (rest_at of i) (rest_at (with_xid x y of) i) (r.rest i) (k.rest i);
          fly = λ i. flies-as (option_map (flown_as_of x y) (fly_at of i)) (fly_at (with_xid x y of) i) (r.fly i) (renamed-flies x y (fly_at of i) (k.fly i));
        }

  cut-parts : (size upto : ℕ) (of : FilePending) → IsSound of → Parts of → Parts (with_cut size upto of)
  cut-parts size upto of sound k =
      let cuts = cuts-so size upto of sound.apart in
      record { rest = λ i. rests-as (cell_cut size upto i (rest_at of i)) (rest_at (with_cut size upto of) i) (cuts.rest i) (cut-rests size upto i (rest_at of i) (k.rest i)); fly = k.fly }

  pub nothing-parts : Parts nothing
  nothing-parts = record { rest = λ i. none-rests; fly = λ i. none-flies }

  put-parts : (offset : ℕ) (bytes : List ℕ) (number : ℕ) (old new : FilePending) → u < number → PutsBytes offset bytes number old new → Parts old → Parts new
  put-parts offset bytes number old new low p k = record { rest = λ i. at i (covers offset (length bytes) i) refl; fly = λ i. flies-as (fly_at old i) (fly_at new i) (p.fly i) (k.fly i) }
    where
      at : (i : ℕ) (b : Bool) → covers offset (length bytes) i ≡ b → Rests (rest_at new i)
      at i true h =
          rests-as (Some (record { byte = slice_index bytes (i - offset); number = number; state = Waiting Unsent })) (rest_at new i)
          (p.rest i ∙ if-true (covers offset (length bytes) i) (Some (record { byte = slice_index bytes (i - offset); number = number; state = Waiting Unsent })) (rest_at old i) h)
          (λ cell is ready waits.
          let same = some-cell (record { byte = slice_index bytes (i - offset); number = number; state = Waiting Unsent }) cell is in
          let kind : Unsent ≡ ready = same-ready Unsent ready (ap (λ (c : Cell). c.state) same ∙ waits) in
          record {
            again = λ e. absurd (let no_way : Unsent ≡ Again = kind ∙ e in cc);
            unsent = λ e. subst (λ (n : ℕ). u < n) (ap (λ (c : Cell). c.number) same) low;
          })
      at i false h =
          rests-as (rest_at old i) (rest_at new i)
          (p.rest i ∙ if-false (covers offset (length bytes) i) (Some (record { byte = slice_index bytes (i - offset); number = number; state = Waiting Unsent })) (rest_at old i) h) (k.rest i)

-- ---- a COMMIT is answered: what may be lost is to be sent again, while the server has all up to its number

sorted-up : (u v : ℕ) (ready : Ready) (number : ℕ) → u ≤ v → (ready ≡ Unsent → v < number) → Sorted u ready number → Sorted v ready number
sorted-up u v ready number up above k = record { again = λ e. let low = k.again e in omega (arith, low, up); unsent = above }

-- the greater number
most : (a b : ℕ) → (m : ℕ) × (a ≤ m) × (b ≤ m) × ((m ≡ a) ⊎ (m ≡ b))
most a b = elim (cases_lt a b) [
  | inl low ↦ (b, omega (arith, low), omega arith, inr refl)
  | inr high ↦ (a, omega arith, high, inl refl)
]

module _ (upto : ℕ) (verf : Verf) (u v : ℕ) (up : u ≤ v) (over : upto ≤ v) (one : (v ≡ u) ⊎ (v ≡ upto)) where
  -- of one cell
  settled-cell : (cell : Cell) → (cell.number ≤ upto → IsHeld cell.state) → ((ready : Ready) → cell.state ≡ Waiting ready → Sorted u ready cell.number)
      → Rests v (cell_changed (by_change.MarkAgain upto) (cell_changed (by_change.Settle verf upto) (Some cell)))
  settled-cell cell held sorted = by cell.state refl
    where
      by : (state : State) → cell.state ≡ state → Rests v (cell_changed (by_change.MarkAgain upto) (cell_left (fate (by_change.Settle verf upto) cell.number state) cell))
      by (Waiting ready) is = λ left here r waits.
          let same = some-cell (record { byte = cell.byte; number = cell.number; state = Waiting ready }) left here in
          let kind : ready ≡ r = same-ready ready r (ap (λ (c : Cell). c.state) same ∙ waits) in
          let old = sorted ready is in
          let above : cell.number ≤ upto → ⊥ = (λ low. subst IsHeld is (held low)) in
          let new : Sorted v ready cell.number = sorted-up u v ready cell.number up
          (λ e. let low = old.unsent e in elim one [
            | inl z ↦ omega (arith, z, low)
            | inr z ↦ elim (cases_lt upto cell.number) [
              | inl more ↦ omega (arith, z, more)
              | inr less ↦ absurd (above less)
            ]
          ]) old in
          subst (λ (n : ℕ). Sorted v r n) (ap (λ (c : Cell). c.number) same) (subst (λ (k : Ready). Sorted v k cell.number) kind new)
      by (InFlight ready) is = λ left here r waits.
          let same = some-cell (record { byte = cell.byte; number = cell.number; state = InFlight ready }) left here in
          absurd (let no_way : InFlight ready ≡ Waiting r = ap (λ (c : Cell). c.state) same ∙ waits in cc)
      by (Acked held_) is = first (nat_le cell.number upto && same_verf held_ verf)
        where
          second : (c : Bool) → nat_le cell.number upto ≡ c → Rests v (cell_left (if c then Some (Waiting Again) else Some (Acked held_)) (record { byte = cell.byte; number = cell.number; state = Acked held_ }))
          second true low = λ left here r waits.
              let same = some-cell (record { byte = cell.byte; number = cell.number; state = Waiting Again }) left here in
              let kind : Again ≡ r = same-ready Again r (ap (λ (c : Cell). c.state) same ∙ waits) in
              let least = leb-true cell.number upto low in
              subst (λ (n : ℕ). Sorted v r n) (ap (λ (c : Cell). c.number) same)
              (record { again = λ e. omega (arith, least, over); unsent = λ e. absurd (let no_way : Again ≡ Unsent = kind ∙ e in cc) })
          second false low = λ left here r waits.
              let same = some-cell (record { byte = cell.byte; number = cell.number; state = Acked held_ }) left here in
              absurd (let no_way : Acked held_ ≡ Waiting r = ap (λ (c : Cell). c.state) same ∙ waits in cc)

          first : (c : Bool) → Rests v (cell_changed (by_change.MarkAgain upto) (cell_left (if c then None else Some (Acked held_)) cell))
          first true = none-rests v
          first false = second (nat_le cell.number upto) refl

  settled-rests : (o : Option Cell) → ((cell : Cell) → o ≡ Some cell → cell.number ≤ upto → IsHeld cell.state) → Rests u o
      → Rests v (cell_changed (by_change.MarkAgain upto) (cell_changed (by_change.Settle verf upto) o))
  settled-rests None held r = none-rests v
  settled-rests (Some cell) held r = settled-cell cell (held cell refl) (r cell refl)

  decided-parts : (of : FilePending) → IsSound of → EachUpTo upto IsHeld of → of.pieces ≡ [] → Parts u of → Parts v (decided upto verf of)
  decided-parts of sound held quiet k =
      let settled : FilePending = with_change (by_change.Settle verf upto) of in
      let sound_settled : IsSound settled = sound-held (by_change.Settle verf upto) (held-settle verf upto) of sound in
      let first = changes-held (by_change.Settle verf upto) (held-settle verf upto) of sound.apart in
      let next = changes-held (by_change.MarkAgain upto) (held-mark upto) settled sound_settled.apart in
      record {
        rest = λ i. rests-as v (cell_changed (by_change.MarkAgain upto) (cell_changed (by_change.Settle verf upto) (rest_at of i))) (rest_at (decided upto verf of) i)
            (next.rest i ∙ ap (cell_changed (by_change.MarkAgain upto)) (first.rest i)) (settled-rests (rest_at of i) (held i) (k.rest i));
        fly = λ i. flies-as v None (fly_at (decided upto verf of) i) (next.fly i ∙ first.fly i ∙ ap (λ (ps : List Sent). fly_in ps i) quiet) (none-flies v);
      }

-- ---- of what is pending of all files

module _ (f : List ℕ) (n : ℕ) where
  -- up to some number, which was given
  abbrev pub PartsAt : Pending → Type 0
  PartsAt back = (u : ℕ) × (u ≤ n) × Parts u (of_file f back)

  on-parts : (old new : Pending) (file : List ℕ) (to : FilePending) → OnFile old new file to → (f ≡ file → (u : ℕ) × (u ≤ n) × Parts u to) → PartsAt old → PartsAt new
  on-parts old new file to on here k = by (same-or file f)
    where
      by : (f ≡ file) ⊎ (f ≢ file) → PartsAt new
      by (inl same) = let h = here same in (h.0, h.1, subst (Parts h.0) (sym (ap (λ (g : List ℕ). of_file g new) same ∙ on.here)) h.2)
      by (inr apart) = (k.0, k.1, subst (Parts k.0) (sym (on.others f apart)) k.2)

  -- where one file is changed, whichever it is
  change-parts : (to : FilePending → FilePending) (old new : Pending) (file : List ℕ) → OnFile old new file (to (of_file file old))
      → ((u : ℕ) → Parts u (of_file f old) → Parts u (to (of_file f old))) → PartsAt old → PartsAt new
  change-parts to old new file on step k =
      on-parts old new file (to (of_file file old)) on (λ same. (k.0, k.1, subst (λ (g : List ℕ). Parts k.0 (to (of_file g old))) same (step k.0 k.2))) k

  same-parts : (old new : Pending) → new ≡ old → PartsAt old → PartsAt new
  same-parts old new is k = subst PartsAt (sym is) k

  pub cuts-parts : (file : List ℕ) (size upto : ℕ) (old new : Pending) → EachSound old → OnFile old new file (with_cut size upto (of_file file old)) → PartsAt old → PartsAt new
  cuts-parts file size upto old new sound on k = change-parts (with_cut size upto) old new file on (λ u. cut-parts u size upto (of_file f old) (sound f)) k

  pub gives-parts : (file : List ℕ) (old new : Pending) → OnFile old new file nothing → PartsAt old → PartsAt new
  gives-parts file old new on k = on-parts old new file nothing on (λ same. (k.0, k.1, nothing-parts k.0)) k

  -- ---- a save goes on

  sends-parts : (z : ℕ) (by_reply : Bool) (run : Segments) (s : Saving) (back : Pending) (next : _) (new : Saving) (after : Pending) → saves.Sends z by_reply run s back next new after → PartsAt back → PartsAt after
  sends-parts z by_reply run s back next new after (inr l) k = same-parts back after l.1 k
  sends-parts z by_reply [] s back next new after (inl l) k = same-parts back after l.1 k
  sends-parts z by_reply (e ∷ es) s back next new after (inl l) k = by (same-or s.file f)
    where
      by : (f ≡ s.file) ⊎ (f ≢ s.file) → PartsAt after
      by (inl same) = (
        k.0,
        k.1,
        puts-parts k.0 (piece_of z e (e ∷ es)) s.upto (of_file f back) (of_file f after)
            (subst (λ (g : List ℕ). PutsInFlight (piece_of z e (e ∷ es)) s.upto (of_file g back) (of_file g after)) (sym same) l.1.1) k.2,
      )
      by (inr apart) = (k.0, k.1, subst (Parts k.0) (sym (l.1.0.others f apart)) k.2)

  if-parts : (b : Bool) (z : ℕ) (by_reply : Bool) (run : Segments) (s : Saving) (back : Pending) (next : _) (new : Saving) (after : Pending)
      → saves.SendsIf b z by_reply run s back next new after → PartsAt back → PartsAt after
  if-parts true z by_reply run s back next new after l k = sends-parts z by_reply run s back next new after l k
  if-parts false z by_reply run s back next new after l k = same-parts back after l.1 k

  over-parts : (refusal : Option Fault) (wsize z : ℕ) (room by_reply : Bool) (s : Saving) (back : Pending) (next : _) (new : Saving) (after : Pending)
      → saves.GoesOver refusal wsize z room by_reply s back next new after → PartsAt back → PartsAt after
  over-parts (Some fault) wsize z room by_reply s back next new after g k = same-parts back after g.1 k
  over-parts None wsize z room by_reply s back next new after g k =
      if-parts (saves.may_send room s) z by_reply (chosen s.upto wsize (of_file s.file back)) s back next new after g k

  pub goes-parts : (wsize z : ℕ) (room by_reply : Bool) (s : Saving) (back : Pending) (next : _) (new : Saving) (after : Pending)
      → saves.Goes wsize z room by_reply s back next new after → PartsAt back → PartsAt after
  goes-parts wsize z room by_reply s back next new after g k = over-parts s.refusal wsize z room by_reply s back next new after g k

  -- ---- its call is answered, or couldn't be made

  module _ (wsize : ℕ) (sent turn : Turn) where
    back-parts : (back after : Pending) (file : List ℕ) → EachSound back → OnFile back after file (at_xid (landed by_change.Return) sent.xid (of_file file back)) → PartsAt back → PartsAt after
    back-parts back after file sound on k = change-parts (at_xid (landed by_change.Return) sent.xid) back after file on (λ u. returned-parts u sent.xid (of_file f back) (sound f)) k

    module _ (back : Pending) (sound : EachSound back) where
      wrote-parts : (how size : ℕ) (wcc : Wcc) (count committed : ℕ) (verf : Verf) (file : List ℕ) (between : Pending) (refusal : Option Fault)
          → saves.Lands sent.xid file (write_told how size (Ok (replies.File (kept.Write wcc count committed verf)))) back between refusal → PartsAt back → PartsAt between
      wrote-parts how size wcc count committed verf file between refusal l k = by (nat_lt committed how || nat_lt 2 committed) ((count == 0) || nat_lt size count) refl refl
        where
          done : (refusal : Option Fault) → (nat_lt committed how || nat_lt 2 committed) ≡ false → ((count == 0) || nat_lt size count) ≡ false
              → saves.Lands sent.xid file (write_told how size (Ok (replies.File (kept.Write wcc count committed verf)))) back between refusal → PartsAt between
          done None p q l =
              let on : OnFile back between file (at_xid (landed_part (acked_by committed verf) count) sent.xid (of_file file back)) = (rw (p, q) at l) in
              change-parts (at_xid (landed_part (acked_by committed verf) count) sent.xid) back between file on (λ u. acked-parts u sent.xid (of_file f back) count committed verf (sound f)) k
          done (Some fault) p q l =
              let on : (fault ≡ Memory) × OnFile back between file (at_xid (landed by_change.Return) sent.xid (of_file file back)) = (rw (p, q) at l) in
              back-parts back between file sound on.1 k

          by : (a c : Bool) → (nat_lt committed how || nat_lt 2 committed) ≡ a → ((count == 0) || nat_lt size count) ≡ c → PartsAt between
          by true c p q =
              let on : (refusal ≡ Some (Bad 3)) × OnFile back between file (at_xid (landed by_change.Return) sent.xid (of_file file back)) = (rw p at l) in
              back-parts back between file sound on.1 k
          by false true p q =
              let on : (refusal ≡ Some (Bad 4)) × OnFile back between file (at_xid (landed by_change.Return) sent.xid (of_file file back)) = (rw (p, q) at l) in
              back-parts back between file sound on.1 k
          by false false p q = done refusal p q l

      lands-parts : (how size : ℕ) (what : Result Reply Fault) (file : List ℕ) (between : Pending) (refusal : Option Fault) → saves.Lands sent.xid file (write_told how size what) back between refusal
          → PartsAt back → PartsAt between
      lands-parts how size (Err fault) file between refusal l k = back-parts back between file sound l.1 k
      lands-parts how size (Ok (replies.Mount reply)) file between refusal l k = back-parts back between file sound l.1 k
      lands-parts how size (Ok (replies.Dir reply)) file between refusal l k = back-parts back between file sound l.1 k
      lands-parts how size (Ok (replies.File (kept.Write wcc count committed verf))) file between refusal l k = wrote-parts how size wcc count committed verf file between refusal l k
      lands-parts how size (Ok (replies.File (kept.WriteFail status wcc))) file between refusal l k =
          change-parts (at_xid (landed (by_change.Refuse status.0)) sent.xid) back between file l.1 (λ u. refused-parts u sent.xid (of_file f back) status.0 (sound f)) k
      lands-parts how size (Ok (replies.File reply)) file between refusal l k = back-parts back between file sound l.1 k

      write-parts : (how size : ℕ) (what : Result Reply Fault) (s : Saving) (next : _) (new : Saving) (after : Pending)
          → saves.TakesWrite wsize sent.xid turn.xid turn.room (write_told how size what) s back next new after → PartsAt back → PartsAt after
      write-parts how size what s next new after g k =
          goes-parts wsize turn.xid turn.room g.counts (saves.refused_by g.refusal s) g.between next new after g.goes (lands-parts how size what s.file g.between g.refusal g.lands k)

      repeats-parts : (again : Bool) (how size : ℕ) (what : Result Reply Fault) (s : Saving) (next : _) (new : Saving) (after : Pending)
          → saves.RepeatsWrite again wsize sent turn (write_told how size what) s back next new after → PartsAt back → PartsAt after
      repeats-parts true how size what s next new after r k = change-parts (with_xid sent.xid turn.xid) back after s.file r.1 (λ u. renamed-parts u sent.xid (of_file f back) turn.xid (sound f)) k
      repeats-parts false how size what s next new after r k = write-parts how size what (saves.less_waiting s) next new after r k

      told-parts : (busy : Bool) (how size : ℕ) (what : Result Reply Fault) (repeats : List Repeat) (s : Saving) (next : _) (new : Saving) (after : Pending) (later : List Repeat)
          → saves.TakesToldIf busy wsize sent turn (write_told how size what) repeats s back next new after later → PartsAt back → PartsAt after
      told-parts false how size what repeats s next new after later g k = write-parts how size what (saves.less_waiting s) next new after g.0 k
      told-parts true how size what repeats s next new after later (inl r) k = repeats-parts (goes_again true sent turn repeats) how size what s next new after r.0 k
      told-parts true how size what repeats s next new after later (inr r) k = write-parts how size (Err Memory) (saves.less_waiting s) next new after r.0 k

      decides-parts : (verdict : Verdict) (s : Saving) (between : Pending) (next : _) (new : Saving) (after : Pending) → saves.Decides verdict wsize turn.xid turn.room s between next new after → PartsAt between → PartsAt after
      decides-parts AllStable s between next new after d k = same-parts between after d.1 k
      decides-parts (SendAgain count) s between next new after d k = goes-parts wsize turn.xid turn.room false (record s { phase = Resending }) between next new after d k

      -- of the save whose COMMIT is answered
      abbrev Had : Saving → Type 0
      Had s = f ≡ s.file → EachUpTo s.upto IsHeld (of_file f back) × ((of_file f back).pieces ≡ []) × (s.upto ≤ n)

      commit-parts : (t : Result Verf Fault) (s : Saving) (next : _) (new : Saving) (after : Pending) → Had s → saves.TakesCommit wsize turn.xid turn.room t s back next new after → PartsAt back → PartsAt after
      commit-parts (Err fault) s next new after had g k = same-parts back after g.1 k
      commit-parts (Ok verf) s next new after had g k =
          decides-parts (verdict_of (lost verf s.upto (of_file s.file back).segments)) s g.between next new after g.goes
          (on-parts back g.between s.file (decided s.upto verf (of_file s.file back)) g.decides (λ same.
          let h = had same in
          let v = most k.0 s.upto in
          let low = k.1 in
          let last = h.2 in
          let least : v.0 ≤ n = elim v.3 [ inl z ↦ omega (arith, z, low) | inr z ↦ omega (arith, z, last) ] in (
            v.0,
            least,
            subst (λ (g_ : List ℕ). Parts v.0 (decided s.upto verf (of_file g_ back))) same
                (decided-parts s.upto verf k.0 v.0 v.1 v.2 v.3 (of_file f back) (sound f) h.0 h.1 k.2),
          )) k)

      first-parts : (again : Bool) (t : Result Verf Fault) (s : Saving) (next : _) (new : Saving) (after : Pending) → Had s → saves.TakesFirst again wsize turn t s back next new after → PartsAt back → PartsAt after
      first-parts true t s next new after had g k = same-parts back after g.1 k
      first-parts false t s next new after had g k = commit-parts t (saves.less_waiting s) next new after had g k

      in-parts : (came : Result Reply Fault) (phase : Phase) (repeats : List Repeat) (s : Saving) (next : _) (new : Saving) (after : Pending) (later : List Repeat)
          → (phase ≡ Committing → Had s) → saves.TakesIn phase wsize sent turn came repeats s back next new after later → PartsAt back → PartsAt after
      in-parts came Sending repeats s next new after later had g k =
          told-parts (saves.may_again (saves.told_busy (saves.told_of sent.xid s.file back came)) s) (saves.answered sent.xid s.file back).how (length (saves.answered sent.xid s.file back).bytes) came repeats s next new after later g k
      in-parts came Resending repeats s next new after later had g k =
          told-parts (saves.may_again (saves.told_busy (saves.told_of sent.xid s.file back came)) s) (saves.answered sent.xid s.file back).how (length (saves.answered sent.xid s.file back).bytes) came repeats s next new after later g k
      in-parts came Committing repeats s next new after later had g k = first-parts (saves.commit_again (commit_told came) sent turn repeats s) (commit_told came) s next new after (had refl) g.0 k
      in-parts came CommittingAgain repeats s next new after later had g k = same-parts back after g.1 k

      had-of : (s : Saving) → (f ≡ s.file → IsUnderWay s back × (s.upto ≤ n)) → s.phase ≡ Committing → Had s
      had-of s way is same =
          let w = way same in
          let has : EachUpTo s.upto IsHeld (of_file s.file back) = subst (λ (p : Phase). PhaseHas p s.refusal s.upto (of_file s.file back)) is w.0.has in
          let counts : (s.waiting ≡ 1) × ((of_file s.file back).pieces ≡ []) = subst (λ (p : Phase). PhaseCounts p s.waiting (of_file s.file back).pieces) is w.0.counts in
          (subst (λ (g : List ℕ). EachUpTo s.upto IsHeld (of_file g back)) (sym same) has, subst (λ (g : List ℕ). (of_file g back).pieces ≡ []) (sym same) counts.1, w.1)

    pub takes-parts : (came : Result Reply Fault) (repeats : List Repeat) (s : Saving) (back : Pending) (next : _) (new : Saving) (after : Pending) (later : List Repeat)
        → saves.Takes wsize sent turn came repeats s back next new after later → EachSound back → (f ≡ s.file → IsUnderWay s back × (s.upto ≤ n)) → PartsAt back → PartsAt after
    takes-parts came repeats s back next new after later g sound way k = in-parts back sound came s.phase repeats s next new after later (had-of back sound s way) g k

    -- it couldn't be made: all of it comes back
    module _ (fault : Fault) where
      write-none : (how size : ℕ) (s : Saving) (back : Pending) (next : _) (new : Saving) (after : Pending) → EachSound back
          → saves.TakesWrite wsize sent.xid turn.xid turn.room (write_told how size (Err fault)) s back next new after → PartsAt back → PartsAt after
      write-none how size s back next new after sound g k =
          goes-parts wsize turn.xid turn.room g.counts (saves.refused_by g.refusal s) g.between next new after g.goes (back-parts back g.between s.file sound g.lands.1 k)

      first-none : (again : Bool) (s : Saving) (back : Pending) (next : _) (new : Saving) (after : Pending) → saves.TakesFirst again wsize turn (Err fault) s back next new after → PartsAt back → PartsAt after
      first-none true s back next new after g k = same-parts back after g.1 k
      first-none false s back next new after g k = same-parts back after g.1 k

      in-none : (phase : Phase) (repeats : List Repeat) (s : Saving) (back : Pending) (next : _) (new : Saving) (after : Pending) (later : List Repeat) → EachSound back
          → saves.TakesIn phase wsize sent turn (Err fault) repeats s back next new after later → PartsAt back → PartsAt after
      in-none Sending repeats s back next new after later sound g k =
          write-none (saves.answered sent.xid s.file back).how (length (saves.answered sent.xid s.file back).bytes) (saves.less_waiting s) back next new after sound g.0 k
      in-none Resending repeats s back next new after later sound g k =
          write-none (saves.answered sent.xid s.file back).how (length (saves.answered sent.xid s.file back).bytes) (saves.less_waiting s) back next new after sound g.0 k
      in-none Committing repeats s back next new after later sound g k = first-none (saves.commit_again (Err fault) sent turn repeats s) s back next new after g.0 k
      in-none CommittingAgain repeats s back next new after later sound g k = same-parts back after g.1 k

      pub unmade-parts : (repeats : List Repeat) (s : Saving) (back : Pending) (next : _) (new : Saving) (after : Pending) (later : List Repeat) → EachSound back
          → saves.Takes wsize sent turn (Err fault) repeats s back next new after later → PartsAt back → PartsAt after
      unmade-parts repeats s back next new after later sound g k = in-none s.phase repeats s back next new after later sound g k

-- bytes come in under the next number
pub adds-parts : (f : List ℕ) (n : ℕ) (file : List ℕ) (offset : ℕ) (bytes : List ℕ) (old new : Pending) → EachSound old → OnFile old new file (with_bytes offset bytes (n + 1) (of_file file old)) → PartsAt f n old → PartsAt f (n + 1) new
adds-parts f n file offset bytes old new sound on k =
    let low = k.1 in
    on-parts f (n + 1) old new file (with_bytes offset bytes (n + 1) (of_file file old)) on (λ same. (
      k.0,
      omega (arith, low),
      subst (λ (g : List ℕ). Parts k.0 (with_bytes offset bytes (n + 1) (of_file g old))) same
          (put-parts k.0 offset bytes (n + 1) (of_file f old) (with_bytes offset bytes (n + 1) (of_file f old)) (omega (arith, low))
          (puts-with offset bytes (n + 1) (of_file f old) (with_bytes offset bytes (n + 1) (of_file f old)) (sound f) refl) k.2),
    )) (k.0, omega (arith, low), k.2)
