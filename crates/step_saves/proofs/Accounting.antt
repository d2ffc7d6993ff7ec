-- What each change of what is pending makes of one byte that is accounted for.
use Rattle.std.proofs.Common.{inl, inr, ◌⊎◌, ◌≡◌, ◌≢◌, ◌<◌, ◌≤◌, ◌+◌, ◌-◌, ◌&&◌, ℕ, Bool, true, false, List, length, Some, None, refl, sym, ap, subst, ◌∙◌, arith}
use Rattle.std.specs.Prelude.{nat_le, nat_lt, nat_eq, slice_index, if◌then◌else◌}
use Rattle.std.specs.Cmp.Lexicographic.{same_text}
use Rattle.std.specs.Option.{option_map}
use Rattle.std.proofs.lemmas.Bool.{leb-true, ltb-true, and_parts}
use Rattle.nfs_types.specs.declared.verf.Verf.{Verf}
use Rattle.write_back.specs.declared.state.State.{State}
use Rattle.write_back.specs.declared.state.State.TheVariants.{Waiting, Acked}
use Rattle.write_back.specs.declared.state.Ready.TheVariants.{Unsent, Again, Refused}
use Rattle.write_back.specs.declared.change.Change.{Change}
use Rattle.write_back.specs.declared.change.Change.TheVariants as by_change
use Rattle.write_back.specs.States.{same_verf}
use Rattle.write_back.specs.Files.{Pending, of_file, OnFile}
use Rattle.write_back.specs.Pieces.{Sent, FilePending, Flown, rest_at, fly_at, flown_in}
use Rattle.write_back.specs.Places.{PutsBytes, PutsInFlight, Lands, Cuts, newer_or, cell_landed, cell_cut}
use Rattle.write_back.specs.Segments.{Cell, covers}
use Rattle.write_back.specs.Sound.{IsWhole}
use Rattle.write_back.specs.Waits.{flown_as_of}
use Rattle.write_back.proofs.Flying.{flown-some}
use Rattle.write_back.proofs.Keys.{low-of}
use Rattle.write_back.proofs.WritesByFile.{same-or}
use Rattle.commit_verf.specs.Decisions.{cell_decided, cell_with}
use Rattle.step_pending.proofs.Leading.{if-true, if-false}
use Rattle.step_pending.proofs.Shown.{some-of}
use Rattle.step_saves.specs.Accounts.{Account, it_waits, it_flies, is_held, is_done}
use Rattle.step_saves.specs.Saves.{IsClearUpTo}

abbrev pub cell_of : ℕ → ℕ → State → Cell
cell_of byte number state = record { byte = byte; number = number; state = state }

one-cell : (a b : Cell) → Some a ≡ Some b → a ≡ b
one-cell a b e = cc

cell-is : (a : Cell) (byte number : ℕ) (state : State) → a.byte ≡ byte → a.number ≡ number → a.state ≡ state → Some a ≡ Some (cell_of byte number state)
cell-is a byte number state b n s =
    ap (λ z. Some (cell_of z a.number a.state)) b ∙ ap (λ z. Some (cell_of byte z a.state)) n ∙ ap (λ z. Some (cell_of byte number z)) s

as-flown-byte : (x y : ℕ) (flown : Flown) → ((flown_as_of x y flown).byte ≡ flown.byte) × ((flown_as_of x y flown).number ≡ flown.number)
as-flown-byte x y flown = by (nat_eq flown.xid x) refl
  where
    by : (b : Bool) → nat_eq flown.xid x ≡ b → ((flown_as_of x y flown).byte ≡ flown.byte) × ((flown_as_of x y flown).number ≡ flown.number)
    by true h = rw h (refl, refl)
    by false h = rw h (refl, refl)

-- it is known of a place of the file, a byte and a number
module _ (place byte number : ℕ) (Wrote : List ℕ → Type 0) (Done : Type 0) where
  abbrev pub Known : FilePending → Type 0
  Known of = Account place byte number Wrote Done of

  pub known-same : (of new : FilePending) → rest_at new place ≡ rest_at of place → fly_at new place ≡ fly_at of place → Known of → Known new
  known-same of new rest fly (it_waits ready at) = it_waits ready (rest ∙ at)
  known-same of new rest fly (it_flies flown at b n none) = it_flies flown (fly ∙ at) b n (rest ∙ none)
  known-same of new rest fly (is_held verf at w) = is_held verf (rest ∙ at) w
  known-same of new rest fly (is_done d) = is_done d

  -- bytes come in: its own, or those of another write
  pub known-in : (offset : ℕ) (bytes : List ℕ) (of new : FilePending) → PutsBytes offset bytes number of new → covers offset (length bytes) place ≡ true
      → slice_index bytes (place - offset) ≡ byte → Known new
  known-in offset bytes of new puts inside has =
      it_waits Unsent (puts.rest place ∙ if-true (covers offset (length bytes) place) (Some (cell_of (slice_index bytes (place - offset)) number (Waiting Unsent))) (rest_at of place) inside
      ∙ ap (λ b. Some (cell_of b number (Waiting Unsent))) has)

  pub known-adds : (offset : ℕ) (bytes : List ℕ) (other : ℕ) (of new : FilePending) → PutsBytes offset bytes other of new → (covers offset (length bytes) place ≡ true → Done) → Known of → Known new
  known-adds offset bytes other of new puts over known = by (covers offset (length bytes) place) refl
    where
      by : (b : Bool) → covers offset (length bytes) place ≡ b → Known new
      by true h = is_done (over h)
      by false h =
          known-same of new
          (puts.rest place ∙ if-false (covers offset (length bytes) place) (Some (cell_of (slice_index bytes (place - offset)) other (Waiting Unsent))) (rest_at of place) h)
          (puts.fly place) known

  -- a piece takes off
  pub known-sent : (piece : Sent) (upto : ℕ) (of new : FilePending) → IsWhole piece → PutsInFlight piece upto of new → Known of → Known new
  known-sent piece upto of new whole puts known = by (covers piece.offset (length piece.bytes) place) refl
    where
      taken : covers piece.offset (length piece.bytes) place ≡ true → Known of → Known new
      taken h (is_done d) = is_done d
      taken h (it_flies flown at b n none) = let k : None ≡ Some flown = sym (puts.free place h) ∙ at in absurd cc
      taken h (is_held verf at w) =
          let flown = some-of (flown_in piece place) (flown-some piece place whole h) in
          let k : Some (cell_of byte number (Acked verf)) ≡ Some (cell_of flown.0.byte flown.0.number (Waiting flown.0.before)) = sym at ∙ puts.was place flown.0 h flown.1 in
          let same : Acked verf ≡ Waiting flown.0.before = ap (λ (z : Cell). z.state) (one-cell (cell_of byte number (Acked verf)) (cell_of flown.0.byte flown.0.number (Waiting flown.0.before)) k) in
          absurd cc
      taken h (it_waits ready at) =
          let flown = some-of (flown_in piece place) (flown-some piece place whole h) in
          let k : Some (cell_of flown.0.byte flown.0.number (Waiting flown.0.before)) ≡ Some (cell_of byte number (Waiting ready)) = sym (puts.was place flown.0 h flown.1) ∙ at in
          let same : cell_of flown.0.byte flown.0.number (Waiting flown.0.before) ≡ cell_of byte number (Waiting ready) =
          one-cell (cell_of flown.0.byte flown.0.number (Waiting flown.0.before)) (cell_of byte number (Waiting ready)) k in
          it_flies flown.0
          (puts.fly place ∙ if-true (covers piece.offset (length piece.bytes) place) (flown_in piece place) (fly_at of place) h ∙ flown.1)
          (ap (λ (z : Cell). z.byte) same) (ap (λ (z : Cell). z.number) same)
          (puts.rest place ∙ if-true (covers piece.offset (length piece.bytes) place) None (rest_at of place) h)

      by : (b : Bool) → covers piece.offset (length piece.bytes) place ≡ b → Known new
      by true h = taken h known
      by false h =
          known-same of new (puts.rest place ∙ if-false (covers piece.offset (length piece.bytes) place) None (rest_at of place) h)
          (puts.fly place ∙ if-false (covers piece.offset (length piece.bytes) place) (flown_in piece place) (fly_at of place) h) known

  -- what a change of what was in flight is to leave of it
  abbrev pub Falls : Change → (FilePending → Type 0)
  Falls change new = (flown : Flown) → flown.byte ≡ byte → flown.number ≡ number → rest_at new place ≡ cell_landed change (Some flown) → Known new

  pub falls-return : (new : FilePending) → Falls by_change.Return new
  falls-return new flown b n at = it_waits flown.before (at ∙ cell-is (cell_of flown.byte flown.number (Waiting flown.before)) byte number (Waiting flown.before) b n refl)

  pub falls-refuse : (status : ℕ) (new : FilePending) → Falls (by_change.Refuse status) new
  falls-refuse status new flown b n at = it_waits (Refused status) (at ∙ cell-is (cell_of flown.byte flown.number (Waiting (Refused status))) byte number (Waiting (Refused status)) b n refl)

  pub falls-ack : (verf : Verf) (new : FilePending) → Wrote verf.0 → Falls (by_change.Ack verf) new
  falls-ack verf new w flown b n at = is_held verf (at ∙ cell-is (cell_of flown.byte flown.number (Acked verf)) byte number (Acked verf) b n refl) w

  pub falls-store : (new : FilePending) → Done → Falls by_change.Store new
  falls-store new d flown b n at = is_done d

  -- a piece lands
  pub known-landed : (piece : Sent) (count : ℕ) (first others : Change) (of new : FilePending) → Lands piece count first others of new
      → (covers piece.offset (length piece.bytes) place ≡ true → place < piece.offset + count → (flown : Flown) → fly_at of place ≡ Some flown → flown.byte ≡ byte → Falls first new)
      → Falls others new → Known of → Known new
  known-landed piece count first others of new lands early late known = by (covers piece.offset (length piece.bytes) place) refl
    where
      rested : covers piece.offset (length piece.bytes) place ≡ true
          → rest_at new place ≡ newer_or (rest_at of place) (cell_landed (if nat_lt (place - piece.offset) count then first else others) (fly_at of place))
      rested h =
          lands.rest place ∙ if-true (covers piece.offset (length piece.bytes) place)
          (newer_or (rest_at of place) (cell_landed (if nat_lt (place - piece.offset) count then first else others) (fly_at of place))) (rest_at of place) h

      down : covers piece.offset (length piece.bytes) place ≡ true → Known of → Known new
      down h (is_done d) = is_done d
      down h (it_waits ready at) =
          it_waits ready (rested h ∙ ap (λ o. newer_or o (cell_landed (if nat_lt (place - piece.offset) count then first else others) (fly_at of place))) at)
      down h (is_held verf at w) =
          is_held verf (rested h ∙ ap (λ o. newer_or o (cell_landed (if nat_lt (place - piece.offset) count then first else others) (fly_at of place))) at) w
      down h (it_flies flown at b n none) = which (nat_lt (place - piece.offset) count) refl
        where
          left : rest_at new place ≡ cell_landed (if nat_lt (place - piece.offset) count then first else others) (Some flown)
          left =
              rested h ∙ ap (λ o. newer_or o (cell_landed (if nat_lt (place - piece.offset) count then first else others) (fly_at of place))) none
              ∙ ap (cell_landed (if nat_lt (place - piece.offset) count then first else others)) at

          which : (c : Bool) → nat_lt (place - piece.offset) count ≡ c → Known new
          which true g =
              let reached : place < piece.offset + count = omega (arith, low-of piece.offset (piece.offset + length piece.bytes) place h, ltb-true (place - piece.offset) count g) in
              early h reached flown at b flown b n (left ∙ ap (λ z. cell_landed z (Some flown)) (if-true (nat_lt (place - piece.offset) count) first others g))
          which false g = late flown b n (left ∙ ap (λ z. cell_landed z (Some flown)) (if-false (nat_lt (place - piece.offset) count) first others g))

      by : (b : Bool) → covers piece.offset (length piece.bytes) place ≡ b → Known new
      by true h = down h known
      by false h =
          known-same of new
          (lands.rest place ∙ if-false (covers piece.offset (length piece.bytes) place)
          (newer_or (rest_at of place) (cell_landed (if nat_lt (place - piece.offset) count then first else others) (fly_at of place))) (rest_at of place) h)
          (lands.fly place ∙ if-false (covers piece.offset (length piece.bytes) place) None (fly_at of place) h) known

  -- another xid
  pub known-renamed : (x y : ℕ) (of new : FilePending) → rest_at new place ≡ rest_at of place → fly_at new place ≡ option_map (flown_as_of x y) (fly_at of place) → Known of → Known new
  known-renamed x y of new rest fly (it_waits ready at) = it_waits ready (rest ∙ at)
  known-renamed x y of new rest fly (it_flies flown at b n none) =
      it_flies (flown_as_of x y flown) (fly ∙ ap (option_map (flown_as_of x y)) at) ((as-flown-byte x y flown).0 ∙ b) ((as-flown-byte x y flown).1 ∙ n) (rest ∙ none)
  known-renamed x y of new rest fly (is_held verf at w) = is_held verf (rest ∙ at) w
  known-renamed x y of new rest fly (is_done d) = is_done d

  -- a COMMIT's verifier
  pub known-decided : (upto : ℕ) (verf : Verf) (of new : FilePending) → rest_at new place ≡ cell_decided upto verf (rest_at of place) → fly_at new place ≡ fly_at of place
      → (Wrote verf.0 → Done) → Known of → Known new
  known-decided upto verf of new rest fly settled (it_waits ready at) = it_waits ready (rest ∙ ap (cell_decided upto verf) at)
  known-decided upto verf of new rest fly settled (it_flies flown at b n none) = it_flies flown (fly ∙ at) b n (rest ∙ ap (cell_decided upto verf) none)
  known-decided upto verf of new rest fly settled (is_done d) = is_done d
  known-decided upto verf of new rest fly settled (is_held held at w) = by (nat_le number upto) (same_verf held verf) refl refl
    where
      left : rest_at new place ≡ cell_with (cell_of byte number (Acked held)) (if nat_le number upto then (if same_verf held verf then None else Some (Waiting Again)) else Some (Acked held))
      left = rest ∙ ap (cell_decided upto verf) at

      by : (b d : Bool) → nat_le number upto ≡ b → same_verf held verf ≡ d → Known new
      by false d h g =
          is_held held (left ∙ ap (cell_with (cell_of byte number (Acked held))) (if-false (nat_le number upto) (if same_verf held verf then None else Some (Waiting Again)) (Some (Acked held)) h)) w
      by true true h g = is_done (settled (subst Wrote (same_text held.0 verf.0 (sym g)) w))
      by true false h g =
          it_waits Again (left ∙ ap (cell_with (cell_of byte number (Acked held)))
          (if-true (nat_le number upto) (if same_verf held verf then None else Some (Waiting Again)) (Some (Acked held)) h ∙ if-false (same_verf held verf) None (Some (Waiting Again)) g))

  -- a truncate
  cut-or : (size upto : ℕ) (state : State) → (size ≤ place → number ≤ upto → Done)
      → Done ⊎ (cell_cut size upto place (Some (cell_of byte number state)) ≡ Some (cell_of byte number state))
  cut-or size upto state gone = by (nat_le size place && nat_le number upto) refl
    where
      by : (b : Bool) → (nat_le size place && nat_le number upto) ≡ b → Done ⊎ (cell_cut size upto place (Some (cell_of byte number state)) ≡ Some (cell_of byte number state))
      by true h = let parts = and_parts (nat_le size place) (nat_le number upto) h in inl (gone (leb-true size place parts.0) (leb-true number upto parts.1))
      by false h = inr (if-false (nat_le size place && nat_le number upto) None (Some (cell_of byte number state)) h)

  pub known-cut : (size upto : ℕ) (of new : FilePending) → Cuts size upto of new → fly_at new place ≡ fly_at of place → (size ≤ place → number ≤ upto → Done) → Known of → Known new
  known-cut size upto of new cuts fly gone (is_done d) = is_done d
  known-cut size upto of new cuts fly gone (it_flies flown at b n none) = it_flies flown (fly ∙ at) b n (cuts.rest place ∙ ap (cell_cut size upto place) none)
  known-cut size upto of new cuts fly gone (it_waits ready at) = by (cut-or size upto (Waiting ready) gone)
    where
      by : Done ⊎ (cell_cut size upto place (Some (cell_of byte number (Waiting ready))) ≡ Some (cell_of byte number (Waiting ready))) → Known new
      by (inl d) = is_done d
      by (inr same) = it_waits ready (cuts.rest place ∙ ap (cell_cut size upto place) at ∙ same)
  known-cut size upto of new cuts fly gone (is_held verf at w) = by (cut-or size upto (Acked verf) gone)
    where
      by : Done ⊎ (cell_cut size upto place (Some (cell_of byte number (Acked verf))) ≡ Some (cell_of byte number (Acked verf))) → Known new
      by (inl d) = is_done d
      by (inr same) = is_held verf (cuts.rest place ∙ ap (cell_cut size upto place) at ∙ same) w

  -- where nothing up to a number is pending, it is pending no more
  pub known-clear : (upto : ℕ) (of : FilePending) → IsClearUpTo upto of → number ≤ upto → Known of → Done
  known-clear upto of clear old (is_done d) = d
  known-clear upto of clear old (it_waits ready at) = let above : upto < number = clear.rest place (cell_of byte number (Waiting ready)) at in absurd (omega (arith, above, old))
  known-clear upto of clear old (is_held verf at w) = let above : upto < number = clear.rest place (cell_of byte number (Acked verf)) at in absurd (omega (arith, above, old))
  known-clear upto of clear old (it_flies flown at b n none) = let above : upto < flown.number = clear.fly place flown at in absurd (omega (arith, above, n, old))

-- what it is known by may be less
pub known-more : (place byte number : ℕ) (Wrote Wrote' : List ℕ → Type 0) (Done Done' : Type 0) (of : FilePending) → ((v : List ℕ) → Wrote v → Wrote' v) → (Done → Done')
    → Account place byte number Wrote Done of → Account place byte number Wrote' Done' of
known-more place byte number Wrote Wrote' Done Done' of more less (it_waits ready at) = it_waits ready at
known-more place byte number Wrote Wrote' Done Done' of more less (it_flies flown at b n none) = it_flies flown at b n none
known-more place byte number Wrote Wrote' Done Done' of more less (is_held verf at w) = is_held verf at (more verf.0 w)
known-more place byte number Wrote Wrote' Done Done' of more less (is_done d) = is_done (less d)

-- a change of one file, for the byte of a file
pub on-known : (P : FilePending → Type 0) (file to : List ℕ) (old new : Pending) (of : FilePending) → OnFile old new to of → (to ≡ file → P (of_file to old) → P of) → P (of_file file old) → P (of_file file new)
on-known P file to old new of on turn p = by (same-or file to)
  where
    by : (to ≡ file) ⊎ (to ≢ file) → P (of_file file new)
    by (inl same) =
        subst P (sym (ap (λ (f : List ℕ). of_file f new) (sym same) ∙ on.here)) (turn same (subst (λ (f : List ℕ). P (of_file f old)) (sym same) p))
    by (inr apart) = subst P (sym (on.others file (λ is. apart (sym is)))) p
