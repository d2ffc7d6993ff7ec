-- What each change of what is pending makes of one byte that an operation added: from its first flight on nothing else flies at its place, or rests there.
use Rattle.core_session.proofs.Prelude.{inl, inr, ◌⊎◌, ◌≡◌, ◌<◌, ◌≤◌, ◌+◌, ◌-◌, ◌&&◌, ℕ, Bool, true, false, List, length, Some, None, refl, sym, ap, subst, ◌∙◌, arith, nat_lt, slice_index, if◌then◌else◌, ltb-true, Verf, Change, FilePending, Flown, nothing, rest_at, fly_at, flown_in, PutsInFlight, Cell, covers, flown-some, low-of, some-of, flown-from, IsClearUpTo}
use Rattle.std.specs.Prelude.{nat_le, nat_eq}
use Rattle.std.proofs.lemmas.Bool.{leb-true, and_parts}
use Rattle.write_back.specs.Pieces.{Sent}
use Rattle.write_back.specs.Places.{PutsBytes, Lands, Cuts, newer_or, cell_landed, cell_cut}
use Rattle.std.specs.Cmp.Lexicographic.{same_text}
use Rattle.std.specs.Option.{option_map}
use Rattle.write_back.specs.declared.state.State.{State}
use Rattle.write_back.specs.declared.state.State.TheVariants.{Waiting, Acked}
use Rattle.write_back.specs.declared.state.Ready.{Ready}
use Rattle.write_back.specs.declared.state.Ready.TheVariants.{Unsent, Again, Refused}
use Rattle.write_back.specs.declared.change.Change.TheVariants as by_change
use Rattle.write_back.specs.States.{same_verf}
use Rattle.write_back.specs.Sound.{IsWhole}
use Rattle.write_back.specs.Waits.{flown_as_of}
use Rattle.commit_verf.specs.Decisions.{cell_decided, cell_with}
use Rattle.step_pending.proofs.Leading.{if-true, if-false}

abbrev pub cell_of : ℕ → ℕ → State → Cell
cell_of byte number state = record { byte = byte; number = number; state = state }

-- The byte at a place that came with a write's number: it was never in flight; or, first in flight at the place k of the history, it is in flight, waits
-- to be sent again, is held by the server under a write verifier, or is stable; or Over holds.
pub data Stage (place byte number : ℕ) (Fresh : ℕ → ℕ → Type 0) (Since : ℕ → Type 0) (Wrote : ℕ → List ℕ → Type 0) (Made : ℕ → Type 0) (Over : Type 0) (of : FilePending) : Type 0 where
  unsent : (ready : Ready) → rest_at of place ≡ Some (record { byte = byte; number = number; state = Waiting ready }) → Since 0 → Stage place byte number Fresh Since Wrote Made Over of
  flies : (k : ℕ) (flown : Flown) → fly_at of place ≡ Some flown → flown.byte ≡ byte → flown.number ≡ number → rest_at of place ≡ None → Fresh k flown.xid → Since k
      → Stage place byte number Fresh Since Wrote Made Over of
  again : (k : ℕ) (ready : Ready) → rest_at of place ≡ Some (record { byte = byte; number = number; state = Waiting ready }) → fly_at of place ≡ None → Since k
      → Stage place byte number Fresh Since Wrote Made Over of
  held : (k : ℕ) (verf : Verf) → rest_at of place ≡ Some (record { byte = byte; number = number; state = Acked verf }) → fly_at of place ≡ None → Since k → Wrote k verf.0
      → Stage place byte number Fresh Since Wrote Made Over of
  stable : (k : ℕ) → rest_at of place ≡ None → fly_at of place ≡ None → Since k → Made k → Stage place byte number Fresh Since Wrote Made Over of
  over : Over → Stage place byte number Fresh Since Wrote Made Over of

one-cell : (a b : Cell) → Some a ≡ Some b → a ≡ b
one-cell a b e = cc

cell-is : (a : Cell) (byte number : ℕ) (state : State) → a.byte ≡ byte → a.number ≡ number → a.state ≡ state → Some a ≡ Some (cell_of byte number state)
cell-is a byte number state b n s =
    ap (λ z. Some (cell_of z a.number a.state)) b ∙ ap (λ z. Some (cell_of byte z a.state)) n ∙ ap (λ z. Some (cell_of byte number z)) s

as-flown : (x y : ℕ) (flown : Flown) → ((flown_as_of x y flown).byte ≡ flown.byte) × ((flown_as_of x y flown).number ≡ flown.number)
as-flown x y flown = by (nat_eq flown.xid x) refl
  where
    by : (b : Bool) → nat_eq flown.xid x ≡ b → ((flown_as_of x y flown).byte ≡ flown.byte) × ((flown_as_of x y flown).number ≡ flown.number)
    by true h = rw h (refl, refl)
    by false h = rw h (refl, refl)

as-flown-xid : (F : ℕ → Type 0) (x y : ℕ) (flown : Flown) → F flown.xid → F y → F (flown_as_of x y flown).xid
as-flown-xid F x y flown old new = by (nat_eq flown.xid x) refl
  where
    by : (b : Bool) → nat_eq flown.xid x ≡ b → F (flown_as_of x y flown).xid
    by true h = rw h new
    by false h = rw h old

-- of a place of the file, a byte and a number
module _ (place byte number : ℕ) (Fresh : ℕ → ℕ → Type 0) (Since : ℕ → Type 0) (Wrote : ℕ → List ℕ → Type 0) (Made : ℕ → Type 0) (Over : Type 0) where
  abbrev pub Known : FilePending → Type 0
  Known of = Stage place byte number Fresh Since Wrote Made Over of

  pub known-same : (of new : FilePending) → rest_at new place ≡ rest_at of place → fly_at new place ≡ fly_at of place → Known of → Known new
  known-same of new rest fly (unsent ready at z) = unsent ready (rest ∙ at) z
  known-same of new rest fly (flies k flown at b n none f s) = flies k flown (fly ∙ at) b n (rest ∙ none) f s
  known-same of new rest fly (again k ready at none s) = again k ready (rest ∙ at) (fly ∙ none) s
  known-same of new rest fly (held k verf at none s w) = held k verf (rest ∙ at) (fly ∙ none) s w
  known-same of new rest fly (stable k none quiet s m) = stable k (rest ∙ none) (fly ∙ quiet) s m
  known-same of new rest fly (over o) = over o

  -- bytes come in: its own, or those of another write
  pub known-in : (offset : ℕ) (bytes : List ℕ) (of new : FilePending) → PutsBytes offset bytes number of new → covers offset (length bytes) place ≡ true
      → slice_index bytes (place - offset) ≡ byte → Since 0 → Known new
  known-in offset bytes of new puts inside has first =
      unsent Unsent (puts.rest place ∙ if-true (covers offset (length bytes) place) (Some (cell_of (slice_index bytes (place - offset)) number (Waiting Unsent))) (rest_at of place) inside
      ∙ ap (λ b. Some (cell_of b number (Waiting Unsent))) has) first

  pub known-adds : (offset : ℕ) (bytes : List ℕ) (other : ℕ) (of new : FilePending) → PutsBytes offset bytes other of new → (covers offset (length bytes) place ≡ true → Over) → Known of → Known new
  known-adds offset bytes other of new puts above known = by (covers offset (length bytes) place) refl
    where
      by : (b : Bool) → covers offset (length bytes) place ≡ b → Known new
      by true h = over (above h)
      by false h =
          known-same of new
          (puts.rest place ∙ if-false (covers offset (length bytes) place) (Some (cell_of (slice_index bytes (place - offset)) other (Waiting Unsent))) (rest_at of place) h)
          (puts.fly place) known

  -- a piece takes off, at the place `now` of the history
  pub known-sent : (now : ℕ) (piece : Sent) (upto : ℕ) (of new : FilePending) → ((k : ℕ) → Fresh k piece.xid) → Since now → IsWhole piece → PutsInFlight piece upto of new → Known of → Known new
  known-sent now piece upto of new fresh since whole puts known = by (covers piece.offset (length piece.bytes) place) refl
    where
      xid-of : (flown : Flown) → flown_in piece place ≡ Some flown → piece.xid ≡ flown.xid
      xid-of flown is = sym (flown-from piece place flown is).xid

      took : (h : covers piece.offset (length piece.bytes) place ≡ true) (ready : Ready) (k : ℕ) → rest_at of place ≡ Some (cell_of byte number (Waiting ready)) → Since k → Known new
      took h ready k at s =
          let flown = some-of (flown_in piece place) (flown-some piece place whole h) in
          let c : Some (cell_of flown.0.byte flown.0.number (Waiting flown.0.before)) ≡ Some (cell_of byte number (Waiting ready)) = sym (puts.was place flown.0 h flown.1) ∙ at in
          let same : cell_of flown.0.byte flown.0.number (Waiting flown.0.before) ≡ cell_of byte number (Waiting ready) =
          one-cell (cell_of flown.0.byte flown.0.number (Waiting flown.0.before)) (cell_of byte number (Waiting ready)) c in
          flies k flown.0
          (puts.fly place ∙ if-true (covers piece.offset (length piece.bytes) place) (flown_in piece place) (fly_at of place) h ∙ flown.1)
          (ap (λ (z : Cell). z.byte) same) (ap (λ (z : Cell). z.number) same)
          (puts.rest place ∙ if-true (covers piece.offset (length piece.bytes) place) None (rest_at of place) h)
          (subst (Fresh k) (xid-of flown.0 flown.1) (fresh k)) s

      taken : covers piece.offset (length piece.bytes) place ≡ true → Known of → Known new
      taken h (over o) = over o
      taken h (flies k flown at b n none f s) = let e : None ≡ Some flown = sym (puts.free place h) ∙ at in absurd cc
      taken h (held k verf at none s w) =
          let flown = some-of (flown_in piece place) (flown-some piece place whole h) in
          let c : Some (cell_of byte number (Acked verf)) ≡ Some (cell_of flown.0.byte flown.0.number (Waiting flown.0.before)) = sym at ∙ puts.was place flown.0 h flown.1 in
          let same : Acked verf ≡ Waiting flown.0.before = ap (λ (z : Cell). z.state) (one-cell (cell_of byte number (Acked verf)) (cell_of flown.0.byte flown.0.number (Waiting flown.0.before)) c) in
          absurd cc
      taken h (stable k none quiet s m) =
          let flown = some-of (flown_in piece place) (flown-some piece place whole h) in
          let c : None ≡ Some (cell_of flown.0.byte flown.0.number (Waiting flown.0.before)) = sym none ∙ puts.was place flown.0 h flown.1 in
          absurd cc
      taken h (unsent ready at z) = took h ready now at since
      taken h (again k ready at none s) = took h ready k at s

      by : (b : Bool) → covers piece.offset (length piece.bytes) place ≡ b → Known new
      by true h = taken h known
      by false h =
          known-same of new (puts.rest place ∙ if-false (covers piece.offset (length piece.bytes) place) None (rest_at of place) h)
          (puts.fly place ∙ if-false (covers piece.offset (length piece.bytes) place) (flown_in piece place) (fly_at of place) h) known

  -- what a change of what was in flight is to leave of it
  abbrev pub Falls : ℕ → Change → FilePending → Type 0
  Falls k change new = (flown : Flown) → flown.byte ≡ byte → flown.number ≡ number → rest_at new place ≡ cell_landed change (Some flown) → fly_at new place ≡ None → Since k → Known new

  pub falls-return : (k : ℕ) (new : FilePending) → Falls k by_change.Return new
  falls-return k new flown b n at none s = again k flown.before (at ∙ cell-is (cell_of flown.byte flown.number (Waiting flown.before)) byte number (Waiting flown.before) b n refl) none s

  pub falls-refuse : (status k : ℕ) (new : FilePending) → Falls k (by_change.Refuse status) new
  falls-refuse status k new flown b n at none s =
      again k (Refused status) (at ∙ cell-is (cell_of flown.byte flown.number (Waiting (Refused status))) byte number (Waiting (Refused status)) b n refl) none s

  pub falls-ack : (verf : Verf) (k : ℕ) (new : FilePending) → Wrote k verf.0 → Falls k (by_change.Ack verf) new
  falls-ack verf k new w flown b n at none s = held k verf (at ∙ cell-is (cell_of flown.byte flown.number (Acked verf)) byte number (Acked verf) b n refl) none s w

  pub falls-store : (k : ℕ) (new : FilePending) → Made k → Falls k by_change.Store new
  falls-store k new d flown b n at none s = stable k at none s d

  -- a piece lands
  pub known-landed : (piece : Sent) (count : ℕ) (first others : Change) (of new : FilePending) → Lands piece count first others of new
      → (covers piece.offset (length piece.bytes) place ≡ true → place < piece.offset + count → (k : ℕ) (flown : Flown) → fly_at of place ≡ Some flown → flown.byte ≡ byte → flown.number ≡ number
      → Fresh k flown.xid → Since k → Falls k first new)
      → ((k : ℕ) → Falls k others new) → Known of → Known new
  known-landed piece count first others of new lands early late known = by (covers piece.offset (length piece.bytes) place) refl
    where
      rested : covers piece.offset (length piece.bytes) place ≡ true
          → rest_at new place ≡ newer_or (rest_at of place) (cell_landed (if nat_lt (place - piece.offset) count then first else others) (fly_at of place))
      rested h =
          lands.rest place ∙ if-true (covers piece.offset (length piece.bytes) place)
          (newer_or (rest_at of place) (cell_landed (if nat_lt (place - piece.offset) count then first else others) (fly_at of place))) (rest_at of place) h

      flown-off : covers piece.offset (length piece.bytes) place ≡ true → fly_at new place ≡ None
      flown-off h = lands.fly place ∙ if-true (covers piece.offset (length piece.bytes) place) None (fly_at of place) h

      down : covers piece.offset (length piece.bytes) place ≡ true → Known of → Known new
      down h (over o) = over o
      down h (unsent ready at z) =
          unsent ready (rested h ∙ ap (λ o. newer_or o (cell_landed (if nat_lt (place - piece.offset) count then first else others) (fly_at of place))) at) z
      down h (again k ready at none s) =
          again k ready (rested h ∙ ap (λ o. newer_or o (cell_landed (if nat_lt (place - piece.offset) count then first else others) (fly_at of place))) at) (flown-off h) s
      down h (held k verf at none s w) =
          held k verf (rested h ∙ ap (λ o. newer_or o (cell_landed (if nat_lt (place - piece.offset) count then first else others) (fly_at of place))) at) (flown-off h) s w
      down h (stable k none quiet s m) =
          stable k (rested h ∙ ap (λ o. newer_or o (cell_landed (if nat_lt (place - piece.offset) count then first else others) (fly_at of place))) none
          ∙ ap (cell_landed (if nat_lt (place - piece.offset) count then first else others)) quiet) (flown-off h) s m
      down h (flies k flown at b n none f s) = which (nat_lt (place - piece.offset) count) refl
        where
          left : rest_at new place ≡ cell_landed (if nat_lt (place - piece.offset) count then first else others) (Some flown)
          left =
              rested h ∙ ap (λ o. newer_or o (cell_landed (if nat_lt (place - piece.offset) count then first else others) (fly_at of place))) none
              ∙ ap (cell_landed (if nat_lt (place - piece.offset) count then first else others)) at

          which : (c : Bool) → nat_lt (place - piece.offset) count ≡ c → Known new
          which true g =
              let reached : place < piece.offset + count = omega (arith, low-of piece.offset (piece.offset + length piece.bytes) place h, ltb-true (place - piece.offset) count g) in
              early h reached k flown at b n f s flown b n (left ∙ ap (λ z. cell_landed z (Some flown)) (if-true (nat_lt (place - piece.offset) count) first others g)) (flown-off h) s
          which false g = late k flown b n (left ∙ ap (λ z. cell_landed z (Some flown)) (if-false (nat_lt (place - piece.offset) count) first others g)) (flown-off h) s

      by : (b : Bool) → covers piece.offset (length piece.bytes) place ≡ b → Known new
      by true h = down h known
      by false h =
          known-same of new
          (lands.rest place ∙ if-false (covers piece.offset (length piece.bytes) place)
          (newer_or (rest_at of place) (cell_landed (if nat_lt (place - piece.offset) count then first else others) (fly_at of place))) (rest_at of place) h)
          (lands.fly place ∙ if-false (covers piece.offset (length piece.bytes) place) None (fly_at of place) h) known

  -- another xid
  pub known-renamed : (x y : ℕ) (of new : FilePending) → ((k : ℕ) → Fresh k y) → rest_at new place ≡ rest_at of place → fly_at new place ≡ option_map (flown_as_of x y) (fly_at of place)
      → Known of → Known new
  known-renamed x y of new fresh rest fly (unsent ready at z) = unsent ready (rest ∙ at) z
  known-renamed x y of new fresh rest fly (flies k flown at b n none f s) =
      flies k (flown_as_of x y flown) (fly ∙ ap (option_map (flown_as_of x y)) at) ((as-flown x y flown).0 ∙ b) ((as-flown x y flown).1 ∙ n) (rest ∙ none)
      (as-flown-xid (Fresh k) x y flown f (fresh k)) s
  known-renamed x y of new fresh rest fly (again k ready at none s) = again k ready (rest ∙ at) (fly ∙ ap (option_map (flown_as_of x y)) none) s
  known-renamed x y of new fresh rest fly (held k verf at none s w) = held k verf (rest ∙ at) (fly ∙ ap (option_map (flown_as_of x y)) none) s w
  known-renamed x y of new fresh rest fly (stable k none quiet s m) = stable k (rest ∙ none) (fly ∙ ap (option_map (flown_as_of x y)) quiet) s m
  known-renamed x y of new fresh rest fly (over o) = over o

  -- a COMMIT's verifier
  pub known-decided : (upto : ℕ) (verf : Verf) (of new : FilePending) → rest_at new place ≡ cell_decided upto verf (rest_at of place) → fly_at new place ≡ fly_at of place
      → ((k : ℕ) → Since k → Wrote k verf.0 → Made k) → Known of → Known new
  known-decided upto verf of new rest fly settled (unsent ready at z) = unsent ready (rest ∙ ap (cell_decided upto verf) at) z
  known-decided upto verf of new rest fly settled (flies k flown at b n none f s) = flies k flown (fly ∙ at) b n (rest ∙ ap (cell_decided upto verf) none) f s
  known-decided upto verf of new rest fly settled (again k ready at none s) = again k ready (rest ∙ ap (cell_decided upto verf) at) (fly ∙ none) s
  known-decided upto verf of new rest fly settled (stable k none quiet s m) = stable k (rest ∙ ap (cell_decided upto verf) none) (fly ∙ quiet) s m
  known-decided upto verf of new rest fly settled (over o) = over o
  known-decided upto verf of new rest fly settled (held k own at none s w) = by (nat_le number upto) (same_verf own verf) refl refl
    where
      left : rest_at new place ≡ cell_with (cell_of byte number (Acked own)) (if nat_le number upto then (if same_verf own verf then None else Some (Waiting Again)) else Some (Acked own))
      left = rest ∙ ap (cell_decided upto verf) at

      by : (b d : Bool) → nat_le number upto ≡ b → same_verf own verf ≡ d → Known new
      by false d h g =
          held k own (left ∙ ap (cell_with (cell_of byte number (Acked own))) (if-false (nat_le number upto) (if same_verf own verf then None else Some (Waiting Again)) (Some (Acked own)) h)) (fly ∙ none) s w
      by true true h g =
          stable k (left ∙ ap (cell_with (cell_of byte number (Acked own)))
          (if-true (nat_le number upto) (if same_verf own verf then None else Some (Waiting Again)) (Some (Acked own)) h ∙ if-true (same_verf own verf) None (Some (Waiting Again)) g)) (fly ∙ none) s
          (settled k s (subst (Wrote k) (same_text own.0 verf.0 (sym g)) w))
      by true false h g =
          again k Again (left ∙ ap (cell_with (cell_of byte number (Acked own)))
          (if-true (nat_le number upto) (if same_verf own verf then None else Some (Waiting Again)) (Some (Acked own)) h ∙ if-false (same_verf own verf) None (Some (Waiting Again)) g)) (fly ∙ none) s

  -- a truncate
  cut-or : (size upto : ℕ) (state : State) → (size ≤ place → number ≤ upto → Over)
      → Over ⊎ (cell_cut size upto place (Some (cell_of byte number state)) ≡ Some (cell_of byte number state))
  cut-or size upto state gone = by (nat_le size place && nat_le number upto) refl
    where
      by : (b : Bool) → (nat_le size place && nat_le number upto) ≡ b → Over ⊎ (cell_cut size upto place (Some (cell_of byte number state)) ≡ Some (cell_of byte number state))
      by true h = let parts = and_parts (nat_le size place) (nat_le number upto) h in inl (gone (leb-true size place parts.0) (leb-true number upto parts.1))
      by false h = inr (if-false (nat_le size place && nat_le number upto) None (Some (cell_of byte number state)) h)

  pub known-cut : (size upto : ℕ) (of new : FilePending) → Cuts size upto of new → fly_at new place ≡ fly_at of place → (size ≤ place → number ≤ upto → Over) → Known of → Known new
  known-cut size upto of new cuts fly gone (over o) = over o
  known-cut size upto of new cuts fly gone (stable k none quiet s m) = stable k (cuts.rest place ∙ ap (cell_cut size upto place) none) (fly ∙ quiet) s m
  known-cut size upto of new cuts fly gone (flies k flown at b n none f s) = flies k flown (fly ∙ at) b n (cuts.rest place ∙ ap (cell_cut size upto place) none) f s
  known-cut size upto of new cuts fly gone (unsent ready at z) = by (cut-or size upto (Waiting ready) gone)
    where
      by : Over ⊎ (cell_cut size upto place (Some (cell_of byte number (Waiting ready))) ≡ Some (cell_of byte number (Waiting ready))) → Known new
      by (inl d) = over d
      by (inr same) = unsent ready (cuts.rest place ∙ ap (cell_cut size upto place) at ∙ same) z
  known-cut size upto of new cuts fly gone (again k ready at none s) = by (cut-or size upto (Waiting ready) gone)
    where
      by : Over ⊎ (cell_cut size upto place (Some (cell_of byte number (Waiting ready))) ≡ Some (cell_of byte number (Waiting ready))) → Known new
      by (inl d) = over d
      by (inr same) = again k ready (cuts.rest place ∙ ap (cell_cut size upto place) at ∙ same) (fly ∙ none) s
  known-cut size upto of new cuts fly gone (held k verf at none s w) = by (cut-or size upto (Acked verf) gone)
    where
      by : Over ⊎ (cell_cut size upto place (Some (cell_of byte number (Acked verf))) ≡ Some (cell_of byte number (Acked verf))) → Known new
      by (inl d) = over d
      by (inr same) = held k verf (cuts.rest place ∙ ap (cell_cut size upto place) at ∙ same) (fly ∙ none) s w

  -- all of the file is given up
  pub known-given : (of : FilePending) → Over → Known of → Known nothing
  known-given of gone (stable k none quiet s m) = stable k refl refl s m
  known-given of gone (unsent ready at z) = over gone
  known-given of gone (flies k flown at b n none f s) = over gone
  known-given of gone (again k ready at none s) = over gone
  known-given of gone (held k verf at none s w) = over gone
  known-given of gone (over o) = over gone

  -- where nothing up to its number is pending, it is stable, or something came over it
  pub known-clear : (upto : ℕ) (of : FilePending) → IsClearUpTo upto of → number ≤ upto → Known of → ((k : ℕ) × Since k × Made k) ⊎ Over
  known-clear upto of clear old (over o) = inr o
  known-clear upto of clear old (stable k none quiet s m) = inl (k, s, m)
  known-clear upto of clear old (unsent ready at z) = let above : upto < number = clear.rest place (cell_of byte number (Waiting ready)) at in absurd (omega (arith, above, old))
  known-clear upto of clear old (again k ready at none s) = let above : upto < number = clear.rest place (cell_of byte number (Waiting ready)) at in absurd (omega (arith, above, old))
  known-clear upto of clear old (held k verf at none s w) = let above : upto < number = clear.rest place (cell_of byte number (Acked verf)) at in absurd (omega (arith, above, old))
  known-clear upto of clear old (flies k flown at b n none f s) = let above : upto < flown.number = clear.fly place flown at in absurd (omega (arith, above, n, old))

-- what it is known by may be less
pub known-more : (place byte number : ℕ) (Fresh Fresh' : ℕ → ℕ → Type 0) (Since Since' : ℕ → Type 0) (Wrote Wrote' : ℕ → List ℕ → Type 0) (Made Made' : ℕ → Type 0) (Over Over' : Type 0)
    (of : FilePending) → ((k xid : ℕ) (flown : Flown) → fly_at of place ≡ Some flown → flown.xid ≡ xid → Fresh k xid → Fresh' k xid)
    → ((k : ℕ) → Stage place byte number Fresh Since Wrote Made Over of → Since k → Since' k) → ((k : ℕ) (v : List ℕ) → Wrote k v → Wrote' k v) → ((k : ℕ) → Made k → Made' k) → (Over → Over')
    → Stage place byte number Fresh Since Wrote Made Over of → Stage place byte number Fresh' Since' Wrote' Made' Over' of
known-more place byte number Fresh Fresh' Since Since' Wrote Wrote' Made Made' Over Over' of f since w m o (unsent ready at z) = unsent ready at (since 0 (unsent ready at z) z)
known-more place byte number Fresh Fresh' Since Since' Wrote Wrote' Made Made' Over Over' of f since w m o (flies k flown at b n none x s) =
    flies k flown at b n none (f k flown.xid flown at refl x) (since k (flies k flown at b n none x s) s)
known-more place byte number Fresh Fresh' Since Since' Wrote Wrote' Made Made' Over Over' of f since w m o (again k ready at none s) = again k ready at none (since k (again k ready at none s) s)
known-more place byte number Fresh Fresh' Since Since' Wrote Wrote' Made Made' Over Over' of f since w m o (held k verf at none s x) =
    held k verf at none (since k (held k verf at none s x) s) (w k verf.0 x)
known-more place byte number Fresh Fresh' Since Since' Wrote Wrote' Made Made' Over Over' of f since w m o (stable k none quiet s x) =
    stable k none quiet (since k (stable k none quiet s x) s) (m k x)
known-more place byte number Fresh Fresh' Since Since' Wrote Wrote' Made Made' Over Over' of f since w m o (over x) = over (o x)
