-- Of one place of a file: what is pending there was never sent, but that it may be on its way for the first time. What a step of a save makes of that.
use Rattle.core_counts.proofs.Prelude.{◌≡◌, ◌≢◌, ◌&&◌, ◌||◌, ◌==◌, ◌-◌, ◌⊎◌, inl, inr, ℕ, Bool, true, false, List, [], ◌∷◌, length, Option, Some, None, Result, Ok, Err, refl, sym, ap, subst, ◌∙◌, if◌then◌else◌, nat_lt, slice_index, Verdict, AllStable, SendAgain, decided, verdict_of, Verf, Fault, Memory, Reply, Wcc, Change, InFlight, Acked, Ready, Unsent, IsAnswer, is_in_flight, fate, lost, chosen, piece_of, Pending, of_file, with_bytes, OnFile, acked_by, at_piece, at_xid, landed, landed_part, with_cut, with_xid, Flown, FilePending, nothing, flown_in, rest_at, fly_at, piece_under, PutsInFlight, PutsBytes, Lands, cell_landed, newer_or, Segments, covers, Cell, IsSound, flown_as_of, answer-return, answer-acked, lands-one-at, puts-with, same-or, renumbers-so, Repeat, Turn, goes_again, Sending, Committing, Resending, CommittingAgain, Saving, write_told, commit_told, EachSound, if-true, if-false}
use Rattle.std.specs.Prelude.{nat_le, nat_eq}
use Rattle.world_model.specs.declared.answer.Fault.TheVariants.{Bad}
use Rattle.write_back.specs.declared.state.State.TheVariants.{Waiting}
use Rattle.write_back.specs.Changes.{cell_left, cell_changed}
use Rattle.write_back.specs.Landing.{with_change}
use Rattle.write_back.specs.Pieces.{Sent}
use Rattle.write_back.specs.Places.{cell_cut}
use Rattle.write_back.proofs.Replying.{lands-part-at}
use Rattle.std.specs.Option.{option_map}
use Rattle.world_model.specs.declared.message.Reply.TheVariants as replies
use Rattle.nfs_file_calls.specs.declared.owned.FileKept.TheVariants as kept
use Rattle.write_back.specs.declared.change.Change.TheVariants as by_change
use Rattle.write_back.specs.declared.state.State.{State}
use Rattle.write_back.specs.declared.state.Ready.TheVariants.{Refused as was_refused}
use Rattle.write_back.proofs.Adding.{cuts-so}
use Rattle.write_back.proofs.Marking.{held-settle, held-mark, changes-held, sound-held}
use Rattle.file_ops.specs.declared.saving.Phase.{Phase}
use Rattle.file_ops.specs.Saves as saves
use Rattle.core_counts.proofs.counts.writes.Landing.{the-piece}

some-cell : (a b : Cell) → Some a ≡ Some b → a ≡ b
some-cell a b e = cc

some-flown : (a b : Flown) → Some a ≡ Some b → a ≡ b
some-flown a b e = cc

some-piece : (a b : Sent) → Some a ≡ Some b → a ≡ b
some-piece a b e = cc

same-ready : (a b : Ready) → Waiting a ≡ Waiting b → a ≡ b
same-ready a b e = cc

answer-refuse : (status : ℕ) → IsAnswer (by_change.Refuse status)
answer-refuse status = record { leaves = λ number state out. kept_ number state out; lands = λ number ready left is. refused left is }
  where
    kept_ : (number : ℕ) (state : State) → is_in_flight state ≡ false → fate (by_change.Refuse status) number state ≡ Some state
    kept_ number (Waiting ready) out = refl
    kept_ number (InFlight ready) out = absurd cc
    kept_ number (Acked held) out = refl

    refused : (left : State) → Some (Waiting (was_refused status)) ≡ Some left → is_in_flight left ≡ false
    refused left is = let same : Waiting (was_refused status) ≡ left = cc in sym (ap is_in_flight same)

-- ---- of one place

abbrev Rests : Option Cell → Type 0
Rests o = (cell : Cell) → o ≡ Some cell → cell.state ≡ Waiting Unsent

none-rests : Rests None
none-rests cell is = absurd (let no_way : None ≡ Some cell = is in cc)

rests-as : (a b : Option Cell) → b ≡ a → Rests a → Rests b
rests-as a b is r = subst Rests (sym is) r

abbrev Flies : Option Flown → Type 0
Flies o = (flown : Flown) → o ≡ Some flown → flown.before ≡ Unsent

none-flies : Flies None
none-flies flown is = absurd (let no_way : None ≡ Some flown = is in cc)

flies-as : (a b : Option Flown) → b ≡ a → Flies a → Flies b
flies-as a b is r = subst Flies (sym is) r

cut-or : (size upto i : ℕ) (cell : Cell) → (cell_cut size upto i (Some cell) ≡ None) ⊎ (cell_cut size upto i (Some cell) ≡ Some cell)
cut-or size upto i cell = by (nat_le size i && nat_le cell.number upto)
  where
    by : (b : Bool) → ((if b then None else Some cell) ≡ None) ⊎ ((if b then None else Some cell) ≡ Some cell)
    by true = inl refl
    by false = inr refl

cut-rests : (size upto i : ℕ) (o : Option Cell) → Rests o → Rests (cell_cut size upto i o)
cut-rests size upto i None r = none-rests
cut-rests size upto i (Some cell) r = by (cut-or size upto i cell)
  where
    by : (cell_cut size upto i (Some cell) ≡ None) ⊎ (cell_cut size upto i (Some cell) ≡ Some cell) → Rests (cell_cut size upto i (Some cell))
    by (inl is) = rests-as None (cell_cut size upto i (Some cell)) is none-rests
    by (inr is) = rests-as (Some cell) (cell_cut size upto i (Some cell)) is r

-- a change that leaves what waits as it is
abbrev Calm : Change → Type 0
Calm change = (number : ℕ) → fate change number (Waiting Unsent) ≡ Some (Waiting Unsent)

changed-rests : (change : Change) → Calm change → (o : Option Cell) → Rests o → Rests (cell_changed change o)
changed-rests change calm None r = none-rests
changed-rests change calm (Some cell) r = λ left is.
    let state = r cell refl in
    let one : fate change cell.number cell.state ≡ Some (Waiting Unsent) = ap (fate change cell.number) state ∙ calm cell.number in
    let two : Some (record { byte = cell.byte; number = cell.number; state = Waiting Unsent }) ≡ Some left = sym (ap (λ (s : Option State). cell_left s cell) one) ∙ is in
    sym (ap (λ (c : Cell). c.state) (some-cell (record { byte = cell.byte; number = cell.number; state = Waiting Unsent }) left two))

back-rests : (rest : Option Cell) (fly : Option Flown) → Rests rest → Flies fly → Rests (newer_or rest (cell_landed by_change.Return fly))
back-rests (Some cell) fly r k = r
back-rests None None r k = none-rests
back-rests None (Some flown) r k = λ left is.
    let one : Some (record { byte = flown.byte; number = flown.number; state = Waiting flown.before }) ≡ Some left = is in
    sym (ap (λ (c : Cell). c.state) (some-cell (record { byte = flown.byte; number = flown.number; state = Waiting flown.before }) left one)) ∙ ap (λ (z : Ready). Waiting z) (k flown refl)

renamed-flies : (x y : ℕ) (o : Option Flown) → Flies o → Flies (option_map (flown_as_of x y) o)
renamed-flies x y None k = none-flies
renamed-flies x y (Some flown) k = λ later is. by later (some-flown (flown_as_of x y flown) later is) (nat_eq flown.xid x) refl
  where
    by : (later : Flown) → flown_as_of x y flown ≡ later → (b : Bool) → nat_eq flown.xid x ≡ b → later.before ≡ Unsent
    by later same true h =
        let one = if-true (nat_eq flown.xid x) (record { byte = flown.byte; number = flown.number; xid = y; before = flown.before }) flown h in
        ap (λ (z : Flown). z.before) (sym same ∙ one) ∙ k flown refl
    by later same false h =
        let one = if-false (nat_eq flown.xid x) (record { byte = flown.byte; number = flown.number; xid = y; before = flown.before }) flown h in
        ap (λ (z : Flown). z.before) (sym same ∙ one) ∙ k flown refl

-- ---- of one file

module _ (i : ℕ) where
  -- What is pending at the place was never sent, but that it may be on its way for the first time.
  pub record Plain (of : FilePending) : Type 0 where
    pub rest : (cell : Cell) → rest_at of i ≡ Some cell → cell.state ≡ Waiting Unsent
    pub fly : (flown : Flown) → fly_at of i ≡ Some flown → flown.before ≡ Unsent

  plain-as : (old new : FilePending) → rest_at new i ≡ rest_at old i → fly_at new i ≡ fly_at old i → Plain old → Plain new
  plain-as old new rest fly k = record { rest = rests-as (rest_at old i) (rest_at new i) rest k.rest; fly = flies-as (fly_at old i) (fly_at new i) fly k.fly }

  puts-plain : (piece : Sent) (upto : ℕ) (old new : FilePending) → PutsInFlight piece upto old new → Plain old → Plain new
  puts-plain piece upto old new p k = by (covers piece.offset (length piece.bytes) i) refl
    where
      by : (b : Bool) → covers piece.offset (length piece.bytes) i ≡ b → Plain new
      by true h =
          let rest : rest_at new i ≡ None = p.rest i ∙ if-true (covers piece.offset (length piece.bytes) i) None (rest_at old i) h in
          let fly : fly_at new i ≡ flown_in piece i = p.fly i ∙ if-true (covers piece.offset (length piece.bytes) i) (flown_in piece i) (fly_at old i) h in
          record {
            rest = rests-as None (rest_at new i) rest none-rests;
            fly = λ flown is.
                same-ready flown.before Unsent (k.rest (record { byte = flown.byte; number = flown.number; state = Waiting flown.before }) (p.was i flown h (sym fly ∙ is)));
          }
      by false h =
          plain-as old new (p.rest i ∙ if-false (covers piece.offset (length piece.bytes) i) None (rest_at old i) h)
          (p.fly i ∙ if-false (covers piece.offset (length piece.bytes) i) (flown_in piece i) (fly_at old i) h) k

  -- nothing under an xid has the place
  abbrev pub Apart : ℕ → FilePending → Type 0
  Apart x of = (piece : Sent) → piece_under x of.pieces ≡ Some piece → covers piece.offset (length piece.bytes) i ≡ true → ⊥

  out-plain : (piece : Sent) (count : ℕ) (first others : Change) (old new : FilePending) → Lands piece count first others old new → covers piece.offset (length piece.bytes) i ≡ false → Plain old → Plain new
  out-plain piece count first others old new lands out =
      plain-as old new (lands.rest i ∙ if-false (covers piece.offset (length piece.bytes) i)
      (newer_or (rest_at old i) (cell_landed (if nat_lt (i - piece.offset) count then first else others) (fly_at old i))) (rest_at old i) out)
      (lands.fly i ∙ if-false (covers piece.offset (length piece.bytes) i) None (fly_at old i) out)

  module _ (x : ℕ) (of : FilePending) where
    landed-plain : (g : Sent → FilePending → FilePending) (count : ℕ) (first others : Change)
        → ((piece : Sent) → piece_under x of.pieces ≡ Some piece → Lands piece count first others of (at_xid g x of)) → Apart x of → Plain of → Plain (at_xid g x of)
    landed-plain g count first others landing apart k = by (piece_under x of.pieces) refl
      where
        by : (o : Option Sent) → piece_under x of.pieces ≡ o → Plain (at_xid g x of)
        by None is = subst (λ (o : Option Sent). Plain (at_piece g o of)) (sym is) k
        by (Some piece) is = at (covers piece.offset (length piece.bytes) i) refl
          where
            at : (b : Bool) → covers piece.offset (length piece.bytes) i ≡ b → Plain (at_xid g x of)
            at true h = absurd (apart piece is h)
            at false h = out-plain piece count first others of (at_xid g x of) (landing piece is) h k

    returned-plain : IsSound of → Plain of → Plain (at_xid (landed by_change.Return) x of)
    returned-plain sound k = by (piece_under x of.pieces) refl
      where
        to : FilePending
        to = at_xid (landed by_change.Return) x of

        by : (o : Option Sent) → piece_under x of.pieces ≡ o → Plain to
        by None is = subst (λ (o : Option Sent). Plain (at_piece (landed by_change.Return) o of)) (sym is) k
        by (Some piece) is = at (covers piece.offset (length piece.bytes) i) refl
          where
            lands : Lands piece 0 by_change.Return by_change.Return of to
            lands = the-piece (λ p. Lands p 0 by_change.Return by_change.Return of to) (piece_under x of.pieces) piece is (lands-one-at by_change.Return x of to answer-return sound refl)

            rests : (b : Bool) → Rests (newer_or (rest_at of i) (cell_landed (if b then by_change.Return else by_change.Return) (fly_at of i)))
            rests true = back-rests (rest_at of i) (fly_at of i) k.rest k.fly
            rests false = back-rests (rest_at of i) (fly_at of i) k.rest k.fly

            at : (b : Bool) → covers piece.offset (length piece.bytes) i ≡ b → Plain to
            at true h = record {
              rest = rests-as (newer_or (rest_at of i) (cell_landed (if nat_lt (i - piece.offset) 0 then by_change.Return else by_change.Return) (fly_at of i))) (rest_at to i)
                  (lands.rest i ∙ if-true (covers piece.offset (length piece.bytes) i)
                  (newer_or (rest_at of i) (cell_landed (if nat_lt (i - piece.offset) 0 then by_change.Return else by_change.Return) (fly_at of i))) (rest_at of i) h)
                  (rests (nat_lt (i - piece.offset) 0));
              fly = flies-as None (fly_at to i) (lands.fly i ∙ if-true (covers piece.offset (length piece.bytes) i) None (fly_at of i) h) none-flies;
            }
            at false h = out-plain piece 0 by_change.Return by_change.Return of to lands h k

    refused-plain : (status : ℕ) → IsSound of → Apart x of → Plain of → Plain (at_xid (landed (by_change.Refuse status)) x of)
    refused-plain status sound apart k =
        landed-plain (landed (by_change.Refuse status)) 0 (by_change.Refuse status) (by_change.Refuse status)
        (λ piece is. the-piece (λ p. Lands p 0 (by_change.Refuse status) (by_change.Refuse status) of (at_xid (landed (by_change.Refuse status)) x of)) (piece_under x of.pieces) piece is
        (lands-one-at (by_change.Refuse status) x of _ (answer-refuse status) sound refl)) apart k

    acked-plain : (count committed : ℕ) (verf : Verf) → IsSound of → Apart x of → Plain of → Plain (at_xid (landed_part (acked_by committed verf) count) x of)
    acked-plain count committed verf sound apart k =
        landed-plain (landed_part (acked_by committed verf) count) count (acked_by committed verf) by_change.Return
        (λ piece is. the-piece (λ p. Lands p count (acked_by committed verf) by_change.Return of (at_xid (landed_part (acked_by committed verf) count) x of)) (piece_under x of.pieces) piece is
        (lands-part-at (acked_by committed verf) count x of _ (answer-acked committed verf) sound refl)) apart k

    renamed-plain : (y : ℕ) → IsSound of → Plain of → Plain (with_xid x y of)
    renamed-plain y sound k =
        let r = renumbers-so x y of sound in
        record {
          rest = rests-as (rest_at of i) (rest_at (with_xid x y of) i) (r.rest i) k.rest;
          fly = flies-as (option_map (flown_as_of x y) (fly_at of i)) (fly_at (with_xid x y of) i) (r.fly i) (renamed-flies x y (fly_at of i) k.fly);
        }

  decided-plain : (upto : ℕ) (verf : Verf) (of : FilePending) → IsSound of → Plain of → Plain (decided upto verf of)
  decided-plain upto verf of sound k =
      let settled : FilePending = with_change (by_change.Settle verf upto) of in
      let sound_settled : IsSound settled = sound-held (by_change.Settle verf upto) (held-settle verf upto) of sound in
      let first = changes-held (by_change.Settle verf upto) (held-settle verf upto) of sound.apart in
      let next = changes-held (by_change.MarkAgain upto) (held-mark upto) settled sound_settled.apart in
      record {
        rest = rests-as (cell_changed (by_change.MarkAgain upto) (cell_changed (by_change.Settle verf upto) (rest_at of i))) (rest_at (decided upto verf of) i)
            (next.rest i ∙ ap (cell_changed (by_change.MarkAgain upto)) (first.rest i))
            (changed-rests (by_change.MarkAgain upto) (λ n. refl) (cell_changed (by_change.Settle verf upto) (rest_at of i))
            (changed-rests (by_change.Settle verf upto) (λ n. refl) (rest_at of i) k.rest));
        fly = flies-as (fly_at of i) (fly_at (decided upto verf of) i) (next.fly i ∙ first.fly i) k.fly;
      }

  cut-plain : (size upto : ℕ) (of : FilePending) → IsSound of → Plain of → Plain (with_cut size upto of)
  cut-plain size upto of sound k =
      let cuts = cuts-so size upto of sound.apart in
      record {
        rest = rests-as (cell_cut size upto i (rest_at of i)) (rest_at (with_cut size upto of) i) (cuts.rest i) (cut-rests size upto i (rest_at of i) k.rest);
        fly = k.fly;
      }

  pub nothing-plain : Plain nothing
  nothing-plain = record { rest = none-rests; fly = none-flies }

  put-plain : (offset : ℕ) (bytes : List ℕ) (number : ℕ) (old new : FilePending) → PutsBytes offset bytes number old new → Plain old → Plain new
  put-plain offset bytes number old new p k = by (covers offset (length bytes) i) refl
    where
      fresh : Cell
      fresh = record { byte = slice_index bytes (i - offset); number = number; state = Waiting Unsent }

      by : (b : Bool) → covers offset (length bytes) i ≡ b → Plain new
      by true h = record {
        rest = rests-as (Some fresh) (rest_at new i) (p.rest i ∙ if-true (covers offset (length bytes) i) (Some fresh) (rest_at old i) h) (λ cell is. sym (ap (λ (c : Cell). c.state) (some-cell fresh cell is)));
        fly = flies-as (fly_at old i) (fly_at new i) (p.fly i) k.fly;
      }
      by false h = plain-as old new (p.rest i ∙ if-false (covers offset (length bytes) i) (Some fresh) (rest_at old i) h) (p.fly i) k

-- ---- of what is pending of all files

module _ (f : List ℕ) (i : ℕ) where
  abbrev pub PlainAt : Pending → Type 0
  PlainAt back = Plain i (of_file f back)

  on-plain : (old new : Pending) (file : List ℕ) (to : FilePending) → OnFile old new file to → (f ≡ file → Plain i to) → PlainAt old → PlainAt new
  on-plain old new file to on here k = by (same-or file f)
    where
      by : (f ≡ file) ⊎ (f ≢ file) → PlainAt new
      by (inl same) = subst (Plain i) (sym (ap (λ (g : List ℕ). of_file g new) same ∙ on.here)) (here same)
      by (inr apart) = subst (Plain i) (sym (on.others f apart)) k

  -- where one file is changed, whichever it is
  change-plain : (to : FilePending → FilePending) (old new : Pending) (file : List ℕ) → OnFile old new file (to (of_file file old)) → (Plain i (of_file f old) → Plain i (to (of_file f old))) → PlainAt old → PlainAt new
  change-plain to old new file on step k = on-plain old new file (to (of_file file old)) on (λ same. subst (λ (g : List ℕ). Plain i (to (of_file g old))) same (step k)) k

  same-plain : (old new : Pending) → new ≡ old → PlainAt old → PlainAt new
  same-plain old new is k = subst PlainAt (sym is) k

  pub adds-plain : (file : List ℕ) (offset : ℕ) (bytes : List ℕ) (number : ℕ) (old new : Pending) → EachSound old → OnFile old new file (with_bytes offset bytes number (of_file file old)) → PlainAt old → PlainAt new
  adds-plain file offset bytes number old new sound on k =
      change-plain (with_bytes offset bytes number) old new file on
      (λ p. put-plain i offset bytes number (of_file f old) (with_bytes offset bytes number (of_file f old)) (puts-with offset bytes number (of_file f old) (with_bytes offset bytes number (of_file f old)) (sound f) refl) p) k

  pub cuts-plain : (file : List ℕ) (size upto : ℕ) (old new : Pending) → EachSound old → OnFile old new file (with_cut size upto (of_file file old)) → PlainAt old → PlainAt new
  cuts-plain file size upto old new sound on k = change-plain (with_cut size upto) old new file on (cut-plain i size upto (of_file f old) (sound f)) k

  pub gives-plain : (file : List ℕ) (old new : Pending) → OnFile old new file nothing → PlainAt old → PlainAt new
  gives-plain file old new on k = on-plain old new file nothing on (λ same. nothing-plain i) k

  -- ---- a save goes on

  sends-plain : (z : ℕ) (by_reply : Bool) (run : Segments) (s : Saving) (back : Pending) (next : _) (new : Saving) (after : Pending) → saves.Sends z by_reply run s back next new after → PlainAt back → PlainAt after
  sends-plain z by_reply run s back next new after (inr l) k = same-plain back after l.1 k
  sends-plain z by_reply [] s back next new after (inl l) k = same-plain back after l.1 k
  sends-plain z by_reply (e ∷ es) s back next new after (inl l) k = by (same-or s.file f)
    where
      by : (f ≡ s.file) ⊎ (f ≢ s.file) → PlainAt after
      by (inl same) =
          puts-plain i (piece_of z e (e ∷ es)) s.upto (of_file f back) (of_file f after)
          (subst (λ (g : List ℕ). PutsInFlight (piece_of z e (e ∷ es)) s.upto (of_file g back) (of_file g after)) (sym same) l.1.1) k
      by (inr apart) = subst (Plain i) (sym (l.1.0.others f apart)) k

  if-plain : (b : Bool) (z : ℕ) (by_reply : Bool) (run : Segments) (s : Saving) (back : Pending) (next : _) (new : Saving) (after : Pending)
      → saves.SendsIf b z by_reply run s back next new after → PlainAt back → PlainAt after
  if-plain true z by_reply run s back next new after l k = sends-plain z by_reply run s back next new after l k
  if-plain false z by_reply run s back next new after l k = same-plain back after l.1 k

  over-plain : (refusal : Option Fault) (wsize z : ℕ) (room by_reply : Bool) (s : Saving) (back : Pending) (next : _) (new : Saving) (after : Pending)
      → saves.GoesOver refusal wsize z room by_reply s back next new after → PlainAt back → PlainAt after
  over-plain (Some fault) wsize z room by_reply s back next new after g k = same-plain back after g.1 k
  over-plain None wsize z room by_reply s back next new after g k =
      if-plain (saves.may_send room s) z by_reply (chosen s.upto wsize (of_file s.file back)) s back next new after g k

  pub goes-plain : (wsize z : ℕ) (room by_reply : Bool) (s : Saving) (back : Pending) (next : _) (new : Saving) (after : Pending)
      → saves.Goes wsize z room by_reply s back next new after → PlainAt back → PlainAt after
  goes-plain wsize z room by_reply s back next new after g k = over-plain s.refusal wsize z room by_reply s back next new after g k

  -- ---- its call is answered, or couldn't be made

  module _ (wsize : ℕ) (sent turn : Turn) where
    back-plain : (back after : Pending) (file : List ℕ) → EachSound back → OnFile back after file (at_xid (landed by_change.Return) sent.xid (of_file file back)) → PlainAt back → PlainAt after
    back-plain back after file sound on k = change-plain (at_xid (landed by_change.Return) sent.xid) back after file on (returned-plain i sent.xid (of_file f back) (sound f)) k

    module _ (back : Pending) (sound : EachSound back) (apart : Apart i sent.xid (of_file f back)) where
      wrote-plain : (how size : ℕ) (wcc : Wcc) (count committed : ℕ) (verf : Verf) (file : List ℕ) (between : Pending) (refusal : Option Fault)
          → saves.Lands sent.xid file (write_told how size (Ok (replies.File (kept.Write wcc count committed verf)))) back between refusal → PlainAt back → PlainAt between
      wrote-plain how size wcc count committed verf file between refusal l k = by (nat_lt committed how || nat_lt 2 committed) ((count == 0) || nat_lt size count) refl refl
        where
          done : (refusal : Option Fault) → (nat_lt committed how || nat_lt 2 committed) ≡ false → ((count == 0) || nat_lt size count) ≡ false
              → saves.Lands sent.xid file (write_told how size (Ok (replies.File (kept.Write wcc count committed verf)))) back between refusal → PlainAt between
          done None p q l =
              let on : OnFile back between file (at_xid (landed_part (acked_by committed verf) count) sent.xid (of_file file back)) = (rw (p, q) at l) in
              change-plain (at_xid (landed_part (acked_by committed verf) count) sent.xid) back between file on (acked-plain i sent.xid (of_file f back) count committed verf (sound f) apart) k
          done (Some fault) p q l =
              let on : (fault ≡ Memory) × OnFile back between file (at_xid (landed by_change.Return) sent.xid (of_file file back)) = (rw (p, q) at l) in
              back-plain back between file sound on.1 k

          by : (a c : Bool) → (nat_lt committed how || nat_lt 2 committed) ≡ a → ((count == 0) || nat_lt size count) ≡ c → PlainAt between
          by true c p q =
              let on : (refusal ≡ Some (Bad 3)) × OnFile back between file (at_xid (landed by_change.Return) sent.xid (of_file file back)) = (rw p at l) in
              back-plain back between file sound on.1 k
          by false true p q =
              let on : (refusal ≡ Some (Bad 4)) × OnFile back between file (at_xid (landed by_change.Return) sent.xid (of_file file back)) = (rw (p, q) at l) in
              back-plain back between file sound on.1 k
          by false false p q = done refusal p q l

      lands-plain : (how size : ℕ) (what : Result Reply Fault) (file : List ℕ) (between : Pending) (refusal : Option Fault) → saves.Lands sent.xid file (write_told how size what) back between refusal
          → PlainAt back → PlainAt between
      lands-plain how size (Err fault) file between refusal l k = back-plain back between file sound l.1 k
      lands-plain how size (Ok (replies.Mount reply)) file between refusal l k = back-plain back between file sound l.1 k
      lands-plain how size (Ok (replies.Dir reply)) file between refusal l k = back-plain back between file sound l.1 k
      lands-plain how size (Ok (replies.File (kept.Write wcc count committed verf))) file between refusal l k = wrote-plain how size wcc count committed verf file between refusal l k
      lands-plain how size (Ok (replies.File (kept.WriteFail status wcc))) file between refusal l k =
          change-plain (at_xid (landed (by_change.Refuse status.0)) sent.xid) back between file l.1 (refused-plain i sent.xid (of_file f back) status.0 (sound f) apart) k
      lands-plain how size (Ok (replies.File reply)) file between refusal l k = back-plain back between file sound l.1 k

      write-plain : (how size : ℕ) (what : Result Reply Fault) (s : Saving) (next : _) (new : Saving) (after : Pending)
          → saves.TakesWrite wsize sent.xid turn.xid turn.room (write_told how size what) s back next new after → PlainAt back → PlainAt after
      write-plain how size what s next new after g k =
          goes-plain wsize turn.xid turn.room g.counts (saves.refused_by g.refusal s) g.between next new after g.goes (lands-plain how size what s.file g.between g.refusal g.lands k)

      repeats-plain : (again : Bool) (how size : ℕ) (what : Result Reply Fault) (s : Saving) (next : _) (new : Saving) (after : Pending)
          → saves.RepeatsWrite again wsize sent turn (write_told how size what) s back next new after → PlainAt back → PlainAt after
      repeats-plain true how size what s next new after r k = change-plain (with_xid sent.xid turn.xid) back after s.file r.1 (renamed-plain i sent.xid (of_file f back) turn.xid (sound f)) k
      repeats-plain false how size what s next new after r k = write-plain how size what (saves.less_waiting s) next new after r k

      told-plain : (busy : Bool) (how size : ℕ) (what : Result Reply Fault) (repeats : List Repeat) (s : Saving) (next : _) (new : Saving) (after : Pending) (later : List Repeat)
          → saves.TakesToldIf busy wsize sent turn (write_told how size what) repeats s back next new after later → PlainAt back → PlainAt after
      told-plain false how size what repeats s next new after later g k = write-plain how size what (saves.less_waiting s) next new after g.0 k
      told-plain true how size what repeats s next new after later (inl r) k = repeats-plain (goes_again true sent turn repeats) how size what s next new after r.0 k
      told-plain true how size what repeats s next new after later (inr r) k = write-plain how size (Err Memory) (saves.less_waiting s) next new after r.0 k

      decides-plain : (verdict : Verdict) (s : Saving) (between : Pending) (next : _) (new : Saving) (after : Pending) → saves.Decides verdict wsize turn.xid turn.room s between next new after → PlainAt between → PlainAt after
      decides-plain AllStable s between next new after d k = same-plain between after d.1 k
      decides-plain (SendAgain count) s between next new after d k = goes-plain wsize turn.xid turn.room false (record s { phase = Resending }) between next new after d k

      commit-plain : (t : Result Verf Fault) (s : Saving) (next : _) (new : Saving) (after : Pending) → saves.TakesCommit wsize turn.xid turn.room t s back next new after → PlainAt back → PlainAt after
      commit-plain (Err fault) s next new after g k = same-plain back after g.1 k
      commit-plain (Ok verf) s next new after g k =
          decides-plain (verdict_of (lost verf s.upto (of_file s.file back).segments)) s g.between next new after g.goes
          (change-plain (decided s.upto verf) back g.between s.file g.decides (decided-plain i s.upto verf (of_file f back) (sound f)) k)

      first-plain : (again : Bool) (t : Result Verf Fault) (s : Saving) (next : _) (new : Saving) (after : Pending) → saves.TakesFirst again wsize turn t s back next new after → PlainAt back → PlainAt after
      first-plain true t s next new after g k = same-plain back after g.1 k
      first-plain false t s next new after g k = commit-plain t (saves.less_waiting s) next new after g k

      in-plain : (came : Result Reply Fault) (phase : Phase) (repeats : List Repeat) (s : Saving) (next : _) (new : Saving) (after : Pending) (later : List Repeat)
          → saves.TakesIn phase wsize sent turn came repeats s back next new after later → PlainAt back → PlainAt after
      in-plain came Sending repeats s next new after later g k =
          told-plain (saves.may_again (saves.told_busy (saves.told_of sent.xid s.file back came)) s) (saves.answered sent.xid s.file back).how (length (saves.answered sent.xid s.file back).bytes) came repeats s next new after later g k
      in-plain came Resending repeats s next new after later g k =
          told-plain (saves.may_again (saves.told_busy (saves.told_of sent.xid s.file back came)) s) (saves.answered sent.xid s.file back).how (length (saves.answered sent.xid s.file back).bytes) came repeats s next new after later g k
      in-plain came Committing repeats s next new after later g k = first-plain (saves.commit_again (commit_told came) sent turn repeats s) (commit_told came) s next new after g.0 k
      in-plain came CommittingAgain repeats s next new after later g k = same-plain back after g.1 k

    pub takes-plain : (came : Result Reply Fault) (repeats : List Repeat) (s : Saving) (back : Pending) (next : _) (new : Saving) (after : Pending) (later : List Repeat)
        → saves.Takes wsize sent turn came repeats s back next new after later → EachSound back → Apart i sent.xid (of_file f back) → PlainAt back → PlainAt after
    takes-plain came repeats s back next new after later g sound apart k = in-plain back sound apart came s.phase repeats s next new after later g k

    -- it couldn't be made: all of it comes back
    module _ (fault : Fault) where
      write-none : (how size : ℕ) (s : Saving) (back : Pending) (next : _) (new : Saving) (after : Pending) → EachSound back
          → saves.TakesWrite wsize sent.xid turn.xid turn.room (write_told how size (Err fault)) s back next new after → PlainAt back → PlainAt after
      write-none how size s back next new after sound g k =
          goes-plain wsize turn.xid turn.room g.counts (saves.refused_by g.refusal s) g.between next new after g.goes (back-plain back g.between s.file sound g.lands.1 k)

      first-none : (again : Bool) (s : Saving) (back : Pending) (next : _) (new : Saving) (after : Pending) → saves.TakesFirst again wsize turn (Err fault) s back next new after → PlainAt back → PlainAt after
      first-none true s back next new after g k = same-plain back after g.1 k
      first-none false s back next new after g k = same-plain back after g.1 k

      in-none : (phase : Phase) (repeats : List Repeat) (s : Saving) (back : Pending) (next : _) (new : Saving) (after : Pending) (later : List Repeat) → EachSound back
          → saves.TakesIn phase wsize sent turn (Err fault) repeats s back next new after later → PlainAt back → PlainAt after
      in-none Sending repeats s back next new after later sound g k =
          write-none (saves.answered sent.xid s.file back).how (length (saves.answered sent.xid s.file back).bytes) (saves.less_waiting s) back next new after sound g.0 k
      in-none Resending repeats s back next new after later sound g k =
          write-none (saves.answered sent.xid s.file back).how (length (saves.answered sent.xid s.file back).bytes) (saves.less_waiting s) back next new after sound g.0 k
      in-none Committing repeats s back next new after later sound g k = first-none (saves.commit_again (Err fault) sent turn repeats s) s back next new after g.0 k
      in-none CommittingAgain repeats s back next new after later sound g k = same-plain back after g.1 k

      pub unmade-plain : (repeats : List Repeat) (s : Saving) (back : Pending) (next : _) (new : Saving) (after : Pending) (later : List Repeat) → EachSound back
          → saves.Takes wsize sent turn (Err fault) repeats s back next new after later → PlainAt back → PlainAt after
      unmade-plain repeats s back next new after later sound g k = in-none s.phase repeats s back next new after later sound g k
