-- The reply to a COMMIT, by place.
use Rattle.std.proofs.Common.{inl, inr, ◌⊎◌, ◌≡◌, ◌≢◌, ℕ, Bool, true, false, Option, Some, None, refl, sym, ap, subst, ◌∙◌}
use Rattle.std.specs.Prelude.{nat_le, if◌then◌else◌}
use Rattle.std.specs.Cmp.Lexicographic.{same_text}
use Rattle.std.specs.Option.{option_map}
use Rattle.nfs_types.specs.declared.verf.Verf.{Verf}
use Rattle.write_back.specs.declared.state.State.{State}
use Rattle.write_back.specs.declared.state.State.TheVariants.{Waiting, InFlight, Acked}
use Rattle.write_back.specs.declared.state.Ready.TheVariants.{Again}
use Rattle.write_back.specs.declared.change.Change.TheVariants.{Settle, MarkAgain}
use Rattle.write_back.specs.States.{same_verf}
use Rattle.write_back.specs.Changes.{cell_changed}
use Rattle.write_back.specs.Files.{Pending, of_file, OnFile}
use Rattle.write_back.specs.Landing.{with_change}
use Rattle.write_back.specs.Pieces.{FilePending, rest_at, fly_at}
use Rattle.write_back.specs.Places.{ChangesAll}
use Rattle.write_back.specs.Segments as segments
use Rattle.write_back.specs.Sound.{IsSound}
use Rattle.write_back.proofs.Marking.{held-settle, held-mark, changes-held, sound-held}
use Rattle.commit_verf.specs.Decisions.{decided, state_decided, cell_decided, cell_with}
use Rattle.commit_verf.proofs.Verdicts.{cells-decided}
use Rattle.model_writes.specs.Machine.{Mark, unsent, again, acked, Cell, Flight, View, Heard, keeps, settles, resends, PlacesAfter}
use Rattle.model_writes.specs.Story.{File, Spot, commit, committed}
use Rattle.step_pending.specs.Cells.{Fits, IsCell, IsRest, flight_of, EachSound, Shows, Leads}
use Rattle.step_pending.proofs.Leading.{if-true, if-false, spot, Turned, leads, sound-on}

-- what a place becomes
record Told (upto : ℕ) (verf : Verf) (kept : Option segments.Cell) (rest : Option Cell) : Type 0 where
  pub left : Option Cell
  pub is_left : IsRest (cell_decided upto verf kept) left
  pub heard : Heard (committed 0 verf.0) rest left

module _ (upto : ℕ) (verf : Verf) (kept : segments.Cell) (cell : Cell) (is : IsCell kept cell) where
  stays-so : state_decided upto verf kept.number kept.state ≡ Some kept.state → Told upto verf (Some kept) (Some cell)
  stays-so same = record {
    left = Some cell;
    is_left = subst (λ o. IsRest o (Some cell)) (sym (ap (cell_with kept) same)) is;
    heard = keeps (committed 0 verf.0) (Some cell) (Some cell) refl;
  }

  fits-as : (state : State) → kept.state ≡ state → Fits state cell.mark
  fits-as state h = subst (λ s. Fits s cell.mark) h is.fits

  under : (held : Verf) (mark : Mark) → Fits (Acked held) mark → same_verf held verf ≡ true → mark ≡ acked verf.0
  under held unsent fits same = absurd fits
  under held again fits same = absurd fits
  under held (acked v) fits same = ap acked (fits ∙ same_text held.0 verf.0 (sym same))

  told-held : (held : Verf) → kept.state ≡ Acked held → (old same : Bool) → nat_le kept.number upto ≡ old → same_verf held verf ≡ same → Told upto verf (Some kept) (Some cell)
  told-held held h false same k m =
      stays-so (ap (state_decided upto verf kept.number) h ∙ if-false (nat_le kept.number upto) (if same_verf held verf then None else Some (Waiting Again)) (Some (Acked held)) k ∙ ap Some (sym h))
  told-held held h true true k m =
      let gone : state_decided upto verf kept.number kept.state ≡ None =
      ap (state_decided upto verf kept.number) h ∙ if-true (nat_le kept.number upto) (if same_verf held verf then None else Some (Waiting Again)) (Some (Acked held)) k
      ∙ if-true (same_verf held verf) None (Some (Waiting Again)) m in
      record {
        left = None;
        is_left = subst (λ o. IsRest o None) (sym (ap (cell_with kept) gone)) tt;
        heard = settles (committed 0 verf.0) (Some cell) None cell verf.0 refl refl (under held cell.mark (fits-as (Acked held) h) m) refl;
      }
  told-held held h true false k m =
      let waits : state_decided upto verf kept.number kept.state ≡ Some (Waiting Again) =
      ap (state_decided upto verf kept.number) h ∙ if-true (nat_le kept.number upto) (if same_verf held verf then None else Some (Waiting Again)) (Some (Acked held)) k
      ∙ if-false (same_verf held verf) None (Some (Waiting Again)) m in
      let so : IsCell (record { byte = kept.byte; number = kept.number; state = Waiting Again }) (record { byte = cell.byte; number = cell.number; mark = again }) = record { byte = is.byte; number = is.number; fits = tt } in
      record {
        left = Some (record { byte = cell.byte; number = cell.number; mark = again });
        is_left = subst (λ o. IsRest o (Some (record { byte = cell.byte; number = cell.number; mark = again }))) (sym (ap (cell_with kept) waits)) so;
        heard = resends (committed 0 verf.0) (Some cell) (Some (record { byte = cell.byte; number = cell.number; mark = again })) cell refl refl;
      }

  told-cell : (state : State) → kept.state ≡ state → Told upto verf (Some kept) (Some cell)
  told-cell (Waiting ready) h = stays-so (ap (state_decided upto verf kept.number) h ∙ ap Some (sym h))
  told-cell (InFlight ready) h = absurd (fits-as (InFlight ready) h)
  told-cell (Acked held) h = told-held held h (nat_le kept.number upto) (same_verf held verf) refl refl

told : (upto : ℕ) (verf : Verf) (kept : Option segments.Cell) (rest : Option Cell) → IsRest kept rest → Told upto verf kept rest
told upto verf None None is = record { left = None; is_left = tt; heard = keeps (committed 0 verf.0) None None refl }
told upto verf None (Some cell) is = absurd is
told upto verf (Some kept) None is = absurd is
told upto verf (Some kept) (Some cell) is = told-cell upto verf kept cell is kept.state refl

module _ (old : Pending) (file : File) (upto : ℕ) (verf : Verf) (sound : EachSound old) (c : View) (shows : Shows old c) where
  abbrev settled : FilePending
  settled = with_change (Settle verf upto) (of_file file old)

  sound-settled : IsSound settled
  sound-settled = sound-held (Settle verf upto) (held-settle verf upto) (of_file file old) (sound file)

  first : ChangesAll (Settle verf upto) (of_file file old) settled
  first = changes-held (Settle verf upto) (held-settle verf upto) (of_file file old) (sound file).apart

  next : ChangesAll (MarkAgain upto) settled (decided upto verf (of_file file old))
  next = changes-held (MarkAgain upto) (held-mark upto) settled sound-settled.apart

  rests : (at : ℕ) → rest_at (decided upto verf (of_file file old)) at ≡ cell_decided upto verf (rest_at (of_file file old) at)
  rests at = next.rest at ∙ ap (cell_changed (MarkAgain upto)) (first.rest at) ∙ cells-decided verf upto (rest_at (of_file file old) at)

  abbrev Becomes : Spot → Option Cell → Option Flight → Type 0
  Becomes i rest fly = ((rest ≡ c.rest i) × (fly ≡ c.fly i)) ⊎ ((i.file ≡ file) × Heard (committed 0 verf.0) (c.rest i) rest × (fly ≡ c.fly i))

  turned : (at : ℕ) → Turned (Becomes (spot file at)) (rest_at (decided upto verf (of_file file old)) at) (fly_at (decided upto verf (of_file file old)) at)
  turned at =
      let t : Told upto verf (rest_at (of_file file old) at) (c.rest (spot file at)) = told upto verf (rest_at (of_file file old) at) (c.rest (spot file at)) (shows.rest (spot file at)) in
      record {
        rest = t.left;
        fly = c.fly (spot file at);
        is_rest = subst (λ o. IsRest o t.left) (sym (rests at)) t.is_left;
        is_fly = shows.fly (spot file at) ∙ ap (option_map flight_of) (sym (next.fly at ∙ first.fly at));
        so = inr (refl, t.heard, refl);
      }

  others : (i : Spot) → i.file ≢ file → Becomes i (c.rest i) (c.fly i)
  others i apart = inl (refl, refl)

pub heard-leads : (old new : Pending) (file : File) (xid upto : ℕ) (verf : Verf) → EachSound old → OnFile old new file (decided upto verf (of_file file old))
    → (c : View) → Shows old c → Leads new (PlacesAfter xid (commit file) (committed 0 verf.0)) c
heard-leads old new file xid upto verf sound on c shows =
    leads old new file (decided upto verf (of_file file old)) on c shows (Becomes old file upto verf sound c shows) (turned old file upto verf sound c shows) (others old file upto verf sound c shows)
    (PlacesAfter xid (commit file) (committed 0 verf.0)) (λ d each. each)

pub sound-heard : (old new : Pending) (file : File) (upto : ℕ) (verf : Verf) → EachSound old → OnFile old new file (decided upto verf (of_file file old)) → EachSound new
sound-heard old new file upto verf sound on =
    sound-on old new file (decided upto verf (of_file file old)) on sound
    (sound-held (MarkAgain upto) (held-mark upto) (with_change (Settle verf upto) (of_file file old)) (sound-held (Settle verf upto) (held-settle verf upto) (of_file file old) (sound file)))
