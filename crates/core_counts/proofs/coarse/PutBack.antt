-- A WRITE that can't be made leaves each place as it was before its bytes took off.
use Rattle.core_counts.proofs.Prelude.{inl, inr, ◌⊎◌, ◌≡◌, ◌≢◌, ℕ, ◌-◌, Bool, true, false, length, Option, Some, None, refl, sym, ap, subst, ◌∙◌, nat_lt, if◌then◌else◌, Change, Pending, of_file, OnFile, at_xid, landed, Flown, FilePending, flown_in, rest_at, fly_at, piece_under, PutsInFlight, Lands, cell_landed, newer_or, answer-return, lands-one-at, EachSound, Shows, if-true, if-false}
use Rattle.std.proofs.Common.{IfSome}
use Rattle.write_back.specs.Pieces.{Sent}
use Rattle.step_pending.specs.Cells.{IsRest, flight_of}
use Rattle.std.specs.Option.{option_map}
use Rattle.write_back.specs.declared.change.Change.TheVariants as by_change
use Rattle.write_back.specs.Choice.{with_sent}
use Rattle.write_back.specs.Segments as segments
use Rattle.write_back.specs.Sound.{IsWhole}
use Rattle.write_back.proofs.Flying.{flown-some, under-whole}
use Rattle.model_writes.specs.Machine.{View}
use Rattle.model_writes.specs.Story.{File}
use Rattle.model_writes.proofs.AtLemmas.{same_file_or_not}
use Rattle.step_pending.proofs.Shown.{some-of}

-- at each place the same is pending, and the same in flight
pub record SamePlaces (old new : FilePending) : Type 0 where
  pub rest : (at : ℕ) → rest_at new at ≡ rest_at old at
  pub fly : (at : ℕ) → fly_at new at ≡ fly_at old at

-- so a view that shows what was pending shows it still
pub same-shown : (old new : Pending) → ((file : File) → SamePlaces (of_file file old) (of_file file new)) → (c : View) → Shows old c → Shows new c
same-shown old new same c shows = record {
  rest = λ i. subst (λ o. IsRest o (c.rest i)) (sym ((same i.file).rest i.at)) (shows.rest i);
  fly = λ i. shows.fly i ∙ ap (option_map flight_of) (sym ((same i.file).fly i.at));
}

either : (b : Bool) (x : Change) → (if b then x else x) ≡ x
either true x = refl
either false x = refl

the-piece : (P : Sent → Type 0) (o : Option Sent) (piece : Sent) → o ≡ Some piece → IfSome o P → P piece
the-piece P (Some p) piece is h = subst P (let one : p ≡ piece = cc in one) h
the-piece P None piece is h = absurd cc

module _ (file : File) (piece : Sent) (upto y : ℕ) (before back between : Pending) (on : OnFile before back file (with_sent piece (of_file file before)))
    (puts : PutsInFlight piece upto (of_file file before) (of_file file back)) (under : piece_under y (of_file file back).pieces ≡ Some piece) (sound : EachSound back)
    (lands : OnFile back between file (at_xid (landed by_change.Return) y (of_file file back))) where
  abbrev within : ℕ → Bool
  within at = segments.covers piece.offset (length piece.bytes) at

  whole : IsWhole piece
  whole = under-whole y (of_file file back).pieces piece (sound file).sent under

  landed-so : Lands piece 0 by_change.Return by_change.Return (of_file file back) (of_file file between)
  landed-so =
      the-piece (λ p. Lands p 0 by_change.Return by_change.Return (of_file file back) (of_file file between)) (piece_under y (of_file file back).pieces) piece under
      (lands-one-at by_change.Return y (of_file file back) (of_file file between) answer-return (sound file) lands.here)

  -- what was in flight at a place within is pending there again, as it was
  rest-within : (at : ℕ) (flown : Flown) → within at ≡ true → flown_in piece at ≡ Some flown → rest_at (of_file file between) at ≡ rest_at (of_file file before) at
  rest-within at flown h is =
      let none : rest_at (of_file file back) at ≡ None = puts.rest at ∙ if-true (within at) None (rest_at (of_file file before) at) h in
      let flies : fly_at (of_file file back) at ≡ Some flown = puts.fly at ∙ if-true (within at) (flown_in piece at) (fly_at (of_file file before) at) h ∙ is in
      let change : (if nat_lt (at - piece.offset) 0 then by_change.Return else by_change.Return) ≡ by_change.Return = either (nat_lt (at - piece.offset) 0) by_change.Return in
      landed-so.rest at
      ∙ if-true (within at) (newer_or (rest_at (of_file file back) at) (cell_landed (if nat_lt (at - piece.offset) 0 then by_change.Return else by_change.Return) (fly_at (of_file file back) at)))
      (rest_at (of_file file back) at) h
      ∙ ap (λ o. newer_or o (cell_landed (if nat_lt (at - piece.offset) 0 then by_change.Return else by_change.Return) (fly_at (of_file file back) at))) none
      ∙ ap (λ (k : Change). cell_landed k (fly_at (of_file file back) at)) change
      ∙ ap (cell_landed by_change.Return) flies
      ∙ sym (puts.was at flown h is)

  rests : (at : ℕ) → rest_at (of_file file between) at ≡ rest_at (of_file file before) at
  rests at = by (within at) refl
    where
      by : (b : Bool) → within at ≡ b → rest_at (of_file file between) at ≡ rest_at (of_file file before) at
      by true h = let flown = some-of (flown_in piece at) (flown-some piece at whole h) in rest-within at flown.0 h flown.1
      by false h =
          landed-so.rest at
          ∙ if-false (within at) (newer_or (rest_at (of_file file back) at) (cell_landed (if nat_lt (at - piece.offset) 0 then by_change.Return else by_change.Return) (fly_at (of_file file back) at)))
          (rest_at (of_file file back) at) h
          ∙ puts.rest at ∙ if-false (within at) None (rest_at (of_file file before) at) h

  flies : (at : ℕ) → fly_at (of_file file between) at ≡ fly_at (of_file file before) at
  flies at = by (within at) refl
    where
      by : (b : Bool) → within at ≡ b → fly_at (of_file file between) at ≡ fly_at (of_file file before) at
      by true h = landed-so.fly at ∙ if-true (within at) None (fly_at (of_file file back) at) h ∙ sym (puts.free at h)
      by false h =
          landed-so.fly at ∙ if-false (within at) None (fly_at (of_file file back) at) h
          ∙ puts.fly at ∙ if-false (within at) (flown_in piece at) (fly_at (of_file file before) at) h

  as-before : (other : File) → SamePlaces (of_file other before) (of_file other between)
  as-before other = by (same_file_or_not other file)
    where
      by : (other ≡ file) ⊎ (other ≢ file) → SamePlaces (of_file other before) (of_file other between)
      by (inl same) = subst (λ (f : File). SamePlaces (of_file f before) (of_file f between)) (sym same) (record { rest = rests; fly = flies })
      by (inr apart) =
          let same : of_file other between ≡ of_file other before = lands.others other apart ∙ on.others other apart in
          record { rest = λ at. ap (λ (of : FilePending). rest_at of at) same; fly = λ at. ap (λ (of : FilePending). fly_at of at) same }

  pub put-back : (c : View) → Shows before c → Shows between c
  put-back c shows = same-shown before between as-before c shows
