-- A WRITE that is made again under another xid, by place.
use Rattle.std.proofs.Common.{◌≡◌, ◌≢◌, ℕ, Bool, true, false, Option, Some, None, refl, sym, ap, subst, ◌∙◌}
use Rattle.std.specs.Prelude.{nat_eq}
use Rattle.std.specs.Option.{option_map}
use Rattle.std.proofs.lemmas.Bool.{eq-eqb, eqb-true}
use Rattle.write_back.specs.Files.{Pending, of_file, IsFree, OnFile}
use Rattle.write_back.specs.Landing.{with_xid}
use Rattle.write_back.specs.Pieces.{Flown, rest_at, fly_at}
use Rattle.write_back.specs.Waits.{flown_as_of, Renumbers}
use Rattle.write_back.proofs.Marking.{sound-xid}
use Rattle.write_back.proofs.Xids.{renumbers-so}
use Rattle.model_writes.specs.Machine.{Cell, Flight, View, Renamed, unmoved, moved}
use Rattle.model_writes.specs.Story.{File, Spot}
use Rattle.step_pending.specs.Cells.{IsRest, flight_of, EachSound, Shows, Leads}
use Rattle.step_pending.specs.Steps.{IsOf, Renames}
use Rattle.step_pending.proofs.Leading.{if-true, if-false, spot, Turned, leads, sound-on}
use Rattle.step_pending.proofs.Shown.{flown-of, not-under}

-- one byte in flight
renamed-flown : (x y : ℕ) (flown : Flown) → Renamed x y (Some (flight_of flown)) (Some (flight_of (flown_as_of x y flown)))
renamed-flown x y flown = by (nat_eq flown.xid x) refl
  where
    by : (b : Bool) → nat_eq flown.xid x ≡ b → Renamed x y (Some (flight_of flown)) (Some (flight_of (flown_as_of x y flown)))
    by true h =
        moved (flight_of flown) refl (eqb-true flown.xid x h)
        (ap (λ z. Some (flight_of z)) (if-true (nat_eq flown.xid x) (record { byte = flown.byte; number = flown.number; xid = y; before = flown.before }) flown h))
    by false h = unmoved other (ap (λ z. Some (flight_of z)) (if-false (nat_eq flown.xid x) (record { byte = flown.byte; number = flown.number; xid = y; before = flown.before }) flown h))
      where
        other : (f : Flight) → Some (flight_of flown) ≡ Some f → f.xid ≢ x
        other f is own =
            let same : flight_of flown ≡ f = cc in
            let k : true ≡ false = sym (eq-eqb flown.xid x (ap (λ (z : Flight). z.xid) same ∙ own)) ∙ h in
            absurd cc

renamed : (x y : ℕ) (o : Option Flown) → Renamed x y (option_map flight_of o) (option_map flight_of (option_map (flown_as_of x y) o))
renamed x y None = unmoved (λ f is. absurd cc) refl
renamed x y (Some flown) = renamed-flown x y flown

module _ (old : Pending) (file : File) (x y : ℕ) (sound : EachSound old) (alone : IsOf x file old) (c : View) (shows : Shows old c) where
  renumbers : Renumbers x y (of_file file old) (with_xid x y (of_file file old))
  renumbers = renumbers-so x y (of_file file old) (sound file)

  abbrev Becomes : Spot → Option Cell → Option Flight → Type 0
  Becomes i rest fly = (rest ≡ c.rest i) × Renamed x y (c.fly i) fly

  turned : (at : ℕ) → Turned (Becomes (spot file at)) (rest_at (with_xid x y (of_file file old)) at) (fly_at (with_xid x y (of_file file old)) at)
  turned at = record {
    rest = c.rest (spot file at);
    fly = option_map flight_of (fly_at (with_xid x y (of_file file old)) at);
    is_rest = subst (λ o. IsRest o (c.rest (spot file at))) (sym (renumbers.rest at)) (shows.rest (spot file at));
    is_fly = refl;
    so = (
      refl,
      subst (λ o. Renamed x y (c.fly (spot file at)) o) (sym (ap (option_map flight_of) (renumbers.fly at)))
          (subst (λ o. Renamed x y o (option_map flight_of (option_map (flown_as_of x y) (fly_at (of_file file old) at)))) (sym (shows.fly (spot file at))) (renamed x y (fly_at (of_file file old) at))),
    );
  }

  others : (i : Spot) → i.file ≢ file → Becomes i (c.rest i) (c.fly i)
  others i apart = (refl, unmoved other refl)
    where
      other : (f : Flight) → c.fly i ≡ Some f → f.xid ≢ x
      other f is =
          let flown = flown-of (fly_at (of_file i.file old) i.at) f (sym (shows.fly i) ∙ is) in
          subst (λ (z : Flight). z.xid ≢ x) flown.2 (not-under (of_file i.file old).pieces x i.at flown.0 (sound i.file).xids (alone i.file apart) flown.1)

  renames : (d : View) → ((i : Spot) → Becomes i (d.rest i) (d.fly i)) → Renames x y c d
  renames d each = record { rest = λ i. (each i).0; fly = λ i. (each i).1 }

pub renamed-leads : (old new : Pending) (file : File) (xid to : ℕ) → EachSound old → IsOf xid file old → OnFile old new file (with_xid xid to (of_file file old))
    → (c : View) → Shows old c → Leads new (Renames xid to) c
renamed-leads old new file xid to sound alone on c shows =
    leads old new file (with_xid xid to (of_file file old)) on c shows (Becomes old file xid to sound alone c shows) (turned old file xid to sound alone c shows) (others old file xid to sound alone c shows)
    (Renames xid to) (renames old file xid to sound alone c shows)

pub sound-renamed : (old new : Pending) (file : File) (xid to : ℕ) → EachSound old → IsFree to file old → OnFile old new file (with_xid xid to (of_file file old)) → EachSound new
sound-renamed old new file xid to sound free on = sound-on old new file (with_xid xid to (of_file file old)) on sound (sound-xid xid to (of_file file old) free (sound file))
