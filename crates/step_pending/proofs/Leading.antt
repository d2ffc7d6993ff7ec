-- From what becomes of each place of one file to a step of a whole view.
use Rattle.std.proofs.Common.{inl, inr, ◌⊎◌, ◌≡◌, ◌≢◌, ℕ, Bool, true, false, Option, refl, sym, ap, subst, ◌∙◌, bytes_eq}
use Rattle.std.specs.Prelude.{if◌then◌else◌}
use Rattle.std.specs.Option.{option_map}
use Rattle.std.proofs.lemmas.Slice.Eq.{bytes_eq-Decides}
use Rattle.write_back.specs.Files.{Pending, of_file, OnFile}
use Rattle.write_back.specs.Pieces.{Flown, FilePending, rest_at, fly_at}
use Rattle.write_back.specs.Segments as segments
use Rattle.write_back.specs.Sound.{IsSound}
use Rattle.model_writes.specs.Machine.{Cell, Flight, View}
use Rattle.model_writes.specs.Story.{File, Spot}
use Rattle.model_writes.proofs.AtLemmas.{same_file_or_not}
use Rattle.step_pending.specs.Cells.{IsRest, flight_of, EachSound, Shows, Leads}

pub if-true : {A : Type 0} → (b : Bool) (x y : A) → b ≡ true → (if b then x else y) ≡ x
if-true true x y is = refl
if-true false x y is = absurd cc

pub if-false : {A : Type 0} → (b : Bool) (x y : A) → b ≡ false → (if b then x else y) ≡ y
if-false true x y is = absurd cc
if-false false x y is = refl

abbrev pub spot : File → ℕ → Spot
spot file at = record { file = file; at = at }

is-spot : (file : File) (i : Spot) → i.file ≡ file → spot file i.at ≡ i
is-spot file i same = ap (λ (f : File). spot f i.at) (sym same)

-- what a place becomes, so that it shows what is pending there
pub record Turned (P : Option Cell → Option Flight → Type 0) (kept : Option segments.Cell) (flown : Option Flown) : Type 0 where
  pub rest : Option Cell
  pub fly : Option Flight
  pub is_rest : IsRest kept rest
  pub is_fly : fly ≡ option_map flight_of flown
  pub so : P rest fly

module _ (old new : Pending) (file : File) (to : FilePending) (on : OnFile old new file to) (c : View) (shows : Shows old c)
    (P : Spot → Option Cell → Option Flight → Type 0) (turned : (at : ℕ) → Turned (P (spot file at)) (rest_at to at) (fly_at to at))
    (others : (i : Spot) → i.file ≢ file → P i (c.rest i) (c.fly i)) where
  module _ (d : View) (rests : (i : Spot) → d.rest i ≡ (if bytes_eq file i.file then (turned i.at).rest else c.rest i))
      (flies : (i : Spot) → d.fly i ≡ (if bytes_eq file i.file then (turned i.at).fly else c.fly i)) where
    is-true : (i : Spot) → i.file ≡ file → bytes_eq file i.file ≡ true
    is-true i same = (bytes_eq-Decides file i.file).1 (sym same)

    is-false : (i : Spot) → i.file ≢ file → bytes_eq file i.file ≡ false
    is-false i apart = by (bytes_eq file i.file) refl
      where
        by : (b : Bool) → bytes_eq file i.file ≡ b → b ≡ false
        by true h = absurd (apart (sym ((bytes_eq-Decides file i.file).0 h)))
        by false h = refl

    rest-here : (i : Spot) → i.file ≡ file → d.rest i ≡ (turned i.at).rest
    rest-here i same = rests i ∙ if-true (bytes_eq file i.file) (turned i.at).rest (c.rest i) (is-true i same)

    fly-here : (i : Spot) → i.file ≡ file → d.fly i ≡ (turned i.at).fly
    fly-here i same = flies i ∙ if-true (bytes_eq file i.file) (turned i.at).fly (c.fly i) (is-true i same)

    rest-other : (i : Spot) → i.file ≢ file → d.rest i ≡ c.rest i
    rest-other i apart = rests i ∙ if-false (bytes_eq file i.file) (turned i.at).rest (c.rest i) (is-false i apart)

    fly-other : (i : Spot) → i.file ≢ file → d.fly i ≡ c.fly i
    fly-other i apart = flies i ∙ if-false (bytes_eq file i.file) (turned i.at).fly (c.fly i) (is-false i apart)

    file-here : (i : Spot) → i.file ≡ file → of_file i.file new ≡ to
    file-here i same = ap (λ (f : File). of_file f new) same ∙ on.here

    rest-shown : (i : Spot) → (i.file ≡ file) ⊎ (i.file ≢ file) → IsRest (rest_at (of_file i.file new) i.at) (d.rest i)
    rest-shown i (inl same) =
        subst (λ (o : Option Cell). IsRest (rest_at (of_file i.file new) i.at) o) (sym (rest-here i same))
        (subst (λ (of : FilePending). IsRest (rest_at of i.at) (turned i.at).rest) (sym (file-here i same)) (turned i.at).is_rest)
    rest-shown i (inr apart) =
        subst (λ (o : Option Cell). IsRest (rest_at (of_file i.file new) i.at) o) (sym (rest-other i apart))
        (subst (λ (of : FilePending). IsRest (rest_at of i.at) (c.rest i)) (sym (on.others i.file apart)) (shows.rest i))

    fly-shown : (i : Spot) → (i.file ≡ file) ⊎ (i.file ≢ file) → d.fly i ≡ option_map flight_of (fly_at (of_file i.file new) i.at)
    fly-shown i (inl same) = fly-here i same ∙ (turned i.at).is_fly ∙ ap (λ (of : FilePending). option_map flight_of (fly_at of i.at)) (sym (file-here i same))
    fly-shown i (inr apart) = fly-other i apart ∙ shows.fly i ∙ ap (λ (of : FilePending). option_map flight_of (fly_at of i.at)) (sym (on.others i.file apart))

    shown : Shows new d
    shown = record { rest = λ i. rest-shown i (same_file_or_not i.file file); fly = λ i. fly-shown i (same_file_or_not i.file file) }

    each-so : (i : Spot) → (i.file ≡ file) ⊎ (i.file ≢ file) → P i (d.rest i) (d.fly i)
    each-so i (inl same) =
        let here : P i (turned i.at).rest (turned i.at).fly = subst (λ (j : Spot). P j (turned i.at).rest (turned i.at).fly) (is-spot file i same) (turned i.at).so in
        let rested : P i (d.rest i) (turned i.at).fly = subst (λ (o : Option Cell). P i o (turned i.at).fly) (sym (rest-here i same)) here in
        subst (λ (o : Option Flight). P i (d.rest i) o) (sym (fly-here i same)) rested
    each-so i (inr apart) =
        let rested : P i (d.rest i) (c.fly i) = subst (λ (o : Option Cell). P i o (c.fly i)) (sym (rest-other i apart)) (others i apart) in
        subst (λ (o : Option Flight). P i (d.rest i) o) (sym (fly-other i apart)) rested

  -- each place of the file becomes so, and the others are so as they are
  pub leads : (Step : View → View → Type 0) → ((d : View) → ((i : Spot) → P i (d.rest i) (d.fly i)) → Step c d) → Leads new Step c
  leads Step step = record {
    rest = λ i. if bytes_eq file i.file then (turned i.at).rest else c.rest i;
    fly = λ i. if bytes_eq file i.file then (turned i.at).fly else c.fly i;
    shows = λ d rests flies. shown d rests flies;
    steps = λ d rests flies. step d (λ i. each-so d rests flies i (same_file_or_not i.file file));
  }

-- where the bytes of one file are changed and stay sound, those of each file do
pub sound-on : (old new : Pending) (file : File) (to : FilePending) → OnFile old new file to → EachSound old → IsSound to → EachSound new
sound-on old new file to on sound here other = by (same_file_or_not other file)
  where
    by : (other ≡ file) ⊎ (other ≢ file) → IsSound (of_file other new)
    by (inl same) = subst IsSound (sym (ap (λ (f : File). of_file f new) same ∙ on.here)) here
    by (inr apart) = subst IsSound (sym (on.others other apart)) (sound other)
