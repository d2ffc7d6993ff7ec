-- Bytes that come in, by place.
use Rattle.std.proofs.Common.{◌≡◌, ◌≢◌, ◌≤◌, ◌^◌, ℕ, ◌+◌, ◌-◌, Bool, true, false, List, [], ◌∷◌, length, Option, Some, None, refl, sym, ap, subst, ◌∙◌, arith}
use Rattle.std.specs.Prelude.{slice_index}
use Rattle.std.specs.Option.{option_map}
use Rattle.std.specs.Map.{lookup}
use Rattle.write_back.specs.declared.state.State.TheVariants.{Waiting}
use Rattle.write_back.specs.declared.state.Ready.TheVariants.{Unsent}
use Rattle.write_back.specs.Files.{Pending, of_file, all_pending, with_bytes, IsNewest, OnFile}
use Rattle.write_back.specs.Pieces.{FilePending, pending_of, rest_at, fly_at}
use Rattle.write_back.specs.Places.{PutsBytes}
use Rattle.write_back.specs.Segments as segments
use Rattle.write_back.specs.Sound.{most_pending}
use Rattle.write_back.proofs.Adding.{sound-added}
use Rattle.write_back.proofs.Counting.{is_file, of-found, among-all}
use Rattle.write_back.proofs.Newest.{newest-above}
use Rattle.write_back.proofs.SendsOn.{puts-with}
use Rattle.model_writes.specs.Machine.{Cell, Flight, View, unsent}
use Rattle.model_writes.specs.Story.{File, Spot, covers}
use Rattle.step_pending.specs.Cells.{IsCell, IsRest, flight_of, EachSound, Shows, Leads}
use Rattle.step_pending.specs.Steps.{Lays}
use Rattle.step_pending.proofs.Covered.{covers-file, covers-place, covers-byte, covers-none}
use Rattle.step_pending.proofs.Leading.{if-true, if-false, spot, Turned, leads, sound-on}

abbrev laid : ℕ → ℕ → Cell
laid byte number = record { byte = byte; number = number; mark = unsent }

record LaidAt (file : File) (offset : ℕ) (bytes : List ℕ) (number : ℕ) (c : View) (i : Spot) (rest : Option Cell) (fly : Option Flight) : Type 0 where
  pub there : (y : ℕ) → covers file offset bytes i ≡ Some y → rest ≡ Some (laid y number)
  pub stays : fly ≡ c.fly i
  pub others : covers file offset bytes i ≡ None → rest ≡ c.rest i

module _ (file : File) (offset : ℕ) (bytes : List ℕ) (number : ℕ) (old : Pending) (to : FilePending) (puts : PutsBytes offset bytes number (of_file file old) to)
    (c : View) (shows : Shows old c) where
  abbrev within : ℕ → Bool
  within at = segments.covers offset (length bytes) at

  abbrev byte : ℕ → ℕ
  byte at = slice_index bytes (at - offset)

  abbrev kept : ℕ → segments.Cell
  kept at = record { byte = byte at; number = number; state = Waiting Unsent }

  flies : (at : ℕ) → c.fly (spot file at) ≡ option_map flight_of (fly_at to at)
  flies at = shows.fly (spot file at) ∙ ap (option_map flight_of) (sym (puts.fly at))

  turned : (at : ℕ) → Turned (LaidAt file offset bytes number c (spot file at)) (rest_at to at) (fly_at to at)
  turned at = by (within at) refl
    where
      by : (b : Bool) → within at ≡ b → Turned (LaidAt file offset bytes number c (spot file at)) (rest_at to at) (fly_at to at)
      by true h =
          let cell : IsCell (kept at) (laid (byte at) number) = record { byte = refl; number = refl; fits = tt } in
          record {
            rest = Some (laid (byte at) number);
            fly = c.fly (spot file at);
            is_rest = subst (λ o. IsRest o (Some (laid (byte at) number))) (sym (puts.rest at ∙ if-true (within at) (Some (kept at)) (rest_at (of_file file old) at) h)) cell;
            is_fly = flies at;
            so = record {
              there = λ y e. ap (λ b. Some (laid b number)) (covers-byte file offset bytes (spot file at) y e);
              stays = refl;
              others = λ none. (let k : true ≡ false = sym h ∙ covers-none file offset bytes (spot file at) none refl in absurd cc);
            };
          }
      by false h = record {
        rest = c.rest (spot file at);
        fly = c.fly (spot file at);
        is_rest = subst (λ o. IsRest o (c.rest (spot file at))) (sym (puts.rest at ∙ if-false (within at) (Some (kept at)) (rest_at (of_file file old) at) h)) (shows.rest (spot file at));
        is_fly = flies at;
        so = record {
          there = λ y e. (let k : true ≡ false = sym (covers-place file offset bytes (spot file at) y e) ∙ h in absurd cc);
          stays = refl;
          others = λ none. refl;
        };
      }

  others : (i : Spot) → i.file ≢ file → LaidAt file offset bytes number c i (c.rest i) (c.fly i)
  others i apart = record { there = λ y e. absurd (apart (covers-file file offset bytes i y e)); stays = refl; others = λ none. refl }

  lays : (d : View) → ((i : Spot) → LaidAt file offset bytes number c i (d.rest i) (d.fly i)) → Lays file offset bytes number c d
  lays d each = record { there = λ i. (each i).there; fly = λ i. (each i).stays; others = λ i. (each i).others }

pub comes-in : (old new : Pending) (file : File) (offset number : ℕ) (bytes : List ℕ) → EachSound old → OnFile old new file (with_bytes offset bytes number (of_file file old))
    → (c : View) → Shows old c → Leads new (Lays file offset bytes number) c
comes-in old new file offset number bytes sound on c shows =
    let to : FilePending = with_bytes offset bytes number (of_file file old) in
    let puts : PutsBytes offset bytes number (of_file file old) to = puts-with offset bytes number (of_file file old) to (sound file) refl in
    leads old new file to on c shows (LaidAt file offset bytes number c) (turned file offset bytes number old to puts c shows) (others file offset bytes number old to puts c shows)
    (Lays file offset bytes number) (lays file offset bytes number old to puts c shows)

room-of : (old : Pending) (file : File) (more : ℕ) → all_pending old + more ≤ most_pending → pending_of (of_file file old) + more ≤ most_pending
room-of old file more room = by (lookup (is_file file) old) refl
  where
    by : (o : Option FilePending) → lookup (is_file file) old ≡ o → pending_of (of_file file old) + more ≤ most_pending
    by None h = subst (λ of. pending_of of + more ≤ most_pending) (sym (of-found file old None h)) (omega (arith, room))
    by (Some v) h = subst (λ of. pending_of of + more ≤ most_pending) (sym (of-found file old (Some v) h)) (omega (arith, room, among-all file old v h))

pub sound-in : (old new : Pending) (file : File) (offset number : ℕ) (bytes : List ℕ) → EachSound old → IsNewest number old → offset + length bytes ≤ 2 ^ 63 - 1
    → all_pending old + length bytes ≤ most_pending → OnFile old new file (with_bytes offset bytes number (of_file file old)) → EachSound new
sound-in old new file offset number [] sound newest last room on = sound-on old new file (of_file file old) on sound (sound file)
sound-in old new file offset number (b ∷ bs) sound newest last room on =
    sound-on old new file (with_bytes offset (b ∷ bs) number (of_file file old)) on sound
    (sound-added offset (b ∷ bs) number (of_file file old) (sound file) (omega arith) last (room-of old file (length (b ∷ bs)) room) (newest-above number file old newest))
