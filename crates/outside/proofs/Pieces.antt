-- What a wire in memory hands out of its pieces.
use Rattle.std.specs.Prelude.{slice_index_or}
use Rattle.std.proofs.Common.{map, ◌++◌, ◌≡◌, ◌<◌, ◌+◌, ◌-◌, min, ℕ, zero, suc, List, [], ◌∷◌, length, take, drop, get_or, drop-cons, refl, sym, ap, ◌∙◌, arith}
use Rattle.std.proofs.lemmas.Bool.{eq-eqb, ne_eqb}
use Rattle.outside.specs.declared.wire.WireEntry.{WireEntry}
use Rattle.outside.specs.Wire.{WireCall, WireTold, AddsCall, NotesCall}
use Rattle.world_model.specs.History.{no_server}
use Rattle.outside.specs.MemWire.{alone, in_memory, WireView, IsFilled, IsPartOf, HandsOutPart}

pub drop_here : {A : Type 0} (i : ℕ) (xs : List A) (x : A) → i < length xs → x ≡ get_or xs i x → drop i xs ≡ x ∷ drop (i + 1) xs
drop_here i xs x lt e = drop-cons xs i x lt ∙ ap (λ t. t ∷ drop (suc i) xs) (sym e) ∙ ap (λ (k : ℕ). x ∷ drop k xs) (more i)
  where
    more : (n : ℕ) → suc n ≡ n + 1
    more n = omega arith

-- no part of the piece that comes next was handed out
pub no_part : (i : ℕ) (ps : List (List ℕ)) → ((k : ℕ) (d : List ℕ) → k < length ps → IsFilled (slice_index_or ps k d)) → IsPartOf 0 (drop i ps)
no_part zero [] all = refl
no_part zero (p ∷ ps) all = all 0 [] (omega arith)
no_part (suc i) [] all = refl
no_part (suc i) (p ∷ ps) all = no_part i ps (λ k d lt. all (suc k) d (omega (arith, lt)))

pub hands_last : (old new : WireView) (buf first : List ℕ) (others : List (List ℕ)) (n : ℕ) → old.pieces ≡ first ∷ others → n ≡ min (length first - old.at) (length buf)
    → take n buf ≡ take n (drop old.at first) → old.at + n ≡ length first → new.pieces ≡ others → new.at ≡ 0 → HandsOutPart old new buf n
hands_last old new buf first others n pieces count bytes whole left at = record {
  first = first;
  others = others;
  pieces = pieces;
  count = count;
  bytes = bytes;
  left = rw (eq-eqb (old.at + n) (length first) whole) left;
  at = rw (eq-eqb (old.at + n) (length first) whole) at;
}

pub hands_part : (old new : WireView) (buf first : List ℕ) (others : List (List ℕ)) (n : ℕ) → old.pieces ≡ first ∷ others → n ≡ min (length first - old.at) (length buf)
    → take n buf ≡ take n (drop old.at first) → (old.at + n ≡ length first → ⊥) → new.pieces ≡ old.pieces → new.at ≡ old.at + n → HandsOutPart old new buf n
hands_part old new buf first others n pieces count bytes whole left at = record {
  first = first;
  others = others;
  pieces = pieces;
  count = count;
  bytes = bytes;
  left = rw (ne_eqb (old.at + n) (length first) whole) (left ∙ pieces);
  at = rw (ne_eqb (old.at + n) (length first) whole) at;
}

map_last : (es : List WireEntry) (e : WireEntry) → map alone (es ++ e ∷ []) ≡ map alone es ++ alone e ∷ []
map_last [] e = refl
map_last (x ∷ es) e = ap (λ (t : List WireCall). alone x ∷ t) (map_last es e)

abbrev no_server_told : List WireCall → WireTold
no_server_told cs = record { start = no_server; calls = cs }

-- one more call is told, and nothing of the server
pub notes_alone : (old : List WireEntry) (e : WireEntry) → in_memory (old ++ e ∷ []) ≡ record { start = no_server; calls = (in_memory old).calls ++ record { quiet = []; did = e } ∷ [] }
notes_alone old e = ap (λ (cs : List WireCall). no_server_told cs) (map_last old e)

pub tells_alone : (old : List WireEntry) (e : WireEntry) → AddsCall (in_memory old) (in_memory (old ++ e ∷ [])) e
tells_alone old e = record { quiet = []; grown = notes_alone old e; unseen = refl }
