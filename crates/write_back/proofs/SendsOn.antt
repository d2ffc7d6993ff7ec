-- A piece that is put in flight, among the pending bytes of all files.
use Rattle.std.proofs.Common.{◌≡◌, ◌<◌, ◌≤◌, ℕ, ◌+◌, ◌-◌, Bool, true, false, List, [], ◌∷◌, ◌++◌, length, suc, Option, Some, None, Result, Ok, refl, sym, ap, ◌∙◌, subst, ◌⊎◌, inl, inr, arith, nat_cmp}
use Rattle.std.specs.Prelude.{IsSomeAnd, slice_get, slice_index, if◌then◌else◌}
use Rattle.std.specs.Cmp.Lexicographic.{slice_cmp}
use Rattle.std.specs.Map.{lookup, set_value}
use Rattle.std.specs.BTreeMap.{BTreeMap, WritesThrough}
use Rattle.std.proofs.lemmas.Bool.{cases_lt}
use Rattle.std.proofs.lemmas.Map.Steps.{set_value_same}
use Rattle.xdr_codec.specs.declared.blob.Memory.{Memory}
use Rattle.write_back.specs.declared.piece.Piece.{Piece}
use Rattle.write_back.specs.declared.state.State.TheVariants.{Waiting}
use Rattle.write_back.specs.declared.state.Ready.TheVariants.{Unsent}
use Rattle.write_back.specs.Segments.{Segments, covers}
use Rattle.write_back.specs.Pieces.{Sent, FilePending, last_of, bytes_sent, rest_at, fly_at, pending_of, piece_under}
use Rattle.write_back.specs.Choice.{chosen, some_go, piece_of, with_sent, IsPut}
use Rattle.write_back.specs.Places.{PutsInFlight, PutsBytes}
use Rattle.write_back.specs.Files.{Pending, of_file, OnFile, with_bytes, PutsPiece, ShowsBytes, ShowsPiece, ShowsSent, IsFree, IsCounted}
use Rattle.write_back.specs.Sound.{IsSound}
use Rattle.write_back.proofs.Keys.{past-range, before-range}
use Rattle.write_back.proofs.Sending.{IsNext, next-is, puts-sent, sound-sent, room-sent}
use Rattle.write_back.proofs.Adding.{with_added, puts-added}
use Rattle.write_back.proofs.Counting.{is_file, of-found, on-through}
use Rattle.write_back.proofs.Through.{sound-here}
use Rattle.write_back.proofs.Totals.{total-same}
use Rattle.write_back.proofs.ByFile.{on-is}

pub last-append : (pieces : List Sent) (piece : Sent) → last_of (pieces ++ piece ∷ []) ≡ Some piece
last-append [] piece = refl
last-append (p ∷ pieces) piece = by (pieces ++ piece ∷ []) refl (last-append pieces piece)
  where
    by : (ps : List Sent) → pieces ++ piece ∷ [] ≡ ps → last_of (pieces ++ piece ∷ []) ≡ Some piece → slice_get (p ∷ (pieces ++ piece ∷ [])) (length (p ∷ (pieces ++ piece ∷ [])) - 1) ≡ Some piece
    by [] is more = let k : None ≡ Some piece = sym (ap last_of is) ∙ more in absurd cc
    by (q ∷ ps) is more =
        let size : length (p ∷ (pieces ++ piece ∷ [])) - 1 ≡ suc (length (pieces ++ piece ∷ []) - 1) = (let s : length (pieces ++ piece ∷ []) ≡ length (q ∷ ps) = ap length is in omega (arith, s)) in
        ap (slice_get (p ∷ (pieces ++ piece ∷ []))) size ∙ more

pub shows-none : (xid : ℕ) (run : Segments) → some_go run ≡ false → ShowsPiece xid run None
shows-none xid [] none = refl
shows-none xid (e ∷ run) none = absurd cc

pub shows-some : (xid upto : ℕ) (run : Segments) (old new : Pending) (file : List ℕ) (shown : Option Piece) → some_go run ≡ true → PutsPiece xid upto run old new file → ShowsSent (last_of (of_file file new).pieces) shown → ShowsPiece xid run shown
shows-some xid upto [] old new file shown some puts shows = absurd cc
shows-some xid upto (e ∷ run) old new file shown some puts shows =
    let last : last_of (of_file file new).pieces ≡ Some (piece_of xid e (e ∷ run)) = ap (λ (z : FilePending). last_of z.pieces) puts.0.here ∙ last-append (of_file file old).pieces (piece_of xid e (e ∷ run)) in
    subst (λ o. ShowsSent o shown) last shows

-- what is shown has the bytes of the piece that was sent last
pub shown-last : (xid upto : ℕ) (run : Segments) (old new : Pending) (file : List ℕ) (shown : Option Piece) (piece : Piece) → PutsPiece xid upto run old new file → ShowsPiece xid run shown → shown ≡ Some piece → bytes_sent (last_of (of_file file new).pieces) ≡ piece.bytes.now
shown-last xid upto [] old new file shown piece puts shows is = let k : None ≡ Some piece = sym shows ∙ is in absurd cc
shown-last xid upto (e ∷ run) old new file shown piece puts shows is =
    let last : last_of (of_file file new).pieces ≡ Some (piece_of xid e (e ∷ run)) = ap (λ (z : FilePending). last_of z.pieces) puts.0.here ∙ last-append (of_file file old).pieces (piece_of xid e (e ∷ run)) in
    let here : ShowsBytes (piece_of xid e (e ∷ run)) piece = subst (λ s. IsSomeAnd s (ShowsBytes (piece_of xid e (e ∷ run)))) is shows in
    ap bytes_sent last ∙ sym here.bytes

-- it is sound, with as many bytes
abbrev pub HasAsMany : FilePending → FilePending → Type 0
HasAsMany of new = IsSound new × (pending_of new ≡ pending_of of)

-- of a file with pending bytes
abbrev pub PutsOn : ℕ → ℕ → ℕ → Pending → Pending → List ℕ → Bool → FilePending → FilePending → Type 0
PutsOn xid upto wsize p q file done of new = PutsPiece xid upto (chosen upto wsize (of_file file p)) p q file × (done ≡ some_go (chosen upto wsize (of_file file p))) × HasAsMany of new

pub puts-on : (xid upto wsize : ℕ) (m n : BTreeMap (List ℕ) FilePending) (file : List ℕ) (of new : FilePending) (done : Bool) (total : ℕ) → lookup (is_file file) m.entries ≡ Some of → IsFree xid file m.entries → IsCounted m.entries total
    → WritesThrough (slice_cmp nat_cmp) (slice_cmp nat_cmp file) m new n → (r : Result Bool Memory) → r ≡ Ok done → IsPut xid (chosen upto wsize of) of new r → PutsOn xid upto wsize m.entries n.entries file done of new
puts-on xid upto wsize m n file of new done total found free counted writes r is_ok put =
    subst (λ z. PutsPiece xid upto (chosen upto wsize z) m.entries n.entries file × (done ≡ some_go (chosen upto wsize z)) × HasAsMany of new) (sym (of-found file m.entries (Some of) found)) (by (chosen upto wsize of) refl put)
  where
    sound : IsSound of
    sound = sound-here m.entries file of total found counted

    on : OnFile m.entries n.entries file new
    on = on-through m n file of new found writes

    by : (run : Segments) → chosen upto wsize of ≡ run → IsPut xid run of new r → PutsPiece xid upto run m.entries n.entries file × (done ≡ some_go run) × HasAsMany of new
    by [] h p =
        let no-more : Ok done ≡ Ok false = sym is_ok ∙ p.0 in
        let same : set_value (is_file file) m.entries new ≡ m.entries = ap (set_value (is_file file) m.entries) p.1 ∙ set_value_same (is_file file) m.entries of found in
        (writes.0 ∙ same, cc, subst (λ z. HasAsMany of z) (sym p.1) (sound, refl))
    by (e ∷ run) h p =
        let more : Ok done ≡ Ok true = sym is_ok ∙ p.0 in
        let next : IsNext (piece_of xid e (e ∷ run)) upto of = next-is xid upto wsize of e run sound.apart h in
        let old-is : of_file file m.entries ≡ of = of-found file m.entries (Some of) found in
        let new-is : of_file file n.entries ≡ with_sent (piece_of xid e (e ∷ run)) of = on.here ∙ p.1 in
        let puts : PutsInFlight (piece_of xid e (e ∷ run)) upto (of_file file m.entries) (of_file file n.entries) =
        subst (λ z. PutsInFlight (piece_of xid e (e ∷ run)) upto z (of_file file n.entries)) (sym old-is) (subst (λ z. PutsInFlight (piece_of xid e (e ∷ run)) upto of z) (sym new-is) (puts-sent (piece_of xid e (e ∷ run)) upto of sound next)) in
        let as-many : HasAsMany of new = subst (λ z. HasAsMany of z) (sym p.1) (sound-sent (piece_of xid e (e ∷ run)) upto of (subst (λ (z : FilePending). piece_under xid z.pieces ≡ None) old-is free) sound next, room-sent (piece_of xid e (e ∷ run)) upto of next) in (
          (on-is m.entries n.entries file new (with_sent (piece_of xid e (e ∷ run)) (of_file file m.entries)) on (p.1 ∙ ap (with_sent (piece_of xid e (e ∷ run))) (sym old-is)), puts, total-same m n file of new found writes total counted as-many.0 as-many.1),
          cc,
          as-many,
        )

-- new bytes, if there are any
pub with-some : (offset : ℕ) (bytes : List ℕ) (number : ℕ) (of : FilePending) → 0 < length bytes → with_bytes offset bytes number of ≡ with_added offset bytes number of
with-some offset [] number of some = absurd (omega (arith, some))
with-some offset (b ∷ bs) number of some = refl

with-none : (offset : ℕ) (bytes : List ℕ) (number : ℕ) (of : FilePending) → length bytes ≡ 0 → with_bytes offset bytes number of ≡ of
with-none offset [] number of none = refl
with-none offset (b ∷ bs) number of none = absurd (omega (arith, none))

pub none-is : (offset : ℕ) (bytes : List ℕ) (number : ℕ) (of : FilePending) → length bytes ≡ 0 → of ≡ with_bytes offset bytes number of
none-is offset bytes number of none = sym (with-none offset bytes number of none)

pub puts-with : (offset : ℕ) (bytes : List ℕ) (number : ℕ) (of new : FilePending) → IsSound of → new ≡ with_bytes offset bytes number of → PutsBytes offset bytes number of new
puts-with offset [] number of new sound is = record {
  rest = λ place. ap (λ z. rest_at z place) is ∙ out place;
  fly = λ place. ap (λ z. fly_at z place) is;
}
  where
    nowhere : (place : ℕ) → covers offset 0 place ≡ false
    nowhere place = by (cases_lt place offset)
      where
        by : (place < offset) ⊎ (offset ≤ place) → covers offset 0 place ≡ false
        by (inl less) = before-range offset (offset + 0) place less
        by (inr more) = past-range offset (offset + 0) place (omega (arith, more))

    out : (place : ℕ) → rest_at of place ≡ (if covers offset 0 place then Some (record { byte = slice_index [] (place - offset); number = number; state = Waiting Unsent }) else rest_at of place)
    out place = rw (nowhere place) refl
puts-with offset (b ∷ bs) number of new sound is = subst (λ z. PutsBytes offset (b ∷ bs) number of z) (sym is) (puts-added offset (b ∷ bs) number of sound.apart)
