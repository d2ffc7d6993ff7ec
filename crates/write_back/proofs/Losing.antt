-- What is kept of the writes, after each call of a file's bytes.
use Rattle.std.proofs.Common.{◌≡◌, ◌<◌, ◌≤◌, ◌^◌, ℕ, ◌+◌, ◌-◌, true, false, List, [], ◌∷◌, ◌++◌, length, map, Some, Ok, refl, sym, ap, ◌∙◌, arith}
use Rattle.write_back.specs.declared.change.Change.{Change}
use Rattle.write_back.specs.declared.change.Change.TheVariants as by_change
use Rattle.write_back.specs.Segments.{Segments, AreApart, split, cut_from}
use Rattle.write_back.specs.Changes.{changed, all_changed}
use Rattle.write_back.specs.Choice.{part_of, piece_of, chosen, IsPut}
use Rattle.write_back.specs.Pieces.{Sent, FilePending, piece_under, without, end_of_sent, last_of}
use Rattle.write_back.specs.Walk.{split_as}
use Rattle.write_back.specs.Sound.{IsWhole, most_pending}
use Rattle.write_back.specs.Ages.{Writes, kept_by, raised_by, parts_by, parts_in, flying_by, written_by, pending_by, gone_by, cut_by, Lessens, Raises, Loses, Gains}
use Rattle.write_back.proofs.Limits.{most_is}
use Rattle.write_back.proofs.SendsOn.{last-append}
use Rattle.write_back.proofs.WritesKept.{lessens-as, lessens-none, loses-from, loses-same, gains-from}
use Rattle.write_back.proofs.WritesChanged.{gone-changed, gone-all, written-all-gone, written-stays, stays-send, stays-return, written-split, written-split-as}
use Rattle.write_back.proofs.WritesFlying.{flying-without-by, flying-append-by}
use Rattle.write_back.proofs.WritesLaid.{written-cut}
use Rattle.write_back.proofs.WritesSent.{run-below}
use Rattle.write_back.proofs.WritesTold.{parts-bound}

-- a piece was put in flight
pub gains-sent : (xid upto room : ℕ) (old new : FilePending) (piece : Sent) (a b : Writes) → IsPut xid (chosen upto room old) old new (Ok true) → new.pieces ≡ old.pieces ++ piece ∷ [] → Raises (λ n. parts_by n piece.parts) a b → Gains old new a b
gains-sent xid upto room old new piece a b puts pieces raises = by (chosen upto room old) puts (λ n. run-below n upto room old)
  where
    by : (run : Segments) → IsPut xid run old new (Ok true) → ((n : ℕ) → parts_by n (map part_of run) ≤ written_by n old.segments) → Gains old new a b
    by [] put below = absurd (let k : Ok true ≡ Ok false = put.0 in cc)
    by (e ∷ es) put below = gains-from old new (λ n. parts_by n piece.parts) a b sum (λ n. omega (arith, parts n, below n)) raises
      where
        made : Sent
        made = piece_of xid e (e ∷ es)

        parts : (n : ℕ) → parts_by n piece.parts ≡ parts_by n (map part_of (e ∷ es))
        parts n = omega (arith, flying-append-by n old.pieces piece, flying-append-by n old.pieces made, ap (flying_by n) (sym pieces ∙ ap (λ (z : FilePending). z.pieces) put.1))

        sum : (n : ℕ) → pending_by n new ≡ pending_by n old + parts_by n piece.parts
        sum n =
            omega (
              arith,
              ap (pending_by n) put.1,
              written-stays by_change.Send stays-send made.offset (end_of_sent made) n (split (end_of_sent made) old.segments),
              written-split (end_of_sent made) n old.segments,
              flying-append-by n old.pieces made,
              parts n,
            )

-- there is room for the bytes of a piece
pub room-sent : (ages : Writes) (ps sent : List Sent) (piece : Sent) → ((file : List ℕ) (n : ℕ) → kept_by ages file n ≤ 2 ^ 63 + most_pending) → sent ≡ ps ++ piece ∷ [] → IsWhole piece → length piece.bytes ≤ most_pending
    → (file : List ℕ) (n : ℕ) → kept_by ages file n + parts_by n (parts_in (last_of sent)) < 2 ^ 64
room-sent ages ps sent piece room is whole small file n =
    let last : parts_by n (parts_in (last_of sent)) ≡ parts_by n piece.parts = ap (λ z. parts_by n (parts_in (last_of z))) is ∙ ap (λ o. parts_by n (parts_in o)) (last-append ps piece) in
    omega (arith, room file n, last, parts-bound n piece.parts, whole.parts, small, most_is)

pub raises-last : (ps sent : List Sent) (piece : Sent) (a b : Writes) → sent ≡ ps ++ piece ∷ [] → Raises (λ n. parts_by n (parts_in (last_of sent))) a b → Raises (λ n. parts_by n piece.parts) a b
raises-last ps sent piece a b is raises file n =
    raises file n ∙ ap (λ z. raised_by (parts_by n (parts_in z)) (kept_by a file n)) (ap last_of is ∙ last-append ps piece)

-- segments were changed between two places
pub fewer-changed : (change : Change) (low high : ℕ) (old new : Segments) → new ≡ changed change low high old → (n : ℕ) → written_by n new ≤ written_by n old
fewer-changed change low high old new is n = omega (arith, ap (written_by n) is, gone-changed change low high n old)

pub less-changed : (change : Change) (low high : ℕ) (old new : Segments) (a b : Writes) → new ≡ changed change low high old → Lessens (λ n. gone_by change low high n old) a b → Lessens (λ n. written_by n old - written_by n new) a b
less-changed change low high old new a b is less =
    lessens-as (λ n. gone_by change low high n old) (λ n. written_by n old - written_by n new) a b less (λ n. omega (arith, ap (written_by n) is, gone-changed change low high n old))

-- they are as before they were sent
pub written-return : (low high : ℕ) (old new : Segments) → new ≡ changed by_change.Return low high old → (n : ℕ) → written_by n new ≡ written_by n old
written-return low high old new is n = ap (written_by n) is ∙ written-stays by_change.Return stays-return low high n old

pub less-return : (low high : ℕ) (old mid new : Segments) (a : Writes) → mid ≡ old → new ≡ changed by_change.Return low high mid → Lessens (λ n. written_by n old - written_by n new) a a
less-return low high old mid new a same is =
    lessens-as (λ n. 0) (λ n. written_by n old - written_by n new) a a (lessens-none a) (λ n. omega (arith, written-return low high mid new is n, ap (written_by n) same))

-- the first of them were changed, and the others are as before
module _ (change : Change) (low middle high : ℕ) (old cut mid new : Segments) (cut-is : cut ≡ split_as true middle old) (mid-is : mid ≡ changed change low middle cut) (new-is : new ≡ changed by_change.Return middle high mid) where
  sum-part : (n : ℕ) → written_by n new + gone_by change low middle n cut ≡ written_by n old
  sum-part n = omega (arith, written-return middle high mid new new-is n, ap (written_by n) mid-is, gone-changed change low middle n cut, ap (written_by n) cut-is, written-split-as true middle n old)

  pub fewer-part : (n : ℕ) → written_by n new ≤ written_by n old
  fewer-part n = omega (arith, sum-part n)

  pub less-part : (a b : Writes) → Lessens (λ n. gone_by change low middle n cut) a b → Lessens (λ n. written_by n old - written_by n new) a b
  less-part a b less = lessens-as (λ n. gone_by change low middle n cut) (λ n. written_by n old - written_by n new) a b less (λ n. omega (arith, sum-part n))

-- a piece is in flight no more
pub loses-landed : (xid : ℕ) (old : FilePending) (piece : Sent) (es : Segments) (ps : List Sent) (a b c : Writes) → piece_under xid old.pieces ≡ Some piece → ps ≡ without xid old.pieces → Lessens (λ n. parts_by n piece.parts) a b
    → ((n : ℕ) → written_by n es ≤ written_by n old.segments) → Lessens (λ n. written_by n old.segments - written_by n es) b c → Loses old (record { segments = es; pieces = ps }) a c
loses-landed xid old piece es ps a b c found left first fewer next = record {
  fewer = λ n. omega (arith, fewer n, flying n);
  less = λ file n. omega (arith, fewer n, flying n, first file n, next file n);
}
  where
    flying : (n : ℕ) → flying_by n ps + parts_by n piece.parts ≡ flying_by n old.pieces
    flying n = ap (λ z. flying_by n z + parts_by n piece.parts) left ∙ flying-without-by n xid old.pieces piece found

-- every segment was changed
pub loses-changed : (change : Change) (old : FilePending) (es : Segments) (a b : Writes) → AreApart 0 old.segments → es ≡ all_changed change old.segments → Lessens (λ n. gone_by change 0 18446744073709551615 n old.segments) a b
    → Loses old (record { segments = es; pieces = old.pieces }) a b
loses-changed change old es a b apart is less =
    loses-from old (record { segments = es; pieces = old.pieces }) (λ n. gone_by change 0 18446744073709551615 n old.segments) a b (λ n. omega (arith, ap (written_by n) is, gone-all change n old.segments apart)) less

-- the last bytes were cut
pub loses-cut : (size upto : ℕ) (old : FilePending) (es : Segments) (a b : Writes) → es ≡ cut_from size upto old.segments → Lessens (λ n. cut_by size upto n old.segments) a b → Loses old (record { segments = es; pieces = old.pieces }) a b
loses-cut size upto old es a b is less =
    loses-from old (record { segments = es; pieces = old.pieces }) (λ n. cut_by size upto n old.segments) a b (λ n. omega (arith, ap (written_by n) is, written-cut size upto n old.segments)) less

-- all of it went
pub lessens-left : (of : FilePending) (a b : Writes) → AreApart 0 of.segments → of.pieces ≡ [] → Lessens (λ n. gone_by by_change.Clear 0 18446744073709551615 n of.segments) a b → Lessens (λ n. pending_by n of) a b
lessens-left of a b apart none less =
    lessens-as (λ n. gone_by by_change.Clear 0 18446744073709551615 n of.segments) (λ n. pending_by n of) a b less (λ n. omega (arith, written-all-gone n of.segments apart, ap (flying_by n) none))

-- no piece was found
pub loses-none : (old : FilePending) (ps : List Sent) (a : Writes) → ps ≡ old.pieces → Loses old (record { segments = old.segments; pieces = ps }) a a
loses-none old ps a same = loses-same old (record { segments = old.segments; pieces = ps }) a a (λ n. ap (λ z. written_by n old.segments + flying_by n z) same) (λ file n. refl)
