-- Rows by hand: what a COMMIT under a verifier and up to a number finds, and what is sent again (RFC 1813, section 4.8).
use Rattle.std.proofs.Common.{◌≡◌, ℕ, List, [], ◌∷◌, Option, Some, None, refl}
use Rattle.std.specs.Prelude.{replicate}
use Rattle.nfs_types.specs.declared.verf.Verf.{Verf}
use Rattle.write_back.specs.declared.change.Change.TheVariants as by
use Rattle.write_back.specs.Segments.{Segments, last_end}
use Rattle.write_back.specs.Changes.{lost, count_all_changed}
use Rattle.write_back.specs.Pieces.{Sent, FilePending, nothing, pending_of}
use Rattle.write_back.specs.Choice.{chosen, piece_of, with_sent}
use Rattle.write_back.specs.Landing.{landed_part, at_xid, acked_by, with_change}
use Rattle.write_back.specs.Files.{with_bytes}
use Rattle.commit_verf.specs.declared.commit.Verdict.{Verdict}
use Rattle.commit_verf.specs.declared.commit.Verdict.TheVariants.{AllStable, SendAgain}
use Rattle.commit_verf.specs.Decisions.{decided, verdict_of}

abbrev pub first : Verf
first = record { 0 = replicate 8 1 }

abbrev second : Verf
second = record { 0 = replicate 8 2 }

abbrev third : Verf
third = record { 0 = replicate 8 3 }

abbrev sent : Segments → FilePending → FilePending
sent [] of = of
sent (e ∷ es) of = with_sent (piece_of 7 e (e ∷ es)) of

abbrev hold : Verf → FilePending → FilePending
hold verf of = at_xid (landed_part (acked_by 0 verf) 2) 7 (sent (chosen 3 512 of) of)

-- bytes are written, sent, and held by the server under a verifier
abbrev put : ℕ → ℕ → List ℕ → Verf → FilePending → FilePending
put number offset bytes verf of = hold verf (with_bytes offset bytes number of)

-- `ab` at 0 has number 1 and is held under the first verifier, `cd` at 2 number 2 under the second, `ef` at 4 number 3 under the
-- first
abbrev held : FilePending
held = put 3 4 (101 ∷ 102 ∷ []) first (put 2 2 (99 ∷ 100 ∷ []) second (put 1 0 (97 ∷ 98 ∷ []) first nothing))

-- what is told, how much is pending then, and what is sent next: where, how and which bytes
data Row : Type 0 where
  row : Verdict → ℕ → Option (ℕ × (ℕ × List ℕ)) → Row

abbrev next : Segments → Option (ℕ × (ℕ × List ℕ))
next [] = None
next (e ∷ es) = Some (e.0, ((piece_of 7 e (e ∷ es)).how, (piece_of 7 e (e ∷ es)).bytes))

abbrev found : Verf → ℕ → Row
found verf upto = row (verdict_of (lost verf upto held.segments)) (pending_of (decided upto verf held)) (next (chosen 3 512 (decided upto verf held)))

none_yet : found first 0 ≡ row AllStable 6 None
none_yet = refl

one_stable : found first 1 ≡ row AllStable 4 None
one_stable = refl

one_lost : found second 1 ≡ row (SendAgain 1) 6 (Some (0, (2, 97 ∷ 98 ∷ [])))
one_lost = refl

second_lost : found first 2 ≡ row (SendAgain 1) 4 (Some (2, (2, 99 ∷ 100 ∷ [])))
second_lost = refl

first_lost : found second 2 ≡ row (SendAgain 1) 4 (Some (0, (2, 97 ∷ 98 ∷ [])))
first_lost = refl

two_stable : found first 3 ≡ row (SendAgain 1) 2 (Some (2, (2, 99 ∷ 100 ∷ [])))
two_stable = refl

two_lost : found second 3 ≡ row (SendAgain 2) 4 (Some (0, (2, 97 ∷ 98 ∷ [])))
two_lost = refl

all_lost : found third 3 ≡ row (SendAgain 3) 6 (Some (0, (2, 97 ∷ 98 ∷ 99 ∷ 100 ∷ 101 ∷ 102 ∷ [])))
all_lost = refl

-- ---- what is sent again doesn't go with what is sent for the first time
abbrev settled : FilePending
settled = with_change (by.Settle second 2) held

settled_pending : pending_of settled ≡ 4
settled_pending = refl

none_marked : count_all_changed (by.MarkAgain 0) settled.segments ≡ 0
none_marked = refl

one_marked : count_all_changed (by.MarkAgain 2) settled.segments ≡ 1
one_marked = refl

abbrev mixed : FilePending
mixed = with_bytes 2 (101 ∷ []) 4 (with_change (by.MarkAgain 2) settled)

mixed_first : next (chosen 4 512 mixed) ≡ Some (0, (2, 97 ∷ 98 ∷ []))
mixed_first = refl

mixed_second : next (chosen 4 512 (sent (chosen 4 512 mixed) mixed)) ≡ Some (2, (0, 101 ∷ []))
mixed_second = refl

mixed_none : next (chosen 4 512 (sent (chosen 4 512 (sent (chosen 4 512 mixed) mixed)) (sent (chosen 4 512 mixed) mixed))) ≡ None
mixed_none = refl

mixed_end : last_end mixed.segments ≡ Some 6
mixed_end = refl
