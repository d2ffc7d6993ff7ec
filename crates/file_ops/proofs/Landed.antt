-- A WRITE whose reply came is in flight no more, and all else of its file is.
use Rattle.std.proofs.Common.{◌≡◌, ◌≢◌, ◌≤◌, ℕ, Bool, true, false, nat_eq, List, [], ◌∷◌, length, Option, Some, None, IfSome, Result, Err, IsOk, refl, sym, ap, subst, ◌∙◌}
use Rattle.nfs_types.specs.declared.verf.Verf.{Verf}
use Rattle.nfs_types.specs.declared.wcc.Wcc.{Wcc}
use Rattle.xdr_codec.specs.declared.blob.Memory.{Memory}
use Rattle.world_model.specs.declared.answer.Fault.{Fault}
use Rattle.write_back.specs.declared.change.Change.TheVariants as by_change
use Rattle.write_back.specs.Pieces.{Sent, FilePending, piece_under, without}
use Rattle.write_back.specs.Landing.{at_piece, at_xid, landed, landed_part, acked_by}
use Rattle.write_back.specs.Files.{Pending, of_file, OnFile}
use Rattle.write_back.proofs.Taking.{under-own}
use Rattle.file_ops.specs.declared.judging.WriteTold.{WriteTold}
use Rattle.file_ops.specs.declared.judging.WriteTold.TheVariants.{Done, Refused, Fails}
use Rattle.file_ops.specs.Saves.{Lands, LandsWhole, HasAll}

-- the piece under the xid is taken out
pub record TakenOut (asked : ℕ) (file : List ℕ) (old new : Pending) : Type 0 where
  pub here : (of_file file new).pieces ≡ without asked (of_file file old).pieces
  pub others : (other : List ℕ) → other ≢ file → of_file other new ≡ of_file other old

none-out : (asked : ℕ) (pieces : List Sent) → piece_under asked pieces ≡ None → without asked pieces ≡ pieces
none-out asked [] none = refl
none-out asked (p ∷ pieces) none = by (nat_eq p.xid asked) refl (none-out asked pieces)
  where
    by : (b : Bool) → nat_eq p.xid asked ≡ b → (piece_under asked pieces ≡ None → without asked pieces ≡ pieces) → without asked (p ∷ pieces) ≡ p ∷ pieces
    by true h more = let no_way : Some p ≡ None = (rw h at none) in absurd cc
    by false h more = let rest : piece_under asked pieces ≡ None = (rw h at none) in rw h (ap (λ (ps : List Sent). p ∷ ps) (more rest))

out : (f : Sent → FilePending → FilePending) → ((piece : Sent) (of : FilePending) → (f piece of).pieces ≡ without piece.xid of.pieces) → (asked : ℕ) (file : List ℕ)
    (old new : Pending) → OnFile old new file (at_xid f asked (of_file file old)) → TakenOut asked file old new
out f takes asked file old new on = record {
  here = ap (λ (of : FilePending). of.pieces) on.here ∙ by (piece_under asked (of_file file old).pieces) refl;
  others = on.others;
}
  where
    by : (found : Option Sent) → piece_under asked (of_file file old).pieces ≡ found → (at_piece f found (of_file file old)).pieces ≡ without asked (of_file file old).pieces
    by None h = sym (none-out asked (of_file file old).pieces h)
    by (Some piece) h =
        takes piece (of_file file old) ∙ ap (λ (x : ℕ). without x (of_file file old).pieces) (under-own asked (of_file file old).pieces piece h)

-- whatever the reply says of it
pub lands-out : (asked : ℕ) (file : List ℕ) (told : WriteTold) (old new : Pending) (refusal : Option Fault) → Lands asked file told old new refusal → TakenOut asked file old new
lands-out asked file (Done wcc count committed verf) old new None l = out (landed_part (acked_by committed verf) count) (λ piece of. refl) asked file old new l
lands-out asked file (Done wcc count committed verf) old new (Some fault) l = out (landed by_change.Return) (λ piece of. refl) asked file old new l.1
lands-out asked file (Refused status) old new refusal l = out (landed (by_change.Refuse status)) (λ piece of. refl) asked file old new l.1
lands-out asked file (Fails fault) old new refusal l = out (landed by_change.Return) (λ piece of. refl) asked file old new l.1

-- ---- a piece that the server has whole

pub whole-none : (told : WriteTold) (piece : Option Sent) → LandsWhole told piece None
whole-none told None = tt
whole-none told (Some piece) = λ all. refl

pub whole-err : (told : WriteTold) (wcc : Wcc) (count committed : ℕ) (verf : Verf) → told ≡ Done wcc count committed verf → (piece : Option Sent) (memory : Memory)
    (refusal : Option Fault) → IfSome piece (λ p. length p.bytes ≤ count → IsOk {T = Unit {0}} {E = Memory} (Err memory)) → LandsWhole told piece refusal
whole-err told wcc count committed verf is piece memory refusal fine = subst (λ (t : WriteTold). LandsWhole t piece refusal) (sym is) (by piece fine)
  where
    by : (p : Option Sent) → IfSome p (λ q. length q.bytes ≤ count → IsOk {T = Unit {0}} {E = Memory} (Err memory))
        → LandsWhole (Done wcc count committed verf) p refusal
    by None f = tt
    by (Some q) f = λ all. (let no_way : false ≡ true = f all in absurd cc)

pub whole-refused : (told : WriteTold) (status : ℕ) → told ≡ Refused status → (piece : Option Sent) (refusal : Option Fault) → LandsWhole told piece refusal
whole-refused told status is piece refusal = subst (λ (t : WriteTold). LandsWhole t piece refusal) (sym is) (by piece)
  where
    by : (p : Option Sent) → LandsWhole (Refused status) p refusal
    by None = tt
    by (Some q) = λ all. absurd all

pub whole-fails : (told : WriteTold) (fault : Fault) → told ≡ Fails fault → (piece : Option Sent) (refusal : Option Fault) → LandsWhole told piece refusal
whole-fails told fault is piece refusal = subst (λ (t : WriteTold). LandsWhole t piece refusal) (sym is) (by piece)
  where
    by : (p : Option Sent) → LandsWhole (Fails fault) p refusal
    by None = tt
    by (Some q) = λ all. absurd all
