-- The WRITE that is made of the piece that was sent last.
use Rattle.std.proofs.Common.{◌≡◌, ◌≤◌, ℕ, List, [], ◌∷◌, length, Option, Some, None, Result, Ok, sym, ap, subst, ◌∙◌}
use Rattle.std.specs.Prelude.{IsSomeAnd}
use Rattle.xdr_codec.specs.declared.blob.Memory as memory
use Rattle.nfs_file_calls.specs.declared.call.FileCall.TheVariants.{Write}
use Rattle.world_model.specs.declared.message.Call.{Call}
use Rattle.world_model.specs.declared.message.Call.TheVariants as calls
use Rattle.write_back.specs.Segments.{Segments}
use Rattle.write_back.specs.declared.piece.Piece.{Piece}
use Rattle.write_back.specs.Pieces.{FilePending, last_of, bytes_sent}
use Rattle.write_back.specs.Choice.{chosen, piece_of}
use Rattle.write_back.specs.Files.{Pending, of_file, PutsPiece, SendsPiece, ShowsPiece, ShowsBytes}
use Rattle.write_back.proofs.SendsOn.{shown-last}
use Rattle.file_ops.specs.Saves.{CallsWrite, write_of}
use Rattle.file_ops.proofs.Fits.{piece-fits}

-- it is put in flight
puts : (xid upto : ℕ) (run : Segments) (old new : Pending) (file : List ℕ) (shown : Option Piece) (told : Result (Option Piece) memory.Memory) → told ≡ Ok shown → SendsPiece xid upto run old new file told → PutsPiece xid upto run old new file
puts xid upto run old new file shown told is sends = subst (SendsPiece xid upto run old new file) is sends

-- its bytes fit into room for so many
pub last-fits : (xid upto wsize room : ℕ) (old new : Pending) (file : List ℕ) (shown : Option Piece) (piece : Piece) (told : Result (Option Piece) memory.Memory) → told ≡ Ok shown
    → SendsPiece xid upto (chosen upto wsize (of_file file old)) old new file told → ShowsPiece xid (chosen upto wsize (of_file file old)) shown → shown ≡ Some piece → room ≡ wsize → length (bytes_sent (last_of (of_file file new).pieces)) ≤ room
last-fits xid upto wsize room old new file shown piece told is sends shows some whole =
    let last : bytes_sent (last_of (of_file file new).pieces) ≡ piece.bytes.now = shown-last xid upto (chosen upto wsize (of_file file old)) old new file shown piece (puts xid upto (chosen upto wsize (of_file file old)) old new file shown told is sends) shows some in
    subst (λ b. length b ≤ room) (sym last) (piece-fits xid upto wsize room (of_file file old) shown piece shows some whole)

made : (xid upto : ℕ) (run : Segments) (old new : Pending) (file : List ℕ) (shown : Option Piece) (piece : Piece) (call : Call) → PutsPiece xid upto run old new file → ShowsPiece xid run shown → shown ≡ Some piece
    → call ≡ calls.File (Write file piece.offset piece.how piece.bytes.now) → CallsWrite xid upto file run old new (Ok (Some call))
made xid upto [] old new file shown piece call put shows some is = let k : None ≡ Some piece = sym shows ∙ some in absurd cc
made xid upto (e ∷ run) old new file shown piece call put shows some is =
    let here : ShowsBytes (piece_of xid e (e ∷ run)) piece = subst (λ s. IsSomeAnd s (ShowsBytes (piece_of xid e (e ∷ run)))) some shows in
    let same : call ≡ write_of file (piece_of xid e (e ∷ run)) = is ∙ ap (λ o. calls.File (Write file o piece.how piece.bytes.now)) here.offset ∙ ap (λ w. calls.File (Write file (piece_of xid e (e ∷ run)).offset w piece.bytes.now)) here.how ∙ ap (λ b. calls.File (Write file (piece_of xid e (e ∷ run)).offset (piece_of xid e (e ∷ run)).how b)) here.bytes in
    (ap (λ c. Some c) same, put)

-- its call is the next WRITE
pub calls-last : (xid upto wsize : ℕ) (old new : Pending) (file : List ℕ) (shown : Option Piece) (piece : Piece) (told : Result (Option Piece) memory.Memory) (bytes : List ℕ) (call : Call) → told ≡ Ok shown
    → SendsPiece xid upto (chosen upto wsize (of_file file old)) old new file told → ShowsPiece xid (chosen upto wsize (of_file file old)) shown → shown ≡ Some piece
    → bytes ≡ bytes_sent (last_of (of_file file new).pieces) → call ≡ calls.File (Write file piece.offset piece.how bytes) → CallsWrite xid upto file (chosen upto wsize (of_file file old)) old new (Ok (Some call))
calls-last xid upto wsize old new file shown piece told bytes call is sends shows some whole call_is =
    let put : PutsPiece xid upto (chosen upto wsize (of_file file old)) old new file = puts xid upto (chosen upto wsize (of_file file old)) old new file shown told is sends in
    let last : bytes_sent (last_of (of_file file new).pieces) ≡ piece.bytes.now = shown-last xid upto (chosen upto wsize (of_file file old)) old new file shown piece put shows some in
    made xid upto (chosen upto wsize (of_file file old)) old new file shown piece call put shows some (call_is ∙ ap (λ b. calls.File (Write file piece.offset piece.how b)) (whole ∙ last))
