-- Bytes from a place on, as a part of all.
use Rattle.std.proofs.Common.{◌≡◌, ◌-◌, ℕ, List, length, drop, take_all, arith}
use Rattle.std.proofs.lemmas.List.{length-drop}
use Rattle.xdr_codec.specs.Blobs.{part_of}

pub part-rest : (from len : ℕ) (bytes : List ℕ) → len ≡ length bytes → part_of from (len - from) bytes ≡ drop from bytes
part-rest from len bytes is = take_all (len - from) (drop from bytes) (omega (arith, is, length-drop from bytes))
