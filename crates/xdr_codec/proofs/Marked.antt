-- A text whose first four bytes are the mark of what follows is a marked record.
use Rattle.std.proofs.Common.{◌≡◌, ◌<◌, ◌≤◌, ◌^◌, ◌+◌, ◌++◌, ℕ, List, length, drop, sym, ap, ◌∙◌, arith}
use Rattle.std.proofs.lemmas.List.{length-drop}
use Rattle.byteorder.specs.Endian.{big_bytes}
use Rattle.xdr_codec.specs.Marks.{marked, IsMarked}

pub marked_by : (old new : List ℕ) (size : ℕ) → 4 ≤ length old → size + 4 ≡ length old → size < 2 ^ 31 → new ≡ big_bytes 4 (2 ^ 31 + size) ++ drop 4 old → IsMarked new
unfolding marked
marked_by old new size some count fits is =
    let rest : drop 4 new ≡ drop 4 old = ap (drop 4) is in
    let whole : length new ≡ length (big_bytes 4 (2 ^ 31 + size) ++ drop 4 old) = ap length is in
    let left : size ≡ length (drop 4 old) = omega (arith, count, length-drop 4 old) in
    let same : length (drop 4 new) ≡ length (drop 4 old) = ap length rest in
    record {
      room = omega (arith, whole);
      is = is ∙ ap (λ n. big_bytes 4 (2 ^ 31 + n) ++ drop 4 old) left ∙ ap marked (sym rest);
      fits = omega (arith, left, same, fits);
    }
