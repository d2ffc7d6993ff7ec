-- A root has two digits for each byte.
use Rattle.std.proofs.Common.{◌≡◌, ◌*◌, ℕ, List, length}
use Rattle.hex.proofs.HexLemmas.{decode_of-ok}
use Rattle.session_words.specs.Words.{IsRootWord}

pub digits_of_root : (hex root : List ℕ) → IsRootWord hex root → length hex ≡ 2 * length root
digits_of_root hex root w = (decode_of-ok hex root w.decodes).2
