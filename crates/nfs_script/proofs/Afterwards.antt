-- What was there, after more words than `xdr_codec` has lemmas for.
use Rattle.std.proofs.Common.{ℕ, List, ◌++◌}
use Rattle.xdr_codec.specs.Spelling.{BeginsWith}
use Rattle.xdr_codec.proofs.Begins.{begins_then, begins_f, after_a}

pub after_f : (w a b c d e f z : List ℕ) → BeginsWith ((((((w ++ a) ++ b) ++ c) ++ d) ++ e) ++ f) z → BeginsWith w z
after_f w a b c d e f z p = begins_then w ((((((w ++ a) ++ b) ++ c) ++ d) ++ e) ++ f) z (begins_f w a b c d e f) p

pub after_g : (w a b c d e f g z : List ℕ) → BeginsWith (((((((w ++ a) ++ b) ++ c) ++ d) ++ e) ++ f) ++ g) z → BeginsWith w z
after_g w a b c d e f g z p = after_f w a b c d e f z (after_a ((((((w ++ a) ++ b) ++ c) ++ d) ++ e) ++ f) g z p)

pub after_h : (w a b c d e f g h z : List ℕ) → BeginsWith ((((((((w ++ a) ++ b) ++ c) ++ d) ++ e) ++ f) ++ g) ++ h) z → BeginsWith w z
after_h w a b c d e f g h z p = after_g w a b c d e f g z (after_a (((((((w ++ a) ++ b) ++ c) ++ d) ++ e) ++ f) ++ g) h z p)
