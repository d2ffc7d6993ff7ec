-- A record as one fragment of a stream of bytes. (RFC 5531 section 11)
use Rattle.std.specs.Prelude.{ℕ, List}
use Rattle.xdr_codec.specs.Marks.{marked}

abbrev pub one_fragment : List ℕ → List ℕ
one_fragment rec = marked rec
