use Rattle.std.proofs.Common.{◌≡◌, false, map, take, string_bytes}
use Rattle.port_words.specs.Texts.{names}
use Rattle.port_words.proofs.texts.are_named.Given as goal

abbrev pub invariant-loop-word : goal.invariant-loop-word
invariant-loop-word l = names l.option (map string_bytes (take l.word-index l.words)) ≡ false
