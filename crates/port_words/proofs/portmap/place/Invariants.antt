use Rattle.std.proofs.Common.{◌≡◌, false, map, take, string_bytes}
use Rattle.std.specs.List.{list_any}
use Rattle.port_words.specs.Portmaps.{is_portmap}
use Rattle.port_words.proofs.portmap.place.Given as goal

abbrev pub invariant-loop-word : goal.invariant-loop-word
invariant-loop-word l = (l.at ≡ l.word-index) × (list_any is_portmap (map string_bytes (take l.word-index l.words)) ≡ false)
