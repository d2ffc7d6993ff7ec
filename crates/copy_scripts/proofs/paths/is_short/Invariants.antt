use Rattle.std.proofs.Common.{◌≡◌, ◌≤◌, take}
use Rattle.script_text.specs.Paths.{path_bytes}
use Rattle.copy_scripts.proofs.paths.is_short.Given as goal

abbrev pub invariant-loop-name : goal.invariant-loop-name
invariant-loop-name l = record {
  count : l.count ≡ path_bytes (take l.name-index l.names);
  bound : l.count ≤ 1024;
}
