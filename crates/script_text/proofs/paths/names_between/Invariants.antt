use Rattle.std.proofs.Common.{◌≡◌, ◌+◌, ◌≤◌, [], length}
use Rattle.std.specs.Option.{option_map_or}
use Rattle.std.specs.List.{slice_split}
use Rattle.script_text.specs.Paths.{is_slash, names_of, path_bytes}
use Rattle.script_text.proofs.Named.{named_before}
use Rattle.script_text.proofs.paths.names_between.Given as goal

abbrev pub invariant-loop-rest : goal.invariant-loop-rest
invariant-loop-rest l = record {
  names : names_of (slice_split is_slash l.text) ≡ named_before l.names.items (names_of (option_map_or (λ rest. slice_split is_slash rest.now) l.rest []));
  count : path_bytes l.names.items ≡ l.bytes;
  bound : l.bytes ≤ 1024;
}

abbrev pub decreases-loop-rest : goal.decreases-loop-rest
decreases-loop-rest l = option_map_or (λ rest. length rest.now + 1) l.rest 0
