use Rattle.std.proofs.Common.{◌≡◌, ◌++◌, take}
use Rattle.world_model.specs.Transcript.{names_text}
use Rattle.nfs_script.proofs.shown_text.write_names.Given as goal

abbrev pub invariant-loop-name : goal.invariant-loop-name
invariant-loop-name l = l.out ≡ l.fn.out ++ names_text (take l.name-index l.names)
