use Rattle.std.proofs.Common.{◌≡◌, ◌++◌, take}
use Rattle.world_model.specs.Transcript.{shown}
use Rattle.nfs_script.proofs.shown_text.write_shown.Given as goal

abbrev pub invariant-loop-byte : goal.invariant-loop-byte
invariant-loop-byte l = l.out ≡ l.fn.out ++ shown (take l.byte-index l.bytes)
