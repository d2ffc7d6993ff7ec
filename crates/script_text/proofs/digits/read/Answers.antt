use Rattle.std.proofs.Common.{◌+◌, ◌*◌, ◌∙◌, refl, arith}
use Rattle.script_text.proofs.Pairwise.{nothing_seen, seen_to}
use Rattle.script_text.proofs.digits.read.Goals as goal

pub loop-group-init : goal.loop-group-init
loop-group-init c = record { kept = refl; read = nothing_seen c.args.hex.now c.args.bytes.now }

pub loop-group-preserved : goal.loop-group-preserved
loop-group-preserved c =
    record {
      kept = c.read_group-seen.ensures.length ∙ c.loop-group.invariant.kept;
      read = seen_to c.args.hex.now _ _ (64 * c.loop-group.group + 64) (64 * (c.loop-group.group + 1)) (omega arith) c.read_group-seen.ensures.seen;
    }

pub read_rest-requires-clause-begun : goal.read_rest-requires-clause-begun
read_rest-requires-clause-begun c = seen_to c.args.hex.now _ _ (64 * c.loop-group.group) _ (omega (arith, c.loop-group-test.false)) c.loop-group.invariant.read
