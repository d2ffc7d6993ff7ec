use Rattle.std.proofs.Common.{ap, ◌∙◌, ◌++◌, List, ℕ}
use Rattle.hex.specs.Hex.{encode_lower}
use Rattle.xdr_codec.proofs.Begins.{begins_more, begins_then}
use Rattle.nfs_script.proofs.Hexed.{hex_step}
use Rattle.nfs_script.proofs.hex_text.write_hex.Goals as goal

pub loop-left-preserved : goal.loop-left-preserved
loop-left-preserved c =
    let wrote = c.in_ok-write_through.ensures.ok in
    let piece = wrote ∙ ap (λ (k : List ℕ). c.loop-left.out ++ encode_lower k) c.split_at.ensures.front in
    let whole = hex_step c.args.out.now c.loop-left.out c.write_through.new.out c.args.bytes.now c.loop-left.left.now c.min.result c.loop-left.invariant.whole piece in
    record {
      begins = begins_then _ _ _ c.loop-left.invariant.begins (begins_more _ _ _ wrote);
      whole = ap (λ (k : List ℕ). c.write_through.new.out ++ encode_lower k) c.split_at.ensures.back ∙ whole;
    }
