use Rattle.std.proofs.Common.{ap, ◌∙◌}
use Rattle.hex.specs.Hex.{encode_lower}
use Rattle.silly_rename.proofs.SillyNames.{spelled, made-some, made-is}
use Rattle.silly_rename.proofs.rename.silly_name.Goals as goal

pub unwrap-requires-2 : goal.unwrap-requires-2
unwrap-requires-2 c =
    let out = rw c.unwrap.ensures at c.encode_to_slice.ensures.written in
    made-some _ _ c.args.counter c.make.ensures (spelled _ _ (out ∙ ap encode_lower c.to_be_bytes.ensures))

pub returns : goal.returns
returns c =
    let out = rw c.unwrap.ensures at c.encode_to_slice.ensures.written in
    made-is _ _ _ c.args.counter c.unwrap-2.ensures c.make.ensures (spelled _ _ (out ∙ ap encode_lower c.to_be_bytes.ensures))
