use Rattle.std.proofs.Common.{◌∙◌, ap, Some}
use Rattle.script_text.proofs.Hexed.{payload_from}
use Rattle.script_text.proofs.payloads.short_payload.Goals as goal

pub returns-in_ok-shared-in-Ok : goal.returns-in_ok-shared-in-Ok
returns-in_ok-shared-in-Ok c = ap (λ bytes. Some bytes) c.in_ok-shared-in-Ok.ensures ∙ payload_from c.args.hex.now c.in-Ok.bytes.items c.in-Ok.ensures.ok c.requires.some c.requires.most
