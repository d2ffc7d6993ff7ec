use Rattle.script_text.proofs.Hexed.{no_byte}
use Rattle.script_text.proofs.payloads.byte.Goals as goal

pub returns-in-Err : goal.returns-in-Err
returns-in-Err c = no_byte c.args.hex.now c.decode_to_slice.new.out c.in-Err.field-0 c.in-Err.ensures.value
