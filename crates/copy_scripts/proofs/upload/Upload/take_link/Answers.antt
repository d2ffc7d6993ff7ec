use Rattle.copy_scripts.proofs.Uploads.{link-wrong}
use Rattle.copy_scripts.proofs.upload.Upload.take_link.Goals as goal

pub returns-then-not-is_target : goal.returns-then-not-is_target
returns-then-not-is_target g c =
    link-wrong c.args.to c.args.target c.bytes.result.now c.args.self.now c.complain.new.self c.complain.result c.if-not-is_target.ensures.not c.bytes.ensures c.complain.ensures
