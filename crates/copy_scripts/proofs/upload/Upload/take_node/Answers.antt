use Rattle.copy_scripts.specs.Uploads.{unread}
use Rattle.copy_scripts.proofs.Uploads.{told-wrong}
use Rattle.copy_scripts.proofs.upload.Upload.take_node.Goals as goal

pub returns-in-Unread : goal.returns-in-Unread
returns-in-Unread g c =
    told-wrong c.args.to c.args.node c.args.self.now c.complain-in-Unread.new.self c.complain-in-Unread.result (unread c.in-Unread.field-0 c.in-Unread.is) c.complain-in-Unread.ensures
