use Rattle.std.proofs.Common.{◌++◌, ◌∙◌, ap}
use Rattle.copy_scripts.specs.Uploads.{UploadView}
use Rattle.copy_scripts.proofs.Uploads.{item-ok}
use Rattle.copy_scripts.proofs.upload.Upload.take_item.Goals as goal

pub returns-in-Some : goal.returns-in-Some
returns-in-Some g c =
    let found = rw c.in-Some.is at c.in_ok-to.ensures.some in
    item-ok c.args.item c.in-Some.to c.args.self.now c.take_node.new.self c.take_node.result
    (found.0 ∙ ap (λ (v : UploadView). v.to ++ c.args.item.path) c.self.view_is) c.take_node.ensures
