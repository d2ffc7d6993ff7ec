use Rattle.file_ops.proofs.Offers.{kept-so}
use Rattle.file_ops.proofs.offer.keep_page.Goals as goal

pub returns : goal.returns
returns c = kept-so c.args.file.now c.args.stamp.now c.args.sent c.args.index c.args.page.now _ _ _ c.keep.ensures.answer c.keep.ensures.after
