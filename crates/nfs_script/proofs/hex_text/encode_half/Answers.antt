use Rattle.nfs_script.proofs.Hexed.{begun_half}
use Rattle.nfs_script.proofs.hex_text.encode_half.Goals as goal

pub returns : goal.returns
returns c =
    begun_half c.args.bytes.now c.args.digits.now c.digits_of.result c.args.at c.requires.fits c.requires.room c.requires.begun c.digits_of.ensures
