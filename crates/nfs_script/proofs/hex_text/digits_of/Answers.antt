use Rattle.hex.specs.Hex.{lower_digits}
use Rattle.nfs_script.proofs.Lanes.{numbers_ok, numbers_found}
use Rattle.nfs_script.proofs.hex_text.digits_of.Goals as goal

pub swizzle : goal.swizzle
swizzle c = rw c.digit_numbers-numbers.ensures (numbers_ok c.args.bytes c.fits-bytes)

pub returns : goal.returns
returns c = rw c.digit_numbers-numbers.ensures (numbers_found lower_digits c.args.bytes c.fits-bytes)
