use Rattle.std.proofs.Common.{w8, w16, arith, ap, ◌∙◌, List, ℕ}
use Rattle.std.proofs.lemmas.Simd.{widens}
use Rattle.std.specs.Simd.Lanes.{number_l, digits_l}
use Rattle.nfs_script.proofs.Lanes.{lanes_are, numbers}
use Rattle.nfs_script.proofs.hex_text.digit_numbers.Goals as goal

pub overflow_cast-lanes : goal.overflow_cast-lanes
overflow_cast-lanes c = widens w8 w16 (omega arith) c.args.bytes c.fits-bytes.1

pub returns : goal.returns
returns c = rw c.requires (ap (λ (l : List ℕ). digits_l 256 16 (number_l 65536 l)) (lanes_are c.args.bytes c.fits-bytes.0) ∙ numbers c.args.bytes c.fits-bytes)
