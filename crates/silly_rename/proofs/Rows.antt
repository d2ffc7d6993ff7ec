-- Rows by hand: how a name is removed.
use Rattle.std.proofs.Common.{◌≡◌, true, false, refl}
use Rattle.std.specs.Prelude.{codes}
use Rattle.hex.specs.Hex as digits
use Rattle.silly_rename.specs.declared.removal.Plan.TheVariants.{Direct, Rename}
use Rattle.silly_rename.specs.Plans.{plan_of, silly_name}

closed_file : plan_of false 10 ≡ Direct
closed_file = refl

first_name : plan_of true 0 ≡ Rename (codes ".nfs00000000")
unfolding silly_name digits.encode_with
first_name = refl

in_lower_case : plan_of true 10 ≡ Rename (codes ".nfs0000000a")
unfolding silly_name digits.encode_with
in_lower_case = refl

high_digits_first : plan_of true 19088743 ≡ Rename (codes ".nfs01234567")
unfolding silly_name digits.encode_with
high_digits_first = refl

each_digit : plan_of true 2309737967 ≡ Rename (codes ".nfs89abcdef")
unfolding silly_name digits.encode_with
each_digit = refl

last_name : plan_of true 4294967295 ≡ Rename (codes ".nfsffffffff")
unfolding silly_name digits.encode_with
last_name = refl
