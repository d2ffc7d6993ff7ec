-- Where nothing is pending, each number is new and nothing is in flight.
use Rattle.std.proofs.Common.{ℕ, [], refl, arith}
use Rattle.write_back.specs.Files.{IsNewest}
use Rattle.file_ops.specs.SlotFiles.{IsUnused}

pub none_newest : (number : ℕ) → IsNewest number []
none_newest number file other c = absurd (omega (arith, c.1))

pub none_unused : (xid : ℕ) → IsUnused xid []
none_unused xid file = refl
