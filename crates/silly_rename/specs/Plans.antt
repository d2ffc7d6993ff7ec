-- How a name is removed (this client's own rule; NFS version 3 has no open files, RFC 1813, section 1.5).
use Rattle.std.specs.Prelude.{ℕ, List, ◌++◌, Bool, true, false, codes}
use Rattle.std.specs.Int.{w32, to_be_bytes}
use Rattle.hex.specs.Hex.{encode_lower}
use Rattle.silly_rename.specs.declared.removal.Plan.{Plan}
use Rattle.silly_rename.specs.declared.removal.Plan.TheVariants.{Direct, Rename}

-- `.nfs` and the counter as eight hex digits in lower case
unfoldable pub silly_name : ℕ → List ℕ
silly_name counter = codes ".nfs" ++ encode_lower (to_be_bytes w32 counter)

-- a file that is open gets that name, and any other is removed
abbrev pub plan_of : Bool → ℕ → Plan
plan_of false counter = Direct
plan_of true counter = Rename (silly_name counter)
