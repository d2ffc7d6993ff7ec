-- What a script asks for may begin.
use Rattle.std.proofs.Common.{◌≡◌, ◌≤◌, ◌+◌, ◌-◌, ◌^◌, ℕ, zero, suc, List, [], ◌∷◌, length, All, slice_get, Some, arith, subst}
use Rattle.world_model.specs.declared.op.Op.{Op}
use Rattle.world_model.specs.declared.op.Op.TheVariants as ops
use Rattle.nfs_script.specs.Asked.{IsAsked, IsAskedLine}
use Rattle.nfs_script.specs.declared.script.ScriptLine.{ScriptLine}
use Rattle.op_machines.specs.Begun.{IsAsked as MayBegin}

fits-offset : (offset n most : ℕ) → offset ≤ 4611686018427387904 → n ≤ most → most ≤ 1048576 → offset + n ≤ 2 ^ 63 - 1
fits-offset offset n most a b c = omega (arith, a, b, c)

pub may-begin : (op : Op) → IsAsked op → MayBegin op
may-begin (ops.OpenFile slot mode path) a = a.1.some
may-begin (ops.Read slot offset count) a = tt
may-begin (ops.Write slot offset bytes) a = fits-offset offset (length bytes) 65536 a.1 a.2.most (omega arith)
may-begin (ops.Fill slot offset count byte) a = fits-offset offset count 1048576 a.1 a.2.most (omega arith)
may-begin (ops.Put path offset bytes) a = (a.0.some, fits-offset offset (length bytes) 65536 a.1 a.2.most (omega arith))
may-begin (ops.Sync slot) a = tt
may-begin (ops.Close slot) a = tt
may-begin (ops.Truncate slot size) a = tt
may-begin (ops.Stat path) a = tt
may-begin (ops.Access path bits) a = tt
may-begin (ops.MakeDir path) a = a.some
may-begin (ops.RemoveDir path) a = a.some
may-begin (ops.Remove path) a = a.some
may-begin (ops.Rename from to) a = (a.0.some, a.1.some)
may-begin (ops.Link from to) a = a.1.some
may-begin (ops.SymLink path target) a = let m = a.1.most in (a.0.some, m)
may-begin (ops.ReadLink path) a = tt
may-begin (ops.List path) a = tt

-- a line of the script
pub asked-at : (script : List ScriptLine) (n : ℕ) (l : ScriptLine) → All IsAskedLine script → slice_get script n ≡ Some l → IsAskedLine l
asked-at [] n l all there = absurd (cc)
asked-at (x ∷ xs) zero l all there = let is : x ≡ l = cc in subst IsAskedLine is (all zero x (omega arith))
asked-at (x ∷ xs) (suc n) l all there = asked-at xs n l (λ k d lt. all (suc k) d (omega (arith, lt))) there
