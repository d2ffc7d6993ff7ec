-- The numbers of settings are in their ranges. For callers.
use Rattle.std.proofs.Common.{◌≡◌, ◌≤◌, ℕ, Option, Some, None, arith}
use Rattle.clap.specs.Words.{Text}
use Rattle.session_words.specs.Words.{IsNumberOr, IsSize, IsCalls, IsXid}

pub number_bounds : (without low high : ℕ) (t : Option Text) (n : ℕ) → low ≤ without → without ≤ high → IsNumberOr without low high t n → (low ≤ n) × (n ≤ high)
number_bounds without low high None n a b h = (omega (arith, a, h), omega (arith, b, h))
number_bounds without low high (Some digits) n a b h = (h.least, h.most)

pub size_bounds : (t : Option Text) (n : ℕ) → IsSize t n → (512 ≤ n) × (n ≤ 65536)
size_bounds t n h = number_bounds 65536 512 65536 t n (omega arith) (omega arith) h

pub calls_bounds : (t : Option Text) (n : ℕ) → IsCalls t n → (2 ≤ n) × (n ≤ 2147483647)
calls_bounds t n h = number_bounds 1000000 2 2147483647 t n (omega arith) (omega arith) h

pub xid_bounds : (t : Option Text) (n : ℕ) → IsXid t (Some n) → (1 ≤ n) × (n ≤ 2147483648)
xid_bounds (Some digits) n h = (h.least, h.most)
xid_bounds None n h = let bad : Some n ≡ None = h in cc
