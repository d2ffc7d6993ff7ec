-- What writing adds to a sink.
use Rattle.std.specs.Prelude.{◌≡◌, ◌≤◌, ℕ, List, [], ◌++◌, take, length, Option, Some, None, Bool, true, false, Result, Ok, Err}
use Rattle.outside.specs.declared.link.LinkFault.{LinkFault}
use Rattle.outside.specs.declared.link.LinkFault.TheVariants as faults

-- how many bytes of a piece were taken: none only if the piece is empty
pub record TakesSome (piece : List ℕ) (n : ℕ) : Type 0 where
  pub fits : n ≤ length piece
  pub some : n ≡ 0 → piece ≡ []

-- The front of the piece was added; a call that failed, or that found no memory, took nothing.
abbrev pub WritesTo : Option (List ℕ) → Option (List ℕ) → List ℕ → Result ℕ LinkFault → Type 0
WritesTo None new piece result = Unit {0}
WritesTo (Some old) None piece result = ⊥
WritesTo (Some old) (Some new) piece (Ok n) = new ≡ old ++ take n piece
WritesTo (Some old) (Some new) piece (Err e) = new ≡ old

-- a failure comes exactly if the call is one that is to fail
abbrev pub FailsWhere : {T : Type 0} → Result T LinkFault → Bool → Type 0
FailsWhere (Ok x) listed = listed ≡ false
FailsWhere (Err faults.Failed) listed = listed ≡ true
FailsWhere (Err faults.Memory) listed = listed ≡ false
