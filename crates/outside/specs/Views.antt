-- What a caller sees of the forms in memory.
use Rattle.std.specs.Prelude.{ℕ, List, ◌+◌, ◌-◌, ◌^◌, min, ◌==◌, Bool}
use Rattle.std.specs.List.{list_any}

-- a source: the bytes left, the numbers of the calls that fail, the calls made so far, and the faults so far
pub record SourceView : Type 0 where
  pub left : List ℕ
  pub fails : List ℕ
  pub calls : ℕ
  pub faults : ℕ

-- a sink: the same, with the bytes written
pub record SinkView : Type 0 where
  pub written : List ℕ
  pub fails : List ℕ
  pub calls : ℕ
  pub faults : ℕ

-- the number of the call after so many; the count stops at the end of its type
abbrev pub next_call : ℕ → ℕ
next_call calls = min (calls + 1) (2 ^ 32 - 1)

-- the call after so many is one that is to fail
abbrev pub is_to_fail : List ℕ → ℕ → Bool
is_to_fail fails calls = list_any (λ n. n == next_call calls) fails

-- a clock: milliseconds from one reading to the next, and how often it was read
pub record ClockView : Type 0 where
  pub tick : ℕ
  pub count : ℕ
