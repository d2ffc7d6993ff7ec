-- What a verdict says.
use Rattle.std.specs.Prelude.{◌≡◌, ◌<◌, ◌≤◌, ◌-◌, ◌↔◌, ℕ, length, Option, Some, None}
use Rattle.std.specs.Option.{option_map}
use Rattle.claims.specs.Modes.{Modes}
use Rattle.claims.specs.ReadTrue.{ReadTrue, ReadShort}
use Rattle.claims.specs.Settled.{Settled}
use Rattle.world_model.specs.History.{History}
use Rattle.world_model.specs.Mounts.{Origin}
use Rattle.trace_rules.specs.Beginnings.{beginning}
use Rattle.trace_lawful.specs.declared.earliest.First.{First}
use Rattle.trace_lawful.specs.Judged.{KeepsServer, BreaksFirst}
use Rattle.trace_claims.specs.declared.beginnings.Broken.{Broken}
use Rattle.trace_claims.specs.declared.beginnings.Broken.TheVariants as brokens
use Rattle.trace_claims.specs.Judging.{KeepsClaims}
use Rattle.trace_check.specs.declared.judging.Verdict.{Verdict}
use Rattle.trace_check.specs.declared.judging.Verdict.TheVariants.{Yes, No}

-- ---- the six rules

-- the history keeps each rule, of the server and of bytes
pub record KeepsAll (m : Modes) (origin : Origin) (h : History) : Type 0 where
  pub server : KeepsServer h
  pub claims : KeepsClaims m origin h

-- the first of the six rules that a history breaks
pub data BreaksRule (m : Modes) (origin : Origin) (h : History) (rule : ℕ) : Type 0 where
  errs : BreaksFirst h rule → BreaksRule m origin h rule
  loses : rule ≡ 4 → KeepsServer h → (Settled m origin h → ⊥) → BreaksRule m origin h rule
  misreads : rule ≡ 5 → KeepsServer h → Settled m origin h → (ReadTrue m origin h → ⊥) → BreaksRule m origin h rule
  ends_early : rule ≡ 6 → KeepsServer h → Settled m origin h → ReadTrue m origin h → (ReadShort m origin h → ⊥) → BreaksRule m origin h rule

-- so many entries are the fewest that break a rule, and this is the first that they break
pub record IsFewest (m : Modes) (origin : Origin) (h : History) (n rule : ℕ) : Type 0 where
  pub within : n ≤ length h.entries
  pub breaks : BreaksRule m origin (beginning h n) rule
  pub least : (k : ℕ) → k < n → KeepsAll m origin (beginning h k)

-- what a verdict says of a history
abbrev pub Says : Modes → Origin → History → Verdict → Type 0
Says m origin h Yes = KeepsAll m origin h
Says m origin h (No rule entries) = IsFewest m origin h entries rule

-- yes is said exactly of a history that keeps each rule
abbrev pub SaysYes : Modes → Origin → History → Verdict → Type 0
SaysYes m origin h v = (v ≡ Yes) ↔ KeepsAll m origin h

-- ---- how it is made

-- yes if no rule breaks, else the first that does
abbrev pub verdict_of : Option First → Verdict
verdict_of None = Yes
verdict_of (Some f) = No f.rule f.entries

-- the most entries that are fewer than those that break a rule of the server
abbrev pub entries_before : Option First → Option ℕ
entries_before first = option_map (λ (f : First). f.entries - 1) first

-- the number of a claim's rule
abbrev pub rule_of : Broken → ℕ
rule_of brokens.Settled = 4
rule_of brokens.Read = 5
rule_of brokens.Short = 6
