-- The settings of both clients are ones that a session can go by, and so is what the set-up gives.
use Rattle.std.proofs.Common.{◌≡◌, ◌≤◌, ◌<◌, ◌+◌, ◌*◌, ℕ, sym, ap, subst, arith}
use Rattle.std.specs.Prelude.{◌^◌, ◌-◌}
use Rattle.session_words.specs.declared.settings.Settings.{Settings}
use Rattle.session_setup.specs.Outcomes.{IsOptions}
use Rattle.pair_runs.specs.Given.{pair_settings}

pair-options : IsOptions pair_settings
pair-options = record { mountable = tt; read = omega arith; most_read = omega arith; write = omega arith; most_write = omega arith; calls = omega arith }

pub options-of : (s : Settings) → s ≡ pair_settings → IsOptions s
options-of s is = subst IsOptions (sym is) pair-options

pub calls-of : (s : Settings) → s ≡ pair_settings → s.calls ≡ 1000000
calls-of s is = ap (λ (x : Settings). x.calls) is
