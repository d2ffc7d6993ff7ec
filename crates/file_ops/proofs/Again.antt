-- What is made again was put off fewer than three times.
use Rattle.std.proofs.Common.{◌≡◌, ◌<◌, ◌||◌, ℕ, nat_lt, Bool, true, false, not, List, Result, refl, sym, subst, ◌∙◌}
use Rattle.std.proofs.lemmas.Bool.{and_parts, ltb-true}
use Rattle.nfs_types.specs.declared.verf.Verf.{Verf}
use Rattle.world_model.specs.declared.answer.Fault.{Fault}
use Rattle.client_shelf.specs.declared.repeats.Repeat.{Repeat}
use Rattle.client_shelf.specs.declared.turn.Turn.{Turn}
use Rattle.client_shelf.specs.Busy.{fails_busy, goes_again}
use Rattle.file_ops.specs.declared.opening.Led.{Led}
use Rattle.file_ops.specs.declared.opening.Opening.{Opening}
use Rattle.file_ops.specs.declared.saving.Saving.{Saving}
use Rattle.file_ops.specs.Opening as opening
use Rattle.file_ops.specs.Saves as saves

pub again-may : (may : Bool) (sent turn : Turn) (repeats : List Repeat) → goes_again may sent turn repeats ≡ true → may ≡ true
again-may true sent turn repeats h = refl
again-may false sent turn repeats h = h

-- as the step knows it: whether it may be, and whether it is
is-again : (may known again : Bool) (sent turn : Turn) (repeats : List Repeat) → may ≡ known → again ≡ goes_again may sent turn repeats → again ≡ true → known ≡ true
is-again may known again sent turn repeats same goes is = sym same ∙ again-may may sent turn repeats (sym goes ∙ is)

pub few-looks : (o : Opening) (led : Led) (sent turn : Turn) (repeats : List Repeat) (may again : Bool) → may ≡ opening.may_again o led
    → again ≡ goes_again may sent turn repeats → again ≡ true → opening.looks o.step ≡ true → o.put_off < 3
few-looks o led sent turn repeats may again same goes is looks =
    let both = is-again may (opening.may_again o led) again sent turn repeats same goes is in
    let low = (and_parts (opening.ends_busy led) (not (opening.looks o.step) || nat_lt o.put_off 3) both).1 in
    ltb-true o.put_off 3 (subst (λ (b : Bool). (not b || nat_lt o.put_off 3) ≡ true) looks low)

pub few-commits : (told : Result Verf Fault) (s : Saving) (sent turn : Turn) (repeats : List Repeat) (may again : Bool) → may ≡ saves.may_commit told s
    → again ≡ goes_again may sent turn repeats → again ≡ true → s.put_off < 3
few-commits told s sent turn repeats may again same goes is =
    let both = is-again may (saves.may_commit told s) again sent turn repeats same goes is in
    ltb-true s.put_off 3 ((and_parts (saves.may_again (fails_busy told) s) (nat_lt s.put_off 3) both).1)
