-- A client that answers `ok` where no server can be reached isn't one of which the headline holds: the history of such an answer breaks it.
use Rattle.std.proofs.Common.{◌<◌, ◌≤◌, ℕ, zero, suc, List, [], ◌∷◌, refl, arith}
use Rattle.world_model.specs.declared.answer.Answer.{Answer}
use Rattle.world_model.specs.declared.answer.Answer.TheVariants.{Done}
use Rattle.world_model.specs.declared.answer.Value.{Value}
use Rattle.world_model.specs.declared.answer.Value.TheVariants as values
use Rattle.world_model.specs.declared.entry.Entry.{Entry}
use Rattle.world_model.specs.declared.entry.Entry.TheVariants.{Began, Answered, Dialed, Delivered, Failed, Clock}
use Rattle.world_model.specs.declared.op.Op.TheVariants as ops
use Rattle.world_model.specs.Entries.{At}
use Rattle.world_model.specs.Operations.{Ended}
use Rattle.claims.specs.OkRows.{ActOk}
use Rattle.nfs_script.specs.declared.script.ScriptLine.{ScriptLine}
use Rattle.session_words.specs.declared.settings.Settings.{Settings}
use Rattle.session_setup.specs.Origins.{terms_by}
use Rattle.nfs_client.specs.Headline.{Headline}

-- no directory was made if no record came
pub unheard : (s : Settings) (lines : List ScriptLine) (given : List ℕ) (h : List Entry) (status : ℕ) (text : List ℕ) → Headline s lines given h status text
    → ((i : ℕ) (bytes : List ℕ) → At h i (Delivered bytes) → ⊥) → (lane x y : ℕ) (path : List (List ℕ)) (value : Value) → Ended h lane x (ops.MakeDir path) y (Done value) → ⊥
unheard s lines given h status text head none lane x y path value ended =
    let ok : ActOk (terms_by s head.first) h x y (ops.MakeDir path) value = head.caused.ok lane x y (ops.MakeDir path) value ended in
    none ok.ends.last.at ok.ends.last.bytes ok.ends.last.got

-- four dials failed, and then a directory was said to have been made
pub unreachable : List Entry
unreachable = Dialed 20048 ∷ Failed ∷ Dialed 20048 ∷ Failed ∷ Dialed 20048 ∷ Failed ∷ Dialed 20048 ∷ Failed ∷ Clock 1 ∷ Began 1 1 (ops.MakeDir ((100 ∷ []) ∷ []))
    ∷ Answered 1 1 (Done values.Nothing) ∷ []

none-came : (i : ℕ) (bytes : List ℕ) → At unreachable i (Delivered bytes) → ⊥
unfolding unreachable
none-came zero bytes at = absurd (cc)
none-came (suc zero) bytes at = absurd (cc)
none-came (suc (suc zero)) bytes at = absurd (cc)
none-came (suc (suc (suc zero))) bytes at = absurd (cc)
none-came (suc (suc (suc (suc zero)))) bytes at = absurd (cc)
none-came (suc (suc (suc (suc (suc zero))))) bytes at = absurd (cc)
none-came (suc (suc (suc (suc (suc (suc zero)))))) bytes at = absurd (cc)
none-came (suc (suc (suc (suc (suc (suc (suc zero))))))) bytes at = absurd (cc)
none-came (suc (suc (suc (suc (suc (suc (suc (suc zero)))))))) bytes at = absurd (cc)
none-came (suc (suc (suc (suc (suc (suc (suc (suc (suc zero))))))))) bytes at = absurd (cc)
none-came (suc (suc (suc (suc (suc (suc (suc (suc (suc (suc zero)))))))))) bytes at = absurd (cc)
none-came (suc (suc (suc (suc (suc (suc (suc (suc (suc (suc (suc n))))))))))) bytes at = absurd (cc)

first-answer : (j : ℕ) (a : Answer) → At unreachable j (Answered 1 1 a) → 9 < j → 10 ≤ j
first-answer j a at after = omega (arith, after)

ended : Ended unreachable 1 9 (ops.MakeDir ((100 ∷ []) ∷ [])) 10 (Done values.Nothing)
unfolding unreachable
ended = record { line = 1; began = refl; answered = refl; later = omega arith; first = first-answer }

pub unreachable-refused : (s : Settings) (lines : List ScriptLine) (given : List ℕ) (status : ℕ) (text : List ℕ)
    → Headline s lines given unreachable status text → ⊥
unreachable-refused s lines given status text head = unheard s lines given unreachable status text head none-came 1 9 10 ((100 ∷ []) ∷ []) values.Nothing ended
