use Rattle.std.proofs.lemmas.Result.{IfOk-weaker}
use Rattle.session_words.proofs.Single.{one_settings}
use Rattle.session_words.proofs.words.read_words.Goals as goal

pub returns-in-Ok-clause-only : goal.returns-in-Ok-clause-only
returns-in-Ok-clause-only c = λ s k. IfOk-weaker c.settings_in.result _ _ (λ given h. one_settings _ given s h (rw (← c.in-Ok.ensures.rows) at k.gives)) c.settings_in.ensures.found
