use Rattle.session_words.proofs.Single.{one_flag}
use Rattle.session_words.proofs.words.settings_of.Goals as goal

pub returns-in_err-cred : goal.returns-in_err-cred
returns-in_err-cred c = rw c.from_residual-in_err-cred.ensures (λ s g. c.in_err-cred.ensures s.cred g.cred)

pub returns-in_err-lives : goal.returns-in_err-lives
returns-in_err-lives c =
    rw c.from_residual-in_err-lives.ensures
    (λ s g. c.in_err-lives.ensures s.lives (rw (one_flag _ s.noac c.flag-noac.result g.noac c.flag-noac.ensures) at g.lives))
