use Rattle.std.proofs.Common.{ap, ap₂, ◌∙◌, codes}
use Rattle.std.proofs.lemmas.Result.{IfOk-weaker}
use Rattle.clap.specs.Words.{App, with_rule}
use Rattle.session_words.specs.Command.{with_option, with_flag, client_app}
use Rattle.session_words.proofs.command.client_command.Goals as goal

pub returns : goal.returns
unfolding client_app
returns c =
    let a0 = c.in_ok-command.ensures.shape c.new.ensures.optional.1 ∙ ap₂ with_rule c.new-command.ensures.app c.new.ensures.rule in
    let a1 = c.in_ok-command-2.ensures ∙ ap (λ (a : App). with_option a (codes "root")) a0 in
    let a2 = c.in_ok-command-3.ensures ∙ ap (λ (a : App). with_option a (codes "mount-port")) a1 in
    let a3 = c.in_ok-command-4.ensures ∙ ap (λ (a : App). with_option a (codes "nfs-port")) a2 in
    let a4 = c.in_ok-command-5.ensures ∙ ap (λ (a : App). with_option a (codes "auth")) a3 in
    let a5 = c.in_ok-command-6.ensures ∙ ap (λ (a : App). with_option a (codes "uid")) a4 in
    let a6 = c.in_ok-command-7.ensures ∙ ap (λ (a : App). with_option a (codes "gid")) a5 in
    let a7 = c.in_ok-command-8.ensures ∙ ap (λ (a : App). with_option a (codes "rsize")) a6 in
    let a8 = c.in_ok-command-9.ensures ∙ ap (λ (a : App). with_option a (codes "wsize")) a7 in
    let a9 = c.in_ok-command-10.ensures ∙ ap (λ (a : App). with_option a (codes "calls")) a8 in
    let a10 = c.in_ok-command-11.ensures ∙ ap (λ (a : App). with_option a (codes "xid")) a9 in
    let a11 = c.in_ok-command-12.ensures ∙ ap (λ (a : App). with_option a (codes "actimeo")) a10 in
    let a12 = c.in_ok-command-13.ensures ∙ ap (λ (a : App). with_flag a (codes "noac")) a11 in
    let a13 = c.in_ok-command-14.ensures ∙ ap (λ (a : App). with_flag a (codes "nocto")) a12 in
    IfOk-weaker c.with_flag-3.result _ _ (λ d h. h ∙ ap (λ (a : App). with_flag a (codes "count")) a13) c.with_flag-3.ensures
