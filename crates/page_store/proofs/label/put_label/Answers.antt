use Rattle.std.proofs.Common.{ℕ, List, ◌≡◌, ◌≤◌, ◌∙◌, length, replicate, Some, None}
use Rattle.std.proofs.lemmas.Result.{on_ok_weaker}
use Rattle.page_store.specs.Pages.{KeepsOnly}
use Rattle.page_store.specs.Rounds.{Round, KeepsAll}
use Rattle.page_store.specs.Labels.{Relabels}
use Rattle.page_store.proofs.Moments.{started, weaker, then_on}
use Rattle.page_store.proofs.RoundLemmas.{keeps-all-itself}
use Rattle.page_store.proofs.LabelLemmas.{whole-fits, whole-below, whole-shut, shut-relabels, put-relabels, is-relabelled}
use Rattle.page_store.proofs.label.put_label.Goals as goal

pub shut_round-requires : goal.shut_round-requires
shut_round-requires g c = whole-fits c.as_slice.result.now c.args.slots 65536 (c.as_slice.ensures.value ∙ c.in-Ok.ensures) c.requires.most

pub returns-in_default-clause-leaves : goal.returns-in_default-clause-leaves
returns-in_default-clause-leaves g c = λ tells n lt s label is i left.
    let old = g.D.Disk.may_leave c.args.disk.now in
    shut-relabels n c.args.slots label old lt i (keeps-all-itself n old i left)

pub returns-in_default-clause-any_moment : goal.returns-in_default-clause-any_moment
returns-in_default-clause-any_moment g c = λ tells n lt s label is.
    let old = g.D.Disk.may_leave c.args.disk.now in
    started g.D.Disk.moment g.D.Disk.left_since c.args.disk.now (Relabels c.args.slots label old) old (λ i left. g.met.D.Disk.only_now c.args.disk.now tells i left)
    (λ i left. shut-relabels n c.args.slots label old lt i (keeps-all-itself n old i left))

pub returns-in-Err-clause-safe : goal.returns-in-Err-clause-safe
returns-in-Err-clause-safe g c = λ tells n lt s. c.shut_round.ensures.safe tells n (whole-below c.as_slice.result.now c.args.slots n (c.as_slice.ensures.value ∙ c.in-Ok.ensures) lt) s

pub returns-in-Err-clause-leaves : goal.returns-in-Err-clause-leaves
returns-in-Err-clause-leaves g c = λ tells n lt s label is i left.
    shut-relabels n c.args.slots label (g.D.Disk.may_leave c.args.disk.now) lt i
    (c.shut_round.ensures.leaves tells n (whole-below c.as_slice.result.now c.args.slots n (c.as_slice.ensures.value ∙ c.in-Ok.ensures) lt) s i left)

pub returns-in-Err-clause-any_moment : goal.returns-in-Err-clause-any_moment
returns-in-Err-clause-any_moment g c = λ tells n lt s label is.
    let old = g.D.Disk.may_leave c.args.disk.now in
    weaker g.D.Disk.moment g.D.Disk.left_since c.args.disk.now c.shut_round.new.disk (KeepsAll n old) (Relabels c.args.slots label old)
    (c.shut_round.ensures.any_moment tells n (whole-below c.as_slice.result.now c.args.slots n (c.as_slice.ensures.value ∙ c.in-Ok.ensures) lt) s)
    (shut-relabels n c.args.slots label old lt)

pub returns-clause-safe : goal.returns-clause-safe
returns-clause-safe g c = λ tells n lt s.
    c.put_page.ensures.safe (c.shut_round.ensures.goes_on tells) n lt
    (c.shut_round.ensures.safe tells n (whole-below c.as_slice.result.now c.args.slots n (c.as_slice.ensures.value ∙ c.in-Ok.ensures) lt) s)

pub returns-clause-leaves : goal.returns-clause-leaves
returns-clause-leaves g c = λ tells n lt s label is i left.
    let old = g.D.Disk.may_leave c.args.disk.now in
    let mid = g.D.Disk.may_leave c.shut_round.new.disk in
    let whole = c.as_slice.ensures.value ∙ c.in-Ok.ensures in
    let fits = whole-below c.as_slice.result.now c.args.slots n whole lt in
    let shut = whole-shut c.as_slice.result.now c.args.slots mid whole (c.in-Ok-shut_round.ensures.shut tells n fits s) in
    put-relabels n c.args.slots label old mid lt (c.shut_round.ensures.leaves tells n fits s) shut i
    (c.put_page.ensures.leaves (c.shut_round.ensures.goes_on tells) n lt (c.shut_round.ensures.safe tells n fits s) label is i left)

pub returns-clause-any_moment : goal.returns-clause-any_moment
returns-clause-any_moment g c = λ tells n lt s label is.
    let old = g.D.Disk.may_leave c.args.disk.now in
    let mid = g.D.Disk.may_leave c.shut_round.new.disk in
    let whole = c.as_slice.ensures.value ∙ c.in-Ok.ensures in
    let fits = whole-below c.as_slice.result.now c.args.slots n whole lt in
    let shut = whole-shut c.as_slice.result.now c.args.slots mid whole (c.in-Ok-shut_round.ensures.shut tells n fits s) in
    let P = Relabels c.args.slots label old in
    let first = weaker g.D.Disk.moment g.D.Disk.left_since c.args.disk.now c.shut_round.new.disk (KeepsAll n old) P (c.shut_round.ensures.any_moment tells n fits s)
    (shut-relabels n c.args.slots label old lt) in
    then_on g.D.Disk.moment g.D.Disk.left_since c.args.disk.now c.shut_round.new.disk c.put_page.new.disk P (KeepsOnly n c.args.slots label mid) first
    (c.put_page.ensures.any_moment (c.shut_round.ensures.goes_on tells) n lt (c.shut_round.ensures.safe tells n fits s) label is)
    (put-relabels n c.args.slots label old mid lt (c.shut_round.ensures.leaves tells n fits s) shut)

pub returns-clause-labelled : goal.returns-clause-labelled
returns-clause-labelled g c = λ tells n lt s label is.
    let old = g.D.Disk.may_leave c.args.disk.now in
    let mid = g.D.Disk.may_leave c.shut_round.new.disk in
    let new = c.put_page.new.disk in
    let whole = c.as_slice.ensures.value ∙ c.in-Ok.ensures in
    let fits = whole-below c.as_slice.result.now c.args.slots n whole lt in
    let shut = whole-shut c.as_slice.result.now c.args.slots mid whole (c.in-Ok-shut_round.ensures.shut tells n fits s) in
    let on = c.shut_round.ensures.goes_on tells in
    let s2 = c.shut_round.ensures.safe tells n fits s in
    let there = g.met.D.Disk.shows_one new (c.put_page.ensures.goes_on on) in
    on_ok_weaker c.put_page.result (is-relabelled n c.args.slots label mid (g.D.Disk.seen new) (g.D.Disk.may_leave new) lt shut (c.put_page.ensures.leaves on n lt s2 label is (g.D.Disk.seen new) there))
    (c.put_page.ensures.stored on n lt s2 label is)
