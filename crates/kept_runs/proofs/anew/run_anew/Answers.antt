use Rattle.std.specs.Prelude.{IfSome}
use Rattle.std.proofs.Common.{◌≡◌, subst, rules}
use Rattle.world_model.specs.History.{History}
use Rattle.world_model.specs.Told.{Relates}
use Rattle.anew_link.specs.Anew.{since}
use Rattle.core_answers.specs.pages.True.{GivenTrue}
use Rattle.script_runs.specs.Readings.{Reads}
use Rattle.script_runs.specs.Run.{Says}
use Rattle.nfs_client.specs.KeptHeadline.{KeptRun}
use Rattle.nfs_client.specs.KeptPages.{TrueBack}
use Rattle.kept_runs.proofs.anew.run_anew.Goals as goal

pub returns-clause-headline : goal.returns-clause-headline
returns-clause-headline g c =
    let same : c.run_lent.new.anew.link.now ≡ c.link-1.given.0 = search rules in
    subst (λ l. Says (g.K.Sink.written c.args.out.now) (g.K.Sink.written c.run_lent.new.out) (λ text. Reads (g.C.Clock.readings c.args.clock.now) (g.C.Clock.readings c.run_lent.new.clock) (λ given.
    Relates (g.L.Link.told c.args.link.now) (g.L.Link.told l) (λ before h.
    KeptRun (λ (t : History). GivenTrue c.args.stock.pages t) given c.args.settings.now (g.S.Source.left c.args.script.now) (since before before) (since before h) c.run_lent.result.0 text)))) same
    c.run_lent.ensures.headline

pub returns-clause-pages : goal.returns-clause-pages
returns-clause-pages g c =
    let same : c.run_lent.new.anew.link.now ≡ c.link-1.given.0 = search rules in
    subst (λ l. Relates (g.L.Link.told c.args.link.now) (g.L.Link.told l) (λ before h. IfSome c.run_lent.result.1 (λ back. TrueBack c.args.stock back (since before h)))) same c.run_lent.ensures.pages

pub returns-clause-stays : goal.returns-clause-stays
returns-clause-stays g c = λ first s.
    let same : c.run_lent.new.anew.link.now ≡ c.link-1.given.0 = search rules in
    subst (λ l. g.L.Link.stays first l) same (c.run_lent.ensures.stays first s)
