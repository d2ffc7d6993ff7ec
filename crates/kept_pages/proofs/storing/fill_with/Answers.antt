use Rattle.page_store.specs.Pages.{shows_page}
use Rattle.kept_pages.proofs.KeptRounds.{sound-less, kept-more, round-short, fills-itself}
use Rattle.kept_pages.proofs.storing.fill_with.Goals as goal

pub returns-in-Ok-clause-fills : goal.returns-in-Ok-clause-fills
returns-in-Ok-clause-fills g c = λ tells n fits s u.
    let less = sound-less n _ (g.D.Disk.may_leave c.args.store.now.disk) fits s in
    record {
      sound = c.fill.ensures.safe tells n fits s u;
      under_way = c.fill.ensures.under_way tells less u;
      leaves = c.fill.ensures.leaves tells n fits s u;
      moments = c.fill.ensures.any_moment tells n fits s u;
      stands = c.fill.ensures.stands tells less;
    }

pub returns-in-Err-clause-fills : goal.returns-in-Err-clause-fills
returns-in-Err-clause-fills g c = λ tells n fits s u.
    let less = sound-less n _ (g.D.Disk.may_leave c.args.store.now.disk) fits s in
    record {
      sound = c.fill.ensures.safe tells n fits s u;
      under_way = c.fill.ensures.under_way tells less u;
      leaves = c.fill.ensures.leaves tells n fits s u;
      moments = c.fill.ensures.any_moment tells n fits s u;
      stands = c.fill.ensures.stands tells less;
    }

pub returns-in-Ok-clause-kept : goal.returns-in-Ok-clause-kept
returns-in-Ok-clause-kept g c = λ p kept all.
    kept-more p c.args.slot (shows_page c.args.page.now) c.args.store.now.round c.fill.new.self.round c.fill.result kept c.fill.ensures.round all

pub returns-in-Err-clause-kept : goal.returns-in-Err-clause-kept
returns-in-Err-clause-kept g c = λ p kept all.
    kept-more p c.args.slot (shows_page c.args.page.now) c.args.store.now.round c.fill.new.self.round c.fill.result kept c.fill.ensures.round all

pub returns-in-Ok-clause-short : goal.returns-in-Ok-clause-short
returns-in-Ok-clause-short g c = round-short c.args.slot (shows_page c.args.page.now) c.args.store.now.round c.fill.new.self.round c.fill.result c.fill.ensures.round

pub returns-in-Err-clause-short : goal.returns-in-Err-clause-short
returns-in-Err-clause-short g c = round-short c.args.slot (shows_page c.args.page.now) c.args.store.now.round c.fill.new.self.round c.fill.result c.fill.ensures.round

pub returns-then-page-gt-PAGE-clause-fills : goal.returns-then-page-gt-PAGE-clause-fills
returns-then-page-gt-PAGE-clause-fills g c = λ tells n fits s u.
    fills-itself g.D.Disk.seen g.D.Disk.may_leave g.D.Disk.moment g.D.Disk.left_since n c.args.store.now (g.met.D.Disk.only_now c.args.store.now.disk tells) s u
