use Rattle.std.proofs.Common.{◌≡◌, ◌∙◌, List, Option, length, ap, arith}
use Rattle.page_store.specs.Pages.{StoredPage}
use Rattle.page_store.proofs.InMemory.{cleared-long, all-long}
use Rattle.kept_pages.specs.Kept.{Fills}
use Rattle.kept_pages.proofs.KeptRounds.{sound-less, begun-kept, begun-short, ended-long, fills-then, kept-itself, kept-filling, kept-ended}
use Rattle.kept_pages.proofs.storing.store_kept.Goals as goal

pub returns-in_default-clause-any_moment : goal.returns-in_default-clause-any_moment
returns-in_default-clause-any_moment g c = λ tells n fits s.
    kept-itself g.D.Disk.seen g.D.Disk.may_leave g.D.Disk.moment g.D.Disk.left_since n (length c.args.store.now.pages) c.args.cache.now c.args.store.now
    (g.met.D.Disk.only_now c.args.store.now.disk tells)

pub returns-then-is_empty-clause-any_moment : goal.returns-then-is_empty-clause-any_moment
returns-then-is_empty-clause-any_moment g c = λ tells n fits s.
    kept-itself g.D.Disk.seen g.D.Disk.may_leave g.D.Disk.moment g.D.Disk.left_since n (length c.args.store.now.pages) c.args.cache.now c.args.store.now
    (g.met.D.Disk.only_now c.args.store.now.disk tells)

pub returns-in-Err-clause-any_moment : goal.returns-in-Err-clause-any_moment
returns-in-Err-clause-any_moment g c = λ tells n fits s.
    let less = sound-less n _ (g.D.Disk.may_leave c.args.store.now.disk) fits s in
    let one : Fills g.D.Disk.seen g.D.Disk.may_leave g.D.Disk.moment g.D.Disk.left_since n c.args.store.now c.begin.new.self = record {
      sound = c.begin.ensures.safe tells n fits s;
      under_way = c.begin.ensures.under_way tells less;
      leaves = c.begin.ensures.leaves tells n fits s;
      moments = c.begin.ensures.any_moment tells n fits s;
      stands = c.begin.ensures.stands tells less;
    } in
    kept-filling g.D.Disk.seen g.D.Disk.may_leave g.D.Disk.moment g.D.Disk.left_since n (length c.args.store.now.pages) c.args.cache.now c.args.store.now c.begin.new.self one

pub returns-in-Err-fill_all-clause-safe : goal.returns-in-Err-fill_all-clause-safe
returns-in-Err-fill_all-clause-safe g c = λ tells n fits s.
    let less = sound-less n _ (g.D.Disk.may_leave c.args.store.now.disk) fits s in
    let long : length c.begin.new.self.pages ≡ length c.args.store.now.pages =
    ap (λ (ps : List (Option StoredPage)). length ps) c.begin.ensures.pages ∙ cleared-long c.as_slice.result.now c.args.store.now.pages in
    (c.fill_all.ensures.fills (c.begin.ensures.goes_on tells) n (omega (arith, long, fits)) (c.begin.ensures.safe tells n fits s) (c.begin.ensures.under_way tells less)).sound

pub returns-in-Err-fill_all-clause-any_moment : goal.returns-in-Err-fill_all-clause-any_moment
returns-in-Err-fill_all-clause-any_moment g c = λ tells n fits s.
    let less = sound-less n _ (g.D.Disk.may_leave c.args.store.now.disk) fits s in
    let one : Fills g.D.Disk.seen g.D.Disk.may_leave g.D.Disk.moment g.D.Disk.left_since n c.args.store.now c.begin.new.self = record {
      sound = c.begin.ensures.safe tells n fits s;
      under_way = c.begin.ensures.under_way tells less;
      leaves = c.begin.ensures.leaves tells n fits s;
      moments = c.begin.ensures.any_moment tells n fits s;
      stands = c.begin.ensures.stands tells less;
    } in
    let long : length c.begin.new.self.pages ≡ length c.args.store.now.pages =
    ap (λ (ps : List (Option StoredPage)). length ps) c.begin.ensures.pages ∙ cleared-long c.as_slice.result.now c.args.store.now.pages in
    let two = c.fill_all.ensures.fills (c.begin.ensures.goes_on tells) n (omega (arith, long, fits)) one.sound one.under_way in
    kept-filling g.D.Disk.seen g.D.Disk.may_leave g.D.Disk.moment g.D.Disk.left_since n (length c.args.store.now.pages) c.args.cache.now c.args.store.now c.fill_all.new.store
    (fills-then g.D.Disk.seen g.D.Disk.may_leave g.D.Disk.moment g.D.Disk.left_since n c.args.store.now c.begin.new.self c.fill_all.new.store one two)

pub returns-in-Err-fill_all-clause-stands : goal.returns-in-Err-fill_all-clause-stands
returns-in-Err-fill_all-clause-stands g c = λ tells s stands.
    let long : length c.begin.new.self.pages ≡ length c.args.store.now.pages =
    ap (λ (ps : List (Option StoredPage)). length ps) c.begin.ensures.pages ∙ cleared-long c.as_slice.result.now c.args.store.now.pages in
    (c.fill_all.ensures.fills (c.begin.ensures.goes_on tells) (length c.args.store.now.pages) (omega (arith, long))
    (c.begin.ensures.safe tells (length c.args.store.now.pages) (all-long c.args.store.now.pages) s) (c.begin.ensures.under_way tells s)).stands (c.begin.ensures.stands tells s stands)

pub returns-in-Err-fill_all-clause-count : goal.returns-in-Err-fill_all-clause-count
returns-in-Err-fill_all-clause-count g c =
    ap (λ (ps : List (Option StoredPage)). length ps) c.fill_all.ensures.pages ∙ ap (λ (ps : List (Option StoredPage)). length ps) c.begin.ensures.pages
    ∙ cleared-long c.as_slice.result.now c.args.store.now.pages

pub returns-in-Err-clause-count : goal.returns-in-Err-clause-count
returns-in-Err-clause-count g c = ap (λ (ps : List (Option StoredPage)). length ps) c.begin.ensures.pages ∙ cleared-long c.as_slice.result.now c.args.store.now.pages

pub returns-clause-count : goal.returns-clause-count
returns-clause-count g c =
    ended-long c.fill_all.new.store.round c.finish.result c.fill_all.new.store.pages c.finish.new.self.pages c.finish.ensures.pages
    ∙ ap (λ (ps : List (Option StoredPage)). length ps) c.fill_all.ensures.pages ∙ ap (λ (ps : List (Option StoredPage)). length ps) c.begin.ensures.pages
    ∙ cleared-long c.as_slice.result.now c.args.store.now.pages

pub returns-clause-safe : goal.returns-clause-safe
returns-clause-safe g c = λ tells n fits s.
    let less = sound-less n _ (g.D.Disk.may_leave c.args.store.now.disk) fits s in
    let long : length c.begin.new.self.pages ≡ length c.args.store.now.pages =
    ap (λ (ps : List (Option StoredPage)). length ps) c.begin.ensures.pages ∙ cleared-long c.as_slice.result.now c.args.store.now.pages in
    let same : length c.fill_all.new.store.pages ≡ length c.begin.new.self.pages = ap (λ (ps : List (Option StoredPage)). length ps) c.fill_all.ensures.pages in
    let on = c.begin.ensures.goes_on tells in
    let two = c.fill_all.ensures.fills on n (omega (arith, long, fits)) (c.begin.ensures.safe tells n fits s) (c.begin.ensures.under_way tells less) in
    c.finish.ensures.safe (c.fill_all.ensures.goes_on on) n (omega (arith, same, long, fits)) two.sound

pub returns-clause-any_moment : goal.returns-clause-any_moment
returns-clause-any_moment g c = λ tells n fits s.
    let less = sound-less n _ (g.D.Disk.may_leave c.args.store.now.disk) fits s in
    let one : Fills g.D.Disk.seen g.D.Disk.may_leave g.D.Disk.moment g.D.Disk.left_since n c.args.store.now c.begin.new.self = record {
      sound = c.begin.ensures.safe tells n fits s;
      under_way = c.begin.ensures.under_way tells less;
      leaves = c.begin.ensures.leaves tells n fits s;
      moments = c.begin.ensures.any_moment tells n fits s;
      stands = c.begin.ensures.stands tells less;
    } in
    let long : length c.begin.new.self.pages ≡ length c.args.store.now.pages =
    ap (λ (ps : List (Option StoredPage)). length ps) c.begin.ensures.pages ∙ cleared-long c.as_slice.result.now c.args.store.now.pages in
    let same : length c.fill_all.new.store.pages ≡ length c.begin.new.self.pages = ap (λ (ps : List (Option StoredPage)). length ps) c.fill_all.ensures.pages in
    let on = c.begin.ensures.goes_on tells in
    let two = c.fill_all.ensures.fills on n (omega (arith, long, fits)) one.sound one.under_way in
    let begun = c.in-Ok-begin.ensures.round in
    let short = begun-short c.as_slice.result.now (length c.args.store.now.pages) c.begin.new.self.round begun in
    let less_round = c.fill_all.ensures.short in
    kept-ended g.D.Disk.seen g.D.Disk.may_leave g.D.Disk.moment g.D.Disk.left_since n (length c.args.store.now.pages) c.args.cache.now c.args.store.now c.fill_all.new.store c.finish.new.self.disk
    (fills-then g.D.Disk.seen g.D.Disk.may_leave g.D.Disk.moment g.D.Disk.left_since n c.args.store.now c.begin.new.self c.fill_all.new.store one two)
    (omega (arith, less_round, short))
    (c.fill_all.ensures.kept (begun-kept c.args.cache.now c.as_slice.result.now (length c.args.store.now.pages) c.begin.new.self.round begun))
    (c.finish.ensures.any_moment (c.fill_all.ensures.goes_on on) n (omega (arith, same, long, fits)) two.sound two.under_way)

pub returns-clause-stands : goal.returns-clause-stands
returns-clause-stands g c = λ tells s stands.
    let top = length c.args.store.now.pages in
    let long : length c.begin.new.self.pages ≡ length c.args.store.now.pages =
    ap (λ (ps : List (Option StoredPage)). length ps) c.begin.ensures.pages ∙ cleared-long c.as_slice.result.now c.args.store.now.pages in
    let same : length c.fill_all.new.store.pages ≡ length c.begin.new.self.pages = ap (λ (ps : List (Option StoredPage)). length ps) c.fill_all.ensures.pages in
    let on = c.begin.ensures.goes_on tells in
    let two = c.fill_all.ensures.fills on (length c.args.store.now.pages) (omega (arith, long)) (c.begin.ensures.safe tells (length c.args.store.now.pages) (all-long c.args.store.now.pages) s)
    (c.begin.ensures.under_way tells s) in
    c.finish.ensures.stands (c.fill_all.ensures.goes_on on) (sound-less (length c.args.store.now.pages) _ (g.D.Disk.may_leave c.fill_all.new.store.disk) (omega (arith, same, long)) two.sound)
    two.under_way (two.stands (c.begin.ensures.stands tells s stands))
