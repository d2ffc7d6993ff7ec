use Rattle.nfs_dir_calls.proofs.Pages.{page_flag, page_end, page_row, page_next}
use Rattle.nfs_dir_calls.proofs.DirPages.{dir_row_codec, dir_row_named}
use Rattle.nfs_dir_calls.proofs.dir_page.DirPage.next.Goals as goal

pub returns-in_default : goal.returns-in_default
returns-in_default c = absurd (page_flag c.self.inside.rest _ c.self.invariant (rw (c.again-at.ensures) at c.in_default.ensures.exact.0))

pub returns-then-not-more : goal.returns-then-not-more
returns-then-not-more c = let e = page_end c.self.inside.rest _ c.self.invariant (rw (c.again-at.ensures, c.if-not-more.true) at c.in-Ok.ensures.exact) in rw (← c.self.view_is) (e, e)

pub returns-in_default-read_dir_entry : goal.returns-in_default-read_dir_entry
returns-in_default-read_dir_entry c = absurd (page_row c.self.inside.rest _ _ c.self.invariant (rw (c.again-at.ensures, c.if-not-more.false) at c.in-Ok.ensures.exact) c.in_default-read_dir_entry.ensures.0)

pub invariant_of-self : goal.invariant_of-self
invariant_of-self c = (page_next dir_row_codec c.self.inside.rest _ _ _ c.self.invariant (rw (c.again-at.ensures, c.if-not-more.false) at c.in-Ok.ensures.exact) c.in-Ok-read_dir_entry.ensures).page

pub returns : goal.returns
returns c =
    let e = rw (c.again-at.ensures, c.if-not-more.false) at c.in-Ok.ensures.exact in
    rw (← c.self.view_is) (
      (page_next dir_row_codec c.self.inside.rest _ _ _ c.self.invariant e c.in-Ok-read_dir_entry.ensures).is,
      dir_row_named c.self.inside.rest _ _ _ c.self.invariant.fits e c.in-Ok-read_dir_entry.ensures,
    )
