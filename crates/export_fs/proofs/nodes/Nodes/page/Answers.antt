-- The page takes the next entry, which fits.
use Rattle.std.proofs.Common.{rules}
use Rattle.export_fs.specs.Parts.{object, rows_in}
use Rattle.export_fs.specs.Pages.{rows_after, page_of}
use Rattle.std.proofs.Common.{length}
use Rattle.export_fs.proofs.PageGrows.{page_step}
use Rattle.export_fs.proofs.nodes.Nodes.page.Goals as goal

pub loop-next-preserved : goal.loop-next-preserved
loop-next-preserved c =
    let p = page_step c.args.self.now c.args.limit c.loop-next.used c.in_ok-size.size
    (page_of c.args.self.now c.args.limit (rows_after c.args.cookie (rows_in (object c.args.self.now c.args.dir.now))))
    c.loop-next.rows.items c.push-in-Some-next.new.self.items
    (length (rows_after c.args.cookie (rows_in (object c.args.self.now c.args.dir.now))))
    (rows_after c.loop-next.at (rows_in (object c.args.self.now c.args.dir.now)))
    (rows_after c.in-Some-next.next.cookie (rows_in (object c.args.self.now c.args.dir.now)))
    c.in-Some-next.next (record { entries = c.loop-next.invariant.page; count = c.loop-next.invariant.count }) (search rules) (search rules) (search rules) (search rules) (search rules) in
    record { page = p.entries; count = p.count }
