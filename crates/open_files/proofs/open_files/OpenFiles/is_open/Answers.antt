use Rattle.open_files.proofs.Kept.{file-open}
use Rattle.open_files.proofs.open_files.OpenFiles.is_open.Goals as goal

pub returns : goal.returns
returns c =
    let open_where = file-open c.self.inside.opens c.args.file.now c.self.invariant in
    rw (← c.self.view_is) (λ t. open_where.0 (c.holds_file.ensures.0 t), λ o. c.holds_file.ensures.1 (open_where.1 o))
