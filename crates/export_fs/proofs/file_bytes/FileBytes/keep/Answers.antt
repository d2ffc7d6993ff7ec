-- The stable bytes are filled first, and then take the others.
use Rattle.std.proofs.Common.{rules, ◌≡◌, ◌+◌, ◌<◌, length, refl}
use Rattle.world_model.specs.Bytes.{put_at, filled}
use Rattle.export_fs.proofs.Puts.{laid}
use Rattle.export_fs.proofs.file_bytes.FileBytes.keep.Goals as goal

pub returns-clause-ok : goal.returns-clause-ok
returns-clause-ok c =
    let some : 0 < length c.part-kept.result.now = search rules in
    let mid : c.fill.new.bytes.items ≡ filled (c.args.from + length c.part-kept.result.now) c.self.inside.stable.items = search rules in
    let e : c.paste.new.bytes.items ≡ put_at c.args.from c.part-kept.result.now c.self.inside.stable.items = laid c.args.from (c.args.from + length c.part-kept.result.now) c.part-kept.result.now c.self.inside.stable.items c.fill.new.bytes.items c.paste.new.bytes.items mid refl some c.paste.ensures in
    search (rules, e)
