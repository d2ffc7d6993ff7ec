-- The bytes are filled first, and then take the others.
use Rattle.std.proofs.Common.{rules, ◌≡◌, ◌+◌, ◌<◌, length}
use Rattle.world_model.specs.Bytes.{put_at, filled}
use Rattle.export_fs.proofs.Puts.{laid}
use Rattle.export_fs.proofs.file_bytes.FileBytes.write.Goals as goal

pub returns-then-how-ne0-clause-ok : goal.returns-then-how-ne0-clause-ok
returns-then-how-ne0-clause-ok c =
    let some : 0 < length c.args.bytes.now = search rules in
    let end : c.in-Some.end ≡ c.args.offset + length c.args.bytes.now = search rules in
    let mid : c.self.inside.bytes.items ≡ filled c.in-Some.end c.args.self.now.bytes = search rules in
    let also : c.self.inside.stable.items ≡ filled c.in-Some.end c.args.self.now.stable = search rules in
    let e : c.paste.new.bytes.items ≡ put_at c.args.offset c.args.bytes.now c.args.self.now.bytes = laid c.args.offset c.in-Some.end c.args.bytes.now c.args.self.now.bytes c.self.inside.bytes.items c.paste.new.bytes.items mid end some c.paste.ensures in
    let f : c.paste-then-how-ne0.new.bytes.items ≡ put_at c.args.offset c.args.bytes.now c.args.self.now.stable = laid c.args.offset c.in-Some.end c.args.bytes.now c.args.self.now.stable c.self.inside.stable.items c.paste-then-how-ne0.new.bytes.items also end some c.paste-then-how-ne0.ensures in
    search (rules, e, f)

pub returns-else-how-ne0-clause-ok : goal.returns-else-how-ne0-clause-ok
returns-else-how-ne0-clause-ok c =
    let some : 0 < length c.args.bytes.now = search rules in
    let end : c.in-Some.end ≡ c.args.offset + length c.args.bytes.now = search rules in
    let mid : c.self.inside.bytes.items ≡ filled c.in-Some.end c.args.self.now.bytes = search rules in
    let e : c.paste.new.bytes.items ≡ put_at c.args.offset c.args.bytes.now c.args.self.now.bytes = laid c.args.offset c.in-Some.end c.args.bytes.now c.args.self.now.bytes c.self.inside.bytes.items c.paste.new.bytes.items mid end some c.paste.ensures in
    search (rules, e)
