use Rattle.std.proofs.Common.{Option}
use Rattle.xdr_codec.specs.Spells.{◌⨾◌}
use Rattle.nfs_types.specs.declared.attr.Attr.{Attr}
use Rattle.nfs_types.specs.declared.wcc.Wcc.{Wcc}
use Rattle.nfs_types.specs.Spells.{SpellsOptAttr, SpellsWcc}
use Rattle.nfs_dir_calls.proofs.Wrote.{wrote_refusal}
use Rattle.nfs_dir_calls.proofs.reply.write_dir_reply.Goals as goal

pub returns-in-RenameFail-clause-spelled : goal.returns-in-RenameFail-clause-spelled
returns-in-RenameFail-clause-spelled c =
    rw c.in-RenameFail.is (wrote_refusal {B = Wcc × Wcc} (λ v. SpellsWcc v.0 ⨾ SpellsWcc v.1) c.in-RenameFail.status.0 (c.in-RenameFail.from, c.in-RenameFail.to) _ _ _ (rw c.in-RenameFail.is at c.requires) c.write_reply-in-RenameFail.ensures.spelled)

pub returns-in-LinkFail-clause-spelled : goal.returns-in-LinkFail-clause-spelled
returns-in-LinkFail-clause-spelled c =
    rw c.in-LinkFail.is (wrote_refusal {B = Option Attr × Wcc} (λ v. SpellsOptAttr v.0 ⨾ SpellsWcc v.1) c.in-LinkFail.status.0 (c.in-LinkFail.attr, c.in-LinkFail.wcc) _ _ _ (rw c.in-LinkFail.is at c.requires) c.write_reply-in-LinkFail.ensures.spelled)
