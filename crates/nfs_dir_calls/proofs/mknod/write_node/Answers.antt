use Rattle.nfs_dir_calls.specs.declared.mknod.Node.TheVariants.{Device, Plain}
use Rattle.nfs_dir_calls.proofs.Nodes.{wrote_node}
use Rattle.nfs_dir_calls.proofs.Wrote.{wrote_then}
use Rattle.nfs_dir_calls.proofs.mknod.write_node.Goals as goal

pub returns-in_ok-u32-in-Device-3-clause-spelled : goal.returns-in_ok-u32-in-Device-3-clause-spelled
returns-in_ok-u32-in-Device-3-clause-spelled c =
    rw c.in-Device.is (wrote_node (Device c.in-Device.kind c.in-Device.set c.in-Device.major c.in-Device.minor) _ _ (rw c.in-Device.is at c.requires) (
    wrote_then _ _ _ _ _ c.in_ok-u32-in-Device.ensures.spelled (
    wrote_then _ _ _ _ _ c.in_ok-write_set_attr-in-Device.ensures.spelled (
    wrote_then _ _ _ _ _ c.in_ok-u32-in-Device-2.ensures.spelled c.in_ok-u32-in-Device-3.ensures.spelled))))

pub returns-in_ok-u32-in-Plain-clause-spelled : goal.returns-in_ok-u32-in-Plain-clause-spelled
returns-in_ok-u32-in-Plain-clause-spelled c =
    rw c.in-Plain.is (wrote_node (Plain c.in-Plain.kind) _ _ (rw c.in-Plain.is at c.requires) c.in_ok-u32-in-Plain.ensures.spelled)
