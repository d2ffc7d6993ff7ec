use Rattle.std.proofs.Common.{inl, inr}
use Rattle.nfs_file_calls.proofs.WrittenReplies.{as_spelled, null_reply_written, get_attr_fail_written, set_attr_fail_written, access_fail_written, read_fail_written, write_fail_written, fs_stat_fail_written, fs_info_fail_written, path_conf_fail_written, commit_fail_written}
use Rattle.nfs_file_calls.proofs.read_back.spells_reply.Goals as goal

pub returns-in-Null : goal.returns-in-Null
returns-in-Null c = as_spelled _ _ c.in-Null.is (λ has. null_reply_written) c.requires

pub returns-in-GetAttrFail : goal.returns-in-GetAttrFail
returns-in-GetAttrFail c = as_spelled _ _ c.in-GetAttrFail.is (λ has. get_attr_fail_written _ has c.fits_u32.ensures) c.requires

pub returns-in-AccessFail : goal.returns-in-AccessFail
returns-in-AccessFail c =
    let fits = c.fits_u32-in-AccessFail.ensures in
    let attr = c.opt_attr_read_back-in-AccessFail.ensures.spelled in
    elim c.in-AccessFail.is [
      | inl e ↦ as_spelled _ _ e (λ has. access_fail_written _ _ has fits attr) c.requires
      | inr o ↦ elim o [
        | inl e ↦ as_spelled _ _ e (λ has. read_fail_written _ _ has fits attr) c.requires
        | inr o ↦ elim o [
          | inl e ↦ as_spelled _ _ e (λ has. fs_stat_fail_written _ _ has fits attr) c.requires
          | inr o ↦ elim o [
            | inl e ↦ as_spelled _ _ e (λ has. fs_info_fail_written _ _ has fits attr) c.requires
            | inr e ↦ as_spelled _ _ e (λ has. path_conf_fail_written _ _ has fits attr) c.requires
          ]
        ]
      ]
    ]

pub returns-in-SetAttrFail : goal.returns-in-SetAttrFail
returns-in-SetAttrFail c =
    let fits = c.fits_u32-in-SetAttrFail.ensures in
    let wcc = c.wcc_read_back-in-SetAttrFail.ensures.spelled in
    elim c.in-SetAttrFail.is [
      | inl e ↦ as_spelled _ _ e (λ has. set_attr_fail_written _ _ has fits wcc) c.requires
      | inr o ↦ elim o [
        | inl e ↦ as_spelled _ _ e (λ has. write_fail_written _ _ has fits wcc) c.requires
        | inr e ↦ as_spelled _ _ e (λ has. commit_fail_written _ _ has fits wcc) c.requires
      ]
    ]
