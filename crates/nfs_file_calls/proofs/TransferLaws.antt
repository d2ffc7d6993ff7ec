-- READ, WRITE and COMMIT: what is read is spelled so, and what is spelled so is read.
use Rattle.std.proofs.Common.{ℕ, cond, ltb, List, length, Ok, Err, refl, subst, ◌==◌}
use Rattle.std.proofs.lemmas.Bool.{ltb-false, le-ltb, eqb-true, eq-eqb}
use Rattle.xdr_codec.specs.declared.reader.XdrFault.TheVariants.{BadValue}
use Rattle.xdr_codec.specs.Reading.{u32_at}
use Rattle.xdr_codec.proofs.Laws.{Takes, Codec, bind_ok, field_if, last_if, always, u32_codec, u64_codec}
use Rattle.xdr_codec.proofs.MoreLaws.{guard_ok, ok_is, flag_codec, opaque_codec}
use Rattle.nfs_types.proofs.Laws.{handle_codec, verf_codec, opt_attr_codec, wcc_codec}
use Rattle.nfs_file_calls.specs.Transfer.{how_at, SpellsHow, write_args_at, SpellsWriteArgs, range_args_at, SpellsRangeArgs, read_done_at, SpellsReadDone, write_done_at, SpellsWriteDone, commit_done_at, SpellsCommitDone}
use Rattle.nfs_file_calls.proofs.Tools.{tested_if}

pub how_codec : Codec how_at SpellsHow
unfolding how_at
how_codec = record {
  takes = λ bytes x fits e.
      let o = bind_ok (u32_at bytes) (λ h. cond (ltb 2 h.0) (Err BadValue) (Ok h)) x e in
      let t = u32_codec.takes bytes o.0 fits o.1 in
      let g = guard_ok (ltb 2 o.0.0) BadValue (Ok o.0) x o.2 in
      let took : Takes SpellsHow bytes o.0 = record { front = t.front; is = t.is; spells = record { bound = ltb-false _ _ g.0; is = t.spells }; rest = t.rest } in
      subst (λ (y : ℕ × List ℕ). Takes SpellsHow bytes y) (ok_is o.0 x g.1) took;
  again = λ v text rest s. rw (u32_codec.again v text rest s.is, le-ltb 2 v s.bound) refl;
}

pub write_args_codec : Codec write_args_at SpellsWriteArgs
unfolding write_args_at
write_args_codec = always (
    field_if (λ v. v.file) handle_codec (λ file.
    field_if (λ v. v.offset) u64_codec (λ offset.
    field_if (λ v. length v.bytes) u32_codec (λ count.
    field_if (λ v. v.how) how_codec (λ how.
    tested_if (λ v. v.bytes) (λ text. record { file = file; offset = offset; how = how; bytes = text }) (λ text. length text == count) BadValue (opaque_codec 65536)
    (λ a t. (((((tt, refl), refl), eqb-true _ _ t), refl), refl))
    (λ b k. (rw (← k.1, ← k.0.0.1, ← k.0.0.0.1) refl, eq-eqb _ _ k.0.1)))))))

pub range_args_codec : Codec range_args_at SpellsRangeArgs
unfolding range_args_at
range_args_codec = always (
    field_if (λ v. v.file) handle_codec (λ file.
    field_if (λ v. v.offset) u64_codec (λ offset.
    last_if (λ v. v.count) (λ count. record { file = file; offset = offset; count = count }) u32_codec
    (λ a. (((tt, refl), refl), refl))
    (λ b k. rw (← k.1, ← k.0.1) refl))))

pub read_done_codec : Codec read_done_at SpellsReadDone
unfolding read_done_at
read_done_codec = always (
    field_if (λ v. v.attr) opt_attr_codec (λ attr.
    field_if (λ v. v.count) u32_codec (λ count.
    field_if (λ v. v.eof) flag_codec (λ eof.
    last_if (λ v. v.bytes) (λ text. record { attr = attr; count = count; eof = eof; bytes = text }) (opaque_codec 65536)
    (λ a. ((((tt, refl), refl), refl), refl))
    (λ b k. rw (← k.1, ← k.0.1, ← k.0.0.1) refl)))))

pub write_done_codec : Codec write_done_at SpellsWriteDone
unfolding write_done_at
write_done_codec = always (
    field_if (λ v. v.wcc) wcc_codec (λ wcc.
    field_if (λ v. v.count) u32_codec (λ count.
    field_if (λ v. v.committed) u32_codec (λ committed.
    last_if (λ v. v.verf) (λ verf. record { wcc = wcc; count = count; committed = committed; verf = verf }) verf_codec
    (λ a. ((((tt, refl), refl), refl), refl))
    (λ b k. rw (← k.1, ← k.0.1, ← k.0.0.1) refl)))))

pub commit_done_codec : Codec commit_done_at SpellsCommitDone
unfolding commit_done_at
commit_done_codec = always (
    field_if (λ v. v.wcc) wcc_codec (λ wcc.
    last_if (λ v. v.verf) (λ verf. record { wcc = wcc; verf = verf }) verf_codec
    (λ a. ((tt, refl), refl))
    (λ b k. rw (← k.1) refl)))
