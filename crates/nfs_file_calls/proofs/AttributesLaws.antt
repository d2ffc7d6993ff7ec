-- NULL, GETATTR, SETATTR and ACCESS: what is read is spelled so, and what is spelled so is read.
use Rattle.std.proofs.Common.{ℕ, List, [], refl, subst}
use Rattle.xdr_codec.specs.Spells.{SpellsOpt}
use Rattle.xdr_codec.proofs.Laws.{Takes, Codec, field_if, last_if, always, u32_codec}
use Rattle.xdr_codec.proofs.MoreLaws.{ok_is, opt_codec}
use Rattle.nfs_types.specs.Spells.{SpellsTime}
use Rattle.nfs_types.proofs.Laws.{handle_codec, set_attr_codec, time_codec, opt_attr_codec}
use Rattle.nfs_file_calls.specs.Attributes.{nothing_at, SpellsNothing, guard_at, set_attr_args_at, SpellsSetAttrArgs, access_args_at, SpellsAccessArgs, access_done_at, SpellsAccessDone}

pub nothing_codec : Codec nothing_at SpellsNothing
nothing_codec = record {
  takes = λ bytes x fits e.
      let pair : Unit {0} × List ℕ = (tt, bytes) in
      subst (λ (y : Unit {0} × List ℕ). Takes SpellsNothing bytes y) (ok_is pair x e) (record { front = []; is = refl; spells = record { is = refl }; rest = fits });
  again = λ v text rest s. rw s.is refl;
}

pub guard_codec : Codec guard_at (SpellsOpt SpellsTime)
unfolding guard_at
guard_codec = opt_codec time_codec

pub set_attr_args_codec : Codec set_attr_args_at SpellsSetAttrArgs
unfolding set_attr_args_at
set_attr_args_codec = always (
    field_if (λ v. v.file) handle_codec (λ file.
    field_if (λ v. v.set) set_attr_codec (λ set.
    last_if (λ v. v.guard) (λ guard. record { file = file; set = set; guard = guard }) guard_codec
    (λ a. (((tt, refl), refl), refl))
    (λ b k. rw (← k.1, ← k.0.1) refl))))

pub access_args_codec : Codec access_args_at SpellsAccessArgs
unfolding access_args_at
access_args_codec = always (
    field_if (λ v. v.file) handle_codec (λ file.
    last_if (λ v. v.bits) (λ bits. record { file = file; bits = bits }) u32_codec
    (λ a. ((tt, refl), refl))
    (λ b k. rw (← k.1) refl)))

pub access_done_codec : Codec access_done_at SpellsAccessDone
unfolding access_done_at
access_done_codec = always (
    field_if (λ v. v.attr) opt_attr_codec (λ attr.
    last_if (λ v. v.bits) (λ bits. record { attr = attr; bits = bits }) u32_codec
    (λ a. ((tt, refl), refl))
    (λ b k. rw (← k.1) refl)))
