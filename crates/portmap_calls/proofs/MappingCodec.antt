-- A mapping that is read is spelled so, and one that is spelled so is read.
use Rattle.std.proofs.Common.{refl}
use Rattle.xdr_codec.proofs.Laws.{Codec, always, field_if, last_if, u32_codec}
use Rattle.xdr_codec.proofs.WholeLaws.{WholeCodec, whole_codec}
use Rattle.xdr_codec.specs.Whole.{whole_at}
use Rattle.portmap_calls.specs.Mappings.{mapping_at, SpellsMapping}

mapping_codec : Codec mapping_at SpellsMapping
unfolding mapping_at
mapping_codec =
    always (field_if (λ m. m.prog) u32_codec (λ prog. field_if (λ m. m.vers) u32_codec (λ vers. field_if (λ m. m.prot) u32_codec (λ prot.
    last_if (λ m. m.port) (λ port. record { prog = prog; vers = vers; prot = prot; port = port }) u32_codec
    (λ a. ((((tt, refl), refl), refl), refl))
    (λ b k. rw (← k.1, ← k.0.1, ← k.0.0.1) refl)))))

pub whole_mapping : WholeCodec (whole_at mapping_at) SpellsMapping
whole_mapping = whole_codec mapping_codec
