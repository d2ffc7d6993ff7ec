-- What is read as a way to make a file is spelled so, and what is spelled so is read.
use Rattle.std.proofs.Common.{◌≡◌, ℕ, zero, suc, List, ◌++◌, Ok, refl, subst}
use Rattle.xdr_codec.specs.Reading.{u32_at}
use Rattle.xdr_codec.specs.Spells.{SpellsU32}
use Rattle.xdr_codec.proofs.Laws.{Takes, Codec, bind_ok, u32_codec}
use Rattle.xdr_codec.proofs.MoreLaws.{ok_is, both}
use Rattle.nfs_types.proofs.Laws.{set_attr_codec, verf_codec}
use Rattle.nfs_dir_calls.specs.declared.create.Making.{Making}
use Rattle.nfs_dir_calls.specs.declared.create.Making.TheVariants.{Unchecked, Guarded, Exclusive}
use Rattle.nfs_dir_calls.specs.Makings.{making_of, making_at, SpellsMaking}
use Rattle.nfs_dir_calls.proofs.Readers.{after_text}
use Rattle.nfs_types.specs.Fields.{set_attr_at, verf_at}
use Rattle.nfs_types.specs.Spells.{SpellsSetAttr, SpellsVerf}

making_takes : (bytes : List ℕ) (mode : ℕ) (more : List ℕ) (x : Making × List ℕ) → Takes SpellsU32 bytes (mode, more) → making_of mode more ≡ Ok x → Takes SpellsMaking bytes x
unfolding making_of
making_takes bytes zero more x t e =
    let o = bind_ok (set_attr_at more) (λ set. Ok (Unchecked set.0, set.1)) x e in
    let pair : Making × List ℕ = (Unchecked o.0.0, o.0.1) in
    subst (λ (y : Making × List ℕ). Takes SpellsMaking bytes y) (ok_is pair x o.2)
    (both {T = SpellsSetAttr} {U = SpellsMaking} bytes (0, more) o.0 (Unchecked o.0.0) t (set_attr_codec.takes more o.0 t.rest o.1) (λ text s. s))
making_takes bytes (suc zero) more x t e =
    let o = bind_ok (set_attr_at more) (λ set. Ok (Guarded set.0, set.1)) x e in
    let pair : Making × List ℕ = (Guarded o.0.0, o.0.1) in
    subst (λ (y : Making × List ℕ). Takes SpellsMaking bytes y) (ok_is pair x o.2)
    (both {T = SpellsSetAttr} {U = SpellsMaking} bytes (1, more) o.0 (Guarded o.0.0) t (set_attr_codec.takes more o.0 t.rest o.1) (λ text s. s))
making_takes bytes (suc (suc zero)) more x t e =
    let o = bind_ok (verf_at more) (λ verf. Ok (Exclusive verf.0, verf.1)) x e in
    let pair : Making × List ℕ = (Exclusive o.0.0, o.0.1) in
    subst (λ (y : Making × List ℕ). Takes SpellsMaking bytes y) (ok_is pair x o.2)
    (both {T = SpellsVerf} {U = SpellsMaking} bytes (2, more) o.0 (Exclusive o.0.0) t (verf_codec.takes more o.0 t.rest o.1) (λ text s. s))
making_takes bytes (suc (suc (suc n))) more x t e = absurd cc

making_again : (v : Making) (text rest : List ℕ) → SpellsMaking v text → making_at (text ++ rest) ≡ Ok (v, rest)
unfolding making_of making_at
making_again (Unchecked set) text rest s = rw (after_text text s.front s.back rest s.is, u32_codec.again 0 s.front (s.back ++ rest) s.one, set_attr_codec.again set s.back rest s.two) refl
making_again (Guarded set) text rest s = rw (after_text text s.front s.back rest s.is, u32_codec.again 1 s.front (s.back ++ rest) s.one, set_attr_codec.again set s.back rest s.two) refl
making_again (Exclusive verf) text rest s = rw (after_text text s.front s.back rest s.is, u32_codec.again 2 s.front (s.back ++ rest) s.one, verf_codec.again verf s.back rest s.two) refl

pub making_codec : Codec making_at SpellsMaking
unfolding making_at
making_codec = record {
  takes = λ bytes x fits e.
      let o = bind_ok (u32_at bytes) (λ mode. making_of mode.0 mode.1) x e in
      making_takes bytes o.0.0 o.0.1 x (u32_codec.takes bytes o.0 fits o.1) o.2;
  again = λ v text rest s. making_again v text rest s;
}
