-- How long the spelling of an opaque is, and what stands after it.
use Rattle.std.proofs.Common.{◌≡◌, ◌≤◌, ℕ, ◌+◌, List, ◌++◌, length, drop, Ok, refl, sym, ap, ◌∙◌, arith}
use Rattle.std.proofs.lemmas.List.{drop_at, length-append}
use Rattle.xdr_codec.specs.Reading.{opaque_at, padding}
use Rattle.xdr_codec.specs.Spelling.{u32_bytes}
use Rattle.xdr_codec.specs.Spells.{SpellsU32, SpellsOpaque}
use Rattle.rpc_message.specs.Auth.{after_body_at}

pub word_long : (v : ℕ) (text : List ℕ) → SpellsU32 v text → length text ≡ 4
unfolding u32_bytes
word_long v text s = ap length s.is

pub opaque_long : (max : ℕ) (v text : List ℕ) → SpellsOpaque max v text → length text ≡ 4 + length v + padding (length v)
opaque_long max v text s =
    omega (arith, ap length s.is, length-append s.front s.back, word_long _ s.front s.one, ap length s.two.is, length-append v s.two.pad, s.two.long)

-- an opaque that was taken from the front
pub record AfterOpaque (v bytes rest : List ℕ) : Type 0 where
  pub long : 4 + length v + padding (length v) ≤ length bytes
  pub back : drop (4 + length v + padding (length v)) bytes ≡ rest

pub after_opaque : (max : ℕ) (v start bytes rest : List ℕ) → start ≡ bytes → (text : List ℕ) × (start ≡ text ++ rest) × SpellsOpaque max v text → AfterOpaque v bytes rest
after_opaque max v start bytes rest same s =
    let long = opaque_long max v s.0 s.2 in
    record {
      long = omega (arith, long, ap length s.1, ap length same, length-append s.0 rest);
      back = ap (λ (k : List ℕ). drop (4 + length v + padding (length v)) k) (sym same ∙ s.1) ∙ drop_at s.0 rest _ long;
    }

pub body_read : (v start bytes rest back : List ℕ) → start ≡ bytes → opaque_at 400 start ≡ Ok (v, rest) → back ≡ drop (4 + length v + padding (length v)) bytes → AfterOpaque v bytes rest
    → after_body_at bytes ≡ Ok (tt, back)
body_read v start bytes rest back same e is a = rw (← same, e, is, a.back) refl
