-- What holds of each piece in flight under an xid.
use Rattle.core_answers.proofs.Prelude.{◌≡◌, ◌≢◌, ℕ, Bool, true, false, nat_eq, List, [], ◌∷◌, ◌++◌, Some, None, refl, sym, ap, subst, ◌∙◌, if◌then◌else◌, eqb-true, eqb-false, Sent, piece_under, renumbered}
use Rattle.write_back.specs.Pieces.{without}
use Rattle.core_facts.proofs.PieceWalks.{IsNone, IsAlone, OfPieces}

abbrev pub EachUnder : ℕ → (Sent → Type 0) → List Sent → Type 0
EachUnder xid Q [] = Unit {0}
EachUnder xid Q (p ∷ pieces) = (p.xid ≡ xid → Q p) × EachUnder xid Q pieces

some-sent : (p q : Sent) → Some p ≡ Some q → p ≡ q
some-sent p q e = cc

module _ (xid : ℕ) (Q : Sent → Type 0) where
  pub each-found : (pieces : List Sent) (piece : Sent) → piece_under xid pieces ≡ Some piece → EachUnder xid Q pieces → Q piece
  each-found [] piece is each = absurd (let no_way : None ≡ Some piece = is in cc)
  each-found (p ∷ pieces) piece is each = by (nat_eq p.xid xid) refl is (λ e. each-found pieces piece e each.1)
    where
      by : (b : Bool) → nat_eq p.xid xid ≡ b → (if b then Some p else piece_under xid pieces) ≡ Some piece → (piece_under xid pieces ≡ Some piece → Q piece) → Q piece
      by true d e rest = subst Q (some-sent p piece e) (each.0 (eqb-true p.xid xid d))
      by false d e rest = rest e

  -- none is under it
  pub each-none : (pieces : List Sent) → IsNone xid pieces → EachUnder xid Q pieces
  each-none [] none = tt
  each-none (p ∷ pieces) none = by (nat_eq p.xid xid) refl none (λ e. each-none pieces e)
    where
      by : (b : Bool) → nat_eq p.xid xid ≡ b → (if b then Some p else piece_under xid pieces) ≡ None → (IsNone xid pieces → EachUnder xid Q pieces) → EachUnder xid Q (p ∷ pieces)
      by true d e rest = absurd (let no_way : Some p ≡ None = e in cc)
      by false d e rest = (λ same. absurd (eqb-false p.xid xid d same), rest e)

  -- one is at most
  pub each-alone : (pieces : List Sent) → IsAlone xid pieces → ((piece : Sent) → piece_under xid pieces ≡ Some piece → Q piece) → EachUnder xid Q pieces
  each-alone [] alone q = tt
  each-alone (p ∷ pieces) alone q = by (nat_eq p.xid xid) refl alone q (λ rest f. each-alone pieces rest f)
    where
      by : (b : Bool) → nat_eq p.xid xid ≡ b → piece_under xid (if b then pieces else p ∷ without xid pieces) ≡ None
          → ((piece : Sent) → (if b then Some p else piece_under xid pieces) ≡ Some piece → Q piece)
          → (IsAlone xid pieces → ((piece : Sent) → piece_under xid pieces ≡ Some piece → Q piece) → EachUnder xid Q pieces) → EachUnder xid Q (p ∷ pieces)
      by true d e f more = (λ same. f p refl, each-none pieces e)
      by false d e f more =
          let rest : IsAlone xid pieces = ap (λ (b : Bool). if b then Some p else piece_under xid (without xid pieces)) (sym d) ∙ e in
          (λ same. absurd (eqb-false p.xid xid d same), more rest f)

  each-less : (other : ℕ) (pieces : List Sent) → EachUnder xid Q pieces → EachUnder xid Q (without other pieces)
  each-less other [] each = tt
  each-less other (p ∷ pieces) each = by (nat_eq p.xid other) (each-less other pieces each.1)
    where
      by : (b : Bool) → EachUnder xid Q (without other pieces) → EachUnder xid Q (if b then pieces else p ∷ without other pieces)
      by true rest = each.1
      by false rest = (each.0, rest)

  each-more : (pieces : List Sent) (piece : Sent) → piece.xid ≢ xid → EachUnder xid Q pieces → EachUnder xid Q (pieces ++ piece ∷ [])
  each-more [] piece apart each = (λ same. absurd (apart same), tt)
  each-more (p ∷ pieces) piece apart each = (each.0, each-more pieces piece apart each.1)

  each-other : (asked to : ℕ) (pieces : List Sent) → to ≢ xid → EachUnder xid Q pieces → EachUnder xid Q (renumbered asked to pieces)
  each-other asked to [] apart each = tt
  each-other asked to (p ∷ pieces) apart each = by (nat_eq p.xid asked) (each-other asked to pieces apart each.1)
    where
      by : (b : Bool) → EachUnder xid Q (renumbered asked to pieces) → EachUnder xid Q (if b then record { xid = to; offset = p.offset; how = p.how; bytes = p.bytes; parts = p.parts } ∷ pieces else p ∷ renumbered asked to pieces)
      by true rest = (λ same. absurd (apart same), each.1)
      by false rest = (each.0, rest)

  pub of-each : OfPieces xid (EachUnder xid Q)
  of-each = record { nothing = tt; less = each-less; more = each-more; other = each-other }

pub each-weaker : (xid : ℕ) (P Q : Sent → Type 0) → ((piece : Sent) → P piece → Q piece) → (pieces : List Sent) → EachUnder xid P pieces → EachUnder xid Q pieces
each-weaker xid P Q weaker [] each = tt
each-weaker xid P Q weaker (p ∷ pieces) each = (λ same. weaker p (each.0 same), each-weaker xid P Q weaker pieces each.1)
