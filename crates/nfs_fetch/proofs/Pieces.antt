-- Pieces that were read one behind the other.
use Rattle.std.proofs.Common.{◌≡◌, ◌≢◌, ◌+◌, ◌*◌, ℕ, zero, suc, List, [], ◌∷◌, ◌++◌, length, refl, sym, ap, subst, ◌∙◌, arith}
use Rattle.world_model.specs.declared.op.Op.TheVariants as ops
use Rattle.law_copies.specs.Copied.{Done}
use Rattle.nfs_fetch.proofs.Answering.{ShowsBytes}

-- an operation read at this offset, and shows this piece
pub record ReadAt (at : ℕ) (piece : List ℕ) (d : Done) : Type 0 where
  pub op : d.op ≡ ops.Read 1 at 65536
  pub shows : ShowsBytes d.value piece

-- full pieces up to an offset
abbrev pub AreFull : ℕ → List (List ℕ) → List Done → ℕ → Type 0
AreFull at [] [] end = at ≡ end
AreFull at [] (d ∷ ds) end = ⊥
AreFull at (piece ∷ pieces) [] end = ⊥
AreFull at (piece ∷ pieces) (d ∷ ds) end = ReadAt at piece d × (length piece ≡ 65536) × AreFull (at + 65536) pieces ds end

pub full-snoc : (at : ℕ) (pieces : List (List ℕ)) (ds : List Done) (end : ℕ) (piece : List ℕ) (d : Done) → AreFull at pieces ds end → ReadAt end piece d → length piece ≡ 65536
    → AreFull at (pieces ++ piece ∷ []) (ds ++ d ∷ []) (end + 65536)
full-snoc at [] [] end piece d f r full = (subst (λ (n : ℕ). ReadAt n piece d) (sym f) r, full, ap (λ (n : ℕ). n + 65536) f)
full-snoc at [] (x ∷ ds) end piece d f r full = absurd f
full-snoc at (p ∷ pieces) [] end piece d f r full = absurd f
full-snoc at (p ∷ pieces) (x ∷ ds) end piece d f r full = (f.0, f.1, full-snoc (at + 65536) pieces ds end piece d f.2 r full)

-- full pieces, and one that isn't
abbrev pub AreShown : ℕ → List (List ℕ) → List Done → Type 0
AreShown at [] ds = ⊥
AreShown at (piece ∷ pieces) [] = ⊥
AreShown at (piece ∷ []) (d ∷ []) = ReadAt at piece d × (length piece ≢ 65536)
AreShown at (piece ∷ []) (d ∷ e ∷ ds) = ⊥
AreShown at (piece ∷ next ∷ pieces) (d ∷ ds) = ReadAt at piece d × (length piece ≡ 65536) × AreShown (at + 65536) (next ∷ pieces) ds

shown-cons : (at : ℕ) (piece : List ℕ) (pieces : List (List ℕ)) (d : Done) (ds : List Done) → ReadAt at piece d → length piece ≡ 65536 → AreShown (at + 65536) pieces ds
    → AreShown at (piece ∷ pieces) (d ∷ ds)
shown-cons at piece [] d ds r full s = absurd s
shown-cons at piece (next ∷ pieces) d ds r full s = (r, full, s)

pub shown-snoc : (at : ℕ) (pieces : List (List ℕ)) (ds : List Done) (end : ℕ) (piece : List ℕ) (d : Done) → AreFull at pieces ds end → ReadAt end piece d → length piece ≢ 65536
    → AreShown at (pieces ++ piece ∷ []) (ds ++ d ∷ [])
shown-snoc at [] [] end piece d f r short = (subst (λ (n : ℕ). ReadAt n piece d) (sym f) r, short)
shown-snoc at [] (x ∷ ds) end piece d f r short = absurd f
shown-snoc at (p ∷ pieces) [] end piece d f r short = absurd f
shown-snoc at (p ∷ pieces) (x ∷ ds) end piece d f r short =
    shown-cons at p (pieces ++ piece ∷ []) x (ds ++ d ∷ []) f.0 f.1 (shown-snoc (at + 65536) pieces ds end piece d f.2 r short)
