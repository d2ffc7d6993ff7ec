-- What is noted at the beginning of a line.
use Rattle.std.proofs.Common.{◌≡◌, ◌≤◌, ◌<◌, ℕ, zero, suc, List, [], ◌∷◌, ◌++◌, length, slice_get, Option, Some, None, MatchOption, refl, ap, ◌∙◌, append_assoc, arith}
use Rattle.world_model.specs.declared.entry.Entry.{Entry}
use Rattle.world_model.specs.declared.entry.Entry.TheVariants.{Began, Clock}
use Rattle.world_model.specs.declared.op.Op.{Op}
use Rattle.nfs_script.specs.declared.script.ScriptLine.{ScriptLine}
use Rattle.lane_session.specs.Places.{IsNext, FoundAt}

abbrev pub Timed : ℕ → List Entry → List Entry → Type 0
Timed ms h k = k ≡ h ++ Clock ms ∷ []

abbrev pub Same : List Entry → List Entry → Type 0
Same h k = k ≡ h

abbrev pub More : ℕ → ℕ → Op → List Entry → List Entry → Type 0
More lane line op h k = k ≡ h ++ Began lane line op ∷ []

pub note-more : (lane line : ℕ) (op : Op) (ms : ℕ) (h k l : List Entry) → Timed ms h k → More lane line op k l → l ≡ h ++ Clock ms ∷ Began lane line op ∷ []
note-more lane line op ms h k l p q = q ∙ ap (λ (t : List Entry). t ++ Began lane line op ∷ []) p ∙ append_assoc h (Clock ms ∷ []) (Began lane line op ∷ [])

-- ---- the next line of a lane

gets : {A : Type 0} → (xs : List A) (n : ℕ) → n < length xs → (x : A) × (slice_get xs n ≡ Some x)
gets [] n lt = absurd (omega (arith, lt))
gets (x ∷ xs) zero lt = (x, refl)
gets (x ∷ xs) (suc n) lt = gets xs n (omega (arith, lt))

pub found-at : (script : List ScriptLine) (lane start at : ℕ) (result : Option ℕ) → IsNext script lane start at → MatchOption result (length script ≤ at) (λ found. (found ≡ at) × (at < length script)) → FoundAt script lane at result
found-at script lane start at None next m = let w = next.within in omega (arith, w, m)
found-at script lane start at (Some found) next m = let l = gets script at m.1 in (m.0, (l.0, l.1, next.own l.0 l.1))
