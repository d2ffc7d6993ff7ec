-- A file that is begun, written and ended is asked for the operations that copy it.
use Rattle.std.proofs.Common.{◌≡◌, ◌+◌, ℕ, suc, List, [], ◌∷◌, ◌++◌, length, Some, refl, ap, ◌∙◌, arith, append_assoc}
use Rattle.nfs_types.specs.declared.mode.Mode.TheVariants as modes
use Rattle.world_model.specs.declared.op.Op.TheVariants as ops
use Rattle.nfs_script.specs.declared.script.ScriptLine.{ScriptLine}
use Rattle.law_copies.specs.Copied.{writes_from}
use Rattle.copy_plan.specs.Files.{FilesView, ends, next_lane}
use Rattle.copy_plan.specs.Whole.{AsksInOrder, all_written, asked_in}

-- a view of a file that is open, by its parts
abbrev open_at : List ScriptLine → ℕ → ℕ → ℕ → FilesView
open_at lines next lane at = record { all = record { lines = lines; next = next }; lane = lane; at = Some at }

one-more : (n : ℕ) → n + 1 ≡ suc n
one-more n = omega arith

-- the pieces that are left, and the close
rest : (pieces : List (List ℕ)) (lines : List ScriptLine) (next lane at : ℕ)
    → (ends (all_written pieces (open_at lines next lane at))).all.lines ≡ lines ++ asked_in lane next (writes_from at pieces ++ ops.Close 1 ∷ [])
rest [] lines next lane at = refl
rest (piece ∷ pieces) lines next lane at =
    let now : ScriptLine = record { lane = lane; line = next; op = ops.Write 1 at piece } in
    rest pieces (lines ++ now ∷ []) (next + 1) lane (at + length piece)
    ∙ append_assoc lines (now ∷ []) (asked_in lane (next + 1) (writes_from (at + length piece) pieces ++ ops.Close 1 ∷ []))
    ∙ ap (λ (n : ℕ). lines ++ now ∷ asked_in lane n (writes_from (at + length piece) pieces ++ ops.Close 1 ∷ [])) (one-more next)

pub in-order : AsksInOrder
in-order v path pieces =
    let lane : ℕ = next_lane v.lane in
    let begun : ScriptLine = record { lane = next_lane v.lane; line = v.all.next; op = ops.OpenFile 1 modes.C path } in
    let cut : ScriptLine = record { lane = next_lane v.lane; line = v.all.next + 1; op = ops.Truncate 1 0 } in
    rest pieces ((v.all.lines ++ begun ∷ []) ++ cut ∷ []) (v.all.next + 1 + 1) (next_lane v.lane) 0
    ∙ append_assoc (v.all.lines ++ begun ∷ []) (cut ∷ []) (asked_in (next_lane v.lane) (v.all.next + 1 + 1) (writes_from 0 pieces ++ ops.Close 1 ∷ []))
    ∙ append_assoc v.all.lines (begun ∷ []) (cut ∷ asked_in (next_lane v.lane) (v.all.next + 1 + 1) (writes_from 0 pieces ++ ops.Close 1 ∷ []))
    ∙ ap (λ (n : ℕ). v.all.lines ++ begun ∷ record { lane = next_lane v.lane; line = v.all.next + 1; op = ops.Truncate 1 0 }
    ∷ asked_in (next_lane v.lane) n (writes_from 0 pieces ++ ops.Close 1 ∷ [])) (one-more (v.all.next + 1))
    ∙ ap (λ (n : ℕ). v.all.lines ++ begun ∷ asked_in (next_lane v.lane) n (ops.Truncate 1 0 ∷ (writes_from 0 pieces ++ ops.Close 1 ∷ []))) (one-more v.all.next)
