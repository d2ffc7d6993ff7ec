-- Lines of files that were sent before go on to stand in front of those that are planned.
use Rattle.std.proofs.Common.{◌≡◌, ◌+◌, ℕ, List, length, [], ◌∷◌, ◌++◌, Option, Some, None, refl, ap, ◌∙◌, append_assoc, append-nil}
use Rattle.nfs_types.specs.declared.mode.Mode.TheVariants as modes
use Rattle.world_model.specs.declared.op.Op.{Op}
use Rattle.world_model.specs.declared.op.Op.TheVariants as ops
use Rattle.nfs_script.specs.declared.script.ScriptLine.{ScriptLine}
use Rattle.file_trees.specs.declared.item.Node.{Node}
use Rattle.file_trees.specs.declared.item.Node.TheVariants as nodes
use Rattle.file_trees.specs.declared.item.Piece.TheVariants as pieces
use Rattle.file_trees.specs.declared.tree.Given.{Given}
use Rattle.file_trees.specs.declared.tree.Given.TheVariants as gives
use Rattle.copy_plan.specs.Files.{FilesView, ends_at, next_lane, writes_at}
use Rattle.copy_plan.specs.Lines.{LinesView, asks}
use Rattle.copy_plan.specs.Trees.{plan_node, plan_of, plan_one}
use Rattle.copy_scripts.specs.Uploads.{taken}

abbrev pub fronted_lines : List ScriptLine → LinesView → LinesView
fronted_lines front v = record { lines = front ++ v.lines; next = v.next }

-- with these lines in front
abbrev pub fronted : List ScriptLine → FilesView → FilesView
fronted front v = record v { all = fronted_lines front v.all }

asks-front : (front : List ScriptLine) (lane : ℕ) (op : Op) (v : LinesView) → asks lane op (fronted_lines front v) ≡ fronted_lines front (asks lane op v)
asks-front front lane op v =
    ap (λ (t : List ScriptLine). record { lines = t; next = v.next + 1 }) (append_assoc front v.lines (record { lane = lane; line = v.next; op = op } ∷ []))

writes-front : (front : List ScriptLine) (at : Option ℕ) (bytes : List ℕ) (v : FilesView) → writes_at at bytes (fronted front v) ≡ fronted front (writes_at at bytes v)
writes-front front None bytes v = refl
writes-front front (Some at) bytes v = ap (λ (t : LinesView). record v { all = t; at = Some (at + length bytes) }) (asks-front front v.lane _ v.all)

ends-front : (front : List ScriptLine) (at : Option ℕ) (v : FilesView) → ends_at at (fronted front v) ≡ fronted front (ends_at at v)
ends-front front None v = refl
ends-front front (Some at) v = ap (λ (t : LinesView). record v { all = t; at = None }) (asks-front front v.lane _ v.all)

node-front : (front : List ScriptLine) (node : Node) (path : List (List ℕ)) (v : FilesView) → plan_node node path (fronted front v) ≡ fronted front (plan_node node path v)
node-front front nodes.File path v =
    ap (λ (t : LinesView). record { all = asks (next_lane v.lane) (ops.Truncate 1 0) t; lane = next_lane v.lane; at = Some 0 }) (asks-front front (next_lane v.lane) (ops.OpenFile 1 modes.C path) v.all)
    ∙ ap (λ (t : LinesView). record { all = t; lane = next_lane v.lane; at = Some 0 }) (asks-front front (next_lane v.lane) (ops.Truncate 1 0) (asks (next_lane v.lane) (ops.OpenFile 1 modes.C path) v.all))
node-front front nodes.Folder path v = refl
node-front front (nodes.Link target) path v = refl
node-front front nodes.Other path v = refl
node-front front (nodes.Unread error) path v = refl

one-front : (front : List ScriptLine) (to : List (List ℕ)) (g : Given) (v : FilesView) → plan_one to g (fronted front v) ≡ fronted front (plan_one to g v)
one-front front to (gives.Item item) v = node-front front item.node (to ++ item.path) v
one-front front to (gives.Piece (pieces.Bytes bytes)) v = writes-front front v.at bytes v
one-front front to (gives.Piece pieces.End) v = ends-front front v.at v
one-front front to (gives.Piece (pieces.Cut cut)) v = ends-front front v.at v

pub plan-front : (front : List ScriptLine) (to : List (List ℕ)) (given : List Given) (v : FilesView) → plan_of to given (fronted front v) ≡ fronted front (plan_of to given v)
plan-front front to [] v = refl
plan-front front to (g ∷ given) v = ap (plan_of to given) (one-front front to g v) ∙ plan-front front to given (plan_one to g v)

-- what was sent stands in front of what isn't sent
pub taken-front : (v : FilesView) → fronted v.all.lines (taken v) ≡ v
taken-front v = ap (λ (t : List ScriptLine). record v { all = record { lines = t; next = v.all.next } }) (append-nil v.all.lines)
