-- Of each file that a tree gives whole, a lane is asked for the operations that copy it.
use Rattle.std.proofs.Common.{◌≡◌, ◌+◌, ℕ, List, [], ◌∷◌, ◌++◌, All, length, Bool, true, false, cond, nat_eq, nat_lt, Option, Some, None, refl, sym, ap, subst, ◌∙◌, arith, append_assoc, append-nil, eq-eqb}
use Rattle.std.proofs.lemmas.Bool.{ltb-true}
use Rattle.std.proofs.lemmas.List.{length-append}
use Rattle.std.proofs.lemmas.List.Elements.{All-push}
use Rattle.nfs_types.specs.declared.mode.Mode.TheVariants as modes
use Rattle.world_model.specs.declared.entry.Entry.{Entry}
use Rattle.world_model.specs.declared.entry.Entry.TheVariants.{Began, Answered, Dialed, Sent, Executed, Foreign, Flushed, Reboot, Delivered, Failed, Clock}
use Rattle.world_model.specs.declared.op.Op.{Op}
use Rattle.world_model.specs.declared.op.Op.TheVariants as ops
use Rattle.world_model.specs.Follows.{begun}
use Rattle.nfs_script.specs.declared.script.ScriptLine.{ScriptLine}
use Rattle.nfs_script.specs.Asked.{IsFrom}
use Rattle.file_trees.specs.declared.item.Node.{Node}
use Rattle.file_trees.specs.declared.item.Node.TheVariants as nodes
use Rattle.file_trees.specs.declared.item.Piece.TheVariants as pieces
use Rattle.file_trees.specs.declared.tree.Given.{Given}
use Rattle.file_trees.specs.declared.tree.Given.TheVariants as gives
use Rattle.file_trees.specs.Files.{Came, File, came_after, with_bytes, with_end, with_one}
use Rattle.law_copies.specs.Copied.{laid, ops_of, writes_from}
use Rattle.copy_plan.specs.Files.{FilesView, begins, ends, ends_at, next_lane, opens, writes, writes_at}
use Rattle.copy_plan.specs.Lines.{asks}
use Rattle.copy_plan.specs.Trees.{FilesAreAsked, IsAskedFor, beginnings, no_files, plan_of, plan_one}

-- ---- one more line

begun-append : (lane : ℕ) (xs ys : List ScriptLine) → begun lane (beginnings (xs ++ ys)) ≡ begun lane (beginnings xs) ++ begun lane (beginnings ys)
begun-append lane [] ys = refl
begun-append lane (x ∷ xs) ys =
    let rest : begun lane (beginnings (xs ++ ys)) ≡ begun lane (beginnings xs) ++ begun lane (beginnings ys) = begun-append lane xs ys in
    elim (nat_eq x.lane lane) as (λ b. cond b (Began x.lane x.line x.op ∷ begun lane (beginnings (xs ++ ys))) (begun lane (beginnings (xs ++ ys)))
    ≡ cond b (Began x.lane x.line x.op ∷ begun lane (beginnings xs)) (begun lane (beginnings xs)) ++ begun lane (beginnings ys)) [
      | true ↦ ap (λ (t : List Entry). Began x.lane x.line x.op ∷ t) rest
      | false ↦ rest
    ]

begun-own : (l : ScriptLine) → begun l.lane (beginnings (l ∷ [])) ≡ Began l.lane l.line l.op ∷ []
begun-own l = ap (λ b. cond b (Began l.lane l.line l.op ∷ []) []) (eq-eqb l.lane l.lane refl)

-- what was asked for before is asked for with more lines, too
longer : (to : List (List ℕ)) (lines more : List ScriptLine) (file : File) → IsAskedFor to lines file → IsAskedFor to (lines ++ more) file
longer to lines more file a = record {
  lane = a.lane;
  within = a.within;
  asks = record {
    before = a.asks.before;
    own = a.asks.own;
    after = a.asks.after ++ begun a.lane (beginnings more);
    is = begun-append a.lane lines more
        ∙ ap (λ (t : List Entry). t ++ begun a.lane (beginnings more)) a.asks.is
        ∙ append_assoc a.asks.before (a.asks.own ++ a.asks.after) (begun a.lane (beginnings more))
        ∙ ap (λ (t : List Entry). a.asks.before ++ t) (append_assoc a.asks.own a.asks.after (begun a.lane (beginnings more)));
    asks = a.asks.asks;
  };
}

all-longer : (to : List (List ℕ)) (lines more : List ScriptLine) (files : List File) → All (IsAskedFor to lines) files → All (IsAskedFor to (lines ++ more)) files
all-longer to lines more files all = λ k d below. longer to lines more _ (all k d below)

-- ---- the file that is under way

-- of the file that is under way its lane was asked for the operations that begin to copy it, behind all others
record IsUnderWay (to : List (List ℕ)) (v : FilesView) (file : File) : Type 0 where
  pub at : v.at ≡ Some (length (laid file.pieces))
  pub before : List Entry
  pub own : List Entry
  pub is : begun v.lane (beginnings v.all.lines) ≡ before ++ own
  pub asks : ops_of own ≡ ops.OpenFile 1 modes.C (to ++ file.path) ∷ ops.Truncate 1 0 ∷ writes_from 0 file.pieces

abbrev UnderWay : List (List ℕ) → FilesView → Option File → Type 0
UnderWay to v None = Unit {0}
UnderWay to v (Some file) = IsUnderWay to v file

-- what holds of the files that came and the lines for them
record Plans (to : List (List ℕ)) (v : FilesView) (came : Came) : Type 0 where
  pub lane : IsFrom 1 15 v.lane
  pub whole : All (IsAskedFor to v.all.lines) came.whole
  pub now : UnderWay to v came.now

ops-append : (xs ys : List Entry) → ops_of (xs ++ ys) ≡ ops_of xs ++ ops_of ys
ops-append [] ys = refl
ops-append (Began lane line op ∷ xs) ys = ap (λ (t : List Op). op ∷ t) (ops-append xs ys)
ops-append (Answered lane line a ∷ xs) ys = ops-append xs ys
ops-append (Dialed port ∷ xs) ys = ops-append xs ys
ops-append (Sent bytes ∷ xs) ys = ops-append xs ys
ops-append (Executed xid call reply ∷ xs) ys = ops-append xs ys
ops-append (Foreign call reply ∷ xs) ys = ops-append xs ys
ops-append (Flushed file from len ∷ xs) ys = ops-append xs ys
ops-append (Reboot verf ∷ xs) ys = ops-append xs ys
ops-append (Delivered bytes ∷ xs) ys = ops-append xs ys
ops-append (Failed ∷ xs) ys = ops-append xs ys
ops-append (Clock ms ∷ xs) ys = ops-append xs ys

-- a line for the lane of the file
own-line : (v : FilesView) (op : Op) → begun v.lane (beginnings (asks v.lane op v.all).lines) ≡ begun v.lane (beginnings v.all.lines) ++ Began v.lane v.all.next op ∷ []
own-line v op = begun-append v.lane v.all.lines (record { lane = v.lane; line = v.all.next; op = op } ∷ [])
    ∙ ap (λ (t : List Entry). begun v.lane (beginnings v.all.lines) ++ t) (begun-own (record { lane = v.lane; line = v.all.next; op = op }))

-- the lane of a file that is under way is asked for one more operation
module _ (to : List (List ℕ)) (v : FilesView) (file : File) (u : IsUnderWay to v file) (op : Op) where
  abbrev more-own : List Entry
  more-own = u.own ++ Began v.lane v.all.next op ∷ []

  more-is : begun v.lane (beginnings (asks v.lane op v.all).lines) ≡ u.before ++ more-own
  more-is = own-line v op ∙ ap (λ (t : List Entry). t ++ Began v.lane v.all.next op ∷ []) u.is ∙ append_assoc u.before u.own (Began v.lane v.all.next op ∷ [])

  more-asks : ops_of more-own
      ≡ ops.OpenFile 1 modes.C (to ++ file.path) ∷ ops.Truncate 1 0 ∷ (writes_from 0 file.pieces ++ op ∷ [])
  more-asks = ops-append u.own (Began v.lane v.all.next op ∷ []) ∙ ap (λ (t : List Op). t ++ op ∷ []) u.asks

-- ---- a file begins

begins-file : (to : List (List ℕ)) (v : FilesView) (path : List (List ℕ)) → IsUnderWay to (begins (to ++ path) v) (record { path = path; pieces = [] })
begins-file to v path = record {
  at = refl;
  before = begun (next_lane v.lane) (beginnings v.all.lines);
  own = first ∷ second ∷ [];
  is = is;
  asks = refl;
}
  where
    opened : FilesView
    opened = opens modes.C (to ++ path) v

    first : Entry
    first = Began (next_lane v.lane) v.all.next (ops.OpenFile 1 modes.C (to ++ path))

    second : Entry
    second = Began (next_lane v.lane) (v.all.next + 1) (ops.Truncate 1 0)

    is : begun (next_lane v.lane) (beginnings (begins (to ++ path) v).all.lines) ≡ begun (next_lane v.lane) (beginnings v.all.lines) ++ (first ∷ second ∷ [])
    is = own-line opened (ops.Truncate 1 0)
        ∙ ap (λ (t : List Entry). t ++ second ∷ []) (own-line (record v { lane = next_lane v.lane }) (ops.OpenFile 1 modes.C (to ++ path)))
        ∙ append_assoc (begun (next_lane v.lane) (beginnings v.all.lines)) (first ∷ []) (second ∷ [])

next-within : (lane : ℕ) → IsFrom 1 15 lane → IsFrom 1 15 (next_lane lane)
next-within lane f = by (nat_lt lane 15) refl
  where
    by : (b : Bool) → nat_lt lane 15 ≡ b → IsFrom 1 15 (cond b (lane + 1) 1)
    by true below = let l = ltb-true lane 15 below in record { least = omega arith; most = omega (arith, l) }
    by false above = record { least = omega arith; most = omega arith }

-- ---- a piece of it

laid-append : (ps : List (List ℕ)) (p : List ℕ) → length (laid (ps ++ p ∷ [])) ≡ length (laid ps) + length p
laid-append [] p = let e = length-append p [] in omega (arith, e)
laid-append (q ∷ ps) p =
    let rest = laid-append ps p in
    let whole = length-append q (laid (ps ++ p ∷ [])) in
    let before = length-append q (laid ps) in
    omega (arith, rest, whole, before)

writes-append : (at : ℕ) (ps : List (List ℕ)) (p : List ℕ) → writes_from at (ps ++ p ∷ []) ≡ writes_from at ps ++ ops.Write 1 (at + length (laid ps)) p ∷ []
writes-append at [] p = ap (λ (n : ℕ). ops.Write 1 n p ∷ []) (omega arith)
writes-append at (q ∷ ps) p =
    let same : at + length q + length (laid ps) ≡ at + length (laid (q ∷ ps)) = let e = length-append q (laid ps) in omega (arith, e) in
    ap (λ (t : List Op). ops.Write 1 at q ∷ t) (writes-append (at + length q) ps p
    ∙ ap (λ (n : ℕ). writes_from (at + length q) ps ++ ops.Write 1 n p ∷ []) same)

writes-file : (to : List (List ℕ)) (v : FilesView) (file : File) (bytes : List ℕ) → IsUnderWay to v file
    → IsUnderWay to (writes bytes v) (record { path = file.path; pieces = file.pieces ++ bytes ∷ [] })
writes-file to v file bytes u = subst (λ (w : FilesView). IsUnderWay to w (record { path = file.path; pieces = file.pieces ++ bytes ∷ [] })) (sym view) here
  where
    place : ℕ
    place = length (laid file.pieces)

    now : FilesView
    now = record v { all = asks v.lane (ops.Write 1 place bytes) v.all; at = Some (place + length bytes) }

    view : writes bytes v ≡ now
    view = ap (λ (a : Option ℕ). writes_at a bytes v) u.at

    here : IsUnderWay to now (record { path = file.path; pieces = file.pieces ++ bytes ∷ [] })
    here = record {
      at = ap Some (sym (laid-append file.pieces bytes));
      before = u.before;
      own = more-own to v file u (ops.Write 1 place bytes);
      is = more-is to v file u (ops.Write 1 place bytes);
      asks = more-asks to v file u (ops.Write 1 place bytes)
          ∙ ap (λ (t : List Op). ops.OpenFile 1 modes.C (to ++ file.path) ∷ ops.Truncate 1 0 ∷ t)
          (ap (λ (n : ℕ). writes_from 0 file.pieces ++ ops.Write 1 n bytes ∷ []) (omega arith) ∙ sym (writes-append 0 file.pieces bytes));
    }

-- ---- its end

ends-file : (to : List (List ℕ)) (v : FilesView) (file : File) → IsFrom 1 15 v.lane → IsUnderWay to v file → IsAskedFor to (ends v).all.lines file
ends-file to v file within u = subst (λ (w : FilesView). IsAskedFor to w.all.lines file) (sym view) here
  where
    now : FilesView
    now = record v { all = asks v.lane (ops.Close 1) v.all; at = None }

    view : ends v ≡ now
    view = ap (λ (a : Option ℕ). ends_at a v) u.at

    here : IsAskedFor to now.all.lines file
    here = record {
      lane = v.lane;
      within = within;
      asks = record {
        before = u.before;
        own = more-own to v file u (ops.Close 1);
        after = [];
        is = more-is to v file u (ops.Close 1) ∙ ap (λ (t : List Entry). u.before ++ t) (sym (append-nil (more-own to v file u (ops.Close 1))));
        asks = more-asks to v file u (ops.Close 1);
      };
    }

-- ---- views that have more lines

-- the lines go on, and the lane stays or is the next one
record Goes (v w : FilesView) : Type 0 where
  pub more : List ScriptLine
  pub is : w.all.lines ≡ v.all.lines ++ more
  pub lane : IsFrom 1 15 v.lane → IsFrom 1 15 w.lane

goes-writes : (a : Option ℕ) (bytes : List ℕ) (v : FilesView) → Goes v (writes_at a bytes v)
goes-writes None bytes v = record { more = []; is = sym (append-nil v.all.lines); lane = λ f. f }
goes-writes (Some at) bytes v = record { more = record { lane = v.lane; line = v.all.next; op = ops.Write 1 at bytes } ∷ []; is = refl; lane = λ f. f }

goes-ends : (a : Option ℕ) (v : FilesView) → Goes v (ends_at a v)
goes-ends None v = record { more = []; is = sym (append-nil v.all.lines); lane = λ f. f }
goes-ends (Some at) v = record { more = record { lane = v.lane; line = v.all.next; op = ops.Close 1 } ∷ []; is = refl; lane = λ f. f }

goes-begins : (path : List (List ℕ)) (v : FilesView) → Goes v (begins path v)
goes-begins path v = record {
  more = record { lane = next_lane v.lane; line = v.all.next; op = ops.OpenFile 1 modes.C path }
      ∷ record { lane = next_lane v.lane; line = v.all.next + 1; op = ops.Truncate 1 0 } ∷ [];
  is = append_assoc v.all.lines (record { lane = next_lane v.lane; line = v.all.next; op = ops.OpenFile 1 modes.C path } ∷ [])
      (record { lane = next_lane v.lane; line = v.all.next + 1; op = ops.Truncate 1 0 } ∷ []);
  lane = next-within v.lane;
}

-- files that came whole before go on to be asked for
kept : (to : List (List ℕ)) (v w : FilesView) (files : List File) → Goes v w → All (IsAskedFor to v.all.lines) files → All (IsAskedFor to w.all.lines) files
kept to v w files g all = subst (λ (t : List ScriptLine). All (IsAskedFor to t) files) (sym g.is) (all-longer to v.all.lines g.more files all)

-- ---- what a tree gave

-- another object than a file: the one before it doesn't go on
idle : (to : List (List ℕ)) (v : FilesView) (came : Came) → Plans to v came → Plans to v (record { whole = came.whole; now = None })
idle to v came p = record { lane = p.lane; whole = p.whole; now = tt }

plans-item : (to : List (List ℕ)) (v : FilesView) (came : Came) (path : List (List ℕ)) (node : Node) → Plans to v came
    → Plans to (plan_one to (gives.Item (record { path = path; node = node })) v) (with_one (gives.Item (record { path = path; node = node })) came)
plans-item to v came path nodes.File p = record {
  lane = next-within v.lane p.lane;
  whole = kept to v (begins (to ++ path) v) came.whole (goes-begins (to ++ path) v) p.whole;
  now = begins-file to v path;
}
plans-item to v came path nodes.Folder p = idle to v came p
plans-item to v came path (nodes.Link target) p = idle to v came p
plans-item to v came path nodes.Other p = idle to v came p
plans-item to v came path (nodes.Unread error) p = idle to v came p

plans-bytes : (to : List (List ℕ)) (v : FilesView) (whole : List File) (now : Option File) (bytes : List ℕ) → Plans to v (record { whole = whole; now = now })
    → Plans to (writes bytes v) (record { whole = whole; now = with_bytes now bytes })
plans-bytes to v whole None bytes p = record {
  lane = (goes-writes v.at bytes v).lane p.lane;
  whole = kept to v (writes bytes v) whole (goes-writes v.at bytes v) p.whole;
  now = tt;
}
plans-bytes to v whole (Some file) bytes p = record {
  lane = (goes-writes v.at bytes v).lane p.lane;
  whole = kept to v (writes bytes v) whole (goes-writes v.at bytes v) p.whole;
  now = writes-file to v file bytes p.now;
}

plans-end : (to : List (List ℕ)) (v : FilesView) (whole : List File) (now : Option File) → Plans to v (record { whole = whole; now = now })
    → Plans to (ends v) (record { whole = with_end now whole; now = None })
plans-end to v whole None p = record {
  lane = (goes-ends v.at v).lane p.lane;
  whole = kept to v (ends v) whole (goes-ends v.at v) p.whole;
  now = tt;
}
plans-end to v whole (Some file) p = record {
  lane = (goes-ends v.at v).lane p.lane;
  whole = All-push (IsAskedFor to (ends v).all.lines) whole file (kept to v (ends v) whole (goes-ends v.at v) p.whole) (ends-file to v file p.lane p.now);
  now = tt;
}

plans-cut : (to : List (List ℕ)) (v : FilesView) (came : Came) → Plans to v came → Plans to (ends v) (record { whole = came.whole; now = None })
plans-cut to v came p = record {
  lane = (goes-ends v.at v).lane p.lane;
  whole = kept to v (ends v) came.whole (goes-ends v.at v) p.whole;
  now = tt;
}

plans-one : (to : List (List ℕ)) (v : FilesView) (came : Came) (g : Given) → Plans to v came → Plans to (plan_one to g v) (with_one g came)
plans-one to v came (gives.Item item) p = plans-item to v came item.path item.node p
plans-one to v came (gives.Piece (pieces.Bytes bytes)) p = plans-bytes to v came.whole came.now bytes p
plans-one to v came (gives.Piece pieces.End) p = plans-end to v came.whole came.now p
plans-one to v came (gives.Piece (pieces.Cut cut)) p = plans-cut to v came p

plans-all : (to : List (List ℕ)) (v : FilesView) (came : Came) (given : List Given) → Plans to v came → Plans to (plan_of to given v) (came_after came given)
plans-all to v came [] p = p
plans-all to v came (g ∷ given) p = plans-all to (plan_one to g v) (with_one g came) given (plans-one to v came g p)

none-came : (to : List (List ℕ)) → Plans to no_files (record { whole = []; now = None })
none-came to = record {
  lane = record { least = omega arith; most = omega arith };
  whole = λ k d below. absurd (omega (arith, below));
  now = tt;
}

pub files-are-asked : FilesAreAsked
files-are-asked to given = (plans-all to no_files (record { whole = []; now = None }) given (none-came to)).whole
