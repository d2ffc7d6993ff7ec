-- The lines of files in a script.
use Rattle.std.proofs.Common.{◌≡◌, ◌+◌, ◌*◌, ℕ, zero, suc, List, [], ◌∷◌, ◌++◌, length, Bool, true, false, Option, Some, None, refl, sym, ap, subst, ◌∙◌, append_assoc, append-nil, arith}
use Rattle.nfs_types.specs.declared.mode.Mode.TheVariants as modes
use Rattle.world_model.specs.declared.op.Op.{Op}
use Rattle.world_model.specs.declared.op.Op.TheVariants as ops
use Rattle.nfs_script.specs.declared.script.ScriptLine.{ScriptLine}
use Rattle.copy_plan.specs.Files.{FilesView, ends_at, next_lane, reads, reads_at}
use Rattle.copy_plan.specs.Lines.{LinesView, asks}
use Rattle.fetch_scripts.specs.declared.span.Span.{Span}
use Rattle.fetch_scripts.specs.Fetches.{AreAsked, ended, opened, plan_span, read_all}
use Rattle.nfs_fetch.proofs.Weave.{Ans, AreNumbered, lines_of}

-- ---- lines are numbered on

abbrev pub AreOn : ℕ → List ScriptLine → Type 0
AreOn n [] = Unit {0}
AreOn n (l ∷ lines) = (l.line ≡ n) × AreOn (suc n) lines

on-append : (n k : ℕ) (xs ys : List ScriptLine) → k ≡ n + length xs → AreOn n xs → AreOn k ys → AreOn n (xs ++ ys)
on-append n k [] ys e a b = subst (λ (m : ℕ). AreOn m ys) (let same : k ≡ n = omega (arith, e) in same) b
on-append n k (x ∷ xs) ys e a b = (a.0, on-append (suc n) k xs ys (omega (arith, e)) a.1 b)

pub numbered : (n : ℕ) (all : List Ans) → AreOn n (lines_of all) → AreNumbered n all
numbered n [] o = tt
numbered n (a ∷ all) o = (o.0, numbered (suc n) all o.1)

-- lines were added
pub record Grows (w v : FilesView) : Type 0 where
  pub more : List ScriptLine
  pub lines : v.all.lines ≡ w.all.lines ++ more
  pub on : AreOn w.all.next more
  pub next : v.all.next ≡ w.all.next + length more

grows-none : (w : FilesView) → Grows w w
grows-none w = record { more = []; lines = sym (append-nil w.all.lines); on = tt; next = omega arith }

grows-one : (lane : ℕ) (op : Op) (w v : FilesView) → v.all ≡ asks lane op w.all → Grows w v
grows-one lane op w v e = record {
  more = record { lane = lane; line = w.all.next; op = op } ∷ [];
  lines = ap (λ (a : LinesView). a.lines) e;
  on = (refl, tt);
  next = ap (λ (a : LinesView). a.next) e;
}

length-append : (xs ys : List ScriptLine) → length (xs ++ ys) ≡ length xs + length ys
length-append [] ys = omega arith
length-append (x ∷ xs) ys = omega (arith, length-append xs ys)

pub grows-then : (u w v : FilesView) → Grows u w → Grows w v → Grows u v
grows-then u w v p q = record {
  more = p.more ++ q.more;
  lines = q.lines ∙ ap (λ (t : List ScriptLine). t ++ q.more) p.lines ∙ append_assoc u.all.lines p.more q.more;
  on = on-append u.all.next w.all.next p.more q.more p.next p.on q.on;
  next = q.next ∙ omega (arith, p.next, length-append p.more q.more);
}

grows-opened : (b : Bool) (path : List (List ℕ)) (w : FilesView) → Grows w (opened b path w)
grows-opened false path w = grows-none w
grows-opened true path w = grows-one (next_lane w.lane) (ops.OpenFile 1 modes.R path) w (opened true path w) refl

grows-reads : (at : Option ℕ) (w : FilesView) → Grows w (reads_at at 65536 w)
grows-reads None w = grows-none w
grows-reads (Some at) w = grows-one w.lane (ops.Read 1 at 65536) w (reads_at (Some at) 65536 w) refl

grows-all : (count : ℕ) (w : FilesView) → Grows w (read_all count w)
grows-all zero w = grows-none w
grows-all (suc count) w = grows-then w (read_all count w) (reads 65536 (read_all count w)) (grows-all count w) (grows-reads (read_all count w).at (read_all count w))

grows-ends : (at : Option ℕ) (w : FilesView) → Grows w (ends_at at w)
grows-ends None w = grows-none w
grows-ends (Some at) w = grows-one w.lane (ops.Close 1) w (ends_at (Some at) w) refl

grows-ended : (b : Bool) (w : FilesView) → Grows w (ended b w)
grows-ended false w = grows-none w
grows-ended true w = grows-ends w.at w

pub grows-span : (from : List (List ℕ)) (span : Span) (w : FilesView) → Grows w (plan_span from span w)
grows-span from span w =
    let path : List (List ℕ) = from ++ span.path in
    grows-then w (read_all span.reads (opened span.opens path w)) (plan_span from span w)
    (grows-then w (opened span.opens path w) (read_all span.reads (opened span.opens path w)) (grows-opened span.opens path w) (grows-all span.reads (opened span.opens path w)))
    (grows-ended span.ends (read_all span.reads (opened span.opens path w)))

-- the lines of files one after another
abbrev pub spans_more : List (List ℕ) → List Span → FilesView → List ScriptLine
spans_more from [] w = []
spans_more from (span ∷ spans) w = (grows-span from span w).more ++ spans_more from spans (plan_span from span w)

pub record Grew (w v : FilesView) (more : List ScriptLine) : Type 0 where
  pub lines : v.all.lines ≡ w.all.lines ++ more
  pub on : AreOn w.all.next more
  pub next : v.all.next ≡ w.all.next + length more

pub grew-spans : (from : List (List ℕ)) (u : FilesView) (spans : List Span) (v : FilesView) → AreAsked from u spans v → Grew u v (spans_more from spans u)
grew-spans from u [] v a = record { lines = ap (λ (x : FilesView). x.all.lines) a ∙ sym (append-nil u.all.lines); on = tt; next = ap (λ (x : FilesView). x.all.next) a ∙ omega arith }
grew-spans from u (span ∷ spans) v a =
    let g : Grows u (plan_span from span u) = grows-span from span u in
    let more : List ScriptLine = spans_more from spans (plan_span from span u) in
    let r : Grew (plan_span from span u) v more = grew-spans from (plan_span from span u) spans v a.1 in
    record {
      lines = r.lines ∙ ap (λ (t : List ScriptLine). t ++ more) g.lines ∙ append_assoc u.all.lines g.more more;
      on = on-append u.all.next (plan_span from span u).all.next g.more more g.next g.on r.on;
      next = r.next ∙ omega (arith, g.next, length-append g.more more);
    }

-- ---- which lines they are

abbrev pub open_lines : Bool → List (List ℕ) → FilesView → List ScriptLine
open_lines false path w = []
open_lines true path w = record { lane = next_lane w.lane; line = w.all.next; op = ops.OpenFile 1 modes.R path } ∷ []

abbrev pub read_lines : ℕ → ℕ → ℕ → ℕ → List ScriptLine
read_lines lane next at zero = []
read_lines lane next at (suc count) = record { lane = lane; line = next; op = ops.Read 1 at 65536 } ∷ read_lines lane (suc next) (at + 65536) count

abbrev pub end_lines : Bool → ℕ → ℕ → List ScriptLine
end_lines false lane next = []
end_lines true lane next = record { lane = lane; line = next; op = ops.Close 1 } ∷ []

read-snoc : (lane next at count : ℕ) → read_lines lane next at (suc count) ≡ read_lines lane next at count ++ record { lane = lane; line = next + count; op = ops.Read 1 (at + 65536 * count) 65536 } ∷ []
read-snoc lane next at zero =
    ap (λ (n : ℕ). record { lane = lane; line = n; op = ops.Read 1 at 65536 } ∷ []) (let e : next ≡ next + 0 = omega arith in e)
    ∙ ap (λ (n : ℕ). record { lane = lane; line = next + 0; op = ops.Read 1 n 65536 } ∷ []) (let e : at ≡ at + 65536 * 0 = omega arith in e)
read-snoc lane next at (suc count) =
    ap (λ (t : List ScriptLine). record { lane = lane; line = next; op = ops.Read 1 at 65536 } ∷ t)
    (read-snoc lane (suc next) (at + 65536) count
    ∙ ap (λ (n : ℕ). read_lines lane (suc next) (at + 65536) count ++ record { lane = lane; line = n; op = ops.Read 1 (at + 65536 + 65536 * count) 65536 } ∷ [])
    (let e : suc next + count ≡ next + suc count = omega arith in e)
    ∙ ap (λ (n : ℕ). read_lines lane (suc next) (at + 65536) count ++ record { lane = lane; line = next + suc count; op = ops.Read 1 n 65536 } ∷ [])
    (let e : at + 65536 + 65536 * count ≡ at + 65536 * suc count = omega arith in e))

-- a file that is open is read on
pub record ReadOn (w v : FilesView) (at count : ℕ) : Type 0 where
  pub lines : v.all.lines ≡ w.all.lines ++ read_lines w.lane w.all.next at count
  pub next : v.all.next ≡ w.all.next + count
  pub lane : v.lane ≡ w.lane
  pub at_is : v.at ≡ Some (at + 65536 * count)

pub read-on : (count at : ℕ) (w : FilesView) → w.at ≡ Some at → ReadOn w (read_all count w) at count
read-on zero at w open_at = record {
  lines = sym (append-nil w.all.lines);
  next = omega arith;
  lane = refl;
  at_is = open_at ∙ ap (λ (n : ℕ). Some n) (let e : at ≡ at + 65536 * 0 = omega arith in e);
}
read-on (suc count) at w open_at = one (read_all count w) (read-on count at w open_at)
  where
    one : (v : FilesView) → ReadOn w v at count → ReadOn w (reads_at v.at 65536 v) at (suc count)
    one v r = subst (λ (o : Option ℕ). ReadOn w (reads_at o 65536 v) at (suc count)) (sym r.at_is) (record {
      lines = ap (λ (t : List ScriptLine). t ++ record { lane = v.lane; line = v.all.next; op = ops.Read 1 (at + 65536 * count) 65536 } ∷ []) r.lines
          ∙ ap (λ (k : ℕ). (w.all.lines ++ read_lines w.lane w.all.next at count) ++ record { lane = k; line = v.all.next; op = ops.Read 1 (at + 65536 * count) 65536 } ∷ []) r.lane
          ∙ ap (λ (k : ℕ). (w.all.lines ++ read_lines w.lane w.all.next at count) ++ record { lane = w.lane; line = k; op = ops.Read 1 (at + 65536 * count) 65536 } ∷ []) r.next
          ∙ append_assoc w.all.lines (read_lines w.lane w.all.next at count) _
          ∙ ap (λ (t : List ScriptLine). w.all.lines ++ t) (sym (read-snoc w.lane w.all.next at count));
      next = ap (λ (k : ℕ). k + 1) r.next ∙ (let e : w.all.next + count + 1 ≡ w.all.next + suc count = omega arith in e);
      lane = r.lane;
      at_is = ap (λ (n : ℕ). Some n) (let e : at + 65536 * count + 65536 ≡ at + 65536 * suc count = omega arith in e);
    })

pub end-line : (b : Bool) (at : ℕ) (w : FilesView) → w.at ≡ Some at → (ended b w).all.lines ≡ w.all.lines ++ end_lines b w.lane w.all.next
end-line false at w open_at = sym (append-nil w.all.lines)
end-line true at w open_at = ap (λ (o : Option ℕ). (ends_at o w).all.lines) open_at

pub open-line : (b : Bool) (path : List (List ℕ)) (w : FilesView) → (opened b path w).all.lines ≡ w.all.lines ++ open_lines b path w
open-line false path w = sym (append-nil w.all.lines)
open-line true path w = refl

-- the lines of a file that is open behind its first line
pub span-lines : (from : List (List ℕ)) (span : Span) (w : FilesView) (at : ℕ) → (opened span.opens (from ++ span.path) w).at ≡ Some at
    → (plan_span from span w).all.lines ≡ w.all.lines ++ (open_lines span.opens (from ++ span.path) w ++ (read_lines (opened span.opens (from ++ span.path) w).lane
    (opened span.opens (from ++ span.path) w).all.next at span.reads ++ end_lines span.ends (opened span.opens (from ++ span.path) w).lane
    ((opened span.opens (from ++ span.path) w).all.next + span.reads)))
span-lines from span w at open_at = by (opened span.opens (from ++ span.path) w) (open-line span.opens (from ++ span.path) w) open_at
  where
    by : (o : FilesView) → o.all.lines ≡ w.all.lines ++ open_lines span.opens (from ++ span.path) w → o.at ≡ Some at
        → (ended span.ends (read_all span.reads o)).all.lines ≡ w.all.lines ++ (open_lines span.opens (from ++ span.path) w ++ (read_lines o.lane o.all.next at span.reads
        ++ end_lines span.ends o.lane (o.all.next + span.reads)))
    by o lines_are is =
        let r : ReadOn o (read_all span.reads o) at span.reads = read-on span.reads at o is in
        let x : List ScriptLine = open_lines span.opens (from ++ span.path) w in
        let y : List ScriptLine = read_lines o.lane o.all.next at span.reads in
        let z : List ScriptLine = end_lines span.ends o.lane (o.all.next + span.reads) in
        end-line span.ends (at + 65536 * span.reads) (read_all span.reads o) r.at_is
        ∙ ap (λ (k : ℕ). (read_all span.reads o).all.lines ++ end_lines span.ends k (read_all span.reads o).all.next) r.lane
        ∙ ap (λ (k : ℕ). (read_all span.reads o).all.lines ++ end_lines span.ends o.lane k) r.next
        ∙ ap (λ (t : List ScriptLine). t ++ z) (r.lines ∙ ap (λ (t : List ScriptLine). t ++ y) lines_are)
        ∙ append_assoc (w.all.lines ++ x) y z
        ∙ append_assoc w.all.lines x (y ++ z)
