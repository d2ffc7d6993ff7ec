-- What a target took of files, by the answers to their lines.
use Rattle.std.proofs.Common.{◌≡◌, ◌≢◌, ◌≤◌, ◌+◌, ◌*◌, ◌==◌, ◌&&◌, ◌⊎◌, inl, inr, ℕ, zero, suc, List, [], ◌∷◌, ◌++◌, length, Bool, true, false, not, nat_lt, Option, Some, None, refl, sym, ap, subst, ◌∙◌, append_assoc, append-nil, arith}
use Rattle.std.specs.Prelude.{if◌then◌else◌}
use Rattle.std.proofs.lemmas.Bool.{eqb-true, eqb-false, eq-eqb, ltb-true, ne_eqb}
use Rattle.nfs_types.specs.declared.mode.Mode.TheVariants as modes
use Rattle.world_model.specs.declared.answer.Answer.{Answer}
use Rattle.world_model.specs.declared.answer.Answer.TheVariants as answers
use Rattle.world_model.specs.declared.op.Op.{Op}
use Rattle.world_model.specs.declared.op.Op.TheVariants as ops
use Rattle.nfs_script.specs.declared.script.ScriptLine.{ScriptLine}
use Rattle.law_copies.specs.Copied.{Done}
use Rattle.copy_plan.specs.Files.{FilesView, next_lane, opens}
use Rattle.copy_targets.specs.declared.target.Took.{Took}
use Rattle.copy_targets.specs.declared.target.Took.TheVariants as took
use Rattle.copy_targets.specs.Files.{File, Taken, taken_after, with_end, with_one}
use Rattle.fetch_scripts.specs.declared.span.Span.{Span}
use Rattle.fetch_scripts.specs.Answering.{IsOk, IsRead}
use Rattle.fetch_scripts.specs.Fetches.{AreAsked, AreRead, AreUnended, BeginsTook, IsExpected, IsUnended, Read, SpanTook, SpansTook, begun, ended, first_read, goes_on, going, left, not_begun, opened, plan_span, read_all, took_pieces, whole}
use Rattle.nfs_fetch.proofs.Answering.{DidRead, DidWell, ShowsBytes, Telling, did-read, did-well}
use Rattle.nfs_fetch.proofs.Pieces.{AreFull, AreShown, ReadAt, full-snoc, shown-snoc}
use Rattle.nfs_fetch.proofs.Marks.{same-rest}
use Rattle.nfs_fetch.proofs.Plans.{Grows, ReadOn, end_lines, grows-span, open_lines, read-on, read_lines, span-lines, spans_more}
use Rattle.nfs_fetch.proofs.Weave.{Ans, Has, Split, done-snoc, done_ans, lines_of, split}

-- ---- what is known of all answered lines

-- a file of these pieces was read at the path
pub record WasRead (all : List Ans) (path : List (List ℕ)) (pieces : List (List ℕ)) : Type 0 where
  pub lane : ℕ
  pub of_files : lane ≢ 16
  pub before : List Ans
  pub opening : Done
  pub reads : List Done
  pub after : List Ans
  pub is : all ≡ before ++ (done_ans lane (opening ∷ reads) ++ after)
  pub opens : opening.op ≡ ops.OpenFile 1 modes.R path
  pub are : AreShown 0 pieces reads

-- a file is read at the path, and came to an offset
pub record IsReadOn (all : List Ans) (path : List (List ℕ)) (pieces : List (List ℕ)) (lane at : ℕ) : Type 0 where
  pub of_files : lane ≢ 16
  pub before : List Ans
  pub opening : Done
  pub reads : List Done
  pub is : all ≡ before ++ done_ans lane (opening ∷ reads)
  pub opens : opening.op ≡ ops.OpenFile 1 modes.R path
  pub are : AreFull 0 pieces reads at

-- more lines follow
was-more : (all more : List Ans) (path : List (List ℕ)) (pieces : List (List ℕ)) → WasRead all path pieces → WasRead (all ++ more) path pieces
was-more all more path pieces w = record {
  lane = w.lane;
  of_files = w.of_files;
  before = w.before;
  opening = w.opening;
  reads = w.reads;
  after = w.after ++ more;
  is = ap (λ (t : List Ans). t ++ more) w.is
      ∙ append_assoc w.before (done_ans w.lane (w.opening ∷ w.reads) ++ w.after) more
      ∙ ap (λ (t : List Ans). w.before ++ t) (append_assoc (done_ans w.lane (w.opening ∷ w.reads)) w.after more);
  opens = w.opens;
  are = w.are;
}

abbrev pub AllRead : List (List ℕ) → List Ans → List File → Type 0
AllRead from all [] = Unit {0}
AllRead from all (f ∷ files) = WasRead all (from ++ f.path) f.pieces × AllRead from all files

all-more : (from : List (List ℕ)) (all more : List Ans) (files : List File) → AllRead from all files → AllRead from (all ++ more) files
all-more from all more [] a = tt
all-more from all more (f ∷ files) a = (was-more all more (from ++ f.path) f.pieces a.0, all-more from all more files a.1)

all-snoc : (from : List (List ℕ)) (all : List Ans) (files : List File) (f : File) → AllRead from all files → WasRead all (from ++ f.path) f.pieces → AllRead from all (files ++ f ∷ [])
all-snoc from all [] f a w = (w, tt)
all-snoc from all (x ∷ files) f a w = (a.0, all-snoc from all files f a.1 w)

-- the file whose bytes come is read on
pub record Goes (from : List (List ℕ)) (all : List Ans) (v : FilesView) (now : Option File) : Type 0 where
  pub file : File
  pub is : now ≡ Some file
  pub at : ℕ
  pub place : v.at ≡ Some at
  pub on : IsReadOn all (from ++ file.path) file.pieces v.lane at

-- each file that is whole was read, and if the target takes the one whose bytes come, that is read on
pub record Known (from : List (List ℕ)) (all : List Ans) (v : FilesView) (taken : Bool) (t : Taken) : Type 0 where
  pub files : AllRead from all t.whole
  pub now : taken ≡ true → Goes from all v t.now

-- the lanes of files are others than that of names
next-other : (lane : ℕ) → next_lane lane ≢ 16
next-other lane e = by (nat_lt lane 15) refl e
  where
    by : (b : Bool) → nat_lt lane 15 ≡ b → (if b then lane + 1 else 1) ≡ 16 → ⊥
    by true low is = absurd (omega (arith, ltb-true lane 15 low, is))
    by false high is = absurd (omega (arith, is))

-- ---- what is taken

pub after-append : (t : Taken) (xs ys : List Took) → taken_after t (xs ++ ys) ≡ taken_after (taken_after t xs) ys
after-append t [] ys = refl
after-append t (x ∷ xs) ys = after-append (with_one x t) xs ys

unended-whole : (t : Taken) (more : List Took) → AreUnended more → (taken_after t more).whole ≡ t.whole
unended-whole t [] u = refl
unended-whole t (took.Folder path ∷ more) u = unended-whole (with_one (took.Folder path) t) more u.1
unended-whole t (took.Link path text ∷ more) u = unended-whole (with_one (took.Link path text) t) more u.1
unended-whole t (took.File path ∷ more) u = unended-whole (with_one (took.File path) t) more u.1
unended-whole t (took.Piece bytes ∷ more) u = unended-whole (with_one (took.Piece bytes) t) more u.1
unended-whole t (took.End ∷ more) u = absurd u.0

pieces-after : (t : Taken) (file : File) (pieces : List (List ℕ)) → t.now ≡ Some file
    → taken_after t (took_pieces pieces) ≡ record { whole = t.whole; now = Some (record { path = file.path; pieces = file.pieces ++ pieces }) }
pieces-after t file [] is =
    ap (λ (o : Option File). record { whole = t.whole; now = o }) is
    ∙ ap (λ (l : List (List ℕ)). record { whole = t.whole; now = Some (record { path = file.path; pieces = l }) }) (sym (append-nil file.pieces))
pieces-after t file (p ∷ pieces) is =
    ap (λ (o : Option File). taken_after (with_one (took.Piece p) (record { whole = t.whole; now = o })) (took_pieces pieces)) is
    ∙ pieces-after (record { whole = t.whole; now = Some (record { path = file.path; pieces = file.pieces ++ p ∷ [] }) }) (record { path = file.path; pieces = file.pieces ++ p ∷ [] }) pieces refl
    ∙ ap (λ (l : List (List ℕ)). record { whole = t.whole; now = Some (record { path = file.path; pieces = l }) }) (append_assoc file.pieces (p ∷ []) pieces)

-- ---- the lines of a file

-- each of them is one of these
abbrev pub HasAll : List Ans → List Ans → Type 0
HasAll part [] = Unit {0}
HasAll part (a ∷ more) = Has part a × HasAll part more

one-line : (all : List Ans) (l : ScriptLine) → lines_of all ≡ l ∷ [] → (a : Ans) × (all ≡ a ∷ []) × (record { lane = a.lane; line = a.line; op = a.op } ≡ l)
one-line [] l e = absurd cc
one-line (a ∷ []) l e = (a, refl, let is : record { lane = a.lane; line = a.line; op = a.op } ≡ l = cc in is)
one-line (a ∷ b ∷ all) l e = absurd cc

done-of : (a : Ans) (d : Done) (lane : ℕ) → a.lane ≡ lane → a.line ≡ d.line → a.op ≡ d.op → a.answer ≡ answers.Done d.value
    → a ≡ record { lane = lane; line = d.line; op = d.op; answer = answers.Done d.value }
done-of a d lane x y z w =
    ap (λ (k : ℕ). record { lane = k; line = a.line; op = a.op; answer = a.answer }) x
    ∙ ap (λ (k : ℕ). record { lane = lane; line = k; op = a.op; answer = a.answer }) y
    ∙ ap (λ (o : Op). record { lane = lane; line = d.line; op = o; answer = a.answer }) z
    ∙ ap (λ (n : Answer). record { lane = lane; line = d.line; op = d.op; answer = n }) w

-- ---- reads one after another

on-more : (all : List Ans) (path : List (List ℕ)) (pieces : List (List ℕ)) (lane at : ℕ) (bytes : List ℕ) (d : Done) → IsReadOn all path pieces lane at → ReadAt at bytes d → length bytes ≡ 65536
    → IsReadOn (all ++ done_ans lane (d ∷ [])) path (pieces ++ bytes ∷ []) lane (at + 65536)
on-more all path pieces lane at bytes d o r full = record {
  of_files = o.of_files;
  before = o.before;
  opening = o.opening;
  reads = o.reads ++ d ∷ [];
  is = ap (λ (t : List Ans). t ++ done_ans lane (d ∷ [])) o.is
      ∙ append_assoc o.before (done_ans lane (o.opening ∷ o.reads)) (done_ans lane (d ∷ []))
      ∙ ap (λ (t : List Ans). o.before ++ t) (sym (done-snoc lane (o.opening ∷ o.reads) d));
  opens = o.opens;
  are = full-snoc 0 pieces o.reads at bytes d o.are r full;
}

on-last : (all : List Ans) (path : List (List ℕ)) (pieces : List (List ℕ)) (lane at : ℕ) (bytes : List ℕ) (d : Done) → IsReadOn all path pieces lane at → ReadAt at bytes d → length bytes ≢ 65536
    → WasRead (all ++ done_ans lane (d ∷ [])) path (pieces ++ bytes ∷ [])
on-last all path pieces lane at bytes d o r short = record {
  lane = lane;
  of_files = o.of_files;
  before = o.before;
  opening = o.opening;
  reads = o.reads ++ d ∷ [];
  after = [];
  is = ap (λ (t : List Ans). t ++ done_ans lane (d ∷ [])) o.is
      ∙ append_assoc o.before (done_ans lane (o.opening ∷ o.reads)) (done_ans lane (d ∷ []))
      ∙ ap (λ (t : List Ans). o.before ++ t) (sym (done-snoc lane (o.opening ∷ o.reads) d) ∙ sym (append-nil (done_ans lane (o.opening ∷ (o.reads ++ d ∷ [])))));
  opens = o.opens;
  are = shown-snoc 0 pieces o.reads at bytes d o.are r short;
}

-- one more line, and then the others
regroup : (all : List Ans) (x : Ans) (more : List Ans) → (all ++ x ∷ []) ++ more ≡ all ++ x ∷ more
regroup all x more = append_assoc all (x ∷ []) more

module _ (text : List ℕ) (part : List Ans) (tell : Telling text part) (span : Span) (path : List (List ℕ)) (lane : ℕ) where
  -- a line that read these bytes
  pub record ReadBy (at : ℕ) (bytes : List ℕ) (a : Ans) : Type 0 where
    pub did : Done
    pub read : ReadAt at bytes did
    pub is : a ∷ [] ≡ done_ans lane (did ∷ [])

  read-by : (at : ℕ) (bytes : List ℕ) (a : Ans) (i n : ℕ) → n ≡ first_read span + i → Has part a
      → ◌≡◌ {A = ScriptLine} (record { lane = a.lane; line = a.line; op = a.op }) (record { lane = lane; line = n; op = ops.Read 1 at 65536 }) → Read text span i bytes → ReadBy at bytes a
  read-by at bytes a i n is has line_is r =
      let number : a.line ≡ n = ap (λ (l : ScriptLine). l.line) line_is in
      let op_is : a.op ≡ ops.Read 1 at 65536 = ap (λ (l : ScriptLine). l.op) line_is in
      let lane_is : a.lane ≡ lane = ap (λ (l : ScriptLine). l.lane) line_is in
      let did : DidRead a bytes = did-read text part a bytes tell has (subst (λ (k : ℕ). IsRead text k bytes) (sym (number ∙ is)) r.is) in
      record {
        did = record { line = a.line; op = a.op; value = did.value };
        read = record { op = op_is; shows = did.shows };
        is = ap (λ (x : Ans). x ∷ []) (done-of a (record { line = a.line; op = a.op; value = did.value }) lane lane_is refl refl did.is);
      }

  -- full pieces
  full-reads : (pieces : List (List ℕ)) (all : List Ans) (before : List (List ℕ)) (at i n : ℕ) (more : List Ans) → span.ends ≡ false → n ≡ first_read span + i
      → lines_of more ≡ read_lines lane n at (length pieces) → HasAll part more → AreRead text span i pieces → IsReadOn all path before lane at
      → IsReadOn (all ++ more) path (before ++ pieces) lane (at + 65536 * length pieces)
  full-reads [] all before at i n [] on is lines_are has r o =
      subst (λ (t : List Ans). IsReadOn t path (before ++ []) lane (at + 65536 * 0)) (sym (append-nil all))
      (subst (λ (t : List (List ℕ)). IsReadOn all path t lane (at + 65536 * 0)) (sym (append-nil before))
      (subst (λ (k : ℕ). IsReadOn all path before lane k) (let e : at ≡ at + 65536 * 0 = omega arith in e) o))
  full-reads [] all before at i n (a ∷ more) on is lines_are has r o = absurd cc
  full-reads (bytes ∷ pieces) all before at i n [] on is lines_are has r o = absurd cc
  full-reads (bytes ∷ pieces) all before at i n (a ∷ more) on is lines_are has r o =
      let head : ◌≡◌ {A = ScriptLine} (record { lane = a.lane; line = a.line; op = a.op }) (record { lane = lane; line = n; op = ops.Read 1 at 65536 }) = cc in
      let tail : lines_of more ≡ read_lines lane (suc n) (at + 65536) (length pieces) = cc in
      let b : ReadBy at bytes a = read-by at bytes a i n is has.0 head r.0 in
      let full : length bytes ≡ 65536 =
      eqb-true (length bytes) 65536 (r.0.expected ∙ ap (λ (e : Bool). not (e && (span.reads == i + 1))) on) in
      let next : IsReadOn (all ++ a ∷ []) path (before ++ bytes ∷ []) lane (at + 65536) =
      subst (λ (t : List Ans). IsReadOn (all ++ t) path (before ++ bytes ∷ []) lane (at + 65536)) (sym b.is) (on-more all path before lane at bytes b.did o b.read full) in
      let last : IsReadOn ((all ++ a ∷ []) ++ more) path ((before ++ bytes ∷ []) ++ pieces) lane (at + 65536 + 65536 * length pieces) =
      full-reads pieces (all ++ a ∷ []) (before ++ bytes ∷ []) (at + 65536) (i + 1) (suc n) more on (omega (arith, is)) tail has.1 r.1 next in
      subst (λ (t : List Ans). IsReadOn t path (before ++ bytes ∷ pieces) lane (at + 65536 * suc (length pieces))) (regroup all a more)
      (subst (λ (t : List (List ℕ)). IsReadOn ((all ++ a ∷ []) ++ more) path t lane (at + 65536 * suc (length pieces))) (append_assoc before (bytes ∷ []) pieces)
      (subst (λ (k : ℕ). IsReadOn ((all ++ a ∷ []) ++ more) path ((before ++ bytes ∷ []) ++ pieces) lane k)
      (let e : at + 65536 + 65536 * length pieces ≡ at + 65536 * suc (length pieces) = omega arith in e) last))

  -- full pieces, and one that isn't
  last-reads : (bytes : List ℕ) (pieces : List (List ℕ)) (all : List Ans) (before : List (List ℕ)) (at i n : ℕ) (more : List Ans) → span.ends ≡ true → i + suc (length pieces) ≡ span.reads
      → n ≡ first_read span + i → lines_of more ≡ read_lines lane n at (suc (length pieces)) → HasAll part more → AreRead text span i (bytes ∷ pieces) → IsReadOn all path before lane at
      → WasRead (all ++ more) path (before ++ bytes ∷ pieces)
  last-reads bytes pieces all before at i n [] over count is lines_are has r o = absurd cc
  last-reads bytes [] all before at i n (a ∷ b ∷ more) over count is lines_are has r o = absurd cc
  last-reads bytes [] all before at i n (a ∷ []) over count is lines_are has r o =
      let head : ◌≡◌ {A = ScriptLine} (record { lane = a.lane; line = a.line; op = a.op }) (record { lane = lane; line = n; op = ops.Read 1 at 65536 }) = cc in
      let b : ReadBy at bytes a = read-by at bytes a i n is has.0 head r.0 in
      let short : (length bytes == 65536) ≡ false =
      r.0.expected ∙ ap (λ (e : Bool). not (e && (span.reads == i + 1))) over ∙ ap not (eq-eqb span.reads (i + 1) (omega (arith, count))) in
      subst (λ (t : List Ans). WasRead (all ++ t) path (before ++ bytes ∷ [])) (sym b.is) (on-last all path before lane at bytes b.did o b.read (eqb-false (length bytes) 65536 short))
  last-reads bytes (next ∷ pieces) all before at i n (a ∷ more) over count is lines_are has r o =
      let head : ◌≡◌ {A = ScriptLine} (record { lane = a.lane; line = a.line; op = a.op }) (record { lane = lane; line = n; op = ops.Read 1 at 65536 }) = cc in
      let tail : lines_of more ≡ read_lines lane (suc n) (at + 65536) (suc (length pieces)) = cc in
      let b : ReadBy at bytes a = read-by at bytes a i n is has.0 head r.0 in
      let full : length bytes ≡ 65536 =
      eqb-true (length bytes) 65536
      (r.0.expected ∙ ap (λ (e : Bool). not (span.ends && e)) (ne_eqb span.reads (i + 1) (λ e. absurd (omega (arith, e, count)))) ∙ ap (λ (e : Bool). not (e && false)) over) in
      let on : IsReadOn (all ++ a ∷ []) path (before ++ bytes ∷ []) lane (at + 65536) =
      subst (λ (t : List Ans). IsReadOn (all ++ t) path (before ++ bytes ∷ []) lane (at + 65536)) (sym b.is) (on-more all path before lane at bytes b.did o b.read full) in
      let last : WasRead ((all ++ a ∷ []) ++ more) path ((before ++ bytes ∷ []) ++ next ∷ pieces) =
      last-reads next pieces (all ++ a ∷ []) (before ++ bytes ∷ []) (at + 65536) (i + 1) (suc n) more over (omega (arith, count)) (omega (arith, is)) tail has.1 r.1 on in
      subst (λ (t : List Ans). WasRead t path (before ++ bytes ∷ next ∷ pieces)) (regroup all a more)
      (subst (λ (t : List (List ℕ)). WasRead ((all ++ a ∷ []) ++ more) path t) (append_assoc before (bytes ∷ []) (next ∷ pieces)) last)

-- ---- a file

has-split : (part xs ys : List Ans) → HasAll part (xs ++ ys) → HasAll part xs × HasAll part ys
has-split part [] ys h = (tt, h)
has-split part (x ∷ xs) ys h = let p = has-split part xs ys h.1 in ((h.0, p.0), p.1)

no-lines : (all : List Ans) → lines_of all ≡ [] → all ≡ []
no-lines [] e = refl
no-lines (a ∷ all) e = absurd cc

module _ (from : List (List ℕ)) (text : List ℕ) (part : List Ans) (tell : Telling text part) where
  module _ (span : Span) (all : List Ans) (w : FilesView) (was : Bool) (t : Taken) (known : Known from all w was t) (first : span.first ≡ w.all.next) where
    -- its first line was answered, or it goes on
    pub record Opened (b : Bool) (begins : List Took) (more : List Ans) : Type 0 where
      pub file : File
      pub taken_is : taken_after t begins ≡ record { whole = t.whole; now = Some file }
      pub at : ℕ
      pub place : (opened b (from ++ span.path) w).at ≡ Some at
      pub on : IsReadOn (all ++ more) (from ++ file.path) file.pieces (opened b (from ++ span.path) w).lane at
      pub next : (opened b (from ++ span.path) w).all.next ≡ first_read span

    open-step : (b : Bool) (begins : List Took) (more : List Ans) → span.opens ≡ b → BeginsTook text span was true begins → lines_of more ≡ open_lines b (from ++ span.path) w → HasAll part more
        → Opened b begins more
    open-step true begins more opens_is (goes_on no_way same is) lines_are has = absurd (let both : true ≡ false = sym opens_is ∙ no_way in cc)
    open-step false begins more opens_is (begun no_way yes_way is ok) lines_are has = absurd (let both : false ≡ true = sym opens_is ∙ no_way in cc)
    open-step b begins more opens_is (not_begun no_way is) lines_are has = absurd cc
    open-step true begins more opens_is (begun opens_way yes_way is ok) lines_are has =
        let x = one-line more (record { lane = next_lane w.lane; line = w.all.next; op = ops.OpenFile 1 modes.R (from ++ span.path) }) lines_are in
        let a : Ans = x.0 in
        let number : a.line ≡ w.all.next = ap (λ (l : ScriptLine). l.line) x.2 in
        let op_is : a.op ≡ ops.OpenFile 1 modes.R (from ++ span.path) = ap (λ (l : ScriptLine). l.op) x.2 in
        let lane_is : a.lane ≡ next_lane w.lane = ap (λ (l : ScriptLine). l.lane) x.2 in
        let has_a : Has part a = (subst (HasAll part) x.1 has).0 in
        let did : DidWell a = did-well text part a tell has_a (subst (IsOk text) (sym (number ∙ sym first)) ok) in
        let d : Done = record { line = a.line; op = a.op; value = did.value } in
        record {
          file = record { path = span.path; pieces = [] };
          taken_is = ap (taken_after t) is;
          at = 0;
          place = refl;
          on = record {
            of_files = next-other w.lane;
            before = all;
            opening = d;
            reads = [];
            is = ap (λ (m : List Ans). all ++ m) (x.1 ∙ ap (λ (z : Ans). z ∷ []) (done-of a d (next_lane w.lane) lane_is refl refl did.is));
            opens = op_is;
            are = refl;
          };
          next = ap (λ (k : ℕ). k + 1) (sym first) ∙ ap (λ (e : Bool). span.first + (if e then 1 else 0)) (sym opens_is);
        }
    open-step false begins more opens_is (goes_on opens_way same is) lines_are has =
        let g : Goes from all w t.now = known.now (sym same) in
        record {
          file = g.file;
          taken_is = ap (taken_after t) is ∙ ap (λ (o : Option File). record { whole = t.whole; now = o }) g.is;
          at = g.at;
          place = g.place;
          on = subst (λ (m : List Ans). IsReadOn m (from ++ g.file.path) g.file.pieces w.lane g.at) (sym (append-nil all) ∙ ap (λ (m : List Ans). all ++ m) (sym (no-lines more lines_are))) g.on;
          next = sym first ∙ (let e : span.first ≡ span.first + 0 = omega arith in e) ∙ ap (λ (e : Bool). span.first + (if e then 1 else 0)) (sym opens_is);
        }

    -- its lines are those of three lists
    pub record Parted (at : ℕ) (more : List Ans) : Type 0 where
      pub front : List Ans
      pub middle : List Ans
      pub back : List Ans
      pub is : more ≡ front ++ (middle ++ back)
      pub opens : lines_of front ≡ open_lines span.opens (from ++ span.path) w
      pub reads : lines_of middle ≡ read_lines (opened span.opens (from ++ span.path) w).lane (opened span.opens (from ++ span.path) w).all.next at span.reads
      pub ends : lines_of back ≡ end_lines span.ends (opened span.opens (from ++ span.path) w).lane ((opened span.opens (from ++ span.path) w).all.next + span.reads)

    parted : (at : ℕ) (more : List Ans) → (opened span.opens (from ++ span.path) w).at ≡ Some at → lines_of more ≡ (grows-span from span w).more → Parted at more
    parted at more place lines_are =
        let o : FilesView = opened span.opens (from ++ span.path) w in
        let x : List ScriptLine = open_lines span.opens (from ++ span.path) w in
        let y : List ScriptLine = read_lines o.lane o.all.next at span.reads in
        let z : List ScriptLine = end_lines span.ends o.lane (o.all.next + span.reads) in
        let whole : lines_of more ≡ x ++ (y ++ z) = lines_are ∙ same-rest w.all.lines (grows-span from span w).more (x ++ (y ++ z)) (sym (grows-span from span w).lines ∙ span-lines from span w at place) in
        let s : Split more x (y ++ z) = split more x (y ++ z) whole in
        let r : Split s.second y z = split s.second y z s.back in
        record {
          front = s.first;
          middle = r.first;
          back = r.second;
          is = s.is ∙ ap (λ (m : List Ans). s.first ++ m) r.is;
          opens = s.front;
          reads = r.front;
          ends = r.back;
        }

    -- where it is read on from
    placed : (b : Bool) (begins : List Took) → span.opens ≡ b → BeginsTook text span was true begins → (k : ℕ) × ((opened b (from ++ span.path) w).at ≡ Some k)
    placed true begins e (begun opens_way yes_now is ok) = (0, refl)
    placed true begins e (goes_on no_way same is) = absurd (let both : true ≡ false = sym e ∙ no_way in cc)
    placed false begins e (begun no_way yes_now is ok) = absurd (let both : false ≡ true = sym e ∙ no_way in cc)
    placed false begins e (goes_on opens_way same is) = let g : Goes from all w t.now = known.now (sym same) in (g.at, g.place)
    placed b begins e (not_begun no_way is) = absurd cc

    -- it is read on
    pub record Begun (begins : List Took) (more : List Ans) : Type 0 where
      pub at : ℕ
      pub parts : Parted at more
      pub opened_so : Opened span.opens begins parts.front
      pub reads : lines_of parts.middle ≡ read_lines (opened span.opens (from ++ span.path) w).lane (opened span.opens (from ++ span.path) w).all.next opened_so.at span.reads
      pub has : HasAll part parts.middle

    begun-so : (begins : List Took) (more : List Ans) → BeginsTook text span was true begins → lines_of more ≡ (grows-span from span w).more → HasAll part more → Begun begins more
    begun-so begins more b lines_are has =
        let k = placed span.opens begins refl b in
        let p : Parted k.0 more = parted k.0 more k.1 lines_are in
        let split_has = has-split part p.front (p.middle ++ p.back) (subst (HasAll part) p.is has) in
        let s : Opened span.opens begins p.front = open-step span.opens begins p.front refl b p.opens split_has.0 in
        record {
          at = k.0;
          parts = p;
          opened_so = s;
          reads = p.reads
              ∙ ap (λ (j : ℕ). read_lines (opened span.opens (from ++ span.path) w).lane (opened span.opens (from ++ span.path) w).all.next j span.reads) (some-same k.0 s.at (sym k.1 ∙ s.place));
          has = (has-split part p.middle p.back split_has.1).0;
        }
      where
        some-same : (x y : ℕ) → ◌≡◌ {A = Option ℕ} (Some x) (Some y) → x ≡ y
        some-same x y e = cc

    left-step : (took_more : List Took) (more : List Ans) (taken : Bool) → taken ≡ false → AreUnended took_more → Known from (all ++ more) (plan_span from span w) taken (taken_after t took_more)
    left-step took_more more taken not un = record {
      files = subst (AllRead from (all ++ more)) (sym (unended-whole t took_more un)) (all-more from all more t.whole known.files);
      now = λ yes_way. absurd (let both : true ≡ false = sym yes_way ∙ not in cc);
    }

    going-step : (begins : List Took) (pieces : List (List ℕ)) (took_more : List Took) (more : List Ans) (taken : Bool) → span.ends ≡ false → length pieces ≡ span.reads → AreRead text span 0 pieces
        → took_more ≡ begins ++ took_pieces pieces → Begun begins more → Known from (all ++ more) (plan_span from span w) taken (taken_after t took_more)
    going-step begins pieces took_more more taken on count reads_are is g =
        let o : FilesView = opened span.opens (from ++ span.path) w in
        let s = g.opened_so in
        let p = g.parts in
        let ro : ReadOn o (read_all span.reads o) s.at span.reads = read-on span.reads s.at o s.place in
        let after : taken_after t took_more ≡ record { whole = t.whole; now = Some (record { path = s.file.path; pieces = s.file.pieces ++ pieces }) } =
        ap (taken_after t) is ∙ after-append t begins (took_pieces pieces) ∙ ap (λ (x : Taken). taken_after x (took_pieces pieces)) s.taken_is
        ∙ pieces-after (record { whole = t.whole; now = Some s.file }) s.file pieces refl in
        let f : IsReadOn ((all ++ p.front) ++ p.middle) (from ++ s.file.path) (s.file.pieces ++ pieces) o.lane (s.at + 65536 * length pieces) =
        full-reads text part tell span (from ++ s.file.path) o.lane pieces (all ++ p.front) s.file.pieces s.at 0 o.all.next p.middle on (s.next ∙ (let e : first_read span ≡ first_read span + 0 = omega arith in e))
        (g.reads ∙ ap (read_lines o.lane o.all.next s.at) (sym count)) g.has reads_are s.on in
        let last : p.back ≡ [] = no-lines p.back (p.ends ∙ ap (λ (e : Bool). end_lines e o.lane (o.all.next + span.reads)) on) in
        let same : (all ++ p.front) ++ p.middle ≡ all ++ more =
        append_assoc all p.front p.middle ∙ ap (λ (m : List Ans). all ++ (p.front ++ m)) (sym (append-nil p.middle) ∙ ap (λ (m : List Ans). p.middle ++ m) (sym last)) ∙ ap (λ (m : List Ans). all ++ m) (sym p.is) in
        record {
          files = subst (AllRead from (all ++ more)) (ap (λ (x : Taken). x.whole) (sym after)) (all-more from all more t.whole known.files);
          now = λ yes_way. record {
            file = record { path = s.file.path; pieces = s.file.pieces ++ pieces };
            is = ap (λ (x : Taken). x.now) after;
            at = s.at + 65536 * length pieces;
            place = ap (λ (e : Bool). (ended e (read_all span.reads o)).at) on ∙ ro.at_is ∙ ap (λ (c : ℕ). Some (s.at + 65536 * c)) (sym count);
            on = subst (λ (l : ℕ). IsReadOn (all ++ more) (from ++ s.file.path) (s.file.pieces ++ pieces) l (s.at + 65536 * length pieces))
                (sym (ap (λ (e : Bool). (ended e (read_all span.reads o)).lane) on ∙ ro.lane))
                (subst (λ (m : List Ans). IsReadOn m (from ++ s.file.path) (s.file.pieces ++ pieces) o.lane (s.at + 65536 * length pieces)) same f);
          };
        }

    whole-step : (begins : List Took) (bytes : List ℕ) (pieces : List (List ℕ)) (took_more : List Took) (more : List Ans) (taken : Bool) → taken ≡ false → span.ends ≡ true
        → suc (length pieces) ≡ span.reads → AreRead text span 0 (bytes ∷ pieces) → took_more ≡ begins ++ (took_pieces (bytes ∷ pieces) ++ took.End ∷ []) → Begun begins more
        → Known from (all ++ more) (plan_span from span w) taken (taken_after t took_more)
    whole-step begins bytes pieces took_more more taken not over count reads_are is g =
        let o : FilesView = opened span.opens (from ++ span.path) w in
        let s = g.opened_so in
        let p = g.parts in
        let file : File = record { path = s.file.path; pieces = s.file.pieces ++ bytes ∷ pieces } in
        let after : taken_after t took_more ≡ record { whole = t.whole ++ file ∷ []; now = None } =
        ap (taken_after t) is ∙ after-append t begins (took_pieces (bytes ∷ pieces) ++ took.End ∷ [])
        ∙ ap (λ (x : Taken). taken_after x (took_pieces (bytes ∷ pieces) ++ took.End ∷ [])) s.taken_is
        ∙ after-append (record { whole = t.whole; now = Some s.file }) (took_pieces (bytes ∷ pieces)) (took.End ∷ [])
        ∙ ap (λ (x : Taken). with_one took.End x) (pieces-after (record { whole = t.whole; now = Some s.file }) s.file (bytes ∷ pieces) refl) in
        let f : WasRead ((all ++ p.front) ++ p.middle) (from ++ s.file.path) (s.file.pieces ++ bytes ∷ pieces) =
        last-reads text part tell span (from ++ s.file.path) o.lane bytes pieces (all ++ p.front) s.file.pieces s.at 0 o.all.next p.middle over (omega (arith, count))
        (s.next ∙ (let e : first_read span ≡ first_read span + 0 = omega arith in e)) (g.reads ∙ ap (read_lines o.lane o.all.next s.at) (sym count)) g.has reads_are s.on in
        let same : ((all ++ p.front) ++ p.middle) ++ p.back ≡ all ++ more =
        append_assoc (all ++ p.front) p.middle p.back ∙ append_assoc all p.front (p.middle ++ p.back) ∙ ap (λ (m : List Ans). all ++ m) (sym p.is) in
        record {
          files = subst (AllRead from (all ++ more)) (ap (λ (x : Taken). x.whole) (sym after))
              (all-snoc from (all ++ more) t.whole file (all-more from all more t.whole known.files)
              (subst (λ (m : List Ans). WasRead m (from ++ s.file.path) (s.file.pieces ++ bytes ∷ pieces)) same (was-more ((all ++ p.front) ++ p.middle) p.back (from ++ s.file.path) (s.file.pieces ++ bytes ∷ pieces) f)));
          now = λ yes_way. absurd (let both : true ≡ false = sym yes_way ∙ not in cc);
        }

    pub span-step : (taken : Bool) (took_more : List Took) (more : List Ans) → lines_of more ≡ (grows-span from span w).more → HasAll part more → SpanTook text span was taken took_more
        → Known from (all ++ more) (plan_span from span w) taken (taken_after t took_more)
    span-step taken took_more more lines_are has (left not un) = left-step took_more more taken not un
    span-step taken took_more more lines_are has (going begins pieces yes_way on b count reads_are is) =
        going-step begins pieces took_more more taken on count reads_are is (begun-so begins more b lines_are has)
    span-step taken took_more more lines_are has (whole begins [] not over some b count reads_are is) = absurd (omega (arith, some, count))
    span-step taken took_more more lines_are has (whole begins (bytes ∷ pieces) not over some b count reads_are is) =
        whole-step begins bytes pieces took_more more taken not over count reads_are is (begun-so begins more b lines_are has)

  -- files one after another
  pub spans-step : (spans : List Span) (all : List Ans) (w v : FilesView) (was taken : Bool) (t : Taken) (took_more : List Took) (more : List Ans) (a : AreAsked from w spans v)
      → lines_of more ≡ spans_more from spans w → HasAll part more → SpansTook text spans was taken took_more → Known from all w was t
      → Known from (all ++ more) v taken (taken_after t took_more)
  spans-step [] all w v was taken t took_more more a lines_are has s known =
      let none : more ≡ [] = no-lines more lines_are in
      let out : Known from all w taken t = subst (λ (b : Bool). Known from all w b t) (sym s.0) known in
      subst (λ (m : List Ans). Known from m v taken (taken_after t took_more)) (sym (append-nil all) ∙ ap (λ (m : List Ans). all ++ m) (sym none))
      (subst (λ (x : FilesView). Known from all x taken (taken_after t took_more)) (sym a) (subst (λ (m : List Took). Known from all w taken (taken_after t m)) (sym s.1) out))
  spans-step (span ∷ spans) all w v was taken t took_more more a lines_are has s known =
      let r : Split more (grows-span from span w).more (spans_more from spans (plan_span from span w)) =
      split more (grows-span from span w).more (spans_more from spans (plan_span from span w)) lines_are in
      let h = has-split part r.first r.second (subst (HasAll part) r.is has) in
      let one : Known from (all ++ r.first) (plan_span from span w) s.0 (taken_after t s.1) = span-step span all w was t known a.0 s.0 s.1 r.first r.front h.0 s.3 in
      let last : Known from ((all ++ r.first) ++ r.second) v taken (taken_after (taken_after t s.1) s.2) =
      spans-step spans (all ++ r.first) (plan_span from span w) v s.0 taken (taken_after t s.1) s.2 r.second a.1 r.back h.1 s.4 one in
      subst (λ (m : List Ans). Known from m v taken (taken_after t took_more)) (append_assoc all r.first r.second ∙ ap (λ (m : List Ans). all ++ m) (sym r.is))
      (subst (λ (x : Taken). Known from ((all ++ r.first) ++ r.second) v taken x) (sym (ap (taken_after t) s.5 ∙ after-append t s.1 s.2)) last)
