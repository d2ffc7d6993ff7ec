-- What the calls for scripts and the scripts that were run say of the files that a target took.
use Rattle.std.proofs.Common.{◌≡◌, ◌≢◌, ◌≤◌, ◌<◌, ◌^◌, ◌⊎◌, inl, inr, ℕ, suc, List, [], ◌∷◌, ◌++◌, length, Bool, true, false, cond, nat_eq, Option, Some, None, Result, Ok, Err, IfOk, IfSome, refl, sym, ap, subst, ◌∙◌, append_assoc, append-nil, arith}
use Rattle.std.specs.List.{All}
use Rattle.std.proofs.lemmas.Bool.{eqb-true}
use Rattle.std.proofs.lemmas.List.Elements.{All-cons, All-head, All-nil, All-tail}
use Rattle.world_model.specs.declared.answer.Answer.{Answer}
use Rattle.world_model.specs.declared.entry.Entry.{Entry}
use Rattle.world_model.specs.declared.entry.Entry.TheVariants.{Began}
use Rattle.world_model.specs.Follows.{Alternates, Finishes, begun, marks_of}
use Rattle.world_model.specs.Transcript.{transcript}
use Rattle.nfs_script.specs.declared.script.ScriptLine.{ScriptLine}
use Rattle.xdr_codec.specs.declared.blob.Memory.{Memory}
use Rattle.nfs_script.specs.Asked.{IsAskedLine}
use Rattle.copy_plan.specs.Files.{FilesView}
use Rattle.copy_plan.specs.Lines.{IsNameLine}
use Rattle.copy_targets.specs.declared.target.Took.{Took}
use Rattle.copy_targets.specs.declared.target.Took.TheVariants as took
use Rattle.copy_targets.specs.Files.{File, Taken, taken_after, with_one}
use Rattle.copy_targets.specs.Taking.{Takes}
use Rattle.fetch_scripts.specs.declared.span.Span.{Span}
use Rattle.fetch_scripts.specs.Downloads.{IsScript}
use Rattle.fetch_scripts.specs.Fetches.{AreAsked, AreOthers, Asks, DownloadView, Gave, NextIs, Sends, SpansTook, TakesAnswers, files, names, none as no_script, sent}
use Rattle.lane_session.specs.Endings.{entries_of}
use Rattle.asked_runs.specs.Asking.{MayRun, Round}
use Rattle.asked_runs.specs.Runs.{ArePartsFrom, Part, PartIs, entries_in, lines_in, rounds_of}
use Rattle.nfs_fetch.specs.Calls.{AskedOnce, AskedSo}
use Rattle.nfs_fetch.proofs.Answering.{Telling, telling}
use Rattle.nfs_fetch.proofs.Marks.{AllAnswered, ArePaired, Pair, begun-append, marks-append, pair_begins, pair_marks, paired-begins, part-pairs, same-rest}
use Rattle.nfs_fetch.proofs.Plans.{AreOn, Grew, grew-spans, numbered, spans_more}
use Rattle.nfs_fetch.proofs.Spans.{AllRead, Known, HasAll, after-append, spans-step}
use Rattle.nfs_fetch.proofs.Weave.{Ans, Has, Woven, ans-append, ans_marks, has-back, lines_of, weave}

-- ---- one more call

pub asked-then : {T : Type 0} (told : T → Option (List Took)) (rounds : List Round) (round : Round) (u : DownloadView) (t : T) (v : DownloadView) (s : T)
    (w : DownloadView) (r : T) → AskedSo told rounds u t v s → AskedOnce told round v s w r → AskedSo told (rounds ++ round ∷ []) u t w r
asked-then {T} told [] round u t v s w r so once =
    (w, r, subst (λ (x : DownloadView). AskedOnce told round x t w r) so.0 (subst (λ (x : T). AskedOnce told round v x w r) so.1 once), (refl, refl))
asked-then told (first ∷ rounds) round u t v s w r so once = (so.0, so.1, so.2, asked-then told rounds round so.0 so.1 v s w r so.3 once)

-- the same of a call for a script, which may fail
pub asked-next : {T A : Type 0} (told : T → Option (List Took)) (download : A → DownloadView) (target : A → T) (answers : List ℕ) (status : ℕ) (v : DownloadView) (s : T) (w : DownloadView) (r : T)
    (result : Result (Option (List ScriptLine)) Memory) → IfOk result (λ script. Gave (told s) (told r) (NextIs answers script v w))
    → IfOk result (λ script. (first : A) (rounds : List Round) → AskedSo told rounds (download first) (target first) v s
    → AskedSo told (rounds ++ record { answers = answers; status = status; script = script } ∷ []) (download first) (target first) w r)
asked-next told download target answers status v s w r (Ok script) gave = λ first rounds so.
    asked-then told rounds (record { answers = answers; status = status; script = script }) (download first) (target first) v s w r so gave
asked-next told download target answers status v s w r (Err e) gave = tt

-- a script that is made may be run
pub next-may : (result : Result (Option (List ScriptLine)) Memory) → IfOk result (λ script. IfSome script IsScript) → IfOk result (λ script. IfSome script MayRun)
next-may (Ok None) is = tt
next-may (Ok (Some lines)) is = record { asked = is.asked; few = is.few }
next-may (Err e) is = tt

-- ---- lines in lanes

entries-append : (xs ys : List ScriptLine) → entries_of (xs ++ ys) ≡ entries_of xs ++ entries_of ys
entries-append [] ys = refl
entries-append (x ∷ xs) ys = ap (λ (t : List Entry). Began x.lane x.line x.op ∷ t) (entries-append xs ys)

lines-begun : (lane : ℕ) (xs ys : List ScriptLine) → begun lane (entries_of (xs ++ ys)) ≡ begun lane (entries_of xs) ++ begun lane (entries_of ys)
lines-begun lane xs ys = ap (begun lane) (entries-append xs ys) ∙ begun-append lane (entries_of xs) (entries_of ys)

-- lines of names aren't in a lane of files
names-begun : (lane : ℕ) → lane ≢ 16 → (lines : List ScriptLine) → All IsNameLine lines → begun lane (entries_of lines) ≡ []
names-begun lane other [] all = refl
names-begun lane other (l ∷ lines) all = by (names-begun lane other lines (All-tail IsNameLine l lines all)) (nat_eq l.lane lane) refl
  where
    by : begun lane (entries_of lines) ≡ [] → (b : Bool) → nat_eq l.lane lane ≡ b → cond b (Began l.lane l.line l.op ∷ begun lane (entries_of lines)) (begun lane (entries_of lines)) ≡ []
    by rest true e = absurd (other (sym (eqb-true l.lane lane e) ∙ All-head IsNameLine l lines all))
    by rest false e = rest

-- ---- a script that was run

-- the lines of a script were answered, before which the history was this
module _ (total h : List Entry) (done : List ScriptLine) (p : Part) (more : List Entry) (is : total ≡ h ++ (p.entries ++ more)) (a : (lane : ℕ) → Alternates (marks_of lane total))
    (before : Finishes (entries_of done) h) (part : PartIs h done p) where
  pairs-of : (lane : ℕ) → ArePaired lane (marks_of lane p.entries)
  pairs-of lane = part-pairs lane h p.entries more (subst (λ (t : List Entry). Alternates (marks_of lane t)) is (a lane)) before.answered part.finishes.answered

  begun-part : (lane : ℕ) → begun lane p.entries ≡ begun lane (entries_of p.lines)
  begun-part lane =
      same-rest (begun lane h) (begun lane p.entries) (begun lane (entries_of p.lines))
      (sym (begun-append lane h p.entries) ∙ part.finishes.all lane ∙ lines-begun lane done p.lines ∙ ap (λ (t : List Entry). t ++ begun lane (entries_of p.lines)) (sym (before.all lane)))

  woven : Woven p.lines (λ (lane : ℕ). (pairs-of lane).pairs)
  woven = weave p.lines (λ (lane : ℕ). (pairs-of lane).pairs) (λ lane. sym (begun-part lane) ∙ paired-begins lane p.entries (pairs-of lane))

  woven-marks : (lane : ℕ) → marks_of lane p.entries ≡ ans_marks lane woven.all
  woven-marks lane = (pairs-of lane).is ∙ sym (woven.marks lane)

  -- one of names has no mark in a lane of files
  names-marks : All IsNameLine p.lines → (lane : ℕ) → lane ≢ 16 → marks_of lane p.entries ≡ []
  names-marks all lane other = (pairs-of lane).is ∙ by (pairs-of lane).pairs (sym (paired-begins lane p.entries (pairs-of lane)) ∙ begun-part lane ∙ names-begun lane other p.lines all)
    where
      by : (ps : List Pair) → pair_begins lane ps ≡ [] → pair_marks lane ps ≡ []
      by [] e = refl
      by (x ∷ ps) e = absurd cc

small-lines : (all : List Ans) → All IsAskedLine (lines_of all) → (a : Ans) → Has all a → a.line < 2 ^ 64
small-lines [] asked a has = absurd has
small-lines (x ∷ all) asked a (inl is) =
    let most = (All-head IsAskedLine (record { lane = x.lane; line = x.line; op = x.op }) (lines_of all) asked).line.most in
    subst (λ (z : Ans). z.line < 2 ^ 64) is (omega (arith, most))
small-lines (x ∷ all) asked a (inr later) = small-lines all (All-tail IsAskedLine (record { lane = x.lane; line = x.line; op = x.op }) (lines_of all) asked) a later

has-self : (front rest : List Ans) → HasAll (front ++ rest) rest
has-self front [] = tt
has-self front (a ∷ rest) =
    (has-back front (a ∷ rest) a (inl refl), subst (λ (t : List Ans). HasAll t rest) (append_assoc front (a ∷ []) rest) (has-self (front ++ a ∷ []) rest))

-- ---- what is known before a call

-- Before the answers are taken: of the script that was sent nothing is of files, or it has these lines, which were answered so. What is known is of all lines before it.
pub data Pending (from : List (List ℕ)) (text : List ℕ) (u : DownloadView) (all part : List Ans) (t : Taken) : Type 0 where
  of_names : part ≡ [] → u.spans ≡ [] → u.files.all.lines ≡ [] → Known from all u.files u.taken t → Pending from text u all part t
  of_files : (w planned : FilesView) (asked : AreAsked from w u.spans planned) → u.files ≡ sent planned → Telling text part → lines_of part ≡ spans_more from u.spans w
      → Known from all w u.taken t → Pending from text u all part t

-- a place and a lane are kept where lines are sent
known-sent : (from : List (List ℕ)) (all : List Ans) (v : FilesView) (taken : Bool) (t : Taken) → Known from all v taken t → Known from all (sent v) taken t
known-sent from all v taken t k = record {
  files = k.files;
  now = λ yes_way. let g = k.now yes_way in record { file = g.file; is = g.is; at = g.at; place = g.place; on = g.on };
}

-- what is of no file changes nothing
others-after : (t : Taken) (more : List Took) → AreOthers more → taken_after t more ≡ t
others-after t [] o = refl
others-after t (took.Folder path ∷ more) o = others-after t more o.1
others-after t (took.Link path text ∷ more) o = others-after t more o.1
others-after t (took.File path ∷ more) o = absurd o.0
others-after t (took.Piece bytes ∷ more) o = absurd o.0
others-after t (took.End ∷ more) o = absurd o.0

-- after the answers are taken
taken-known : (from : List (List ℕ)) (text : List ℕ) (u v : DownloadView) (all part : List Ans) (t : Taken) (more : List Took) → Pending from text u all part t → TakesAnswers text u v more
    → Known from (all ++ part) u.files v.taken (taken_after t more)
taken-known from text u v all part t more pending k =
    subst (λ (x : Taken). Known from (all ++ part) u.files v.taken x)
    (sym (ap (taken_after t) k.is ∙ after-append t k.of_files k.others ∙ others-after (taken_after t k.of_files) k.others k.quiet)) (by pending)
  where
    no-spans : (spans : List Span) → spans ≡ [] → SpansTook text spans u.taken v.taken k.of_files → (v.taken ≡ u.taken) × (k.of_files ≡ [])
    no-spans [] e s = s
    no-spans (s ∷ spans) e x = absurd cc

    by : Pending from text u all part t → Known from (all ++ part) u.files v.taken (taken_after t k.of_files)
    by (of_names none no_spans waits known) =
        let s = no-spans u.spans no_spans k.took in
        subst (λ (m : List Ans). Known from m u.files v.taken (taken_after t k.of_files)) (sym (append-nil all) ∙ ap (λ (m : List Ans). all ++ m) (sym none))
        (subst (λ (b : Bool). Known from all u.files b (taken_after t k.of_files)) (sym s.0) (subst (λ (m : List Took). Known from all u.files u.taken (taken_after t m)) (sym s.1) known))
    by (of_files w planned asked files_are tell lines_are known) =
        subst (λ (f : FilesView). Known from (all ++ part) f v.taken (taken_after t k.of_files)) (sym files_are)
        (known-sent from (all ++ part) planned v.taken (taken_after t k.of_files)
        (spans-step from text part tell u.spans all w planned u.taken v.taken t k.of_files part asked lines_are (has-self [] part) k.took known))

all-split : (xs ys : List ScriptLine) → All IsAskedLine (xs ++ ys) → All IsAskedLine xs × All IsAskedLine ys
all-split [] ys a = (All-nil IsAskedLine, a)
all-split (x ∷ xs) ys a =
    let p = all-split xs ys (All-tail IsAskedLine x (xs ++ ys) a) in
    (All-cons IsAskedLine x xs (All-head IsAskedLine x (xs ++ ys) a) p.0, p.1)

-- ---- call after call

module _ {T : Type 0} (told : T → Option (List Took)) (from : List (List ℕ)) (total : List Entry) (alternates : (lane : ℕ) → Alternates (marks_of lane total)) where
  -- what the calls from one state on come to
  pub record Came (parts : List Part) (all part : List Ans) (g : List Took) (s : T) : Type 0 where
    pub later : List Took
    pub tells : told s ≡ Some later
    pub rest : List Ans
    pub files : AllRead from ((all ++ part) ++ rest) (taken_after (record { whole = []; now = None }) later).whole
    pub marks : (lane : ℕ) → lane ≢ 16 → marks_of lane (entries_in parts) ≡ ans_marks lane rest

  -- a target that tells goes on telling
  tells-on : (t s : T) (more g : List Took) → told t ≡ Some g → Takes (told t) (told s) more → told s ≡ Some (g ++ more)
  tells-on t s more g e k = by (told t) (told s) e k
    where
      by : (a b : Option (List Took)) → a ≡ Some g → Takes a b more → b ≡ Some (g ++ more)
      by (Some x) (Some y) e k = let same : x ≡ g = cc in ap (λ (l : List Took). Some l) (k ∙ ap (λ (l : List Took). l ++ more) same)
      by (Some x) None e k = absurd k
      by None b e k = absurd cc

  abbrev pub start : Taken
  start = record { whole = []; now = None }

  -- the lines that wait are sent, so that none waits
  abbrev pub NoneWaits : DownloadView → Type 0
  NoneWaits u = u.files.all.lines ≡ []

  pub came : (text : List ℕ) (status : ℕ) (parts : List Part) (u : DownloadView) (t : T) (v : DownloadView) (s : T) (h : List Entry) (done : List ScriptLine) (all part : List Ans) (g : List Took)
      → u.from ≡ from → NoneWaits u → total ≡ h ++ entries_in parts → Finishes (entries_of done) h → ArePartsFrom h done parts → All IsAskedLine (lines_in parts)
      → told t ≡ Some g → Pending from text u all part (taken_after start g) → AskedSo told (rounds_of text status parts) u t v s → Came parts all part g s
  came text status [] u t v s h done all part g same waits is f are asked e pending so =
      let once = so.2 in
      let w : DownloadView = once.so.between in
      let k : Known from (all ++ part) u.files w.taken (taken_after (taken_after start g) once.more) = taken-known from text u w all part (taken_after start g) once.more pending once.so.takes in
      record {
        later = g ++ once.more;
        tells = ap told so.3.1 ∙ tells-on t so.1 once.more g e once.told;
        rest = [];
        files = subst (λ (l : List Ans). AllRead from l (taken_after start (g ++ once.more)).whole) (sym (append-nil (all ++ part)))
            (subst (λ (x : Taken). AllRead from (all ++ part) x.whole) (sym (after-append start g once.more)) k.files);
        marks = λ lane other. refl;
      }
  came text status (p ∷ parts) u t v s h done all part g same waits is f are asked e pending so =
      by
      (λ next waits_on pending_on. came (transcript p.entries) p.status parts n so.1 v s (h ++ p.entries) (done ++ p.lines) (all ++ part) next (g ++ once.more) from_is waits_on next_is
      are.0.finishes are.1 own_asked.1 now pending_on so.3)
      once.so.sends.sends
    where
      once : AskedOnce told (record { answers = text; status = status; script = Some p.lines }) u t so.0 so.1
      once = so.2

      w : DownloadView
      w = once.so.between

      n : DownloadView
      n = so.0

      k : Known from (all ++ part) u.files w.taken (taken_after (taken_after start g) once.more)
      k = taken-known from text u w all part (taken_after start g) once.more pending once.so.takes

      now : told so.1 ≡ Some (g ++ once.more)
      now = tells-on t so.1 once.more g e once.told

      split_is : total ≡ h ++ (p.entries ++ entries_in parts)
      split_is = is

      next_is : total ≡ (h ++ p.entries) ++ entries_in parts
      next_is = is ∙ sym (append_assoc h p.entries (entries_in parts))

      own_asked : All IsAskedLine p.lines × All IsAskedLine (lines_in parts)
      own_asked = all-split p.lines (lines_in parts) asked

      from_is : n.from ≡ from
      from_is = once.so.sends.from ∙ once.so.takes.from ∙ same

      -- what is known with the lines that were sent before
      known-by : (files_view : FilesView) → files_view ≡ u.files → Known from (all ++ part) files_view n.taken (taken_after start (g ++ once.more))
      known-by x x_is =
          subst (λ (b : Bool). Known from (all ++ part) x b (taken_after start (g ++ once.more))) (sym once.so.sends.taken)
          (subst (λ (q : Taken). Known from (all ++ part) x w.taken q) (sym (after-append start g once.more))
          (subst (λ (y : FilesView). Known from (all ++ part) y w.taken (taken_after (taken_after start g) once.more)) (sym x_is) k))

      by : ((next : List Ans) → NoneWaits n → Pending from (transcript p.entries) n (all ++ part) next (taken_after start (g ++ once.more)) → Came parts (all ++ part) next (g ++ once.more) s)
          → Sends w n (Some p.lines) → Came (p ∷ parts) all part g s
      by others (no_script no_way) = absurd cc
      by others (names lines lines_are name_lines files_are spans_are) =
          let own : All IsNameLine p.lines = subst (All IsNameLine) (let is_so : lines ≡ p.lines = cc in is_so) name_lines in
          let c : Came parts (all ++ part) [] (g ++ once.more) s =
          others [] (ap (λ (x : FilesView). x.all.lines) (files_are ∙ once.so.takes.files) ∙ waits)
          (of_names refl (spans_are ∙ once.so.takes.none) (ap (λ (x : FilesView). x.all.lines) (files_are ∙ once.so.takes.files) ∙ waits)
          (known-by n.files (files_are ∙ once.so.takes.files))) in
          record {
            later = c.later;
            tells = c.tells;
            rest = c.rest;
            files = subst (λ (l : List Ans). AllRead from (l ++ c.rest) (taken_after start c.later).whole) (append-nil (all ++ part)) c.files;
            marks = λ lane other. marks-append lane p.entries (entries_in parts)
                ∙ ap (λ (m : List Entry). m ++ marks_of lane (entries_in parts)) (names-marks total h done p (entries_in parts) split_is alternates f are.0 own lane other)
                ∙ c.marks lane other;
          }
      by others (files planned lines_are asks files_are) =
          let x : Woven p.lines (λ (lane : ℕ). (pairs-of total h done p (entries_in parts) split_is alternates f are.0 lane).pairs) = woven total h done p (entries_in parts) split_is alternates f are.0 in
          let spans_are : n.spans ≡ asks.more = asks.is ∙ ap (λ (l : List Span). l ++ asks.more) once.so.takes.none in
          let asked_so : AreAsked from u.files n.spans planned =
          subst (λ (l : List Span). AreAsked from u.files l planned) (sym spans_are)
          (subst (λ (y : FilesView). AreAsked from y asks.more planned) once.so.takes.files
          (subst (λ (y : List (List ℕ)). AreAsked y w.files asks.more planned) (once.so.takes.from ∙ same) asks.lines)) in
          let grown : Grew u.files planned (spans_more from n.spans u.files) = grew-spans from u.files n.spans planned asked_so in
          let lines_of_x : lines_of x.all ≡ spans_more from n.spans u.files =
          x.lines_are ∙ (let is_so : p.lines ≡ planned.all.lines = cc in is_so) ∙ grown.lines ∙ ap (λ (l : List ScriptLine). l ++ spans_more from n.spans u.files) waits in
          let numbers : AreOn u.files.all.next (lines_of x.all) = subst (AreOn u.files.all.next) (sym lines_of_x) grown.on in
          let tell : Telling (transcript p.entries) x.all =
          telling p.entries x.all u.files.all.next (numbered u.files.all.next x.all numbers) (woven-marks total h done p (entries_in parts) split_is alternates f are.0)
          (small-lines x.all (subst (All IsAskedLine) (sym x.lines_are) own_asked.0)) in
          let c : Came parts (all ++ part) x.all (g ++ once.more) s =
          others x.all (ap (λ (y : FilesView). y.all.lines) files_are)
          (of_files u.files planned asked_so files_are tell lines_of_x (known-by u.files refl)) in
          record {
            later = c.later;
            tells = c.tells;
            rest = x.all ++ c.rest;
            files = subst (λ (l : List Ans). AllRead from l (taken_after start c.later).whole) (append_assoc (all ++ part) x.all c.rest) c.files;
            marks = λ lane other. marks-append lane p.entries (entries_in parts)
                ∙ ap (λ (m : List Entry). m ++ marks_of lane (entries_in parts)) (woven-marks total h done p (entries_in parts) split_is alternates f are.0 lane)
                ∙ ap (λ (m : List Entry). ans_marks lane x.all ++ m) (c.marks lane other)
                ∙ sym (ans-append lane x.all c.rest);
          }
