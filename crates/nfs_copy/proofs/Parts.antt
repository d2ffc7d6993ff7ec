-- What the calls for scripts say of the scripts that were run.
use Rattle.std.proofs.Common.{◌≡◌, ◌≢◌, ◌≤◌, ◌⊎◌, inl, inr, ℕ, List, [], ◌∷◌, ◌++◌, length, Bool, true, false, cond, nat_eq, Option, Some, None, Result, Ok, Err, IfOk, IfSome, refl, sym, ap, subst, ◌∙◌}
use Rattle.std.specs.List.{All}
use Rattle.std.proofs.lemmas.Bool.{eqb-true}
use Rattle.std.proofs.lemmas.List.Elements.{All-head, All-tail}
use Rattle.world_model.specs.declared.entry.Entry.{Entry}
use Rattle.world_model.specs.declared.entry.Entry.TheVariants.{Began}
use Rattle.world_model.specs.Follows.{begun}
use Rattle.nfs_script.specs.declared.script.ScriptLine.{ScriptLine}
use Rattle.nfs_script.specs.Asked.{IsAskedLine}
use Rattle.xdr_codec.specs.declared.blob.Memory.{Memory}
use Rattle.file_trees.specs.declared.tree.Given.{Given}
use Rattle.file_trees.specs.Giving.{Gives}
use Rattle.copy_plan.specs.Files.{FilesView}
use Rattle.copy_plan.specs.Lines.{IsNameLine}
use Rattle.copy_plan.specs.Trees.{plan_of}
use Rattle.copy_scripts.specs.declared.upload.Sent.TheVariants as sents
use Rattle.copy_scripts.specs.Uploads.{AreWhole, Gave, NextIs, Right, Sends, UploadView, files, names, none, taken}
use Rattle.copy_scripts.proofs.Uploads.{gives-then, plan-then, whole-then}
use Rattle.lane_session.specs.Endings.{entries_of}
use Rattle.asked_runs.specs.Asking.{MayRun, Round}
use Rattle.world_model.specs.Transcript.{transcript}
use Rattle.asked_runs.specs.Runs.{Part, lines_in, rounds_of}
use Rattle.nfs_copy.specs.Calls.{AskedOnce, AskedSo}
use Rattle.nfs_copy.proofs.Fronts.{fronted, plan-front, taken-front}
use Rattle.nfs_copy.proofs.Marks.{begun-append}

-- ---- one more call

pub asked-then : {T : Type 0} (given : T → Option (List Given)) (over : T → Type 0) (rounds : List Round) (round : Round) (u : UploadView) (t : T) (v : UploadView) (s : T)
    (w : UploadView) (r : T) → AskedSo given over rounds u t v s → AskedOnce given over round v s w r → AskedSo given over (rounds ++ round ∷ []) u t w r
asked-then {T} given over [] round u t v s w r so once =
    (w, r, subst (λ (x : UploadView). AskedOnce given over round x t w r) so.0 (subst (λ (x : T). AskedOnce given over round v x w r) so.1 once), (refl, refl))
asked-then given over (first ∷ rounds) round u t v s w r so once =
    (so.0, so.1, so.2, asked-then given over rounds round so.0 so.1 v s w r so.3 once)

-- the same of a call for a script, which may fail
pub asked-next : {T A : Type 0} (given : T → Option (List Given)) (over : T → Type 0) (upload : A → UploadView) (tree : A → T) (answers : List ℕ) (status : ℕ) (v : UploadView) (s : T)
    (w : UploadView) (r : T) (result : Result (Option (List ScriptLine)) Memory) → IfOk result (λ script. Gave (given s) (given r) (λ more. NextIs status script more v w))
    → (result ≡ Ok None → over r) → IfOk result (λ script. (first : A) (rounds : List Round) → AskedSo given over rounds (upload first) (tree first) v s
    → AskedSo given over (rounds ++ record { answers = answers; status = status; script = script } ∷ []) (upload first) (tree first) w r)
asked-next given over upload tree answers status v s w r (Ok script) gave ends = λ first rounds so.
    asked-then given over rounds (record { answers = answers; status = status; script = script }) (upload first) (tree first) v s w r so
    (record { gave = gave; ends = λ none. ends (ap Ok none) })
asked-next given over upload tree answers status v s w r (Err e) gave ends = tt

-- a script that is made may be run
pub next-may : (result : Result (Option (List ScriptLine)) Memory) → IfOk result (λ script. IfSome script (λ lines. All IsAskedLine lines))
    → IfOk result (λ script. IfSome script (λ lines. length lines ≤ 16384)) → IfOk result (λ script. IfSome script MayRun)
next-may (Ok None) asked few = tt
next-may (Ok (Some lines)) asked few = record { asked = asked; few = few }
next-may (Err e) asked few = tt

-- all that a tree gave, if it had given nothing before
pub all-given : (a b : Option (List Given)) (more g : List Given) → a ≡ Some [] → b ≡ Some g → Gives a b more → more ≡ g
all-given (Some x) (Some y) more g a b told =
    let one : x ≡ [] = cc in
    let two : y ≡ g = cc in
    sym (ap (λ (l : List Given). l ++ more) one) ∙ sym told ∙ two
all-given None b more g a e told = absurd cc
all-given (Some x) None more g a b told = absurd cc

-- ---- lines in lanes

pub entries-append : (xs ys : List ScriptLine) → entries_of (xs ++ ys) ≡ entries_of xs ++ entries_of ys
entries-append [] ys = refl
entries-append (x ∷ xs) ys = ap (λ (t : List Entry). Began x.lane x.line x.op ∷ t) (entries-append xs ys)

pub lines-begun : (lane : ℕ) (xs ys : List ScriptLine) → begun lane (entries_of (xs ++ ys)) ≡ begun lane (entries_of xs) ++ begun lane (entries_of ys)
lines-begun lane xs ys = ap (begun lane) (entries-append xs ys) ∙ begun-append lane (entries_of xs) (entries_of ys)

-- lines of folders and links aren't in a lane of files
pub names-begun : (lane : ℕ) → lane ≢ 16 → (lines : List ScriptLine) → All IsNameLine lines → begun lane (entries_of lines) ≡ []
names-begun lane other [] all = refl
names-begun lane other (l ∷ lines) all = by (names-begun lane other lines (All-tail IsNameLine l lines all)) (nat_eq l.lane lane) refl
  where
    by : begun lane (entries_of lines) ≡ [] → (b : Bool) → nat_eq l.lane lane ≡ b → cond b (Began l.lane l.line l.op ∷ begun lane (entries_of lines)) (begun lane (entries_of lines)) ≡ []
    by rest true e = absurd (other (sym (eqb-true l.lane lane e) ∙ All-head IsNameLine l lines all))
    by rest false e = rest

-- ---- scripts that were run

-- a script has lines of folders and links alone, or each of its answers is ok
abbrev pub IsGood : Part → Type 0
IsGood p = All IsNameLine p.lines ⊎ (p.status ≡ 0)

abbrev pub AreGood : List Part → Type 0
AreGood [] = Unit {0}
AreGood (p ∷ parts) = IsGood p × AreGood parts

-- what the calls from one state on come to, at the end of which nothing went wrong
pub record Came {T : Type 0} (given : T → Option (List Given)) (over : T → Type 0) (status : ℕ) (parts : List Part) (u : UploadView) (t s : T) : Type 0 where
  pub before : u.wrong ≡ false
  pub answered : u.sent ≡ sents.Files → status ≡ 0
  pub more : List Given
  pub told : Gives (given t) (given s) more
  pub whole : AreWhole more
  pub ends : over s
  pub same : (lane : ℕ) → lane ≢ 16 → begun lane (entries_of (lines_in parts)) ≡ begun lane (entries_of (plan_of u.to more u.files).all.lines)
  pub good : AreGood parts

-- at the last call no line waits
last-lines : (planned : FilesView) (old new : UploadView) → Sends planned old new None → planned.all.lines ≡ []
last-lines planned old new (none is none_wait files_are sent) = none_wait
last-lines planned old new (names lines is all files_are sent) = absurd cc
last-lines planned old new (files is files_are sent) = absurd cc

-- a script was asked for, and what follows
module _ (planned : FilesView) (old new : UploadView) (p : Part) (to : List (List ℕ)) (more : List Given) (parts : List Part)
    (answered : new.sent ≡ sents.Files → p.status ≡ 0)
    (same : (lane : ℕ) → lane ≢ 16 → begun lane (entries_of (lines_in parts)) ≡ begun lane (entries_of (plan_of to more new.files).all.lines)) where
  abbrev pub SoFar : Type 0
  SoFar = IsGood p × ((lane : ℕ) → lane ≢ 16 → begun lane (entries_of (p.lines ++ lines_in parts)) ≡ begun lane (entries_of (plan_of to more planned).all.lines))

  so-far : Sends planned old new (Some p.lines) → SoFar
  so-far (none is none_wait files_are sent) = absurd cc
  so-far (names lines is all files_are sent) =
      let lines_are : p.lines ≡ lines = cc in
      let own : All IsNameLine p.lines = subst (λ (t : List ScriptLine). All IsNameLine t) (sym lines_are) all in (
        inl own,
        λ lane other.
            lines-begun lane p.lines (lines_in parts)
            ∙ ap (λ (t : List Entry). t ++ begun lane (entries_of (lines_in parts))) (names-begun lane other p.lines own)
            ∙ same lane other
            ∙ ap (λ (f : FilesView). begun lane (entries_of (plan_of to more f).all.lines)) files_are,
      )
  so-far (files is files_are sent) =
      let lines_are : p.lines ≡ planned.all.lines = cc in
      let whole : plan_of to more planned ≡ fronted planned.all.lines (plan_of to more (taken planned)) =
      ap (plan_of to more) (sym (taken-front planned)) ∙ plan-front planned.all.lines to more (taken planned) in (
        inr (answered sent),
        λ lane other.
            lines-begun lane p.lines (lines_in parts)
            ∙ ap (λ (t : List ScriptLine). begun lane (entries_of t) ++ begun lane (entries_of (lines_in parts))) lines_are
            ∙ ap (λ (t : List Entry). begun lane (entries_of planned.all.lines) ++ t)
            (same lane other ∙ ap (λ (f : FilesView). begun lane (entries_of (plan_of to more f).all.lines)) files_are)
            ∙ sym (lines-begun lane planned.all.lines (plan_of to more (taken planned)).all.lines)
            ∙ ap (λ (f : FilesView). begun lane (entries_of f.all.lines)) (sym whole),
      )

module _ {T : Type 0} (given : T → Option (List Given)) (over : T → Type 0) where
  came-last : (answers : List ℕ) (status : ℕ) (u : UploadView) (t : T) (v : UploadView) (s : T) → AskedOnce given over (record { answers = answers; status = status; script = None }) u t v s → v.wrong ≡ false
      → Came given over status [] u t s
  came-last answers status u t v s once right =
      let r : Right status None once.gave.more u v = once.gave.so.right right in
      record {
        before = r.before;
        answered = r.answered;
        more = once.gave.more;
        told = once.gave.told;
        whole = r.whole;
        ends = once.ends refl;
        same = λ lane other. ap (λ (l : List ScriptLine). begun lane (entries_of l)) (sym (last-lines (plan_of u.to once.gave.more u.files) u v r.sends));
        good = tt;
      }

  came-next : (answers : List ℕ) (status : ℕ) (p : Part) (parts : List Part) (u : UploadView) (t : T) (w : UploadView) (r s : T)
      → AskedOnce given over (record { answers = answers; status = status; script = Some p.lines }) u t w r → Came given over p.status parts w r s → Came given over status (p ∷ parts) u t s
  came-next answers status p parts u t w r s once c =
      let now : Right status (Some p.lines) once.gave.more u w = once.gave.so.right c.before in
      let to : w.to ≡ u.to = once.gave.so.to in
      let far = so-far (plan_of u.to once.gave.more u.files) u w p u.to c.more parts c.answered
      (λ lane other. c.same lane other ∙ ap (λ (x : List (List ℕ)). begun lane (entries_of (plan_of x c.more w.files).all.lines)) to) now.sends in
      record {
        before = now.before;
        answered = now.answered;
        more = once.gave.more ++ c.more;
        told = gives-then (given t) (given r) (given s) once.gave.more c.more once.gave.told c.told;
        whole = whole-then once.gave.more c.more now.whole c.whole;
        ends = c.ends;
        same = λ lane other. far.1 lane other ∙ ap (λ (f : FilesView). begun lane (entries_of f.all.lines)) (sym (plan-then u.to once.gave.more c.more u.files));
        good = (far.0, c.good);
      }

  pub came : (answers : List ℕ) (status : ℕ) (parts : List Part) (u : UploadView) (t : T) (v : UploadView) (s : T) → AskedSo given over (rounds_of answers status parts) u t v s → v.wrong ≡ false
      → Came given over status parts u t s
  came answers status [] u t v s so right =
      subst (λ (x : T). Came given over status [] u t x) (sym so.3.1)
      (came-last answers status u t so.0 so.1 so.2 (ap (λ (x : UploadView). x.wrong) (sym so.3.0) ∙ right))
  came answers status (p ∷ parts) u t v s so right = came-next answers status p parts u t so.0 so.1 s so.2 (came (transcript p.entries) p.status parts so.0 so.1 v s so.3 right)
