-- The next script of a copy.
use Rattle.std.proofs.Common.{◌≡◌, ◌≢◌, inl, inr, ℕ, true, false, List, [], ◌∷◌, length, Option, Some, None, refl, sym, ap, subst, ◌∙◌, arith}
use Rattle.std.specs.List.{All}
use Rattle.nfs_script.specs.declared.script.ScriptLine.{ScriptLine}
use Rattle.file_trees.specs.declared.tree.Given.{Given}
use Rattle.copy_plan.specs.Files.{FilesView}
use Rattle.copy_plan.specs.Lines.{IsNameLine, LinesView}
use Rattle.copy_plan.specs.Trees.{plan_of}
use Rattle.copy_scripts.specs.declared.upload.Sent.TheVariants as sents
use Rattle.copy_scripts.specs.Uploads.{Amiss, AnyCant, AreWhole, Judges, NextIs, OnlyWrong, Planned, Takes, UploadView, earlier, files, names, none, refused, taken, unfit}

-- once the answers were judged, and this was given since
record Ready (status : ℕ) (more : List Given) (u w : UploadView) : Type 0 where
  pub before : u.wrong ≡ false
  pub answered : u.sent ≡ sents.Files → status ≡ 0
  pub whole : AreWhole more
  pub files_are : w.files ≡ plan_of u.to more u.files

record Judged (status : ℕ) (more : List Given) (u w : UploadView) : Type 0 where
  pub to : w.to ≡ u.to
  pub sent : w.sent ≡ u.sent
  pub right : w.wrong ≡ false → Ready status more u w
  pub amiss : w.wrong ≡ true → Amiss status more u

judged : (status : ℕ) (more : List Given) (u v x w : UploadView) → Judges status u v → x ≡ v → Takes more x w → Judged status more u w
judged status more u v x w j same t = by (same ∙ j.same)
  where
    by : x ≡ record u { wrong = v.wrong } → Judged status more u w
    by is = record {
      to = t.to ∙ ap (λ (y : UploadView). y.to) is;
      sent = t.sent ∙ ap (λ (y : UploadView). y.sent) is;
      right = λ e.
          let p : Planned more x w = t.right e in
          let r = j.right (ap (λ (y : UploadView). y.wrong) (sym same) ∙ p.before) in
          record {
            before = r.0;
            answered = r.1;
            whole = p.whole;
            files_are = p.files ∙ ap (λ (y : UploadView). plan_of y.to more y.files) is;
          };
      amiss = λ e.
          elim (t.amiss e) [
            | inl was ↦ elim (j.amiss (ap (λ (y : UploadView). y.wrong) (sym same) ∙ was)) [
              | inl first ↦ earlier first
              | inr other ↦ refused other
            ]
            | inr cant ↦ unfit (subst (λ (y : List (List ℕ)). AnyCant y more) (ap (λ (y : UploadView). y.to) is) cant)
          ];
    }

-- the script of files
module _ (status : ℕ) (more : List Given) (u v x w : UploadView) (j : Judges status u v) (same : x ≡ v) (t : Takes more x w) where
  pub next-files : (script : List ScriptLine) (z : UploadView) → script ≡ w.files.all.lines → z ≡ record w { files = taken w.files; sent = sents.Files }
      → NextIs status (Some script) more u z
  next-files script z lines is =
      let d : Judged status more u w = judged status more u v x w j same t in
      record {
        to = ap (λ (y : UploadView). y.to) is ∙ d.to;
        right = λ e.
            let r : Ready status more u w = d.right (ap (λ (y : UploadView). y.wrong) (sym is) ∙ e) in
            record {
              before = r.before;
              answered = r.answered;
              whole = r.whole;
              sends = files (ap (λ (l : List ScriptLine). Some l) (lines ∙ ap (λ (f : FilesView). f.all.lines) r.files_are))
                  (ap (λ (y : UploadView). y.files) is ∙ ap taken r.files_are) (ap (λ (y : UploadView). y.sent) is);
            };
        amiss = λ e. d.amiss (ap (λ (y : UploadView). y.wrong) (sym is) ∙ e);
      }

  -- the script of folders and links
  pub next-names : (script : List ScriptLine) (rest : LinesView) (z : UploadView) → All IsNameLine script → z ≡ record w { names = rest; sent = sents.Names }
      → NextIs status (Some script) more u z
  next-names script rest z all is =
      let d : Judged status more u w = judged status more u v x w j same t in
      record {
        to = ap (λ (y : UploadView). y.to) is ∙ d.to;
        right = λ e.
            let r : Ready status more u w = d.right (ap (λ (y : UploadView). y.wrong) (sym is) ∙ e) in
            record {
              before = r.before;
              answered = r.answered;
              whole = r.whole;
              sends = names script refl all (ap (λ (y : UploadView). y.files) is ∙ r.files_are) (ap (λ (y : UploadView). y.sent) is);
            };
        amiss = λ e. d.amiss (ap (λ (y : UploadView). y.wrong) (sym is) ∙ e);
      }

  -- there is none
  pub next-none : (script : Option (List ScriptLine)) → script ≡ None → length w.files.all.lines ≡ 0 → NextIs status script more u w
  next-none script is_none few =
      let d : Judged status more u w = judged status more u v x w j same t in
      record {
        to = d.to;
        right = λ e.
            let r : Ready status more u w = d.right e in
            record {
              before = r.before;
              answered = r.answered;
              whole = r.whole;
              sends = none is_none (ap (λ (f : FilesView). f.all.lines) (sym r.files_are) ∙ empty w.files.all.lines few) r.files_are d.sent;
            };
        amiss = d.amiss;
      }
    where
      empty : (l : List ScriptLine) → length l ≡ 0 → l ≡ []
      empty [] e = refl
      empty (y ∷ l) e = absurd (omega (arith, e))

-- ---- what was answered

pub judges-well : (status : ℕ) (u : UploadView) → status ≡ 0 → Judges status u u
judges-well status u zero_is = record { same = refl; right = λ e. (e, λ s. zero_is); amiss = λ e. inl e }

pub judges-names : (status : ℕ) (u v : UploadView) → status ≢ 0 → u.sent ≡ sents.Names → OnlyWrong u v → Judges status u v
judges-names status u v other sent o = record {
  same = o.same;
  right = λ e. (o.right e, λ f. absurd (let no_way : sents.Names ≡ sents.Files = sym sent ∙ f in cc));
  amiss = λ e. inr other;
}

pub judges-files : (status : ℕ) (u v : UploadView) → status ≢ 0 → v ≡ record u { wrong = true } → Judges status u v
judges-files status u v other is = subst (Judges status u) (sym is) (record { same = refl; right = λ e. absurd cc; amiss = λ e. inr other })
