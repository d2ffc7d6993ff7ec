-- From the answers to one script to the next script.
use Rattle.std.proofs.Common.{◌≡◌, ℕ, Bool, List, [], ◌∷◌, ◌++◌, Option, Some, None, Result, Ok, Err, refl, sym, ap, subst, ◌∙◌}
use Rattle.std.specs.List.{All}
use Rattle.std.specs.Prelude.{IfOk, OnOk}
use Rattle.xdr_codec.specs.declared.blob.Memory.{Memory}
use Rattle.nfs_script.specs.declared.script.ScriptLine.{ScriptLine}
use Rattle.copy_plan.specs.Files.{FilesView}
use Rattle.copy_plan.specs.Lines.{IsNameLine}
use Rattle.copy_targets.specs.declared.target.Took.{Took}
use Rattle.fetch_scripts.specs.declared.span.Span.{Span}
use Rattle.fetch_scripts.specs.Fetches.{AddsFiles, AreOthers, Asks, DownloadView, Gave, NextIs, SendsNext, SpansTook, TakesAnswers, files, names, none, sent}
use Rattle.fetch_scripts.proofs.Askings.{asks-none, asks-then}
use Rattle.fetch_scripts.proofs.Givings.{gave-less, gave-then}

-- the bytes of files, and then what else was answered
pub take-both : (text : List ℕ) (u m v : DownloadView) (a b c : Option (List Took)) → Gave a b (SpansTook text u.spans u.taken m.taken)
    → m ≡ record u { wrong = m.wrong; spans = []; taken = m.taken } → Gave b c AreOthers → v ≡ record m { wrong = v.wrong } → Gave a c (TakesAnswers text u v)
take-both text u m v a b c p first q second =
    gave-then a b c (SpansTook text u.spans u.taken m.taken) AreOthers (TakesAnswers text u v) p q (λ x y took others. record {
      of_files = x;
      others = y;
      is = refl;
      took = subst (λ (t : Bool). SpansTook text u.spans u.taken t x) (ap (λ (w : DownloadView). w.taken) (sym second)) took;
      quiet = others;
      from = ap (λ (w : DownloadView). w.from) second ∙ ap (λ (w : DownloadView). w.from) first;
      files = ap (λ (w : DownloadView). w.files) second ∙ ap (λ (w : DownloadView). w.files) first;
      none = ap (λ (w : DownloadView). w.spans) second ∙ ap (λ (w : DownloadView). w.spans) first;
    })

-- what was taken, and then the next script
pub next-is : (text : List ℕ) (script : Option (List ScriptLine)) (u m v : DownloadView) (a b : Option (List Took)) → Gave a b (TakesAnswers text u m) → SendsNext m v script
    → Gave a b (NextIs text script u v)
next-is text script u m v a b p s = gave-less a b (TakesAnswers text u m) (NextIs text script u v) p (λ x takes. record { between = m; takes = takes; sends = s })

-- there is none
pub none-next : (u : DownloadView) → SendsNext u u None
none-next u = record { from = refl; taken = refl; sends = none refl }

-- it is one of names
pub names-next : (u v : DownloadView) (lines : List ScriptLine) → v ≡ record u { wrong = v.wrong } → All IsNameLine lines → SendsNext u v (Some lines)
names-next u v lines same all = record {
  from = ap (λ (w : DownloadView). w.from) same;
  taken = ap (λ (w : DownloadView). w.taken) same;
  sends = names lines refl all (ap (λ (w : DownloadView). w.files) same) (ap (λ (w : DownloadView). w.spans) same);
}

-- files were added
pub adds-none : (u v : DownloadView) → v ≡ record u { wrong = v.wrong } → AddsFiles u v
adds-none u v same = record {
  same = same ∙ ap (λ (f : FilesView). record u { wrong = v.wrong; files = f }) (ap (λ (w : DownloadView). w.files) (sym same))
      ∙ ap (λ (s : List Span). record u { wrong = v.wrong; files = v.files; spans = s }) (ap (λ (w : DownloadView). w.spans) (sym same));
  asks = subst (λ (f : FilesView). Asks u.from u.files u.spans f v.spans) (ap (λ (w : DownloadView). w.files) (sym same))
      (subst (λ (s : List Span). Asks u.from u.files u.spans u.files s) (ap (λ (w : DownloadView). w.spans) (sym same)) (asks-none u.from u.files u.spans));
}

pub adds-then : (u v w : DownloadView) → AddsFiles u v → AddsFiles v w → AddsFiles u w
adds-then u v w p q = record {
  same = q.same ∙ ap (λ (x : DownloadView). record x { wrong = w.wrong; files = w.files; spans = w.spans }) p.same;
  asks = asks-then u.from u.files v.files w.files u.spans v.spans w.spans p.asks
      (subst (λ (f : List (List ℕ)). Asks f v.files v.spans w.files w.spans) (ap (λ (x : DownloadView). x.from) p.same) q.asks);
}

-- the file that is open goes on, and others are added
pub files-next : (u m w v : DownloadView) (lines : List ScriptLine) → AddsFiles u m → AddsFiles m w → v ≡ record w { files = sent w.files } → lines ≡ w.files.all.lines → SendsNext u v (Some lines)
files-next u m w v lines first second last are = one (adds-then u m w first second)
  where
    one : AddsFiles u w → SendsNext u v (Some lines)
    one adds = record {
      from = ap (λ (x : DownloadView). x.from) last ∙ ap (λ (x : DownloadView). x.from) adds.same;
      taken = ap (λ (x : DownloadView). x.taken) last ∙ ap (λ (x : DownloadView). x.taken) adds.same;
      sends = files w.files (ap (λ (l : List ScriptLine). Some l) are)
          (subst (λ (s : List Span). Asks u.from u.files u.spans w.files s) (ap (λ (x : DownloadView). x.spans) (sym last)) adds.asks)
          (ap (λ (x : DownloadView). x.files) last);
    }

-- ---- what functions leave

pub take-gave : {X : Type 0} (text : List ℕ) (u m v : DownloadView) (result : Result X Memory) (a b c : Option (List Took)) → Gave a b (SpansTook text u.spans u.taken m.taken)
    → m ≡ record u { wrong = m.wrong; spans = []; taken = m.taken } → IfOk result (λ x. Gave b c AreOthers) → OnOk result (v ≡ record m { wrong = v.wrong })
    → IfOk result (λ x. Gave a c (TakesAnswers text u v))
take-gave text u m v (Ok x) a b c p first q second = take-both text u m v a b c p first q second
take-gave text u m v (Err e) a b c p first q second = tt

pub next-gave : (shown text : List ℕ) (result : Result (Option (List ScriptLine)) Memory) (u m v : DownloadView) (a b : Option (List Took)) → shown ≡ text → Gave a b (TakesAnswers shown u m)
    → IfOk result (λ next. SendsNext m v next) → IfOk result (λ next. Gave a b (NextIs text next u v))
next-gave shown text (Ok next) u m v a b same p s = next-is text next u m v a b (subst (λ (x : List ℕ). Gave a b (TakesAnswers x u m)) same p) s
next-gave shown text (Err e) u m v a b same p s = tt
