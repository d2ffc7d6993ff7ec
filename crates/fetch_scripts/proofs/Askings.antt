-- The lines of files, one after another.
use Rattle.std.proofs.Common.{◌≡◌, ◌+◌, ℕ, zero, suc, List, [], ◌∷◌, ◌++◌, Bool, true, false, refl, sym, ap, subst, ◌∙◌, append_assoc, append-nil}
use Rattle.copy_plan.specs.Files.{FilesView}
use Rattle.fetch_scripts.specs.declared.span.Span.{Span}
use Rattle.fetch_scripts.specs.Fetches.{AreAsked, Asks, ReadsOn, ended, opened, plan_span, read_all}

pub asks-none : (from : List (List ℕ)) (u : FilesView) (spans : List Span) → Asks from u spans u spans
asks-none from u spans = record { more = []; is = sym (append-nil spans); lines = refl }

asked-then : (from : List (List ℕ)) (u v w : FilesView) (m n : List Span) → AreAsked from u m v → AreAsked from v n w → AreAsked from u (m ++ n) w
asked-then from u v w [] n p q = subst (λ (x : FilesView). AreAsked from x n w) p q
asked-then from u v w (s ∷ m) n p q = (p.0, asked-then from (plan_span from s u) v w m n p.1 q)

pub asks-then : (from : List (List ℕ)) (u v w : FilesView) (a b c : List Span) → Asks from u a v b → Asks from v b w c → Asks from u a w c
asks-then from u v w a b c p q = record {
  more = p.more ++ q.more;
  is = q.is ∙ ap (λ (t : List Span). t ++ q.more) p.is ∙ append_assoc a p.more q.more;
  lines = asked-then from u v w p.more q.more p.lines q.lines;
}

-- a file that is read on
pub asks-span : (from : List (List ℕ)) (span : Span) (u w v : FilesView) (a b : List Span) → span.first ≡ u.all.next → w ≡ opened span.opens (from ++ span.path) u → ReadsOn span w a v b
    → Asks from u a v b
asks-span from span u w v a b first opens r = record {
  more = (record span { reads = r.count; ends = r.over }) ∷ [];
  is = r.is;
  lines = (first, r.lines ∙ ap (λ (x : FilesView). ended r.over (read_all r.count x)) opens);
}
