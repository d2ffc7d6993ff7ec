-- Each byte that was pending is one that an operation gave.
use Rattle.core_answers.proofs.Prelude.{◌≡◌, ◌+◌, ℕ, List, [], ◌∷◌, ◌++◌, take, Option, Some, None, refl, sym, subst, append_assoc, of_file, Entry, Modes, machine_of, Mounted, Setup, begins-unbegun, IsShown}
use Rattle.std.proofs.Common.{append-nil}
use Rattle.core_answers.specs.pages.Read.{WasPending}
use Rattle.write_back.specs.Segments.{Cell, cell_at, byte_of}
use Rattle.core_answers.specs.pages.Read as shown
use Rattle.core_answers.proofs.pages.ReadsHeld.{reads-held}
use Rattle.core_answers.proofs.pages.ReadsShown.{reads-shown}
use Rattle.core_answers.specs.writes.Written.{IsWritten}
use Rattle.core_answers.proofs.writes.Given.{cell-given}
use Rattle.core_answers.proofs.writes.PendingWritten.{Known_, keeps-written, written-later}
use Rattle.core_answers.specs.reads.From.{IsFrom, by_client, by_server, by_end, ReadsGiven, ReadsFrom}
use Rattle.core_answers.proofs.reads.Passed.{passed-along}

written-more : (m : Modes) (h more : List Entry) (f : List ℕ) (place byte : ℕ) → IsWritten m h f place byte → IsWritten m (h ++ more) f place byte
written-more m h [] f place byte w = subst (λ (k : List Entry). IsWritten m k f place byte) (sym (append-nil h)) w
written-more m h (e ∷ more) f place byte w =
    subst (λ (k : List Entry). IsWritten m k f place byte) (append_assoc h (e ∷ []) more) (written-more m (h ++ e ∷ []) more f place byte (written-later m h e f place byte w))

module _ (m : Modes) (mounted : Mounted) (same : mounted.nocto ≡ m.nocto) (setup : Setup) where
  was-written : (h : List Entry) (x : ℕ) (file : List ℕ) (place v : ℕ) → WasPending (machine_of mounted) setup h x file place v → IsWritten m h file place v
  was-written h x file place v p =
      subst (λ (k : List Entry). IsWritten m k file place v) (sym p.is) (written-more m p.before p.after file place v (by (cell_at (of_file file p.view.shelf.back).segments place) refl p.pending))
    where
      all : Known_ m p.before p.view
      all = (passed-along (machine_of mounted) (begins-unbegun mounted) setup (λ h v. Known_ m h v) (keeps-written m mounted same setup) p.before p.view p.passed).is

      by : (o : Option Cell) → cell_at (of_file file p.view.shelf.back).segments place ≡ o → byte_of o ≡ Some v → IsWritten m p.before file place v
      by None here is = absurd (let no_way : None ≡ Some v = is in cc)
      by (Some cell) here is =
          subst (IsWritten m p.before file place) (let same_byte : Some cell.byte ≡ Some v = is in cc)
          (cell-given (λ place byte number. IsWritten m p.before file place byte) (of_file file p.view.shelf.back).segments place cell (all.back.file file).segments here)

  from-shown : (h : List Entry) (x : ℕ) (file server : List ℕ) (k place v : ℕ) → IsShown (machine_of mounted) setup h x file server k place v
      → IsFrom m h file server k place v
  from-shown h x file server k place v (shown.own p) = by_client (was-written h x file place v p)
  from-shown h x file server k place v (shown.served is) = by_server is
  from-shown h x file server k place v (shown.empty is past) = by_end is past

pub reads-given : ReadsGiven
reads-given m terms setup h v g lane x slot offset count y bytes ended =
    let r = reads-shown m terms setup h v g lane x slot offset count y bytes ended in
    record {
      file = r.file;
      of = r.of;
      server = r.server;
      found = r.found;
      each = λ k b is. from-shown terms.modes m g.nocto setup (take y h) x r.file r.server k (offset + k) b (r.each k b is);
    }

pub reads-from : ReadsFrom
reads-from m terms setup t v g lawful fresh given lane x slot offset count y bytes ended =
    let r = reads-held m terms setup t v g lawful fresh given lane x slot offset count y bytes ended in
    record {
      file = r.file;
      of = r.of;
      server = r.server;
      held = r.held;
      each = λ k b is. from-shown terms.modes m g.nocto setup (take y t.entries) x r.file r.server k (offset + k) b (r.each k b is);
    }
