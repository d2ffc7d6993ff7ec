-- A turn: lines begin and are answered, and then records are sent.
use Rattle.std.proofs.Common.{◌≡◌, inl, inr, ℕ, List, [], ◌∷◌, ◌++◌, Option, Result, Ok, Err, refl, sym, ap, ◌∙◌, append-nil, append_assoc}
use Rattle.xdr_codec.specs.declared.blob.Memory.{Memory}
use Rattle.world_model.specs.declared.answer.Answer.{Answer}
use Rattle.world_model.specs.declared.entry.Entry.{Entry}
use Rattle.world_model.specs.declared.entry.Entry.TheVariants.{Began, Answered, Clock}
use Rattle.world_model.specs.declared.op.Op.{Op}
use Rattle.world_model.specs.History.{History}
use Rattle.world_model.specs.Told.{Relates}
use Rattle.nfs_script.specs.declared.script.ScriptLine.{ScriptLine}
use Rattle.lane_session.specs.declared.halt.Halt.{Halt}
use Rattle.lane_session.specs.declared.running.Session.{Session}
use Rattle.lane_session.specs.Going.{GoesOn, CutsOff, NotesBeginning, TellsAnswer}
use Rattle.lane_session.specs.Labels.{told_by}
use Rattle.lane_session.specs.Running.{NotesStart, Quietly}
use Rattle.lane_session.specs.Streams.{Passes}
use Rattle.lane_session.specs.Turns.{AreMarks, AddsMarks, InTime, WritesInTime}
use Rattle.lane_session.proofs.Labels.{told-append}
use Rattle.lane_session.proofs.Passing.{relates_same, relates_less, relates_then}
use Rattle.lane_session.proofs.Reaching.{relates-both}

-- ---- marks alone

are-append : (a b : List Entry) → AreMarks a → AreMarks b → AreMarks (a ++ b)
are-append [] b p q = q
are-append (e ∷ a) b p q = (p.0, are-append a b p.1 q)

adds-then : (h k l : List Entry) → AddsMarks h k → AddsMarks k l → AddsMarks h l
adds-then h k l p q = record {
  more = p.more ++ q.more;
  is = q.is ∙ ap (λ (t : List Entry). t ++ q.more) p.is ∙ append_assoc h p.more q.more;
  each = are-append p.more q.more p.each q.each;
}

pub marks_none : (a : Option History) → Relates a a AddsMarks
marks_none a = relates_same a AddsMarks (λ h. record { more = []; is = sym (append-nil h); each = tt })

pub marks_then : (a b c : Option History) → Relates a b AddsMarks → Relates b c AddsMarks → Relates a c AddsMarks
marks_then a b c p q = relates_then a b c AddsMarks AddsMarks AddsMarks adds-then p q

notes-marks : (lane line : ℕ) (op : Op) (ms : ℕ) (result : Result ℕ Memory) (h k : List Entry) → NotesBeginning lane line op ms result h k → AddsMarks h k
notes-marks lane line op ms (Ok now) h k n = record { more = Clock ms ∷ Began lane line op ∷ []; is = n.1; each = (tt, (tt, tt)) }
notes-marks lane line op ms (Err e) h k (inl n) = record { more = []; is = n ∙ sym (append-nil h); each = tt }
notes-marks lane line op ms (Err e) h k (inr n) = record { more = Clock ms ∷ []; is = n; each = (tt, tt) }

pub marks_notes : (a b : Option History) (lane line : ℕ) (op : Op) (ms : ℕ) (result : Result ℕ Memory) → Relates a b (NotesBeginning lane line op ms result) → Relates a b AddsMarks
marks_notes a b lane line op ms result r = relates_less a b (NotesBeginning lane line op ms result) AddsMarks (λ h k n. notes-marks lane line op ms result h k n) r

tells-marks : {T : Type 0} → (label : List ℕ) (lane line : ℕ) (answer : Answer) (result : Result T Halt) (text : List ℕ) (h k : List Entry) → TellsAnswer label lane line answer result text h k → AddsMarks h k
tells-marks label lane line answer (Ok x) text h k t = record { more = Answered lane line answer ∷ []; is = t.0; each = (tt, tt) }
tells-marks label lane line answer (Err halt) text h k (inl t) = record { more = []; is = t.0 ∙ sym (append-nil h); each = tt }
tells-marks label lane line answer (Err halt) text h k (inr t) = record { more = Answered lane line answer ∷ []; is = t.0; each = (tt, tt) }

pub marks_tells : {T : Type 0} → (a b : Option History) (label : List ℕ) (lane line : ℕ) (answer : Answer) (result : Result T Halt) (text : List ℕ)
    → Relates a b (TellsAnswer label lane line answer result text) → Relates a b AddsMarks
marks_tells a b label lane line answer result text r =
    relates_less a b (TellsAnswer label lane line answer result text) AddsMarks (λ h k t. tells-marks label lane line answer result text h k t) r

-- ---- the whole turn

tails : (x : ℕ) (xs ys : List ℕ) → x ∷ xs ≡ x ∷ ys → xs ≡ ys
tails x xs ys e = cc

same-end : (xs ys zs : List ℕ) → xs ++ ys ≡ xs ++ zs → ys ≡ zs
same-end [] ys zs e = e
same-end (x ∷ xs) ys zs e = same-end xs ys zs (tails x (xs ++ ys) (xs ++ zs) e)

-- the text is that of the marks that were added
written-is : (label text : List ℕ) (h k : List Entry) → told_by label k ≡ told_by label h ++ text → (a : AddsMarks h k) → text ≡ told_by label a.more
written-is label text h k shown a =
    same-end (told_by label h) text (told_by label a.more) (sym shown ∙ ap (told_by label) a.is ∙ told-append label h a.more)

module _ (label : List ℕ) (script : List ScriptLine) (s t : Session) (given text : List ℕ) where
  -- lines, and no exchange
  lines-alone : (h k : List Entry) → GoesOn label script s t given text h k → AddsMarks h k → InTime label text h k
  lines-alone h k g a = record {
    lines = a.more;
    records = [];
    is = a.is ∙ ap (λ (x : List Entry). h ++ x) (sym (append-nil a.more));
    marked = a.each;
    unmarked = refl;
    written = written-is label text h k g.shown a;
  }

  -- lines, and then an exchange
  lines-then : (h k l : List Entry) → GoesOn label script s t given text h k → AddsMarks h k → Quietly k l → InTime label text h l
  lines-then h k l g a q = record {
    lines = a.more;
    records = q.more;
    is = q.is ∙ ap (λ (x : List Entry). x ++ q.more) a.is ∙ append_assoc h a.more q.more;
    marked = a.each;
    unmarked = q.unmarked;
    written = written-is label text h k g.shown a;
  }

  in-time : {T : Type 0} → (result : Result T Halt) (h k : List Entry) → InTime label text h k → WritesInTime label result text h k
  in-time (Ok x) h k i = i
  in-time (Err e) h k i = inl i

-- ---- where clock, link and sink tell

module _ (r0 r1 : Option (List ℕ)) (t0 t1 : Option History) (w0 w1 : Option (List ℕ)) (label : List ℕ) (script : List ScriptLine) (s : Session) where
  pub turn_rests : (t : Session) → Passes r0 r1 t0 t1 w0 w1 (GoesOn label script s t) → Relates t0 t1 AddsMarks → Passes r0 r1 t0 t1 w0 w1 (λ given text h k. InTime label text h k)
  turn_rests t p m = record {
    given = p.given;
    read = p.read;
    text = p.text;
    added = p.added;
    told = relates_less t0 t1 _ (λ h k. InTime label p.text h k) (λ h k x. lines-alone label script s t p.given p.text h k x.0 x.1)
        (relates-both t0 t1 (λ h k. GoesOn label script s t p.given p.text h k) AddsMarks p.told m);
  }

  -- cut off among the lines
  pub turn_breaks : (T : Type 0) (halt : Halt) → Passes r0 r1 t0 t1 w0 w1 (CutsOff label script s halt) → Relates t0 t1 AddsMarks
      → Passes r0 r1 t0 t1 w0 w1 (λ given text h k. WritesInTime {T = T} label (Err halt) text h k)
  turn_breaks T halt p m = record { given = p.given; read = p.read; text = p.text; added = p.added; told = relates_less t0 t1 AddsMarks _ (λ h k x. inr x) m }

  pub turn_goes : (T : Type 0) (t : Session) (t2 : Option History) (result : Result T Halt) → Passes r0 r1 t0 t1 w0 w1 (GoesOn label script s t) → Relates t0 t1 AddsMarks → Relates t1 t2 Quietly
      → Passes r0 r1 t0 t2 w0 w1 (λ given text h k. WritesInTime label result text h k)
  turn_goes T t t2 result p m q = record {
    given = p.given;
    read = p.read;
    text = p.text;
    added = p.added;
    told = relates_then t0 t1 t2 _ Quietly (λ h k. WritesInTime label result p.text h k)
        (λ h k l x y. in-time label script s t p.given p.text result h l (lines-then label script s t p.given p.text h k l x.0 x.1 y))
        (relates-both t0 t1 (λ h k. GoesOn label script s t p.given p.text h k) AddsMarks p.told m) q;
  }
