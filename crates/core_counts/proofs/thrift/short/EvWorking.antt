-- What each step of an operation keeps, beside the other operations of one file, of what is known of all that is pending.
use Rattle.core_counts.proofs.Prelude.{◌≡◌, ◌≢◌, ◌≤◌, ◌+◌, ◌⊎◌, inl, inr, ℕ, Bool, true, false, List, Option, Some, None, Result, refl, sym, subst, arith, Fault, Reply, Pending, of_file, with_bytes, OnFile, with_cut, nothing, same-or, LaneFile, Turn, Step, Saving, is_full, SitsWith, IsUnderWay, Job, Owner, Content, ContentReplies, Shelf}
use Rattle.core_facts.proofs.Orders.{joins}
use Rattle.step_saves.specs.Saves.{IsClearUpTo}
use Rattle.core_session.proofs.syncs.Jobs.{Fact, NoFile, JobLaws, JobReplies}
use Rattle.core_session.proofs.syncs.Levels.{SaveNow, Before, Ends, Holds, BesideSo, level, level-replies, stands-it, out-it, alone-first, way-given, way-cut}
use Rattle.open_files.specs.Slots.{IsOpen}
use Rattle.world_model.specs.declared.answer.Answer.TheVariants as answers
use Rattle.client_shelf.specs.LaneFiles.{added, left, is_other}
use Rattle.client_shelf.specs.declared.step.Step.TheVariants as nexts
use Rattle.file_ops.specs.Quiet.{is_quiet}
use Rattle.file_ops.proofs.Walks.{SamePieces, added-pieces, cut-pieces, given-pieces}
use Rattle.core_answers.proofs.writes.Firsts.{first-left, first-added}
use Rattle.step_saves.proofs.Staying.{later-on, others-on}
use Rattle.core_session.proofs.syncs.Contents.{same-free, same-quiet}
use Rattle.std.specs.List.{list_any}

-- What else a step makes of what is known: C before bytes come in, D afterwards, and E at a refusal, or where the file was cut.
pub record Moves (C D E : ℕ → Pending → Type 0) (A : List ℕ → ℕ → List ℕ → Type 0) (W : Type 0) (Z : Bool → Shelf → Type 0) (Cut : List ℕ → ℕ → ℕ → Type 0) (B : List ℕ → Type 0) (next : Step) : Type 0 where
  pub adds : (file : List ℕ) (offset : ℕ) (bytes : List ℕ) (q : ℕ) (b after : Pending) → W → A file offset bytes → is_full bytes b ≡ false
      → OnFile b after file (with_bytes offset bytes (q + 1) (of_file file b)) → C q b → D (q + 1) after × B file
  pub enough : (q : ℕ) (b : Pending) → C q b → E q b
  pub less : (q : ℕ) (b : Pending) → D q b → E q b
  pub cuts : (file : List ℕ) (size upto q : ℕ) (b after : Pending) → Cut file size upto → is_quiet file b ≡ true → OnFile b after file (with_cut size upto (of_file file b)) → C q b → E q after
  pub gives : (final : Shelf) → Z true final → (file : List ℕ) (fault : Fault) (q : ℕ) (b after : Pending) → next ≡ nexts.Done (answers.Refused fault) → B file
      → (IsOpen final.opens file → ⊥) → OnFile b after file nothing → D q b → E q after

-- a put that gives up what is pending of a file; where Lone holds of the shelf that it leaves, if it is this one
abbrev pub GivesPut : List ℕ → (ℕ → Pending → Type 0) → (List ℕ → Type 0) → (Bool → Shelf → Type 0) → Step → (Shelf → Type 0) → Type 0
GivesPut f E B Z next Lone = (final : Shelf) → Z false final → (file : List ℕ) (fault : Fault) (q : ℕ) (b after : Pending) → next ≡ nexts.Done (answers.Refused fault)
    → (IsOpen final.opens file → ⊥) → (f ≡ file → Lone final) → B file → OnFile b after file nothing → E q b → E q after

-- no other save of the file is under way, and no other put is at it
abbrev pub Alone : (f : List ℕ) (number : ℕ) (base : ℕ → Option (List ℕ)) → Option (Owner f number base) → Shelf → Type 0
Alone f number base owner final = (owner ≡ None) × (list_any (is_other number f) final.puts ≡ false)

abbrev pub any-mark : ℕ → Type 0
any-mark upto = Unit {0}

module _ (f : List ℕ) (wsize : ℕ) (some : 1 ≤ wsize) (turn : Turn) (number : ℕ) (least : 1 ≤ number) (most : number ≤ 16) (base : ℕ → Option (List ℕ)) (owner : Option (Owner f number base)) where
  -- with other contents
  module _ (C D : ℕ → Pending → Type 0) (c : Content wsize turn C) (d : Content wsize turn D) where
    abbrev pub BeforeOf : Fact
    BeforeOf q b o = Before f wsize some turn number least most base owner C c q b o

    before-as : (q : ℕ) (b : Pending) (o : List LaneFile) → ((q : ℕ) (b : Pending) → D q b → C q b) → Before f wsize some turn number least most base owner D d q b o
        → Before f wsize some turn number least most base owner C c q b o
    before-as q b o less p = record { content = less q b p.content; free = p.free; other = p.other; seat = record { seat = p.seat.seat; sits = p.seat.sits } }

    before-adds : (file : List ℕ) (offset : ℕ) (bytes : List ℕ) (q : ℕ) (b after : Pending) (o : List LaneFile) → OnFile b after file (with_bytes offset bytes (q + 1) (of_file file b)) → D (q + 1) after
        → Before f wsize some turn number least most base owner C c q b o → Before f wsize some turn number least most base owner D d (q + 1) after o
    before-adds file offset bytes q b after o on content p = record {
      content = content;
      free = same-free turn.xid b after pieces p.free;
      other = by owner p.other;
      seat = record { seat = p.seat.seat; sits = p.seat.sits };
    }
      where
        pieces : SamePieces b after
        pieces = added-pieces b after file offset (q + 1) bytes on

        by : (w : Option (Owner f number base)) → BesideSo f number base w q b o → BesideSo f number base w (q + 1) after o
        by None other = same-quiet f b after pieces other
        by (Some w) other = (way (same-or file w.s.file), other.1, (let low = other.2 in omega (arith, low)))
          where
            way : (w.s.file ≡ file) ⊎ (w.s.file ≢ file) → IsUnderWay w.s after
            way (inr apart) = others-on w.s b after (on.others w.s.file apart) other.0
            way (inl same) =
                later-on w.s b after offset (q + 1) bytes (c.sound q b p.content) (let low = other.2 in omega (arith, low))
                (subst (λ (g : List ℕ). OnFile b after g (with_bytes offset bytes (q + 1) (of_file g b))) (sym same) on) other.0

  module _ (C E : ℕ → Pending → Type 0) (c : Content wsize turn C) (e : Content wsize turn E) where
    before-cuts : (file : List ℕ) (size upto q : ℕ) (b after : Pending) (o : List LaneFile) → is_quiet file b ≡ true → OnFile b after file (with_cut size upto (of_file file b)) → E q after
        → Before f wsize some turn number least most base owner C c q b o → Before f wsize some turn number least most base owner E e q after o
    before-cuts file size upto q b after o quiet on content p = record {
      content = content;
      free = same-free turn.xid b after (cut-pieces b after file size upto on) p.free;
      other = by owner p.other;
      seat = record { seat = p.seat.seat; sits = p.seat.sits };
    }
      where
        by : (w : Option (Owner f number base)) → BesideSo f number base w q b o → BesideSo f number base w q after o
        by None other = same-quiet f b after (cut-pieces b after file size upto on) other
        by (Some w) other = (way-cut w.s file size upto b after (c.sound q b p.content) quiet on other.0, other.1, other.2)

    before-gives : (file : List ℕ) (q : ℕ) (b after : Pending) (o : List LaneFile) → is_quiet file b ≡ true → OnFile b after file nothing → E q after
        → Before f wsize some turn number least most base owner C c q b o → Before f wsize some turn number least most base owner E e q after o
    before-gives file q b after o quiet on content p = record {
      content = content;
      free = same-free turn.xid b after (given-pieces b after file on) p.free;
      other = by owner p.other;
      seat = record { seat = p.seat.seat; sits = p.seat.sits };
    }
      where
        by : (w : Option (Owner f number base)) → BesideSo f number base w q b o → BesideSo f number base w q after o
        by None other = same-quiet f b after (given-pieces b after file on) other
        by (Some w) other = (way-given w.s file b after quiet on other.0, other.1, other.2)

  module _ (C : ℕ → Pending → Type 0) (c : Content wsize turn C) where
    before-joins : (file : List ℕ) (q : ℕ) (b : Pending) (o : List LaneFile) → Before f wsize some turn number least most base owner C c q b o
        → Before f wsize some turn number least most base owner C c q b (added (record { lane = number; file = file }) (left number o))
    before-joins file q b o p = record {
      content = p.content;
      free = p.free;
      other = by owner p.other;
      seat = record { seat = Some file; sits = joins number base least most p.seat.seat file o p.seat.sits };
    }
      where
        by : (w : Option (Owner f number base)) → BesideSo f number base w q b o
            → BesideSo f number base w q b (added (record { lane = number; file = file }) (left number o))
        by None other = other
        by (Some w) other = (other.0, first-added w.n (record { lane = number; file = file }) (left number o) (first-left w.n number o w.apart other.1), other.2)

  leave : (C : ℕ → Pending → Type 0) (c : Content wsize turn C) (q : ℕ) (b : Pending) (o : List LaneFile) → Before f wsize some turn number least most base owner C c q b o
      → Before f wsize some turn number least most base owner C c q b (left number o)
  leave C c q b o p =
      (level f wsize some turn number least most base owner C c any-mark (Unit {0}) NoFile (λ q b h. tt) (λ file apart of. tt) (λ upto q b t clear h. tt)).leaves q b o p

  -- ---- an operation's job

  module _ (C D E : ℕ → Pending → Type 0) (c : Content wsize turn C) (d : Content wsize turn D) (e : Content wsize turn E) (T : ℕ → Type 0) (X : Type 0) (B : List ℕ → Type 0) (mark : (q : ℕ) (b : Pending) → D q b → T q)
      (apart-ends : (file : List ℕ) → f ≢ file → B file → X) (settles : (upto q : ℕ) (b : Pending) → T upto → IsClearUpTo upto (of_file f b) → D q b → X) (A : List ℕ → ℕ → List ℕ → Type 0)
      (Cut : List ℕ → ℕ → ℕ → Type 0) where
    abbrev pub job : Job
    job = record {
      P = Before f wsize some turn number least most base owner C c;
      R = Before f wsize some turn number least most base owner E e;
      K = Holds f wsize some turn number least most base owner C c any-mark (Unit {0}) NoFile (λ q b h. tt) (λ file apart of. tt) (λ upto q b t clear h. tt);
      L = Ends f wsize some turn number least most base owner C c any-mark (Unit {0}) NoFile (λ q b h. tt) (λ file apart of. tt) (λ upto q b t clear h. tt);
      PA = Before f wsize some turn number least most base owner D d;
      KA = Holds f wsize some turn number least most base owner D d T X B mark apart-ends settles;
      LA = Ends f wsize some turn number least most base owner D d T X B mark apart-ends settles;
      X = X;
      A = A;
      B = B;
      C = Cut;
      S = λ file o. SitsWith number base (Some file) o × B file;
    }

    pub job-laws : (W : Type 0) (Z : Bool → Shelf → Type 0) (next : Step) → Moves C D E A W Z Cut B next → GivesPut f E B Z next (Alone f number base owner) → JobLaws job wsize number turn next W Z
    job-laws W Z next mv puts = record {
      room = level f wsize some turn number least most base owner C c any-mark (Unit {0}) NoFile (λ q b h. tt) (λ file apart of. tt) (λ upto q b t clear h. tt);
      own = level f wsize some turn number least most base owner D d T X B mark apart-ends settles;
      adds = record {
        adds = λ file offset bytes q b after o w given full on p.
            let l = mv.adds file offset bytes q b after w given full on p.content in
            (before-adds C D c d file offset bytes q b after o on l.0 p, l.1);
      };
      gives = λ final z. record {
        gives = λ file fault q b after o n of shut quiet on p. before-gives D E d e file q b after o quiet on (mv.gives final z file fault q b after n of shut on p.content) p;
        same = λ q b o p. before-as E D e d q b o mv.less p;
      };
      stands = λ s q b o h. (stands-it f wsize some turn number least most base owner D d T X B mark apart-ends settles s q b o h, h.ends.of);
      out = λ q b o p. out-it f wsize some turn number least most base owner C c q b o p;
      gives_put = λ final z. record {
        gives = λ file fault q b after o n sits first shut lone quiet on p. before-gives E E e e file q b after o quiet on
            (puts final z file fault q b after n shut
            (λ here. (
              alone-first f wsize some turn number least most base owner E e file q b o here first sits.0 owner refl p.other,
              subst (λ (g : List ℕ). list_any (is_other number g) final.puts ≡ false) (sym here) lone,
            )) sits.1 on p.content) p;
      };
      cuts = record {
        cuts = λ file size upto q b after o short quiet on p. before-cuts C E c e file size upto q b after o quiet on (mv.cuts file size upto q b after short quiet on p.content) p;
        uncut = λ q b o p. before-as E C e c q b o mv.enough p;
        joins_in = λ file q b o p. before-joins C c file q b o p;
        leaves_it = λ q b o p. leave E e q b o p;
      };
      enough = λ q b o p. before-as E C e c q b o mv.enough p;
      less = λ q b o p. before-as E D e d q b o mv.less p;
      leave = λ q b o p. leave E e q b o p;
    }

    pub job-replies : (sent : Turn) (came : Result Reply Fault) (M : Saving → Pending → Type 0) → ContentReplies wsize sent turn came M C → ContentReplies wsize sent turn came M D
        → JobReplies job wsize sent turn came (SaveNow sent M)
    job-replies sent came M rc rd = record {
      room = level-replies f wsize some turn number least most base owner C c any-mark (Unit {0}) NoFile (λ q b h. tt) (λ file apart of. tt) (λ upto q b t clear h. tt) sent came M rc;
      own = level-replies f wsize some turn number least most base owner D d T X B mark apart-ends settles sent came M rd;
    }
