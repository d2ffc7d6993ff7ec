-- A read shows the bytes that this client wrote before: they are pending as it begins or ends, or were made stable before it began.
use Rattle.core_session.proofs.Prelude.{◌≡◌, ◌<◌, ◌≤◌, ◌+◌, ◌⊎◌, inl, inr, ℕ, suc, Bool, true, false, nat_eq, List, ◌++◌, length, length-append, Option, Some, None, slice_get, refl, sym, ap, subst, ◌∙◌, append_assoc, arith, eqb-true, eqb-false, Verf, IsOpen, Entry, Op, Fresh, History, Lawful, Once, ReadsBytes, SettledBy, MadeFirm, at_once, by_commit, IsOf, Terms, Wrote, Touched, written, At-below, writes-byte, Mounted, Machine, machine_of, Setup, View, KnowsRoot, GoesWith, always-later, pending_in, KeepsBriefly, IsSaved, OnlySetsUp, PutsNamed}
use Rattle.law_own.proofs.OneByte.{HasByte, wrote-byte, one-byte}
use Rattle.nfs_file_calls.specs.declared.call.FileCall.TheVariants as files
use Rattle.world_model.specs.declared.op.Op.TheVariants as ops
use Rattle.claims.specs.Pending.{Pending}
use Rattle.core_session.proofs.current.ReadsRecent.{file-of, reads-recent}
use Rattle.core_session.proofs.current.ReadsTaken.{of-grows}
use Rattle.core_session.proofs.settled.Leaving.{are-saved}
use Rattle.core_session.proofs.settled.Synced.{saved, all-saved}
use Rattle.core_session.proofs.shown.Current.{StandsAll, keeps-stands}
use Rattle.core_session.proofs.shown.Moment.{newest, pending-during}
use Rattle.core_session.proofs.syncs.WatchingAlong.{KeepsWatching}
use Rattle.core_session.specs.kept.OwnRead.{OwnBytesRead, ReadsEndRightly}
use Rattle.core_session.proofs.kept.Kept.{stands-all}
use Rattle.core_session.proofs.kept.OwnEvidence.{first-evidence}
use Rattle.core_session.proofs.kept.OwnStated.{Stated}
use Rattle.core_session.proofs.kept.OwnReads.{shown-saved, end-saved}
use Rattle.core_session.proofs.kept.ReadFound.{StampLaws}
use Rattle.core_session.proofs.kept.ReadTaken.{AllOf, HadRead, had-read}
use Rattle.core_session.proofs.kept.StateKept.{stated-at}
use Rattle.core_session.proofs.kept.Stands.{Case, Stands}
use Rattle.core_session.proofs.kept.Written.{case-of}
use Rattle.core_answers.specs.pages.True.{GivenTrue}

-- of the stamps nothing is said
abbrev no-stamps : (mo : ℕ → Op → Machine) (setup : Setup) → StampLaws mo setup
no-stamps mo setup = record {
  M = λ h v. Unit {0};
  O = λ x h file stamp. Unit {0};
  keeps = record {
    fresh = λ h v may up fresh. tt;
    stirs = λ h old new at known passed t i. tt;
    starts = λ h old new lane line op now r found known idle fits t i. tt;
    takes = λ h old new rec xid call at r found known fin hears named waits there t i. tt;
    answers = λ h old new at lane line answer known a i. tt;
    same = λ h e old new plain lanes shelf wsize moments calls i. tt;
    drops = λ h old fin rec r found known hears none i. tt;
  };
  grows = λ x h e file stamp s. tt;
  known = λ x h v late m file stamp at. tt;
  step = λ x h before after is late v m call came sent turn soon told shelf same later step file stamp at. tt;
}

-- whether it is this byte
is-byte : (a : Option ℕ) (byte : ℕ) → (a ≡ Some byte) ⊎ (a ≡ Some byte → ⊥)
is-byte None byte = inr (λ is. cc)
is-byte (Some b) byte = by (nat_eq b byte) refl
  where
    by : (c : Bool) → nat_eq b byte ≡ c → (Some b ≡ Some byte) ⊎ (Some b ≡ Some byte → ⊥)
    by true d = inl (ap Some (eqb-true b byte d))
    by false d = inr (λ is. eqb-false b byte d (cc is))

-- what was made stable by a place was so by a later one
firm-later : (t : History) (middle to more : ℕ) (f : List ℕ) (firm : ℕ) (verf : Verf) → to ≤ more → MadeFirm t.entries middle to f firm verf → MadeFirm t.entries middle more f firm verf
firm-later t middle to more f firm verf le (at_once some) = at_once some
firm-later t middle to more f firm verf le (by_commit wcc its same asked) = by_commit wcc its same (record {
  xid = asked.xid;
  bytes = asked.bytes;
  heard = record {
    sent_at = asked.heard.sent_at;
    record_sent = asked.heard.record_sent;
    got_at = asked.heard.got_at;
    sent = asked.heard.sent;
    spells = asked.heard.spells;
    got = asked.heard.got;
    after = asked.heard.after;
    later = asked.heard.later;
    before = let low = asked.heard.before in omega (arith, low, le);
  };
  spells = asked.spells;
})

saved-later : (t : History) (w to more p : ℕ) (f : List ℕ) (i v : ℕ) → to ≤ more → IsSaved t.entries w to p f i v → IsSaved t.entries w more p f i v
saved-later t w to more p f i v le s = record {
  from = s.from;
  after = s.after;
  evidence = record {
    middle = s.evidence.middle;
    firm = s.evidence.firm;
    verf = s.evidence.verf;
    by = let low = s.evidence.by in omega (arith, low, le);
    wrote = s.evidence.wrote;
    made = firm-later t s.evidence.middle to more f s.evidence.firm s.evidence.verf le s.evidence.made;
  };
  alike = s.alike;
}

module _ (m : Mounted) (terms : Terms) (setup : Setup) (t : History) (v : View) (g : GoesWith m terms setup t.entries v) (noac : m.noac ≡ terms.modes.noac)
    (brief : terms.modes.nocto ≡ true → KeepsBriefly terms.modes setup t.entries) (roots : KnowsRoot terms.origin t.entries m.root) (puts : PutsNamed t.entries) (alone : OnlySetsUp t.entries)
    (lawful : Lawful t) (fresh : Fresh t) (given : GivenTrue setup.pages t) (once : Once t.entries)
    (r y o : ℕ) (f : List ℕ) (offset count : ℕ) (bytes : List ℕ) (read : ReadsBytes terms.modes t.entries r y o f offset count bytes)
    (w e i byte : ℕ) (wrote : Wrote terms.modes t.entries w e f i byte) (early : e < r) (untouched : Touched terms.modes terms.origin t w y f i → ⊥) where
  ends : y < length t.entries
  ends = At-below t.entries y _ read.ended.answered

  case_ : Case terms t.entries w e y f i byte
  case_ = case-of terms t.entries w e y f i byte wrote (let low = ends in omega (arith, low))

  -- ---- where it was made stable

  stated-for : (s : IsSaved t.entries w r y f i byte)
      → Stated m setup t.entries s.evidence.wrote.asked.heard.got_at f (files.Write f s.evidence.wrote.offset s.evidence.wrote.how s.evidence.wrote.bytes)
  stated-for s h rest rec is here old reached found xid call waits at number machine there number_is made asked =
      let x = s.evidence.wrote in
      let k = stated-at m terms.modes g.nocto setup (λ may. (brief may).lasts) h old reached found xid call waits made f x.offset x.how x.bytes asked i byte x.covers in
      (k.state, k.there)

  saved-shows : IsSaved t.entries w r y f i byte → (k : ℕ) → k < count → i ≡ offset + k → slice_get bytes k ≡ Some byte
  saved-shows s =
      shown-saved m terms setup t v g noac brief roots puts alone lawful fresh given once r y o f offset count bytes read w e i byte wrote early untouched s (stated-for s)

  saved-ends : IsSaved t.entries w r y f i byte → length bytes < count → offset + length bytes ≤ i → ⊥
  saved-ends s =
      end-saved m terms setup t v g noac brief roots puts alone lawful fresh given once r y o f offset count bytes read w e i byte wrote early untouched s (stated-for s)

  -- ---- the read's story

  record Watched (h : List Entry) (vw : View) : Type 0 where
    pending : StandsAll m terms setup t.entries v g roots puts f h vw
    stands : Stands m terms setup t.entries w e false r y f i byte h vw

  watching : KeepsWatching (machine_of m) setup Watched
  watching =
      let a = keeps-stands m terms setup t.entries v g roots puts f in
      let b = stands-all m terms setup t.entries v g w e y f i byte case_ roots puts r in
      record {
        fresh = λ h u may up fr. record { pending = a.fresh h u may up fr; stands = b.fresh h u may up fr };
        stirs = λ h old new at k s st. record { pending = a.stirs h old new at k s st.pending; stands = b.stirs h old new at k s st.stands };
        starts = λ h old new lane line op now rr found k idle fits s st. record {
          pending = a.starts h old new lane line op now rr found k idle fits s st.pending;
          stands = b.starts h old new lane line op now rr found k idle fits s st.stands;
        };
        takes = λ h old new rec xid call at rr found k fin hears named waits there s st. record {
          pending = a.takes h old new rec xid call at rr found k fin hears named waits there s st.pending;
          stands = b.takes h old new rec xid call at rr found k fin hears named waits there s st.stands;
        };
        answers = λ h old new at lane line answer rr found k r2 found2 open_line s st. record {
          pending = a.answers h old new at lane line answer rr found k r2 found2 open_line s st.pending;
          stands = b.answers h old new at lane line answer rr found k r2 found2 open_line s st.stands;
        };
        same = λ h e_ old new rr found k plain noted sends lanes shelf wsize calls st. record {
          pending = a.same h e_ old new rr found k plain noted sends lanes shelf wsize calls st.pending;
          stands = b.same h e_ old new rr found k plain noted sends lanes shelf wsize calls st.stands;
        };
      }

  abbrev J : List Entry → View → Type 0
  J = AllOf (machine_of m) setup terms.modes t.entries v Watched (no-stamps (machine_of m) setup)

  s : HadRead (machine_of m) setup terms.modes t.entries v Watched (no-stamps (machine_of m) setup) t.entries r y (ops.Read read.slot offset count) offset count bytes
  s = had-read m terms setup t.entries v g noac (λ may. (brief may).lasts) Watched watching (no-stamps (machine_of m) setup) read.lane r read.slot offset count y bytes read.ended

  of : IsOf terms.modes t.entries r (ops.Read read.slot offset count) s.shown.file
  of = subst (λ (h : List Entry). IsOf terms.modes h r (ops.Read read.slot offset count) s.shown.file) (sym s.is)
      (always-later (λ h. IsOf terms.modes h r (ops.Read read.slot offset count) s.shown.file)
      (λ h a. of-grows (machine_of m) setup terms.modes h a r (ops.Read read.slot offset count) s.shown.file) s.before s.after s.shown.of)

  same : f ≡ s.shown.file
  same = file-of m terms setup t.entries v g r y o f offset count bytes read s.shown.file of

  -- ---- what is pending during the read is this byte

  its-byte : HasByte t.entries w i byte
  its-byte = wrote-byte terms.modes t.entries w e f i byte wrote

  given-is : (n b : ℕ) → r ≤ n → n ≤ y → Pending terms.modes terms.origin t.entries f i n b → b ≡ byte
  given-is n b late soon p = by (nat_eq p.w w) refl
    where
      by : (c : Bool) → nat_eq p.w w ≡ c → b ≡ byte
      by true d = one-byte t.entries w i b byte (subst (λ (q : ℕ). HasByte t.entries q i b) (eqb-true p.w w d) (writes-byte terms.modes terms.origin t.entries p.w f i b p.writes)) its-byte
      by false d =
          let under = p.before in
          absurd (untouched (written p.w b (eqb-false p.w w d) (omega (arith, under, soon)) (λ answered. p.uncovered w e byte answered wrote (omega (arith, early, late))) p.writes p.unrefused))

  part : (before after : List Entry) → s.before ≡ before ++ after → before ++ (after ++ s.after) ≡ t.entries
  part before after is = sym (append_assoc before after s.after) ∙ ap (λ (z : List Entry). z ++ s.after) (sym is) ∙ sym s.is

  within-read : (before after : List Entry) → s.before ≡ before ++ after → length before ≤ y
  within-read before after is =
      let long = length-append before after in
      let whole = ap (λ (z : List Entry). length z) is in
      let there = s.there in
      omega (arith, long, whole, there)

  pending-is : (before after : List Entry) → s.before ≡ before ++ after → (view : View) → J before view → r ≤ length before → (b : ℕ) → pending_in view f i ≡ Some b → b ≡ byte
  pending-is before after is view good late b there =
      let n = newest view f i b there in
      given-is (length before) b late (within-read before after is) (subst (Pending terms.modes terms.origin t.entries f i (length before)) n.byte_is
      (pending-during m terms setup t.entries v g roots puts f i before (after ++ s.after) (part before after is) view ((good.watched.pending i).phase (after ++ s.after) (part before after is)) n.cell n.there r y o
      offset count bytes read late (within-read before after is) good.on))

  -- ---- where nothing is pending as it begins

  then-saved : pending_in s.shown.own_shown.first.view f i ≡ None → (IsSaved t.entries w r y f i byte → ⊥) → ⊥
  then-saved none not =
      let first = s.shown.own_shown.first in
      not (saved t.entries w r y f i byte (first-evidence m terms setup t v g roots puts r y o f offset count bytes read w e i byte wrote early untouched unsettled
      first.before (first.after ++ s.after) (part first.before first.after first.is) first.at first.view first.good.on first.passed
      (subst (IsOpen first.view.shelf.opens) (sym same) s.shown.own_shown.held) first.good.watched.stands none))
    where
      unsettled : (j : ℕ) → SettledBy terms.modes t.entries w e f j → j < r → ⊥
      unsettled j settled low =
          are-saved terms.modes terms.origin t (all-saved m terms setup t v g roots puts) w e f i byte j wrote settled y (let later = read.ended.later in omega (arith, low, later)) (let past = ends in omega (arith, past)) untouched
          (λ its. not (saved-later t w (suc j) r y f i byte (omega (arith, low)) its))

  -- ---- the answer

  pub shows : (k : ℕ) → k < count → i ≡ offset + k → slice_get bytes k ≡ Some byte
  shows k low place = by_last (pending_in s.shown.own_shown.last.view f i) refl
    where
      at-place : (view : View) (b : Option ℕ) → pending_in view f i ≡ b → pending_in view s.shown.file (offset + k) ≡ b
      at-place view b is = subst (λ (z : List ℕ). pending_in view z (offset + k) ≡ b) same (subst (λ (n : ℕ). pending_in view f n ≡ b) place is)

      by_first : pending_in s.shown.own_shown.last.view f i ≡ None → (b : Option ℕ) → pending_in s.shown.own_shown.first.view f i ≡ b → slice_get bytes k ≡ Some byte
      by_first none (Some b) is =
          s.shown.own_shown.then_ k b low (at-place s.shown.own_shown.last.view None none) (at-place s.shown.own_shown.first.view (Some b) is)
          ∙ ap Some (pending-is s.shown.own_shown.first.before s.shown.own_shown.first.after s.shown.own_shown.first.is s.shown.own_shown.first.view s.shown.own_shown.first.good (let at = s.shown.own_shown.first.at in omega (arith, at)) b is)
      by_first none None is = elim (is-byte (slice_get bytes k) byte) [
        | inl so ↦ so
        | inr not ↦ absurd (then-saved is (λ k_saved. not (saved-shows k_saved k low place)))
      ]

      by_last : (b : Option ℕ) → pending_in s.shown.own_shown.last.view f i ≡ b → slice_get bytes k ≡ Some byte
      by_last (Some b) is =
          s.shown.own_shown.now k b low (at-place s.shown.own_shown.last.view (Some b) is) ∙ ap Some (pending-is s.shown.own_shown.last.before s.shown.own_shown.last.after s.shown.own_shown.last.is s.shown.own_shown.last.view s.shown.own_shown.last.good s.shown.own_shown.last.at b is)
      by_last None is = by_first is (pending_in s.shown.own_shown.first.view f i) refl

  pub ends-past : length bytes < count → offset + length bytes ≤ i → ⊥
  ends-past short low =
      then-saved (subst (λ (z : List ℕ). pending_in s.shown.own_shown.first.view z i ≡ None) (sym same) (s.shown.own_shown.beyond_then short i low)) (λ its. saved-ends its short low)

pub own-bytes-read : OwnBytesRead
own-bytes-read m terms setup t v g noac brief roots puts alone lawful fresh given once r y o f offset count bytes read w e k byte wrote early low untouched =
    shows m terms setup t v g noac brief roots puts alone lawful fresh given once r y o f offset count bytes read w e (offset + k) byte wrote early untouched k low refl

pub reads-end-rightly : ReadsEndRightly
reads-end-rightly m terms setup t v g noac brief roots puts alone lawful fresh given once r y o f offset count bytes read few = record {
  short = (reads-recent m terms setup t v g noac brief lawful fresh given r y o f offset count bytes read).short few;
  own = λ w e i byte wrote early past untouched.
      ends-past m terms setup t v g noac brief roots puts alone lawful fresh given once r y o f offset count bytes read w e i byte wrote early untouched few past;
}
