-- Each byte that a read shows is current.
use Rattle.core_session.proofs.Prelude.{◌≡◌, ◌<◌, ◌≤◌, ◌+◌, ◌⊎◌, inl, inr, ℕ, true, List, ◌++◌, length, length-append, Some, slice_get, sym, ap, subst, ◌∙◌, append_assoc, arith, slice_get_within, of_file, newest_at, Entry, Fresh, History, Lawful, HeldSize, PendingWithin, ReadsBytes, IsOf, Terms, Numbered, Mounted, machine_of, Setup, View, KnowsRoot, GoesWith, always-later, reached-rows, IsEnd, KeepsBriefly, PutsNamed}
use Rattle.claims.specs.ReadTrue.{HeldByte, IsCurrent, own, held, hole, Since}
use Rattle.claims.specs.Slots.{Opens}
use Rattle.world_model.specs.declared.op.Op.TheVariants as ops
use Rattle.claims.specs.Pending.{Pending}
use Rattle.core_session.proofs.current.ReadsRecent.{opens-front, found-held, end-held, file-of}
use Rattle.core_session.proofs.current.ReadsTaken.{of-grows}
use Rattle.core_session.proofs.pending.Standing.{Stands}
use Rattle.core_session.proofs.pending.Unsettled.{stands-all}
use Rattle.core_answers.specs.pages.True.{GivenTrue}
use Rattle.core_session.specs.shown.Shown.{ReadsCurrent}
use Rattle.core_session.proofs.shown.Answer.{IsShown}
use Rattle.core_session.proofs.shown.Answer as shown
use Rattle.core_session.proofs.shown.Moment.{newest, pending-during}
use Rattle.core_session.proofs.shown.Taken.{AllOf, HadRead, had-read}
use Rattle.core_session.proofs.syncs.WatchingAlong.{KeepsWatching}

-- ---- what is known of the newest bytes of a file, at all its places

module _ (m : Mounted) (terms : Terms) (setup : Setup) (H : List Entry) (V : View) (g : GoesWith m terms setup H V) (roots : KnowsRoot terms.origin H m.root) (puts : PutsNamed H) (f : List ℕ) where
  abbrev pub StandsAll : List Entry → View → Type 0
  StandsAll h v = (i : ℕ) → Stands m terms setup H f i h v

  each : (i : ℕ) → KeepsWatching (machine_of m) setup (Stands m terms setup H f i)
  each i = stands-all m terms setup H V g roots puts f i

  pub keeps-stands : KeepsWatching (machine_of m) setup StandsAll
  keeps-stands = record {
    fresh = λ h v may up fresh i. (each i).fresh h v may up fresh;
    stirs = λ h old new at k t st i. (each i).stirs h old new at k t (st i);
    starts = λ h old new lane line op now r found k idle fits t st i. (each i).starts h old new lane line op now r found k idle fits t (st i);
    takes = λ h old new rec xid call at r found k fin hears named waits there t st i. (each i).takes h old new rec xid call at r found k fin hears named waits there t (st i);
    answers = λ h old new at lane line answer r found k r2 found2 open_line a st i. (each i).answers h old new at lane line answer r found k r2 found2 open_line a (st i);
    same = λ h e old new r found k plain noted sends lanes shelf wsize calls st i. (each i).same h e old new r found k plain noted sends lanes shelf wsize calls (st i);
  }

-- ---- a read

module _ (m : Mounted) (terms : Terms) (setup : Setup) (t : History) (v : View) (g : GoesWith m terms setup t.entries v) (noac : m.noac ≡ terms.modes.noac)
    (brief : terms.modes.nocto ≡ true → KeepsBriefly terms.modes setup t.entries) (roots : KnowsRoot terms.origin t.entries m.root) (puts : PutsNamed t.entries) (lawful : Lawful t) (fresh : Fresh t)
    (given : GivenTrue setup.pages t)
    (x y o : ℕ) (f : List ℕ) (offset count : ℕ) (bytes : List ℕ) (read : ReadsBytes terms.modes t.entries x y o f offset count bytes) where
  abbrev W : List Entry → View → Type 0
  W = StandsAll m terms setup t.entries v g roots puts f

  abbrev J : List Entry → View → Type 0
  J = AllOf (machine_of m) setup terms.modes t.entries v W

  -- a byte that was pending in a view through which the core passed during the read
  pending-at : (before after : List Entry) → before ++ after ≡ t.entries → (view : View) → J before view → x ≤ length before → length before ≤ y → (place byte : ℕ)
      → newest_at (of_file f view.shelf.back).segments place ≡ Some byte → PendingWithin terms.modes terms.origin t.entries x y f place byte
  pending-at before after is view good late soon place byte there =
      let n = newest view f place byte there in
      record {
        n = length before;
        moment = record { late = late; soon = soon };
        pending = subst (Pending terms.modes terms.origin t.entries f place (length before)) n.byte_is
            (pending-during m terms setup t.entries v g roots puts f place before after is view ((good.watched place).phase after is) n.cell n.there x y o offset count bytes read late soon good.on);
      }

  module _ (s : HadRead (machine_of m) setup terms.modes t.entries v W t.entries x y (ops.Read read.slot offset count) offset count bytes) where
    numbered : Numbered t.entries
    numbered = (reached-rows (machine_of m) setup t.entries v g.reaches).numbered

    of : IsOf terms.modes t.entries x (ops.Read read.slot offset count) s.shown.file
    of = subst (λ (k : List Entry). IsOf terms.modes k x (ops.Read read.slot offset count) s.shown.file) (sym s.is)
        (always-later (λ k. IsOf terms.modes k x (ops.Read read.slot offset count) s.shown.file)
        (λ k e. of-grows (machine_of m) setup terms.modes k e x (ops.Read read.slot offset count) s.shown.file) s.before s.after s.shown.of)

    same : f ≡ s.shown.file
    same = file-of m terms setup t.entries v g x y o f offset count bytes read s.shown.file of

    early : read.holds.y < x
    early = read.holds.before

    opens : Opens terms.modes s.before read.lane read.slot o read.holds.y s.shown.file
    opens =
        let began = read.ended.later in
        let there = s.there in
        let low = early in
        opens-front terms.modes s.before s.after read.lane read.slot o read.holds.y s.shown.file (omega (arith, low, began, there))
        (subst (λ (k : List ℕ). Opens terms.modes (s.before ++ s.after) read.lane read.slot o read.holds.y k) same
        (subst (λ (k : List Entry). Opens terms.modes k read.lane read.slot o read.holds.y f) s.is read.holds.opens))

    abbrev Held : ℕ → ℕ → Type 0
    Held place b = HeldByte t (Since terms.modes t.entries x o) y f place b

    abbrev Size : ℕ → Type 0
    Size place = HeldSize t (Since terms.modes t.entries x o) y f place

    found-so : (k b : ℕ) → slice_get s.shown.server k ≡ Some b → Held (offset + k) b
    found-so k b is =
        subst (λ (n : ℕ). HeldByte t (Since terms.modes t.entries x o) n f (offset + k) b) s.there
        (subst (λ (z : List ℕ). HeldByte t (Since terms.modes t.entries x o) (length s.before) z (offset + k) b) (sym same)
        (found-held t lawful fresh numbered s.before s.after s.is s.shown.file setup.pages given terms.modes (λ may. (brief may).takes) x read.lane read.slot o read.holds.y opens early (offset + k) b
        (s.shown.found k b is)))

    end-so : (place : ℕ) → IsEnd setup.pages terms.modes s.before x s.shown.file place → Size place
    end-so place end =
        subst (λ (n : ℕ). HeldSize t (Since terms.modes t.entries x o) n f place) s.there
        (subst (λ (z : List ℕ). HeldSize t (Since terms.modes t.entries x o) (length s.before) z place) (sym same)
        (end-held t lawful fresh numbered s.before s.after s.is s.shown.file setup.pages given terms.modes (λ may. (brief may).takes) x read.lane read.slot o read.holds.y opens early place end))

    later-end : (a b : ℕ) → a ≤ b → Size a → Size b
    later-end a b le z = record { n = z.n; now = z.now; stable = z.stable; late = z.late; soon = z.soon; has = z.has; short = let short = z.short in omega (arith, short, le) }

    -- the file ended with what was found, where that is less
    server-short : (k : ℕ) → k < count → length s.shown.server ≤ k → Size (offset + k)
    server-short k within past = by s.shown.ends
      where
        by : (count ≤ length s.shown.server) ⊎ IsEnd setup.pages terms.modes s.before x s.shown.file (offset + length s.shown.server) → Size (offset + k)
        by (inl whole) = absurd (omega (arith, whole, within, past))
        by (inr end) = later-end (offset + length s.shown.server) (offset + k) (omega (arith, past)) (end-so (offset + length s.shown.server) end)

    -- a view through which the core passed during the read
    part : (before after : List Entry) → s.before ≡ before ++ after → before ++ (after ++ s.after) ≡ t.entries
    part before after is = sym (append_assoc before after s.after) ∙ ap (λ (z : List Entry). z ++ s.after) (sym is) ∙ sym s.is

    within-read : (before after : List Entry) → s.before ≡ before ++ after → length before ≤ y
    within-read before after is =
        let long = length-append before after in
        let whole = ap (λ (z : List Entry). length z) is in
        let there = s.there in
        omega (arith, long, whole, there)

    of-file-back : (view : View) (place byte : ℕ) → newest_at (of_file s.shown.file view.shelf.back).segments place ≡ Some byte → newest_at (of_file f view.shelf.back).segments place ≡ Some byte
    of-file-back view place byte there = subst (λ (z : List ℕ). newest_at (of_file z view.shelf.back).segments place ≡ Some byte) (sym same) there

    byte-so : (k b : ℕ) → k < count → IsShown J s.before x s.shown.file s.shown.server k (offset + k) b → IsCurrent terms.modes terms.origin t x y o f (offset + k) b
    byte-so k b within (shown.own p) =
        own (pending-at p.before (p.after ++ s.after) (part p.before p.after p.is) p.view p.good p.late (within-read p.before p.after p.is) (offset + k) b (of-file-back p.view (offset + k) b p.pending))
    byte-so k b within (shown.served is) = held (found-so k b is)
    byte-so k b within (shown.empty is past p) =
        hole p.q p.byte is (server-short k within past) p.past
        (pending-at p.before (p.after ++ s.after) (part p.before p.after p.is) p.view p.good p.late (within-read p.before p.after p.is) p.q p.byte (of-file-back p.view p.q p.byte p.there))

    pub current : (k b : ℕ) → slice_get bytes k ≡ Some b → IsCurrent terms.modes terms.origin t x y o f (offset + k) b
    current k b is =
        let within = slice_get_within bytes k b is in
        let most = s.shown.most in
        byte-so k b (omega (arith, within, most)) (s.shown.each k b is)

pub reads-current : ReadsCurrent
reads-current m terms setup t v g noac brief roots puts lawful fresh given x y o f offset count bytes read k b is =
    current m terms setup t v g noac brief roots puts lawful fresh given x y o f offset count bytes read
    (had-read m terms setup t.entries v g noac (λ may. (brief may).lasts) (StandsAll m terms setup t.entries v g roots puts f) (keeps-stands m terms setup t.entries v g roots puts f) read.lane x
    read.slot offset count y bytes read.ended) k b is
