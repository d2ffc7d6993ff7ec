-- The tally is kept where an operation takes what came of its call.
use Rattle.core_counts.proofs.Prelude.{◌≡◌, ◌≢◌, ◌≤◌, ◌<◌, ◌+◌, ◌-◌, ◌⊎◌, inl, inr, ℕ, nat_eq, Bool, true, false, List, [], ◌∷◌, ◌++◌, length, Option, Some, None, position, slice_get, slice_set, Result, refl, sym, ap, subst, ◌∙◌, arith, eqb-true, xid_at, Waiting, next_xid, waiting_at, without, others_taken, gone, Answer, Fault, Entry, Began, Sent, Delivered, Call, Reply, Op, CoversPlace, IsCommitOf, commit, RepliedAt, At, Heard, IsBusy, HasXid, Modes, AnsweredBefore, UnderWay, FirstSent-grow, At-grow, At-below, At-back, At-last, At-cases, length_last, said_of, Says, Pending, of_file, all_pending, rest_at, piece_under, covers, low-of, high-of, same-or, Repeat, Turn, Saving, write_told, IsUnused, Mounted, machine_of, Lane, Purpose, Busy, Setup, is_busy, with_state, TakesAt, View, turn_at, in_flight, HearsRecord, Reaches, IsMade, IsOutstanding, Tried, begins-unbegun, taken_one, flies_of, was-sent, says-of, Known, taker-one, lanes-under-way, at-set, at-position, same-rows, taken-rows, set-other, under-back, reached-good, written_file, Expects, expects-laws, NoCall, NoShelf, NoStory, no-laws, one-call, nfs-of, CallFits, commits_of, fits-laws, tales, unused-next, keeps-bytes, TakesHas, basis-ready, takes-basis, NearAs, Stage, stage_of, sent-piece, takes-has, takes-wholly, EachSound}
use Rattle.claims.specs.CallCounts.{IsPoor, LeavesUnwritten}
use Rattle.core_answers.proofs.asks.CallsAwaited.{Names}
use Rattle.core_session.proofs.calls.GivenBytes.{Gives, brings-later, has-all}
use Rattle.core_session.proofs.room.Stages.{Verdict, outcome}
use Rattle.core_session.proofs.saves.Taking.{sent-is}
use Rattle.std.specs.Prelude.{unwrap_or}
use Rattle.nfs_file_calls.specs.declared.call.FileCall.TheVariants as files
use Rattle.world_model.specs.declared.entry.Entry.TheVariants.{Answered as Noted}
use Rattle.world_model.specs.declared.message.Call.TheVariants as calls
use Rattle.write_back.specs.Pieces.{Sent as Piece}
use Rattle.file_ops.specs.Saves as saves
use Rattle.op_machines.proofs.AllLaws as laws
use Rattle.core_facts.specs.Tries.{unsent, runs, ended as tries_ended}
use Rattle.core_facts.proofs.SlotGrowth.{ended-back}
use Rattle.core_answers.proofs.asks.SavedCalls.{Saves as SavesCall}
use Rattle.core_session.proofs.calls.Brought.{has-both}
use Rattle.core_session.proofs.room.Machines as verdicts
use Rattle.core_session.proofs.syncs.Showings as showings
use Rattle.core_counts.proofs.coarse.Near.{near-has}
use Rattle.core_counts.proofs.coarse.OfSaves.{IsOfSave, never-both, of-machine}
use Rattle.core_counts.proofs.counts.engine.Lists.{Each, each-map, Elsewhere}
use Rattle.core_counts.proofs.counts.writes.Landing.{W, unflown}
use Rattle.core_counts.proofs.counts.writes.Once.{Gone, Once, once-has}
use Rattle.core_counts.proofs.counts.writes.Poor.{whole-or-poor}
use Rattle.core_counts.proofs.counts.writes.Saved.{Told, takes-fine}
use Rattle.core_counts.proofs.counts.writes.Stepped.{Held, Brought, adds-held, takes-held}
use Rattle.core_counts.proofs.counts.writes.Tally.{In, in-or, covers-or, settled-gone, Writer, Answered, Lists, Sents, Tally, total, lists-later, sents-later, leads-tally}
use Rattle.core_counts.proofs.counts.writes.Weights.{due_of, low, any, due-split, Below, newest-below}
use Rattle.core_counts.proofs.counts.writes.Before.{held-before, one-lane, wrote-it}

module _ (m : Mounted) (modes_of : Modes) (same : m.nocto ≡ modes_of.nocto) (setup : Setup) (f : List ℕ) (i : ℕ) where
  abbrev TallyAt : List Entry → View → Type 0
  TallyAt = Tally m modes_of same setup f i

  abbrev WriterAt : List Entry → ℕ → Type 0
  WriterAt = Writer m modes_of same setup f i

  -- ---- a reply comes

  module _ (h : List Entry) (old new : View) (rec : List ℕ) (xid : ℕ) (call : Waiting Purpose) (at : ℕ) (r : Reaches (machine_of m) setup h old) (found : old.lost ≡ false) (k : Known setup h old)
      (fin : View) (hears : HearsRecord old rec fin) (named : xid_at rec ≡ Some xid) (waits : waiting_at xid old.calls.calls ≡ Some call)
      (place : position (is_busy call.purpose.lane) old.lanes ≡ Some at) (t : TakesAt (taken_one old xid) at call.purpose.sent (said_of call.purpose.proc rec) new) (i_ : TallyAt h old) where
    abbrev later : List Entry
    later = h ++ Delivered rec ∷ []

    abbrev came : Result Reply Fault
    came = said_of call.purpose.proc rec

    abbrev sent : Turn
    sent = call.purpose.sent

    abbrev turn : Turn
    turn = turn_at (taken_one old xid)

    abbrev v : View
    v = with_state (taken_one old xid) at t.number (Busy t.after) t.shelf

    abbrev y : ℕ
    y = next_xid old.calls

    abbrev s : ℕ
    s = old.shelf.seq

    abbrev had : ℕ
    had = due_of any (rest_at (of_file f old.shelf.back) i)

    lane-is : t.number ≡ call.purpose.lane
    lane-is = eqb-true t.number call.purpose.lane (at-position (is_busy call.purpose.lane) old.lanes at (record { number = t.number; state = Busy t.machine }) place t.there)

    own : sent.xid ≡ xid
    own = sent-is m setup h old r found xid call waits at t.number t.machine t.there (sym lane-is) i_.wholly

    free : IsUnused y old.shelf.back
    free = unused-next setup h old k.rows i_.basis.flying.flown

    single : in_flight t.machine ≡ (in_flight t.machine - 1) + 1
    single = taker-one setup h old xid call at k waits place t.number t.machine t.there

    made : IsMade setup.cred xid call
    made = (k.rows.rows xid call waits).made

    abbrev asked : Call
    asked = made.asked

    said : Says xid asked rec came
    said = says-of old rec hears.result fin xid call hears.hears named waits xid named asked (record { nfs = made.nfs; is = sym made.proc })

    -- ---- where it was sent

    outstanding : (from : ℕ) × IsOutstanding h xid call.bytes from
    outstanding = by (k.rows.rows xid call waits).tried
      where
        by : Tried h xid call → (from : ℕ) × IsOutstanding h xid call.bytes from
        by (unsent none none_sent) = absurd (let some = was-sent xid old.calls.calls call hears.may.sent waits in omega (arith, some, none))
        by (runs from running o rest) = (from, o)
        by (tries_ended from idle o rest) = (from, o)

    abbrev heard : Heard later 0 (length later) asked xid rec
    heard =
        let from = outstanding.0 in
        let o = outstanding.1 in
        let within : from < length h = At-below h from (Sent call.bytes) o.sent.sent in
        let more = length_last h (Delivered rec) in
        record {
          sent_at = from;
          record_sent = call.bytes;
          got_at = length h;
          sent = FirstSent-grow h (Delivered rec ∷ []) from xid call.bytes o.sent;
          spells = made.spells.spells;
          got = record {
            got = At-last h (Delivered rec);
            under = named;
            waits = record {
              at = from;
              bytes = call.bytes;
              sent = At-grow h (Delivered rec ∷ []) from (Sent call.bytes) o.sent.sent;
              under = o.sent.under;
              before = within;
              unanswered = λ j b got has after before. o.unheard j b (At-back h (Delivered rec ∷ []) j (Delivered b) got before) has after;
            };
          };
          after = omega arith;
          later = within;
          before = omega (arith, more);
        }

    -- ---- which lists it makes longer

    abbrev ListsAt : List Entry → Type 0
    ListsAt = Lists m modes_of same setup f i

    abbrev base_lists : ListsAt later
    base_lists = lists-later m modes_of same setup f i h (Delivered rec) i_.lists

    -- so many more may be sent, and why
    record Gained : Type 0 where
      lists : ListsAt later
      most : ℕ
      within : had ≤ most
      room : length lists.made + most ≤ total m modes_of same setup f i later lists
      made_is : lists.made ≡ i_.lists.made
      writers_is : lists.writers ≡ i_.lists.writers
      wrote : (g : List ℕ) (o w : ℕ) (bs : List ℕ) → asked ≡ calls.File (files.Write g o w bs) → CoversPlace f i asked → saves.HasAll (write_told w (length bs) came) (length bs) ⊎ (had + 1 ≤ most)
      committed : IsCommitOf f asked → had + 1 ≤ most

    no-commit : CoversPlace f i asked → IsCommitOf f asked → ⊥
    no-commit c (commit offset count is) = let one = sym c.is ∙ is in absurd (cc)

    poor-apart : Elsewhere (length h) i_.lists.poor
    poor-apart = each-map (RepliedAt h (IsPoor f i)) (λ (n : ℕ). n ≢ length h)
        (λ n q is. absurd (let low_ = q.heard.before in let here = q.here in omega (arith, low_, here, is))) i_.lists.poor i_.lists.each_poor

    commits-apart : Elsewhere xid i_.lists.commits
    commits-apart = each-map (Answered m modes_of same setup f i h) (λ (n : ℕ). n ≢ xid) other i_.lists.commits i_.lists.each_commit
      where
        other : (n : ℕ) → Answered m modes_of same setup f i h n → n ≢ xid
        other n a is =
            let from = outstanding.0 in
            let o = outstanding.1 in
            let first = o.sent.first a.heard.sent_at a.heard.record_sent a.heard.sent.sent (subst (HasXid a.heard.record_sent) is a.heard.sent.under) in
            let second = a.heard.sent.first from call.bytes o.sent.sent (subst (HasXid call.bytes) (sym is) o.sent.under) in
            let past = a.heard.later in
            o.unheard a.heard.got_at a.bytes a.heard.got.got (subst (HasXid a.bytes) is a.heard.got.under) (omega (arith, first, second, past))

    plainly : (CoversPlace f i asked → (g : List ℕ) (o w : ℕ) (bs : List ℕ) → asked ≡ calls.File (files.Write g o w bs) → saves.HasAll (write_told w (length bs) came) (length bs)) → (IsCommitOf f asked → ⊥) → Gained
    plainly whole none = record {
      lists = base_lists;
      most = had;
      within = omega arith;
      room = i_.few;
      made_is = refl;
      writers_is = refl;
      wrote = λ g o w bs is c. inl (whole c g o w bs is);
      committed = λ c. absurd (none c);
    }

    by-poor : (c : CoversPlace f i asked) → LeavesUnwritten asked xid rec → Gained
    by-poor c left = record {
      lists = record {
        made = base_lists.made;
        writers = base_lists.writers;
        poor = length h ∷ base_lists.poor;
        commits = base_lists.commits;
        made_apart = base_lists.made_apart;
        writers_apart = base_lists.writers_apart;
        poor_apart = (poor-apart, base_lists.poor_apart);
        commits_apart = base_lists.commits_apart;
        each_writer = base_lists.each_writer;
        each_poor = (record { call = asked; xid = xid; bytes = rec; heard = heard; here = refl; is = record { covers = c; left = left } }, base_lists.each_poor);
        each_commit = base_lists.each_commit;
      };
      most = had + 1;
      within = omega arith;
      room = let few = i_.few in omega (arith, few);
      made_is = refl;
      writers_is = refl;
      wrote = λ g o w bs is d. inr (omega arith);
      committed = λ d. absurd (no-commit c d);
    }

    by-commit : (c : IsCommitOf f asked) → Gained
    by-commit c = record {
      lists = record {
        made = base_lists.made;
        writers = base_lists.writers;
        poor = base_lists.poor;
        commits = xid ∷ base_lists.commits;
        made_apart = base_lists.made_apart;
        writers_apart = base_lists.writers_apart;
        poor_apart = base_lists.poor_apart;
        commits_apart = (commits-apart, base_lists.commits_apart);
        each_writer = base_lists.each_writer;
        each_poor = base_lists.each_poor;
        each_commit = (record { call = asked; bytes = rec; heard = heard; is = c }, base_lists.each_commit);
      };
      most = had + 1;
      within = omega arith;
      room = let few = i_.few in omega (arith, few);
      made_is = refl;
      writers_is = refl;
      wrote = λ g o w bs is d. absurd (no-commit d c);
      committed = λ d. omega arith;
    }

    gained : Gained
    gained = by asked refl
      where
        write : (g bs : List ℕ) (o w : ℕ) → asked ≡ calls.File (files.Write g o w bs) → (c : CoversPlace f i asked) → Gained
        write g bs o w is c = elim (whole-or-poor g o w bs xid rec came (subst (λ (q : Call). Says xid q rec came) is said)) [
          | inl all ↦ plainly (λ d g_ o_ w_ bs_ other.
              let one : calls.File (files.Write g o w bs) ≡ calls.File (files.Write g_ o_ w_ bs_) = sym is ∙ other in
              let two : (w, bs) ≡ (w_, bs_) = cc in
              subst (λ (p : ℕ × List ℕ). saves.HasAll (write_told p.0 (length p.1) came) (length p.1)) two all) (no-commit c)
          | inr left ↦ by-poor c (subst (λ (q : Call). LeavesUnwritten q xid rec) (sym is) left)
        ]

        other-call : (CoversPlace f i asked → ⊥) → (IsCommitOf f asked → ⊥) → Gained
        other-call none nor = plainly (λ c g o w bs is. absurd (none c)) nor

        by : (q : Call) → asked ≡ q → Gained
        by (calls.File (files.Write g o w bs)) is = elim (covers-or f i asked) [
          | inl c ↦ write g bs o w is c
          | inr none ↦ other-call none (λ c. not-commit c)
        ]
          where
            not-commit : IsCommitOf f asked → ⊥
            not-commit (commit offset count is_) = let one = sym is ∙ is_ in absurd (cc)
        by (calls.File (files.Commit g o n)) is = commit-of (same-or g f) is
          where
            commit-of : (f ≡ g) ⊎ (f ≢ g) → asked ≡ calls.File (files.Commit g o n) → Gained
            commit-of (inl here) is_ = by-commit (commit o n (is_ ∙ ap (λ (z : List ℕ). calls.File (files.Commit z o n)) (sym here)))
            commit-of (inr apart) is_ = other-call (λ c. let one = sym c.is ∙ is_ in absurd (cc)) (λ c. not-that c)
              where
                not-that : IsCommitOf f asked → ⊥
                not-that (commit offset count it) =
                    let one : calls.File (files.Commit g o n) ≡ calls.File (files.Commit f offset count) = sym is_ ∙ it in
                    let two : g ≡ f = cc in
                    apart (sym two)
        by q is = other-call (λ c. let one = sym is ∙ c.is in absurd (cc)) (λ c. not-this c)
          where
            not-this : IsCommitOf f asked → ⊥
            not-this (commit offset count it) = let one = sym is ∙ it in absurd (cc)

    -- ---- what the save is told

    abbrev y_low : ℕ
    y_low = W f i y (low s) old.shelf.back

    few : y_low ≤ had
    few =
        let flown = unflown f i y old.shelf.back i_.basis.sound free (low s) in
        let split = due-split s (rest_at (of_file f old.shelf.back) i) in
        omega (arith, flown, split)

    below : Below s (of_file f old.shelf.back) i
    below = newest-below s f old.shelf.back i_.basis.newest i

    -- a piece in flight under the xid is what the call carries
    carried : (piece : Piece) → piece_under sent.xid (of_file f old.shelf.back).pieces ≡ Some piece → asked ≡ saves.write_of f piece
    carried piece there =
        let spelled = i_.basis.flying.all xid call waits in
        one-call xid xid asked spelled.call call.bytes (nfs-of asked made.nfs) made.spells.spells spelled.spells.spells
        ∙ spelled.carries f piece (subst (λ (z : ℕ). piece_under z (of_file f old.shelf.back).pieces ≡ Some piece) own there)

    covers-it : (piece : Piece) → asked ≡ saves.write_of f piece → covers piece.offset (length piece.bytes) i ≡ true → CoversPlace f i asked
    covers-it piece is inside = record {
      offset = piece.offset;
      how = piece.how;
      bytes = piece.bytes;
      is = is;
      low = low-of piece.offset (piece.offset + length piece.bytes) i inside;
      high = high-of piece.offset (piece.offset + length piece.bytes) i inside;
    }

    abbrev ToldTo : Saving → Type 0
    ToldTo sv = Told f i y s had gained.most gained.within old.wsize sent turn refl came old.shelf.back i_.basis.sound free few below sv

    expects-fits : CallFits t.machine asked
    expects-fits =
        let good = reached-good (machine_of m) (begins-unbegun m) setup CallFits fits-laws (λ g y o c. Unit {0}) (λ g s. Unit {0}) (λ g y o s. Unit {0}) (tales m setup) h old r in
        let e = (good.each at (record { number = t.number; state = Busy t.machine }) t.there).0 xid call waits (sym lane-is) in
        subst (CallFits t.machine) (one-call xid xid e.made.asked asked call.bytes (nfs-of e.made.asked e.made.nfs) e.made.spells.spells made.spells.spells) e.expects

    expects-names : Names t.machine asked
    expects-names =
        let good = reached-good (machine_of m) (begins-unbegun m) setup Expects expects-laws NoCall NoShelf NoStory (no-laws (machine_of m) setup Expects) h old r in
        let e = (good.each at (record { number = t.number; state = Busy t.machine }) t.there).0 xid call waits (sym lane-is) in
        subst (Names t.machine) (one-call xid xid e.made.asked asked call.bytes (nfs-of e.made.asked e.made.nfs) e.made.spells.spells made.spells.spells) e.expects.1

    told-to : (sv : Saving) → IsOfSave (flies_of t.machine) (commits_of t.machine) sv → ToldTo sv
    told-to sv of = record {
      writes = λ sending is piece there inside.
          let carries = carried piece there in
          let answered : saves.answered sent.xid sv.file old.shelf.back ≡ piece =
          ap (λ (g : List ℕ). saves.answered sent.xid g old.shelf.back) (sym is) ∙ ap (λ (o : Option Piece). unwrap_or o saves.no_piece) there in
          elim (gained.wrote f piece.offset piece.how piece.bytes carries (covers-it piece carries inside)) [
            | inl all ↦ inl (subst (λ (p : Piece). saves.HasAll (write_told p.how (length p.bytes) came) (length piece.bytes)) (sym answered) all)
            | inr gain ↦ inr gain
          ];
      commits = λ idle is. gained.committed (committed-of sv.file is (showings.machine-of sv.file asked t.machine (of.commits_ idle) expects-names) (of.commits_ idle));
    }
      where
        committed-of : (g : List ℕ) → f ≡ g → SavesCall g asked → commits_of t.machine ≡ Some g → IsCommitOf f asked
        committed-of g is (inl w) commits = absurd (never-both t.machine g g (expects-fits.writes g (ap written_file w.1)) commits)
        committed-of g is (inr commit_is) commits = commit 0 0 (commit_is ∙ ap (λ (z : List ℕ). calls.File (files.Commit z 0 0)) (sym is))

    -- ---- the operation

    busy : IsBusy h t.number (length h)
    busy = (lanes-under-way h old k.lanes).busy at (record { number = t.number; state = Busy t.machine }) t.there

    abbrev x : ℕ
    x = busy.x

    abbrev Why : Type 0
    Why = WriterAt later x × Elsewhere x gained.lists.writers × ((t.shelf.seq ≡ s) ⊎ Gone t.next (stage_of t.after))

    not-began : (number line : ℕ) (op : Op) → Delivered rec ≡ Began number line op → ⊥
    not-began number line op is = cc

    not-sent : (bytes : List ℕ) → Delivered rec ≡ Sent bytes → ⊥
    not-sent bytes is = cc

    not-noted : (lane line : ℕ) (answer : Answer) → Delivered rec ≡ Noted lane line answer → ⊥
    not-noted lane line answer is = cc

    was-under : (number z : ℕ) (op : Op) → UnderWay later number z (length later) op → UnderWay h number z (length h) op
    was-under number z op u = under-back h (Delivered rec) number z op (λ line o is. not-began number line o is) u

    silent : AnsweredBefore later x (length later) → ⊥
    silent a = of (At-cases h (Delivered rec) a.y (Noted a.lane a.ended.line a.answer) a.ended.answered)
      where
        of : At h a.y (Noted a.lane a.ended.line a.answer) ⊎ ((a.y ≡ length h) × (Delivered rec ≡ Noted a.lane a.ended.line a.answer)) → ⊥
        of (inr now) = not-noted a.lane a.ended.line a.answer now.1
        of (inl was) =
            let low_ = At-below h a.y (Noted a.lane a.ended.line a.answer) was in
            busy.under_way.unanswered (record {
              lane = a.lane;
              op = a.op;
              y = a.y;
              answer = a.answer;
              ended = ended-back h (Delivered rec) a.lane busy.x a.op a.y a.answer low_ a.ended;
              before = low_;
            })

    mine : slice_get old.lanes at ≡ Some (record { number = call.purpose.lane; state = Busy t.machine })
    mine = subst (λ (n : ℕ). slice_get old.lanes at ≡ Some (record { number = n; state = Busy t.machine })) lane-is t.there

    gives : TakesHas (Gives m modes_of later x busy.op) old.wsize t.machine sent turn came old.shelf t.next t.after t.shelf t.takes
    gives =
        has-all m modes_of same setup h old rec xid call at t.machine r found fin hears named waits mine x silent busy.op (subst (λ (n : ℕ). UnderWay h n x (length h) busy.op) lane-is busy.under_way)
        old.wsize sent turn t.next t.after t.shelf t.takes
        (brings-later m modes_of h (Delivered rec) x busy.op t.machine (i_.bytes.lanes at (record { number = t.number; state = Busy t.machine }) t.there x busy.op busy.under_way))

    began : At later x (Began t.number busy.under_way.line busy.op)
    began = At-grow h (Delivered rec ∷ []) x (Began t.number busy.under_way.line busy.op) busy.under_way.began

    -- where it adds bytes to the place, it wrote it, and hadn't before
    why : (g : List ℕ) (o : ℕ) (b : List ℕ) → Gives m modes_of later x busy.op g o b
        → Once old.wsize sent turn came (stage_of t.machine) old.shelf t.next (stage_of t.after) t.shelf → Brought f i y s gained.most Why g o b
    why g o b given once is inside = (
      wrote-it m modes_of same setup f i later t.number busy.under_way.line x busy.op began o b (subst (λ (z : List ℕ). Gives m modes_of later x busy.op z o b) (sym is) given) inside,
      elim (in-or x gained.lists.writers) [
        | inl has ↦ absurd (once.0 (i_.spent at (record { number = t.number; state = Busy t.machine }) t.there x busy.op busy.under_way (subst (In x) gained.writers_is has)))
        | inr apart ↦ apart
      ],
      once.1,
    )

    brought : TakesHas (λ g o b. NearAs old.wsize turn (s + 1) g o b (s + 1) × Brought f i y s gained.most Why g o b) old.wsize t.machine sent turn came old.shelf t.next t.after t.shelf t.takes
    brought =
        has-both old.wsize sent turn came (λ g o b. NearAs old.wsize turn (s + 1) g o b (s + 1)) (Brought f i y s gained.most Why)
        (λ g o b. NearAs old.wsize turn (s + 1) g o b (s + 1) × Brought f i y s gained.most Why g o b) (λ g o b near q. (near, q)) t.machine old.shelf t.next t.after t.shelf t.takes
        (near-has (s + 1) old.wsize sent turn came t.machine old.shelf t.next t.after t.shelf t.takes
        (i_.basis.fits at (record { number = t.number; state = Busy t.machine }) t.there))
        (has-both old.wsize sent turn came (Gives m modes_of later x busy.op)
        (λ g o b. Once old.wsize sent turn came (stage_of t.machine) old.shelf t.next (stage_of t.after) t.shelf) (Brought f i y s gained.most Why) why t.machine old.shelf t.next t.after t.shelf t.takes gives
        (once-has old.wsize sent turn came t.machine old.shelf t.next t.after t.shelf t.takes))

    abbrev HeldAt : Pending → Type 0
    HeldAt back = Held f i y s gained.most Why back

    before : HeldAt old.shelf.back
    before =
        let b = held-before f i y s Why old.shelf.back i_.basis.sound free i_.basis.newest in
        let low_ = b.few in
        let wide = gained.within in
        record { few = omega (arith, low_, wide); one = b.one; why = b.why }

    abbrev Now : Saving → Pending → Type 0
    Now sv back = (back ≡ old.shelf.back) × ToldTo sv

    carries : (repeats : List Repeat) (sv : Saving) (back : Pending) (next : _) (state : Saving) (after : Pending) (later_ : List Repeat)
        → saves.Takes old.wsize sent turn came repeats sv back next state after later_ → Now sv back → HeldAt back → EachSound back → HeldAt after
    carries repeats sv back next state after later_ takes now held sound =
        let fine = takes-fine f i y s had gained.most gained.within old.wsize sent turn refl came old.shelf.back i_.basis.sound free few below repeats sv next state after later_ now.1
        (subst (λ (b : Pending). saves.Takes old.wsize sent turn came repeats sv b next state after later_) now.0 takes) in
        let none = fine.1 in
        record { few = fine.0; one = omega (arith, none); why = λ some. absurd (omega (arith, none, some)) }

    went : HeldAt t.shelf.back × EachSound t.shelf.back
    went =
        takes-held f i y s gained.most Why old.wsize turn (s + 1) (Brought f i y s gained.most Why) (adds-held f i y s gained.most Why) sent came Now carries t.machine old.shelf t.next t.after t.shelf
        t.takes refl brought (of-machine (λ sv. Now sv old.shelf.back) t.machine (λ sv of. (refl, told-to sv of))) before i_.basis.sound free i_.basis.newest

    -- ---- what waits goes on waiting

    still-waits : (z : ℕ) (w : Waiting Purpose) → waiting_at z (without xid old.calls.calls) ≡ Some w → waiting_at z old.calls.calls ≡ Some w
    still-waits z w is = by (nat_eq z xid) refl
      where
        by : (b : Bool) → nat_eq z xid ≡ b → waiting_at z old.calls.calls ≡ Some w
        by false e = sym (others_taken z xid old.calls.calls e) ∙ is
        by true e = absurd (
            let none = gone old.calls.cred old.calls.first_xid (next_xid old.calls) xid old.calls.calls k.rows.sound.calls.each in
            let here : waiting_at xid (without xid old.calls.calls) ≡ Some w = subst (λ (j : ℕ). waiting_at j (without xid old.calls.calls) ≡ Some w) (eqb-true z xid e) is in
            let no_way : None ≡ Some w = sym none ∙ here in cc)

    before-set : (j : ℕ) (l : Lane) → slice_get (slice_set old.lanes at (record { number = t.number; state = Busy t.after })) j ≡ Some l → j ≢ at → slice_get old.lanes j ≡ Some l
    before-set j l here other = sym (set-other old.lanes at j (record { number = t.number; state = Busy t.after }) other) ∙ here

    sents : Sents m modes_of same setup f i later gained.lists.made
    sents = subst (Sents m modes_of same setup f i later) (sym gained.made_is)
        (sents-later m modes_of same setup f i h (Delivered rec) i_.lists.made (λ bytes is. absurd (not-sent bytes is)) i_.sents)

    pub takes-tally : TallyAt later new
    takes-tally =
        leads-tally m modes_of same setup f i h later v new at t.number t.after t.next (same-rows setup h (taken_one old xid) v refl (taken-rows setup h old xid k.rows)) (record {
          s = s;
          n = gained.most;
          x = x;
          lists = gained.lists;
          below = subst (λ (zs : List ℕ). Each (λ (z : ℕ). z < next_xid v.calls) zs) (sym gained.made_is) i_.below;
          waits = λ z w other is spells c. subst (In z) (sym gained.made_is) (i_.waits z w other (still-waits z w is) spells c);
          sents = sents;
          room = gained.room;
          held = went.0;
          sound = went.1;
          ready = laws.takes-ready old.wsize t.machine sent turn came old.shelf t.next t.after t.shelf t.takes (basis-ready setup h old k.rows i_.basis);
          has = takes-has old.wsize turn sent came t.machine old.shelf t.next t.after t.shelf (in_flight t.machine - 1) single
              (sent-piece m setup h old r found xid call waits at t.number t.machine t.there (sym lane-is) i_.wholly) t.takes free;
          own = λ z op u has. settled-gone (all_pending old.shelf.back) (all_pending t.shelf.back) t.next (stage_of t.after)
              (subst (λ (q : Stage). Verdict (all_pending old.shelf.back) (all_pending t.shelf.back) q (outcome t.next (stage_of t.after)))
              (i_.spent at (record { number = t.number; state = Busy t.machine }) t.there z op (was-under t.number z op u) (subst (In z) gained.writers_is has))
              (verdicts.all-takes old.wsize turn sent came t.machine old.shelf t.next t.after t.shelf t.takes));
        })
        (at-set old.lanes at (record { number = t.number; state = Busy t.machine }) (record { number = t.number; state = Busy t.after }) t.there)
        (λ j l here other z op u has. i_.spent j l (before-set j l here other) z op (was-under l.number z op u) (subst (In z) gained.writers_is has))
        (λ j l here other op u. other ((lanes-under-way h old k.lanes).apart j at l (record { number = t.number; state = Busy t.machine }) (before-set j l here other) t.there
        (one-lane m modes_of same setup f i h l.number t.number x op busy.op (was-under l.number x op u) busy.under_way)))
        (takes-basis m setup h old new rec xid call at r found k waits place t i_.basis) (takes-wholly m setup h old new rec xid call at r found k waits place t i_.wholly)
        ((keeps-bytes m modes_of same setup).takes h old new rec xid call at r found k fin hears named waits place t i_.bytes) t.leads
