-- On an honest server a stamp that was shown since the reply to an own WRITE is one that the file had at a moment since that was executed; and so are the bytes
-- that a read found under such stamps.
use Rattle.core_session.proofs.Prelude.{◌≡◌, ◌<◌, ◌≤◌, inl, inr, ℕ, suc, List, ◌++◌, length, length-append, drop, slice_get, Option, Some, true, refl, sym, ap, subst, ◌∙◌, arith, cases_lt, length-take, length-drop, Attr, SetAttr, Time, Verf, Stamp, Wcc, stamp_of, start_of, Entry, Call, Reply, resized, Fresh, HoldsSized, SetsAttr, History, Lawful, HeldSize, Server, Object, Holds, Bytes, Entries, Text, Numbered, HasStamp, serves, IsAnswered, Pages}
use Rattle.claims.specs.ReadTrue.{HeldByte}
use Rattle.world_model.specs.Server.{Listed, IsSound}
use Rattle.law_reads.specs.Kept.{Done, Leads}
use Rattle.law_reads.proofs.KeptBytes.{reads, writes, later, put_before, put_after, stamp_there}
use Rattle.nfs_file_calls.specs.declared.call.FileCall.TheVariants as files
use Rattle.nfs_file_calls.specs.declared.owned.FileKept.TheVariants as kept
use Rattle.world_model.specs.declared.message.Call.TheVariants as calls
use Rattle.world_model.specs.declared.message.Reply.TheVariants as answers
use Rattle.world_model.specs.Server as sound
use Rattle.world_model.specs.Service.{Serves, refused, broken_off, done}
use Rattle.world_model.specs.Steps.{TrueOf, TrueStamp, TrueWcc}
use Rattle.law_reads.proofs.Bytes.{part_stands}
use Rattle.core_answers.proofs.bonds.AttrsShown.{answered-grow}
use Rattle.core_answers.proofs.bonds.Executions.{shown-had}
use Rattle.core_session.proofs.current.ReadsRecent.{page-is, done-by, bytes-same}
use Rattle.core_session.proofs.current.SeenTrue.{HadSince}
use Rattle.core_session.proofs.current.StampStays.{stamp-stays, is-file}
use Rattle.core_session.proofs.kept.OwnSeen.{SeenAfter, itself, shown, written, cut}
use Rattle.core_answers.specs.pages.True.{GivenTrue}
use Rattle.core_session.proofs.kept.ReadFound.{IsFound, in_page, in_reply, IsEnd, by_known, by_page, by_reply}

-- what a SETATTR that was answered did
sets : (s t : Server) (f : List ℕ) (set : SetAttr) (guard : Option Time) (wcc : Wcc) → Serves s (calls.File (files.SetAttr f set guard)) (answers.File (kept.SetAttr wcc)) t → SetsAttr s t f set × TrueWcc s t f wcc
sets s t f set guard wcc (refused r same) = absurd r
sets s t f set guard wcc (broken_off g at way given status w is answer p) = absurd (cc answer)
sets s t f set guard wcc (done d) = d

-- before and after one that set the size of a file
record SizedAt (t : History) (f : List ℕ) (old stamp : Stamp) (n : ℕ) : Type 0 where
  now : List ℕ
  next : List ℕ
  before : HasStamp t n f old now
  after : HasStamp t (suc n) f stamp next

stamp-before : (s : Server) (f : List ℕ) (stamp : Stamp) (o : Object) → TrueStamp s f (Some stamp) → s.object f ≡ Some o → stamp_of o.attr ≡ stamp
stamp-before s f stamp o p is = let same : p.0 ≡ o = some-object p.0 o (sym p.1 ∙ is) in ap (λ (z : Object). stamp_of z.attr) (sym same) ∙ p.2
  where
    some-object : (a b : Object) → Some a ≡ Some b → a ≡ b
    some-object a b e = cc

sized-at : (t : History) (l : Lawful t) (f : List ℕ) (old stamp : Stamp) (size : ℕ) (set : SetAttr) (guard : Option Time) (wcc : Wcc) (d : Done t (files.SetAttr f set guard) (kept.SetAttr wcc))
    → set.size ≡ Some size → Leads wcc old stamp → SizedAt t f old stamp d.0
sized-at t l f old stamp size set guard wcc d is leads = by w.0.object.holds refl (subst (λ (z : Option ℕ). HoldsSized z w.0.object.holds w.0.later) is w.0.sized)
  where
    w : SetsAttr (t.at d.0) (t.at (suc d.0)) f set × TrueWcc (t.at d.0) (t.at (suc d.0)) f wcc
    w = sets (t.at d.0) (t.at (suc d.0)) f set guard wcc (serves t l _ _ d)

    by : (h : Holds) → w.0.object.holds ≡ h → HoldsSized (Some size) h w.0.later → SizedAt t f old stamp d.0
    by (Bytes now stable) held sized = record {
      now = now;
      next = resized size now;
      before = record {
        file = w.0.object;
        stable = stable;
        moment = let le = later t _ _ d in omega (arith, le);
        is = w.0.turns.has.is;
        holds = held;
        stamp = stamp-before (t.at d.0) f old w.0.object (subst (λ (z : Option Stamp). TrueStamp (t.at d.0) f z) leads.before w.1.before) w.0.turns.has.is;
      };
      after = record {
        file = w.0.turns.new;
        stable = resized size stable;
        moment = later t _ _ d;
        is = w.0.turns.is;
        holds = w.0.turns.becomes.holds ∙ sized;
        stamp = stamp_there (t.at (suc d.0)) f leads.attr stamp w.0.turns.new (subst (λ (z : Option Attr). TrueOf (t.at (suc d.0)) f z) leads.after w.1.after) w.0.turns.is leads.is;
      };
    }
    by (Entries list) held sized = absurd sized
    by (Text text) held sized = absurd sized

not-list : (a b : List ℕ) (entries : List Listed) → Bytes a b ≡ Entries entries → ⊥
not-list a b entries e = cc

not-text : (a b text : List ℕ) → Bytes a b ≡ Text text → ⊥
not-text a b text e = cc

module _ (t : History) (l : Lawful t) (fresh : Fresh t) (numbered : Numbered t.entries) (before after : List Entry) (is : t.entries ≡ before ++ after) (file : List ℕ)
    (offset how count firm : ℕ) (bytes : List ℕ) (wcc : Wcc) (verf : Verf) (own : Done t (files.Write file offset how bytes) (kept.Write wcc count firm verf)) (d : ℕ) (low : own.0 ≤ d)
    (soon : own.0 < length before) where
  -- an answer in a part of a history is one in all of it
  in-all : (from : ℕ) (call : Call) (reply : Reply) → IsAnswered before from (length before) call reply → IsAnswered t.entries from (length before) call reply
  in-all from call reply a =
      subst (λ (k : List Entry). IsAnswered k from (length before) call reply) (sym is) (answered-grow before after from (length before) call reply a)

  length-all : length before ≤ length t.entries
  length-all = let long = ap (λ (k : List Entry). length k) is in let parts = length-append before after in omega (arith, long, parts)

  abbrev Had : Stamp → Type 0
  Had stamp = HadSince t l fresh numbered before after is file own.0 stamp

  -- a change that its own reply tells leads from the stamp to another: it came since, or changed nothing
  led : (n : ℕ) (old stamp : Stamp) (x y : List ℕ) → n < length before → Had old → HasStamp t n file old x → HasStamp t (suc n) file stamp y → Had stamp
  led n old stamp x y within had was now = elim (cases_lt n had.n) [
    | inl lt ↦
        let same : stamp ≡ old = stamp-stays t l fresh file n had.n old stamp x y had.now was now had.has (omega (arith, lt)) in
        record { n = had.n; late = had.late; soon = had.soon; now = had.now; has = subst (λ (s : Stamp). HasStamp t had.n file s had.now) (sym same) had.has }
    | inr ge ↦ let late = had.late in record { n = suc n; late = omega (arith, late, ge); soon = omega (arith, within); now = y; has = now }
  ]

  pub had-after : (m : ℕ) (some : Stamp) (x : List ℕ) → HasStamp t m file some x → (stamp : Stamp) → SeenAfter wcc before d file stamp → Had stamp
  had-after m some x there _ (itself stamp attr after_ same) =
      let did = writes (t.at own.0) (t.at (suc own.0)) file offset how count firm bytes wcc verf (serves t l _ _ own) in
      record {
        n = suc own.0;
        late = omega arith;
        soon = omega (arith, soon);
        now = _;
        has = put_after t own.0 file stamp wcc.after attr did.now did.stable _ _ (later t _ _ own) did.puts did.shows.after after_ same;
      }
  had-after m some x there _ (shown stamp since call reply attr late answered shows same) =
      let had = shown-had t l numbered since (length before) call reply file attr (in-all since call reply answered) shows in
      let since_late = had.late in
      let within = had.soon in
      let all = length-all in
      let f = is-file t l fresh file m had.n some x had.has.o there (omega (arith, within, all)) had.has.is in
      record {
        n = had.n;
        late = omega (arith, low, late, since_late);
        soon = had.soon;
        now = f.0;
        has = record {
          file = had.has.o;
          stable = f.1;
          moment = omega (arith, within, all);
          is = had.has.is;
          holds = f.2;
          stamp = ap stamp_of had.has.had ∙ same;
        };
      }
  had-after m some x there _ (written old stamp place n bs was w) =
      let k = done-by t l fresh numbered before after is file 0 (files.Write file place w.how bs) (kept.Write w.wcc n w.committed w.verf) w.answered in
      let e = k.exec in
      let did = writes (t.at e.0) (t.at (suc e.0)) file place w.how n w.committed bs w.wcc w.verf (serves t l _ _ e) in
      led e.0 old stamp did.now _ k.soon (had-after m some x there old was)
      (put_before t e.0 file old w.wcc did.now did.stable _ _ (later t _ _ e) did.puts did.shows.before w.leads.before)
      (put_after t e.0 file stamp w.wcc.after w.leads.attr did.now did.stable _ _ (later t _ _ e) did.puts did.shows.after w.leads.after w.leads.is)
  had-after m some x there _ (cut old stamp size was w) =
      let k = done-by t l fresh numbered before after is file 0 (files.SetAttr file w.set w.guard) (kept.SetAttr w.wcc) w.answered in
      let e = k.exec in
      let did = sized-at t l file old stamp size w.set w.guard w.wcc e w.is w.leads in
      led e.0 old stamp did.now did.next k.soon (had-after m some x there old was) did.before did.after

  -- ---- what a read found

  module _ (first : Pages) (given : GivenTrue first t) (R : List Entry → ℕ → List ℕ → Stamp → Type 0) (x : ℕ) (late_read : d < x) (seen : (stamp : Stamp) → R before x file stamp → Had stamp) where
    pub found-after : (place v : ℕ) → IsFound first R before x file place v → HeldByte t (λ (n : ℕ). own.0 < n) (length before) file place v
    found-after place v (in_page stamp index at page p r there same) =
        let had = seen stamp r in
        let page_is = page-is t l fresh numbered before after is file first given stamp index page p had.n had.now had.has in
        record {
          n = had.n;
          now = had.now;
          stable = had.has.stable;
          late = had.late;
          soon = had.soon;
          has = record { file = had.has.file; is = had.has.is; holds = had.has.holds };
          holds = ap (slice_get had.now) same ∙ part_stands (start_of index) 4096 had.now at v (ap (λ (b : List ℕ). slice_get b at) (sym page_is) ∙ there);
        }
    found-after place v (in_reply since offset_ count_ counted at attr eof given after_ answered there same) =
        let k = done-by t l fresh numbered before after is file since (files.Read file offset_ count_) (kept.Read attr counted eof given) answered in
        let e = k.exec in
        let r = reads (t.at e.0) (t.at (suc e.0)) file offset_ count_ counted attr eof given (serves t l _ _ e) in
        let from = k.since in
        let high = k.soon in
        record {
          n = suc e.0;
          now = r.now;
          stable = r.stable;
          late = omega (arith, from, after_, low, late_read);
          soon = omega (arith, high);
          has = record { file = r.puts.turns.new; is = r.puts.turns.is; holds = r.puts.turns.becomes.holds };
          holds = ap (slice_get r.now) same ∙ part_stands offset_ counted r.now at v (ap (λ (b : List ℕ). slice_get b at) (sym r.is) ∙ there);
        }

    -- a file of a stamp is as long as that says
    sized : (stamp : Stamp) (n : ℕ) (now : List ℕ) → HasStamp t n file stamp now → stamp.size ≡ length now
    sized stamp n now has = by (l.servers n has.moment file has.file has.is)
      where
        by : IsSound has.file → stamp.size ≡ length now
        by (sound.file held kept_ holds k size less) =
            let same : now ≡ held = bytes-same now has.stable held kept_ (sym has.holds ∙ holds) in
            ap (λ (s : Stamp). s.size) (sym has.stamp) ∙ size ∙ ap length (sym same)
        by (sound.directory entries holds k each) = absurd (not-list now has.stable entries (sym has.holds ∙ holds))
        by (sound.other text holds k m) = absurd (not-text now has.stable text (sym has.holds ∙ holds))

    -- where the file was found to end it ended at such a moment
    pub end-after : (place : ℕ) → IsEnd first R before x file place → HeldSize t (λ (n : ℕ). own.0 < n) (length before) file place
    end-after place (by_known stamp r less) =
        let had = seen stamp r in
        let long = sized stamp had.n had.now had.has in
        record {
          n = had.n;
          now = had.now;
          stable = had.has.stable;
          late = had.late;
          soon = had.soon;
          has = record { file = had.has.file; is = had.has.is; holds = had.has.holds };
          short = omega (arith, long, less);
        }
    end-after place (by_page stamp index page p r less at) =
        let had = seen stamp r in
        let page_is = ap length (page-is t l fresh numbered before after is file first given stamp index page p had.n had.now had.has) in
        let cut_ = length-take 4096 (drop (start_of index) had.now) in
        let rest = length-drop (start_of index) had.now in
        record {
          n = had.n;
          now = had.now;
          stable = had.has.stable;
          late = had.late;
          soon = had.soon;
          has = record { file = had.has.file; is = had.has.is; holds = had.has.holds };
          short = omega (arith, page_is, cut_, rest, less, at);
        }
    end-after place (by_reply since offset_ count_ counted attr given after_ answered at) =
        let k = done-by t l fresh numbered before after is file since (files.Read file offset_ count_) (kept.Read attr counted true given) answered in
        let e = k.exec in
        let r = reads (t.at e.0) (t.at (suc e.0)) file offset_ count_ counted attr true given (serves t l _ _ e) in
        let from = k.since in
        let high = k.soon in
        let ends = r.end_ refl in
        let given_is = ap length r.is in
        let cut_ = length-take counted (drop offset_ r.now) in
        let rest = length-drop offset_ r.now in
        record {
          n = suc e.0;
          now = r.now;
          stable = r.stable;
          late = omega (arith, from, after_, low, late_read);
          soon = omega (arith, high);
          has = record { file = r.puts.turns.new; is = r.puts.turns.is; holds = r.puts.turns.becomes.holds };
          short = omega (arith, ends, given_is, cut_, rest, at);
        }
