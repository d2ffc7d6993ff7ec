-- On an honest server a stamp that was shown since a place is one that the file had at a moment since then.
use Rattle.core_session.proofs.Prelude.{◌≡◌, refl, ◌<◌, ◌≤◌, inl, inr, ℕ, suc, List, ◌++◌, length, length-append, Option, Some, sym, ap, subst, ◌∙◌, arith, cases_lt, Attr, SetAttr, Time, Stamp, Wcc, stamp_of, FileCall, FileKept, Entry, Call, Reply, resized, Fresh, History, HoldsSized, SetsAttr, Lawful, Server, Object, Holds, Bytes, Entries, Text, Numbered, HasStamp, serves, IsAnswered, IsSeen, shown, WasRegular}
use Rattle.world_model.specs.Server.{IsSound}
use Rattle.law_reads.specs.Kept.{Done, Leads}
use Rattle.law_reads.proofs.KeptBytes.{writes, later, put_before, put_after, stamp_there}
use Rattle.core_session.specs.current.Seen.{written, cut}
use Rattle.nfs_file_calls.specs.declared.call.FileCall.TheVariants as files
use Rattle.nfs_file_calls.specs.declared.owned.FileKept.TheVariants as kept
use Rattle.world_model.specs.declared.message.Call.TheVariants as calls
use Rattle.world_model.specs.declared.message.Reply.TheVariants as answers
use Rattle.world_model.specs.Server as sound
use Rattle.world_model.specs.Service.{Serves, refused, broken_off, done}
use Rattle.world_model.specs.Steps.{TrueOf, TrueStamp, TrueWcc}
use Rattle.core_answers.proofs.bonds.AttrsShown.{answered-grow}
use Rattle.core_answers.proofs.bonds.Executions.{answered-ran, shown-had}
use Rattle.core_session.proofs.current.StampStays.{stamp-stays, is-file}

-- what a SETATTR that was answered did
sets : (s t : Server) (f : List ℕ) (set : SetAttr) (guard : Option Time) (wcc : Wcc) → Serves s (calls.File (files.SetAttr f set guard)) (answers.File (kept.SetAttr wcc)) t → SetsAttr s t f set × TrueWcc s t f wcc
sets s t f set guard wcc (refused r same) = absurd r
sets s t f set guard wcc (broken_off g at way given status w is answer p) = absurd (cc answer)
sets s t f set guard wcc (done d) = d

-- before and after one that set the size of a file
record SizedAt (t : History) (f : List ℕ) (old stamp : Stamp) (n : ℕ) : Type 0 where
  now : List ℕ
  next : List ℕ
  before : HasStamp t n f old now
  after : HasStamp t (suc n) f stamp next

stamp-before : (s : Server) (f : List ℕ) (stamp : Stamp) (o : Object) → TrueStamp s f (Some stamp) → s.object f ≡ Some o → stamp_of o.attr ≡ stamp
stamp-before s f stamp o p is = let same : p.0 ≡ o = some-object p.0 o (sym p.1 ∙ is) in ap (λ (z : Object). stamp_of z.attr) (sym same) ∙ p.2
  where
    some-object : (a b : Object) → Some a ≡ Some b → a ≡ b
    some-object a b e = cc

sized-at : (t : History) (l : Lawful t) (f : List ℕ) (old stamp : Stamp) (size : ℕ) (set : SetAttr) (guard : Option Time) (wcc : Wcc) (d : Done t (files.SetAttr f set guard) (kept.SetAttr wcc))
    → set.size ≡ Some size → Leads wcc old stamp → SizedAt t f old stamp d.0
sized-at t l f old stamp size set guard wcc d is leads = by w.0.object.holds refl (subst (λ (z : Option ℕ). HoldsSized z w.0.object.holds w.0.later) is w.0.sized)
  where
    w : SetsAttr (t.at d.0) (t.at (suc d.0)) f set × TrueWcc (t.at d.0) (t.at (suc d.0)) f wcc
    w = sets (t.at d.0) (t.at (suc d.0)) f set guard wcc (serves t l _ _ d)

    by : (h : Holds) → w.0.object.holds ≡ h → HoldsSized (Some size) h w.0.later → SizedAt t f old stamp d.0
    by (Bytes now stable) held sized = record {
      now = now;
      next = resized size now;
      before = record {
        file = w.0.object;
        stable = stable;
        moment = let le = later t _ _ d in omega (arith, le);
        is = w.0.turns.has.is;
        holds = held;
        stamp = stamp-before (t.at d.0) f old w.0.object (subst (λ (z : Option Stamp). TrueStamp (t.at d.0) f z) leads.before w.1.before) w.0.turns.has.is;
      };
      after = record {
        file = w.0.turns.new;
        stable = resized size stable;
        moment = later t _ _ d;
        is = w.0.turns.is;
        holds = w.0.turns.becomes.holds ∙ sized;
        stamp = stamp_there (t.at (suc d.0)) f leads.attr stamp w.0.turns.new (subst (λ (z : Option Attr). TrueOf (t.at (suc d.0)) f z) leads.after w.1.after) w.0.turns.is leads.is;
      };
    }
    by (Entries list) held sized = absurd sized
    by (Text text) held sized = absurd sized

module _ (t : History) (l : Lawful t) (fresh : Fresh t) (numbered : Numbered t.entries) (before after : List Entry) (is : t.entries ≡ before ++ after) (file : List ℕ) where
  -- an answer in a part of a history is one in all of it
  in-all : (from : ℕ) (call : Call) (reply : Reply) → IsAnswered before from (length before) call reply → IsAnswered t.entries from (length before) call reply
  in-all from call reply a =
      subst (λ (k : List Entry). IsAnswered k from (length before) call reply) (sym is) (answered-grow before after from (length before) call reply a)

  -- the call was executed with this reply, before the end of the part
  record DoneBy (call : FileCall) (reply : FileKept) : Type 0 where
    exec : Done t call reply
    soon : exec.0 < length before

  done-by : (call : FileCall) (reply : FileKept) → IsAnswered before 0 (length before) (calls.File call) (answers.File reply) → DoneBy call reply
  done-by call reply a =
      let ran = answered-ran t l numbered 0 (length before) (calls.File call) (answers.File reply) tt (in-all 0 (calls.File call) (answers.File reply) a) in
      record { exec = (ran.place, ran.xid, ran.at); soon = ran.before }

  -- a regular file holds bytes
  pub record IsFile : Type 0 where
    pub n : ℕ
    pub stamp : Stamp
    pub now : List ℕ
    pub has : HasStamp t n file stamp now

  length-all : length before ≤ length t.entries
  length-all = let long = ap (λ (k : List Entry). length k) is in let parts = length-append before after in omega (arith, long, parts)

  pub regular-file : WasRegular before file → IsFile
  regular-file r =
      let had = shown-had t l numbered r.since (length before) r.call r.reply file r.attr (in-all r.since r.call r.reply r.answered) r.shows in
      let within = had.soon in
      let all = length-all in
      by had.n had.has.o had.has.is (omega (arith, within, all)) (ap (λ (a : Attr). a.kind) had.has.had ∙ r.kind) (l.servers had.n (omega (arith, within, all)) file had.has.o had.has.is)
    where
      by : (n : ℕ) (o : Object) → (t.at n).object file ≡ Some o → n ≤ length t.entries → o.attr.kind ≡ 1 → IsSound o → IsFile
      by n o there within kind (sound.file now stable held k size less) =
          record { n = n; stamp = stamp_of o.attr; now = now; has = record { file = o; stable = stable; moment = within; is = there; holds = held; stamp = refl } }
      by n o there within kind (sound.directory entries held k each) = absurd (omega (arith, kind, k))
      by n o there within kind (sound.other text held k m) = absurd (k kind)

  -- the file had the stamp at a moment since a place
  pub record HadSince (o : ℕ) (stamp : Stamp) : Type 0 where
    pub n : ℕ
    pub late : o < n
    pub soon : n ≤ length before
    pub now : List ℕ
    pub has : HasStamp t n file stamp now

  -- a change that its own reply tells leads from the stamp to another: it came since, or changed nothing
  led : (o d : ℕ) (old stamp : Stamp) (x y : List ℕ) → d < length before → HadSince o old → HasStamp t d file old x → HasStamp t (suc d) file stamp y → HadSince o stamp
  led o d old stamp x y soon had was now = elim (cases_lt d had.n) [
    | inl lt ↦
        let same : stamp ≡ old = stamp-stays t l fresh file d had.n old stamp x y had.now was now had.has (omega (arith, lt)) in
        record { n = had.n; late = had.late; soon = had.soon; now = had.now; has = subst (λ (s : Stamp). HasStamp t had.n file s had.now) (sym same) had.has }
    | inr ge ↦ let late = had.late in record { n = suc d; late = omega (arith, late, ge); soon = omega (arith, soon); now = y; has = now }
  ]

  pub had-since : (m : ℕ) (some : Stamp) (x : List ℕ) → HasStamp t m file some x → (o : ℕ) (stamp : Stamp) → IsSeen before o file stamp → HadSince o stamp
  had-since m some x there o _ (shown stamp since call reply attr late answered shows same) =
      let had = shown-had t l numbered since (length before) call reply file attr (in-all since call reply answered) shows in
      let since_late = had.late in
      let within = had.soon in
      let all = length-all in
      let f = is-file t l fresh file m had.n some x had.has.o there (omega (arith, within, all)) had.has.is in
      record {
        n = had.n;
        late = omega (arith, late, since_late);
        soon = had.soon;
        now = f.0;
        has = record {
          file = had.has.o;
          stable = f.1;
          moment = omega (arith, within, all);
          is = had.has.is;
          holds = f.2;
          stamp = ap stamp_of had.has.had ∙ same;
        };
      }
  had-since m some x there o _ (written old stamp offset count bytes was w) =
      let k = done-by (files.Write file offset w.how bytes) (kept.Write w.wcc count w.committed w.verf) w.answered in
      let d = k.exec in
      let did = writes (t.at d.0) (t.at (suc d.0)) file offset w.how count w.committed bytes w.wcc w.verf (serves t l _ _ d) in
      led o d.0 old stamp did.now _ k.soon (had-since m some x there o old was)
      (put_before t d.0 file old w.wcc did.now did.stable _ _ (later t _ _ d) did.puts did.shows.before w.leads.before)
      (put_after t d.0 file stamp w.wcc.after w.leads.attr did.now did.stable _ _ (later t _ _ d) did.puts did.shows.after w.leads.after w.leads.is)
  had-since m some x there o _ (cut old stamp size was w) =
      let k = done-by (files.SetAttr file w.set w.guard) (kept.SetAttr w.wcc) w.answered in
      let d = k.exec in
      let did = sized-at t l file old stamp size w.set w.guard w.wcc d w.is w.leads in
      led o d.0 old stamp did.now did.next k.soon (had-since m some x there o old was) did.before did.after
