-- On an honest server a stamp that a file may have since a truncate is one that it had at a moment since the size was set.
use Rattle.core_session.proofs.Prelude.{◌≡◌, ◌<◌, ◌≤◌, inl, inr, ℕ, suc, List, ◌++◌, length, Option, Some, refl, sym, ap, subst, ◌∙◌, arith, cases_lt, Attr, SetAttr, Time, Stamp, Wcc, stamp_of, Entry, resized, Fresh, History, HoldsSized, SetsAttr, Lawful, Holds, Bytes, Entries, Text, Object, Numbered, HasStamp, serves}
use Rattle.law_reads.specs.Kept.{Done}
use Rattle.law_reads.proofs.KeptBytes.{writes, later, put_before, put_after, stamp_there}
use Rattle.nfs_file_calls.specs.declared.call.FileCall.TheVariants as files
use Rattle.nfs_file_calls.specs.declared.owned.FileKept.TheVariants as kept
use Rattle.world_model.specs.Steps.{TrueOf, TrueStamp, TrueWcc}
use Rattle.world_model.proofs.Doing.{setattr_done}
use Rattle.core_session.specs.current.Seen as seen_by
use Rattle.core_session.proofs.current.ReadsRecent.{done-by}
use Rattle.core_session.proofs.current.SeenTrue.{HadSince, had-since}
use Rattle.core_session.proofs.current.StampStays.{stamp-stays}
use Rattle.core_session.proofs.kept.OwnSeen.{SeenAfter, itself, shown, written, cut}

-- what a SETATTR of a size made
record Made (t : History) (f : List ℕ) (n : ℕ) (wcc : Wcc) : Type 0 where
  o : Object
  now : List ℕ
  next : List ℕ
  stable : List ℕ
  had : Object
  old_stable : List ℕ
  moment : suc n ≤ length t.entries
  was : (t.at n).object f ≡ Some had
  held : had.holds ≡ Bytes now old_stable
  is : (t.at (suc n)).object f ≡ Some o
  holds : o.holds ≡ Bytes next stable
  shows : TrueWcc (t.at n) (t.at (suc n)) f wcc

made : (t : History) → Lawful t → (f : List ℕ) (size : ℕ) (set : SetAttr) (guard : Option Time) (wcc : Wcc) (d : Done t (files.SetAttr f set guard) (kept.SetAttr wcc)) → set.size ≡ Some size → Made t f d.0 wcc
made t l f size set guard wcc d is = by w.0.object.holds refl (subst (λ (z : Option ℕ). HoldsSized z w.0.object.holds w.0.later) is w.0.sized)
  where
    w : SetsAttr (t.at d.0) (t.at (suc d.0)) f set × TrueWcc (t.at d.0) (t.at (suc d.0)) f wcc
    w = setattr_done (t.at d.0) (t.at (suc d.0)) f set guard wcc (serves t l _ _ d)

    by : (h : Holds) → w.0.object.holds ≡ h → HoldsSized (Some size) h w.0.later → Made t f d.0 wcc
    by (Bytes now stable) held sized = record {
      o = w.0.turns.new;
      now = now;
      next = resized size now;
      stable = resized size stable;
      had = w.0.object;
      old_stable = stable;
      moment = later t _ _ d;
      was = w.0.turns.has.is;
      held = held;
      is = w.0.turns.is;
      holds = w.0.turns.becomes.holds ∙ sized;
      shows = w.1;
    }
    by (Entries list) held sized = absurd sized
    by (Text text) held sized = absurd sized

some-object : (a b : Object) → Some a ≡ Some b → a ≡ b
some-object a b e = cc

made-after : (t : History) (f : List ℕ) (n : ℕ) (wcc : Wcc) (w : Made t f n wcc) (attr : Attr) (stamp : Stamp) → wcc.after ≡ Some attr → stamp_of attr ≡ stamp → HasStamp t (suc n) f stamp w.next
made-after t f n wcc w attr stamp after is = record {
  file = w.o;
  stable = w.stable;
  moment = w.moment;
  is = w.is;
  holds = w.holds;
  stamp = stamp_there (t.at (suc n)) f attr stamp w.o (subst (λ (z : Option Attr). TrueOf (t.at (suc n)) f z) after w.shows.after) w.is is;
}

made-before : (t : History) (f : List ℕ) (n : ℕ) (wcc : Wcc) (w : Made t f n wcc) (stamp : Stamp) → wcc.before ≡ Some stamp → HasStamp t n f stamp w.now
made-before t f n wcc w stamp before = record {
  file = w.had;
  stable = w.old_stable;
  moment = let within = w.moment in omega (arith, within);
  is = w.was;
  holds = w.held;
  stamp = by (subst (λ (z : Option Stamp). TrueStamp (t.at n) f z) before w.shows.before);
}
  where
    by : TrueStamp (t.at n) f (Some stamp) → stamp_of w.had.attr ≡ stamp
    by p = let same : p.0 ≡ w.had = some-object p.0 w.had (sym p.1 ∙ w.was) in ap (λ (z : Object). stamp_of z.attr) (sym same) ∙ p.2

module _ (t : History) (l : Lawful t) (fresh : Fresh t) (numbered : Numbered t.entries) (before after : List Entry) (is : t.entries ≡ before ++ after) (file : List ℕ) where
  abbrev Had : ℕ → Stamp → Type 0
  Had o stamp = HadSince t l fresh numbered before after is file o stamp

  -- a change that its own reply tells leads from the stamp to another: it came since, or changed nothing
  led : (o d : ℕ) (old stamp : Stamp) (x y : List ℕ) → d < length before → Had o old → HasStamp t d file old x → HasStamp t (suc d) file stamp y → Had o stamp
  led o d old stamp x y soon had was now = elim (cases_lt d had.n) [
    | inl lt ↦
        let same : stamp ≡ old = stamp-stays t l fresh file d had.n old stamp x y had.now was now had.has (omega (arith, lt)) in
        record { n = had.n; late = had.late; soon = had.soon; now = had.now; has = subst (λ (s : Stamp). HasStamp t had.n file s had.now) (sym same) had.has }
    | inr ge ↦ let late = had.late in record { n = suc d; late = omega (arith, late, ge); soon = omega (arith, soon); now = y; has = now }
  ]

  module _ (first : Wcc) (d size : ℕ) (set : SetAttr) (guard : Option Time) (done : Done t (files.SetAttr file set guard) (kept.SetAttr first)) (sized : set.size ≡ Some size) (early : done.0 < d) (within : d ≤ length before) where
    w : Made t file done.0 first
    w = made t l file size set guard first done sized

    -- the stamp that it has then
    there : HasStamp t (suc done.0) file (stamp_of w.o.attr) w.next
    there = record { file = w.o; stable = w.stable; moment = w.moment; is = w.is; holds = w.holds; stamp = refl }

    pub had-after : (stamp : Stamp) → SeenAfter first before d file stamp → Had done.0 stamp
    had-after _ (itself stamp attr after_ same) =
        record { n = suc done.0; late = omega arith; soon = omega (arith, early, within); now = w.next; has = made-after t file done.0 first w attr stamp after_ same }
    had-after _ (shown stamp since call reply attr after_ answered shows same) =
        let h = had-since t l fresh numbered before after is file (suc done.0) (stamp_of w.o.attr) w.next there d stamp (seen_by.shown stamp since call reply attr after_ answered shows same) in
        let late = h.late in
        record { n = h.n; late = omega (arith, early, late); soon = h.soon; now = h.now; has = h.has }
    had-after _ (written old stamp offset count bytes was k) =
        let a = done-by t l fresh numbered before after is file 0 (files.Write file offset k.how bytes) (kept.Write k.wcc count k.committed k.verf) k.answered in
        let p = a.exec in
        let did = writes (t.at p.0) (t.at (suc p.0)) file offset k.how count k.committed bytes k.wcc k.verf (serves t l _ _ p) in
        led done.0 p.0 old stamp did.now _ a.soon (had-after old was)
        (put_before t p.0 file old k.wcc did.now did.stable _ _ (later t _ _ p) did.puts did.shows.before k.leads.before)
        (put_after t p.0 file stamp k.wcc.after k.leads.attr did.now did.stable _ _ (later t _ _ p) did.puts did.shows.after k.leads.after k.leads.is)
    had-after _ (cut old stamp other was k) =
        let a = done-by t l fresh numbered before after is file 0 (files.SetAttr file k.set k.guard) (kept.SetAttr k.wcc) k.answered in
        let p = a.exec in
        let did = made t l file other k.set k.guard k.wcc p k.is in
        led done.0 p.0 old stamp did.now did.next a.soon (had-after old was) (made-before t file p.0 k.wcc did old k.leads.before)
        (made-after t file p.0 k.wcc did k.leads.attr stamp k.leads.after k.leads.is)
