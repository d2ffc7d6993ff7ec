-- What a run of two scripts leaves, from its set-ups and its turns.
use Rattle.std.proofs.Common.{◌≡◌, ◌≢◌, ◌≤◌, ◌<◌, ◌⊎◌, inl, inr, ℕ, List, [], ◌∷◌, ◌++◌, length, max, All, Option, Some, None, Result, Ok, Err, refl, sym, ap, subst, ◌∙◌, arith, append-nil}
use Rattle.world_model.specs.declared.entry.Entry.{Entry}
use Rattle.world_model.specs.Entries.{ours}
use Rattle.world_model.specs.Follows.{IsFront}
use Rattle.xdr_codec.specs.declared.blob.Memory.{Memory}
use Rattle.nfs_script.specs.declared.fault.ScriptFault.{ScriptFault}
use Rattle.nfs_script.specs.declared.script.ScriptLine.{ScriptLine}
use Rattle.nfs_script.specs.Asked.{IsAskedLine}
use Rattle.nfs_script.specs.Script.{script_of}
use Rattle.outside.specs.Pairs.{PairStep, PairTold, seen_by}
use Rattle.pair_ends.specs.Ends.{AddsAlone}
use Rattle.lane_session.specs.declared.halt.Halt.{Halt}
use Rattle.lane_session.specs.declared.halt.Halt.TheVariants as halts
use Rattle.lane_session.specs.Statuses.{IsCutOff, IsLeft, IsSessionStatus, of_halt}
use Rattle.script_runs.specs.Readings.{Reads, ReadsAll}
use Rattle.script_runs.specs.Run.{IsReadAs, IsFaultOf, Says}
use Rattle.script_runs.specs.Streams.{Appends, TakesAll}
use Rattle.script_runs.proofs.Runs.{read_for}
use Rattle.pair_runs.specs.declared.client.Client.{Client}
use Rattle.pair_runs.specs.declared.client.State.{State}
use Rattle.pair_runs.specs.declared.client.State.TheVariants as states
use Rattle.pair_runs.specs.declared.turns.Pair.{Pair}
use Rattle.pair_runs.specs.Beginnings.{IsOneRefused, for_first, for_second, IsRefused, for_fault, for_memory, ReadsBoth, ReadsOne, ReadsTexts}
use Rattle.pair_runs.specs.Clients.{AreOver, AreReady, IsEnding, IsOver, IsReady, Stands, status_in}
use Rattle.pair_runs.specs.PairGoing.{BothCut, BothGo, GoesDone, OpensAt, PairAdds, PairBreaks, PairBy, PairEnds, turns_cut, turns_done, PairOpens, PairPasses, SamePair, StateGoes}
use Rattle.pair_runs.specs.PairRuns.{BothRan, ClientRan, unbegun, cut_text, whole_text, by_both, cut_off, NoneBegan, unread, refused_a, refused_b, PairLeaves, none_began, both_ran, PairRelates, RefusesOne}
use Rattle.pair_runs.specs.Texts.{pair_clocks, pair_transcript}
use Rattle.pair_runs.proofs.Both.{other-goes}
use Rattle.pair_runs.proofs.Cutting.{client-cut, client-done, cuts-off}
use Rattle.pair_runs.proofs.Passages.{appends-same, appends-then, both-less, both-same, reads-same}
use Rattle.pair_runs.proofs.Sayings.{adds-then, readings-append, transcripts-append}

-- ---- both set-ups

-- what was added where nothing was told before is all
whole-of : (given text : List ℕ) (h k : PairTold) → h.steps ≡ [] → PairAdds given text h k → (given ≡ pair_clocks k.steps) × (text ≡ pair_transcript k.steps)
whole-of given text h k none p =
    let all : p.more ≡ k.steps = sym (ap (λ (t : PairTold). t.steps) p.grown ∙ ap (λ (t : List PairStep). t ++ p.more) none) in
    (p.clocked ∙ ap pair_clocks all, p.shown ∙ ap pair_transcript all)

module _ (first second : List ScriptLine) (h k l : PairTold) (none : h.steps ≡ []) where
  first-own : ours (seen_by 0 h.steps) ≡ []
  first-own = ap (λ (t : List PairStep). ours (seen_by 0 t)) none

  -- client b has nothing of its own before its set-up
  second-own : AddsAlone 0 h k → ours (seen_by 1 k.steps) ≡ []
  second-own alone =
      ap (λ (t : PairTold). ours (seen_by 1 t.steps)) alone.grown ∙ ap (λ (t : List PairStep). ours (seen_by 1 (t ++ alone.more))) none ∙ alone.unseen

  -- a was set up, and b
  pub both-open : (p : Pair) → p.a.script ≡ first → p.b.script ≡ second → OpensAt 0 1 first (Ok p.a.state) h k → OpensAt 1 1073741825 second (Ok p.b.state) k l → PairOpens first second (Ok p) h l
  both-open p one two x y = (
    adds-then [] [] [] [] h k l (x.silent first-own) (y.silent (second-own x.alone)),
    record {
      a = other-goes 1 (omega arith) k l y.alone 1 p.a (subst (λ (s : List ScriptLine). StateGoes 1 s (seen_by 0 k.steps) p.a.state) (sym one) (x.opened first-own));
      b = subst (λ (s : List ScriptLine). StateGoes 1073741825 s (seen_by 1 l.steps) p.b.state) (sym two) (y.opened (second-own x.alone));
    },
  )

  -- memory ran out in the set-up of b
  pub second-unopened : (e : Memory) (a : Client) → a.script ≡ first → IsReady a → OpensAt 0 1 first (Ok a.state) h k → OpensAt 1 1073741825 second (Err e) k l → PairOpens first second (Err e) h l
  second-unopened e a one ready x y =
      let goes = other-goes 1 (omega arith) k l y.alone 1 a (subst (λ (s : List ScriptLine). StateGoes 1 s (seen_by 0 k.steps) a.state) (sym one) (x.opened first-own)) in (
        adds-then [] [] [] [] h k l (x.silent first-own) (y.silent (second-own x.alone)),
        subst (λ (s : List ScriptLine). ClientRan 1 s (seen_by 0 l.steps) 7) one (client-cut 1 a.script (seen_by 0 l.steps) a.state 7 ready.asked ready.stands (inr refl) goes),
        y.opened (second-own x.alone),
      )

  -- in that of a
  pub first-unopened : (e : Memory) → OpensAt 0 1 first (Err e) h k → PairOpens first second (Err e) h k
  first-unopened e x = (x.silent first-own, x.opened first-own, unbegun (second-own x.alone) refl)

-- ---- the turns

few-left : (halt : Halt) (last : List ℕ) → IsLeft halt last → length last ≤ 1
few-left halts.Output last is = let none = ap length is in omega (arith, none)
few-left halts.Memory last few = few

none-left : (halt : Halt) (last : List ℕ) → IsLeft halt last → of_halt halt ≢ 7 → last ≡ []
none-left halts.Output last is other = is
none-left halts.Memory last few other = absurd (other refl)

done-of : (first : ℕ) (c : Client) (h : List Entry) → All IsAskedLine c.script → IsOver c.state → StateGoes first c.script h c.state → ClientRan first c.script h (status_in c.state)
done-of first c h asked over g = by c.state over g
  where
    by : (state : State) → IsOver state → StateGoes first c.script h state → ClientRan first c.script h (status_in state)
    by (states.Open s) over g = absurd over
    by states.Lost over g = absurd over
    by (states.Done status) over g = client-done first c.script h status asked g

session-status : (script : List ScriptLine) (state : State) → IsOver state → Stands script state → IsSessionStatus (status_in state)
session-status script (states.Open s) over stands = absurd over
session-status script states.Lost over stands = absurd over
session-status script (states.Done status) over stands = stands

module _ (first second : List ScriptLine) (p : Pair) (same_a : p.a.script ≡ first) (same_b : p.b.script ≡ second) (h k l : PairTold) (none : h.steps ≡ []) (opens : PairOpens first second (Ok p) h k) where
  -- each line has its answer
  both-done : {T : Type 0} → (x : T) (q : Pair) (status : ℕ) (given text : List ℕ) → AreReady q → AreOver q → status ≡ max (status_in q.a.state) (status_in q.b.state)
      → PairBy p q (Ok x) given text k l → BothRan first second given l status text
  both-done x q status given text ready over is by =
      let go = by.2 opens.1 in
      let all = whole-of given text h l none (adds-then [] [] given text h k l opens.0 by.1) in
      record {
        a = status_in q.a.state;
        b = status_in q.b.state;
        one = subst (λ (s : List ScriptLine). ClientRan 1 s (seen_by 0 l.steps) (status_in q.a.state)) (ap (λ (c : Client). c.script) by.0.a ∙ same_a)
            (done-of 1 q.a (seen_by 0 l.steps) ready.a.asked over.a go.a);
        other = subst (λ (s : List ScriptLine). ClientRan 1073741825 s (seen_by 1 l.steps) (status_in q.b.state)) (ap (λ (c : Client). c.script) by.0.b ∙ same_b)
            (done-of 1073741825 q.b (seen_by 1 l.steps) ready.b.asked over.b go.b);
        ends = by_both (session-status q.a.script q.a.state over.a ready.a.stands) (session-status q.b.script q.b.state over.b ready.b.stands) is;
        says = whole_text all.1;
        clocked = record { last = []; is = all.0 ∙ sym (append-nil (pair_clocks l.steps)); few = omega arith; whole = λ other. refl };
      }

  -- the run was cut off
  both-cut : (T : Type 0) (halt : Halt) (q : Pair) (status : ℕ) (given text : List ℕ) → status ≡ of_halt halt → PairBy {T = T} p q (Err halt) given text k l → BothRan first second given l status text
  both-cut T halt q status given text is by =
      let cut = by.1 opens.1 in
      let early = whole-of [] [] h k none opens.0 in
      let all : l.steps ≡ k.steps ++ by.0.more = ap (λ (t : PairTold). t.steps) by.0.grown in
      let read : pair_clocks l.steps ≡ pair_clocks by.0.more =
      ap pair_clocks all ∙ readings-append k.steps by.0.more ∙ ap (λ (t : List ℕ). t ++ pair_clocks by.0.more) (sym early.0) in
      let told : pair_transcript l.steps ≡ pair_transcript by.0.more =
      ap pair_transcript all ∙ transcripts-append k.steps by.0.more ∙ ap (λ (t : List ℕ). t ++ pair_transcript by.0.more) (sym early.1) in
      let off : IsCutOff status = subst IsCutOff (sym is) (cuts-off halt) in
      record {
        a = status;
        b = status;
        one = subst (λ (n : ℕ). ClientRan 1 first (seen_by 0 l.steps) n) (sym is) (subst (λ (s : List ScriptLine). ClientRan 1 s (seen_by 0 l.steps) (of_halt halt)) same_a cut.a);
        other = subst (λ (n : ℕ). ClientRan 1073741825 second (seen_by 1 l.steps) n) (sym is) (subst (λ (s : List ScriptLine). ClientRan 1073741825 s (seen_by 1 l.steps) (of_halt halt)) same_b cut.b);
        ends = cut_off off refl refl;
        says = cut_text off (subst (IsFront text) (sym told) by.0.shown);
        clocked = record {
          last = by.0.last;
          is = by.0.clocked ∙ ap (λ (t : List ℕ). t ++ by.0.last) (sym read);
          few = few-left halt by.0.last by.0.left;
          whole = λ other. none-left halt by.0.last by.0.left (λ same. other (is ∙ same));
        };
      }

  -- by their status
  pub turns-ran : (status : ℕ) (given text : List ℕ) → PairEnds p status given text k l → BothRan first second given l status text
  turns-ran status given text (turns_done q ready over is by) = both-done (tt {0}) q status given text ready over is by
  turns-ran status given text (turns_cut q halt is by) = both-cut (Unit {0}) halt q status given text is by

-- memory ran out in a set-up
pub none-opened : (first second : List ScriptLine) (e : Memory) (status : ℕ) (h k : PairTold) → h.steps ≡ [] → status ≡ 7 → PairOpens first second (Err e) h k → BothRan first second [] k status []
none-opened first second e status h k none seven o =
    let all = whole-of [] [] h k none o.0 in
    record {
      a = status;
      b = status;
      one = subst (λ (n : ℕ). ClientRan 1 first (seen_by 0 k.steps) n) (sym seven) o.1;
      other = subst (λ (n : ℕ). ClientRan 1073741825 second (seen_by 1 k.steps) n) (sym seven) o.2;
      ends = cut_off (inr seven) refl refl;
      says = whole_text all.1;
      clocked = record { last = []; is = all.0 ∙ sym (append-nil (pair_clocks k.steps)); few = omega arith; whole = λ other. refl };
    }

-- ---- the scripts

module _ (left_a left_b : Option (List ℕ)) (one other items_a items_b : List ℕ) (same_a : one ≡ items_a) (took_a : TakesAll left_a items_a) (same_b : other ≡ items_b) (took_b : TakesAll left_b items_b) where
  none-of : (status : ℕ) (said : List ℕ) → IsOneRefused one other status said → NoneBegan left_a left_b status said
  none-of status said (for_first (for_fault fault e r)) = refused_a fault (read_for left_a one items_a (Err fault) e same_a took_a) r
  none-of status said (for_first (for_memory seven none)) = unread (inr seven) none
  none-of status said (for_second lines e (for_fault fault f r)) =
      refused_b lines (read_for left_a one items_a (Ok lines) e same_a took_a) fault (read_for left_b other items_b (Err fault) f same_b took_b) r
  none-of status said (for_second lines e (for_memory seven none)) = unread (inr seven) none

  both-of : (result : Result (List ScriptLine × List ScriptLine) ℕ) (said : List ℕ) → ReadsTexts one other result said → ReadsBoth left_a left_b result said
  both-of (Ok both) said r = (read_for left_a one items_a (Ok both.0) r.0 same_a took_a, read_for left_b other items_b (Ok both.1) r.1 same_b took_b, r.2)
  both-of (Err status) said r = none-of status said r

  -- both texts were all that the sources had
  pub reads-both : (result : Result (List ScriptLine × List ScriptLine) ℕ) (v w : Option (List ℕ)) → Says v w (ReadsTexts one other result) → Says v w (ReadsBoth left_a left_b result)
  reads-both result v w said = record { text = said.text; added = said.added; is = both-of result said.text said.is }

-- ---- what is written of them

-- two texts, one after the other
says-then : (P Q R : List ℕ → Type 0) (v w u : Option (List ℕ)) → ((said : List ℕ) → P said → said ≡ []) → ((said more : List ℕ) → P said → Q more → R more) → Says v w P → Says w u Q → Says v u R
says-then P Q R v w u none join p q = record {
  text = q.text;
  added = appends-then v w u [] q.text (subst (λ (t : List ℕ). Appends v w t) (none p.text p.is) p.added) q.added;
  is = join p.text q.text p.is q.is;
}

pub first-refused : (first second : List ℕ) (status : ℕ) (v w : Option (List ℕ)) → Says v w (IsRefused 0 first status) → Says v w (IsOneRefused first second status)
first-refused first second status v w p = record { text = p.text; added = p.added; is = for_first p.is }

pub second-refused : (first second : List ℕ) (lines : List ScriptLine) (status : ℕ) (v w u : Option (List ℕ)) → Says v w (ReadsOne 0 first (Ok lines)) → Says w u (IsRefused 1 second status)
    → Says v u (IsOneRefused first second status)
second-refused first second lines status v w u p q =
    says-then (ReadsOne 0 first (Ok lines)) (IsRefused 1 second status) (IsOneRefused first second status) v w u (λ said r. r.1) (λ said more r f. for_second lines r.0 f) p q

pub both-read : (first second : List ℕ) (a b : List ScriptLine) (v w u : Option (List ℕ)) → Says v w (ReadsOne 0 first (Ok a)) → Says w u (ReadsOne 1 second (Ok b)) → Says v u (ReadsTexts first second (Ok (a, b)))
both-read first second a b v w u p q =
    says-then (ReadsOne 0 first (Ok a)) (ReadsOne 1 second (Ok b)) (ReadsTexts first second (Ok (a, b))) v w u (λ said r. r.1) (λ said more r f. (r.0, f.0, f.1)) p q

-- one text
pub one-read : (end : ℕ) (text : List ℕ) (lines : List ScriptLine) (v : Option (List ℕ)) → script_of text ≡ Ok lines → Says v v (ReadsOne end text (Ok lines))
one-read end text lines v e = record { text = []; added = appends-same v; is = (e, refl) }

pub one-refused : (end : ℕ) (text : List ℕ) (fault : ScriptFault) (status : ℕ) (v w : Option (List ℕ)) → script_of text ≡ Err fault → Says v w (RefusesOne end fault status) → Says v w (IsRefused end text status)
one-refused end text fault status v w e p = record { text = p.text; added = p.added; is = for_fault fault e p.is }

pub one-unread : (end : ℕ) (text : List ℕ) (status : ℕ) (v : Option (List ℕ)) → status ≡ 7 → Says v v (IsRefused end text status)
one-unread end text status v seven = record { text = []; added = appends-same v; is = for_memory seven refl }

-- turns end neither with 3 nor with 4
pub no-early : (status : ℕ) (A : Type 0) → IsEnding status → (status ≡ 3) ⊎ (status ≡ 4) → A
no-early status A ending early = absurd (elim early [ inl three ↦ never 3 three ending (omega arith, omega arith) | inr four ↦ never 4 four ending (omega arith, omega arith) ])
  where
    off : (n : ℕ) → status ≡ n → IsCutOff status → (2 < n) × (n < 5) → ⊥
    off n is (inl five) within = let low = within.1 in omega (arith, is, five, low)
    off n is (inr seven) within = let low = within.1 in omega (arith, is, seven, low)

    never : (n : ℕ) → status ≡ n → IsEnding status → (2 < n) × (n < 5) → ⊥
    never n is (inl (inl zero_is)) within = let high = within.0 in omega (arith, is, zero_is, high)
    never n is (inl (inr (inl one_is))) within = let high = within.0 in omega (arith, is, one_is, high)
    never n is (inl (inr (inr six))) within = let low = within.1 in omega (arith, is, six, low)
    never n is (inr cut) within = off n is cut within

-- a source failed, or memory ran out
pub says-unread : (v left_a left_b : Option (List ℕ)) (status : ℕ) → (status ≡ 4) ⊎ (status ≡ 7) → Says v v (NoneBegan left_a left_b status)
says-unread v left_a left_b status is = record { text = []; added = appends-same v; is = unread is refl }

-- ---- a run

abbrev RunSays : (v w r0 r1 : Option (List ℕ)) (t0 t1 : Option PairTold) (left_a left_b : Option (List ℕ)) (status : ℕ) → Type 0
RunSays v w r0 r1 t0 t1 left_a left_b status =
    Says v w (λ text. Reads r0 r1 (λ given. PairRelates t0 t1 (λ before h. before.steps ≡ [] → PairLeaves given left_a left_b h status text)))

-- nothing was begun
pub says-none : (v w r : Option (List ℕ)) (t : Option PairTold) (left_a left_b : Option (List ℕ)) (status : ℕ) → Says v w (NoneBegan left_a left_b status) → RunSays v w r r t t left_a left_b status
says-none v w r t left_a left_b status said = record {
  text = said.text;
  added = said.added;
  is = ([], reads-same r, both-same t (λ before h. before.steps ≡ [] → PairLeaves [] left_a left_b h status said.text) (λ h still. none_began still refl said.is));
}

-- both scripts were run
pub says-ran : (v w u r0 r1 : Option (List ℕ)) (t0 t1 : Option PairTold) (left_a left_b : Option (List ℕ)) (first second : List ScriptLine) (status : ℕ)
    → Says v w (λ said. IsReadAs left_a (Ok first) × IsReadAs left_b (Ok second) × (said ≡ []))
    → PairPasses r0 r1 t0 t1 w u (λ given text h k. h.steps ≡ [] → BothRan first second given k status text) → RunSays v u r0 r1 t0 t1 left_a left_b status
says-ran v w u r0 r1 t0 t1 left_a left_b first second status said p = record {
  text = p.text;
  added = appends-then v w u [] p.text (subst (λ (t : List ℕ). Appends v w t) said.is.2 said.added) p.added;
  is = (
    p.given,
    p.read,
    both-less t0 t1 (λ h k. h.steps ≡ [] → BothRan first second p.given k status p.text) (λ before h. before.steps ≡ [] → PairLeaves p.given left_a left_b h status p.text)
        (λ h k x none. both_ran first second said.is.0 said.is.1 (x none)) p.told,
  );
}
