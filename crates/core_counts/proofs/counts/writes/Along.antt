-- The tally of a place is kept along a history.
use Rattle.core_counts.proofs.Prelude.{◌≡◌, ◌≤◌, ◌<◌, ◌+◌, inl, ℕ, List, [], ◌∷◌, ◌++◌, length, Some, None, slice_get, sym, ap, subst, ◌∙◌, arith, next_xid, waiting_at, Answer, Entry, Began, Sent, Call, Op, CoversPlace, HasXid, SpellsCall, SpellsCallBy, head_of, Modes, Pending, of_file, rest_at, Shelf, Mounted, machine_of, Lane, Setup, IsFresh, AnswersAt, View, MaySetUp, IsSetUp, StepsTo, Known, get-remove, skip, one-call, SameCalls, keeps-bytes, keeps-basis, keeps-wholly, IsPlain}
use Rattle.rpc_message.proofs.CallLaws.{call_xid}
use Rattle.world_model.specs.declared.entry.Entry.TheVariants.{Answered as Noted}
use Rattle.core_counts.proofs.coarse.Going.{IsSeen, KeepsGoing}
use Rattle.core_counts.proofs.counts.engine.Lists.{Each}
use Rattle.core_counts.proofs.counts.writes.Tally.{In, Writer, Waits, Spent, Tally, total, lists-later, sents-later, spent-later}
use Rattle.core_counts.proofs.counts.writes.Weights.{due_of, any}
use Rattle.core_counts.proofs.counts.writes.Before.{is-nfs, same-number}
use Rattle.core_counts.proofs.counts.writes.Goes.{stirs-tally}
use Rattle.core_counts.proofs.counts.writes.Begins.{starts-tally}
use Rattle.core_counts.proofs.counts.writes.Hears.{takes-tally}

module _ (m : Mounted) (modes_of : Modes) (same : m.nocto ≡ modes_of.nocto) (setup : Setup) (f : List ℕ) (i : ℕ) where
  abbrev TallyAt : List Entry → View → Type 0
  TallyAt = Tally m modes_of same setup f i

  abbrev WriterAt : List Entry → ℕ → Type 0
  WriterAt = Writer m modes_of same setup f i

  -- ---- other entries

  answers-tally : (h : List Entry) (old new : View) (at lane line : ℕ) (answer : Answer) → StepsTo (machine_of m) h old (Noted lane line answer) new → Known setup h old
      → AnswersAt old at lane (Some answer) new → TallyAt h old → TallyAt (h ++ Noted lane line answer ∷ []) new
  answers-tally h old new at lane line answer step k a i_ = record {
    basis = (keeps-basis m setup).answers h old new at lane line answer k a i_.basis;
    wholly = (keeps-wholly m setup).answers h old new at lane line answer k a i_.wholly;
    bytes = (keeps-bytes m modes_of same setup).answers h old new at lane line answer k a i_.bytes;
    lists = lists-later m modes_of same setup f i h (Noted lane line answer) i_.lists;
    below = subst (λ (w : View). Each (λ (z : ℕ). z < next_xid w.calls) i_.lists.made) (sym a.is) i_.below;
    waits = subst (λ (w : View). Waits m modes_of same setup f i w.calls.calls i_.lists.made) (sym a.is) i_.waits;
    sents = sents-later m modes_of same setup f i h (Noted lane line answer) i_.lists.made (λ bytes is. absurd (not-sent bytes is)) i_.sents;
    spent = subst (λ (w : View). Spent m modes_of same setup f i (h ++ Noted lane line answer ∷ []) w.lanes i_.lists.writers) (sym a.is)
        (λ j l there. spent-later m modes_of same setup f i h (Noted lane line answer) old.lanes i_.lists.writers (λ q b here ln op is. not-began b.number ln op is) i_.spent (skip at j) l
        (get-remove old.lanes at j l there));
    few = subst (λ (w : View). length i_.lists.made + due_of any (rest_at (of_file f w.shelf.back) i) ≤ total m modes_of same setup f i h i_.lists) (sym a.is) i_.few;
  }
    where
      not-sent : (bytes : List ℕ) → Noted lane line answer ≡ Sent bytes → ⊥
      not-sent bytes is = cc

      not-began : (number ln : ℕ) (op : Op) → Noted lane line answer ≡ Began number ln op → ⊥
      not-began number ln op is = cc

  same-tally : (h : List Entry) (e : Entry) (old new : View) → StepsTo (machine_of m) h old e new → IsPlain e → IsSeen e old → new.lanes ≡ old.lanes → new.shelf ≡ old.shelf
      → new.wsize ≡ old.wsize → next_xid new.calls ≡ next_xid old.calls → SameCalls old.calls.calls new.calls.calls → TallyAt h old → TallyAt (h ++ e ∷ []) new
  same-tally h e old new step plain seen lanes shelf wsize next calls_ i_ = record {
    basis = (keeps-basis m setup).same h e old new plain lanes shelf wsize calls_ i_.basis;
    wholly = (keeps-wholly m setup).same h e old new lanes shelf calls_ i_.wholly;
    bytes = (keeps-bytes m modes_of same setup).same h e old new plain lanes shelf wsize calls_ i_.bytes;
    lists = lists-later m modes_of same setup f i h e i_.lists;
    below = subst (λ (n : ℕ). Each (λ (z : ℕ). z < n) i_.lists.made) (sym next) i_.below;
    waits = λ z w other is spells c. let was = calls_.waited z w is in i_.waits z was.was other was.waited (subst (SpellsCallBy setup.cred z other) was.bytes spells) c;
    sents = sents-later m modes_of same setup f i h e i_.lists.made own i_.sents;
    spent = subst (λ (ls : List Lane). Spent m modes_of same setup f i (h ++ e ∷ []) ls i_.lists.writers) (sym lanes)
        (spent-later m modes_of same setup f i h e old.lanes i_.lists.writers (λ j l there line op is. plain.begins_ l.number line op is) i_.spent);
    few = subst (λ (b : Shelf). length i_.lists.made + due_of any (rest_at (of_file f b.back) i) ≤ total m modes_of same setup f i h i_.lists) (sym shelf) i_.few;
  }
    where
      -- a record that is sent is that of a call that waits
      own : (bytes : List ℕ) → e ≡ Sent bytes → (x : ℕ) (call : Call) → HasXid bytes x → SpellsCall x call bytes → CoversPlace f i call → In x i_.lists.made
      own bytes is x call named spells c =
          let n = seen.sent_ bytes is in
          let whole = i_.wholly.all n.0 n.1 n.2 in
          let its : SpellsCallBy setup.cred n.0 whole.call bytes = subst (SpellsCallBy setup.cred n.0 whole.call) n.3 whole.spells in
          let one : call ≡ whole.call = one-call x n.0 call whole.call bytes (is-nfs f i call c) spells its.spells in
          let number : n.0 ≡ x = same-number n.0 x (sym (call_xid (head_of n.0 whole.call) its.spells.args bytes its.spells.head) ∙ named) in
          subst (λ (z : ℕ). In z i_.lists.made) number (i_.waits n.0 n.1 whole.call n.2 whole.spells (subst (CoversPlace f i) one c))

  fresh-tally : (h : List Entry) (v : View) → MaySetUp setup → IsSetUp setup h → IsFresh setup v → TallyAt h v
  fresh-tally h v may up fresh = record {
    basis = (keeps-basis m setup).fresh h v may up fresh;
    wholly = (keeps-wholly m setup).fresh h v fresh;
    bytes = (keeps-bytes m modes_of same setup).fresh h v may up fresh;
    lists = record {
      made = [];
      writers = [];
      poor = [];
      commits = [];
      made_apart = tt;
      writers_apart = tt;
      poor_apart = tt;
      commits_apart = tt;
      each_writer = tt;
      each_poor = tt;
      each_commit = tt;
    };
    below = tt;
    waits = λ z w call is spells c. absurd (let none : None ≡ Some w = ap (λ (k : _). waiting_at z k.calls) (sym fresh.calls) ∙ is in let no_way : None ≡ Some w = none in cc);
    sents = λ j x bytes call at named spells c. inl (λ k lane line op began early. up.unbegun k lane line op began);
    spent = λ j l there. absurd (let no_way : None ≡ Some l = ap (λ (ls : List Lane). slice_get ls j) (sym fresh.lanes) ∙ there in cc);
    few = subst (λ (b : Pending). 0 + due_of any (rest_at (of_file f b) i) ≤ 0) (sym fresh.back) (omega arith);
  }

  pub keeps-tally : KeepsGoing (machine_of m) setup TallyAt
  keeps-tally = record {
    fresh = fresh-tally;
    stirs = λ h old new at k ahead t i_. stirs-tally m modes_of same setup f i h old new at k t i_;
    starts = λ h old new lane line op r found k idle fits t ahead i_. starts-tally m modes_of same setup f i h old new lane line op r found k idle fits t i_;
    takes = λ h old new rec xid call at r found k fin hears named waits place t ahead i_. takes-tally m modes_of same setup f i h old new rec xid call at r found k fin hears named waits place t i_;
    answers = answers-tally;
    same = same-tally;
  }
