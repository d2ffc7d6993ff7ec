-- What a session may still make of the COMMITs of a file, along the whole session.
use Rattle.core_counts.proofs.Prelude.{◌≡◌, ◌≢◌, ◌≤◌, inl, ℕ, nat_eq, List, [], ◌∷◌, ◌++◌, Bool, true, false, Some, None, slice_get, refl, sym, ap, subst, ◌∙◌, arith, append_assoc, eqb-true, eqb-false, Held, next_xid, waiting_at, at_sent, before_sent, Pending, Answer, Entry, Began, Answered, Sent, Delivered, Op, HasXid, head_of, Terms, LaneFile, Shelf, Mounted, Machine, machine_of, Lane, Purpose, Busy, Over, Setup, IsFresh, AnswersAt, View, AreApart, KnowsRoot, Notes, IsSetUp, MaySetUp, StepsTo, Reaches, GoesWith, IsMade, begins-unbegun, SentNow, sent_now, heard-lost, Known, purpose_at, reached-all, lanes-under-way, get-remove, skip, notes-reach, keeps-placed, SameCalls, sent-purposes, AreAsked, IsPlain, state-is, keeps-wholly, Common, Owned}
use Rattle.std.proofs.Common.{remove}
use Rattle.client_core.specs.Steps.{SendsBy}
use Rattle.core_facts.specs.Notes.{notes_fresh, notes_step, notes_lost}
use Rattle.core_facts.proofs.Lists.{still-there}
use Rattle.core_session.proofs.drops.LaneIs.{busy-over}
use Rattle.core_session.proofs.syncs.Seen.{StateRested, free, taken}
use Rattle.rpc_message.proofs.CallLaws.{call_xid}
use Rattle.core_session.proofs.pending.Entries.{fresh-phase}
use Rattle.core_session.proofs.syncs.Fate.{story-answers, story-same}
use Rattle.core_counts.proofs.counts.engine.Along.{KeepsSteps, kept-step}
use Rattle.core_counts.proofs.counts.rooms.Base.{Base, Told}
use Rattle.core_counts.proofs.counts.rooms.Calls.{Such}
use Rattle.core_counts.proofs.counts.rooms.Hears.{takes-base, takes-purse}
use Rattle.core_counts.proofs.counts.rooms.Numbers.{In, total-none}
use Rattle.core_counts.proofs.counts.rooms.Purses.{Purse}
use Rattle.core_counts.proofs.counts.rooms.Quiets.{quiet-purse}
use Rattle.core_counts.proofs.counts.rooms.Steps.{stirs-base, stirs-purse, starts-base, starts-purse}

-- ---- the lanes, without one that has its answer

one-lane : (a b : Lane) → Some a ≡ Some b → a ≡ b
one-lane a b e = cc

module _ (f : List ℕ) (lanes : List Lane) (at number : ℕ) (answer : Answer) (there : slice_get lanes at ≡ Some (record { number = number; state = Over answer })) (apart : AreApart (remove lanes at)) where
  pub owned-removed : (q : ℕ) (b : Pending) (o : List LaneFile) → Owned f lanes q b o → Owned f (remove lanes at) q b o
  owned-removed q b o (free none rests) = free none (λ k l here. rests (skip at k) l (get-remove lanes at k l here))
  owned-removed q b o (taken k n m s here holds same way first low rests) = taken stays.0 n m s stays.1 holds same way first low others
    where
      off : k ≢ at
      off e = busy-over m answer (state-is (Busy m) (Over answer) n number (sym (ap (slice_get lanes) (sym e) ∙ here) ∙ there))

      stays : (z : ℕ) × (slice_get (remove lanes at) z ≡ Some (record { number = n; state = Busy m }))
      stays = still-there lanes at k (record { number = n; state = Busy m }) off here

      others : (z : ℕ) (l : Lane) → slice_get (remove lanes at) z ≡ Some l → z ≢ stays.0 → StateRested f q l.state
      others z l is differs = by (nat_eq (skip at z) k) refl
        where
          was : slice_get lanes (skip at z) ≡ Some l
          was = get-remove lanes at z l is

          by : (c : Bool) → nat_eq (skip at z) k ≡ c → StateRested f q l.state
          by true e =
              let one : l ≡ record { number = n; state = Busy m } = one-lane l (record { number = n; state = Busy m }) (sym was ∙ ap (slice_get lanes) (eqb-true (skip at z) k e) ∙ here) in
              absurd (differs (apart z stays.0 l (record { number = n; state = Busy m }) is stays.1 (ap (λ (y : Lane). y.number) one)))
          by false e = rests (skip at z) l was (eqb-false (skip at z) k e)

sent-bytes : (a c : List ℕ) → Sent a ≡ Sent c → a ≡ c
sent-bytes a c e = cc

same-number : (a c : ℕ) → Some a ≡ Some c → a ≡ c
same-number a c e = cc

module _ (mt : Mounted) (terms : Terms) (setup : Setup) (H : List Entry) (V : View) (g : GoesWith mt terms setup H V) (roots : KnowsRoot terms.origin H mt.root) (asked : AreAsked H) (f : List ℕ) where
  abbrev Based : List Entry → View → Type 0
  Based = Base mt terms setup H V g roots asked f

  abbrev Tell : ℕ → ℕ → Machine → Op → Type 0
  Tell = Told mt terms setup H V g roots asked f

  abbrev pub Both : List Entry → View → Type 0
  Both h v = Based h v × Purse terms H f h v

  -- ---- a fresh core

  module _ (h : List Entry) (v : View) (may : MaySetUp setup) (up : IsSetUp setup h) (fresh : IsFresh setup v) where
    none : {X : Type 0} → (k : ℕ) (l : Lane) → slice_get v.lanes k ≡ Some l → X
    none k l there = absurd (let no_way : None ≡ Some l = ap (λ (lanes : List Lane). slice_get lanes k) (sym fresh.lanes) ∙ there in cc)

    fresh-base : Based h v
    fresh-base =
        let p = fresh-phase mt terms setup H f 0 h v fresh in
        record {
          wholly = (keeps-wholly mt setup).fresh h v fresh;
          placed = (keeps-placed mt setup).fresh v fresh;
          wsize = subst (λ (n : ℕ). 1 ≤ n) (sym fresh.wsize) may.sizes.write;
          common_ = p.common;
          owned = p.owned;
          story = λ k number machine x op there u. none k (record { number = number; state = Busy machine }) there;
        }

    fresh-purse : Purse terms H f h v
    fresh-purse = record {
      made = [];
      waiting = record {
        first = let one = may.first in let same = ap (λ (c : Held Purpose). next_xid c) fresh.calls in omega (arith, one, same);
        some = λ y in_. absurd in_;
        below = λ y in_. absurd in_;
        waits = λ xid w at such. absurd (let no_way : None ≡ Some w = ap (λ (c : Held Purpose). waiting_at xid c.calls) (sym fresh.calls) ∙ at in cc);
      };
      sents = λ i xid bytes at named such. inl (λ j lane line op began early. up.unbegun j lane line op began);
      stable = [];
      apart = tt;
      each = tt;
      early = tt;
      q = λ n. 0;
      story = λ k number machine x op there u. none k (record { number = number; state = Busy machine }) there;
      fits = let zero_all = total-none 16 in omega (arith, zero_all);
    }

  -- ---- an entry of another kind

  module _ (h : List Entry) (e : Entry) (old new : View) (begins : (lane line : ℕ) (op : Op) → e ≡ Began lane line op → ⊥) (answers : (lane line : ℕ) (answer : Answer) → e ≡ Answered lane line answer → ⊥)
      (lanes : new.lanes ≡ old.lanes) (shelf : new.shelf ≡ old.shelf) (wsize : new.wsize ≡ old.wsize) (next : next_xid new.calls ≡ next_xid old.calls) (calls : SameCalls old.calls.calls new.calls.calls) (b : Both h old)
      (sends : (bytes : List ℕ) → e ≡ Sent bytes → (xid : ℕ) → HasXid bytes xid → Such f bytes → In xid b.1.made) where
    plain : IsPlain e
    plain = record { begins_ = begins; answers_ = answers }

    same-both : Both (h ++ e ∷ []) new
    same-both = (
      record {
        wholly = (keeps-wholly mt setup).same h e old new lanes shelf calls b.0.wholly;
        placed = (keeps-placed mt setup).same old new lanes shelf calls.purposes b.0.placed;
        wsize = subst (λ (n : ℕ). 1 ≤ n) (sym wsize) b.0.wsize;
        common_ = subst (λ (s : Shelf). Common 0 s.seq s.back) (sym shelf) b.0.common_;
        owned = subst (λ (s : Shelf). Owned f new.lanes s.seq s.back s.order) (sym shelf) (subst (λ (l : List Lane). Owned f l old.shelf.seq old.shelf.back old.shelf.order) (sym lanes) b.0.owned);
        story = story-same h e old new plain lanes Tell Tell (λ n z machine o k. k) b.0.story;
      },
      quiet-purse terms H f h e old new begins shelf next calls b.1 (λ P s. story-same h e old new plain lanes P P (λ n z machine o k. k) s) sends,
    )

  -- ---- an answer is noted

  module _ (h : List Entry) (old new : View) (at lane line : ℕ) (answer : Answer) (k : Known setup h old) (apart : AreApart new.lanes) (a : AnswersAt old at lane (Some answer) new) (b : Both h old) where
    shelf-is : new.shelf ≡ old.shelf
    shelf-is = ap (λ (w : View). w.shelf) a.is

    same-calls : SameCalls old.calls.calls new.calls.calls
    same-calls = record {
      waited = λ xid w there. record { was = w; waited = ap (λ (v : View). waiting_at xid v.calls.calls) (sym a.is) ∙ there; bytes = refl; purpose = refl };
      purposes = λ xid. ap (λ (v : View). purpose_at xid v.calls.calls) a.is;
    }

    answers-both : Both (h ++ Answered lane line answer ∷ []) new
    answers-both = (
      record {
        wholly = (keeps-wholly mt setup).answers h old new at lane line answer k a b.0.wholly;
        placed = (keeps-placed mt setup).answers h old new at lane answer k a b.0.placed;
        wsize = subst (λ (v : View). 1 ≤ v.wsize) (sym a.is) b.0.wsize;
        common_ = subst (λ (s : Shelf). Common 0 s.seq s.back) (sym shelf-is) b.0.common_;
        owned = subst (λ (s : Shelf). Owned f new.lanes s.seq s.back s.order) (sym shelf-is)
            (subst (λ (v : View). Owned f v.lanes old.shelf.seq old.shelf.back old.shelf.order) (sym a.is)
            (owned-removed f old.lanes at lane a.answer a.there (subst (λ (v : View). AreApart v.lanes) a.is apart) old.shelf.seq old.shelf.back old.shelf.order b.0.owned));
        story = story-answers h old new at lane line answer a Tell Tell (λ n z machine o t. t) b.0.story;
      },
      quiet-purse terms H f h (Answered lane line answer) old new (λ l n o same. absurd (cc)) shelf-is (ap (λ (v : View). next_xid v.calls) a.is) same-calls b.1
          (λ P s. story-answers h old new at lane line answer a P P (λ n z machine o t. t) s) (λ bytes same xid named such. absurd (cc)),
    )

  -- ---- along the history

  abbrev BothTo : List Entry → View → Type 0
  BothTo h v = (rest : List Entry) → H ≡ h ++ rest → Both h v

  before-that : (h : List Entry) (e : Entry) (rest : List Entry) → H ≡ (h ++ e ∷ []) ++ rest → H ≡ h ++ e ∷ rest
  before-that h e rest is_ = is_ ∙ append_assoc h (e ∷ []) rest

  laws : KeepsSteps (machine_of mt) setup BothTo
  laws = record {
    fresh = λ h v may up fresh rest to. (fresh-base h v may up fresh, fresh-purse h v may up fresh);
    stirs = λ h old new at known t b rest to.
        let k = b rest to in (
          stirs-base mt terms setup H V g roots asked f h old new at known t k.0 k.1,
          stirs-purse mt terms setup H V g roots asked f h old new at known t k.0 k.1,
        );
    starts = λ h old new lane line op now_ r found known idle fits t b rest to.
        let is_ = before-that h (Began lane line op) rest to in
        let k = b (Began lane line op ∷ rest) is_ in (
          starts-base mt terms setup H V g roots asked f h rest old new lane line op now_ (sym is_) r found known idle fits t k.0 k.1,
          starts-purse mt terms setup H V g roots asked f h rest old new lane line op now_ (sym is_) r found known idle fits t k.0 k.1,
        );
    takes = λ h old new rec xid call at r found known fin hears named waits there o b rest to.
        let is_ = before-that h (Delivered rec) rest to in
        let k = b (Delivered rec ∷ rest) is_ in (
          takes-base mt terms setup H V g roots asked f h rest rec (sym is_) old new xid call at r found known fin hears named waits there o k.0 k.1,
          takes-purse mt terms setup H V g roots asked f h rest rec (sym is_) old new xid call at r found known fin hears named waits there o k.0 k.1,
        );
    answers = λ h old new at lane line answer r found known later kept open_ a b rest to.
        answers-both h old new at lane line answer known
        (lanes-under-way (h ++ Answered lane line answer ∷ []) new (reached-all (machine_of mt) (begins-unbegun mt) setup (h ++ Answered lane line answer ∷ []) new later kept).lanes).apart a
        (b (Answered lane line answer ∷ rest) (before-that h (Answered lane line answer) rest to));
    same = λ h e old new r found known plain lanes shelf wsize next calls b rest to.
        same-both h e old new plain.begins_ plain.answers_ lanes shelf wsize next calls (b (e ∷ rest) (before-that h e rest to)) (λ bytes same. absurd (plain.sends_ bytes same));
  }

  -- ---- a record is sent

  module _ (h : List Entry) (old : View) (bytes : List ℕ) (new : View) (r : Reaches (machine_of mt) setup h old) (found : old.lost ≡ false) (t : SendsBy old (Some bytes) new) (b : Both h old) where
    n : SentNow old bytes new
    n = sent_now old bytes new t

    known : Known setup h old
    known = reached-all (machine_of mt) (begins-unbegun mt) setup h old r found

    waits : waiting_at n.xid old.calls.calls ≡ Some n.call
    waits = (at_sent old.calls.cred old.calls.first_xid (next_xid old.calls) n.xid old.calls.calls n.call known.rows.sound.calls.each n.due).before

    made : IsMade setup.cred n.xid n.call
    made = (known.rows.rows n.xid n.call waits).made

    in-made : (xid : ℕ) → HasXid bytes xid → Such f bytes → In xid b.1.made
    in-made xid named such =
        let number : n.xid ≡ xid = same-number n.xid xid
        (sym (call_xid (head_of n.xid made.asked) made.spells.spells.args n.call.bytes made.spells.spells.head) ∙ subst (λ (k : List ℕ). HasXid k xid) n.bytes_is named) in
        subst (λ (k : ℕ). In k b.1.made) number (b.1.waiting.waits n.xid n.call waits (subst (Such f) n.bytes_is such))

    sends-both : Both (h ++ Sent bytes ∷ []) new
    sends-both =
        same-both h (Sent bytes) old new (λ lane line op same. absurd (cc)) (λ lane line answer same. absurd (cc)) (ap (λ (v : View). v.lanes) n.is) (ap (λ (v : View). v.shelf) n.is) (ap (λ (v : View). v.wsize) n.is)
        (ap (λ (v : View). next_xid v.calls) n.is) (record {
          waited = λ xid w at. before_sent old.calls.calls xid w (sym (ap (λ (v : View). waiting_at xid v.calls.calls) n.is) ∙ at);
          purposes = λ xid. ap (λ (v : View). purpose_at xid v.calls.calls) n.is ∙ sent-purposes xid old.calls.calls;
        }) b (λ other same xid named such.
        in-made xid (subst (λ (k : List ℕ). HasXid k xid) (sym (sent-bytes bytes other same)) named) (subst (Such f) (sym (sent-bytes bytes other same)) such))

  sends-now : (h : List Entry) (old : View) (e : Entry) (new : View) (bytes : List ℕ) → e ≡ Sent bytes → StepsTo (machine_of mt) h old e new → Reaches (machine_of mt) setup h old → old.lost ≡ false → Both h old
      → Both (h ++ e ∷ []) new
  sends-now h old e new bytes same t r found b =
      subst (λ (o : Entry). Both (h ++ o ∷ []) new) (sym same) (sends-both h old bytes new r found (subst (λ (o : Entry). StepsTo (machine_of mt) h old o new) same t) b)

  lost-before : (h : List Entry) (old : View) (e : Entry) (new : View) (bytes : List ℕ) → e ≡ Sent bytes → StepsTo (machine_of mt) h old e new → new.lost ≡ false → old.lost ≡ false
  lost-before h old e new bytes same t found =
      let s = sent_now old bytes new (subst (λ (o : Entry). StepsTo (machine_of mt) h old o new) same t) in
      ap (λ (w : View). w.lost) (sym s.is) ∙ found

  both-to : (h : List Entry) (v : View) → Notes (machine_of mt) setup h v → v.lost ≡ false → BothTo h v
  both-to _ _ (notes_fresh h v may up fresh) found = laws.fresh h v may up fresh
  both-to _ _ (notes_lost h v b n shown is_lost) found = absurd (let no_way : true ≡ false = ap (λ (w : View). w.lost) (sym is_lost) ∙ found in cc)
  both-to _ _ (notes_step h before v b e n same none t) found =
      let r = notes-reach (machine_of mt) setup before b n in
      subst (λ (k : List Entry). BothTo k v) (sym same)
      (kept-step (machine_of mt) (begins-unbegun mt) setup BothTo laws before b e v t r (λ was. both-to before b n was) found (λ rec d. sym (heard-lost b rec v d) ∙ found)
      (λ bytes sent rest to.
      let was = lost-before before b e v bytes sent t found in sends-now before b e v bytes sent t r was (both-to before b n was (e ∷ rest) (before-that before e rest to))))

  -- at each moment of a session that isn't lost
  pub both : (h : List Entry) (v : View) → Notes (machine_of mt) setup h v → v.lost ≡ false → (rest : List Entry) → H ≡ h ++ rest → Both h v
  both h v n found rest to = both-to h v n found rest to
