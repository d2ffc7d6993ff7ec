-- What a session comes to, whose lines were all begun and answered, or that was cut off.
use Rattle.std.proofs.Common.{Bool, ◌≡◌, ◌≢◌, ◌≤◌, ◌<◌, ◌⊎◌, inl, inr, ℕ, zero, suc, List, [], ◌∷◌, ◌++◌, length, take, drop, replicate, slice_get, All, true, false, nat_lt, Some, None, refl, sym, ap, subst, ◌∙◌, arith, append-nil}
use Rattle.world_model.specs.declared.entry.Entry.{Entry}
use Rattle.world_model.specs.declared.entry.Entry.TheVariants.{Began}
use Rattle.world_model.specs.Follows.{begun}
use Rattle.nfs_script.specs.Asked.{IsAskedLine}
use Rattle.nfs_script.specs.declared.script.ScriptLine.{ScriptLine}
use Rattle.std.proofs.lemmas.Bool.{ltb-true, ltb-false}
use Rattle.law_calls.specs.Calls.{Numbered}
use Rattle.rpc_retry.specs.Held.{Held}
use Rattle.rpc_retry.specs.Sound.{IsSound}
use Rattle.session_words.specs.declared.settings.Settings.{Settings}
use Rattle.client_core.specs.declared.lane.Lane.{Lane}
use Rattle.client_core.specs.declared.lane.Purpose.{Purpose}
use Rattle.client_core.specs.declared.setup.Setup.{Setup}
use Rattle.client_core.specs.Numbers.{IsOther, numbers_of}
use Rattle.core_facts.specs.Reaches.{MaySetUp, begins}
use Rattle.lane_session.specs.declared.halt.Halt.{Halt}
use Rattle.lane_session.specs.declared.halt.Halt.TheVariants as halts
use Rattle.lane_session.specs.declared.lanes.Place.{Place}
use Rattle.lane_session.specs.declared.running.Session.{Session}
use Rattle.lane_session.specs.declared.top.End.{End}
use Rattle.lane_session.specs.Going.{Goes, Went, GoesOn, CutsOff}
use Rattle.lane_session.specs.Holding.{AreQuiet, IsHeld, TriedSo}
use Rattle.lane_session.specs.LaneMarks.{IsResting}
use Rattle.lane_session.specs.Endings.{entries_of}
use Rattle.lane_session.specs.Labels.{all_told, IsCutIn}
use Rattle.lane_session.specs.Places.{IsOpen, IsPlaced, AreIdle}
use Rattle.lane_session.specs.Sessions.{IsUnmarked, IsDone, IsBroken}
use Rattle.lane_session.specs.Statuses.{HasStatus}
use Rattle.lane_session.specs.Running.{IsFreshFor, first_place}
use Rattle.lane_session.proofs.LaneLaws.{resting-alternates}
use Rattle.lane_session.proofs.Labels.{told-plain}
use Rattle.lane_session.proofs.LostLaws.{Gone, never-answered, none-gone, untold}
use Rattle.lane_session.proofs.Placing.{begun-other}
use Rattle.lane_session.proofs.Pushes.{begun-append}
use Rattle.lane_session.proofs.Since.{since-none, since-whole}
use Rattle.lane_session.proofs.Together.{together-none, together-fresh, together-whole}

-- ---- all lines were begun and answered

-- a lane is one of 1 to 16, or another
pub which : (lane : ℕ) → ((n : ℕ) × (n < 16) × (lane ≡ suc n)) ⊎ ((lane ≡ 0) ⊎ (16 < lane))
which zero = inr (inl refl)
which (suc n) = by n (nat_lt n 16) refl
  where
    by : (n : ℕ) (b : Bool) → nat_lt n 16 ≡ b → ((m : ℕ) × (m < 16) × (suc n ≡ suc m)) ⊎ ((suc n ≡ 0) ⊎ (16 < suc n))
    by n true e = inl (n, ltb-true n 16 e, refl)
    by n false e = let over = ltb-false n 16 e in inr (inr (omega (arith, over)))

in-list : (ps : List Place) (n : ℕ) → n < length ps → (p : Place) × (slice_get ps n ≡ Some p)
in-list [] n lt = absurd (omega (arith, lt))
in-list (p ∷ ps) zero lt = (p, refl)
in-list (p ∷ ps) (suc n) lt = in-list ps n (omega (arith, lt))

take-whole : (script : List ScriptLine) (n : ℕ) → n ≡ length script → take n script ≡ script
take-whole [] zero is = refl
take-whole [] (suc n) is = refl
take-whole (x ∷ xs) zero is = absurd (omega (arith, is))
take-whole (x ∷ xs) (suc n) is = ap (λ (t : List ScriptLine). x ∷ t) (take-whole xs n (omega (arith, is)))

-- no line is that of a lane out of bounds
out-differs : (lane other : ℕ) → 1 ≤ other → other ≤ 16 → (lane ≡ 0) ⊎ (16 < lane) → other ≢ lane
out-differs lane other least most (inl is) same = omega (arith, least, is, same)
out-differs lane other least most (inr over) same = omega (arith, most, over, same)

pub none-out : (script : List ScriptLine) (lane : ℕ) → All IsAskedLine script → (lane ≡ 0) ⊎ (16 < lane) → begun lane (entries_of script) ≡ []
none-out [] lane asked out = refl
none-out (l ∷ ls) lane asked out =
    let one : IsAskedLine l = asked 0 l (omega arith) in
    begun-append lane (Began l.lane l.line l.op ∷ []) (entries_of ls)
    ∙ ap (λ (t : List Entry). t ++ begun lane (entries_of ls)) (begun-other lane l.lane l.line l.op (out-differs lane l.lane one.lane.least one.lane.most out))
    ∙ none-out ls lane (λ k d lt. asked (suc k) d (omega (arith, lt))) out

module _ (done : List ScriptLine) (from : ℕ) (script : List ScriptLine) (k : List Entry) (s : Session) (long : length s.lanes ≡ 16) (idle : AreIdle s.lanes) (quiet : AreQuiet script s) (g : Goes done from script k s) where
  -- one of the sixteen lanes has begun all of its lines, and answered them
  pub lane-at-end : (n : ℕ) → n < 16 → (begun (suc n) k ≡ begun (suc n) (entries_of (done ++ script))) × IsResting k (suc n)
  lane-at-end n lt =
      let p = in-list s.lanes n (omega (arith, lt, long)) in
      let none : p.0.line ≡ None = idle n p.0 p.1 in
      let next : p.0.next ≡ length script = (quiet n lt).none p.0 p.1 none in
      let placed : IsPlaced done script k (suc n) p.0 = g.placed n p.0 p.1 in (
        placed.begins ∙ ap (λ (t : List ScriptLine). begun (suc n) (entries_of (done ++ t))) (take-whole script p.0.next next),
        subst (IsOpen k (suc n)) none placed.open_line,
      )

module _ (script : List ScriptLine) (h k : List Entry) (s : Session) (asked : All IsAskedLine script) (long : length s.lanes ≡ 16) (idle : AreIdle s.lanes) (quiet : AreQuiet script s)
    (g : Goes [] (length h) script k s) where
  -- a lane has begun all of its lines, and answered them
  at-end : (lane : ℕ) → (begun lane k ≡ begun lane (entries_of script)) × IsResting k lane
  at-end lane = by (which lane)
    where
      by : ((n : ℕ) × (n < 16) × (lane ≡ suc n)) ⊎ ((lane ≡ 0) ⊎ (16 < lane)) → (begun lane k ≡ begun lane (entries_of script)) × IsResting k lane
      by (inl w) = subst (λ (m : ℕ). (begun m k ≡ begun m (entries_of script)) × IsResting k m) (sym w.2) (lane-at-end [] (length h) script k s long idle quiet g w.0 w.1)
      by (inr out) = ((g.others lane out).0 ∙ sym (none-out script lane asked out), (g.others lane out).1)

  pub session-ends : (end : End) (old : Session) (given text : List ℕ) → end.status ≡ s.status → IsUnmarked h → GoesOn [] script old s given text h k → IsDone script end given text h k
  session-ends end old given text status u on = record {
    follows = record {
      alternates = λ lane. resting-alternates k lane (at-end lane).1;
      begins = λ lane. record { rest = []; is = sym (at-end lane).0 ∙ sym (append-nil (begun lane k)) };
    };
    finishes = record { all = λ lane. (at-end lane).0; answered = λ x lane line op at. (at-end lane).1.answered x line op at };
    status = subst (HasStatus k) (sym status) (since-whole h on.grown.0 (λ n lane line a at. never-answered lane h n line a at (u lane)) k s.status on.grown.1 g.status);
    shown = sym (on.shown ∙ ap (λ (t : List ℕ). t ++ text) (untold [] h u)) ∙ told-plain k;
    grown = on.grown;
    clocked = on.clocked;
    timed = g.timed;
    together = together-whole (entries_of script) h k on.grown.0 on.grown.1 (none-gone h u).begins g.together;
  }

pub session-breaks : (script : List ScriptLine) (old : Session) (halt : Halt) (given text : List ℕ) (h k : List Entry) → IsUnmarked h → Goes [] (length h) script h old → CutsOff [] script old halt given text h k → IsBroken script halt given text h k
session-breaks script old halt given text h k u g c =
    let w : Went [] (length h) script k = c.went [] (length h) g in
    record {
      follows = record { alternates = w.alternates; begins = w.begins };
      shown = subst (IsCutIn [] k) (ap (λ (t : List ℕ). t ++ text) (untold [] h u)) c.shown;
      last = c.last;
      grown = c.grown;
      clocked = c.clocked;
      left = c.left;
      timed = w.timed;
      together = together-whole (entries_of script) h k c.grown.0 c.grown.1 (none-gone h u).begins w.together;
    }

-- ---- a session that begins

none-numbered : Numbered []
none-numbered = record { equal = λ i j xid a b at other has same. absurd (cc); unrepeated = λ g i xid reply bytes answers at has. absurd (cc) }

pub replicate-get : (m n : ℕ) (p q : Place) → slice_get (replicate m q) n ≡ Some p → p ≡ q
replicate-get zero n p q there = absurd (cc)
replicate-get (suc m) zero p q there = let is : q ≡ p = cc in sym is
replicate-get (suc m) (suc n) p q there = replicate-get m n p q there

module _ (script : List ScriptLine) (settings : Settings) (setup : Setup) (s : Session) (f : IsFreshFor settings setup s) where
  first-place : (n : ℕ) (p : Place) → slice_get s.lanes n ≡ Some p → p ≡ first_place
  first-place n p there = replicate-get 16 n p first_place (subst (λ (ps : List Place). slice_get ps n ≡ Some p) f.lanes there)

  pub fresh-held : length script ≤ 16384 → MaySetUp setup → IsHeld script s
  fresh-held small may = record {
    live = record {
      calls = subst IsSound (sym f.core.calls) (record { first = may.first; last = may.last; within = omega arith; few = omega arith; each = omega arith });
      some = λ left. f.core.lost;
      few = let a = f.attempts in omega (arith, a);
      dropped = let d = f.dropped in omega (arith, d);
      undropped = λ left. let d = f.dropped in omega (arith, d);
    };
    seated = record {
      sixteen = ap length f.lanes;
      idle = λ n p there none. subst (λ (ls : List Lane). IsOther (suc n) (numbers_of ls)) (sym f.core.lanes) tt;
      within = λ n p there. let next : p.next ≡ 0 = ap (λ (q : Place). q.next) (first-place n p there) in omega (arith, next);
      begun = let b = f.core.begun in omega (arith, b);
      room = let e = f.earlier in omega (arith, e, small);
    };
    status = inl f.status;
    alive = record {
      story = λ found. record {
        setup = setup;
        h = [];
        reaches = begins [] s.core may (record { unmarked = λ lane. refl; unbegun = λ i lane line op at. absurd (cc); numbered = none-numbered; below = λ i xid bytes at has. absurd (cc) }) f.core;
        lines = λ n line p there own. absurd (
            let none : p.line ≡ None = ap (λ (q : Place). q.line) (first-place n p there) in
            let no_way : None ≡ Some line = sym none ∙ own in cc);
      };
      tried = λ found. subst (λ (k : ℕ). TriedSo k s.core.calls.calls) (sym f.attempts) (subst (λ (h : Held Purpose). TriedSo 4 h.calls) (sym f.core.calls) refl);
      none = λ zero_is. absurd (let a = f.attempts in omega (arith, a, zero_is));
      over = λ gone. absurd (let no_way : true ≡ false = sym gone ∙ f.core.lost in cc);
      busy = λ n line p there own other. absurd (
          let none : p.line ≡ None = ap (λ (q : Place). q.line) (first-place n p there) in
          let no_way : None ≡ Some line = sym none ∙ own in cc);
    };
  }

  pub fresh-goes : (h : List Entry) → IsUnmarked h → Goes [] (length h) script h s
  fresh-goes h u =
      let g : Gone [] h = none-gone h u in
      record {
        others = λ lane out. (g.begins lane, g.resting lane);
        placed = λ n p there. subst (IsPlaced [] script h (suc n)) (sym (first-place n p there)) (record { begins = g.begins (suc n); open_line = g.resting (suc n) });
        within = omega arith;
        status = subst (HasStatus (drop (length h) h)) (sym f.status) (since-none h);
        timed = g.all_timed;
        together = together-fresh (entries_of script) h;
      }

-- nothing was begun, for want of memory
pub broken-none : (script : List ScriptLine) (h : List Entry) → IsUnmarked h → IsBroken script halts.Memory [] [] h h
broken-none script h u =
    let g : Gone [] h = none-gone h u in
    record {
      follows = record {
        alternates = λ lane. resting-alternates h lane (g.resting lane);
        begins = λ lane. record { rest = begun lane (entries_of script); is = sym (ap (λ (t : List Entry). t ++ begun lane (entries_of script)) (g.begins lane)) };
      };
      shown = all_told (sym (untold [] h u));
      last = [];
      grown = ([], sym (append-nil h));
      clocked = refl;
      left = omega arith;
      timed = g.all_timed;
      together = together-none (entries_of script) h g.begins;
    }
