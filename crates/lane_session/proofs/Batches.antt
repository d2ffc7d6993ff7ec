-- A session goes on to another script.
use Rattle.std.proofs.Common.{◌≡◌, ◌≤◌, ◌<◌, ◌+◌, ◌*◌, ◌^◌, ℕ, zero, suc, List, [], ◌∷◌, ◌++◌, length, replicate, slice_get, ◌⊎◌, inl, Some, None, refl, sym, ap, subst, ◌∙◌, arith, append-nil}
use Rattle.world_model.specs.declared.entry.Entry.{Entry}
use Rattle.world_model.specs.Follows.{begun}
use Rattle.nfs_script.specs.declared.script.ScriptLine.{ScriptLine}
use Rattle.client_core.specs.Numbers.{IsOther, numbers_of}
use Rattle.lane_session.specs.declared.lanes.Place.{Place}
use Rattle.lane_session.specs.declared.running.Session.{Session}
use Rattle.lane_session.specs.Bonds.{CoreGoes}
use Rattle.lane_session.specs.Endings.{entries_of}
use Rattle.lane_session.specs.Going.{Goes, GoesNext}
use Rattle.lane_session.specs.Holding.{AreQuiet, HasRoom, IsHeld}
use Rattle.lane_session.specs.Places.{AreIdle, IsPlaced, passed}
use Rattle.lane_session.specs.Running.{first_place}
use Rattle.lane_session.proofs.Ending.{lane-at-end, replicate-get}
use Rattle.lane_session.proofs.Reaching.{core-like}
use Rattle.lane_session.proofs.Seating.{begun-most}
use Rattle.lane_session.proofs.Since.{since-none}
use Rattle.lane_session.proofs.Together.{together-fresh}

replicate-in : (m n : ℕ) (q p : Place) → slice_get (replicate m q) n ≡ Some p → n < m
replicate-in zero n q p there = absurd (cc)
replicate-in (suc m) zero q p there = omega arith
replicate-in (suc m) (suc n) q p there = let r = replicate-in m n q p there in omega (arith, r)

in-list : (ps : List Place) (n : ℕ) → n < length ps → (p : Place) × (slice_get ps n ≡ Some p)
in-list [] n lt = absurd (omega (arith, lt))
in-list (p ∷ ps) zero lt = (p, refl)
in-list (p ∷ ps) (suc n) lt = in-list ps n (omega (arith, lt))

-- no line was passed
passed-none : (m : ℕ) → passed (replicate m first_place) ≡ 0
passed-none zero = refl
passed-none (suc m) = ap (λ (n : ℕ). 0 + n) (passed-none m)

-- the session at its next script
abbrev after : Session → ℕ → Session
after s earlier = record s { lanes = replicate 16 first_place; earlier = earlier; status = 0 }

module _ (script : List ScriptLine) (s : Session) (earlier : ℕ) (held : IsHeld script s) (idle : AreIdle s.lanes) (quiet : AreQuiet script s) where
  first : (n : ℕ) (p : Place) → slice_get (replicate 16 first_place) n ≡ Some p → p ≡ first_place
  first n p there = replicate-get 16 n p first_place there

  none : (n : ℕ) (p : Place) → slice_get (replicate 16 first_place) n ≡ Some p → p.line ≡ None
  none n p there = ap (λ (q : Place). q.line) (first n p there)

  busy-none : (n line : ℕ) (p : Place) → slice_get (replicate 16 first_place) n ≡ Some p → p.line ≡ Some line → ⊥
  busy-none n line p there own = let no_way : None ≡ Some line = sym (none n p there) ∙ own in absurd (cc)

  held-now : earlier ≡ s.earlier + 16 * length script → (next : List ScriptLine) → HasRoom script next s → IsHeld next (after s earlier)
  held-now is next room = record {
    live = record { calls = held.live.calls; some = held.live.some; few = held.live.few; dropped = held.live.dropped; undropped = held.live.undropped };
    seated = record {
      sixteen = refl;
      idle = λ n p there own.
          let was = in-list s.lanes n (let lt = replicate-in 16 n first_place p there in let long = held.seated.sixteen in omega (arith, lt, long)) in
          held.seated.idle n was.0 was.1 (idle n was.0 was.1);
      within = λ n p there. let at : p.next ≡ 0 = ap (λ (q : Place). q.next) (first n p there) in omega (arith, at);
      begun = let b = begun-most script s held in let p = passed-none 16 in omega (arith, b, p, is);
      room = omega (arith, room, is);
    };
    status = inl refl;
    alive = record {
      story = λ found. let st = held.alive.story found in
          record { setup = st.setup; h = st.h; reaches = st.reaches; lines = λ n line p there own. absurd (busy-none n line p there own) };
      tried = held.alive.tried;
      none = held.alive.none;
      over = held.alive.over;
      busy = λ n line p there own other. busy-none n line p there own;
    };
  }

  goes-now : (next : List ScriptLine) → GoesNext script next s (after s earlier)
  goes-now next done from h g = record {
    others = g.others;
    placed = λ n p there.
        let ended = lane-at-end done from script h s held.seated.sixteen idle quiet g n (replicate-in 16 n first_place p there) in
        subst (IsPlaced (done ++ script) next h (suc n)) (sym (first n p there)) (record {
          begins = ended.0 ∙ ap (λ (t : List ScriptLine). begun (suc n) (entries_of t)) (sym (append-nil (done ++ script)));
          open_line = ended.1;
        });
    within = omega arith;
    status = since-none h;
    timed = g.timed;
    together = together-fresh (entries_of next) h;
  }

  module _ (mid : Session) (lanes : List Place) (passed_is : mid ≡ record s { earlier = earlier; status = 0 }) (first_are : lanes ≡ replicate 16 first_place) where
    pub next-held : earlier ≡ s.earlier + 16 * length script → (next : List ScriptLine) → HasRoom script next s → IsHeld next (record mid { lanes = lanes })
    next-held is next room =
        subst (λ (ps : List Place). IsHeld next (record mid { lanes = ps })) (sym first_are)
        (subst (λ (m : Session). IsHeld next (record m { lanes = replicate 16 first_place })) (sym passed_is) (held-now is next room))

    pub next-goes : (next : List ScriptLine) → GoesNext script next s (record mid { lanes = lanes })
    next-goes next =
        subst (λ (ps : List Place). GoesNext script next s (record mid { lanes = ps })) (sym first_are)
        (subst (λ (m : Session). GoesNext script next s (record m { lanes = replicate 16 first_place })) (sym passed_is) (goes-now next))

    pub next-core : (h : List Entry) → CoreGoes s (record mid { lanes = lanes }) h h
    next-core h = core-like s (record mid { lanes = lanes }) h (ap (λ (m : Session). m.mounted) passed_is) (ap (λ (m : Session). m.core) passed_is) (ap (λ (m : Session). m.dropped) passed_is) (ap (λ (m : Session). m.counts) passed_is)
