-- Each side of a whole that is lawful as one client's is lawful.
use Rattle.std.proofs.Common.{◌≡◌, ◌≤◌, ◌<◌, ◌==◌, ℕ, zero, suc, List, [], ◌∷◌, length, Bool, true, false, cond, Option, Some, None, slice_get, refl, sym, ap, subst, ◌∙◌, arith}
use Rattle.std.proofs.lemmas.Bool.{eqb-true, eq-eqb}
use Rattle.world_model.specs.declared.entry.Entry.{Entry}
use Rattle.world_model.specs.declared.entry.Entry.TheVariants.{Began, Answered, Dialed, Sent, Executed, Foreign, Flushed, Reboot, Delivered, Failed, Clock}
use Rattle.world_model.specs.declared.message.Call.{Call}
use Rattle.world_model.specs.Entries.{At}
use Rattle.world_model.specs.Lawful.{WasSent, IsReplied, LawfulAt, Lawful}
use Rattle.world_model.specs.Lawful as law
use Rattle.world_model.specs.Server.{Server, IsServer}
use Rattle.outside.specs.Pairs.{PairStep, PairTold, from_afar, seen_as, with_seen, side_steps, entries_of, server_at, side, one_more, moment_in}
use Rattle.law_sides.specs.Whole.{whole, IsClients, StepIs, SentBy, RepliedBy, replied, refused, IsSided, SidesAreLawful}
use Rattle.law_sides.proofs.Agreeing.{same-after, server-first, unseen-clients}
use Rattle.law_sides.proofs.Moments.{Between, between, moments-rise, moment-first, seen-next}

some-step : (a b : PairStep) → Some a ≡ Some b → a ≡ b
some-step a b e = cc

-- ---- servers

abbrev Still : Server → List PairStep → Type 0
Still start steps = (n : ℕ) (s : PairStep) → slice_get steps n ≡ Some s → IsClients s.entry → s.after ≡ server_at start steps n

still-tail : (start : Server) (s : PairStep) (steps : List PairStep) → Still start (s ∷ steps) → Still s.after steps
still-tail start s steps p n t at own = p (suc n) t at own

AtMoment : ℕ → List PairStep → Type 0
AtMoment end steps = (start : Server) → Still start steps → (n : ℕ) → server_at start (side_steps end steps) (moment_in end steps n) ≡ server_at start steps n

at-none : (end : ℕ) → AtMoment end []
unfolding AtMoment
at-none end start still n = refl

at-more : (end : ℕ) (s : PairStep) (steps : List PairStep) → AtMoment end steps → AtMoment end (s ∷ steps)
unfolding AtMoment
at-more end s steps more start still zero = server-first start (side_steps end (s ∷ steps))
at-more end s steps more start still (suc n) = by (seen_as end s) refl
  where
    by : (x : Option PairStep) → seen_as end s ≡ x → server_at start (with_seen x (side_steps end steps)) (one_more x (moment_in end steps n)) ≡ server_at s.after steps n
    by (Some t) is =
        ap (λ (z : Server). server_at z (side_steps end steps) (moment_in end steps n)) (same-after end s t is)
        ∙ more s.after (still-tail start s steps still) n
    by None is =
        ap (λ (z : Server). server_at z (side_steps end steps) (moment_in end steps n)) (sym (still zero s refl (unseen-clients end s is)))
        ∙ more s.after (still-tail start s steps still) n

at-moment : (end : ℕ) (steps : List PairStep) → AtMoment end steps
at-moment end [] = at-none end
at-moment end (s ∷ steps) = at-more end s steps (at-moment end steps)

at-side : (h : PairTold) → IsSided h → (end n : ℕ) → (side end h).at (moment_in end h.steps n) ≡ (whole h).at n
unfolding AtMoment
at-side h sided end n = at-moment end h.steps h.start sided.still n

-- ---- places

pub record Stands (end : ℕ) (steps : List PairStep) (n : ℕ) (d : Entry) : Type 0 where
  pub at : ℕ
  pub step : PairStep
  pub seen : PairStep
  pub is : slice_get steps at ≡ Some step
  pub sees : seen_as end step ≡ Some seen
  pub place : moment_in end steps at ≡ n
  pub entry : seen.entry ≡ d

stands-later : (end : ℕ) (s : PairStep) (steps : List PairStep) (n m : ℕ) (d : Entry) → one_more (seen_as end s) n ≡ m → Stands end steps n d → Stands end (s ∷ steps) m d
stands-later end s steps n m d is t = record { at = suc t.at; step = t.step; seen = t.seen; is = t.is; sees = t.sees; place = ap (one_more (seen_as end s)) t.place ∙ is; entry = t.entry }

stands-more : (end : ℕ) (s : PairStep) (steps : List PairStep) → ((n : ℕ) (d : Entry) → At (entries_of (side_steps end steps)) n d → Stands end steps n d) → (n : ℕ) (d : Entry) → At (entries_of (side_steps end (s ∷ steps))) n d → Stands end (s ∷ steps) n d
stands-more end s steps more n d at = by (seen_as end s) refl n at
  where
    by : (x : Option PairStep) → seen_as end s ≡ x → (n : ℕ) → At (entries_of (with_seen x (side_steps end steps))) n d → Stands end (s ∷ steps) n d
    by None is n at = stands-later end s steps n n d (ap (λ (o : Option PairStep). one_more o n) is) (more n d at)
    by (Some t) is zero at = record { at = zero; step = s; seen = t; is = refl; sees = is; place = refl; entry = cc }
    by (Some t) is (suc n) at = stands-later end s steps n (suc n) d (ap (λ (o : Option PairStep). one_more o n) is) (more n d at)

-- each place of a side is one of the whole
stands-back : (end : ℕ) (steps : List PairStep) (n : ℕ) (d : Entry) → At (entries_of (side_steps end steps)) n d → Stands end steps n d
stands-back end [] n d at = absurd cc
stands-back end (s ∷ steps) n d at = stands-more end s steps (λ k e there. stands-back end steps k e there) n d at

entry-at : (steps : List PairStep) (n : ℕ) (s : PairStep) → slice_get steps n ≡ Some s → At (entries_of steps) n s.entry
entry-at [] n s is = absurd cc
entry-at (x ∷ steps) zero s is = let same : x ≡ s = cc in ap (λ (y : PairStep). Some y.entry) same
entry-at (x ∷ steps) (suc n) s is = entry-at steps n s is

seen-at-more : (end : ℕ) (x : PairStep) (steps : List PairStep) (n : ℕ) (e : Entry) → At (entries_of (side_steps end steps)) (moment_in end steps n) e
    → At (entries_of (side_steps end (x ∷ steps))) (one_more (seen_as end x) (moment_in end steps n)) e
seen-at-more end x steps n e at = by (seen_as end x)
  where
    by : (o : Option PairStep) → At (entries_of (with_seen o (side_steps end steps))) (one_more o (moment_in end steps n)) e
    by None = at
    by (Some t) = at

seen-first : (x t : PairStep) (steps : List PairStep) (o : Option PairStep) → o ≡ Some t → At (entries_of (with_seen o steps)) zero t.entry
seen-first x t steps None is = absurd cc
seen-first x t steps (Some u) is = ap (λ (y : PairStep). Some y.entry) (some-step u t is)

-- and the other way round
seen-at : (end : ℕ) (steps : List PairStep) (n : ℕ) (s t : PairStep) → slice_get steps n ≡ Some s → seen_as end s ≡ Some t → At (entries_of (side_steps end steps)) (moment_in end steps n) t.entry
seen-at end [] n s t is sees = absurd cc
seen-at end (x ∷ steps) zero s t is sees =
    let same : x ≡ s = cc in
    seen-first x t (side_steps end steps) (seen_as end x) (ap (seen_as end) same ∙ sees)
seen-at end (x ∷ steps) (suc n) s t is sees = seen-at-more end x steps n t.entry (seen-at end steps n s t is sees)

-- one's own step is seen as it is
own-seen : (steps : List PairStep) (n end : ℕ) (e : Entry) (s : StepIs steps n end e) → seen_as end s.step ≡ Some s.step
own-seen steps n end e s = ap (λ (b : Bool). cond b (Some s.step) (from_afar s.step s.step.entry)) (eq-eqb s.step.end end s.end_is)

own-at : (steps : List PairStep) (n end : ℕ) (e : Entry) → StepIs steps n end e → At (entries_of (side_steps end steps)) (moment_in end steps n) e
own-at steps n end e s =
    subst (λ (x : Entry). At (entries_of (side_steps end steps)) (moment_in end steps n) x) s.entry_is (seen-at end steps n s.step s.step s.is (own-seen steps n end e s))

own-before : (steps : List PairStep) (n end m : ℕ) (e : Entry) → StepIs steps n end e → n < m → moment_in end steps n < moment_in end steps m
own-before steps n end m e s lt =
    let next = seen-next end steps n s.step s.step s.is (own-seen steps n end e s) in
    let rise = moments-rise end steps (suc n) m (omega (arith, lt)) in
    omega (arith, next, rise)

-- ---- ends

more-length : (o : Option PairStep) (n : ℕ) (steps : List PairStep) → n ≡ length (entries_of steps) → one_more o n ≡ length (entries_of (with_seen o steps))
more-length None n steps is = is
more-length (Some t) n steps is = ap suc is

moment-last : (end : ℕ) (steps : List PairStep) → moment_in end steps (length steps) ≡ length (entries_of (side_steps end steps))
moment-last end [] = refl
moment-last end (s ∷ steps) = more-length (seen_as end s) (moment_in end steps (length steps)) (side_steps end steps) (moment-last end steps)

entries-length : (steps : List PairStep) → length (entries_of steps) ≡ length steps
entries-length [] = refl
entries-length (s ∷ steps) = ap suc (entries-length steps)

-- ---- laws

module _ (h : PairTold) (lawful : Lawful (whole h)) (sided : IsSided h) (end : ℕ) where
  sent-side : (at n xid : ℕ) (call : Call) → moment_in end h.steps at ≡ n → SentBy h.steps end at xid call → WasSent (side end h).entries n xid call
  sent-side at n xid call place s = record {
    at = moment_in end h.steps s.at;
    bytes = s.bytes;
    before = let lt = own-before h.steps s.at end at (Sent s.bytes) s.sent s.before in omega (arith, lt, place);
    sent = own-at h.steps s.at end (Sent s.bytes) s.sent;
    spells = s.spells;
  }

  replied-side : (at n : ℕ) (bytes : List ℕ) → moment_in end h.steps at ≡ n → RepliedBy h.steps end at bytes → IsReplied (side end h).entries n bytes
  replied-side at n bytes place (replied m xid call reply lt s spells) =
      law.replied (moment_in end h.steps m) xid call reply (let low = own-before h.steps m end at (Executed xid call reply) s lt in omega (arith, low, place))
      (own-at h.steps m end (Executed xid call reply) s) spells
  replied-side at n bytes place (refused m xid code sent lt s under spells) =
      law.refused (moment_in end h.steps m) xid code sent (let low = own-before h.steps m end at (Sent sent) s lt in omega (arith, low, place))
      (own-at h.steps m end (Sent sent) s) under spells

  -- each earlier moment of the side is one of the whole
  earlier-moment : (at n m : ℕ) → moment_in end h.steps at ≡ n → m ≤ n → Between end h.steps zero at m
  earlier-moment at n m place le = let first = moment-first end h.steps in between end h.steps zero at m (omega arith) (omega (arith, first)) (omega (arith, place, le))

  -- the law of an entry of the whole, for the side: an entry of one's own
  own-law : (at n : ℕ) (e : Entry) (s t : Server) → moment_in end h.steps at ≡ n → StepIs h.steps at end e → LawfulAt (whole h) at e s t → LawfulAt (side end h) n e s t
  own-law at n (Executed xid call reply) s t place step l = (sent-side at n xid call place (sided.executed at end xid call reply step), l.1)
  own-law at n (Foreign call reply) s t place step l = l
  own-law at n (Flushed file from len) s t place step l = l
  own-law at n (Reboot verf) s t place step l = record {
    verifier = l.verifier;
    new = λ m le is.
        let b = earlier-moment at n m place le in
        let soon = b.soon in
        l.new b.at (omega (arith, soon)) (ap (λ (x : Server). x.verf) (sym (at-side h sided end b.at) ∙ ap (side end h).at b.is) ∙ is);
    left = l.left;
    steady = l.steady;
  }
  own-law at n (Delivered bytes) s t place step l = record { same = l.same; most = l.most; is = replied-side at n bytes place (sided.delivered at end bytes step) }
  own-law at n (Began lane line op) s t place step l = l
  own-law at n (Answered lane line answer) s t place step l = l
  own-law at n (Dialed port) s t place step l = l
  own-law at n (Sent bytes) s t place step l = l
  own-law at n Failed s t place step l = l
  own-law at n (Clock ms) s t place step l = l

  -- and one from afar
  afar-law : (at n : ℕ) (step seen : PairStep) (e : Entry) (s t : Server) → moment_in end h.steps at ≡ n → step.entry ≡ e → from_afar step e ≡ Some seen → LawfulAt (whole h) at e s t → LawfulAt (side end h) n seen.entry s t
  afar-law at n step seen (Executed xid call reply) s t place is sees l =
      subst (λ (x : PairStep). LawfulAt (side end h) n x.entry s t) (some-step (record step { entry = Foreign call reply }) seen sees) l.1
  afar-law at n step seen (Foreign call reply) s t place is sees l =
      subst (λ (x : PairStep). LawfulAt (side end h) n x.entry s t) (some-step step seen sees) (subst (λ (x : Entry). LawfulAt (side end h) n x s t) (sym is) l)
  afar-law at n step seen (Flushed file from len) s t place is sees l =
      subst (λ (x : PairStep). LawfulAt (side end h) n x.entry s t) (some-step step seen sees) (subst (λ (x : Entry). LawfulAt (side end h) n x s t) (sym is) l)
  afar-law at n step seen (Reboot verf) s t place is sees l =
      subst (λ (x : PairStep). LawfulAt (side end h) n x.entry s t) (some-step step seen sees) (subst (λ (x : Entry). LawfulAt (side end h) n x s t) (sym is) (record {
        verifier = l.verifier;
        new = λ m le same.
            let b = earlier-moment at n m place le in
            let soon = b.soon in
            l.new b.at (omega (arith, soon)) (ap (λ (x : Server). x.verf) (sym (at-side h sided end b.at) ∙ ap (side end h).at b.is) ∙ same);
        left = l.left;
        steady = l.steady;
      }))
  afar-law at n step seen (Began lane line op) s t place is sees l = absurd cc
  afar-law at n step seen (Answered lane line answer) s t place is sees l = absurd cc
  afar-law at n step seen (Dialed port) s t place is sees l = absurd cc
  afar-law at n step seen (Sent bytes) s t place is sees l = absurd cc
  afar-law at n step seen (Delivered bytes) s t place is sees l = absurd cc
  afar-law at n step seen Failed s t place is sees l = absurd cc
  afar-law at n step seen (Clock ms) s t place is sees l = absurd cc

  seen-law : (at n : ℕ) (step seen : PairStep) (s t : Server) → slice_get h.steps at ≡ Some step → seen_as end step ≡ Some seen → moment_in end h.steps at ≡ n → LawfulAt (whole h) at step.entry s t
      → LawfulAt (side end h) n seen.entry s t
  seen-law at n step seen s t is sees place l = by (step.end == end) refl sees
    where
      by : (b : Bool) → (step.end == end) ≡ b → cond b (Some step) (from_afar step step.entry) ≡ Some seen → LawfulAt (side end h) n seen.entry s t
      by true own sees =
          subst (λ (x : PairStep). LawfulAt (side end h) n x.entry s t) (some-step step seen sees)
          (own-law at n step.entry s t place (record { step = step; is = is; end_is = eqb-true step.end end own; entry_is = refl }) l)
      by false other sees = afar-law at n step seen step.entry s t place refl sees l

  entries-lawful : (n : ℕ) (d : Entry) → At (side end h).entries n d → LawfulAt (side end h) n d ((side end h).at n) ((side end h).at (suc n))
  entries-lawful n d at =
      let b = stands-back end h.steps n d at in
      let here : (whole h).at b.at ≡ (side end h).at n = sym (at-side h sided end b.at) ∙ ap (side end h).at b.place in
      let next : (whole h).at (suc b.at) ≡ (side end h).at (suc n) =
      sym (at-side h sided end (suc b.at)) ∙ ap (side end h).at (seen-next end h.steps b.at b.step b.seen b.is b.sees ∙ ap suc b.place) in
      subst (λ (x : Entry). LawfulAt (side end h) n x ((side end h).at n) ((side end h).at (suc n))) b.entry
      (subst (λ (z : Server). LawfulAt (side end h) n b.seen.entry ((side end h).at n) z) next
      (subst (λ (z : Server). LawfulAt (side end h) n b.seen.entry z ((whole h).at (suc b.at))) here
      (seen-law b.at n b.step b.seen ((whole h).at b.at) ((whole h).at (suc b.at)) b.is b.sees b.place (lawful.entries b.at b.step.entry (entry-at h.steps b.at b.step b.is)))))

  -- each moment of the side
  servers-lawful : (n : ℕ) → n ≤ length (side end h).entries → IsServer ((side end h).at n)
  servers-lawful n le =
      let first = moment-first end h.steps in
      let b = between end h.steps zero (length h.steps) n (omega arith) (omega (arith, first)) (subst (λ (k : ℕ). n ≤ k) (sym (moment-last end h.steps)) le) in
      let soon = b.soon in
      subst IsServer (sym (at-side h sided end b.at) ∙ ap (side end h).at b.is) (lawful.servers b.at (subst (λ (k : ℕ). b.at ≤ k) (sym (entries-length h.steps)) soon))

pub sides-are-lawful : SidesAreLawful
sides-are-lawful h lawful sided end = record { servers = servers-lawful h lawful sided end; entries = entries-lawful h lawful sided end }
