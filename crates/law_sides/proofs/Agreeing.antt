-- At each moment of both, the two clients' histories have the same server.
use Rattle.std.proofs.Common.{◌≡◌, ◌==◌, ℕ, zero, suc, List, [], ◌∷◌, Bool, true, false, cond, Option, Some, None, slice_get, refl, sym, ap, subst, ◌∙◌}
use Rattle.world_model.specs.declared.entry.Entry.{Entry}
use Rattle.world_model.specs.declared.entry.Entry.TheVariants.{Began, Answered, Dialed, Sent, Executed, Foreign, Flushed, Reboot, Delivered, Failed, Clock}
use Rattle.world_model.specs.History.{History}
use Rattle.world_model.specs.Lawful.{Lawful, LawfulAt}
use Rattle.world_model.specs.Server.{Server}
use Rattle.world_model.specs.Steps.{Same}
use Rattle.law_sides.specs.Whole.{IsClients}
use Rattle.outside.specs.Pairs.{PairStep, PairTold, from_afar, seen_as, with_seen, side_steps, entries_of, server_at, side, one_more, moment_in}

-- ---- entries of a client

-- it leaves a lawful server as it is
clients-same : (h : History) (n : ℕ) (e : Entry) (s t : Server) → IsClients e → LawfulAt h n e s t → Same s t
clients-same h n (Executed xid call reply) s t own l = absurd own
clients-same h n (Foreign call reply) s t own l = absurd own
clients-same h n (Flushed file from len) s t own l = absurd own
clients-same h n (Reboot verf) s t own l = absurd own
clients-same h n (Began lane line op) s t own l = l
clients-same h n (Answered lane line answer) s t own l = l
clients-same h n (Dialed port) s t own l = l
clients-same h n (Sent bytes) s t own l = l
clients-same h n (Delivered bytes) s t own l = l.same
clients-same h n Failed s t own l = l
clients-same h n (Clock ms) s t own l = l

some-step : (a b : PairStep) → Some a ≡ Some b → a ≡ b
some-step a b e = cc

afar-after : (s : PairStep) (e : Entry) (t : PairStep) → from_afar s e ≡ Some t → t.after ≡ s.after
afar-after s (Began lane line op) t is = absurd cc
afar-after s (Answered lane line answer) t is = absurd cc
afar-after s (Dialed port) t is = absurd cc
afar-after s (Sent bytes) t is = absurd cc
afar-after s (Executed xid call reply) t is = sym (ap (λ (x : PairStep). x.after) (some-step (record s { entry = Foreign call reply }) t is))
afar-after s (Foreign call reply) t is = sym (ap (λ (x : PairStep). x.after) (some-step s t is))
afar-after s (Flushed file from len) t is = sym (ap (λ (x : PairStep). x.after) (some-step s t is))
afar-after s (Reboot verf) t is = sym (ap (λ (x : PairStep). x.after) (some-step s t is))
afar-after s (Delivered bytes) t is = absurd cc
afar-after s Failed t is = absurd cc
afar-after s (Clock ms) t is = absurd cc

-- who sees a step sees the server after it
pub same-after : (end : ℕ) (s t : PairStep) → seen_as end s ≡ Some t → t.after ≡ s.after
same-after end s t is = by (s.end == end) is
  where
    by : (b : Bool) → cond b (Some s) (from_afar s s.entry) ≡ Some t → t.after ≡ s.after
    by true is = sym (ap (λ (x : PairStep). x.after) (some-step s t is))
    by false is = afar-after s s.entry t is

afar-unseen : (s : PairStep) (e : Entry) → from_afar s e ≡ None → IsClients e
afar-unseen s (Began lane line op) is = tt
afar-unseen s (Answered lane line answer) is = tt
afar-unseen s (Dialed port) is = tt
afar-unseen s (Sent bytes) is = tt
afar-unseen s (Executed xid call reply) is = absurd cc
afar-unseen s (Foreign call reply) is = absurd cc
afar-unseen s (Flushed file from len) is = absurd cc
afar-unseen s (Reboot verf) is = absurd cc
afar-unseen s (Delivered bytes) is = tt
afar-unseen s Failed is = tt
afar-unseen s (Clock ms) is = tt

-- a step that one doesn't see is a client's
pub unseen-clients : (end : ℕ) (s : PairStep) → seen_as end s ≡ None → IsClients s.entry
unseen-clients end s is = by (s.end == end) is
  where
    by : (b : Bool) → cond b (Some s) (from_afar s s.entry) ≡ None → IsClients s.entry
    by true is = absurd cc
    by false is = afar-unseen s s.entry is

pub afar-none : (s : PairStep) (e : Entry) → IsClients e → from_afar s e ≡ None
afar-none s (Executed xid call reply) own = absurd own
afar-none s (Foreign call reply) own = absurd own
afar-none s (Flushed file from len) own = absurd own
afar-none s (Reboot verf) own = absurd own
afar-none s (Began lane line op) own = refl
afar-none s (Answered lane line answer) own = refl
afar-none s (Dialed port) own = refl
afar-none s (Sent bytes) own = refl
afar-none s (Delivered bytes) own = refl
afar-none s Failed own = refl
afar-none s (Clock ms) own = refl

-- a client's step is seen as it is, where it is seen
seen-clients : (end : ℕ) (s t : PairStep) → seen_as end s ≡ Some t → IsClients s.entry → IsClients t.entry
seen-clients end s t is own = by (s.end == end) is
  where
    by : (b : Bool) → cond b (Some s) (from_afar s s.entry) ≡ Some t → IsClients t.entry
    by true is = subst (λ (x : PairStep). IsClients x.entry) (some-step s t is) own
    by false is = absurd (let no_way : None ≡ Some t = sym (afar-none s s.entry own) ∙ is in cc)

-- ---- the server

pub server-first : (start : Server) (steps : List PairStep) → server_at start steps zero ≡ start
server-first start [] = refl
server-first start (s ∷ steps) = refl

-- each entry of a client leaves the server as it is
abbrev pub Stays : Server → List PairStep → Type 0
Stays start steps = (n : ℕ) (e : Entry) → slice_get (entries_of steps) n ≡ Some e → IsClients e → Same (server_at start steps n) (server_at start steps (suc n))

pub lawful-stays : (end : ℕ) (h : PairTold) → Lawful (side end h) → Stays h.start (side_steps end h.steps)
lawful-stays end h l n e at own = clients-same (side end h) n e _ _ own (l.entries n e at)

stays-tail : (start : Server) (s : PairStep) (steps : List PairStep) → Stays start (s ∷ steps) → Stays s.after steps
stays-tail start s steps p n e at own = p (suc n) e at own

abbrev pub AlikeAt : Server → Server → Type 0
AlikeAt s t = (f : List ℕ) → s.object f ≡ t.object f

-- the first step, where it is a client's
stays-first : (start : Server) (s : PairStep) (steps : List PairStep) → Stays start (s ∷ steps) → IsClients s.entry → AlikeAt s.after start
stays-first start s steps p own f =
    let same : Same start (server_at s.after steps zero) = p zero s.entry refl own in
    sym (ap (λ (x : Server). x.object f) (server-first s.after steps)) ∙ same.object f

abbrev pub Agree : ℕ → ℕ → List PairStep → Type 0
Agree a b steps = (one other : Server) → Stays one (side_steps a steps) → Stays other (side_steps b steps) → AlikeAt one other
    → (n : ℕ) → AlikeAt (server_at one (side_steps a steps) (moment_in a steps n)) (server_at other (side_steps b steps) (moment_in b steps n))

agree-more : (a b : ℕ) (s : PairStep) (steps : List PairStep) → Agree a b steps → Agree a b (s ∷ steps)
agree-more a b s steps more one other p q alike zero f =
    ap (λ (x : Server). x.object f) (server-first one (side_steps a (s ∷ steps))) ∙ alike f
    ∙ sym (ap (λ (x : Server). x.object f) (server-first other (side_steps b (s ∷ steps))))
agree-more a b s steps more one other p q alike (suc n) f = by (seen_as a s) refl p (seen_as b s) refl q
  where
    by : (x : Option PairStep) → seen_as a s ≡ x → Stays one (with_seen x (side_steps a steps)) → (y : Option PairStep) → seen_as b s ≡ y → Stays other (with_seen y (side_steps b steps))
        → (server_at one (with_seen x (side_steps a steps)) (one_more x (moment_in a steps n))).object f ≡ (server_at other (with_seen y (side_steps b steps)) (one_more y (moment_in b steps n))).object f
    by (Some t) is p (Some u) has q =
        more t.after u.after (stays-tail one t (side_steps a steps) p) (stays-tail other u (side_steps b steps) q)
        (λ g. ap (λ (x : Server). x.object g) (same-after a s t is ∙ sym (same-after b s u has))) n f
    by (Some t) is p None has q =
        more t.after other (stays-tail one t (side_steps a steps) p) q
        (λ g. stays-first one t (side_steps a steps) p (seen-clients a s t is (unseen-clients b s has)) g ∙ alike g) n f
    by None is p (Some u) has q =
        more one u.after p (stays-tail other u (side_steps b steps) q)
        (λ g. alike g ∙ sym (stays-first other u (side_steps b steps) q (seen-clients b s u has (unseen-clients a s is)) g)) n f
    by None is p None has q = more one other p q alike n f

agree-none : (a b : ℕ) → Agree a b []
agree-none a b one other p q alike n f = alike f

agree : (a b : ℕ) (steps : List PairStep) → Agree a b steps
agree a b [] = agree-none a b
agree a b (s ∷ steps) = agree-more a b s steps (agree a b steps)

-- Where both histories are lawful, they agree on each object.
pub sides-agree : (a b : ℕ) (h : PairTold) → Lawful (side a h) → Lawful (side b h) → (n : ℕ) (f : List ℕ)
    → ((side a h).at (moment_in a h.steps n)).object f ≡ ((side b h).at (moment_in b h.steps n)).object f
sides-agree a b h l k n f = agree a b h.steps h.start h.start (lawful-stays a h l) (lawful-stays b h k) (λ g. refl) n f
