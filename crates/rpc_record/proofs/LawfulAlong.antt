-- A history that goes along with a lawful one is lawful.
use Rattle.std.proofs.Common.{inl, inr, ◌≡◌, ◌≤◌, ◌<◌, ℕ, suc, List, [], ◌∷◌, ◌++◌, length, refl, sym, ap, subst, ◌∙◌, arith}
use Rattle.std.proofs.lemmas.Bool.{cases_lt, le-ltb, lt-ltb}
use Rattle.world_model.specs.declared.entry.Entry.{Entry}
use Rattle.world_model.specs.declared.entry.Entry.TheVariants as entries
use Rattle.world_model.specs.declared.message.Call.{Call}
use Rattle.world_model.specs.Entries.{At}
use Rattle.world_model.specs.Server.{Server, IsServer}
use Rattle.world_model.specs.History.{History}
use Rattle.world_model.specs.Lawful.{WasSent, IsReplied, LawfulAt, Lawful}
use Rattle.world_model.proofs.Places.{At-grow, At-back, At-below, At-last, At-cases, length_last}
use Rattle.outside.specs.Wire.{Step}
use Rattle.outside.specs.Reading.{now_at, at_next, goes_on, adds, follows, all_add}
use Rattle.rpc_record.specs.Honest.{IsCited, Covers, GoesWith}

-- ---- one entry more

pub at_old : (h : History) (t : Server) (n : ℕ) → n ≤ length h.entries → at_next h t n ≡ h.at n
unfolding at_next
at_old h t n le = rw (le-ltb _ _ le) refl

pub at_last : (h : History) (t : Server) (n : ℕ) → length h.entries < n → at_next h t n ≡ t
unfolding at_next
at_last h t n lt = rw (lt-ltb _ _ lt) refl

now_new : (h : History) (e : Entry) (t : Server) → now_at (goes_on h e t) ≡ t
now_new h e t = at_last h t (length (h.entries ++ e ∷ [])) (omega (arith, length_last h.entries e))

verf_at : (s t : Server) → s ≡ t → s.verf ≡ t.verf
verf_at s t e = ap (λ (x : Server). x.verf) e

-- ---- what is lawful in the one is so in the other

-- where h has it before n, k has it before j
abbrev Has : List Entry → ℕ → List Entry → ℕ → Type 0
Has h n k j = (m : ℕ) (e : Entry) → m < n → At h m e → IsCited e → (i : ℕ) × (i < j) × At k i e

was_sent : (h k : List Entry) (n j xid : ℕ) (call : Call) → Has h n k j → WasSent h n xid call → WasSent k j xid call
was_sent h k n j xid call has w =
    let o = has w.at (entries.Sent w.bytes) w.before w.sent tt in
    record { at = o.0; bytes = w.bytes; before = o.1; sent = o.2; spells = w.spells }

is_replied : (h k : List Entry) (n j : ℕ) (bytes : List ℕ) → Has h n k j → IsReplied h n bytes → IsReplied k j bytes
is_replied h k n j bytes has (IsReplied.replied m xid call reply lt at spells) =
    let o = has m (entries.Executed xid call reply) lt at tt in
    IsReplied.replied o.0 xid call reply o.1 o.2 spells
is_replied h k n j bytes has (IsReplied.refused m xid code sent lt at under spells) =
    let o = has m (entries.Sent sent) lt at tt in
    IsReplied.refused o.0 xid code sent o.1 o.2 under spells

law_over : (h k : History) (n j : ℕ) (e : Entry) (s t : Server) → Covers h n k j → LawfulAt h n e s t → LawfulAt k j e s t
law_over h k n j (entries.Executed xid call reply) s t c l = (was_sent h.entries k.entries n j xid call c.has l.0, l.1)
law_over h k n j (entries.Foreign call reply) s t c l = l
law_over h k n j (entries.Flushed f start count) s t c l = l
law_over h k n j (entries.Reboot verf) s t c l = record { verifier = l.verifier; new = λ m le e. let o = c.verfs m le in l.new o.0 o.1 (sym o.2 ∙ e); left = l.left; steady = l.steady }
law_over h k n j (entries.Delivered bytes) s t c l = record { same = l.same; most = l.most; is = is_replied h.entries k.entries n j bytes c.has l.is }
law_over h k n j (entries.Began lane line op) s t c l = l
law_over h k n j (entries.Answered lane line answer) s t c l = l
law_over h k n j (entries.Dialed port) s t c l = l
law_over h k n j (entries.Sent bytes) s t c l = l
law_over h k n j entries.Failed s t c l = l
law_over h k n j (entries.Clock ms) s t c l = l

law_at : (k : History) (n : ℕ) (e : Entry) (s t u v : Server) → u ≡ s → v ≡ t → LawfulAt k n e s t → LawfulAt k n e u v
law_at k n e s t u v a b l = rw (a, b) l

covers_more : (h : History) (e : Entry) (t : Server) (n : ℕ) → n ≤ length h.entries → Covers h n (goes_on h e t) n
covers_more h e t n le = record {
  has = λ m d lt at cited. (m, lt, At-grow h.entries (e ∷ []) m d at);
  verfs = λ i small. (i, small, verf_at _ _ (at_old h t i (omega (arith, small, le))));
}

covers_less : (h : History) (e : Entry) (t : Server) (n : ℕ) → n ≤ length h.entries → Covers (goes_on h e t) n h n
covers_less h e t n le = record {
  has = λ m d lt at cited. (m, lt, At-back h.entries (e ∷ []) m d at (omega (arith, lt, le)));
  verfs = λ i small. (i, small, verf_at _ _ (sym (at_old h t i (omega (arith, small, le)))));
}

last_law : (h : History) (e : Entry) (t : Server) (n : ℕ) (d : Entry) → n ≡ length h.entries → e ≡ d → LawfulAt h (length h.entries) e (now_at h) t
    → LawfulAt (goes_on h e t) n d (at_next h t n) (at_next h t (suc n))
last_law h e t n d is same l = rw (is, ← same)
    (law_at (goes_on h e t) (length h.entries) e (now_at h) t _ _ (at_old h t (length h.entries) (omega arith)) (at_last h t (suc (length h.entries)) (omega arith))
    (law_over h (goes_on h e t) (length h.entries) (length h.entries) e (now_at h) t (covers_more h e t (length h.entries) (omega arith)) l))

old_law : (h : History) (e : Entry) (t : Server) (n : ℕ) (d : Entry) → n < length h.entries → LawfulAt h n d (h.at n) (h.at (suc n))
    → LawfulAt (goes_on h e t) n d (at_next h t n) (at_next h t (suc n))
old_law h e t n d lt l = law_at (goes_on h e t) n d (h.at n) (h.at (suc n)) _ _ (at_old h t n (omega (arith, lt))) (at_old h t (suc n) (omega (arith, lt)))
    (law_over h (goes_on h e t) n n d (h.at n) (h.at (suc n)) (covers_more h e t n (omega (arith, lt))) l)

pub lawful_more : (h : History) (e : Entry) (t : Server) → Lawful h → IsServer t → LawfulAt h (length h.entries) e (now_at h) t → Lawful (goes_on h e t)
lawful_more h e t l server one = record {
  servers = λ n le. elim (cases_lt (length h.entries) n) [
    | inl lt ↦ subst IsServer (sym (at_last h t n lt)) server
    | inr small ↦ subst IsServer (sym (at_old h t n small)) (l.servers n small)
  ];
  entries = λ n d at. elim (At-cases h.entries e n d at) [
    | inl a ↦ old_law h e t n d (At-below h.entries n d a) (l.entries n d a)
    | inr b ↦ last_law h e t n d b.0 b.1 one
  ];
}

pub lawful_front : (h : History) (e : Entry) (t : Server) → Lawful (goes_on h e t) → Lawful h
lawful_front h e t l = record {
  servers = λ n le. subst IsServer (at_old h t n le) (l.servers n (omega (arith, le, length_last h.entries e)));
  entries = λ n d at.
      let lt : n < length h.entries = At-below h.entries n d at in
      law_at h n d (at_next h t n) (at_next h t (suc n)) _ _ (sym (at_old h t n (omega (arith, lt)))) (sym (at_old h t (suc n) (omega (arith, lt))))
      (law_over (goes_on h e t) h n n d (at_next h t n) (at_next h t (suc n)) (covers_less h e t n (omega (arith, lt))) (l.entries n d (At-grow h.entries (e ∷ []) n d at)));
}

lawful_last : (h : History) (e : Entry) (t : Server) → Lawful (goes_on h e t) → LawfulAt h (length h.entries) e (now_at h) t
lawful_last h e t l =
    let n : ℕ = length h.entries in
    law_at h n e (at_next h t n) (at_next h t (suc n)) _ _ (sym (at_old h t n (omega arith))) (sym (at_last h t (suc n) (omega arith)))
    (law_over (goes_on h e t) h n n e (at_next h t n) (at_next h t (suc n)) (covers_less h e t n (omega arith)) (l.entries n e (At-last h.entries e)))

lawful_server : (h : History) (e : Entry) (t : Server) → Lawful (goes_on h e t) → IsServer t
lawful_server h e t l = subst IsServer (now_new h e t) (l.servers (length (h.entries ++ e ∷ [])) (omega arith))

-- ---- histories that go along

goes_both : (h k : History) (e : Entry) (t : Server) → GoesWith h k → GoesWith (goes_on h e t) (goes_on k e t)
goes_both h k e t g = record {
  covers = record {
    has = λ m d lt at cited. elim (At-cases h.entries e m d at) [
      | inl a ↦
          let o = g.covers.has m d (At-below h.entries m d a) a cited in
          (o.0, omega (arith, o.1, length_last k.entries e), At-grow k.entries (e ∷ []) o.0 d o.2)
      | inr b ↦ (length k.entries, omega (arith, length_last k.entries e), rw (← b.1) (At-last k.entries e))
    ];
    verfs = λ i le. elim (cases_lt (length k.entries) i) [
      | inl lt ↦ (length (h.entries ++ e ∷ []), omega arith, verf_at _ _ (at_last k t i lt ∙ sym (now_new h e t)))
      | inr small ↦
          let o = g.covers.verfs i small in
          (o.0, omega (arith, o.1, length_last h.entries e), verf_at _ _ (at_old k t i small) ∙ o.2 ∙ sym (verf_at _ _ (at_old h t o.0 o.1)))
    ];
  };
  server = now_new k e t ∙ sym (now_new h e t);
}

-- an entry of the first that no later one is lawful by
goes_left : (h k : History) (e : Entry) → (IsCited e → ⊥) → GoesWith h k → GoesWith (adds h e) k
goes_left h k e free g = record {
  covers = record {
    has = λ m d lt at cited. elim (At-cases h.entries e m d at) [
      | inl a ↦ g.covers.has m d (At-below h.entries m d a) a cited
      | inr b ↦ absurd (free (subst IsCited (sym b.1) cited))
    ];
    verfs = λ i le.
        let o = g.covers.verfs i le in
        (o.0, omega (arith, o.1, length_last h.entries e), o.2 ∙ sym (verf_at _ _ (at_old h (now_at h) o.0 o.1)));
  };
  server = g.server ∙ sym (now_new h e (now_at h));
}

-- an entry of the second that leaves the server as it is
goes_right : (h k : History) (e : Entry) → GoesWith h k → GoesWith h (adds k e)
goes_right h k e g = record {
  covers = record {
    has = λ m d lt at cited.
        let o = g.covers.has m d lt at cited in
        (o.0, omega (arith, o.1, length_last k.entries e), At-grow k.entries (e ∷ []) o.0 d o.2);
    verfs = λ i le. elim (cases_lt (length k.entries) i) [
      | inl lt ↦
          let o = g.covers.verfs (length k.entries) (omega arith) in
          (o.0, o.1, verf_at _ _ (at_last k (now_at k) i lt) ∙ o.2)
      | inr small ↦
          let o = g.covers.verfs i small in
          (o.0, o.1, verf_at _ _ (at_old k (now_at k) i small) ∙ o.2)
    ];
  };
  server = now_new k e (now_at k) ∙ g.server;
}

-- ---- and the second is lawful

pub record Both (h k : History) : Type 0 where
  pub goes : GoesWith h k
  pub lawful : Lawful k

both_step : (h k : History) (e : Entry) (t : Server) → Both h k → Lawful (goes_on h e t) → Both (goes_on h e t) (goes_on k e t)
both_step h k e t b l = record {
  goes = goes_both h k e t b.goes;
  lawful = lawful_more k e t b.lawful (lawful_server h e t l)
      (law_at k (length k.entries) e (now_at h) t (now_at k) t b.goes.server refl (law_over h k (length h.entries) (length k.entries) e (now_at h) t b.goes.covers (lawful_last h e t l)));
}

lawful_follows : (steps : List Step) (h : History) → Lawful (follows steps h) → Lawful h
lawful_follows [] h l = l
lawful_follows (s ∷ steps) h l = lawful_front h s.entry s.after (lawful_follows steps (goes_on h s.entry s.after) l)

pub both_steps : (steps : List Step) (h k : History) → Both h k → Lawful (follows steps h) → Both (follows steps h) (follows steps k)
both_steps [] h k b l = b
both_steps (s ∷ steps) h k b l =
    both_steps steps (goes_on h s.entry s.after) (goes_on k s.entry s.after) (both_step h k s.entry s.after b (lawful_follows steps (goes_on h s.entry s.after) l)) l

pub both_add : (h k : History) (e : Entry) → Both h k → Lawful (adds h e) → Both (adds h e) (adds k e)
both_add h k e b l = subst (λ (s : Server). Both (adds h e) (goes_on k e s)) (sym b.goes.server) (both_step h k e (now_at h) b l)

both_own : (h k : History) (e : Entry) → Both h k → LawfulAt k (length k.entries) e (now_at k) (now_at k) → Both h (adds k e)
both_own h k e b l = record {
  goes = goes_right h k e b.goes;
  lawful = lawful_more k e (now_at k) b.lawful (b.lawful.servers (length k.entries) (omega arith)) l;
}

pub both_failed : (h k : History) → Both h k → Both h (adds k entries.Failed)
both_failed h k b = both_own h k entries.Failed b (record { verf = refl; object = λ f. refl })

pub both_sent : (h k : History) (rec : List ℕ) → Both h k → Both h (adds k (entries.Sent rec))
both_sent h k rec b = both_own h k (entries.Sent rec) b (record { verf = refl; object = λ f. refl })

-- what was delivered in the first is delivered in the second
pub both_delivered : (h k : History) (rec : List ℕ) (at : ℕ) → Both h k → Lawful h → At h.entries at (entries.Delivered rec) → Both h (adds k (entries.Delivered rec))
both_delivered h k rec at b l here =
    let d = l.entries at (entries.Delivered rec) here in
    let below : at < length h.entries = At-below h.entries at (entries.Delivered rec) here in
    both_own h k (entries.Delivered rec) b (record {
      same = record { verf = refl; object = λ f. refl };
      most = d.most;
      is = is_replied h.entries k.entries at (length k.entries) rec (λ m e lt there cited. b.goes.covers.has m e (omega (arith, lt, below)) there cited) d.is;
    })

pub both_heard : (recs : List (List ℕ)) (h k : History) → Both h k → Both (all_add entries.Delivered recs h) k
both_heard [] h k b = b
both_heard (rec ∷ recs) h k b = both_heard recs (adds h (entries.Delivered rec)) k (record { goes = goes_left h k (entries.Delivered rec) (λ c. c) b.goes; lawful = b.lawful })

pub lawful_all : (recs : List (List ℕ)) (make : List ℕ → Entry) (h : History) → Lawful (all_add make recs h) → Lawful h
lawful_all [] make h l = l
lawful_all (rec ∷ recs) make h l = lawful_front h (make rec) (now_at h) (lawful_all recs make (adds h (make rec)) l)

-- ---- what stands in a history goes on standing there

abbrev pub Keeps : List Entry → List Entry → Type 0
Keeps h k = (i : ℕ) (e : Entry) → At h i e → At k i e

pub follows_keeps : (steps : List Step) (h : History) → Keeps h.entries (follows steps h).entries
follows_keeps [] h i e at = at
follows_keeps (s ∷ steps) h i e at = follows_keeps steps (goes_on h s.entry s.after) i e (At-grow h.entries (s.entry ∷ []) i e at)

pub all_keeps : (recs : List (List ℕ)) (make : List ℕ → Entry) (h : History) → Keeps h.entries (all_add make recs h).entries
all_keeps [] make h i e at = at
all_keeps (rec ∷ recs) make h i e at = all_keeps recs make (adds h (make rec)) i e (At-grow h.entries (make rec ∷ []) i e at)
