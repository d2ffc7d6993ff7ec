-- What came first of a lawful history is lawful.
use Rattle.core_counts.proofs.Prelude.{◌≡◌, ◌<◌, ℕ, suc, List, ◌++◌, length, sym, ap, subst, arith, Entry, Began, Answered, Dialed, Sent, Executed, Foreign, Flushed, Reboot, Delivered, Failed, Clock, At, History, Lawful, At-grow, At-below, At-back, until}
use Rattle.world_model.specs.Lawful.{LawfulAt, IsReplied, replied, refused}
use Rattle.std.proofs.lemmas.List.{length-append}
use Rattle.world_model.specs.Server.{Server}

module _ (t : History) (h rest : List Entry) (along : t.entries ≡ h ++ rest) where
  at-all : (n : ℕ) (e : Entry) → At h n e → At t.entries n e
  at-all n e at = subst (λ (k : List Entry). At k n e) (sym along) (At-grow h rest n e at)

  at-first : (n : ℕ) (e : Entry) → At t.entries n e → n < length h → At h n e
  at-first n e at early = At-back h rest n e (subst (λ (k : List Entry). At k n e) along at) early

  replied-first : (n : ℕ) (bytes : List ℕ) → n < length h → IsReplied t.entries n bytes → IsReplied h n bytes
  replied-first n bytes early (replied m xid call reply before at spells) =
      replied m xid call reply before (at-first m (Executed xid call reply) at (omega (arith, before, early))) spells
  replied-first n bytes early (refused m xid code record_sent before at has spells) =
      refused m xid code record_sent before (at-first m (Sent record_sent) at (omega (arith, before, early))) has spells

  entry-first : (n : ℕ) (e : Entry) (s s2 : Server) → n < length h → LawfulAt t n e s s2 → LawfulAt (until t h) n e s s2
  entry-first n (Executed xid call reply) s s2 early l =
      let sent = l.0 in
      let before = sent.before in
      (record { at = sent.at; bytes = sent.bytes; before = sent.before; sent = at-first sent.at (Sent sent.bytes) sent.sent (omega (arith, before, early)); spells = sent.spells }, l.1)
  entry-first n (Foreign call reply) s s2 early l = l
  entry-first n (Flushed file start count) s s2 early l = l
  entry-first n (Reboot verf) s s2 early l = record { verifier = l.verifier; new = l.new; left = l.left; steady = l.steady }
  entry-first n (Delivered bytes) s s2 early l = record { same = l.same; most = l.most; is = replied-first n bytes early l.is }
  entry-first n (Began lane line op) s s2 early l = l
  entry-first n (Answered lane line answer) s s2 early l = l
  entry-first n (Dialed port) s s2 early l = l
  entry-first n (Sent bytes) s s2 early l = l
  entry-first n Failed s s2 early l = l
  entry-first n (Clock ms) s s2 early l = l

  pub lawful-until : Lawful t → Lawful (until t h)
  lawful-until lawful = record {
    servers = λ n soon. lawful.servers n (let long = length-append h rest in let all = ap (λ (k : List Entry). length k) along in omega (arith, soon, long, all));
    entries = λ n e at. entry-first n e (t.at n) (t.at (suc n)) (At-below h n e at) (lawful.entries n e (at-all n e at));
  }
