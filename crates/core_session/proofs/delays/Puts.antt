-- The places at which a call was put off (RFC 1813, section 2.6, NFS3ERR_JUKEBOX), as many different ones as it is said.
use Rattle.core_session.proofs.Prelude.{◌≡◌, ◌≢◌, ◌≤◌, ◌<◌, ◌+◌, ◌-◌, ℕ, List, [], ◌∷◌, ◌++◌, length, sym, arith, Entry, Call, FirstSent-grow, Answers-grow}
use Rattle.std.proofs.Common.{All, AllPairs}
use Rattle.std.proofs.lemmas.List.Elements.{All-cons}
use Rattle.std.proofs.lemmas.List.Kept.{AllPairs-cons}
use Rattle.claims.specs.GoesOn.{PutOff, FewPutOff}
use Rattle.world_model.specs.Heard.{Heard}
use Rattle.claims.specs.Terms.{most_tries}

pub record Puts (h : List Entry) (x n : ℕ) (call : Call) (k : ℕ) : Type 0 where
  pub places : List ℕ
  pub apart : AllPairs (λ (a b : ℕ). a ≢ b) places
  pub all : All (PutOff h x n call) places
  pub many : length places ≡ k

abbrev pub heard-later : (h more : List Entry) (x y z : ℕ) (call : Call) (xid : ℕ) (bytes : List ℕ) → y ≤ z → Heard h x y call xid bytes → Heard (h ++ more) x z call xid bytes
heard-later h more x y z call xid bytes wide d = record {
  sent_at = d.sent_at;
  record_sent = d.record_sent;
  got_at = d.got_at;
  sent = FirstSent-grow h more d.sent_at xid d.record_sent d.sent;
  spells = d.spells;
  got = Answers-grow h more d.got_at xid bytes d.got;
  after = d.after;
  later = d.later;
  before = let low = d.before in omega (arith, low, wide);
}

abbrev put-later : (h more : List Entry) (x y z : ℕ) (call : Call) (at : ℕ) → y ≤ z → PutOff h x y call at → PutOff (h ++ more) x z call at
put-later h more x y z call at wide p = record {
  refused = record { xid = p.refused.xid; bytes = p.refused.bytes; heard = heard-later h more x y z call p.refused.xid p.refused.bytes wide p.refused.heard; refuses = p.refused.refuses };
  here = p.here;
}

pub puts-later : (h more : List Entry) (x y z : ℕ) (call : Call) (k : ℕ) → y ≤ z → Puts h x y call k → Puts (h ++ more) x z call k
puts-later h more x y z call k wide p = record {
  places = p.places;
  apart = p.apart;
  all = λ i d within. put-later h more x y z call _ wide (p.all i d within);
  many = p.many;
}

pub puts-none : (h : List Entry) (x n : ℕ) (call : Call) (k : ℕ) → k ≡ 0 → Puts h x n call k
puts-none h x n call k none = record { places = []; apart = λ i j d low within. absurd (omega (arith, within)); all = λ i d within. absurd (omega (arith, within)); many = sym none }

put-below : (h : List Entry) (x n : ℕ) (call : Call) (at : ℕ) → PutOff h x n call at → at < n
put-below h x n call at p = let low = p.refused.heard.before in let here = p.here in omega (arith, low, here)

-- one more, after the others
pub puts-more : (h more : List Entry) (x y z : ℕ) (call : Call) (k at : ℕ) → y ≤ z → y ≤ at → PutOff (h ++ more) x z call at → Puts h x y call k → Puts (h ++ more) x z call (k + 1)
puts-more h more x y z call k at wide late here p = record {
  places = at ∷ p.places;
  apart = AllPairs-cons (λ (a b : ℕ). a ≢ b) at p.places (λ i d within same. let low = put-below h x y call _ (p.all i d within) in absurd (omega (arith, low, late, same))) p.apart;
  all = All-cons (PutOff (h ++ more) x z call) at p.places here (λ i d within. put-later h more x y z call _ wide (p.all i d within));
  many = let many = p.many in omega (arith, many);
}

put-wide : (h : List Entry) (x y z : ℕ) (call : Call) (at : ℕ) → y ≤ z → PutOff h x y call at → PutOff h x z call at
put-wide h x y z call at wide p =
    let d = p.refused.heard in
    record {
      refused = record {
        xid = p.refused.xid;
        bytes = p.refused.bytes;
        heard = record {
          sent_at = d.sent_at;
          record_sent = d.record_sent;
          got_at = d.got_at;
          sent = d.sent;
          spells = d.spells;
          got = d.got;
          after = d.after;
          later = d.later;
          before = let low = d.before in omega (arith, low, wide);
        };
        refuses = p.refused.refuses;
      };
      here = p.here;
    }

-- the same where the history is as it was
pub puts-one : (h : List Entry) (x y z : ℕ) (call : Call) (k at : ℕ) → y ≤ z → y ≤ at → PutOff h x z call at → Puts h x y call k → Puts h x z call (k + 1)
puts-one h x y z call k at wide late here p = record {
  places = at ∷ p.places;
  apart = AllPairs-cons (λ (a b : ℕ). a ≢ b) at p.places (λ i d within same. let low = put-below h x y call _ (p.all i d within) in absurd (omega (arith, low, late, same))) p.apart;
  all = All-cons (PutOff h x z call) at p.places here (λ i d within. put-wide h x y z call _ wide (p.all i d within));
  many = let many = p.many in omega (arith, many);
}

pub not-few : (h : List Entry) (x n : ℕ) (call : Call) (k : ℕ) → 3 ≤ k → Puts h x n call k → FewPutOff h x n call → ⊥
not-few h x n call k enough p few = let less : length p.places < most_tries - 1 = few p.places p.apart p.all in let many = p.many in omega (arith, less, many, enough)
