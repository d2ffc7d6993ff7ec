-- A page that a READ met is one of those that the range of a read meets.
use Rattle.core_counts.proofs.Prelude.{◌<◌, inl, inr, ℕ, List, arith, Entry, Sent, At, SpellsCall, Terms, read_call, MeetsPage, Mounted, Setup, View, GoesFrom, session, early-or}
use Rattle.claims.specs.Thrifty.{FilePage, IsMet}
use Rattle.claims.specs.Pages.{InsidePages}
use Rattle.core_session.proofs.calls.Causes.{under-now}
use Rattle.core_counts.proofs.thrift.ReadsLong.{reads, none-early}

-- a READ that was sent before the place n meets the page
pub record MetBefore (h : List Entry) (n : ℕ) (page : FilePage) : Type 0 where
  pub at : ℕ
  pub xid : ℕ
  pub bytes : List ℕ
  pub offset : ℕ
  pub count : ℕ
  pub sent : At h at (Sent bytes)
  pub spells : SpellsCall xid (read_call page.0 offset count) bytes
  pub before : at < n
  pub met : MeetsPage offset count page.1

-- a page that meets a part of a range meets the range
widened : (from size offset count page : ℕ) → InsidePages from size offset count → MeetsPage offset count page → MeetsPage from size page
widened from size offset count page k met = record {
  some = k.some;
  low = let low = k.low in let there = met.low in omega (arith, low, there);
  high = let high = k.high in let there = met.high in omega (arith, high, there);
}

pub met-is : (m : Mounted) (terms : Terms) (setup : Setup) (before h : List Entry) (v : View) → GoesFrom m terms setup before h v → (n : ℕ) (page : FilePage) → MetBefore h n page
    → IsMet terms h n page
met-is m terms setup before h v g n page k = elim (early-or m terms setup before h v g k.at k.bytes k.sent) [
  | inl early ↦ absurd (none-early m terms setup before h v g k.at k.xid k.offset k.count page.0 k.bytes early k.spells)
  | inr w ↦
      let s = session m terms setup before h v g in
      let r = reads m terms setup h v s k.at k.bytes w k.xid k.offset k.count page.0 k.spells in
      let under = under-now m terms setup h v s k.at k.bytes w in
      record {
        x = w.x;
        slot = r.0;
        offset = r.1;
        count = r.2;
        of = r.4;
        before = (let early = under.before in let late = k.before in omega (arith, early, late));
        met = widened r.1 r.2 k.offset k.count page.1 r.6 k.met;
      }
]
