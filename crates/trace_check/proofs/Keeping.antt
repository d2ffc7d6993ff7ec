-- What keeps the rules of the server keeps them from the beginning on.
use Rattle.std.proofs.Common.{◌≡◌, ◌<◌, ◌≤◌, ℕ, List, length, take, sym, ◌∙◌, arith}
use Rattle.std.proofs.lemmas.List.{length-take-le}
use Rattle.std.proofs.lemmas.Option.{slice_get_within}
use Rattle.world_model.specs.declared.entry.Entry.{Entry}
use Rattle.world_model.specs.declared.entry.Entry.TheVariants.{Delivered, Executed}
use Rattle.world_model.specs.Entries.{At}
use Rattle.world_model.specs.Fresh.{Fresh}
use Rattle.world_model.specs.History.{History}
use Rattle.trace_data.specs.declared.trace.Trace.{Trace}
use Rattle.trace_data.specs.Histories.{history_of}
use Rattle.trace_rules.specs.Beginnings.{beginning, OnceOf}
use Rattle.trace_lawful.specs.Judged.{KeepsServer}
use Rattle.trace_lawful.proofs.Lawfulness.{get-take, lawful-less}

within-taken : (n : ℕ) (h : List Entry) (m : ℕ) (e : Entry) → n ≤ length h → At (take n h) m e → m < n
within-taken n h m e le at = let inside : m < length (take n h) = slice_get_within (take n h) m e at in let same : length (take n h) ≡ n = length-take-le n h le in omega (arith, inside, same)

once-before : (h : History) (n : ℕ) → n ≤ length h.entries → OnceOf h → OnceOf (beginning h n)
once-before h n le once i m xid bytes call reply came is done =
    once i m xid bytes call reply (from i (Delivered bytes) came) is (from m (Executed xid call reply) done)
  where
    from : (k : ℕ) (e : Entry) → At (take n h.entries) k e → At h.entries k e
    from k e at = sym (get-take n h.entries k (within-taken n h.entries k e le at)) ∙ at

fresh-before : (h : History) (n : ℕ) → n ≤ length h.entries → Fresh h → Fresh (beginning h n)
fresh-before h n le fresh m below = let same : length (take n h.entries) ≡ n = length-take-le n h.entries le in fresh m (omega (arith, below, same, le))

pub server-before : (t : Trace) (n : ℕ) → n ≤ length t.entries.items → KeepsServer (history_of t) → KeepsServer (beginning (history_of t) n)
server-before t n le whole = record {
  lawful = lawful-less t n le whole.lawful;
  once = once-before (history_of t) n le whole.once;
  fresh = fresh-before (history_of t) n le whole.fresh;
}
