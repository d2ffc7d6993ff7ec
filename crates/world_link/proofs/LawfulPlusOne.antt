-- A lawful history with one more lawful entry is lawful.
use Rattle.std.proofs.Common.{inl, inr, ◌≡◌, ◌≤◌, ◌<◌, ℕ, suc, List, [], ◌∷◌, ◌++◌, length, Option, sym, ap, subst, ◌∙◌, arith}
use Rattle.std.proofs.lemmas.Bool.{cases_lt}
use Rattle.std.proofs.lemmas.List.{take_all}
use Rattle.nfs_types.specs.declared.verf.Verf.{Verf}
use Rattle.world_model.specs.declared.entry.Entry.{Entry}
use Rattle.world_model.specs.declared.entry.Entry.TheVariants as entries
use Rattle.world_model.specs.declared.message.Call.{Call}
use Rattle.world_model.specs.Server.{Server, IsServer}
use Rattle.world_model.specs.History.{History}
use Rattle.world_model.specs.Lawful.{WasSent, IsReplied, LawfulAt, Lawful}
use Rattle.world_model.proofs.Places.{At-grow, At-below, At-cases, length_last}
use Rattle.export_fs.specs.View.{View}
use Rattle.export_fs.specs.Seen.{server_of}
use Rattle.world_link.specs.declared.directive.PartialWrite.{PartialWrite}
use Rattle.world_link.specs.Replay.{replayed, at_of, told_of}
use Rattle.world_link.proofs.ServerEntriesOnly.{earlier}

-- the last moment
pub at_end : (parts : ℕ → Option PartialWrite) (start : View) (es : List Entry) (n : ℕ) → length es ≤ n → at_of parts start es n ≡ server_of (replayed parts start es)
at_end parts start es n le = ap (λ (l : List Entry). server_of (replayed parts start l)) (take_all n es le)

sent_grows : (es more : List Entry) (n xid : ℕ) (call : Call) → WasSent es n xid call → WasSent (es ++ more) n xid call
sent_grows es more n xid call w = record { at = w.at; bytes = w.bytes; before = w.before; sent = At-grow es more w.at (entries.Sent w.bytes) w.sent; spells = w.spells }

pub replied_grows : (es more : List Entry) (n m : ℕ) (bytes : List ℕ) → n ≤ m → IsReplied es n bytes → IsReplied (es ++ more) m bytes
replied_grows es more n m bytes le (IsReplied.replied i xid call reply lt at spells) =
    IsReplied.replied i xid call reply (omega (arith, lt, le)) (At-grow es more i (entries.Executed xid call reply) at) spells
replied_grows es more n m bytes le (IsReplied.refused i xid code sent lt at under spells) =
    IsReplied.refused i xid code sent (omega (arith, lt, le)) (At-grow es more i (entries.Sent sent) at) under spells

abbrev verf_of : Server → Verf
verf_of s = s.verf

-- an entry that was lawful stays lawful
law_grows : (parts : ℕ → Option PartialWrite) (start : View) (es : List Entry) (e d : Entry) (n : ℕ) (s t : Server) → n ≤ length es → LawfulAt (told_of parts start es) n d s t → LawfulAt (told_of parts start (es ++ e ∷ [])) n d s t
law_grows parts start es e (entries.Executed xid call reply) n s t le l = (sent_grows es (e ∷ []) n xid call l.0, l.1)
law_grows parts start es e (entries.Foreign call reply) n s t le l = l
law_grows parts start es e (entries.Flushed f from count) n s t le l = l
law_grows parts start es e (entries.Reboot verf) n s t le l = record {
  verifier = l.verifier;
  new = λ m small q. l.new m small (ap verf_of (sym (earlier parts start es (e ∷ []) m (omega (arith, small, le)))) ∙ q);
  left = l.left;
  steady = l.steady;
}
law_grows parts start es e (entries.Delivered bytes) n s t le l = record { same = l.same; most = l.most; is = replied_grows es (e ∷ []) n n bytes (omega arith) l.is }
law_grows parts start es e (entries.Began lane line op) n s t le l = l
law_grows parts start es e (entries.Answered lane line answer) n s t le l = l
law_grows parts start es e (entries.Dialed port) n s t le l = l
law_grows parts start es e (entries.Sent bytes) n s t le l = l
law_grows parts start es e entries.Failed n s t le l = l
law_grows parts start es e (entries.Clock ms) n s t le l = l

pub law_at : (h : History) (n : ℕ) (e : Entry) (s t u v : Server) → u ≡ s → v ≡ t → LawfulAt h n e s t → LawfulAt h n e u v
law_at h n e s t u v a b l = rw (a, b) l

old_law : (parts : ℕ → Option PartialWrite) (start : View) (es : List Entry) (e d : Entry) (n : ℕ) → n < length es → LawfulAt (told_of parts start es) n d (at_of parts start es n) (at_of parts start es (suc n))
    → LawfulAt (told_of parts start (es ++ e ∷ [])) n d (at_of parts start (es ++ e ∷ []) n) (at_of parts start (es ++ e ∷ []) (suc n))
old_law parts start es e d n lt l =
    law_at (told_of parts start (es ++ e ∷ [])) n d (at_of parts start es n) (at_of parts start es (suc n)) _ _ (earlier parts start es (e ∷ []) n (omega (arith, lt))) (earlier parts start es (e ∷ []) (suc n) (omega (arith, lt)))
    (law_grows parts start es e d n (at_of parts start es n) (at_of parts start es (suc n)) (omega (arith, lt)) l)

last_law : (parts : ℕ → Option PartialWrite) (start : View) (es : List Entry) (e d : Entry) (n : ℕ) → n ≡ length es → e ≡ d → LawfulAt (told_of parts start es) (length es) e (server_of (replayed parts start es)) (server_of (replayed parts start (es ++ e ∷ [])))
    → LawfulAt (told_of parts start (es ++ e ∷ [])) n d (at_of parts start (es ++ e ∷ []) n) (at_of parts start (es ++ e ∷ []) (suc n))
last_law parts start es e d n is same l = rw (is, ← same)
    (law_at (told_of parts start (es ++ e ∷ [])) (length es) e (server_of (replayed parts start es)) (server_of (replayed parts start (es ++ e ∷ []))) _ _
    (earlier parts start es (e ∷ []) (length es) (omega arith) ∙ at_end parts start es (length es) (omega arith))
    (at_end parts start (es ++ e ∷ []) (suc (length es)) (omega (arith, length_last es e)))
    (law_grows parts start es e e (length es) (server_of (replayed parts start es)) (server_of (replayed parts start (es ++ e ∷ []))) (omega arith) l))

pub lawful_more : (parts : ℕ → Option PartialWrite) (start : View) (es : List Entry) (e : Entry) → Lawful (told_of parts start es) → IsServer (server_of (replayed parts start (es ++ e ∷ [])))
    → LawfulAt (told_of parts start es) (length es) e (server_of (replayed parts start es)) (server_of (replayed parts start (es ++ e ∷ []))) → Lawful (told_of parts start (es ++ e ∷ []))
lawful_more parts start es e l server one = record {
  servers = λ n le. elim (cases_lt (length es) n) [
    | inl lt ↦ subst IsServer (sym (at_end parts start (es ++ e ∷ []) n (omega (arith, lt, length_last es e)))) server
    | inr small ↦ subst IsServer (sym (earlier parts start es (e ∷ []) n small)) (l.servers n small)
  ];
  entries = λ n d at. elim (At-cases es e n d at) [
    | inl a ↦ old_law parts start es e d n (At-below es n d a) (l.entries n d a)
    | inr b ↦ last_law parts start es e d n b.0 b.1 one
  ];
}

-- nothing is told
pub lawful_none : (parts : ℕ → Option PartialWrite) (start : View) → IsServer (server_of start) → Lawful (told_of parts start [])
lawful_none parts start server = record { servers = λ n le. subst IsServer (sym (at_end parts start [] n (omega arith))) server; entries = λ n e at. absurd (cc) }
