-- The bytes of a file change only by a WRITE, by a size that is set, and by a restart; and what is stable only by these and
-- by becoming stable (RFC 1813, sections 3.3.2, 3.3.7, 3.3.8, 3.3.21 and 4.8).
use Rattle.std.proofs.Common.{inl, inr, ◌⊎◌, ◌≡◌, ℕ, List, take, Some, refl, sym, ap, subst, ◌∙◌}
use Rattle.nfs_types.specs.declared.verf.Verf.{Verf}
use Rattle.nfs_file_calls.specs.declared.call.FileCall.TheVariants as files
use Rattle.world_model.specs.declared.entry.Entry.{Entry}
use Rattle.world_model.specs.declared.entry.Entry.TheVariants as entries
use Rattle.world_model.specs.declared.message.Call.{Call}
use Rattle.world_model.specs.declared.message.Call.TheVariants as calls
use Rattle.world_model.specs.declared.message.Reply.{Reply}
use Rattle.world_model.specs.Bytes.{put_at, committed_part, resized}
use Rattle.world_model.specs.History.{History}
use Rattle.world_model.specs.Server.{Holds, Bytes, Entries, Object, Server, HasBytes}
use Rattle.world_model.specs.Steps.{Turns}
use Rattle.world_model.specs.FileService.{Puts, HoldsSized}
use Rattle.world_model.specs.NameService.{HoldsMoved}
use Rattle.world_model.specs.Service.{Serves}
use Rattle.world_model.specs.Lawful.{Flushes, IsLeft, same, lost, LawfulAt}
use Rattle.world_model.proofs.Deciding.{same_bytes}
use Rattle.world_model.proofs.Goes.{SetsSize, Goes, left_alone, read_only, written, committed, sized, relisted, moved, unnamed, begun, goes}

-- What a call that is served makes of a file's bytes and of those that are stable.
pub data BytesGo (t : Server) (call : Call) (reply : Reply) (f now stable later steady : List ℕ) : Type 0 where
  kept : later ≡ now → steady ≡ stable → BytesGo t call reply f now stable later steady
  by_write : (offset how : ℕ) (bytes : List ℕ) (count : ℕ) → call ≡ calls.File (files.Write f offset how bytes) → later ≡ put_at offset (take count bytes) now → (steady ≡ stable) ⊎ (steady ≡ put_at offset (take count bytes) stable)
      → BytesGo t call reply f now stable later steady
  by_commit : (offset count : ℕ) → call ≡ calls.File (files.Commit f offset count) → later ≡ now → steady ≡ put_at offset (committed_part offset count now) stable → BytesGo t call reply f now stable later steady
  by_size : (size : ℕ) → SetsSize t call reply f size → later ≡ resized size now → steady ≡ resized size stable → BytesGo t call reply f now stable later steady

-- ---- what two equations on an object say of its bytes

bytes_now : (a b c d : List ℕ) → Bytes a b ≡ Bytes c d → a ≡ c
bytes_now a b c d e = cc

bytes_stable : (a b c d : List ℕ) → Bytes a b ≡ Bytes c d → b ≡ d
bytes_stable a b c d e = cc

some_is : (a b : Object) → Some a ≡ Some b → a ≡ b
some_is a b e = cc

-- two views of the bytes of one file
same_now : (s : Server) (f now stable : List ℕ) (o : Object) (a b : List ℕ) → HasBytes s f now stable → s.object f ≡ Some o → o.holds ≡ Bytes a b → a ≡ now
same_now s f now stable o a b h e held = let same : h.file ≡ o = some_is h.file o (sym h.is ∙ e) in bytes_now a b now stable (sym held ∙ ap (λ (z : Object). z.holds) (sym same) ∙ h.holds)

same_stable : (s : Server) (f now stable : List ℕ) (o : Object) (a b : List ℕ) → HasBytes s f now stable → s.object f ≡ Some o → o.holds ≡ Bytes a b → b ≡ stable
same_stable s f now stable o a b h e held = let same : h.file ≡ o = some_is h.file o (sym h.is ∙ e) in bytes_stable a b now stable (sym held ∙ ap (λ (z : Object). z.holds) (sym same) ∙ h.holds)

-- ---- the cases of a call

holds_kept : (s t : Server) (call : Call) (reply : Reply) (f now stable later steady : List ℕ) (o : Object) → HasBytes s f now stable → HasBytes t f later steady → s.object f ≡ Some o → t.object f ≡ Some o → BytesGo t call reply f now stable later steady
holds_kept s t call reply f now stable later steady o a b e g =
    let held : o.holds ≡ Bytes later steady = ap (λ (z : Object). z.holds) (some_is o b.file (sym g ∙ b.is)) ∙ b.holds in
    kept (same_now s f now stable o later steady a e held) (same_stable s f now stable o later steady a e held)

turned : (s t : Server) (f now stable later steady : List ℕ) (o : Object) (content : Holds) → HasBytes s f now stable → HasBytes t f later steady → Turns s t f o content → (o.holds ≡ Bytes now stable) × (content ≡ Bytes later steady)
turned s t f now stable later steady o content a b w =
    (ap (λ (z : Object). z.holds) (some_is o a.file (sym w.has.is ∙ a.is)) ∙ a.holds, sym w.becomes.holds ∙ ap (λ (z : Object). z.holds) (some_is w.new b.file (sym w.is ∙ b.is)) ∙ b.holds)

turns_kept : (s t : Server) (call : Call) (reply : Reply) (f now stable later steady : List ℕ) (o : Object) (content : Holds) → HasBytes s f now stable → HasBytes t f later steady → Turns s t f o content → content ≡ o.holds → BytesGo t call reply f now stable later steady
turns_kept s t call reply f now stable later steady o content a b w e =
    let p = turned s t f now stable later steady o content a b w in
    let q : Bytes later steady ≡ Bytes now stable = sym p.1 ∙ e ∙ p.0 in
    kept (bytes_now later steady now stable q) (bytes_stable later steady now stable q)

puts_by : (s t : Server) (f now stable later steady a b c d : List ℕ) → HasBytes s f now stable → HasBytes t f later steady → Puts s t f a b c d → (a ≡ now) × (b ≡ stable) × (later ≡ c) × (steady ≡ d)
puts_by s t f now stable later steady a b c d x y p =
    let q = turned s t f now stable later steady p.file (Bytes c d) x y p.turns in
    let old : Bytes a b ≡ Bytes now stable = sym p.held ∙ q.0 in
    (bytes_now a b now stable old, bytes_stable a b now stable old, sym (bytes_now c d later steady q.1), sym (bytes_stable c d later steady q.1))

-- what holds bytes moves as it is
moved_bytes : (now stable : List ℕ) (old content : Holds) → old ≡ Bytes now stable → HoldsMoved old content → content ≡ old
moved_bytes now stable old content e m = let r : content ≡ Bytes now stable = subst (λ (z : Holds). HoldsMoved z content) e m in r ∙ sym e

sized_bytes : (size : ℕ) (now stable : List ℕ) (old content : Holds) → old ≡ Bytes now stable → HoldsSized (Some size) old content → content ≡ Bytes (resized size now) (resized size stable)
sized_bytes size now stable old content e h = subst (λ (z : Holds). HoldsSized (Some size) z content) e h

bytes_by : (s t : Server) (call : Call) (reply : Reply) (f now stable later steady : List ℕ) → HasBytes s f now stable → HasBytes t f later steady → Goes s call reply t f → BytesGo t call reply f now stable later steady
bytes_by s t call reply f now stable later steady a b (left_alone q) = holds_kept s t call reply f now stable later steady a.file a b a.is (q ∙ a.is)
bytes_by s t call reply f now stable later steady a b (read_only r) = turns_kept s t call reply f now stable later steady r.object r.object.holds a b r.turns refl
bytes_by s t call reply f now stable later steady a b (written offset how bytes count old firm new is p k) =
    let q = puts_by s t f now stable later steady old firm (put_at offset (take count bytes) old) new a b p in
    by_write offset how bytes count is (q.2 ∙ ap (put_at offset (take count bytes)) q.0) (elim k [ inl e ↦ inl (q.3 ∙ e ∙ q.1) | inr e ↦ inr (q.3 ∙ e ∙ ap (put_at offset (take count bytes)) q.1) ])
bytes_by s t call reply f now stable later steady a b (committed offset count old firm is p) =
    let q = puts_by s t f now stable later steady old firm old (put_at offset (committed_part offset count old) firm) a b p in
    by_commit offset count is (q.2 ∙ q.0) (q.3 ∙ ap (λ (z : List ℕ). put_at offset (committed_part offset count z) firm) q.0 ∙ ap (put_at offset (committed_part offset count now)) q.1)
bytes_by s t call reply f now stable later steady a b (sized size o content is held w) =
    let q = turned s t f now stable later steady o content a b w in
    let r : Bytes later steady ≡ Bytes (resized size now) (resized size stable) = sym q.1 ∙ sized_bytes size now stable o.holds content q.0 held in
    by_size size is (bytes_now later steady (resized size now) (resized size stable) r) (bytes_stable later steady (resized size now) (resized size stable) r)
bytes_by s t call reply f now stable later steady a b (relisted old new r) = let q = turned s t f now stable later steady r.dir (Entries new) a b r.turns in absurd (cc q.1)
bytes_by s t call reply f now stable later steady a b (moved o content m w) =
    let q = turned s t f now stable later steady o content a b w in
    turns_kept s t call reply f now stable later steady o content a b w (moved_bytes now stable o.holds content q.0 m)
bytes_by s t call reply f now stable later steady a b (unnamed l) =
    let old : l.old.holds ≡ Bytes now stable = ap (λ (z : Object). z.holds) (some_is l.old a.file (sym l.was ∙ a.is)) ∙ a.holds in
    let new : l.new.holds ≡ Bytes later steady = ap (λ (z : Object). z.holds) (some_is l.new b.file (sym l.is ∙ b.is)) ∙ b.holds in
    let q : Bytes later steady ≡ Bytes now stable = sym new ∙ l.holds ∙ old in
    kept (bytes_now later steady now stable q) (bytes_stable later steady now stable q)
bytes_by s t call reply f now stable later steady a b (begun kind holds n) = absurd (cc (sym n.never ∙ a.is))

pub bytes_go : (s t : Server) (call : Call) (reply : Reply) (f now stable later steady : List ℕ) → Serves s call reply t → HasBytes s f now stable → HasBytes t f later steady → BytesGo t call reply f now stable later steady
bytes_go s t call reply f now stable later steady v a b = bytes_by s t call reply f now stable later steady a b (goes s t call reply f v)

-- ---- over any entry

-- What an entry makes of a file's bytes: nothing; what a call does, this client's or another's; a part of them becomes
-- stable; or a restart leaves the stable ones.
pub data BytesStep (t : Server) (e : Entry) (f now stable later steady : List ℕ) : Type 0 where
  unchanged : later ≡ now → steady ≡ stable → BytesStep t e f now stable later steady
  executed : (xid : ℕ) (call : Call) (reply : Reply) → e ≡ entries.Executed xid call reply → BytesGo t call reply f now stable later steady → BytesStep t e f now stable later steady
  foreign : (call : Call) (reply : Reply) → e ≡ entries.Foreign call reply → BytesGo t call reply f now stable later steady → BytesStep t e f now stable later steady
  flushed : (start count : ℕ) → e ≡ entries.Flushed f start count → later ≡ now → steady ≡ put_at start (committed_part start count now) stable → BytesStep t e f now stable later steady
  restarted : (verf : Verf) → e ≡ entries.Reboot verf → later ≡ stable → steady ≡ stable → BytesStep t e f now stable later steady

still : (s t : Server) (e : Entry) (f now stable later steady : List ℕ) → t.object f ≡ s.object f → HasBytes s f now stable → HasBytes t f later steady → BytesStep t e f now stable later steady
still s t e f now stable later steady q a b =
    let same : a.file ≡ b.file = some_is a.file b.file (sym (q ∙ a.is) ∙ b.is) in
    let held : Bytes later steady ≡ Bytes now stable = sym b.holds ∙ ap (λ (z : Object). z.holds) (sym same) ∙ a.holds in
    unchanged (bytes_now later steady now stable held) (bytes_stable later steady now stable held)

flush_step : (s t : Server) (g : List ℕ) (start count : ℕ) (f now stable later steady : List ℕ) → Flushes s t g start count → HasBytes s f now stable → HasBytes t f later steady → BytesStep t (entries.Flushed g start count) f now stable later steady
flush_step s t g start count f now stable later steady w a b =
    elim (same_bytes f g) [
      | inl q ↦
          let old : Bytes w.now w.stable ≡ Bytes now stable = sym w.held ∙ ap (λ (z : Object). z.holds) (some_is w.file a.file (sym w.has.is ∙ ap s.object (sym q) ∙ a.is)) ∙ a.holds in
          let new : Bytes later steady ≡ Bytes w.now (put_at start (committed_part start count w.now) w.stable) = sym b.holds ∙ ap (λ (z : Object). z.holds) (some_is b.file _ (sym b.is ∙ ap t.object q ∙ w.is)) in
          let n : w.now ≡ now = bytes_now w.now w.stable now stable old in
          let m : w.stable ≡ stable = bytes_stable w.now w.stable now stable old in
          flushed start count (ap (λ (z : List ℕ). entries.Flushed z start count) (sym q)) (bytes_now later steady w.now (put_at start (committed_part start count w.now) w.stable) new ∙ n)
          (bytes_stable later steady w.now (put_at start (committed_part start count w.now) w.stable) new ∙ ap (λ (z : List ℕ). put_at start (committed_part start count z) w.stable) n ∙ ap (put_at start (committed_part start count now)) m)
      | inr d ↦ still s t _ f now stable later steady (w.only.others f d) a b
    ]

restart_step : (s t : Server) (verf : Verf) (f now stable later steady : List ℕ) → IsLeft (s.object f) (t.object f) → HasBytes s f now stable → HasBytes t f later steady → BytesStep t (entries.Reboot verf) f now stable later steady
restart_step s t verf f now stable later steady (same q) a b = still s t _ f now stable later steady q a b
restart_step s t verf f now stable later steady (lost o p old firm x y held other w) a b =
    let before : Bytes old firm ≡ Bytes now stable = sym held ∙ ap (λ (z : Object). z.holds) (some_is o a.file (sym x ∙ a.is)) ∙ a.holds in
    let after : Bytes later steady ≡ Bytes firm firm = sym b.holds ∙ ap (λ (z : Object). z.holds) (some_is b.file p (sym b.is ∙ y)) ∙ w.holds in
    let m : firm ≡ stable = bytes_stable old firm now stable before in
    restarted verf refl (bytes_now later steady firm firm after ∙ m) (bytes_stable later steady firm firm after ∙ m)

pub bytes_step : (t : History) (n : ℕ) (e : Entry) (a b : Server) (f now stable later steady : List ℕ) → LawfulAt t n e a b → HasBytes a f now stable → HasBytes b f later steady → BytesStep b e f now stable later steady
bytes_step t n (entries.Executed xid call reply) a b f now stable later steady l x y = executed xid call reply refl (bytes_go a b call reply f now stable later steady l.1 x y)
bytes_step t n (entries.Foreign call reply) a b f now stable later steady l x y = foreign call reply refl (bytes_go a b call reply f now stable later steady l x y)
bytes_step t n (entries.Flushed g start count) a b f now stable later steady l x y = flush_step a b g start count f now stable later steady l x y
bytes_step t n (entries.Reboot verf) a b f now stable later steady l x y = restart_step a b verf f now stable later steady (l.left f) x y
bytes_step t n (entries.Delivered bytes) a b f now stable later steady l x y = still a b _ f now stable later steady (l.same.object f) x y
bytes_step t n (entries.Began lane line op) a b f now stable later steady l x y = still a b _ f now stable later steady (l.object f) x y
bytes_step t n (entries.Answered lane line answer) a b f now stable later steady l x y = still a b _ f now stable later steady (l.object f) x y
bytes_step t n (entries.Dialed port) a b f now stable later steady l x y = still a b _ f now stable later steady (l.object f) x y
bytes_step t n (entries.Sent bytes) a b f now stable later steady l x y = still a b _ f now stable later steady (l.object f) x y
bytes_step t n entries.Failed a b f now stable later steady l x y = still a b _ f now stable later steady (l.object f) x y
bytes_step t n (entries.Clock ms) a b f now stable later steady l x y = still a b _ f now stable later steady (l.object f) x y
