-- An object that a step changes has a stamp above all those before (RFC 1813, section 2.6).
use Rattle.std.proofs.Common.{◌≡◌, ◌≢◌, ◌<◌, ◌≤◌, ℕ, zero, suc, List, map, length, Option, Some, sym, ap, subst, ◌∙◌, arith, ⊎_elim, slice_get}
use Rattle.std.proofs.lemmas.Bool.{cases_lt}
use Rattle.nfs_types.specs.declared.wcc.Stamp.{Stamp}
use Rattle.world_model.specs.declared.entry.Entry.{Entry}
use Rattle.world_model.specs.Server.{Listed, Bytes, Entries, Object}
use Rattle.nfs_types.specs.Stamps.{stamp_of}
use Rattle.world_model.specs.Fresh.{Differs, bytes, list, file_stamp, list_stamp, Fresh}
use Rattle.world_model.specs.declared.message.Call.{Call}
use Rattle.export_fs.specs.declared.node.Holds.{Holds}
use Rattle.export_fs.specs.declared.node.Holds.TheVariants.{File, Directory, Link}
use Rattle.export_fs.specs.declared.node.Node.{Node}
use Rattle.export_fs.specs.View.{View}
use Rattle.export_fs.specs.Parts.{last_number, handle_of, second, size_of, bytes_of, rows_of}
use Rattle.export_fs.specs.Executed.{executed}
use Rattle.export_fs.specs.Restart.{after_restart, after_flush}
use Rattle.export_fs.specs.Seen.{server_of, object_of, entry_of, held_of}
use Rattle.export_fs.specs.Stamped.{Stamped, Alike, Goes, GoesAt, Proceeds, Proceeding}
use Rattle.export_fs.specs.Risen.{TakesNew}
use Rattle.export_fs.proofs.ServerOfExport.{seen_by_place, handle_apart}
use Rattle.export_fs.proofs.EachCallProceeds.{stamped_after, executed_proceeds, restart_proceeds, flush_proceeds}

-- ---- what an object holds, as the server shows it

pub held_bytes : (holds : Holds) (now stable : List ℕ) → held_of holds ≡ Bytes now stable → now ≡ bytes_of holds
held_bytes (File content) now stable e = cc
held_bytes (Directory listing) now stable e = absurd (cc)
held_bytes (Link text) now stable e = absurd (cc)

pub held_entries : (holds : Holds) (entries : List Listed) → held_of holds ≡ Entries entries → entries ≡ map entry_of (rows_of holds)
held_entries (File content) entries e = absurd (cc)
held_entries (Directory listing) entries e = cc
held_entries (Link text) entries e = absurd (cc)

-- ---- one step

abbrev stamp_with : ℕ → ℕ → ℕ → Stamp
stamp_with size mtime ctime = record { size = size; mtime = second mtime; ctime = second ctime }

alike_stamp : (place : ℕ) (old new : Node) → Alike old new → stamp_of (object_of place old).attr ≡ stamp_of (object_of place new).attr
alike_stamp place old new a =
    sym (ap (λ (n : ℕ). stamp_with n new.mtime new.ctime) a.size ∙ ap (λ (n : ℕ). stamp_with (size_of old.holds) n new.ctime) a.mtime ∙ ap (stamp_with (size_of old.holds) old.mtime) a.ctime)

alike_same : (place : ℕ) (old new : Node) → Alike old new → Differs (object_of place old) (object_of place new) → ⊥
alike_same place old new a d =
    elim d [
      | bytes now stable later steady o n ne ↦ absurd (ne (held_bytes old.holds now stable o ∙ sym a.bytes ∙ sym (held_bytes new.holds later steady n)))
      | list before after o n ne ↦ absurd (ne (held_entries old.holds before o ∙ ap (map entry_of) (sym a.rows) ∙ sym (held_entries new.holds after n)))
      | file_stamp now stable o ne ↦ absurd (ne (alike_stamp place old new a))
      | list_stamp entries o ne ↦ absurd (ne (alike_stamp place old new a))
    ]

-- an object of the server before a step and after it is at one place
pub record SeenBoth (v w : View) (f : List ℕ) (old new : Object) : Type 0 where
  pub place : ℕ
  pub below : place < last_number
  pub is : f ≡ handle_of place
  pub was : Node
  pub there : slice_get v.nodes place ≡ Some was
  pub before : old ≡ object_of place was
  pub becomes : Node
  pub here : slice_get w.nodes place ≡ Some becomes
  pub after : new ≡ object_of place becomes

pub seen_both : (v w : View) (f : List ℕ) (old new : Object) → (server_of v).object f ≡ Some old → (server_of w).object f ≡ Some new → SeenBoth v w f old new
seen_both v w f old new a b =
    let p = seen_by_place v f old a in
    let q = seen_by_place w f new b in
    let e : q.place ≡ p.place = handle_apart q.place p.place q.below p.below (sym q.is ∙ p.is) in
    record {
      place = p.place;
      below = p.below;
      is = p.is;
      was = p.node;
      there = p.there;
      before = p.object;
      becomes = q.node;
      here = subst (λ (n : ℕ). slice_get w.nodes n ≡ Some q.node) e q.there;
      after = subst (λ (n : ℕ). new ≡ object_of n q.node) e q.object;
    }

pub goes_between : (v w : View) → Proceeds v w → (place : ℕ) (old new : Node) → slice_get v.nodes place ≡ Some old → slice_get w.nodes place ≡ Some new → Goes v.counter w.counter old new
goes_between v w p place old new a b =
    subst (λ (n : Option Node). GoesAt v.counter w.counter n (Some new)) a (subst (GoesAt v.counter w.counter (slice_get v.nodes place)) b (p.objects place))

-- An object that differs has a ctime above the counter before the step.
pub changed_above : (v w : View) → Proceeds v w → TakesNew v w
changed_above v w p f old new a b d =
    let s = seen_both v w f old new a b in
    let e : Differs (object_of s.place s.was) (object_of s.place s.becomes) = subst (λ (o : Object). Differs o (object_of s.place s.becomes)) s.before (subst (Differs old) s.after d) in
    let g = goes_between v w p s.place s.was s.becomes s.there s.here in
    subst (λ (o : Object). v.counter < o.attr.ctime.seconds) (sym s.after)
    (⊎_elim (λ (same : Alike s.was s.becomes). absurd (alike_same s.place s.was s.becomes same e)) (λ (l : v.counter < s.becomes.ctime). l) g.changed)

-- no stamp is above the counter
pub stamp_within : (v : View) → Stamped v → (f : List ℕ) (o : Object) → (server_of v).object f ≡ Some o → o.attr.ctime.seconds ≤ v.counter
stamp_within v s f o e =
    let p = seen_by_place v f o e in
    subst (λ (z : Object). z.attr.ctime.seconds ≤ v.counter) (sym p.object) (s p.place p.node p.there).ctime

pub stamps_apart : (a b : Object) → a.attr.ctime.seconds < b.attr.ctime.seconds → stamp_of a.attr ≢ stamp_of b.attr
stamps_apart a b l e = let f : a.attr.ctime.seconds ≡ b.attr.ctime.seconds = ap (λ (s : Stamp). s.ctime.seconds) e in omega arith

-- what a call changes, and what a restart changes
pub fresh_executed : (v : View) (call : Call) → TakesNew v (executed v call).0
fresh_executed v call = changed_above v (executed v call).0 (executed_proceeds v call)

pub fresh_restart : (v : View) → TakesNew v (after_restart v)
fresh_restart v = changed_above v (after_restart v) (restart_proceeds v)

-- nothing that shows is changed by a flush
pub flush_same : (v : View) (file : List ℕ) (start count : ℕ) → Stamped v → (f : List ℕ) (old new : Object) → (server_of v).object f ≡ Some old → (server_of (after_flush v file start count)).object f ≡ Some new → Differs old new → ⊥
flush_same v file start count s f old new a b d =
    let w = after_flush v file start count in
    let p = flush_proceeds v file start count in
    let l = changed_above v w p f old new a b d in
    let h = stamp_within w (stamped_after v w s p) f new b in
    omega arith

-- ---- many steps

pub stamped_at : (views : ℕ → View) (count : ℕ) → Stamped (views 0) → Proceeding views count → (n : ℕ) → n ≤ count → Stamped (views n)
stamped_at views count s p zero l = s
stamped_at views count s p (suc n) l = stamped_after (views n) (views (suc n)) (stamped_at views count s p n (omega arith)) (p n (omega arith))

-- the counter never falls
pub counter_below : (views : ℕ → View) (count : ℕ) → Proceeding views count → (m n : ℕ) → m ≤ n → n ≤ count → (views m).counter ≤ (views n).counter
counter_below views count p m zero l h =
    let e : 0 ≡ m = omega arith in
    subst (λ (k : ℕ). (views k).counter ≤ (views 0).counter) e (omega arith)
counter_below views count p m (suc n) l h =
    ⊎_elim (λ (a : n < m).
    let e : suc n ≡ m = omega arith in
    subst (λ (k : ℕ). (views k).counter ≤ (views (suc n)).counter) e (omega arith))
    (λ (b : m ≤ n). omega (arith, counter_below views count p m n b (omega arith), (p n (omega arith)).counter))
    (cases_lt n m)

-- Each change of an object gives it a stamp that it never had.
pub fresh : (entries : List Entry) (views : ℕ → View) → Stamped (views 0) → Proceeding views (length entries) → Fresh (record { entries = entries; at = λ n. server_of (views n) })
fresh entries views s p n l f old new a b d m o k c =
    let low = changed_above (views n) (views (suc n)) (p n l) f old new a b d in
    let high = stamp_within (views m) (stamped_at views (length entries) s p m (omega arith)) f o c in
    let between = counter_below views (length entries) p m n k (omega arith) in
    stamps_apart o new (omega (arith, low, high, between))
