-- The tests on one object before and after an entry decide how it turns, and what replies show of it.
use Rattle.std.proofs.Common.{◌≡◌, ◌⊎◌, inl, inr, ◌==◌, ◌≤◌, ◌+◌, ℕ, suc, Bool, true, false, true≢false, List, length, take, map, Option, Some, None, refl, sym, ◌∙◌, ap, subst, arith}
use Rattle.std.specs.Prelude.{Decides, ◌&&◌, ◌||◌, not, nat_le, if◌then◌else◌, ◌<◌, ⊤}
use Rattle.std.specs.Option.{option_map}
use Rattle.std.specs.Str.{bytes_eq}
use Rattle.std.proofs.lemmas.Bool.{cases_lt}
use Rattle.std.proofs.lemmas.List.{take_all}
use Rattle.std.proofs.lemmas.Bool.Decides.{Decides-like, Decides-and, Decides-or, Decides-eqb}
use Rattle.std.proofs.lemmas.Slice.Eq.{bytes_eq-Decides}
use Rattle.nfs_types.specs.declared.attr.Attr.{Attr}
use Rattle.nfs_types.specs.declared.wcc.Stamp.{Stamp}
use Rattle.nfs_types.specs.declared.wcc.Wcc.{Wcc}
use Rattle.nfs_types.specs.Stamps.{stamp_of, same_stamp}
use Rattle.world_model.specs.Server as model
use Rattle.world_model.specs.Bytes.{resized, put_at, part, committed_part}
use Rattle.world_model.specs.Steps.{Turns, Reads, Looks, TrueOf, TrueStamp, TrueWcc}
use Rattle.world_model.specs.FileService.{HoldsSized, steady_after}
use Rattle.trace_data.specs.declared.trace.Contents.{Contents}
use Rattle.trace_data.specs.declared.trace.Contents.TheVariants.{File, Directory, Other}
use Rattle.trace_data.specs.declared.trace.Object.{Object}
use Rattle.trace_data.specs.declared.trace.Trace.{Trace}
use Rattle.trace_data.specs.Histories.{listed_of, holds_of, object_of, server_at}
use Rattle.trace_rules.specs.Decided.{any_below}
use Rattle.trace_rules.specs.Keeping.{same_attr, same_bool, is_file, same_contents}
use Rattle.trace_rules.proofs.Below.{any_below-decides}
use Rattle.trace_rules.proofs.Combining.{always, never, given}
use Rattle.trace_rules.proofs.Naming.{stamp-decides}
use Rattle.trace_rules.proofs.Unchanged.{attr-decides, bool-decides, now-of, stable-of, contents-decides}
use Rattle.trace_steps.specs.RangeTests.{is_put, is_resized, is_part}
use Rattle.trace_steps.specs.MomentTests.{before, after, is_one, only}
use Rattle.trace_steps.specs.TurnTests.{stays, stays_with, turns, reads, looks, is_cut, is_sized, shows_part, is_read, is_steady_after, is_written, is_committed, is_begun, is_broken, is_broken_off, has_attr, has_stamp, shows_attr, showed_attr, showed_stamp, shows_wcc, showed_wcc}
use Rattle.trace_steps.proofs.Testing.{le-decides}
use Rattle.trace_steps.proofs.Sparing.{only-one}

-- ---- an object that is there before and after

-- the object was there; its kind, its number and its names stay
abbrev pub Stays : model.Object → model.Object → Type 0
Stays o p = (((o.gone ≡ false) × (p.gone ≡ o.gone)) × (p.attr.kind ≡ o.attr.kind)) × (p.attr.fileid ≡ o.attr.fileid)

pub not-so : (b : Bool) → Decides (not b) (b ≡ false)
not-so true = never (λ e. true≢false e)
not-so false = always refl

stays-decides : (a b : Object) → Decides (stays a b) (Stays (object_of a) (object_of b))
unfolding stays
stays-decides a b =
    Decides-and (not a.gone && same_bool b.gone a.gone && (b.attr.kind == a.attr.kind)) (b.attr.fileid == a.attr.fileid)
    (Decides-and (not a.gone && same_bool b.gone a.gone) (b.attr.kind == a.attr.kind)
    (Decides-and (not a.gone) (same_bool b.gone a.gone) (not-so a.gone) (bool-decides b.gone a.gone)) (Decides-eqb b.attr.kind a.attr.kind))
    (Decides-eqb b.attr.fileid a.attr.fileid)

-- the object stays, and F holds of what it held and of what it holds
pub record TurnsBy (F : model.Holds → model.Holds → Type 0) (s t : model.Server) (f : List ℕ) : Type 0 where
  pub old : model.Object
  pub new : model.Object
  pub was : s.object f ≡ Some old
  pub is : t.object f ≡ Some new
  pub stays : Stays old new
  pub holds : F old.holds new.holds

pub none : (x : Option Object) (o : model.Object) → x ≡ None → option_map object_of x ≡ Some o → ⊥
none x o e q = clash (sym (ap (option_map object_of) e) ∙ q)
  where
    clash : None ≡ Some o → ⊥
    clash r = cc

pub one : (x : Option Object) (a : Object) (o : model.Object) → x ≡ Some a → option_map object_of x ≡ Some o → object_of a ≡ o
one x a o e q = same (sym (ap (option_map object_of) e) ∙ q)
  where
    same : Some (object_of a) ≡ Some o → object_of a ≡ o
    same r = cc

module _ (test : Contents → Contents → Bool) (F : model.Holds → model.Holds → Type 0) (each : (c d : Contents) → Decides (test c d) (F (holds_of c) (holds_of d))) where
  abbrev Both : model.Object → model.Object → Type 0
  Both o p = Stays o p × F o.holds p.holds

  pub turns-decides : (t : Trace) (n : ℕ) (f : List ℕ) → Decides (turns test t n f) (TurnsBy F (server_at t n) (server_at t (suc n)) f)
  unfolding turns before after
  turns-decides t n f = by (before t n f) (after t n f) refl refl
    where
      by : (x y : Option Object) → before t n f ≡ x → after t n f ≡ y → Decides (stays_with test x y) (TurnsBy F (server_at t n) (server_at t (suc n)) f)
      by None y e d = never (λ w. none (before t n f) w.old e w.was)
      by (Some a) None e d = never (λ w. none (after t n f) w.new d w.is)
      by (Some a) (Some b) e d =
          Decides-like (stays a b && test a.contents b.contents)
          (λ w. record { old = object_of a; new = object_of b; was = ap (option_map object_of) e; is = ap (option_map object_of) d; stays = w.0; holds = w.1 })
          (λ w. subst (λ (z : model.Object). Both z (object_of b)) (sym (one (before t n f) a w.old e w.was)) (subst (λ (z : model.Object). Both w.old z) (sym (one (after t n f) b w.new d w.is)) (w.stays, w.holds)))
          (Decides-and (stays a b) (test a.contents b.contents) (stays-decides a b) (each a.contents b.contents))

-- what an object holds afterwards
pub to-turns : (F : model.Holds → model.Holds → Type 0) (s t : model.Server) (f : List ℕ) (w : TurnsBy F s t f) → Turns s t f w.old w.new.holds
to-turns F s t f w = record {
  has = record { is = w.was; there = w.stays.0.0.0 };
  new = w.new;
  is = w.is;
  becomes = record { holds = refl; gone = w.stays.0.0.1; kind = w.stays.0.1; fileid = w.stays.1 };
}

pub from-turns : (F : model.Holds → model.Holds → Type 0) (s t : model.Server) (f : List ℕ) (o : model.Object) (later : model.Holds) → Turns s t f o later → F o.holds later → TurnsBy F s t f
from-turns F s t f o later w x = record {
  old = o;
  new = w.new;
  was = w.has.is;
  is = w.is;
  stays = (((w.has.there, w.becomes.gone), w.becomes.kind), w.becomes.fileid);
  holds = subst (λ (z : model.Holds). F o.holds z) (sym w.becomes.holds) x;
}

-- it turns into that
pub turned : (s t : model.Server) (f : List ℕ) (o : model.Object) (later other : model.Holds) → later ≡ other → Turns s t f o later → Turns s t f o other
turned s t f o later other e w = subst (λ (z : model.Holds). Turns s t f o z) e w

-- ---- an object that is read

abbrev pub Unchanged : model.Holds → model.Holds → Type 0
Unchanged g h = h ≡ g

pub same-holds : (c d : Contents) → Decides (same_contents c d) (Unchanged (holds_of c) (holds_of d))
same-holds c d = Decides-like (same_contents c d) (λ e. sym e) (λ e. sym e) (contents-decides c d)

pub reads-decides : (t : Trace) (n : ℕ) (f : List ℕ) → Decides (reads t n f) (Reads (server_at t n) (server_at t (suc n)) f)
unfolding reads
reads-decides t n f =
    Decides-like (turns same_contents t n f)
    (λ w. record { object = w.old; turns = turned (server_at t n) (server_at t (suc n)) f w.old w.new.holds w.old.holds w.holds (to-turns Unchanged (server_at t n) (server_at t (suc n)) f w) })
    (λ (r : Reads (server_at t n) (server_at t (suc n)) f). from-turns Unchanged (server_at t n) (server_at t (suc n)) f r.object r.object.holds r.turns refl)
    (turns-decides same_contents Unchanged same-holds t n f)

pub looks-decides : (t : Trace) (n : ℕ) (f : List ℕ) → Decides (looks t n f) (Looks (server_at t n) (server_at t (suc n)) f)
unfolding looks
looks-decides t n f =
    Decides-like (reads t n f && only (is_one f f f) t n)
    (λ w. record { reads = w.0; only = w.1 })
    (λ (l : Looks (server_at t n) (server_at t (suc n)) f). (l.reads, l.only))
    (Decides-and (reads t n f) (only (is_one f f f) t n) (reads-decides t n f) (only-one t n f))

-- ---- what a file holds afterwards

put-decides : (offset : ℕ) (bytes old later : List ℕ) → Decides (is_put offset bytes old later) (later ≡ put_at offset bytes old)
unfolding is_put
put-decides offset bytes old later = bytes_eq-Decides later (put_at offset bytes old)

resized-decides : (size : ℕ) (old later : List ℕ) → Decides (is_resized size old later) (later ≡ resized size old)
unfolding is_resized
resized-decides size old later = bytes_eq-Decides later (resized size old)

part-decides : (offset count : ℕ) (whole bytes : List ℕ) → Decides (is_part offset count whole bytes) (bytes ≡ part offset count whole)
unfolding is_part
part-decides offset count whole bytes = bytes_eq-Decides bytes (part offset count whole)

holds-these : (a b c d : List ℕ) → a ≡ c → b ≡ d → model.Bytes a b ≡ model.Bytes c d
holds-these a b c d p q i = model.Bytes (p i) (q i)

-- a file of these bytes isn't another kind of object
not-list : (now stable : List ℕ) (entries : List model.Listed) → model.Entries entries ≡ model.Bytes now stable → ⊥
not-list now stable entries e = cc

not-text : (now stable text : List ℕ) → model.Text text ≡ model.Bytes now stable → ⊥
not-text now stable text e = cc

cut-decides : (size : ℕ) (c d : Contents) → Decides (is_cut size c d) (HoldsSized (Some size) (holds_of c) (holds_of d))
cut-decides size (File now stable) (File later steady) =
    Decides-like (is_resized size now later && is_resized size stable steady)
    (λ w. holds-these later steady (resized size now) (resized size stable) w.0 w.1)
    (λ e. (now-of later steady (resized size now) (resized size stable) e, stable-of later steady (resized size now) (resized size stable) e))
    (Decides-and (is_resized size now later) (is_resized size stable steady) (resized-decides size now later) (resized-decides size stable steady))
cut-decides size (File now stable) (Directory entries) = never (λ e. not-list (resized size now) (resized size stable) (map listed_of entries.items) e)
cut-decides size (File now stable) (Other text) = never (λ e. not-text (resized size now) (resized size stable) text e)
cut-decides size (Directory entries) d = never (λ e. e)
cut-decides size (Other text) d = never (λ e. e)

pub sized-decides : (size : Option ℕ) (c d : Contents) → Decides (is_sized size c d) (HoldsSized size (holds_of c) (holds_of d))
sized-decides None c d = same-holds c d
sized-decides (Some size) c d = cut-decides size c d

-- these bytes of a file were read, and it stayed as it was
pub record IsRead (offset counted : ℕ) (eof : Bool) (bytes : List ℕ) (g h : model.Holds) : Type 0 where
  pub now : List ℕ
  pub stable : List ℕ
  pub was : g ≡ model.Bytes now stable
  pub is : h ≡ model.Bytes now stable
  pub shown : bytes ≡ part offset counted now
  pub end_ : eof ≡ true → length now ≤ offset + counted

so : (b : Bool) → Decides b (b ≡ true)
so b = (λ e. e, λ e. e)

pub read-decides : (offset counted : ℕ) (eof : Bool) (bytes : List ℕ) (c d : Contents) → Decides (is_read offset counted eof bytes c d) (IsRead offset counted eof bytes (holds_of c) (holds_of d))
read-decides offset counted eof bytes (File now stable) d =
    Decides-like (is_file now stable d && shows_part offset counted eof bytes now)
    (λ w. record { now = now; stable = stable; was = refl; is = sym w.0; shown = w.1.0; end_ = w.1.1 })
    (λ (w : IsRead offset counted eof bytes (holds_of (File now stable)) (holds_of d)).
    let a : now ≡ w.now = now-of now stable w.now w.stable w.was in
    let b : stable ≡ w.stable = stable-of now stable w.now w.stable w.was in
    (holds-these now stable w.now w.stable a b ∙ sym w.is, (w.shown ∙ ap (λ (z : List ℕ). part offset counted z) (sym a), λ e. subst (λ (z : List ℕ). length z ≤ offset + counted) (sym a) (w.end_ e))))
    (Decides-and (is_file now stable d) (shows_part offset counted eof bytes now) (contents-decides (File now stable) d)
    (Decides-and (is_part offset counted now bytes) (not eof || nat_le (length now) (offset + counted)) (part-decides offset counted now bytes)
    (given eof (nat_le (length now) (offset + counted)) (so eof) (le-decides (length now) (offset + counted)))))
read-decides offset counted eof bytes (Directory entries) d = never (λ (w : IsRead offset counted eof bytes (model.Entries (map listed_of entries.items)) (holds_of d)). not-list w.now w.stable (map listed_of entries.items) w.was)
read-decides offset counted eof bytes (Other text) d = never (λ (w : IsRead offset counted eof bytes (model.Text text) (holds_of d)). not-text w.now w.stable text w.was)

steady-decides : (committed offset : ℕ) (bytes stable steady : List ℕ) → Decides (is_steady_after committed offset bytes stable steady) (steady ≡ steady_after committed offset bytes stable)
unfolding is_steady_after
steady-decides committed offset bytes stable steady = by (committed == 0)
  where
    by : (b : Bool) → Decides (if b then bytes_eq steady stable else is_put offset bytes stable steady) (steady ≡ (if b then stable else put_at offset bytes stable))
    by true = bytes_eq-Decides steady stable
    by false = put-decides offset bytes stable steady

-- bytes were put into a file
pub record IsWritten (committed offset : ℕ) (bytes : List ℕ) (g h : model.Holds) : Type 0 where
  pub now : List ℕ
  pub stable : List ℕ
  pub was : g ≡ model.Bytes now stable
  pub is : h ≡ model.Bytes (put_at offset bytes now) (steady_after committed offset bytes stable)

pub written-decides : (committed offset : ℕ) (bytes : List ℕ) (c d : Contents) → Decides (is_written committed offset bytes c d) (IsWritten committed offset bytes (holds_of c) (holds_of d))
written-decides committed offset bytes (File now stable) (File later steady) =
    Decides-like (is_put offset bytes now later && is_steady_after committed offset bytes stable steady)
    (λ w. record { now = now; stable = stable; was = refl; is = holds-these later steady (put_at offset bytes now) (steady_after committed offset bytes stable) w.0 w.1 })
    (λ (w : IsWritten committed offset bytes (model.Bytes now stable) (model.Bytes later steady)).
    let a : now ≡ w.now = now-of now stable w.now w.stable w.was in
    let b : stable ≡ w.stable = stable-of now stable w.now w.stable w.was in (
      now-of later steady (put_at offset bytes w.now) (steady_after committed offset bytes w.stable) w.is ∙ ap (λ (z : List ℕ). put_at offset bytes z) (sym a),
      stable-of later steady (put_at offset bytes w.now) (steady_after committed offset bytes w.stable) w.is ∙ ap (λ (z : List ℕ). steady_after committed offset bytes z) (sym b),
    ))
    (Decides-and (is_put offset bytes now later) (is_steady_after committed offset bytes stable steady) (put-decides offset bytes now later) (steady-decides committed offset bytes stable steady))
written-decides committed offset bytes (File now stable) (Directory entries) = never (λ (w : IsWritten committed offset bytes (model.Bytes now stable) (model.Entries (map listed_of entries.items))). not-list (put_at offset bytes w.now) (steady_after committed offset bytes w.stable) (map listed_of entries.items) w.is)
written-decides committed offset bytes (File now stable) (Other text) = never (λ (w : IsWritten committed offset bytes (model.Bytes now stable) (model.Text text)). not-text (put_at offset bytes w.now) (steady_after committed offset bytes w.stable) text w.is)
written-decides committed offset bytes (Directory entries) d = never (λ (w : IsWritten committed offset bytes (model.Entries (map listed_of entries.items)) (holds_of d)). not-list w.now w.stable (map listed_of entries.items) w.was)
written-decides committed offset bytes (Other text) d = never (λ (w : IsWritten committed offset bytes (model.Text text) (holds_of d)). not-text w.now w.stable text w.was)

-- a range of a file became stable
pub record IsCommitted (offset count : ℕ) (g h : model.Holds) : Type 0 where
  pub now : List ℕ
  pub stable : List ℕ
  pub was : g ≡ model.Bytes now stable
  pub is : h ≡ model.Bytes now (put_at offset (committed_part offset count now) stable)

pub committed-decides : (offset count : ℕ) (c d : Contents) → Decides (is_committed offset count c d) (IsCommitted offset count (holds_of c) (holds_of d))
committed-decides offset count (File now stable) (File later steady) =
    Decides-like (bytes_eq later now && is_put offset (committed_part offset count now) stable steady)
    (λ w. record { now = now; stable = stable; was = refl; is = holds-these later steady now (put_at offset (committed_part offset count now) stable) w.0 w.1 })
    (λ (w : IsCommitted offset count (model.Bytes now stable) (model.Bytes later steady)).
    let a : now ≡ w.now = now-of now stable w.now w.stable w.was in
    let b : stable ≡ w.stable = stable-of now stable w.now w.stable w.was in (
      now-of later steady w.now (put_at offset (committed_part offset count w.now) w.stable) w.is ∙ sym a,
      stable-of later steady w.now (put_at offset (committed_part offset count w.now) w.stable) w.is ∙ ap (λ (z : List ℕ). put_at offset (committed_part offset count z) w.stable) (sym a) ∙ ap (λ (z : List ℕ). put_at offset (committed_part offset count now) z) (sym b),
    ))
    (Decides-and (bytes_eq later now) (is_put offset (committed_part offset count now) stable steady) (bytes_eq-Decides later now) (put-decides offset (committed_part offset count now) stable steady))
committed-decides offset count (File now stable) (Directory entries) = never (λ (w : IsCommitted offset count (model.Bytes now stable) (model.Entries (map listed_of entries.items))). not-list w.now (put_at offset (committed_part offset count w.now) w.stable) (map listed_of entries.items) w.is)
committed-decides offset count (File now stable) (Other text) = never (λ (w : IsCommitted offset count (model.Bytes now stable) (model.Text text)). not-text w.now (put_at offset (committed_part offset count w.now) w.stable) text w.is)
committed-decides offset count (Directory entries) d = never (λ (w : IsCommitted offset count (model.Entries (map listed_of entries.items)) (holds_of d)). not-list w.now w.stable (map listed_of entries.items) w.was)
committed-decides offset count (Other text) d = never (λ (w : IsCommitted offset count (model.Text text) (holds_of d)). not-text w.now w.stable text w.was)

-- so many of the bytes were put into a file, and perhaps they became stable
abbrev pub Begun : ℕ → List ℕ → List ℕ → List ℕ → List ℕ → List ℕ → ℕ → Type 0
Begun offset bytes now stable later steady count = (later ≡ put_at offset (take count bytes) now) × ((steady ≡ stable) ⊎ (steady ≡ put_at offset (take count bytes) stable))

begun-decides : (offset : ℕ) (bytes now stable later steady : List ℕ) (count : ℕ) → Decides (is_begun offset bytes now stable later steady count) (Begun offset bytes now stable later steady count)
unfolding is_begun
begun-decides offset bytes now stable later steady count =
    Decides-and (is_put offset (take count bytes) now later) (bytes_eq steady stable || is_put offset (take count bytes) stable steady) (put-decides offset (take count bytes) now later)
    (Decides-or (bytes_eq steady stable) (is_put offset (take count bytes) stable steady) (bytes_eq-Decides steady stable) (put-decides offset (take count bytes) stable steady))

broken-decides : (offset : ℕ) (bytes now stable later steady : List ℕ) → Decides (is_broken offset bytes now stable later steady) ((count : ℕ) × Begun offset bytes now stable later steady count)
unfolding is_broken
broken-decides offset bytes now stable later steady =
    Decides-like (any_below (λ count. is_begun offset bytes now stable later steady count) (suc (length bytes)))
    (λ w. (w.0, w.2))
    (λ w. least w.0 w.1)
    (any_below-decides (λ count. is_begun offset bytes now stable later steady count) (λ count. Begun offset bytes now stable later steady count) (λ count. begun-decides offset bytes now stable later steady count) (suc (length bytes)))
  where
    least : (count : ℕ) → Begun offset bytes now stable later steady count → (k : ℕ) × (k < suc (length bytes)) × Begun offset bytes now stable later steady k
    least count b = elim (cases_lt count (length bytes)) [
      | inl lt ↦ (count, omega (arith, lt), b)
      | inr le ↦ (
        length bytes,
        omega arith,
        subst (λ (z : List ℕ). (later ≡ put_at offset z now) × ((steady ≡ stable) ⊎ (steady ≡ put_at offset z stable))) (take_all count bytes le ∙ sym (take_all (length bytes) bytes (omega arith))) b,
      )
    ]

-- a prefix of the bytes was put into a file
pub record IsBrokenOff (offset : ℕ) (bytes : List ℕ) (g h : model.Holds) : Type 0 where
  pub now : List ℕ
  pub stable : List ℕ
  pub later : List ℕ
  pub steady : List ℕ
  pub count : ℕ
  pub was : g ≡ model.Bytes now stable
  pub is : h ≡ model.Bytes later steady
  pub begun : Begun offset bytes now stable later steady count

pub broken-off-decides : (offset : ℕ) (bytes : List ℕ) (c d : Contents) → Decides (is_broken_off offset bytes c d) (IsBrokenOff offset bytes (holds_of c) (holds_of d))
broken-off-decides offset bytes (File now stable) (File later steady) =
    Decides-like (is_broken offset bytes now stable later steady)
    (λ w. record { now = now; stable = stable; later = later; steady = steady; count = w.0; was = refl; is = refl; begun = w.1 })
    (λ (w : IsBrokenOff offset bytes (model.Bytes now stable) (model.Bytes later steady)). (w.count, back w))
    (broken-decides offset bytes now stable later steady)
  where
    four : (n s l d n' s' l' d' : List ℕ) → n ≡ n' → s ≡ s' → l ≡ l' → d ≡ d' → (count : ℕ) → Begun offset bytes n' s' l' d' count → Begun offset bytes n s l d count
    four n s l d n' s' l' d' p q r e count b =
        subst (λ (z : List ℕ). Begun offset bytes z s l d count) (sym p)
        (subst (λ (z : List ℕ). Begun offset bytes n' z l d count) (sym q)
        (subst (λ (z : List ℕ). Begun offset bytes n' s' z d count) (sym r)
        (subst (λ (z : List ℕ). Begun offset bytes n' s' l' z count) (sym e) b)))

    back : (w : IsBrokenOff offset bytes (model.Bytes now stable) (model.Bytes later steady)) → Begun offset bytes now stable later steady w.count
    back w = four now stable later steady w.now w.stable w.later w.steady (now-of now stable w.now w.stable w.was) (stable-of now stable w.now w.stable w.was) (now-of later steady w.later w.steady w.is) (stable-of later steady w.later w.steady w.is) w.count w.begun
broken-off-decides offset bytes (File now stable) (Directory entries) = never (λ (w : IsBrokenOff offset bytes (model.Bytes now stable) (model.Entries (map listed_of entries.items))). not-list w.later w.steady (map listed_of entries.items) w.is)
broken-off-decides offset bytes (File now stable) (Other text) = never (λ (w : IsBrokenOff offset bytes (model.Bytes now stable) (model.Text text)). not-text w.later w.steady text w.is)
broken-off-decides offset bytes (Directory entries) d = never (λ (w : IsBrokenOff offset bytes (model.Entries (map listed_of entries.items)) (holds_of d)). not-list w.now w.stable (map listed_of entries.items) w.was)
broken-off-decides offset bytes (Other text) d = never (λ (w : IsBrokenOff offset bytes (model.Text text) (holds_of d)). not-text w.now w.stable text w.was)

-- ---- what replies show

-- there is an object, with those attributes
abbrev pub AttrOf : Option model.Object → Option Attr → Type 0
AttrOf x None = ⊤
AttrOf x (Some attr) = (o : model.Object) × (x ≡ Some o) × (o.attr ≡ attr)

abbrev pub StampOf : Option model.Object → Option Stamp → Type 0
StampOf x None = ⊤
StampOf x (Some stamp) = (o : model.Object) × (x ≡ Some o) × (stamp_of o.attr ≡ stamp)

some : (a b : model.Object) → Some a ≡ Some b → a ≡ b
some a b e = cc

attr-of : (x : Option Object) (attr : Option Attr) → Decides (has_attr x attr) (AttrOf (option_map object_of x) attr)
attr-of x None = always tt
attr-of None (Some attr) = never (λ w. let e : None ≡ Some w.0 = w.1 in absurd (cc))
attr-of (Some a) (Some attr) = Decides-like (same_attr a.attr attr) (λ e. (object_of a, refl, e)) (λ w. ap (λ (z : model.Object). z.attr) (some (object_of a) w.0 w.1) ∙ w.2) (attr-decides a.attr attr)

stamp-of : (x : Option Object) (stamp : Option Stamp) → Decides (has_stamp x stamp) (StampOf (option_map object_of x) stamp)
stamp-of x None = always tt
stamp-of None (Some stamp) = never (λ w. let e : None ≡ Some w.0 = w.1 in absurd (cc))
stamp-of (Some a) (Some stamp) = Decides-like (same_stamp (stamp_of a.attr) stamp) (λ e. (object_of a, refl, e)) (λ w. ap (λ (z : model.Object). stamp_of z.attr) (some (object_of a) w.0 w.1) ∙ w.2) (stamp-decides (stamp_of a.attr) stamp)

pub shows-decides : (t : Trace) (n : ℕ) (f : List ℕ) (attr : Option Attr) → Decides (shows_attr t n f attr) (TrueOf (server_at t (suc n)) f attr)
unfolding shows_attr after
shows-decides t n f None = always tt
shows-decides t n f (Some attr) = attr-of (after t n f) (Some attr)

pub showed-decides : (t : Trace) (n : ℕ) (f : List ℕ) (attr : Option Attr) → Decides (showed_attr t n f attr) (TrueOf (server_at t n) f attr)
unfolding showed_attr before
showed-decides t n f None = always tt
showed-decides t n f (Some attr) = attr-of (before t n f) (Some attr)

stamp-showed : (t : Trace) (n : ℕ) (f : List ℕ) (stamp : Option Stamp) → Decides (showed_stamp t n f stamp) (TrueStamp (server_at t n) f stamp)
unfolding showed_stamp before
stamp-showed t n f None = always tt
stamp-showed t n f (Some stamp) = stamp-of (before t n f) (Some stamp)

pub wcc-decides : (t : Trace) (n : ℕ) (f : List ℕ) (wcc : Wcc) → Decides (shows_wcc t n f wcc) (TrueWcc (server_at t n) (server_at t (suc n)) f wcc)
unfolding shows_wcc
wcc-decides t n f wcc =
    Decides-like (showed_stamp t n f wcc.before && shows_attr t n f wcc.after)
    (λ w. record { before = w.0; after = w.1 })
    (λ (w : TrueWcc (server_at t n) (server_at t (suc n)) f wcc). (w.before, w.after))
    (Decides-and (showed_stamp t n f wcc.before) (shows_attr t n f wcc.after) (stamp-showed t n f wcc.before) (shows-decides t n f wcc.after))

pub wcc-before : (t : Trace) (n : ℕ) (f : List ℕ) (wcc : Wcc) → Decides (showed_wcc t n f wcc) (TrueWcc (server_at t n) (server_at t n) f wcc)
unfolding showed_wcc
wcc-before t n f wcc =
    Decides-like (showed_stamp t n f wcc.before && showed_attr t n f wcc.after)
    (λ w. record { before = w.0; after = w.1 })
    (λ (w : TrueWcc (server_at t n) (server_at t n) f wcc). (w.before, w.after))
    (Decides-and (showed_stamp t n f wcc.before) (showed_attr t n f wcc.after) (stamp-showed t n f wcc.before) (showed-decides t n f wcc.after))
