-- Calls on files are what a server may do (RFC 1813, sections 3.3.1 to 3.3.7 and 3.3.18 to 3.3.21).
use Rattle.std.proofs.Common.{◌≡◌, ◌+◌, ◌⊎◌, ◌&&◌, ℕ, zero, suc, Bool, true, false, min, List, [], ◌∷◌, length, take, drop, Option, Some, None, refl, sym, ap, subst, ◌∙◌, arith, inl, inr, ⊎_elim, ◌==◌, nat_le, length-take, length-drop, take_all, unwrap_or}
use Rattle.std.specs.Prelude.{is_some}
use Rattle.std.proofs.lemmas.Bool.{cases_eq, leb-true, le-leb}
use Rattle.nfs_types.specs.declared.attr.Attr.{Attr}
use Rattle.nfs_types.specs.declared.set_attr.SetAttr.{SetAttr}
use Rattle.nfs_file_calls.specs.declared.call.FileCall.{FileCall}
use Rattle.nfs_file_calls.specs.declared.call.FileCall.TheVariants as files
use Rattle.world_model.specs.Bytes.{part, put_at}
use Rattle.world_model.specs.Server.{Bytes}
use Rattle.world_model.specs.Steps.{TrueOf}
use Rattle.world_model.specs.FileService.{Puts, HoldsSized, ReadsBytes, steady_after}
use Rattle.world_model.specs.Service.{DoesFile}
use Rattle.export_fs.specs.declared.node.Holds.{Holds}
use Rattle.export_fs.specs.declared.node.Holds.TheVariants.{File, Directory, Link}
use Rattle.export_fs.specs.declared.node.Node.{Node}
use Rattle.export_fs.specs.Held.{Content}
use Rattle.export_fs.specs.View.{View}
use Rattle.export_fs.specs.Parts.{place_of, kind, kind_of, kind_in, attr, bytes_in, bytes_of, object}
use Rattle.export_fs.specs.Refusals.{needs_file, file_refusal}
use Rattle.export_fs.specs.Changes.{with_size, with_set, with_bytes, written, with_stable, committed}
use Rattle.export_fs.specs.After.{next, after_file, after_set_attr}
use Rattle.export_fs.specs.Answer.{file_answer, get_attr_answer}
use Rattle.export_fs.specs.Seen.{server_of, object_of, held_of}
use Rattle.export_fs.specs.Spelled.{IsFileSpelled}
use Rattle.export_fs.proofs.RefusalTable.{FilePasses, file_passes}
use Rattle.export_fs.proofs.ServerOfExport.{Found, found, object_is, attr_is, has_found, true_of, true_wcc, same_server, looks, OneChanged, one_turns, one_only}

-- ---- the object is a file

pub file_by_kind : (holds : Holds) → (kind_of holds == 2) ≡ false → (kind_of holds == 5) ≡ false → (content : Content) × (holds ≡ File content)
file_by_kind (File content) a b = (content, refl)
file_by_kind (Directory listing) a b = absurd (cc)
file_by_kind (Link text) a b = absurd (cc)

pub kind_found : (v : View) (h : List ℕ) (f : Found v h) → kind v.nodes h ≡ kind_of f.node.holds
kind_found v h f = ap kind_in (object_is v h f)

needed : (b c : Bool) → (b && c) ≡ false → b ≡ true → c ≡ false
needed true c e n = e
needed false c e n = absurd (cc)

-- a call that needs a file found one
pub file_found : (v : View) (call : FileCall) (file : List ℕ) (f : Found v file) → FilePasses v call file → needs_file call ≡ true → (content : Content) × (f.node.holds ≡ File content)
file_found v call file f p n =
    let k = kind_found v file f in
    file_by_kind f.node.holds (ap (λ (k : ℕ). k == 2) (sym k) ∙ needed (needs_file call) (kind v.nodes file == 2) p.directory n) (ap (λ (k : ℕ). k == 5) (sym k) ∙ needed (needs_file call) (kind v.nodes file == 5) p.link n)

-- ---- READ

take_again : (n : ℕ) (l : List ℕ) → take n l ≡ take (length (take n l)) l
take_again zero l = refl
take_again (suc n) [] = refl
take_again (suc n) (x ∷ l) = ap (λ (z : List ℕ). x ∷ z) (take_again n l)

none_read : (offset count : ℕ) (now : List ℕ) → length (part offset (min count 65536) now) ≡ 0 → (count ≡ 0) ⊎ (nat_le (length now) (offset + length (part offset (min count 65536) now)) ≡ true)
none_read offset count now e =
    ⊎_elim (λ (z : count ≡ 0). inl z)
    (λ (d : count ≡ 0 → ⊥). inr (le-leb (length now) (offset + length (part offset (min count 65536) now)) (omega (arith, length-take (min count 65536) (drop offset now), length-drop offset now))))
    (cases_eq count 0)

reads : (v : View) (file : List ℕ) (offset count : ℕ) (f : Found v file) (content : Content) → f.node.holds ≡ File content → (shown : Option Attr) → TrueOf (server_of v) file shown
    → ReadsBytes (server_of v) (server_of v) file offset count shown (length (part offset (min count 65536) content.bytes)) (nat_le (length content.bytes) (offset + length (part offset (min count 65536) content.bytes))) (part offset (min count 65536) content.bytes)
reads v file offset count f content is shown t = record {
  now = content.bytes;
  stable = content.stable;
  puts = record { file = object_of f.place f.node; held = ap held_of is; turns = record { has = has_found v file f; new = object_of f.place f.node; is = (has_found v file f).is; becomes = record { holds = ap held_of is; gone = refl; kind = refl; fileid = refl } }; only = (looks v file f).only };
  shows = t;
  is = take_again (min count 65536) (drop offset content.bytes);
  long = refl;
  most = omega (arith, length-take (min count 65536) (drop offset content.bytes));
  end_ = λ e. leb-true (length content.bytes) (offset + length (part offset (min count 65536) content.bytes)) e;
  some = none_read offset count content.bytes;
}

-- ---- SETATTR

pub sized_kind : (size : Option ℕ) (holds : Holds) → kind_of (with_size size holds) ≡ kind_of holds
sized_kind None holds = refl
sized_kind (Some size) (File content) = refl
sized_kind (Some size) (Directory listing) = refl
sized_kind (Some size) (Link text) = refl

pub holds_sized : (size : Option ℕ) (holds : Holds) → (is_some size ≡ true → (content : Content) × (holds ≡ File content)) → HoldsSized size (held_of holds) (held_of (with_size size holds))
holds_sized None holds f = refl
holds_sized (Some size) (File content) f = refl
holds_sized (Some size) (Directory listing) f = let p = f refl in let e = p.1 in absurd (cc)
holds_sized (Some size) (Link text) f = let p = f refl in let e = p.1 in absurd (cc)

set_changed : (v : View) (file : List ℕ) (set : SetAttr) (f : Found v file) → OneChanged v (after_set_attr v (place_of file) set) file f (with_set (next v) set)
set_changed v file set f = record { nodes = refl; reboots = refl; gone = refl; kind = sized_kind set.size f.node.holds }

-- ---- WRITE and COMMIT

pub written_kind : (offset how : ℕ) (bytes : List ℕ) (holds : Holds) → kind_of (with_bytes offset how bytes holds) ≡ kind_of holds
written_kind offset how bytes (File content) = refl
written_kind offset how bytes (Directory listing) = refl
written_kind offset how bytes (Link text) = refl

pub write_changed : (v : View) (file : List ℕ) (offset how : ℕ) (bytes : List ℕ) (f : Found v file) → OneChanged v (after_file v (files.Write file offset how bytes)) file f (written (next v) offset how bytes)
write_changed v file offset how bytes f = record { nodes = refl; reboots = refl; gone = refl; kind = written_kind offset how bytes f.node.holds }

pub stable_kind : (offset count : ℕ) (holds : Holds) → kind_of (with_stable offset count holds) ≡ kind_of holds
stable_kind offset count (File content) = refl
stable_kind offset count (Directory listing) = refl
stable_kind offset count (Link text) = refl

commit_changed : (v : View) (file : List ℕ) (offset count : ℕ) (f : Found v file) → OneChanged v (after_file v (files.Commit file offset count)) file f (committed offset count)
commit_changed v file offset count f = record { nodes = refl; reboots = refl; gone = refl; kind = stable_kind offset count f.node.holds }

-- a file's bytes become those that the change makes of them
pub puts : (v w : View) (h : List ℕ) (f : Found v h) (change : Node → Node) (c : OneChanged v w h f change) (now stable later steady : List ℕ) → held_of f.node.holds ≡ Bytes now stable → held_of (change f.node).holds ≡ Bytes later steady
    → Puts (server_of v) (server_of w) h now stable later steady
puts v w h f change c now stable later steady was is = record {
  file = object_of f.place f.node;
  held = was;
  turns = let t = one_turns v w h f change c in record { has = t.has; new = t.new; is = t.is; becomes = record { holds = t.becomes.holds ∙ is; gone = t.becomes.gone; kind = t.becomes.kind; fileid = t.becomes.fileid } };
  only = one_only v w h f change c;
}

-- ---- each call

pub does_file : (v : View) (call : FileCall) → IsFileSpelled call → file_refusal v call ≡ 0 → DoesFile (server_of v) call (file_answer v (after_file v call) call) (server_of (after_file v call))
does_file v files.Null s e = same_server v
does_file v (files.GetAttr file) s e =
    let p = file_passes v (files.GetAttr file) file e in
    let f = found v file s p.stale in
    let P : Option Attr → Type 0 = λ o. DoesFile (server_of v) (files.GetAttr file) (get_attr_answer o) (server_of v) in
    subst P (sym (attr_is v file f)) (record { looks = looks v file f; shows = (object_of f.place f.node, (has_found v file f).is, refl) })
does_file v (files.SetAttr file set guard) s e =
    let p = file_passes v (files.SetAttr file set guard) file e in
    let f = found v file s p.stale in
    let w = after_file v (files.SetAttr file set guard) in
    let c = set_changed v file set f in (
      record {
        object = object_of f.place f.node;
        later = held_of (with_set (next v) set f.node).holds;
        sized = holds_sized set.size f.node.holds (λ n. file_found v (files.SetAttr file set guard) file f p n);
        turns = one_turns v w file f (with_set (next v) set) c;
        only = one_only v w file f (with_set (next v) set) c;
      },
      true_wcc v w file s,
    )
does_file v (files.Access file bits) s e = let p = file_passes v (files.Access file bits) file e in record { looks = looks v file (found v file s p.stale); shows = true_of v file s }
does_file v (files.Read file offset count) s e =
    let p = file_passes v (files.Read file offset count) file e in
    let f = found v file s p.stale in
    let c = file_found v (files.Read file offset count) file f p refl in
    let b : bytes_in (object v.nodes file) ≡ c.0.bytes = ap bytes_in (object_is v file f) ∙ ap bytes_of c.1 in
    let P : List ℕ → Type 0 = λ z. ReadsBytes (server_of v) (server_of v) file offset count (attr v.nodes file) (length (part offset (min count 65536) z)) (nat_le (length z) (offset + length (part offset (min count 65536) z))) (part offset (min count 65536) z) in
    subst P (sym b) (reads v file offset count f c.0 c.1 (attr v.nodes file) (true_of v file s))
does_file v (files.Write file offset how bytes) s e =
    let p = file_passes v (files.Write file offset how bytes) file e in
    let f = found v file s.0 p.stale in
    let c = file_found v (files.Write file offset how bytes) file f p refl in
    let w = after_file v (files.Write file offset how bytes) in
    let P : List ℕ → Type 0 = λ z. Puts (server_of v) (server_of w) file c.0.bytes c.0.stable (put_at offset z c.0.bytes) (steady_after how offset z c.0.stable) in
    record {
      now = c.0.bytes;
      stable = c.0.stable;
      puts = subst P (sym (take_all (length bytes) bytes (omega arith))) (puts v w file f (written (next v) offset how bytes) (write_changed v file offset how bytes f) c.0.bytes c.0.stable (put_at offset bytes c.0.bytes) (steady_after how offset bytes c.0.stable) (ap held_of c.1) (ap (λ (x : Holds). held_of (with_bytes offset how bytes x)) c.1));
      shows = true_wcc v w file s.0;
      most = omega arith;
      some = λ l. l;
      firm = omega arith;
      known = s.1;
      verifier = refl;
    }
does_file v (files.FsStat file) s e = let p = file_passes v (files.FsStat file) file e in record { looks = looks v file (found v file s p.stale); shows = true_of v file s }
does_file v (files.FsInfo file) s e = let p = file_passes v (files.FsInfo file) file e in record { looks = looks v file (found v file s p.stale); shows = true_of v file s }
does_file v (files.PathConf file) s e = let p = file_passes v (files.PathConf file) file e in record { looks = looks v file (found v file s p.stale); shows = true_of v file s }
does_file v (files.Commit file offset count) s e =
    let p = file_passes v (files.Commit file offset count) file e in
    let f = found v file s p.stale in
    let c = file_found v (files.Commit file offset count) file f p refl in
    let w = after_file v (files.Commit file offset count) in
    record {
      now = c.0.bytes;
      stable = c.0.stable;
      puts = puts v w file f (committed offset count) (commit_changed v file offset count f) c.0.bytes c.0.stable _ _ (ap held_of c.1) (ap (λ (x : Holds). held_of (with_stable offset count x)) c.1);
      shows = true_wcc v w file s;
      verifier = refl;
    }
