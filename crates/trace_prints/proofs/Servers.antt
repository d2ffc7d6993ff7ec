-- Each line on the server is read back as what it says.
use Rattle.std.proofs.Common.{◌≡◌, ◌≢◌, ◌<◌, ◌≤◌, ◌^◌, ◌==◌, ℕ, List, [], ◌∷◌, length, Bool, true, false, Option, Some, None, refl, ap, ◌∙◌, arith}
use Rattle.std.specs.Prelude.{codes, decimal, if◌then◌else◌}
use Rattle.std.proofs.lemmas.Bool.{eqb-false, le-leb, ne_eqb}
use Rattle.nfs_types.specs.declared.attr.Attr.{Attr}
use Rattle.nfs_types.specs.declared.verf.Verf.{Verf}
use Rattle.nfs_types.specs.Fields.{attr_bytes}
use Rattle.nfs_types.proofs.Names.{test_of_name}
use Rattle.script_text.specs.Lines.{is_skipped}
use Rattle.trace_data.specs.declared.trace.Contents.{Contents}
use Rattle.trace_data.specs.declared.trace.DirEntry.{DirEntry}
use Rattle.trace_data.specs.declared.trace.Updated.{Updated}
use Rattle.trace_data.specs.Histories.{listed_of}
use Rattle.world_model.specs.Server.{Bytes, Entries, Listed, Object, Text}
use Rattle.trace_text.specs.HeadLines.{lives_line, noac_line, nocto_line, root_line}
use Rattle.trace_text.specs.ObjectLines.{gone_line, name_line, obj_line, unname_line, verf_line}
use Rattle.trace_text.specs.Objects.{directory_of, file_of, gone_of, holds_of, list_of, listing, or_empty, other_of, with_list, with_object, with_verf, without}
use Rattle.trace_text.specs.Reading.{line_by}
use Rattle.trace_text.specs.Texts.{contents_words, hex_word, line_of}
use Rattle.trace_text.specs.Texts.{obj_line as obj_text}
use Rattle.trace_text.specs.Told.{Told, begun, changed, object_now, with_lives, with_noac, with_nocto, with_root}
use Rattle.trace_text.specs.Words.{name_of}
use Rattle.trace_prints.specs.HasText.{IsAttr, IsHandleWord, IsHeld, IsListed, IsListedName, IsUpdated, IsVerf}
use Rattle.trace_prints.specs.HasText as has
use Rattle.trace_prints.specs.Rounds.{IsDirectory, Reads, said_object, said_of}
use Rattle.trace_prints.proofs.Lined.{IsWord, AreWords}
use Rattle.trace_prints.proofs.Marks.{attr-back, attr-plain, verf-back}
use Rattle.trace_prints.proofs.Ops.{is_word, word-so}
use Rattle.trace_prints.proofs.ByLine.{reads-line}
use Rattle.trace_prints.proofs.Spelt.{decimal-word, handle-back, hex-back, hex-is-word, long-back}

-- a line of a word and a few words
says : (told new : Told) (word : List ℕ) (words : List (List ℕ)) → is_word word ≡ true → is_skipped word ≡ false → AreWords words → line_by told word words ≡ Some new
    → Reads told (line_of word words) (begun new)
says told new word words w e ws so = reads-line told new word words (word-so word w) e ws so

-- ---- how the session was asked for

pub reads-root : (told : Told) (root : List ℕ) → IsHandleWord root → told.begun ≡ false → Reads told (line_of (codes "root") (hex_word root ∷ [])) (begun (with_root root told))
unfolding root_line
reads-root told root h first = says told (with_root root told) (codes "root") (hex_word root ∷ []) refl refl (hex-is-word root h.bytes, tt) (rw (handle-back root h.bytes h.few, first) refl)

pub reads-lives : (told : Told) (lives : ℕ) → lives < 2 ^ 64 → told.lives ≡ None → told.history.entries ≡ [] → Reads told (line_of (codes "lives") (decimal lives ∷ [])) (begun (with_lives lives told))
unfolding lives_line
reads-lives told lives lt none early = says told (with_lives lives told) (codes "lives") (decimal lives ∷ []) refl refl (decimal-word lives lt, tt) (rw (long-back lives lt, none, early) refl)

pub reads-noac : (told : Told) → told.noac ≡ false → told.history.entries ≡ [] → Reads told (codes "noac\n") (begun (with_noac told))
unfolding noac_line
reads-noac told none early = says told (with_noac told) (codes "noac") [] refl refl tt (rw (none, early) refl)

pub reads-nocto : (told : Told) → told.nocto ≡ false → told.history.entries ≡ [] → Reads told (codes "nocto\n") (begun (with_nocto told))
unfolding nocto_line
reads-nocto told none early = says told (with_nocto told) (codes "nocto") [] refl refl tt (rw (none, early) refl)

-- ---- the write verifier

pub reads-verf : (told : Told) (verf : Verf) → IsVerf verf → Reads told (line_of (codes "verf") (hex_word verf.0 ∷ [])) (begun (changed (with_verf verf) told))
unfolding verf_line
reads-verf told verf v = says told (changed (with_verf verf) told) (codes "verf") (hex_word verf.0 ∷ []) refl refl (hex-is-word verf.0 v.bytes, tt) (rw (verf-back verf v) refl)

-- ---- objects

dash : IsWord (codes "-")
dash = word-so (codes "-") refl

held-words : (attr : Attr) (contents : Contents) → IsHeld attr contents → AreWords (contents_words contents)
held-words attr contents (has.holds_file now stable k s le b c) = (hex-is-word now b, (hex-is-word stable c, tt))
held-words attr contents (has.holds_directory list k) = (dash, (dash, tt))
held-words attr contents (has.holds_other shown n m b) = (hex-is-word shown b, (dash, tt))

eq-self : (n : ℕ) → (n == n) ≡ true
eq-self n = by (n == n) refl
  where
    by : (t : Bool) → (n == n) ≡ t → t ≡ true
    by true e = refl
    by false e = absurd (eqb-false n n e refl)

file-so : (attr : Attr) (now stable : List ℕ) (was : Option Object) → attr.kind ≡ 1 → attr.size ≡ length now → length stable ≤ length now
    → holds_of attr now stable was ≡ Some (Bytes now stable)
file-so attr now stable was k s le =
    ap (λ (n : ℕ). if n == 1 then file_of attr.size now stable else (if n == 2 then directory_of now stable was else other_of now stable)) k
    ∙ ap (λ (n : ℕ). file_of n now stable) s ∙ rw (eq-self (length now), le-leb (length stable) (length now) le) refl

directory-so : (attr : Attr) (was : Option Object) → attr.kind ≡ 2 → holds_of attr [] [] was ≡ Some (Entries (or_empty (list_of was)))
directory-so attr was k = ap (λ (n : ℕ). if n == 1 then file_of attr.size [] [] else (if n == 2 then directory_of [] [] was else other_of [] [])) k

other-so : (attr : Attr) (text : List ℕ) (was : Option Object) → attr.kind ≢ 1 → attr.kind ≢ 2 → holds_of attr text [] was ≡ Some (Text text)
other-so attr text was n m = rw (ne_eqb attr.kind 1 n, ne_eqb attr.kind 2 m) refl

obj-told : (told : Told) (h : List ℕ) (attr : Attr) (contents : Contents) → IsHandleWord h → IsAttr attr → IsHeld attr contents
    → obj_line told (hex_word h ∷ hex_word (attr_bytes attr) ∷ contents_words contents)
    ≡ Some (changed (with_object h (record { attr = attr; gone = gone_of (object_now told h); holds = said_of contents (object_now told h) })) told)
unfolding obj_line
obj-told told h attr contents w a (has.holds_file now stable k s le b c) =
    rw (handle-back h w.bytes w.few, attr-back attr a, hex-back now b, hex-back stable c, file-so attr now stable (object_now told h) k s le) refl
obj-told told h attr contents w a (has.holds_directory list k) = rw (handle-back h w.bytes w.few, attr-back attr a, directory-so attr (object_now told h) k) refl
obj-told told h attr contents w a (has.holds_other shown n m b) =
    rw (handle-back h w.bytes w.few, attr-back attr a, hex-back shown b, other-so attr shown (object_now told h) n m) refl

pub reads-obj : (told : Told) (updated : Updated) → IsUpdated updated
    → Reads told (obj_text updated) (begun (changed (with_object updated.handle (said_object updated (object_now told updated.handle))) told))
reads-obj told updated u =
    says told (changed (with_object updated.handle (said_object updated (object_now told updated.handle))) told) (codes "obj")
    (hex_word updated.handle ∷ hex_word (attr_bytes updated.object.attr) ∷ contents_words updated.object.contents) refl refl
    (hex-is-word updated.handle u.handle.bytes, (hex-is-word (attr_bytes updated.object.attr) (attr-plain updated.object.attr), held-words updated.object.attr updated.object.contents u.held))
    (obj-told told updated.handle updated.object.attr updated.object.contents u.handle u.attr u.held)

-- an object's last name was removed
pub reads-gone : (told : Told) (handle : List ℕ) (object : Object) → IsHandleWord handle → object_now told handle ≡ Some object
    → Reads told (line_of (codes "gone") (hex_word handle ∷ [])) (begun (changed (with_object handle (record { attr = object.attr; gone = true; holds = object.holds })) told))
unfolding gone_line
reads-gone told handle object h is =
    says told (changed (with_object handle (record { attr = object.attr; gone = true; holds = object.holds })) told) (codes "gone") (hex_word handle ∷ []) refl refl (hex-is-word handle h.bytes, tt)
    (rw (handle-back handle h.bytes h.few, is) refl)

-- ---- names

name-back : (name : List ℕ) → IsListedName name → name_of (hex_word name) ≡ Some name
name-back name n = rw (hex-back name n.bytes, le-leb (length name) 255 n.is.bound, test_of_name name n.is) refl

cookie-some : (cookie : ℕ) → 1 ≤ cookie → (cookie == 0) ≡ false
cookie-some cookie least = ne_eqb cookie 0 (λ e. omega (arith, e, least))

-- an entry of a directory
pub reads-name : (told : Told) (dir : List ℕ) (object : Object) (list : List Listed) (entry : DirEntry) → IsHandleWord dir → IsListed entry → IsDirectory told dir object list
    → Reads told (line_of (codes "name") (hex_word dir ∷ hex_word entry.name ∷ hex_word entry.object ∷ decimal entry.cookie ∷ []))
    (begun (changed (with_object dir (with_list object (listing (listed_of entry) list))) told))
unfolding name_line
reads-name told dir object list entry h e d =
    says told (changed (with_object dir (with_list object (listing (listed_of entry) list))) told) (codes "name") (hex_word dir ∷ hex_word entry.name ∷ hex_word entry.object ∷ decimal entry.cookie ∷ []) refl refl
    (hex-is-word dir h.bytes, (hex-is-word entry.name e.name.bytes, (hex-is-word entry.object e.object.bytes, (decimal-word entry.cookie e.most, tt))))
    (rw (handle-back dir h.bytes h.few, name-back entry.name e.name, handle-back entry.object e.object.bytes e.object.few, long-back entry.cookie e.most, cookie-some entry.cookie e.least, d.is, d.holds) refl)

-- a name that left a directory, which had it
pub reads-unname : (told : Told) (dir : List ℕ) (object : Object) (list : List Listed) (name : List ℕ) → IsHandleWord dir → IsListedName name → IsDirectory told dir object list
    → (length (without name list) == length list) ≡ false
    → Reads told (line_of (codes "unname") (hex_word dir ∷ hex_word name ∷ [])) (begun (changed (with_object dir (with_list object (without name list))) told))
unfolding unname_line
reads-unname told dir object list name h n d had =
    says told (changed (with_object dir (with_list object (without name list))) told) (codes "unname") (hex_word dir ∷ hex_word name ∷ []) refl refl
    (hex-is-word dir h.bytes, (hex-is-word name n.bytes, tt))
    (rw (handle-back dir h.bytes h.few, name-back name n, d.is, d.holds, had) refl)
