-- A command that is read asks for an operation that a command can say.
use Rattle.std.proofs.Common.{◌≡◌, ◌<◌, ◌≤◌, ◌+◌, ◌*◌, ◌-◌, ℕ, suc, List, [], ◌∷◌, Bool, true, false, ◌&&◌, ◌==◌, nat_le, Option, Some, None, Result, Ok, Err, IfOk, IfSome, ok_or, option_and_then, refl, arith, length}
use Rattle.std.specs.Prelude.{codes, if◌then◌else◌}
use Rattle.std.specs.List.{slice_split}
use Rattle.std.specs.Option.{option_map}
use Rattle.std.specs.Str.{bytes_eq}
use Rattle.std.proofs.lemmas.Bool.{and_parts, leb-true}
use Rattle.hex.specs.Hex.{IsBytes, decode_of, hex_digit_value}
use Rattle.hex.specs.declared.error.FromHexError.{FromHexError}
use Rattle.hex.proofs.HexLemmas.{decode_of-ok}
use Rattle.nfs_script.specs.Commands.{access_of, any_path_of, asked_for, bits_of, bytes_of, close_of, fill_count_of, fill_of, link_of, link_target_of, list_of, make_dir_of, mode_of, named, named_path_of, offset_of}
use Rattle.nfs_script.specs.Commands.{one_byte_of, op_of, open_of, operation_of, path_op_of, put_of, read_count_of, read_link_of, read_of, remove_dir_of, remove_of, rename_of, slot_of, stat_of, sym_link_of, sync_of, truncate_of, wanted, write_of}
use Rattle.nfs_script.specs.Asked.{IsFrom, IsNamed, IsOffset, IsPath, IsPayload, IsSlot, IsTarget}
use Rattle.nfs_script.proofs.Bounds.{next, anything, slot_bounds, offset_bounds, read_count_bounds, fill_count_bounds, bits_bounds, payload_bounds, target_bounds, any_path_bounds, named_path_bounds}
use Rattle.script_text.specs.Lines.{four, one, three, two}
use Rattle.script_text.specs.Paths.{before, decoded, escaped, is_path_name, is_slash, is_target, name_of, names_between, names_of, path_bytes, path_of, target_of, within_path}
use Rattle.script_text.specs.Payloads.{byte_of, is_payload_length, only_byte, payload_of, some_bytes}
use Rattle.world_model.specs.declared.op.Op.{Op}
use Rattle.trace_prints.specs.HasText.{ArePathNames, IsOp, IsPathName, IsTargetWord}
use Rattle.trace_prints.proofs.Bounds.{AreBytes, bytes-cons, bytes-nil, chosen, passed, pieces-bytes, refused}

-- ---- bytes of shown words

digit-small : (c : ℕ) → IfSome (hex_digit_value c) (λ v. v < 16)
digit-small c = by (nat_le 65 c && nat_le c 70) refl (nat_le 97 c && nat_le c 102) refl (nat_le 48 c && nat_le c 57) refl
  where
    by : (s : Bool) → (nat_le 65 c && nat_le c 70) ≡ s → (t : Bool) → (nat_le 97 c && nat_le c 102) ≡ t → (u : Bool) → (nat_le 48 c && nat_le c 57) ≡ u
        → IfSome (if s then Some (c - 55) else (if t then Some (c - 87) else (if u then Some (c - 48) else None))) (λ v. v < 16)
    by true e t f u g = let le : c ≤ 70 = leb-true c 70 (and_parts (nat_le 65 c) (nat_le c 70) e).1 in omega (arith, le)
    by false e true f u g = let le : c ≤ 102 = leb-true c 102 (and_parts (nat_le 97 c) (nat_le c 102) f).1 in omega (arith, le)
    by false e false f true g = let le : c ≤ 57 = leb-true c 57 (and_parts (nat_le 48 c) (nat_le c 57) g).1 in omega (arith, le)
    by false e false f false g = tt

-- where there is something, and something is made of it
follows : {A B : Type 0} (P : A → Type 0) (Q : B → Type 0) (o : Option A) (f : A → Option B) → IfSome o P → ((x : A) → P x → IfSome (f x) Q) → IfSome (option_and_then f o) Q
follows P Q None f p q = tt
follows P Q (Some x) f p q = q x p

low-small : (h : ℕ) (o : Option ℕ) → h < 16 → IfSome o (λ v. v < 16) → IfSome (option_map (λ l. h * 16 + l) o) (λ v. v < 256)
low-small h None lt p = tt
low-small h (Some l) lt p = let small : l < 16 = p in omega (arith, lt, small)

escaped-small : (c d : ℕ) → IfSome (escaped c d) (λ v. v < 256)
escaped-small c d = follows (λ v. v < 16) (λ v. v < 256) (hex_digit_value c) (λ h. option_map (λ l. h * 16 + l) (hex_digit_value d)) (digit-small c) (λ h lt. low-small h (hex_digit_value d) lt (digit-small d))

before-bytes : (o : Option ℕ) (bytes : Option (List ℕ)) → IfSome o (λ v. v < 256) → IfSome bytes IsBytes → IfSome (before o bytes) IsBytes
before-bytes None bytes v h = tt
before-bytes (Some b) None v h = tt
before-bytes (Some b) (Some more) v h = bytes-cons b more v h

pub decoded-plain : (text : List ℕ) → IsBytes text → IfSome (decoded text) IsBytes
unfolding decoded
decoded-plain [] h = bytes-nil
decoded-plain (b ∷ []) h = refused IsBytes (b == 37) (b ∷ []) (λ t. h)
decoded-plain (b ∷ c ∷ []) h = chosen IsBytes (b == 37) None (before (Some b) (decoded (c ∷ []))) tt (before-bytes (Some b) (decoded (c ∷ [])) (h 0) (decoded-plain (c ∷ []) (λ i. h (suc i))))
decoded-plain (b ∷ c ∷ d ∷ text) h = chosen IsBytes (b == 37) (before (escaped c d) (decoded text)) (before (Some b) (decoded (c ∷ d ∷ text)))
    (before-bytes (escaped c d) (decoded text) (escaped-small c d) (decoded-plain text (λ i. h (suc (suc (suc i))))))
    (before-bytes (Some b) (decoded (c ∷ d ∷ text)) (h 0) (decoded-plain (c ∷ d ∷ text) (λ i. h (suc i))))

-- ---- paths

name-plain : (piece : List ℕ) → IsBytes piece → IfSome (name_of piece) IsPathName
name-plain piece h = follows IsBytes IsPathName (decoded piece) (λ bytes. if is_path_name bytes then Some bytes else None) (decoded-plain piece h) (λ bytes k.
    passed IsPathName (is_path_name bytes) bytes (λ t. record { bytes = k; is = t }))

name-onto : (name : List ℕ) (names : Option (List (List ℕ))) → IsPathName name → IfSome names ArePathNames → IfSome (option_map (λ more. name ∷ more) names) ArePathNames
name-onto name None n h = tt
name-onto name (Some names) n h = (n, h)

names-plain : (pieces : List (List ℕ)) → AreBytes pieces → IfSome (names_of pieces) ArePathNames
names-plain [] h = tt
names-plain (piece ∷ pieces) h = follows IsPathName ArePathNames (name_of piece) (λ name. option_map (λ names. name ∷ names) (names_of pieces)) (name-plain piece h.0) (λ name n.
    name-onto name (names_of pieces) n (names-plain pieces h.1))

between-plain : (text : List ℕ) → IsBytes text → IfSome (names_between text) ArePathNames
between-plain text h = follows ArePathNames ArePathNames (names_of (slice_split is_slash text)) within_path (names-plain (slice_split is_slash text) (pieces-bytes is_slash text h)) (λ names p.
    passed ArePathNames (nat_le (path_bytes names) 1024) names (λ t. p))

path-plain : (word : List ℕ) → IsBytes word → IfSome (path_of word) ArePathNames
path-plain [] h = tt
path-plain (b ∷ []) h = passed ArePathNames (b == 47) [] (λ t. tt)
path-plain (b ∷ c ∷ text) h = chosen ArePathNames (b == 47) (names_between (c ∷ text)) None (between-plain (c ∷ text) (λ i. h (suc i))) tt

-- what is found is read
found : {E A : Type 0} (P : A → Type 0) (o : Option A) (cause : E) → IfSome o P → IfOk (ok_or o cause) P
found P None cause h = tt
found P (Some x) cause h = h

both : {E A : Type 0} (P Q : A → Type 0) (r : Result A E) → IfOk r P → IfOk r Q → IfOk r (λ x. P x × Q x)
both P Q (Ok x) p q = (p, q)
both P Q (Err e) p q = tt

abbrev IsSaidPath : List (List ℕ) → Type 0
IsSaidPath path = IsPath path × ArePathNames path

abbrev IsSaidName : List (List ℕ) → Type 0
IsSaidName path = IsNamed path × ArePathNames path

any-path : (word : List ℕ) → IsBytes word → IfOk (any_path_of word) IsSaidPath
any-path word h = both IsPath ArePathNames (any_path_of word) (any_path_bounds word) (found ArePathNames (path_of word) _ (path-plain word h))

with-name : (path : List (List ℕ)) → ArePathNames path → IfOk (named path) ArePathNames
with-name [] p = tt
with-name (name ∷ names) p = p

named-path : (word : List ℕ) → IsBytes word → IfOk (named_path_of word) IsSaidName
named-path word h = both IsNamed ArePathNames (named_path_of word) (named_path_bounds word) (next ArePathNames ArePathNames (any_path_of word) named (found ArePathNames (path_of word) _ (path-plain word h)) with-name)

-- ---- targets and bytes

target-plain : (word : List ℕ) → IsBytes word → IfOk (link_target_of word) IsTargetWord
target-plain word h = found IsTargetWord (target_of word) _ (follows IsBytes IsTargetWord (decoded word) (λ bytes. if is_target bytes then Some bytes else None) (decoded-plain word h) (λ bytes k.
    passed IsTargetWord (is_target bytes) bytes (λ t. record { bytes = k; is = t })))

some-plain : (word : List ℕ) (r : Result (List ℕ) FromHexError) → decode_of word ≡ r → IfSome (some_bytes r) IsBytes
some-plain word (Ok bytes) e = passed IsBytes (is_payload_length (length bytes)) bytes (λ t. (decode_of-ok word bytes e).3)
some-plain word (Err fault) e = tt

payload-plain : (word : List ℕ) → IfOk (bytes_of word) (λ b. IsPayload b × IsBytes b)
payload-plain word = both IsPayload IsBytes (bytes_of word) (payload_bounds word) (found IsBytes (payload_of word) _ (some-plain word (decode_of word) refl))

only-plain : (word : List ℕ) (r : Result (List ℕ) FromHexError) → decode_of word ≡ r → IfSome (only_byte r) (λ b. b < 256)
only-plain word (Ok []) e = tt
only-plain word (Ok (byte ∷ [])) e = (decode_of-ok word (byte ∷ []) e).3 0
only-plain word (Ok (a ∷ b ∷ bytes)) e = tt
only-plain word (Err fault) e = tt

byte-plain : (word : List ℕ) → IfOk (one_byte_of word) (λ b. b < 256)
byte-plain word = found (λ b. b < 256) (byte_of word) _ (only-plain word (decode_of word) refl)

-- ---- so many words

abbrev Two : List ℕ × List ℕ → Type 0
Two w = IsBytes w.0 × IsBytes w.1

abbrev Three : List ℕ × List ℕ × List ℕ → Type 0
Three w = IsBytes w.0 × IsBytes w.1 × IsBytes w.2

abbrev Four : List ℕ × List ℕ × List ℕ × List ℕ → Type 0
Four w = IsBytes w.0 × IsBytes w.1 × IsBytes w.2 × IsBytes w.3

one-wanted : (ws : List (List ℕ)) → AreBytes ws → IfOk (wanted (one ws)) IsBytes
one-wanted [] h = tt
one-wanted (a ∷ []) h = h.0
one-wanted (a ∷ b ∷ ws) h = tt

two-wanted : (ws : List (List ℕ)) → AreBytes ws → IfOk (wanted (two ws)) Two
two-wanted [] h = tt
two-wanted (a ∷ []) h = tt
two-wanted (a ∷ b ∷ []) h = (h.0, h.1.0)
two-wanted (a ∷ b ∷ c ∷ ws) h = tt

three-wanted : (ws : List (List ℕ)) → AreBytes ws → IfOk (wanted (three ws)) Three
three-wanted [] h = tt
three-wanted (a ∷ []) h = tt
three-wanted (a ∷ b ∷ []) h = tt
three-wanted (a ∷ b ∷ c ∷ []) h = (h.0, h.1.0, h.1.1.0)
three-wanted (a ∷ b ∷ c ∷ d ∷ ws) h = tt

four-wanted : (ws : List (List ℕ)) → AreBytes ws → IfOk (wanted (four ws)) Four
four-wanted [] h = tt
four-wanted (a ∷ []) h = tt
four-wanted (a ∷ b ∷ []) h = tt
four-wanted (a ∷ b ∷ c ∷ []) h = tt
four-wanted (a ∷ b ∷ c ∷ d ∷ []) h = (h.0, h.1.0, h.1.1.0, h.1.1.1.0)
four-wanted (a ∷ b ∷ c ∷ d ∷ e ∷ ws) h = tt

-- ---- each command

open-op : (ws : List (List ℕ)) → AreBytes ws → IfOk (open_of ws) IsOp
unfolding open_of
open-op ws h =
    next Three IsOp (wanted (three ws)) _ (three-wanted ws h) (λ w u.
    next IsSlot IsOp (slot_of (w.0)) _ (slot_bounds (w.0)) (λ x0 h0.
    next (λ m. Unit {0}) IsOp (mode_of (w.1)) _ (anything (mode_of (w.1))) (λ x1 h1.
    next IsSaidName IsOp (named_path_of (w.2)) _ (named-path (w.2) u.2) (λ x2 h2. record { within = (h0, h2.0); said = h2.1 }))))

read-op : (ws : List (List ℕ)) → AreBytes ws → IfOk (read_of ws) IsOp
unfolding read_of
read-op ws h =
    next Three IsOp (wanted (three ws)) _ (three-wanted ws h) (λ w u.
    next IsSlot IsOp (slot_of (w.0)) _ (slot_bounds (w.0)) (λ x0 h0.
    next IsOffset IsOp (offset_of (w.1)) _ (offset_bounds (w.1)) (λ x1 h1.
    next (λ n. n ≤ 65536) IsOp (read_count_of (w.2)) _ (read_count_bounds (w.2)) (λ x2 h2. record { within = (h0, h1, h2); said = tt }))))

write-op : (ws : List (List ℕ)) → AreBytes ws → IfOk (write_of ws) IsOp
unfolding write_of
write-op ws h =
    next Three IsOp (wanted (three ws)) _ (three-wanted ws h) (λ w u.
    next IsSlot IsOp (slot_of (w.0)) _ (slot_bounds (w.0)) (λ x0 h0.
    next IsOffset IsOp (offset_of (w.1)) _ (offset_bounds (w.1)) (λ x1 h1.
    next (λ b. IsPayload b × IsBytes b) IsOp (bytes_of (w.2)) _ (payload-plain (w.2)) (λ x2 h2. record { within = (h0, h1, h2.0); said = h2.1 }))))

fill-op : (ws : List (List ℕ)) → AreBytes ws → IfOk (fill_of ws) IsOp
unfolding fill_of
fill-op ws h =
    next Four IsOp (wanted (four ws)) _ (four-wanted ws h) (λ w u.
    next IsSlot IsOp (slot_of (w.0)) _ (slot_bounds (w.0)) (λ x0 h0.
    next IsOffset IsOp (offset_of (w.1)) _ (offset_bounds (w.1)) (λ x1 h1.
    next (IsFrom 1 1048576) IsOp (fill_count_of (w.2)) _ (fill_count_bounds (w.2)) (λ x2 h2.
    next (λ b. b < 256) IsOp (one_byte_of (w.3)) _ (byte-plain (w.3)) (λ x3 h3. record { within = (h0, h1, h2); said = h3 })))))

sync-op : (ws : List (List ℕ)) → AreBytes ws → IfOk (sync_of ws) IsOp
unfolding sync_of
sync-op ws h =
    next IsBytes IsOp (wanted (one ws)) _ (one-wanted ws h) (λ w u.
    next IsSlot IsOp (slot_of w) _ (slot_bounds w) (λ x0 h0. record { within = h0; said = tt }))

close-op : (ws : List (List ℕ)) → AreBytes ws → IfOk (close_of ws) IsOp
unfolding close_of
close-op ws h =
    next IsBytes IsOp (wanted (one ws)) _ (one-wanted ws h) (λ w u.
    next IsSlot IsOp (slot_of w) _ (slot_bounds w) (λ x0 h0. record { within = h0; said = tt }))

truncate-op : (ws : List (List ℕ)) → AreBytes ws → IfOk (truncate_of ws) IsOp
unfolding truncate_of
truncate-op ws h =
    next Two IsOp (wanted (two ws)) _ (two-wanted ws h) (λ w u.
    next IsSlot IsOp (slot_of (w.0)) _ (slot_bounds (w.0)) (λ x0 h0.
    next IsOffset IsOp (offset_of (w.1)) _ (offset_bounds (w.1)) (λ x1 h1. record { within = (h0, h1); said = tt })))

put-op : (ws : List (List ℕ)) → AreBytes ws → IfOk (put_of ws) IsOp
unfolding put_of
put-op ws h =
    next Three IsOp (wanted (three ws)) _ (three-wanted ws h) (λ w u.
    next IsSaidName IsOp (named_path_of (w.0)) _ (named-path (w.0) u.0) (λ x0 h0.
    next IsOffset IsOp (offset_of (w.1)) _ (offset_bounds (w.1)) (λ x1 h1.
    next (λ b. IsPayload b × IsBytes b) IsOp (bytes_of (w.2)) _ (payload-plain (w.2)) (λ x2 h2. record { within = (h0.0, h1, h2.0); said = (h0.1, h2.1) }))))

stat-op : (ws : List (List ℕ)) → AreBytes ws → IfOk (stat_of ws) IsOp
unfolding stat_of
stat-op ws h =
    next IsBytes IsOp (wanted (one ws)) _ (one-wanted ws h) (λ w u.
    next IsSaidPath IsOp (any_path_of w) _ (any-path w u) (λ x0 h0. record { within = h0.0; said = h0.1 }))

access-op : (ws : List (List ℕ)) → AreBytes ws → IfOk (access_of ws) IsOp
unfolding access_of
access-op ws h =
    next Two IsOp (wanted (two ws)) _ (two-wanted ws h) (λ w u.
    next IsSaidPath IsOp (any_path_of (w.0)) _ (any-path (w.0) u.0) (λ x0 h0.
    next (IsFrom 1 63) IsOp (bits_of (w.1)) _ (bits_bounds (w.1)) (λ x1 h1. record { within = (h0.0, h1); said = h0.1 })))

make-dir-op : (ws : List (List ℕ)) → AreBytes ws → IfOk (make_dir_of ws) IsOp
unfolding make_dir_of
make-dir-op ws h =
    next IsBytes IsOp (wanted (one ws)) _ (one-wanted ws h) (λ w u.
    next IsSaidName IsOp (named_path_of w) _ (named-path w u) (λ x0 h0. record { within = h0.0; said = h0.1 }))

remove-dir-op : (ws : List (List ℕ)) → AreBytes ws → IfOk (remove_dir_of ws) IsOp
unfolding remove_dir_of
remove-dir-op ws h =
    next IsBytes IsOp (wanted (one ws)) _ (one-wanted ws h) (λ w u.
    next IsSaidName IsOp (named_path_of w) _ (named-path w u) (λ x0 h0. record { within = h0.0; said = h0.1 }))

remove-op : (ws : List (List ℕ)) → AreBytes ws → IfOk (remove_of ws) IsOp
unfolding remove_of
remove-op ws h =
    next IsBytes IsOp (wanted (one ws)) _ (one-wanted ws h) (λ w u.
    next IsSaidName IsOp (named_path_of w) _ (named-path w u) (λ x0 h0. record { within = h0.0; said = h0.1 }))

rename-op : (ws : List (List ℕ)) → AreBytes ws → IfOk (rename_of ws) IsOp
unfolding rename_of
rename-op ws h =
    next Two IsOp (wanted (two ws)) _ (two-wanted ws h) (λ w u.
    next IsSaidName IsOp (named_path_of (w.0)) _ (named-path (w.0) u.0) (λ x0 h0.
    next IsSaidName IsOp (named_path_of (w.1)) _ (named-path (w.1) u.1) (λ x1 h1. record { within = (h0.0, h1.0); said = (h0.1, h1.1) })))

link-op : (ws : List (List ℕ)) → AreBytes ws → IfOk (link_of ws) IsOp
unfolding link_of
link-op ws h =
    next Two IsOp (wanted (two ws)) _ (two-wanted ws h) (λ w u.
    next IsSaidName IsOp (named_path_of (w.0)) _ (named-path (w.0) u.0) (λ x0 h0.
    next IsSaidName IsOp (named_path_of (w.1)) _ (named-path (w.1) u.1) (λ x1 h1. record { within = (h0.0, h1.0); said = (h0.1, h1.1) })))

sym-link-op : (ws : List (List ℕ)) → AreBytes ws → IfOk (sym_link_of ws) IsOp
unfolding sym_link_of
sym-link-op ws h =
    next Two IsOp (wanted (two ws)) _ (two-wanted ws h) (λ w u.
    next IsSaidName IsOp (named_path_of (w.0)) _ (named-path (w.0) u.0) (λ x0 h0.
    next (λ t. IsTarget t × IsTargetWord t) IsOp (link_target_of (w.1)) _ (both IsTarget IsTargetWord (link_target_of (w.1)) (target_bounds (w.1)) (target-plain (w.1) u.1)) (λ x1 h1.
    record { within = (h0.0, h1.0); said = (h0.1, h1.1) })))

read-link-op : (ws : List (List ℕ)) → AreBytes ws → IfOk (read_link_of ws) IsOp
unfolding read_link_of
read-link-op ws h =
    next IsBytes IsOp (wanted (one ws)) _ (one-wanted ws h) (λ w u.
    next IsSaidName IsOp (named_path_of w) _ (named-path w u) (λ x0 h0. record { within = h0.0; said = h0.1 }))

list-op : (ws : List (List ℕ)) → AreBytes ws → IfOk (list_of ws) IsOp
unfolding list_of
list-op ws h =
    next IsBytes IsOp (wanted (one ws)) _ (one-wanted ws h) (λ w u.
    next IsSaidPath IsOp (any_path_of w) _ (any-path w u) (λ x0 h0. record { within = h0.0; said = h0.1 }))

-- ---- any command

either : {E : Type 0} (b : Bool) (r s : Result Op E) → IfOk r IsOp → IfOk s IsOp → IfOk (if b then r else s) IsOp
either true r s h k = h
either false r s h k = k

path-op : (command : List ℕ) (ws : List (List ℕ)) → AreBytes ws → IfOk (path_op_of command ws) IsOp
path-op command ws h =
    either (bytes_eq command (codes "put")) _ _ (put-op ws h) (
    either (bytes_eq command (codes "stat")) _ _ (stat-op ws h) (
    either (bytes_eq command (codes "access")) _ _ (access-op ws h) (
    either (bytes_eq command (codes "mkdir")) _ _ (make-dir-op ws h) (
    either (bytes_eq command (codes "rmdir")) _ _ (remove-dir-op ws h) (
    either (bytes_eq command (codes "remove")) _ _ (remove-op ws h) (
    either (bytes_eq command (codes "rename")) _ _ (rename-op ws h) (
    either (bytes_eq command (codes "link")) _ _ (link-op ws h) (
    either (bytes_eq command (codes "symlink")) _ _ (sym-link-op ws h) (
    either (bytes_eq command (codes "readlink")) _ _ (read-link-op ws h) (
    either (bytes_eq command (codes "list")) _ _ (list-op ws h) tt))))))))))

any-op : (command : List ℕ) (ws : List (List ℕ)) → AreBytes ws → IfOk (op_of command ws) IsOp
any-op command ws h =
    either (bytes_eq command (codes "open")) _ _ (open-op ws h) (
    either (bytes_eq command (codes "read")) _ _ (read-op ws h) (
    either (bytes_eq command (codes "write")) _ _ (write-op ws h) (
    either (bytes_eq command (codes "fill")) _ _ (fill-op ws h) (
    either (bytes_eq command (codes "sync")) _ _ (sync-op ws h) (
    either (bytes_eq command (codes "close")) _ _ (close-op ws h) (
    either (bytes_eq command (codes "truncate")) _ _ (truncate-op ws h) (path-op command ws h)))))))

asked-so : (command : List ℕ) (ws : List (List ℕ)) → IfOk (op_of command ws) IsOp → IfSome (asked_for (op_of command ws)) IsOp
asked-so command ws = (elim (op_of command ws) as (λ r. IfOk r IsOp → IfSome (asked_for r) IsOp) [ Ok op ↦ λ h. h | Err cause ↦ λ h. tt ])

-- the operation of a command, within the bounds of what a command can say
pub op-within : (ws : List (List ℕ)) → AreBytes ws → IfSome (operation_of ws) IsOp
op-within [] h = tt
op-within (command ∷ ws) h = asked-so command ws (any-op command ws h.1)
