-- What a script asks for is within its bounds.
use Rattle.std.proofs.Common.{◌≡◌, ◌≤◌, ◌+◌, ℕ, suc, List, [], ◌∷◌, ◌++◌, codes, length, nat_lt, Bool, true, false, Option, Some, None, Result, Ok, Err, refl, arith, if◌then◌else◌, IfOk, All}
use Rattle.std.specs.Option.{option_map_or}
use Rattle.std.specs.Str.{bytes_eq, is_utf8}
use Rattle.std.proofs.lemmas.Bool.{cond_both, ltb-false}
use Rattle.std.proofs.lemmas.List.{length-append}
use Rattle.std.proofs.lemmas.List.Elements.{All-nil, All-push}
use Rattle.script_text.specs.Lines.{one, two, three, four, lines, words, is_skipped}
use Rattle.world_model.specs.declared.op.Op.{Op}
use Rattle.nfs_script.specs.declared.fault.Cause.{Cause}
use Rattle.nfs_script.specs.declared.fault.Cause.TheVariants as causes
use Rattle.nfs_script.specs.declared.fault.ParseFault.{ParseFault}
use Rattle.nfs_script.specs.declared.fault.ScriptFault.{ScriptFault}
use Rattle.nfs_script.specs.declared.script.ScriptLine.{ScriptLine}
use Rattle.nfs_script.specs.Faults.{fault_at}
use Rattle.nfs_script.specs.Script.{first_of, lane_of, asked_of, line_of, taken, after_line, after_lines, lines_fault, text_fault, script_by, IsParsed}
use Rattle.nfs_script.specs.Commands.{access_of, any_path_of, bits_of, bytes_of, close_of, fill_count_of, fill_of, link_of, link_target_of, list_of, make_dir_of, mode_of, named_path_of, offset_of, one_byte_of, op_of, open_of, path_op_of, put_of, read_count_of, read_link_of, read_of, remove_dir_of, remove_of, rename_of, slot_of, stat_of, sym_link_of, sync_of, truncate_of, wanted, write_of}
use Rattle.nfs_script.specs.Asked.{IsFrom, IsSlot, IsOffset, IsPayload, IsPath, IsNamed, IsTarget, IsAsked, IsAskedLine}
use Rattle.nfs_script.proofs.Bounds.{next, anything, lane_bounds, slot_bounds, offset_bounds, read_count_bounds, fill_count_bounds, bits_bounds, payload_bounds, target_bounds, any_path_bounds, named_path_bounds}

-- ---- each command

open_bounds : (words : List (List ℕ)) → IfOk (open_of words) IsAsked
unfolding open_of
open_bounds words =
    next (λ w. Unit {0}) IsAsked (wanted (three words)) _ (anything (wanted (three words))) (λ w u.
    next IsSlot IsAsked (slot_of (w.0)) _ (slot_bounds (w.0)) (λ x0 h0.
    next (λ m. Unit {0}) IsAsked (mode_of (w.1)) _ (anything (mode_of (w.1))) (λ x1 h1.
    next IsNamed IsAsked (named_path_of (w.2)) _ (named_path_bounds (w.2)) (λ x2 h2. (h0, h2)))))

read_bounds : (words : List (List ℕ)) → IfOk (read_of words) IsAsked
unfolding read_of
read_bounds words =
    next (λ w. Unit {0}) IsAsked (wanted (three words)) _ (anything (wanted (three words))) (λ w u.
    next IsSlot IsAsked (slot_of (w.0)) _ (slot_bounds (w.0)) (λ x0 h0.
    next IsOffset IsAsked (offset_of (w.1)) _ (offset_bounds (w.1)) (λ x1 h1.
    next (λ n. n ≤ 65536) IsAsked (read_count_of (w.2)) _ (read_count_bounds (w.2)) (λ x2 h2. (h0, h1, h2)))))

write_bounds : (words : List (List ℕ)) → IfOk (write_of words) IsAsked
unfolding write_of
write_bounds words =
    next (λ w. Unit {0}) IsAsked (wanted (three words)) _ (anything (wanted (three words))) (λ w u.
    next IsSlot IsAsked (slot_of (w.0)) _ (slot_bounds (w.0)) (λ x0 h0.
    next IsOffset IsAsked (offset_of (w.1)) _ (offset_bounds (w.1)) (λ x1 h1.
    next IsPayload IsAsked (bytes_of (w.2)) _ (payload_bounds (w.2)) (λ x2 h2. (h0, h1, h2)))))

fill_bounds : (words : List (List ℕ)) → IfOk (fill_of words) IsAsked
unfolding fill_of
fill_bounds words =
    next (λ w. Unit {0}) IsAsked (wanted (four words)) _ (anything (wanted (four words))) (λ w u.
    next IsSlot IsAsked (slot_of (w.0)) _ (slot_bounds (w.0)) (λ x0 h0.
    next IsOffset IsAsked (offset_of (w.1)) _ (offset_bounds (w.1)) (λ x1 h1.
    next (IsFrom 1 1048576) IsAsked (fill_count_of (w.2)) _ (fill_count_bounds (w.2)) (λ x2 h2.
    next (λ m. Unit {0}) IsAsked (one_byte_of (w.3)) _ (anything (one_byte_of (w.3))) (λ x3 h3. (h0, h1, h2))))))

sync_bounds : (words : List (List ℕ)) → IfOk (sync_of words) IsAsked
unfolding sync_of
sync_bounds words =
    next (λ w. Unit {0}) IsAsked (wanted (one words)) _ (anything (wanted (one words))) (λ w u.
    next IsSlot IsAsked (slot_of w) _ (slot_bounds w) (λ x0 h0. h0))

close_bounds : (words : List (List ℕ)) → IfOk (close_of words) IsAsked
unfolding close_of
close_bounds words =
    next (λ w. Unit {0}) IsAsked (wanted (one words)) _ (anything (wanted (one words))) (λ w u.
    next IsSlot IsAsked (slot_of w) _ (slot_bounds w) (λ x0 h0. h0))

truncate_bounds : (words : List (List ℕ)) → IfOk (truncate_of words) IsAsked
unfolding truncate_of
truncate_bounds words =
    next (λ w. Unit {0}) IsAsked (wanted (two words)) _ (anything (wanted (two words))) (λ w u.
    next IsSlot IsAsked (slot_of (w.0)) _ (slot_bounds (w.0)) (λ x0 h0.
    next IsOffset IsAsked (offset_of (w.1)) _ (offset_bounds (w.1)) (λ x1 h1. (h0, h1))))

put_bounds : (words : List (List ℕ)) → IfOk (put_of words) IsAsked
unfolding put_of
put_bounds words =
    next (λ w. Unit {0}) IsAsked (wanted (three words)) _ (anything (wanted (three words))) (λ w u.
    next IsNamed IsAsked (named_path_of (w.0)) _ (named_path_bounds (w.0)) (λ x0 h0.
    next IsOffset IsAsked (offset_of (w.1)) _ (offset_bounds (w.1)) (λ x1 h1.
    next IsPayload IsAsked (bytes_of (w.2)) _ (payload_bounds (w.2)) (λ x2 h2. (h0, h1, h2)))))

stat_bounds : (words : List (List ℕ)) → IfOk (stat_of words) IsAsked
unfolding stat_of
stat_bounds words =
    next (λ w. Unit {0}) IsAsked (wanted (one words)) _ (anything (wanted (one words))) (λ w u.
    next IsPath IsAsked (any_path_of w) _ (any_path_bounds w) (λ x0 h0. h0))

access_bounds : (words : List (List ℕ)) → IfOk (access_of words) IsAsked
unfolding access_of
access_bounds words =
    next (λ w. Unit {0}) IsAsked (wanted (two words)) _ (anything (wanted (two words))) (λ w u.
    next IsPath IsAsked (any_path_of (w.0)) _ (any_path_bounds (w.0)) (λ x0 h0.
    next (IsFrom 1 63) IsAsked (bits_of (w.1)) _ (bits_bounds (w.1)) (λ x1 h1. (h0, h1))))

make_dir_bounds : (words : List (List ℕ)) → IfOk (make_dir_of words) IsAsked
unfolding make_dir_of
make_dir_bounds words =
    next (λ w. Unit {0}) IsAsked (wanted (one words)) _ (anything (wanted (one words))) (λ w u.
    next IsNamed IsAsked (named_path_of w) _ (named_path_bounds w) (λ x0 h0. h0))

remove_dir_bounds : (words : List (List ℕ)) → IfOk (remove_dir_of words) IsAsked
unfolding remove_dir_of
remove_dir_bounds words =
    next (λ w. Unit {0}) IsAsked (wanted (one words)) _ (anything (wanted (one words))) (λ w u.
    next IsNamed IsAsked (named_path_of w) _ (named_path_bounds w) (λ x0 h0. h0))

remove_bounds : (words : List (List ℕ)) → IfOk (remove_of words) IsAsked
unfolding remove_of
remove_bounds words =
    next (λ w. Unit {0}) IsAsked (wanted (one words)) _ (anything (wanted (one words))) (λ w u.
    next IsNamed IsAsked (named_path_of w) _ (named_path_bounds w) (λ x0 h0. h0))

rename_bounds : (words : List (List ℕ)) → IfOk (rename_of words) IsAsked
unfolding rename_of
rename_bounds words =
    next (λ w. Unit {0}) IsAsked (wanted (two words)) _ (anything (wanted (two words))) (λ w u.
    next IsNamed IsAsked (named_path_of (w.0)) _ (named_path_bounds (w.0)) (λ x0 h0.
    next IsNamed IsAsked (named_path_of (w.1)) _ (named_path_bounds (w.1)) (λ x1 h1. (h0, h1))))

link_bounds : (words : List (List ℕ)) → IfOk (link_of words) IsAsked
unfolding link_of
link_bounds words =
    next (λ w. Unit {0}) IsAsked (wanted (two words)) _ (anything (wanted (two words))) (λ w u.
    next IsNamed IsAsked (named_path_of (w.0)) _ (named_path_bounds (w.0)) (λ x0 h0.
    next IsNamed IsAsked (named_path_of (w.1)) _ (named_path_bounds (w.1)) (λ x1 h1. (h0, h1))))

sym_link_bounds : (words : List (List ℕ)) → IfOk (sym_link_of words) IsAsked
unfolding sym_link_of
sym_link_bounds words =
    next (λ w. Unit {0}) IsAsked (wanted (two words)) _ (anything (wanted (two words))) (λ w u.
    next IsNamed IsAsked (named_path_of (w.0)) _ (named_path_bounds (w.0)) (λ x0 h0.
    next IsTarget IsAsked (link_target_of (w.1)) _ (target_bounds (w.1)) (λ x1 h1. (h0, h1))))

read_link_bounds : (words : List (List ℕ)) → IfOk (read_link_of words) IsAsked
unfolding read_link_of
read_link_bounds words =
    next (λ w. Unit {0}) IsAsked (wanted (one words)) _ (anything (wanted (one words))) (λ w u.
    next IsNamed IsAsked (named_path_of w) _ (named_path_bounds w) (λ x0 h0. h0))

list_bounds : (words : List (List ℕ)) → IfOk (list_of words) IsAsked
unfolding list_of
list_bounds words =
    next (λ w. Unit {0}) IsAsked (wanted (one words)) _ (anything (wanted (one words))) (λ w u.
    next IsPath IsAsked (any_path_of w) _ (any_path_bounds w) (λ x0 h0. h0))

-- ---- any line

chosen : (b : Bool) (r s : Result Op Cause) → IfOk r IsAsked → IfOk s IsAsked → IfOk (if b then r else s) IsAsked
chosen true r s h k = h
chosen false r s h k = k

path_op_bounds : (command : List ℕ) (words : List (List ℕ)) → IfOk (path_op_of command words) IsAsked
path_op_bounds command words =
    chosen (bytes_eq command (codes "put")) _ _ (put_bounds words) (
    chosen (bytes_eq command (codes "stat")) _ _ (stat_bounds words) (
    chosen (bytes_eq command (codes "access")) _ _ (access_bounds words) (
    chosen (bytes_eq command (codes "mkdir")) _ _ (make_dir_bounds words) (
    chosen (bytes_eq command (codes "rmdir")) _ _ (remove_dir_bounds words) (
    chosen (bytes_eq command (codes "remove")) _ _ (remove_bounds words) (
    chosen (bytes_eq command (codes "rename")) _ _ (rename_bounds words) (
    chosen (bytes_eq command (codes "link")) _ _ (link_bounds words) (
    chosen (bytes_eq command (codes "symlink")) _ _ (sym_link_bounds words) (
    chosen (bytes_eq command (codes "readlink")) _ _ (read_link_bounds words) (
    chosen (bytes_eq command (codes "list")) _ _ (list_bounds words) (tt)))))))))))

op_bounds : (command : List ℕ) (words : List (List ℕ)) → IfOk (op_of command words) IsAsked
op_bounds command words =
    chosen (bytes_eq command (codes "open")) _ _ (open_bounds words) (
    chosen (bytes_eq command (codes "read")) _ _ (read_bounds words) (
    chosen (bytes_eq command (codes "write")) _ _ (write_bounds words) (
    chosen (bytes_eq command (codes "fill")) _ _ (fill_bounds words) (
    chosen (bytes_eq command (codes "sync")) _ _ (sync_bounds words) (
    chosen (bytes_eq command (codes "close")) _ _ (close_bounds words) (
    chosen (bytes_eq command (codes "truncate")) _ _ (truncate_bounds words) (path_op_bounds command words)))))))

-- what the words of a line ask for, within its bounds
asked_bounds : (number : ℕ) (words : List (List ℕ)) → IsFrom 1 268435455 number → IfOk (asked_of number words) IsAskedLine
unfolding asked_of
asked_bounds number words h =
    next (λ w. Unit {0}) IsAskedLine (first_of causes.Lane words) _ (anything (first_of causes.Lane words)) (λ first u.
    next (IsFrom 1 16) IsAskedLine (lane_of (first.0)) _ (lane_bounds (first.0)) (λ lane l.
    next (λ w. Unit {0}) IsAskedLine (first_of causes.Command (first.1)) _ (anything (first_of causes.Command (first.1))) (λ command v.
    next IsAsked IsAskedLine (op_of (command.0) (command.1)) _ (op_bounds (command.0) (command.1)) (λ op o.
    record { lane = l; line = h; op = o }))))

abbrev IsAskedFor : Option ScriptLine → Type 0
IsAskedFor None = Unit {0}
IsAskedFor (Some asked) = IsAskedLine asked

line_bounds : (number : ℕ) (line : List ℕ) → IsFrom 1 268435455 number → IfOk (line_of number line) IsAskedFor
line_bounds number line h = cond_both (is_skipped line) (Ok None) _ (λ r. IfOk r IsAskedFor) (λ t. tt) (λ t. next IsAskedLine IsAskedFor (asked_of number (words line)) _ (asked_bounds number (words line) h) (λ asked k. k))

taken_bounds : (number : ℕ) (before : List ScriptLine) (r : Result (Option ScriptLine) Cause) → All IsAskedLine before → IfOk r IsAskedFor → IfOk (taken number before r) (All IsAskedLine)
taken_bounds number before (Ok None) h k = h
taken_bounds number before (Ok (Some asked)) h k = All-push IsAskedLine before asked h k
taken_bounds number before (Err cause) h k = tt

lines_bounds : (count : ℕ) (before : List ScriptLine) (more : List (List ℕ)) → count + length more ≤ 268435455 → All IsAskedLine before → IfOk (after_lines count before more) (All IsAskedLine)
lines_bounds count before [] b h = h
lines_bounds count before (line ∷ more) b h =
    let number : IsFrom 1 268435455 (suc count) = record { least = omega arith; most = omega (arith, b) } in
    next (All IsAskedLine) (All IsAskedLine) (after_line (suc count) before line) _ (taken_bounds (suc count) before (line_of (suc count) line) h (line_bounds (suc count) line number)) (λ asked k.
    lines_bounds (suc count) asked more (omega (arith, b)) k)

-- ---- the whole script

-- a text without a fault as a whole ends at the last line at most
pub few_lines : (last count : ℕ) (more : List (List ℕ)) → lines_fault last count more ≡ None → count + length more ≤ last
few_lines last count [] h = few (nat_lt last count) refl h
  where
    few : (b : Bool) → nat_lt last count ≡ b → (if b then Some (fault_at (last + 1) causes.ManyLines) else None) ≡ None → count + 0 ≤ last
    few true e k = absurd cc
    few false e k = let f = ltb-false last count e in omega (arith, f)
few_lines last count (line ∷ more) h = others (is_utf8 line) (few_lines last (suc count) more) h
  where
    others : (b : Bool) → (lines_fault last (suc count) more ≡ None → suc count + length more ≤ last) → (if b then lines_fault last (suc count) more else Some (fault_at (suc count) causes.Utf8)) ≡ None → count + suc (length more) ≤ last
    others true next k = let f = next k in omega (arith, f)
    others false next k = absurd cc

fitting : (last before : ℕ) (text : List ℕ) (b : Bool) → (if b then Some (fault_at 0 causes.Long) else lines_fault last before (lines text)) ≡ None → lines_fault last before (lines text) ≡ None
fitting last before text true k = absurd cc
fitting last before text false k = k

-- so many lines at most, where there is no fault
text_lines : (last before : ℕ) (text : List ℕ) → text_fault last before text ≡ None → before + length (lines text) ≤ last
text_lines last before text e = few_lines last before (lines text) (fitting last before text (nat_lt 1048576 (length text)) e)

text_bounds : (last before : ℕ) (text : List ℕ) (o : Option ScriptFault) → last ≤ 268435455 → text_fault last before text ≡ o → IfOk (option_map_or (λ fault. Err fault) o (after_lines before [] (lines text))) (All IsAskedLine)
text_bounds last before text (Some fault) low e = tt
text_bounds last before text None low e = lines_bounds before [] (lines text) (let f = text_lines last before text e in omega (arith, f, low)) (All-nil IsAskedLine)

-- what a script asks for is within bounds
pub script_bounds : (last before : ℕ) (text : List ℕ) → last ≤ 268435455 → IfOk (script_by last before text) (All IsAskedLine)
script_bounds last before text low = text_bounds last before text (text_fault last before text) low refl

-- ---- each line asks for one operation at most

abbrev pub AtMost : ℕ → List ScriptLine → Type 0
AtMost n asked = length asked ≤ n

taken_few : (number n : ℕ) (before : List ScriptLine) (r : Result (Option ScriptLine) Cause) → length before ≤ n → IfOk (taken number before r) (AtMost (suc n))
taken_few number n before (Ok None) h = omega (arith, h)
taken_few number n before (Ok (Some asked)) h = let long = length-append before (asked ∷ []) in omega (arith, h, long)
taken_few number n before (Err cause) h = tt

lines_few : (count n : ℕ) (before : List ScriptLine) (more : List (List ℕ)) → length before ≤ n → IfOk (after_lines count before more) (AtMost (n + length more))
lines_few count n before [] h = omega (arith, h)
lines_few count n before (line ∷ more) h =
    next (AtMost (suc n)) (AtMost (n + suc (length more))) (after_line (suc count) before line) _ (taken_few (suc count) n before (line_of (suc count) line) h) (λ asked k.
    fewer (after_lines (suc count) asked more) (lines_few (suc count) (suc n) asked more k))
  where
    fewer : (r : Result (List ScriptLine) ScriptFault) → IfOk r (AtMost (suc n + length more)) → IfOk r (AtMost (n + suc (length more)))
    fewer (Ok asked) k = omega (arith, k)
    fewer (Err fault) k = tt

text_few : (last before : ℕ) (text : List ℕ) (o : Option ScriptFault) → last ≤ before + 16384 → text_fault last before text ≡ o
    → IfOk (option_map_or (λ fault. Err fault) o (after_lines before [] (lines text))) (AtMost 16384)
text_few last before text (Some fault) near e = tt
text_few last before text None near e = within (after_lines before [] (lines text)) (lines_few before 0 [] (lines text) (omega arith))
  where
    within : (r : Result (List ScriptLine) ScriptFault) → IfOk r (AtMost (0 + length (lines text))) → IfOk r (AtMost 16384)
    within (Ok asked) k = let f = text_lines last before text e in omega (arith, f, near, k)
    within (Err fault) k = tt

-- a script asks for 16,384 operations at most
pub script_few : (last before : ℕ) (text : List ℕ) → last ≤ before + 16384 → IfOk (script_by last before text) (AtMost 16384)
script_few last before text near = text_few last before text (text_fault last before text) near refl

-- ---- what was parsed

-- what holds of what a text asks for holds of what was parsed
pub parsed_so : (P : List ScriptLine → Type 0) (r : Result (List ScriptLine) ScriptFault) (result : Result (List ScriptLine) ParseFault) → IsParsed r result → IfOk r P → IfOk result P
parsed_so P r (Ok asked) h k = rw h at k
parsed_so P r (Err fault) h k = tt
