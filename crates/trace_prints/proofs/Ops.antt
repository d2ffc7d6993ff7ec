-- A command that is written is read back as its operation.
use Rattle.std.proofs.Common.{◌≡◌, ◌<◌, ◌≤◌, ◌^◌, ℕ, zero, suc, List, [], ◌∷◌, length, Bool, true, false, ◌&&◌, nat_le, Some, Ok, refl, arith}
use Rattle.std.specs.Prelude.{codes, decimal}
use Rattle.std.specs.List.{list_all}
use Rattle.std.proofs.lemmas.List.Elements.{All-weaker}
use Rattle.std.proofs.lemmas.List.Sums.{AllPass-from_list_all}
use Rattle.hex.specs.Hex.{IsBytes}
use Rattle.nfs_script.specs.Asked.{IsFrom, IsNamed, IsSlot}
use Rattle.nfs_script.specs.Commands.{any_path_of, bits_of, bytes_of, fill_count_of, mode_of, named_path_of, offset_of, one_byte_of, operation_of, read_count_of, slot_of, open_of, read_of, write_of, fill_of, sync_of, close_of, truncate_of, put_of, stat_of, access_of, make_dir_of, remove_dir_of, remove_of, rename_of, link_of, sym_link_of, read_link_of, list_of}
use Rattle.nfs_types.specs.declared.mode.Mode.{Mode}
use Rattle.nfs_types.specs.declared.mode.Mode.TheVariants as modes
use Rattle.script_text.specs.Paths.{path_bytes}
use Rattle.world_model.specs.declared.op.Op.{Op}
use Rattle.world_model.specs.declared.op.Op.TheVariants as ops
use Rattle.trace_text.specs.Texts.{hex_word, mode_word, op_words, path_word}
use Rattle.trace_prints.specs.HasText.{ArePathNames, IsOp}
use Rattle.trace_prints.proofs.Lined.{IsPlain, IsWord, AreWords}
use Rattle.trace_prints.proofs.Spelt.{decimal-word, hex-is-word, number-back, plain-so, shown-is-word}
use Rattle.trace_prints.proofs.Paths.{byte-back, path-back, path-is-word, payload-back, target-back}

-- ---- words by a test

abbrev pub is_word : List ℕ → Bool
is_word [] = false
is_word (b ∷ word) = list_all (λ c. nat_le 33 c && nat_le c 126) (b ∷ word)

pub word-so : (word : List ℕ) → is_word word ≡ true → IsWord word
word-so [] h = absurd (cc h)
word-so (b ∷ word) h = record { some = omega arith; plain = All-weaker (λ c. (nat_le 33 c && nat_le c 126) ≡ true) IsPlain plain-so (b ∷ word) (AllPass-from_list_all (λ c. nat_le 33 c && nat_le c 126) (b ∷ word) h) }

-- ---- single words

slot-back : (slot : ℕ) → IsSlot slot → slot_of (decimal slot) ≡ Ok slot
slot-back slot s = rw (number-back 1 16 slot s.least s.most (omega (arith, s.most))) refl

offset-back : (n : ℕ) → n ≤ 4611686018427387904 → offset_of (decimal n) ≡ Ok n
offset-back n le = rw (number-back 0 4611686018427387904 n (omega arith) le (omega (arith, le))) refl

count-back : (n : ℕ) → n ≤ 65536 → read_count_of (decimal n) ≡ Ok n
count-back n le = rw (number-back 0 65536 n (omega arith) le (omega (arith, le))) refl

fill-back : (n : ℕ) → IsFrom 1 1048576 n → fill_count_of (decimal n) ≡ Ok n
fill-back n f = rw (number-back 1 1048576 n f.least f.most (omega (arith, f.most))) refl

rights-back : (n : ℕ) → IsFrom 1 63 n → bits_of (decimal n) ≡ Ok n
rights-back n f = rw (number-back 1 63 n f.least f.most (omega (arith, f.most))) refl

mode-back : (mode : Mode) → mode_of (mode_word mode) ≡ Ok mode
mode-back modes.R = refl
mode-back modes.W = refl
mode-back modes.RW = refl
mode-back modes.C = refl
mode-back modes.X = refl

any-back : (path : List (List ℕ)) → ArePathNames path → path_bytes path ≤ 1024 → any_path_of (path_word path) ≡ Ok path
any-back path ps le = rw (path-back path ps le) refl

named-back : (path : List (List ℕ)) → ArePathNames path → IsNamed path → named_path_of (path_word path) ≡ Ok path
named-back [] ps n = absurd (omega (arith, n.some))
named-back (name ∷ names) ps n = rw (any-back (name ∷ names) ps n.within) refl

bytes-back : (bytes : List ℕ) → IsBytes bytes → IsFrom 1 65536 (length bytes) → bytes_of (hex_word bytes) ≡ Ok bytes
bytes-back bytes b f = rw (payload-back bytes b f.least f.most) refl

fill-byte-back : (byte : ℕ) → byte < 256 → one_byte_of (hex_word (byte ∷ [])) ≡ Ok byte
fill-byte-back byte lt = rw (byte-back byte lt) refl

-- ---- commands

pub read-op : (op : Op) → IsOp op → operation_of (op_words op) ≡ Some op
unfolding open_of read_of write_of fill_of sync_of close_of truncate_of put_of stat_of access_of make_dir_of remove_dir_of remove_of rename_of link_of sym_link_of read_link_of list_of
read-op (ops.OpenFile slot mode path) o = rw (slot-back slot o.within.0, mode-back mode, named-back path o.said o.within.1) refl
read-op (ops.Read slot offset count) o = rw (slot-back slot o.within.0, offset-back offset o.within.1, count-back count o.within.2) refl
read-op (ops.Write slot offset bytes) o = rw (slot-back slot o.within.0, offset-back offset o.within.1, bytes-back bytes o.said o.within.2) refl
read-op (ops.Fill slot offset count byte) o = rw (slot-back slot o.within.0, offset-back offset o.within.1, fill-back count o.within.2, fill-byte-back byte o.said) refl
read-op (ops.Put path offset bytes) o = rw (named-back path o.said.0 o.within.0, offset-back offset o.within.1, bytes-back bytes o.said.1 o.within.2) refl
read-op (ops.Sync slot) o = rw (slot-back slot o.within) refl
read-op (ops.Close slot) o = rw (slot-back slot o.within) refl
read-op (ops.Truncate slot size) o = rw (slot-back slot o.within.0, offset-back size o.within.1) refl
read-op (ops.Stat path) o = rw (any-back path o.said o.within) refl
read-op (ops.Access path bits) o = rw (any-back path o.said o.within.0, rights-back bits o.within.1) refl
read-op (ops.MakeDir path) o = rw (named-back path o.said o.within) refl
read-op (ops.RemoveDir path) o = rw (named-back path o.said o.within) refl
read-op (ops.Remove path) o = rw (named-back path o.said o.within) refl
read-op (ops.Rename from to) o = rw (named-back from o.said.0 o.within.0, named-back to o.said.1 o.within.1) refl
read-op (ops.Link from to) o = rw (named-back from o.said.0 o.within.0, named-back to o.said.1 o.within.1) refl
read-op (ops.SymLink path target) o = rw (named-back path o.said.0 o.within.0, target-back target o.said.1.bytes o.said.1.is) refl
read-op (ops.ReadLink path) o = rw (named-back path o.said o.within) refl
read-op (ops.List path) o = rw (any-back path o.said o.within) refl

-- ---- their words

low : (n : ℕ) → n ≤ 4611686018427387904 → n < 2 ^ 64
low n le = omega (arith, le)

few : (n : ℕ) → n ≤ 1048576 → n < 2 ^ 64
few n le = omega (arith, le)

slot-word : (slot : ℕ) → IsSlot slot → IsWord (decimal slot)
slot-word slot s = decimal-word slot (omega (arith, s.most))

mode-word : (mode : Mode) → IsWord (mode_word mode)
mode-word modes.R = word-so (codes "r") refl
mode-word modes.W = word-so (codes "w") refl
mode-word modes.RW = word-so (codes "rw") refl
mode-word modes.C = word-so (codes "c") refl
mode-word modes.X = word-so (codes "x") refl

fill-word : (byte : ℕ) → byte < 256 → IsWord (hex_word (byte ∷ []))
fill-word byte lt = hex-is-word (byte ∷ []) (only lt)
  where
    only : byte < 256 → IsBytes (byte ∷ [])
    only lt zero = lt
    only lt (suc k) = omega arith

pub op-are-words : (op : Op) → IsOp op → AreWords (op_words op)
op-are-words (ops.OpenFile slot mode path) o = (word-so (codes "open") refl, (slot-word slot o.within.0, (mode-word mode, (path-is-word path o.said, tt))))
op-are-words (ops.Read slot offset count) o = (word-so (codes "read") refl, (slot-word slot o.within.0, (decimal-word offset (low offset o.within.1), (decimal-word count (omega (arith, o.within.2)), tt))))
op-are-words (ops.Write slot offset bytes) o = (word-so (codes "write") refl, (slot-word slot o.within.0, (decimal-word offset (low offset o.within.1), (hex-is-word bytes o.said, tt))))
op-are-words (ops.Fill slot offset count byte) o = (word-so (codes "fill") refl, (slot-word slot o.within.0, (decimal-word offset (low offset o.within.1), (decimal-word count (few count o.within.2.most), (fill-word byte o.said, tt)))))
op-are-words (ops.Put path offset bytes) o = (word-so (codes "put") refl, (path-is-word path o.said.0, (decimal-word offset (low offset o.within.1), (hex-is-word bytes o.said.1, tt))))
op-are-words (ops.Sync slot) o = (word-so (codes "sync") refl, (slot-word slot o.within, tt))
op-are-words (ops.Close slot) o = (word-so (codes "close") refl, (slot-word slot o.within, tt))
op-are-words (ops.Truncate slot size) o = (word-so (codes "truncate") refl, (slot-word slot o.within.0, (decimal-word size (low size o.within.1), tt)))
op-are-words (ops.Stat path) o = (word-so (codes "stat") refl, (path-is-word path o.said, tt))
op-are-words (ops.Access path bits) o = (word-so (codes "access") refl, (path-is-word path o.said, (decimal-word bits (omega (arith, o.within.1.most)), tt)))
op-are-words (ops.MakeDir path) o = (word-so (codes "mkdir") refl, (path-is-word path o.said, tt))
op-are-words (ops.RemoveDir path) o = (word-so (codes "rmdir") refl, (path-is-word path o.said, tt))
op-are-words (ops.Remove path) o = (word-so (codes "remove") refl, (path-is-word path o.said, tt))
op-are-words (ops.Rename from to) o = (word-so (codes "rename") refl, (path-is-word from o.said.0, (path-is-word to o.said.1, tt)))
op-are-words (ops.Link from to) o = (word-so (codes "link") refl, (path-is-word from o.said.0, (path-is-word to o.said.1, tt)))
op-are-words (ops.SymLink path target) o = (word-so (codes "symlink") refl, (path-is-word path o.said.0, (shown-is-word target o.said.1.bytes (o.within.1.least), tt)))
op-are-words (ops.ReadLink path) o = (word-so (codes "readlink") refl, (path-is-word path o.said, tt))
op-are-words (ops.List path) o = (word-so (codes "list") refl, (path-is-word path o.said, tt))
