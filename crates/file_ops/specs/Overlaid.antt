-- What a read shows: what the server has, with what this client has pending over it.
use Rattle.std.specs.Prelude.{◌≡◌, ⊤, ℕ, zero, suc, ◌-◌, ◌==◌, min, max, if◌then◌else◌, List, [], ◌∷◌, ◌++◌, length, drop, replicate, slice_get, Option, None, Some, unwrap_or}
use Rattle.std.specs.Option.{option_map_or}
use Rattle.write_back.specs.Segments.{shown, last_end}
use Rattle.write_back.specs.Files.{Pending, of_file}
use Rattle.file_ops.specs.Base.{Bytes}
use Rattle.file_ops.specs.declared.overlaid.PendingBytes.{PendingBytes}

-- so many bytes, each by its place
abbrev pub listed : (ℕ → ℕ) → ℕ → List ℕ
listed f zero = []
listed f (suc n) = listed f n ++ f n ∷ []

-- the byte at a place, or another if there is none
abbrev pub byte_or : List ℕ → ℕ → ℕ → ℕ
byte_or bytes at other = unwrap_or (slice_get bytes at) other

-- What was pending of a range: over zeros, and over bytes of 255, which are alike where a byte was pending; and where the last
-- pending byte of the file ended.
pub record PendingThen : Type 0 where
  pub lows : List ℕ
  pub highs : List ℕ
  pub end : Option ℕ

abbrev pub was_pending : List ℕ → ℕ → ℕ → Pending → PendingThen
was_pending file offset count back = record {
  lows = shown (of_file file back).segments offset (replicate count 0);
  highs = shown (of_file file back).segments offset (replicate count 255);
  end = last_end (of_file file back).segments;
}

-- the same from what is kept of it: without bytes none was pending of the range
abbrev pub pending_then : ℕ → Option PendingBytes → Option ℕ → PendingThen
pending_then count None end = record { lows = replicate count 0; highs = replicate count 255; end = end }
pending_then count (Some kept) end = record { lows = kept.lows; highs = kept.highs; end = end }

-- The two lists that are kept are of one length.
abbrev pub AreEven : Option PendingBytes → Type 0
AreEven None = ⊤
AreEven (Some kept) = length kept.lows ≡ length kept.highs

-- a byte if it is like another, or else a third one
abbrev pub alike_or : ℕ → ℕ → ℕ → ℕ
alike_or low high other = if low == high then low else other

-- the byte that was pending at a place, or else the server's, or else zero
abbrev pub byte_shown : List ℕ → PendingThen → ℕ → ℕ
byte_shown base was at = if byte_or was.lows at 0 == byte_or was.highs at 255 then byte_or was.lows at 0 else byte_or base at 0

-- how many bytes there are from a place on to an end
abbrev pub size_to : ℕ → Option ℕ → ℕ
size_to offset end = option_map_or (λ e. e - offset) end 0

-- A read shows bytes up to the end of the server's or of those pending then or now, at most as many as asked.
abbrev pub size_shown : ℕ → ℕ → List ℕ → Option ℕ → Option ℕ → ℕ
size_shown offset count base end_then end_now = min count (max (max (size_to offset end_then) (size_to offset end_now)) (length base))

-- what a read shows, of the server's bytes from its offset on
abbrev pub shown_over : List ℕ → ℕ → ℕ → List ℕ → PendingThen → Pending → List ℕ
shown_over file offset count base was back =
    shown (of_file file back).segments offset (listed (byte_shown base was) (size_shown offset count base was.end (last_end (of_file file back).segments)))

-- the bytes from an offset of the file on
abbrev pub bytes_from : ℕ → Bytes → List ℕ
bytes_from offset b = drop (offset - b.start) b.bytes
