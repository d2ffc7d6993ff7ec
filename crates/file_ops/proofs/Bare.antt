-- What a read shows where nothing is pending: the server's bytes.
use Rattle.std.proofs.Common.{◌≡◌, ◌+◌, ◌≤◌, ◌<◌, length, ℕ, List, [], ◌∷◌, take, false, Option, None, Some, is_some, unwrap_or, refl, ap, sym, ◌∙◌, get_or-take, arith}
use Rattle.std.proofs.lemmas.List.{length-take}
use Rattle.std.proofs.lemmas.Option.{unwrap_or-slice_get}
use Rattle.write_back.specs.Segments.{Segments, shown, newest_at, last_end}
use Rattle.write_back.specs.Sound.{IsSound}
use Rattle.write_back.specs.Files.{Pending, of_file}
use Rattle.file_ops.specs.Overlaid.{listed, byte_or, byte_shown, pending_then, size_to, size_shown, shown_over}
use Rattle.file_ops.specs.declared.overlaid.PendingBytes.{PendingBytes}
use Rattle.file_ops.proofs.Overlays.{is-listed, none-shown, clear-from}

-- where nothing is pending from a place on, any bytes there are shown as they are
clear-shown : (es : Segments) (place : ℕ) (bytes : List ℕ) → ((at : ℕ) → place ≤ at → newest_at es at ≡ None) → shown es place bytes ≡ bytes
clear-shown es place [] none = refl
clear-shown es place (b ∷ bytes) none =
    ap (λ o. unwrap_or o b ∷ shown es (place + 1) bytes) (none place (omega arith))
    ∙ ap {B = List ℕ} (λ bs. b ∷ bs) (clear-shown es (place + 1) bytes (λ at le. none at (omega (arith, le))))

-- where nothing was pending, the first bytes by place are the first of the server's
front-shown : (count : ℕ) (end : Option ℕ) (base : List ℕ) (size : ℕ) → size ≤ length base
    → listed (byte_shown base (pending_then count None end)) size ≡ take size base
front-shown count end base size within = sym (is-listed (byte_shown base (pending_then count None end)) size (take size base) long by)
  where
    long : length (take size base) ≡ size
    long = omega (arith, length-take size base, within)

    by : (i : ℕ) → i < size → byte_or (take size base) i 0 ≡ byte_shown base (pending_then count None end) i
    by i lt = unwrap_or-slice_get (take size base) i 0 ∙ get_or-take size base i 0 lt ∙ sym (unwrap_or-slice_get base i 0) ∙ sym (none-shown count end base i)

-- what is shown then
pub bare-shown : (file : List ℕ) (offset count : ℕ) (base : List ℕ) (kept : Option PendingBytes) (most : ℕ) (end : Option ℕ) (back : Pending) (size : ℕ)
    → IsSound (of_file file back) → is_some kept ≡ false → size_to offset (last_end (of_file file back).segments) ≡ 0
    → size ≡ size_shown offset count base end (last_end (of_file file back).segments) → size ≤ length base
    → shown_over file offset count base (pending_then most kept end) back ≡ take size base
bare-shown file offset count base (Some bytes) most end back size sound none clear is within = absurd (cc none)
bare-shown file offset count base None most end back size sound none clear is within =
    clear-shown (of_file file back).segments offset (listed (byte_shown base (pending_then most None end)) (size_shown offset count base end (last_end (of_file file back).segments)))
    (λ at le. clear-from (of_file file back) offset at sound clear le)
    ∙ ap (λ n. listed (byte_shown base (pending_then most None end)) n) (sym is) ∙ front-shown most end base size within
