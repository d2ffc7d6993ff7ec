-- The test of bytes by reading them as text.
use Rattle.std.proofs.Common.{◌≡◌, ℕ, List, Result, Ok, Err, is_ok, sym, Bor}
use Rattle.std.specs.Prelude.{MatchResult}
use Rattle.std.specs.Str.{IsUtf8, is_utf8}
use Rattle.std.proofs.lemmas.Bool.{false_from_ne_true}
use Rattle.std.proofs.lemmas.Str.{is_utf8-from_IsUtf8, IsUtf8-from_is_utf8}

pub is_text : {E : Type 0} (r : Result (Bor (List ℕ)) E) (bytes : List ℕ) → MatchResult r (λ s. (s.now ≡ bytes) × IsUtf8 bytes) (λ _. ¬ (IsUtf8 bytes)) → is_ok r ≡ is_utf8 bytes
is_text (Ok s) bytes h = sym (is_utf8-from_IsUtf8 bytes h.1)
is_text (Err e) bytes h = sym (false_from_ne_true (is_utf8 bytes) (λ t. h (IsUtf8-from_is_utf8 bytes t)))
