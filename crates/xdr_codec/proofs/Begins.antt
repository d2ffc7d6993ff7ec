-- Bytes to which more is appended begin with what they were.
use Rattle.std.proofs.Common.{◌≡◌, ℕ, List, [], ◌++◌, append_assoc, refl, sym, ap, ◌∙◌, length, take}
use Rattle.std.proofs.Math.Seq.{take-append_seam}
use Rattle.std.proofs.lemmas.List.{append-nil}
use Rattle.xdr_codec.specs.Spelling.{BeginsWith}

pub begins_same : (a b : List ℕ) → b ≡ a → BeginsWith a b
begins_same a b e = record { more = []; is = e ∙ sym (append-nil a) }

pub begins_more : (a b x : List ℕ) → b ≡ a ++ x → BeginsWith a b
begins_more a b x e = record { more = x; is = e }

pub begins_then : (a b c : List ℕ) → BeginsWith a b → BeginsWith b c → BeginsWith a c
begins_then a b c p q = record { more = p.more ++ q.more; is = q.is ∙ ap (λ (t : List ℕ). t ++ q.more) p.is ∙ append_assoc a p.more q.more }

-- what was there, after words that were appended to it
pub begins_a : (w a : List ℕ) → BeginsWith w (w ++ a)
begins_a w a = record { more = a; is = refl }

pub begins_b : (w a b : List ℕ) → BeginsWith w ((w ++ a) ++ b)
begins_b w a b = begins_then w (w ++ a) ((w ++ a) ++ b) (begins_a w a) (begins_a (w ++ a) b)

pub begins_c : (w a b c : List ℕ) → BeginsWith w (((w ++ a) ++ b) ++ c)
begins_c w a b c = begins_then w (w ++ a) (((w ++ a) ++ b) ++ c) (begins_a w a) (begins_b (w ++ a) b c)

pub begins_d : (w a b c d : List ℕ) → BeginsWith w ((((w ++ a) ++ b) ++ c) ++ d)
begins_d w a b c d = begins_then w (w ++ a) ((((w ++ a) ++ b) ++ c) ++ d) (begins_a w a) (begins_c (w ++ a) b c d)

pub begins_e : (w a b c d e : List ℕ) → BeginsWith w (((((w ++ a) ++ b) ++ c) ++ d) ++ e)
begins_e w a b c d e = begins_then w (w ++ a) (((((w ++ a) ++ b) ++ c) ++ d) ++ e) (begins_a w a) (begins_d (w ++ a) b c d e)

pub begins_f : (w a b c d e f : List ℕ) → BeginsWith w ((((((w ++ a) ++ b) ++ c) ++ d) ++ e) ++ f)
begins_f w a b c d e f = begins_then w (w ++ a) ((((((w ++ a) ++ b) ++ c) ++ d) ++ e) ++ f) (begins_a w a) (begins_e (w ++ a) b c d e f)

-- what was there, where the call that failed says with what it left the bytes beginning
pub after_a : (w a z : List ℕ) → BeginsWith (w ++ a) z → BeginsWith w z
after_a w a z p = begins_then w (w ++ a) z (begins_a w a) p

pub after_b : (w a b z : List ℕ) → BeginsWith ((w ++ a) ++ b) z → BeginsWith w z
after_b w a b z p = begins_then w ((w ++ a) ++ b) z (begins_b w a b) p

pub after_c : (w a b c z : List ℕ) → BeginsWith (((w ++ a) ++ b) ++ c) z → BeginsWith w z
after_c w a b c z p = begins_then w (((w ++ a) ++ b) ++ c) z (begins_c w a b c) p

pub after_d : (w a b c d z : List ℕ) → BeginsWith ((((w ++ a) ++ b) ++ c) ++ d) z → BeginsWith w z
after_d w a b c d z p = begins_then w ((((w ++ a) ++ b) ++ c) ++ d) z (begins_d w a b c d) p

pub after_e : (w a b c d e z : List ℕ) → BeginsWith (((((w ++ a) ++ b) ++ c) ++ d) ++ e) z → BeginsWith w z
after_e w a b c d e z p = begins_then w (((((w ++ a) ++ b) ++ c) ++ d) ++ e) z (begins_e w a b c d e) p

-- words that were appended one by one were appended together
pub grown_c : (w a b c : List ℕ) → ((w ++ a) ++ b) ++ c ≡ w ++ (a ++ (b ++ c))
grown_c w a b c = append_assoc (w ++ a) b c ∙ append_assoc w a (b ++ c)

pub grown_d : (w a b c d : List ℕ) → (((w ++ a) ++ b) ++ c) ++ d ≡ w ++ (a ++ (b ++ (c ++ d)))
grown_d w a b c d = grown_c (w ++ a) b c d ∙ append_assoc w a (b ++ (c ++ d))

pub grown_e : (w a b c d e : List ℕ) → ((((w ++ a) ++ b) ++ c) ++ d) ++ e ≡ w ++ (a ++ (b ++ (c ++ (d ++ e))))
grown_e w a b c d e = grown_d (w ++ a) b c d e ∙ append_assoc w a (b ++ (c ++ (d ++ e)))

pub grown_f : (w a b c d e f : List ℕ) → (((((w ++ a) ++ b) ++ c) ++ d) ++ e) ++ f ≡ w ++ (a ++ (b ++ (c ++ (d ++ (e ++ f)))))
grown_f w a b c d e f = grown_e (w ++ a) b c d e f ∙ append_assoc w a (b ++ (c ++ (d ++ (e ++ f))))

-- what is cut back to a length at which it began with the old bytes is the old bytes
pub cut_back : (old new : List ℕ) → BeginsWith old new → take (length old) new ≡ old
cut_back old new p = ap (λ (t : List ℕ). take (length old) t) p.is ∙ take-append_seam old p.more
