-- The bytes of a text from its front on.
use Rattle.std.proofs.Common.{◌≡◌, ◌<◌, ◌++◌, ℕ, List, [], ◌∷◌, length, Bool, true, false, cond, ◌==◌, Option, Some, None, refl, sym, ap, arith, suc, append_assoc, append-nil}
use Rattle.std.specs.Option.{option_map}
use Rattle.script_text.specs.Paths.{decoded, first_decoded, first_escaped, escaped, before}

abbrev second : Option (ℕ × List ℕ) → List ℕ
second None = []
second (Some p) = p.1

-- a byte before what the rest of a text stands for
abbrev pub onto : Option (ℕ × List ℕ) → Option (List ℕ)
onto None = None
onto (Some p) = before (Some p.0) (decoded p.1)

moved : (byte : Option ℕ) (text : List ℕ) → before byte (decoded text) ≡ onto (option_map (λ b. (b, text)) byte)
moved None text = refl
moved (Some b) text = refl

-- the first byte and the others
pub decoded_first : (b : ℕ) (text : List ℕ) → decoded (b ∷ text) ≡ onto (first_decoded (b ∷ text))
unfolding decoded
decoded_first b [] = elim (b == 37) as (λ t. cond t None (Some (b ∷ [])) ≡ onto (cond t None (Some (b, [])))) [ true ↦ refl | false ↦ refl ]
decoded_first b (c ∷ []) = elim (b == 37) as (λ t. cond t None (before (Some b) (decoded (c ∷ []))) ≡ onto (cond t None (Some (b, c ∷ [])))) [ true ↦ refl | false ↦ refl ]
decoded_first b (c ∷ d ∷ text) = elim (b == 37) as (λ t. cond t (before (escaped c d) (decoded text)) (before (Some b) (decoded (c ∷ d ∷ text))) ≡ onto (cond t (first_escaped (c ∷ d ∷ text)) (Some (b, c ∷ d ∷ text)))) [ true ↦ moved (escaped c d) text | false ↦ refl ]

-- what was read before what a text stands for
abbrev pub read_before : List ℕ → Option (List ℕ) → Option (List ℕ)
read_before read rest = option_map (λ more. read ++ more) rest

pub read_one : (read : List ℕ) (b : ℕ) (rest : Option (List ℕ)) → read_before read (before (Some b) rest) ≡ read_before (read ++ b ∷ []) rest
read_one read b None = refl
read_one read b (Some more) = ap (λ l. Some l) (sym (append_assoc read (b ∷ []) more))

pub nothing_read : (rest : Option (List ℕ)) → rest ≡ read_before [] rest
nothing_read None = refl
nothing_read (Some more) = refl

-- at a text that begins with no byte
pub stuck : (text read rest : List ℕ) → decoded text ≡ read_before read (decoded rest) → 0 < length rest → None ≡ first_decoded rest → None ≡ decoded text
stuck text read [] e some h = absurd (omega (arith, some))
stuck text read (b ∷ rest) e some h = rw (e, decoded_first b rest, ← h) refl

-- one byte more was read
pub goes_on : (text read rest after : List ℕ) (b : ℕ) → decoded text ≡ read_before read (decoded rest) → 0 < length rest → Some (b, after) ≡ first_decoded rest → decoded text ≡ read_before (read ++ b ∷ []) (decoded after)
goes_on text read [] after b e some h = absurd (omega (arith, some))
goes_on text read (c ∷ rest) after b e some h = rw (e, decoded_first c rest, ← h) (read_one read b (decoded after))

-- all was read
pub ends : (text read rest : List ℕ) → decoded text ≡ read_before read (decoded rest) → length rest ≡ 0 → Some read ≡ decoded text
unfolding decoded
ends text read [] e none = rw e (ap (λ l. Some l) (sym (append-nil read)))
ends text read (b ∷ rest) e none = absurd (omega (arith, none))

-- what follows the first byte is shorter
pub shorter : (rest after : List ℕ) (b : ℕ) → ◌≡◌ {A = Option (ℕ × List ℕ)} (Some (b, after)) (first_decoded rest) → length after < length rest
shorter [] after b h = absurd cc
shorter (c ∷ rest) after b h = go (c == 37) rest h
  where
    of_escape : (o : Option ℕ) (rest text : List ℕ) → ◌≡◌ {A = Option (ℕ × List ℕ)} (Some (b, after)) (option_map (λ byte. (byte, text)) o) → length text < length rest → length after < suc (length rest)
    of_escape None rest text h s = absurd cc
    of_escape (Some byte) rest text h s = let e : after ≡ text = ap (λ (o : Option (ℕ × List ℕ)). second o) h in omega (arith, ap (λ (l : List ℕ). length l) e, s)

    go : (t : Bool) (rest : List ℕ) → ◌≡◌ {A = Option (ℕ × List ℕ)} (Some (b, after)) (cond t (first_escaped rest) (Some (c, rest))) → length after < suc (length rest)
    go false rest h = let e : after ≡ rest = ap (λ (o : Option (ℕ × List ℕ)). second o) h in omega (arith, ap (λ (l : List ℕ). length l) e)
    go true [] h = absurd cc
    go true (x ∷ []) h = absurd cc
    go true (x ∷ y ∷ text) h = of_escape (escaped x y) (x ∷ y ∷ text) text h (omega arith)
