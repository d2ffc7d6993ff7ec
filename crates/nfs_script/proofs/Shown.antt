-- Names and texts that are shown byte by byte.
use Rattle.std.proofs.Common.{◌≡◌, ◌<◌, ◌+◌, ℕ, Bool, true, false, if◌then◌else◌, List, [], ◌∷◌, ◌++◌, length, take, get_or, codes, refl, sym, ap, ◌∙◌, append_assoc, arith}
use Rattle.std.proofs.lemmas.List.{append-nil, take_more}
use Rattle.hex.specs.Hex.{encode_lower}
use Rattle.world_model.specs.Transcript.{is_shown, shown_byte, shown, spaced, names_text}

-- ---- what is shown of bytes

shown_push : (bytes : List ℕ) (byte : ℕ) → shown (bytes ++ byte ∷ []) ≡ shown bytes ++ shown_byte byte
unfolding shown
shown_push [] byte = append-nil (shown_byte byte)
shown_push (x ∷ bytes) byte = ap (λ (k : List ℕ). shown_byte x ++ k) (shown_push bytes byte) ∙ sym (append_assoc (shown_byte x) (shown bytes) (shown_byte byte))

pub shown_step : (old now next bytes : List ℕ) (i d : ℕ) → i < length bytes → now ≡ old ++ shown (take i bytes) → next ≡ now ++ shown_byte (get_or bytes i d)
    → next ≡ old ++ shown (take (i + 1) bytes)
shown_step old now next bytes i d lt h e =
    let more : shown (take (i + 1) bytes) ≡ shown (take i bytes) ++ shown_byte (get_or bytes i d) = ap shown (take_more bytes i d lt) ∙ shown_push (take i bytes) (get_or bytes i d) in
    e ∙ ap (λ (k : List ℕ). k ++ shown_byte (get_or bytes i d)) h ∙ append_assoc old (shown (take i bytes)) (shown_byte (get_or bytes i d)) ∙ ap (λ (k : List ℕ). old ++ k) (sym more)

spaced_front : (as_it_is : Bool) (byte : ℕ) (rest : List ℕ)
    → spaced ((if as_it_is then byte ∷ [] else 37 ∷ encode_lower (byte ∷ [])) ++ rest) ≡ codes " " ++ ((if as_it_is then byte ∷ [] else 37 ∷ encode_lower (byte ∷ [])) ++ rest)
spaced_front true byte rest = refl
spaced_front false byte rest = refl

-- where there are bytes, something is shown
pub spaced_shown : (bytes : List ℕ) → 0 < length bytes → spaced (shown bytes) ≡ codes " " ++ shown bytes
unfolding shown
spaced_shown [] h = absurd (omega arith)
spaced_shown (x ∷ bytes) h = spaced_front (is_shown x) x (shown bytes)

pub shown_none : (old text : List ℕ) → length text ≡ 0 → old ≡ old ++ spaced (shown text)
unfolding shown
shown_none old [] h = sym (append-nil old)
shown_none old (x ∷ text) h = cc h

pub shown_start : (old : List ℕ) → old ≡ old ++ shown []
unfolding shown
shown_start old = sym (append-nil old)

-- ---- names

pub names_start : (old : List ℕ) → old ≡ old ++ names_text []
unfolding names_text
names_start old = sym (append-nil old)

names_push : (names : List (List ℕ)) (name : List ℕ) → names_text (names ++ name ∷ []) ≡ names_text names ++ (codes " " ++ shown name)
unfolding names_text
names_push [] name = append-nil (codes " " ++ shown name)
names_push (x ∷ names) name =
    ap (λ (k : List ℕ). codes " " ++ shown x ++ k) (names_push names name) ∙ ap (λ (k : List ℕ). codes " " ++ k) (sym (append_assoc (shown x) (names_text names) (codes " " ++ shown name)))

pub names_step : (old now next : List ℕ) (names : List (List ℕ)) (i : ℕ) (name : List ℕ) → i < length names → name ≡ get_or names i name → now ≡ old ++ names_text (take i names)
    → next ≡ now ++ (codes " " ++ shown name) → next ≡ old ++ names_text (take (i + 1) names)
names_step old now next names i name lt is h e =
    let word : List ℕ = codes " " ++ shown name in
    let taken : take (i + 1) names ≡ take i names ++ name ∷ [] = take_more names i name lt ∙ ap (λ (k : List ℕ). take i names ++ k ∷ []) (sym is) in
    let more : names_text (take (i + 1) names) ≡ names_text (take i names) ++ word = ap names_text taken ∙ names_push (take i names) name in
    e ∙ ap (λ (k : List ℕ). k ++ word) h ∙ append_assoc old (names_text (take i names)) word ∙ ap (λ (k : List ℕ). old ++ k) (sym more)
