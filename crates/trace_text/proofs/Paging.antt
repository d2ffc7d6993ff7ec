-- A text that is written piece by piece.
use Rattle.std.proofs.Common.{◌≡◌, ◌<◌, ◌+◌, ℕ, suc, List, [], ◌∷◌, ◌++◌, length, take, get_or, slice_get, Bool, true, false, Option, Some, None, is_some, All, refl, sym, ap, ◌∙◌, subst, arith, append_assoc, length-append}
use Rattle.std.specs.Prelude.{codes, nat_lt, if◌then◌else◌}
use Rattle.std.specs.List.{flat_map}
use Rattle.std.proofs.lemmas.Bool.{ltb-true, lt-ltb}
use Rattle.std.proofs.lemmas.List.{append-nil, take_more}
use Rattle.std.proofs.lemmas.List.Concat.{flat_map-append}
use Rattle.world_model.specs.Transcript.{shown, shown_byte}
use Rattle.nfs_types.specs.declared.verf.Verf.{Verf}
use Rattle.trace_data.specs.declared.trace.Object.{Object}
use Rattle.trace_data.specs.declared.trace.Trace.{Trace}
use Rattle.trace_data.specs.declared.trace.Update.{Update}
use Rattle.trace_data.specs.declared.trace.Updated.{Updated}
use Rattle.trace_data.specs.Histories.{named, verf_at}
use Rattle.world_model.specs.declared.entry.Entry.{Entry}
use Rattle.trace_text.specs.declared.object_texts.Part.{Part}
use Rattle.trace_text.specs.Pages.{within, put, is_none}
use Rattle.trace_text.specs.Texts.{IsSpelled, again_in, changed_text, changes_text, entry_text_of, first_of, firsts, head_text, is_again, place_text, slashed, start_text, step_text, steps_text, text_of}

-- ---- pieces

pub put_nil : (page : Option (List ℕ)) → page ≡ put page []
put_nil None = refl
put_nil (Some text) = refl

too-long : (text bytes : List ℕ) → nat_lt 1048576 (length text) ≡ true → None ≡ within (text ++ bytes)
too-long text bytes e =
    let lt : 1048576 < length text = ltb-true 1048576 (length text) e in
    let all : length (text ++ bytes) ≡ length text + length bytes = length-append text bytes in
    let more : nat_lt 1048576 (length (text ++ bytes)) ≡ true = lt-ltb 1048576 (length (text ++ bytes)) (omega (arith, lt, all)) in
    sym (ap (λ (b : Bool). if b then None else Some (text ++ bytes)) more)

put-within : (text bytes : List ℕ) (b : ℕ) → put (within text) (b ∷ bytes) ≡ within (text ++ b ∷ bytes)
put-within text bytes b = by (nat_lt 1048576 (length text)) refl
  where
    by : (t : Bool) → nat_lt 1048576 (length text) ≡ t → put (if t then None else Some text) (b ∷ bytes) ≡ within (text ++ b ∷ bytes)
    by true e = too-long text (b ∷ bytes) e
    by false e = refl

-- two pieces one after the other
pub put_put : (page : Option (List ℕ)) (a b : List ℕ) → put (put page a) b ≡ put page (a ++ b)
put_put None a b = refl
put_put (Some text) [] b = refl
put_put (Some text) (x ∷ a) [] = sym (put_nil (put (Some text) (x ∷ a))) ∙ ap (put (Some text)) (sym (append-nil (x ∷ a)))
put_put (Some text) (x ∷ a) (y ∷ b) = put-within (text ++ x ∷ a) b y ∙ ap within (append_assoc text (x ∷ a) (y ∷ b))

-- the same of three pages
pub then_put : (first second third : Option (List ℕ)) (a b : List ℕ) → second ≡ put first a → third ≡ put second b → third ≡ put first (a ++ b)
then_put first second third a b e f = f ∙ ap (λ (p : Option (List ℕ)). put p b) e ∙ put_put first a b

-- nothing is written once there is no text
pub put_full : (page : Option (List ℕ)) (bytes : List ℕ) → true ≡ is_none page → page ≡ put page bytes
put_full None bytes e = refl
put_full (Some text) bytes e = absurd (clash e)
  where
    clash : true ≡ false → ⊥
    clash e = cc e

-- a piece more of some that are written one after the other
pub put_more : (first now next : Option (List ℕ)) (done piece all : List ℕ) → all ≡ done ++ piece → now ≡ put first done → next ≡ put now piece → next ≡ put first all
put_more first now next done piece all is e f = then_put first now next done piece e f ∙ ap (put first) (sym is)

-- ---- lists

pub pieces_more : {X : Type 0} (f : X → List ℕ) (xs : List X) (i : ℕ) (x : X) → i < length xs → x ≡ get_or xs i x → flat_map f (take (i + 1) xs) ≡ flat_map f (take i xs) ++ f x
pieces_more f xs i x lt is =
    let taken : take (i + 1) xs ≡ take i xs ++ x ∷ [] = take_more xs i x lt ∙ ap (λ y. take i xs ++ y ∷ []) (sym is) in
    ap (flat_map f) taken ∙ flat_map-append f (take i xs) (x ∷ []) ∙ ap (λ (k : List ℕ). flat_map f (take i xs) ++ k) (append-nil (f x))

-- ---- names and what is shown

shown-push : (bytes : List ℕ) (byte : ℕ) → shown (bytes ++ byte ∷ []) ≡ shown bytes ++ shown_byte byte
unfolding shown
shown-push [] byte = append-nil (shown_byte byte)
shown-push (x ∷ bytes) byte = ap (λ (k : List ℕ). shown_byte x ++ k) (shown-push bytes byte) ∙ sym (append_assoc (shown_byte x) (shown bytes) (shown_byte byte))

pub shown_more : (bytes : List ℕ) (i d : ℕ) → i < length bytes → shown (take (i + 1) bytes) ≡ shown (take i bytes) ++ shown_byte (get_or bytes i d)
shown_more bytes i d lt = ap shown (take_more bytes i d lt) ∙ shown-push (take i bytes) (get_or bytes i d)

slashed-push : (names : List (List ℕ)) (name : List ℕ) → slashed (names ++ name ∷ []) ≡ slashed names ++ slashed (name ∷ [])
unfolding slashed
slashed-push [] name = refl
slashed-push (x ∷ names) name =
    ap (λ (k : List ℕ). codes "/" ++ shown x ++ k) (slashed-push names name)
    ∙ ap (λ (k : List ℕ). codes "/" ++ k) (sym (append_assoc (shown x) (slashed names) (slashed (name ∷ []))))

slashed-one : (name : List ℕ) → slashed (name ∷ []) ≡ codes "/" ++ shown name
unfolding slashed
slashed-one name = append-nil (codes "/" ++ shown name)

pub slashed_more : (names : List (List ℕ)) (i : ℕ) (name : List ℕ) → i < length names → name ≡ get_or names i name → slashed (take (i + 1) names) ≡ slashed (take i names) ++ (codes "/" ++ shown name)
slashed_more names i name lt is =
    let taken : take (i + 1) names ≡ take i names ++ name ∷ [] = take_more names i name lt ∙ ap (λ (k : List ℕ). take i names ++ k ∷ []) (sym is) in
    ap slashed taken ∙ slashed-push (take i names) name ∙ ap (λ (k : List ℕ). slashed (take i names) ++ k) (slashed-one name)

-- nothing is shown of nothing
pub shown_none : (page : Option (List ℕ)) → page ≡ put page (shown [])
unfolding shown
shown_none page = put_nil page

pub slashed_none : (page : Option (List ℕ)) → page ≡ put page (slashed [])
unfolding slashed
slashed_none page = put_nil page

-- ---- entries and objects

pub steps_more : (trace : Trace) (n : ℕ) → steps_text trace (n + 1) ≡ steps_text trace n ++ step_text trace n
steps_more trace n = let next : n + 1 ≡ suc n = omega arith in ap (steps_text trace) next

pub firsts_more : (f : Updated → List ℕ) (objects : List Updated) (n : ℕ)
    → flat_map f (firsts objects (n + 1)) ≡ flat_map f (firsts objects n) ++ flat_map f (first_of (take n objects) (slice_get objects n))
firsts_more f objects n =
    let next : n + 1 ≡ suc n = omega arith in
    ap (λ (k : ℕ). flat_map f (firsts objects k)) next ∙ flat_map-append f (firsts objects n) (first_of (take n objects) (slice_get objects n))

-- an object whose file handle one before it has
pub place_again : (was : List ℕ → Option Object) (part : Part) (objects : List Updated) (n : ℕ) → is_again objects n ≡ true → [] ≡ place_text was part objects n
place_again was part objects n e = by (slice_get objects n) e
  where
    by : (o : Option Updated) → again_in (take n objects) o ≡ true → [] ≡ flat_map (changed_text was part) (first_of (take n objects) o)
    by None e = refl
    by (Some u) e = sym (ap (λ (t : Bool). flat_map (changed_text was part) (if t then [] else u ∷ [])) e)

-- an object whose file handle none before it has
pub place_once : (was : List ℕ → Option Object) (part : Part) (objects : List Updated) (n : ℕ) (u : Updated) → slice_get objects n ≡ Some u → is_again objects n ≡ false
    → changed_text was part u ≡ place_text was part objects n
place_once was part objects n u is e =
    let again : is_some (named (take n objects) u.handle) ≡ false = sym (ap (again_in (take n objects)) is) ∙ e in
    sym (ap (λ (o : Option Updated). flat_map (changed_text was part) (first_of (take n objects) o)) is
    ∙ ap (λ (t : Bool). flat_map (changed_text was part) (if t then [] else u ∷ [])) again ∙ append-nil (changed_text was part u))

-- ---- a step

pub step_parts : (trace : Trace) (n : ℕ) → step_text trace n ≡ entry_text_of (slice_get trace.entries.items n) ++ changes_text trace n
unfolding step_text
step_parts trace n = refl

-- bytes can spell the entry at a place
pub spelled_at : (es : List Entry) (n : ℕ) (entry : Entry) → All IsSpelled es → n < length es → entry ≡ get_or es n entry → IsSpelled entry
spelled_at es n entry all lt is = subst IsSpelled (sym is) (all n entry lt)

pub verf_next : (start : Verf) (us : List Update) (n : ℕ) → verf_at start us (n + 1) ≡ verf_at start us (suc n)
verf_next start us n = let next : n + 1 ≡ suc n = omega arith in ap (verf_at start us) next

-- ---- the whole

pub all_put : (trace : Trace) (first second third last : Option (List ℕ)) → second ≡ put first (head_text trace) → third ≡ put second (start_text trace)
    → last ≡ put third (steps_text trace (length trace.entries.items)) → last ≡ put first (text_of trace)
unfolding text_of
all_put trace first second third last d e f =
    then_put first third last (head_text trace ++ start_text trace) (steps_text trace (length trace.entries.items)) (then_put first second third (head_text trace) (start_text trace) d e) f
