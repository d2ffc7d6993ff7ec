-- What the words around `--portmap` name.
use Rattle.std.proofs.Common.{◌≡◌, ◌<◌, ◌+◌, ℕ, zero, suc, true, false, List, [], ◌∷◌, ◌++◌, map, length, take, drop, get_or, Option, Some, None, refl, sym, ap, ◌∙◌, string_bytes, arith}
use Rattle.std.specs.List.{list_any, position_or_len, before_first, after_first}
use Rattle.std.proofs.lemmas.List.{drop-map, drop_more, length-drop, length-map}
use Rattle.script_text.specs.Numbers.{number_of}
use Rattle.port_words.specs.declared.portmap.Portmap.{Portmap as Named}
use Rattle.port_words.specs.Portmaps.{is_portmap, gives_port, NamesOne, Names}

take_map : {A : Type 0} (text : A → List ℕ) (n : ℕ) (xs : List A) → take n (map text xs) ≡ map text (take n xs)
take_map text zero xs = refl
take_map text (suc n) [] = refl
take_map text (suc n) (x ∷ xs) = ap (λ (ws : List (List ℕ)). text x ∷ ws) (take_map text n xs)

drop_next : {A : Type 0} (xs : List A) (k : ℕ) (m : A) (rest : List A) → drop k xs ≡ m ∷ rest → drop (k + 1) xs ≡ rest
drop_next {A = A} xs k m rest is =
    let lt : k < length xs = omega (arith, length-drop k xs, ap length is) in
    sym (ap (λ (ys : List A). drop 1 ys) (drop_more xs k m lt)) ∙ ap (λ (ys : List A). drop 1 ys) is

after_is : {A : Type 0} (text : A → List ℕ) (xs : List A) (k : ℕ) (m : A) (rest : List A) → k ≡ position_or_len is_portmap (map text xs) → drop k xs ≡ m ∷ rest → after_first is_portmap (map text xs) ≡ map text rest
after_is {A = A} text xs k m rest e is =
    ap (λ (n : ℕ). drop (n + 1) (map text xs)) (sym e) ∙ drop-map text (k + 1) xs ∙ ap (λ (ys : List A). map text ys) (drop_next xs k m rest is)

pub names_one : {A : Type 0} (text : A → List ℕ) (xs : List A) (k : ℕ) (m digits : A) (rest after : List A) (port : ℕ) (others : List (List ℕ)) → k ≡ position_or_len is_portmap (map text xs) → drop k xs ≡ m ∷ rest → rest ≡ digits ∷ after
    → number_of 1 65535 (text digits) ≡ Some port → others ≡ map text (take k xs) ++ map text after → gives_port others ≡ false → NamesOne (map text xs) port others
names_one {A = A} text xs k m digits rest after port others e is more number all free = record {
  digits = text digits;
  after = map text after;
  is = after_is text xs k m rest e is ∙ ap (λ (ys : List A). map text ys) more;
  number = number;
  rest = all ∙ ap (λ (ws : List (List ℕ)). ws ++ map text after) (sym (take_map text k xs) ∙ ap (λ (n : ℕ). take n (map text xs)) e);
  free = free;
}

-- ---- what names none

pub no_digits : {A : Type 0} (text : A → List ℕ) (xs : List A) (k : ℕ) (m : A) (rest : List A) → k ≡ position_or_len is_portmap (map text xs) → drop k xs ≡ m ∷ rest → length rest ≡ 0
    → (port : ℕ) (others : List (List ℕ)) → ¬ NamesOne (map text xs) port others
no_digits text xs k m rest e is none port others r = omega (arith, ap length (sym (after_is text xs k m rest e is) ∙ r.is), length-map rest text, none)

digits_are : {A : Type 0} (text : A → List ℕ) (xs : List A) (k : ℕ) (m digits : A) (rest after : List A) (port : ℕ) (others : List (List ℕ)) → k ≡ position_or_len is_portmap (map text xs) → drop k xs ≡ m ∷ rest → rest ≡ digits ∷ after
    → (r : NamesOne (map text xs) port others) → text digits ∷ map text after ≡ r.digits ∷ r.after
digits_are {A = A} text xs k m digits rest after port others e is more r = sym (after_is text xs k m rest e is ∙ ap (λ (ys : List A). map text ys) more) ∙ r.is

pub no_port : {A : Type 0} (text : A → List ℕ) (xs : List A) (k : ℕ) (m digits : A) (rest after : List A) → k ≡ position_or_len is_portmap (map text xs) → drop k xs ≡ m ∷ rest → rest ≡ digits ∷ after → number_of 1 65535 (text digits) ≡ None
    → (port : ℕ) (others : List (List ℕ)) → ¬ NamesOne (map text xs) port others
no_port text xs k m digits rest after e is more none port others r =
    let same = ap (λ (ws : List (List ℕ)). get_or ws 0 []) (digits_are text xs k m digits rest after port others e is more r) in
    let some : None ≡ Some port = sym none ∙ ap (number_of 1 65535) same ∙ r.number in
    absurd cc

pub port_given : {A : Type 0} (text : A → List ℕ) (xs : List A) (k : ℕ) (m digits : A) (rest after : List A) (all : List (List ℕ)) → k ≡ position_or_len is_portmap (map text xs) → drop k xs ≡ m ∷ rest → rest ≡ digits ∷ after
    → all ≡ map text (take k xs) ++ map text after → gives_port all ≡ true → (port : ℕ) (others : List (List ℕ)) → ¬ NamesOne (map text xs) port others
port_given text xs k m digits rest after all e is more joined given port others r =
    let same : map text after ≡ r.after = ap (λ (ws : List (List ℕ)). drop 1 ws) (digits_are text xs k m digits rest after port others e is more r) in
    let front : map text (take k xs) ≡ before_first is_portmap (map text xs) = sym (take_map text k xs) ∙ ap (λ (n : ℕ). take n (map text xs)) e in
    let both : all ≡ others = joined ∙ ap (λ (ws : List (List ℕ)). ws ++ map text after) front ∙ ap (λ (ws : List (List ℕ)). before_first is_portmap (map text xs) ++ ws) same ∙ sym r.rest in
    let clash : true ≡ false = sym given ∙ ap gives_port both ∙ r.free in
    absurd cc

pub refused_by : (words : List (List ℕ)) → list_any is_portmap words ≡ true → ((port : ℕ) (others : List (List ℕ)) → ¬ NamesOne words port others) → (p : Option Named) → ¬ Names words p
refused_by words found never None n = absurd cc
refused_by words found never (Some p) n = never p.port (map string_bytes p.others.items) n
