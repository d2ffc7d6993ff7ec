-- Two walks of `clap` over command lines that differ in the ports alone, word by word.
use Rattle.std.proofs.Common.{inl, inr, ◌⊎◌, ◌≡◌, ◌+◌, ℕ, zero, suc, Bool, true, false, ◌&&◌, ◌||◌, ◌==◌, not, List, [], ◌∷◌, ◌++◌, length, Option, Some, None, is_some, refl, sym, ap, subst, ◌∙◌}
use Rattle.std.specs.Prelude.{fold, slice_get, drop, encode_utf8, nat_lt, if◌then◌else◌}
use Rattle.std.specs.List.{list_any}
use Rattle.std.specs.Option.{option_map_or}
use Rattle.std.specs.Str.{bytes_eq, chars}
use Rattle.clap.specs.Lexer.{long_of, short_of}
use Rattle.clap.specs.Faults.{check_fault, defaults_fault, use_fault, settle_fault, react_fault, option_fault, long_fault, short_fault, bundle_step_fault, flags_fault, bundle_fault, flag_word_fault, other_fault, word_fault, positional_fault, step_fault, stray_fault, turn_fault, walk_fault}
use Rattle.clap.specs.Kinds.{Kinds, check_kinds, or_else}
use Rattle.clap.specs.Takes.{is_given}
use Rattle.clap.specs.Simple.{Shape}
use Rattle.clap.specs.Walk.{Held, Outcome, done, waits, plain, refused, Row, Rule, Step, next, trailing, subcommand, value, Text, Waiting, idle, option, positional, Walk, after_flag, after_step, arg_by_id, arg_by_index, arg_by_long, arg_by_short, attached_value, bundle, bundle_met, bundle_step, finished, flag_met, has_long, has_short, is_multiple, is_pending, long_met, long_or_other, most_values, option_met, option_word, pending_count, plain_word, positional_held, pushed, reacted, settled, settled_rows, short_met, short_or_plain, started, subcommand_met, subcommand_or_other, takes_several, takes_values, to_positional, used, used_by_id, walked, with_default, word_met}
use Rattle.clap.specs.declared.builder.value_parser.Reading.{Reading}
use Rattle.clap.specs.declared.error.kind.ErrorKind.TheVariants as kind
use Rattle.run_ports.proofs.Rows.{first_none, second_none, both_none, IsFine, AreFine, FoundFine, found_fine, given_row, left, right, Rows, uses, defaults_past, given_same}

abbrev is_option : Waiting → Bool
is_option (option id) = true
is_option w = false

-- what a flag word comes to leaves an option that waits
abbrev leaves_option : Outcome → Bool
leaves_option (waits id) = true
leaves_option o = false

-- whether an option waits after the step
abbrev option_after : Waiting → Step → Bool
option_after old (next w) = is_option w
option_after old (trailing p) = is_option old
option_after old (subcommand name) = is_option old
option_after old value = false

abbrev some_pending : Text × List Text → Option (Text × List Text)
some_pending p = Some p

abbrev waits_on : Text → Bool → Waiting
waits_on id more = if more then option id else idle

chosen : {X : Type 0} → (t : Bool) (x y : X) → t ≡ false → (if t then x else y) ≡ y
chosen t x y e = rw e refl

and_false : (x : Bool) → (x && false) ≡ false
and_false true = refl
and_false false = refl

-- between two words, at no subcommand
abbrev pub at_walk : Held → Waiting → ℕ → Bool → Walk
at_walk h w position t = record { held = h; waiting = w; position = position; is_trailing = t; stopped = None }

module _ (s : Shape) (over : s.args_override_self ≡ false) (fine : AreFine s.rules) (a b : Text) (ha hb : Reading) (m n m' n' : Text) where
  abbrev pub L : List Row → List Row
  L = left s.args_override_self over a b ha hb m n m' n'

  abbrev pub R : List Row → List Row
  R = right s.args_override_self over a b ha hb m n m' n'

  abbrev pub RowsOf : List Row → List Row → Type 0
  RowsOf = Rows s.args_override_self over a b ha hb m n m' n'

  -- Both ports are among the rows.
  record Later (h k : Held) : Type 0 where
    tail : List Row
    one : h.rows ≡ L tail
    two : k.rows ≡ R tail
    pending : k.pending ≡ h.pending
    skip : k.skip ≡ h.skip

  -- The first port is, and the second is still held.
  record Fresh (h k : Held) : Type 0 where
    one : h.rows ≡ given_row a ha m ∷ []
    two : k.rows ≡ given_row a ha m' ∷ []
    held : h.pending ≡ Some (b, n ∷ [])
    too : k.pending ≡ Some (b, n' ∷ [])
    skip : k.skip ≡ h.skip

  abbrev Like : Bool → Held → Held → Type 0
  Like true h k = Later h k
  Like false h k = Later h k ⊎ Fresh h k

  later_like : (t : Bool) (h k : Held) → Later h k → Like t h k
  later_like true h k l = l
  later_like false h k l = inl l

  any_like : (t : Bool) (h k : Held) → Like t h k → Like false h k
  any_like true h k l = inl l
  any_like false h k l = l

  skip_same : (t : Bool) (h k : Held) → Like t h k → k.skip ≡ h.skip
  skip_same true h k l = l.skip
  skip_same false h k (inl l) = l.skip
  skip_same false h k (inr f) = f.skip

  -- the skip of both set to one number
  skipped : (t : Bool) (h k : Held) (q : ℕ) → Like t h k → Like t (record h { skip = q }) (record k { skip = q })
  skipped true h k q l = record { tail = l.tail; one = l.one; two = l.two; pending = l.pending; skip = refl }
  skipped false h k q (inl l) = inl (record { tail = l.tail; one = l.one; two = l.two; pending = l.pending; skip = refl })
  skipped false h k q (inr f) = inr (record { one = f.one; two = f.two; held = f.held; too = f.too; skip = refl })

  -- how the second port is used, once something else is met
  pub record Settles : Type 0 where
    pub one : settled_rows s.rules (Some (b, n ∷ [])) (given_row a ha m ∷ []) ≡ L []
    pub two : settled_rows s.rules (Some (b, n' ∷ [])) (given_row a ha m' ∷ []) ≡ R []
    pub fault : (q : ℕ) → settle_fault s.rules s.args_override_self (record { rows = given_row a ha m' ∷ []; pending = Some (b, n' ∷ []); skip = q }) ≡ []

  module _ (own : Settles) where
    record Settled (h k : Held) : Type 0 where
      fault : settle_fault s.rules s.args_override_self k ≡ []
      rows : RowsOf (settled s.rules h).rows (settled s.rules k).rows

    by_id : (o : Option Rule) → FoundFine o → (vs : List Text) (t : List Row) → option_map_or (λ (r : Rule). use_fault s.args_override_self r vs (L t)) o [] ≡ []
        → (option_map_or (λ (r : Rule). use_fault s.args_override_self r vs (R t)) o [] ≡ []) × RowsOf (used_by_id o vs (L t)) (used_by_id o vs (R t))
    by_id None f vs t e = (refl, record { tail = t; one = refl; two = refl })
    by_id (Some r) f vs t e = let u = uses s.args_override_self over a b ha hb m n m' n' r f vs t e in (u.fault, record { tail = u.tail; one = u.one; two = u.two })

    settle_later : (p : Option (Text × List Text)) (q : ℕ) (t : List Row) → settle_fault s.rules s.args_override_self (record { rows = L t; pending = p; skip = q }) ≡ []
        → (settle_fault s.rules s.args_override_self (record { rows = R t; pending = p; skip = q }) ≡ []) × RowsOf (settled_rows s.rules p (L t)) (settled_rows s.rules p (R t))
    settle_later None q t e = (refl, record { tail = t; one = refl; two = refl })
    settle_later (Some p) q t e = by_id (arg_by_id s.rules p.0) (found_fine (λ r. bytes_eq r.id p.0) s.rules fine) p.1 t e

    -- a held state by its parts
    parts_are : (h : Held) (rows : List Row) (p : Option (Text × List Text)) (q : ℕ) → h.rows ≡ rows → h.pending ≡ p → h.skip ≡ q → h ≡ record { rows = rows; pending = p; skip = q }
    parts_are h rows p q x y z = ap (λ (w : List Row). record h { rows = w }) x ∙ ap (λ (w : Option (Text × List Text)). record h { rows = rows; pending = w }) y ∙ ap (λ (w : ℕ). record { rows = rows; pending = p; skip = w }) z

    settle : (h k : Held) → Like false h k → settle_fault s.rules s.args_override_self h ≡ [] → Settled h k
    settle h k (inl l) e =
        let x = parts_are h (L l.tail) h.pending h.skip l.one refl refl in
        let y = parts_are k (R l.tail) h.pending h.skip l.two l.pending l.skip in
        let g = settle_later h.pending h.skip l.tail (subst (λ (z : Held). settle_fault s.rules s.args_override_self z ≡ []) x e) in
        subst (λ (z : Held). Settled z k) (sym x) (subst (λ (z : Held). Settled (record { rows = L l.tail; pending = h.pending; skip = h.skip }) z) (sym y) (record { fault = g.0; rows = g.1 }))
    settle h k (inr f) e =
        let x = parts_are h (given_row a ha m ∷ []) (Some (b, n ∷ [])) h.skip f.one f.held refl in
        let y = parts_are k (given_row a ha m' ∷ []) (Some (b, n' ∷ [])) h.skip f.two f.too f.skip in
        subst (λ (z : Held). Settled z k) (sym x) (subst (λ (z : Held). Settled (record { rows = given_row a ha m ∷ []; pending = Some (b, n ∷ []); skip = h.skip }) z) (sym y)
        (record { fault = own.fault h.skip; rows = record { tail = []; one = own.one; two = own.two } }))

    -- ---- an argument is used

    react : (h k : Held) (r : Rule) → IsFine r → (vs : List Text) → Like false h k → react_fault s.rules s.args_override_self r vs h ≡ []
        → (react_fault s.rules s.args_override_self r vs k ≡ []) × Later (reacted s.rules r vs h) (reacted s.rules r vs k)
    react h k r f vs l e =
        let w = settle h k l (first_none _ _ e) in
        let u = uses s.args_override_self over a b ha hb m n m' n' r f vs w.rows.tail (subst (λ (z : List Row). use_fault s.args_override_self r vs z ≡ []) w.rows.one (second_none _ _ e)) in (
          both_none _ _ w.fault (subst (λ (z : List Row). use_fault s.args_override_self r vs z ≡ []) (sym w.rows.two) u.fault),
          record {
            tail = u.tail;
            one = ap (λ (z : List Row). used r vs z) w.rows.one ∙ u.one;
            two = ap (λ (z : List Row). used r vs z) w.rows.two ∙ u.two;
            pending = refl;
            skip = skip_same false h k l;
          },
        )

    record Met (strict : Bool) (x y : Held × Outcome) : Type 0 where
      same : y.1 ≡ x.1
      held : Like (leaves_option x.1 || strict) x.0 y.0

    later_met : (strict : Bool) (h k : Held) (o : Outcome) → Later h k → Met strict (h, o) (k, o)
    later_met strict h k o l = record { same = refl; held = later_like (leaves_option o || strict) h k l }

    option_goes : (strict : Bool) (h k : Held) (r : Rule) → IsFine r → (v : Option Text) → Like false h k → option_fault s.rules s.args_override_self r v h ≡ []
        → (option_fault s.rules s.args_override_self r v k ≡ []) × Met strict (option_met s.rules r v h) (option_met s.rules r v k)
    option_goes strict h k r f (Some v) l e = let w = react h k r f (v ∷ []) l e in (w.0, later_met strict _ _ done w.1)
    option_goes strict h k r f None l e =
        let w = settle h k l e in
        (w.fault, later_met strict _ _ (waits r.id) (record { tail = w.rows.tail; one = w.rows.one; two = w.rows.two; pending = refl; skip = skip_same false h k l }))

    flag_goes : (strict : Bool) (h k : Held) (r : Rule) → IsFine r → (v : Option Text) → Like false h k
        → (if is_some v then kind.TooManyValues ∷ [] else react_fault s.rules s.args_override_self r [] h) ≡ []
        → ((if is_some v then kind.TooManyValues ∷ [] else react_fault s.rules s.args_override_self r [] k) ≡ []) × Met strict (flag_met s.rules r v h) (flag_met s.rules r v k)
    flag_goes strict h k r f (Some v) l e = absurd cc
    flag_goes strict h k r f None l e = let w = react h k r f [] l e in (w.0, later_met strict _ _ done w.1)

    long_goes : (strict : Bool) (h k : Held) (o : Option Rule) → FoundFine o → (v : Option Text) → Like false h k → long_fault s.rules s.args_override_self o v h ≡ []
        → (long_fault s.rules s.args_override_self o v k ≡ []) × Met strict (long_met s.rules o v h) (long_met s.rules o v k)
    long_goes strict h k None f v l e = absurd cc
    long_goes strict h k (Some r) f v l e = by (takes_values r) e
      where
        by : (t : Bool)
            → (if t then option_fault s.rules s.args_override_self r v h else (if is_some v then kind.TooManyValues ∷ [] else react_fault s.rules s.args_override_self r [] h)) ≡ []
            → ((if t then option_fault s.rules s.args_override_self r v k else (if is_some v then kind.TooManyValues ∷ [] else react_fault s.rules s.args_override_self r [] k)) ≡ [])
            × Met strict (if t then option_met s.rules r v h else flag_met s.rules r v h) (if t then option_met s.rules r v k else flag_met s.rules r v k)
        by true e = option_goes strict h k r f v l e
        by false e = flag_goes strict h k r f v l e

    -- ---- a bundle of flags

    short_goes : (strict : Bool) (h k : Held) (o : Option Rule) → FoundFine o → (rest : Text) → Like false h k → (nf : Held → Kinds) (nm : Held → Held × Outcome)
        → ((h k : Held) → Later h k → nf h ≡ [] → (nf k ≡ []) × Met strict (nm h) (nm k)) → short_fault s.rules s.args_override_self o rest h nf ≡ []
        → (short_fault s.rules s.args_override_self o rest k nf ≡ []) × Met strict (short_met s.rules o rest h nm) (short_met s.rules o rest k nm)
    short_goes strict h k None f rest l nf nm on e = absurd cc
    short_goes strict h k (Some r) f rest l nf nm on e = by (takes_values r) e
      where
        by : (t : Bool)
            → (if t then option_fault s.rules s.args_override_self r (attached_value rest) h else or_else (react_fault s.rules s.args_override_self r [] h) (nf (reacted s.rules r [] h))) ≡ []
            → ((if t then option_fault s.rules s.args_override_self r (attached_value rest) k else or_else (react_fault s.rules s.args_override_self r [] k) (nf (reacted s.rules r [] k))) ≡ [])
            × Met strict (if t then option_met s.rules r (attached_value rest) h else nm (reacted s.rules r [] h)) (if t then option_met s.rules r (attached_value rest) k else nm (reacted s.rules r [] k))
        by true e = option_goes strict h k r f (attached_value rest) l e
        by false e =
            let w = react h k r f [] l (first_none _ _ e) in
            let g = on (reacted s.rules r [] h) (reacted s.rules r [] k) w.1 (second_none _ _ e) in
            (both_none _ _ w.0 g.0, g.1)

    bundle_goes : (strict : Bool) (x : Option ℕ) (flags : Text) (skip : ℕ) (so_far : Outcome) (h k : Held) → Like (leaves_option so_far || strict) h k
        → (nf : Text → ℕ → Held → Kinds) (nm : Text → ℕ → Outcome → Held → Held × Outcome)
        → ((flags : Text) (skip : ℕ) (so_far : Outcome) (h k : Held) → Like (leaves_option so_far || strict) h k → nf flags skip h ≡ [] → (nf flags skip k ≡ []) × Met strict (nm flags skip so_far h) (nm flags skip so_far k))
        → bundle_step_fault s.rules s.args_override_self x flags skip h nf ≡ []
        → (bundle_step_fault s.rules s.args_override_self x flags skip k nf ≡ []) × Met strict (bundle_step s.rules x flags skip so_far h nm) (bundle_step s.rules x flags skip so_far k nm)
    bundle_goes strict None flags skip so_far h k l nf nm on e = (refl, record { same = refl; held = l })
    bundle_goes strict (Some x) flags zero so_far h k l nf nm on e =
        let rest = drop (length (encode_utf8 x)) flags in
        short_goes strict h k (arg_by_short s.rules x) (found_fine (λ r. not (is_some r.index) && has_short r x) s.rules fine) rest (any_like (leaves_option so_far || strict) h k l) (nf rest 0) (nm rest 0 done)
        (λ h k w f. on rest 0 done h k (later_like strict h k w) f) e
    bundle_goes strict (Some x) flags (suc skip) so_far h k l nf nm on e = on (drop (length (encode_utf8 x)) flags) skip so_far h k l e

    flags_go : (strict : Bool) (i : ℕ) (flags : Text) (skip : ℕ) (so_far : Outcome) (h k : Held) → Like (leaves_option so_far || strict) h k → flags_fault s.rules s.args_override_self i flags skip h ≡ []
        → (flags_fault s.rules s.args_override_self i flags skip k ≡ []) × Met strict (bundle_met s.rules i flags skip so_far h) (bundle_met s.rules i flags skip so_far k)
    unfolding flags_fault bundle_met
    flags_go strict zero flags skip so_far h k l e = (refl, record { same = refl; held = l })
    flags_go strict (suc i) flags skip so_far h k l e =
        bundle_goes strict (slice_get (chars flags) 0) flags skip so_far h k l (flags_fault s.rules s.args_override_self i) (bundle_met s.rules i) (λ flags skip so_far h k l e. flags_go strict i flags skip so_far h k l e) e

    whole_bundle : (strict : Bool) (h k : Held) (flags : Text) → Like strict h k → bundle_fault s.rules s.args_override_self flags h ≡ []
        → (bundle_fault s.rules s.args_override_self flags k ≡ []) × Met strict (bundle s.rules flags h) (bundle s.rules flags k)
    whole_bundle strict h k flags l e =
        let g = flags_go strict (length flags) flags h.skip plain (record h { skip = 0 }) (record k { skip = 0 }) (skipped strict h k 0 l) e in
        subst (λ (q : ℕ). (flags_fault s.rules s.args_override_self (length flags) flags q (record k { skip = 0 }) ≡ []) × Met strict (bundle s.rules flags h) (bundle_met s.rules (length flags) flags q plain (record k { skip = 0 })))
        (sym (skip_same strict h k l)) g

    -- ---- a word

    abbrev IsNoSubcommand : Step → Type 0
    IsNoSubcommand (subcommand name) = ⊥
    IsNoSubcommand step = Unit {0}

    record Stepped (old : Waiting) (x y : Held × Step) : Type 0 where
      same : y.1 ≡ x.1
      plainly : IsNoSubcommand x.1
      held : Like (option_after old x.1) x.0 y.0

    pushed_later : (id word : Text) (h k : Held) → Later h k → Later (pushed id word h) (pushed id word k)
    pushed_later id word h k l = record {
      tail = l.tail;
      one = l.one;
      two = l.two;
      pending = ap (λ (p : Option (Text × List Text)). some_pending ((started id p).0, (started id p).1 ++ word ∷ [])) l.pending;
      skip = l.skip;
    }

    option_word_goes : (o : Option Rule) (id word : Text) (h k : Held) → Later h k → ((option_word o id word k).1 ≡ (option_word o id word h).1) × Later (option_word o id word h).0 (option_word o id word k).0
    option_word_goes None id word h k l = (refl, l)
    option_word_goes (Some r) id word h k l =
        let w = pushed_later id word h k l in
        (ap (λ (p : Option (Text × List Text)). waits_on id (nat_lt (pending_count r p) (most_values r))) w.pending, w)

    plain_goes : (w : Waiting) (word : Text) (h k : Held) → Like (is_option w) h k → Stepped w (plain_word s.rules w word h) (plain_word s.rules w word k)
    plain_goes (option id) word h k l =
        let g = option_word_goes (arg_by_id s.rules id) id word h k l in
        record { same = ap (λ (z : Waiting). next z) g.0; plainly = tt; held = later_like (is_option (option_word (arg_by_id s.rules id) id word h).1) _ _ g.1 }
    plain_goes idle word h k l = record { same = refl; plainly = tt; held = l }
    plain_goes positional word h k l = record { same = refl; plainly = tt; held = l }

    after_goes : (w : Waiting) (word : Text) (h k : Held) (o : Outcome) → Like (leaves_option o || is_option w) h k → Stepped w (after_flag s.rules w word h o) (after_flag s.rules w word k o)
    after_goes w word h k done l = record { same = refl; plainly = tt; held = any_like (is_option w) h k l }
    after_goes w word h k (waits id) l = record { same = refl; plainly = tt; held = l }
    after_goes w word h k plain l = plain_goes w word h k l
    after_goes w word h k refused l = plain_goes w word h k l

    after_met : (w : Waiting) (word : Text) (x y : Held × Outcome) → Met (is_option w) x y → Stepped w (after_flag s.rules w word x.0 x.1) (after_flag s.rules w word y.0 y.1)
    after_met w word x y g = subst (λ (o : Outcome). Stepped w (after_flag s.rules w word x.0 x.1) (after_flag s.rules w word y.0 o)) (sym g.same) (after_goes w word x.0 y.0 x.1 g.held)

    short_word_goes : (w : Waiting) (word : Text) (h k : Held) (q : Option Text) → Like (is_option w) h k → option_map_or (λ (flags : Text). bundle_fault s.rules s.args_override_self flags h) q [] ≡ []
        → (option_map_or (λ (flags : Text). bundle_fault s.rules s.args_override_self flags k) q [] ≡ []) × Stepped w (short_or_plain s.rules w word q h) (short_or_plain s.rules w word q k)
    short_word_goes w word h k None l e = (refl, plain_goes w word h k l)
    short_word_goes w word h k (Some flags) l e = let g = whole_bundle (is_option w) h k flags l e in (g.0, after_met w word _ _ g.1)

    flag_word_goes : (w : Waiting) (word : Text) (h k : Held) (p : Option (Text × Option Text)) → Like (is_option w) h k → flag_word_fault s.rules s.args_override_self p word h ≡ []
        → (flag_word_fault s.rules s.args_override_self p word k ≡ []) × Stepped w (long_or_other s.rules w word p h) (long_or_other s.rules w word p k)
    flag_word_goes w word h k None l e = short_word_goes w word h k (short_of word) l e
    flag_word_goes w word h k (Some p) l e =
        let g = long_goes (is_option w) h k (arg_by_long s.rules p.0) (found_fine (λ r. not (is_some r.index) && has_long r p.0) s.rules fine) p.1 (any_like (is_option w) h k l) e in
        (g.0, after_met w word _ _ g.1)

    other_goes : (w : Waiting) (position : ℕ) (word : Text) (h k : Held) → Like (is_option w) h k → other_fault s None word h ≡ []
        → (other_fault s None word k ≡ []) × Stepped w (subcommand_or_other s.rules None w position word h) (subcommand_or_other s.rules None w position word k)
    other_goes w position word h k l e = by (bytes_eq word (45 ∷ 45 ∷ [])) e
      where
        by : (t : Bool) → (if t then [] else flag_word_fault s.rules s.args_override_self (long_of word) word h) ≡ []
            → ((if t then [] else flag_word_fault s.rules s.args_override_self (long_of word) word k) ≡ [])
            × Stepped w (if t then (h, trailing position) else long_or_other s.rules w word (long_of word) h) (if t then (k, trailing position) else long_or_other s.rules w word (long_of word) k)
        by true e = (refl, record { same = refl; plainly = tt; held = l })
        by false e = flag_word_goes w word h k (long_of word) l e

    none_met : (w : Waiting) (word : Text) → subcommand_met [] w word ≡ None
    none_met idle word = refl
    none_met (option id) word = refl
    none_met positional word = refl

    word_goes : (t : Bool) (w : Waiting) (position : ℕ) (word : Text) (h k : Held) → Like (is_option w) h k → word_fault s [] t w word h ≡ []
        → (word_fault s [] t w word k ≡ []) × Stepped w (word_met s.rules [] t w position word h) (word_met s.rules [] t w position word k)
    word_goes true w position word h k l e = (refl, record { same = refl; plainly = tt; held = any_like (is_option w) h k l })
    word_goes false w position word h k l e = by (subcommand_met [] w word) (none_met w word) e
      where
        by : (o : Option Text) → o ≡ None → other_fault s o word h ≡ []
            → (other_fault s o word k ≡ []) × Stepped w (subcommand_or_other s.rules o w position word h) (subcommand_or_other s.rules o w position word k)
        by None is e = other_goes w position word h k l e
        by (Some name) is e = absurd cc

    -- ---- a positional

    positional_goes : (r : Rule) → IsFine r → (word : Text) (h k : Held) → Like false h k → positional_fault s.rules s.args_override_self r h ≡ []
        → (positional_fault s.rules s.args_override_self r k ≡ []) × Later (positional_held s.rules r word h) (positional_held s.rules r word k)
    positional_goes r f word h k l e =
        let x = several h in
        let y = several k in
        let w = settle h k l (sym (chosen {X = Kinds} (is_pending r h.pending && takes_several r) [] (settle_fault s.rules s.args_override_self h) x) ∙ e) in (
          chosen {X = Kinds} (is_pending r k.pending && takes_several r) [] (settle_fault s.rules s.args_override_self k) y ∙ w.fault,
          subst (λ (z : Held). Later z (positional_held s.rules r word k)) (ap (λ (z : Held). pushed r.id word z) (sym (chosen {X = Held} (is_pending r h.pending && takes_several r) h (settled s.rules h) x)))
              (subst (λ (z : Held). Later (pushed r.id word (settled s.rules h)) z) (ap (λ (z : Held). pushed r.id word z) (sym (chosen {X = Held} (is_pending r k.pending && takes_several r) k (settled s.rules k) y)))
              (pushed_later r.id word (settled s.rules h) (settled s.rules k) (record { tail = w.rows.tail; one = w.rows.one; two = w.rows.two; pending = refl; skip = skip_same false h k l }))),
        )
      where
        several : (h : Held) → (is_pending r h.pending && takes_several r) ≡ false
        several h = ap (λ (z : Bool). is_pending r h.pending && z) f.single ∙ and_false (is_pending r h.pending)

    -- ---- from word to word

    record WalkLike (x y : Walk) : Type 0 where
      held : Like (is_option x.waiting) x.held y.held
      waiting : y.waiting ≡ x.waiting
      position : y.position ≡ x.position
      trails : y.is_trailing ≡ x.is_trailing
      none : x.stopped ≡ None
      too : y.stopped ≡ None

    to_goes : (word : Text) (h k : Held) (w : Waiting) (position : ℕ) (t : Bool) (h' k' : Held) (o : Option Rule) → FoundFine o → Like false h' k'
        → option_map_or (λ (r : Rule). positional_fault s.rules s.args_override_self r h') o (stray_fault s) ≡ []
        → (option_map_or (λ (r : Rule). positional_fault s.rules s.args_override_self r k') o (stray_fault s) ≡ [])
        × WalkLike (to_positional s.rules o word (at_walk h w position t) h') (to_positional s.rules o word (at_walk k w position t) k')
    to_goes word h k w position t h' k' None f l e = absurd (stray s.is_leaf e)
      where
        stray : (z : Bool) → (if z then kind.UnknownArgument ∷ [] else kind.UnknownArgument ∷ kind.InvalidSubcommand ∷ []) ≡ [] → ⊥
        stray true e = cc
        stray false e = cc
    to_goes word h k w position t h' k' (Some r) f l e =
        let g = positional_goes r f word h' k' l e in
        (g.0, record { held = later_like (is_option (if is_multiple r then positional else idle)) _ _ g.1; waiting = refl; position = refl; trails = refl; none = refl; too = refl })

    step_goes : (word : Text) (h k : Held) (w : Waiting) (position : ℕ) (t : Bool) (h' k' : Held) (step : Step) → IsNoSubcommand step → Like (option_after w step) h' k' → step_fault s position h' step ≡ []
        → (step_fault s position k' step ≡ []) × WalkLike (after_step s.rules word (at_walk h w position t) h' step) (after_step s.rules word (at_walk k w position t) k' step)
    step_goes word h k w position t h' k' (next z) own l e = (refl, record { held = l; waiting = refl; position = refl; trails = refl; none = refl; too = refl })
    step_goes word h k w position t h' k' (trailing z) own l e = (refl, record { held = l; waiting = refl; position = refl; trails = refl; none = refl; too = refl })
    step_goes word h k w position t h' k' (subcommand name) own l e = absurd own
    step_goes word h k w position t h' k' value own l e = to_goes word h k w position t h' k' (arg_by_index s.rules position) (found_fine (λ r. option_map_or (λ j. j == position) r.index false) s.rules fine) l e

    stepped_goes : (word : Text) (h k : Held) (w : Waiting) (position : ℕ) (t : Bool) (x y : Held × Step) → Stepped w x y → step_fault s position x.0 x.1 ≡ []
        → (step_fault s position y.0 y.1 ≡ []) × WalkLike (after_step s.rules word (at_walk h w position t) x.0 x.1) (after_step s.rules word (at_walk k w position t) y.0 y.1)
    stepped_goes word h k w position t x y g e =
        subst (λ (z : Step). (step_fault s position y.0 z ≡ []) × WalkLike (after_step s.rules word (at_walk h w position t) x.0 x.1) (after_step s.rules word (at_walk k w position t) y.0 z)) (sym g.same)
        (step_goes word h k w position t x.0 y.0 x.1 g.plainly g.held e)

    turn_goes : (word : Text) (h k : Held) (w : Waiting) (position : ℕ) (t : Bool) → Like (is_option w) h k → turn_fault s [] (at_walk h w position t) word ≡ []
        → (turn_fault s [] (at_walk k w position t) word ≡ []) × WalkLike (walked s.rules [] (at_walk h w position t) word) (walked s.rules [] (at_walk k w position t) word)
    unfolding walked
    turn_goes word h k w position t l e =
        let g = word_goes t w position word h k l (first_none _ _ e) in
        let z = stepped_goes word h k w position t _ _ g.1 (second_none (word_fault s [] t w word h) _ e) in
        (both_none _ _ g.0 z.0, z.1)

    walk_is : (x y : Walk) → WalkLike x y → (x ≡ at_walk x.held x.waiting x.position x.is_trailing) × (y ≡ at_walk y.held x.waiting x.position x.is_trailing)
    walk_is x y g = (
      ap (λ (z : Option (Text × List Text)). record x { stopped = z }) g.none,
      ap (λ (z : Option (Text × List Text)). record y { stopped = z }) g.too ∙ ap (λ (z : Waiting). record y { stopped = None; waiting = z }) g.waiting
          ∙ ap (λ (z : ℕ). record y { stopped = None; waiting = x.waiting; position = z }) g.position
          ∙ ap (λ (z : Bool). record y { stopped = None; waiting = x.waiting; position = x.position; is_trailing = z }) g.trails,
    )

    any_turn : (word : Text) (x y : Walk) → WalkLike x y → turn_fault s [] x word ≡ [] → (turn_fault s [] y word ≡ []) × WalkLike (walked s.rules [] x word) (walked s.rules [] y word)
    any_turn word x y g e =
        let is = walk_is x y g in
        let v = turn_goes word x.held y.held x.waiting x.position x.is_trailing g.held (subst (λ (z : Walk). turn_fault s [] z word ≡ []) is.0 e) in
        subst (λ (z : Walk). (turn_fault s [] y word ≡ []) × WalkLike (walked s.rules [] z word) (walked s.rules [] y word)) (sym is.0)
        (subst (λ (z : Walk). (turn_fault s [] z word ≡ []) × WalkLike (walked s.rules [] (at_walk x.held x.waiting x.position x.is_trailing) word) (walked s.rules [] z word)) (sym is.1) v)

    walk_goes : (ws : List Text) (x y : Walk) → WalkLike x y → walk_fault s [] x ws ≡ [] → (walk_fault s [] y ws ≡ []) × WalkLike (fold (walked s.rules []) x ws) (fold (walked s.rules []) y ws)
    unfolding walk_fault
    walk_goes [] x y g e = (refl, g)
    walk_goes (word ∷ ws) x y g e =
        let v = any_turn word x y g (first_none _ _ e) in
        let z = walk_goes ws (walked s.rules [] x word) (walked s.rules [] y word) v.1 (second_none (turn_fault s [] x word) _ e) in
        (both_none _ _ v.0 z.0, z.1)

    -- ---- at the end

    given_any : (u : List Row) (rs : List Rule) → list_any (λ (r : Rule). r.required && not (is_given r.id (R u))) rs ≡ list_any (λ (r : Rule). r.required && not (is_given r.id (L u))) rs
    given_any u [] = refl
    given_any u (r ∷ rs) =
        ap (λ (z : Bool). (r.required && not z) || list_any (λ (r : Rule). r.required && not (is_given r.id (R u))) rs) (given_same s.args_override_self over a b ha hb m n m' n' r.id u)
        ∙ ap (λ (z : Bool). (r.required && not (is_given r.id (L u))) || z) (given_any u rs)

    check_same : (u : List Row) → check_fault s (R u) false ≡ check_fault s (L u) false
    check_same u = ap (λ (z : Bool). check_kinds (s.arg_required_else_help && false) s.subcommand_required (not (s.subcommand_negates_reqs && false) && z)) (given_any u s.rules)

    record EndsAlike (h k : Held) : Type 0 where
      settle_fault_is : settle_fault s.rules s.args_override_self k ≡ []
      defaults : defaults_fault (settled s.rules k).rows s.rules ≡ []
      check : check_fault s (finished s.rules k) false ≡ []
      rows : RowsOf (finished s.rules h) (finished s.rules k)

    ends_alike : (h k : Held) → Like false h k → settle_fault s.rules s.args_override_self h ≡ [] → defaults_fault (settled s.rules h).rows s.rules ≡ [] → check_fault s (finished s.rules h) false ≡ []
        → EndsAlike h k
    ends_alike h k l e d q =
        let w = settle h k l e in
        let g = defaults_past s.args_override_self over a b ha hb m n m' n' s.rules w.rows.tail in
        let one : finished s.rules h ≡ L g.0 = ap (λ (z : List Row). fold with_default z s.rules) w.rows.one ∙ g.1 in
        let two : finished s.rules k ≡ R g.0 = ap (λ (z : List Row). fold with_default z s.rules) w.rows.two ∙ g.2 in
        record {
          settle_fault_is = w.fault;
          defaults = ap (λ (z : List Row). defaults_fault z s.rules) w.rows.two ∙ g.3 ∙ sym (ap (λ (z : List Row). defaults_fault z s.rules) w.rows.one) ∙ d;
          check = ap (λ (z : List Row). check_fault s z false) two ∙ check_same g.0 ∙ sym (ap (λ (z : List Row). check_fault s z false) one) ∙ q;
          rows = record { tail = g.0; one = one; two = two };
        }

    -- a level without subcommands, from the two walks on
    pub record LinesAlike (x y : Walk) (ws : List Text) : Type 0 where
      pub fault : or_else (walk_fault s [] y ws) (or_else [] (or_else (settle_fault s.rules s.args_override_self (fold (walked s.rules []) y ws).held)
          (or_else (defaults_fault (settled s.rules (fold (walked s.rules []) y ws).held).rows s.rules) (check_fault s (finished s.rules (fold (walked s.rules []) y ws).held) false)))) ≡ []
      pub rows : RowsOf (finished s.rules (fold (walked s.rules []) x ws).held) (finished s.rules (fold (walked s.rules []) y ws).held)

    lines_alike : (ws : List Text) (x y : Walk) → WalkLike x y
        → or_else (walk_fault s [] x ws) (or_else [] (or_else (settle_fault s.rules s.args_override_self (fold (walked s.rules []) x ws).held)
        (or_else (defaults_fault (settled s.rules (fold (walked s.rules []) x ws).held).rows s.rules) (check_fault s (finished s.rules (fold (walked s.rules []) x ws).held) false)))) ≡ []
        → LinesAlike x y ws
    lines_alike ws x y g e =
        let end = fold (walked s.rules []) x ws in
        let w = walk_goes ws x y g (first_none _ _ e) in
        let f : or_else (settle_fault s.rules s.args_override_self end.held) (or_else (defaults_fault (settled s.rules end.held).rows s.rules) (check_fault s (finished s.rules end.held) false)) ≡ []
        = second_none (walk_fault s [] x ws) _ e in
        let i = second_none (settle_fault s.rules s.args_override_self end.held) _ f in
        let v = ends_alike end.held (fold (walked s.rules []) y ws).held (any_like (is_option end.waiting) _ _ w.1.held) (first_none _ _ f) (first_none _ _ i) (second_none (defaults_fault (settled s.rules end.held).rows s.rules) _ i) in
        record { fault = both_none _ _ w.0 (both_none _ _ v.settle_fault_is (both_none _ _ v.defaults v.check)); rows = v.rows }

    -- where the two ports stand in front
    pub ports_alike : (position : ℕ) (ws : List Text) (h k : Held) → h ≡ record { rows = given_row a ha m ∷ []; pending = Some (b, n ∷ []); skip = 0 } → k ≡ record { rows = given_row a ha m' ∷ []; pending = Some (b, n' ∷ []); skip = 0 }
        → or_else (walk_fault s [] (at_walk h idle position false) ws) (or_else [] (or_else (settle_fault s.rules s.args_override_self (fold (walked s.rules []) (at_walk h idle position false) ws).held)
        (or_else (defaults_fault (settled s.rules (fold (walked s.rules []) (at_walk h idle position false) ws).held).rows s.rules) (check_fault s (finished s.rules (fold (walked s.rules []) (at_walk h idle position false) ws).held) false)))) ≡ []
        → LinesAlike (at_walk h idle position false) (at_walk k idle position false) ws
    ports_alike position ws h k one two e = lines_alike ws (at_walk h idle position false) (at_walk k idle position false) (record {
      held = inr (record {
        one = ap (λ (z : Held). z.rows) one;
        two = ap (λ (z : Held). z.rows) two;
        held = ap (λ (z : Held). z.pending) one;
        too = ap (λ (z : Held). z.pending) two;
        skip = ap (λ (z : Held). z.skip) two ∙ sym (ap (λ (z : Held). z.skip) one);
      });
      waiting = refl;
      position = refl;
      trails = refl;
      none = refl;
      too = refl;
    }) e
