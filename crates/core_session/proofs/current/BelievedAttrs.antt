-- Attributes that are believed in a step were shown by a reply, to a call that was first sent at a time which isn't long before.
use Rattle.core_session.proofs.Prelude.{◌≡◌, ◌<◌, ◌+◌, ℕ, Bool, true, false, List, ◌∷◌, [], ◌++◌, length, Option, Some, None, Result, refl, subst, arith, if◌then◌else◌, nat_tests, Attr, looked, Fault, Entry, Call, Reply, Step, Shelf, Turn, machine_of, Takes, Mounted, Machine, Setup, View, Reaches, IsAnswered, LastAtMost}
use Rattle.std.proofs.Common.{nat_lt}
use Rattle.attr_cache.specs.Attrs.{Attrs, kept_of, is_fresh}
use Rattle.core_answers.specs.bonds.Kept.{HadShown}
use Rattle.std.specs.Option.{option_and_then}
use Rattle.attr_cache.specs.declared.kept.KeptAttr.{KeptAttr}
use Rattle.attr_cache.proofs.Entries.{Believed, All-lookup}
use Rattle.claims.specs.Shown.{ShowsAttr}
use Rattle.core_answers.proofs.bonds.AttrsShown.{ShownIn, attr-laws, fresh-attrs, no-story}
use Rattle.core_answers.proofs.bonds.Keeping.{reached-known}
use Rattle.core_answers.proofs.engine.Told.{IsTold}
use Rattle.core_answers.proofs.bonds.Learnt.{Good}
use Rattle.core_answers.proofs.bonds.MachineCalls.{Asks, asks-laws}

pub record IsBelieved (h : List Entry) (most now : ℕ) (file : List ℕ) (attr : Attr) : Type 0 where
  pub ms : ℕ
  pub less : now < ms + most
  pub call : Call
  pub reply : Reply
  pub since : ℕ
  pub timed : HadShown h since ms
  pub answered : IsAnswered h since (length h) call reply
  pub shows : ShowsAttr call reply file attr

some-attr : (a b : Attr) → Some a ≡ Some b → a ≡ b
some-attr a b e = cc

believed-of : (h : List Entry) (most now : ℕ) (file : List ℕ) (attr : Attr) (c : Attrs) (o : Option KeptAttr) → kept_of file c ≡ o → Good (ShownIn h) most c
    → option_and_then (λ kept. if is_fresh now kept then Some kept.attr else None) o ≡ Some attr → IsBelieved h most now file attr
believed-of h most now file attr c None is good e = absurd (let no_way : None ≡ Some attr = e in cc)
believed-of h most now file attr c (Some kept) is good e = by (is_fresh now kept) refl e
  where
    by : (b : Bool) → nat_lt now (kept.sent_at + kept.lifetime) ≡ b → (if b then Some kept.attr else None) ≡ Some attr → IsBelieved h most now file attr
    by false old gives = absurd (let no_way : None ≡ Some attr = gives in cc)
    by true young gives =
        let k = All-lookup (Believed (ShownIn h) most) file c.entries kept good.all is in
        let short = k.1 in
        let less : now < kept.sent_at + kept.lifetime = grind (arith, nat_tests) in
        record {
          ms = kept.sent_at;
          less = omega (arith, less, short);
          call = k.0.call;
          reply = k.0.reply;
          since = k.0.since;
          timed = k.0.timed;
          answered = k.0.answered;
          shows = subst (λ (a : Attr). ShowsAttr k.0.call k.0.reply file a) (some-attr kept.attr attr gives) k.0.shows;
        }

-- those that are kept after what came of a call was taken
pub believed-taken : (m : Mounted) (setup : Setup) (most : ℕ) → LastAtMost setup.lives most → (h : List Entry) (e : Entry) (v : View) → Reaches (machine_of m) setup h v
    → (machine : Machine) (call : Call) (wsize : ℕ) (sent turn : Turn) (came : Result Reply Fault) (next : Step) (new : Machine) (after : Shelf) → Asks machine call
    → IsTold (h ++ e ∷ []) call sent.now came → Takes wsize machine sent turn came v.shelf next new after → (now : ℕ) (file : List ℕ) (attr : Attr) → looked file now after.attrs ≡ Some attr
    → IsBelieved (h ++ e ∷ []) most now file attr
believed-taken m setup most lasts h e v r machine call wsize sent turn came next new after on told t now file attr is =
    let laws = attr-laws most in
    let old = (reached-known m setup Asks asks-laws (λ k shelf. Good (ShownIn k) most shelf.attrs) (λ k x op state. Unit {0})
    (no-story m Asks (λ k shelf. Good (ShownIn k) most shelf.attrs) laws) (λ k w fresh. fresh-attrs setup most k w.shelf.attrs lasts fresh.attrs) h v r).kept in
    believed-of (h ++ e ∷ []) most now file attr after.attrs (kept_of file after.attrs) refl
    (laws.takes (h ++ e ∷ []) machine call wsize sent turn came v.shelf next new after on told t (laws.grows h e v.shelf old)) is
