use Rattle.std.proofs.Common.{◌≡◌, [], ap, subst, ◌∙◌, true, refl, inl, inr, map}
use Rattle.std.specs.String.{string_bytes}
use Rattle.clap.specs.Words.{App, fault_of, is_simple_and_free, is_simple, matches_of, HasKind, Kinds, kind_of, IsAmong}
use Rattle.clap.proofs.OnLiterals.{clap_on_literals}
use Rattle.clap.specs.declared.error.kind.ErrorKind.TheVariants.{OutOfMemory}
use Rattle.clap.specs.declared.error.Error.{Error}
use Rattle.session_words.specs.Command.{client_app}
use Rattle.session_words.proofs.command.match_words.Goals as goal

is_free : is_simple_and_free client_app ≡ true
unfolding client_app clap_on_literals
is_free = refl

is_plain : is_simple client_app ≡ true
unfolding client_app clap_on_literals
is_plain = refl

among_none : (ks : Kinds) (e : Error) → HasKind ks e → ks ≡ [] → kind_of e ≡ OutOfMemory
among_none ks e (inl k) none = k
among_none ks e (inr m) none = let bad : ⊥ = subst (λ (l : Kinds). IsAmong (kind_of e) l) none m in absurd bad

pub returns-in-Ok-try_get_matches_from-clause-taken : goal.returns-in-Ok-try_get_matches_from-clause-taken
returns-in-Ok-try_get_matches_from-clause-taken c =
    subst (λ (a : App). fault_of a (map string_bytes c.args.words.now) ≡ []) c.in-Ok.ensures (c.in-Ok-try_get_matches_from.ensures.kinds (ap is_simple_and_free c.in-Ok.ensures ∙ is_free))

pub returns-in-Ok-try_get_matches_from-clause-rows : goal.returns-in-Ok-try_get_matches_from-clause-rows
returns-in-Ok-try_get_matches_from-clause-rows c =
    (c.in-Ok-try_get_matches_from.ensures.matches (ap is_simple c.in-Ok.ensures ∙ is_plain)).0 ∙ ap (λ (a : App). matches_of a (map string_bytes c.args.words.now)) c.in-Ok.ensures

pub returns : goal.returns
returns c = record {
  taken = tt;
  rows = tt;
  refused = λ _ none.
      let kinds = c.in-Err.ensures.kinds (ap is_simple_and_free c.in-Ok.ensures ∙ is_free) in
      let memory = among_none _ c.in-Err.error kinds (ap (λ (a : App). fault_of a (map string_bytes c.args.words.now)) c.in-Ok.ensures ∙ none) in
      c.in_default-kind.not-OutOfMemory (c.kind.ensures ∙ memory);
}
