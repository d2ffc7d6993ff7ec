-- Which rule breaks first, of those of the server and of those of bytes.
use Rattle.std.proofs.Common.{◌≡◌, ◌<◌, ◌≤◌, ◌-◌, ℕ, length, Option, Some, None, refl, sym, subst, ◌∙◌, arith}
use Rattle.std.specs.Prelude.{MatchOption, IfSome}
use Rattle.claims.specs.Modes.{Modes}
use Rattle.world_model.specs.History.{History}
use Rattle.world_model.specs.Mounts.{Origin}
use Rattle.trace_data.specs.declared.trace.Trace.{Trace}
use Rattle.trace_data.specs.Histories.{history_of}
use Rattle.trace_rules.specs.Beginnings.{beginning}
use Rattle.trace_lawful.specs.declared.earliest.First.{First}
use Rattle.trace_lawful.specs.Judged.{KeepsServer, FirstBroken, BreaksFirst, unlawful, late, stale}
use Rattle.trace_claims.specs.declared.beginnings.Broken.{Broken}
use Rattle.trace_claims.specs.Judging.{BreaksWithin, BreaksClaim, Keeps, loses, misreads, ends_early, most_of}
use Rattle.trace_check.proofs.Keeping.{server-before}
use Rattle.trace_check.specs.declared.judging.Verdict.{Verdict}
use Rattle.trace_check.specs.declared.judging.Verdict.TheVariants.{Yes, No}
use Rattle.trace_check.specs.Judged as judged
use Rattle.trace_check.specs.Judged.{BreaksRule, IsFewest, KeepsAll, Says, SaysYes, entries_before, rule_of, verdict_of}

-- what is known of the rules of the server
abbrev pub Serves : Trace → Option First → Type 0
Serves t first = MatchOption first (KeepsServer (history_of t)) (λ f. FirstBroken (history_of t) f.entries f.rule)

-- a beginning before the first that breaks a rule of the server
keeps-before : (t : Trace) (first : Option First) (n : ℕ) → Serves t first → n ≤ length t.entries.items → ((f : First) → first ≡ Some f → n < f.entries)
    → KeepsServer (beginning (history_of t) n)
keeps-before t None n whole within before = server-before t n within whole
keeps-before t (Some f) n broken within before = broken.least n (before f refl)

within-most : (first : Option First) (length n : ℕ) → n ≤ most_of (entries_before first) length → n ≤ length
within-most None length n le = le
within-most (Some f) length n le = omega (arith, le)

before-most : (first : Option First) (length n : ℕ) → 0 < n → n ≤ most_of (entries_before first) length → (f : First) → first ≡ Some f → n < f.entries
before-most None length n some le f e = absurd cc
before-most (Some g) length n some le f e = let is : g ≡ f = same g f e in subst (λ (x : First). n < x.entries) is (omega (arith, some, le))
  where
    same : (a b : First) → Some a ≡ Some b → a ≡ b
    same a b q = cc

-- ---- a claim on bytes breaks first

claim-rule : (m : Modes) (origin : Origin) (h : History) (broken : Broken) → KeepsServer h → BreaksClaim m origin h broken → BreaksRule m origin h (rule_of broken)
claim-rule m origin h broken server (loses e no-more) = subst (λ (b : Broken). BreaksRule m origin h (rule_of b)) (sym e) (judged.loses refl server no-more)
claim-rule m origin h broken server (misreads e settled no-more) = subst (λ (b : Broken). BreaksRule m origin h (rule_of b)) (sym e) (judged.misreads refl server settled no-more)
claim-rule m origin h broken server (ends_early e settled read no-more) =
    subst (λ (b : Broken). BreaksRule m origin h (rule_of b)) (sym e) (judged.ends_early refl server settled read no-more)

pub claim-fewest : (m : Modes) (origin : Origin) (t : Trace) (first : Option First) (n : ℕ) (broken : Broken) → Serves t first
    → BreaksWithin m origin t (entries_before first) n broken → IsFewest m origin (history_of t) n (rule_of broken)
claim-fewest m origin t first n broken serves at =
    let within : n ≤ length t.entries.items = within-most first (length t.entries.items) n at.first.within in
    let before : (f : First) → first ≡ Some f → n < f.entries = before-most first (length t.entries.items) n at.first.some at.first.within in record {
      within = within;
      breaks = claim-rule m origin (beginning (history_of t) n) broken (keeps-before t first n serves within before) at.first.breaks;
      least = λ k lt. record {
        server = keeps-before t first k serves (omega (arith, lt, within)) (λ f e. let below : n < f.entries = before f e in omega (arith, below, lt));
        claims = at.first.least k lt;
      };
    }

pub claim-says : (m : Modes) (origin : Origin) (t : Trace) (first : Option First) (n : ℕ) (broken : Broken) (v : Verdict) → Serves t first
    → BreaksWithin m origin t (entries_before first) n broken → length t.entries.items < 4294967296
    → (n < 4294967296 → v ≡ No (rule_of broken) n) → Says m origin (history_of t) v
claim-says m origin t first n broken v serves at small is =
    let within : n ≤ length t.entries.items = within-most first (length t.entries.items) n at.first.within in
    subst (λ (w : Verdict). Says m origin (history_of t) w) (sym (is (omega (arith, within, small)))) (claim-fewest m origin t first n broken serves at)

-- ---- a history that breaks a rule early breaks one as a whole, where the whole was asked for

breaks-not : (h : History) (rule : ℕ) → BreaksFirst h rule → KeepsServer h → ⊥
breaks-not h rule (unlawful is fails) keeps = fails keeps.lawful
breaks-not h rule (late is lawful fails) keeps = fails keeps.once
breaks-not h rule (stale is lawful once fails) keeps = fails keeps.fresh

server-broken : (t : Trace) (f : First) → FirstBroken (history_of t) f.entries f.rule → KeepsServer (history_of t) → ⊥
server-broken t f broken keeps = breaks-not (beginning (history_of t) f.entries) f.rule broken.breaks (server-before t f.entries broken.within keeps)

claim-broken : (m : Modes) (origin : Origin) (t : Trace) (first : Option First) (n : ℕ) (broken : Broken) → Serves t first → BreaksWithin m origin t (entries_before first) n broken
    → KeepsAll m origin (history_of t) → ⊥
claim-broken m origin t None n broken whole at keeps = at.whole refl keeps.claims
claim-broken m origin t (Some f) n broken serves at keeps = server-broken t f serves keeps.server

no-is-not-yes : (v : Verdict) (rule entries : ℕ) → v ≡ No rule entries → v ≡ Yes → ⊥
no-is-not-yes v rule entries broken kept = absurd (cc (sym broken ∙ kept))

pub claim-yes : (m : Modes) (origin : Origin) (t : Trace) (first : Option First) (n : ℕ) (broken : Broken) (v : Verdict) → Serves t first
    → BreaksWithin m origin t (entries_before first) n broken → length t.entries.items < 4294967296
    → (n < 4294967296 → v ≡ No (rule_of broken) n) → SaysYes m origin (history_of t) v
claim-yes m origin t first n broken v serves at small is =
    let within : n ≤ length t.entries.items = within-most first (length t.entries.items) n at.first.within in (
      λ yes. absurd (no-is-not-yes v (rule_of broken) n (is (omega (arith, within, small))) yes),
      λ keeps. absurd (claim-broken m origin t first n broken serves at keeps),
    )

-- ---- none does

pub server-says : (m : Modes) (origin : Origin) (t : Trace) (first : Option First) (v : Verdict) → Serves t first → Keeps m origin t (entries_before first)
    → length t.entries.items < 4294967296 → (IfSome first (λ (f : First). f.entries < 4294967296) → v ≡ verdict_of first) → Says m origin (history_of t) v
server-says m origin t None v whole keeps small is = subst (λ (w : Verdict). Says m origin (history_of t) w) (sym (is tt)) (record { server = whole; claims = keeps })
server-says m origin t (Some f) v broken keeps small is =
    let within : f.entries ≤ length t.entries.items = broken.within in
    subst (λ (w : Verdict). Says m origin (history_of t) w) (sym (is (omega (arith, within, small)))) (record {
      within = within;
      breaks = judged.errs broken.breaks;
      least = λ k lt. record { server = broken.least k lt; claims = keeps k (omega (arith, lt, within)) };
    })

pub server-yes : (m : Modes) (origin : Origin) (t : Trace) (first : Option First) (v : Verdict) → Serves t first → Keeps m origin t (entries_before first)
    → length t.entries.items < 4294967296 → (IfSome first (λ (f : First). f.entries < 4294967296) → v ≡ verdict_of first) → SaysYes m origin (history_of t) v
server-yes m origin t None v whole keeps small is = (λ yes. record { server = whole; claims = keeps }, λ all. is tt)
server-yes m origin t (Some f) v broken keeps small is =
    let within : f.entries ≤ length t.entries.items = broken.within in (
      λ yes. absurd (no-is-not-yes v f.rule f.entries (is (omega (arith, within, small))) yes),
      λ all. absurd (server-broken t f broken all.server),
    )
