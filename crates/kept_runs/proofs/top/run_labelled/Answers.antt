use Rattle.std.proofs.Common.{inl, inr, ℕ, List, refl}
use Rattle.world_model.specs.History.{History}
use Rattle.core_answers.specs.pages.True.{GivenTrue}
use Rattle.script_runs.specs.Run.{no_words, cut_before}
use Rattle.kept_runs.specs.Stored.{BeganTrue}
use Rattle.kept_runs.proofs.KeptRuns.{given-so, run-after, run-idle, unread-says, words-say}
use Rattle.kept_runs.proofs.top.run_labelled.Goals as goal

pub returns-clause-words : goal.returns-clause-words
returns-clause-words g c = λ two. absurd (c.run_anew-status.ensures.taken two)

pub returns-clause-no_words : goal.returns-clause-no_words
returns-clause-no_words g c = λ none. absurd (none c.in-Ok.settings c.in-Ok.ensures.found)

pub returns-clause-unread : goal.returns-clause-unread
returns-clause-unread g c = λ read. elim read [ inl two ↦ absurd (c.run_anew-status.ensures.taken two) | inr four ↦ c.run_anew-status.ensures.unread four ]

pub returns-clause-headline : goal.returns-clause-headline
returns-clause-headline g c =
    let disk = c.args.store.now.disk in
    let shows : g.D.Disk.tells disk → (image : List ℕ) × g.D.Disk.may_leave disk image = λ tells. (g.D.Disk.seen disk, g.met.D.Disk.shows_one disk tells) in
    words-say (λ (t : History). GivenTrue c.in-Ok-stock_of.stock.pages t) (BeganTrue g.D.Disk.tells g.D.Disk.may_leave c.args.store.now.pages disk)
    (given-so g.D.Disk.tells g.D.Disk.may_leave g.D.Disk.moment g.D.Disk.left_since c.args.store.now.pages disk c.in-Ok-stock_of.stock shows c.is_sound.ensures c.in-Ok-stock_of.ensures.pages)
    _ _ _ _ _ _ _ _ _ _ c.in-Ok.ensures.found c.run_anew-status.ensures.headline

pub returns-clause-any_moment : goal.returns-clause-any_moment
returns-clause-any_moment g c = λ tells n fits s.
    let disk = c.args.store.now.disk in
    let shows : g.D.Disk.tells disk → (image : List ℕ) × g.D.Disk.may_leave disk image = λ tells. (g.D.Disk.seen disk, g.met.D.Disk.shows_one disk tells) in
    run-after g.D.Disk.tells g.D.Disk.may_leave g.D.Disk.moment g.D.Disk.left_since c.args.store.now.pages disk c.in-Ok-stock_of.stock shows c.is_sound.ensures c.in-Ok-stock_of.ensures.pages
    c.keep_all.new.store.disk _ _ c.run_anew-status.result.1 (c.keep_all.ensures.any_moment tells n fits s) c.run_anew-status.ensures.pages

pub returns-in_default-clause-headline : goal.returns-in_default-clause-headline
returns-in_default-clause-headline g c = unread-says _ _ _ _ _ _ _ (cut_before (inr refl) refl)

pub returns-in-Err-Memory-clause-headline : goal.returns-in-Err-Memory-clause-headline
returns-in-Err-Memory-clause-headline g c = unread-says _ _ _ _ _ _ _ (cut_before (inr refl) refl)

pub returns-in-Err-Refused-clause-headline : goal.returns-in-Err-Refused-clause-headline
returns-in-Err-Refused-clause-headline g c = unread-says _ _ _ _ _ _ _ (no_words refl refl)

pub returns-in_default-clause-any_moment : goal.returns-in_default-clause-any_moment
returns-in_default-clause-any_moment g c = λ tells n fits s.
    run-idle g.D.Disk.tells g.D.Disk.may_leave g.D.Disk.moment g.D.Disk.left_since c.args.store.now.pages _ c.args.store.now.disk (g.met.D.Disk.only_now c.args.store.now.disk tells)

pub returns-in-Err-Memory-clause-any_moment : goal.returns-in-Err-Memory-clause-any_moment
returns-in-Err-Memory-clause-any_moment g c = λ tells n fits s.
    run-idle g.D.Disk.tells g.D.Disk.may_leave g.D.Disk.moment g.D.Disk.left_since c.args.store.now.pages _ c.args.store.now.disk (g.met.D.Disk.only_now c.args.store.now.disk tells)

pub returns-in-Err-Refused-clause-any_moment : goal.returns-in-Err-Refused-clause-any_moment
returns-in-Err-Refused-clause-any_moment g c = λ tells n fits s.
    run-idle g.D.Disk.tells g.D.Disk.may_leave g.D.Disk.moment g.D.Disk.left_since c.args.store.now.pages _ c.args.store.now.disk (g.met.D.Disk.only_now c.args.store.now.disk tells)
