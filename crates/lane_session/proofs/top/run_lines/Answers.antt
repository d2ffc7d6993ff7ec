use Rattle.std.proofs.Common.{[], length, refl}
use Rattle.lane_session.specs.declared.halt.Halt.TheVariants.{Memory}
use Rattle.lane_session.proofs.CoreEnds.{cut-pages, told-none, told-done, told-broken, told-counted, told-pages, unbegun-pages}
use Rattle.lane_session.proofs.Ending.{session-ends, session-breaks, fresh-held, fresh-goes, broken-none}
use Rattle.lane_session.proofs.Passing.{passes_same, passes_less}
use Rattle.link_dials.proofs.Dialing.{dials_same}
use Rattle.lane_session.proofs.Ports.{only_as}
use Rattle.lane_session.proofs.top.run_lines.Goals as goal

pub returns-in_default-clause-goes : goal.returns-in_default-clause-goes
returns-in_default-clause-goes g c = passes_same _ _ _ _ (λ h u. broken-none c.args.script.now h u)

pub work-requires-clause-held : goal.work-requires-clause-held
work-requires-clause-held g c = fresh-held c.args.script.now c.args.settings.now c.args.setup c.in-Ok.session c.in-Ok.ensures.fresh c.requires.few c.requires.may

pub returns-in-Ok-work-clause-goes : goal.returns-in-Ok-work-clause-goes
returns-in-Ok-work-clause-goes g c =
    passes_less _ _ _ _ _ _ _ _ (λ given text h k on u.
    session-ends c.args.script.now h k c.work.new.self c.requires.asked c.in-Ok-work.ensures.held.seated.sixteen c.in-Ok-work.ensures.idle c.in-Ok-work.ensures.quiet
    (on.goes [] (length h) (fresh-goes c.args.script.now c.args.settings.now c.args.setup c.in-Ok.session c.in-Ok.ensures.fresh h u)) _ c.in-Ok.session given text refl u on) c.in-Ok-work.ensures.goes

pub returns-in-Ok-work-clause-ending : goal.returns-in-Ok-work-clause-ending
returns-in-Ok-work-clause-ending g c = c.in-Ok-work.ensures.held.status

pub returns-in-Err-clause-goes : goal.returns-in-Err-clause-goes
returns-in-Err-clause-goes g c =
    passes_less _ _ _ _ _ _ _ _ (λ given text h k off u.
    session-breaks c.args.script.now c.in-Ok.session _ given text h k u (fresh-goes c.args.script.now c.args.settings.now c.args.setup c.in-Ok.session c.in-Ok.ensures.fresh h u) off) c.in-Err.ensures.goes

pub returns-in_default-clause-core : goal.returns-in_default-clause-core
returns-in_default-clause-core g c = told-none _ c.args.settings.now c.args.setup c.requires.may c.is_sound.ensures

pub returns-in-Ok-work-clause-core : goal.returns-in-Ok-work-clause-core
returns-in-Ok-work-clause-core g c =
    let p = c.in-Ok-work.ensures.goes in
    told-done _ _ [] c.args.script.now p.given p.text c.args.settings.now c.args.setup c.in-Ok.session c.requires.may c.in-Ok.ensures.fresh c.work.new.self p.told

pub returns-in-Err-clause-core : goal.returns-in-Err-clause-core
returns-in-Err-clause-core g c =
    let p = c.in-Err.ensures.goes in
    told-broken _ _ [] c.args.script.now p.given p.text c.args.settings.now c.args.setup c.in-Ok.session c.requires.may c.in-Ok.ensures.fresh c.in-Err.halt p.told

pub returns-in-Ok-work-clause-counted : goal.returns-in-Ok-work-clause-counted
returns-in-Ok-work-clause-counted g c =
    let p = c.in-Ok-work.ensures.goes in
    told-counted _ _ [] c.args.script.now p.given p.text c.args.settings.now c.args.setup c.in-Ok.session c.requires.may c.in-Ok.ensures.fresh c.args.tally c.work.new.self c.in-Ok.ensures.counts p.told

pub returns-in_default-clause-dials : goal.returns-in_default-clause-dials
returns-in_default-clause-dials g c = dials_same _ _

pub returns-in-Ok-work-clause-dials : goal.returns-in-Ok-work-clause-dials
returns-in-Ok-work-clause-dials g c = only_as _ _ _ _ c.in-Ok.ensures.port c.in-Ok-work.ensures.dials.only

pub returns-in-Err-clause-dials : goal.returns-in-Err-clause-dials
returns-in-Err-clause-dials g c = only_as _ _ _ _ c.in-Ok.ensures.port c.in-Err.ensures.dials.only

pub returns-in_default-clause-pages : goal.returns-in_default-clause-pages
returns-in_default-clause-pages g c = unbegun-pages _ c.args.settings.now c.args.setup Memory

pub returns-in-Ok-work-clause-pages : goal.returns-in-Ok-work-clause-pages
returns-in-Ok-work-clause-pages g c =
    let p = c.in-Ok-work.ensures.goes in
    rw c.into_pages.ensures (told-pages _ _ [] c.args.script.now p.given p.text c.args.settings.now c.args.setup c.in-Ok.session c.requires.may c.in-Ok.ensures.fresh c.work.new.self p.told)

pub returns-in-Err-clause-pages : goal.returns-in-Err-clause-pages
returns-in-Err-clause-pages g c = cut-pages _ _ _ c.args.settings.now c.args.setup c.in-Err.halt c.in-Err.ensures.goes.told
