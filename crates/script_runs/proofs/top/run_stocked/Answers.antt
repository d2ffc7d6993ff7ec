use Rattle.std.proofs.Common.{inr, refl}
use Rattle.script_runs.specs.Run.{no_source, cut_before}
use Rattle.script_runs.proofs.LaneRuns.{none_back}
use Rattle.script_runs.proofs.Runs.{unscripted, scripted, faulty, spells, read_for, run_says, refuse_says, none_says, refused_text}
use Rattle.script_runs.proofs.top.run_stocked.Goals as goal

pub returns-in-Ok-parse-clause-unspelled : goal.returns-in-Ok-parse-clause-unspelled
returns-in-Ok-parse-clause-unspelled g c = scripted _ _ _ _ (spells _ _ c.in-Ok-parse.ensures.read) c.as_slice.ensures.value c.in-Ok.ensures.text

pub returns-in-Ok-parse-clause-shown : goal.returns-in-Ok-parse-clause-shown
returns-in-Ok-parse-clause-shown g c =
    run_says _ _ _ _ _ _ _ _ _ _ _ (read_for _ _ _ _ c.in-Ok-parse.ensures.read c.as_slice.ensures.value c.in-Ok.ensures.text) c.run_lanes.ensures.shown

pub run_lanes-requires-clause-few : goal.run_lanes-requires-clause-few
run_lanes-requires-clause-few g c = c.in-Ok-parse.ensures.few

pub returns-in-Err-Script-clause-script : goal.returns-in-Err-Script-clause-script
returns-in-Err-Script-clause-script g c =
    let e = rw c.in-Err-Script.field-0-is at c.in-Err-Script.ensures.read in
    unscripted _ _ _ _ (faulty _ _ e) c.as_slice.ensures.value c.in-Ok.ensures.text

pub returns-in-Err-Script-clause-shown : goal.returns-in-Err-Script-clause-shown
returns-in-Err-Script-clause-shown g c =
    let e = rw c.in-Err-Script.field-0-is at c.in-Err-Script.ensures.read in
    refuse_says _ _ _ _ _ _ _ _ _ (read_for _ _ _ _ e c.as_slice.ensures.value c.in-Ok.ensures.text) c.refuse.ensures.said

pub returns-in-Err-Script-clause-refused : goal.returns-in-Err-Script-clause-refused
returns-in-Err-Script-clause-refused g c =
    let e = rw c.in-Err-Script.field-0-is at c.in-Err-Script.ensures.read in
    refused_text _ _ _ _ _ (read_for _ _ _ _ e c.as_slice.ensures.value c.in-Ok.ensures.text) c.refuse.ensures.said

pub returns-in-Err-Failed-clause-shown : goal.returns-in-Err-Failed-clause-shown
returns-in-Err-Failed-clause-shown g c = none_says _ _ _ _ _ _ _ (no_source refl refl)

pub returns-in-Err-Memory-clause-shown : goal.returns-in-Err-Memory-clause-shown
returns-in-Err-Memory-clause-shown g c = none_says _ _ _ _ _ _ _ (cut_before (inr refl) refl)

pub returns-in-Ok-parse-clause-pages : goal.returns-in-Ok-parse-clause-pages
returns-in-Ok-parse-clause-pages g c = c.run_lanes.ensures.pages

pub returns-in-Err-Script-clause-pages : goal.returns-in-Err-Script-clause-pages
returns-in-Err-Script-clause-pages g c = none_back _ c.args.stock c.args.settings.now

pub returns-in-Err-Failed-clause-pages : goal.returns-in-Err-Failed-clause-pages
returns-in-Err-Failed-clause-pages g c = none_back _ c.args.stock c.args.settings.now

pub returns-in-Err-Memory-clause-pages : goal.returns-in-Err-Memory-clause-pages
returns-in-Err-Memory-clause-pages g c = none_back _ c.args.stock c.args.settings.now
