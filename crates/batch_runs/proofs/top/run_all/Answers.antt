use Rattle.std.proofs.Common.{Ok, Err, Some, None}
use Rattle.batch_runs.specs.Reading.{left_in}
use Rattle.batch_runs.proofs.Causing.{all-caused, rose-before}
use Rattle.batch_runs.proofs.Tops.{begun-finds, never-five, none-says, some-says, stop-says, worst-ends}
use Rattle.batch_runs.proofs.top.run_all.Goals as goal

pub returns-in-Ok-Some-clause-shown : goal.returns-in-Ok-Some-clause-shown
returns-in-Ok-Some-clause-shown g c =
    let r = rw c.in-Ok-Some.field-0-is at c.in-Ok-Some.ensures in
    let finds = begun-finds c.args.settings.now.count c.none-answered.result c.first_script.new.answered c.new-batches.result (g.K.Sink.written c.args.out.now) (g.K.Sink.written c.first_script.new.out)
    (g.S.Source.left c.args.source.now) (left_in (g.S.Source.left c.first_script.new.source) c.first_script.new.batches) (Ok (Some c.in-Ok-Some.script)) c.none-answered.ensures c.new-batches.ensures r.finds in
    some-says _ _ _ _ _ _ _ c.args.settings.now (g.S.Source.left c.args.source.now) (left_in (g.S.Source.left c.first_script.new.source) c.first_script.new.batches) c.first_script.new.answered
    c.in-Ok-Some.script c.open.result finds c.open.ensures.shown

pub returns-in-Ok-Some-clause-cause : goal.returns-in-Ok-Some-clause-cause
returns-in-Ok-Some-clause-cause g c =
    let r = rw c.in-Ok-Some.field-0-is at c.in-Ok-Some.ensures in
    all-caused _ c.open.result _ _ _ _ (λ x. rose-before _ _ _ r.read x) (λ x. rose-before _ _ _ r.written x) c.open.ensures.cause

pub returns-in-Ok-Some-clause-sink : goal.returns-in-Ok-Some-clause-sink
returns-in-Ok-Some-clause-sink g c =
    let r = rw c.in-Ok-Some.field-0-is at c.in-Ok-Some.ensures in
    λ five. rose-before _ _ _ r.written (c.open.ensures.sink five)

pub returns-in-Ok-None-clause-shown : goal.returns-in-Ok-None-clause-shown
returns-in-Ok-None-clause-shown g c =
    let r = rw c.in-Ok-None.field-0-is at c.in-Ok-None.ensures in
    let finds = begun-finds c.args.settings.now.count c.none-answered.result c.first_script.new.answered c.new-batches.result (g.K.Sink.written c.args.out.now) (g.K.Sink.written c.first_script.new.out)
    (g.S.Source.left c.args.source.now) (left_in (g.S.Source.left c.first_script.new.source) c.first_script.new.batches) (Ok None) c.none-answered.ensures c.new-batches.ensures r.finds in
    none-says _ _ _ _ c.args.settings.now (g.S.Source.left c.args.source.now) (left_in (g.S.Source.left c.first_script.new.source) c.first_script.new.batches) c.first_script.new.answered finds

pub returns-in-Ok-None-clause-statuses : goal.returns-in-Ok-None-clause-statuses
returns-in-Ok-None-clause-statuses g c = worst-ends _ c.in-Ok-None.ensures.worst

pub returns-in-Ok-None-clause-sink : goal.returns-in-Ok-None-clause-sink
returns-in-Ok-None-clause-sink g c = λ five. absurd (never-five _ c.in-Ok-None.ensures.worst cc)

pub returns-clause-shown : goal.returns-clause-shown
returns-clause-shown g c =
    let finds = begun-finds c.args.settings.now.count c.none-answered.result c.first_script.new.answered c.new-batches.result (g.K.Sink.written c.args.out.now) (g.K.Sink.written c.first_script.new.out)
    (g.S.Source.left c.args.source.now) (left_in (g.S.Source.left c.first_script.new.source) c.first_script.new.batches) (Err c.in-Err.stop) c.none-answered.ensures c.new-batches.ensures c.in-Err.ensures.finds in
    stop-says _ _ _ _ c.args.settings.now (g.S.Source.left c.args.source.now) (left_in (g.S.Source.left c.first_script.new.source) c.first_script.new.batches) c.first_script.new.answered c.in-Err.stop finds

pub returns-clause-sink : goal.returns-clause-sink
returns-clause-sink g c = λ five. absurd cc
