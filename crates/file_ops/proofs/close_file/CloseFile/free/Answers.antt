use Rattle.std.proofs.Common.{refl, ap}
use Rattle.file_ops.proofs.close_file.CloseFile.free.Goals as goal

pub returns-in-Some-clause-step : goal.returns-in-Some-clause-step
returns-in-Some-clause-step c =
    record {
      freed = record c.args.shelf.now { opens = c.close.new.self; silly = c.last_place.new.silly };
      place = c.last_place.result;
      slot_is = ap (λ opens. record c.args.shelf.now { opens = opens; silly = c.last_place.new.silly }) c.close.ensures.after;
      tells = c.last_place.ensures;
      ends = rw c.in-Some.is (record { next_is = c.ask.ensures.next; state_is = ap (λ m. m.state) c.ask.ensures.machine; shelf_is = refl });
    }

pub returns-in-None-clause-step : goal.returns-in-None-clause-step
returns-in-None-clause-step c = record {
  freed = record c.args.shelf.now { opens = c.close.new.self; silly = c.last_place.new.silly };
  place = c.last_place.result;
  slot_is = ap (λ opens. record c.args.shelf.now { opens = opens; silly = c.last_place.new.silly }) c.close.ensures.after;
  tells = c.last_place.ensures;
  ends = rw c.in-None.is c.end.ensures.step;
}
