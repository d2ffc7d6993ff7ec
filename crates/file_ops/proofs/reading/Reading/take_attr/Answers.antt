use Rattle.std.proofs.Common.{refl}
use Rattle.file_ops.proofs.reading.Reading.take_attr.Goals as goal

pub returns-in-Ok : goal.returns-in-Ok
returns-in-Ok c = record {
  result = c.open_pages.result;
  later = c.open_pages.new.pages;
  opens = c.open_pages.ensures;
  goes = rw c.in-Ok.is (c.go.ensures.next, c.go.ensures.state);
}

pub returns-in-Err : goal.returns-in-Err
returns-in-Err c = record { result = c.open_pages.result; later = c.open_pages.new.pages; opens = c.open_pages.ensures; goes = rw c.in-Err.is (refl, refl) }
