use Rattle.mount_calls.proofs.Laws.{flavors_go}
use Rattle.mount_calls.proofs.flavors.read_flavors.Goals as goal

pub returns : goal.returns
returns c = rw (flavors_go _ _ _ c.in_ok-count.ensures.exact c.if-count-gt-MAX.false) c.read_words.ensures
