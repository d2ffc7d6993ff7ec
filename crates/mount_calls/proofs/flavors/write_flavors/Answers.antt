use Rattle.mount_calls.proofs.Laws.{flavors_written}
use Rattle.mount_calls.proofs.flavors.write_flavors.Goals as goal

pub returns-clause-spelled : goal.returns-clause-spelled
returns-clause-spelled c = flavors_written c.args.flavors.now c.requires (rw c.list-list.ensures at c.in_ok-write_words.ensures.spelled)
