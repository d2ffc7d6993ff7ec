use Rattle.core_facts.proofs.Sound.{reached-sound}
use Rattle.core_facts.proofs.waiting_calls_are_sound.Goals as goal

pub returns : goal.returns
returns c machine_of setup h v r = (reached-sound machine_of setup h v r).calls
