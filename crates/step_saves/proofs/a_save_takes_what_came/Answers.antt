use Rattle.step_saves.proofs.Taking.{takes-leaves, takes-sound}
use Rattle.step_saves.proofs.a_save_takes_what_came.Goals as goal

pub returns-clause-sound : goal.returns-clause-sound
returns-clause-sound c = λ wsize sent turn came repeats s back next new after later sound free t. takes-sound wsize sent turn came repeats s back next new after later sound free t

pub returns-clause-leaves : goal.returns-clause-leaves
returns-clause-leaves c =
    λ wsize sent turn came repeats s back next new after later some sound way awaited t. takes-leaves wsize sent turn came repeats s back next new after later some sound way awaited t
