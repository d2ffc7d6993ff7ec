use Rattle.law_stable.proofs.Zeros as zeros
use Rattle.law_stable.proofs.cut_stays.Goals as goal

pub returns : goal.returns
returns c = zeros.cut_stays
