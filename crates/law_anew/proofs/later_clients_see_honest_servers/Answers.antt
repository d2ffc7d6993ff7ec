use Rattle.law_anew.proofs.SeenLaw.{later-clients-see}
use Rattle.law_anew.proofs.later_clients_see_honest_servers.Goals as goal

pub returns : goal.returns
returns c = later-clients-see
