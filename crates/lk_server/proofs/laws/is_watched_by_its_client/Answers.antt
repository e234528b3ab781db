use Rattle.lk_server.proofs.Watched.{by_its_client}
use Rattle.lk_server.proofs.laws.is_watched_by_its_client.Goals as goal

pub returns : goal.returns
returns c = by_its_client
