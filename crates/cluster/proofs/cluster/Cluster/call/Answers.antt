use Rattle.std.proofs.Common.{rules}
use Rattle.cluster.proofs.cluster.Cluster.call.Goals as goal

pub returns-in-Bootstrap : goal.returns-in-Bootstrap
returns-in-Bootstrap g c = let h = c.bootstrap.ensures c.args.log.now in search rules

pub returns-in-Restart : goal.returns-in-Restart
returns-in-Restart g c = let h = c.restart.ensures c.args.log.now in search rules
