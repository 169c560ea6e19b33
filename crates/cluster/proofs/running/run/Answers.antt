use Rattle.std.proofs.Common.{◌≡◌, Ok, Err, ◌∙◌}
use Rattle.message_log.specs.declared.fault.Fault.TheVariants.{IllFormedLog}
use Rattle.cluster.proofs.WholeRuns.{cleared_if_done, ran_by_playing}
use Rattle.protocol.proofs.Log.{impossible}
use Rattle.cluster.proofs.running.run.Goals as goal

pub returns : goal.returns
returns g c =
    let done : Ok c.in_default.field-0 ≡ _ = c.in_default.ensures.answer in
    record {
      refused = λ h.
          let q : Ok c.in_default.field-0 ≡ Err IllFormedLog = done ∙ h in
          impossible cc;
      ran = λ h.
          ran_by_playing g.R.VotingRule.quorum g.B.Bank.meaning g.met.R.VotingRule.shared g.met.R.VotingRule.grows g.met.R.VotingRule.void
          c.args.bank c.args.setup c.args.turns.now c.args.capacity
          c.open-cluster.result c.play.new.self c.args.log.now c.clear.new.bytes c.play.new.log c.play.new.turns
          (cleared_if_done c.args.log.now c.args.capacity h)
          c.clear.ensures.bytes c.open-cluster.ensures.setup c.open-cluster.ensures.opened c.play.ensures.setup c.play.ensures.played;
    }
