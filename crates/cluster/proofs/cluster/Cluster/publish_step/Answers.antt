use Rattle.std.proofs.Common.{Err, refl, ap, ◌∙◌}
use Rattle.std.proofs.lemmas.Result.{err_from_is_err_and}
use Rattle.node.specs.Setups.{meant}
use Rattle.cluster.proofs.AnyLog.{relog}
use Rattle.cluster.proofs.Calling.{publish_refused, publish_carried}
use Rattle.cluster.proofs.cluster.Cluster.publish_step.Goals as goal

pub returns : goal.returns
returns g c = record {
  fixed = refl;
  step = publish_carried _ _ _ _ _ _ _ _ _ _ _ _
      (ap (relog c.args.log.now) c.find.ensures.same) (ap (meant g.R.VotingRule.quorum) c.member-member.ensures.setup)
      c.member-member.ensures.state c.member-member.ensures.number c.in_ok-state.ensures.value
      _ c.in_ok-effect.ensures _ _ c.carry_out.ensures;
}

pub returns-in_err-effect : goal.returns-in_err-effect
returns-in_err-effect g c =
    let p = err_from_is_err_and c.from_residual-in_err-effect.result c.from_residual-in_err-effect.ensures.1 in
    record {
      fixed = refl;
      step = publish_refused _ _ _ _ _ _ _ _ _ _ _ _
          (ap (relog c.args.log.now) c.find.ensures.same) (ap (meant g.R.VotingRule.quorum) c.member-member.ensures.setup)
          c.member-member.ensures.state c.member-member.ensures.number c.in_ok-state.ensures.value
          _ c.in_err-effect.ensures _ (p.1 ∙ ap Err p.2);
    }
