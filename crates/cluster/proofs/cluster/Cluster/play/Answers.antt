use Rattle.std.proofs.Common.{◌<◌, ◌≤◌, length, refl, ap, ◌∙◌, arith}
use Rattle.node.specs.Setups.{meant}
use Rattle.cluster.proofs.SoFar.{none_taken, calls_stay, one_turn_more, all_taken, step_under}
use Rattle.cluster.proofs.cluster.Cluster.play.Goals as goal

pub loop-turn-init : goal.loop-turn-init
loop-turn-init g c = (refl, refl, none_taken _ _ _)

pub loop-turn-preserved : goal.loop-turn-preserved
loop-turn-preserved g c =
    let called = c.take.ensures.called in
    let within : c.loop-turn.turn-index < length c.loop-turn.turns = omega arith in (
      called.fixed ∙ c.loop-turn.invariant.0,
      calls_stay c.loop-turn.turns c.loop-turn.turn-index _ c.take.new.turn c.take.ensures.call ∙ c.loop-turn.invariant.1,
      one_turn_more _ _ c.loop-turn.turns c.loop-turn.turn-index _ c.loop-turn.invariant.2 within _ c.take.new.turn _ c.take.ensures.call
          (step_under (ap (meant g.R.VotingRule.quorum) c.loop-turn.invariant.0) called.step),
    )

pub returns : goal.returns
returns g c =
    let beyond : length c.loop-turn.turns ≤ c.loop-turn.turn-index = omega arith in
    record {
      setup = c.loop-turn.invariant.0;
      played = all_taken _ _ _ c.loop-turn.turns c.loop-turn.turn-index _ c.loop-turn.invariant.2 beyond c.loop-turn.invariant.1;
    }
