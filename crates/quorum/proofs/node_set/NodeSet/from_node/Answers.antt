-- A set has no bits from 16 on.
use Rattle.std.proofs.Common.{◌^◌, ◌≤◌, sym, arith, pow_mono}
use native.Mathlib.Nat.{div-eq_of_lt}
use Rattle.quorum.proofs.node_set.NodeSet.from_node.Goals as goal

pub returns-else-is_node : goal.returns-else-is_node
returns-else-is_node c =
    let high : 16 ≤ c.args.node = grind arith in
    let wide : 2 ^ 16 ≤ 2 ^ c.args.node = pow_mono high in
    sym (div-eq_of_lt (omega arith))
