-- The bit of a node below 16 is 2 ^ node.
use Rattle.std.proofs.Common.{◌≡◌, ◌*◌, ◌%◌, ◌^◌, ◌<◌, arith, rules}
use Rattle.std.proofs.lemmas.Nat.{one_shl}
use Rattle.quorum.specs.MembersLemmas.{member-with_node}
use Rattle.quorum.proofs.node_set.NodeSet.with.Goals as goal

pub returns-then-is_node : goal.returns-then-is_node
returns-then-is_node c =
    let low : c.args.node < 16 = grind arith in
    let e : (1 * 2 ^ c.args.node) % 65536 ≡ 2 ^ c.args.node = one_shl c.args.node 16 low in
    record { value = search rules; members = λ k. let m = member-with_node k c.args.node c.args.self in search rules }
