-- A worked run: three nodes elect a leader, agree on a value, and refuse what would go too far.
use Rattle.std.specs.Prelude.{◌≡◌, ℕ, true, eqb, List, [], ◌∷◌, map, Some, None, Ok, Err, Option, Result}
use Rattle.quorum.specs.declared.node_set.NodeSet.{NodeSet}
use Rattle.quorum.specs.Rules.{majority}
use Rattle.protocol.specs.declared.refusal.Refusal.{Refusal}
use Rattle.protocol.specs.declared.refusal.Refusal.TheVariants.{AlreadyAccepted, NoJoinQuorum}
use Rattle.protocol.specs.Decisions.{Setup}
use Rattle.protocol.specs.Calls.{World, Fate, Call, bootstrap, start_join, publish, deliver, fresh_node, called}

-- the sets {0, 1, 2} and {2}
abbrev pub three : NodeSet
three = record { bits = 7 }

abbrev pub third : NodeSet
third = record { bits = 4 }

-- majority, the initial configuration {0, 1, 2} and the initial value 100
abbrev pub the_setup : Setup ℕ
the_setup = record { quorum = majority; same_value = eqb; initial_configuration = three; initial_value = 100 }

-- three nodes with accepted versions 5, 5 and 6, and room for 64 entries
abbrev pub opening : World ℕ
opening = record { nodes = map (fresh_node the_setup) (5 ∷ 5 ∷ 6 ∷ []); capacity = 64; entries = [] }

-- every write finishes
abbrev pub finishes : Fate
finishes = record { finished = true; keeps_new = true }

-- calls one after the other: what each answers, and the world after them all
abbrev pub answers : World ℕ → List (Call ℕ) → List (Result (Option ℕ) Refusal)
answers world [] = []
answers world (call ∷ calls) = (called the_setup world call finishes).answer ∷ answers (called the_setup world call finishes).world calls

abbrev pub after : World ℕ → List (Call ℕ) → World ℕ
after world [] = world
after world (call ∷ calls) = after (called the_setup world call finishes).world calls

-- the thirteen calls
abbrev pub the_calls : List (Call ℕ)
the_calls =
    bootstrap 0 ∷ bootstrap 1 ∷ start_join 0 0 1 ∷ start_join 1 0 1 ∷ deliver 0 0 ∷ deliver 1 0 ∷ publish 0 1 6 118 three
    ∷ deliver 2 0 ∷ deliver 2 1 ∷ deliver 3 0 ∷ deliver 4 0 ∷ deliver 4 0 ∷ deliver 2 1 ∷ []

pub record WorkedRun : Type 0 where
  -- two nodes are bootstrapped and join node 0, which publishes; both accept, and the second response decides; heard again,
  -- it finds the same commit; a publication that was accepted is refused
  pub answered : answers opening the_calls
      ≡ Ok None ∷ Ok None ∷ Ok (Some 0) ∷ Ok (Some 1) ∷ Ok None ∷ Ok None ∷ Ok (Some 2) ∷ Ok (Some 3) ∷ Ok (Some 4) ∷ Ok None
      ∷ Ok (Some 5) ∷ Ok (Some 5) ∷ Err AlreadyAccepted ∷ []
  -- node 2 has not joined, so the configuration cannot become {2}
  pub refused : answers (after opening the_calls) (publish 0 1 7 119 third ∷ []) ≡ Err NoJoinQuorum ∷ []
