-- The place of an element in a list.
use Rattle.std.specs.Prelude.{ℕ, suc, Bool, cond, List, [], ◌∷◌, Some, None, Option}
use Rattle.std.specs.Option.{option_map}

-- the lowest place in a list at which the test holds
unfoldable pub position : {X : Type 0} → (X → Bool) → List X → Option ℕ
position test [] = None
position test (x ∷ xs) = cond (test x) (Some 0) (option_map suc (position test xs))
