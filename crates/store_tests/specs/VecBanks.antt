-- Someone else's bank: its stores stand in a `Vec`.
use Rattle.std.specs.Prelude.{List, [], ◌∷◌, map}
use Rattle.std.specs.List.{AllByRecursion}
use Rattle.store.specs.Stores.{Meaning, Lawful}

-- stores that are each lawful make a lawful bank
pub each_lawful : {S : Type 0} (meaning : S → Meaning) → ((s : S) → Lawful (meaning s)) → (stores : List S) → AllByRecursion Lawful (map meaning stores)
each_lawful meaning lawful [] = tt
each_lawful meaning lawful (s ∷ stores) = (lawful s, each_lawful meaning lawful stores)
