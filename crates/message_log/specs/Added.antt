-- What clearing and adding mean for the list of a log's entries.
use Rattle.std.specs.Prelude.{◌≡◌, ℕ, true, cond, List, [], ◌∷◌, ◌++◌, is_some, Some}
use Rattle.message_log.specs.Layout.{well_formed, capacity_of}
use Rattle.protocol.specs.Positions.{position}
use Rattle.message_log.specs.Log.{Stored, entries, same_stored}

-- the bytes are a log with room for c entries, and none
pub record Empty (c : ℕ) (bytes : List ℕ) : Type 0 where
  pub log : well_formed bytes ≡ true
  pub room : capacity_of bytes ≡ c
  pub none : entries bytes ≡ []

-- a list with x at its end, unless an equal entry is in it
abbrev pub with_entry : List Stored → Stored → List Stored
with_entry xs x = cond (is_some (position (same_stored x) xs)) xs (xs ++ x ∷ [])

-- x was added to a log, or found in it, at entry e: the log has as much room as before, its entries are those before
-- with x added unless it was there, and e is the lowest entry that is equal to x
pub record Holds (before after : List ℕ) (x : Stored) (e : ℕ) : Type 0 where
  pub log : well_formed after ≡ true
  pub room : capacity_of after ≡ capacity_of before
  pub list : entries after ≡ with_entry (entries before) x
  pub lowest : position (same_stored x) (entries after) ≡ Some e
