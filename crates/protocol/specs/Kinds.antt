-- The number of each kind of message.
use Rattle.std.specs.Prelude.{ℕ, cond, Some, None, Ok, Err, Option, Result, ◌==◌}
use Rattle.protocol.specs.declared.kind.Kind.{Kind}
use Rattle.protocol.specs.declared.kind.UnknownKind.{UnknownKind}
use Rattle.protocol.specs.declared.kind.Kind.TheVariants.{Join, Publication, Response, Commit}

abbrev pub kind_number : Kind → ℕ
kind_number Join = 1
kind_number Publication = 2
kind_number Response = 3
kind_number Commit = 4

-- the kind that has this number, if one has
abbrev pub kind_of_number : ℕ → Option Kind
kind_of_number n =
    cond (n == kind_number Join) (Some Join)
    (cond (n == kind_number Publication) (Some Publication)
    (cond (n == kind_number Response) (Some Response)
    (cond (n == kind_number Commit) (Some Commit) None)))

-- the same, where a number that no kind has is an error that names it
abbrev pub kind_with_number : ℕ → Result Kind UnknownKind
kind_with_number n = elim (kind_of_number n) [ Some kind ↦ Ok kind | None ↦ Err (record { number = n }) ]
