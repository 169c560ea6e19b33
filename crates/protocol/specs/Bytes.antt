-- Numbers in bytes, high byte first.
use Rattle.std.specs.Prelude.{ℕ, ◌+◌, ◌*◌, ◌/◌, ◌%◌, List, [], ◌∷◌, slice_index}

-- the number in two and in four bytes from place i on
abbrev pub two : List ℕ → ℕ → ℕ
two bytes i = slice_index bytes i * 256 + slice_index bytes (i + 1)

abbrev pub four : List ℕ → ℕ → ℕ
four bytes i =
    slice_index bytes i * 16777216 + slice_index bytes (i + 1) * 65536 + slice_index bytes (i + 2) * 256 + slice_index bytes (i + 3)

-- the bytes of a number
abbrev pub in_two : ℕ → List ℕ
in_two n = (n / 256 % 256) ∷ (n % 256) ∷ []

abbrev pub in_four : ℕ → List ℕ
in_four n = (n / 16777216 % 256) ∷ (n / 65536 % 256) ∷ (n / 256 % 256) ∷ (n % 256) ∷ []
