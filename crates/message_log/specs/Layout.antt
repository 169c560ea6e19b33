-- Where everything lies in a log: the one place that says how wide a field is.
-- A log is its capacity c and its count m, two bytes each, then c kind bytes, then c bodies of 26 bytes.
use Rattle.std.specs.Prelude.{ℕ, ◌+◌, ◌*◌, Bool, ◌&&◌, List, ◌++◌, length, take, drop, ◌==◌, nat_le, nat_lt}
pub use Rattle.protocol.specs.Bytes.{two, four, in_two, in_four}

-- the bytes with `new` in the place of those from place i on
abbrev pub put : ℕ → List ℕ → List ℕ → List ℕ
put i new bytes = take i bytes ++ (new ++ drop (length new) (drop i bytes))

-- The sizes of a log: how many entries it has room for, and how many it has.
abbrev pub capacity_of : List ℕ → ℕ
capacity_of bytes = two bytes 0

abbrev pub count_of : List ℕ → ℕ
count_of bytes = two bytes 2

-- the length of a log with room for c entries
abbrev pub log_length : ℕ → ℕ
log_length c = 4 + 27 * c

-- a legal capacity is from 1 to 2,048
abbrev pub legal_capacity : ℕ → Bool
legal_capacity c = nat_lt 0 c && nat_le c 2048

-- the bytes are a log: the length is that of a legal capacity, and the count is at most the capacity
abbrev pub well_formed : List ℕ → Bool
well_formed bytes =
    legal_capacity (capacity_of bytes)
    && (length bytes == log_length (capacity_of bytes) && nat_le (count_of bytes) (capacity_of bytes))

-- where the kind and the body of entry e lie in a log with room for c entries
abbrev pub kind_place : ℕ → ℕ
kind_place e = 4 + e

abbrev pub body_place : ℕ → ℕ → ℕ
body_place c e = 4 + c + 26 * e

-- the length of a body
abbrev pub body_length : ℕ
body_length = 26
