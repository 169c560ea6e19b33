-- Bytes that are overwritten one by one, and parts of the bytes.
use Rattle.std.proofs.Common.{◌≡◌, ℕ, ◌+◌, ◌-◌, ◌<◌, ◌≤◌, ◌⊎◌, List, [], ◌++◌, length, get_or, take, drop, set, Some, None, Option, sym, refl, ap, ◌∙◌, inl, inr, arith}
use Rattle.std.proofs.lemmas.List.{append-nil, take_all, drop_all, length-set, length-take, length-drop, length-append, get_or_append_left, get_or-take, drop-take}
use Rattle.std.proofs.lemmas.Slice.{take-put_mid_below, drop-put_mid, between-put_mid}
use Rattle.store.specs.Overwriting.{part, overwritten, overwritten_at}
use Rattle.store.specs.declared.power.Power.{Power}

-- the budget reaches all
pub all_new : (new old : List ℕ) (n b z : ℕ) → length new ≤ n → length new ≤ b → length old ≡ length new → take n new ++ drop n old ≡ take b new ++ drop b (set old b z)
all_new new old n b z h k long =
    let x : take n new ≡ new = take_all n new h in
    let y : drop n old ≡ [] = drop_all n old (omega arith) in
    let x' : take b new ≡ new = take_all b new k in
    let y' : drop b (set old b z) ≡ [] = drop_all b (set old b z) (rw length-set (omega arith)) in
    cc

-- Overwriting keeps the length, and where the budget reaches all it gives the new bytes.
pub length-overwritten : (power : Power) (new old : List ℕ) → length old ≡ length new → length (overwritten power new old) ≡ length old
length-overwritten power new old long =
    length-append (take power.budget new) (drop power.budget (set old power.budget power.residue))
    ∙ simp (length-take, length-drop, length-set) (omega arith)

pub overwritten_all : (power : Power) (new old : List ℕ) → length old ≡ length new → length new ≤ power.budget → overwritten power new old ≡ new
overwritten_all power new old long h =
    sym (all_new new old (length new) power.budget power.residue (omega arith) h long)
    ∙ ap (λ (xs : List ℕ). xs ++ drop (length new) old) (take_all (length new) new (omega arith))
    ∙ ap (λ (xs : List ℕ). new ++ xs) (drop_all (length new) old (omega arith))
    ∙ append-nil new

-- What overwriting a part leaves: the length, the bytes before it, and any part that lies apart from it.
module _ (place : ℕ) (new bytes : List ℕ) (fits : place + length new ≤ length bytes) where
  long_part : length (part place (length new) bytes) ≡ length new
  long_part = simp (length-take, length-drop) (omega arith)

  long_new : (power : Power) → length (overwritten power new (part place (length new) bytes)) ≡ length new
  long_new power = length-overwritten power new (part place (length new) bytes) long_part ∙ long_part

  pub length-overwritten_at : (power : Option Power) → length (overwritten_at power place new bytes) ≡ length bytes
  length-overwritten_at None = refl
  length-overwritten_at (Some power) = simp (length-append, length-take, length-drop, length-set) (omega arith)

  pub before_overwritten_at : (power : Option Power) (i : ℕ) → i < place → get_or (overwritten_at power place new bytes) i 0 ≡ get_or bytes i 0
  before_overwritten_at None i h = refl
  before_overwritten_at (Some power) i h =
      get_or_append_left (take place bytes) _ 0 i (simp length-take (omega arith)) ∙ get_or-take place bytes i 0 h

  pub apart : (power : Option Power) (q size : ℕ) → (q + size ≤ place) ⊎ (place + length new ≤ q) → part q size (overwritten_at power place new bytes) ≡ part q size bytes
  apart None q size h = refl
  apart (Some power) q size (inl h) =
      sym (drop-take q size (overwritten_at (Some power) place new bytes))
      ∙ ap (drop q) (take-put_mid_below place (length new) bytes (overwritten power new (part place (length new) bytes)) (q + size) h (omega arith))
      ∙ drop-take q size bytes
  apart (Some power) q size (inr h) =
      ap (take size) (drop-put_mid place (length new) bytes (overwritten power new (part place (length new) bytes)) q h (omega arith) (long_new power))

  pub part-overwritten_at : (power : Power) → length new ≤ power.budget → part place (length new) (overwritten_at (Some power) place new bytes) ≡ new
  part-overwritten_at power h =
      let y : List ℕ = overwritten power new (part place (length new) bytes) in
      let size : place + length new - place ≡ length new = omega arith in
      ap (λ (n : ℕ). take n (drop place (overwritten_at (Some power) place new bytes))) (sym size)
      ∙ between-put_mid place (length new) bytes y (place + length new) (omega arith) (long_new power ∙ sym size)
      ∙ overwritten_all power new (part place (length new) bytes) long_part h
