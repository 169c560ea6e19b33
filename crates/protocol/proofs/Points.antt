-- A point is a term and a version. Points are in the order of their terms, and in one term in the order of their versions.
use Rattle.std.proofs.Common.{◌≡◌, ℕ, ◌<◌, ◌≤◌, ◌⊎◌, inl, inr, ⊎_elim, arith}
use Rattle.std.proofs.lemmas.Bool.{cases_order, cases_lt}

-- the point (a, b) is not after the point (c, d)
pub record Upto (a b c d : ℕ) : Type 0 where
  pub terms : a ≤ c
  pub versions : a ≡ c → b ≤ d

-- the point (a, b) is before the point (c, d)
pub record Before (a b c d : ℕ) : Type 0 where
  pub terms : a ≤ c
  pub versions : a ≡ c → b < d

-- a point is not after itself
pub upto_itself : (a b : ℕ) → Upto a b a b
upto_itself a b = record { terms = omega arith; versions = λ e. omega arith }

-- not after, and not after again
pub upto_trans : {a b c d e f : ℕ} → Upto a b c d → Upto c d e f → Upto a b e f
upto_trans {a} {b} {c} {d} {e} {f} h k =
    record { terms = omega arith; versions = λ q. omega (arith, h.versions (omega arith), k.versions (omega arith)) }

-- what is before is not after
pub before_is_upto : {a b c d : ℕ} → Before a b c d → Upto a b c d
before_is_upto h = record { terms = h.terms; versions = λ e. omega (arith, h.versions e) }

-- not after, and then before
pub upto_then_before : {a b c d e f : ℕ} → Upto a b c d → Before c d e f → Before a b e f
upto_then_before {a} {b} {c} {d} {e} {f} h k =
    record { terms = omega arith; versions = λ q. omega (arith, h.versions (omega arith), k.versions (omega arith)) }

-- no point is both not after and after another
pub upto_and_before : {a b c d : ℕ} → Upto a b c d → Before c d a b → ⊥
upto_and_before {a} {b} {c} {d} h k = omega (arith, h.versions (omega arith), k.versions (omega arith))

-- two points that are not after one another are one point
pub upto_both_ways : {a b c d : ℕ} → Upto a b c d → Upto c d a b → (a ≡ c) × (b ≡ d)
upto_both_ways {a} {b} {c} {d} h k =
    let e : a ≡ c = omega arith in (e, omega (arith, h.versions e, k.versions (omega arith)))

-- of two points one is not after the other
pub cases_points : (a b c d : ℕ) → Upto a b c d ⊎ Before c d a b
cases_points a b c d = go (cases_order a c)
  where
    go : (a ≡ c) ⊎ ((a < c) ⊎ (c < a)) → Upto a b c d ⊎ Before c d a b
    go (inl e) =
        ⊎_elim (λ lt. inr (record { terms = omega arith; versions = λ q. lt }))
        (λ le. inl (record { terms = omega arith; versions = λ q. le })) (cases_lt d b)
    go (inr (inl lt)) = inl (record { terms = omega arith; versions = λ q. omega arith })
    go (inr (inr gt)) = inr (record { terms = omega arith; versions = λ q. omega arith })

-- a point that is not after another is that one or before it
pub cases_upto : {a b c d : ℕ} → Upto a b c d → ((a ≡ c) × (b ≡ d)) ⊎ Before a b c d
cases_upto {a} {b} {c} {d} h = go (cases_points c d a b)
  where
    go : Upto c d a b ⊎ Before a b c d → ((a ≡ c) × (b ≡ d)) ⊎ Before a b c d
    go (inl k) = inl (upto_both_ways h k)
    go (inr k) = inr k

-- a point before another is before it by any name
pub before_here : {a b c d e f : ℕ} → e ≡ c → f ≡ d → Before a b c d → Before a b e f
before_here p q h = rw (p, q) h
